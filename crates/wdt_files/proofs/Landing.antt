-- A block's positions are laid over its file.
use Rattle.std.proofs.Common.{◌≡◌, inl, inr, ℕ, zero, suc, ◌<◌, ◌≤◌, Bool, true, ◌||◌, not, nat_lt, nat_le, List, [], ◌∷◌, refl, sym, ap, ◌∙◌, arith}
use Rattle.std.specs.Prelude.{if◌then◌else◌}
use Rattle.std.specs.List.{list_any}
use Rattle.std.proofs.lemmas.Bool.{and_from, and_parts, both_ways, ne_eqb, leb-true, lt-ltb, not-true, or_cases, or_left, or_right}
use Rattle.wdt_units.specs.declared.limits.TheConstants.{MAX_FILE_SIZE}
use Rattle.wdt_units.specs.declared.blocks.Block.{Block}
use Rattle.wdt_units.specs.Have.{HaveFile, PlainSpan, is_in}
use Rattle.wdt_ranges.specs.Adding.{HasNoneOf, IsFirstShared}
use Rattle.wdt_ranges.specs.Spans.{are_apart, end_of, has, is_span}
use Rattle.wdt_ranges.proofs.ForCallers.{in_parts, span_from}
use Rattle.wdt_logfmt.specs.Adding.{have_with, overlap, span_at, with_span}
use Rattle.wdt_logfmt.proofs.ForCallers.{with_span-is}
use Rattle.wdt_files.specs.Slots.{HasRoom, have_landed}

-- ---- the set of the file's positions

-- spans with which a span shares a position overlap it
shared_overlaps : (s : PlainSpan) (ts : List PlainSpan) (k : ℕ) → is_in k s ≡ true → has ts k ≡ true → list_any (overlap s) ts ≡ true
shared_overlaps s [] k here there = absurd (cc)
shared_overlaps s (t ∷ ts) k here there = elim (or_cases (is_in k t) (has ts k) there) [
  | inl now ↦ or_left (overlap s t) (list_any (overlap s) ts)
      (and_from (nat_lt s.offset (end_of t)) (nat_lt t.offset (end_of s))
      (lt-ltb s.offset (end_of t) (omega (arith, (in_parts k s here).low, (in_parts k t now).high)))
      (lt-ltb t.offset (end_of s) (omega (arith, (in_parts k t now).low, (in_parts k s here).high))))
  | inr later ↦ or_right (overlap s t) (list_any (overlap s) ts) (shared_overlaps s ts k here later)
]

pub some_count : (n : ℕ) → (n ≡ 0 → ⊥) → 0 < n
some_count zero other = absurd (other refl)
some_count (suc n) other = omega arith

-- a file with room for a block shares no position with it
pub not_shared : (b : Block) (h : HaveFile) (first : ℕ) → (b.length ≡ 0 → ⊥) → HasRoom b h → IsFirstShared h.spans (span_at b.offset b.length) first → ⊥
not_shared b h first other room shared =
    let s = span_at b.offset b.length in
    let r = and_parts (nat_le (end_of s) h.size) (not (list_any (overlap s) h.spans)) (room (some_count b.length other)) in
    let p = and_parts (has h.spans first) (is_in first s) shared.here in
    both_ways (list_any (overlap s) h.spans) (not-true (list_any (overlap s) h.spans) r.1) (shared_overlaps s h.spans first p.1 p.0)

-- a set with the block's positions is what is there behind it
pub is_laid : (b : Block) (h : HaveFile) (new : List PlainSpan) → (b.length ≡ 0 → ⊥) → h.size ≤ MAX_FILE_SIZE → HasRoom b h → are_apart h.spans ≡ true → are_apart new ≡ true → HasNoneOf h.spans (span_at b.offset b.length)
    → ((x : ℕ) → has new x ≡ (has h.spans x || is_in x (span_at b.offset b.length))) → record { path = h.path; size = h.size; stamp = h.stamp; spans = new } ≡ have_landed b h
is_laid b h new other small room old apart none same =
    let s = span_at b.offset b.length in
    let some = some_count b.length other in
    let r = and_parts (nat_le (end_of s) h.size) (not (list_any (overlap s) h.spans)) (room some) in
    let within = leb-true (end_of s) h.size r.0 in
    let span : is_span s ≡ true = span_from s some (omega (arith, within, small)) in
    let is : new ≡ with_span s h.spans = with_span-is h.spans new s old apart span none same in
    ap (λ (ss : List PlainSpan). record { path = h.path; size = h.size; stamp = h.stamp; spans = ss }) is
    ∙ sym (ap (λ (c : Bool). if c then h else have_with s h) (ne_eqb b.length 0 other))
