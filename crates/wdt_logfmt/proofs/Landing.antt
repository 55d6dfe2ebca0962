-- Entries behind others, the file that an entry touches, and room for blocks that are still to land.
use Rattle.std.proofs.Common.{◌≡◌, ◌⊎◌, inl, inr, ℕ, ◌+◌, ◌<◌, ◌≤◌, ◌^◌, Bool, true, false, ◌&&◌, nat_lt, nat_le, List, [], ◌∷◌, ◌++◌, length, map, sum_by, Option, Some, None, refl, sym, ap, ◌∙◌, subst, arith}
use Rattle.std.specs.Prelude.{option_and_then, if◌then◌else◌, ◌==◌}
use Rattle.std.specs.List.{list_all, list_any}
use Rattle.std.proofs.lemmas.Bool.{and_from, and_parts, cases_eq, cases_lt, eq-eqb, ne_eqb, or_cases, ltb-true, leb-true, lt-ltb, le-leb}
use Rattle.std.proofs.lemmas.List.Sums.{sum_by-cons}
use Rattle.wdt_units.specs.Have.{PlainSpan, is_in}
use Rattle.wdt_ranges.specs.Spans.{are_apart_from, end_of, has, is_span}
use Rattle.wdt_ranges.proofs.ForCallers.{apart_parts, apart_cons, has_before, in_parts, span_from}
use Rattle.wdt_logfmt.specs.declared.entry.LogEntry.{LogEntry}
use Rattle.wdt_logfmt.specs.declared.entry.LogEntry.TheVariants.{File, Covered}
use Rattle.wdt_logfmt.specs.Adding.{added, all_added, can_cover, can_name, covering, have_with, is_room_in, joined, just_named, put_by_number, span_at, with_span}
use Rattle.wdt_logfmt.specs.Landing.{HasRoomFor, IsAmong, entry_number}
use Rattle.wdt_logfmt.specs.View.{NamedFile, bytes_in, is_numbered_above, is_rising, is_within_limits, spans_in}
use Rattle.wdt_logfmt.proofs.Spans.{length-with_span, total-with_span}
use Rattle.wdt_logfmt.proofs.Views.{taken_true}

-- ---- a batch behind another

pub all_added-append : (v : ℕ) (fs : List NamedFile) (es ds : List LogEntry) → all_added v fs (es ++ ds) ≡ option_and_then (λ gs. all_added v gs ds) (all_added v fs es)
all_added-append v fs [] ds = refl
all_added-append v fs (e ∷ es) ds = go (added v fs e) (λ gs. all_added-append v gs es ds)
  where
    go : (o : Option (List NamedFile)) → ((gs : List NamedFile) → all_added v gs (es ++ ds) ≡ option_and_then (λ hs. all_added v hs ds) (all_added v gs es))
        → option_and_then (λ gs. all_added v gs (es ++ ds)) o ≡ option_and_then (λ hs. all_added v hs ds) (option_and_then (λ gs. all_added v gs es) o)
    go None each = refl
    go (Some gs) each = each gs

-- ---- which file an entry touches

put_splits : (x g : NamedFile) (fs : List NamedFile) → IsAmong g (put_by_number x fs) → (x ≡ g) ⊎ IsAmong g fs
put_splits x g [] (inl is) = inl is
put_splits x g [] (inr none) = absurd none
put_splits x g (f ∷ fs) among = go (put_splits x g fs) (nat_lt x.number f.number) among
  where
    go : (IsAmong g (put_by_number x fs) → (x ≡ g) ⊎ IsAmong g fs) → (b : Bool) → IsAmong g (if b then x ∷ f ∷ fs else f ∷ put_by_number x fs) → (x ≡ g) ⊎ IsAmong g (f ∷ fs)
    go later true (inl is) = inl is
    go later true (inr more) = inr more
    go later false (inl is) = inr (inl is)
    go later false (inr more) = elim (later more) [ inl is ↦ inl is | inr a ↦ inr (inr a) ]

put_keeps : (x g : NamedFile) (fs : List NamedFile) → IsAmong g fs → IsAmong g (put_by_number x fs)
put_keeps x g [] none = absurd none
put_keeps x g (f ∷ fs) among = go (put_keeps x g fs) (nat_lt x.number f.number) among
  where
    go : (IsAmong g fs → IsAmong g (put_by_number x fs)) → (b : Bool) → IsAmong g (f ∷ fs) → IsAmong g (if b then x ∷ f ∷ fs else f ∷ put_by_number x fs)
    go later true here = inr here
    go later false (inl is) = inl is
    go later false (inr more) = inr (later more)

map_splits : (h : NamedFile → NamedFile) (g : NamedFile) (fs : List NamedFile) → IsAmong g (map h fs) → (f : NamedFile) × IsAmong f fs × (h f ≡ g)
map_splits h g [] among = absurd among
map_splits h g (f ∷ fs) (inl is) = (f, inl refl, is)
map_splits h g (f ∷ fs) (inr more) = (let r = map_splits h g fs more in (r.0, inr r.1, r.2))

map_keeps : (h : NamedFile → NamedFile) (g : NamedFile) (fs : List NamedFile) → h g ≡ g → IsAmong g fs → IsAmong g (map h fs)
map_keeps h g [] same none = absurd none
map_keeps h g (f ∷ fs) same (inl is) = inl (ap h is ∙ same)
map_keeps h g (f ∷ fs) same (inr more) = inr (map_keeps h g fs same more)

covering_other : (n : ℕ) (s : PlainSpan) (f : NamedFile) → (f.number ≡ n → ⊥) → covering n s f ≡ f
covering_other n s f other = ap (λ (b : Bool). if b then record { number = f.number; have = have_with s f.have } else f) (ne_eqb f.number n other)

covering_number : (n : ℕ) (s : PlainSpan) (f : NamedFile) → ((covering n s f).number ≡ n) ⊎ (covering n s f ≡ f)
covering_number n s f = elim (cases_eq f.number n) [
  | inl same ↦ inl (subst (λ (b : Bool). (if b then record { number = f.number; have = have_with s f.have } else f).number ≡ n) (sym (eq-eqb f.number n same)) same)
  | inr other ↦ inr (covering_other n s f other)
]

pub entry_touches : (v : ℕ) (fs gs : List NamedFile) (e : LogEntry) (g : NamedFile) → added v fs e ≡ Some gs → IsAmong g gs → (g.number ≡ entry_number e) ⊎ IsAmong g fs
entry_touches v fs gs (File n path size stamp) g adds among =
    let t = taken_true (can_name fs n path size) (put_by_number (just_named n path size stamp) fs) gs adds in
    elim (put_splits (just_named n path size stamp) g fs (subst (IsAmong g) (sym t.1) among)) [
      | inl is ↦ inl (ap (λ (f : NamedFile). f.number) (sym is))
      | inr was ↦ inr was
    ]
entry_touches v fs gs (Covered n offset count) g adds among =
    let s = span_at offset count in
    let t = taken_true (can_cover fs n s) (map (covering n s) fs) gs adds in
    let f = map_splits (covering n s) g fs (subst (IsAmong g) (sym t.1) among) in
    elim (covering_number n s f.0) [
      | inl same ↦ inl (ap (λ (x : NamedFile). x.number) (sym f.2) ∙ same)
      | inr same ↦ inr (subst (λ (x : NamedFile). IsAmong x fs) (sym same ∙ f.2) f.1)
    ]

pub entry_leaves : (v : ℕ) (fs gs : List NamedFile) (e : LogEntry) (f : NamedFile) → added v fs e ≡ Some gs → (f.number ≡ entry_number e → ⊥) → IsAmong f fs → IsAmong f gs
entry_leaves v fs gs (File n path size stamp) f adds other among =
    let t = taken_true (can_name fs n path size) (put_by_number (just_named n path size stamp) fs) gs adds in
    subst (IsAmong f) t.1 (put_keeps (just_named n path size stamp) f fs among)
entry_leaves v fs gs (Covered n offset count) f adds other among =
    let s = span_at offset count in
    let t = taken_true (can_cover fs n s) (map (covering n s) fs) gs adds in
    subst (IsAmong f) t.1 (map_keeps (covering n s) f fs (covering_other n s f other) among)

-- ---- sums over the files

-- files above a number stay
above_same : (n : ℕ) (s : PlainSpan) (f : NamedFile) (fs : List NamedFile) → n ≤ f.number → list_all (is_numbered_above f) fs ≡ true → map (covering n s) fs ≡ fs
above_same n s f [] low all = refl
above_same n s f (g ∷ fs) low all =
    let a = and_parts (nat_lt f.number g.number) (list_all (is_numbered_above f) fs) all in
    let lt = ltb-true f.number g.number a.0 in
    let here : covering n s g ≡ g = covering_other n s g (λ same. omega (arith, same, lt, low)) in
    λ i. here i ∷ above_same n s f fs low a.1 i

-- a sum over the files grows by what it grows by at the file of the number
pub sum_covered : (count : NamedFile → ℕ) (n c : ℕ) (s : PlainSpan) (fs : List NamedFile) → is_rising fs ≡ true → ((f : NamedFile) → IsAmong f fs → f.number ≡ n → count (covering n s f) ≤ count f + c) → sum_by count (map (covering n s) fs) ≤ sum_by count fs + c
sum_covered count n c s [] up each = omega arith
sum_covered count n c s (f ∷ fs) up each =
    let u = and_parts (list_all (is_numbered_above f) fs) (is_rising fs) up in
    elim (cases_eq f.number n) [
      | inl same ↦ omega (arith, sum_by-cons count (covering n s f) (map (covering n s) fs), sum_by-cons count f fs, each f (inl refl) same, ap (sum_by count) (above_same n s f fs (omega (arith, same)) u.0))
      | inr other ↦ omega (arith, sum_by-cons count (covering n s f) (map (covering n s) fs), sum_by-cons count f fs, ap count (covering_other n s f other), sum_covered count n c s fs u.1 (λ g among. each g (inr among)))
    ]

covering_here : (n : ℕ) (s : PlainSpan) (f : NamedFile) → f.number ≡ n → covering n s f ≡ record { number = f.number; have = have_with s f.have }
covering_here n s f same = ap (λ (b : Bool). if b then record { number = f.number; have = have_with s f.have } else f) (eq-eqb f.number n same)

-- A span for which there was room can be covered, and there still is room for the others.
pub can_land : (fs : List NamedFile) (n : ℕ) (s : PlainSpan) (cost spans bytes : ℕ) → is_rising fs ≡ true → 0 < s.count → s.count ≤ 67108864 → list_any (is_room_in n s) fs ≡ true → HasRoomFor fs (cost + spans) (s.count + bytes)
    → ((f : NamedFile) → IsAmong f fs → f.number ≡ n → length (with_span s f.have.spans) ≤ length f.have.spans + cost)
    → (can_cover fs n s ≡ true) × HasRoomFor (map (covering n s) fs) spans bytes
unfolding can_cover
can_land fs n s cost spans bytes up some few room has by_spans =
    let one = sum_covered spans_in n cost s fs up (λ f among same. omega (arith, by_spans f among same, ap spans_in (covering_here n s f same))) in
    let two = sum_covered bytes_in n s.count s fs up (λ f among same. omega (arith, total-with_span s f.have.spans, ap bytes_in (covering_here n s f same))) in
    let room_now : HasRoomFor (map (covering n s) fs) spans bytes = record { spans_fit = omega (arith, one, has.spans_fit); bytes_fit = omega (arith, two, has.bytes_fit) } in
    let within : is_within_limits (map (covering n s) fs) ≡ true = and_from (nat_le (sum_by spans_in (map (covering n s) fs)) 1310720) (nat_le (sum_by bytes_in (map (covering n s) fs)) (2 ^ 50))
    (le-leb (sum_by spans_in (map (covering n s) fs)) 1310720 (omega (arith, room_now.spans_fit))) (le-leb (sum_by bytes_in (map (covering n s) fs)) (2 ^ 50) (omega (arith, room_now.bytes_fit))) in (
      and_from (nat_lt 0 s.count && nat_le s.count 67108864 && list_any (is_room_in n s) fs) (is_within_limits (map (covering n s) fs))
          (and_from (nat_lt 0 s.count && nat_le s.count 67108864) (list_any (is_room_in n s) fs) (and_from (nat_lt 0 s.count) (nat_le s.count 67108864) (lt-ltb 0 s.count some) (le-leb s.count 67108864 few)) room) within,
      room_now,
    )

-- ---- a span that begins where another ends

pub length-beside : (least : ℕ) (s : PlainSpan) (ts : List PlainSpan) (k : ℕ) → are_apart_from least ts ≡ true → k + 1 ≡ s.offset → has ts k ≡ true → length (with_span s ts) ≤ length ts
length-beside least s [] k apart before h = absurd (cc)
length-beside least s (t ∷ ts) k apart before h = go (nat_lt (end_of t) s.offset) (nat_lt (end_of s) t.offset) refl refl (λ later. length-beside (end_of t + 1) s ts k (apart_parts least t ts apart).rest before later)
  where
    own : are_apart_from t.offset (t ∷ ts) ≡ true
    own = (let parts = apart_parts least t ts apart in apart_cons t.offset t ts (omega arith) (span_from t parts.span.some parts.span.limit) parts.rest)

    go : (b c : Bool) → nat_lt (end_of t) s.offset ≡ b → nat_lt (end_of s) t.offset ≡ c → (has ts k ≡ true → length (with_span s ts) ≤ length ts)
        → length (if b then t ∷ with_span s ts else if c then s ∷ t ∷ ts else with_span (joined s t) ts) ≤ length (t ∷ ts)
    go true c one two more =
        let low = ltb-true (end_of t) s.offset one in
        elim (or_cases (is_in k t) (has ts k) h) [
          | inl here ↦ absurd (omega (arith, low, (in_parts k t here).high, before))
          | inr later ↦ omega (arith, more later)
        ]
    go false true one two more =
        let high = ltb-true (end_of s) t.offset two in
        let none : has (t ∷ ts) k ≡ false = has_before t.offset k (t ∷ ts) own (omega (arith, high, before)) in
        absurd (true_or (has (t ∷ ts) k) h none)
      where
        true_or : (b : Bool) → b ≡ true → b ≡ false → ⊥
        true_or b holds never = (cc)
    go false false one two more = omega (arith, length-with_span (joined s t) ts)
