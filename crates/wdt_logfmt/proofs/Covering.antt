-- Adding a span to a file that the code keeps.
use Rattle.std.proofs.Common.{◌≡◌, ℕ, ◌<◌, ◌≤◌, ◌^◌, Bool, true, false, ◌||◌, not, nat_le, List, Some, None, sym, ap, ◌∙◌, arith}
use Rattle.std.specs.Prelude.{if◌then◌else◌}
use Rattle.std.specs.List.{list_any}
use Rattle.std.proofs.lemmas.Bool.{and_parts, and_from, and_right, le-leb, not_from_false, not_from_true}
use Rattle.wdt_units.specs.Have.{HaveFile, PlainSpan, is_in}
use Rattle.wdt_ranges.specs.Adding.{HasNoneOf, IsFirstShared}
use Rattle.wdt_ranges.specs.Spans.{are_apart, end_of, has, is_span}
use Rattle.wdt_ranges.proofs.ForCallers.{span_from}
use Rattle.wdt_logfmt.specs.Adding.{has_room, have_with, overlap, with_span}
use Rattle.wdt_logfmt.proofs.Spans.{none_overlap, some_overlap, with_span-is}

pub covered : (s : PlainSpan) (f : HaveFile) (new : List PlainSpan) → 0 < s.count → f.size ≤ 2 ^ 40 → end_of s ≤ f.size → are_apart f.spans ≡ true → are_apart new ≡ true → HasNoneOf f.spans s
    → ((x : ℕ) → has new x ≡ (has f.spans x || is_in x s))
    → Some (record { path = f.path; size = f.size; stamp = f.stamp; spans = new }) ≡ (if has_room s f then Some (have_with s f) else None)
covered s f new some small within old apart none same =
    let span : is_span s ≡ true = span_from s some (omega arith) in
    let room : has_room s f ≡ true = and_from (nat_le (end_of s) f.size) (not (list_any (overlap s) f.spans)) (le-leb (end_of s) f.size within) (not_from_false (list_any (overlap s) f.spans) (none_overlap 0 s f.spans span old none)) in
    let is : new ≡ with_span s f.spans = with_span-is f.spans new s old apart span none same in
    ap (λ (ss : List PlainSpan). Some (record { path = f.path; size = f.size; stamp = f.stamp; spans = ss })) is
    ∙ sym (ap (λ (b : Bool). if b then Some (have_with s f) else None) room)

pub uncovered : (s : PlainSpan) (f : HaveFile) (first : ℕ) → IsFirstShared f.spans s first → None ≡ (if has_room s f then Some (have_with s f) else None)
uncovered s f first shared =
    let p = and_parts (has f.spans first) (is_in first s) shared.here in
    let room : has_room s f ≡ false = and_right (nat_le (end_of s) f.size) (not (list_any (overlap s) f.spans)) (not_from_true (list_any (overlap s) f.spans) (some_overlap s f.spans first p.1 p.0)) in
    sym (ap (λ (b : Bool). if b then Some (have_with s f) else None) room)
