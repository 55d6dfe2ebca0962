-- A span that is joined with the spans that it touches.
use Rattle.std.proofs.Common.{◌≡◌, ℕ, suc, ◌+◌, ◌-◌, ◌<◌, ◌≤◌, ◌^◌, Bool, true, false, ◌||◌, List, [], ◌∷◌, ◌++◌, length, map, set, add-one, take, drop, get_or, refl, sym, ap, ◌∙◌, arith, subst, Result, Ok, Err, OnErr}
use Rattle.std.specs.List.{slice_range}
use Rattle.std.proofs.lemmas.Bool.Decides.{nat_tests}
use Rattle.std.proofs.lemmas.List.{take-append-drop, set_split, take-append-le, take-take, drop_at, length-take-le, length-append, map-append, take-map, drop-map}
use Rattle.wdt_ranges.specs.declared.ranges.Span.{Span}
use Rattle.std.proofs.lemmas.List.Folds.{list_any-append, drop_split}
use Rattle.std.proofs.lemmas.List.Sums.{sum_by-append, sum_by-cons}
use Rattle.std.proofs.lemmas.List.Edits.{between_none, between_more}
use Rattle.wdt_units.specs.Have.{PlainSpan, is_in}
use Rattle.wdt_ranges.specs.Spans.{plain_span, end_of, is_span, are_apart, has, count_of, total_of}
use Rattle.wdt_ranges.specs.Adding.{IsAdded, IsFarFrom}
use Rattle.wdt_ranges.specs.Places.{least_behind, begins_from, IsJoined}
use Rattle.wdt_ranges.proofs.Apart.{span_parts, span_from, apart_cons}
use Rattle.wdt_ranges.proofs.Parts.{apart_cut, apart_append, apart_higher, has_neither}

-- ---- with one neighbour

pub one_range : (ss : List PlainSpan) (k to : ℕ) (d : PlainSpan) → to ≡ k + 1 → k < length ss → slice_range ss k to ≡ get_or ss k d ∷ []
one_range ss k to d e lt = ap (λ n. slice_range ss k n) e ∙ between_more ss k k d (omega arith) lt ∙ ap (λ ts. ts ++ get_or ss k d ∷ []) (between_none ss k)

joined_by : (ss : List PlainSpan) (from to : ℕ) (p s t : PlainSpan) → slice_range ss from to ≡ p ∷ [] → is_span t ≡ true → ((x : ℕ) → is_in x t ≡ ((is_in x p || false) || is_in x s)) → t.count ≡ p.count + s.count
    → IsJoined ss from to s t
joined_by ss from to p s t one span positions count = record {
  span = span;
  positions = λ x. positions x ∙ ap (λ ts. has ts x || is_in x s) (sym one);
  total = omega (arith, count, ap total_of one, sum_by-cons count_of p []);
}

pub joins_before : (ss : List PlainSpan) (at : ℕ) (s d : PlainSpan) → is_span s ≡ true → 0 < at → at ≤ length ss → end_of (get_or ss (at - 1) d) ≡ s.offset
    → IsJoined ss (at - 1) at s (record { offset = (get_or ss (at - 1) d).offset; count = (get_or ss (at - 1) d).count + s.count })
joins_before ss at s d span some le touch =
    joined_by ss (at - 1) at p s (record { offset = p.offset; count = p.count + s.count }) (one_range ss (at - 1) at d (omega arith) (omega arith))
    (span_from (record { offset = p.offset; count = p.count + s.count }) (omega (arith, (span_parts s span).some)) (omega (arith, touch, (span_parts s span).limit))) positions refl
  where
    p : PlainSpan
    p = get_or ss (at - 1) d

    positions : (x : ℕ) → is_in x (record { offset = p.offset; count = p.count + s.count }) ≡ ((is_in x p || false) || is_in x s)
    positions x = grind (arith, nat_tests, touch)

pub joins_behind : (ss : List PlainSpan) (at : ℕ) (s d : PlainSpan) → is_span s ≡ true → at < length ss → end_of s ≡ (get_or ss at d).offset → end_of (get_or ss at d) ≤ 2 ^ 40
    → IsJoined ss at (at + 1) s (record { offset = s.offset; count = s.count + (get_or ss at d).count })
joins_behind ss at s d span lt touch limit =
    joined_by ss at (at + 1) q s (record { offset = s.offset; count = s.count + q.count }) (one_range ss at (at + 1) d refl lt)
    (span_from (record { offset = s.offset; count = s.count + q.count }) (omega (arith, (span_parts s span).some)) (omega (arith, touch, limit))) positions (omega arith)
  where
    q : PlainSpan
    q = get_or ss at d

    positions : (x : ℕ) → is_in x (record { offset = s.offset; count = s.count + q.count }) ≡ ((is_in x q || false) || is_in x s)
    positions x = grind (arith, nat_tests, touch)

-- ---- the whole

or_turn : (a b c d s : Bool) → (a || ((d || (c || s)) || b)) ≡ ((a || (c || (d || b))) || s)
or_turn true b c d s = refl
or_turn false b true true s = refl
or_turn false b true false s = refl
or_turn false b false true s = refl
or_turn false true false false true = refl
or_turn false true false false false = refl
or_turn false false false false true = refl
or_turn false false false false false = refl

pub added : (ss : List PlainSpan) (from at to : ℕ) (s left t : PlainSpan) → are_apart ss ≡ true → from ≤ at → at ≤ to → least_behind 0 (take from ss) ≤ left.offset → IsJoined ss from at s left
    → t.offset ≡ left.offset → begins_from (end_of t + 1) (drop to ss) ≡ true → IsJoined ss at to left t → IsAdded ss s (take from ss ++ t ∷ drop to ss)
added ss from at to s left t h low high before one same behind two = record {
  apart = apart_append 0 (take from ss) (t ∷ drop to ss) (apart_cut 0 ss from h).before
      (apart_cons (least_behind 0 (take from ss)) t (drop to ss) (omega (arith, same, before)) two.span
      (apart_higher (least_behind 0 (take to ss)) (end_of t + 1) (drop to ss) (apart_cut 0 ss to h).behind behind));
  positions = λ x. list_any-append (is_in x) (take from ss) (t ∷ drop to ss)
      ∙ ap (λ b. has (take from ss) x || (b || has (drop to ss) x)) (two.positions x ∙ ap (λ b. has (slice_range ss at to) x || b) (one.positions x))
      ∙ or_turn (has (take from ss) x) (has (drop to ss) x) (has (slice_range ss from at) x) (has (slice_range ss at to) x) (is_in x s)
      ∙ ap (λ b. b || is_in x s) (sym (old_positions x));
  total = sum_by-append count_of (take from ss) (t ∷ drop to ss) ∙ omega (arith, sum_by-cons count_of t (drop to ss), old_total, one.total, two.total);
}
  where
    parts : ss ≡ take from ss ++ (slice_range ss from at ++ (slice_range ss at to ++ drop to ss))
    parts = sym (take-append-drop from ss) ∙ ap (λ ts. take from ss ++ ts) (drop_split ss from at low ∙ ap (λ ts. slice_range ss from at ++ ts) (drop_split ss at to high))

    old_positions : (x : ℕ) → has ss x ≡ (has (take from ss) x || (has (slice_range ss from at) x || (has (slice_range ss at to) x || has (drop to ss) x)))
    old_positions x = ap (λ ts. has ts x) parts ∙ list_any-append (is_in x) (take from ss) (slice_range ss from at ++ (slice_range ss at to ++ drop to ss))
        ∙ ap (λ b. has (take from ss) x || b) (list_any-append (is_in x) (slice_range ss from at) (slice_range ss at to ++ drop to ss)
        ∙ ap (λ b. has (slice_range ss from at) x || b) (list_any-append (is_in x) (slice_range ss at to) (drop to ss)))

    old_total : total_of ss ≡ total_of (take from ss) + (total_of (slice_range ss from at) + (total_of (slice_range ss at to) + total_of (drop to ss)))
    old_total = ap total_of parts ∙ sum_by-append count_of (take from ss) (slice_range ss from at ++ (slice_range ss at to ++ drop to ss))
        ∙ ap (λ n. total_of (take from ss) + n) (sum_by-append count_of (slice_range ss from at) (slice_range ss at to ++ drop to ss)
        ∙ ap (λ n. total_of (slice_range ss from at) + n) (sum_by-append count_of (slice_range ss at to) (drop to ss)))

-- a span that takes in no other touches none
pub far : (ss : List PlainSpan) (from at to : ℕ) (s left t : PlainSpan) → are_apart ss ≡ true → from ≤ at → at ≤ to → from ≡ to → least_behind 0 (take from ss) ≤ left.offset → end_of left ≡ end_of s → IsJoined ss from at s left
    → t.offset ≡ left.offset → begins_from (end_of t + 1) (drop to ss) ≡ true → IsJoined ss at to left t → IsFarFrom ss s
far ss from at to s left t h low high none before end one same behind two x lowest highest =
    has_neither ss to (end_of t + 1) x h (omega (arith, start, left_offset)) behind (omega (arith, left_offset, left_count, t_count, same))
  where
    nothing : (i j : ℕ) → i ≡ j → total_of (slice_range ss i j) ≡ 0
    nothing i j e = ap (λ n. total_of (slice_range ss i n)) (sym e) ∙ ap total_of (between_none ss i)

    left_count : left.count ≡ s.count
    left_count = omega (arith, one.total, nothing from at (omega arith))

    t_count : t.count ≡ left.count
    t_count = omega (arith, two.total, nothing at to (omega arith))

    left_offset : left.offset ≡ s.offset
    left_offset = omega (arith, end, left_count)

    start : least_behind 0 (take to ss) ≤ left.offset
    start = subst (λ n. least_behind 0 (take n ss) ≤ left.offset) none before

pub on_err : {T E P : Type 0} (r : Result T E) → P → OnErr r P
on_err (Ok x) p = tt
on_err (Err e) p = p

-- ---- lists of the code

pub set_one : {X : Type 0} (xs : List X) (from to : ℕ) (y : X) → from + 1 ≡ to → from < length xs → set xs from y ≡ take from xs ++ y ∷ drop to xs
set_one xs from to y e lt = set_split xs from y lt ∙ ap (λ n. take from xs ++ y ∷ drop n xs) (sym (add-one from) ∙ e)

pub set_two : {X : Type 0} (xs : List X) (from to : ℕ) (y : X) → to ≡ from + 2 → to ≤ length xs → set (take (from + 1) xs ++ drop (suc (from + 1)) xs) from y ≡ take from xs ++ y ∷ drop to xs
set_two {X} xs from to y e le =
    set_one (take (from + 1) xs ++ drop (suc (from + 1)) xs) from (from + 1) y refl (omega (arith, length-append (take (from + 1) xs) (drop (suc (from + 1)) xs), short))
    ∙ ap (λ ts. ts ++ y ∷ drop (from + 1) (take (from + 1) xs ++ drop (suc (from + 1)) xs)) (take-append-le from (take (from + 1) xs) (drop (suc (from + 1)) xs) (omega (arith, short)) ∙ take-take from (from + 1) xs (omega arith))
    ∙ ap (λ ts. take from xs ++ y ∷ ts) (drop_at (take (from + 1) xs) (drop (suc (from + 1)) xs) (from + 1) short)
    ∙ ap (λ n. take from xs ++ y ∷ drop n xs) last
  where
    short : length (take (from + 1) xs) ≡ from + 1
    short = length-take-le (from + 1) xs (omega arith)

    last : suc (from + 1) ≡ to
    last = omega arith

pub map_parts : (xs : List Span) (from to : ℕ) (y : Span) → map plain_span (take from xs ++ y ∷ drop to xs) ≡ take from (map plain_span xs) ++ plain_span y ∷ drop to (map plain_span xs)
map_parts xs from to y =
    map-append plain_span (take from xs) (y ∷ drop to xs)
    ∙ ap (λ ts. ts ++ plain_span y ∷ map plain_span (drop to xs)) (sym (take-map plain_span from xs))
    ∙ ap (λ ts. take from (map plain_span xs) ++ plain_span y ∷ ts) (sym (drop-map plain_span to xs))
