-- Spans that rise and neither overlap nor touch.
use Rattle.std.proofs.Common.{◌≡◌, map, sum_by, ℕ, zero, suc, ◌+◌, ◌-◌, ◌<◌, ◌≤◌, ◌^◌, true, false, ◌&&◌, nat_lt, nat_le, List, [], ◌∷◌, length, get_or, refl, sym, ap, ◌∙◌, arith}
use Rattle.std.proofs.lemmas.Bool.{and_parts, and_from, and_left, and_right, or_from, ltb-true, leb-true, lt-ltb, le-ltb, le-leb, lt-leb}
use Rattle.std.proofs.lemmas.List.Sums.{sum_by-cons}
use Rattle.wdt_units.specs.Have.{PlainSpan, is_in}
use Rattle.wdt_ranges.specs.declared.ranges.Span.{Span}
use Rattle.wdt_ranges.specs.Spans.{plain_span, end_of, is_span, are_apart_from, are_apart, has, count_of, total_of}

-- ---- one span

pub record IsSpanOf (s : PlainSpan) : Type 0 where
  pub some : 0 < s.count
  pub limit : end_of s ≤ 2 ^ 40

pub span_parts : (s : PlainSpan) → is_span s ≡ true → IsSpanOf s
span_parts s h =
    let parts = and_parts (nat_lt 0 s.count) (nat_le (end_of s) (2 ^ 40)) h in
    record { some = ltb-true 0 s.count parts.0; limit = leb-true (end_of s) (2 ^ 40) parts.1 }

pub span_from : (s : PlainSpan) → 0 < s.count → end_of s ≤ 2 ^ 40 → is_span s ≡ true
span_from s some limit = and_from (nat_lt 0 s.count) (nat_le (end_of s) (2 ^ 40)) (lt-ltb 0 s.count some) (le-leb (end_of s) (2 ^ 40) limit)

pub in_before : (x : ℕ) (s : PlainSpan) → x < s.offset → is_in x s ≡ false
in_before x s h = and_left (nat_le s.offset x) (nat_lt x (end_of s)) (lt-leb s.offset x h)

pub in_past : (x : ℕ) (s : PlainSpan) → end_of s ≤ x → is_in x s ≡ false
in_past x s h = and_right (nat_le s.offset x) (nat_lt x (end_of s)) (le-ltb x (end_of s) h)

pub in_here : (x : ℕ) (s : PlainSpan) → s.offset ≤ x → x < end_of s → is_in x s ≡ true
in_here x s h k = and_from (nat_le s.offset x) (nat_lt x (end_of s)) (le-leb s.offset x h) (lt-ltb x (end_of s) k)

pub record IsWithin (x : ℕ) (s : PlainSpan) : Type 0 where
  pub low : s.offset ≤ x
  pub high : x < end_of s

pub in_parts : (x : ℕ) (s : PlainSpan) → is_in x s ≡ true → IsWithin x s
in_parts x s h =
    let parts = and_parts (nat_le s.offset x) (nat_lt x (end_of s)) h in
    record { low = leb-true s.offset x parts.0; high = ltb-true x (end_of s) parts.1 }

-- ---- lists of spans

pub record AreApart (least : ℕ) (s : PlainSpan) (ss : List PlainSpan) : Type 0 where
  pub low : least ≤ s.offset
  pub span : IsSpanOf s
  pub rest : are_apart_from (end_of s + 1) ss ≡ true

pub apart_parts : (least : ℕ) (s : PlainSpan) (ss : List PlainSpan) → are_apart_from least (s ∷ ss) ≡ true → AreApart least s ss
apart_parts least s ss h =
    let parts = and_parts (nat_le least s.offset && is_span s) (are_apart_from (end_of s + 1) ss) h in
    let first = and_parts (nat_le least s.offset) (is_span s) parts.0 in
    record { low = leb-true least s.offset first.0; span = span_parts s first.1; rest = parts.1 }

pub apart_cons : (least : ℕ) (s : PlainSpan) (ss : List PlainSpan) → least ≤ s.offset → is_span s ≡ true → are_apart_from (end_of s + 1) ss ≡ true → are_apart_from least (s ∷ ss) ≡ true
apart_cons least s ss low span rest =
    and_from (nat_le least s.offset && is_span s) (are_apart_from (end_of s + 1) ss) (and_from (nat_le least s.offset) (is_span s) (le-leb least s.offset low) span) rest

-- what begins at a place or later begins at an earlier place or later
pub apart_lower : (low high : ℕ) (ss : List PlainSpan) → low ≤ high → are_apart_from high ss ≡ true → are_apart_from low ss ≡ true
apart_lower low high [] le h = refl
apart_lower low high (s ∷ ss) le h =
    let parts = apart_parts high s ss h in
    apart_cons low s ss (omega arith) (span_from s parts.span.some parts.span.limit) parts.rest

-- no position before the place where the spans begin is in the set
pub has_before : (least x : ℕ) (ss : List PlainSpan) → are_apart_from least ss ≡ true → x < least → has ss x ≡ false
has_before least x [] h lt = refl
has_before least x (s ∷ ss) h lt =
    let parts = apart_parts least s ss h in
    or_from (is_in x s) (has ss x) (in_before x s (omega arith)) (has_before (end_of s + 1) x ss parts.rest (omega arith))

-- the set has no more positions than there are from its beginning to 2^40
pub total_within : (least : ℕ) (ss : List PlainSpan) → are_apart_from least ss ≡ true → total_of ss ≤ 2 ^ 40 - least
total_within least [] h = omega arith
total_within least (s ∷ ss) h =
    let parts = apart_parts least s ss h in
    omega (arith, sum_by-cons count_of s ss, total_within (end_of s + 1) ss parts.rest)

-- each span of a set is one
pub span_at : (least : ℕ) (ss : List PlainSpan) (k : ℕ) (d : PlainSpan) → are_apart_from least ss ≡ true → k < length ss → IsSpanOf (get_or ss k d)
span_at least [] k d h lt = absurd (omega arith)
span_at least (s ∷ ss) zero d h lt = (apart_parts least s ss h).span
span_at least (s ∷ ss) (suc k) d h lt = span_at (end_of s + 1) ss k d (apart_parts least s ss h).rest (omega arith)

-- ---- spans of the code

pub record IsInBounds (s : Span) : Type 0 where
  pub some : 0 < s.length
  pub limit : s.offset + s.length ≤ 2 ^ 40

pub in_bounds : (xs : List Span) (k : ℕ) (d : Span) → are_apart (map plain_span xs) ≡ true → k < length xs → IsInBounds (get_or xs k d)
in_bounds xs k d h lt = go 0 xs k h lt
  where
    go : (least : ℕ) (ys : List Span) (k : ℕ) → are_apart_from least (map plain_span ys) ≡ true → k < length ys → IsInBounds (get_or ys k d)
    go least [] k h lt = absurd (omega arith)
    go least (y ∷ ys) zero h lt =
        let one = (apart_parts least (plain_span y) (map plain_span ys) h).span in
        record { some = one.some; limit = one.limit }
    go least (y ∷ ys) (suc k) h lt = go (end_of (plain_span y) + 1) ys k (apart_parts least (plain_span y) (map plain_span ys) h).rest (omega arith)

pub lengths_are : (xs : List Span) → total_of (map plain_span xs) ≡ sum_by (λ (s : Span). s.length) xs
lengths_are [] = refl
lengths_are (x ∷ xs) = sum_by-cons count_of (plain_span x) (map plain_span xs) ∙ ap (λ n. x.length + n) (lengths_are xs) ∙ sym (sum_by-cons (λ (s : Span). s.length) x xs)

pub lengths_within : (xs : List Span) → are_apart (map plain_span xs) ≡ true → sum_by (λ (s : Span). s.length) xs ≤ 2 ^ 40
lengths_within xs h = omega (arith, lengths_are xs, total_within 0 (map plain_span xs) h)

-- a span of the code that stands in a set
pub bounds_of : (ss : List PlainSpan) (k : ℕ) (d : PlainSpan) (s : Span) → are_apart ss ≡ true → k < length ss → get_or ss k d ≡ plain_span s → IsInBounds s
bounds_of ss k d s h lt e =
    let one = span_at 0 ss k d h lt in
    record { some = omega (arith, one.some, ap count_of e); limit = omega (arith, one.limit, ap end_of e) }

-- a set has no more spans than positions
pub few_spans : (least : ℕ) (ss : List PlainSpan) → are_apart_from least ss ≡ true → length ss ≤ total_of ss
few_spans least [] h = omega arith
few_spans least (s ∷ ss) h =
    let parts = apart_parts least s ss h in
    omega (arith, sum_by-cons count_of s ss, few_spans (end_of s + 1) ss parts.rest, parts.span.some)
