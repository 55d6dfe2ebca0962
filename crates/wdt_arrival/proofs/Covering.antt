-- Spans that have as many positions as a size, and lie below it, have each of them.
use Rattle.std.proofs.Common.{◌≡◌, ◌⊎◌, inl, inr, ℕ, ◌+◌, ◌-◌, ◌<◌, ◌≤◌, ◌||◌, ◌&&◌, nat_le, Bool, true, false, List, [], ◌∷◌, refl, arith}
use Rattle.std.specs.List.{list_all}
use Rattle.std.proofs.lemmas.Bool.{and_parts, cases_lt, leb-true}
use Rattle.std.proofs.lemmas.List.Sums.{sum_by-cons}
use Rattle.wdt_units.specs.Have.{PlainSpan, is_in}
use Rattle.wdt_ranges.specs.Spans.{are_apart, are_apart_from, count_of, end_of, has, is_span, total_of}
use Rattle.wdt_ranges.proofs.ForCallers.{in_here, span_parts}
use Rattle.wdt_logfmt.specs.View.{ends_within}

-- the parts of what spans from a place on are
record Parts (least size : ℕ) (s : PlainSpan) (ss : List PlainSpan) : Type 0 where
  from : least ≤ s.offset
  some : 0 < s.count
  apart : are_apart_from (end_of s + 1) ss ≡ true
  ends : end_of s ≤ size
  within : list_all (ends_within size) ss ≡ true

parts_of : (least size : ℕ) (s : PlainSpan) (ss : List PlainSpan) → are_apart_from least (s ∷ ss) ≡ true
    → list_all (ends_within size) (s ∷ ss) ≡ true → Parts least size s ss
parts_of least size s ss apart within =
    let both = and_parts (nat_le least s.offset && is_span s) (are_apart_from (end_of s + 1) ss) apart in
    let front = and_parts (nat_le least s.offset) (is_span s) both.0 in
    let ends = and_parts (ends_within size s) (list_all (ends_within size) ss) within in
    record {
      from = leb-true least s.offset front.0;
      some = (span_parts s front.1).some;
      apart = both.1;
      ends = leb-true (end_of s) size ends.0;
      within = ends.1;
    }

-- spans from a place on have no more positions than there are up to the size
few_from : (least size : ℕ) (ss : List PlainSpan) → least ≤ size + 1 → are_apart_from least ss ≡ true → list_all (ends_within size) ss ≡ true → total_of ss ≤ size - least
few_from least size [] low apart within = omega arith
few_from least size (s ∷ ss) low apart within =
    let p = parts_of least size s ss apart within in
    omega (arith, sum_by-cons count_of s ss, few_from (end_of s + 1) size ss (omega (arith, p.ends)) p.apart p.within, p.from, p.ends, p.some)

or_right : (a b : Bool) → b ≡ true → (a || b) ≡ true
or_right true b e = refl
or_right false b e = e

or_left : (a b : Bool) → a ≡ true → (a || b) ≡ true
or_left true b e = refl
or_left false b e = cc

-- where they have as many, they have each
all_from : (least size : ℕ) (ss : List PlainSpan) → are_apart_from least ss ≡ true → list_all (ends_within size) ss ≡ true
    → size - least ≤ total_of ss → (k : ℕ) → least ≤ k → k < size → has ss k ≡ true
all_from least size [] apart within many k low high = absurd (omega (arith, many, low, high))
all_from least size (s ∷ ss) apart within many k low high = go (cases_lt k (end_of s)) where
  p : Parts least size s ss
  p = parts_of least size s ss apart within

  few : total_of ss ≤ size - (end_of s + 1)
  few = few_from (end_of s + 1) size ss (omega (arith, p.ends)) p.apart p.within

  go : (k < end_of s) ⊎ (end_of s ≤ k) → has (s ∷ ss) k ≡ true
  go (inl before) = or_left (is_in k s) (has ss k) (in_here k s (omega (arith, sum_by-cons count_of s ss, few, many, p.from, p.ends, low, high)) before)
  go (inr behind) = absurd (omega (arith, sum_by-cons count_of s ss, few, many, p.from, p.ends, behind, high))

pub all_there : (size : ℕ) (ss : List PlainSpan) → are_apart ss ≡ true → list_all (ends_within size) ss ≡ true → total_of ss ≡ size → (k : ℕ) → k < size → has ss k ≡ true
all_there size ss apart within is k high = all_from 0 size ss apart within (omega (arith, is)) k (omega arith) high

pub few_there : (size : ℕ) (ss : List PlainSpan) → are_apart ss ≡ true → list_all (ends_within size) ss ≡ true → total_of ss ≤ size
few_there size ss apart within = omega (arith, few_from 0 size ss (omega arith) apart within)
