-- Spans of positions: which lists of them are a set, and which set they are.
use Rattle.std.specs.Prelude.{ℕ, ◌+◌, ◌-◌, ◌^◌, min, Bool, true, ◌&&◌, nat_lt, nat_le, List, [], ◌∷◌, ◌++◌, sum_by, if◌then◌else◌}
use Rattle.std.specs.List.{list_any}
use Rattle.wdt_units.specs.Have.{PlainSpan, is_in}
use Rattle.wdt_ranges.specs.declared.ranges.Span.{Span}

-- a span of the code as plain data
abbrev pub plain_span : Span → PlainSpan
plain_span s = record { offset = s.offset; count = s.length }

-- where a span ends
abbrev pub end_of : PlainSpan → ℕ
end_of s = s.offset + s.count

-- a span of one position or more that ends at 2^40 at most
abbrev pub is_span : PlainSpan → Bool
is_span s = nat_lt 0 s.count && nat_le (end_of s) (2 ^ 40)

-- spans that begin at a place or later, rise, and neither overlap nor touch
abbrev pub are_apart_from : ℕ → List PlainSpan → Bool
are_apart_from least [] = true
are_apart_from least (s ∷ ss) = nat_le least s.offset && is_span s && are_apart_from (end_of s + 1) ss

-- spans that rise and neither overlap nor touch
abbrev pub are_apart : List PlainSpan → Bool
are_apart ss = are_apart_from 0 ss

-- a position is in the set
abbrev pub has : List PlainSpan → ℕ → Bool
has ss position = list_any (is_in position) ss

-- how many positions a span has
abbrev pub count_of : PlainSpan → ℕ
count_of s = s.count

-- how many positions the set has
abbrev pub total_of : List PlainSpan → ℕ
total_of ss = sum_by count_of ss

-- the span from a place up to another, if it has a position
abbrev pub span_between : ℕ → ℕ → List PlainSpan
span_between least end = if nat_lt least end then (record { offset = least; count = end - least } ∷ []) else []

-- what spans that rise leave out between a place and a size
abbrev pub gaps_from : ℕ → ℕ → List PlainSpan → List PlainSpan
gaps_from least size [] = if nat_lt least size then (record { offset = least; count = size - least } ∷ []) else []
gaps_from least size (s ∷ ss) = span_between least (min s.offset size) ++ gaps_from (end_of s) size ss

-- the positions below a size that the set lacks, as spans
abbrev pub gaps_of : List PlainSpan → ℕ → List PlainSpan
gaps_of ss size = gaps_from 0 size ss
