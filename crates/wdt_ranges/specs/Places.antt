-- Where a span goes in a set, and which spans it takes in.
use Rattle.std.specs.Prelude.{◌≡◌, ℕ, ◌+◌, ◌-◌, ◌<◌, ◌≤◌, Bool, true, ◌||◌, nat_le, IsTrue, List, [], ◌∷◌, length, take, drop, slice_range, slice_index_or}
use Rattle.wdt_units.specs.Have.{PlainSpan, is_in}
use Rattle.wdt_ranges.specs.Spans.{end_of, is_span, has, total_of}

-- the least offset of what stands behind spans that begin at a place or later, and doesn't touch them
abbrev pub least_behind : ℕ → List PlainSpan → ℕ
least_behind least [] = least
least_behind least (s ∷ ss) = least_behind (end_of s + 1) ss

-- the first span, if there is one, begins at a place or later
abbrev pub begins_from : ℕ → List PlainSpan → Bool
begins_from least [] = true
begins_from least (s ∷ ss) = nat_le least s.offset

-- the spans before a place begin at an offset or earlier, and those from the place on begin later
pub record IsPlace (ss : List PlainSpan) (offset at : ℕ) : Type 0 where
  pub within : at ≤ length ss
  pub before : (d : PlainSpan) → 0 < at → (slice_index_or ss (at - 1) d).offset ≤ offset
  pub behind : IsTrue (begins_from (offset + 1) (drop at ss))

-- between the spans before a place and those from it on there is room for a span, which may touch both
pub record HasRoom (ss : List PlainSpan) (at : ℕ) (s : PlainSpan) : Type 0 where
  pub before : least_behind 0 (take at ss) ≤ s.offset + 1
  pub behind : IsTrue (begins_from (end_of s) (drop at ss))

-- a span has the positions of another and of the spans from a place up to another
pub record IsJoined (ss : List PlainSpan) (from to : ℕ) (s t : PlainSpan) : Type 0 where
  pub span : IsTrue (is_span t)
  pub positions : (x : ℕ) → is_in x t ≡ (has (slice_range ss from to) x || is_in x s)
  pub total : t.count ≡ total_of (slice_range ss from to) + s.count
