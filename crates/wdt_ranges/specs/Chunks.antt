-- The spans of a set in chunks, one behind the other, and places in them.
use Rattle.std.specs.Prelude.{◌≡◌, ℕ, zero, suc, ◌+◌, ◌<◌, ◌≤◌, Bool, true, false, List, [], ◌∷◌, ◌++◌, length, take, drop, slice_index_or}
use Rattle.std.specs.List.{flat_map, list_all}
use Rattle.wdt_units.specs.Have.{PlainSpan}
use Rattle.wdt_ranges.specs.declared.chunks.Spot.{Spot}

-- the spans of all chunks
abbrev pub all_of : List (List PlainSpan) → List PlainSpan
all_of chunks = flat_map (λ chunk. chunk) chunks

-- a chunk has a span
abbrev pub is_filled : List PlainSpan → Bool
is_filled [] = false
is_filled (s ∷ ss) = true

-- no chunk is empty
abbrev pub are_filled : List (List PlainSpan) → Bool
are_filled chunks = list_all is_filled chunks

-- where the first span of a chunk begins
abbrev pub begin_of : List PlainSpan → ℕ
begin_of [] = 0
begin_of (s ∷ ss) = s.offset

-- how many spans stand before a chunk
abbrev pub count_before : List (List PlainSpan) → ℕ → ℕ
count_before [] k = 0
count_before (c ∷ cs) zero = 0
count_before (c ∷ cs) (suc k) = length c + count_before cs k

-- the chunk at a place, or an empty one
abbrev pub chunk_at : List (List PlainSpan) → ℕ → List PlainSpan
chunk_at chunks k = slice_index_or chunks k []

-- how many spans stand before a spot
abbrev pub place_of : List (List PlainSpan) → Spot → ℕ
place_of chunks spot = count_before chunks spot.chunk + spot.at

-- A spot lies in a chunk or at its end, and behind one of its spans but where it is before all spans.
pub record IsSpot (chunks : List (List PlainSpan)) (spot : Spot) : Type 0 where
  pub chunk : spot.chunk ≤ length chunks
  pub at : spot.at ≤ length (chunk_at chunks spot.chunk)
  pub first : spot.at ≡ 0 → spot.chunk ≡ 0
  pub past : spot.chunk ≡ length chunks → chunks ≡ []

-- A spot has the same place as another, and where a span stands behind it, is that span's.
pub record IsNext (chunks : List (List PlainSpan)) (spot next : Spot) : Type 0 where
  pub place : place_of chunks next ≡ place_of chunks spot
  pub least : spot.chunk ≤ next.chunk
  pub chunk : next.chunk ≤ length chunks
  pub within : next.chunk < length chunks → next.at < length (chunk_at chunks next.chunk)
  pub past : next.chunk ≡ length chunks → length (all_of chunks) ≤ place_of chunks spot

-- two chunks in the place of one, of which the first has so many of its spans
abbrev pub halved : List (List PlainSpan) → ℕ → ℕ → List (List PlainSpan)
halved chunks at half = take at chunks ++ take half (chunk_at chunks at) ∷ drop half (chunk_at chunks at) ∷ drop (suc at) chunks
