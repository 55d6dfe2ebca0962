-- How many files and bytes of a tree are left, file by file.
use Rattle.std.proofs.Common.{◌≡◌, ℕ, ◌+◌, ◌-◌, ◌≤◌, List, length, take, sum_by, slice_get, Some, ap, ◌∙◌, arith}
use Rattle.std.proofs.lemmas.List.{take_all}
use Rattle.std.proofs.lemmas.List.Sums.{sum_by_more, sum_by_more_le}
use Rattle.std.proofs.lemmas.Option.{slice_get_within, get_or_from_slice_get}
use Rattle.wdt_tree.specs.declared.entry.Entry.{Entry}
use Rattle.wdt_tree.specs.Listing.{size_of}
use Rattle.wdt_rehearsal.specs.declared.receiver.Stage.TheVariants.{Blocks}
use Rattle.wdt_rehearsal.specs.Sending.{HasRoom, less}

-- one more entry in a sum
pub sum-more : (f : Entry → ℕ) (entries : List Entry) (at : ℕ) (entry : Entry) → slice_get entries at ≡ Some entry → sum_by f (take (at + 1) entries) ≡ sum_by f (take at entries) + f entry
sum-more f entries at entry here =
    sum_by_more f entries at entry (slice_get_within entries at entry here) ∙ ap (λ (e : Entry). sum_by f (take at entries) + f e) (get_or_from_slice_get entries at entry entry here)

pub sum-within : (f : Entry → ℕ) (entries : List Entry) (at : ℕ) (entry : Entry) → slice_get entries at ≡ Some entry → sum_by f (take at entries) + f entry ≤ sum_by f entries
sum-within f entries at entry here = omega (arith, sum_by_more_le f entries at entry (slice_get_within entries at entry here), ap f (get_or_from_slice_get entries at entry entry here))

-- the entry's file has room
pub room-left : (entries : List Entry) (at : ℕ) (entry : Entry) → slice_get entries at ≡ Some entry → HasRoom (Blocks (length entries - at) (sum_by size_of entries - sum_by size_of (take at entries))) entry.size
room-left entries at entry here = (omega (arith, slice_get_within entries at entry here), omega (arith, sum-within size_of entries at entry here))

pub less-left : (entries : List Entry) (at : ℕ) (entry : Entry) → slice_get entries at ≡ Some entry
    → less (Blocks (length entries - at) (sum_by size_of entries - sum_by size_of (take at entries))) entry.size ≡ Blocks (length entries - (at + 1)) (sum_by size_of entries - sum_by size_of (take (at + 1) entries))
less-left entries at entry here =
    let files : length entries - at - 1 ≡ length entries - (at + 1) = omega arith in
    let bytes : sum_by size_of entries - sum_by size_of (take at entries) - entry.size ≡ sum_by size_of entries - sum_by size_of (take (at + 1) entries) = omega (arith, sum-more size_of entries at entry here) in
    ap (λ n. Blocks n (sum_by size_of entries - sum_by size_of (take at entries) - entry.size)) files ∙ ap (Blocks (length entries - (at + 1))) bytes

-- nothing is left
pub none-left : (entries : List Entry) (at : ℕ) → at ≡ length entries → Blocks (length entries - at) (sum_by size_of entries - sum_by size_of (take at entries)) ≡ Blocks 0 0
none-left entries at e =
    let all : take at entries ≡ entries = take_all at entries (omega arith) in
    let files : length entries - at ≡ 0 = omega arith in
    let bytes : sum_by size_of entries - sum_by size_of (take at entries) ≡ 0 = omega (arith, ap (sum_by size_of) all) in
    ap (λ n. Blocks n (sum_by size_of entries - sum_by size_of (take at entries))) files ∙ ap (Blocks 0) bytes
