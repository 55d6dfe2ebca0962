-- The blocks of a file that is sent whole follow each other.
use Rattle.std.proofs.Common.{◌≡◌, ℕ, zero, suc, ◌+◌, ◌-◌, ◌*◌, ◌/◌, ◌<◌, ◌≤◌, min, List, [], ◌∷◌, ◌++◌, length, take, drop, get_or, slice_get, Some, refl, sym, ap, ◌∙◌, subst, arith, inl, inr}
use Rattle.std.proofs.lemmas.Bool.{cases_eq, eq-eqb, ne_eqb}
use Rattle.std.proofs.lemmas.List.{take_at, drop_at, drop_more, length-append}
use Rattle.std.proofs.lemmas.Option.{slice_get_within, get_or_from_slice_get}
use Rattle.wdt_units.specs.declared.blocks.Block.{Block}
use Rattle.wdt_tree.specs.declared.entry.Entry.{Entry}
use Rattle.wdt_tree.specs.Cuts.{blocks_in, block_at, first_cuts, cuts_of, cuts_from}
use Rattle.wdt_rehearsal.specs.Sending.{Follow, AreBlocks}

-- n blocks of a file, from a number on
abbrev from : ℕ → ℕ → ℕ → ℕ → List Block
from file size k zero = []
from file size k (suc n) = block_at 16777216 file size k ∷ from file size (suc k) n

from-snoc : (file size k n : ℕ) → from file size k (suc n) ≡ from file size k n ++ block_at 16777216 file size (k + n) ∷ []
from-snoc file size k zero = ap (λ i. block_at 16777216 file size i ∷ []) (let e : k ≡ k + 0 = omega arith in e)
from-snoc file size k (suc n) =
    ap (λ bs. block_at 16777216 file size k ∷ bs) (from-snoc file size (suc k) n ∙ ap (λ i. from file size (suc k) n ++ block_at 16777216 file size i ∷ []) (let e : suc k + n ≡ k + suc n = omega arith in e))

first_cuts-from : (file size n : ℕ) → first_cuts 16777216 file size n ≡ from file size 0 n
first_cuts-from file size zero = refl
first_cuts-from file size (suc n) =
    ap (λ bs. bs ++ block_at 16777216 file size n ∷ []) (first_cuts-from file size n) ∙ ap (λ i. from file size 0 n ++ block_at 16777216 file size i ∷ []) (let e : n ≡ 0 + n = omega arith in e) ∙ sym (from-snoc file size 0 n)

-- the blocks from a number on follow each other to the end
follow : (file size k n : ℕ) → (k + n) * 16777216 < size → size ≤ (k + suc n) * 16777216 → k * 16777216 < size → Follow (k * 16777216) size (from file size k (suc n))
follow file size k zero lt le some = (refl, omega arith, omega arith, omega arith, (let e : k * 16777216 + min 16777216 (size - k * 16777216) ≡ size = omega arith in e))
follow file size k (suc n) lt le some =
    let whole : k * 16777216 + min 16777216 (size - k * 16777216) ≡ suc k * 16777216 = omega arith in
    (refl, omega arith, omega arith, omega arith, subst (λ o. Follow o size (from file size (suc k) (suc n))) (sym whole) (follow file size (suc k) n (omega arith) (omega arith) (omega arith)))

-- where a file isn't empty
some-blocks : (file : ℕ) (entry : Entry) (n : ℕ) → n * 16777216 < entry.size → entry.size ≤ suc n * 16777216 → AreBlocks entry (from file entry.size 0 (suc n))
some-blocks file entry zero lt le = (refl, omega arith, omega arith, omega arith, (let e : min 16777216 (entry.size - 0 * 16777216) ≡ entry.size = omega arith in e))
some-blocks file entry (suc n) lt le =
    let whole : min 16777216 (entry.size - 0 * 16777216) ≡ 1 * 16777216 = omega arith in
    (refl, omega arith, omega arith, omega arith, subst (λ o. Follow o entry.size (from file entry.size 1 (suc n))) (sym whole) (follow file entry.size 1 n (omega arith) (omega arith) (omega arith)))

no-byte : (file : ℕ) (entry : Entry) → entry.size ≡ 0 → AreBlocks entry (from file entry.size 0 1)
no-byte file entry e = (refl, omega arith, omega arith, omega arith, (let f : min 16777216 (entry.size - 0 * 16777216) ≡ entry.size = omega arith in f))

pub cuts-follow : (file : ℕ) (entry : Entry) → AreBlocks entry (cuts_of 16777216 file entry.size)
cuts-follow file entry = elim (cases_eq entry.size 0) [
  | inl e ↦
      let one : blocks_in 16777216 entry.size ≡ 1 = rw (eq-eqb entry.size 0 e) refl in
      subst (λ n. AreBlocks entry (first_cuts 16777216 file entry.size n)) (sym one) (subst (AreBlocks entry) (sym (first_cuts-from file entry.size 1)) (no-byte file entry e))
  | inr ne ↦
      let n : ℕ = (entry.size - 1) / 16777216 in
      let many : blocks_in 16777216 entry.size ≡ suc n = rw (ne_eqb entry.size 0 ne) (counted entry.size (positive entry.size ne)) in
      subst (λ m. AreBlocks entry (first_cuts 16777216 file entry.size m)) (sym many)
      (subst (AreBlocks entry) (sym (first_cuts-from file entry.size (suc n))) (some-blocks file entry n (below entry.size (positive entry.size ne)) (above entry.size)))
]
  where
    positive : (size : ℕ) → (size ≡ 0 → ⊥) → 0 < size
    positive zero ne = absurd (ne refl)
    positive (suc k) ne = omega arith

    counted : (size : ℕ) → 0 < size → (size + 16777216 - 1) / 16777216 ≡ suc ((size - 1) / 16777216)
    counted size some = omega arith

    below : (size : ℕ) → 0 < size → (size - 1) / 16777216 * 16777216 < size
    below size some = omega arith

    above : (size : ℕ) → size ≤ suc ((size - 1) / 16777216) * 16777216
    above size = omega arith

-- the next block, and those behind it
pub next-follows : (blocks : List Block) (i offset size : ℕ) (d : Block) → i < length blocks → Follow offset size (drop i blocks) → Follow offset size (get_or blocks i d ∷ drop (i + 1) blocks)
next-follows blocks i offset size d lt h = subst (Follow offset size) (drop_more blocks i d lt) h

length-first_cuts : (most file size n : ℕ) → length (first_cuts most file size n) ≡ n
length-first_cuts most file size zero = refl
length-first_cuts most file size (suc n) = omega (arith, length-append (first_cuts most file size n) (block_at most file size n ∷ []), length-first_cuts most file size n)

pub length-cuts_of : (most file size : ℕ) → length (cuts_of most file size) ≡ blocks_in most size
length-cuts_of most file size = length-first_cuts most file size (blocks_in most size)

-- where a file's blocks stand at the front of those that are left
pub cuts-here : (entries : List Entry) (at : ℕ) (entry : Entry) → slice_get entries at ≡ Some entry → cuts_from 16777216 at (drop at entries) ≡ cuts_of 16777216 at entry.size ++ cuts_from 16777216 (at + 1) (drop (at + 1) entries)
cuts-here entries at entry here =
    ap (cuts_from 16777216 at) (drop_more entries at entry (slice_get_within entries at entry here))
    ∙ ap (λ (e : Entry). cuts_of 16777216 at e.size ++ cuts_from 16777216 (at + 1) (drop (at + 1) entries)) (get_or_from_slice_get entries at entry entry here)

-- and the blocks that are the file's own
pub own-blocks : (left : List Block) (entries : List Entry) (at : ℕ) (entry : Entry) (n : ℕ) → slice_get entries at ≡ Some entry → left ≡ cuts_from 16777216 at (drop at entries) → n ≡ blocks_in 16777216 entry.size
    → (n ≤ length left) × AreBlocks entry (take n left) × (drop n left ≡ cuts_from 16777216 (at + 1) (drop (at + 1) entries))
own-blocks left entries at entry n here is count =
    let all : left ≡ cuts_of 16777216 at entry.size ++ cuts_from 16777216 (at + 1) (drop (at + 1) entries) = is ∙ cuts-here entries at entry here in
    let long : length (cuts_of 16777216 at entry.size) ≡ n = length-cuts_of 16777216 at entry.size ∙ sym count in
    let own : take n left ≡ cuts_of 16777216 at entry.size = ap (take n) all ∙ take_at (cuts_of 16777216 at entry.size) _ n long in (
      omega (arith, ap length all, length-append (cuts_of 16777216 at entry.size) (cuts_from 16777216 (at + 1) (drop (at + 1) entries)), long),
      subst (AreBlocks entry) (sym own) (cuts-follow at entry),
      ap (drop n) all ∙ drop_at (cuts_of 16777216 at entry.size) _ n long,
    )
