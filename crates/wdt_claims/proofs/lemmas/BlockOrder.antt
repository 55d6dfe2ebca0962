-- The order of blocks is total, and blocks that it doesn't tell apart are one.
use Rattle.std.proofs.Common.{◌≡◌, ℕ, true, false, ◌==◌, ◌&&◌, ◌⊎◌, refl, sym, ap, ◌∙◌, inl, inr, arith}
use Rattle.std.specs.Cmp.{IsTotalOrder}
use Rattle.std.specs.Ordering.{is_lt}
use Rattle.std.proofs.lemmas.Bool.{and_parts, and_from, eqb-true, eq-eqb, true≢false}
use Rattle.std.proofs.lemmas.Bool.Decides.{nat_tests}
use Rattle.std.proofs.lemmas.Cmp.{nat_cmp_total, on_total, then_total}
use Rattle.wdt_units.specs.declared.blocks.Block.{Block}
use Rattle.wdt_units.proofs.Shared.{less}
use Rattle.wdt_claims.specs.Blocks.{block_cmp, precedes, is_same}

pub block_total : IsTotalOrder block_cmp
block_total = then_total (on_total (λ (b : Block). b.file) nat_cmp_total) (then_total (on_total (λ (b : Block). b.offset) nat_cmp_total) (on_total (λ (b : Block). b.length) nat_cmp_total))

-- blocks with the same fields are one
pub one_block : (a b : Block) → is_same a b ≡ true → a ≡ b
one_block a b h =
    let parts : ((a.file == b.file && a.offset == b.offset) ≡ true) × ((a.length == b.length) ≡ true) = and_parts (a.file == b.file && a.offset == b.offset) (a.length == b.length) h in
    let two : ((a.file == b.file) ≡ true) × ((a.offset == b.offset) ≡ true) = and_parts (a.file == b.file) (a.offset == b.offset) parts.0 in
    ap (λ (n : ℕ). let it : Block = record { file = n; offset = a.offset; length = a.length } in it) (eqb-true a.file b.file two.0)
    ∙ ap (λ (n : ℕ). let it : Block = record { file = b.file; offset = n; length = a.length } in it) (eqb-true a.offset b.offset two.1)
    ∙ ap (λ (n : ℕ). let it : Block = record { file = b.file; offset = b.offset; length = n } in it) (eqb-true a.length b.length parts.1)

pub same_itself : (a : Block) → is_same a a ≡ true
same_itself a = and_from (a.file == a.file && a.offset == a.offset) (a.length == a.length) (and_from (a.file == a.file) (a.offset == a.offset) (eq-eqb a.file a.file refl) (eq-eqb a.offset a.offset refl)) (eq-eqb a.length a.length refl)

-- of two blocks one comes before the other, unless they are one
pub ordered : (a b : Block) → (is_same a b ≡ true) ⊎ ((precedes a b ≡ true) ⊎ (precedes b a ≡ true))
ordered a b = grind (arith, nat_tests)

-- a block isn't the same as one that it precedes
pub precedes_other : (a b : Block) → precedes a b ≡ true → (is_same a b ≡ false) × (is_same b a ≡ false)
precedes_other a b h = (grind (arith, nat_tests), grind (arith, nat_tests))

pub precedes_trans : (a b c : Block) → precedes a b ≡ true → precedes b c ≡ true → precedes a c ≡ true
precedes_trans a b c h k = ap is_lt (block_total.trans a b c (less (block_cmp a b) h) (less (block_cmp b c) k))

-- a block that doesn't come before another, and isn't the same, comes behind it
pub precedes_back : (a b : Block) → precedes a b ≡ false → is_same a b ≡ false → precedes b a ≡ true
precedes_back a b h k = elim (ordered a b) [ inl s ↦ absurd (true≢false (sym s ∙ k)) | inr o ↦ elim o [ inl p ↦ absurd (true≢false (sym p ∙ h)) | inr q ↦ q ] ]

pub same_back : (a b : Block) → is_same a b ≡ false → is_same b a ≡ false
same_back a b h = grind (arith, nat_tests)
