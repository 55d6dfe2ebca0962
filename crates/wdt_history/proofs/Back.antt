-- Blocks that go back to the queue one after another, the last first.
use Rattle.std.proofs.Common.{◌≡◌, ℕ, ◌+◌, ◌-◌, ◌<◌, ◌≤◌, List, ◌∷◌, ◌++◌, length, get_or, drop, ap, ◌∙◌, arith}
use Rattle.std.proofs.lemmas.List.{drop_more}
use Rattle.wdt_units.specs.declared.blocks.Block.{Block}
use Rattle.wdt_claims.specs.Blocks.{count_of, AreDistinct, HaveSameBlocks}
use Rattle.wdt_claims.proofs.Shared.{same_itself, count_of-append, count_of-cons, count_of-parts, one_if-true}

-- the last of the first n blocks stands before those behind them
last_before : (blocks : List Block) (n : ℕ) (d : Block) → 0 < n → n ≤ length blocks → drop (n - 1) blocks ≡ get_or blocks (n - 1) d ∷ drop n blocks
last_before blocks n d some most =
    let shift : n - 1 + 1 ≡ n = omega arith in
    drop_more blocks (n - 1) d (omega arith) ∙ ap (λ (k : ℕ). get_or blocks (n - 1) d ∷ drop k blocks) shift

-- the next block isn't among those that wait
pub next_absent : (first now blocks : List Block) (n : ℕ) (d : Block) → 0 < n → n ≤ length blocks → AreDistinct (first ++ blocks) → HaveSameBlocks now (first ++ drop n blocks) → count_of (get_or blocks (n - 1) d) now ≡ 0
next_absent first now blocks n d some most once same =
    let b : Block = get_or blocks (n - 1) d in
    omega (
      arith,
      once b,
      same b,
      count_of-append b first blocks,
      count_of-append b first (drop n blocks),
      count_of-parts b blocks (n - 1),
      ap (count_of b) (last_before blocks n d some most),
      count_of-cons b b (drop n blocks),
      one_if-true b b (same_itself b),
    )

-- one block more went back
pub one_more : (first now new blocks : List Block) (n : ℕ) (d : Block) → 0 < n → n ≤ length blocks → HaveSameBlocks now (first ++ drop n blocks) → HaveSameBlocks new (get_or blocks (n - 1) d ∷ now)
    → HaveSameBlocks new (first ++ drop (n - 1) blocks)
one_more first now new blocks n d some most same put b =
    omega (
      arith,
      same b,
      put b,
      count_of-cons b (get_or blocks (n - 1) d) now,
      count_of-append b first (drop n blocks),
      count_of-append b first (drop (n - 1) blocks),
      ap (count_of b) (last_before blocks n d some most),
      count_of-cons b (get_or blocks (n - 1) d) (drop n blocks),
    )
