-- The blocks that lanes keep are blocks of the plan, each of one lane and once in its list.
use Rattle.std.proofs.Common.{◌≡◌, ◌≢◌, ◌⊎◌, inl, inr, ℕ, zero, suc, ◌+◌, ◌<◌, ◌≤◌, List, length, Bool, true, false, sym, ap, ◌∙◌, arith, refl}
use Rattle.std.proofs.lemmas.Bool.{cases_eq}
use Rattle.wdt_units.specs.declared.blocks.Block.{Block}
use Rattle.wdt_claims.specs.Blocks.{count_of}
use Rattle.wdt_claims.specs.Claimed.{count_kept}
use Rattle.wdt_claims.specs.Places.{is_among}
use Rattle.wdt_claims.proofs.Shared.{absent}
use Rattle.wdt_sender_fsm.specs.PlainSender.{PlainSender, blocks_of, past_at, lanes_claims, waiting_blocks}
use Rattle.wdt_sender_fsm.specs.Places.{planned_now-is}
use Rattle.wdt_sender_fsm.specs.Sender.{IsSender}
use Rattle.wdt_sender_fsm.specs.SenderHistory.{past_of}
use Rattle.wdt_sender_fsm.proofs.lemmas.Counts.{present, total}
use Rattle.wdt_sender_fsm.proofs.lemmas.Placed.{kept_total}
use Rattle.wdt_sender_fsm.proofs.lemmas.Places.{places}

-- ---- sums

at_most : (n l : ℕ) (f : ℕ → ℕ) → l < n → f l ≤ total n f
at_most zero l f within = absurd (omega (arith, within))
at_most (suc n) l f within = go (cases_eq l n) (at_most n l f) where
  go : (l ≡ n) ⊎ (l ≢ n) → (l < n → f l ≤ total n f) → f l ≤ total n f + f n
  go (inl e) rest = let same : f l ≡ f n = ap f e in omega (arith, same)
  go (inr ne) rest = let less : f l ≤ total n f = rest (omega (arith, within, ne)) in omega (arith, less)

two_at_most : (n k l : ℕ) (f : ℕ → ℕ) → k < n → l < n → k ≢ l → f k + f l ≤ total n f
two_at_most zero k l f k_in l_in ne = absurd (omega (arith, k_in))
two_at_most (suc n) k l f k_in l_in ne = go (cases_eq k n) (cases_eq l n) (at_most n k f) (at_most n l f) (two_at_most n k l f) where
  go : (k ≡ n) ⊎ (k ≢ n) → (l ≡ n) ⊎ (l ≢ n) → (k < n → f k ≤ total n f) → (l < n → f l ≤ total n f) → (k < n → l < n → k ≢ l → f k + f l ≤ total n f) → f k + f l ≤ total n f + f n
  go (inl e) (inl d) a b both = absurd (ne (e ∙ sym d))
  go (inl e) (inr d) a b both =
      let same : f k ≡ f n = ap f e in
      let less : f l ≤ total n f = b (omega (arith, l_in, d)) in
      omega (arith, same, less)
  go (inr e) (inl d) a b both =
      let same : f l ≡ f n = ap f d in
      let less : f k ≤ total n f = a (omega (arith, k_in, e)) in
      omega (arith, same, less)
  go (inr e) (inr d) a b both = let less : f k + f l ≤ total n f = both (omega (arith, k_in, e)) (omega (arith, l_in, d)) ne in omega (arith, less)

-- ---- the lanes' lists

abbrev kept_at : PlainSender → Block → ℕ → ℕ
kept_at s b l = count_of b (past_at s l).claims.kept

-- all lanes together keep a block at most as often as the plan has it, which is once at most
all_kept : (s : PlainSender) (b : Block) → IsSender s → 1 ≤ s.block → (total (length s.lanes) (kept_at s b) ≤ count_of b (blocks_of s)) × (count_of b (blocks_of s) ≤ 1)
all_kept s b is some =
    let has = places s is some in
    let shared : count_of b (waiting_blocks s) + count_kept b (lanes_claims s) ≡ count_of b (blocks_of s) = has.shared b ∙ ap (count_of b) (planned_now-is (blocks_of s) s.history) in
    let distinct : count_of b (blocks_of s) ≤ 1 = omega (arith, has.distinct b, ap (count_of b) (planned_now-is (blocks_of s) s.history)) in
    let sum : count_kept b (lanes_claims s) ≡ total (length s.lanes) (kept_at s b) = kept_total b (length s.lanes) (λ l. (past_of s.history l).claims) in
    (omega (arith, shared, sum), distinct)

-- a block of a list is counted, and one that is counted is of the list
counted : (b : Block) (xs : List Block) (x : Bool) → is_among xs b ≡ x → 1 ≤ count_of b xs → is_among xs b ≡ true
counted b xs true is some = is
counted b xs false is some = let none : count_of b xs ≡ 0 = absent b xs is in absurd (omega (arith, none, some))

uncounted : (b : Block) (xs : List Block) (x : Bool) → is_among xs b ≡ x → count_of b xs ≡ 0 → is_among xs b ≡ false
uncounted b xs false is none = is
uncounted b xs true is none = let some : 1 ≤ count_of b xs = present b xs is in absurd (omega (arith, none, some))

pub kept_planned : (s : PlainSender) (b : Block) (l : ℕ) → IsSender s → 1 ≤ s.block → l < length s.lanes → is_among (past_at s l).claims.kept b ≡ true → is_among (blocks_of s) b ≡ true
kept_planned s b l is some within among =
    let n : ℕ = length s.lanes in
    let all = all_kept s b is some in
    let here : 1 ≤ kept_at s b l = present b (past_at s l).claims.kept among in
    let less : kept_at s b l ≤ total (length s.lanes) (kept_at s b) = at_most (length s.lanes) l (kept_at s b) within in
    counted b (blocks_of s) (is_among (blocks_of s) b) refl (omega (arith, all.0, here, less))

pub kept_once : (s : PlainSender) (b : Block) (l : ℕ) → IsSender s → 1 ≤ s.block → l < length s.lanes → count_of b (past_at s l).claims.kept ≤ 1
kept_once s b l is some within =
    let all = all_kept s b is some in
    let less : kept_at s b l ≤ total (length s.lanes) (kept_at s b) = at_most (length s.lanes) l (kept_at s b) within in
    omega (arith, all.0, all.1, less)

pub kept_by_one : (s : PlainSender) (b : Block) (k l : ℕ) → IsSender s → 1 ≤ s.block → k < length s.lanes → l < length s.lanes → k ≢ l → is_among (past_at s k).claims.kept b ≡ true → is_among (past_at s l).claims.kept b ≡ false
kept_by_one s b k l is some k_in l_in ne among =
    let all = all_kept s b is some in
    let here : 1 ≤ kept_at s b k = present b (past_at s k).claims.kept among in
    let both : kept_at s b k + kept_at s b l ≤ total (length s.lanes) (kept_at s b) = two_at_most (length s.lanes) k l (kept_at s b) k_in l_in ne in
    uncounted b (past_at s l).claims.kept (is_among (past_at s l).claims.kept b) refl (omega (arith, all.0, all.1, here, both))
