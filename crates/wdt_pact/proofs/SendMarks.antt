-- Marks that a sender's lane reads close the lanes of which they tell; and small laws of lists of blocks.
use Rattle.std.proofs.Common.{◌≡◌, ◌⊎◌, inl, inr, ℕ, ◌+◌, ◌==◌, ◌||◌, Bool, true, false, if◌then◌else◌, List, [], ◌∷◌, ◌++◌, length, Option, Some, None, is_some, ap, ◌∙◌, refl, arith}
use Rattle.std.proofs.lemmas.Bool.{or_cases}
use Rattle.std.specs.List.{list_any}
use Rattle.wdt_units.specs.declared.blocks.Block.{Block}
use Rattle.wdt_units.specs.declared.numbers.Lane.{Lane}
use Rattle.wdt_claims.specs.LaneWords.{Claims}
use Rattle.wdt_codec.specs.declared.frames.Mark.{Mark}
use Rattle.wdt_sender_fsm.specs.declared.events.SendEvent.TheVariants as events
use Rattle.wdt_sender_fsm.specs.Places.{least_of}
use Rattle.wdt_sender_fsm.specs.SenderHistory.{LanePast, close_by, past_after, past_from}
use Rattle.wdt_sender_fsm.specs.Turn.{global, globals}

-- ---- lists

pub none_least : (bs : List Block) → least_of bs ≡ None → bs ≡ []
none_least [] e = refl
none_least (b ∷ bs) e = cc

pub empty_sum : (bs : List Block) (n : ℕ) → length bs + n ≡ 0 → bs ≡ []
empty_sum [] n e = refl
empty_sum (b ∷ bs) n e = absurd (omega (arith, e))

pub none_some : {P : Type 0} (b : Block) → None ≡ Some b → P
none_some b e = cc

-- ---- marks close their lanes

close_some : (o : Option ℕ) (n : ℕ) (s : Claims) → s.closed ≡ o → is_some (close_by o n s).closed ≡ true
close_some None n s is = refl
close_some (Some m) n s is = ap is_some is

closed_on : (q : ℕ) (p : LanePast) (k l : Lane) (n : ℕ) → is_some p.claims.closed ≡ true → is_some (past_after q p (events.Global k l n)).claims.closed ≡ true
closed_on q p k l n e = go (l.0 == q) where
  go : (b : Bool) → is_some (if b then close_by p.claims.closed n p.claims else p.claims).closed ≡ true
  go true = close_some p.claims.closed n p.claims refl
  go false = e

closed_here : (q : ℕ) (p : LanePast) (k l : Lane) (n : ℕ) → (l.0 == q) ≡ true → is_some (past_after q p (events.Global k l n)).claims.closed ≡ true
closed_here q p k l n e =
    ap (λ (b : Bool). is_some (if b then close_by p.claims.closed n p.claims else p.claims).closed) e ∙ close_some p.claims.closed n p.claims refl

closed_all : (q : ℕ) (p : LanePast) (l : Lane) (ms : List Mark) → is_some p.claims.closed ≡ true → is_some (past_from q p (globals l ms)).claims.closed ≡ true
closed_all q p l [] e = e
closed_all q p l (m ∷ ms) e = closed_all q (past_after q p (global l m)) l ms (closed_on q p l m.lane m.count e)

pub marks_close : (q : ℕ) (p : LanePast) (l : Lane) (ms : List Mark) → list_any (λ (m : Mark). m.lane.0 == q) ms ≡ true
    → is_some (past_from q p (globals l ms)).claims.closed ≡ true
marks_close q p l [] e = cc
marks_close q p l (m ∷ ms) e = go (marks_close q (past_after q p (global l m)) l ms) (or_cases (m.lane.0 == q) (list_any (λ (x : Mark). x.lane.0 == q) ms) e) where
  go : (list_any (λ (x : Mark). x.lane.0 == q) ms ≡ true → is_some (past_from q (past_after q p (global l m)) (globals l ms)).claims.closed ≡ true)
      → ((m.lane.0 == q) ≡ true) ⊎ (list_any (λ (x : Mark). x.lane.0 == q) ms ≡ true) → is_some (past_from q p (globals l (m ∷ ms))).claims.closed ≡ true
  go more (inl x) = closed_all q (past_after q p (global l m)) l ms (closed_here q p l m.lane m.count x)
  go more (inr x) = more x

-- a claim closes nothing, and opens nothing
pub claim_closed : (q : ℕ) (p : LanePast) (l : Lane) (b : Block) → (past_after q p (events.Claim l b)).claims.closed ≡ p.claims.closed
claim_closed q p l b = go (l.0 == q) where
  go : (x : Bool)
      →
      (if x then record { kept = p.claims.kept ++ b ∷ []; sure = p.claims.sure; held = true; closed = p.claims.closed } else p.claims).closed ≡ p.claims.closed
  go true = refl
  go false = refl

pub none_of : {A : Type 0} (o : Option A) → is_some o ≡ false → o ≡ None
none_of None e = refl
none_of (Some x) e = cc

pub or_none : (b : Bool) → (b || false) ≡ true → b ≡ true
or_none true e = refl
or_none false e = cc
