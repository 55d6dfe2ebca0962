-- What the lanes have claimed and which blocks wait, read off the history.
use Rattle.std.specs.Prelude.{◌≡◌, refl, ℕ, zero, suc, ◌+◌, Bool, List, [], ◌∷◌, ◌++◌, length, filter, count_by, Option, Some, None, true, false}
use Rattle.wdt_claims.specs.Blocks.{count_of}
use Rattle.wdt_claims.specs.LaneWords.{Claims}
use Rattle.wdt_units.specs.declared.blocks.Block.{Block}
use Rattle.wdt_claims.specs.Claimed.{count_kept, is_held}
use Rattle.wdt_claims.specs.Places.{is_queued}
use Rattle.wdt_sender_fsm.specs.declared.events.SendEvent.{SendEvent}
use Rattle.wdt_sender_fsm.specs.declared.events.SendEvent.TheVariants.{Greet, Claim, Sent, Global, Finish}
use Rattle.wdt_sender_fsm.specs.SenderHistory.{past_of}

-- what f gives for the numbers below n, in order
abbrev pub tabulate : {X : Type 0} → ℕ → (ℕ → X) → List X
tabulate zero f = []
tabulate (suc n) f = tabulate n f ++ f n ∷ []

-- what each of n lanes has claimed
abbrev pub claims_of : ℕ → List SendEvent → List Claims
claims_of n h = tabulate n (λ l. (past_of h l).claims)

-- the blocks of the plan now: those that were planned
unfoldable pub planned_now : List Block → List SendEvent → List Block
planned_now planned h = planned

-- in this version of the wire that is all that was planned
pub planned_now-is : (planned : List Block) (h : List SendEvent) → planned_now planned h ≡ planned
unfolding planned_now
planned_now-is planned h = refl

-- the blocks of the plan that wait for a lane
abbrev pub queue_of : List Block → List Claims → List Block
queue_of blocks lanes = filter (is_queued lanes) blocks

-- each planned block waits or stands in one lane's list, as often as in the plan
abbrev pub AreShared : List Block → List Block → List Claims → Type 0
AreShared planned waiting lanes = (block : Block) → count_of block waiting + count_kept block lanes ≡ count_of block planned

-- how many blocks are being written
abbrev pub holding : List Claims → ℕ
holding lanes = count_by is_held lanes

-- the least of a list of blocks by file and offset: the first, since the plan rises
abbrev pub least_of : List Block → Option Block
least_of [] = None
least_of (b ∷ bs) = Some b

-- the blocks that wait, where there are n lanes
abbrev pub queued : ℕ → List Block → List SendEvent → List Block
queued n planned h = queue_of (planned_now planned h) (claims_of n h)

-- how many blocks wait or are being written
abbrev pub unfinished : ℕ → List Block → List SendEvent → ℕ
unfinished n planned h = length (queued n planned h) + holding (claims_of n h)

-- ---- which entries change what lanes have claimed

-- the entry changes what some lane has claimed
abbrev pub changes_claims : SendEvent → Bool
changes_claims (Greet l n) = true
changes_claims (Claim l b) = true
changes_claims (Sent l) = true
changes_claims (Global k l n) = true
changes_claims (Finish l) = true
changes_claims _ = false
