-- Counts that a lane is told, right and wrong.
use Rattle.std.proofs.Common.{◌≡◌, ◌≢◌, ◌⊎◌, ℕ, ◌<◌, ◌≤◌, ◌==◌, ◌&&◌, List, length, Bool, true, false, if◌then◌else◌, Option, Some, None, option_map, subst, sym, ◌∙◌, refl, nat_le}
use Rattle.std.proofs.lemmas.Bool.{and_parts, eqb-true, leb-true}
use Rattle.std.proofs.lemmas.Option.{same_Some}
use Rattle.wdt_claims.specs.LaneWords.{Claims}
use Rattle.wdt_units.specs.declared.blocks.Block.{Block}
use Rattle.wdt_sender_fsm.specs.declared.events.SendEvent.{SendEvent}
use Rattle.wdt_sender_fsm.specs.declared.peers.PeerKind.{PeerKind}
use Rattle.wdt_sender_fsm.specs.declared.peers.PeerKind.TheVariants as peers
use Rattle.wdt_claims.specs.Checks.{fault_by, fault_of}
use Rattle.wdt_claims.specs.declared.check.CheckFail.{CheckFail}
use Rattle.wdt_claims.specs.declared.check.CheckFail.TheVariants as fails
use Rattle.wdt_sender_fsm.specs.Faults.{count_fault, kind_of}
use Rattle.wdt_sender_fsm.specs.Legal.{IsFault}
use Rattle.wdt_sender_fsm.specs.SenderHistory.{past_of}

-- ---- no fault

-- at least what has surely landed, and at most what was claimed
abbrev pub IsWithin : Claims → ℕ → Type 0
IsWithin s n = (s.sure ≤ n) × (n ≤ length s.kept)

-- the count of a closed lane is the one that closed it
abbrev pub TellsBy : Option ℕ → Claims → ℕ → Type 0
TellsBy None s n = IsWithin s n
TellsBy (Some before) s n = n ≡ before

right_open : (low high n : ℕ) (b : Bool) → (nat_le low n && nat_le n high) ≡ b → option_map kind_of (if b then None else Some (fails.BadCheckpoint n low high)) ≡ None → (low ≤ n) × (n ≤ high)
right_open low high n true is e = let both = and_parts (nat_le low n) (nat_le n high) is in (leb-true low n both.0, leb-true n high both.1)
right_open low high n false is e = cc

right_closed : (n before : ℕ) (b : Bool) → (n == before) ≡ b → option_map kind_of (if b then None else Some (fails.Differs n before)) ≡ None → n ≡ before
right_closed n before true is e = eqb-true n before is
right_closed n before false is e = cc

pub tells : (o : Option ℕ) (s : Claims) (n : ℕ) → option_map kind_of (fault_by o s n) ≡ None → TellsBy o s n
tells None s n e = right_open s.sure (length s.kept) n (nat_le s.sure n && nat_le n (length s.kept)) refl e
tells (Some before) s n e = right_closed n before (n == before) refl e

-- of a lane that isn't closed
pub within : (s : Claims) (n : ℕ) → s.closed ≡ None → count_fault s n ≡ None → IsWithin s n
within s n opens right = subst (λ (o : Option ℕ). TellsBy o s n) opens (tells s.closed s n right)

-- of any lane, by its number
pub tells_at : (h : List SendEvent) (k l n : ℕ) → k ≡ l → count_fault (past_of h k).claims n ≡ None → TellsBy (past_of h l).claims.closed (past_of h l).claims n
tells_at h k l n e right = subst (λ (j : ℕ). TellsBy (past_of h j).claims.closed (past_of h j).claims n) e (tells (past_of h k).claims.closed (past_of h k).claims n right)

-- ---- a fault

-- what is wrong with a count of a lane may be said by a lane that is another one, or reads of itself while
-- it isn't closed
pub wrong : (n : ℕ) (planned : List Block) (h : List SendEvent) (l of count : ℕ) (kind : PeerKind) → of < n → (of ≢ l) ⊎ ((past_of h of).claims.closed ≡ None) → count_fault (past_of h of).claims count ≡ Some kind → IsFault n planned h l kind
wrong n planned h l of count kind there whose e = go (fault_of (past_of h of).claims count) refl e where
  go : (o : Option CheckFail) → fault_of (past_of h of).claims count ≡ o → option_map kind_of o ≡ Some kind → IsFault n planned h l kind
  go None is x = cc
  go (Some (fails.BadCheckpoint a low high)) is x =
      subst (λ (k : PeerKind). IsFault n planned h l k) (same_Some (peers.BadCheckpoint a low high) kind x)
      record { of = of; count = count; within = there; whose = whose; wrong = e ∙ sym x }
  go (Some (fails.Differs a before)) is x =
      subst (λ (k : PeerKind). IsFault n planned h l k) (same_Some (peers.Differs a before) kind x)
      record { of = of; count = count; within = there; whose = whose; wrong = e ∙ sym x }
