-- What a transfer over connections leaves of its sources, its connections and its histories, by the status that it ends
-- with.
use Rattle.std.specs.Prelude.{◌≡◌, ◌⊎◌, ℕ, List, Option}
use Rattle.wdt_units.specs.Counts.{capped}
use Rattle.wdt_units.specs.Tree.{File}
use Rattle.wdt_tree.specs.Told.{ToldRun}
use Rattle.wdt_sender_fsm.specs.declared.events.SendEvent.{SendEvent}
use Rattle.wdt_sender_fsm.specs.declared.peers.PeerKind.{PeerKind}
use Rattle.wdt_sender_fsm.specs.declared.peers.PeerKind.TheVariants.{BadFrame}
use Rattle.wdt_receiver_fsm.specs.Legal.{IsLegal, Terms}
use Rattle.wdt_receiver_fsm.specs.declared.events.RecvEvent.{RecvEvent}
use Rattle.wdt_lanes.specs.LaneLists.{EachLane}
use Rattle.wdt_lanes.specs.Seats.{SameSource}
use Rattle.wdt_yard.specs.Turns.{IsLegalOfSome}
use Rattle.wdt_tool.specs.declared.status.Status.{Status}
use Rattle.wdt_tool.specs.declared.status.Status.TheVariants.{SourceFault, LinkFault, Peer, Aborted}
use Rattle.wdt_sending.specs.Causes.{HasAbort, HasPeer}
use Rattle.wdt_sending.specs.Counted.{SomeRose}

-- Each source comes back as it tells its tree and was asked for its own bytes alone, and a source failed only where
-- the count of one rose.
pub record LeavesSources {S : Type 0} (told : S → Option (List File)) (faults slips : S → ℕ) (run : Option ToldRun) (status : Status) (old new : List S) : Type 0 where
  pub back : EachLane (λ lane a b. SameSource told slips run a b) old new
  pub fault : status ≡ SourceFault → SomeRose faults old new

-- the count of a dialer, as it and its connections tell it together, or that of an acceptor rose
abbrev pub LinkRose : {C A : Type 0} → (C → ℕ) → (A → ℕ) → List C → List C → List A → List A → Type 0
LinkRose {C} {A} dialed accepted dialers more_dialers acceptors more_acceptors =
    SomeRose (λ (dialer : C). capped (dialed dialer)) dialers more_dialers ⊎ SomeRose (λ (acceptor : A). capped (accepted acceptor)) acceptors more_acceptors

-- Connections failed, or were alarmed, only where a count of theirs rose.
pub record LeavesLinks {C A : Type 0} (faults alarms : C → ℕ) (faults2 alarms2 : A → ℕ) (status : Status) (dialers more_dialers : List C) (acceptors more_acceptors : List A) : Type 0 where
  pub link_fault : status ≡ LinkFault → LinkRose faults faults2 dialers more_dialers acceptors more_acceptors
  pub bad_frame : (at : ℕ) → status ≡ Peer (BadFrame at) → LinkRose alarms alarms2 dialers more_dialers acceptors more_acceptors
  pub aborted : (code : ℕ) → status ≡ Aborted code → LinkRose alarms alarms2 dialers more_dialers acceptors more_acceptors

-- a receiver's history that is legal, by some terms
abbrev pub IsLegalBySome : List RecvEvent → Type 0
IsLegalBySome g = (t : Terms) × IsLegal t g

-- Both histories are legal, and what one end heard of the other stands in them.
pub record LeavesHistories (sender : List SendEvent) (receiver : List RecvEvent) (status : Status) : Type 0 where
  pub sent : IsLegalOfSome sender
  pub received : IsLegalBySome receiver
  pub peer : (kind : PeerKind) → status ≡ Peer kind → HasPeer kind sender receiver
  pub aborted : (code : ℕ) → status ≡ Aborted code → HasAbort code sender receiver
