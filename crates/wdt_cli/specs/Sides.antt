-- What a receiving end leaves, once its lanes have ended.
use Rattle.std.specs.Prelude.{◌≡◌, ◌↔◌, ◌⊎◌, ◌≤◌, ℕ, true, false, List, [], length, map, Option, Some, None}
use Rattle.std.specs.List.{All}
use Rattle.wdt_units.specs.declared.limits.TheConstants.{MAX_LANES}
use Rattle.wdt_gate.specs.Told.{upto}
use Rattle.wdt_units.specs.declared.numbers.LaneSet.{LaneSet}
use Rattle.wdt_tree.specs.Told.{ToldRun}
use Rattle.wdt_depot.specs.State.{State}
use Rattle.wdt_sender_fsm.specs.declared.answers.EndAnswer.TheVariants as answers
use Rattle.wdt_receiver_fsm.specs.declared.events.RecvEvent.{RecvEvent}
use Rattle.wdt_receiver_fsm.specs.Answered.{IsHeard, has_all_done}
use Rattle.wdt_receiver_fsm.specs.Batched.{IsBatched}
use Rattle.wdt_receiver_fsm.specs.PlainReceiver.{PlainReceiver}
use Rattle.wdt_receiver_fsm.specs.Receiver.{IsReceiver}
use Rattle.wdt_dock.specs.Dock.{LogRests}
use Rattle.wdt_dock.specs.DockView.{HasLostDisk}
use Rattle.wdt_lanes.specs.LaneLists.{EachLane}
use Rattle.wdt_lanes.specs.Seats.{IsBack}
use Rattle.wdt_recv_lanes.specs.Kept.{IsKept as IsKeptDock, Started}
use Rattle.wdt_tool.specs.declared.status.Status.{Status}
use Rattle.wdt_tool.specs.declared.status.Status.TheVariants.{NoMemory}
use Rattle.wdt_sending.specs.Judging.{has_some, status_of}
use Rattle.wdt_sending.specs.Leaves.{IsLegalBySome}
use Rattle.wdt_sending.specs.Sending.{MetAtRest}

-- the lanes of an end may run: it has the passes of all lanes of its hub, and an acceptor with no connection out
-- for each
pub record MayReceive {H P A : Type 0} (has : H → P → Type 0) (lane : P → ℕ) (lanes : H → ℕ) (out : A → ℕ) (hub : H) (passes : List P) (acceptors : List A) : Type 0 where
  pub own : All (has hub) passes
  pub each : map lane passes ≡ upto 0 (lanes hub)
  pub few : lanes hub ≤ MAX_LANES
  pub as_many : length acceptors ≡ lanes hub
  pub home : All (λ acceptor. out acceptor ≡ 0) acceptors

-- The plain receiver that it was in the end, of its run and over its depot, whose log is at rest unless the disk
-- failed, and what its status comes of.
pub record ReceiverTaken {D : Type 0} (state : D → State) (run : Option ToldRun) (start : Started) (cut alarmed : LaneSet)
    (depot : Option D) (history : List RecvEvent) (status : Status) : Type 0 where
  pub received : PlainReceiver
  pub is_receiver : IsReceiver received
  pub batched : IsBatched received
  pub done : (received.answer ≡ answers.Done) ↔ (has_all_done received ≡ true)
  pub heard : IsHeard received.answer received.history
  pub over : D
  pub back : depot ≡ Some over
  pub kept : IsKeptDock run start received (state over)
  pub rests : (HasLostDisk received.answer → ⊥) → LogRests received (state over)
  pub spots : (state over).spots ≡ []
  pub noted : history ≡ received.history
  pub judged : status ≡ status_of false (has_some cut) (has_some alarmed) received.answer

-- it was taken so, or there was no memory to take it: then there is neither a history nor a depot
abbrev pub ReceiverEnds : {D : Type 0} → (D → State) → Option ToldRun → Started → LaneSet → LaneSet → Option D → List RecvEvent → Status → Type 0
ReceiverEnds state run start cut alarmed depot history status =
    ((status ≡ NoMemory) × (history ≡ []) × (depot ≡ None)) ⊎ ReceiverTaken state run start cut alarmed depot history status

-- The acceptors come back in the order of the lanes, the history is legal, and what the lanes met has its causes.
pub record ReceiverLeaves {D A : Type 0} (state : D → State) (faults alarms out mark : A → ℕ) (run : Option ToldRun) (start : Started)
    (acceptors more_acceptors : List A) (depot : Option D) (history : List RecvEvent) (status : Status) : Type 0 where
  pub acceptors_back : EachLane (λ lane old new. IsBack out mark old new) acceptors more_acceptors
  pub legal : IsLegalBySome history
  pub cut : LaneSet
  pub alarmed : LaneSet
  pub ended : ReceiverEnds state run start cut alarmed depot history status
  pub cut_by : MetAtRest cut faults acceptors more_acceptors
  pub alarmed_by : MetAtRest alarmed alarms acceptors more_acceptors
