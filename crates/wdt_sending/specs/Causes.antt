-- Why a transfer over connections ends as it does.
use Rattle.std.specs.Prelude.{◌≡◌, ◌↔◌, ◌⊎◌, ℕ, Bool, true, false, List, length, map, Option, Some, None, IfSome}
use Rattle.std.specs.List.{Contains}
use Rattle.wdt_units.specs.Have.{HaveFile}
use Rattle.wdt_units.specs.declared.numbers.Lane.{Lane}
use Rattle.wdt_tree.specs.Listing.{IsAccepted}
use Rattle.wdt_tree.specs.Shown.{entry_of_file}
use Rattle.wdt_tree.specs.Told.{ToldRun}
use Rattle.wdt_tree.specs.declared.entry.Entry.{Entry}
use Rattle.wdt_depot.specs.Moments.{Told}
use Rattle.wdt_sender_fsm.specs.declared.answers.EndAnswer.TheVariants as answers
use Rattle.wdt_sender_fsm.specs.declared.answers.RefusedKind.{RefusedKind}
use Rattle.wdt_sender_fsm.specs.declared.answers.RefusedKind.TheVariants.{Stale, TooManyBlocks}
use Rattle.wdt_sender_fsm.specs.declared.events.SendEvent.{SendEvent}
use Rattle.wdt_sender_fsm.specs.declared.events.SendEvent.TheVariants as sends
use Rattle.wdt_sender_fsm.specs.declared.peers.PeerKind.{PeerKind}
use Rattle.wdt_sender_fsm.specs.PlainSender.{PlainSender}
use Rattle.wdt_sender_fsm.specs.Sender.{IsSender}
use Rattle.wdt_receiver_fsm.specs.declared.events.RecvEvent.{RecvEvent}
use Rattle.wdt_receiver_fsm.specs.declared.events.RecvEvent.TheVariants as receives
use Rattle.wdt_receiver_fsm.specs.Answered.{IsHeard, has_all_done}
use Rattle.wdt_receiver_fsm.specs.PlainReceiver.{PlainReceiver}
use Rattle.wdt_receiver_fsm.specs.Receiver.{IsReceiver}
use Rattle.wdt_lanes.specs.Kept.{Begun, IsKept}
use Rattle.wdt_tool.specs.Refusals.{IsListingCause, IsLogCause, plan_refusal}
use Rattle.wdt_tool.specs.declared.status.Status.{Status}
use Rattle.wdt_tool.specs.declared.status.Status.TheVariants.{Done, Usage, NoMemory, Refused}
use Rattle.wdt_words.specs.declared.command.Transfer.{Transfer}
use Rattle.wdt_words.specs.declared.command.Transfer.TheVariants.{Copy, Send, Recv}
use Rattle.wdt_sending.specs.Judging.{first_of, status_of}

-- ---- the ends

-- what the lanes of an end met: one lost its source, was cut, was alarmed
pub record Met : Type 0 where
  pub lost : Bool
  pub cut : Bool
  pub alarmed : Bool

-- A sending end ran, and what came of it: the sender is of its run and as it began, so many files are its own, the
-- history is its, and the status is what its answer comes to.
pub record SenderRan (run : Option ToldRun) (files : ℕ) (sender : List SendEvent) (status : Status) : Type 0 where
  pub sent : PlainSender
  pub is_sender : IsSender sent
  pub begun : Begun
  pub kept : IsKept run begun sent
  pub sent_is : sender ≡ sent.history
  pub counted : files ≡ length sent.manifest
  pub met : Met
  pub judged : status ≡ status_of met.lost met.cut met.alarmed sent.answer

-- A receiving end ran, and what came of it: the history is its, the status is what its answer comes to, it is done
-- exactly where its lanes are, and it noted what its answer tells that it heard.
pub record ReceiverRan (receiver : List RecvEvent) (status : Status) : Type 0 where
  pub received : PlainReceiver
  pub is_receiver : IsReceiver received
  pub received_is : receiver ≡ received.history
  pub done : (received.answer ≡ answers.Done) ↔ (has_all_done received ≡ true)
  pub heard : IsHeard received.answer received.history
  pub met : Met
  pub judged : status ≡ status_of false met.cut met.alarmed received.answer

-- both ends ran, and the status, before it was written, is the first of what their answers come to
pub record BothEnded (run : Option ToldRun) (files : ℕ) (sender : List SendEvent) (receiver : List RecvEvent) (status : Status) : Type 0 where
  pub near : Status
  pub far : Status
  pub sent : SenderRan run files sender near
  pub received : ReceiverRan receiver far
  pub judged : status ≡ first_of near far

-- ---- what an end heard

-- an end of one of the two noted what the other may not say
abbrev pub HasPeer : PeerKind → List SendEvent → List RecvEvent → Type 0
HasPeer kind sender receiver = ((l : Lane) × Contains sender (sends.Peer l kind)) ⊎ ((l : Lane) × Contains receiver (receives.Peer l kind))

-- an end of one of the two noted that the other failed, with this code
abbrev pub HasAbort : ℕ → List SendEvent → List RecvEvent → Type 0
HasAbort code sender receiver = ((l : Lane) × Contains sender (sends.Abort l code)) ⊎ ((l : Lane) × Contains receiver (receives.Abort l code))

-- neither end noted that the other failed, or said what it may not say
pub record HeardNothing (sender : List SendEvent) (receiver : List RecvEvent) : Type 0 where
  pub peer : (kind : PeerKind) → HasPeer kind sender receiver → ⊥
  pub abort : (code : ℕ) → HasAbort code sender receiver → ⊥

-- ---- refusals

-- the tree of the run isn't sent to a destination that has so much for this, where the run is told
abbrev pub IsUnsent : Option ToldRun → ℕ → RefusedKind → Type 0
IsUnsent run block kind = IfSome run (λ r. plan_refusal (map entry_of_file r.tree) r.have block ≡ Some kind)

-- one of the kinds for which a tree isn't sent
abbrev pub IsPlanKind : RefusedKind → Type 0
IsPlanKind (Stale path logged found) = Unit {0}
IsPlanKind (TooManyBlocks count) = Unit {0}
IsPlanKind other = ⊥

-- the plan is refused for this, where the run is told
abbrev pub IsPlanCause : Option ToldRun → ℕ → RefusedKind → Type 0
IsPlanCause run block kind = IsPlanKind kind × IsUnsent run block kind

-- A copy is refused for this: its listing, or else the destination's log, or else the plan of the tree against what
-- the destination has.
abbrev pub IsCopyCause : Option ToldRun → ℕ → Option (List Entry) → Option Told → RefusedKind → Type 0
IsCopyCause run block listing told kind =
    IsListingCause listing kind ⊎ ((IfSome listing IsAccepted × IsLogCause told kind) ⊎ IsPlanCause run block kind)

-- a send is refused for its listing, or else for the plan against what the receiver has
abbrev pub IsSendCause : Option ToldRun → ℕ → Option (List Entry) → RefusedKind → Type 0
IsSendCause run block listing kind = IsListingCause listing kind ⊎ IsPlanCause run block kind

-- a transfer is refused for this: a receiver for its log alone
abbrev pub IsTransferCause : Option ToldRun → Transfer → Option (List Entry) → Option Told → RefusedKind → Type 0
IsTransferCause run (Copy lanes block batch) listing told kind = IsCopyCause run block listing told kind
IsTransferCause run (Send port lanes block session) listing told kind = IsSendCause run block listing kind
IsTransferCause run (Recv port lanes batch) listing told kind = IsLogCause told kind

-- ---- completeness

-- no refusal was answered for which there is a cause
abbrev pub IsUnrefused : Option ToldRun → Option Transfer → Option (List Entry) → Option Told → Status → Type 0
IsUnrefused run None listing told status = Unit {0}
IsUnrefused run (Some transfer) listing told status = (kind : RefusedKind) → status ≡ Refused kind → IsTransferCause run transfer listing told kind → ⊥
