-- What both ends of a copy leave, by the status that they come to.
use Rattle.std.proofs.Common.{◌≡◌, ◌⊎◌, inl, inr, ℕ, Bool, true, false, List, length, Option, Some, None, IfSome, sym, ap, ◌∙◌, subst}
use Rattle.std.specs.List.{Contains}
use Rattle.wdt_units.specs.Counts.{Rises, capped}
use Rattle.wdt_units.specs.Tree.{File}
use Rattle.wdt_units.specs.declared.numbers.Lane.{Lane}
use Rattle.wdt_units.specs.declared.numbers.LaneSet.{LaneSet}
use Rattle.wdt_tree.specs.Told.{ToldRun}
use Rattle.wdt_depot.specs.State.{State}
use Rattle.wdt_sender_fsm.specs.declared.answers.EndAnswer.{EndAnswer}
use Rattle.wdt_sender_fsm.specs.declared.answers.EndAnswer.TheVariants as answers
use Rattle.wdt_sender_fsm.specs.declared.events.SendEvent.{SendEvent}
use Rattle.wdt_sender_fsm.specs.declared.events.SendEvent.TheVariants as sends
use Rattle.wdt_sender_fsm.specs.declared.peers.PeerKind.{PeerKind}
use Rattle.wdt_sender_fsm.specs.declared.peers.PeerKind.TheVariants.{BadFrame}
use Rattle.wdt_sender_fsm.specs.PlainSender.{PlainSender}
use Rattle.wdt_sender_fsm.specs.Sender.{IsSender}
use Rattle.wdt_receiver_fsm.specs.declared.events.RecvEvent.{RecvEvent}
use Rattle.wdt_receiver_fsm.specs.declared.events.RecvEvent.TheVariants as receives
use Rattle.wdt_receiver_fsm.specs.Answered.{IsHeard}
use Rattle.wdt_lanes.specs.Kept.{Begun}
use Rattle.wdt_lanes.specs.LaneLists.{EachLane}
use Rattle.wdt_lanes.specs.Seats.{SameSource}
use Rattle.wdt_recv_lanes.specs.Kept.{Started}
use Rattle.wdt_yard.specs.Turns.{IsLegalOfSome}
use Rattle.wdt_tool.specs.declared.status.Status.{Status}
use Rattle.wdt_tool.specs.declared.status.Status.TheVariants.{Done, SourceFault, LinkFault, Peer, Aborted, NoMemory}
use Rattle.wdt_sending.specs.Causes.{HasAbort, HasPeer}
use Rattle.wdt_sending.specs.Counted.{SomeRose}
use Rattle.wdt_sending.specs.Judging.{has_some}
use Rattle.wdt_sending.specs.Leaves.{IsLegalBySome, LeavesHistories, LeavesLinks, LeavesSources, LinkRose}
use Rattle.wdt_sending.specs.Sending.{MetAtRest, MetBy}
use Rattle.wdt_sending.proofs.ForCallers.{IsAnswerOf, NotesAborts, NotesPeers, lost_for, peer_for, received_entry, sent_entry}
use Rattle.wdt_cli.proofs.Ends.{Ends, EndsOr, answer_behind}

-- ---- sources

pub sources_left : {S D : Type 0} (told : S → Option (List File)) (faults slips : S → ℕ) {state : D → State} {run : Option ToldRun} {begun : Begun} {start : Started}
    {lost cut alarmed far_cut far_alarmed : LaneSet}
    {h : List SendEvent} {depot : Option D} {g : List RecvEvent} {status : Status} (old new : List S) → EachLane (λ lane a b. SameSource told slips run a b) old new → MetBy lost faults old new
    → EndsOr state run begun start lost cut alarmed far_cut far_alarmed h depot g status → LeavesSources told faults slips run status old new
sources_left told faults slips {state = state} {run = run} {begun = begun} {start = start} {lost = lost} {cut = cut} {alarmed = alarmed} {far_cut = far_cut} {far_alarmed = far_alarmed} {h = h}
    {depot = depot} {g = g} {status = status} old new back lost_by ends =
    record { back = back; fault = λ is. go ends is }
  where
    go : EndsOr state run begun start lost cut alarmed far_cut far_alarmed h depot g status → status ≡ SourceFault → SomeRose faults old new
    go (inl starved) is = absurd (cc)
    go (inr e) is = lost_by
        (lost_for (has_some lost) (has_some cut) (has_some alarmed) e.sent.sent.answer (has_some far_cut) (has_some far_alarmed) e.received.received.answer (answer_behind e SourceFault is))

-- ---- connections

-- what lanes of either end met came with a count that rose
either_met : {C A : Type 0} (near : C → ℕ) (far : A → ℕ) (set far_set : LaneSet) (dialers more_dialers : List C) (acceptors more_acceptors : List A) → MetAtRest set near dialers more_dialers
    → MetAtRest far_set far acceptors more_acceptors
    → (has_some set ≡ true) ⊎ (has_some far_set ≡ true) → LinkRose near far dialers more_dialers acceptors more_acceptors
either_met near far set far_set dialers more_dialers acceptors more_acceptors by far_by (inl met) = inl (by met)
either_met near far set far_set dialers more_dialers acceptors more_acceptors by far_by (inr met) = inr (far_by met)

second_of : {A B C D : Type 0} → (A × B) ⊎ (C × D) → B ⊎ D
second_of (inl x) = inl x.1
second_of (inr x) = inr x.1

pub links_left : {C A D : Type 0} (faults alarms : C → ℕ) (far_faults far_alarms : A → ℕ) {state : D → State} {run : Option ToldRun} {begun : Begun} {start : Started}
    {lost cut alarmed far_cut far_alarmed : LaneSet}
    {h : List SendEvent} {depot : Option D} {g : List RecvEvent} {status : Status} (dialers more_dialers : List C) (acceptors more_acceptors : List A) → MetAtRest cut faults dialers more_dialers
    → MetAtRest alarmed alarms dialers more_dialers
    → MetAtRest far_cut far_faults acceptors more_acceptors → MetAtRest far_alarmed far_alarms acceptors more_acceptors
    → EndsOr state run begun start lost cut alarmed far_cut far_alarmed h depot g status → LeavesLinks faults alarms far_faults far_alarms status dialers more_dialers acceptors more_acceptors
links_left faults alarms far_faults far_alarms {cut = cut} {alarmed = alarmed} {far_cut = far_cut}
    {far_alarmed = far_alarmed} dialers more_dialers acceptors more_acceptors cut_by alarmed_by far_cut_by far_alarmed_by (inl starved) =
    record { link_fault = λ is. absurd (cc); bad_frame = λ at is. absurd (cc); aborted = λ code is. absurd (cc) }
links_left faults alarms far_faults far_alarms {cut = cut} {alarmed = alarmed} {far_cut = far_cut}
    {far_alarmed = far_alarmed} dialers more_dialers acceptors more_acceptors cut_by alarmed_by far_cut_by far_alarmed_by (inr e) =
    record {
      link_fault = λ is. either_met faults far_faults cut far_cut dialers more_dialers acceptors more_acceptors cut_by far_cut_by (second_of (answer_behind e LinkFault is));
      bad_frame = λ at is. either_met alarms far_alarms alarmed far_alarmed dialers more_dialers acceptors more_acceptors alarmed_by far_alarmed_by
          (second_of (answer_behind e (Peer (BadFrame at)) is));
      aborted = λ code is. either_met alarms far_alarms alarmed far_alarmed dialers more_dialers acceptors more_acceptors alarmed_by far_alarmed_by (second_of (answer_behind e (Aborted code) is));
    }

-- ---- histories

pub histories_left : {D : Type 0} {state : D → State} {run : Option ToldRun} {begun : Begun} {start : Started} {lost cut alarmed far_cut far_alarmed : LaneSet} (h : List SendEvent)
    {depot : Option D} (g : List RecvEvent)
    {status : Status} → NotesPeers → NotesAborts → IsLegalOfSome h → IsLegalBySome g → EndsOr state run begun start lost cut alarmed far_cut far_alarmed h depot g status → LeavesHistories h g status
histories_left h g peers aborts legal far_legal (inl starved) = record { sent = legal; received = far_legal; peer = λ kind is. absurd (cc); aborted = λ code is. absurd (cc) }
histories_left {lost = lost} {cut = cut} {alarmed = alarmed} {far_cut = far_cut} {far_alarmed = far_alarmed} h g {status = status} peers aborts legal far_legal (inr e) =
    record { sent = legal; received = far_legal; peer = λ kind is. heard kind (answer_behind e (Peer kind) is); aborted = λ code is. failed code (answer_behind e (Aborted code) is) }
  where
    heard : (kind : PeerKind) → IsAnswerOf (has_some lost) (has_some cut) (has_some alarmed) e.sent.sent.answer (Peer kind) ⊎ IsAnswerOf false (has_some far_cut)
        (has_some far_alarmed) e.received.received.answer (Peer kind)
        → HasPeer kind h g
    heard kind (inl of) = inl
        (sent_entry e.sent.sent.history h (λ l. sends.Peer l kind) e.sent.noted
        (peers e.sent.sent kind e.sent.is_sender (peer_for (has_some lost) (has_some cut) (has_some alarmed) e.sent.sent.answer kind of)))
    heard kind (inr of) =
        let is : e.received.received.answer ≡ answers.Peer kind = peer_for false (has_some far_cut) (has_some far_alarmed) e.received.received.answer kind of in
        inr (received_entry e.received.received.history g (λ l. receives.Peer l kind) e.received.noted (subst (λ (x : EndAnswer). IsHeard x e.received.received.history) is e.received.heard))

    failed : (code : ℕ) → IsAnswerOf (has_some lost) (has_some cut) (has_some alarmed) e.sent.sent.answer (Aborted code) ⊎ IsAnswerOf false (has_some far_cut)
        (has_some far_alarmed) e.received.received.answer (Aborted code)
        → HasAbort code h g
    failed code (inl of) = inl (sent_entry e.sent.sent.history h (λ l. sends.Abort l code) e.sent.noted (aborts e.sent.sent code e.sent.is_sender of.0))
    failed code (inr of) = inr
        (received_entry e.received.received.history g (λ l. receives.Abort l code) e.received.noted (subst (λ (x : EndAnswer). IsHeard x e.received.received.history) of.0 e.received.heard))
