-- What a sending end leaves that runs alone, by the status that it comes to.
use Rattle.std.proofs.Common.{◌≡◌, ◌⊎◌, inl, inr, ℕ, List, [], length, Option, Some, None, refl, sym, ap, ◌∙◌, subst}
use Rattle.std.specs.List.{Contains}
use Rattle.wdt_units.specs.Tree.{File}
use Rattle.wdt_units.specs.declared.numbers.Lane.{Lane}
use Rattle.wdt_units.specs.declared.numbers.LaneSet.{LaneSet}
use Rattle.wdt_tree.specs.Told.{ToldRun}
use Rattle.wdt_tree.specs.declared.entry.Entry.{Entry}
use Rattle.wdt_sender_fsm.specs.declared.answers.RefusedKind.{RefusedKind}
use Rattle.wdt_sender_fsm.specs.declared.events.SendEvent.{SendEvent}
use Rattle.wdt_sender_fsm.specs.declared.events.SendEvent.TheVariants as sends
use Rattle.wdt_sender_fsm.specs.declared.peers.PeerKind.{PeerKind}
use Rattle.wdt_sender_fsm.specs.declared.peers.PeerKind.TheVariants.{BadFrame}
use Rattle.wdt_receiver_fsm.specs.declared.events.RecvEvent.{RecvEvent}
use Rattle.wdt_lanes.specs.Kept.{Begun}
use Rattle.wdt_lanes.specs.LaneLists.{EachLane}
use Rattle.wdt_lanes.specs.Seats.{SameSource}
use Rattle.wdt_yard.specs.Turns.{IsLegalOfSome}
use Rattle.wdt_tool.specs.declared.status.Status.{Status}
use Rattle.wdt_tool.specs.declared.status.Status.TheVariants.{Usage, SourceFault, DiskFault, LinkFault, Peer, Aborted, Refused, OutFault, NoMemory}
use Rattle.wdt_sending.specs.Causes.{HasAbort, HasPeer, IsPlanCause, SenderRan}
use Rattle.wdt_sending.specs.Counted.{SomeRose}
use Rattle.wdt_sending.specs.Judging.{has_some}
use Rattle.wdt_sending.specs.Leaves.{LeavesHistories, LeavesLinks, LeavesSources, LinkRose}
use Rattle.wdt_sending.specs.Sending.{MetAtRest, MetBy, SenderEnds, SenderTaken, begun_of}
use Rattle.wdt_sending.proofs.Early.{none_received}
use Rattle.wdt_sending.proofs.Entries.{NotesAborts, NotesPeers, sent_entry}
use Rattle.wdt_sending.proofs.Judged.{IsAnswerOf, answer_of, peer_for}
use Rattle.wdt_sending.proofs.Refusals.{plan_cause}

-- the answer that a status comes of
answer_for : {run : Option ToldRun} {begun : Begun} {lost cut alarmed : LaneSet} {h : List SendEvent} {status : Status} (t : SenderTaken run begun lost cut alarmed h status) (s : Status) → status ≡ s
    → IsAnswerOf (has_some lost) (has_some cut) (has_some alarmed) t.sent.answer s
answer_for {lost = lost} {cut = cut} {alarmed = alarmed} t s is =
    subst (IsAnswerOf (has_some lost) (has_some cut) (has_some alarmed) t.sent.answer) (sym t.judged ∙ is) (answer_of (has_some lost) (has_some cut) (has_some alarmed) t.sent.answer)

-- a status that is want of memory is no other
is_starved : (status s : Status) → status ≡ NoMemory → status ≡ s → s ≡ NoMemory
is_starved status s starved is = sym is ∙ starved

pub sources_sent : {S : Type 0} (told : S → Option (List File)) (faults slips : S → ℕ) {run : Option ToldRun} {begun : Begun} {lost cut alarmed : LaneSet} {h : List SendEvent} {status : Status}
    (old new : List S) → EachLane (λ lane a b. SameSource told slips run a b) old new → MetBy lost faults old new → SenderEnds run begun lost cut alarmed h status
    → LeavesSources told faults slips run status old new
sources_sent told faults slips {run = run} {begun = begun} {lost = lost} {cut = cut} {alarmed = alarmed} {h = h} {status = status} old new back lost_by ends =
    record { back = back; fault = λ is. go ends is }
  where
    go : SenderEnds run begun lost cut alarmed h status → status ≡ SourceFault → SomeRose faults old new
    go (inl none) is = absurd (never (is_starved status SourceFault none.0 is)) where
      never : SourceFault ≡ NoMemory → ⊥
      never e = cc
    go (inr t) is = lost_by (answer_for t SourceFault is).1

pub links_sent : {C A : Type 0} (faults alarms : C → ℕ) (far_faults far_alarms : A → ℕ) {run : Option ToldRun} {begun : Begun} {lost cut alarmed : LaneSet} {h : List SendEvent} {status : Status}
    (dialers more_dialers : List C) (acceptors : List A) → MetAtRest cut faults dialers more_dialers → MetAtRest alarmed alarms dialers more_dialers → SenderEnds run begun lost cut alarmed h status
    → LeavesLinks faults alarms far_faults far_alarms status dialers more_dialers acceptors acceptors
links_sent faults alarms far_faults far_alarms {status = status} dialers more_dialers acceptors cut_by alarmed_by (inl none) =
    record {
      link_fault = λ is. absurd (no_link (is_starved status LinkFault none.0 is));
      bad_frame = λ at is. absurd (no_peer at (is_starved status (Peer (BadFrame at)) none.0 is));
      aborted = λ code is. absurd (no_abort code (is_starved status (Aborted code) none.0 is));
    }
  where
    no_link : LinkFault ≡ NoMemory → ⊥
    no_link e = cc

    no_peer : (at : ℕ) → Peer (BadFrame at) ≡ NoMemory → ⊥
    no_peer at e = cc

    no_abort : (code : ℕ) → Aborted code ≡ NoMemory → ⊥
    no_abort code e = cc
links_sent faults alarms far_faults far_alarms dialers more_dialers acceptors cut_by alarmed_by (inr t) =
    record {
      link_fault = λ is. inl (cut_by (answer_for t LinkFault is).1);
      bad_frame = λ at is. inl (alarmed_by (answer_for t (Peer (BadFrame at)) is).1);
      aborted = λ code is. inl (alarmed_by (answer_for t (Aborted code) is).1);
    }

pub histories_sent : {run : Option ToldRun} {begun : Begun} {lost cut alarmed : LaneSet} (h : List SendEvent) (g : List RecvEvent) {status : Status} → NotesPeers → NotesAborts → IsLegalOfSome h
    → g ≡ [] → SenderEnds run begun lost cut alarmed h status → LeavesHistories h g status
histories_sent h g {status = status} peers aborts legal none (inl starved) =
    record {
      sent = legal;
      received = none_received g none;
      peer = λ kind is. absurd (no_peer kind (is_starved status (Peer kind) starved.0 is));
      aborted = λ code is. absurd (no_abort code (is_starved status (Aborted code) starved.0 is));
    }
  where
    no_peer : (kind : PeerKind) → Peer kind ≡ NoMemory → ⊥
    no_peer kind e = cc

    no_abort : (code : ℕ) → Aborted code ≡ NoMemory → ⊥
    no_abort code e = cc
histories_sent {lost = lost} {cut = cut} {alarmed = alarmed} h g peers aborts legal none (inr t) =
    record {
      sent = legal;
      received = none_received g none;
      peer = λ kind is. inl
          (sent_entry t.sent.history h (λ l. sends.Peer l kind) t.noted
          (peers t.sent kind t.is_sender (peer_for (has_some lost) (has_some cut) (has_some alarmed) t.sent.answer kind (answer_for t (Peer kind) is))));
      aborted = λ code is. inl (sent_entry t.sent.history h (λ l. sends.Abort l code) t.noted (aborts t.sent code t.is_sender (answer_for t (Aborted code) is).0));
    }

pub refused_sent : {run : Option ToldRun} (manifest : List Entry) (block : ℕ) {lost cut alarmed : LaneSet} {h : List SendEvent} {status : Status}
    → SenderEnds run (begun_of manifest block) lost cut alarmed h status → (kind : RefusedKind) → status ≡ Refused kind → IsPlanCause run block kind
refused_sent manifest block {status = status} (inl none) kind is = absurd (never (is_starved status (Refused kind) none.0 is)) where
  never : Refused kind ≡ NoMemory → ⊥
  never e = cc
refused_sent manifest block (inr t) kind is = plan_cause manifest block t kind (answer_for t (Refused kind) is)

-- it comes to none of these
pub no_disk_sent : {run : Option ToldRun} {begun : Begun} {lost cut alarmed : LaneSet} {h : List SendEvent} {status : Status} → SenderEnds run begun lost cut alarmed h status → status ≡ DiskFault → ⊥
no_disk_sent {status = status} (inl none) is = never (is_starved status DiskFault none.0 is) where
  never : DiskFault ≡ NoMemory → ⊥
  never e = cc
no_disk_sent (inr t) is = t.diskless (answer_for t DiskFault is)

pub no_usage_sent : {run : Option ToldRun} {begun : Begun} {lost cut alarmed : LaneSet} {h : List SendEvent} {status : Status} → SenderEnds run begun lost cut alarmed h status → status ≡ Usage → ⊥
no_usage_sent {status = status} (inl none) is = never (is_starved status Usage none.0 is) where
  never : Usage ≡ NoMemory → ⊥
  never e = cc
no_usage_sent (inr t) is = answer_for t Usage is

pub no_out_sent : {run : Option ToldRun} {begun : Begun} {lost cut alarmed : LaneSet} {h : List SendEvent} {status : Status} → SenderEnds run begun lost cut alarmed h status → status ≡ OutFault → ⊥
no_out_sent {status = status} (inl none) is = never (is_starved status OutFault none.0 is) where
  never : OutFault ≡ NoMemory → ⊥
  never e = cc
no_out_sent (inr t) is = answer_for t OutFault is

-- how it ended, of so many files
pub sender_ran : {run : Option ToldRun} {begun : Begun} {lost cut alarmed : LaneSet} {h : List SendEvent} {status : Status} (t : SenderTaken run begun lost cut alarmed h status) (files : ℕ)
    → files ≡ length begun.manifest → SenderRan run files h status
sender_ran {begun = begun} {lost = lost} {cut = cut} {alarmed = alarmed} t files counted =
    record {
      sent = t.sent;
      is_sender = t.is_sender;
      begun = begun;
      kept = t.kept;
      sent_is = t.noted;
      counted = counted ∙ ap length (sym t.kept.manifest);
      met = record { lost = has_some lost; cut = has_some cut; alarmed = has_some alarmed };
      judged = t.judged;
    }

-- so it did unless memory ran out
pub sent_or : {run : Option ToldRun} {begun : Begun} {lost cut alarmed : LaneSet} {h : List SendEvent} {status : Status} (files : ℕ) → files ≡ length begun.manifest
    → SenderEnds run begun lost cut alarmed h status → (status ≡ NoMemory) ⊎ SenderRan run files h status
sent_or files counted (inl none) = inl none.0
sent_or files counted (inr t) = inr (sender_ran t files counted)
