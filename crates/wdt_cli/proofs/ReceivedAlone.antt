-- What a receiving end leaves that runs alone, by the status that it comes to.
use Rattle.std.proofs.Common.{◌≡◌, ◌⊎◌, inl, inr, ◌<◌, ℕ, false, true, List, [], length, Option, Some, None, IfSome, refl, sym, ap, ◌∙◌, subst, arith}
use Rattle.wdt_units.specs.Tree.{File}
use Rattle.wdt_units.specs.declared.numbers.LaneSet.{LaneSet}
use Rattle.wdt_tree.specs.Told.{ToldRun}
use Rattle.wdt_depot.specs.State.{State}
use Rattle.wdt_sender_fsm.specs.declared.answers.EndAnswer.{EndAnswer}
use Rattle.wdt_sender_fsm.specs.declared.answers.RefusedKind.{RefusedKind}
use Rattle.wdt_sender_fsm.specs.declared.events.SendEvent.{SendEvent}
use Rattle.wdt_sender_fsm.specs.declared.peers.PeerKind.{PeerKind}
use Rattle.wdt_sender_fsm.specs.declared.peers.PeerKind.TheVariants.{BadFrame}
use Rattle.wdt_receiver_fsm.specs.declared.events.RecvEvent.{RecvEvent}
use Rattle.wdt_receiver_fsm.specs.declared.events.RecvEvent.TheVariants as receives
use Rattle.wdt_receiver_fsm.specs.Answered.{IsHeard}
use Rattle.wdt_dock.specs.DockView.{HasLostDisk}
use Rattle.wdt_lanes.specs.LaneLists.{EachLane}
use Rattle.wdt_recv_lanes.specs.Kept.{Started, started_of}
use Rattle.wdt_tool.specs.declared.status.Status.{Status}
use Rattle.wdt_tool.specs.declared.status.Status.TheVariants.{Done, Usage, SourceFault, DiskFault, LinkFault, Peer, Aborted, Refused, OutFault, NoMemory}
use Rattle.wdt_sending.specs.Causes.{ReceiverRan}
use Rattle.wdt_sending.specs.Judging.{has_some}
use Rattle.wdt_sending.specs.Leaves.{IsLegalBySome, LeavesHistories, LeavesLinks, LeavesSources}
use Rattle.wdt_sending.specs.Sending.{MetAtRest}
use Rattle.wdt_sending.proofs.ForCallers.{IsAnswerOf, answer_of, peer_for, none_sent, received_entry}
use Rattle.wdt_cli.specs.Carried.{DepotRose, LandsIn}
use Rattle.wdt_cli.specs.Leaves.{LeavesDepot}
use Rattle.wdt_cli.specs.Sides.{ReceiverEnds, ReceiverTaken}
use Rattle.wdt_cli.proofs.Depots.{Arrives, Keeps, keeps_of, landed_at}
use Rattle.wdt_cli.proofs.Ends.{receiver_ran}

-- the answer that a status comes of
answer_for : {D : Type 0} {state : D → State} {run : Option ToldRun} {start : Started} {cut alarmed : LaneSet} {depot : Option D} {g : List RecvEvent} {status : Status}
    (t : ReceiverTaken state run start cut alarmed depot g status) (s : Status) → status ≡ s → IsAnswerOf false (has_some cut) (has_some alarmed) t.received.answer s
answer_for {cut = cut} {alarmed = alarmed} t s is =
    subst (IsAnswerOf false (has_some cut) (has_some alarmed) t.received.answer) (sym t.judged ∙ is) (answer_of false (has_some cut) (has_some alarmed) t.received.answer)

-- a status that is want of memory is no other
is_starved : (status s : Status) → status ≡ NoMemory → status ≡ s → s ≡ NoMemory
is_starved status s starved is = sym is ∙ starved

pub depot_received : {D : Type 0} (state : D → State) (run : Option ToldRun) (before : State) {cut alarmed : LaneSet} (depot : Option D) {g : List RecvEvent} {status : Status} → Arrives
    → ReceiverEnds state run (started_of before) cut alarmed depot g status → LeavesDepot state run before status depot
depot_received {D} state run before {cut = cut} {alarmed = alarmed} depot {g = g} {status = status} arrives ends =
    record {
      landed = λ is. landed ends is;
      unwritten = λ is. absurd (unwritten ends is);
      good = keeps.good;
      images = keeps.images;
      others = keeps.others;
      slips = keeps.slips;
      spots = keeps.spots;
      fault = λ is. fault ends is;
    }
  where
    keeps : Keeps state run before depot
    keeps = keeps_of state run before cut alarmed depot g status ends

    landed : ReceiverEnds state run (started_of before) cut alarmed depot g status → status ≡ Done → IfSome run (λ r. LandsIn state r.tree depot)
    landed (inl none) is = absurd (never (is_starved status Done none.0 is)) where
      never : Done ≡ NoMemory → ⊥
      never e = cc
    landed (inr t) is = subst (λ (x : Option D). IfSome run (λ r. LandsIn state r.tree x)) (sym t.back) (landed_at before arrives t (answer_for t Done is))

    unwritten : ReceiverEnds state run (started_of before) cut alarmed depot g status → status ≡ OutFault → ⊥
    unwritten (inl none) is = never (is_starved status OutFault none.0 is) where
      never : OutFault ≡ NoMemory → ⊥
      never e = cc
    unwritten (inr t) is = answer_for t OutFault is

    fault : ReceiverEnds state run (started_of before) cut alarmed depot g status → status ≡ DiskFault → DepotRose state before depot
    fault (inl none) is = absurd (never (is_starved status DiskFault none.0 is)) where
      never : DiskFault ≡ NoMemory → ⊥
      never e = cc
    fault (inr t) is = subst (λ (x : Option D). DepotRose state before x) (sym t.back) (t.kept.lost (subst HasLostDisk (sym (answer_for t DiskFault is)) tt))

pub links_received : {C A D : Type 0} (faults alarms : C → ℕ) (far_faults far_alarms : A → ℕ) {state : D → State} {run : Option ToldRun} {start : Started} {cut alarmed : LaneSet} {depot : Option D}
    {g : List RecvEvent} {status : Status} (dialers : List C) (acceptors more_acceptors : List A) → MetAtRest cut far_faults acceptors more_acceptors → MetAtRest alarmed far_alarms acceptors more_acceptors
    → ReceiverEnds state run start cut alarmed depot g status → LeavesLinks faults alarms far_faults far_alarms status dialers dialers acceptors more_acceptors
links_received faults alarms far_faults far_alarms {status = status} dialers acceptors more_acceptors cut_by alarmed_by (inl none) =
    record {
      link_fault = λ is. absurd (no_link (is_starved status LinkFault none.0 is));
      bad_frame = λ at is. absurd (no_peer at (is_starved status (Peer (BadFrame at)) none.0 is));
      aborted = λ code is. absurd (no_abort code (is_starved status (Aborted code) none.0 is));
    }
  where
    no_link : LinkFault ≡ NoMemory → ⊥
    no_link e = cc

    no_peer : (at : ℕ) → Peer (BadFrame at) ≡ NoMemory → ⊥
    no_peer at e = cc

    no_abort : (code : ℕ) → Aborted code ≡ NoMemory → ⊥
    no_abort code e = cc
links_received faults alarms far_faults far_alarms dialers acceptors more_acceptors cut_by alarmed_by (inr t) =
    record {
      link_fault = λ is. inr (cut_by (answer_for t LinkFault is).1);
      bad_frame = λ at is. inr (alarmed_by (answer_for t (Peer (BadFrame at)) is).1);
      aborted = λ code is. inr (alarmed_by (answer_for t (Aborted code) is).1);
    }

pub histories_received : {D : Type 0} {state : D → State} {run : Option ToldRun} {start : Started} {cut alarmed : LaneSet} {depot : Option D} (h : List SendEvent) (g : List RecvEvent) {status : Status}
    → h ≡ [] → IsLegalBySome g → ReceiverEnds state run start cut alarmed depot g status → LeavesHistories h g status
histories_received h g {status = status} none legal (inl starved) =
    record {
      sent = none_sent h none;
      received = legal;
      peer = λ kind is. absurd (no_peer kind (is_starved status (Peer kind) starved.0 is));
      aborted = λ code is. absurd (no_abort code (is_starved status (Aborted code) starved.0 is));
    }
  where
    no_peer : (kind : PeerKind) → Peer kind ≡ NoMemory → ⊥
    no_peer kind e = cc

    no_abort : (code : ℕ) → Aborted code ≡ NoMemory → ⊥
    no_abort code e = cc
histories_received {cut = cut} {alarmed = alarmed} h g none legal (inr t) =
    record {
      sent = none_sent h none;
      received = legal;
      peer = λ kind is. inr
          (received_entry t.received.history g (λ l. receives.Peer l kind) t.noted
          (subst (λ (x : EndAnswer). IsHeard x t.received.history) (peer_for false (has_some cut) (has_some alarmed) t.received.answer kind (answer_for t (Peer kind) is)) t.heard));
      aborted = λ code is. inr
          (received_entry t.received.history g (λ l. receives.Abort l code) t.noted (subst (λ (x : EndAnswer). IsHeard x t.received.history) (answer_for t (Aborted code) is).0 t.heard));
    }

-- it comes to none of these
pub no_source_received : {D : Type 0} {state : D → State} {run : Option ToldRun} {start : Started} {cut alarmed : LaneSet} {depot : Option D} {g : List RecvEvent} {status : Status}
    → ReceiverEnds state run start cut alarmed depot g status → status ≡ SourceFault → ⊥
no_source_received {status = status} (inl none) is = never (is_starved status SourceFault none.0 is) where
  never : SourceFault ≡ NoMemory → ⊥
  never e = cc
no_source_received (inr t) is = not_both (answer_for t SourceFault is).1 where
  not_both : false ≡ true → ⊥
  not_both e = cc

pub no_refusal_received : {D : Type 0} {state : D → State} {run : Option ToldRun} {start : Started} {cut alarmed : LaneSet} {depot : Option D} {g : List RecvEvent} {status : Status}
    → ReceiverEnds state run start cut alarmed depot g status → (kind : RefusedKind) → status ≡ Refused kind → ⊥
no_refusal_received {status = status} (inl none) kind is = never (is_starved status (Refused kind) none.0 is) where
  never : Refused kind ≡ NoMemory → ⊥
  never e = cc
no_refusal_received (inr t) kind is = subst (λ (x : EndAnswer). IsHeard x t.received.history) (answer_for t (Refused kind) is) t.heard

pub no_usage_received : {D : Type 0} {state : D → State} {run : Option ToldRun} {start : Started} {cut alarmed : LaneSet} {depot : Option D} {g : List RecvEvent} {status : Status}
    → ReceiverEnds state run start cut alarmed depot g status → status ≡ Usage → ⊥
no_usage_received {status = status} (inl none) is = never (is_starved status Usage none.0 is) where
  never : Usage ≡ NoMemory → ⊥
  never e = cc
no_usage_received (inr t) is = answer_for t Usage is

pub no_out_received : {D : Type 0} {state : D → State} {run : Option ToldRun} {start : Started} {cut alarmed : LaneSet} {depot : Option D} {g : List RecvEvent} {status : Status}
    → ReceiverEnds state run start cut alarmed depot g status → status ≡ OutFault → ⊥
no_out_received {status = status} (inl none) is = never (is_starved status OutFault none.0 is) where
  never : OutFault ≡ NoMemory → ⊥
  never e = cc
no_out_received (inr t) is = answer_for t OutFault is

-- how it ended, unless memory ran out
pub received_or : {D : Type 0} {state : D → State} {run : Option ToldRun} {start : Started} {cut alarmed : LaneSet} {depot : Option D} {g : List RecvEvent} {status : Status}
    → ReceiverEnds state run start cut alarmed depot g status → (status ≡ NoMemory) ⊎ ReceiverRan g status
received_or (inl none) = inl none.0
received_or (inr t) = inr (receiver_ran t)

-- ---- what a transfer doesn't have

-- no object comes back where none was handed in
pub none_back : {X : Type 0} (R : ℕ → X → X → Type 0) (old new : List X) → length old ≡ 0 → new ≡ old → EachLane R old new
none_back {X} R old new none is =
    subst (λ (x : List X). EachLane R old x) (sym is) record { same = refl; at = λ lane d within. absurd (omega (arith, within, none)) }

pub no_sources : {S : Type 0} (told : S → Option (List File)) (faults slips : S → ℕ) (run : Option ToldRun) (status : Status) (old new : List S) → length old ≡ 0 → new ≡ old
    → (status ≡ SourceFault → ⊥) → LeavesSources told faults slips run status old new
no_sources told faults slips run status old new none is never = record { back = none_back _ old new none is; fault = λ e. absurd (never e) }
