use Rattle.std.proofs.Common.{◌≡◌, ◌<◌, List, length, map, ap, ◌∙◌, refl, sym, subst}
use Rattle.wdt_units.specs.declared.failures.NoMemory.{NoMemory}
use Rattle.wdt_depot.specs.Moments.{IfTold}
use Rattle.wdt_depot.specs.State.{Counts}
use Rattle.wdt_receiver_fsm.specs.Acts.{IsActOf}
use Rattle.wdt_receiver_fsm.specs.Batched.{IsBatched}
use Rattle.wdt_receiver_fsm.specs.Causes.{Follows}
use Rattle.wdt_receiver_fsm.specs.Outcomes.{Comes}
use Rattle.wdt_receiver_fsm.specs.Receiver.{IsReceiver}
use Rattle.wdt_receiver_fsm.specs.Turn.{Bytes}
use Rattle.wdt_dock.specs.Desk.{plain_of}
use Rattle.wdt_dock.specs.DockGood.{DockGood, PutOf}
use Rattle.wdt_dock.specs.DockView.{LosesDisk}
use Rattle.wdt_dock.proofs.Fewness.{IsFew, few_stays}
use Rattle.wdt_dock.proofs.Stepped.{bytes_logs, done_step, stepped}
use Rattle.wdt_logfmt.specs.View.{NamedFile}
use Rattle.wdt_receiver_fsm.specs.Logging.{log_after}
use Rattle.wdt_dock.specs.Sparing.{Between, IsBeside, IsOther, LeavesCovered, LeavesOthers}
use Rattle.wdt_dock.proofs.Goodness.{files_behind_are}
use Rattle.wdt_dock.proofs.Sparing.{covered_of, others_of, spares_fewer}
use Rattle.wdt_receiver_fsm.specs.Answered.{IsAnswered}
use Rattle.wdt_receiver_fsm.specs.Stops.{is_stop, is_through, stops}
use Rattle.wdt_receiver_fsm.specs.PlainReceiver.{state_at}
use Rattle.wdt_sender_fsm.specs.Rules.{is_failure}
use Rattle.wdt_receiver_fsm.proofs.ForCallers.{step_stops, turn_answered}
use Rattle.wdt_receiver_fsm.specs.PlainReceiver.{PlainReceiver}
use Rattle.wdt_receiver_fsm.specs.Touches.{StaysThere}
use Rattle.wdt_logfmt.specs.Marks.{marked_of}
use Rattle.wdt_dock.proofs.Flushed.{continues}
use Rattle.wdt_receiver_fsm.proofs.ForCallers.{marks_follow, there_stays}
use Rattle.wdt_dock.proofs.dock.Dock.piece.Goals as goal

pub invariant_of-self : goal.invariant_of-self
invariant_of-self g c =
    let i = c.self.inside in
    let a = plain_of i.end i.log i.writer in
    let b = plain_of c.turn_piece.new.end c.turn_piece.new.log c.turn_piece.new.writer in
    let put = Bytes c.args.bytes.now in
    let s0 = g.D.Depot.state i.depot in
    let s1 = g.D.Depot.state c.turn_piece.new.depot in
    let within = subst (λ v. c.args.lane.0 < length v.plain.lanes) (sym c.self.view_is) c.requires.lane in
    let batched = stepped NoMemory c.turn_piece.result a b c.args.lane put s0 s1 IsBatched c.turn_piece.ensures.turns c.turn_piece.ensures.memory c.self.invariant.batched
    (λ act ends. c.batches_add_up.ensures.keeps a c.args.lane put (act, b) c.self.invariant.batched (bytes_logs i.end i.log i.writer c.self.invariant.desk c.args.lane within c.args.bytes.now) ends) in
    record {
      desk = c.turn_piece.ensures.desk;
      rest = c.turn_piece.ensures.rest;
      receiver = stepped NoMemory c.turn_piece.result a b c.args.lane put s0 s1 IsReceiver c.turn_piece.ensures.turns c.turn_piece.ensures.memory c.self.invariant.receiver
          (λ act ends. c.receivers_stay_receivers.ensures.keeps a c.args.lane put (act, b) c.self.invariant.receiver within ends);
      batched = batched;
      few = stepped NoMemory c.turn_piece.result a b c.args.lane put s0 s1 IsFew c.turn_piece.ensures.turns c.turn_piece.ensures.memory c.self.invariant.few
          (λ act ends. few_stays a c.args.lane put (act, b) c.self.invariant.few batched (c.failures_have_causes.ensures.follows a c.args.lane put (act, b) ends) (c.steps_have_outcomes.ensures a c.args.lane put (act, b) ends));
      answered = stepped NoMemory c.turn_piece.result a b c.args.lane put s0 s1 IsAnswered c.turn_piece.ensures.turns c.turn_piece.ensures.memory c.self.invariant.answered
          (λ act ends. turn_answered a c.args.lane put (act, b) c.self.invariant.receiver within c.self.invariant.answered ends);
    }

pub returns-clause-lawful : goal.returns-clause-lawful
returns-clause-lawful g c =
    let i = c.self.inside in
    let a = plain_of i.end i.log i.writer in
    let b = plain_of c.turn_piece.new.end c.turn_piece.new.log c.turn_piece.new.writer in
    let put = Bytes c.args.bytes.now in
    let s0 = g.D.Depot.state i.depot in
    let s1 = g.D.Depot.state c.turn_piece.new.depot in
    let within = subst (λ v. c.args.lane.0 < length v.plain.lanes) (sym c.self.view_is) c.requires.lane in
    stepped NoMemory c.turn_piece.result a b c.args.lane put s0 s1 IsReceiver c.turn_piece.ensures.turns c.turn_piece.ensures.memory c.self.invariant.receiver
    (λ act ends. c.receivers_stay_receivers.ensures.keeps a c.args.lane put (act, b) c.self.invariant.receiver within ends)

pub returns-clause-batched : goal.returns-clause-batched
returns-clause-batched g c =
    let i = c.self.inside in
    let a = plain_of i.end i.log i.writer in
    let b = plain_of c.turn_piece.new.end c.turn_piece.new.log c.turn_piece.new.writer in
    let put = Bytes c.args.bytes.now in
    let s0 = g.D.Depot.state i.depot in
    let s1 = g.D.Depot.state c.turn_piece.new.depot in
    let within = subst (λ v. c.args.lane.0 < length v.plain.lanes) (sym c.self.view_is) c.requires.lane in
    stepped NoMemory c.turn_piece.result a b c.args.lane put s0 s1 IsBatched c.turn_piece.ensures.turns c.turn_piece.ensures.memory c.self.invariant.batched
    (λ act ends. c.batches_add_up.ensures.keeps a c.args.lane put (act, b) c.self.invariant.batched (bytes_logs i.end i.log i.writer c.self.invariant.desk c.args.lane within c.args.bytes.now) ends)

pub returns-clause-good : goal.returns-clause-good
returns-clause-good g c T put good =
    c.turn_piece.ensures.good T (subst (λ v. PutOf T v.plain c.args.lane (Bytes c.args.bytes.now)) (sym c.self.view_is) put) (subst (λ v. IfTold (λ t. DockGood T v.plain t.now) (g.D.Depot.state v.depot).told) (sym c.self.view_is) good)

pub returns-clause-counts : goal.returns-clause-counts
returns-clause-counts g c =
    subst (λ v. Counts (LosesDisk v.plain.answer c.turn_piece.new.end.answer) (g.D.Depot.state v.depot) (g.D.Depot.state c.turn_piece.new.depot)) c.self.view_is c.turn_piece.ensures.counts

pub returns-clause-slips : goal.returns-clause-slips
returns-clause-slips g c T =
    subst (λ v. IfTold (λ t. DockGood T v.plain t.now → (g.D.Depot.state c.turn_piece.new.depot).slips ≡ (g.D.Depot.state v.depot).slips) (g.D.Depot.state v.depot).told) c.self.view_is (c.turn_piece.ensures.slips T)

pub returns-clause-comes : goal.returns-clause-comes
returns-clause-comes g c =
    let i = c.self.inside in
    let a = plain_of i.end i.log i.writer in
    let b = plain_of c.turn_piece.new.end c.turn_piece.new.log c.turn_piece.new.writer in
    let put = Bytes c.args.bytes.now in
    let s0 = g.D.Depot.state i.depot in
    let s1 = g.D.Depot.state c.turn_piece.new.depot in
    let within = subst (λ v. c.args.lane.0 < length v.plain.lanes) (sym c.self.view_is) c.requires.lane in
    done_step NoMemory c.turn_piece.result a b c.args.lane put s0 s1 (λ act. Comes c.args.self.now.plain c.args.lane (Bytes c.args.bytes.now) (act, b)) c.turn_piece.ensures.turns (λ act ends. subst (λ v. Comes v.plain c.args.lane (Bytes c.args.bytes.now) (act, b)) c.self.view_is (c.steps_have_outcomes.ensures a c.args.lane put (act, b) ends))

pub returns-clause-acts : goal.returns-clause-acts
returns-clause-acts g c =
    let i = c.self.inside in
    let a = plain_of i.end i.log i.writer in
    let b = plain_of c.turn_piece.new.end c.turn_piece.new.log c.turn_piece.new.writer in
    let put = Bytes c.args.bytes.now in
    let s0 = g.D.Depot.state i.depot in
    let s1 = g.D.Depot.state c.turn_piece.new.depot in
    let within = subst (λ v. c.args.lane.0 < length v.plain.lanes) (sym c.self.view_is) c.requires.lane in
    done_step NoMemory c.turn_piece.result a b c.args.lane put s0 s1 (λ act. IsActOf c.args.self.now.plain c.args.lane (act, b)) c.turn_piece.ensures.turns (λ act ends. subst (λ v. IsActOf v.plain c.args.lane (act, b)) c.self.view_is (c.acts_follow_from_lanes.ensures a c.args.lane put (act, b) c.self.invariant.receiver.few within ends))

pub returns-clause-follows : goal.returns-clause-follows
returns-clause-follows g c =
    let i = c.self.inside in
    let a = plain_of i.end i.log i.writer in
    let b = plain_of c.turn_piece.new.end c.turn_piece.new.log c.turn_piece.new.writer in
    let put = Bytes c.args.bytes.now in
    let s0 = g.D.Depot.state i.depot in
    let s1 = g.D.Depot.state c.turn_piece.new.depot in
    let within = subst (λ v. c.args.lane.0 < length v.plain.lanes) (sym c.self.view_is) c.requires.lane in
    done_step NoMemory c.turn_piece.result a b c.args.lane put s0 s1 (λ act. Follows c.args.self.now.plain c.args.lane (Bytes c.args.bytes.now) b) c.turn_piece.ensures.turns (λ act ends. subst (λ v. Follows v.plain c.args.lane (Bytes c.args.bytes.now) b) c.self.view_is (c.failures_have_causes.ensures.follows a c.args.lane put (act, b) ends))

pub returns-clause-lanes : goal.returns-clause-lanes
returns-clause-lanes g c =
    let i = c.self.inside in
    let a = plain_of i.end i.log i.writer in
    let b = plain_of c.turn_piece.new.end c.turn_piece.new.log c.turn_piece.new.writer in
    let put = Bytes c.args.bytes.now in
    let s0 = g.D.Depot.state i.depot in
    let s1 = g.D.Depot.state c.turn_piece.new.depot in
    let within = subst (λ v. c.args.lane.0 < length v.plain.lanes) (sym c.self.view_is) c.requires.lane in
    let same = stepped NoMemory c.turn_piece.result a b c.args.lane put s0 s1 (λ x. length x.lanes ≡ length a.lanes) c.turn_piece.ensures.turns c.turn_piece.ensures.memory refl
    (λ act ends. (c.steps_touch_their_lane.ensures a c.args.lane put (act, b) ends).lanes) in
    subst (λ v. length b.lanes ≡ length v.plain.lanes) c.self.view_is same

pub returns-clause-others : goal.returns-clause-others
returns-clause-others g c =
    let i = c.self.inside in
    let a = (g.D.Depot.state i.depot).told in
    let b = (g.D.Depot.state c.turn_piece.new.depot).told in
    subst (λ v. Between (LeavesOthers (IsOther v.plain.known (Bytes c.args.bytes.now))) (g.D.Depot.state v.depot).told b) c.self.view_is
    (others_of (IsOther i.writer.known (Bytes c.args.bytes.now)) i.writer.files a b (spares_fewer (IsBeside i.writer.known) (IsOther i.writer.known (Bytes c.args.bytes.now)) i.writer.files a b (λ path other. other.beside) c.turn_piece.ensures.spares))

pub returns-clause-covered : goal.returns-clause-covered
returns-clause-covered g c =
    let i = c.self.inside in
    let a = (g.D.Depot.state i.depot).told in
    let b = (g.D.Depot.state c.turn_piece.new.depot).told in
    subst (λ v. Between (LeavesCovered (log_after v.plain).files) (g.D.Depot.state v.depot).told b) c.self.view_is
    (subst (λ (fs : List NamedFile). Between (LeavesCovered fs) a b) (sym (files_behind_are i.end i.log i.writer c.self.invariant.desk.books))
    (covered_of (IsBeside i.writer.known) i.writer.files a b c.turn_piece.ensures.spares))

pub returns-clause-stops : goal.returns-clause-stops
returns-clause-stops g c =
    let i = c.self.inside in
    let a = plain_of i.end i.log i.writer in
    let b = plain_of c.turn_piece.new.end c.turn_piece.new.log c.turn_piece.new.writer in
    let put = Bytes c.args.bytes.now in
    let s0 = g.D.Depot.state i.depot in
    let s1 = g.D.Depot.state c.turn_piece.new.depot in
    let within = subst (λ v. c.args.lane.0 < length v.plain.lanes) (sym c.self.view_is) c.requires.lane in
    done_step NoMemory c.turn_piece.result a b c.args.lane put s0 s1
    (λ act. is_stop act ≡ stops (state_at c.args.self.now.plain c.args.lane.0) (Bytes c.args.bytes.now) (is_through b c.args.lane.0) (is_failure b.answer)) c.turn_piece.ensures.turns
    (λ act ends. subst (λ v. is_stop act ≡ stops (state_at v.plain c.args.lane.0) (Bytes c.args.bytes.now) (is_through b c.args.lane.0) (is_failure b.answer)) c.self.view_is
    (step_stops a c.args.lane put (act, b) c.self.invariant.receiver (c.receivers_stay_receivers.ensures.keeps a c.args.lane put (act, b) c.self.invariant.receiver within ends) c.self.invariant.answered within
    (subst (λ n. c.args.lane.0 < n) (sym (c.steps_touch_their_lane.ensures a c.args.lane put (act, b) ends).lanes) within) (c.steps_have_outcomes.ensures a c.args.lane put (act, b) ends)))

pub returns-clause-stays : goal.returns-clause-stays
returns-clause-stays g c =
    let i = c.self.inside in
    let a = plain_of i.end i.log i.writer in
    let b = plain_of c.turn_piece.new.end c.turn_piece.new.log c.turn_piece.new.writer in
    let put = Bytes c.args.bytes.now in
    let s0 = g.D.Depot.state i.depot in
    let s1 = g.D.Depot.state c.turn_piece.new.depot in
    let books = c.self.invariant.desk.books in
    let marks = marks_follow a c.self.invariant.batched (continues i.log i.writer books) ∙ ap (map marked_of) (files_behind_are i.end i.log i.writer books) in
    subst (λ v. StaysThere v.plain b) c.self.view_is
    (stepped NoMemory c.turn_piece.result a b c.args.lane put s0 s1 (λ (t : PlainReceiver). StaysThere a t) c.turn_piece.ensures.turns c.turn_piece.ensures.memory (λ number position there. there)
    (λ act ends. (let touches = c.steps_touch_their_lane.ensures a c.args.lane put (act, b) ends in there_stays a b c.args.lane i.writer.files touches.opening touches.history marks books.sound.are_named.view)))
