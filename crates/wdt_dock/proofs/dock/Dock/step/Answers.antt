use Rattle.std.proofs.Common.{◌≡◌, ◌<◌, List, length, map, ap, ◌∙◌, refl, sym, subst}
use Rattle.wdt_units.specs.Counts.{Rises}
use Rattle.wdt_units.specs.declared.failures.NoMemory.{NoMemory}
use Rattle.wdt_depot.specs.Moments.{IfTold}
use Rattle.wdt_depot.specs.State.{Counts}
use Rattle.wdt_receiver_fsm.specs.Acts.{IsActOf}
use Rattle.wdt_receiver_fsm.specs.Batched.{IsBatched}
use Rattle.wdt_receiver_fsm.specs.Causes.{Follows}
use Rattle.wdt_receiver_fsm.specs.Outcomes.{Comes}
use Rattle.wdt_receiver_fsm.specs.Receiver.{IsReceiver}
use Rattle.wdt_receiver_fsm.specs.Turn.{Given, turn_plan}
use Rattle.wdt_receiver_fsm.proofs.ForCallers.{ends_weaker}
use Rattle.wdt_dock.specs.Desk.{plain_of}
use Rattle.wdt_dock.specs.DockGood.{DockGood, PutOf}
use Rattle.wdt_dock.specs.DockView.{LosesDisk}
use Rattle.wdt_dock.proofs.Fewness.{IsFew, few_stays}
use Rattle.wdt_dock.proofs.Stepped.{given_logs, stepped}
use Rattle.wdt_logfmt.specs.View.{NamedFile}
use Rattle.wdt_receiver_fsm.specs.Logging.{log_after}
use Rattle.wdt_dock.specs.Sparing.{Between, IsOther, LeavesCovered, LeavesOthers}
use Rattle.wdt_dock.proofs.Goodness.{files_behind_are}
use Rattle.wdt_dock.proofs.Sparing.{covered_of, others_of}
use Rattle.wdt_receiver_fsm.specs.Answered.{IsAnswered}
use Rattle.wdt_receiver_fsm.specs.Stops.{is_stop, is_through, stops}
use Rattle.wdt_receiver_fsm.specs.PlainReceiver.{state_at}
use Rattle.wdt_sender_fsm.specs.Rules.{is_failure}
use Rattle.wdt_receiver_fsm.proofs.ForCallers.{step_stops, turn_answered}
use Rattle.wdt_receiver_fsm.specs.declared.acts.RecvAct.TheVariants as acts
use Rattle.wdt_receiver_fsm.specs.Stops.{Parks}
use Rattle.wdt_receiver_fsm.proofs.ForCallers.{park_why, parks_act}
use Rattle.std.specs.Prelude.{◌↔◌}
use Rattle.wdt_receiver_fsm.specs.PlainReceiver.{PlainReceiver}
use Rattle.wdt_receiver_fsm.specs.Touches.{StaysThere}
use Rattle.wdt_logfmt.specs.Marks.{marked_of}
use Rattle.wdt_dock.proofs.Flushed.{continues}
use Rattle.wdt_receiver_fsm.proofs.ForCallers.{marks_follow, there_stays}
use Rattle.wdt_dock.proofs.dock.Dock.step.Goals as goal

pub invariant_of-self : goal.invariant_of-self
invariant_of-self g c =
    let i = c.self.inside in
    let a = plain_of i.end i.log i.writer in
    let b = plain_of c.turn.new.end c.turn.new.log c.turn.new.writer in
    let put = Given c.args.put in
    let s0 = g.D.Depot.state i.depot in
    let s1 = g.D.Depot.state c.turn.new.depot in
    let within = subst (λ v. c.args.lane.0 < length v.plain.lanes) (sym c.self.view_is) c.requires.lane in
    let batched = stepped NoMemory c.turn.result a b c.args.lane put s0 s1 IsBatched c.turn.ensures.turns c.turn.ensures.memory c.self.invariant.batched
    (λ act ends. c.batches_add_up.ensures.keeps a c.args.lane put (act, b) c.self.invariant.batched (given_logs i.end i.log i.writer c.args.lane c.args.put c.self.invariant.desk.books) ends) in
    record {
      desk = c.turn.ensures.desk;
      rest = c.turn.ensures.rest;
      receiver = stepped NoMemory c.turn.result a b c.args.lane put s0 s1 IsReceiver c.turn.ensures.turns c.turn.ensures.memory c.self.invariant.receiver
          (λ act ends. c.receivers_stay_receivers.ensures.keeps a c.args.lane put (act, b) c.self.invariant.receiver within ends);
      batched = batched;
      few = stepped NoMemory c.turn.result a b c.args.lane put s0 s1 IsFew c.turn.ensures.turns c.turn.ensures.memory c.self.invariant.few
          (λ act ends. few_stays a c.args.lane put (act, b) c.self.invariant.few batched (c.failures_have_causes.ensures.follows a c.args.lane put (act, b) ends) (c.steps_have_outcomes.ensures a c.args.lane put (act, b) ends));
      answered = stepped NoMemory c.turn.result a b c.args.lane put s0 s1 IsAnswered c.turn.ensures.turns c.turn.ensures.memory c.self.invariant.answered
          (λ act ends. turn_answered a c.args.lane put (act, b) c.self.invariant.receiver within c.self.invariant.answered ends);
    }

pub invariant_of-self-2 : goal.invariant_of-self-2
invariant_of-self-2 g c =
    let i = c.self.inside in
    let a = plain_of i.end i.log i.writer in
    let b = plain_of c.turn.new.end c.turn.new.log c.turn.new.writer in
    let put = Given c.args.put in
    let s0 = g.D.Depot.state i.depot in
    let s1 = g.D.Depot.state c.turn.new.depot in
    let within = subst (λ v. c.args.lane.0 < length v.plain.lanes) (sym c.self.view_is) c.requires.lane in
    let batched = stepped NoMemory c.turn.result a b c.args.lane put s0 s1 IsBatched c.turn.ensures.turns c.turn.ensures.memory c.self.invariant.batched
    (λ act ends. c.batches_add_up.ensures.keeps a c.args.lane put (act, b) c.self.invariant.batched (given_logs i.end i.log i.writer c.args.lane c.args.put c.self.invariant.desk.books) ends) in
    record {
      desk = c.turn.ensures.desk;
      rest = c.turn.ensures.rest;
      receiver = stepped NoMemory c.turn.result a b c.args.lane put s0 s1 IsReceiver c.turn.ensures.turns c.turn.ensures.memory c.self.invariant.receiver
          (λ act ends. c.receivers_stay_receivers.ensures.keeps a c.args.lane put (act, b) c.self.invariant.receiver within ends);
      batched = batched;
      few = stepped NoMemory c.turn.result a b c.args.lane put s0 s1 IsFew c.turn.ensures.turns c.turn.ensures.memory c.self.invariant.few
          (λ act ends. few_stays a c.args.lane put (act, b) c.self.invariant.few batched (c.failures_have_causes.ensures.follows a c.args.lane put (act, b) ends) (c.steps_have_outcomes.ensures a c.args.lane put (act, b) ends));
      answered = stepped NoMemory c.turn.result a b c.args.lane put s0 s1 IsAnswered c.turn.ensures.turns c.turn.ensures.memory c.self.invariant.answered
          (λ act ends. turn_answered a c.args.lane put (act, b) c.self.invariant.receiver within c.self.invariant.answered ends);
    }

pub returns-in-Err-clause-good : goal.returns-in-Err-clause-good
returns-in-Err-clause-good g c T put good =
    c.turn.ensures.good T (subst (λ v. PutOf T v.plain c.args.lane (Given c.args.put)) (sym c.self.view_is) put) (subst (λ v. IfTold (λ t. DockGood T v.plain t.now) (g.D.Depot.state v.depot).told) (sym c.self.view_is) good)

pub returns-in-Err-clause-slips : goal.returns-in-Err-clause-slips
returns-in-Err-clause-slips g c T =
    subst (λ v. IfTold (λ t. DockGood T v.plain t.now → (g.D.Depot.state c.turn.new.depot).slips ≡ (g.D.Depot.state v.depot).slips) (g.D.Depot.state v.depot).told) c.self.view_is (c.turn.ensures.slips T)

pub returns-clause-lawful : goal.returns-clause-lawful
returns-clause-lawful g c =
    let i = c.self.inside in
    let a = plain_of i.end i.log i.writer in
    let b = plain_of c.turn.new.end c.turn.new.log c.turn.new.writer in
    let put = Given c.args.put in
    let s0 = g.D.Depot.state i.depot in
    let s1 = g.D.Depot.state c.turn.new.depot in
    let within = subst (λ v. c.args.lane.0 < length v.plain.lanes) (sym c.self.view_is) c.requires.lane in
    stepped NoMemory c.turn.result a b c.args.lane put s0 s1 IsReceiver c.turn.ensures.turns c.turn.ensures.memory c.self.invariant.receiver
    (λ act ends. c.receivers_stay_receivers.ensures.keeps a c.args.lane put (act, b) c.self.invariant.receiver within ends)

pub returns-clause-batched : goal.returns-clause-batched
returns-clause-batched g c =
    let i = c.self.inside in
    let a = plain_of i.end i.log i.writer in
    let b = plain_of c.turn.new.end c.turn.new.log c.turn.new.writer in
    let put = Given c.args.put in
    let s0 = g.D.Depot.state i.depot in
    let s1 = g.D.Depot.state c.turn.new.depot in
    let within = subst (λ v. c.args.lane.0 < length v.plain.lanes) (sym c.self.view_is) c.requires.lane in
    stepped NoMemory c.turn.result a b c.args.lane put s0 s1 IsBatched c.turn.ensures.turns c.turn.ensures.memory c.self.invariant.batched
    (λ act ends. c.batches_add_up.ensures.keeps a c.args.lane put (act, b) c.self.invariant.batched (given_logs i.end i.log i.writer c.args.lane c.args.put c.self.invariant.desk.books) ends)

pub returns-clause-follows : goal.returns-clause-follows
returns-clause-follows g c =
    let i = c.self.inside in
    let a = plain_of i.end i.log i.writer in
    let b = plain_of c.turn.new.end c.turn.new.log c.turn.new.writer in
    let put = Given c.args.put in
    let s0 = g.D.Depot.state i.depot in
    let s1 = g.D.Depot.state c.turn.new.depot in
    let within = subst (λ v. c.args.lane.0 < length v.plain.lanes) (sym c.self.view_is) c.requires.lane in
    let ends = ends_weaker (Rises s0.faults s1.faults) (Unit {0}) (turn_plan a c.args.lane put) (c.in-Ok.act, b) (λ why. tt) c.in-Ok.ensures.turns in
    subst (λ v. Follows v.plain c.args.lane put b) c.self.view_is (c.failures_have_causes.ensures.follows a c.args.lane put (c.in-Ok.act, b) ends)

pub returns-clause-good : goal.returns-clause-good
returns-clause-good g c T put good =
    c.turn.ensures.good T (subst (λ v. PutOf T v.plain c.args.lane (Given c.args.put)) (sym c.self.view_is) put) (subst (λ v. IfTold (λ t. DockGood T v.plain t.now) (g.D.Depot.state v.depot).told) (sym c.self.view_is) good)

pub returns-clause-counts : goal.returns-clause-counts
returns-clause-counts g c =
    subst (λ v. Counts (LosesDisk v.plain.answer c.turn.new.end.answer) (g.D.Depot.state v.depot) (g.D.Depot.state c.turn.new.depot)) c.self.view_is c.turn.ensures.counts

pub returns-clause-slips : goal.returns-clause-slips
returns-clause-slips g c T =
    subst (λ v. IfTold (λ t. DockGood T v.plain t.now → (g.D.Depot.state c.turn.new.depot).slips ≡ (g.D.Depot.state v.depot).slips) (g.D.Depot.state v.depot).told) c.self.view_is (c.turn.ensures.slips T)

pub returns-clause-comes : goal.returns-clause-comes
returns-clause-comes g c =
    let i = c.self.inside in
    let a = plain_of i.end i.log i.writer in
    let b = plain_of c.turn.new.end c.turn.new.log c.turn.new.writer in
    let put = Given c.args.put in
    let s0 = g.D.Depot.state i.depot in
    let s1 = g.D.Depot.state c.turn.new.depot in
    let within = subst (λ v. c.args.lane.0 < length v.plain.lanes) (sym c.self.view_is) c.requires.lane in
    let ends = ends_weaker (Rises s0.faults s1.faults) (Unit {0}) (turn_plan a c.args.lane put) (c.in-Ok.act, b) (λ why. tt) c.in-Ok.ensures.turns in
    subst (λ v. Comes v.plain c.args.lane put (c.in-Ok.act, b)) c.self.view_is (c.steps_have_outcomes.ensures a c.args.lane put (c.in-Ok.act, b) ends)

pub returns-clause-acts : goal.returns-clause-acts
returns-clause-acts g c =
    let i = c.self.inside in
    let a = plain_of i.end i.log i.writer in
    let b = plain_of c.turn.new.end c.turn.new.log c.turn.new.writer in
    let put = Given c.args.put in
    let s0 = g.D.Depot.state i.depot in
    let s1 = g.D.Depot.state c.turn.new.depot in
    let within = subst (λ v. c.args.lane.0 < length v.plain.lanes) (sym c.self.view_is) c.requires.lane in
    let ends = ends_weaker (Rises s0.faults s1.faults) (Unit {0}) (turn_plan a c.args.lane put) (c.in-Ok.act, b) (λ why. tt) c.in-Ok.ensures.turns in
    subst (λ v. IsActOf v.plain c.args.lane (c.in-Ok.act, b)) c.self.view_is (c.acts_follow_from_lanes.ensures a c.args.lane put (c.in-Ok.act, b) c.self.invariant.receiver.few within ends)

pub returns-clause-lanes : goal.returns-clause-lanes
returns-clause-lanes g c =
    let i = c.self.inside in
    let a = plain_of i.end i.log i.writer in
    let b = plain_of c.turn.new.end c.turn.new.log c.turn.new.writer in
    let put = Given c.args.put in
    let s0 = g.D.Depot.state i.depot in
    let s1 = g.D.Depot.state c.turn.new.depot in
    let within = subst (λ v. c.args.lane.0 < length v.plain.lanes) (sym c.self.view_is) c.requires.lane in
    let same = stepped NoMemory c.turn.result a b c.args.lane put s0 s1 (λ x. length x.lanes ≡ length a.lanes) c.turn.ensures.turns c.turn.ensures.memory refl
    (λ act ends. (c.steps_touch_their_lane.ensures a c.args.lane put (act, b) ends).lanes) in
    subst (λ v. length b.lanes ≡ length v.plain.lanes) c.self.view_is same

pub returns-in-Err-clause-lanes : goal.returns-in-Err-clause-lanes
returns-in-Err-clause-lanes g c =
    let i = c.self.inside in
    let a = plain_of i.end i.log i.writer in
    let b = plain_of c.turn.new.end c.turn.new.log c.turn.new.writer in
    let put = Given c.args.put in
    let s0 = g.D.Depot.state i.depot in
    let s1 = g.D.Depot.state c.turn.new.depot in
    let within = subst (λ v. c.args.lane.0 < length v.plain.lanes) (sym c.self.view_is) c.requires.lane in
    let same = stepped NoMemory c.turn.result a b c.args.lane put s0 s1 (λ x. length x.lanes ≡ length a.lanes) c.turn.ensures.turns c.turn.ensures.memory refl
    (λ act ends. (c.steps_touch_their_lane.ensures a c.args.lane put (act, b) ends).lanes) in
    subst (λ v. length b.lanes ≡ length v.plain.lanes) c.self.view_is same

pub returns-clause-others : goal.returns-clause-others
returns-clause-others g c =
    let i = c.self.inside in
    let a = (g.D.Depot.state i.depot).told in
    let b = (g.D.Depot.state c.turn.new.depot).told in
    subst (λ v. Between (LeavesOthers (IsOther v.plain.known (Given c.args.put))) (g.D.Depot.state v.depot).told b) c.self.view_is
    (others_of (IsOther i.writer.known (Given c.args.put)) i.writer.files a b c.turn.ensures.spares)

pub returns-clause-covered : goal.returns-clause-covered
returns-clause-covered g c =
    let i = c.self.inside in
    let a = (g.D.Depot.state i.depot).told in
    let b = (g.D.Depot.state c.turn.new.depot).told in
    subst (λ v. Between (LeavesCovered (log_after v.plain).files) (g.D.Depot.state v.depot).told b) c.self.view_is
    (subst (λ (fs : List NamedFile). Between (LeavesCovered fs) a b) (sym (files_behind_are i.end i.log i.writer c.self.invariant.desk.books))
    (covered_of (IsOther i.writer.known (Given c.args.put)) i.writer.files a b c.turn.ensures.spares))

pub returns-in-Err-clause-others : goal.returns-in-Err-clause-others
returns-in-Err-clause-others g c =
    let i = c.self.inside in
    let a = (g.D.Depot.state i.depot).told in
    let b = (g.D.Depot.state c.turn.new.depot).told in
    subst (λ v. Between (LeavesOthers (IsOther v.plain.known (Given c.args.put))) (g.D.Depot.state v.depot).told b) c.self.view_is
    (others_of (IsOther i.writer.known (Given c.args.put)) i.writer.files a b c.turn.ensures.spares)

pub returns-in-Err-clause-covered : goal.returns-in-Err-clause-covered
returns-in-Err-clause-covered g c =
    let i = c.self.inside in
    let a = (g.D.Depot.state i.depot).told in
    let b = (g.D.Depot.state c.turn.new.depot).told in
    subst (λ v. Between (LeavesCovered (log_after v.plain).files) (g.D.Depot.state v.depot).told b) c.self.view_is
    (subst (λ (fs : List NamedFile). Between (LeavesCovered fs) a b) (sym (files_behind_are i.end i.log i.writer c.self.invariant.desk.books))
    (covered_of (IsOther i.writer.known (Given c.args.put)) i.writer.files a b c.turn.ensures.spares))

pub returns-clause-stops : goal.returns-clause-stops
returns-clause-stops g c =
    let i = c.self.inside in
    let a = plain_of i.end i.log i.writer in
    let b = plain_of c.turn.new.end c.turn.new.log c.turn.new.writer in
    let put = Given c.args.put in
    let s0 = g.D.Depot.state i.depot in
    let s1 = g.D.Depot.state c.turn.new.depot in
    let within = subst (λ v. c.args.lane.0 < length v.plain.lanes) (sym c.self.view_is) c.requires.lane in
    let ends = ends_weaker (Rises s0.faults s1.faults) (Unit {0}) (turn_plan a c.args.lane put) (c.in-Ok.act, b) (λ why. tt) c.in-Ok.ensures.turns in
    subst (λ v. is_stop c.in-Ok.act ≡ stops (state_at v.plain c.args.lane.0) put (is_through b c.args.lane.0) (is_failure b.answer)) c.self.view_is
    (step_stops a c.args.lane put (c.in-Ok.act, b) c.self.invariant.receiver (c.receivers_stay_receivers.ensures.keeps a c.args.lane put (c.in-Ok.act, b) c.self.invariant.receiver within ends) c.self.invariant.answered within
    (subst (λ n. c.args.lane.0 < n) (sym (c.steps_touch_their_lane.ensures a c.args.lane put (c.in-Ok.act, b) ends).lanes) within) (c.steps_have_outcomes.ensures a c.args.lane put (c.in-Ok.act, b) ends))

pub returns-clause-parks : goal.returns-clause-parks
returns-clause-parks g c =
    let i = c.self.inside in
    let a = plain_of i.end i.log i.writer in
    let b = plain_of c.turn.new.end c.turn.new.log c.turn.new.writer in
    let put = Given c.args.put in
    let s0 = g.D.Depot.state i.depot in
    let s1 = g.D.Depot.state c.turn.new.depot in
    let within = subst (λ v. c.args.lane.0 < length v.plain.lanes) (sym c.self.view_is) c.requires.lane in
    let ends = ends_weaker (Rises s0.faults s1.faults) (Unit {0}) (turn_plan a c.args.lane put) (c.in-Ok.act, b) (λ why. tt) c.in-Ok.ensures.turns in
    subst (λ v. (c.in-Ok.act ≡ acts.Park) ↔ Parks v.plain c.args.lane put) c.self.view_is
    (λ park. park_why a c.args.lane put (c.in-Ok.act, b) c.self.invariant.receiver within (c.steps_have_outcomes.ensures a c.args.lane put (c.in-Ok.act, b) ends) park, λ parks. parks_act (Unit {0}) a c.args.lane put (c.in-Ok.act, b) within parks ends)

pub returns-clause-stays : goal.returns-clause-stays
returns-clause-stays g c =
    let i = c.self.inside in
    let a = plain_of i.end i.log i.writer in
    let b = plain_of c.turn.new.end c.turn.new.log c.turn.new.writer in
    let put = Given c.args.put in
    let s0 = g.D.Depot.state i.depot in
    let s1 = g.D.Depot.state c.turn.new.depot in
    let books = c.self.invariant.desk.books in
    let marks = marks_follow a c.self.invariant.batched (continues i.log i.writer books) ∙ ap (map marked_of) (files_behind_are i.end i.log i.writer books) in
    subst (λ v. StaysThere v.plain b) c.self.view_is
    (stepped NoMemory c.turn.result a b c.args.lane put s0 s1 (λ (t : PlainReceiver). StaysThere a t) c.turn.ensures.turns c.turn.ensures.memory (λ number position there. there)
    (λ act ends. (let touches = c.steps_touch_their_lane.ensures a c.args.lane put (act, b) ends in there_stays a b c.args.lane i.writer.files touches.opening touches.history marks books.sound.are_named.view)))

pub returns-in-Err-clause-stays : goal.returns-in-Err-clause-stays
returns-in-Err-clause-stays g c =
    let i = c.self.inside in
    let a = plain_of i.end i.log i.writer in
    let b = plain_of c.turn.new.end c.turn.new.log c.turn.new.writer in
    let put = Given c.args.put in
    let s0 = g.D.Depot.state i.depot in
    let s1 = g.D.Depot.state c.turn.new.depot in
    let books = c.self.invariant.desk.books in
    let marks = marks_follow a c.self.invariant.batched (continues i.log i.writer books) ∙ ap (map marked_of) (files_behind_are i.end i.log i.writer books) in
    subst (λ v. StaysThere v.plain b) c.self.view_is
    (stepped NoMemory c.turn.result a b c.args.lane put s0 s1 (λ (t : PlainReceiver). StaysThere a t) c.turn.ensures.turns c.turn.ensures.memory (λ number position there. there)
    (λ act ends. (let touches = c.steps_touch_their_lane.ensures a c.args.lane put (act, b) ends in there_stays a b c.args.lane i.writer.files touches.opening touches.history marks books.sound.are_named.view)))
