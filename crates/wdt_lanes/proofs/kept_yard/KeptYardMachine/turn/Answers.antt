use Rattle.std.proofs.Common.{◌≡◌, ◌+◌, ◌<◌, ◌≤◌, List, ◌++◌, length, Result, Some, subst, sym}
use Rattle.std.specs.Prelude.{IfErr, IfOk}
use Rattle.wdt_units.specs.Lanes.{AllOf}
use Rattle.wdt_sender_fsm.specs.declared.acts.SendAct.{SendAct}
use Rattle.wdt_sender_fsm.specs.declared.events.SendEvent.{SendEvent}
use Rattle.wdt_sender_fsm.specs.declared.inputs.SendIn.{SendIn}
use Rattle.wdt_sender_fsm.specs.PlainSender.{PlainSender, lane_at}
use Rattle.wdt_sender_fsm.specs.SenderHistory.{lane_of}
use Rattle.wdt_sender_fsm.specs.Turn.{send_turn}
use Rattle.wdt_yard.specs.Turns.{IsTurn, count_of}
use Rattle.wdt_lanes.proofs.Keeping.{back_said, fits_in, kept_by, moved, owned}
use Rattle.wdt_lanes.proofs.kept_yard.KeptYardMachine.turn.Goals as goal

pub said-requires-clause-own : goal.said-requires-clause-own
said-requires-clause-own g c = owned g.N.Run.told c.self.inside.yard.manifest c.turn-answer.result c.self.invariant.tree c.turn-answer.ensures.act

pub said-requires-clause-back : goal.said-requires-clause-back
said-requires-clause-back g c = back_said g.N.Run.told c.turn-answer.result c.into_put.result _ c.turn-answer.ensures.back c.into_put.ensures.said

pub invariant_of-self : goal.invariant_of-self
invariant_of-self g c =
    let s = c.self.inside.yard in
    let lane : c.args.lane.0 < length s.lanes = subst (λ (x : PlainSender). c.args.lane.0 < length x.lanes) (sym c.self.view_is) c.requires.lane in
    kept_by g.N.Run.told g.B.Begin.begun c.turn-answer.result s c.turn-answer.new.self c.args.lane c.into_put.result c.turn-answer.ensures.step c.turn-answer.ensures.back (c.steps_touch_their_lane.ensures.touches s c.args.lane c.into_put.result)
    (c.steps_answer_rightly.ensures.follows s c.args.lane c.into_put.result c.turn-answer.ensures.was lane (fits_in g.N.Run.told c.into_put.result c.into_put.ensures.said)) c.turn-answer.ensures.limits c.into_put.ensures.said c.self.invariant

pub returns-clause-kept : goal.returns-clause-kept
returns-clause-kept g c =
    let s = c.self.inside.yard in
    let lane : c.args.lane.0 < length s.lanes = subst (λ (x : PlainSender). c.args.lane.0 < length x.lanes) (sym c.self.view_is) c.requires.lane in
    kept_by g.N.Run.told g.B.Begin.begun c.turn-answer.result s c.turn-answer.new.self c.args.lane c.into_put.result c.turn-answer.ensures.step c.turn-answer.ensures.back (c.steps_touch_their_lane.ensures.touches s c.args.lane c.into_put.result)
    (c.steps_answer_rightly.ensures.follows s c.args.lane c.into_put.result c.turn-answer.ensures.was lane (fits_in g.N.Run.told c.into_put.result c.into_put.ensures.said)) c.turn-answer.ensures.limits c.into_put.ensures.said c.self.invariant

pub returns-clause-ok : goal.returns-clause-ok
returns-clause-ok g c =
    let t = c.turn-answer.new.self in
    let l = c.args.lane.0 in
    let P : PlainSender → SendIn → Result SendAct SendIn → Type 0 = λ s put result. IfOk result (λ act. (more : List SendEvent) × (t.history ≡ s.history ++ more) × AllOf (λ e. Some (lane_of e)) l more × (count_of s + length more ≤ count_of t) × IsTurn l put s.history (lane_at s l) act more (lane_at t l)) in
    moved P _ _ _ _ _ _ c.self.view_is c.into_put.ensures.value c.said.ensures c.turn-answer.ensures.ok

pub returns-clause-err : goal.returns-clause-err
returns-clause-err g c =
    let t = c.turn-answer.new.self in
    let l = c.args.lane.0 in
    let P : PlainSender → SendIn → Result SendAct SendIn → Type 0 = λ s put result. IfErr result (λ back. (back ≡ put) × (t.history ≡ s.history) × (lane_at t l ≡ lane_at s l) × (count_of t ≡ count_of s)) in
    moved P _ _ _ _ _ _ c.self.view_is c.into_put.ensures.value c.said.ensures c.turn-answer.ensures.err

pub returns-clause-step : goal.returns-clause-step
returns-clause-step g c =
    let t = c.turn-answer.new.self in
    let P : PlainSender → SendIn → Result SendAct SendIn → Type 0 = λ s put result. IfOk result (λ act. send_turn s c.args.lane put ≡ (act, t)) in
    moved P _ _ _ _ _ _ c.self.view_is c.into_put.ensures.value c.said.ensures c.turn-answer.ensures.step

pub returns-clause-back : goal.returns-clause-back
returns-clause-back g c =
    let t = c.turn-answer.new.self in
    let P : PlainSender → SendIn → Result SendAct SendIn → Type 0 = λ s put result. IfErr result (λ back. (back ≡ put) × (t ≡ s)) in
    moved P _ _ _ _ _ _ c.self.view_is c.into_put.ensures.value c.said.ensures c.turn-answer.ensures.back
