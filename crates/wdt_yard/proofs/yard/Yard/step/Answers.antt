use Rattle.std.proofs.Common.{◌<◌, length, subst, sym}
use Rattle.wdt_sender_fsm.specs.PlainSender.{PlainSender}
use Rattle.wdt_yard.proofs.Refusals.{yard_behind}
use Rattle.wdt_yard.proofs.yard.Yard.step.Goals as goal

pub invariant_of-self : goal.invariant_of-self
invariant_of-self c =
    let s = c.self.inside.end.plain in
    let l = c.args.lane in
    let put = c.args.put in
    let within : l.0 < length s.lanes = subst (λ (x : PlainSender). l.0 < length x.lanes) (sym c.self.view_is) c.requires.lane in
    let is = c.self.invariant.sender in
    yard_behind c.turn.result s c.turn.new.self.plain l put c.turn.ensures.ok c.turn.ensures.err (c.senders_stay_senders.ensures.steps s l put is within c.requires.fits)
    (c.steps_touch_their_lane.ensures.lawful s l put c.self.invariant.lawful) (c.steps_touch_their_lane.ensures.touches s l put) (c.steps_answer_rightly.ensures.follows s l put is within c.requires.fits) c.requires.fits c.self.invariant
