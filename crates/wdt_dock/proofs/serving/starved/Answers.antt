use Rattle.std.proofs.Common.{Bool, sym, ap, ◌∙◌}
use Rattle.std.specs.Prelude.{if◌then◌else◌}
use Rattle.wdt_sender_fsm.specs.Rules.{by_voice, is_failure, starved}
use Rattle.wdt_receiver_fsm.specs.Plan.{ends}
use Rattle.wdt_receiver_fsm.specs.PlainReceiver.{PlainReceiver, failed}
use Rattle.wdt_receiver_fsm.specs.Turn.{Step, leaves, rests, tells_failure}
use Rattle.wdt_receiver_fsm.specs.End.{EndView, plain_with}
use Rattle.wdt_dock.proofs.serving.starved.Goals as goal

pub returns-then-has_failed : goal.returns-then-has_failed
returns-then-has_failed c = λ books.
    let r : PlainReceiver = failed (plain_with c.args.end.now books) (starved c.args.end.now.answer) in
    let up : Step = by_voice c.args.mute (leaves r c.args.lane) (tells_failure r c.args.lane) in
    ap (λ (b : Bool). if b then ends up else ends (rests r)) (ap (λ (v : EndView). is_failure v.answer) (sym c.starve.ensures) ∙ sym c.has_failed.ensures ∙ c.if-has_failed.true)
    ∙ ap (λ (v : EndView). ends (by_voice c.args.mute (leaves (plain_with v books) c.args.lane) (tells_failure (plain_with v books) c.args.lane))) (sym c.starve.ensures)
    ∙ ap (λ (s : Step). ends s) (c.give_up.ensures books)
