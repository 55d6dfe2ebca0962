use Rattle.std.proofs.Common.{sym, ◌∙◌}
use Rattle.wdt_receiver_fsm.specs.End.{is_out_in}
use Rattle.wdt_receiver_fsm.proofs.Ending.{out_at}
use Rattle.wdt_receiver_fsm.proofs.Keeps.{every_false}
use Rattle.wdt_receiver_fsm.proofs.end.answers.are_out.Goals as goal

pub returns-then-not-is_ended : goal.returns-then-not-is_ended
returns-then-not-is_ended c =
    every_false _ c.loop-lane.lane-index (is_out_in c.args.lanes.now) c.loop-lane-test.true (out_at c.args.lanes.now c.loop-lane.lane-index _ c.loop-lane-test.true ∙ sym c.is_ended.ensures ∙ c.if-not-is_ended.true)
