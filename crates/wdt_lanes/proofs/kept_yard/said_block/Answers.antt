use Rattle.std.proofs.Common.{◌≤◌, ◌-◌, ◌^◌, arith}
use Rattle.wdt_sender_fsm.specs.declared.acts.SendAct.TheVariants as acts
use Rattle.wdt_lanes.proofs.Keeping.{act_said}
use Rattle.wdt_lanes.proofs.kept_yard.said_block.Goals as goal

pub of-requires : goal.of-requires
of-requires g c =
    let own = c.requires.own in
    let stamped : c.args.stamp ≤ 2 ^ 64 - 1 = omega (arith, c.ranges.stamp.fits) in
    act_said g.N.Run.told own.0 (acts.SendBlock (record { path = c.args.path; size = c.args.size; stamp = c.args.stamp; offset = c.args.offset; length = c.args.length })) own.1 stamped own.2
