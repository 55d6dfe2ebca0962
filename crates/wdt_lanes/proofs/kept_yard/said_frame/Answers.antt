use Rattle.wdt_sender_fsm.specs.declared.acts.SendAct.TheVariants as acts
use Rattle.wdt_lanes.proofs.Keeping.{act_said}
use Rattle.wdt_lanes.proofs.kept_yard.said_frame.Goals as goal

pub of-requires : goal.of-requires
of-requires g c = let own = c.requires.own in act_said g.N.Run.told own.0 (acts.Write c.args.frame) own.1 tt own.2
