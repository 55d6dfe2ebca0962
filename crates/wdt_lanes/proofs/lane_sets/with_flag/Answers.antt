use Rattle.wdt_lanes.proofs.Flags.{flag_of, no_flag_of}
use Rattle.wdt_lanes.proofs.lane_sets.with_flag.Goals as goal

pub returns-then-flag : goal.returns-then-flag
returns-then-flag c = flag_of c.args.set c.only.result c.with.result c.args.lane.0 c.args.flag c.if-flag.true c.only.ensures c.with.ensures

pub returns-else-flag : goal.returns-else-flag
returns-else-flag c = no_flag_of c.args.set c.args.lane.0 c.args.flag c.if-flag.false
