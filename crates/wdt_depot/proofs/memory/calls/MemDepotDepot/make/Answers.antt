use Rattle.std.proofs.Common.{map, refl}
use Rattle.wdt_depot.specs.Spots.{entered_view}
use Rattle.wdt_depot.proofs.Entering.{all_keeps}
use Rattle.wdt_depot.proofs.memory.calls.MemDepotDepot.make.Goals as goal

pub invariant_of-self : goal.invariant_of-self
invariant_of-self c = record { placed = all_keeps _ _ _ c.make_parts.ensures.paths c.args.self.now.placed }

pub returns-clause-step : goal.returns-clause-step
returns-clause-step c = (c.make_parts.ensures.outcome (map entered_view c.args.self.now.spots.items)).step

pub returns-clause-exact : goal.returns-clause-exact
returns-clause-exact c = (c.make_parts.ensures.outcome (map entered_view c.args.self.now.spots.items)).exact

pub returns-clause-memory : goal.returns-clause-memory
returns-clause-memory c = (c.make_parts.ensures.outcome (map entered_view c.args.self.now.spots.items)).memory

pub returns-clause-stop : goal.returns-clause-stop
returns-clause-stop c = (c.make_parts.ensures.outcome (map entered_view c.args.self.now.spots.items)).stop

pub returns-clause-up : goal.returns-clause-up
returns-clause-up c = (c.make_parts.ensures.outcome (map entered_view c.args.self.now.spots.items)).up

pub returns-clause-counts : goal.returns-clause-counts
returns-clause-counts c = (c.make_parts.ensures.outcome (map entered_view c.args.self.now.spots.items)).counts

pub returns-clause-slips : goal.returns-clause-slips
returns-clause-slips c = (c.make_parts.ensures.outcome (map entered_view c.args.self.now.spots.items)).slips.none refl

pub returns-clause-number : goal.returns-clause-number
returns-clause-number c = (c.make_parts.ensures.outcome (map entered_view c.args.self.now.spots.items)).number
