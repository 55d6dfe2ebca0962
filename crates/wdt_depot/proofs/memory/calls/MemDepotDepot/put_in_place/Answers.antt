use Rattle.std.proofs.Common.{map}
use Rattle.wdt_depot.specs.Memory.{told_in}
use Rattle.wdt_depot.specs.Spots.{entered_view}
use Rattle.wdt_depot.proofs.Entering.{all_keeps_but, found_there, no_slip}
use Rattle.wdt_depot.proofs.memory.calls.MemDepotDepot.put_in_place.Goals as goal

pub invariant_of-self : goal.invariant_of-self
invariant_of-self c = record { placed = all_keeps_but _ _ _ _ c.place_parts.ensures.paths c.requires.source c.args.self.now.placed }

pub returns-clause-found : goal.returns-clause-found
returns-clause-found c = found_there c.args.from.now (told_in c.args.self.now.store).now _ (no_slip _ _ _ _ _ _ _ (c.place_parts.ensures.outcome (map entered_view c.args.self.now.spots.items)))

pub returns-clause-step : goal.returns-clause-step
returns-clause-step c = (c.place_parts.ensures.outcome (map entered_view c.args.self.now.spots.items)).step

pub returns-clause-exact : goal.returns-clause-exact
returns-clause-exact c = (c.place_parts.ensures.outcome (map entered_view c.args.self.now.spots.items)).exact

pub returns-clause-memory : goal.returns-clause-memory
returns-clause-memory c = (c.place_parts.ensures.outcome (map entered_view c.args.self.now.spots.items)).memory

pub returns-clause-stop : goal.returns-clause-stop
returns-clause-stop c = (c.place_parts.ensures.outcome (map entered_view c.args.self.now.spots.items)).stop

pub returns-clause-up : goal.returns-clause-up
returns-clause-up c = (c.place_parts.ensures.outcome (map entered_view c.args.self.now.spots.items)).up

pub returns-clause-counts : goal.returns-clause-counts
returns-clause-counts c = (c.place_parts.ensures.outcome (map entered_view c.args.self.now.spots.items)).counts

pub returns-clause-number : goal.returns-clause-number
returns-clause-number c = (c.place_parts.ensures.outcome (map entered_view c.args.self.now.spots.items)).number
