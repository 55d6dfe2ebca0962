use Rattle.std.proofs.Common.{map}
use Rattle.wdt_depot.specs.Spots.{entered_view}
use Rattle.wdt_depot.proofs.memory.calls.MemDepotDepot.write_at.Goals as goal

pub returns-clause-step : goal.returns-clause-step
returns-clause-step c = (c.write_parts.ensures.outcome _ (map entered_view c.args.self.now.spots.items) c.place_at-place.ensures).step

pub returns-clause-exact : goal.returns-clause-exact
returns-clause-exact c = (c.write_parts.ensures.outcome _ (map entered_view c.args.self.now.spots.items) c.place_at-place.ensures).exact

pub returns-clause-memory : goal.returns-clause-memory
returns-clause-memory c = (c.write_parts.ensures.outcome _ (map entered_view c.args.self.now.spots.items) c.place_at-place.ensures).memory

pub returns-clause-stop : goal.returns-clause-stop
returns-clause-stop c = (c.write_parts.ensures.outcome _ (map entered_view c.args.self.now.spots.items) c.place_at-place.ensures).stop

pub returns-clause-up : goal.returns-clause-up
returns-clause-up c = (c.write_parts.ensures.outcome _ (map entered_view c.args.self.now.spots.items) c.place_at-place.ensures).up

pub returns-clause-counts : goal.returns-clause-counts
returns-clause-counts c = (c.write_parts.ensures.outcome _ (map entered_view c.args.self.now.spots.items) c.place_at-place.ensures).counts

pub returns-clause-number : goal.returns-clause-number
returns-clause-number c = (c.write_parts.ensures.outcome _ (map entered_view c.args.self.now.spots.items) c.place_at-place.ensures).number
