use Rattle.std.proofs.Common.{false, Option, ◌∙◌, sym, map}
use Rattle.wdt_units.specs.declared.numbers.Spot.{Spot}
use Rattle.wdt_depot.specs.Memory.{told_in}
use Rattle.wdt_depot.specs.Spots.{entered_view}
use Rattle.wdt_depot.proofs.Entering.{some_there}
use Rattle.wdt_depot.proofs.Exits.{is_down, is_up, look_down, look_up}
use Rattle.wdt_depot.proofs.Slips.{file_none, file_some}
use Rattle.wdt_depot.proofs.memory.calls.MemDepotDepot.enter.Goals as goal

pub returns-then-is_down-clause-exact : goal.returns-then-is_down-clause-exact
returns-then-is_down-clause-exact c = (look_down {T = Option Spot} false _ (told_in c.args.self.now.store) c.args.self.now.health c.fault.new.self (map entered_view c.args.self.now.spots.items) c.fault.ensures.failed (is_down c.args.self.now.health _ c.is_down.ensures c.if-is_down.true) c.fault.ensures.health).exact

pub returns-in-None-clause-found : goal.returns-in-None-clause-found
returns-in-None-clause-found c = file_none c.args.self.now.store c.args.path.now (sym c.place_of.ensures ∙ c.in-None.is)

pub returns-in-None-clause-exact : goal.returns-in-None-clause-exact
returns-in-None-clause-exact c = (look_up _ (told_in c.args.self.now.store) c.args.self.now.health (map entered_view c.args.self.now.spots.items) (map entered_view c.args.self.now.spots.items) (is_up c.args.self.now.health _ c.is_down.ensures c.if-is_down.false)).exact

pub returns-in_ok-spot-in-Some-clause-found : goal.returns-in_ok-spot-in-Some-clause-found
returns-in_ok-spot-in-Some-clause-found c = some_there _ _ (file_some c.args.self.now.store c.args.path.now _ (sym c.place_of.ensures ∙ c.in-Some.is))

pub returns-in_ok-spot-in-Some-clause-exact : goal.returns-in_ok-spot-in-Some-clause-exact
returns-in_ok-spot-in-Some-clause-exact c = (look_up _ (told_in c.args.self.now.store) c.args.self.now.health (map entered_view c.args.self.now.spots.items) (map entered_view c.push_spot.new.spots.items) (is_up c.args.self.now.health _ c.is_down.ensures c.if-is_down.false)).exact
