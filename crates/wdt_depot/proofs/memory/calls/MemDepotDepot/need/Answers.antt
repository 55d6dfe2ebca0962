use Rattle.std.proofs.Common.{◌∙◌, refl, sym, map, true, false}
use Rattle.wdt_units.specs.declared.numbers.Spot.{Spot}
use Rattle.wdt_depot.specs.Memory.{told_in}
use Rattle.wdt_depot.specs.Spots.{entered_view}
use Rattle.wdt_depot.proofs.Entering.{some_there}
use Rattle.wdt_depot.proofs.Exits.{is_down, is_up, look_as, look_down, look_own, look_up}
use Rattle.wdt_depot.proofs.Slips.{file_some, lacks_none, lacks_some}
use Rattle.wdt_depot.proofs.memory.calls.MemDepotDepot.need.Goals as goal

pub returns-then-is_down-clause-exact : goal.returns-then-is_down-clause-exact
returns-then-is_down-clause-exact c = (look_down {T = Spot} false _ (told_in c.args.self.now.store) c.args.self.now.health c.fault.new.self (map entered_view c.args.self.now.spots.items) c.fault.ensures.failed (is_down c.args.self.now.health _ c.is_down.ensures c.if-is_down.true) c.fault.ensures.health).exact

pub returns-in-None-clause-slips : goal.returns-in-None-clause-slips
returns-in-None-clause-slips c =
    (look_as _ true _ _ _ (lacks_none c.args.self.now.store c.args.path.now (sym c.place_of.ensures ∙ c.in-None.is))
    (look_own true _ (told_in c.args.self.now.store) c.args.self.now.health c.own_fault.new.self (map entered_view c.args.self.now.spots.items) refl c.own_fault.ensures.failed (is_up c.args.self.now.health _ c.is_down.ensures c.if-is_down.false) c.own_fault.ensures.health)).slips

pub returns-in_ok-spot-in-Some-clause-found : goal.returns-in_ok-spot-in-Some-clause-found
returns-in_ok-spot-in-Some-clause-found c = some_there _ _ (file_some c.args.self.now.store c.args.path.now _ (sym c.place_of.ensures ∙ c.in-Some.is))

pub returns-in_ok-spot-in-Some-clause-exact : goal.returns-in_ok-spot-in-Some-clause-exact
returns-in_ok-spot-in-Some-clause-exact c = (look_up _ (told_in c.args.self.now.store) c.args.self.now.health (map entered_view c.args.self.now.spots.items) (map entered_view c.push_spot.new.spots.items) (is_up c.args.self.now.health _ c.is_down.ensures c.if-is_down.false)).exact

pub returns-in_ok-spot-in-Some-clause-slips : goal.returns-in_ok-spot-in-Some-clause-slips
returns-in_ok-spot-in-Some-clause-slips c =
    (look_as _ false _ _ _ (lacks_some c.args.self.now.store c.args.path.now _ (sym c.place_of.ensures ∙ c.in-Some.is))
    (look_up _ (told_in c.args.self.now.store) c.args.self.now.health (map entered_view c.args.self.now.spots.items) (map entered_view c.push_spot.new.spots.items) (is_up c.args.self.now.health _ c.is_down.ensures c.if-is_down.false))).slips

pub returns-in-None-clause-fails : goal.returns-in-None-clause-fails
returns-in-None-clause-fails c =
    (look_as _ true _ _ _ (lacks_none c.args.self.now.store c.args.path.now (sym c.place_of.ensures ∙ c.in-None.is))
    (look_own true _ (told_in c.args.self.now.store) c.args.self.now.health c.own_fault.new.self (map entered_view c.args.self.now.spots.items) refl c.own_fault.ensures.failed (is_up c.args.self.now.health _ c.is_down.ensures c.if-is_down.false) c.own_fault.ensures.health)).fails

pub returns-in_ok-spot-in-Some-clause-fails : goal.returns-in_ok-spot-in-Some-clause-fails
returns-in_ok-spot-in-Some-clause-fails c =
    (look_as _ false _ _ _ (lacks_some c.args.self.now.store c.args.path.now _ (sym c.place_of.ensures ∙ c.in-Some.is))
    (look_up _ (told_in c.args.self.now.store) c.args.self.now.health (map entered_view c.args.self.now.spots.items) (map entered_view c.push_spot.new.spots.items) (is_up c.args.self.now.health _ c.is_down.ensures c.if-is_down.false))).fails
