use Rattle.std.proofs.Common.{false, ℕ, ◌≡◌, map, length, take, drop}
use Rattle.wdt_depot.specs.Memory.{told_in}
use Rattle.wdt_depot.specs.Spots.{entered_view}
use Rattle.wdt_depot.proofs.Entering.{file_at}
use Rattle.wdt_depot.proofs.Exits.{is_down, is_up, look_down, look_up}
use Rattle.wdt_depot.proofs.memory.calls.MemDepotDepot.read_at.Goals as goal

pub returns-then-is_down-clause-exact : goal.returns-then-is_down-clause-exact
returns-then-is_down-clause-exact c = (look_down {T = ℕ} false _ (told_in c.args.self.now.store) c.args.self.now.health c.fault.new.self (map entered_view c.args.self.now.spots.items) c.fault.ensures.failed (is_down c.args.self.now.health _ c.is_down.ensures c.if-is_down.true) c.fault.ensures.health).exact

pub returns-clause-bytes : goal.returns-clause-bytes
returns-clause-bytes c = record {
  fits = c.copy_part.ensures.fits;
  bytes = file_at (λ f. take c.copy_part.result c.copy_part.new.into ≡ take (length c.args.into.now) (drop c.args.offset f.seen)) c.args.self.now.store _ c.place_at-place.result c.index.result.now c.place_at-place.ensures c.index.ensures c.copy_part.ensures.bytes;
}

pub returns-clause-exact : goal.returns-clause-exact
returns-clause-exact c = (look_up _ (told_in c.args.self.now.store) c.args.self.now.health (map entered_view c.args.self.now.spots.items) (map entered_view c.args.self.now.spots.items) (is_up c.args.self.now.health _ c.is_down.ensures c.if-is_down.false)).exact
