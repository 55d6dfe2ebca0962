use Rattle.std.proofs.Common.{◌≡◌, ◌-◌, drop, length, map}
use Rattle.wdt_depot.specs.Changes.{change_view}
use Rattle.wdt_depot.specs.Slots.{before_all}
use Rattle.wdt_depot.proofs.memory.picking.take_all_back.Given as goal

abbrev pub invariant-loop-done : goal.invariant-loop-done
invariant-loop-done l = l.bytes.items ≡ before_all (map change_view (drop (length l.pending - l.done) l.pending)) l.initial.bytes.items
