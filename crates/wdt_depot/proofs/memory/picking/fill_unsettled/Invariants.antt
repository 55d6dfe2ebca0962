use Rattle.std.proofs.Common.{◌≡◌, ℕ, ◌+◌, ◌<◌, length, map, take, get_or}
use Rattle.std.specs.Prelude.{◌%◌, if◌then◌else◌}
use Rattle.std.specs.List.{list_any}
use Rattle.wdt_units.specs.Have.{is_in}
use Rattle.wdt_depot.specs.Changes.{change_view}
use Rattle.wdt_depot.specs.Slots.{range_of}
use Rattle.wdt_depot.proofs.memory.picking.fill_unsettled.Given as goal

abbrev pub invariant-loop-change : goal.invariant-loop-change
invariant-loop-change l = (k : ℕ) → k < length l.bytes → get_or l.bytes k 0 ≡ (if list_any (is_in k) (map range_of (map change_view (take l.change-index l.pending))) then (l.pick + k) % 256 else get_or l.initial.bytes k 0)
