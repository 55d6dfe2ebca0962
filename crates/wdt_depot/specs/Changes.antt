-- A write that isn't synced, as data.
use Rattle.wdt_depot.specs.declared.memory.place.Overwrite.{Overwrite}
use Rattle.wdt_depot.specs.Slots.{Change}

-- the write that an overwrite in memory stands for
abbrev pub change_view : Overwrite → Change
change_view o = record { offset = o.offset; count = o.count; before = o.before.items; size = o.size }
