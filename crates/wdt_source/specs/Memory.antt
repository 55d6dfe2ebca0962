-- What a source in memory holds.
use Rattle.std.specs.Prelude.{ℕ, List, map}
use Rattle.wdt_units.specs.Schedule.{Schedule}
use Rattle.wdt_units.specs.Tree.{File}
use Rattle.wdt_tree.specs.Shown.{shown}
use Rattle.wdt_source.specs.Tally.{schedule_of}
use Rattle.wdt_source.specs.declared.memory.MemSource.{MemSource}

-- its files, in the order in which they were handed in
abbrev pub files_in : MemSource → List File
files_in source = map shown source.files.items

-- how often a call failed
abbrev pub faults_in : MemSource → ℕ
faults_in source = source.tally.faults

-- how often a read wasn't within its file
abbrev pub slips_in : MemSource → ℕ
slips_in source = source.tally.slips

-- which calls fail by their numbers, and how many there were
abbrev pub schedule_in : MemSource → Schedule
schedule_in source = schedule_of source.tally
