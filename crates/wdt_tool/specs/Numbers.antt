-- The numbers that a process ends with.
use Rattle.std.specs.Prelude.{ℕ}
use Rattle.wdt_tool.specs.declared.status.Status.{Status}
use Rattle.wdt_tool.specs.declared.status.Status.TheVariants.{Done, Usage, SourceFault, DiskFault, LinkFault, Peer, Aborted, Refused, OutFault, NoMemory}

-- the number that a process ends with for each status
abbrev pub code_of : Status → ℕ
code_of Done = 0
code_of Usage = 1
code_of SourceFault = 2
code_of DiskFault = 3
code_of LinkFault = 4
code_of (Peer kind) = 5
code_of (Aborted code) = 6
code_of (Refused kind) = 7
code_of OutFault = 8
code_of NoMemory = 10
