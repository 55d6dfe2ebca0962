use Rattle.std.proofs.Common.{◌-◌, length}
use Rattle.wdt_logfmt.proofs.Gates.{Comes}
use Rattle.wdt_logfmt.proofs.reading.read_log.Given as goal

abbrev pub invariant-loop-gate : goal.invariant-loop-gate
invariant-loop-gate l = Comes l.bytes l.gate l.files

abbrev pub decreases-loop-gate : goal.decreases-loop-gate
decreases-loop-gate l = length l.bytes - l.gate
