use Rattle.std.proofs.Common.{◌≡◌, ◌++◌, map, take, drop}
use Rattle.wdt_world.specs.Lines.{left_up}
use Rattle.wdt_world.proofs.lines.leave_all.Given as goal

abbrev pub invariant-loop-wire : goal.invariant-loop-wire
invariant-loop-wire l = l.wires ≡ map left_up (take l.wire-index l.initial.wires) ++ drop l.wire-index l.initial.wires
