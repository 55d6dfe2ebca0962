use Rattle.std.proofs.Common.{◌≡◌, ◌≤◌}
use Rattle.wdt_world.specs.Blocks.{WrotePieces}
use Rattle.wdt_world.proofs.sending.send_rest.Given as goal

abbrev pub invariant-loop-i : goal.invariant-loop-i
invariant-loop-i g l =
    record {
      wrote : WrotePieces l.length 1 l.i l.initial.lines l.lines;
      told : g.S.Source.told l.source ≡ g.S.Source.told l.initial.source;
      later : g.S.Source.faults l.initial.source ≤ g.S.Source.faults l.source;
    }
