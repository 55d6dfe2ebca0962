use Rattle.std.proofs.Common.{◌≡◌, ◌-◌}
use Rattle.wdt_units.specs.LanesOf.{lanes_from, lanes_left}
use Rattle.wdt_units.proofs.lanes.LanesIterator.next.Given as goal

abbrev pub invariant-loop-at : goal.invariant-loop-at
invariant-loop-at l = record {
  same : l.self ≡ l.fn.self;
  left : lanes_left l.fn.self ≡ lanes_from l.self.set l.at (16 - l.at);
}
