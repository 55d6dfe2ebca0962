use Rattle.std.proofs.Common.{ap, ℕ, arith}
use Rattle.wdt_units.specs.declared.numbers.LaneSet.{LaneSet}
use Rattle.wdt_units.specs.LaneSets.{lanes_without}
use Rattle.wdt_units.proofs.LaneSetLaws.{less_masked}
use Rattle.wdt_units.proofs.numbers.LaneSet.without.Goals as goal

pub returns : goal.returns
unfolding lanes_without
returns c = ap (λ (n : ℕ). let set : LaneSet = record { 0 = n } in set) (less_masked c.args.self.0 c.args.other.0 (omega arith) (omega arith))
