use Rattle.std.proofs.Common.{◌-◌, ap, ℕ, arith}
use Rattle.std.proofs.lemmas.Nat.{one_shl}
use Rattle.wdt_units.specs.declared.numbers.LaneSet.{LaneSet}
use Rattle.wdt_units.specs.LaneSets.{first_lanes}
use Rattle.wdt_units.proofs.numbers.LaneSet.first.Goals as goal

pub returns : goal.returns
unfolding first_lanes
returns c = ap (λ (n : ℕ). let set : LaneSet = record { 0 = n - 1 } in set) (one_shl c.args.count 32 (omega arith))
