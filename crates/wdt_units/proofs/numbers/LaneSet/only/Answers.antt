use Rattle.std.proofs.Common.{ap, ℕ}
use Rattle.std.proofs.lemmas.Nat.{one_shl}
use Rattle.wdt_units.specs.declared.numbers.LaneSet.{LaneSet}
use Rattle.wdt_units.specs.LaneSets.{only_lane}
use Rattle.wdt_units.proofs.numbers.LaneSet.only.Goals as goal

pub returns : goal.returns
unfolding only_lane
returns c = ap (λ (n : ℕ). let set : LaneSet = record { 0 = n } in set) (one_shl c.args.lane.0 16 c.requires)
