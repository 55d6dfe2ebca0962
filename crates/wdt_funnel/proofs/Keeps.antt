-- No lane beyond those that there are is closed or idle.
use Rattle.std.proofs.Common.{◌≡◌, ℕ, ◌<◌, ◌^◌, sym, subst}
use Rattle.wdt_units.specs.declared.numbers.LaneSet.{LaneSet}
use Rattle.wdt_units.specs.LaneSets.{only_lane, lanes_with, lanes_without}
use Rattle.wdt_units.proofs.LaneSetLaws.{only_fits, with_fits, without_fits}

-- a lane is put into a set
pub grown_fits : (count lane : ℕ) (set one new : LaneSet) → lane < count → set.0 < 2 ^ count → one ≡ only_lane lane → new ≡ lanes_with set one → new.0 < 2 ^ count
grown_fits count lane set one new lt fits is_one is_new =
    subst (λ (s : LaneSet). s.0 < 2 ^ count) (sym is_new) (with_fits count set one fits (subst (λ (s : LaneSet). s.0 < 2 ^ count) (sym is_one) (only_fits count lane lt)))

-- lanes are taken out of a set
pub shrunk_fits : (count : ℕ) (set others new : LaneSet) → set.0 < 2 ^ count → new ≡ lanes_without set others → new.0 < 2 ^ count
shrunk_fits count set others new fits is_new = subst (λ (s : LaneSet). s.0 < 2 ^ count) (sym is_new) (without_fits count set others fits)
