-- The lanes of a set, one after another.
use Rattle.std.proofs.Common.{◌≡◌, ℕ, suc, ◌+◌, ◌-◌, ◌<◌, ◌≤◌, Bool, true, false, [], ◌∷◌, ap, ◌∙◌, arith}
use Rattle.wdt_units.specs.declared.numbers.Lane.{Lane}
use Rattle.wdt_units.specs.declared.numbers.LaneSet.{LaneSet}
use Rattle.wdt_units.specs.LaneSets.{has_lane}
use Rattle.wdt_units.specs.LanesOf.{lanes_from, put_if}

-- those from a lane on: the lane, where it is in the set, and those behind it
pub lanes_from-next : (set : LaneSet) (at n : ℕ) → at < n → lanes_from set at (n - at) ≡ put_if (has_lane set at) at (lanes_from set (at + 1) (n - (at + 1)))
unfolding lanes_from
lanes_from-next set at n lt = let e : n - at ≡ suc (n - (at + 1)) = omega arith in ap (lanes_from set at) e

pub lanes_from-in : (set : LaneSet) (at n : ℕ) → at < n → has_lane set at ≡ true → lanes_from set at (n - at) ≡ (let lane : Lane = record { 0 = at } in lane) ∷ lanes_from set (at + 1) (n - (at + 1))
lanes_from-in set at n lt h = lanes_from-next set at n lt ∙ ap (λ (b : Bool). put_if b at (lanes_from set (at + 1) (n - (at + 1)))) h

pub lanes_from-out : (set : LaneSet) (at n : ℕ) → at < n → has_lane set at ≡ false → lanes_from set at (n - at) ≡ lanes_from set (at + 1) (n - (at + 1))
lanes_from-out set at n lt h = lanes_from-next set at n lt ∙ ap (λ (b : Bool). put_if b at (lanes_from set (at + 1) (n - (at + 1)))) h

-- none is left at the end
pub lanes_from-end : (set : LaneSet) (at n : ℕ) → n ≤ at → lanes_from set at (n - at) ≡ []
unfolding lanes_from
lanes_from-end set at n le = let e : n - at ≡ 0 = omega arith in ap (lanes_from set at) e
