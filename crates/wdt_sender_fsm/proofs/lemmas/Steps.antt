-- A lane behind a step, and the step that the rules leave to the table.
use Rattle.std.proofs.Common.{◌≡◌, ℕ, zero, suc, ◌<◌, List, [], ◌∷◌, length, slice_get, slice_set, Bool, true, false, if◌then◌else◌, Some, ap, arith, refl}
use Rattle.wdt_units.specs.declared.numbers.Lane.{Lane}
use Rattle.wdt_sender_fsm.specs.declared.states.SendLane.{SendLane}
use Rattle.wdt_sender_fsm.specs.PlainSender.{PlainSender, lane_or_ended, lane_at, is_closed, with_lane}
use Rattle.wdt_sender_fsm.specs.Rows.{Row}
use Rattle.wdt_sender_fsm.specs.Rules.{is_failure, by_rules, by_voice}
use Rattle.wdt_sender_fsm.specs.Turn.{turn_row, ruled, is_over}

pub get_set : {X : Type 0} (xs : List X) (i : ℕ) (x : X) → i < length xs → slice_get (slice_set xs i x) i ≡ Some x
get_set [] i x within = grind arith
get_set (y ∷ ys) zero x within = refl
get_set (y ∷ ys) (suc i) x within = get_set ys i x (omega (arith, within))

-- the lane stands as it was put
pub lane_set : (s : PlainSender) (l : Lane) (lane : SendLane) → l.0 < length s.lanes → lane_at (with_lane s l lane) l.0 ≡ lane
lane_set s l lane within = ap lane_or_ended (get_set s.lanes l.0 lane within)

-- what holds of both holds of the one that is chosen
pub voice_has : {X : Type 0} (P : X → Type 0) (b : Bool) (x y : X) → P x → P y → P (by_voice b x y)
voice_has P true x y f g = f
voice_has P false x y f g = g

-- and where each needs that it was chosen
pub voiced : {X : Type 0} (P : X → Type 0) (b : Bool) (x y : X) → (b ≡ true → P x) → (b ≡ false → P y) → P (by_voice b x y)
voiced P true x y f g = f refl
voiced P false x y f g = g refl

pub if_has : {X : Type 0} (P : X → Type 0) (b : Bool) (x y : X) → P x → P y → P (if b then x else y)
if_has P true x y f g = f
if_has P false x y f g = g

pub rules_have : {X : Type 0} (P : X → Type 0) (a b c : Bool) (w x y z : X) → P w → P x → P y → P z → P (by_rules a b c w x y z)
rules_have P a b c w x y z f g h k = if_has P a w _ f (if_has P b x _ g (if_has P c y z h k))

-- on a sound end an open lane's row is done
pub served : (s : PlainSender) (l : Lane) (row : Row) → is_over row ≡ false → is_closed s l.0 ≡ false → is_failure s.answer ≡ false → ruled s l row ≡ turn_row s l row
served s l row over closed sound = rw (over, closed, sound) refl
