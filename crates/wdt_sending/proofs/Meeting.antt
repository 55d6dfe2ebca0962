-- What lanes met has its causes.
use Rattle.std.proofs.Common.{◌≡◌, ◌<◌, ℕ, zero, suc, ◌+◌, Bool, true, false, List, [], ◌∷◌, length, refl, sym, ap, ◌∙◌, subst}
use Rattle.wdt_units.specs.Counts.{capped}
use Rattle.wdt_units.specs.LaneSets.{has_lane, no_lanes}
use Rattle.wdt_units.specs.LanesOf.{lanes_from, lanes_of, put_if}
use Rattle.wdt_units.specs.declared.numbers.LaneSet.{LaneSet}
use Rattle.wdt_lanes.specs.Held.{RoseFor}
use Rattle.wdt_lanes.specs.LaneLists.{EachLane, IsAmong}
use Rattle.wdt_sender_fsm.specs.declared.answers.EndAnswer.{EndAnswer}
use Rattle.wdt_tool.specs.declared.status.Status.{Status}
use Rattle.wdt_sending.specs.Counted.{SomeRose}
use Rattle.wdt_sending.specs.Judging.{has_some, is_some_lane, status_of}

-- a set that has some lane has one
some_from : (set : LaneSet) (at n : ℕ) → is_some_lane (lanes_from set at n) ≡ true → (l : ℕ) × (has_lane set l ≡ true)
unfolding lanes_from
some_from set at zero is = absurd (cc)
some_from set at (suc n) is = go (has_lane set at) refl is (some_from set (at + 1) n) where
  go : (b : Bool) → has_lane set at ≡ b → is_some_lane (put_if b at (lanes_from set (at + 1) n)) ≡ true → (is_some_lane (lanes_from set (at + 1) n) ≡ true → (l : ℕ) × (has_lane set l ≡ true)) → (l : ℕ) × (has_lane set l ≡ true)
  go true here some more = (at, here)
  go false here some more = more some

some_lane : (set : LaneSet) → has_some set ≡ true → (l : ℕ) × (has_lane set l ≡ true)
some_lane set is = some_from set 0 16 is

-- there is none in the set of no lane
pub none_met : has_some no_lanes ≡ false
unfolding lanes_from
none_met = refl

-- so the status of an end none of whose lanes lost a source is judged by the others alone
pub judged_unlost : (cut alarmed : Bool) (lost : LaneSet) (answer same : EndAnswer) (status : Status) → status ≡ status_of (has_some lost) cut alarmed answer → lost ≡ no_lanes → answer ≡ same
    → status ≡ status_of false cut alarmed same
judged_unlost cut alarmed lost answer same status judged none is =
    let unlost : has_some lost ≡ false = ap has_some none ∙ none_met in
    subst (λ (a : EndAnswer). status ≡ status_of false cut alarmed a) is (subst (λ (b : Bool). status ≡ status_of b cut alarmed answer) unlost judged)

-- where each lane's count rose if the lane is in the set, and some lane is, the count of one rose
pub met_by : {A : Type 0} (count : A → ℕ) (n : ℕ) (set : LaneSet) (old new : List A) → length old ≡ n → IsAmong n set
    → EachLane (λ lane before after. RoseFor (has_lane set lane) (count before) (count after)) old new → has_some set ≡ true → SomeRose count old new
met_by count n set old new size among each some =
    let lane = some_lane set some in
    let within : lane.0 < length old = subst (λ (m : ℕ). lane.0 < m) (sym size) (among lane.0 lane.1) in
    record { at = lane.0; within = within; rose = λ d. (each.at lane.0 d within).rose lane.1 }
