-- A call that only looked, and whose depot didn't fail, left the depot as it was.
use Rattle.std.proofs.Common.{◌≡◌, ℕ, List, [], Option, Result, Ok, Err, sym, ◌∙◌}
use Rattle.std.specs.Prelude.{IfErr, IsErrOf}
use Rattle.wdt_units.specs.Schedule.{Schedule}
use Rattle.wdt_depot.specs.Moments.{Told}
use Rattle.wdt_depot.specs.State.{Counts, OnlyLooks, State, Stop}
use Rattle.wdt_tool.specs.declared.fail.CommandFail.{CommandFail}
use Rattle.wdt_tool.specs.declared.fail.CommandFail.TheVariants as fails
use Rattle.wdt_tool.specs.Causes.{IsUntouched}

state : Option Told → Stop → List (ℕ × List ℕ) → ℕ → ℕ → ℕ → ℕ → Option Schedule → State
state told stop spots faults own own_then slips schedule = record { told = told; stop = stop; spots = spots; faults = faults; own = own; own_then = own_then; slips = slips; schedule = schedule }

same-parts : (a b : Option Told) (c d : Stop) (e f : List (ℕ × List ℕ)) (g h i j k l m n : ℕ) (o p : Option Schedule) → a ≡ b → c ≡ d → e ≡ f → g ≡ h → i ≡ j → k ≡ l → m ≡ n → o ≡ p → state a c e g i k m o ≡ state b d f h j l n p
same-parts a b c d e f g h i j k l m n o p p1 p2 p3 p4 p5 p6 p7 p8 = cc

still : (old new : State) → OnlyLooks old new → new.spots ≡ old.spots → new.faults ≡ old.faults → new.own ≡ old.own → new.own_then ≡ old.own_then → new.slips ≡ old.slips → new ≡ old
unfolding state
still old new looks spots faults own own_then slips =
    same-parts new.told old.told new.stop old.stop new.spots old.spots new.faults old.faults new.own old.own new.own_then old.own_then new.slips old.slips new.schedule old.schedule looks.told looks.stop spots faults own own_then slips looks.schedule

unfailed : (failed : Type 0) (old new : State) → OnlyLooks old new → old.spots ≡ [] → new.spots ≡ [] → Counts failed old new → new.slips ≡ old.slips → (failed → ⊥) → new ≡ old
unfailed failed old new looks before after counts slips fine = still old new looks (after ∙ sym before) (counts.fine fine).0 (counts.fine fine).1 counts.own_then slips

pub looked-untouched : (A : Type 0) (result : Result A CommandFail) (old new : State) → OnlyLooks old new → old.spots ≡ [] → new.spots ≡ [] → Counts (IsErrOf result fails.Disk) old new → new.slips ≡ old.slips → IfErr result (IsUntouched old new)
looked-untouched A (Ok x) old new looks before after counts slips = tt
looked-untouched A (Err fails.Source) old new looks before after counts slips = unfailed (IsErrOf {T = A} (Err fails.Source) fails.Disk) old new looks before after counts slips (λ e. cc)
looked-untouched A (Err fails.Disk) old new looks before after counts slips = tt
looked-untouched A (Err (fails.Refused kind)) old new looks before after counts slips = unfailed (IsErrOf {T = A} (Err (fails.Refused kind)) fails.Disk) old new looks before after counts slips (λ e. cc)
looked-untouched A (Err fails.NoMemory) old new looks before after counts slips = tt
