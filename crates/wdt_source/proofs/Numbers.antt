-- Calls by their numbers: which fail, and what they count.
use Rattle.std.proofs.Common.{◌≡◌, ℕ, Bool, true, false, List, Option, Some, None, Ok, Err, refl, sym, ap, ◌∙◌}
use Rattle.std.specs.Prelude.{◌||◌, not, IfSome, Result}
use Rattle.wdt_units.specs.Counts.{Rises}
use Rattle.wdt_units.specs.Schedule.{Schedule, numbered}
use Rattle.wdt_units.specs.Tree.{File, file_of}
use Rattle.wdt_source.specs.Told.{is_within, is_within_file, FailsWhere, HasFault, after_call}
use Rattle.wdt_source.specs.declared.failure.SourceFail.{SourceFail}
use Rattle.wdt_source.specs.declared.failure.SourceFail.TheVariants.{Failed}

failing : (T : Type 0) (fail : SourceFail) → fail ≡ Failed → let r : Result T SourceFail = Err fail in r ≡ Err Failed
failing T fail failed = ap {A = SourceFail} {B = Result T SourceFail} (λ e. Err e) failed

-- a call that can't be done fails
pub fails_cant : {T : Type 0} (cant due : Bool) (fail : SourceFail) → cant ≡ true → fail ≡ Failed → FailsWhere {T = T} (cant || due) (Err fail)
fails_cant {T} true due fail is failed = record { only = λ _. refl; each = λ _ _. failing T fail failed }
fails_cant {T} false due fail is failed = cc

-- one that fails by its number
pub fails_due : {T : Type 0} (cant due : Bool) (fail : SourceFail) → cant ≡ false → due ≡ true → fail ≡ Failed → FailsWhere {T = T} (cant || due) (Err fail)
fails_due {T} true due fail can is failed = cc
fails_due {T} false due fail can is failed = record { only = λ _. is; each = λ _ _. failing T fail failed }

-- and one that doesn't
pub fails_not : {T : Type 0} (cant due : Bool) (x : T) → cant ≡ false → due ≡ false → FailsWhere (cant || due) (Ok x)
fails_not true due x can isn't = cc
fails_not false due x can isn't = record { only = λ h. cc; each = λ is _. absurd (cc) }

-- a call that failed has a number
pub failed_number : (T : Type 0) (fail : SourceFail) (s z : Schedule) → fail ≡ Failed → z ≡ numbered s → Some z ≡ Some (after_call {T = T} (Err fail) s)
failed_number T fail s z failed is = ap (λ (x : Schedule). Some x) (is ∙ sym (ap (λ (r : Result T SourceFail). after_call r s) (failing T fail failed)))

pub failed_cause : {T : Type 0} (fail : SourceFail) (old new : ℕ) → fail ≡ Failed → Rises old new → HasFault {T = T} (Err fail) old new
failed_cause fail old new failed rises = record { later = rises.later; failed = λ _. rises }

-- reads: what is within the file that was found is within the tree's file
pub fails_from : {T : Type 0} (tree : Option (List File)) (path : List ℕ) (found : Option File) (offset count : ℕ) (due : Bool) (result : Result T SourceFail)
    → IfSome tree (λ told. file_of told path ≡ found) → FailsWhere (not (is_within found offset count) || due) result
    → IfSome tree (λ told. FailsWhere (not (is_within_file told path offset count) || due) result)
fails_from None path found offset count due result here fails = tt
fails_from (Some told) path found offset count due result here fails = rw here fails
