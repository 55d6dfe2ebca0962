-- What is read of a frame that stands first.
use Rattle.std.proofs.Common.{◌≡◌, ℕ, List, [], ◌++◌, Result, Ok, Err, IfOk, OnOk, sym, ap, ◌∙◌, append_assoc}
use Rattle.wdt_rehearsal.specs.declared.receiver.TakeFail.{TakeFail}
use Rattle.wdt_rehearsal.specs.declared.receiver.TakeFail.TheVariants as fails
use Rattle.wdt_rehearsal.specs.Replies.{Begins, Takes, Reads}

-- only want of memory stands against a frame that is there
pub failed : {A : Type 0} {B : Type 0} (expected : A) (other : B) (rest left : List ℕ) (e : TakeFail) → Takes expected rest (Err e) left → Takes other rest (Err e) left
failed expected other rest left fails.NoMemory h = tt
failed expected other rest left fails.Unexpected h = h

-- what is read where nothing stands behind it
pub read-last : {A : Type 0} (expected : A) (result : Result A TakeFail) (left : List ℕ) → Takes expected [] result left → Reads expected result
read-last expected (Ok found) left h = h.0
read-last expected (Err fails.NoMemory) left h = tt
read-last expected (Err fails.Unexpected) left h = h

-- what was read stood first in the bytes that were fed
pub begins-unit : (result : Result (Unit {0}) TakeFail) (front untaken bytes left : List ℕ) → untaken ≡ bytes → OnOk result (untaken ≡ front ++ left) → OnOk result (Begins front bytes)
begins-unit (Ok u) front untaken bytes left same h = (left, sym same ∙ h)
begins-unit (Err e) front untaken bytes left same h = tt

-- the same behind a front that was read before
pub begins-behind : {A : Type 0} (result : Result A TakeFail) (first : List ℕ) (front : A → List ℕ) (untaken bytes left : List ℕ) → bytes ≡ first ++ untaken → IfOk result (λ a. untaken ≡ front a ++ left) → IfOk result (λ a. Begins (first ++ front a) bytes)
begins-behind (Ok a) first front untaken bytes left same h = (left, same ∙ ap (λ x. first ++ x) h ∙ sym (append_assoc first (front a) left))
begins-behind (Err e) first front untaken bytes left same h = tt
