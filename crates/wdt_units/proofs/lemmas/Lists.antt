-- Tests over lists, options and single places of lists.
use Rattle.std.proofs.Common.{◌≡◌, ℕ, zero, suc, ◌<◌, Bool, true, false, List, [], ◌∷◌, length, slice_get, slice_set, Some, None, refl, sym, if◌then◌else◌, arith}
use Rattle.std.specs.List.{list_all}
use Rattle.std.proofs.lemmas.Bool.{and_parts}

-- what all of a list pass, the item at a place passes
pub list_all-at : {A : Type 0} (p : A → Bool) (xs : List A) (k : ℕ) (x : A) → list_all p xs ≡ true → slice_get xs k ≡ Some x → p x ≡ true
list_all-at p [] k x all at = cc
list_all-at p (y ∷ ys) zero x all at =
    let e : y ≡ x = cc in rw (sym e) ((and_parts (p y) (list_all p ys) all).0)
list_all-at p (y ∷ ys) (suc k) x all at = list_all-at p ys k x ((and_parts (p y) (list_all p ys) all).1) at

-- two options with the same value have one value
pub same_some : {A : Type 0} (x y : A) → Some x ≡ Some y → x ≡ y
same_some x y e = cc

-- an option that a test gives is there where the test passes
pub taken_true : {A : Type 0} (b : Bool) (x y : A) → (if b then Some x else None) ≡ Some y → (b ≡ true) × (x ≡ y)
taken_true true x y e = (refl, same_some x y e)
taken_true false x y e = absurd (let none : None ≡ Some y = e in cc)

-- what was set at a place stands there
pub get_set : {A : Type 0} (xs : List A) (i : ℕ) (x : A) → i < length xs → slice_get (slice_set xs i x) i ≡ Some x
get_set [] i x within = grind arith
get_set (y ∷ ys) zero x within = refl
get_set (y ∷ ys) (suc i) x within = get_set ys i x (omega (arith, within))

-- what holds of both holds of the one that is chosen
pub if_has : {A : Type 0} (P : A → Type 0) (b : Bool) (x y : A) → P x → P y → P (if b then x else y)
if_has P true x y f g = f
if_has P false x y f g = g
