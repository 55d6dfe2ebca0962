-- What holds of the value of a result or an option.
use Rattle.std.proofs.Common.{◌≡◌, Option, Some, None, is_some, Result, Ok, Err, IfOk, OnErr, refl}
use Rattle.std.specs.Option.{option_map}

pub if_ok : {A E : Type 0} (r : Result A E) (P Q : A → Type 0) → ((a : A) → P a → Q a) → IfOk r P → IfOk r Q
if_ok (Ok a) P Q f p = f a p
if_ok (Err e) P Q f p = tt

pub on_err : {A E : Type 0} (r : Result A E) (P Q : Type 0) → (P → Q) → OnErr r P → OnErr r Q
on_err (Ok a) P Q f p = tt
on_err (Err e) P Q f p = f p

pub some_mapped : {A B : Type 0} (f : A → B) (o : Option A) → is_some (option_map f o) ≡ is_some o
some_mapped f None = refl
some_mapped f (Some a) = refl
