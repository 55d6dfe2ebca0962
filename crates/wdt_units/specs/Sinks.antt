-- What a call does to what was written to a sink, where that is told.
use Rattle.std.specs.Prelude.{◌≡◌, ℕ, List, ◌++◌, take, Option, Some, None, Result, Ok, Err}

-- all the bytes were written, or a front of them where the call failed
abbrev pub Puts : {E : Type 0} → List ℕ → Result Unit E → Option (List ℕ) → Option (List ℕ) → Type 0
Puts bytes result None new = new ≡ None
Puts bytes (Ok u) (Some old) new = new ≡ Some (old ++ bytes)
Puts bytes (Err e) (Some old) new = (n : ℕ) × (new ≡ Some (old ++ take n bytes))
