-- What a wire tells, and what its calls do to it.
use Rattle.std.specs.Prelude.{◌≡◌, ℕ, List, [], ◌∷◌, ◌++◌, take, Option, Some, None, Result, Ok, Err}
use Rattle.wdt_units.specs.Inputs.{Takes}
use Rattle.wdt_link.specs.Traffic.{Traffic}

-- the bytes that were read, those that are left to be read, and those that were written
pub record Cable : Type 0 where
  pub read : List ℕ
  pub left : List ℕ
  pub written : List ℕ

-- a cable that has carried nothing
pub record IsUnused (cable : Cable) : Type 0 where
  pub read : cable.read ≡ []
  pub written : cable.written ≡ []

-- cables that have carried nothing
abbrev pub AreUnused : List Cable → Type 0
AreUnused [] = Unit {0}
AreUnused (cable ∷ cables) = IsUnused cable × AreUnused cables

-- all the bytes were written, or a front of them where the call failed
abbrev pub Writes : {E : Type 0} → List ℕ → Result Unit E → Option Cable → Option Cable → Type 0
Writes bytes result None new = new ≡ None
Writes bytes (Ok u) (Some old) new = new ≡ Some (record old { written = old.written ++ bytes })
Writes bytes (Err e) (Some old) new = (n : ℕ) × (new ≡ Some (record old { written = old.written ++ take n bytes }))

-- the next bytes stand at the front of the slice, or none were taken
abbrev pub Reads : {E : Type 0} → Result ℕ E → List ℕ → Option Cable → Option Cable → Type 0
Reads result slice None new = new ≡ None
Reads (Ok n) slice (Some old) new = (rest : List ℕ) × Takes old.left n slice rest × (new ≡ Some (record { read = old.read ++ take n slice; left = rest; written = old.written }))
Reads (Err e) slice (Some old) new = new ≡ Some old

-- what a link tells at first, over a cable that has carried nothing
abbrev pub begun : Cable → Traffic
begun cable = record { coming = cable.left; received = []; sent = [] }
