-- What is read of a source.
use Rattle.std.specs.Prelude.{◌≡◌, ℕ, List, ◌++◌, length, Option, Some, None, IfSome}
use Rattle.wdt_units.specs.Tree.{File}
use Rattle.wdt_source.specs.Told.{IsRead}

-- so many bytes were added at a list's end: those of the told file of that path from an offset on
pub record AddsBlock (told : Option (List File)) (path : List ℕ) (offset count : ℕ) (old new : List ℕ) : Type 0 where
  pub bytes : List ℕ
  pub added : new ≡ old ++ bytes
  pub long : length bytes ≡ count
  pub read : IfSome told (λ files. IsRead files path offset bytes)

-- there is a file, of this size
abbrev pub HasSize : Option File → ℕ → Type 0
HasSize None size = ⊥
HasSize (Some file) size = length file.bytes ≡ size

-- there is a file, of these bytes
abbrev pub HasBytes : Option File → List ℕ → Type 0
HasBytes None bytes = ⊥
HasBytes (Some file) bytes = bytes ≡ file.bytes
