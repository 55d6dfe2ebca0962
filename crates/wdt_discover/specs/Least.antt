-- Which file of a have is named where it doesn't fit the tree: the one of the least path.
use Rattle.std.specs.Prelude.{◌≡◌, ◌⊎◌, ℕ, true, false, List, slice_get, Option, Some}
use Rattle.wdt_units.specs.Have.{HaveFile}
use Rattle.wdt_units.specs.Tree.{is_before}
use Rattle.wdt_tree.specs.declared.entry.Entry.{Entry}
use Rattle.wdt_rest.specs.Fitting.{found_in, fits}

-- a file of the have doesn't fit, each other that doesn't has a later path, and this is said of it
pub record IsLeastStale (entries : List Entry) (have : List HaveFile) (path : List ℕ) (logged : ℕ × ℕ) (found : Option (ℕ × ℕ)) : Type 0 where
  pub at : ℕ
  pub file : HaveFile
  pub here : slice_get have at ≡ Some file
  pub unfit : fits entries file ≡ false
  pub least : (k : ℕ) (other : HaveFile) → slice_get have k ≡ Some other → fits entries other ≡ false → (other ≡ file) ⊎ (is_before file.path other.path ≡ true)
  pub named : path ≡ file.path
  pub has_logged : logged ≡ (file.size, file.stamp)
  pub is_found : found ≡ found_in entries file.path
