-- The files of a log as the code keeps them while it reads: by number, with a set of their paths and two counts.
use Rattle.std.specs.Prelude.{◌≡◌, ℕ, ◌+◌, ◌≤◌, Bool, List, [], ◌∷◌, length, slice_get, sum_by, Option, Some, None, option_and_then, IsTrue}
use Rattle.wdt_units.specs.declared.limits.TheConstants.{MAX_FILES}
use Rattle.wdt_ranges.specs.declared.have.FileHave.{FileHave}
use Rattle.wdt_ranges.specs.Files.{have_file}
use Rattle.wdt_logfmt.specs.View.{NamedFile, names, spans_in, bytes_in, is_view}

-- the files of slots, of which the first has a number
abbrev pub files_in : ℕ → List (Option FileHave) → List NamedFile
files_in first [] = []
files_in first (None ∷ slots) = files_in (first + 1) slots
files_in first (Some f ∷ slots) = record { number = first; have = have_file f } ∷ files_in (first + 1) slots

-- the file of a slot, if there is one
abbrev pub slot_of : List (Option FileHave) → ℕ → Option FileHave
slot_of slots n = option_and_then (λ slot. slot) (slice_get slots n)

-- the files are those that a log can lead to; and the set has their paths, and the counts are theirs
pub record IsKept (slots : List (Option FileHave)) (has : List ℕ → Bool) (spans bytes : ℕ) : Type 0 where
  pub view : IsTrue (is_view (files_in 0 slots))
  pub few : length slots ≤ MAX_FILES
  pub paths : (path : List ℕ) → has path ≡ names (files_in 0 slots) path
  pub span_count : spans ≡ sum_by spans_in (files_in 0 slots)
  pub byte_count : bytes ≡ sum_by bytes_in (files_in 0 slots)
