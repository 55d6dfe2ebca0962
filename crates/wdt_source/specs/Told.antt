-- What the calls of a source that tells its tree answer, and what they count.
use Rattle.std.specs.Prelude.{◌≡◌, ℕ, ◌+◌, ◌≤◌, ◌^◌, ◌||◌, nat_le, List, map, length, Result, Ok, Err, IsErrOf, Option, Some, None, Bool, true, false}
use Rattle.std.specs.List.Sorted.{IsPermutation}
use Rattle.wdt_units.specs.Counts.{Rises}
use Rattle.wdt_units.specs.Schedule.{Schedule, IfScheduled, is_due, numbered}
use Rattle.wdt_units.specs.Tree.{File, file_of}
-- what a read gives: bytes of a file from an offset on
pub use Rattle.wdt_units.specs.Tree.{IsRead}
use Rattle.wdt_tree.specs.declared.entry.Entry.{Entry}
use Rattle.wdt_tree.specs.Shown.{entry_of_file}
use Rattle.wdt_source.specs.declared.failure.SourceFail.{SourceFail}
use Rattle.wdt_source.specs.declared.failure.SourceFail.TheVariants.{Failed, NoMemory}

-- a told tree comes with a listing of it, in some order
abbrev pub IsListed : Option (List File) → Option (List Entry) → Type 0
IsListed None listing = Unit {0}
IsListed (Some files) None = ⊥
IsListed (Some files) (Some entries) = IsPermutation (map entry_of_file files) entries

-- there is a file, and so many bytes of it from an offset on
abbrev pub is_within : Option File → ℕ → ℕ → Bool
is_within None offset count = false
is_within (Some file) offset count = nat_le (offset + count) (length file.bytes)

-- the tree has a file of that path, and so many bytes of it from an offset on
abbrev pub is_within_file : List File → List ℕ → ℕ → ℕ → Bool
is_within_file files path offset count = is_within (file_of files path) offset count

-- a count of faults doesn't fall, and `Failed` comes only where it rose
pub record HasFault {T : Type 0} (result : Result T SourceFail) (old new : ℕ) : Type 0 where
  pub later : old ≤ new
  pub failed : IsErrOf result Failed → Rises old new

-- a count of slips rises exactly where a read isn't within its file, and such a read fails
pub record HasSlip {T : Type 0} (within : Bool) (result : Result T SourceFail) (old new : ℕ) : Type 0 where
  pub kept : within ≡ true → new ≡ old
  pub rose : within ≡ false → Rises old new × IsErrOf result Failed

-- a schedule after a call: it has a number more, unless the call was refused for memory
abbrev pub after_call : {T : Type 0} → Result T SourceFail → Schedule → Schedule
after_call (Ok x) s = numbered s
after_call (Err Failed) s = numbered s
after_call (Err NoMemory) s = s

-- a call that isn't refused for memory fails exactly where it is due to
pub record FailsWhere {T : Type 0} (due : Bool) (result : Result T SourceFail) : Type 0 where
  pub only : IsErrOf result Failed → due ≡ true
  pub each : due ≡ true → (IsErrOf result NoMemory → ⊥) → IsErrOf result Failed

-- where it is told which calls fail, this one fails where it can't be done or by its number
abbrev pub ByNumber : {T : Type 0} → Bool → Result T SourceFail → Option Schedule → Type 0
ByNumber cant result schedule = IfScheduled (λ s. FailsWhere (cant || is_due s) result) schedule

-- a told listing is of more files than may be listed
abbrev pub is_too_long : Option (List Entry) → Bool
is_too_long None = false
is_too_long (Some entries) = nat_le (2 ^ 32) (length entries)
