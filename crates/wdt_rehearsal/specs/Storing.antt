-- How a file comes to stand in a depot.
use Rattle.std.specs.Prelude.{◌≡◌, ℕ, false, List, [], ◌++◌, Option, Some, None}
use Rattle.std.specs.Str.{bytes_eq}
use Rattle.wdt_units.specs.Tree.{File}
use Rattle.wdt_depot.specs.Disk.{Disk, DiskFile, clean}
use Rattle.wdt_depot.specs.Moments.{Told, IfTold, Run}
use Rattle.wdt_rehearsal.specs.Destination.{Lands}

-- at a path a file has P, and every other path is as it was
pub record HasAt (path : List ℕ) (P : DiskFile → Type 0) (d e : Disk) : Type 0 where
  pub file : DiskFile
  pub here : e path ≡ Some file
  pub has : P file
  pub others : (other : List ℕ) → bytes_eq path other ≡ false → e other ≡ d other

-- the same of what is told
abbrev pub Stands : List ℕ → (DiskFile → Type 0) → Option Told → Option Told → Type 0
Stands path P None None = Unit {0}
Stands path P None (Some u) = ⊥
Stands path P (Some t) None = ⊥
Stands path P (Some t) (Some u) = HasAt path P t.now u.now

-- an empty file stands at the path
abbrev pub IsEmptyAt : List ℕ → Option Told → Type 0
IsEmptyAt path told = IfTold (λ t. t.now path ≡ Some (clean [])) told

-- the file at the path reads as these bytes
abbrev pub IsWritten : List ℕ → List ℕ → Option Told → Option Told → Type 0
IsWritten path bytes before after = Stands path (λ f. f.seen ≡ bytes) before after

-- and they are on the disk
abbrev pub IsSettled : List ℕ → List ℕ → Option Told → Option Told → Type 0
IsSettled path bytes before after = Stands path (λ f. f ≡ clean bytes) before after

-- of all files those behind the ones that are left have landed
pub record HasLanded (all left : List File) (before after : Option Told) : Type 0 where
  pub landed : List File
  pub whole : all ≡ left ++ landed
  pub lands : Lands landed before after

-- at every path but this one, what stood there stands there still
abbrev pub KeepsBeside : List ℕ → Disk → Disk → Type 0
KeepsBeside path d e = (other : List ℕ) → bytes_eq path other ≡ false → e other ≡ d other

-- so it is at every moment since and now, where the disk is told
abbrev pub LeavesBeside : List ℕ → Option Told → Option Told → Type 0
LeavesBeside path before after = Run (KeepsBeside path) (KeepsBeside path) before after
