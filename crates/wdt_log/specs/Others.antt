-- What the log's calls leave alone.
use Rattle.std.specs.Prelude.{◌≡◌, ℕ, ◌≤◌, false, List, length, Option, Some, None}
use Rattle.std.specs.Str.{bytes_eq}
use Rattle.wdt_depot.specs.Disk.{Disk, DiskFile}
use Rattle.wdt_depot.specs.Moments.{IfTold, Told}
use Rattle.wdt_depot.specs.State.{State}
use Rattle.wdt_good.specs.Good.{log_path, new_log_path}

-- each file stands as it was, but for the log and a new one
abbrev pub KeepsOthers : Disk → Disk → Type 0
KeepsOthers d e = (path : List ℕ) → bytes_eq log_path path ≡ false → bytes_eq new_log_path path ≡ false → e path ≡ d path

-- the same of the disk that is told now; whether it is told doesn't change
abbrev pub OthersStand : Option Told → Option Told → Type 0
OthersStand None None = Unit {0}
OthersStand None (Some u) = ⊥
OthersStand (Some t) None = ⊥
OthersStand (Some t) (Some u) = KeepsOthers t.now u.now

-- a depot that tells its disk was asked for nothing that can't be
abbrev pub SlipsStand : State → State → Type 0
SlipsStand old new = IfTold (λ t. new.slips ≡ old.slips) old.told

-- the file at the path has so many bytes at least
abbrev pub IsLong : List ℕ → ℕ → Disk → Type 0
IsLong path n d = (f : DiskFile) × (d path ≡ Some f) × (n ≤ length f.seen)

-- the same of slips, where that file is as long
abbrev pub SlipsStandAt : List ℕ → ℕ → State → State → Type 0
SlipsStandAt path n old new = IfTold (λ t. IsLong path n t.now → new.slips ≡ old.slips) old.told
