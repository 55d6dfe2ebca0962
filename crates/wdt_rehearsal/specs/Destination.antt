-- What a depot has once a tree has landed in it.
use Rattle.std.specs.Prelude.{◌≡◌, ℕ, List, Option, Some, None}
use Rattle.wdt_units.specs.Tree.{File, file_of}
use Rattle.wdt_depot.specs.Disk.{Disk, DiskFile, clean}
use Rattle.wdt_depot.specs.Moments.{Run, Told}

-- what stands at a path where this file landed, or where none did
abbrev pub landed_over : Option File → Option DiskFile → Option DiskFile
landed_over None before = before
landed_over (Some file) before = Some (clean file.bytes)

-- a disk once a tree has landed on it: at the path of each file its bytes, synced, and at every other
-- path what stood there. A crash leaves of a synced file what is read (`a_sync_leaves_what_is_read`), so
-- the one equation says both.
abbrev pub landed_at : List File → Disk → Disk
landed_at files d path = landed_over (file_of files path) (d path)

-- the disk behind is the disk before with the tree landed on it, where it is told
abbrev pub Lands : List File → Option Told → Option Told → Type 0
Lands files None None = Unit {0}
Lands files None (Some u) = ⊥
Lands files (Some t) None = ⊥
Lands files (Some t) (Some u) = (path : List ℕ) → u.now path ≡ landed_at files t.now path

-- ---- what stays

-- at each path that none of these files has, what stood there stands there still
abbrev pub KeepsOthers : List File → Disk → Disk → Type 0
KeepsOthers files d e = (path : List ℕ) → file_of files path ≡ None → e path ≡ d path

-- so it is at every moment since and now, where the disk is told
abbrev pub LeavesOthers : List File → Option Told → Option Told → Type 0
LeavesOthers files before after = Run (KeepsOthers files) (KeepsOthers files) before after
