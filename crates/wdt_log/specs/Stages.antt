-- The disks of an append, one behind the other.
use Rattle.std.specs.Prelude.{◌≡◌, ◌⊎◌, ℕ, ◌+◌, List, [], ◌∷◌, Result, Ok, Err}
use Rattle.wdt_depot.specs.Disk.{Disk, synced_at, wrote}
use Rattle.wdt_good.specs.Good.{log_path}
use Rattle.wdt_log.specs.declared.fail.LogFail.{LogFail}
use Rattle.wdt_log.specs.declared.fail.LogFail.TheVariants.{Disk as DiskFail, BadLog, Shut, NoMemory}

-- ---- bytes that are put to a file

-- the bytes are written there, and the file is synced
abbrev pub stable : List ℕ → ℕ → List ℕ → Disk → Disk
stable path offset bytes d = synced_at path (wrote path offset bytes d)

-- one of the disks on the way to that
abbrev pub IsPut : List ℕ → ℕ → List ℕ → Disk → Disk → Type 0
IsPut path offset bytes d x = (x ≡ d) ⊎ ((x ≡ wrote path offset bytes d) ⊎ (x ≡ stable path offset bytes d))

-- what is left: for want of memory nothing was done
abbrev pub Puts : Result (Unit {0}) LogFail → List ℕ → ℕ → List ℕ → Disk → Disk → Type 0
Puts (Ok done) path offset bytes d x = x ≡ stable path offset bytes d
Puts (Err NoMemory) path offset bytes d x = x ≡ d
Puts (Err DiskFail) path offset bytes d x = IsPut path offset bytes d x
Puts (Err Shut) path offset bytes d x = ⊥
Puts (Err (BadLog at)) path offset bytes d x = ⊥

-- ---- an append

-- the batch is written behind the closed gate, which stands at the end
abbrev pub written : ℕ → List ℕ → Disk → Disk
written end batch d = wrote log_path (end + 1) batch d

-- and synced
abbrev pub staged : ℕ → List ℕ → Disk → Disk
staged end batch d = stable log_path (end + 1) batch d

-- the gate is written
abbrev pub opening : ℕ → List ℕ → Disk → Disk
opening end batch d = wrote log_path end (1 ∷ []) (staged end batch d)

-- and synced
abbrev pub opened : ℕ → List ℕ → Disk → Disk
opened end batch d = stable log_path end (1 ∷ []) (staged end batch d)

-- one of the disks of an append that began on the first
abbrev pub IsStage : ℕ → List ℕ → Disk → Disk → Type 0
IsStage end batch d x = (x ≡ d) ⊎ ((x ≡ written end batch d) ⊎ ((x ≡ staged end batch d) ⊎ ((x ≡ opening end batch d) ⊎ (x ≡ opened end batch d))))

-- what an append leaves: for want of memory the gate isn't touched
abbrev pub Leaves : Result (Unit {0}) LogFail → ℕ → List ℕ → Disk → Disk → Type 0
Leaves (Ok done) end batch d x = x ≡ opened end batch d
Leaves (Err NoMemory) end batch d x = (x ≡ d) ⊎ (x ≡ staged end batch d)
Leaves (Err DiskFail) end batch d x = IsStage end batch d x
Leaves (Err Shut) end batch d x = ⊥
Leaves (Err (BadLog at)) end batch d x = ⊥
