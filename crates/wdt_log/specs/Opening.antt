-- The disks of the making of a log, and of the syncing of one that is there.
use Rattle.std.specs.Prelude.{◌≡◌, ◌⊎◌, Result, Ok, Err}
use Rattle.wdt_depot.specs.Disk.{Disk, made, placed, synced_at, wrote}
use Rattle.wdt_logfmt.specs.Spelling.{new_log}
use Rattle.wdt_good.specs.Good.{log_path, new_log_path}
use Rattle.wdt_log.specs.Stages.{stable}
use Rattle.wdt_log.specs.declared.fail.LogFail.{LogFail}

-- an empty file is made beside the log's place
abbrev pub made_new : Disk → Disk
made_new d = made new_log_path d

-- the bytes are written to it
abbrev pub written_new : Disk → Disk
written_new d = wrote new_log_path 0 new_log (made_new d)

-- and synced
abbrev pub synced_new : Disk → Disk
synced_new d = stable new_log_path 0 new_log (made_new d)

-- and it is put in place
abbrev pub placed_new : Disk → Disk
placed_new d = placed new_log_path log_path (synced_new d)

-- one of the disks of the making of a log that began on the first
abbrev pub IsMaking : Disk → Disk → Type 0
IsMaking d x = (x ≡ d) ⊎ ((x ≡ made_new d) ⊎ ((x ≡ written_new d) ⊎ ((x ≡ synced_new d) ⊎ (x ≡ placed_new d))))

-- a log that is there was synced, or not yet
abbrev pub IsSyncing : Disk → Disk → Type 0
IsSyncing d x = (x ≡ d) ⊎ (x ≡ synced_at log_path d)

-- what is left of the making
abbrev pub Makes : {T : Type 0} → Result T LogFail → Disk → Disk → Type 0
Makes (Ok made) d x = x ≡ placed_new d
Makes (Err fail) d x = IsMaking d x

-- what is left of the syncing
abbrev pub Syncs : {T : Type 0} → Result T LogFail → Disk → Disk → Type 0
Syncs (Ok read) d x = x ≡ synced_at log_path d
Syncs (Err fail) d x = IsSyncing d x
