-- The programs of calls on files and on the log, in the order in which they are made.
use Rattle.std.specs.Prelude.{ℕ, ◌+◌, Bool, true, List, [], ◌∷◌, Option, Some, None}
use Rattle.wdt_depot.specs.Disk.{DiskFile}
use Rattle.wdt_depot.specs.Programs.{Drive, both, looking, run_make, run_place, run_sync, run_write}
use Rattle.wdt_logfmt.specs.Spelling.{new_log}
use Rattle.wdt_good.specs.Good.{log_path, new_log_path}

-- bytes are written to a file, and synced
abbrev pub run_put : List ℕ → ℕ → List ℕ → Drive → Bool × Drive
run_put path offset bytes = both (run_write path offset bytes) (run_sync path)

-- bytes are written to a file that is entered for it
abbrev pub run_piece : List ℕ → ℕ → List ℕ → Drive → Bool × Drive
run_piece path offset bytes = both looking (run_write path offset bytes)

-- ---- an append

-- The batch is put behind the closed gate, which stands at the end, and then the gate is opened by one byte.
abbrev pub run_four : ℕ → List ℕ → Drive → Bool × Drive
run_four end batch = both (run_put log_path (end + 1) batch) (run_put log_path end (1 ∷ []))

-- an append looks for the log, and makes these four calls
abbrev pub run_append : ℕ → List ℕ → Drive → Bool × Drive
run_append end batch = both looking (run_four end batch)

-- ---- an opening

-- nothing is there: a log is made beside its place, and put there
abbrev pub run_making : Drive → Bool × Drive
run_making = both (run_make new_log_path) (both looking (both (run_put new_log_path 0 new_log) (run_place new_log_path log_path)))

-- a log is there: it is synced and read
abbrev pub run_reading : Drive → Bool × Drive
run_reading = both (run_sync log_path) looking

-- what is found at the log's place decides
abbrev pub run_found : Option DiskFile → Drive → Bool × Drive
run_found None = both looking run_making
run_found (Some f) = both looking run_reading

-- an opening looks for the log, and goes on by what is found
abbrev pub run_open : Drive → Bool × Drive
run_open p = run_found (p.disk log_path) p

-- the first calls of an opening: where nothing is there, only that is found
abbrev pub run_looked : Option DiskFile → Drive → Bool × Drive
run_looked None = looking
run_looked (Some f) = both looking run_reading

-- the same, by what is found
abbrev pub run_look : Drive → Bool × Drive
run_look p = run_looked (p.disk log_path) p

-- ---- a flush

-- a file is entered and synced
abbrev pub run_sync_file : List ℕ → Drive → Bool × Drive
run_sync_file path = both looking (run_sync path)

-- files are synced, one behind the other
abbrev pub run_syncs : List (List ℕ) → Drive → Bool × Drive
run_syncs [] = λ p. (true, p)
run_syncs (path ∷ paths) = both (run_sync_file path) (run_syncs paths)

-- a flush: the files are synced, and then the batch is appended to the log
abbrev pub run_flush : List (List ℕ) → ℕ → List ℕ → Drive → Bool × Drive
run_flush paths end batch = both (run_syncs paths) (run_append end batch)
