-- Worked logs, by computation.
use Rattle.std.proofs.Common.{◌≡◌, ℕ, true, List, [], ◌∷◌, ◌++◌, Ok, Err, refl, arith}
use Rattle.wdt_units.specs.Path.{is_lawful}
use Rattle.wdt_units.proofs.Shared.{lawful-is}
use Rattle.wdt_logfmt.specs.declared.entry.LogEntry.TheVariants.{File, Covered}
use Rattle.wdt_logfmt.specs.Spelling.{closed_batch, header, new_log}
use Rattle.wdt_logfmt.specs.Adding.{can_name, can_cover}
use Rattle.wdt_logfmt.specs.Meaning.{log_meaning, from_gate, whole_batch, with_entries, entry_added, file_entry, covered_entry, number, some_bytes}

-- a log of one whole file `a` of two bytes
two_bytes : List ℕ
two_bytes =
    0x57 ∷ 0x44 ∷ 0x54 ∷ 0x4C ∷ 0 ∷ 1 ∷ 1 ∷ 0 ∷ 0 ∷ 0 ∷ 0x29
    ∷ 0x46 ∷ 0 ∷ 0 ∷ 0 ∷ 0 ∷ 0 ∷ 1 ∷ 0x61 ∷ 0 ∷ 0 ∷ 0 ∷ 0 ∷ 0 ∷ 0 ∷ 0 ∷ 2 ∷ 0 ∷ 0 ∷ 0 ∷ 0 ∷ 0 ∷ 0 ∷ 0 ∷ 0
    ∷ 0x4D ∷ 0 ∷ 0 ∷ 0 ∷ 0 ∷ 0 ∷ 0 ∷ 0 ∷ 0 ∷ 0 ∷ 0 ∷ 0 ∷ 0 ∷ 0 ∷ 0 ∷ 0 ∷ 2 ∷ 0 ∷ []

-- it is the header, an open gate, and the batch that names the file and covers it
spelled : header 1 ++ 1 ∷ closed_batch (File 0 (0x61 ∷ []) 2 0 ∷ Covered 0 0 2 ∷ []) ≡ two_bytes
unfolding two_bytes
spelled = refl

-- a new log says nothing yet
fresh : log_meaning new_log ≡ Ok (record { files = []; end = 6 })
unfolding log_meaning from_gate
fresh = refl

a_lawful : is_lawful (0x61 ∷ []) ≡ true
a_lawful = lawful-is (0x61 ∷ []) (omega arith) (omega arith) ((refl, omega arith), tt)

a_nameable : can_name [] 0 (0x61 ∷ []) 2 ≡ true
unfolding can_name
a_nameable = rw a_lawful refl

one_file : log_meaning two_bytes ≡ Ok (record { files = record { number = 0; have = record { path = 0x61 ∷ []; size = 2; stamp = 0; spans = record { offset = 0; count = 2 } ∷ [] } } ∷ []; end = 52 })
unfolding two_bytes log_meaning from_gate whole_batch with_entries entry_added file_entry covered_entry number some_bytes can_cover
one_file = rw a_nameable refl

another_gate : log_meaning (0x57 ∷ 0x44 ∷ 0x54 ∷ 0x4C ∷ 0 ∷ 1 ∷ 7 ∷ []) ≡ Ok (record { files = []; end = 6 })
unfolding log_meaning from_gate
another_gate = refl

another_version : log_meaning (0x57 ∷ 0x44 ∷ 0x54 ∷ 0x4C ∷ 0 ∷ 2 ∷ 7 ∷ []) ≡ Err 0
unfolding log_meaning from_gate
another_version = refl

nothing_behind : log_meaning (0x57 ∷ 0x44 ∷ 0x54 ∷ 0x4C ∷ 0 ∷ 1 ∷ 1 ∷ []) ≡ Err 7
unfolding log_meaning from_gate whole_batch number
nothing_behind = refl

-- a torn gate that isn't 1 hides the batch
hidden : log_meaning (0x57 ∷ 0x44 ∷ 0x54 ∷ 0x4C ∷ 0 ∷ 1 ∷ 251 ∷ 0 ∷ 0 ∷ 0 ∷ 0x29 ∷ []) ≡ Ok (record { files = []; end = 6 })
unfolding log_meaning from_gate
hidden = refl
