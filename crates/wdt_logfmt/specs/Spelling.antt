-- The bytes of a log: a header, and then batches, each ending with the gate byte of the next.
use Rattle.std.specs.Prelude.{ℕ, ◌<◌, ◌^◌, List, [], ◌∷◌, ◌++◌, length}
use Rattle.std.specs.List.{flat_map}
use Rattle.byteorder.specs.Endian.{big_bytes}
use Rattle.wdt_logfmt.specs.declared.entry.LogEntry.{LogEntry}
use Rattle.wdt_logfmt.specs.declared.entry.LogEntry.TheVariants.{File, Covered}

-- an entry is its kind's byte and its fields, high byte first
abbrev pub spell : LogEntry → List ℕ
spell (File number path size stamp) = 0x46 ∷ (big_bytes 4 number ++ (big_bytes 2 (length path) ++ (path ++ (big_bytes 8 size ++ big_bytes 8 stamp))))
spell (Covered number offset count) = 0x4D ∷ (big_bytes 4 number ++ (big_bytes 8 offset ++ big_bytes 4 count))

-- its numbers have room in their fields
abbrev pub Fits : LogEntry → Type 0
Fits (File number path size stamp) = (number < 2 ^ 32) × (length path < 2 ^ 16) × (size < 2 ^ 64) × (stamp < 2 ^ 64)
Fits (Covered number offset count) = (number < 2 ^ 32) × (offset < 2 ^ 64) × (count < 2 ^ 32)

-- the numbers of all these entries have room in their fields
abbrev pub AllFit : List LogEntry → Type 0
AllFit [] = Unit {0}
AllFit (e ∷ es) = Fits e × AllFit es

-- the bytes of entries, one behind the other
abbrev pub spell_all : List LogEntry → List ℕ
spell_all es = flat_map spell es

-- a batch without the gate byte of the next: the length of its entries, and they
abbrev pub batch_body : List LogEntry → List ℕ
batch_body es = big_bytes 4 (length (spell_all es)) ++ spell_all es

-- a batch with a closed gate behind it
abbrev pub closed_batch : List LogEntry → List ℕ
closed_batch es = batch_body es ++ 0 ∷ []

-- the first bytes of a log of this version; the first gate byte follows
abbrev pub header : ℕ → List ℕ
header version = 0x57 ∷ 0x44 ∷ 0x54 ∷ 0x4C ∷ big_bytes 2 version

-- the version of the logs that are written
abbrev pub written_version : ℕ
written_version = 1

-- a log of which nothing is known yet
abbrev pub new_log : List ℕ
new_log = header written_version ++ 0 ∷ []
