-- What the bytes of a log mean: the batches behind open gates are taken, one after the other, and the
-- first gate byte other than 1 ends the log. Or the place of the first part that has no reading.
use Rattle.std.specs.Prelude.{◌≡◌, ℕ, zero, suc, ◌+◌, ◌-◌, List, [], ◌∷◌, length, take, drop, Option, Some, None, option_map, Result, Ok, Err, nat_le, ◌==◌, bytes_eq, if◌then◌else◌}
use Rattle.byteorder.specs.Endian.{big_number}
use Rattle.wdt_logfmt.specs.declared.entry.LogEntry.{LogEntry}
use Rattle.wdt_logfmt.specs.declared.entry.LogEntry.TheVariants.{File, Covered}
use Rattle.wdt_logfmt.specs.declared.fails.ReadLogFail.{ReadLogFail}
use Rattle.wdt_logfmt.specs.declared.fails.ReadLogFail.TheVariants.{BadLog, NoMemory}
use Rattle.wdt_logfmt.specs.View.{NamedFile, Meaning}
use Rattle.wdt_logfmt.specs.Adding.{added}
use Rattle.wdt_logfmt.specs.Spelling.{header}

-- ---- an entry

-- a value from the front of the bytes, and the bytes behind it
abbrev pub Reading : Type 0 → Type 0
Reading A = List ℕ → Option (A × List ℕ)

-- a number of so many bytes, high byte first
unfoldable pub number : ℕ → Reading ℕ
number n bytes = if nat_le n (length bytes) then Some (big_number n bytes, drop n bytes) else None

-- so many bytes
unfoldable pub some_bytes : ℕ → Reading (List ℕ)
some_bytes n bytes = if nat_le n (length bytes) then Some (take n bytes, drop n bytes) else None

-- what is read behind a value, where that was read
abbrev pub then_read : {A B : Type 0} → Option (A × List ℕ) → (A → Reading B) → Option (B × List ℕ)
then_read None f = None
then_read (Some x) f = f x.0 x.1

-- the fields of a file's entry
unfoldable pub file_entry : Reading LogEntry
file_entry bytes =
    then_read (number 4 bytes) λ n. λ bytes1.
    then_read (number 2 bytes1) λ long. λ bytes2.
    then_read (some_bytes long bytes2) λ path. λ bytes3.
    then_read (number 8 bytes3) λ size. λ bytes4.
    then_read (number 8 bytes4) λ stamp. λ bytes5. Some (File n path size stamp, bytes5)

-- the fields of a covered span
unfoldable pub covered_entry : Reading LogEntry
covered_entry bytes =
    then_read (number 4 bytes) λ n. λ bytes1.
    then_read (number 8 bytes1) λ offset. λ bytes2.
    then_read (number 4 bytes2) λ count. λ bytes3. Some (Covered n offset count, bytes3)

-- the fields behind a kind's byte
abbrev pub entry_of : ℕ → Reading LogEntry
entry_of kind bytes = if kind == 0x46 then file_entry bytes else if kind == 0x4D then covered_entry bytes else None

-- the files with an entry that was read, and the bytes behind it
abbrev pub read_added : ℕ → List NamedFile → Option (LogEntry × List ℕ) → Option (List NamedFile × List ℕ)
read_added version fs read = then_read read λ e. λ rest. option_map (λ gs. (gs, rest)) (added version fs e)

-- the files with the entry at the front, and the bytes behind it
unfoldable pub entry_added : ℕ → List NamedFile → ℕ → List ℕ → Option (List NamedFile × List ℕ)
entry_added version fs kind bytes = read_added version fs (entry_of kind bytes)

-- ---- a batch

-- what a part gives, or the place where it has no reading
abbrev pub ok_then : {A B : Type 0} → Result A ℕ → (A → Result B ℕ) → Result B ℕ
ok_then (Ok x) f = f x
ok_then (Err at) f = Err at

-- a part that was read, or the place where it has no reading
abbrev pub or_bad : {A : Type 0} → ℕ → Option A → Result A ℕ
or_bad place None = Err place
or_bad place (Some x) = Ok x

-- the files with the entries, whose first byte stands at a place. Each entry has at least one byte, so as much
-- fuel as there are bytes is enough
unfoldable pub with_entries : ℕ → ℕ → ℕ → List NamedFile → List ℕ → Result (List NamedFile) ℕ
with_entries version fuel place fs [] = Ok fs
with_entries version zero place fs (kind ∷ bytes) = Err place
with_entries version (suc fuel) place fs (kind ∷ bytes) =
    ok_then (or_bad place (entry_added version fs kind bytes)) λ x.
    with_entries version fuel (place + (suc (length bytes) - length x.1)) x.0 x.1

-- where a gate byte stands in a log of a version, the files up to it, it, and the bytes behind it
pub record Gate : Type 0 where
  pub version : ℕ
  pub place : ℕ
  pub files : List NamedFile
  pub byte : ℕ
  pub rest : List ℕ

-- behind the length of a batch, which stands at a place: its entries, and the gate byte of the next
unfoldable pub whole_batch : ℕ → ℕ → List NamedFile → List ℕ → List ℕ → Result Gate ℕ
whole_batch version place fs body [] = Err place
whole_batch version place fs body (gate ∷ rest) =
    ok_then (with_entries version (length body) (place + 4) fs body) λ gs.
    Ok (record { version = version; place = place + 4 + length body; files = gs; byte = gate; rest = rest })

-- a batch whose length stands at a place, and may have been read
abbrev pub sized_batch : ℕ → ℕ → List NamedFile → Option (ℕ × List ℕ) → Result Gate ℕ
sized_batch version place fs None = Err place
sized_batch version place fs (Some x) = whole_batch version place fs (take x.0 x.1) (drop x.0 x.1)

-- the gate behind the batch that this one opens
abbrev pub next_gate : Gate → Result Gate ℕ
next_gate g = sized_batch g.version (g.place + 1) g.files (number 4 g.rest)

-- ---- a log

-- from a gate on. Each batch has at least one byte, so as much fuel as there are bytes is enough
unfoldable pub from_gate : ℕ → Gate → Result Meaning ℕ
from_gate zero g = if g.byte == 1 then Err (g.place + 1) else Ok (record { files = g.files; end = g.place })
from_gate (suc fuel) g = if g.byte == 1 then ok_then (next_gate g) (from_gate fuel) else Ok (record { files = g.files; end = g.place })

-- the version that the first bytes of a log tell
abbrev pub version_of : List ℕ → Option ℕ
version_of front = if bytes_eq front (header 1) then Some 1 else None

-- what stands behind the header of a log of this version; bytes that begin otherwise are no log
abbrev pub behind_header : Option ℕ → List ℕ → Result Meaning ℕ
behind_header None rest = Err 0
behind_header (Some version) [] = Err 0
behind_header (Some version) (gate ∷ rest) = from_gate (length rest) (record { version = version; place = 6; files = []; byte = gate; rest = rest })

-- the meaning of a log, or the place of the first byte of the first part that has no reading
unfoldable pub log_meaning : List ℕ → Result Meaning ℕ
log_meaning bytes = behind_header (version_of (take 6 bytes)) (drop 6 bytes)

-- why a log, or a part of it, wasn't read: it has no reading from there on, or memory ran out
abbrev pub IsRefused : {A : Type 0} → Result A ℕ → ReadLogFail → Type 0
IsRefused read (BadLog at) = read ≡ Err at
IsRefused read NoMemory = Unit {0}
