-- The lines that a run puts to its sink.
use Rattle.std.specs.Prelude.{◌≡◌, ℕ, ◌==◌, if◌then◌else◌, List, [], ◌∷◌, ◌++◌, take, codes, Option, Some, None}
use Rattle.std.specs.List.{flat_map}
use Rattle.std.specs.Fmt.{decimal}
use Rattle.wdt_units.specs.Counts.{Stands}
use Rattle.wdt_rehearsal.specs.declared.report.Report.{Report}
use Rattle.wdt_tool.specs.declared.status.Status.{Status}
use Rattle.wdt_tool.specs.declared.status.Status.TheVariants.{Done, Usage, SourceFault, DiskFault, LinkFault, Peer, Aborted, Refused, OutFault, NoMemory}
use Rattle.wdt_sender_fsm.specs.declared.answers.RefusedKind.{RefusedKind}
use Rattle.wdt_sender_fsm.specs.declared.answers.RefusedKind.TheVariants.{BadScript, BadPath, Reserved, Twice, TooMany, TooLarge, TooManyBlocks, Stale, BadLog}

-- the seven lines of a report
abbrev pub report_lines : Report → List ℕ
report_lines report = codes "files " ++ decimal report.files ++ codes "\nblocks " ++ decimal report.blocks
    ++ codes "\nbytes " ++ decimal report.bytes ++ codes "\nconnections 1\nrequeued 0\nclosed 0\nsessions 1\n"

-- a byte of a path on one line: a backslash as two, a line feed as a backslash and an n
abbrev pub printed_byte : ℕ → List ℕ
printed_byte b = if b == 92 then 92 ∷ 92 ∷ [] else if b == 10 then 92 ∷ 110 ∷ [] else b ∷ []

-- a path on one line
abbrev pub printed : List ℕ → List ℕ
printed path = flat_map printed_byte path

-- what is refused, and where
abbrev pub refusal_of : RefusedKind → List ℕ
refusal_of (BadScript line) = codes "bad script line " ++ decimal line
refusal_of (BadPath at) = codes "bad path " ++ decimal at
refusal_of (Reserved at) = codes "reserved " ++ decimal at
refusal_of (Twice at) = codes "twice " ++ decimal at
refusal_of (TooMany count) = codes "too many files " ++ decimal count
refusal_of (TooLarge at) = codes "too large " ++ decimal at
refusal_of (TooManyBlocks count) = codes "too many blocks " ++ decimal count
refusal_of (Stale path logged found) = codes "stale " ++ printed path
refusal_of (BadLog at) = codes "bad log " ++ decimal at

-- the line of a run that is refused
abbrev pub refusal_line : RefusedKind → List ℕ
refusal_line kind = codes "refused: " ++ refusal_of kind ++ codes "\n"

-- the last line of a run, by how it ends; where standard output failed or memory ran out there is none
abbrev pub last_line : Status → List ℕ
last_line Done = codes "ok\n"
last_line Usage = codes "usage\n"
last_line SourceFault = codes "source fault\n"
last_line DiskFault = codes "disk fault\n"
last_line LinkFault = codes "link fault\n"
last_line (Peer kind) = codes "peer fault\n"
last_line (Aborted code) = codes "aborted " ++ decimal code ++ codes "\n"
last_line (Refused kind) = refusal_line kind
last_line OutFault = []
last_line NoMemory = []

-- a status whose line is always the same: that of a refusal names what is refused, and that of a failure which
-- was heard of its code
abbrev pub HasFixedLine : Status → Type 0
HasFixedLine (Refused kind) = ⊥
HasFixedLine (Aborted code) = ⊥
HasFixedLine other = Unit {0}

-- ---- what a sink that tells its bytes got

-- all of the text
abbrev pub Got : List ℕ → Option (List ℕ) → Option (List ℕ) → Type 0
Got text None new = new ≡ None
Got text (Some old) new = new ≡ Some (old ++ text)

-- all of the text, or a front of it where the sink's count of faults rose
abbrev pub GotMost : List ℕ → ℕ → ℕ → Option (List ℕ) → Option (List ℕ) → Type 0
GotMost text before after None new = new ≡ None
GotMost text before after (Some old) new = (n : ℕ) × (new ≡ Some (old ++ take n text)) × (Stands before after → new ≡ Some (old ++ text))

-- the last line of a run that isn't done, and waits for no connection. Behind a sink that failed, and where
-- memory ran out, nothing is promised here.
abbrev pub PrintsLine : Status → ℕ → ℕ → Option (List ℕ) → Option (List ℕ) → Type 0
PrintsLine Done before after old new = ⊥
PrintsLine Usage before after old new = GotMost (last_line Usage) before after old new
PrintsLine SourceFault before after old new = GotMost (last_line SourceFault) before after old new
PrintsLine DiskFault before after old new = GotMost (last_line DiskFault) before after old new
PrintsLine LinkFault before after old new = ⊥
PrintsLine (Peer kind) before after old new = ⊥
PrintsLine (Aborted code) before after old new = ⊥
PrintsLine (Refused kind) before after old new = GotMost (last_line (Refused kind)) before after old new
PrintsLine OutFault before after old new = Unit {0}
PrintsLine NoMemory before after old new = Unit {0}
