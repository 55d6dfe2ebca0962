-- What a transfer over connections puts to its sink.
use Rattle.std.specs.Prelude.{◌≡◌, ◌⊎◌, ℕ, ◌++◌, List, [], ◌∷◌, Option, Some, None}
use Rattle.wdt_units.specs.Counts.{Rises}
use Rattle.wdt_tree.specs.Told.{ToldRun}
use Rattle.wdt_sender_fsm.specs.declared.events.SendEvent.{SendEvent}
use Rattle.wdt_receiver_fsm.specs.declared.events.RecvEvent.{RecvEvent}
use Rattle.wdt_report.specs.Lines.{copy_text, recv_text, send_text}
use Rattle.wdt_tool.specs.Lines.{last_line, Got, GotMost}
use Rattle.wdt_tool.specs.declared.status.Status.{Status}
use Rattle.wdt_tool.specs.declared.status.Status.TheVariants.{Done, Usage, SourceFault, DiskFault, LinkFault, Peer, Aborted, Refused, OutFault, NoMemory}
use Rattle.wdt_words.specs.declared.command.Transfer.{Transfer}
use Rattle.wdt_words.specs.declared.command.Transfer.TheVariants.{Copy, Send, Recv}
use Rattle.wdt_sending.specs.Causes.{BothEnded, ReceiverRan, SenderRan}
use Rattle.wdt_sending.specs.declared.reporting.Report.{Report}
use Rattle.wdt_sending.specs.declared.reporting.Report.TheVariants as reports

-- The report of a run, by the histories of its ends: of a copy of so many files, of a sender of so many, or of a
-- receiver.
abbrev pub text_in : Report → List SendEvent → List RecvEvent → List ℕ
text_in (reports.Copy files) sender receiver = copy_text files (sender ∷ []) (receiver ∷ [])
text_in (reports.Send files) sender receiver = send_text files sender
text_in reports.Recv sender receiver = recv_text receiver

-- it stands before the last line of a status
abbrev pub report_text : Report → List SendEvent → List RecvEvent → Status → List ℕ
report_text report sender receiver status = text_in report sender receiver ++ last_line status

-- A text was put, behind which a status stands: the sink got all of it behind Done, and a front of it where the
-- sink failed. Where memory ran out nothing is promised.
abbrev pub PrintsText : List ℕ → Status → ℕ → ℕ → Option (List ℕ) → Option (List ℕ) → Type 0
PrintsText text Done before after old new = Got text old new
PrintsText text NoMemory before after old new = Unit {0}
PrintsText text status before after old new = GotMost text before after old new

-- The status before the lines are put: a copy that was done and couldn't say so was done.
abbrev pub before_lines : Status → Status
before_lines OutFault = Done
before_lines status = status

-- Behind a run the sink got the report and the last line of the status before they were put.
abbrev pub PrintsRun : Report → List SendEvent → List RecvEvent → Status → ℕ → ℕ → Option (List ℕ) → Option (List ℕ) → Type 0
PrintsRun report sender receiver status before after old new = PrintsText (report_text report sender receiver (before_lines status)) status before after old new

-- A status behind its lines is the one before them, but that a run which was done couldn't say so where the sink's
-- count of faults rose, and memory may have run out.
abbrev pub IsPut : Status → Status → ℕ → ℕ → Type 0
IsPut status OutFault before after = (status ≡ Done) × Rises before after
IsPut status NoMemory before after = Unit {0}
IsPut status Done before after = status ≡ Done
IsPut status Usage before after = status ≡ Usage
IsPut status SourceFault before after = status ≡ SourceFault
IsPut status DiskFault before after = status ≡ DiskFault
IsPut status LinkFault before after = status ≡ LinkFault
IsPut status (Peer kind) before after = status ≡ Peer kind
IsPut status (Aborted code) before after = status ≡ Aborted code
IsPut status (Refused kind) before after = status ≡ Refused kind

-- The ends of a run came to a status, by so many files, unless memory ran out, and the sink got the run's report.
pub record EndsAs (ends : ℕ → Status → Type 0) (report : ℕ → Report) (sender : List SendEvent) (receiver : List RecvEvent) (status : Status) (before after : ℕ) (old new : Option (List ℕ)) : Type 0 where
  pub files : ℕ
  pub ended : (status ≡ NoMemory) ⊎ ends files (before_lines status)
  pub prints : PrintsRun (report files) sender receiver status before after old new

-- both ends of a copy ran
abbrev pub CopyEnds : Option ToldRun → List SendEvent → List RecvEvent → Status → ℕ → ℕ → Option (List ℕ) → Option (List ℕ) → Type 0
CopyEnds run sender receiver status before after old new =
    EndsAs (λ files s. BothEnded run files sender receiver s) (λ files. reports.Copy files) sender receiver status before after old new

-- the sending end alone ran
abbrev pub SendEnds : Option ToldRun → List SendEvent → List RecvEvent → Status → ℕ → ℕ → Option (List ℕ) → Option (List ℕ) → Type 0
SendEnds run sender receiver status before after old new =
    EndsAs (λ files s. SenderRan run files sender s) (λ files. reports.Send files) sender receiver status before after old new

-- the receiving end alone ran
abbrev pub RecvEnds : List SendEvent → List RecvEvent → Status → ℕ → ℕ → Option (List ℕ) → Option (List ℕ) → Type 0
RecvEnds sender receiver status before after old new =
    EndsAs (λ files s. ReceiverRan receiver s) (λ files. reports.Recv) sender receiver status before after old new

-- the ends of a transfer ran: both of a copy, or the one that it has
abbrev pub EndsRun : Transfer → Option ToldRun → List SendEvent → List RecvEvent → Status → ℕ → ℕ → Option (List ℕ) → Option (List ℕ) → Type 0
EndsRun (Copy lanes block batch) run sender receiver status before after old new = CopyEnds run sender receiver status before after old new
EndsRun (Send port lanes block session) run sender receiver status before after old new = SendEnds run sender receiver status before after old new
EndsRun (Recv port lanes batch) run sender receiver status before after old new = RecvEnds sender receiver status before after old new

-- those of the transfer that words are; where they are none, no end ran
abbrev pub EndsWords : Option Transfer → Option ToldRun → List SendEvent → List RecvEvent → Status → ℕ → ℕ → Option (List ℕ) → Option (List ℕ) → Type 0
EndsWords None run sender receiver status before after old new = ⊥
EndsWords (Some transfer) run sender receiver status before after old new = EndsRun transfer run sender receiver status before after old new

-- before its ends were opened it got the last line alone
abbrev pub PrintsEnd : Status → ℕ → ℕ → Option (List ℕ) → Option (List ℕ) → Type 0
PrintsEnd Usage before after old new = GotMost (last_line Usage) before after old new
PrintsEnd SourceFault before after old new = GotMost (last_line SourceFault) before after old new
PrintsEnd DiskFault before after old new = GotMost (last_line DiskFault) before after old new
PrintsEnd (Refused kind) before after old new = GotMost (last_line (Refused kind)) before after old new
PrintsEnd NoMemory before after old new = Unit {0}
PrintsEnd status before after old new = ⊥

-- An end wasn't opened: nothing happened at either, and the sink got the last line alone.
pub record PrintsEarly (sender : List SendEvent) (receiver : List RecvEvent) (status : Status) (before after : ℕ) (old new : Option (List ℕ)) : Type 0 where
  pub none_sent : sender ≡ []
  pub none_received : receiver ≡ []
  pub prints : PrintsEnd status before after old new
