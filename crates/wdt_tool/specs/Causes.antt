-- How a run ends, and why.
use Rattle.std.specs.Prelude.{◌≡◌, ℕ, List, Option, Some, None, Result, Ok, Err}
use Rattle.wdt_units.specs.Counts.{Rises}
use Rattle.wdt_units.specs.Have.{HaveFile}
use Rattle.wdt_tree.specs.declared.entry.Entry.{Entry}
use Rattle.wdt_depot.specs.Moments.{Told}
use Rattle.wdt_depot.specs.State.{State}
use Rattle.wdt_sender_fsm.specs.declared.answers.RefusedKind.{RefusedKind}
use Rattle.wdt_words.specs.declared.command.Command.{Command}
use Rattle.wdt_tool.specs.declared.fail.CommandFail.{CommandFail}
use Rattle.wdt_tool.specs.declared.fail.CommandFail.TheVariants as fails
use Rattle.wdt_tool.specs.declared.status.Status.{Status}
use Rattle.wdt_tool.specs.declared.status.Status.TheVariants.{Done, Usage, SourceFault, DiskFault, Refused, OutFault, NoMemory}
use Rattle.wdt_tool.specs.Refusals.{plan_refusal, IsListingCause, IsLogCause, IsRefusedFor}

-- ---- commands that fail

-- a command fails for its cause: a refusal holds
abbrev pub IsCauseOf : (RefusedKind → Type 0) → CommandFail → Type 0
IsCauseOf refused (fails.Refused kind) = refused kind
IsCauseOf refused other = Unit {0}

-- a listing isn't taken, for its cause
abbrev pub IsListedFail : Option (List Entry) → CommandFail → Type 0
IsListedFail listing (fails.Refused kind) = IsListingCause listing kind
IsListedFail listing fails.Disk = ⊥
IsListedFail listing other = Unit {0}

-- a log isn't read, for its cause
abbrev pub IsLogFail : Option Told → CommandFail → Type 0
IsLogFail told (fails.Refused kind) = IsLogCause told kind
IsLogFail told fails.Source = ⊥
IsLogFail told other = Unit {0}

-- a tree isn't planned to a destination that has some of it, for its cause
abbrev pub IsPlanningFail : List Entry → List HaveFile → ℕ → CommandFail → Type 0
IsPlanningFail entries have block (fails.Refused kind) = plan_refusal entries have block ≡ Some kind
IsPlanningFail entries have block fails.NoMemory = Unit {0}
IsPlanningFail entries have block other = ⊥

-- a command that fails by its source, or is refused, leaves the depot as it was
abbrev pub IsUntouched : State → State → CommandFail → Type 0
IsUntouched old new fails.Source = new ≡ old
IsUntouched old new fails.Disk = Unit {0}
IsUntouched old new (fails.Refused kind) = new ≡ old
IsUntouched old new fails.NoMemory = Unit {0}

-- a command is refused for this, or memory ran out
abbrev pub RefusesCommand : {A : Type 0} → Result A CommandFail → RefusedKind → Type 0
RefusesCommand (Ok text) kind = ⊥
RefusesCommand (Err fails.Source) kind = ⊥
RefusesCommand (Err fails.Disk) kind = ⊥
RefusesCommand (Err (fails.Refused other)) kind = other ≡ kind
RefusesCommand (Err fails.NoMemory) kind = Unit {0}

-- ---- statuses

-- no refusal was answered for which there is a cause, as far as what the command judges is told
abbrev pub IsUnrefused : Option Command → Option (List Entry) → Option Told → Status → Type 0
IsUnrefused None listing told status = Unit {0}
IsUnrefused (Some command) listing told status = (kind : RefusedKind) → status ≡ Refused kind → IsRefusedFor command listing told kind → ⊥

-- the run is done, or memory ran out
abbrev pub IsDoneOrStarved : Status → Type 0
IsDoneOrStarved Done = Unit {0}
IsDoneOrStarved NoMemory = Unit {0}
IsDoneOrStarved other = ⊥

-- how the printing of a command's lines ends
abbrev pub IsTextEnd : Status → ℕ → ℕ → Type 0
IsTextEnd Done before after = Unit {0}
IsTextEnd OutFault before after = Rises before after
IsTextEnd NoMemory before after = Unit {0}
IsTextEnd other before after = ⊥

-- how the printing of a refusal ends
abbrev pub IsRefusalEnd : RefusedKind → Status → Type 0
IsRefusalEnd kind (Refused other) = other ≡ kind
IsRefusalEnd kind NoMemory = Unit {0}
IsRefusalEnd kind other = ⊥

-- how a run ends whose command failed
abbrev pub IsFailureEnd : CommandFail → Status → Type 0
IsFailureEnd fails.Source status = status ≡ SourceFault
IsFailureEnd fails.Disk status = status ≡ DiskFault
IsFailureEnd (fails.Refused kind) status = IsRefusalEnd kind status
IsFailureEnd fails.NoMemory status = status ≡ NoMemory

-- a run that ends by the words, by its source or by a refusal leaves the depot as it was
abbrev pub LeavesDepot : Status → State → State → Type 0
LeavesDepot Usage old new = new ≡ old
LeavesDepot SourceFault old new = new ≡ old
LeavesDepot (Refused kind) old new = new ≡ old
LeavesDepot other old new = Unit {0}
