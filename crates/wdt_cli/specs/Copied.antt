-- What the ends of a copy over connections are opened with, and what they leave before the report.
use Rattle.std.specs.Prelude.{◌≡◌, ◌<◌, ◌≤◌, ℕ, List, [], All, length, Option, Some, IfSome}
use Rattle.wdt_units.specs.Counts.{Rises}
use Rattle.wdt_units.specs.Tree.{File}
use Rattle.wdt_units.specs.declared.limits.TheConstants.{MAX_BLOCK, MAX_LANES}
use Rattle.wdt_tree.specs.Told.{ToldRun}
use Rattle.wdt_tree.specs.declared.entry.Entry.{Entry}
use Rattle.wdt_depot.specs.Moments.{IfTold}
use Rattle.wdt_depot.specs.State.{State}
use Rattle.wdt_good.specs.Logged.{AllFit, GoodSince}
use Rattle.wdt_log.specs.Others.{OthersStand, SlipsStand}
use Rattle.wdt_sender_fsm.specs.declared.answers.RefusedKind.TheVariants.{BadLog}
use Rattle.wdt_dock.specs.declared.opening.DockFail.{DockFail}
use Rattle.wdt_dock.specs.declared.opening.DockFail.TheVariants as opening
use Rattle.wdt_lanes.specs.Kept.{Lists}
use Rattle.wdt_tool.specs.Refusals.{IsLogCause}
use Rattle.wdt_tool.specs.declared.fail.CommandFail.{CommandFail}
use Rattle.wdt_tool.specs.declared.fail.CommandFail.TheVariants.{Source, Disk, Refused, NoMemory}
use Rattle.wdt_tool.specs.declared.status.Status.{Status}
use Rattle.wdt_cli.specs.declared.copying.Opening.{Opening}
use Rattle.wdt_sending.specs.Judging.{first_of}
use Rattle.wdt_cli.specs.Carried.{IsGivenTo}

-- ---- what a copy is handed

-- Both ends may be opened with these: 1 to 16 lanes, blocks of 1 to 67,108,864 bytes, batches of some bytes. The
-- manifest lists the run's tree, and the depot, in which no file is entered, is as it is given to the run.
pub record MayOpen (run : Option ToldRun) (manifest : List Entry) (lanes block batch : ℕ) (s : State) : Type 0 where
  pub some_lanes : 1 ≤ lanes
  pub few_lanes : lanes ≤ MAX_LANES
  pub some_block : 1 ≤ block
  pub block_limit : block ≤ MAX_BLOCK
  pub some_batch : 0 < batch
  pub lists : Lists run manifest
  pub spots : s.spots ≡ []
  pub given : IfSome run (λ r. IsGivenTo r s.told)

-- what the ends of a copy are opened with
abbrev pub opening_in : (lanes block batch : ℕ) → List Entry → Opening
opening_in lanes block batch manifest = record { manifest = manifest; lanes = lanes; block = block; batch = batch }

-- so many lanes have each a source, which tells the run's tree, and a dialer and an acceptor with no connection out
pub record MayCarry {S C A : Type 0} (told : S → Option (List File)) (dialed : C → ℕ) (accepted : A → ℕ) (run : Option ToldRun) (lanes : ℕ)
    (sources : List S) (dialers : List C) (acceptors : List A) : Type 0 where
  pub as_many_sources : length sources ≡ lanes
  pub as_many_dialers : length dialers ≡ lanes
  pub as_many_acceptors : length acceptors ≡ lanes
  pub tree : IfSome run (λ r. All (λ source. told source ≡ Some r.tree) sources)
  pub dialers_home : All (λ dialer. dialed dialer ≡ 0) dialers
  pub acceptors_home : All (λ acceptor. accepted acceptor ≡ 0) acceptors

-- A receiving end may be opened with these: 1 to 16 lanes, each with an acceptor with no connection out, batches of
-- some bytes, and a depot, in which no file is entered, as it is given to the run.
pub record MayTake {A : Type 0} (accepted : A → ℕ) (run : Option ToldRun) (lanes batch : ℕ) (s : State) (acceptors : List A) : Type 0 where
  pub some_lanes : 1 ≤ lanes
  pub few_lanes : lanes ≤ MAX_LANES
  pub some_batch : 0 < batch
  pub spots : s.spots ≡ []
  pub given : IfSome run (λ r. IsGivenTo r s.told)
  pub as_many : length acceptors ≡ lanes
  pub home : All (λ acceptor. accepted acceptor ≡ 0) acceptors

-- ---- what a copy leaves

-- Both ends ran: each left what it leaves with its own status, and the status is the first of theirs.
pub record CopyLeaves (sends receives : Status → Type 0) (status : Status) : Type 0 where
  pub sender : Status
  pub receiver : Status
  pub sent : sends sender
  pub received : receives receiver
  pub judged : status ≡ first_of sender receiver

-- ---- where an end isn't opened

-- the failure, where the receiving end doesn't open
abbrev pub failure_of : DockFail → CommandFail
failure_of opening.Disk = Disk
failure_of (opening.BadLog at) = Refused (BadLog at)
failure_of opening.NoMemory = NoMemory

-- why: the disk failed, its log has no meaning, or memory ran out
abbrev pub IsOpeningCause : CommandFail → State → State → Type 0
IsOpeningCause Disk old new = Rises old.faults new.faults
IsOpeningCause (Refused kind) old new = IsLogCause old.told kind
IsOpeningCause NoMemory old new = Unit {0}
IsOpeningCause Source old new = ⊥

-- The depot that comes back where an end isn't opened: at each moment since it was handed in each image is good for
-- each tree for which all were, each file but the log reads as it did, and no slip came.
pub record IsUnopened (failure : CommandFail) (old new : State) : Type 0 where
  pub images : (T : List File) → IfTold (λ t. AllFit T t.now) old.told → GoodSince T [] old.told new.told
  pub good : (T : List File) → IfTold (λ t. AllFit T t.now) old.told → IfTold (λ t. AllFit T t.now) new.told
  pub others : OthersStand old.told new.told
  pub slips : SlipsStand old new
  pub spots : new.spots ≡ []
  pub later : old.faults ≤ new.faults
  pub cause : IsOpeningCause failure old new
