-- What a transfer over connections is handed, and what it leaves.
use Rattle.std.specs.Prelude.{◌≡◌, ◌≢◌, ℕ, List, [], Option, Some, None, Ok, IfSome}
use Rattle.wdt_units.specs.Counts.{Rises, Stands}
use Rattle.wdt_units.specs.Have.{HaveFile}
use Rattle.wdt_units.specs.Tree.{File}
use Rattle.wdt_tree.specs.Told.{ToldRun}
use Rattle.wdt_depot.specs.Disk.{Disk, seen_of}
use Rattle.wdt_depot.specs.Moments.{IfTold, Told}
use Rattle.wdt_depot.specs.State.{State}
use Rattle.wdt_logfmt.specs.View.{Meaning, have_of}
use Rattle.wdt_good.specs.Good.{log_of}
use Rattle.wdt_good.specs.Logged.{AllFit}
use Rattle.wdt_sender_fsm.specs.declared.events.SendEvent.{SendEvent}
use Rattle.wdt_receiver_fsm.specs.declared.events.RecvEvent.{RecvEvent}
use Rattle.wdt_words.specs.declared.command.Transfer.{Transfer}
use Rattle.wdt_words.specs.declared.command.Transfer.TheVariants.{Copy, Send, Recv}
use Rattle.wdt_tool.specs.declared.status.Status.{Status}
use Rattle.wdt_tool.specs.declared.status.Status.TheVariants.{DiskFault, SourceFault}
use Rattle.wdt_recv_lanes.specs.Kept.{IsBeside}
use Rattle.wdt_arrival.specs.Arrival.{HasArrived}

-- ---- what is handed in

-- a copy has a source, a dialer and an acceptor for each of its lanes, a send no acceptor, and a receiver an acceptor
-- alone
abbrev pub IsServed : Transfer → ℕ → ℕ → ℕ → Type 0
IsServed (Copy lanes block batch) sources dialers acceptors = (sources ≡ lanes) × (dialers ≡ lanes) × (acceptors ≡ lanes)
IsServed (Send port lanes block session) sources dialers acceptors = (sources ≡ lanes) × (dialers ≡ lanes) × (acceptors ≡ 0)
IsServed (Recv port lanes batch) sources dialers acceptors = (sources ≡ 0) × (dialers ≡ 0) × (acceptors ≡ lanes)

-- the run whose tree comes into the depot: a send has none there
abbrev pub stored_run : Option Transfer → Option ToldRun → Option ToldRun
stored_run None run = run
stored_run (Some (Copy lanes block batch)) run = run
stored_run (Some (Send port lanes block session)) run = None
stored_run (Some (Recv port lanes batch)) run = run

-- the log of a disk means that a destination has so much
abbrev pub HasLogged : Disk → List HaveFile → Type 0
HasLogged d have = (m : Meaning) × (log_of (seen_of d) ≡ Ok m) × (have ≡ have_of m.files)

-- the disk is told, each image of it is good for the run's tree, and its log means the run's have
abbrev pub IsGivenTo : ToldRun → Option Told → Type 0
IsGivenTo run None = ⊥
IsGivenTo run (Some t) = AllFit run.tree t.now × HasLogged t.now run.have

-- ---- what is left

-- the depot came back, and has the tree where it is told: as it is read, and in whatever a crash leaves
abbrev pub LandsIn : {D : Type 0} → (D → State) → List File → Option D → Type 0
LandsIn state tree None = ⊥
LandsIn state tree (Some depot) = IfTold (λ t. HasArrived tree t.now) (state depot).told

-- each image of the depot that came back is good for the tree
abbrev pub StaysGood : {D : Type 0} → (D → State) → List File → Option D → Type 0
StaysGood state tree depot = IfSome depot (λ d. IfTold (λ t. AllFit tree t.now) (state d).told)

-- at each path beside the tree and the log a disk reads as another did
abbrev pub ReadsOthers : List File → Disk → Option Told → Type 0
ReadsOthers tree d None = ⊥
ReadsOthers tree d (Some u) = (path : List ℕ) → IsBeside tree path → seen_of u.now path ≡ seen_of d path

-- so does the depot that came back, where it was told
abbrev pub KeepsOthers : {D : Type 0} → (D → State) → List File → Option Told → Option D → Type 0
KeepsOthers state tree told depot = IfSome depot (λ d. IfTold (λ t. ReadsOthers tree t.now (state d).told) told)

-- A send hands the depot back as it was handed in, so that no disk fails, and nothing happens at a receiving end. A
-- receiver has no source that could fail, and nothing happens at a sending end.
abbrev pub KeepsApart : {D : Type 0} → Transfer → D → Option D → List SendEvent → List RecvEvent → Status → Type 0
KeepsApart (Copy lanes block batch) before after sender receiver status = Unit {0}
KeepsApart (Send port lanes block session) before after sender receiver status = (after ≡ Some before) × (receiver ≡ []) × (status ≢ DiskFault)
KeepsApart (Recv port lanes batch) before after sender receiver status = (sender ≡ []) × (status ≢ SourceFault)

-- ---- the count of the depot

-- the count of the depot rose, which came back
abbrev pub DepotRose : {D : Type 0} → (D → State) → State → Option D → Type 0
DepotRose state before None = ⊥
DepotRose state before (Some depot) = Rises before.faults (state depot).faults

-- it is known not to have risen
abbrev pub DepotStands : {D : Type 0} → (D → State) → State → Option D → Type 0
DepotStands state before None = ⊥
DepotStands state before (Some depot) = Stands before.faults (state depot).faults
