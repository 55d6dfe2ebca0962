-- When a receiver's end and its disk are good for a tree, and what may be handed in.
use Rattle.std.specs.Prelude.{◌≡◌, ℕ, ◌-◌, ◌<◌, ◌≤◌, List, [], ◌∷◌, length, Option, Some, None, IfSome}
use Rattle.wdt_units.specs.declared.blocks.Block.{Block}
use Rattle.wdt_units.specs.declared.numbers.Lane.{Lane}
use Rattle.wdt_units.specs.Headers.{IsHeaderOf, IsOfFile}
use Rattle.wdt_units.specs.Tree.{File, IsRead, file_of}
use Rattle.wdt_codec.specs.declared.frames.Frame.TheVariants as frames
use Rattle.wdt_depot.specs.Disk.{Disk, DiskFile, seen_of}
use Rattle.wdt_depot.specs.Moments.{IfTold}
use Rattle.wdt_depot.specs.State.{State}
use Rattle.wdt_logfmt.specs.Adding.{span_at}
use Rattle.wdt_logfmt.specs.Beginning.{KnownFile}
use Rattle.wdt_good.specs.Good.{Each, GoodFiles, HasBytes}
use Rattle.wdt_good.specs.Logged.{AllFit}
use Rattle.wdt_receiver_fsm.specs.declared.inputs.RecvIn.TheVariants.{Got}
use Rattle.wdt_logfmt.specs.Batches.{path_at}
use Rattle.wdt_receiver_fsm.specs.Logging.{log_after}
use Rattle.wdt_receiver_fsm.specs.PlainReceiver.{PlainReceiver, lane_at, past_at}
use Rattle.wdt_receiver_fsm.specs.Turn.{Put, Given, Bytes, next_place}
use Rattle.wdt_dock.specs.DockView.{HasLostDisk}

-- ---- known files

-- said of the file of a number, where there is one
abbrev pub IfKnown : (KnownFile → Type 0) → Option KnownFile → Type 0
IfKnown P None = Unit {0}
IfKnown P (Some file) = P file

-- the tree has the known file, with this size and stamp
abbrev pub IsTrees : List File → KnownFile → Type 0
IsTrees T file = IsOfFile T file.path file.size file.stamp

-- it stands, no longer than its size
pub record StandsWithin (d : Disk) (file : KnownFile) : Type 0 where
  pub found : DiskFile
  pub there : d file.path ≡ Some found
  pub within : length found.seen ≤ file.size

-- ---- blocks that are on their way

-- what was written of a block, of which so many bytes are left, is the tree's
abbrev pub HasPart : List File → List (Option KnownFile) → Disk → ℕ → Block → Type 0
HasPart T known d left b =
    (t : File) → file_of T (path_at known b.file) ≡ Some t
    → HasBytes (seen_of d (path_at known b.file)) t.bytes (span_at b.offset (b.length - left) ∷ [])

-- the same of the block that is begun on a lane, if one is
abbrev pub HasPartOf : List File → PlainReceiver → Disk → ℕ → Type 0
HasPartOf T r d l = IfSome (past_at r l).begun (HasPart T r.known d (lane_at r l).left)

-- ---- the whole end

-- The known files are the tree's and stand, and what landed or was written of a block is the tree's as it is
-- read.
pub record GoodReads (T : List File) (r : PlainReceiver) (d : Disk) : Type 0 where
  pub known : Each (IfKnown (IsTrees T)) r.known
  pub stands : Each (IfKnown (StandsWithin d)) r.known
  pub landed : GoodFiles T (seen_of d) (log_after r).files
  pub parts : (l : ℕ) → l < length r.lanes → HasPartOf T r d l

-- Each image is good for the tree; and unless the disk failed, all that landed is the tree's.
pub record DockGood (T : List File) (r : PlainReceiver) (d : Disk) : Type 0 where
  pub fit : AllFit T d
  pub reads : (HasLostDisk r.answer → ⊥) → GoodReads T r d

-- The same of what a depot tells. An opening establishes it of any tree for which each image is good, and each call
-- keeps it where what is handed in is of the tree.
abbrev pub IsGoodFor : List File → PlainReceiver → State → Type 0
IsGoodFor T r s = IfTold (λ t. DockGood T r t.now) s.told

-- ---- what is handed in

-- the bytes are the tree's at the next place of the block that is begun on the lane
abbrev pub IsPieceOf : List File → PlainReceiver → Lane → List ℕ → Type 0
IsPieceOf T r l bytes = IfSome (past_at r l.0).begun (λ b. IsRead T (path_at r.known b.file) (next_place b (lane_at r l.0).left) bytes)

-- What is handed in is of the tree: a header is one of its files', and bytes are those that are to come. All
-- other inputs say nothing of it.
abbrev pub PutOf : List File → PlainReceiver → Lane → Put → Type 0
PutOf T r l (Given (Got (frames.Block header))) = IsHeaderOf T header
PutOf T r l (Given input) = Unit {0}
PutOf T r l (Bytes bytes) = IsPieceOf T r l bytes
