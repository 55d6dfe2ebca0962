-- What a dock's calls leave alone of what is read.
use Rattle.std.specs.Prelude.{◌≡◌, ℕ, ◌<◌, false, List, length, slice_index, IsTrue, Option, Some, None}
use Rattle.std.specs.Str.{bytes_eq}
use Rattle.wdt_codec.specs.declared.frames.Frame.TheVariants as frames
use Rattle.wdt_depot.specs.Disk.{Disk, DiskFile, seen_of}
use Rattle.wdt_depot.specs.Moments.{Told}
use Rattle.wdt_logfmt.specs.Beginning.{KnownFile, number_of}
use Rattle.wdt_logfmt.specs.View.{NamedFile}
use Rattle.wdt_good.specs.Good.{covers, log_path, new_log_path}
use Rattle.wdt_receiver_fsm.specs.declared.inputs.RecvIn.TheVariants.{Got}
use Rattle.wdt_receiver_fsm.specs.Rows.{Row, Block as BlockRead}
use Rattle.wdt_receiver_fsm.specs.Turn.{Put, Given, Bytes}

-- ---- other files

-- no known file has the path, and it is neither the log's nor a new log's
pub record IsBeside (known : List (Option KnownFile)) (path : List ℕ) : Type 0 where
  pub unknown : number_of known path ≡ None
  pub log : bytes_eq log_path path ≡ false
  pub new_log : bytes_eq new_log_path path ≡ false

-- a header that is handed in is of a file at another path
abbrev pub IsUnasked : Put → List ℕ → Type 0
IsUnasked (Given (Got (frames.Block header))) path = bytes_eq header.path path ≡ false
IsUnasked (Given input) path = Unit {0}
IsUnasked (Bytes bytes) path = Unit {0}

-- the same of a header that a row is done for
abbrev pub IsUnread : Row → List ℕ → Type 0
IsUnread (BlockRead header) path = bytes_eq header.path path ≡ false
IsUnread row path = Unit {0}

-- a path that a call with this has nothing to do with
pub record IsOther (known : List (Option KnownFile)) (put : Put) (path : List ℕ) : Type 0 where
  pub beside : IsBeside known path
  pub unasked : IsUnasked put path

-- the same of a row
pub record IsOtherRow (known : List (Option KnownFile)) (row : Row) (path : List ℕ) : Type 0 where
  pub beside : IsBeside known path
  pub unread : IsUnread row path

-- each file at such a path is read as before
abbrev pub LeavesOthers : (List ℕ → Type 0) → Disk → Disk → Type 0
LeavesOthers other d e = (path : List ℕ) → other path → seen_of e path ≡ seen_of d path

-- ---- covered positions

-- the file at the path has this byte at the position, as it is read
pub record HasByte (d : Disk) (path : List ℕ) (position byte : ℕ) : Type 0 where
  pub file : DiskFile
  pub there : d path ≡ Some file
  pub within : position < length file.seen
  pub same : slice_index file.seen position ≡ byte

-- each position that these files cover keeps its byte
abbrev pub LeavesCovered : List NamedFile → Disk → Disk → Type 0
LeavesCovered files d e = (path : List ℕ) (position byte : ℕ) → IsTrue (covers files path position) → HasByte d path position byte → HasByte e path position byte

-- ---- a call

-- both: the files at such paths, and the positions that these files cover
pub record Spares (other : List ℕ → Type 0) (files : List NamedFile) (d e : Disk) : Type 0 where
  pub others : LeavesOthers other d e
  pub covered : LeavesCovered files d e

-- from the disk that was told to the disk that is told now; whether it is told doesn't change
abbrev pub Between : (Disk → Disk → Type 0) → Option Told → Option Told → Type 0
Between R None None = Unit {0}
Between R None (Some u) = ⊥
Between R (Some t) None = ⊥
Between R (Some t) (Some u) = R t.now u.now
