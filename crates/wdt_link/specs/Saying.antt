-- What goes over a connection: a frame, or a piece of a file with its place. And when it is said of a
-- run's tree.
use Rattle.std.specs.Prelude.{◌≡◌, ℕ, ◌≤◌, Bool, true, false, List, length, sum_by, Option, Some, None, IfSome}
use Rattle.wdt_units.specs.Headers.{IsHeaderOf}
use Rattle.wdt_units.specs.Tree.{IsRead, length_of}
use Rattle.wdt_units.specs.declared.limits.TheConstants.{PIECE}
use Rattle.wdt_codec.specs.declared.frames.Frame.{Frame}
use Rattle.wdt_codec.specs.declared.frames.Frame.TheVariants as frames
use Rattle.wdt_codec.specs.Frames.{Fits, spell}
use Rattle.wdt_tree.specs.Told.{ToldRun}

-- a frame, or a piece: its file's path, its place in the file, its bytes
pub data PlainSaid : Type 0 where
  Whole : Frame → PlainSaid
  Part : List ℕ → ℕ → List ℕ → PlainSaid

-- it is a frame
abbrev pub is_whole : PlainSaid → Bool
is_whole (Whole frame) = true
is_whole (Part path offset bytes) = false

-- the frame that it is, if it is one
abbrev pub frame_in : PlainSaid → Option Frame
frame_in (Whole frame) = Some frame
frame_in (Part path offset bytes) = None

-- the bytes of the piece that it is, if it is one
abbrev pub piece_in : PlainSaid → Option (List ℕ)
piece_in (Whole frame) = None
piece_in (Part path offset bytes) = Some bytes

-- the path and the place of the piece that it is, if it is one
abbrev pub place_in : PlainSaid → Option (List ℕ × ℕ)
place_in (Whole frame) = None
place_in (Part path offset bytes) = Some (path, offset)

-- how it is spelled on the connection: a piece is its bytes alone
abbrev pub spelled : PlainSaid → List ℕ
spelled (Whole frame) = spell frame
spelled (Part path offset bytes) = bytes

-- a piece of that path, place and length
abbrev pub IsPartAt : List ℕ → ℕ → ℕ → PlainSaid → Type 0
IsPartAt path offset count said = (bytes : List ℕ) × (said ≡ Part path offset bytes) × (length bytes ≡ count)

-- ---- said of a run

-- a block's header is of the tree, a total is the tree's, a have is the run's
abbrev pub IsFrameOf : ToldRun → Frame → Type 0
IsFrameOf run (frames.Block header) = IsHeaderOf run.tree header
IsFrameOf run (frames.Size files bytes) = (files ≡ length run.tree) × (bytes ≡ sum_by length_of run.tree)
IsFrameOf run (frames.Chunks have) = have ≡ run.have
IsFrameOf run frame = Unit {0}

-- a piece has a byte, and no more than one may have
pub record IsPiece (bytes : List ℕ) : Type 0 where
  pub some : 1 ≤ length bytes
  pub most : length bytes ≤ PIECE

-- a frame in the ranges of the grammar, and of the run where that is told
abbrev pub IsFrameSaid : Option ToldRun → Frame → Type 0
IsFrameSaid run frame = Fits frame × IfSome run (λ told. IsFrameOf told frame)

-- a piece that is the tree's bytes at its path and place, where the run is told
abbrev pub IsPieceSaid : Option ToldRun → List ℕ → ℕ → List ℕ → Type 0
IsPieceSaid run path offset bytes = IsPiece bytes × IfSome run (λ told. IsRead told.tree path offset bytes)

-- a frame or a piece that is of the run where that is told
abbrev pub IsSaid : Option ToldRun → PlainSaid → Type 0
IsSaid run (Whole frame) = IsFrameSaid run frame
IsSaid run (Part path offset bytes) = IsPieceSaid run path offset bytes
