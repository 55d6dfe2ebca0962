-- What is owed of the last block that was received, and the pieces that pay it off.
use Rattle.std.specs.Prelude.{◌≡◌, ℕ, ◌+◌, ◌≤◌, ◌||◌, ◌==◌, nat_lt, Bool, List, length, Option, Some, None, Result, Ok, Err}
use Rattle.wdt_units.specs.declared.blocks.Header.{Header}
use Rattle.wdt_units.specs.declared.limits.TheConstants.{PIECE}
use Rattle.wdt_units.specs.Headers.{FitsHeader}
use Rattle.wdt_codec.specs.declared.frames.Frame.{Frame}
use Rattle.wdt_codec.specs.declared.frames.Frame.TheVariants as frames
use Rattle.wdt_link.specs.Saying.{PlainSaid, Whole, Part, IsPartAt}

-- the last block that was received, and how many of its bytes are owed
pub record Owing : Type 0 where
  pub block : Option Header
  pub owed : ℕ

-- no more is owed than the last block has, and nothing before the first
abbrev pub IsOwed : Option Header → ℕ → Type 0
IsOwed None owed = owed ≡ 0
IsOwed (Some header) owed = FitsHeader header × (owed ≤ header.length)

-- the last block behind a frame
abbrev pub block_behind : Option Header → Frame → Option Header
block_behind block (frames.Block header) = Some header
block_behind block frame = block

-- what is owed behind a frame
abbrev pub owing_behind : Owing → Frame → Owing
owing_behind owing (frames.Block header) = record { block = Some header; owed = header.length }
owing_behind owing frame = owing

-- what is owed behind a call for a frame
abbrev pub owing_after : {E : Type 0} → Owing → Result PlainSaid E → Owing
owing_after owing (Ok (Whole frame)) = owing_behind owing frame
owing_after owing _ = owing

-- a call for no byte, for more than a piece may have, or for more than is owed
abbrev pub is_piece_slip : ℕ → ℕ → Bool
is_piece_slip count owed = (count == 0) || nat_lt PIECE count || nat_lt owed count

-- the path of the last block, and the place in its file of its next byte that is owed
abbrev pub IsPlace : Option Header → ℕ → List ℕ → ℕ → Type 0
IsPlace None owed path offset = ⊥
IsPlace (Some header) owed path offset = (path ≡ header.path) × (offset + owed ≡ header.offset + header.length)

-- the next piece of the last block, of that many bytes, where so many are owed
abbrev pub IsNextPart : Option Header → ℕ → ℕ → PlainSaid → Type 0
IsNextPart None owed count said = ⊥
IsNextPart (Some header) owed count said = (offset : ℕ) × (offset + owed ≡ header.offset + header.length) × IsPartAt header.path offset count said

-- the next piece of the last block was received, of that many bytes, which are owed no more
pub record IsNextPiece (before : Owing) (count : ℕ) (said : PlainSaid) (after : Owing) : Type 0 where
  pub header : Header
  pub block : before.block ≡ Some header
  pub offset : ℕ
  pub place : offset + before.owed ≡ header.offset + header.length
  pub bytes : List ℕ
  pub is : said ≡ Part header.path offset bytes
  pub counted : length bytes ≡ count
  pub kept : after.block ≡ before.block
  pub left : after.owed + count ≡ before.owed

-- a call for a piece: the next one of that many bytes, or nothing is paid off
abbrev pub PieceFrom : {E : Type 0} → Owing → ℕ → Result PlainSaid E → Owing → Type 0
PieceFrom before count (Ok said) after = IsNextPiece before count said after
PieceFrom before count (Err e) after = after ≡ before
