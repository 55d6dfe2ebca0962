-- The sending half of a rehearsal: what its messages have landed.
use Rattle.std.specs.Prelude.{◌≡◌, ℕ, ◌+◌, ◌-◌, ◌<◌, ◌≤◌, min, List, ◌∷◌, [], ◌++◌, length, map, Option, Some, IfSome}
use Rattle.wdt_units.specs.Tree.{File, file_of}
use Rattle.wdt_units.specs.declared.blocks.Block.{Block}
use Rattle.wdt_units.specs.declared.blocks.Header.{Header}
use Rattle.wdt_units.specs.declared.limits.TheConstants.{MAX_BLOCK}
use Rattle.wdt_tree.specs.declared.entry.Entry.{Entry}
use Rattle.wdt_tree.specs.Shown.{entry_of_file}
use Rattle.wdt_source.specs.Told.{IsRead}
use Rattle.wdt_codec.specs.declared.frames.Frame.TheVariants as frames
use Rattle.wdt_rehearsal.specs.declared.receiver.Stage.{Stage}
use Rattle.wdt_rehearsal.specs.declared.receiver.Stage.TheVariants.{Blocks}
use Rattle.wdt_rehearsal.specs.Landing.{HasBytes}
use Rattle.wdt_rehearsal.specs.Received.{Landing, after_frame}

-- what is told of a block of an entry's file
abbrev pub header_at : Entry → ℕ → ℕ → Header
header_at entry offset count = record { path = entry.path; size = entry.size; stamp = entry.stamp; offset = offset; length = count }

-- the file of an entry, where it has these bytes
abbrev pub file_with : Entry → List ℕ → File
file_with entry bytes = record { path = entry.path; stamp = entry.stamp; bytes = bytes }

-- blocks that follow each other from a place to a file's end, each of a byte or more
abbrev pub Follow : ℕ → ℕ → List Block → Type 0
Follow offset size [] = offset ≡ size
Follow offset size (block ∷ blocks) =
    (block.offset ≡ offset) × (1 ≤ block.length) × (block.length ≤ MAX_BLOCK) × (offset + block.length ≤ size) × Follow (offset + block.length) size blocks

-- blocks that follow each other from a file's start to its end; an empty file has one without a byte
abbrev pub AreBlocks : Entry → List Block → Type 0
AreBlocks entry [] = ⊥
AreBlocks entry (block ∷ blocks) =
    (block.offset ≡ 0) × (min 1 entry.size ≤ block.length) × (block.length ≤ MAX_BLOCK) × (block.length ≤ entry.size) × Follow block.length entry.size blocks

-- one block was taken, with the told file's bytes
pub record Sends (told : Option (List File)) (header : Header) (old new : Landing) : Type 0 where
  pub bytes : List ℕ
  pub long : length bytes ≡ header.length
  pub after : after_frame old.stage old.landed (frames.Block header) bytes ≡ Some new
  pub read : IfSome told (λ files. IsRead files header.path header.offset bytes)

-- a file of this size may begin
abbrev pub HasRoom : Stage → ℕ → Type 0
HasRoom (Blocks files bytes) size = (0 < files) × (size ≤ bytes)
HasRoom other size = ⊥

-- one file less is to begin, and so many bytes less are to come
abbrev pub less : Stage → ℕ → Stage
less (Blocks files bytes) count = Blocks (files - 1) (bytes - count)
less other count = other

-- the whole file of an entry landed behind the others, with the told file's bytes
pub record LandsFile (told : Option (List File)) (entry : Entry) (old new : Landing) : Type 0 where
  pub bytes : List ℕ
  pub long : length bytes ≡ entry.size
  pub stage : new.stage ≡ less old.stage entry.size
  pub landed : new.landed ≡ old.landed ++ file_with entry bytes ∷ []
  pub whole : IfSome told (λ files. HasBytes (file_of files entry.path) bytes)

-- all files of a manifest landed, with the told files' bytes, and no more are to come
pub record LandsAll (told : Option (List File)) (entries : List Entry) (new : Landing) : Type 0 where
  pub stage : new.stage ≡ Blocks 0 0
  pub same : map entry_of_file new.landed ≡ entries
  pub tree : IfSome told (λ files. new.landed ≡ files)
