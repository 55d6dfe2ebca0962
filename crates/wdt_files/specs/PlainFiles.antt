-- The files that a receiver knows, and which of them are named, with what is there of each.
use Rattle.std.specs.Prelude.{◌≡◌, ℕ, ◌≤◌, false, List, length, map, Option, Some, IsTrue}
use Rattle.wdt_units.specs.declared.limits.TheConstants.{MAX_FILES, MAX_FILE_SIZE}
use Rattle.wdt_units.specs.Have.{PlainSpan}
use Rattle.wdt_units.specs.Path.{is_lawful, is_reserved}
use Rattle.wdt_units.specs.declared.blocks.Block.{Block}
use Rattle.wdt_logfmt.specs.Batches.{block_entries, files_behind}
use Rattle.wdt_logfmt.specs.Beginning.{KnownFile, known_at, known_files, with_known}
use Rattle.wdt_logfmt.specs.Landing.{IsAmong}
use Rattle.wdt_logfmt.specs.Marks.{marked_of, spans_at}
use Rattle.wdt_logfmt.specs.View.{NamedFile, is_view}

-- what is known of a named file
abbrev pub known_of : NamedFile → KnownFile
known_of f = record { path = f.have.path; size = f.have.size; stamp = f.have.stamp }

-- the known files are as files are: a lawful path that isn't the receiver's own, each once, within the limits
pub record AreFiles (known : List (Option KnownFile)) : Type 0 where
  pub lawful : (number : ℕ) (file : KnownFile) → known_at known number ≡ Some file → IsTrue (is_lawful file.path)
  pub free : (number : ℕ) (file : KnownFile) → known_at known number ≡ Some file → is_reserved file.path ≡ false
  pub small : (number : ℕ) (file : KnownFile) → known_at known number ≡ Some file → file.size ≤ MAX_FILE_SIZE
  pub once : (m n : ℕ) (f g : KnownFile) → known_at known m ≡ Some f → known_at known n ≡ Some g → f.path ≡ g.path → m ≡ n
  pub few : length known ≤ MAX_FILES

-- each named file is the known file of its number, and all of them are what a log can lead to
pub record AreNamed (known : List (Option KnownFile)) (named : List NamedFile) : Type 0 where
  pub view : IsTrue (is_view named)
  pub known_as : (f : NamedFile) → IsAmong f named → known_at known f.number ≡ Some (known_of f)

-- the files that are known, by number, and those of them that are named, with what is there of each
pub record PlainFiles : Type 0 where
  pub known : List (Option KnownFile)
  pub named : List NamedFile

-- they are as files are, and hang together
pub record AreLawful (files : PlainFiles) : Type 0 where
  pub known : AreFiles files.known
  pub named : AreNamed files.known files.named

-- what is there of the file of a number
abbrev pub there_at : PlainFiles → ℕ → List PlainSpan
there_at files number = spans_at (map marked_of files.named) number

-- the files of a log
abbrev pub files_of : List NamedFile → PlainFiles
files_of named = record { known = known_files named; named = named }

-- one more file is known
abbrev pub with_file : PlainFiles → KnownFile → PlainFiles
with_file files file = record files { known = with_known files.known file }

-- a block is there, and its file is named
abbrev pub with_landed : PlainFiles → Block → PlainFiles
with_landed files b = record files { named = files_behind files.named (block_entries files.known files.named b) }
