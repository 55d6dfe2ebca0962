-- The header of a block: its ranges, and what it says of a tree.
use Rattle.std.specs.Prelude.{◌≡◌, ℕ, ◌+◌, ◌-◌, ◌^◌, ◌≤◌, false, min, List, length, Some, IsTrue}
use Rattle.wdt_units.specs.declared.blocks.Header.{Header}
use Rattle.wdt_units.specs.declared.limits.TheConstants.{MAX_BLOCK, MAX_FILE_SIZE}
use Rattle.wdt_units.specs.Path.{is_lawful, is_reserved}
use Rattle.wdt_units.specs.Tree.{File, file_of}

-- a lawful path that isn't one of the receiver's own, and a part of the file that is empty only
-- where the file is
pub record FitsHeader (h : Header) : Type 0 where
  pub path : IsTrue (is_lawful h.path)
  pub free : is_reserved h.path ≡ false
  pub size : h.size ≤ MAX_FILE_SIZE
  pub stamp : h.stamp ≤ 2 ^ 64 - 1
  pub end : h.offset + h.length ≤ h.size
  pub some : min 1 h.size ≤ h.length
  pub most : h.length ≤ MAX_BLOCK

-- the tree has a file of that path, of this size and stamp
pub record IsOfFile (files : List File) (path : List ℕ) (size stamp : ℕ) : Type 0 where
  pub file : File
  pub found : file_of files path ≡ Some file
  pub sized : size ≡ length file.bytes
  pub stamped : stamp ≡ file.stamp

-- a header is of the tree: its file is there, with its size and stamp
abbrev pub IsHeaderOf : List File → Header → Type 0
IsHeaderOf files h = IsOfFile files h.path h.size h.stamp
