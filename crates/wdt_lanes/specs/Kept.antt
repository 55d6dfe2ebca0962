-- What a sender's end keeps of its run.
use Rattle.std.specs.Prelude.{◌≡◌, ℕ, ◌+◌, ◌≤◌, List, length, map, true, Option, Some, IfSome}
use Rattle.wdt_units.specs.Tree.{File, file_of, is_tree}
use Rattle.wdt_tree.specs.Shown.{entry_of_file}
use Rattle.wdt_tree.specs.Told.{ToldRun}
use Rattle.wdt_tree.specs.declared.entry.Entry.{Entry}
use Rattle.wdt_sender_fsm.specs.declared.answers.EndAnswer.TheVariants.{Refused}
use Rattle.wdt_sender_fsm.specs.declared.answers.RefusedKind.{RefusedKind}
use Rattle.wdt_sender_fsm.specs.Chunks.{refusal}
use Rattle.wdt_sender_fsm.specs.PlainSender.{PlainSender}
use Rattle.wdt_sender_fsm.specs.Writes.{IsLawful}

-- a manifest lists the run's tree, where that is told
abbrev pub Lists : Option ToldRun → List Entry → Type 0
Lists run manifest = IfSome run (λ r. (is_tree r.tree ≡ true) × (manifest ≡ map entry_of_file r.tree))

-- what an end was opened with: the files of its tree, and the greatest length of a block
pub record Begun : Type 0 where
  pub manifest : List Entry
  pub block : ℕ

-- what the tree is refused for, if it is refused, is what it isn't sent to the run's have for, where the run is
-- told
abbrev pub RefusesRun : Option ToldRun → PlainSender → Type 0
RefusesRun run s = IfSome run (λ r. (kind : RefusedKind) → s.answer ≡ Refused kind → refusal s.manifest r.have s.block ≡ Some kind)

-- a sender within the limits, whose manifest lists the run's tree, that has read the run's have, if it has
-- read one, and refuses the tree for that alone; its manifest and its blocks are those that it was opened with
pub record IsKept (run : Option ToldRun) (begun : Begun) (s : PlainSender) : Type 0 where
  pub lawful : IsLawful s
  pub tree : Lists run s.manifest
  pub listed : IfSome run (λ r. IfSome s.have (λ have. have ≡ r.have))
  pub manifest : s.manifest ≡ begun.manifest
  pub block : s.block ≡ begun.block
  pub refused : RefusesRun run s

-- the tree has so many bytes of that path from an offset on
pub record HasBytes (tree : List File) (path : List ℕ) (offset count : ℕ) : Type 0 where
  pub file : File
  pub found : file_of tree path ≡ Some file
  pub within : offset + count ≤ length file.bytes
