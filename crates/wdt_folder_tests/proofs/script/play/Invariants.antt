use Rattle.std.proofs.Common.{◌≡◌, []}
use Rattle.wdt_folder.specs.FolderState.{folder_state}
use Rattle.wdt_folder_tests.proofs.script.play.Given as goal

abbrev pub invariant-loop-row : goal.invariant-loop-row
invariant-loop-row l = (folder_state l.depot).spots ≡ []
