use Rattle.std.proofs.Common.{◌≡◌, take}
use Rattle.wdt_logfmt.specs.View.{named_files}
use Rattle.wdt_dock.specs.Dock.{AreStamped}
use Rattle.wdt_dock.proofs.opening.copies_of.Given as goal

abbrev pub invariant-loop-file : goal.invariant-loop-file
invariant-loop-file l = (named_files l.copies.items ≡ named_files (take l.file-index l.files)) × AreStamped (named_files l.copies.items)
