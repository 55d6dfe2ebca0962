use Rattle.std.proofs.Common.{◌≡◌, map, take, vec_len}
use Rattle.wdt_tree.specs.Listing.{entry_of}
use Rattle.wdt_tree.specs.Shown.{entry_of_file, shown}
use Rattle.wdt_source.proofs.memory.listing.Given as goal

abbrev pub invariant-loop-file : goal.invariant-loop-file
invariant-loop-file l =
    (vec_len l.raw ≡ l.file-index) × (map entry_of l.raw.items ≡ map entry_of_file (map shown (take l.file-index l.file-items)))
