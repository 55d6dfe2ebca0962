use Rattle.std.proofs.Common.{◌≡◌, map, take}
use Rattle.wdt_logfmt.specs.Batches.{path_at}
use Rattle.wdt_writer.proofs.landing.paths_of.Given as goal

abbrev pub invariant-loop-number : goal.invariant-loop-number
invariant-loop-number l = map (λ path. path.now) l.paths.items ≡ map (path_at l.files.known) (take l.number-index l.numbers)
