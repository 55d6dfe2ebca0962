use Rattle.std.proofs.Common.{◌≡◌, drop, map}
use Rattle.wdt_ranges.specs.Files.{have_file}
use Rattle.wdt_sender_fsm.specs.Chunks.{different_at, different_from}
use Rattle.wdt_sender_fsm.proofs.comparing.different_at.Given as goal

abbrev pub invariant-loop-at : goal.invariant-loop-at
invariant-loop-at l = different_at (map have_file l.first) (map have_file l.later) ≡ different_from l.at (drop l.at (map have_file l.first)) (drop l.at (map have_file l.later))
