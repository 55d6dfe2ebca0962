use Rattle.wdt_yard.proofs.Ends.{end_starts}
use Rattle.wdt_yard.proofs.end.SendEnd.new.Goals as goal

pub invariant_of-result : goal.invariant_of-result
invariant_of-result c =
    end_starts c.args.manifest c.args.block c.args.lanes c.in_ok-journal.journal c.in_ok-lanes.lanes.items c.requires.some c.requires.limit c.in_ok-lanes.ensures c.in_ok-journal.ensures.lanes c.in_ok-journal.ensures.planned c.in_ok-journal.ensures.history
