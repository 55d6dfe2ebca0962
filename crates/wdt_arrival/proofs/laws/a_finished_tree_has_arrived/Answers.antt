use Rattle.wdt_arrival.proofs.Arriving.{arrived}
use Rattle.wdt_arrival.proofs.laws.a_finished_tree_has_arrived.Goals as goal

pub returns : goal.returns
returns c = arrived
