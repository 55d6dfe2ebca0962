use Rattle.std.proofs.Common.{◌∙◌, ap, map, List, ℕ}
use Rattle.wdt_depot.specs.Spots.{all_placed, entered_view}
use Rattle.wdt_depot.specs.View.{index_of}
use Rattle.wdt_depot.proofs.Entering.{all_without}
use Rattle.wdt_depot.proofs.memory.calls.MemDepotDepot.leave.Goals as goal

pub invariant_of-self : goal.invariant_of-self
invariant_of-self c =
    record { placed = ap (λ (es : List (ℕ × List ℕ)). all_placed es (index_of c.args.self.now.store.index)) c.drop_spot.ensures ∙ all_without c.args.spot.0 (map entered_view c.args.self.now.spots.items) (index_of c.args.self.now.store.index) c.args.self.now.placed }
