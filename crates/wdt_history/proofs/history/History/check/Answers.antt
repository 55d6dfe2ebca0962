use Rattle.std.proofs.Common.{sym, subst, ap, ◌<◌, List, length}
use Rattle.wdt_claims.specs.LaneWords.{Claims}
use Rattle.wdt_history.specs.Slots.{Book}
use Rattle.wdt_history.proofs.Slots.{lane_read, within}
use Rattle.wdt_history.proofs.history.History.check.Goals as goal

pub check-requires : goal.check-requires
check-requires c =
    lane_read c.self.inside.lanes.items c.args.lane.0 c.index.result.now c.self.invariant.lanes
    (within c.self.inside.lanes.items c.args.lane.0 (subst (λ (xs : List Claims). c.args.lane.0 < length xs) (sym (ap (λ (b : Book). b.lanes) c.self.view_is)) c.requires))
    c.index.ensures
