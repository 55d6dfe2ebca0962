use Rattle.std.proofs.Common.{sym, subst}
use Rattle.wdt_depot.specs.Moments.{IfTold}
use Rattle.wdt_dock.specs.DockGood.{DockGood}
use Rattle.wdt_dock.proofs.dock.Dock.flush.Goals as goal

pub returns-clause-good : goal.returns-clause-good
returns-clause-good g c = λ T good. c.flush.ensures.good T (subst (λ v. IfTold (λ t. DockGood T v.plain t.now) (g.D.Depot.state v.depot).told) (sym c.self.view_is) good)
