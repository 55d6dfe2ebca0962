use Rattle.std.proofs.Common.{◌<◌, sym, subst, arith}
use Rattle.wdt_yard.specs.Ledger.{Ledger}
use Rattle.wdt_yard.proofs.Readings.{lanes_within}
use Rattle.wdt_yard.proofs.journal.Journal.prepare.Goals as goal

pub prepare-requires : goal.prepare-requires
prepare-requires c = omega (arith, lanes_within c.self.invariant, subst (λ (j : Ledger). c.args.lane.0 < j.lanes) (sym c.self.view_is) c.requires)
