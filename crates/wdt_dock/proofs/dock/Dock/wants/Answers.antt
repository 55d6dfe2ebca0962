use Rattle.std.proofs.Common.{List, ℕ, Bor, subst}
use Rattle.std.specs.Prelude.{IfSome}
use Rattle.wdt_units.specs.declared.path.Name.{Name}
use Rattle.wdt_dock.specs.Desk.{plain_of}
use Rattle.wdt_dock.proofs.Wanted.{Takes, wants_takes}
use Rattle.wdt_dock.proofs.dock.Dock.wants.Goals as goal

abbrev path_of : Bor Name → List ℕ
path_of p = p.now

pub returns-clause-takes : goal.returns-clause-takes
returns-clause-takes g c =
    let i = c.self.inside in
    subst (λ v. IfSome c.wants.result (Takes path_of v.plain c.args.lane.0)) c.self.view_is
    (wants_takes path_of (plain_of i.end i.log i.writer) c.args.lane.0 c.wants.result (c.wants.ensures i.log c.self.invariant.desk))
