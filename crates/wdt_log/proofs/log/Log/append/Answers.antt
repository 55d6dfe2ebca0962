use Rattle.std.proofs.Common.{ℕ, [], ap, subst, sym}
use Rattle.std.specs.Prelude.{Err}
use Rattle.wdt_depot.specs.Moments.{IfTold, Run}
use Rattle.wdt_logfmt.specs.Spelling.{closed_batch, written_version}
use Rattle.wdt_logfmt.specs.View.{named_files}
use Rattle.wdt_good.specs.LogState.{IsReady, LogOf}
use Rattle.wdt_log.specs.OpenLog.{Continues, OpenLog, RestsIn}
use Rattle.wdt_log.specs.Stages.{IsStage, Leaves}
use Rattle.wdt_log.specs.declared.fail.LogFail.TheVariants.{NoMemory, Shut}
use Rattle.wdt_log.proofs.Alone.{append_stands, slips_stand}
use Rattle.wdt_log.proofs.Stages.{append_good, append_logged, append_same, not_bad, not_shut, told_same}
use Rattle.wdt_log.proofs.Steps.{same_fail}
use Rattle.wdt_log.proofs.log.Log.append.Goals as goal

pub invariant_of-self : goal.invariant_of-self
invariant_of-self g c = (c.in-Ok.ensures.view, c.in-Ok.ensures.room, c.self.invariant.2, c.self.invariant.3)

pub returns-in-Ok-clause-images : goal.returns-in-Ok-clause-images
returns-in-Ok-clause-images g c T gs log ready =
    let s0 = g.D.Depot.state c.args.depot.now in
    let v = c.self.inside.view in
    append_good written_version (named_files v.files.items) c.args.batch.now v.end c.requires.small T gs _ s0.told _ (told_same s0 _ c.append_to_view.ensures.fits) c.append_to_view.ensures.moments (g.met.D.Depot.sound c.args.depot.now)
    (subst (λ (l : OpenLog). RestsIn l s0) (sym c.self.view_is) log)
    (subst (λ (l : OpenLog). IfTold (λ t. IsReady l.version T l.meaning.files gs c.args.batch.now t.now) s0.told) (sym c.self.view_is) ready)

pub returns-in-Ok-clause-logged : goal.returns-in-Ok-clause-logged
returns-in-Ok-clause-logged g c log =
    let s0 = g.D.Depot.state c.args.depot.now in
    let s1 = g.D.Depot.state c.append_to_view.new.depot in
    let v = c.self.inside.view in
    let files = named_files c.append_to_view.new.view.files.items in
    subst (λ (n : ℕ). IfTold (λ t. LogOf written_version files n t.now) s1.told) (sym c.in-Ok.ensures.end)
    (append_logged written_version (named_files v.files.items) c.args.batch.now v.end c.requires.small files s0.told s1.told c.in-Ok.ensures.spelled c.in-Ok.ensures.files c.in-Ok.ensures.moments
    (subst (λ (l : OpenLog). RestsIn l s0) (sym c.self.view_is) log))

pub returns-in-Err-clause-images : goal.returns-in-Err-clause-images
returns-in-Err-clause-images g c T gs log ready =
    let s0 = g.D.Depot.state c.args.depot.now in
    let v = c.self.inside.view in
    append_good written_version (named_files v.files.items) c.args.batch.now v.end c.requires.small T gs _ s0.told _ (told_same s0 _ c.append_to_view.ensures.fits) c.append_to_view.ensures.moments (g.met.D.Depot.sound c.args.depot.now)
    (subst (λ (l : OpenLog). RestsIn l s0) (sym c.self.view_is) log)
    (subst (λ (l : OpenLog). IfTold (λ t. IsReady l.version T l.meaning.files gs c.args.batch.now t.now) s0.told) (sym c.self.view_is) ready)

pub returns-in-Err-clause-memory : goal.returns-in-Err-clause-memory
returns-in-Err-clause-memory g c is log =
    let s0 = g.D.Depot.state c.args.depot.now in
    let s1 = g.D.Depot.state c.append_to_view.new.depot in
    let v = c.self.inside.view in
    let batch = closed_batch c.args.batch.now in
    let run = subst (λ z. Run (IsStage v.end batch) (Leaves (Err z) v.end batch) s0.told s1.told) (same_fail v.end batch c.in-Err.fail NoMemory is) c.in-Err.ensures.moments in
    subst (λ (l : OpenLog). RestsIn l s1) c.self.view_is
    (append_same written_version (named_files v.files.items) c.args.batch.now v.end c.requires.small s0.told s1.told (subst (λ (l : OpenLog). Continues l.version l.meaning.files c.args.batch.now) (sym c.self.view_is) c.requires.continues) (told_same s0 s1 c.append_to_view.ensures.fits) run
    (subst (λ (l : OpenLog). RestsIn l s0) (sym c.self.view_is) log))

pub returns-in-Err-clause-not_bad : goal.returns-in-Err-clause-not_bad
returns-in-Err-clause-not_bad g c = not_bad c.in-Err.fail c.in-Err.ensures.depot.never

pub returns-in-Err-clause-shut : goal.returns-in-Err-clause-shut
returns-in-Err-clause-shut g c =
    let open_before = c.if-self.false in
    let same = ap (λ (l : OpenLog). l.shut) c.self.view_is in
    ((λ is. absurd (not_shut c.in-Err.fail c.in-Err.ensures.depot.never (same_fail 0 [] c.in-Err.fail Shut is))), (λ shut. absurd (cc)))

pub returns-in-Ok-clause-others : goal.returns-in-Ok-clause-others
returns-in-Ok-clause-others g c = append_stands c.append_to_view.result c.self.inside.view.end (closed_batch c.args.batch.now) _ _ c.append_to_view.ensures.moments

pub returns-in-Ok-clause-slips : goal.returns-in-Ok-clause-slips
returns-in-Ok-clause-slips g c log =
    let s0 = g.D.Depot.state c.args.depot.now in
    let v = c.self.inside.view in
    slips_stand written_version (named_files v.files.items) v.end s0 (g.D.Depot.state c.append_to_view.new.depot) (subst (λ (l : OpenLog). RestsIn l s0) (sym c.self.view_is) log) c.append_to_view.ensures.slips

pub returns-in-Err-clause-others : goal.returns-in-Err-clause-others
returns-in-Err-clause-others g c = append_stands c.append_to_view.result c.self.inside.view.end (closed_batch c.args.batch.now) _ _ c.append_to_view.ensures.moments

pub returns-in-Err-clause-slips : goal.returns-in-Err-clause-slips
returns-in-Err-clause-slips g c log =
    let s0 = g.D.Depot.state c.args.depot.now in
    let v = c.self.inside.view in
    slips_stand written_version (named_files v.files.items) v.end s0 (g.D.Depot.state c.append_to_view.new.depot) (subst (λ (l : OpenLog). RestsIn l s0) (sym c.self.view_is) log) c.append_to_view.ensures.slips
