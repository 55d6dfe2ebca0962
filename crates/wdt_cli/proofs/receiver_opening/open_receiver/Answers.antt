use Rattle.std.proofs.Common.{◌≡◌, refl, sym, ap, ◌∙◌, subst}
use Rattle.wdt_dock.specs.DockView.{DockView}
use Rattle.wdt_recv_lanes.proofs.Opening.{opened_images, opened_kept}
use Rattle.wdt_recv_lanes.specs.Kept.{IsKept}
use Rattle.wdt_tool.specs.declared.fail.CommandFail.TheVariants.{NoMemory}
use Rattle.wdt_cli.specs.Copied.{IsOpeningCause, IsUnopened}
use Rattle.wdt_cli.proofs.Opening.{cause_of, fits_for, good_for, had_of, stands}
use Rattle.wdt_cli.proofs.receiver_opening.open_receiver.Goals as goal

pub of-dock-requires : goal.of-dock-requires
of-dock-requires g c =
    let run = g.N.Run.told in let r = c.in-Ok.dock.plain in
    let s0 = g.D.Depot.state c.args.depot in let s1 = g.D.Depot.state c.in-Ok.dock.depot in
    let e = c.in-Ok.ensures in let given = c.requires.given in
    let had = had_of run s0.told r given e.says (ap (λ x. x.opening) e.opened) in
    let good = good_for run s0.told r s1 given e.good in
    let images = opened_images run s0 s1 (fits_for run s0.told given) e.images in
    subst (λ start. IsKept run start r s1) (sym c.requires.start) (opened_kept run r.log _ _ r _ s0 s1 e.opened e.tells had good images e.others e.counts e.slips)

pub returns-in-Err-clause-unopened : goal.returns-in-Err-clause-unopened
returns-in-Err-clause-unopened g c =
    let s0 = g.D.Depot.state c.args.depot in let s1 = g.D.Depot.state c.in-Err.depot in
    let e = c.in-Err.ensures in
    let cause = cause_of c.in-Err.failure s0 s1 e.refused (λ is. e.counts.rose (is, refl)) in
    stands c.failure_of.result s0 s1 e.images e.others e.slips e.spots e.counts.faults (subst (λ failure. IsOpeningCause failure s0 s1) (sym c.failure_of.ensures) cause)

-- the depot that comes back is the opened dock's
pub returns-clause-unopened : goal.returns-clause-unopened
returns-clause-unopened g c =
    let s0 = g.D.Depot.state c.args.depot in let s1 = g.D.Depot.state c.in-Ok.dock.depot in
    let e = c.in-Ok.ensures in
    let same : c.close-depot.result.0 ≡ c.in-Ok.dock.depot = c.close-depot.ensures.depot ∙ ap (λ (dock : DockView _). dock.depot) (c.into_dock.ensures.value ∙ (ap (λ back. back.0) c.in-Err-open.ensures.err ∙ c.of-dock.ensures)) in
    subst (λ d. IsUnopened NoMemory s0 (g.D.Depot.state d)) (sym same) (stands NoMemory s0 s1 e.images e.others e.slips e.spots e.counts.faults tt)
