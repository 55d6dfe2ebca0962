use Rattle.std.proofs.Common.{◌≡◌, ◌∙◌, refl, sym}
use Rattle.wdt_depot.specs.Disk.{made}
use Rattle.wdt_depot.specs.Memory.{told_in}
use Rattle.wdt_depot.specs.Programs.{when_odd}
use Rattle.wdt_depot.proofs.Exits.{exit_end, step_next, whole_done, whole_not}
use Rattle.wdt_depot.proofs.memory.changes.make_parts.Goals as goal

pub returns-then-not-is_whole-clause-outcome : goal.returns-then-not-is_whole-clause-outcome
returns-then-not-is_whole-clause-outcome c es =
    exit_end _ _ (made c.args.path.now) (when_odd (made c.args.path.now)) c.turn-turn.result _ _ _ c.args.health.now _ es refl refl c.turn-turn.ensures c.end.ensures
    (whole_not (made c.args.path.now) c.turn-turn.result (told_in c.args.store.now) (sym c.is_whole.ensures ∙ c.if-not-is_whole.true))

pub returns-clause-outcome : goal.returns-clause-outcome
returns-clause-outcome c es =
    exit_end _ _ (made c.args.path.now) (when_odd (made c.args.path.now)) c.turn-turn.result _ _ _ c.args.health.now _ es refl refl c.turn-turn.ensures c.end-2.ensures
    (whole_done (made c.args.path.now) c.turn-turn.result (told_in c.args.store.now) _ (sym c.is_whole.ensures ∙ c.if-not-is_whole.false)
    (step_next (λ d e. e ≡ made c.args.path.now d) _ _ _ c.in_ok-make_one.ensures.told refl))
