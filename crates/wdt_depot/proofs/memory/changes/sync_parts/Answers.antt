use Rattle.std.proofs.Common.{◌∙◌, refl, sym}
use Rattle.wdt_depot.specs.Disk.{synced_at}
use Rattle.wdt_depot.specs.Memory.{told_in}
use Rattle.wdt_depot.proofs.Exits.{ended_not, exit_end, synced_step, went_done, went_not}
use Rattle.wdt_depot.proofs.memory.changes.sync_parts.Goals as goal

pub returns-then-not-goes-clause-outcome : goal.returns-then-not-goes-clause-outcome
returns-then-not-goes-clause-outcome c path es there =
    exit_end _ _ (synced_at path) (λ pick d. d) c.turn-turn.result _ _ _ c.args.health.now _ es refl refl c.turn-turn.ensures c.end.ensures
    (went_not (synced_at path) (λ pick d. d) c.turn-turn.result (told_in c.args.store.now) (sym c.goes.ensures ∙ c.if-not-goes.true) (λ pick. refl))

pub returns-then-not-goes-clause-memory : goal.returns-then-not-goes-clause-memory
returns-then-not-goes-clause-memory c = ended_not c.turn-turn.result _ _ _ c.end.ensures

pub returns-clause-outcome : goal.returns-clause-outcome
returns-clause-outcome c path es there =
    exit_end _ _ (synced_at path) (λ pick d. d) c.turn-turn.result _ _ _ c.args.health.now _ es refl refl c.turn-turn.ensures c.end-2.ensures
    (went_done (synced_at path) (λ pick d. d) c.turn-turn.result (told_in c.args.store.now) _ (sym c.goes.ensures ∙ c.if-not-goes.false) (synced_step path _ _ (c.sync_one.ensures.told path there)))

pub returns-clause-memory : goal.returns-clause-memory
returns-clause-memory c = ended_not c.turn-turn.result _ _ _ c.end-2.ensures
