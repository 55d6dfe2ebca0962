use Rattle.std.proofs.Common.{◌≡◌, ◌∙◌, refl, sym, length}
use Rattle.wdt_depot.specs.Disk.{wrote}
use Rattle.wdt_depot.specs.Memory.{told_in}
use Rattle.wdt_depot.specs.Programs.{torn_write}
use Rattle.wdt_depot.proofs.Exits.{exit_end, exit_refuse, reached_done, reached_not, step_next}
use Rattle.wdt_depot.proofs.Slips.{far_is_slip, near_is_no_slip, past_torn, within_torn}
use Rattle.wdt_depot.proofs.memory.changes.write_parts.Goals as goal

pub returns-then-is_past_end-clause-outcome : goal.returns-then-is_past_end-clause-outcome
returns-then-is_past_end-clause-outcome c path es there =
    let past = sym c.is_past_end.ensures ∙ c.if-is_past_end.true in
    exit_refuse _ _ c.is_behind-far.result (wrote path c.args.offset c.args.bytes.now) (torn_write path c.args.offset c.args.bytes.now) _ c.turn-turn.result _ c.args.health.now _ es past
    (sym (far_is_slip c.args.store.now path c.args.at c.args.offset (length c.args.bytes.now) c.index.result.now c.is_behind-far.result there c.requires.within c.index.ensures past c.is_behind-far.ensures)) c.refuse.ensures.failed c.turn-turn.ensures c.refuse.ensures.health
    (λ pick. past_torn path c.args.offset c.args.bytes.now (told_in c.args.store.now).now pick past)

pub returns-then-not-reaches_disk-clause-outcome : goal.returns-then-not-reaches_disk-clause-outcome
returns-then-not-reaches_disk-clause-outcome c path es there =
    let within = sym c.is_past_end.ensures ∙ c.if-is_past_end.false in
    exit_end _ _ (wrote path c.args.offset c.args.bytes.now) (torn_write path c.args.offset c.args.bytes.now) c.turn-turn.result _ _ _ c.args.health.now _ es within (near_is_no_slip path c.args.offset (length c.args.bytes.now) (told_in c.args.store.now).now within) c.turn-turn.ensures c.end.ensures
    (reached_not (wrote path c.args.offset c.args.bytes.now) (torn_write path c.args.offset c.args.bytes.now) c.turn-turn.result (told_in c.args.store.now) (sym c.reaches_disk.ensures ∙ c.if-not-reaches_disk.true))

pub returns-clause-outcome : goal.returns-clause-outcome
returns-clause-outcome c path es there =
    let within = sym c.is_past_end.ensures ∙ c.if-is_past_end.false in
    exit_end _ _ (wrote path c.args.offset c.args.bytes.now) (torn_write path c.args.offset c.args.bytes.now) c.turn-turn.result _ _ _ c.args.health.now _ es within (near_is_no_slip path c.args.offset (length c.args.bytes.now) (told_in c.args.store.now).now within) c.turn-turn.ensures c.end-2.ensures
    (reached_done (wrote path c.args.offset c.args.bytes.now) (torn_write path c.args.offset c.args.bytes.now) c.turn-turn.result (told_in c.args.store.now) _ (sym c.reaches_disk.ensures ∙ c.if-not-reaches_disk.false) (λ pick. within_torn path c.args.offset c.args.bytes.now (told_in c.args.store.now).now pick within)
    (step_next (λ d e. e ≡ wrote path c.args.offset c.args.bytes.now d) _ _ _ (c.in_ok-write_one.ensures.told path there) refl))
