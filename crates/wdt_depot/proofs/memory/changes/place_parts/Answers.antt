use Rattle.std.proofs.Common.{◌∙◌, sym, true}
use Rattle.wdt_depot.specs.Disk.{placed}
use Rattle.wdt_depot.specs.Memory.{told_in}
use Rattle.wdt_depot.specs.Programs.{when_odd}
use Rattle.wdt_depot.proofs.Exits.{exit_end, exit_refuse, whole_done, whole_not}
use Rattle.wdt_depot.proofs.Slips.{file_none, lacks_none, lacks_some, none_torn}
use Rattle.wdt_depot.proofs.memory.changes.place_parts.Goals as goal

pub returns-in_default-clause-outcome : goal.returns-in_default-clause-outcome
returns-in_default-clause-outcome c es =
    let none = sym c.place_of.ensures ∙ c.in_default.is in
    exit_refuse _ _ true (placed c.args.from.now c.args.to.now) (when_odd (placed c.args.from.now c.args.to.now)) _ c.turn-turn.result _ c.args.health.now _ es (lacks_none c.args.store.now c.args.from.now none) (lacks_none c.args.store.now c.args.from.now none) c.refuse.ensures.failed c.turn-turn.ensures c.refuse.ensures.health
    (λ pick. none_torn c.args.from.now c.args.to.now (told_in c.args.store.now).now pick (file_none c.args.store.now c.args.from.now none))

pub returns-then-not-is_whole-clause-outcome : goal.returns-then-not-is_whole-clause-outcome
returns-then-not-is_whole-clause-outcome c es =
    let there = lacks_some c.args.store.now c.args.from.now c.in-Some.at (sym c.place_of.ensures ∙ c.in-Some.is) in
    exit_end _ _ (placed c.args.from.now c.args.to.now) (when_odd (placed c.args.from.now c.args.to.now)) c.turn-turn.result _ _ _ c.args.health.now _ es there there c.turn-turn.ensures c.end.ensures
    (whole_not (placed c.args.from.now c.args.to.now) c.turn-turn.result (told_in c.args.store.now) (sym c.is_whole.ensures ∙ c.if-not-is_whole.true))

pub returns-clause-outcome : goal.returns-clause-outcome
returns-clause-outcome c es =
    let there = lacks_some c.args.store.now c.args.from.now c.in-Some.at (sym c.place_of.ensures ∙ c.in-Some.is) in
    exit_end _ _ (placed c.args.from.now c.args.to.now) (when_odd (placed c.args.from.now c.args.to.now)) c.turn-turn.result _ _ _ c.args.health.now _ es there there c.turn-turn.ensures c.end-2.ensures
    (whole_done (placed c.args.from.now c.args.to.now) c.turn-turn.result (told_in c.args.store.now) _ (sym c.is_whole.ensures ∙ c.if-not-is_whole.false) c.in_ok-move_one.ensures.step)
