use Rattle.std.proofs.Common.{sym, ap, ◌∙◌}
use Rattle.wdt_sender_fsm.specs.SenderHistory.{LanePast, past_of-none}
use Rattle.wdt_report.specs.Kept.{kept_of}
use Rattle.wdt_report.proofs.Keeping.{kept_followed}
use Rattle.wdt_report.proofs.kept.follow.Goals as goal

pub loop-event-init : goal.loop-event-init
loop-event-init c = c.none-kept.ensures ∙ ap (λ (p : LanePast). kept_of p.claims) (sym (past_of-none c.args.lane.0))

pub loop-event-preserved : goal.loop-event-preserved
loop-event-preserved c =
    kept_followed c.args.history.now c.loop-event.event-index _ c.args.lane.0 c.loop-event.kept c.note.new.self c.loop-event-test.true c.in_ok-note.ensures
    c.loop-event.invariant
