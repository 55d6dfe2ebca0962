use Rattle.wdt_report.proofs.Counting.{counted_next, counted_none}
use Rattle.wdt_report.proofs.sent.count_sent.Goals as goal

pub loop-event-init : goal.loop-event-init
loop-event-init c = counted_none c.args.history.now 256

pub loop-event-preserved : goal.loop-event-preserved
loop-event-preserved c =
    counted_next c.args.history.now c.loop-event.event-index _ c.loop-event.lanes c.note-requeued.new.lanes c.loop-event.connections
    c.loop-event.requeued c.one_linked-connections.result c.note-requeued.result c.loop-event-test.true
    c.note-requeued.ensures.noted c.one_linked-connections.ensures c.note-requeued.ensures.taken c.note-requeued.ensures.place c.loop-event.invariant
