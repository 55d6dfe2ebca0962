use Rattle.std.proofs.Common.{arith, ◌<◌, sym, ◌∙◌}
use Rattle.wdt_report.proofs.Landing.{counted_next, counted_none}
use Rattle.wdt_report.proofs.received.count_received.Goals as goal

pub loop-event-init : goal.loop-event-init
loop-event-init c = counted_none c.args.history.now 256

pub loop-event-preserved : goal.loop-event-preserved
loop-event-preserved c =
    let small : c.from-bytes.result < 4294967296 = search Rattle.std.proofs.Common.rules in
    counted_next c.args.history.now c.loop-event.event-index _ c.loop-event.begun c.note.new.begun c.loop-event.blocks c.loop-event.bytes
    c.loop-event.closed c.one_landing-blocks.result c.one_closing-closed.result c.from-bytes.result
    c.loop-event-test.true c.note.ensures.noted c.one_landing-blocks.ensures c.one_closing-closed.ensures (c.from-bytes.ensures ∙
    c.note.ensures.landing) c.note.ensures.place small c.loop-event.invariant
