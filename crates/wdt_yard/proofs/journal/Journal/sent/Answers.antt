use Rattle.std.proofs.Common.{◌<◌, length, sym, ap, ◌∙◌, subst, arith}
use Rattle.wdt_sender_fsm.specs.Places.{least_of, queued}
use Rattle.wdt_sender_fsm.specs.PlainSender.{listed_blocks}
use Rattle.wdt_yard.specs.Ledger.{Ledger}
use Rattle.wdt_yard.proofs.Keeps.{sent_keeps}
use Rattle.wdt_yard.proofs.Readings.{lanes_within, queue_read}
use Rattle.wdt_yard.proofs.journal.Journal.sent.Goals as goal

pub sent-requires : goal.sent-requires
sent-requires c = omega (arith, lanes_within c.self.invariant, subst (λ (j : Ledger). c.args.lane.0 < j.lanes) (sym c.self.view_is) c.requires.lane)

pub invariant_of-self : goal.invariant_of-self
invariant_of-self c =
    let lt : c.args.lane.0 < length c.self.inside.tallies.items = subst (λ (j : Ledger). c.args.lane.0 < j.lanes) (sym c.self.view_is) c.requires.lane in
    rw (c.push_reserved.ensures.items, c.sent.ensures) (sent_keeps c.args.lane c.self.invariant lt)

pub returns-clause-waiting : goal.returns-clause-waiting
returns-clause-waiting c =
    let lt : c.args.lane.0 < length c.self.inside.tallies.items = subst (λ (j : Ledger). c.args.lane.0 < j.lanes) (sym c.self.view_is) c.requires.lane in
    rw c.push_reserved.ensures.items
    (ap least_of (sym (queue_read (sent_keeps c.args.lane c.self.invariant lt)) ∙ queue_read c.self.invariant)
    ∙ ap (λ (j : Ledger). least_of (queued j.lanes (listed_blocks j.planned) j.history)) c.self.view_is)
