use Rattle.std.proofs.Common.{◌≡◌, ◌<◌, false, length, sym, ap, ◌∙◌, subst, is_some, arith}
use Rattle.wdt_sender_fsm.specs.SenderHistory.{past_of}
use Rattle.wdt_yard.specs.Ledger.{Ledger}
use Rattle.wdt_claims.specs.LaneWords.{claimed}
use Rattle.wdt_claims.specs.Claimed.{lane_at, with_lane}
use Rattle.wdt_history.specs.Slots.{Book}
use Rattle.wdt_sender_fsm.specs.Places.{least_of, queued}
use Rattle.wdt_sender_fsm.specs.PlainSender.{listed_blocks}
use Rattle.wdt_yard.proofs.Keeps.{claim_keeps, taken_absent}
use Rattle.wdt_yard.proofs.Readings.{lanes_within, queue_read, still_open}
use Rattle.wdt_yard.proofs.journal.Journal.claim.Goals as goal

pub returns-in_err-block-clause-least : goal.returns-in_err-block-clause-least
returns-in_err-block-clause-least c =
    let waits : c.self.inside.queue.waiting ≡ queued c.args.self.now.lanes (listed_blocks c.args.self.now.planned) c.args.self.now.history = queue_read c.self.invariant ∙ ap (λ (j : Ledger). queued j.lanes (listed_blocks j.planned) j.history) c.self.view_is in
    c.from_residual.ensures ∙ sym (ap least_of (sym waits ∙ c.in_err-block.ensures.taken.0))

pub claim-requires-clause-lane : goal.claim-requires-clause-lane
claim-requires-clause-lane c = omega (arith, lanes_within c.self.invariant, subst (λ (j : Ledger). c.args.lane.0 < j.lanes) (sym c.self.view_is) c.requires.lane)

pub claim-requires-clause-still_open : goal.claim-requires-clause-still_open
claim-requires-clause-still_open c =
    still_open c.args.lane.0 c.self.invariant (subst (λ (j : Ledger). c.args.lane.0 < j.lanes) (sym c.self.view_is) c.requires.lane) (subst (λ (j : Ledger). is_some (past_of j.history c.args.lane.0).claims.closed ≡ false) (sym c.self.view_is) c.requires.still_open)

pub claim-requires-clause-absent : goal.claim-requires-clause-absent
claim-requires-clause-absent c = taken_absent c.take.new.self c.in_ok-block.block c.self.invariant c.in_ok-block.ensures.taken.0

pub invariant_of-self-2 : goal.invariant_of-self-2
invariant_of-self-2 c =
    let lt : c.args.lane.0 < length c.self.inside.tallies.items = subst (λ (j : Ledger). c.args.lane.0 < j.lanes) (sym c.self.view_is) c.requires.lane in
    let ls = c.self.inside.claims.lanes in
    let grown = rw c.unwrap.ensures at c.claim.ensures.claimed in
    let behind : c.claim.new.self.lanes ≡ with_lane ls c.args.lane.0 (claimed c.in_ok-block.block (lane_at ls c.args.lane.0)) = ap (λ (b : Book). b.lanes) grown in
    rw (c.push_reserved.ensures.items, behind)
    (claim_keeps c.take.new.self c.args.lane c.in_ok-block.block c.self.invariant lt c.in_ok-block.ensures.taken.0 c.in_ok-block.ensures.taken.1)

pub returns-clause-least : goal.returns-clause-least
returns-clause-least c =
    let waits : c.self.inside.queue.waiting ≡ queued c.args.self.now.lanes (listed_blocks c.args.self.now.planned) c.args.self.now.history = queue_read c.self.invariant ∙ ap (λ (j : Ledger). queued j.lanes (listed_blocks j.planned) j.history) c.self.view_is in
    sym (ap least_of (sym waits ∙ c.in_ok-block.ensures.taken.0))
