use Rattle.std.proofs.Common.{◌≡◌, ℕ, ◌+◌, ◌<◌, false, List, length, Some, sym, ap, ◌∙◌, subst, is_some, arith}
use Rattle.wdt_claims.specs.LaneWords.{Claims}
use Rattle.wdt_sender_fsm.specs.SenderHistory.{past_of}
use Rattle.wdt_yard.specs.Ledger.{Ledger}
use Rattle.wdt_claims.specs.Blocks.{count_of}
use Rattle.wdt_claims.specs.LaneWords.{cut_to}
use Rattle.std.specs.Option.{option_map}
use Rattle.wdt_claims.specs.Claimed.{count_kept, lane_at, with_lane}
use Rattle.wdt_history.specs.Slots.{Book}
use Rattle.wdt_sender_fsm.specs.Faults.{count_fault, kind_of}
use Rattle.wdt_yard.proofs.Keeps.{greet_keeps}
use Rattle.wdt_yard.proofs.Readings.{back_absent, claims_read, lanes_within, still_open}
use Rattle.wdt_yard.proofs.journal.Journal.greet.Goals as goal

pub local-requires-clause-lane : goal.local-requires-clause-lane
local-requires-clause-lane c = omega (arith, lanes_within c.self.invariant, subst (λ (j : Ledger). c.args.lane.0 < j.lanes) (sym c.self.view_is) c.requires.lane)

pub local-requires-clause-still_open : goal.local-requires-clause-still_open
local-requires-clause-still_open c =
    still_open c.args.lane.0 c.self.invariant (subst (λ (j : Ledger). c.args.lane.0 < j.lanes) (sym c.self.view_is) c.requires.lane) (subst (λ (j : Ledger). is_some (past_of j.history c.args.lane.0).claims.closed ≡ false) (sym c.self.view_is) c.requires.still_open)

pub local-requires-clause-absent : goal.local-requires-clause-absent
local-requires-clause-absent c = back_absent c.args.lane.0 c.args.count c.self.invariant (subst (λ (j : Ledger). c.args.lane.0 < j.lanes) (sym c.self.view_is) c.requires.lane)

pub invariant_of-self : goal.invariant_of-self
invariant_of-self c =
    let lt : c.args.lane.0 < length c.self.inside.tallies.items = subst (λ (j : Ledger). c.args.lane.0 < j.lanes) (sym c.self.view_is) c.requires.lane in
    let ls = c.self.inside.claims.lanes in
    let behind : c.local.new.self.lanes ≡ with_lane ls c.args.lane.0 (cut_to c.args.count 0 (lane_at ls c.args.lane.0)) = ap (λ (b : Book). b.lanes) c.in-Ok.ensures.cut in
    rw (c.push_reserved.ensures.items, behind)
    (greet_keeps c.local.new.queue c.args.lane c.args.count c.self.invariant lt
    (still_open c.args.lane.0 c.self.invariant lt (subst (λ (j : Ledger). is_some (past_of j.history c.args.lane.0).claims.closed ≡ false) (sym c.self.view_is) c.requires.still_open))
    (c.in-Ok.ensures.rising c.self.invariant.waiting)
    (λ b. ap (λ (xs : List Claims). count_of b c.local.new.queue.waiting + count_kept b xs) (sym behind) ∙ c.in-Ok.ensures.kept b)
    (ap (λ (n : ℕ). c.local.new.queue.room + n) (sym c.in-Ok.ensures.count) ∙ c.in-Ok.ensures.room))

pub returns-in-Ok-clause-fault : goal.returns-in-Ok-clause-fault
returns-in-Ok-clause-fault c =
    let lt : c.args.lane.0 < length c.self.inside.tallies.items = subst (λ (j : Ledger). c.args.lane.0 < j.lanes) (sym c.self.view_is) c.requires.lane in
    ap (option_map kind_of) c.in-Ok.ensures.fault
    ∙ ap (λ (s : Claims). count_fault s c.args.count) (claims_read c.args.lane.0 c.self.invariant lt)
    ∙ ap (λ (j : Ledger). count_fault (past_of j.history c.args.lane.0).claims c.args.count) c.self.view_is

pub returns-in-Err-clause-fault : goal.returns-in-Err-clause-fault
returns-in-Err-clause-fault c =
    let lt : c.args.lane.0 < length c.self.inside.tallies.items = subst (λ (j : Ledger). c.args.lane.0 < j.lanes) (sym c.self.view_is) c.requires.lane in
    ap (λ k. Some k) c.kind_of.ensures
    ∙ ap (option_map kind_of) c.in-Err.ensures.fault
    ∙ ap (λ (s : Claims). count_fault s c.args.count) (claims_read c.args.lane.0 c.self.invariant lt)
    ∙ ap (λ (j : Ledger). count_fault (past_of j.history c.args.lane.0).claims c.args.count) c.self.view_is
