use Rattle.std.proofs.Common.{◌<◌, length, sym, ap, ◌∙◌, subst, is_some, arith}
use Rattle.wdt_claims.specs.LaneWords.{Claims}
use Rattle.wdt_sender_fsm.specs.SenderHistory.{past_of}
use Rattle.wdt_yard.specs.Ledger.{Ledger}
use Rattle.wdt_yard.proofs.Readings.{claims_read, lanes_within}
use Rattle.wdt_yard.proofs.journal.Journal.is_closed.Goals as goal

pub closed-requires : goal.closed-requires
closed-requires c = omega (arith, lanes_within c.self.invariant, subst (λ (j : Ledger). c.args.lane.0 < j.lanes) (sym c.self.view_is) c.requires)

pub returns : goal.returns
returns c =
    let lt : c.args.lane.0 < length c.self.inside.tallies.items = subst (λ (j : Ledger). c.args.lane.0 < j.lanes) (sym c.self.view_is) c.requires in
    c.closed.ensures
    ∙ ap (λ (s : Claims). is_some s.closed) (claims_read c.args.lane.0 c.self.invariant lt)
    ∙ ap (λ (j : Ledger). is_some (past_of j.history c.args.lane.0).claims.closed) c.self.view_is
