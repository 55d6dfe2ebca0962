use Rattle.std.proofs.Common.{◌<◌, length, sym, ap, ◌∙◌, subst, arith}
use Rattle.wdt_claims.specs.LaneWords.{Claims}
use Rattle.wdt_sender_fsm.specs.SenderHistory.{past_of}
use Rattle.wdt_yard.specs.Ledger.{Ledger}
use Rattle.std.specs.Prelude.{Some}
use Rattle.std.specs.Option.{option_map}
use Rattle.wdt_sender_fsm.specs.Faults.{count_fault, kind_of}
use Rattle.wdt_yard.proofs.Readings.{claims_read, lanes_within}
use Rattle.wdt_yard.proofs.journal.Journal.check.Goals as goal

pub check-requires : goal.check-requires
check-requires c = omega (arith, lanes_within c.self.invariant, subst (λ (j : Ledger). c.args.lane.0 < j.lanes) (sym c.self.view_is) c.requires)

pub returns-in-Ok : goal.returns-in-Ok
returns-in-Ok c =
    let lt : c.args.lane.0 < length c.self.inside.tallies.items = subst (λ (j : Ledger). c.args.lane.0 < j.lanes) (sym c.self.view_is) c.requires in
    ap (option_map kind_of) c.in-Ok.ensures
    ∙ ap (λ (s : Claims). count_fault s c.args.count) (claims_read c.args.lane.0 c.self.invariant lt)
    ∙ ap (λ (j : Ledger). count_fault (past_of j.history c.args.lane.0).claims c.args.count) c.self.view_is

pub returns-in-Err : goal.returns-in-Err
returns-in-Err c =
    let lt : c.args.lane.0 < length c.self.inside.tallies.items = subst (λ (j : Ledger). c.args.lane.0 < j.lanes) (sym c.self.view_is) c.requires in
    ap (λ k. Some k) c.kind_of.ensures
    ∙ ap (option_map kind_of) c.in-Err.ensures
    ∙ ap (λ (s : Claims). count_fault s c.args.count) (claims_read c.args.lane.0 c.self.invariant lt)
    ∙ ap (λ (j : Ledger). count_fault (past_of j.history c.args.lane.0).claims c.args.count) c.self.view_is
