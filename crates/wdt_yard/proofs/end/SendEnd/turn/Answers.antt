use Rattle.std.proofs.Common.{sym, ap, ◌∙◌}
use Rattle.wdt_sender_fsm.specs.declared.states.SendState.{SendState}
use Rattle.wdt_sender_fsm.specs.Rows.{row_of}
use Rattle.wdt_sender_fsm.specs.Turn.{send_turn, turned}
use Rattle.wdt_yard.specs.Turns.{takes_no_memory}
use Rattle.wdt_yard.proofs.Results.{if_ok, on_err}
use Rattle.wdt_yard.proofs.Steps.{unstarved}
use Rattle.wdt_yard.proofs.end.SendEnd.turn.Goals as goal

pub returns-in-Starved-clause-ok : goal.returns-in-Starved-clause-ok
unfolding send_turn
returns-in-Starved-clause-ok c =
    ap (turned c.args.self.now.plain c.args.lane) (ap (λ (state : SendState). row_of state c.args.put.now) (sym c.state.ensures) ∙ sym c.in-Starved.ensures) ∙ c.starved.ensures

pub returns : goal.returns
unfolding send_turn
returns c = record {
  ok =
      if_ok c.ruled.result _ _
      (λ act e.
      ap (turned c.args.self.now.plain c.args.lane) (ap (λ (state : SendState). row_of state c.args.put.now) (sym c.state.ensures) ∙ sym c.row-row.ensures)
      ∙ unstarved c.args.self.now.plain c.args.lane c.row-row.result c.in_default.not-Starved
      ∙ e)
      c.ruled.ensures.ok;
  err = c.ruled.ensures.err;
  free =
      on_err c.ruled.result _ _
      (λ e. ap (takes_no_memory c.args.self.now.plain c.args.lane.0) (ap (λ (state : SendState). row_of state c.args.put.now) (sym c.state.ensures) ∙ sym c.row-row.ensures) ∙ e)
      c.ruled.ensures.free;
}
