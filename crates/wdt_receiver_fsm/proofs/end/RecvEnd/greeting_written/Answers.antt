use Rattle.std.proofs.Common.{List, sym, ap, ◌∙◌}
use Rattle.wdt_units.specs.Have.{HaveFile}
use Rattle.wdt_codec.specs.declared.frames.Frame.TheVariants as frames
use Rattle.wdt_receiver_fsm.specs.declared.acts.RecvAct.TheVariants as acts
use Rattle.wdt_receiver_fsm.specs.declared.states.RecvLane.{RecvLane}
use Rattle.wdt_receiver_fsm.specs.declared.states.RecvState.TheVariants as states
use Rattle.wdt_receiver_fsm.specs.PlainReceiver.{goes, have_now}
use Rattle.wdt_receiver_fsm.specs.Turn.{lists_by}
use Rattle.wdt_receiver_fsm.specs.End.{EndView, plain_with}
use Rattle.wdt_receiver_fsm.proofs.Results.{not_false}
use Rattle.wdt_receiver_fsm.proofs.end.RecvEnd.greeting_written.Goals as goal

pub returns-clause-ok : goal.returns-clause-ok
unfolding have_now
returns-clause-ok c = λ books.
    ap (lists_by (plain_with c.args.self.now books) c.args.lane) (ap (λ (x : RecvLane). x.ask) (sym c.lane.ensures) ∙ not_false c.lane.result.ask c.if-not-lane.false)
    ∙ ap (λ (have : List HaveFile). (acts.Write (frames.Chunks have), goes (plain_with c.args.self.now books) c.args.lane.0 states.SendFileChunks)) (sym c.in_ok-have.ensures)
    ∙ ap (λ (v : EndView). (acts.Write (frames.Chunks c.in_ok-have.have), plain_with v books)) (sym c.go.ensures)
