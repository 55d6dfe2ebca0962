use Rattle.std.proofs.Common.{ℕ, sym, ap, ◌∙◌}
use Rattle.wdt_codec.specs.declared.frames.Frame.TheVariants as frames
use Rattle.wdt_codec.specs.declared.frames.Mark.{Mark}
use Rattle.wdt_receiver_fsm.specs.declared.acts.RecvAct.TheVariants as acts
use Rattle.wdt_receiver_fsm.specs.declared.states.RecvState.TheVariants as states
use Rattle.wdt_receiver_fsm.specs.PlainReceiver.{mark_of}
use Rattle.wdt_receiver_fsm.specs.Turn.{Step, greets_by}
use Rattle.wdt_receiver_fsm.specs.End.{EndView, lane_in, plain_with, stands}
use Rattle.wdt_receiver_fsm.proofs.end.RecvEnd.answer_settings.Goals as goal

pub returns : goal.returns
unfolding mark_of
returns c = λ books.
    let old = c.args.self.now in
    let stood = stands old c.args.lane.0 record (lane_in old c.args.lane.0) { state = states.SendLocalCheckpoint; ask = c.args.settings.ask; conn = c.args.settings.conn.0 } in
    ap (greets_by (plain_with old books) c.args.lane c.args.settings) c.if-has_finish.false
    ∙ ap (λ (n : ℕ). let m : Mark = record { lane = c.args.lane; count = n } in let s : Step = (acts.Write (frames.Greeting m), plain_with stood books) in s) (sym c.landed-count.ensures)
    ∙ ap (λ (v : EndView). let m : Mark = record { lane = c.args.lane; count = c.landed-count.result } in let s : Step = (acts.Write (frames.Greeting m), plain_with v books) in s) (sym c.stand_met-2.ensures)
