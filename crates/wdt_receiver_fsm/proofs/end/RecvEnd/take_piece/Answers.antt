use Rattle.std.proofs.Common.{ℕ, sym, ap, ◌∙◌}
use Rattle.wdt_sender_fsm.specs.Phases.{piece_most}
use Rattle.std.specs.Prelude.{min}
use Rattle.wdt_receiver_fsm.specs.declared.acts.RecvAct.TheVariants as acts
use Rattle.wdt_receiver_fsm.specs.declared.states.RecvLane.{RecvLane}
use Rattle.wdt_receiver_fsm.specs.declared.states.RecvState.TheVariants as states
use Rattle.wdt_receiver_fsm.specs.End.{EndView, plain_with, stands}
use Rattle.wdt_receiver_fsm.proofs.end.RecvEnd.take_piece.Goals as goal

pub returns : goal.returns
returns c = λ books.
    ap (λ (v : EndView). (acts.TakePiece (min c.args.left piece_most), plain_with v books))
    (sym (c.stand.ensures ∙ ap (λ (x : RecvLane). stands c.args.self.now c.args.lane.0 record x { state = states.TakeBlock; left = c.args.left }) c.lane.ensures))
    ∙ ap (λ (n : ℕ). (acts.TakePiece n, plain_with c.stand.new.self books)) (sym c.min.ensures)
