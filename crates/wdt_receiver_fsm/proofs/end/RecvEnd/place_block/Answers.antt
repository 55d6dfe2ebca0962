use Rattle.std.proofs.Common.{[], ◌∷◌, sym, ap, ◌∙◌}
use Rattle.wdt_receiver_fsm.specs.declared.events.RecvEvent.TheVariants as events
use Rattle.wdt_receiver_fsm.specs.declared.states.RecvState.TheVariants as states
use Rattle.wdt_receiver_fsm.specs.PlainReceiver.{goes, noted}
use Rattle.wdt_receiver_fsm.specs.Turn.{reads}
use Rattle.wdt_receiver_fsm.specs.End.{EndView, plain_with}
use Rattle.wdt_receiver_fsm.proofs.end.RecvEnd.place_block.Goals as goal

pub returns : goal.returns
returns c = λ books.
    ap (λ (v : EndView). reads (goes (noted (plain_with v books) (events.Land c.args.lane ∷ [])) c.args.lane.0 states.ReadNextCmd)) (sym c.note.ensures)
    ∙ ap (λ (v : EndView). reads (goes (plain_with v books) c.args.lane.0 states.ReadNextCmd)) (sym c.note-2.ensures)
    ∙ c.read_on.ensures books
