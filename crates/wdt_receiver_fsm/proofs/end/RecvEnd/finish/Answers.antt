use Rattle.std.proofs.Common.{Option, [], ◌∷◌, sym, ap, ◌∙◌}
use Rattle.wdt_sender_fsm.specs.declared.peers.PeerKind.{PeerKind}
use Rattle.wdt_receiver_fsm.specs.declared.events.RecvEvent.TheVariants as events
use Rattle.wdt_receiver_fsm.specs.PlainReceiver.{PlainReceiver, noted}
use Rattle.wdt_receiver_fsm.specs.Turn.{finishes_with, says_done}
use Rattle.wdt_receiver_fsm.specs.End.{EndView, plain_with}
use Rattle.wdt_receiver_fsm.specs.Idling.{idled, row_of_way}
use Rattle.wdt_receiver_fsm.proofs.end.RecvEnd.finish.Goals as goal

pub returns-in-None : goal.returns-in-None
returns-in-None c = λ books.
    let l = c.args.lane in
    ap (λ (o : Option PeerKind). finishes_with c.args.self.now.history (idled c.args.way (plain_with c.args.self.now books) l) l (row_of_way c.args.way) o) c.in-None.is
    ∙ ap (λ (r : PlainReceiver). says_done (noted r (events.Finish ∷ [])) l) (c.be_idle.ensures.plain books)
    ∙ ap (λ (v : EndView). says_done (plain_with v books) l) (sym c.note.ensures)
    ∙ c.say_done.ensures books
