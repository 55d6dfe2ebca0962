use Rattle.std.proofs.Common.{◌<◌, ◌∙◌, subst, sym}
use Rattle.wdt_receiver_fsm.specs.View.{NotesView, is_done_in}
use Rattle.wdt_receiver_fsm.proofs.Keeps.{every_false}
use Rattle.wdt_receiver_fsm.proofs.notes.Notes.all_done.Goals as goal

pub returns-then-not-is_done_with : goal.returns-then-not-is_done_with
returns-then-not-is_done_with c =
    every_false c.args.self.now.lanes c.loop-number.number (is_done_in c.args.self.now.history)
    (subst (λ (v : NotesView). c.loop-number.number < v.lanes) c.self.view_is c.loop-number-test.true)
    (sym c.is_done_with.ensures ∙ c.if-not-is_done_with.true)
