use Rattle.std.proofs.Common.{◌∙◌, ap}
use Rattle.wdt_receiver_fsm.specs.Ready.{is_ready}
use Rattle.wdt_receiver_fsm.specs.View.{NotesView}
use Rattle.wdt_receiver_fsm.proofs.Keeps.{ready_kept}
use Rattle.wdt_receiver_fsm.proofs.notes.Notes.is_ready.Goals as goal

pub returns : goal.returns
returns c = c.ready.ensures ∙ ready_kept c.self.invariant ∙ ap (λ (v : NotesView). is_ready v.lanes v.history) c.self.view_is
