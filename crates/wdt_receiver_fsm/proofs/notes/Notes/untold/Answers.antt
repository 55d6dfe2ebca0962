use Rattle.std.proofs.Common.{◌<◌, ◌∙◌, ℕ, ap, subst, sym}
use Rattle.wdt_receiver_fsm.specs.Ready.{untold}
use Rattle.wdt_receiver_fsm.specs.Sets.{set_of}
use Rattle.wdt_receiver_fsm.specs.View.{NotesView}
use Rattle.wdt_receiver_fsm.proofs.Keeps.{lanes_kept, untold_kept}
use Rattle.wdt_receiver_fsm.proofs.notes.Notes.untold.Goals as goal

pub untold-requires : goal.untold-requires
untold-requires c =
    subst (λ (n : ℕ). c.args.lane.0 < n) (sym (lanes_kept c.self.invariant)) (subst (λ (v : NotesView). c.args.lane.0 < v.lanes) (sym c.self.view_is) c.requires)

pub returns : goal.returns
returns c = c.untold.ensures ∙ untold_kept c.self.invariant c.args.lane.0 ∙ ap (λ (v : NotesView). set_of (untold v.lanes v.history c.args.lane.0)) c.self.view_is
