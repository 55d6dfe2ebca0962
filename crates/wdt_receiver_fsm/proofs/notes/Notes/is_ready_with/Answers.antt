use Rattle.std.proofs.Common.{◌<◌, ◌++◌, ◌∷◌, [], ◌∙◌, ℕ, ap, subst, sym}
use Rattle.wdt_funnel.specs.Barrier.{Barrier, is_open}
use Rattle.wdt_receiver_fsm.specs.declared.events.RecvEvent.TheVariants.{Idle}
use Rattle.wdt_receiver_fsm.specs.Ready.{is_ready}
use Rattle.wdt_receiver_fsm.specs.View.{NotesView}
use Rattle.wdt_receiver_fsm.proofs.Keeps.{lanes_kept, ready_with}
use Rattle.wdt_receiver_fsm.proofs.notes.Notes.is_ready_with.Goals as goal

pub idle-requires : goal.idle-requires
idle-requires c =
    subst (λ (n : ℕ). c.args.lane.0 < n) (sym (lanes_kept c.self.invariant)) (subst (λ (v : NotesView). c.args.lane.0 < v.lanes) (sym c.self.view_is) c.requires)

pub returns : goal.returns
returns c =
    c.ready.ensures ∙ ap (λ (b : Barrier). is_open b) c.idle.ensures
    ∙ ready_with c.self.invariant c.args.lane (subst (λ (v : NotesView). c.args.lane.0 < v.lanes) (sym c.self.view_is) c.requires)
    ∙ ap (λ (v : NotesView). is_ready v.lanes (v.history ++ Idle c.args.lane ∷ [])) c.self.view_is
