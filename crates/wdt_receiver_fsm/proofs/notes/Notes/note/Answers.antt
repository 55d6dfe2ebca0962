use Rattle.std.proofs.Common.{sym, subst}
use Rattle.wdt_receiver_fsm.specs.Notable.{MayNote}
use Rattle.wdt_receiver_fsm.specs.View.{NotesView}
use Rattle.wdt_receiver_fsm.proofs.Keeps.{can_count_of, can_pass_of, kept-more}
use Rattle.wdt_receiver_fsm.proofs.notes.Notes.note.Goals as goal

pub count-requires : goal.count-requires
count-requires c = can_count_of c.self.invariant c.args.event (subst (λ (v : NotesView). MayNote v.lanes v.history c.args.event) (sym c.self.view_is) c.requires.allowed)

pub pass-requires : goal.pass-requires
pass-requires c = can_pass_of c.self.invariant c.args.event (subst (λ (v : NotesView). MayNote v.lanes v.history c.args.event) (sym c.self.view_is) c.requires.allowed)

pub invariant_of-self : goal.invariant_of-self
invariant_of-self c =
    rw (c.push_reserved.ensures.items, c.note.ensures, c.pass.ensures, c.count.ensures)
    (kept-more c.self.invariant c.args.event (subst (λ (v : NotesView). MayNote v.lanes v.history c.args.event) (sym c.self.view_is) c.requires.allowed))
