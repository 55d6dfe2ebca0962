use Rattle.std.proofs.Common.{◌≡◌, ℕ, List, get_or, Option, Some, None, sym, ap, ◌∙◌, subst}
use Rattle.std.proofs.lemmas.List.{drop_all}
use Rattle.wdt_codec.specs.declared.frames.Mark.{Mark}
use Rattle.wdt_sender_fsm.specs.declared.peers.PeerKind.{PeerKind}
use Rattle.wdt_sender_fsm.specs.Faults.{count_fault, marks_fault}
use Rattle.wdt_sender_fsm.specs.SenderHistory.{past_of}
use Rattle.wdt_yard.proofs.Marks.{marks_here, marks_on}
use Rattle.wdt_yard.specs.End.{EndView}
use Rattle.wdt_yard.proofs.end.SendEnd.check_marks.Goals as goal

-- what is wrong with the count of a mark of a list, as an end's history has it
abbrev pub told : Option PeerKind → List Mark → ℕ → EndView → Type 0
told fault marks at end = fault ≡ count_fault (past_of end.plain.history (get_or marks at record { lane = record { 0 = 0 }; count = 0 }).lane.0).claims (get_or marks at record { lane = record { 0 = 0 }; count = 0 }).count

pub returns-in-Err : goal.returns-in-Err
returns-in-Err c =
    marks_here c.args.self.now.plain.history c.args.marks.now c.loop-mark.mark-index record { lane = record { 0 = 0 }; count = 0 } c.in-Err.kind c.loop-mark-test.true
    (subst (told (Some c.in-Err.kind) c.args.marks.now c.loop-mark.mark-index) c.self.view_is c.in-Err.ensures) ∙ sym c.loop-mark.invariant

pub loop-mark-preserved : goal.loop-mark-preserved
loop-mark-preserved c =
    c.loop-mark.invariant ∙ marks_on c.args.self.now.plain.history c.args.marks.now c.loop-mark.mark-index record { lane = record { 0 = 0 }; count = 0 } c.loop-mark-test.true
    (subst (told None c.args.marks.now c.loop-mark.mark-index) c.self.view_is c.in_default.ensures)

pub returns : goal.returns
returns c = sym (c.loop-mark.invariant ∙ ap (marks_fault c.args.self.now.plain.history) (drop_all c.loop-mark.mark-index c.args.marks.now c.loop-mark-test.false))
