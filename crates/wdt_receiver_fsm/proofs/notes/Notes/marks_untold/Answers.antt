use Rattle.std.proofs.Common.{◌≡◌, ◌<◌, ◌≤◌, ◌∙◌, List, ap, arith, filter, length, subst, sym}
use Rattle.std.proofs.lemmas.List.{length-map}
use Rattle.wdt_units.specs.declared.limits.TheConstants.{MAX_LANES}
use Rattle.wdt_codec.specs.declared.frames.Mark.{Mark}
use Rattle.wdt_receiver_fsm.specs.PlainReceiver.{mark_of}
use Rattle.wdt_receiver_fsm.specs.Ready.{is_untold}
use Rattle.wdt_receiver_fsm.specs.Sets.{numbers}
use Rattle.wdt_receiver_fsm.specs.View.{NotesView}
use Rattle.wdt_receiver_fsm.proofs.Sets.{few_untold, mark_is, marks_more, marks_same, told_by}
use Rattle.wdt_receiver_fsm.proofs.notes.Notes.marks_untold.Goals.{then-has, else-has}
use Rattle.wdt_receiver_fsm.proofs.notes.Notes.marks_untold.Goals as goal

pub push-requires : goal.push-requires
push-requires c =
    let few : c.args.self.now.lanes ≤ MAX_LANES = subst (λ (v : NotesView). v.lanes ≤ MAX_LANES) c.self.view_is c.self.invariant.few in
    let lt : c.loop-number.number < c.args.self.now.lanes = subst (λ (v : NotesView). c.loop-number.number < v.lanes) c.self.view_is c.loop-number-test.true in
    let count : length c.loop-number.marks ≡ length (filter (is_untold c.args.self.now.history c.args.lane.0) (numbers c.loop-number.number))
    = ap (λ (xs : List Mark). length xs) c.loop-number.invariant ∙ length-map (filter (is_untold c.args.self.now.history c.args.lane.0) (numbers c.loop-number.number)) (mark_of c.args.self.now.history) in
    omega (
      arith,
      count,
      few_untold c.args.self.now.lanes c.args.self.now.history c.args.lane.0 c.loop-number.number few c.requires.lane lt c.requires.still_open
          (told_by c.untold-untold.result c.args.self.now.lanes c.args.self.now.history c.args.lane.0 c.loop-number.number _ lt c.untold-untold.ensures (sym c.has.ensures ∙ c.if-has.true)),
    )

pub loop-number-preserved : goal.loop-number-preserved
loop-number-preserved c =
    let lt : c.loop-number.number < c.args.self.now.lanes = subst (λ (v : NotesView). c.loop-number.number < v.lanes) c.self.view_is c.loop-number-test.true in
    elim c.if-has.branch [
      | then-has w ↦ w.marks-is ∙ w.push.ensures
          ∙ marks_more c.args.self.now.history (is_untold c.args.self.now.history c.args.lane.0) c.loop-number.number _ c.loop-number.marks
          (told_by c.untold-untold.result c.args.self.now.lanes c.args.self.now.history c.args.lane.0 c.loop-number.number _ lt c.untold-untold.ensures (sym c.has.ensures ∙ w.if-has.true))
          (mark_is c.args.self.now.history c.loop-number.number w.landed.result w.landed.ensures.count) c.loop-number.invariant
      | else-has w ↦ w.marks-is
          ∙ marks_same c.args.self.now.history (is_untold c.args.self.now.history c.args.lane.0) c.loop-number.number c.loop-number.marks
          (told_by c.untold-untold.result c.args.self.now.lanes c.args.self.now.history c.args.lane.0 c.loop-number.number _ lt c.untold-untold.ensures (sym c.has.ensures ∙ w.if-has.false)) c.loop-number.invariant
    ]
