use Rattle.std.proofs.Common.{◌≡◌, List, [], ◌∷◌, length, map, sym, ap, ◌∙◌}
use Rattle.wdt_units.specs.declared.numbers.LaneSet.{LaneSet}
use Rattle.wdt_codec.specs.declared.frames.Frame.TheVariants as frames
use Rattle.wdt_codec.specs.declared.frames.Mark.{Mark}
use Rattle.wdt_receiver_fsm.specs.declared.acts.RecvAct.TheVariants as acts
use Rattle.wdt_receiver_fsm.specs.declared.events.RecvEvent.TheVariants as events
use Rattle.wdt_receiver_fsm.specs.declared.states.RecvState.TheVariants as states
use Rattle.wdt_receiver_fsm.specs.PlainReceiver.{goes, mark_of, noted}
use Rattle.wdt_receiver_fsm.specs.Ready.{untold}
use Rattle.wdt_receiver_fsm.specs.Sets.{set_of}
use Rattle.wdt_receiver_fsm.specs.Turn.{tells_by, writes}
use Rattle.wdt_receiver_fsm.specs.End.{EndView, lane_in, plain_with, stands, with_note}
use Rattle.wdt_receiver_fsm.proofs.Telling.{map_none, none_empty, some_filled, tells_some}
use Rattle.wdt_receiver_fsm.proofs.end.RecvEnd.tell_or_wait.Goals as goal

pub returns-then-is_empty : goal.returns-then-is_empty
returns-then-is_empty c = λ books.
    let e = c.args.self.now in
    let us = untold (length e.lanes) e.history c.args.lane.0 in
    let none : us ≡ [] = map_none (mark_of e.history) us (sym c.marks_untold-marks.ensures ∙ sym c.items.ensures.value ∙ none_empty c.items.result.now c.is_empty.ensures c.if-is_empty.true) in
    ap (tells_by (plain_with e books) c.args.lane) none ∙ c.wait.ensures books

pub returns : goal.returns
returns c = λ books.
    let e = c.args.self.now in
    let l = c.args.lane in
    let us = untold (length e.lanes) e.history l.0 in
    tells_some (plain_with e books) l us (λ none. some_filled c.items.result.now c.is_empty.ensures c.if-is_empty.false (c.items.ensures.value ∙ c.marks_untold-marks.ensures ∙ ap (map (mark_of e.history)) none))
    ∙ ap (λ (ms : List Mark). writes (goes (noted (plain_with e books) (events.Told l (set_of us) ∷ [])) l.0 states.SendGlobalCheckpoint) (frames.ErrMarks ms)) (sym c.marks_untold-marks.ensures)
    ∙ ap (λ (v : EndView). (acts.Write (frames.ErrMarks c.marks_untold-marks.result), plain_with v books))
    (sym (c.go.ensures ∙ ap (λ (v : EndView). stands v l.0 record (lane_in v l.0) { state = states.SendGlobalCheckpoint }) (c.note.ensures ∙ ap (λ (s : LaneSet). with_note e (events.Told l s)) c.untold-told.ensures)))
