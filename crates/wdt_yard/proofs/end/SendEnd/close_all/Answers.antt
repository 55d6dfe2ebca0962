use Rattle.std.proofs.Common.{◌≡◌, ◌<◌, List, [], ◌∷◌, length, get_or, take, refl, sym, ap, ◌∙◌, subst, arith}
use Rattle.std.proofs.lemmas.List.{take_all}
use Rattle.wdt_claims.specs.LaneWords.{Claims}
use Rattle.wdt_codec.specs.declared.frames.Mark.{Mark}
use Rattle.wdt_sender_fsm.specs.Faults.{count_fault}
use Rattle.wdt_sender_fsm.specs.PlainSender.{PlainSender, noted}
use Rattle.wdt_sender_fsm.specs.SenderHistory.{past_of}
use Rattle.wdt_sender_fsm.specs.Turn.{globals, global}
use Rattle.wdt_yard.specs.End.{EndView}
use Rattle.wdt_yard.proofs.Marks.{mark_right, noted_more, noted_none, open_still}
use Rattle.wdt_yard.proofs.end.SendEnd.close_all.Goals as goal

pub close-requires-clause-lane : goal.close-requires-clause-lane
close-requires-clause-lane c =
    subst (λ (s : PlainSender). (get_or c.args.marks.now c.loop-mark.mark-index record { lane = record { 0 = 0 }; count = 0 }).lane.0 < length s.lanes) (sym c.loop-mark.invariant.plain) (c.requires.there c.loop-mark.mark-index record { lane = record { 0 = 0 }; count = 0 } c.loop-mark-test.true)

pub close-requires-clause-room : goal.close-requires-clause-room
close-requires-clause-room c = omega (arith, c.loop-mark.invariant.spare, c.requires.room, c.loop-mark-test.true)

pub close-requires-clause-right : goal.close-requires-clause-right
close-requires-clause-right c = λ none.
    let m : Mark = get_or c.args.marks.now c.loop-mark.mark-index record { lane = record { 0 = 0 }; count = 0 } in
    let h = c.args.self.now.plain.history in
    let shift : (past_of c.loop-mark.self.plain.history m.lane.0).claims ≡ (past_of (noted c.args.self.now.plain (globals c.args.reader (take c.loop-mark.mark-index c.args.marks.now))).history m.lane.0).claims = ap (λ (s : PlainSender). (past_of s.history m.lane.0).claims) c.loop-mark.invariant.plain in
    let same = open_still h c.args.reader (take c.loop-mark.mark-index c.args.marks.now) m.lane.0 (ap (λ (s : Claims). s.closed) (sym shift) ∙ none) in
    ap (λ (s : Claims). count_fault s m.count) (shift ∙ same) ∙ mark_right h c.args.marks.now c.loop-mark.mark-index record { lane = record { 0 = 0 }; count = 0 } c.requires.right c.loop-mark-test.true

pub loop-mark-init : goal.loop-mark-init
loop-mark-init c = record {
  plain = noted_none c.args.self.now.plain c.args.reader;
  spare = omega arith;
  ready = refl;
}

pub loop-mark-preserved : goal.loop-mark-preserved
loop-mark-preserved c =
    let m : Mark = get_or c.args.marks.now c.loop-mark.mark-index record { lane = record { 0 = 0 }; count = 0 } in
    record {
      plain = ap (λ (v : EndView). v.plain) c.close.ensures ∙ ap (λ (s : PlainSender). noted s (global c.args.reader m ∷ [])) c.loop-mark.invariant.plain ∙ noted_more c.args.self.now.plain c.args.reader c.args.marks.now c.loop-mark.mark-index record { lane = record { 0 = 0 }; count = 0 } c.loop-mark-test.true;
      spare = omega (arith, c.loop-mark.invariant.spare, c.requires.room, c.loop-mark-test.true, ap (λ (v : EndView). v.spare) c.close.ensures);
      ready = ap (λ (v : EndView). v.ready) c.close.ensures ∙ c.loop-mark.invariant.ready;
    }

pub returns : goal.returns
returns c = record {
  plain = c.loop-mark.invariant.plain ∙ ap (λ (ms : List Mark). noted c.args.self.now.plain (globals c.args.reader ms)) (take_all c.loop-mark.mark-index c.args.marks.now c.loop-mark-test.false);
  room = omega (arith, c.loop-mark.invariant.spare, c.loop-mark-test.false, c.loop-mark.auto.mark-index-end);
  ready = c.loop-mark.invariant.ready;
}
