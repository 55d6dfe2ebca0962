use Rattle.std.proofs.Common.{◌≡◌, ◌<◌, ℕ, List, length, ◌++◌, ap, ◌∙◌, sym, subst, arith}
use Rattle.wdt_codec.specs.Frames.{spell}
use Rattle.wdt_codec.specs.declared.frames.Frame.TheVariants as frames
use Rattle.wdt_sender_fsm.specs.Phases.{pieces_in}
use Rattle.wdt_units.specs.Counts.{Rises}
use Rattle.wdt_wire.specs.declared.side.Side.TheVariants.{Down}
use Rattle.wdt_wire.specs.Wires.{written}
use Rattle.wdt_pact.specs.Pairs.{wrote_or_lost}
use Rattle.wdt_world.specs.Blocks.{WrotePieces}
use Rattle.wdt_world.specs.Lines.{LinesView, on_top}
use Rattle.wdt_world.proofs.Blocking.{sends_part, sends_whole, then_wrote}
use Rattle.wdt_world.proofs.Pieces.{wrote_none}
use Rattle.wdt_world.proofs.sending.write_block.Goals as goal

pub returns-then-count-eq0-clause-sent : goal.returns-then-count-eq0-clause-sent
returns-then-count-eq0-clause-sent g c = λ p here there shows.
    let none : 0 ≡ pieces_in c.args.header.length = sym c.if-count-eq0.true ∙ c.count_pieces-count.ensures in
    let spelled = c.as_slice.ensures.value ∙ (c.in_ok-encode.ensures.spelled ∙ ap (λ (xs : List ℕ). xs ++ spell (frames.Block c.args.header)) c.clear.ensures.items) in
    let is = c.in_ok-works.ensures.written ∙ ap (λ (bs : List ℕ). on_top (λ wire. written wire Down bs) c.args.lines.now) spelled in
    sends_whole (Rises (g.S.Source.faults c.args.source.now) (g.S.Source.faults c.args.source.now)) c.args.lines.now c.write_down.new.self p c.args.header c.wrote_down.result c.requires.fits here there shows
    (subst (λ (v : LinesView). WrotePieces c.args.header.length 0 (pieces_in c.args.header.length) v c.write_down.new.self) is
    (subst (λ (n : ℕ). WrotePieces c.args.header.length 0 n c.write_down.new.self c.write_down.new.self) none (wrote_none c.args.header.length 0 c.write_down.new.self)))
    (c.wrote_down.ensures ∙ ap wrote_or_lost c.in_ok-works.ensures.works)

pub returns-then-sent-count-clause-sent : goal.returns-then-sent-count-clause-sent
returns-then-sent-count-clause-sent g c = λ p here there shows.
    let spelled = c.as_slice.ensures.value ∙ (c.in_ok-encode.ensures.spelled ∙ ap (λ (xs : List ℕ). xs ++ spell (frames.Block c.args.header)) c.clear.ensures.items) in
    let is = c.in_ok-works.ensures.written ∙ ap (λ (bs : List ℕ). on_top (λ wire. written wire Down bs) c.args.lines.now) spelled in
    let some : 0 < pieces_in c.args.header.length = omega (arith, c.count_pieces-count.ensures, c.if-count-eq0.false) in
    let all = then_wrote c.args.header.length c.in_ok-sent.sent c.write_down.new.self c.write_down-2.new.self c.send_rest.new.lines c.as_slice-2.result.now
    (ap (λ (xs : List ℕ). length xs) c.as_slice-2.ensures.value ∙ c.requires.first some) c.in_ok-_first.ensures.written c.in_ok-sent.ensures.wrote in
    sends_part (Rises (g.S.Source.faults c.args.source.now) (g.S.Source.faults c.send_rest.new.source)) c.args.lines.now c.send_rest.new.lines p c.args.header c.in_ok-sent.sent
    (c.in_ok-sent.ensures.cause c.if-sent-count.true) c.in_ok-sent.ensures.least (omega (arith, c.if-sent-count.true, c.count_pieces-count.ensures)) c.requires.fits here there shows
    (subst (λ (v : LinesView). WrotePieces c.args.header.length 0 c.in_ok-sent.sent v c.send_rest.new.lines) is all)

pub returns-clause-sent : goal.returns-clause-sent
returns-clause-sent g c = λ p here there shows.
    let spelled = c.as_slice.ensures.value ∙ (c.in_ok-encode.ensures.spelled ∙ ap (λ (xs : List ℕ). xs ++ spell (frames.Block c.args.header)) c.clear.ensures.items) in
    let is = c.in_ok-works.ensures.written ∙ ap (λ (bs : List ℕ). on_top (λ wire. written wire Down bs) c.args.lines.now) spelled in
    let some : 0 < pieces_in c.args.header.length = omega (arith, c.count_pieces-count.ensures, c.if-count-eq0.false) in
    let sent : c.in_ok-sent.sent ≡ pieces_in c.args.header.length = omega (arith, c.in_ok-sent.ensures.most, c.if-sent-count.false, c.count_pieces-count.ensures) in
    let all = then_wrote c.args.header.length c.in_ok-sent.sent c.write_down.new.self c.write_down-2.new.self c.send_rest.new.lines c.as_slice-2.result.now
    (ap (λ (xs : List ℕ). length xs) c.as_slice-2.ensures.value ∙ c.requires.first some) c.in_ok-_first.ensures.written c.in_ok-sent.ensures.wrote in
    sends_whole (Rises (g.S.Source.faults c.args.source.now) (g.S.Source.faults c.send_rest.new.source)) c.args.lines.now c.send_rest.new.lines p c.args.header c.wrote_down-2.result c.requires.fits here there shows
    (subst (λ (n : ℕ). WrotePieces c.args.header.length 0 n (on_top (λ wire. written wire Down (spell (frames.Block c.args.header))) c.args.lines.now) c.send_rest.new.lines) sent
    (subst (λ (v : LinesView). WrotePieces c.args.header.length 0 c.in_ok-sent.sent v c.send_rest.new.lines) is all))
    (c.wrote_down-2.ensures ∙ ap wrote_or_lost c.in_ok-works.ensures.works)
