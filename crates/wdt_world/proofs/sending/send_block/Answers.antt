use Rattle.std.proofs.Common.{Err, ap, arith}
use Rattle.wdt_units.specs.Counts.{Rises}
use Rattle.wdt_world.proofs.Blocking.{sends_none}
use Rattle.wdt_world.proofs.sending.send_block.Goals as goal

pub returns-in-Err-Failed-clause-sent : goal.returns-in-Err-Failed-clause-sent
returns-in-Err-Failed-clause-sent g c = λ p here there shows.
    sends_none (Rises (g.S.Source.faults c.args.source.now) (g.S.Source.faults c.read_piece.new.source)) c.args.lines.now p c.args.header (c.in-Err-Failed.ensures.cause.failed (ap Err c.in-Err-Failed.field-0-is))
    (omega (arith, c.if-count_pieces-gt0.true, c.count_pieces.ensures)) here there shows
