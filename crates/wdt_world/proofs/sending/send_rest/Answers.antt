use Rattle.std.proofs.Common.{◌∙◌, refl, arith}
use Rattle.wdt_world.proofs.Pieces.{wrote_more, wrote_none}
use Rattle.wdt_world.proofs.sending.send_rest.Goals as goal

pub loop-i-init : goal.loop-i-init
loop-i-init g c = record { wrote = wrote_none c.args.length 1 c.args.lines.now; told = refl; later = omega arith }

pub loop-i-preserved : goal.loop-i-preserved
loop-i-preserved g c =
    record {
      wrote = wrote_more c.args.length 1 c.loop-i.i c.args.lines.now c.loop-i.lines c.pass_piece.new.lines c.pass_piece.new.piece.items c.loop-i.invariant.wrote
          (c.in-Ok.ensures.counted ∙ c.min-size.ensures) c.in-Ok.ensures.wrote;
      told = c.pass_piece.ensures.told ∙ c.loop-i.invariant.told;
      later = omega (arith, c.pass_piece.ensures.cause.later, c.loop-i.invariant.later);
    }
