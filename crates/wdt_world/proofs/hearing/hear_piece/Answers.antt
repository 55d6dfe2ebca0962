use Rattle.wdt_world.proofs.Listening.{hears_piece}
use Rattle.wdt_world.proofs.hearing.hear_piece.Goals as goal

pub returns-clause-heard : goal.returns-clause-heard
returns-clause-heard c = λ p here head shows.
    hears_piece c.args.lines.now c.take_piece.new.self p c.args.length c.in_ok-taken.taken c.heard_down.result here c.requires.some head shows c.in_ok-taken.ensures.found c.take_piece.ensures.only c.heard_down.ensures
