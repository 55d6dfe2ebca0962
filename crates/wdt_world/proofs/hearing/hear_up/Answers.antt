use Rattle.wdt_world.proofs.Listening.{hears_up}
use Rattle.wdt_world.proofs.hearing.hear_up.Goals as goal

pub returns-clause-heard : goal.returns-clause-heard
returns-clause-heard c = λ p here shows.
    hears_up c.streams_have_one_reading.ensures.frame c.args.lines.now c.read_up.new.self p c.in_ok-taken.taken c.heard_up.result here shows c.in_ok-taken.ensures.found c.read_up.ensures.only c.heard_up.ensures
