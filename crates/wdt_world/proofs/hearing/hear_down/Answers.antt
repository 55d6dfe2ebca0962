use Rattle.wdt_world.proofs.Listening.{hears_down}
use Rattle.wdt_world.proofs.hearing.hear_down.Goals as goal

pub returns-clause-heard : goal.returns-clause-heard
returns-clause-heard c = λ p here head shows.
    hears_down c.streams_have_one_reading.ensures.frame c.args.lines.now c.read_down.new.self p c.in_ok-taken.taken c.heard_down.result here head shows c.in_ok-taken.ensures.found c.read_down.ensures.only c.heard_down.ensures
