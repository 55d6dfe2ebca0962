use Rattle.wdt_yard.proofs.Ends.{end_greeted_by}
use Rattle.wdt_yard.proofs.end.SendEnd.greet.Goals as goal

pub invariant_of-self : goal.invariant_of-self
invariant_of-self c = end_greeted_by c.args.lane c.args.count c.greet.result c.greet.new.self c.greet.ensures.noted c.greet.ensures.unchanged c.self.invariant
