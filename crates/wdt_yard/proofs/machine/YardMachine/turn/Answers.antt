use Rattle.wdt_yard.proofs.Results.{if_ok}
use Rattle.wdt_yard.proofs.Machines.{legal_of_some, turned_so}
use Rattle.wdt_yard.proofs.machine.YardMachine.turn.Goals as goal

pub returns-clause-ok : goal.returns-clause-ok
returns-clause-ok c =
    if_ok c.step.result _ _
    (λ act e. turned_so c.args.self.now c.args.lane c.args.put act c.step.new.self e (c.steps_touch_their_lane.ensures.touches c.args.self.now c.args.lane c.args.put) (c.steps_answer_rightly.ensures.follows c.args.self.now c.args.lane c.args.put c.step.ensures.was c.requires.lane c.requires.fits))
    c.step.ensures.ok

pub returns-clause-legal : goal.returns-clause-legal
returns-clause-legal c = legal_of_some c.step.new.self c.step.ensures.lawful
