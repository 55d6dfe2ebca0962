use Rattle.std.proofs.Common.{length, sym, ap, ◌∙◌, arith}
use Rattle.wdt_units.proofs.lemmas.LanesOf.{lanes_from-in, lanes_from-out, lanes_from-end}
use Rattle.wdt_units.proofs.lanes.LanesIterator.next.Goals as goal

pub returns-then-has-clause-steps : goal.returns-then-has-clause-steps
returns-then-has-clause-steps c = c.loop-at.invariant.left ∙ lanes_from-in c.loop-at.self.set c.loop-at.at 16 c.loop-at-test.true (sym c.has.ensures ∙ c.if-has.true)

pub returns-then-has-clause-goes : goal.returns-then-has-clause-goes
returns-then-has-clause-goes c =
    let steps = c.loop-at.invariant.left ∙ lanes_from-in c.loop-at.self.set c.loop-at.at 16 c.loop-at-test.true (sym c.has.ensures ∙ c.if-has.true) in
    record { on = λ f. (tt, tt, omega (arith, ap length steps)); keeps = tt; rests = λ f. tt }

pub loop-at-preserved : goal.loop-at-preserved
loop-at-preserved c = record {
  same = c.loop-at.invariant.same;
  left = c.loop-at.invariant.left ∙ lanes_from-out c.loop-at.self.set c.loop-at.at 16 c.loop-at-test.true (sym c.has.ensures ∙ c.if-has.false);
}

pub returns-clause-steps : goal.returns-clause-steps
returns-clause-steps c =
    (c.loop-at.invariant.left ∙ lanes_from-end c.loop-at.self.set c.loop-at.at 16 (omega (arith, c.loop-at-test.false)), lanes_from-end c.loop-at.self.set 16 16 (omega arith))
