use Rattle.std.proofs.Common.{arith}
use Rattle.wdt_queue.proofs.Places.{made_rising, made_same}
use Rattle.wdt_queue.proofs.queue.Queue.of.Goals as goal

pub invariant_of-result : goal.invariant_of-result
invariant_of-result c = record {
  rising = made_rising c.args.blocks.items c.sort.new.self.items c.reverse.new.self.items c.requires.distinct c.sort.ensures.permutation c.in-Ok.ensures.sorted c.reverse.ensures.items;
  within = omega arith;
  room = omega (arith, c.reverse.new.self.ok.1);
  few = omega arith;
}

pub returns-clause-rising : goal.returns-clause-rising
returns-clause-rising c = made_rising c.args.blocks.items c.sort.new.self.items c.reverse.new.self.items c.requires.distinct c.sort.ensures.permutation c.in-Ok.ensures.sorted c.reverse.ensures.items

pub returns-clause-blocks : goal.returns-clause-blocks
returns-clause-blocks c = made_same c.args.blocks.items c.sort.new.self.items c.reverse.new.self.items c.sort.ensures.permutation c.reverse.ensures.items
