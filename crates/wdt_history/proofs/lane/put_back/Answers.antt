use Rattle.std.proofs.Common.{arith}
use Rattle.wdt_history.proofs.Back.{next_absent, one_more}
use Rattle.wdt_history.proofs.lane.put_back.Goals as goal

pub put_back-requires-clause-absent : goal.put_back-requires-clause-absent
put_back-requires-clause-absent c =
    next_absent c.args.queue.now.waiting c.loop-left.queue.waiting c.args.blocks.now c.loop-left.left _ (omega arith) (omega arith) c.requires.absent c.loop-left.invariant.blocks

pub loop-left-preserved : goal.loop-left-preserved
loop-left-preserved c = record {
  blocks =
      one_more c.args.queue.now.waiting c.loop-left.queue.waiting c.put_back.new.self.waiting c.args.blocks.now c.loop-left.left _ (omega arith) (omega arith) c.loop-left.invariant.blocks c.put_back.ensures.blocks;
  rising = λ up. c.put_back.ensures.rising;
  room = omega (arith, c.loop-left.invariant.room, c.put_back.ensures.room);
}
