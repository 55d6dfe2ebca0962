use Rattle.std.proofs.Common.{◌-◌, arith}
use Rattle.wdt_writer.proofs.Landed.{numbers_more}
use Rattle.wdt_writer.proofs.landing.set_of_numbers.Goals as goal

pub loop-left-preserved : goal.loop-left-preserved
loop-left-preserved c = record {
  within = omega arith;
  so_far = numbers_more c.args.blocks.now (c.loop-left.left - 1) c.loop-left.left _ c.loop-left.numbers.keys c.insert.new.self.keys (omega arith) (omega arith) c.loop-left.invariant.so_far c.in_ok-insert.ensures.keys;
}
