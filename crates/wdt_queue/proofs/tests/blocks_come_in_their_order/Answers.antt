use Rattle.std.proofs.Common.{refl, sym, ap, subst, arith}
use Rattle.wdt_claims.specs.Blocks.{AreDistinct, count_of}
use Rattle.wdt_claims.proofs.Shared.{same_itself, count_of-cons, one_if-true, rising_distinct}
use Rattle.wdt_queue.proofs.tests.blocks_come_in_their_order.Goals as goal

pub of-requires-clause-distinct : goal.of-requires-clause-distinct
of-requires-clause-distinct g c = subst AreDistinct (sym c.in_ok-from_slice.ensures.items) (rising_distinct _ refl)

pub put_back-requires-clause-absent : goal.put_back-requires-clause-absent
put_back-requires-clause-absent g c =
    omega (
      arith,
      rising_distinct c.in_ok-queue.queue.waiting c.len.ensures.rising c.in-Some.least,
      ap (count_of c.in-Some.least) c.in-Some.ensures.taken.0,
      count_of-cons c.in-Some.least c.in-Some.least c.take.new.self.waiting,
      one_if-true c.in-Some.least c.in-Some.least (same_itself c.in-Some.least),
    )
