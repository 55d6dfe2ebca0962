use Rattle.std.proofs.Common.{arith}
use Rattle.wdt_lanes.proofs.Seating.{one_less, popped, unseated}
use Rattle.wdt_recv_lanes.proofs.seats.unseat_all.Goals as goal

pub loop-lane-preserved : goal.loop-lane-preserved
loop-lane-preserved g c =
    let i = c.loop-lane.invariant in
    let took = popped _ _ _ _ c.pop.ensures.items c.unwrap-pass.ensures in (
      omega (arith, i.0, one_less _ _ _ _ c.pop.ensures.len c.unwrap-pass.ensures),
      omega (arith, i.1, c.push_reserved.ensures.len),
      omega (arith, i.2, c.push_reserved-in-loop-lane.ensures.len),
      omega (arith, i.3, c.push_reserved.ensures.capacity),
      omega (arith, i.4, c.push_reserved-in-loop-lane.ensures.capacity),
      unseated (λ s. s.pass) _ _ _ _ _ c.unwrap-pass.result i.5 took c.push_reserved.ensures.items,
      unseated (λ s. s.acceptor) _ _ _ _ _ c.unwrap-pass.result i.6 took c.push_reserved-in-loop-lane.ensures.items,
    )
