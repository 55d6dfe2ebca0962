use Rattle.std.proofs.Common.{◌∙◌, arith, refl}
use Rattle.wdt_lanes.proofs.Seating.{one_less, popped, seated}
use Rattle.wdt_recv_lanes.proofs.seats.seat_all.Goals as goal

pub loop-lane-preserved : goal.loop-lane-preserved
loop-lane-preserved g c =
    let i = c.loop-lane.invariant in (
      omega (arith, i.0, one_less _ _ _ _ c.pop.ensures.len c.unwrap-pass.ensures),
      omega (arith, i.1, one_less _ _ _ _ c.pop-in-loop-lane.ensures.len c.unwrap-acceptor.ensures),
      omega (arith, i.2, c.push_reserved.ensures.len),
      omega (arith, i.3, c.push_reserved.ensures.capacity),
      c.pop.ensures.capacity ∙ i.4,
      c.pop-in-loop-lane.ensures.capacity ∙ i.5,
      seated (λ s. s.pass) _ _ _ c.unwrap-pass.result _ _ _ i.6 (popped _ _ _ _ c.pop.ensures.items c.unwrap-pass.ensures) c.push_reserved.ensures.items refl,
      seated (λ s. s.acceptor) _ _ _ c.unwrap-acceptor.result _ _ _ i.7 (popped _ _ _ _ c.pop-in-loop-lane.ensures.items c.unwrap-acceptor.ensures) c.push_reserved.ensures.items refl,
    )
