use Rattle.std.proofs.Common.{◌∙◌, arith, refl}
use Rattle.wdt_lanes.proofs.Seating.{one_less, popped, seated}
use Rattle.wdt_lanes.proofs.seats.seat_all.Goals as goal

pub loop-lane-preserved : goal.loop-lane-preserved
loop-lane-preserved g c =
    let i = c.loop-lane.invariant in (
      omega (arith, i.0, one_less _ _ _ _ c.pop.ensures.len c.unwrap-pass.ensures),
      omega (arith, i.1, one_less _ _ _ _ c.pop-in-loop-lane.ensures.len c.unwrap-source.ensures),
      omega (arith, i.2, one_less _ _ _ _ c.pop-in-loop-lane-2.ensures.len c.unwrap-dialer.ensures),
      omega (arith, i.3, c.push_reserved.ensures.len),
      omega (arith, i.4, c.push_reserved.ensures.capacity),
      c.pop.ensures.capacity ∙ i.5,
      c.pop-in-loop-lane.ensures.capacity ∙ i.6,
      c.pop-in-loop-lane-2.ensures.capacity ∙ i.7,
      seated (λ s. s.pass) _ _ _ c.unwrap-pass.result _ _ _ i.8 (popped _ _ _ _ c.pop.ensures.items c.unwrap-pass.ensures) c.push_reserved.ensures.items refl,
      seated (λ s. s.source) _ _ _ c.unwrap-source.result _ _ _ i.9 (popped _ _ _ _ c.pop-in-loop-lane.ensures.items c.unwrap-source.ensures) c.push_reserved.ensures.items refl,
      seated (λ s. s.dialer) _ _ _ c.unwrap-dialer.result _ _ _ i.10 (popped _ _ _ _ c.pop-in-loop-lane-2.ensures.items c.unwrap-dialer.ensures) c.push_reserved.ensures.items refl,
    )
