use Rattle.std.proofs.Common.{refl}
use Rattle.wdt_lanes.proofs.Flags.{more_flags}
use Rattle.wdt_recv_lanes.proofs.seats.flagged.Goals as goal

pub loop-number-preserved : goal.loop-number-preserved
loop-number-preserved g c =
    let seats = c.args.seats.now in
    let seat = c.index-seats-number.result in
    let has = c.loop-number.invariant in (
      more_flags (λ s. s.cut) seats c.loop-number.number _ seat _ _ c.loop-number-test.true c.index-seats-number.is refl c.with_flag-cut.ensures has.0,
      more_flags (λ s. s.alarmed) seats c.loop-number.number _ seat _ _ c.loop-number-test.true c.index-seats-number.is refl c.with_flag-alarmed.ensures has.1,
    )
