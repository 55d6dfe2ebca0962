use Rattle.std.proofs.Common.{None, sym, ap, subst, arith}
use Rattle.wdt_depot.specs.MemState.{mem_state}
use Rattle.wdt_receiver_fsm.specs.PlainReceiver.{PlainReceiver}
use Rattle.wdt_dock.specs.DockView.{HasLostDisk}
use Rattle.wdt_recv_lanes.specs.Kept.{IsKept}
use Rattle.wdt_recv_lanes_tests.proofs.tests.dock.Goals as goal

-- an end that was just opened hasn't failed
pub of-requires : goal.of-requires
of-requires g c =
    let r = c.in-Ok.dock.plain in
    let s = mem_state c.in-Ok.dock.depot in
    let e = c.in-Ok.ensures in
    subst (λ start. IsKept None start r s) (sym c.requires.started) (record {
      tells = e.tells;
      had = tt;
      sized = tt;
      good = tt;
      images = tt;
      slips = tt;
      others = tt;
      later = omega arith;
      lost = λ lost. absurd (subst HasLostDisk (ap (λ (x : PlainReceiver). x.answer) e.opened) lost);
    })
