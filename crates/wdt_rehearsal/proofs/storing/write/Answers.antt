use Rattle.std.proofs.Common.{◌≡◌, ◌∙◌, ◌+◌, ◌-◌, ◌++◌, Ok, length, take, drop, refl, ap, arith}
use Rattle.std.specs.Prelude.{IsErrOf}
use Rattle.std.proofs.Math.Seq.{take-add}
use Rattle.std.proofs.lemmas.List.{length-take}
use Rattle.wdt_depot.specs.State.{at_spot}
use Rattle.wdt_depot.specs.declared.failure.DepotFail.{DepotFail}
use Rattle.wdt_depot.specs.declared.failure.DepotFail.TheVariants.{Failed}
use Rattle.wdt_depot.proofs.ForCallers.{spot_stays}
use Rattle.wdt_rehearsal.proofs.Others.{beside-start, beside-wrote}
use Rattle.wdt_rehearsal.proofs.Stored.{fine-none, fine-more, written-none, written-at, write-slips}
use Rattle.wdt_rehearsal.proofs.storing.write.Goals as goal

pub loop-done-init : goal.loop-done-init
loop-done-init g c = record {
  within = omega arith;
  written = written-none (at_spot c.args.spot.0 (g.D.Depot.state c.args.depot.now)) (g.D.Depot.state c.args.depot.now).told c.requires.empty;
  beside = beside-start (at_spot c.args.spot.0 (g.D.Depot.state c.args.depot.now)) (g.D.Depot.state c.args.depot.now).told;
  spots = refl;
  fine = fine-none (g.D.Depot.state c.args.depot.now);
}

pub returns-in_err-write_at-clause-slips : goal.returns-in_err-write_at-clause-slips
returns-in_err-write_at-clause-slips g c =
    let bytes = c.args.bytes.now in
    let done = c.loop-done.done in
    let inv = c.loop-done.invariant in
    write-slips (IsErrOf c.write_at.result Failed) c.write_at.result c.args.spot.0 (take done bytes) done (length (take (done + c.min-count.result - done) (drop done bytes))) (g.D.Depot.state c.args.depot.now) (g.D.Depot.state c.loop-done.depot)
    (g.D.Depot.state c.write_at.new.self) (omega (arith, length-take done bytes, inv.within)) inv.spots inv.written c.write_at.ensures.slips inv.fine

pub loop-done-preserved : goal.loop-done-preserved
loop-done-preserved g c =
    let bytes = c.args.bytes.now in
    let done = c.loop-done.done in
    let count = c.min-count.result in
    let piece = take (done + count - done) (drop done bytes) in
    let s0 = g.D.Depot.state c.args.depot.now in
    let s1 = g.D.Depot.state c.loop-done.depot in
    let s2 = g.D.Depot.state c.write_at.new.self in
    let inv = c.loop-done.invariant in
    let long : length (take done bytes) ≡ done = omega (arith, length-take done bytes, inv.within) in
    let whole : take (done + count) bytes ≡ take done bytes ++ piece = take-add done count bytes ∙ ap (λ n. take done bytes ++ take n (drop done bytes)) (let e : count ≡ done + count - done = omega arith in e) in
    record {
      within = omega arith;
      written = written-at c.args.spot.0 (take done bytes) piece (take (done + count) bytes) done s0 s1 s2 long inv.spots inv.written c.in_ok-write_at.ensures.step whole;
      beside = beside-wrote {E = DepotFail} (Ok c.in_ok-write_at.field-0) (at_spot c.args.spot.0 s0) (at_spot c.args.spot.0 s1) done piece s0.told s1.told s2.told (spot_stays c.args.spot.0 s0 s1 inv.spots) inv.beside c.in_ok-write_at.ensures.step;
      spots = c.in_ok-write_at.ensures.spots ∙ inv.spots;
      fine = fine-more (IsErrOf (Ok c.in_ok-write_at.field-0) Failed) s0 s1 s2 inv.fine c.in_ok-write_at.ensures.counts (λ same. cc)
          (write-slips (IsErrOf c.write_at.result Failed) c.write_at.result c.args.spot.0 (take done bytes) done (length piece) s0 s1 s2 long inv.spots inv.written c.write_at.ensures.slips inv.fine);
    }

pub returns-in_err-write_at-clause-beside : goal.returns-in_err-write_at-clause-beside
returns-in_err-write_at-clause-beside g c =
    let s0 = g.D.Depot.state c.args.depot.now in
    let s1 = g.D.Depot.state c.loop-done.depot in
    let inv = c.loop-done.invariant in
    beside-wrote c.write_at.result (at_spot c.args.spot.0 s0) (at_spot c.args.spot.0 s1) _ _ s0.told s1.told (g.D.Depot.state c.write_at.new.self).told (spot_stays c.args.spot.0 s0 s1 inv.spots) inv.beside c.write_at.ensures.step
