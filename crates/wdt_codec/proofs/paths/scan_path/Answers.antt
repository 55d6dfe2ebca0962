use Rattle.std.proofs.Common.{◌≡◌, ◌-◌, get_or, sym, ◌∙◌, arith}
use Rattle.wdt_units.specs.Scan.{next}
use Rattle.wdt_units.proofs.Shared.{within_goes, within_stops}
use Rattle.wdt_codec.proofs.PathField.{path-short, path-bad, path-goes, path-done, path-starts}
use Rattle.wdt_codec.proofs.paths.scan_path.Goals as goal

pub loop-k-init : goal.loop-k-init
loop-k-init c = record { so_far = path-starts c.args.count (c.args.count - 0) c.args.bytes.now (omega arith); reached = omega arith }

pub returns-then-k-bytes-clause-reads : goal.returns-then-k-bytes-clause-reads
returns-then-k-bytes-clause-reads c = path-short c.args.count c.loop-k.k c.loop-k.scan c.args.bytes.now c.loop-k-test.true c.loop-k.invariant.so_far c.if-k-bytes.true

pub returns-in-None-clause-reads : goal.returns-in-None-clause-reads
returns-in-None-clause-reads c =
    path-bad c.args.count c.loop-k.k c.loop-k.scan c.args.bytes.now c.loop-k-test.true c.loop-k.invariant.so_far c.if-k-bytes.false
    (within_stops (c.args.count - 1 - c.loop-k.k) (next c.loop-k.scan (get_or c.args.bytes.now c.loop-k.k 0)) (sym c.in-None.is ∙ c.scan_on.ensures))

pub loop-k-preserved : goal.loop-k-preserved
loop-k-preserved c =
    let w = within_goes (c.args.count - 1 - c.loop-k.k) (next c.loop-k.scan (get_or c.args.bytes.now c.loop-k.k 0)) c.in-Some.after (sym c.in-Some.is ∙ c.scan_on.ensures) in
    record {
      so_far = path-goes c.args.count c.loop-k.k c.loop-k.scan c.args.bytes.now c.loop-k-test.true c.loop-k.invariant.so_far c.in-Some.after c.if-k-bytes.false w.0 w.1;
      reached = omega arith;
    }

pub returns-clause-reads : goal.returns-clause-reads
returns-clause-reads c =
    let same : c.loop-k.k ≡ c.args.count = omega arith in
    let end = rw same at c.loop-k.invariant.so_far in
    path-done c.args.count c.args.count c.loop-k.scan c.args.bytes.now (omega arith) end
