use Rattle.std.proofs.Common.{suc, ◌+◌, length, ap, arith, add-one}
use Rattle.wdt_ranges.specs.Chunks.{count_before, chunk_at}
use Rattle.wdt_ranges.proofs.Chunked.{read_chunk, count_suc, count_past, filled_at}
use Rattle.wdt_ranges.proofs.chunks.next_spot.Goals as goal

pub returns-then-spot-len : goal.returns-then-spot-len
returns-then-spot-len c =
    let same = read_chunk c.args.chunks.now c.args.spot.chunk c.index-chunks-spot.result c.if-spot-chunks.true c.index-chunks-spot.is in
    let end = count_suc c.args.chunks.now c.args.spot.chunk c.if-spot-chunks.true in
    record {
      place = omega (arith, ap (count_before c.args.chunks.now) (add-one c.args.spot.chunk), end, ap length same, c.len.ensures, c.if-spot-len.true);
      least = omega arith;
      chunk = omega (arith, c.if-spot-chunks.true);
      within = λ lt. filled_at c.args.chunks.now (c.args.spot.chunk + 1) c.requires.filled lt;
      past = λ e. omega (arith, end, count_past c.args.chunks.now (suc c.args.spot.chunk) (omega (arith, e)), ap length same, c.len.ensures, c.if-spot-len.true);
    }
