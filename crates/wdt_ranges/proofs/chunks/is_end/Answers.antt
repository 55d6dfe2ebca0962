use Rattle.std.proofs.Common.{suc, length, ap, ◌∙◌, arith}
use Rattle.wdt_ranges.specs.Chunks.{chunk_at}
use Rattle.wdt_ranges.proofs.Chunked.{read_chunk, count_suc, count_past}
use Rattle.wdt_ranges.proofs.chunks.is_end.Goals as goal

pub returns-then-spot-length-clause-end : goal.returns-then-spot-length-clause-end
returns-then-spot-length-clause-end c = λ full.
    let same = read_chunk c.args.chunks.now c.args.spot.chunk c.index-chunks-spot.result (omega arith) c.index-chunks-spot.is in
    omega (arith, count_suc c.args.chunks.now c.args.spot.chunk (omega arith), count_past c.args.chunks.now (suc c.args.spot.chunk) (omega arith), ap length same, c.len-length.ensures)
