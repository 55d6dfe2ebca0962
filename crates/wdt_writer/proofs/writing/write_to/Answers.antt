use Rattle.std.proofs.Common.{ℕ, List, Ok, Err, length, sym, ap, subst}
use Rattle.wdt_depot.specs.Disk.{wrote}
use Rattle.wdt_good.specs.Calls.{run_piece}
use Rattle.wdt_logfmt.specs.Batches.{path_by}
use Rattle.wdt_writer.specs.Calls.{CanWrite, UsesDisk}
use Rattle.wdt_writer.proofs.Using.{or_first, uses_err, uses_ok, write_says}
use Rattle.wdt_writer.proofs.writing.write_to.Goals as goal

pub write_beside-requires-clause-other : goal.write_beside-requires-clause-other
write_beside-requires-clause-other g c = or_first _ _ (c.requires.files.free c.args.number _ c.file.ensures)

pub returns-in_err-write_beside-clause-disk : goal.returns-in_err-write_beside-clause-disk
returns-in_err-write_beside-clause-disk g c =
    let s0 = g.D.Depot.state c.args.depot.now in
    let s1 = g.D.Depot.state c.write_beside.new.depot in
    let path = c.file.result.0.now in
    let place = c.args.place in
    let bytes = c.args.bytes.now in
    let e = c.in_err-write_beside.ensures in
    subst (λ (p : List ℕ). UsesDisk (CanWrite p place (length bytes)) (wrote p place bytes) (run_piece p place bytes) c.from_residual.result s0 s1) (sym (ap path_by c.file.ensures))
    (uses_err (CanWrite path place (length bytes)) (wrote path place bytes) (run_piece path place bytes) s0 s1 c.from_residual.result c.in_err-write_beside.field-0.0 c.from_residual.ensures.1
    (write_says path place bytes (Err c.in_err-write_beside.field-0.0) s0 s1 e.images e.log e.step e.exact e.spots e.counts))

pub returns-clause-disk : goal.returns-clause-disk
returns-clause-disk g c =
    let s0 = g.D.Depot.state c.args.depot.now in
    let s1 = g.D.Depot.state c.write_beside.new.depot in
    let path = c.file.result.0.now in
    let place = c.args.place in
    let bytes = c.args.bytes.now in
    let e = c.in_ok-write_beside.ensures in
    subst (λ (p : List ℕ). UsesDisk (CanWrite p place (length bytes)) (wrote p place bytes) (run_piece p place bytes) (Ok tt) s0 s1) (sym (ap path_by c.file.ensures))
    (uses_ok (CanWrite path place (length bytes)) (wrote path place bytes) (run_piece path place bytes) s0 s1 tt c.in_ok-write_beside.field-0
    (write_says path place bytes (Ok c.in_ok-write_beside.field-0) s0 s1 e.images e.log e.step e.exact e.spots e.counts))
