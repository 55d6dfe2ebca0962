use Rattle.std.proofs.Common.{drop}
use Rattle.std.proofs.lemmas.List.{take_rest}
use Rattle.std.proofs.lemmas.Result.{err_from_is_err_and}
use Rattle.wdt_logfmt.proofs.Gates.{batch-cut, batch-ok, batch-refused, batch-short}
use Rattle.wdt_logfmt.proofs.reading.read_batch.Goals as goal

pub returns-then-rest-lt4-clause-refused : goal.returns-then-rest-lt4-clause-refused
returns-then-rest-lt4-clause-refused c = batch-short c.args.at c.args.files (drop c.args.at c.args.bytes.now) (simp take_rest at c.if-rest-lt4.true)

pub returns-then-body-length-clause-refused : goal.returns-then-body-length-clause-refused
returns-then-body-length-clause-refused c =
    batch-cut c.args.at c.args.files (drop c.args.at c.args.bytes.now) c.read_u32-length.result (simp take_rest at c.read_u32-length.ensures) (simp take_rest at c.if-rest-lt4.false) (simp take_rest at c.if-body-length.true)

pub returns-in_err-files-clause-refused : goal.returns-in_err-files-clause-refused
returns-in_err-files-clause-refused c =
    let p = err_from_is_err_and c.from_residual.result c.from_residual.ensures.1 in
    rw (p.1, p.2) (batch-refused c.args.at c.args.files c.args.bytes.now c.read_u32-length.result c.in_err-files.field-0.0 (simp take_rest at c.read_u32-length.ensures) (simp take_rest at c.if-rest-lt4.false) (simp take_rest at c.if-body-length.false) (simp take_rest at c.in_err-files.ensures.refused))

pub returns-clause-batch : goal.returns-clause-batch
returns-clause-batch c =
    batch-ok c.args.at c.args.files c.in_ok-files.files c.args.bytes.now c.read_u32-length.result (simp take_rest at c.read_u32-length.ensures) (simp take_rest at c.if-rest-lt4.false) (simp take_rest at c.if-body-length.false) (simp take_rest at c.in_ok-files.ensures.files)
