use Rattle.std.proofs.Common.{List, Ok, arith, not, sym, ap, ◌∙◌, take, bytes_eq, subst}
use Rattle.std.proofs.lemmas.Bool.{not-true, not-false}
use Rattle.std.proofs.lemmas.Result.{err_from_is_err_and}
use Rattle.wdt_logfmt.specs.View.{NamedFile}
use Rattle.wdt_logfmt.specs.Spelling.{header}
use Rattle.wdt_logfmt.proofs.Gates.{Comes, comes-end, comes-first, comes-next, refused-log, short, unknown}
use Rattle.wdt_logfmt.proofs.reading.read_log.Goals as goal

pub returns-then-bytes-le6-clause-refused : goal.returns-then-bytes-le6-clause-refused
returns-then-bytes-le6-clause-refused c = short c.args.bytes.now c.if-bytes-le6.true

pub returns-then-ne-clause-refused : goal.returns-then-ne-clause-refused
returns-then-ne-clause-refused c = unknown c.args.bytes.now (not-true (bytes_eq (take 6 c.args.bytes.now) (header 1)) (ap (λ l. not (bytes_eq (take 6 c.args.bytes.now) l)) (sym c.as_slice.ensures) ∙ sym c.ne.ensures ∙ c.if-ne.true))

pub loop-gate-init : goal.loop-gate-init
loop-gate-init c =
    let first = comes-first c.args.bytes.now c.if-bytes-le6.false (not-false (bytes_eq (take 6 c.args.bytes.now) (header 1)) (ap (λ l. not (bytes_eq (take 6 c.args.bytes.now) l)) (sym c.as_slice.ensures) ∙ sym c.ne.ensures ∙ c.if-ne.false)) in
    subst (Comes c.args.bytes.now 6) (sym c.none-files.ensures) first

pub returns-in_err-next-clause-refused : goal.returns-in_err-next-clause-refused
returns-in_err-next-clause-refused c =
    let p = err_from_is_err_and c.from_residual.result c.from_residual.ensures.1 in
    rw (p.1, p.2) (refused-log c.args.bytes.now c.loop-gate.gate c.loop-gate.files c.in_err-next.field-0.0 c.loop-gate-test.true c.in_err-next.ensures.refused c.loop-gate.invariant)

pub loop-gate-preserved : goal.loop-gate-preserved
loop-gate-preserved c =
    comes-next c.args.bytes.now c.loop-gate.gate c.in_ok-next.next c.loop-gate.files c.in_ok-next.more c.loop-gate-test.true (omega (arith, c.in_ok-next.ensures.place.0)) c.in_ok-next.ensures.place.1 c.in_ok-next.ensures.batch c.loop-gate.invariant

pub returns-clause-meaning : goal.returns-clause-meaning
returns-clause-meaning c =
    comes-end c.args.bytes.now c.loop-gate.gate c.loop-gate.files c.loop-gate-test.false c.loop-gate.invariant
    ∙ ap (λ (fs : List NamedFile). Ok (record { files = fs; end = c.loop-gate.gate })) (sym c.in_ok-files.ensures.files)
