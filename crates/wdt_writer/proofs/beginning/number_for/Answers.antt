use Rattle.std.proofs.Common.{◌≡◌, ℕ, true, not, Option, Ok, Err, sym, ap, ◌∙◌}
use Rattle.std.specs.Prelude.{is_some}
use Rattle.wdt_logfmt.specs.Beginning.{is_new}
use Rattle.wdt_logfmt.specs.View.{names}
use Rattle.wdt_writer.specs.Calls.{CanMake}
use Rattle.wdt_writer.specs.PlainWriter.{begun_on, run_begin}
use Rattle.wdt_writer.proofs.Using.{make_says, uses_err, uses_ok, uses_then}
use Rattle.wdt_writer.proofs.beginning.number_for.Goals as goal

pub returns-in_err-make_beside-clause-disk : goal.returns-in_err-make_beside-clause-disk
returns-in_err-make_beside-clause-disk g c =
    let s0 = g.D.Depot.state c.args.depot.now in
    let s1 = g.D.Depot.state c.make_beside.new.depot in
    let known = c.args.files.now.known in
    let h = c.args.header.now in
    let new : is_new known h ≡ true = ap (λ (o : Option ℕ). not (is_some o)) (sym c.number.ensures ∙ c.in_default.is) in
    let e = c.in_err-make_beside.ensures in
    uses_err (CanMake known h) (begun_on known h) (run_begin known h) s0 s1 c.from_residual-in_err-make_beside.result c.in_err-make_beside.field-0.0 c.from_residual-in_err-make_beside.ensures.1
    (make_says (is_new known h) (λ fs. names fs h.path) h.path (Err c.in_err-make_beside.field-0.0) s0 s1 new e.images e.log e.step e.exact e.spots e.counts)

pub returns-in_err-put-clause-disk : goal.returns-in_err-put-clause-disk
returns-in_err-put-clause-disk g c =
    let s0 = g.D.Depot.state c.args.depot.now in
    let s1 = g.D.Depot.state c.make_beside.new.depot in
    let known = c.args.files.now.known in
    let h = c.args.header.now in
    let new : is_new known h ≡ true = ap (λ (o : Option ℕ). not (is_some o)) (sym c.number.ensures ∙ c.in_default.is) in
    let e = c.in_ok-make_beside.ensures in
    uses_then (CanMake known h) (begun_on known h) (run_begin known h) s0 s1 c.from_residual-in_err-put.result c.in_ok-make_beside.field-0 c.from_residual-in_err-put.ensures.1
    (make_says (is_new known h) (λ fs. names fs h.path) h.path (Ok c.in_ok-make_beside.field-0) s0 s1 new e.images e.log e.step e.exact e.spots e.counts)

pub returns-clause-disk : goal.returns-clause-disk
returns-clause-disk g c =
    let s0 = g.D.Depot.state c.args.depot.now in
    let s1 = g.D.Depot.state c.make_beside.new.depot in
    let known = c.args.files.now.known in
    let h = c.args.header.now in
    let new : is_new known h ≡ true = ap (λ (o : Option ℕ). not (is_some o)) (sym c.number.ensures ∙ c.in_default.is) in
    let e = c.in_ok-make_beside.ensures in
    uses_ok (CanMake known h) (begun_on known h) (run_begin known h) s0 s1 c.in_ok-put.field-0 c.in_ok-make_beside.field-0
    (make_says (is_new known h) (λ fs. names fs h.path) h.path (Ok c.in_ok-make_beside.field-0) s0 s1 new e.images e.log e.step e.exact e.spots e.counts)
