use Rattle.std.proofs.Common.{◌≡◌, [], ◌∷◌, ◌++◌, length, map, ap, arith}
use Rattle.std.proofs.lemmas.Result.{err_from_is_err_and}
use Rattle.std.proofs.lemmas.List.{map_push, take_rest, length-append}
use Rattle.wdt_ranges.specs.Files.{have_file}
use Rattle.wdt_codec.proofs.Field.{AreBytes-from_index}
use Rattle.wdt_codec.proofs.PartialFiles.{part-more, part-fails, part-ends}
use Rattle.wdt_codec.proofs.chunks.go_on.Goals as goal

pub returns-in_err-file-clause-fails : goal.returns-in_err-file-clause-fails
returns-in_err-file-clause-fails c =
    let p = err_from_is_err_and c.from_residual.result c.from_residual.ensures.1 in
    let q = c.loop-partial.partial in
    let i = c.loop-partial.invariant in
    let h = rw take_rest at c.in_err-file.ensures.reads in
    rw (p.1, p.2) (part-fails q.taken q.used q.left c.args.bytes.now (map have_file q.files.items) (AreBytes-from_index c.args.bytes.now (λ i. omega (arith, c.type_inv.bytes i))) i.used i.goes c.in_err-file.field-0.0 c.loop-partial-test.true h)

pub overflow_sub-partial-in-loop-partial-2 : goal.overflow_sub-partial-in-loop-partial-2
overflow_sub-partial-in-loop-partial-2 c =
    let q = c.loop-partial.partial in
    let i = c.loop-partial.invariant in
    let h = rw take_rest at c.in_ok-file.ensures.reads in
    (part-more q.taken q.used q.left c.args.bytes.now (map have_file q.files.items) (AreBytes-from_index c.args.bytes.now (λ i. omega (arith, c.type_inv.bytes i))) i.used i.goes (have_file c.in_ok-file.file) c.in_ok-file.after.now c.loop-partial-test.true h).0

pub loop-partial-preserved : goal.loop-partial-preserved
loop-partial-preserved c =
    let q = c.loop-partial.partial in
    let i = c.loop-partial.invariant in
    let h = rw take_rest at c.in_ok-file.ensures.reads in
    let r = part-more q.taken q.used q.left c.args.bytes.now (map have_file q.files.items) (AreBytes-from_index c.args.bytes.now (λ i. omega (arith, c.type_inv.bytes i))) i.used i.goes (have_file c.in_ok-file.file) c.in_ok-file.after.now c.loop-partial-test.true h in
    let e : map have_file c.push.new.self.items ≡ map have_file q.files.items ++ have_file c.in_ok-file.file ∷ [] = rw c.in_ok-push.ensures.items (map_push _ q.files.items c.in_ok-file.file) in
    record {
      within = omega (arith, r.0);
      used = omega (arith, r.1, c.span_count-count.ensures);
      few = omega (arith, i.few, ap length c.in_ok-push.ensures.items, length-append q.files.items (c.in_ok-file.file ∷ []));
      goes = λ u. rw (e, c.span_count-count.ensures) (r.2 u);
    }

pub returns-clause-whole : goal.returns-clause-whole
returns-clause-whole c =
    let q = c.loop-partial.partial in
    let i = c.loop-partial.invariant in
    part-ends q.taken q.used q.left c.args.bytes.now (map have_file q.files.items) (AreBytes-from_index c.args.bytes.now (λ i. omega (arith, c.type_inv.bytes i))) i.used i.goes (omega arith)
