use Rattle.std.proofs.Common.{take, map, arith}
use Rattle.std.specs.List.{flat_map}
use Rattle.std.proofs.lemmas.List.{length-map}
use Rattle.std.proofs.lemmas.Result.{err_from_is_err_and}
use Rattle.wdt_codec.specs.Chunks.{spell_file}
use Rattle.wdt_ranges.specs.Files.{have_file}
use Rattle.wdt_codec.proofs.Appending.{begun-on, each-goes, seen-at, small-at}
use Rattle.wdt_codec.proofs.writing_chunks.append_files.Goals as goal

pub append_file-requires-clause-path : goal.append_file-requires-clause-path
append_file-requires-clause-path c =
    let f = c.file-item.result in
    (small-at 0 (map have_file c.args.files.now) c.loop-file.file-index (have_file f) c.requires.files (omega (arith, c.loop-file-test.true, length-map c.args.files.now have_file)) (seen-at have_file c.args.files.now c.loop-file.file-index f c.loop-file-test.true c.file-item.is)).0

pub append_file-requires-clause-spans : goal.append_file-requires-clause-spans
append_file-requires-clause-spans c =
    let f = c.file-item.result in
    (small-at 0 (map have_file c.args.files.now) c.loop-file.file-index (have_file f) c.requires.files (omega (arith, c.loop-file-test.true, length-map c.args.files.now have_file)) (seen-at have_file c.args.files.now c.loop-file.file-index f c.loop-file-test.true c.file-item.is)).1

pub returns-in_err-append_file-clause-begun : goal.returns-in_err-append_file-clause-begun
returns-in_err-append_file-clause-begun c =
    let p = err_from_is_err_and c.from_residual-in_err-append_file.result c.from_residual-in_err-append_file.ensures.1 in
    rw p.1 (begun-on c.args.into.now.items c.count_text.result c.append.new.into.items _ c.in_ok-append.ensures.spelled
    (begun-on c.append.new.into.items (flat_map spell_file (take c.loop-file.file-index (map have_file c.args.files.now))) c.loop-file.into.items _ c.loop-file.invariant c.in_err-append_file.ensures.begun))

pub loop-file-preserved : goal.loop-file-preserved
loop-file-preserved c =
    let f = c.file-item.result in
    each-goes spell_file c.append.new.into.items (map have_file c.args.files.now) c.loop-file.file-index (have_file f) _ _ (omega (arith, c.loop-file-test.true, length-map c.args.files.now have_file))
    (seen-at have_file c.args.files.now c.loop-file.file-index f c.loop-file-test.true c.file-item.is) c.loop-file.invariant c.in_ok-append_file.ensures.spelled
