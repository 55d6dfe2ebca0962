use Rattle.std.proofs.Common.{take}
use Rattle.std.proofs.lemmas.Result.{err_from_is_err_and}
use Rattle.wdt_logfmt.specs.Spelling.{spell_all}
use Rattle.wdt_logfmt.proofs.Appending.{begun-on, spelled-next, fit-next}
use Rattle.wdt_logfmt.proofs.writing.append_batch.Goals as goal

pub returns-in_err-append_entry-clause-begun : goal.returns-in_err-append_entry-clause-begun
returns-in_err-append_entry-clause-begun c =
    let p = err_from_is_err_and c.from_residual-in_err-append_entry.result c.from_residual-in_err-append_entry.ensures.1 in
    rw p.1 (begun-on c.args.into.now.items c.length_text.result c.append.new.into.items _ c.in_ok-append.ensures.spelled
    (begun-on c.append.new.into.items (spell_all (take c.loop-entry.entry-index c.args.entries.now)) c.loop-entry.into.items _ c.loop-entry.invariant.spelled c.in_err-append_entry.ensures.begun))

pub loop-entry-preserved : goal.loop-entry-preserved
loop-entry-preserved c = record {
  spelled = spelled-next _ c.args.entries.now c.loop-entry.entry-index c.entry-item.result _ _ c.loop-entry-test.true c.entry-item.is c.loop-entry.invariant.spelled c.in_ok-append_entry.ensures.spelled;
  fits = fit-next c.args.entries.now c.loop-entry.entry-index c.entry-item.result c.loop-entry-test.true c.entry-item.is c.loop-entry.invariant.fits c.in_ok-append_entry.ensures.fits;
}
