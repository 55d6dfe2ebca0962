use Rattle.std.proofs.Common.{sym, ap, ◌∙◌, arith, drop, length, length-drop}
use Rattle.std.proofs.lemmas.List.{take_rest}
use Rattle.wdt_logfmt.specs.Parts.{with_rest}
use Rattle.wdt_logfmt.proofs.EntryReading.{leads-first, leads-more, leads-nowhere, leads-out, some-length}
use Rattle.wdt_logfmt.proofs.entries.read_entries.Goals as goal

pub loop-at-init : goal.loop-at-init
loop-at-init c = record { within = omega arith; leads = leads-first c.args.place c.args.files c.args.body.now }

pub returns-in_default-clause-refused : goal.returns-in_default-clause-refused
returns-in_default-clause-refused c =
    leads-nowhere c.args.place c.args.files c.args.body.now c.loop-at.at c.loop-at.files c.loop-at-test.true (sym (ap (with_rest (drop c.loop-at.at c.args.body.now)) c.in_default.is) ∙ (simp take_rest at c.in_ok-read.ensures.entry)) c.loop-at.invariant.leads

pub loop-at-preserved : goal.loop-at-preserved
loop-at-preserved c =
    let size = some-length c.in_ok-read.read c.in-Some.length (length (drop c.loop-at.at c.args.body.now)) c.in-Some.more c.in-Some.is (simp take_rest at c.in_ok-read.ensures.length) in
    record {
      within = omega (arith, size.1, length-drop c.loop-at.at c.args.body.now);
      leads = leads-more c.args.place c.args.files c.args.body.now c.loop-at.at c.in-Some.length c.loop-at.files c.in-Some.more c.loop-at-test.true size.0 size.1 (sym (ap (with_rest (drop c.loop-at.at c.args.body.now)) c.in-Some.is) ∙ (simp take_rest at c.in_ok-read.ensures.entry)) c.loop-at.invariant.leads;
    }

pub returns-clause-files : goal.returns-clause-files
returns-clause-files c = leads-out c.args.place c.args.files c.args.body.now c.loop-at.at c.loop-at.files c.loop-at-test.false c.loop-at.invariant.leads
