use Rattle.std.proofs.Common.{ap, ◌∙◌, arith, subst, List}
use Rattle.wdt_logfmt.specs.declared.view.LogFile.{LogFile}
use Rattle.wdt_logfmt.specs.View.{named_files}
use Rattle.wdt_log.specs.Places.{IsPlace}
use Rattle.wdt_log.proofs.Adding.{place_within, put_at}
use Rattle.wdt_log.proofs.extending.put.Goals as goal

pub insert-requires : goal.insert-requires
insert-requires c = let le = place_within c.args.file.number c.deref.result.now c.place-at.result c.place-at.ensures.place in omega (arith, le, c.deref.ensures.len)

pub returns-clause-files : goal.returns-clause-files
returns-clause-files c =
    let place = subst (λ (fs : List LogFile). IsPlace c.args.file.number (named_files fs) c.place-at.result) c.deref.ensures.value c.place-at.ensures.place in
    ap named_files c.in_ok-insert.ensures.items ∙ put_at c.args.file c.args.files.now.items c.place-at.result place c.requires.new
