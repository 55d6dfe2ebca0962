use Rattle.std.proofs.Common.{sym}
use Rattle.wdt_discover.proofs.lemmas.Finding.{within, found_here, found_nowhere}
use Rattle.wdt_discover.proofs.stale.found_in.Goals as goal

pub entry-entry-requires : goal.entry-entry-requires
entry-entry-requires c = within c.args.manifest.now c.args.path.now c.in-Some.at c.in-Some.ensures.place

pub returns-in-Some : goal.returns-in-Some
returns-in-Some c = sym (found_here c.args.manifest.now c.args.path.now c.in-Some.at c.entry-entry.result.now c.count.ensures.lawful.rising c.in-Some.ensures.place c.entry-entry.ensures.entry)

pub returns-in-None : goal.returns-in-None
returns-in-None c = sym (found_nowhere c.args.manifest.now c.args.path.now (sym c.in-None.ensures.found))
