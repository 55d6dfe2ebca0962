use Rattle.std.proofs.Common.{◌≢◌, ◌+◌, rules, arith, List, [], ◌∷◌, ◌++◌, map, sym, subst}
use Rattle.std.proofs.lemmas.List.{length-map}
use Rattle.wdt_tree.specs.declared.entry.Entry.{Entry}
use Rattle.wdt_tree.specs.declared.manifest.ManifestFail.TheVariants.{NoMemory}
use Rattle.wdt_tree.specs.Listing.{entry_of, IsFirstFault}
use Rattle.wdt_tree.proofs.lemmas.Scan.{IsScan, scan_more, first_fault, listed}
use Rattle.wdt_tree.proofs.manifest.scanned.Goals as goal

pub returns-in_err-entry-clause-fault : goal.returns-in_err-entry-clause-fault
returns-in_err-entry-clause-fault c =
    let first : c.in_err-entry.field-0.0 ≢ NoMemory → IsFirstFault (map entry_of c.args.raw.now) c.in_err-entry.field-0.0 = λ other.
    first_fault (map entry_of c.args.raw.now) c.loop-listed.listed-index c.loop-listed.at c.loop-listed.total c.loop-listed.entries.items (entry_of c.listed-item.result) c.in_err-entry.field-0.0
    (omega (arith, length-map c.args.raw.now entry_of)) (listed c.args.raw.now c.loop-listed.listed-index c.listed-item.result c.loop-listed-test.true c.listed-item.is)
    c.loop-listed.invariant (c.in_err-entry.ensures.refused other) in
    search rules

pub loop-listed-preserved : goal.loop-listed-preserved
loop-listed-preserved c =
    let step = scan_more (map entry_of c.args.raw.now) c.loop-listed.listed-index c.loop-listed.at c.loop-listed.total c.loop-listed.entries.items (entry_of c.listed-item.result)
    (listed c.args.raw.now c.loop-listed.listed-index c.listed-item.result c.loop-listed-test.true c.listed-item.is)
    c.loop-listed.invariant c.in_ok-entry.ensures.accepted in
    let own = subst (λ (x : Entry). IsScan (map entry_of c.args.raw.now) (c.loop-listed.listed-index + 1) (c.loop-listed.at + 1) (c.loop-listed.total + x.size) (c.loop-listed.entries.items ++ x ∷ []))
    (sym c.in_ok-entry.ensures.entry) step in
    subst (λ (xs : List Entry). IsScan (map entry_of c.args.raw.now) (c.loop-listed.listed-index + 1) (c.loop-listed.at + 1) (c.loop-listed.total + c.in_ok-entry.entry.size) xs)
    (sym c.in_ok-push.ensures.items) own
