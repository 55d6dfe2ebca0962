use Rattle.std.proofs.Common.{rules, tests, ◌≡◌, true, false}
use Rattle.std.proofs.lemmas.Iterator.{IsFirst-from_position, YieldsList-from_slice}
use Rattle.wdt_tree.specs.declared.entry.Plain.{Plain}
use Rattle.wdt_tree.specs.Shown.{shown}
use Rattle.wdt_source.specs.Place.{has_path}
use Rattle.wdt_source.proofs.Places.{place_from}
use Rattle.wdt_source.proofs.memory.first_of.Goals as goal

pub returns : goal.returns
returns c =
    let files = c.args.files.now.items in
    place_from files c.args.path.now c.position.result
    (IsFirst-from_position _ _ c.position.result (λ (x : Plain). true ≡ has_path c.args.path.now (shown x)) (λ (x : Plain). false ≡ has_path c.args.path.now (shown x))
    c.position.ensures.ran (YieldsList-from_slice files cc) (λ x q k. search (rules, tests)) (λ x q k. search (rules, tests)))
