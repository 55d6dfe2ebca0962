use Rattle.std.proofs.Common.{◌∙◌, sym, ap, List, ℕ, Option, Some}
use Rattle.std.specs.Prelude.{option_map}
use Rattle.wdt_depot.specs.Disk.{DiskFile}
use Rattle.wdt_depot.specs.Slots.{Slot, file_of}
use Rattle.wdt_depot.proofs.Owed.{at_view}
use Rattle.wdt_depot.proofs.Slips.{file_none, file_some}
use Rattle.wdt_depot.proofs.memory.MemDepot.shown.Goals as goal

pub returns-in-None : goal.returns-in-None
returns-in-None c = sym (ap (λ (o : Option DiskFile). option_map (λ f. f.seen) o) (file_none c.args.self.now.store c.args.path.now (sym c.place_of.ensures ∙ c.in-None.is)))

pub returns-in-Some : goal.returns-in-Some
returns-in-Some c =
    let there = sym c.place_of.ensures ∙ c.in-Some.is in
    let file = file_some c.args.self.now.store c.args.path.now c.in-Some.place there ∙ ap (λ (y : Slot). Some (file_of y)) (sym (at_view c.args.self.now.store.places.items c.in-Some.place c.index.result.now (c.args.self.now.store.within c.args.path.now c.in-Some.place there) c.index.ensures)) in
    ap (λ (b : List ℕ). Some b) c.deref.ensures.value ∙ sym (ap (λ (o : Option DiskFile). option_map (λ f. f.seen) o) file)
