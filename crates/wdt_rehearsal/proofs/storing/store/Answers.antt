use Rattle.std.proofs.Common.{◌≡◌, ◌∙◌, ◌++◌, [], ◌∷◌, Ok, map, ap}
use Rattle.std.specs.Prelude.{IsErrOf}
use Rattle.std.proofs.lemmas.List.{map-append}
use Rattle.wdt_depot.specs.declared.failure.DepotFail.TheVariants.{Failed}
use Rattle.wdt_tree.specs.Shown.{shown}
use Rattle.wdt_rehearsal.proofs.Others.{others-more, others-start}
use Rattle.wdt_rehearsal.proofs.Stored.{fine-none, fine-more, none-landed, more-landed, slips-landed}
use Rattle.wdt_rehearsal.proofs.storing.store.Goals as goal

pub loop-file-init : goal.loop-file-init
loop-file-init g c = record {
  landed = none-landed (map shown c.args.files.items) (g.D.Depot.state c.args.depot.now).told;
  others = others-start (map shown c.args.files.items) (g.D.Depot.state c.args.depot.now).told;
  spots = c.requires;
  fine = fine-none (g.D.Depot.state c.args.depot.now);
}

pub loop-file-preserved : goal.loop-file-preserved
loop-file-preserved g c =
    let s0 = g.D.Depot.state c.args.depot.now in
    let s1 = g.D.Depot.state c.loop-file.depot in
    let s2 = g.D.Depot.state c.store_file.new.depot in
    let inv = c.loop-file.invariant in
    let file = shown c.in-Some.file in
    let split : map shown c.loop-file.files.items ≡ map shown c.pop.new.self.items ++ file ∷ [] = ap (map shown) c.in-Some.ensures.items ∙ map-append shown c.pop.new.self.items (c.in-Some.file ∷ []) in
    record {
      landed = more-landed (map shown c.args.files.items) (map shown c.loop-file.files.items) (map shown c.pop.new.self.items) file s0.told s1.told s2.told inv.landed split c.in_ok-store_file.ensures.landed;
      others = others-more (map shown c.args.files.items) (map shown c.loop-file.files.items) (map shown c.pop.new.self.items) inv.landed.landed file s0.told s1.told s2.told inv.others inv.landed.whole split c.store_file.ensures.beside;
      spots = c.store_file.ensures.spots;
      fine = fine-more (IsErrOf (Ok c.in_ok-store_file.field-0) Failed) s0 s1 s2 inv.fine c.in_ok-store_file.ensures.counts (λ same. cc) (slips-landed inv.landed.landed s0 s1 s2 inv.landed.lands inv.fine c.store_file.ensures.slips);
    }

pub returns-in_err-store_file-clause-others : goal.returns-in_err-store_file-clause-others
returns-in_err-store_file-clause-others g c =
    let s0 = g.D.Depot.state c.args.depot.now in
    let s1 = g.D.Depot.state c.loop-file.depot in
    let s2 = g.D.Depot.state c.store_file.new.depot in
    let inv = c.loop-file.invariant in
    let split : map shown c.loop-file.files.items ≡ map shown c.pop.new.self.items ++ shown c.in-Some.file ∷ [] = ap (map shown) c.in-Some.ensures.items ∙ map-append shown c.pop.new.self.items (c.in-Some.file ∷ []) in
    others-more (map shown c.args.files.items) (map shown c.loop-file.files.items) (map shown c.pop.new.self.items) inv.landed.landed (shown c.in-Some.file) s0.told s1.told s2.told inv.others inv.landed.whole split c.store_file.ensures.beside
