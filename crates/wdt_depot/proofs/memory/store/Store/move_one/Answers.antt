use Rattle.std.proofs.Common.{◌≡◌, ◌∙◌, inl, refl, sym, true}
use Rattle.std.specs.Str.{bytes_eq}
use Rattle.std.proofs.lemmas.Slice.Eq.{bytes_eq-Decides}
use Rattle.wdt_depot.specs.Memory.{told_in}
use Rattle.wdt_depot.proofs.Slips.{placed_same}
use Rattle.wdt_depot.proofs.memory.store.Store.move_one.Goals as goal

pub returns-then-eq-clause-step : goal.returns-then-eq-clause-step
returns-then-eq-clause-step c =
    let test : bytes_eq c.bytes.result.now c.bytes-2.result.now ≡ true = sym c.eq.ensures ∙ c.if-eq.true in
    let same : c.args.from.now ≡ c.args.to.now = sym c.bytes.ensures.value ∙ ((bytes_eq-Decides c.bytes.result.now c.bytes-2.result.now).0 test ∙ c.bytes-2.ensures.value) in
    (sym (placed_same c.args.from.now c.args.to.now (told_in c.args.self.now).now same), inl refl)
