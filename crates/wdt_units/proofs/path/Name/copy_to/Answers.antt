use Rattle.std.proofs.Common.{ℕ, List, length, ap, arith}
use Rattle.wdt_units.proofs.lemmas.Lawful.{lawful, IsPath}
use Rattle.wdt_units.proofs.path.Name.copy_to.Goals as goal

pub unwrap-requires : goal.unwrap-requires
unwrap-requires c =
    let path : IsPath c.self.inside.text.bytes.items = (lawful c.self.inside.text.bytes.items).0 c.self.invariant in
    c.push_str.ensures.succeeds (omega (arith, path.most, c.requires.fits, c.args.room.bytes.ok.0, ap (λ (xs : List ℕ). length xs) c.requires.empty, ap (λ (xs : List ℕ). length xs) c.as_str.ensures.value))
