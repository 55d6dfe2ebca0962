use Rattle.std.proofs.Common.{◌≡◌, ◌∙◌, sym, subst, map, Some, None, Option, List, ℕ, ap}
use Rattle.std.specs.Prelude.{IsSome, option_map}
use Rattle.wdt_depot.specs.MemState.{stands}
use Rattle.wdt_depot.specs.Spots.{entered_view}
use Rattle.wdt_depot.specs.State.{path_or}
use Rattle.wdt_depot.specs.View.{index_of}
use Rattle.wdt_depot.proofs.memory.MemDepot.place_at.Goals as goal

no_place : (f : List ℕ → Option ℕ) (o : Option (List ℕ)) (path : List ℕ) → o ≡ Some path → f path ≡ None → IsSome (f (path_or o)) → f (path_or o) ≡ Some 0
no_place f o path is none some =
    let here : f (path_or o) ≡ None = ap (λ (x : Option (List ℕ)). f (path_or x)) is ∙ none in
    absurd (let bad : IsSome (f (path_or o)) = some in let worse = subst IsSome here bad in (cc))

pub returns-in-None-place_of : goal.returns-in-None-place_of
returns-in-None-place_of c =
    let some = stands (index_of c.args.self.now.store.index) (map entered_view c.args.self.now.spots.items) c.args.spot.0 c.args.self.now.placed c.requires in
    no_place (index_of c.args.self.now.store.index) _ c.in-Some.path.now (sym c.path_at.ensures ∙ ap (option_map (λ name. name.now)) c.in-Some.is) (sym c.place_of.ensures ∙ c.in-None-place_of.is) some
