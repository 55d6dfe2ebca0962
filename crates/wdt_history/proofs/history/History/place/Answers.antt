use Rattle.std.proofs.Common.{◌≡◌, ◌+◌, ◌∷◌, List, Option, drop, map, sym, ap, ◌∙◌, subst}
use Rattle.std.specs.Option.{unwrap_or}
use Rattle.std.proofs.lemmas.List.{drop_all, drop_more}
use Rattle.wdt_claims.specs.Claimed.{AreLanes}
use Rattle.wdt_history.specs.Slots.{Book, Slot, claims_in}
use Rattle.wdt_claims.specs.declared.place.Place.{Place}
use Rattle.wdt_history.proofs.Standing.{first_place, place_from}
use Rattle.wdt_history.proofs.history.History.place.Goals as goal

pub returns-in-Some : goal.returns-in-Some
returns-in-Some c =
    let b = c.args.block in
    let slots = c.deref-lane-items.result.now in
    let at = c.loop-lane.lane-index in
    let rest = map claims_in (drop (at + 1) slots) in
    let lanes : map claims_in c.self.inside.lanes.items ≡ c.args.self.now.lanes = ap (λ (book : Book). book.lanes) c.self.view_is in
    let whole : map claims_in slots ≡ c.args.self.now.lanes = ap (map claims_in) c.deref-lane-items.ensures.value ∙ lanes in
    ap (λ (o : Option Place). unwrap_or o (first_place b rest)) c.in-Some.ensures
    ∙ ap (λ (s : Slot). first_place b (s.claims ∷ rest)) c.lane-item.is
    ∙ sym (c.loop-lane.invariant ∙ ap (λ (xs : List Slot). first_place b (map claims_in xs)) (drop_more slots at c.lane-item.result c.loop-lane-test.true))
    ∙ ap (first_place b) whole
    ∙ place_from b c.args.self.now.lanes (subst AreLanes lanes c.self.invariant.lanes)

pub returns : goal.returns
returns c =
    let slots = c.deref-lane-items.result.now in
    let lanes : map claims_in c.self.inside.lanes.items ≡ c.args.self.now.lanes = ap (λ (book : Book). book.lanes) c.self.view_is in
    let whole : map claims_in slots ≡ c.args.self.now.lanes = ap (map claims_in) c.deref-lane-items.ensures.value ∙ lanes in
    sym (c.loop-lane.invariant ∙ ap (λ (xs : List Slot). first_place c.args.block (map claims_in xs)) (drop_all c.loop-lane.lane-index slots c.loop-lane-test.false))
    ∙ ap (first_place c.args.block) whole
    ∙ place_from c.args.block c.args.self.now.lanes (subst AreLanes lanes c.self.invariant.lanes)
