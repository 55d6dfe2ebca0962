use Rattle.std.proofs.Common.{◌≡◌, ◌∙◌, ◌++◌, ◌∷◌, ap, sym, subst, List, ℕ, Option, Some, None, [], length}
use Rattle.wdt_depot.specs.declared.memory.taken.Taken.{Taken}
use Rattle.wdt_depot.specs.declared.memory.taken.Taken.TheVariants.{Placed}
use Rattle.wdt_depot.specs.Memory.{KeepsPathsBut}
use Rattle.wdt_depot.specs.Slots.{IsOnce, IsWithin, with_slot}
use Rattle.wdt_depot.specs.View.{index_of}
use Rattle.wdt_depot.proofs.Paths.{keeps_moved, once_moved, within_moved}
use Rattle.wdt_depot.proofs.Stores.{tells_placed}
use Rattle.wdt_depot.proofs.memory.store.Store.place_one.Goals as goal

pub invariant_of-self-in-Ok-clause-within : goal.invariant_of-self-in-Ok-clause-within
invariant_of-self-in-Ok-clause-within c =
    let f : List ℕ → Option ℕ = index_of c.args.self.now.index in
    let moved : index_of c.unpoint.new.index ≡ with_slot c.args.from.now None (with_slot c.args.to.now (Some c.args.at) f) = c.unpoint.ensures ∙ ap (λ (g : List ℕ → Option ℕ). with_slot c.args.from.now None g) c.in-Ok.ensures.after in
    subst (λ (g : List ℕ → Option ℕ). IsWithin g (length c.args.self.now.places.items)) (sym moved) (within_moved f _ c.args.at c.args.from.now c.args.to.now c.requires.there c.args.self.now.within)

pub invariant_of-self-in-Ok-clause-once : goal.invariant_of-self-in-Ok-clause-once
invariant_of-self-in-Ok-clause-once c =
    let f : List ℕ → Option ℕ = index_of c.args.self.now.index in
    let moved : index_of c.unpoint.new.index ≡ with_slot c.args.from.now None (with_slot c.args.to.now (Some c.args.at) f) = c.unpoint.ensures ∙ ap (λ (g : List ℕ → Option ℕ). with_slot c.args.from.now None g) c.in-Ok.ensures.after in
    subst IsOnce (sym moved) (once_moved f c.args.at c.args.from.now c.args.to.now c.requires.there c.args.self.now.once)

pub returns-in-Ok-clause-told : goal.returns-in-Ok-clause-told
returns-in-Ok-clause-told c =
    let f : List ℕ → Option ℕ = index_of c.args.self.now.index in
    let moved : index_of c.unpoint.new.index ≡ with_slot c.args.from.now None (with_slot c.args.to.now (Some c.args.at) f) = c.unpoint.ensures ∙ ap (λ (g : List ℕ → Option ℕ). with_slot c.args.from.now None g) c.in-Ok.ensures.after in
    let ts : List Taken = c.args.self.now.taken.items in
    let taken : c.push_reserved.new.self.items ≡ ts ++ Placed c.args.from.now c.args.to.now c.args.at c.in-Ok.before ∷ [] = c.push_reserved.ensures.items ∙ (ap (λ (l : List Taken). l ++ Placed c.in_ok-source.source c.in_ok-target.target c.args.at c.in-Ok.before ∷ []) c.reserve.ensures.items ∙ (λ j. ts ++ Placed (c.in_ok-source.ensures j) (c.in_ok-target.ensures j) c.args.at c.in-Ok.before ∷ [])) in
    tells_placed ts _ f (index_of c.unpoint.new.index) c.args.self.now.places.items c.args.from.now c.args.to.now c.args.at c.in-Ok.before taken c.in-Ok.ensures.before moved c.requires.there c.requires.differ

pub returns-in-Ok-clause-paths : goal.returns-in-Ok-clause-paths
returns-in-Ok-clause-paths c =
    let f : List ℕ → Option ℕ = index_of c.args.self.now.index in
    let moved : index_of c.unpoint.new.index ≡ with_slot c.args.from.now None (with_slot c.args.to.now (Some c.args.at) f) = c.unpoint.ensures ∙ ap (λ (g : List ℕ → Option ℕ). with_slot c.args.from.now None g) c.in-Ok.ensures.after in
    subst (λ (g : List ℕ → Option ℕ). KeepsPathsBut c.args.from.now f g) (sym moved) (keeps_moved f c.args.at c.args.from.now c.args.to.now)
