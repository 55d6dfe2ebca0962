use Rattle.std.proofs.Common.{◌≡◌, ◌∙◌, ℕ, ◌+◌, ◌-◌, ◌<◌, List, ◌∷◌, suc, arith, ap, sym, length, map, drop, drop-cons, get_or}
use Rattle.wdt_depot.specs.declared.memory.place.Overwrite.{Overwrite}
use Rattle.wdt_depot.specs.Changes.{change_view}
use Rattle.wdt_depot.specs.Slots.{before_all, undo_change}
use Rattle.wdt_depot.proofs.memory.picking.take_all_back.Goals as goal

one_more : (os : List Overwrite) (n m k : ℕ) (o : Overwrite) → n < length os → k ≡ n → m ≡ suc n → o ≡ get_or os k o → drop n os ≡ o ∷ drop m os
one_more os n m k o below same next is =
    drop-cons os n o below ∙ (ap (λ (i : ℕ). get_or os i o ∷ drop (suc n) os) (sym same) ∙ (ap (λ (x : Overwrite). x ∷ drop (suc n) os) (sym is) ∙ ap (λ (i : ℕ). o ∷ drop i os) (sym next)))

pub loop-done-preserved : goal.loop-done-preserved
loop-done-preserved c =
    let os : List Overwrite = c.args.pending.now in
    let o : Overwrite = c.index-pending-pending.result in
    let there : drop (length os - (c.loop-done.done + 1)) os ≡ o ∷ drop (length os - c.loop-done.done) os = one_more os _ _ (length os - 1 - c.loop-done.done) o (omega arith) (omega arith) (omega arith) c.index-pending-pending.is in
    c.take_back.ensures ∙ (ap (λ (b : List ℕ). undo_change (change_view o) b) c.loop-done.invariant ∙ sym (ap (λ (l : List Overwrite). before_all (map change_view l) c.args.bytes.now.items) there))
