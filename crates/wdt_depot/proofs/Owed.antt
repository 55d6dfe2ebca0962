-- Places as slots, and what is owed for their writes.
use Rattle.std.proofs.Common.{◌≡◌, ℕ, zero, suc, ◌+◌, ◌<◌, ◌≤◌, Option, Bool, List, [], ◌∷◌, ◌++◌, length, map, set, get_or, true, false, sym, ◌∙◌, ap, arith, length-append, vec_len}
use Rattle.std.specs.Prelude.{◌==◌, if◌then◌else◌}
use Rattle.std.proofs.lemmas.List.{map-set, set-get_or, length-map, map-append, length-set, nil_from_length}
use Rattle.std.proofs.lemmas.Bool.Decides.{nat_tests}
use Rattle.wdt_depot.specs.declared.memory.place.Place.{Place}
use Rattle.wdt_depot.specs.Changes.{change_view}
use Rattle.wdt_depot.specs.Slots.{IsWithin, Slot, after_write, change_of, no_slot, owed_of, owed_one, slot_at}
use Rattle.wdt_depot.specs.View.{slot_view}

pub at_view : (ps : List Place) (i : ℕ) (x : Place) → i < length ps → x ≡ get_or ps i x → slot_view x ≡ slot_at i (map slot_view ps)
at_view [] i x h e = absurd (omega (arith, h))
at_view (p ∷ ps) zero x h e = ap slot_view e
at_view (p ∷ ps) (suc i) x h e = at_view ps i x (omega (arith, h)) e

pub view_set : (ps : List Place) (i : ℕ) (p : Place) (s : Slot) → slot_view p ≡ s → map slot_view (set ps i p) ≡ set (map slot_view ps) i s
view_set ps i p s e = map-set slot_view ps i p ∙ ap (λ (x : Slot). set (map slot_view ps) i x) e

-- a place that is seen as before
pub view_same : (ps : List Place) (i : ℕ) (p : Place) → slot_view p ≡ slot_at i (map slot_view ps) → map slot_view (set ps i p) ≡ map slot_view ps
view_same ps i p e = view_set ps i p (slot_at i (map slot_view ps)) e ∙ set-get_or (map slot_view ps) i no_slot

pub view_push : (ps : List Place) (p : Place) (s : Slot) → slot_view p ≡ s → map slot_view (ps ++ p ∷ []) ≡ map slot_view ps ++ s ∷ []
view_push ps p s e = map-append slot_view ps (p ∷ []) ∙ ap (λ (x : Slot). map slot_view ps ++ x ∷ []) e

pub within_view : (f : List ℕ → Option ℕ) (ps : List Place) → IsWithin f (length ps) → IsWithin f (length (map slot_view ps))
within_view f ps h path i e = omega (arith, h path i e, length-map ps slot_view)

pub below_view : (ps : List Place) (i : ℕ) → i < length ps → i < length (map slot_view ps)
below_view ps i h = omega (arith, h, length-map ps slot_view)

pub within_set : (f : List ℕ → Option ℕ) (ps : List Place) (i : ℕ) (p : Place) → IsWithin f (length ps) → IsWithin f (length (set ps i p))
within_set f ps i p h path k e = omega (arith, h path k e, length-set ps i p)

-- what is owed

owed_set : (ss : List Slot) (i : ℕ) (s : Slot) → i < length ss → owed_of (set ss i s) + owed_one (slot_at i ss).pending ≡ owed_of ss + owed_one s.pending
owed_set [] i s h = absurd (omega (arith, h))
owed_set (x ∷ ss) zero s h = omega arith
owed_set (x ∷ ss) (suc i) s h = omega (arith, owed_set ss i s (omega (arith, h)))

owed_has : (ss : List Slot) (i : ℕ) → i < length ss → owed_one (slot_at i ss).pending ≤ owed_of ss
owed_has [] i h = absurd (omega (arith, h))
owed_has (x ∷ ss) zero h = omega arith
owed_has (x ∷ ss) (suc i) h = omega (arith, owed_has ss i (omega (arith, h)))

length-pending : (x : Place) → length (slot_view x).pending ≡ vec_len x.pending
length-pending x = length-map x.pending.items change_view ∙ sym x.pending.ok.0

-- what is owed with another place in one's stead
pub owed_at : (ps : List Place) (i : ℕ) (x new : Place) (s : Slot) → i < length ps → x ≡ get_or ps i x → slot_view new ≡ s → owed_of (map slot_view (set ps i new)) + owed_one (slot_view x).pending ≡ owed_of (map slot_view ps) + owed_one s.pending
owed_at ps i x new s below at is =
    let sums = owed_set (map slot_view ps) i s (below_view ps i below) in
    let there : owed_one (slot_at i (map slot_view ps)).pending ≡ owed_one (slot_view x).pending = ap (λ (t : Slot). owed_one t.pending) (sym (at_view ps i x below at)) in
    let after : owed_of (map slot_view (set ps i new)) ≡ owed_of (set (map slot_view ps) i s) = ap owed_of (view_set ps i new s is) in
    omega (arith, sums, there, after)

pub owed_one-some : (x : Place) → (vec_len x.pending == 0) ≡ false → owed_one (slot_view x).pending ≡ 1
owed_one-some x some = let some_is : 0 < vec_len x.pending = grind (arith, nat_tests) in omega (arith, length-pending x, some_is)

pub owed_one-none : (x : Place) → (vec_len x.pending == 0) ≡ true → owed_one (slot_view x).pending ≡ 0
owed_one-none x none = let none_is : vec_len x.pending ≡ 0 = grind (arith, nat_tests) in omega (arith, length-pending x, none_is)

pub owed_one-wrote : (o : ℕ) (b : List ℕ) (s : Slot) → owed_one (after_write o b s).pending ≡ 1
owed_one-wrote o b s = omega (arith, length-append s.pending (change_of o b s.bytes ∷ []))

-- the place has writes that aren't synced, and so one is owed
pub owes_one : (ps : List Place) (i owed : ℕ) (x : Place) → i < length ps → x ≡ get_or ps i x → (vec_len x.pending == 0) ≡ false → owed ≡ owed_of (map slot_view ps) → 1 ≤ owed
owes_one ps i owed x below at some is =
    let same : owed_one (slot_view x).pending ≡ owed_one (slot_at i (map slot_view ps)).pending = ap (λ (s : Slot). owed_one s.pending) (at_view ps i x below at) in
    omega (arith, same, owed_one-some x some, owed_has (map slot_view ps) i (below_view ps i below), is)

pub owed_push : (ss : List Slot) (s : Slot) → owed_one s.pending ≡ 0 → owed_of (ss ++ s ∷ []) ≡ owed_of ss
owed_push [] s e = omega (arith, e)
owed_push (x ∷ ss) s e = omega (arith, owed_push ss s e)

-- the place has no pending writes
pub nothing_pending : (ps : List Place) (i : ℕ) (x : Place) → i < length ps → x ≡ get_or ps i x → (vec_len x.pending == 0) ≡ true → (slot_at i (map slot_view ps)).pending ≡ []
nothing_pending ps i x below at none =
    let none_is : vec_len x.pending ≡ 0 = grind (arith, nat_tests) in
    ap (λ (s : Slot). s.pending) (sym (at_view ps i x below at)) ∙ nil_from_length (slot_view x).pending (omega (arith, length-pending x, none_is))

-- a place with a write more, by whether it had one
pub owed_more : (x : Place) (b : Bool) → b ≡ (vec_len x.pending == 0) → owed_one (slot_view x).pending + (if b then 1 else 0) ≡ 1
owed_more x true e = omega (arith, owed_one-none x (sym e))
owed_more x false e = omega (arith, owed_one-some x (sym e))

pub at_most_one : (b : Bool) (n : ℕ) → n ≡ (if b then 1 else 0) → n ≤ 1
at_most_one true n e = omega (arith, e)
at_most_one false n e = omega (arith, e)
