-- What a store tells after each call on its places.
use Rattle.std.proofs.Common.{◌≡◌, ℕ, ◌<◌, ◌++◌, List, [], ◌∷◌, Option, Some, None, false, length, map, set, get_or, take, sym, ◌∙◌, ap, refl}
use Rattle.std.specs.Str.{bytes_eq}
use Rattle.std.proofs.lemmas.List.{map-append}
use Rattle.wdt_depot.specs.declared.memory.place.Place.{Place}
use Rattle.wdt_depot.specs.declared.memory.taken.Taken.{Taken}
use Rattle.wdt_depot.specs.declared.memory.taken.Taken.TheVariants.{Made, Placed, Wrote}
use Rattle.wdt_depot.specs.Disk.{clean, made, placed, synced_at, wrote}
use Rattle.wdt_depot.specs.Moments.{Told}
use Rattle.wdt_depot.specs.Slots.{Change, IsOnce, IsWithin, Slot, Step, after_reopen, after_sync, after_write, disk_of, file_of, made_slot, next_of, placed_slot, reopened_slot, slot_at, synced_slot, told_of, with_slot, wrote_slot}
use Rattle.wdt_depot.specs.View.{slot_view, step_view}
use Rattle.wdt_depot.proofs.Owed.{at_view, below_view, view_push, view_same, view_set, within_view}
use Rattle.wdt_depot.proofs.Trace.{synced_none, told_made, told_placed, told_reopened, told_synced, told_wrote}

abbrev pub tells : List Taken → (List ℕ → Option ℕ) → List Place → Told
tells ts f ps = told_of (map step_view ts) (record { index = f; slots = map slot_view ps })

one_more : (ts ts' : List Taken) (t : Taken) (e : Step) → ts' ≡ ts ++ t ∷ [] → step_view t ≡ e → map step_view ts' ≡ map step_view ts ++ e ∷ []
one_more ts ts' t e more is = ap (λ (l : List Taken). map step_view l) more ∙ (map-append step_view ts (t ∷ []) ∙ ap (λ (x : Step). map step_view ts ++ x ∷ []) is)

-- a place put back as it is seen
pub tells_same : (ts ts' : List Taken) (f : List ℕ → Option ℕ) (ps : List Place) (i : ℕ) (x p : Place) → ts' ≡ ts → i < length ps → x ≡ get_or ps i x → slot_view p ≡ slot_view x → tells ts' f (set ps i p) ≡ tells ts f ps
tells_same ts ts' f ps i x p same below at is =
    λ j. told_of (map step_view (same j)) (record { index = f; slots = view_same ps i p (is ∙ at_view ps i x below at) j })

pub tells_wrote : (ts ts' : List Taken) (f : List ℕ → Option ℕ) (ps : List Place) (i o : ℕ) (b : List ℕ) (x p : Place) (path : List ℕ) → ts' ≡ ts ++ Wrote i ∷ [] → i < length ps → x ≡ get_or ps i x → slot_view p ≡ after_write o b (slot_view x) → IsOnce f → f path ≡ Some i
    → tells ts' f (set ps i p) ≡ next_of (wrote path o b (tells ts f ps).now) (tells ts f ps)
tells_wrote ts ts' f ps i o b x p path more below at is once there =
    let slots : map slot_view (set ps i p) ≡ set (map slot_view ps) i (after_write o b (slot_at i (map slot_view ps))) = view_set ps i p _ (is ∙ ap (λ (s : Slot). after_write o b s) (at_view ps i x below at)) in
    (λ j. told_of (one_more ts ts' (Wrote i) (wrote_slot i) more refl j) (record { index = f; slots = slots j }))
    ∙ told_wrote (map step_view ts) f (map slot_view ps) path i o b there (below_view ps i below) once

pub tells_synced : (ts ts' : List Taken) (f : List ℕ → Option ℕ) (ps : List Place) (i : ℕ) (x p : Place) (changes : List Change) (t : Taken) (path : List ℕ) → ts' ≡ ts ++ t ∷ [] → step_view t ≡ synced_slot i changes → i < length ps → x ≡ get_or ps i x → slot_view p ≡ after_sync (slot_view x) → changes ≡ (slot_view x).pending → IsOnce f → f path ≡ Some i
    → tells ts' f (set ps i p) ≡ next_of (synced_at path (tells ts f ps).now) (tells ts f ps)
tells_synced ts ts' f ps i x p changes t path more step below at is pending once there =
    let slots : map slot_view (set ps i p) ≡ set (map slot_view ps) i (after_sync (slot_at i (map slot_view ps))) = view_set ps i p _ (is ∙ ap after_sync (at_view ps i x below at)) in
    let all : changes ≡ (slot_at i (map slot_view ps)).pending = pending ∙ ap (λ (s : Slot). s.pending) (at_view ps i x below at) in
    (λ j. told_of (one_more ts ts' t _ more (step ∙ ap (λ (cs : List Change). synced_slot i cs) all) j) (record { index = f; slots = slots j }))
    ∙ told_synced (map step_view ts) f (map slot_view ps) path i there (below_view ps i below) once

-- nothing was pending
pub tells_none : (ts : List Taken) (f : List ℕ → Option ℕ) (ps : List Place) (i : ℕ) (path : List ℕ) → i < length ps → (slot_at i (map slot_view ps)).pending ≡ [] → IsOnce f → f path ≡ Some i → synced_at path (tells ts f ps).now ≡ (tells ts f ps).now
unfolding told_of
tells_none ts f ps i path below none once there = synced_none f (map slot_view ps) path i there (below_view ps i below) once none

pub tells_made : (ts ts' : List Taken) (f g : List ℕ → Option ℕ) (ps ps' : List Place) (p : Place) (path : List ℕ) (before : Option ℕ) (n : ℕ) → ts' ≡ ts ++ Made path before ∷ [] → ps' ≡ ps ++ p ∷ [] → file_of (slot_view p) ≡ clean [] → before ≡ f path → g ≡ with_slot path (Some n) f → n ≡ length (map slot_view ps) → IsWithin f (length ps)
    → tells ts' g ps' ≡ next_of (made path (tells ts f ps).now) (tells ts f ps)
tells_made ts ts' f g ps ps' p path before n more pushed empty was index size within =
    let slots : map slot_view ps' ≡ map slot_view ps ++ slot_view p ∷ [] = ap (λ (l : List Place). map slot_view l) pushed ∙ view_push ps p (slot_view p) refl in
    (λ j. told_of (one_more ts ts' (Made path before) (made_slot path (f path)) more (ap (λ (o : Option ℕ). made_slot path o) was) j) (record { index = index j; slots = slots j }))
    ∙ told_made (map step_view ts) f (map slot_view ps) path n (slot_view p) size (within_view f ps within) empty

pub tells_placed : (ts ts' : List Taken) (f g : List ℕ → Option ℕ) (ps : List Place) (source target : List ℕ) (i : ℕ) (before : Option ℕ) → ts' ≡ ts ++ Placed source target i before ∷ [] → before ≡ f target → g ≡ with_slot source None (with_slot target (Some i) f) → f source ≡ Some i → bytes_eq source target ≡ false
    → tells ts' g ps ≡ next_of (placed source target (tells ts f ps).now) (tells ts f ps)
tells_placed ts ts' f g ps source target i before more was index there differ =
    (λ j. told_of (one_more ts ts' (Placed source target i before) (placed_slot source target i (f target)) more (ap (λ (o : Option ℕ). placed_slot source target i o) was) j) (record { index = index j; slots = map slot_view ps }))
    ∙ told_placed (map step_view ts) f (map slot_view ps) source target i there differ

pub tells_reopened : (ts ts' : List Taken) (f : List ℕ → Option ℕ) (ps : List Place) (i pick low : ℕ) (tail : List ℕ) (x p : Place) (changes : List Change) (t : Taken) → ts' ≡ ts ++ t ∷ [] → step_view t ≡ reopened_slot i low tail changes → i < length ps → x ≡ get_or ps i x → slot_view p ≡ after_reopen pick (slot_view x) → changes ≡ (slot_view x).pending → take low p.bytes.items ++ tail ≡ x.bytes.items
    → tells ts' f (set ps i p) ≡ next_of (disk_of (record { index = f; slots = map slot_view (set ps i p) })) (tells ts f ps)
tells_reopened ts ts' f ps i pick low tail x p changes t more step below at is pending back =
    let ss : List Slot = map slot_view ps in
    let here : slot_view x ≡ slot_at i ss = at_view ps i x below at in
    let new : slot_view p ≡ after_reopen pick (slot_at i ss) = is ∙ ap (λ (s : Slot). after_reopen pick s) here in
    let slots : map slot_view (set ps i p) ≡ set ss i (after_reopen pick (slot_at i ss)) = view_set ps i p _ new in
    let all : changes ≡ (slot_at i ss).pending = pending ∙ ap (λ (s : Slot). s.pending) here in
    let whole : take low (after_reopen pick (slot_at i ss)).bytes ++ tail ≡ (slot_at i ss).bytes = ap (λ (s : Slot). take low s.bytes ++ tail) (sym new) ∙ (back ∙ ap (λ (s : Slot). s.bytes) here) in
    (λ j. told_of (one_more ts ts' t _ more (step ∙ ap (λ (cs : List Change). reopened_slot i low tail cs) all) j) (record { index = f; slots = slots j }))
    ∙ (told_reopened (map step_view ts) f ss i pick low tail (below_view ps i below) whole
    ∙ ap (λ (xs : List Slot). next_of (disk_of (record { index = f; slots = xs })) (tells ts f ps)) (sym slots))
