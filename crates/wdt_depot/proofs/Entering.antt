-- Which spots' paths have places, and what the calls of a memory depot tell of them.
use Rattle.std.proofs.Common.{◌≡◌, ℕ, List, [], ◌∷◌, get_or, Option, Some, None, Bool, true, false, refl, sym, ◌∙◌, ap, subst, Ok, Err}
use Rattle.std.specs.Prelude.{IsSome, OnOk, Result, is_some, is_none, if◌then◌else◌, ◌==◌}
use Rattle.std.specs.List.{list_any}
use Rattle.std.specs.Str.{bytes_eq}
use Rattle.std.proofs.lemmas.Bool.{and_parts, and_from, or_parts}
use Rattle.wdt_units.specs.Schedule.{Schedule}
use Rattle.wdt_depot.specs.declared.failure.DepotFail.{DepotFail}
use Rattle.wdt_depot.specs.declared.failure.DepotFail.TheVariants.{Failed, NoMemory}
use Rattle.wdt_depot.specs.declared.memory.place.Place.{Place}
use Rattle.wdt_depot.specs.declared.memory.store.Store.{Store}
use Rattle.wdt_depot.specs.Disk.{Disk, DiskFile, IfFile}
use Rattle.wdt_depot.specs.Memory.{KeepsPaths, KeepsPathsBut, told_in}
use Rattle.wdt_depot.specs.Outcome.{Outcome}
use Rattle.wdt_depot.specs.Slots.{Slot, file_of}
use Rattle.wdt_depot.specs.Spots.{all_placed}
use Rattle.wdt_depot.specs.State.{Counts, IsByNumber, State, lacks, without}
use Rattle.wdt_depot.specs.View.{index_of, slot_view}
use Rattle.wdt_depot.proofs.Owed.{at_view}
use Rattle.wdt_depot.proofs.Slips.{file_some}

pub all_keeps : (es : List (ℕ × List ℕ)) (f g : List ℕ → Option ℕ) → KeepsPaths f g → all_placed es f ≡ true → all_placed es g ≡ true
all_keeps [] f g h all = refl
all_keeps (e ∷ es) f g h all =
    let parts = and_parts (is_some (f e.1)) (all_placed es f) all in
    and_from (is_some (g e.1)) (all_placed es g) (h e.1 parts.0) (all_keeps es f g h parts.1)

pub all_keeps_but : (but : List ℕ) (es : List (ℕ × List ℕ)) (f g : List ℕ → Option ℕ) → KeepsPathsBut but f g → list_any (λ (e : ℕ × List ℕ). bytes_eq but e.1) es ≡ false → all_placed es f ≡ true → all_placed es g ≡ true
all_keeps_but but [] f g h none all = refl
all_keeps_but but (e ∷ es) f g h none all =
    let parts = and_parts (is_some (f e.1)) (all_placed es f) all in
    let nones = or_parts (bytes_eq but e.1) (list_any (λ (x : ℕ × List ℕ). bytes_eq but x.1) es) none in
    and_from (is_some (g e.1)) (all_placed es g) (h e.1 nones.0 parts.0) (all_keeps_but but es f g h nones.1 parts.1)

either_placed : (f : List ℕ → Option ℕ) (e : ℕ × List ℕ) (es rest : List (ℕ × List ℕ)) (b : Bool) → is_some (f e.1) ≡ true → all_placed es f ≡ true → all_placed rest f ≡ true → all_placed (if b then es else e ∷ rest) f ≡ true
either_placed f e es rest true here all more = all
either_placed f e es rest false here all more = and_from (is_some (f e.1)) (all_placed rest f) here more

pub all_without : (spot : ℕ) (es : List (ℕ × List ℕ)) (f : List ℕ → Option ℕ) → all_placed es f ≡ true → all_placed (without spot es) f ≡ true
all_without spot [] f all = refl
all_without spot (e ∷ es) f all =
    let parts = and_parts (is_some (f e.1)) (all_placed es f) all in
    either_placed f e es (without spot es) (e.0 == spot) parts.0 parts.1 (all_without spot es f parts.1)

-- a call that answers Ok is no slip
pub no_slip : (cant slip : Bool) (done : Disk → Disk) (torn : ℕ → Disk → Disk) (r : Result (Unit {0}) DepotFail) (s s' : State) → Outcome cant slip done torn r s s' → OnOk r (slip ≡ false)
no_slip cant true done torn (Ok x) s s' o = absurd (let both = o.slips.rose refl o.up (λ h. (cc)) in let bad = both.1 in cc)
no_slip cant false done torn (Ok x) s s' o = refl
no_slip cant slip done torn (Err e) s s' o = tt

there : (o : Option DiskFile) → is_none o ≡ false → IsSome o
there None h = cc
there (Some f) h = refl

on_ok_then : {T E : Type 0} (r : Result T E) (P Q : Type 0) → (P → Q) → OnOk r P → OnOk r Q
on_ok_then (Ok x) P Q f h = f h
on_ok_then (Err e) P Q f h = tt

pub found_there : (path : List ℕ) (d : Disk) (r : Result (Unit {0}) DepotFail) → OnOk r (lacks path d ≡ false) → OnOk r (IsSome (d path))
found_there path d r h = on_ok_then r (lacks path d ≡ false) (IsSome (d path)) (there (d path)) h

-- the file at the path of a place
pub file_at : (P : DiskFile → Type 0) (s : Store) (path : List ℕ) (i : ℕ) (x : Place) → index_of s.index path ≡ Some i → x ≡ get_or s.places.items i x → P (file_of (slot_view x)) → IfFile P ((told_in s).now path)
file_at P s path i x is at p =
    let file : (told_in s).now path ≡ Some (file_of (slot_view x)) = file_some s path i is ∙ ap (λ (y : Slot). Some (file_of y)) (sym (at_view s.places.items i x (s.within path i is) at)) in
    subst (λ (o : Option DiskFile). IfFile P o) (sym file) p

-- the counts of a call that fails in one way alone

pub only_failed : (x : DepotFail) → (let r : Result (Unit {0}) DepotFail = Err x in r ≡ Err NoMemory → ⊥) → let r : Result (Unit {0}) DepotFail = Err x in r ≡ Err Failed
only_failed Failed h = refl
only_failed NoMemory h = absurd (h refl)

pub counts_from : (bad bad' : Type 0) (s s' : State) → (bad' → bad) → (bad → bad') → Counts bad s s' → Counts bad' s s'
counts_from bad bad' s s' f g c = record { faults = c.faults; own = c.own; own_then = c.own_then; slips = c.slips; rose = λ h. c.rose (f h); cause = λ h. c.cause (f h); struck = c.struck; fine = λ no_bad. c.fine (λ h. no_bad (g h)) }

-- the number of a call that fails in one way alone
pub number_from : (cant : Bool) (bad refused bad' : Type 0) (s : Schedule) (new : State) → (refused → ⊥) → (bad' → bad) → (bad → bad') → IsByNumber cant bad refused s new → IsByNumber cant bad' ⊥ s new
number_from cant bad refused bad' s new never f g n = record {
  number = λ _. n.number never;
  fails = record { only = λ h none. n.fails.only (f h) none; each = λ is none _. g (n.fails.each is none never) };
}

pub some_there : (o : Option DiskFile) (f : DiskFile) → o ≡ Some f → IsSome o
some_there o f e = subst (λ (x : Option DiskFile). IsSome x) (sym e) refl
