-- What the slots and steps of a disk in memory tell.
use Rattle.std.proofs.Common.{◌≡◌, ◌⊎◌, inl, inr, ℕ, ◌-◌, ◌<◌, List, [], ◌∷◌, ◌++◌, length, take, set, get_or, reverse, Option, Some, None, Bool, true, false, refl, sym, ◌∙◌, ap, arith, length-append}
use Rattle.std.specs.Prelude.{if◌then◌else◌, option_map}
use Rattle.std.proofs.lemmas.List.{reverse-append, set-get_or, set-set, get_or-set_same, get_or-set_other, get_or_push, get_or_append_left}
use Rattle.std.proofs.lemmas.Bool.{cases_lt}
use Rattle.std.proofs.Math.Seq.{take-append_seam}
use Rattle.std.specs.Str.{bytes_eq}
use Rattle.std.proofs.lemmas.Slice.Eq.{bytes_eq-Decides}
use Rattle.wdt_depot.specs.Disk.{Disk, DiskFile, clean, made, place_file, placed, spliced, sync_file, synced_at, with_file, write_file, wrote}
use Rattle.wdt_depot.specs.Moments.{Told}
use Rattle.wdt_depot.specs.Slots.{Change, IsOnce, IsWithin, Shelf, Slot, Step, after_reopen, after_sync, after_write, change_of, disk_of, disks_back, file_of, made_slot, next_of, no_change, no_slot, placed_slot, reopened_slot, slot_at, synced_slot, told_of, undo, undo_change, undo_write, with_slot, wrote_slot}
use Rattle.wdt_depot.proofs.Places.{file_with-none, file_with-wrote}
use Rattle.wdt_depot.proofs.Splices.{restored-spliced}

-- one step more, that takes the shelf back to what it was: one moment more
pub told_more : (steps : List Step) (e : Step) (old new : Shelf) → undo e new ≡ old → told_of (steps ++ e ∷ []) new ≡ next_of (disk_of new) (told_of steps old)
unfolding told_of
told_more steps e old new back =
    let back_one : disks_back (reverse (steps ++ e ∷ [])) new ≡ disks_back (e ∷ reverse steps) new = ap (λ (es : List Step). disks_back es new) (reverse-append steps (e ∷ [])) in
    let at_old : disks_back (e ∷ reverse steps) new ≡ disks_back (reverse steps) old ++ disk_of old ∷ [] = ap (λ (s : Shelf). disks_back (reverse steps) s ++ disk_of s ∷ []) back in
    ap {A = List Disk} {B = Told} (λ p. record { past = p; now = disk_of new }) (back_one ∙ at_old)

pub told_now : (steps : List Step) (s : Shelf) → (told_of steps s).now ≡ disk_of s
unfolding told_of
told_now steps s = refl

-- paths

same_path : (p q : List ℕ) → bytes_eq p q ≡ true → p ≡ q
same_path p q e = (bytes_eq-Decides p q).0 e

other_path : (p q : List ℕ) → bytes_eq p q ≡ false → p ≡ q → ⊥
other_path p q e same = let yes_it_is : bytes_eq p q ≡ true = (bytes_eq-Decides p q).1 same in cc

-- the index

pub with_slot-same : (p : List ℕ) (x : Option ℕ) (f : List ℕ → Option ℕ) → with_slot p x f p ≡ x
unfolding with_slot
with_slot-same p x f = ap (λ (b : Bool). if b then x else f p) ((bytes_eq-Decides p p).1 refl)

pub with_slot-other : (p q : List ℕ) (x : Option ℕ) (f : List ℕ → Option ℕ) → bytes_eq p q ≡ false → with_slot p x f q ≡ f q
unfolding with_slot
with_slot-other p q x f e = ap (λ (b : Bool). if b then x else f q) e

-- a place of another slot put back
back_slot : (p : List ℕ) (x : Option ℕ) (f : List ℕ → Option ℕ) → with_slot p (f p) (with_slot p x f) ≡ f
unfolding with_slot
back_slot p x f = λ j q. go q (bytes_eq p q) refl j
  where
    go : (q : List ℕ) (b : Bool) → bytes_eq p q ≡ b → (if b then f p else (if b then x else f q)) ≡ f q
    go q true e = ap f (same_path p q e)
    go q false e = refl

back_place : (source target : List ℕ) (i : ℕ) (f : List ℕ → Option ℕ) → f source ≡ Some i → with_slot source (Some i) (with_slot target (f target) (with_slot source None (with_slot target (Some i) f))) ≡ f
unfolding with_slot
back_place source target i f there = λ j q. go q (bytes_eq source q) (bytes_eq target q) refl refl j
  where
    go : (q : List ℕ) (b c : Bool) → bytes_eq source q ≡ b → bytes_eq target q ≡ c → (if b then Some i else (if c then f target else (if b then None else (if c then Some i else f q)))) ≡ f q
    go q true c e g = sym there ∙ ap f (same_path source q e)
    go q false true e g = ap f (same_path target q g)
    go q false false e g = refl

-- the disk with another file in a slot

slot_here : (ss : List Slot) (i : ℕ) (s : Slot) → i < length ss → slot_at i (set ss i s) ≡ s
slot_here ss i s below = get_or-set_same ss i s no_slot below

differ_or : (i k : ℕ) → (i ≡ k) ⊎ (i ≡ k → ⊥)
differ_or i k = elim (cases_lt i k) [
  | inl h ↦ inr (λ e. absurd (omega (arith, h, e)))
  | inr h ↦ elim (cases_lt k i) [ inl g ↦ inr (λ e. absurd (omega (arith, g, e))) | inr g ↦ inl (omega (arith, h, g)) ]
]

pub disk_set : (p : List ℕ) (i : ℕ) (f : List ℕ → Option ℕ) (ss : List Slot) (s : Slot) → f p ≡ Some i → i < length ss → IsOnce f → disk_of (record { index = f; slots = set ss i s }) ≡ with_file p (Some (file_of s)) (disk_of (record { index = f; slots = ss }))
unfolding disk_of with_file
disk_set p i f ss s there below once = λ j q. go q (bytes_eq p q) refl j
  where
    others : (q : List ℕ) (o : Option ℕ) → f q ≡ o → bytes_eq p q ≡ false → option_map (λ k. file_of (slot_at k (set ss i s))) o ≡ option_map (λ k. file_of (slot_at k ss)) o
    others q None e other = refl
    others q (Some k) e other = elim (differ_or i k) [
      | inl same ↦ absurd (other_path p q other (once p q i there (e ∙ ap (λ (n : ℕ). Some n) (sym same))))
      | inr differs ↦ ap (λ (x : Slot). Some (file_of x)) (get_or-set_other ss i k s no_slot (λ (h : k ≡ i). differs (sym h)))
    ]

    go : (q : List ℕ) (b : Bool) → bytes_eq p q ≡ b → option_map (λ k. file_of (slot_at k (set ss i s))) (f q) ≡ (if b then Some (file_of s) else option_map (λ k. file_of (slot_at k ss)) (f q))
    go q true e =
        ap (λ (o : Option ℕ). option_map (λ k. file_of (slot_at k (set ss i s))) o) (ap f (sym (same_path p q e)) ∙ there)
        ∙ ap (λ (x : Slot). Some (file_of x)) (slot_here ss i s below)
    go q false e = others q (f q) refl e

-- a slot more, for a path
pub disk_pushed : (p : List ℕ) (n : ℕ) (f : List ℕ → Option ℕ) (ss : List Slot) (s : Slot) → n ≡ length ss → IsWithin f (length ss) → disk_of (record { index = with_slot p (Some n) f; slots = ss ++ s ∷ [] }) ≡ with_file p (Some (file_of s)) (disk_of (record { index = f; slots = ss }))
unfolding disk_of with_file with_slot
disk_pushed p n f ss s size within = λ j q. go q (bytes_eq p q) j
  where
    others : (q : List ℕ) (o : Option ℕ) → f q ≡ o → option_map (λ k. file_of (slot_at k (ss ++ s ∷ []))) o ≡ option_map (λ k. file_of (slot_at k ss)) o
    others q None e = refl
    others q (Some k) e = ap (λ (x : Slot). Some (file_of x)) (get_or_append_left ss (s ∷ []) no_slot k (within q k e))

    go : (q : List ℕ) (b : Bool) → option_map (λ k. file_of (slot_at k (ss ++ s ∷ []))) (if b then Some n else f q) ≡ (if b then Some (file_of s) else option_map (λ k. file_of (slot_at k ss)) (f q))
    go q true = ap (λ (x : Slot). Some (file_of x)) (get_or_push ss s no_slot n (sym size))
    go q false = others q (f q) refl

-- a file taken from one path to another
pub disk_moved : (source target : List ℕ) (i : ℕ) (f : List ℕ → Option ℕ) (ss : List Slot) → f source ≡ Some i → bytes_eq source target ≡ false → disk_of (record { index = with_slot source None (with_slot target (Some i) f); slots = ss }) ≡ placed source target (disk_of (record { index = f; slots = ss }))
unfolding disk_of with_file with_slot
disk_moved source target i f ss there differ = moved ∙ sym (ap (λ (o : Option DiskFile). place_file source target o d) here)
  where
    d : Disk
    d = disk_of (record { index = f; slots = ss })

    file : DiskFile
    file = file_of (slot_at i ss)

    here : d source ≡ Some file
    here = ap (λ (o : Option ℕ). option_map (λ k. file_of (slot_at k ss)) o) there

    moved : disk_of (record { index = with_slot source None (with_slot target (Some i) f); slots = ss }) ≡ with_file target (Some file) (with_file source None d)
    moved = λ j q. go q (bytes_eq source q) (bytes_eq target q) refl refl j
      where
        go : (q : List ℕ) (b c : Bool) → bytes_eq source q ≡ b → bytes_eq target q ≡ c → option_map (λ k. file_of (slot_at k ss)) (if b then None else (if c then Some i else f q)) ≡ (if c then Some file else (if b then None else option_map (λ k. file_of (slot_at k ss)) (f q)))
        go q true true e g = absurd (other_path source target differ (same_path source q e ∙ sym (same_path target q g)))
        go q true false e g = refl
        go q false true e g = refl
        go q false false e g = refl

-- each call's step takes the shelf back

back_set : (i : ℕ) (ss : List Slot) (s : Slot) (f : Slot → Slot) → i < length ss → f s ≡ slot_at i ss → set (set ss i s) i (f (slot_at i (set ss i s))) ≡ ss
back_set i ss s f below back =
    ap (λ (x : Slot). set (set ss i s) i (f x)) (slot_here ss i s below) ∙ (ap (λ (x : Slot). set (set ss i s) i x) back ∙ (set-set ss i s (slot_at i ss) ∙ set-get_or ss i no_slot))

undo_write-wrote : (o : ℕ) (b : List ℕ) (s : Slot) → undo_write (after_write o b s) ≡ s
undo_write-wrote o b s =
    let c : Change = change_of o b s.bytes in
    let n : ℕ = length (s.pending ++ c ∷ []) - 1 in
    let n_is : n ≡ length s.pending = omega (arith, length-append s.pending (c ∷ [])) in
    let last : get_or (s.pending ++ c ∷ []) n no_change ≡ c = get_or_push s.pending c no_change n (sym n_is) in
    let front : take n (s.pending ++ c ∷ []) ≡ s.pending = ap (λ (k : ℕ). take k (s.pending ++ c ∷ [])) n_is ∙ take-append_seam s.pending (c ∷ []) in
    let bytes : undo_change (get_or (s.pending ++ c ∷ []) n no_change) (spliced s.bytes o b) ≡ s.bytes = ap (λ (x : Change). undo_change x (spliced s.bytes o b)) last ∙ restored-spliced s.bytes o b in
    λ j. record { bytes = bytes j; pending = front j }

-- what is told after each call

told_by : (steps : List Step) (e : Step) (old new : Shelf) (d : Disk) → undo e new ≡ old → disk_of new ≡ d → told_of (steps ++ e ∷ []) new ≡ next_of d (told_of steps old)
told_by steps e old new d back is = told_more steps e old new back ∙ ap {A = Disk} {B = Told} (λ x. next_of x (told_of steps old)) is

file_here : (f : List ℕ → Option ℕ) (ss : List Slot) (p : List ℕ) (i : ℕ) → f p ≡ Some i → disk_of (record { index = f; slots = ss }) p ≡ Some (file_of (slot_at i ss))
unfolding disk_of
file_here f ss p i there = ap (λ (o : Option ℕ). option_map (λ k. file_of (slot_at k ss)) o) there

-- a change of the file in a slot
changed_file : (f : List ℕ → Option ℕ) (ss : List Slot) (p : List ℕ) (i : ℕ) (s : Slot) (g : DiskFile → DiskFile) → f p ≡ Some i → i < length ss → IsOnce f → file_of s ≡ g (file_of (slot_at i ss))
    → disk_of (record { index = f; slots = set ss i s }) ≡ with_file p (option_map g (disk_of (record { index = f; slots = ss }) p)) (disk_of (record { index = f; slots = ss }))
changed_file f ss p i s g there below once is =
    let d : Disk = disk_of (record { index = f; slots = ss }) in
    let was : option_map g (d p) ≡ Some (g (file_of (slot_at i ss))) = ap (λ (o : Option DiskFile). option_map g o) (file_here f ss p i there) in
    disk_set p i f ss s there below once ∙ ap (λ (o : Option DiskFile). with_file p o d) (ap (λ (x : DiskFile). Some x) is ∙ sym was)

pub told_wrote : (steps : List Step) (f : List ℕ → Option ℕ) (ss : List Slot) (p : List ℕ) (i o : ℕ) (b : List ℕ) → f p ≡ Some i → i < length ss → IsOnce f → let old : Shelf = record { index = f; slots = ss } in told_of (steps ++ wrote_slot i ∷ []) (record { index = f; slots = set ss i (after_write o b (slot_at i ss)) }) ≡ next_of (wrote p o b (told_of steps old).now) (told_of steps old)
unfolding told_of
told_wrote steps f ss p i o b there below once =
    let s : Slot = slot_at i ss in
    told_by steps (wrote_slot i) _ _ _ (ap (λ (xs : List Slot). record { index = f; slots = xs }) (back_set i ss (after_write o b s) undo_write below (undo_write-wrote o b s)))
    (changed_file f ss p i (after_write o b s) (write_file o b) there below once (file_with-wrote s.bytes s.pending o b))

pub told_synced : (steps : List Step) (f : List ℕ → Option ℕ) (ss : List Slot) (p : List ℕ) (i : ℕ) → f p ≡ Some i → i < length ss → IsOnce f → let old : Shelf = record { index = f; slots = ss } in told_of (steps ++ synced_slot i (slot_at i ss).pending ∷ []) (record { index = f; slots = set ss i (after_sync (slot_at i ss)) }) ≡ next_of (synced_at p (told_of steps old).now) (told_of steps old)
unfolding told_of
told_synced steps f ss p i there below once =
    let s : Slot = slot_at i ss in
    told_by steps (synced_slot i s.pending) _ _ _ (ap (λ (xs : List Slot). record { index = f; slots = xs }) (back_set i ss (after_sync s) (λ (x : Slot). record { bytes = x.bytes; pending = s.pending }) below refl))
    (changed_file f ss p i (after_sync s) sync_file there below once (file_with-none s.bytes))

-- a sync that finds nothing changes nothing
pub synced_none : (f : List ℕ → Option ℕ) (ss : List Slot) (p : List ℕ) (i : ℕ) → f p ≡ Some i → i < length ss → IsOnce f → (slot_at i ss).pending ≡ [] → let d : Disk = disk_of (record { index = f; slots = ss }) in synced_at p d ≡ d
synced_none f ss p i there below once none =
    let s : Slot = slot_at i ss in
    let same : after_sync s ≡ s = λ j. record { bytes = s.bytes; pending = sym none j } in
    let back : set ss i (after_sync s) ≡ ss = ap (λ (x : Slot). set ss i x) same ∙ set-get_or ss i no_slot in
    sym (changed_file f ss p i (after_sync s) sync_file there below once (file_with-none s.bytes)) ∙ ap (λ (xs : List Slot). disk_of (record { index = f; slots = xs })) back

pub told_made : (steps : List Step) (f : List ℕ → Option ℕ) (ss : List Slot) (p : List ℕ) (n : ℕ) (s : Slot) → n ≡ length ss → IsWithin f (length ss) → file_of s ≡ clean [] → let old : Shelf = record { index = f; slots = ss } in told_of (steps ++ made_slot p (f p) ∷ []) (record { index = with_slot p (Some n) f; slots = ss ++ s ∷ [] }) ≡ next_of (made p (told_of steps old).now) (told_of steps old)
unfolding told_of
told_made steps f ss p n s size within empty =
    let front : take (length (ss ++ s ∷ []) - 1) (ss ++ s ∷ []) ≡ ss = ap (λ (k : ℕ). take k (ss ++ s ∷ [])) (omega (arith, length-append ss (s ∷ []))) ∙ take-append_seam ss (s ∷ []) in
    let d : Disk = disk_of (record { index = f; slots = ss }) in
    told_by steps (made_slot p (f p)) _ _ _ (λ j. record { index = back_slot p (Some n) f j; slots = front j })
    (disk_pushed p n f ss s size within ∙ ap (λ (x : DiskFile). with_file p (Some x) d) empty)

pub told_placed : (steps : List Step) (f : List ℕ → Option ℕ) (ss : List Slot) (source target : List ℕ) (i : ℕ) → f source ≡ Some i → bytes_eq source target ≡ false → let old : Shelf = record { index = f; slots = ss } in told_of (steps ++ placed_slot source target i (f target) ∷ []) (record { index = with_slot source None (with_slot target (Some i) f); slots = ss }) ≡ next_of (placed source target (told_of steps old).now) (told_of steps old)
unfolding told_of
told_placed steps f ss source target i there differ =
    told_by steps (placed_slot source target i (f target)) _ _ _ (ap (λ (g : List ℕ → Option ℕ). record { index = g; slots = ss }) (back_place source target i f there))
    (disk_moved source target i f ss there differ)

pub told_reopened : (steps : List Step) (f : List ℕ → Option ℕ) (ss : List Slot) (i pick low : ℕ) (tail : List ℕ) → i < length ss → take low (after_reopen pick (slot_at i ss)).bytes ++ tail ≡ (slot_at i ss).bytes
    → let new : Shelf = record { index = f; slots = set ss i (after_reopen pick (slot_at i ss)) } in told_of (steps ++ reopened_slot i low tail (slot_at i ss).pending ∷ []) new ≡ next_of (disk_of new) (told_of steps (record { index = f; slots = ss }))
told_reopened steps f ss i pick low tail below back =
    let s : Slot = slot_at i ss in
    told_more steps (reopened_slot i low tail s.pending) _ _ (ap (λ (xs : List Slot). record { index = f; slots = xs })
    (back_set i ss (after_reopen pick s) (λ (x : Slot). record { bytes = take low x.bytes ++ tail; pending = s.pending }) below (λ j. record { bytes = back j; pending = s.pending })))
