-- What a reopening tells, slot by slot.
use Rattle.std.proofs.Common.{◌≡◌, ◌⊎◌, inl, inr, ℕ, ◌+◌, ◌<◌, ◌≤◌, List, [], ◌∷◌, ◌++◌, length, set, Option, Some, None, refl, sym, ◌∙◌, ap, subst, arith}
use Rattle.std.specs.Prelude.{option_map}
use Rattle.std.proofs.lemmas.List.{get_or-set_same, get_or-set_other, length-set}
use Rattle.std.proofs.lemmas.Bool.{cases_lt}
use Rattle.wdt_depot.specs.Disk.{Disk, DiskFile, HasImagesOf, IfFile, IsFileImage, IsSound, IsSoundDisk, MayLeave, clean}
use Rattle.wdt_depot.specs.Moments.{Since, Told}
use Rattle.wdt_depot.specs.Picks.{picked_bytes, picked_disk}
use Rattle.wdt_depot.specs.Slots.{IsReopenedBelow, IsWithin, Slot, after_reopen, disk_of, file_of, file_with, next_of, no_slot, slot_at}
use Rattle.wdt_depot.proofs.Images.{image_of_clean}
use Rattle.wdt_depot.proofs.Moments.{since_more}
use Rattle.wdt_depot.specs.PickLaws.{picked_image}
use Rattle.wdt_depot.proofs.Places.{file_with-none}

-- a pick leaves a file of which nothing is pending
pub picked_clean : (pick : ℕ) (s : Slot) → s.pending ≡ [] → IsSound (file_of s) → after_reopen pick s ≡ s
picked_clean pick s none sound =
    let image : IsFileImage (file_of s) (picked_bytes pick (file_of s)) = picked_image pick (file_of s) sound in
    let is_clean : file_of s ≡ clean s.bytes = (λ j. file_with s.bytes (none j)) ∙ file_with-none s.bytes in
    let same : picked_bytes pick (file_of s) ≡ s.bytes = image_of_clean s.bytes _ (subst (λ (f : DiskFile). IsFileImage f (picked_bytes pick (file_of s))) is_clean image) in
    λ j. record { bytes = same j; pending = sym none j }

-- slot by slot

pub reopened_none : (pick : ℕ) (ss : List Slot) → IsReopenedBelow pick 0 ss ss
reopened_none pick ss = record { size = refl; below = λ i h _. absurd (omega (arith, h)); above = λ i h. refl }

pub reopened_more : (pick n m : ℕ) (ss ts us : List Slot) → m ≡ n + 1 → n < length ss → IsReopenedBelow pick n ss ts → us ≡ set ts n (after_reopen pick (slot_at n ts)) → IsReopenedBelow pick m ss us
reopened_more pick n m ss ts us next inside h is = record {
  size = ap (λ (l : List Slot). length l) is ∙ omega (arith, length-set ts n (after_reopen pick (slot_at n ts)), h.size);
  below = λ i lt within. ap (λ (l : List Slot). slot_at i l) is ∙ elim (cases_lt i n) [
    | inl lower ↦ get_or-set_other ts n i (after_reopen pick (slot_at n ts)) no_slot (λ (e : i ≡ n). absurd (omega (arith, e, lower))) ∙ h.below i lower within
    | inr up ↦
        let same : n ≡ i = omega (arith, up, lt, next) in
        subst (λ (k : ℕ). slot_at k (set ts n (after_reopen pick (slot_at n ts))) ≡ after_reopen pick (slot_at k ss)) same
        (get_or-set_same ts n (after_reopen pick (slot_at n ts)) no_slot (omega (arith, inside, h.size)) ∙ ap (λ (s : Slot). after_reopen pick s) (h.above n (omega arith)))
  ];
  above = λ i up. ap (λ (l : List Slot). slot_at i l) is ∙ (get_or-set_other ts n i (after_reopen pick (slot_at n ts)) no_slot (λ (e : i ≡ n). absurd (omega (arith, e, up, next))) ∙ h.above i (omega (arith, up, next)));
}

-- the disks on the way

file_reopened : (pick : ℕ) (s : Slot) → file_of (after_reopen pick s) ≡ clean (picked_bytes pick (file_of s))
file_reopened pick s = file_with-none (picked_bytes pick (file_of s))

left_reopened : (pick : ℕ) (s : Slot) (found : Option (List ℕ)) → IsSound (file_of s) → MayLeave (Some (file_of (after_reopen pick s))) found → MayLeave (Some (file_of s)) found
left_reopened pick s None sound h = absurd h
left_reopened pick s (Some b) sound h =
    let same : b ≡ picked_bytes pick (file_of s) = image_of_clean (picked_bytes pick (file_of s)) b (subst (λ (f : DiskFile). IsFileImage f b) (file_reopened pick s) h) in
    subst (λ (x : List ℕ). IsFileImage (file_of s) x) (sym same) (picked_image pick (file_of s) sound)

pub reopened_images : (pick n : ℕ) (f : List ℕ → Option ℕ) (ss ts : List Slot) → IsReopenedBelow pick n ss ts → IsWithin f (length ss) → IsSoundDisk (disk_of (record { index = f; slots = ss })) → HasImagesOf (disk_of (record { index = f; slots = ss })) (disk_of (record { index = f; slots = ts }))
unfolding disk_of
reopened_images pick n f ss ts h within sound i image path = go (f path) refl (sound path) (image path)
  where
    go : (o : Option ℕ) → f path ≡ o → IfFile IsSound (option_map (λ k. file_of (slot_at k ss)) o) → MayLeave (option_map (λ k. file_of (slot_at k ts)) o) (i path) → MayLeave (option_map (λ k. file_of (slot_at k ss)) o) (i path)
    go None e s left = left
    go (Some k) e s left = elim (cases_lt k n) [
      | inl lower ↦ left_reopened pick (slot_at k ss) (i path) s (subst (λ (x : Slot). MayLeave (Some (file_of x)) (i path)) (h.below k lower (within path k e)) left)
      | inr up ↦ subst (λ (x : Slot). MayLeave (Some (file_of x)) (i path)) (h.above k up) left
    ]

pub reopened_disk : (pick n : ℕ) (f : List ℕ → Option ℕ) (ss ts : List Slot) → IsReopenedBelow pick n ss ts → length ss ≤ n → IsWithin f (length ss) → disk_of (record { index = f; slots = ts }) ≡ picked_disk (disk_of (record { index = f; slots = ss })) pick
unfolding disk_of picked_disk
reopened_disk pick n f ss ts h all within = λ j path. go path (f path) refl j
  where
    go : (path : List ℕ) (o : Option ℕ) → f path ≡ o → option_map (λ k. file_of (slot_at k ts)) o ≡ option_map (λ x. clean (picked_bytes pick x)) (option_map (λ k. file_of (slot_at k ss)) o)
    go path None e = refl
    go path (Some k) e =
        let inside : k < length ss = within path k e in
        ap (λ (x : Slot). Some (file_of x)) (h.below k (omega (arith, inside, all)) inside) ∙ ap (λ (x : DiskFile). Some x) (file_reopened pick (slot_at k ss))

-- one more moment, or none
pub since_reopened : (P : Disk → Type 0) (a t u : Told) (d : Disk) → u.now ≡ d → P d → (u ≡ t) ⊎ (u ≡ next_of d t) → Since P (Some a) (Some t) → Since P (Some a) (Some u)
since_reopened P a t u d now p step since =
    since_more P (λ _ e. e ≡ d) (Some a) (Some t) (Some u) since (now, past step) (λ e is. subst P (sym is) p)
  where
    past : (u ≡ t) ⊎ (u ≡ next_of d t) → (u ≡ t) ⊎ (u.past ≡ t.past ++ t.now ∷ [])
    past (inl same) = inl same
    past (inr next) = inr (ap (λ (v : Told). v.past) next)
