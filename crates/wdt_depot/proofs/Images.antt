-- What a crash may leave, call by call.
use Rattle.std.proofs.Common.{◌≡◌, inl, inr, ℕ, ◌+◌, ◌<◌, ◌≤◌, List, [], ◌∷◌, length, take, drop, Option, Some, None, Bool, true, false, refl, sym, ◌∙◌, ap, subst, arith}
use Rattle.std.specs.Prelude.{slice_index, if◌then◌else◌, option_map, ◌||◌}
use Rattle.std.specs.Str.{bytes_eq}
use Rattle.std.proofs.lemmas.Bool.{cases_lt, or_parts}
use Rattle.std.proofs.lemmas.Bool.Decides.{nat_tests}
use Rattle.std.proofs.lemmas.List.{ext_get_or, length-drop, length-take}
use Rattle.std.proofs.lemmas.List.Folds.{list_any-append}
use Rattle.std.proofs.lemmas.Slice.Eq.{bytes_eq-Decides}
use Rattle.wdt_units.specs.Have.{PlainSpan, is_in}
use Rattle.wdt_depot.specs.Disk.{AreBytes, Disk, DiskFile, HasImagesOf, IfFile, Image, IsFileImage, IsImage, IsOutside, IsSettled, IsSound, IsSoundDisk, MayLeave, clean, seen_of, spliced, sync_file, synced_at, with_file, write_file, wrote}
use Rattle.wdt_depot.specs.PickLaws.{if_file_more, image_of_each, seen_is_file_image, synced_is_file_image}
use Rattle.wdt_depot.proofs.Writes.{bytes_spliced, length-spliced, spliced_before, spliced_behind, spliced_gap}

-- the disk with another file at a path

pub bytes_eq-same : (p : List ℕ) → bytes_eq p p ≡ true
bytes_eq-same p = (bytes_eq-Decides p p).1 refl

pub with_file-same : (p : List ℕ) (f : Option DiskFile) (d : Disk) → with_file p f d p ≡ f
unfolding with_file
with_file-same p f d = ap (λ (b : Bool). if b then f else d p) (bytes_eq-same p)

pub with_file-other : (p q : List ℕ) (f : Option DiskFile) (d : Disk) → bytes_eq p q ≡ false → with_file p f d q ≡ d q
unfolding with_file
with_file-other p q f d e = ap (λ (b : Bool). if b then f else d q) e

-- a fact of the file at each path: at this one, and at the others as before
pub with_file_each : (P : List ℕ → Option DiskFile → Type 0) (p : List ℕ) (f : Option DiskFile) (d : Disk) → P p f → ((q : List ℕ) → P q (d q)) → (q : List ℕ) → P q (with_file p f d q)
unfolding with_file
with_file_each P p f d here others q = go (bytes_eq p q) refl
  where
    go : (b : Bool) → bytes_eq p q ≡ b → P q (if b then f else d q)
    go true e = subst (λ (r : List ℕ). P r f) ((bytes_eq-Decides p q).0 e) here
    go false e = others q

-- settled places

pub outside_is_not_in : (k : ℕ) (r : PlainSpan) → IsOutside k r → is_in k r ≡ false
outside_is_not_in k r (inl h) = grind (arith, nat_tests)
outside_is_not_in k r (inr h) = grind (arith, nat_tests)

pub not_in_is_outside : (k : ℕ) (r : PlainSpan) → is_in k r ≡ false → IsOutside k r
not_in_is_outside k r e = elim (cases_lt k r.offset) [
  | inl h ↦ inl h
  | inr h ↦ elim (cases_lt k (r.offset + r.count)) [ inl g ↦ absurd (let t : is_in k r ≡ true = grind (arith, nat_tests) in cc) | inr g ↦ inr g ]
]

-- behind a write, what is settled was settled before and isn't in the range
pub settled_before_write : (o : ℕ) (b : List ℕ) (f : DiskFile) (k : ℕ) → IsSettled (write_file o b f) k → IsSettled f k × IsOutside k (record { offset = o; count = length b })
unfolding write_file
settled_before_write o b f k s =
    let r : PlainSpan = record { offset = o; count = length b } in
    let parts = or_parts _ _ (sym (list_any-append (is_in k) f.ranges (r ∷ [])) ∙ s.untouched) in
    (record { below = s.below; untouched = parts.0 }, not_in_is_outside k r (or_parts _ _ parts.1).0)

pub settled_after_write : (o : ℕ) (b : List ℕ) (f : DiskFile) (k : ℕ) → IsSettled f k → IsOutside k (record { offset = o; count = length b }) → IsSettled (write_file o b f) k
unfolding write_file
settled_after_write o b f k s out =
    let r : PlainSpan = record { offset = o; count = length b } in
    record { below = s.below; untouched = list_any-append (is_in k) f.ranges (r ∷ []) ∙ ap (λ (c : Bool). c || (is_in k r || false)) s.untouched ∙ ap (λ (c : Bool). c || false) (outside_is_not_in k r out) }

pub seen_outside_write : (o : ℕ) (b : List ℕ) (f : DiskFile) (k : ℕ) → k < length f.seen → IsOutside k (record { offset = o; count = length b }) → slice_index (write_file o b f).seen k ≡ slice_index f.seen k
unfolding write_file
seen_outside_write o b f k below (inl h) = spliced_before f.seen o b k h below
seen_outside_write o b f k below (inr h) = spliced_behind f.seen o b k h

-- soundness

pub sound_clean : (b : List ℕ) → AreBytes b → IsSound (clean b)
unfolding clean
sound_clean b h = record { no_shorter = omega arith; agrees = λ k s. refl; seen_bytes = h; synced_bytes = h }

pub sound_write : (o : ℕ) (b : List ℕ) (f : DiskFile) → AreBytes b → IsSound f → IsSound (write_file o b f)
unfolding write_file
sound_write o b f h s = record {
  no_shorter = omega (arith, s.no_shorter, length-spliced f.seen o b);
  agrees = λ k t. (let before = settled_before_write o b f k t in
      seen_outside_write o b f k (omega (arith, before.0.below, s.no_shorter)) before.1 ∙ s.agrees k before.0);
  seen_bytes = bytes_spliced f.seen o b s.seen_bytes h;
  synced_bytes = s.synced_bytes;
}

-- images

-- what is read is an image, and so is what was synced
pub seen_is_image : (d : Disk) → IsSoundDisk d → IsImage d (seen_of d)
seen_is_image d s p = image_of_each (λ f. f.seen) (d p) (if_file_more IsSound (λ f. IsFileImage f f.seen) (d p) seen_is_file_image (s p))

pub synced_is_image : (d : Disk) → IsSoundDisk d → IsImage d (λ path. option_map (λ f. f.synced) (d path))
synced_is_image d s p = image_of_each (λ f. f.synced) (d p) (if_file_more IsSound (λ f. IsFileImage f f.synced) (d p) synced_is_file_image (s p))

-- of a file of which nothing is pending there is one image
pub image_of_clean : (b i : List ℕ) → IsFileImage (clean b) i → i ≡ b
unfolding clean
image_of_clean b i h =
    let same : length i ≡ length b = omega (arith, h.no_shorter, h.no_longer) in
    ext_get_or 0 i b same (λ k below. h.fixed k (record { below = omega (arith, same, below); untouched = refl }))

pub clean_image : (b : List ℕ) → AreBytes b → IsFileImage (clean b) b
unfolding clean
clean_image b h = record { no_shorter = omega arith; no_longer = omega arith; fixed = λ k s. refl; are_bytes = h }

-- a sync takes images away and adds none
pub image_before_sync : (f : DiskFile) (i : List ℕ) → IsSound f → IsFileImage (sync_file f) i → IsFileImage f i
image_before_sync f i s h = subst (λ (b : List ℕ). IsFileImage f b) (sym (image_of_clean f.seen i h)) (seen_is_file_image f s)

-- the disk's image at a path is one of the file there
pub image_at : (d e : Disk) (p : List ℕ) (i : Image) → IsImage d i → d p ≡ e p → MayLeave (e p) (i p)
image_at d e p i h same = subst (λ (o : Option DiskFile). MayLeave o (i p)) same (h p)

synced_left : (o : Option DiskFile) (found : Option (List ℕ)) → MayLeave (option_map sync_file o) found → found ≡ option_map (λ f. f.seen) o
synced_left None None h = refl
synced_left None (Some b) h = absurd h
synced_left (Some f) None h = absurd h
synced_left (Some f) (Some b) h = ap (λ (x : List ℕ). Some x) (image_of_clean f.seen b h)

-- after a sync a crash leaves what is read
pub synced_image_here : (p : List ℕ) (d : Disk) (i : Image) → IsImage (synced_at p d) i → i p ≡ seen_of d p
synced_image_here p d i h = synced_left (d p) (i p) (subst (λ (o : Option DiskFile). MayLeave o (i p)) (with_file-same p (option_map sync_file (d p)) d) (h p))

left_before : (o : Option DiskFile) (found : Option (List ℕ)) → IfFile IsSound o → MayLeave (option_map sync_file o) found → MayLeave o found
left_before None None s h = tt
left_before None (Some b) s h = absurd h
left_before (Some f) None s h = absurd h
left_before (Some f) (Some b) s h = image_before_sync f b s h

-- a change of one file adds no image to the disk where it adds none to the file
pub images_with_file : (p : List ℕ) (x y : Option DiskFile) (d : Disk) → ((found : Option (List ℕ)) → MayLeave x found → MayLeave y found) → HasImagesOf (with_file p y d) (with_file p x d)
unfolding with_file
images_with_file p x y d gives i h q = go (bytes_eq p q) (h q)
  where
    go : (b : Bool) → MayLeave (if b then x else d q) (i q) → MayLeave (if b then y else d q) (i q)
    go true g = gives (i q) g
    go false g = g

with_own : (p : List ℕ) (d : Disk) → HasImagesOf d (with_file p (d p) d)
unfolding with_file
with_own p d i h q = go (bytes_eq p q) refl (h q)
  where
    go : (b : Bool) → bytes_eq p q ≡ b → MayLeave (if b then d p else d q) (i q) → MayLeave (d q) (i q)
    go true e g = subst (λ (r : List ℕ). MayLeave (d r) (i q)) ((bytes_eq-Decides p q).0 e) g
    go false e g = g

-- a sync adds no image to the disk
pub synced_images : (p : List ℕ) (d : Disk) → IsSoundDisk d → HasImagesOf d (synced_at p d)
synced_images p d s i h = with_own p d i (images_with_file p (option_map sync_file (d p)) (d p) d (λ found. left_before (d p) found (s p)) i h)

-- a later disk with no other images: what all images have stays, and so on to a third disk
pub images_keep : (P : Image → Type 0) (d e : Disk) → HasImagesOf d e → ((i : Image) → IsImage d i → P i) → (i : Image) → IsImage e i → P i
images_keep P d e has all i image = all i (has i image)

pub images_more : (d e f : Disk) → HasImagesOf d e → HasImagesOf e f → HasImagesOf d f
images_more d e f one two i image = one i (two i image)

-- a write of some of the bytes, in their place, leaves what the whole write may leave
part_outside : (k o from n m : ℕ) → from + n ≤ m → IsOutside k (record { offset = o; count = m }) → IsOutside k (record { offset = o + from; count = n })
part_outside k o from n m h (inl g) = inl (omega (arith, g))
part_outside k o from n m h (inr g) = inr (omega (arith, h, g))

part_image : (o from n : ℕ) (b i : List ℕ) (f : DiskFile) → from ≤ length b → IsFileImage (write_file (o + from) (take n (drop from b)) f) i → IsFileImage (write_file o b f) i
unfolding write_file
part_image o from n b i f within h = record {
  no_shorter = h.no_shorter;
  no_longer = omega (arith, h.no_longer, sizes);
  fixed = λ k s. (let before = settled_before_write o b f k s in
      let out = part_outside k o from (length piece) (length b) part before.1 in
      h.fixed k (settled_after_write (o + from) piece f k before.0 out) ∙ same_seen k before.1);
  are_bytes = h.are_bytes;
}
  where
    piece : List ℕ
    piece = take n (drop from b)

    part : from + length (take n (drop from b)) ≤ length b
    part = omega (arith, within, length-take n (drop from b), length-drop from b)

    sizes : length (spliced f.seen (o + from) (take n (drop from b))) ≤ length (spliced f.seen o b)
    sizes = omega (arith, length-spliced f.seen (o + from) (take n (drop from b)), length-spliced f.seen o b, part)

    same_seen : (k : ℕ) → IsOutside k (record { offset = o; count = length b }) → slice_index (spliced f.seen (o + from) (take n (drop from b))) k ≡ slice_index (spliced f.seen o b) k
    same_seen k (inl h) = elim (cases_lt k (length f.seen)) [
      | inl there ↦ spliced_before f.seen (o + from) (take n (drop from b)) k (omega (arith, h)) there ∙ sym (spliced_before f.seen o b k h there)
      | inr past ↦ spliced_gap f.seen (o + from) (take n (drop from b)) k (omega (arith, h)) past ∙ sym (spliced_gap f.seen o b k h past)
    ]
    same_seen k (inr h) = spliced_behind f.seen (o + from) (take n (drop from b)) k (omega (arith, h, part)) ∙ sym (spliced_behind f.seen o b k h)

part_left : (o from n : ℕ) (b : List ℕ) → from ≤ length b → (x : Option DiskFile) (found : Option (List ℕ)) → MayLeave (option_map (write_file (o + from) (take n (drop from b))) x) found → MayLeave (option_map (write_file o b) x) found
part_left o from n b within None found h = h
part_left o from n b within (Some f) None h = h
part_left o from n b within (Some f) (Some i) h = part_image o from n b i f within h

pub part_images : (p : List ℕ) (o from n : ℕ) (b : List ℕ) (d : Disk) → from ≤ length b → HasImagesOf (wrote p o b d) (wrote p (o + from) (take n (drop from b)) d)
part_images p o from n b d within = images_with_file p (option_map (write_file (o + from) (take n (drop from b))) (d p)) (option_map (write_file o b) (d p)) d (part_left o from n b within (d p))

-- a sync changes nothing that is read

seen_synced : (x : Option DiskFile) → option_map (λ (f : DiskFile). f.seen) (option_map sync_file x) ≡ option_map (λ (f : DiskFile). f.seen) x
unfolding clean
seen_synced None = refl
seen_synced (Some f) = refl

pub synced_reads : (p : List ℕ) (d : Disk) (q : List ℕ) → seen_of (synced_at p d) q ≡ seen_of d q
unfolding with_file
synced_reads p d q = go (bytes_eq p q) refl
  where
    go : (b : Bool) → bytes_eq p q ≡ b → option_map (λ (f : DiskFile). f.seen) (if b then option_map sync_file (d p) else d q) ≡ seen_of d q
    go true e = seen_synced (d p) ∙ ap (λ (r : List ℕ). seen_of d r) ((bytes_eq-Decides p q).0 e)
    go false e = refl
