-- An image of a disk that was written to, or where a file was made, has one of the disk before beside it.
use Rattle.std.proofs.Common.{◌≡◌, ℕ, zero, suc, ◌+◌, ◌<◌, min, Bool, true, false, List, [], ◌∷◌, length, Option, Some, None, refl, sym, ap, ◌∙◌, subst, arith}
use Rattle.std.specs.Prelude.{if◌then◌else◌, option_map, slice_index}
use Rattle.std.specs.Str.{bytes_eq}
use Rattle.std.proofs.lemmas.Slice.Eq.{bytes_eq-Decides}
use Rattle.wdt_units.specs.Have.{is_in}
use Rattle.wdt_depot.specs.Disk.{AreBytes, Disk, DiskFile, IfFile, Image, IsFileImage, IsImage, IsOutside, IsSettled, IsSound, IsSoundDisk, MayLeave, seen_of, with_file, write_file, wrote}
use Rattle.wdt_depot.specs.Rewritten.{IsFileRewritten, IsImageRewritten, IsRewritten, IsSameElsewhere, range_at}
use Rattle.wdt_depot.proofs.Images.{bytes_eq-same, not_in_is_outside, outside_is_not_in, seen_is_image, seen_outside_write, settled_after_write, with_file-other, with_file-same}
use Rattle.wdt_depot.proofs.Writes.{length-spliced}

-- ---- bytes

-- where the test holds the second's byte, elsewhere the first's; as long as the shorter
patched : (ℕ → Bool) → ℕ → List ℕ → List ℕ → List ℕ
patched inside at [] ys = []
patched inside at (x ∷ xs) [] = []
patched inside at (x ∷ xs) (y ∷ ys) = (if inside at then y else x) ∷ patched inside (at + 1) xs ys

patched-length : (inside : ℕ → Bool) (at : ℕ) (xs ys : List ℕ) → length (patched inside at xs ys) ≡ min (length xs) (length ys)
unfolding patched
patched-length inside at [] ys = omega arith
patched-length inside at (x ∷ xs) [] = omega arith
patched-length inside at (x ∷ xs) (y ∷ ys) = omega (arith, patched-length inside (at + 1) xs ys)

patched-at : (inside : ℕ → Bool) (at : ℕ) (xs ys : List ℕ) (k : ℕ) → k < length xs → k < length ys → slice_index (patched inside at xs ys) k ≡ (if inside (at + k) then slice_index ys k else slice_index xs k)
unfolding patched
patched-at inside at [] ys k h g = absurd (omega (arith, h))
patched-at inside at (x ∷ xs) [] k h g = absurd (omega (arith, g))
patched-at inside at (x ∷ xs) (y ∷ ys) zero h g = ap (λ (n : ℕ). if inside n then y else x) (omega arith)
patched-at inside at (x ∷ xs) (y ∷ ys) (suc k) h g =
    let same : at + 1 + k ≡ at + suc k = omega arith in
    patched-at inside (at + 1) xs ys k (omega (arith, h)) (omega (arith, g)) ∙ ap (λ (n : ℕ). if inside n then slice_index ys k else slice_index xs k) same

either_byte : (b : Bool) (x y : ℕ) → x < 256 → y < 256 → (if b then y else x) < 256
either_byte true x y h g = g
either_byte false x y h g = h

patched-bytes : (inside : ℕ → Bool) (at : ℕ) (xs ys : List ℕ) → AreBytes xs → AreBytes ys → AreBytes (patched inside at xs ys)
unfolding patched
patched-bytes inside at [] ys h g k = h k
patched-bytes inside at (x ∷ xs) [] h g k = g k
patched-bytes inside at (x ∷ xs) (y ∷ ys) h g zero = either_byte (inside at) x y (h 0) (g 0)
patched-bytes inside at (x ∷ xs) (y ∷ ys) h g (suc k) = patched-bytes inside (at + 1) xs ys (λ j. h (suc j)) (λ j. g (suc j)) k

-- ---- an image with another file at a path

image_with : List ℕ → Option (List ℕ) → Image → Image
image_with path b i q = if bytes_eq path q then b else i q

image_with-same : (path : List ℕ) (b : Option (List ℕ)) (i : Image) → image_with path b i path ≡ b
unfolding image_with
image_with-same path b i = ap (λ (t : Bool). if t then b else i path) (bytes_eq-same path)

image_with-other : (path q : List ℕ) (b : Option (List ℕ)) (i : Image) → bytes_eq path q ≡ false → image_with path b i q ≡ i q
unfolding image_with
image_with-other path q b i e = ap (λ (t : Bool). if t then b else i q) e

image_back : (path : List ℕ) (x : Option DiskFile) (b : Option (List ℕ)) (d : Disk) (i : Image) → IsImage (with_file path x d) i → MayLeave (d path) b → IsImage d (image_with path b i)
unfolding with_file image_with
image_back path x b d i image here q = go (bytes_eq path q) refl (image q)
  where
    go : (t : Bool) → bytes_eq path q ≡ t → MayLeave (if t then x else d q) (i q) → MayLeave (d q) (if t then b else i q)
    go true e h = subst (λ (r : List ℕ). MayLeave (d r) b) ((bytes_eq-Decides path q).0 e) here
    go false e h = h

-- a change at one path: the image of before has what is read there
pub change_back : (path : List ℕ) (x : Option DiskFile) (d : Disk) (i : Image) → IsSoundDisk d → IsImage (with_file path x d) i → (j : Image) × IsImage d j × IsSameElsewhere path j i
change_back path x d i sound image = (
  image_with path (seen_of d path) i,
  image_back path x (seen_of d path) d i image (seen_is_image d sound path),
  λ other e. sym (image_with-other path other (seen_of d path) i e),
)

-- ---- a write

module _ (o : ℕ) (bytes : List ℕ) (x : DiskFile) (sound : IsSound x) where
  -- an image of the file before the write that agrees with one after it outside the range
  before : List ℕ → List ℕ
  before b = patched (λ k. is_in k (range_at o (length bytes))) 0 b x.seen

  before-outside : (b : List ℕ) (k : ℕ) → k < length b → k < length x.seen → IsOutside k (range_at o (length bytes)) → slice_index (before b) k ≡ slice_index b k
  unfolding before
  before-outside b k h g out =
      let zero_plus : 0 + k ≡ k = omega arith in
      patched-at (λ m. is_in m (range_at o (length bytes))) 0 b x.seen k h g
      ∙ ap (λ (m : ℕ). if is_in m (range_at o (length bytes)) then slice_index x.seen k else slice_index b k) zero_plus
      ∙ ap (λ (t : Bool). if t then slice_index x.seen k else slice_index b k) (outside_is_not_in k (range_at o (length bytes)) out)

  before-is : (b : List ℕ) → IsFileImage (write_file o bytes x) b → IsFileImage x (before b)
  unfolding before write_file
  before-is b left = record {
    no_shorter = omega (arith, left.no_shorter, sound.no_shorter, size);
    no_longer = omega (arith, size);
    fixed = fixed;
    are_bytes = patched-bytes (λ m. is_in m (range_at o (length bytes))) 0 b x.seen left.are_bytes sound.seen_bytes;
  }
    where
      size : length (patched (λ m. is_in m (range_at o (length bytes))) 0 b x.seen) ≡ min (length b) (length x.seen)
      size = patched-length (λ m. is_in m (range_at o (length bytes))) 0 b x.seen

      fixed : (k : ℕ) → IsSettled x k → slice_index (patched (λ m. is_in m (range_at o (length bytes))) 0 b x.seen) k ≡ slice_index x.seen k
      fixed k settled = go (is_in k (range_at o (length bytes))) refl
        where
          in_b : k < length b
          in_b = omega (arith, settled.below, left.no_shorter)

          in_x : k < length x.seen
          in_x = omega (arith, settled.below, sound.no_shorter)

          at_k : (t : Bool) → is_in k (range_at o (length bytes)) ≡ t → slice_index (patched (λ m. is_in m (range_at o (length bytes))) 0 b x.seen) k ≡ (if t then slice_index x.seen k else slice_index b k)
          at_k t e =
              let zero_plus : 0 + k ≡ k = omega arith in
              patched-at (λ m. is_in m (range_at o (length bytes))) 0 b x.seen k in_b in_x
              ∙ ap (λ (m : ℕ). if is_in m (range_at o (length bytes)) then slice_index x.seen k else slice_index b k) zero_plus
              ∙ ap (λ (u : Bool). if u then slice_index x.seen k else slice_index b k) e

          go : (t : Bool) → is_in k (range_at o (length bytes)) ≡ t → slice_index (patched (λ m. is_in m (range_at o (length bytes))) 0 b x.seen) k ≡ slice_index x.seen k
          go true e = at_k true e
          go false e =
              let out = not_in_is_outside k (range_at o (length bytes)) e in
              at_k false e ∙ left.fixed k (settled_after_write o bytes x k settled out) ∙ seen_outside_write o bytes x k in_x out

  before-length : (b : List ℕ) → length (before b) ≡ min (length b) (length x.seen)
  unfolding before
  before-length b = patched-length (λ m. is_in m (range_at o (length bytes))) 0 b x.seen

  before-rewritten : (b : List ℕ) → IsRewritten o (length bytes) (before b) b
  before-rewritten b k h out =
      let size = before-length b in
      (omega (arith, h, size), sym (before-outside b k (omega (arith, h, size)) (omega (arith, h, size)) out))

-- what is read
read-rewritten : (o : ℕ) (bytes : List ℕ) (x : DiskFile) → IsRewritten o (length bytes) x.seen (write_file o bytes x).seen
unfolding write_file
read-rewritten o bytes x k h out = (omega (arith, h, length-spliced x.seen o bytes), seen_outside_write o bytes x k h out)

-- a file's image after a write, and one before it
file_back : (o : ℕ) (bytes : List ℕ) (x : Option DiskFile) (found : Option (List ℕ)) → IfFile IsSound x → MayLeave (option_map (write_file o bytes) x) found → (was : Option (List ℕ)) × MayLeave x was × IsFileRewritten o (length bytes) was found
file_back o bytes None None sound left = (None, tt, tt)
file_back o bytes None (Some b) sound left = absurd left
file_back o bytes (Some x) None sound left = absurd left
file_back o bytes (Some x) (Some b) sound left = (Some (before o bytes x sound b), before-is o bytes x sound b left, before-rewritten o bytes x sound b)

file_read : (o : ℕ) (bytes : List ℕ) (x : Option DiskFile) → IsFileRewritten o (length bytes) (option_map (λ (f : DiskFile). f.seen) x) (option_map (λ (f : DiskFile). f.seen) (option_map (write_file o bytes) x))
file_read o bytes None = tt
file_read o bytes (Some x) = read-rewritten o bytes x

-- each image after a write has one before it beside it
pub write_back : (path : List ℕ) (o : ℕ) (bytes : List ℕ) (d : Disk) (i : Image) → IsSoundDisk d → IsImage (wrote path o bytes d) i → (j : Image) × IsImage d j × IsImageRewritten path o (length bytes) j i
write_back path o bytes d i sound image =
    let new : Option DiskFile = option_map (write_file o bytes) (d path) in
    let back = file_back o bytes (d path) (i path) (sound path) (subst (λ (y : Option DiskFile). MayLeave y (i path)) (with_file-same path new d) (image path)) in (
      image_with path back.0 i,
      image_back path new back.0 d i image back.1,
      record {
        others = λ other e. sym (image_with-other path other back.0 i e);
        here = subst (λ (y : Option (List ℕ)). IsFileRewritten o (length bytes) y (i path)) (sym (image_with-same path back.0 i)) back.2;
      },
    )

-- and so for what is read
pub write_reads : (path : List ℕ) (o : ℕ) (bytes : List ℕ) (d : Disk) → IsImageRewritten path o (length bytes) (seen_of d) (seen_of (wrote path o bytes d))
write_reads path o bytes d =
    let new : Option DiskFile = option_map (write_file o bytes) (d path) in
    record {
      others = λ other e. ap (option_map (λ (f : DiskFile). f.seen)) (with_file-other path other new d e);
      here = subst (λ (y : Option DiskFile). IsFileRewritten o (length bytes) (seen_of d path) (option_map (λ (f : DiskFile). f.seen) y)) (sym (with_file-same path new d)) (file_read o bytes (d path));
    }
