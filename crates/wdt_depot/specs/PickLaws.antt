-- Each pick takes an image, and leaves nothing pending.
use Rattle.std.proofs.Common.{◌≡◌, ℕ, zero, suc, ◌+◌, ◌<◌, List, [], ◌∷◌, length, get_or, Option, Some, None, Bool, true, false, refl, sym, ◌∙◌, ap, arith}
use Rattle.std.specs.Prelude.{if◌then◌else◌, ◌==◌, ◌%◌, ◌&&◌, not, nat_lt, option_map}
use Rattle.std.specs.List.{list_any}
use Rattle.std.proofs.lemmas.Bool.Decides.{nat_tests}
use Rattle.wdt_units.specs.Have.{PlainSpan, is_in}
use Rattle.wdt_depot.specs.Disk.{AreBytes, Disk, DiskFile, IfFile, IsClean, IsFileImage, IsImage, IsSettled, IsSound, IsSoundDisk, MayLeave, clean, seen_of}
use Rattle.wdt_depot.specs.Picks.{is_settled, patterned, picked_bytes, picked_disk}

-- a crash may leave a file's bytes as read
pub seen_is_file_image : (f : DiskFile) → IsSound f → IsFileImage f f.seen
seen_is_file_image f s = record { no_shorter = s.no_shorter; no_longer = omega arith; fixed = λ k t. refl; are_bytes = s.seen_bytes }

-- it may leave its bytes at the last sync
pub synced_is_file_image : (f : DiskFile) → IsSound f → IsFileImage f f.synced
synced_is_file_image f s = record { no_shorter = omega arith; no_longer = s.no_shorter; fixed = λ k t. sym (s.agrees k t); are_bytes = s.synced_bytes }

-- one image, a file at a time
pub image_of_each : (g : DiskFile → List ℕ) (o : Option DiskFile) → IfFile (λ f. IsFileImage f (g f)) o → MayLeave o (option_map g o)
image_of_each g None h = tt
image_of_each g (Some f) h = h

-- what follows from P of a file is said where P is
pub if_file_more : (P Q : DiskFile → Type 0) (o : Option DiskFile) → ((f : DiskFile) → P f → Q f) → IfFile P o → IfFile Q o
if_file_more P Q None f h = tt
if_file_more P Q (Some x) f h = f x h

-- the pattern leaves as many bytes as there were
pub length-patterned : (pick size : ℕ) (ranges : List PlainSpan) (k : ℕ) (bs : List ℕ) → length (patterned pick size ranges k bs) ≡ length bs
length-patterned pick size ranges k [] = refl
length-patterned pick size ranges k (b ∷ bs) = omega (arith, length-patterned pick size ranges (suc k) bs)

-- what is settled stays
patterned_settled : (pick size : ℕ) (ranges : List PlainSpan) (k : ℕ) (bs : List ℕ) (i n : ℕ) → n ≡ k + i → is_settled size ranges n ≡ true → get_or (patterned pick size ranges k bs) i 0 ≡ get_or bs i 0
patterned_settled pick size ranges k [] i n e settled = refl
patterned_settled pick size ranges k (b ∷ bs) zero n e settled =
    let at : n ≡ k = omega (arith, e) in
    ap (λ (c : Bool). if c then b else (pick + k) % 256) (ap (λ (m : ℕ). is_settled size ranges m) (sym at) ∙ settled)
patterned_settled pick size ranges k (b ∷ bs) (suc i) n e settled = patterned_settled pick size ranges (suc k) bs i n (omega (arith, e)) settled

byte_or : (c : Bool) (b n : ℕ) → b < 256 → (if c then b else n % 256) < 256
byte_or true b n h = h
byte_or false b n h = omega arith

patterned_bytes : (pick size : ℕ) (ranges : List PlainSpan) (k : ℕ) (bs : List ℕ) → AreBytes bs → AreBytes (patterned pick size ranges k bs)
patterned_bytes pick size ranges k [] h i = h i
patterned_bytes pick size ranges k (b ∷ bs) h zero = byte_or (is_settled size ranges k) b (pick + k) (h 0)
patterned_bytes pick size ranges k (b ∷ bs) h (suc i) = patterned_bytes pick size ranges (suc k) bs (λ j. h (suc j)) i

settled_test : (f : DiskFile) (k : ℕ) → IsSettled f k → is_settled (length f.synced) f.ranges k ≡ true
settled_test f k s =
    let below : nat_lt k (length f.synced) ≡ true = grind (arith, nat_tests, s.below) in
    ap (λ (b : Bool). b && not (list_any (is_in k) f.ranges)) below ∙ ap (λ (b : Bool). true && not b) s.untouched

patterned_image : (pick : ℕ) (f : DiskFile) → IsSound f → IsFileImage f (patterned pick (length f.synced) f.ranges 0 f.seen)
patterned_image pick f s = record {
  no_shorter = omega (arith, s.no_shorter, length-patterned pick (length f.synced) f.ranges 0 f.seen);
  no_longer = omega (arith, length-patterned pick (length f.synced) f.ranges 0 f.seen);
  fixed = λ k h. patterned_settled pick (length f.synced) f.ranges 0 f.seen k k (omega arith) (settled_test f k h);
  are_bytes = patterned_bytes pick (length f.synced) f.ranges 0 f.seen s.seen_bytes;
}

either_image : (f : DiskFile) (b : Bool) (i j : List ℕ) → IsFileImage f i → IsFileImage f j → IsFileImage f (if b then i else j)
either_image f true i j h k = h
either_image f false i j h k = k

-- a crash may leave what a pick takes of a file
pub picked_image : (pick : ℕ) (f : DiskFile) → IsSound f → IsFileImage f (picked_bytes pick f)
unfolding picked_bytes
picked_image pick f s = either_image f (pick == 0) _ _ (synced_is_file_image f s) (either_image f (pick == 1) _ _ (seen_is_file_image f s) (patterned_image pick f s))

file_left : (pick : ℕ) (o : Option DiskFile) → IfFile IsSound o → MayLeave o (option_map (λ f. f.seen) (option_map (λ f. clean (picked_bytes pick f)) o)) × IfFile IsClean (option_map (λ f. clean (picked_bytes pick f)) o)
unfolding clean
file_left pick None h = (tt, tt)
file_left pick (Some f) h = (picked_image pick f h, refl)

-- a crash may leave what a pick takes of a disk, and nothing is pending in that
pub picks_image : (d : Disk) (pick : ℕ) → IsSoundDisk d → IsImage d (seen_of (picked_disk d pick)) × ((path : List ℕ) → IfFile IsClean (picked_disk d pick path))
unfolding picked_disk
picks_image d pick s = (λ path. (file_left pick (d path) (s path)).0, λ path. (file_left pick (d path) (s path)).1)
