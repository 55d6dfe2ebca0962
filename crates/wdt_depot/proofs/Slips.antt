-- What is a slip of a memory depot.
use Rattle.std.proofs.Common.{◌≡◌, ℕ, ◌<◌, List, length, Option, Some, None, Bool, true, false, refl, sym, ◌∙◌, ap, subst, get_or}
use Rattle.std.specs.Prelude.{◌&&◌, ◌%◌, ◌^◌, ◌==◌, if◌then◌else◌, is_none, map, nat_lt, option_map}
use Rattle.std.specs.Str.{bytes_eq}
use Rattle.std.proofs.lemmas.Slice.Eq.{bytes_eq-Decides}
use Rattle.wdt_depot.specs.declared.memory.place.Place.{Place}
use Rattle.wdt_depot.specs.declared.memory.store.Store.{Store}
use Rattle.wdt_depot.specs.Disk.{Disk, DiskFile, place_file, placed, with_file, wrote}
use Rattle.wdt_depot.specs.Memory.{told_in}
use Rattle.wdt_depot.specs.Programs.{torn_write, when_odd}
use Rattle.wdt_depot.specs.Slots.{Slot, disk_of, file_of, slot_at, told_of}
use Rattle.wdt_depot.specs.State.{is_behind, is_far, is_past_end, lacks}
use Rattle.wdt_depot.specs.View.{index_of, slot_view}
use Rattle.wdt_depot.proofs.Owed.{at_view}

-- the file at a path, by its place
pub file_none : (s : Store) (path : List ℕ) → index_of s.index path ≡ None → (told_in s).now path ≡ None
unfolding told_of disk_of
file_none s path e = ap (λ (o : Option ℕ). option_map (λ i. file_of (slot_at i (map slot_view s.places.items))) o) e

pub file_some : (s : Store) (path : List ℕ) (i : ℕ) → index_of s.index path ≡ Some i → (told_in s).now path ≡ Some (file_of (slot_at i (map slot_view s.places.items)))
unfolding told_of disk_of
file_some s path i e = ap (λ (o : Option ℕ). option_map (λ k. file_of (slot_at k (map slot_view s.places.items))) o) e

pub lacks_none : (s : Store) (path : List ℕ) → index_of s.index path ≡ None → lacks path (told_in s).now ≡ true
lacks_none s path e = ap (λ (o : Option DiskFile). is_none o) (file_none s path e)

pub lacks_some : (s : Store) (path : List ℕ) (i : ℕ) → index_of s.index path ≡ Some i → lacks path (told_in s).now ≡ false
lacks_some s path i e = ap (λ (o : Option DiskFile). is_none o) (file_some s path i e)

-- nothing is put in place of nothing
pub placed_none : (source target : List ℕ) (d : Disk) → d source ≡ None → placed source target d ≡ d
placed_none source target d e = ap (λ (o : Option DiskFile). place_file source target o d) e

pub none_torn : (source target : List ℕ) (d : Disk) (pick : ℕ) → d source ≡ None → when_odd (placed source target) pick d ≡ d
none_torn source target d pick e = go (pick % 2 == 1)
  where
    go : (b : Bool) → (if b then placed source target d else d) ≡ d
    go true = placed_none source target d e
    go false = refl

-- a file put in its own place is where it was
placed_own : (p : List ℕ) (d : Disk) (o : Option DiskFile) → d p ≡ o → place_file p p o d ≡ d
unfolding with_file
placed_own p d None e = refl
placed_own p d (Some f) e = λ j q. go q (bytes_eq p q) refl j
  where
    go : (q : List ℕ) (b : Bool) → bytes_eq p q ≡ b → (if b then Some f else (if b then None else d q)) ≡ d q
    go q true h = sym e ∙ ap d ((bytes_eq-Decides p q).0 h)
    go q false h = refl

pub placed_same : (source target : List ℕ) (d : Disk) → source ≡ target → placed source target d ≡ d
placed_same source target d e = subst (λ (q : List ℕ). placed source q d ≡ d) e (placed_own source d (d source) refl)

-- a write past the end
pub past_torn : (path : List ℕ) (offset : ℕ) (bytes : List ℕ) (d : Disk) (pick : ℕ) → is_past_end offset (length bytes) ≡ true → torn_write path offset bytes pick d ≡ d
past_torn path offset bytes d pick e = ap (λ (b : Bool). if b then d else wrote path offset bytes d) e

pub within_torn : (path : List ℕ) (offset : ℕ) (bytes : List ℕ) (d : Disk) (pick : ℕ) → is_past_end offset (length bytes) ≡ false → torn_write path offset bytes pick d ≡ wrote path offset bytes d
within_torn path offset bytes d pick e = ap (λ (b : Bool). if b then d else wrote path offset bytes d) e

pub near_is_no_slip : (path : List ℕ) (offset count : ℕ) (d : Disk) → is_past_end offset count ≡ false → is_far path offset count d ≡ false
near_is_no_slip path offset count d e = ap (λ (b : Bool). b && nat_lt (2 ^ 40) offset && is_behind offset (d path)) e

pub far_is_slip : (s : Store) (path : List ℕ) (i offset count : ℕ) (x : Place) (far : Bool) → index_of s.index path ≡ Some i → i < length s.places.items → x ≡ get_or s.places.items i x → is_past_end offset count ≡ true → far ≡ (nat_lt (2 ^ 40) offset && is_behind offset (Some (file_of (slot_view x)))) → far ≡ is_far path offset count (told_in s).now
far_is_slip s path i offset count x far there below at past is =
    let d : Disk = (told_in s).now in
    let file : d path ≡ Some (file_of (slot_view x)) = file_some s path i there ∙ ap (λ (y : Slot). Some (file_of y)) (sym (at_view s.places.items i x below at)) in
    is ∙ (ap (λ (o : Option DiskFile). nat_lt (2 ^ 40) offset && is_behind offset o) (sym file) ∙ sym (ap (λ (b : Bool). b && nat_lt (2 ^ 40) offset && is_behind offset (d path)) past))
