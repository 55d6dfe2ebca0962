-- What is kept of a file in memory, call by call.
use Rattle.std.proofs.Common.{◌≡◌, inl, ℕ, ◌+◌, ◌<◌, ◌≤◌, min, Bool, true, false, List, [], ◌∷◌, ◌++◌, length, take, drop, map, refl, sym, ◌∙◌, ap, subst, arith}
use Rattle.std.specs.Prelude.{nat_le, ◌&&◌, ◌||◌}
use Rattle.std.specs.List.{list_any, list_all}
use Rattle.std.proofs.lemmas.Bool.{and_parts, and_from}
use Rattle.std.proofs.lemmas.Bool.Decides.{nat_tests}
use Rattle.std.proofs.lemmas.List.{map-append, length-take, get_or-take, ext_get_or, take-append-drop}
use Rattle.std.proofs.lemmas.List.Folds.{list_all-append}
use Rattle.wdt_units.specs.Have.{is_in}
use Rattle.wdt_depot.specs.Disk.{AreBytes, IsFileImage, IsSettled, IsSound, clean, spliced, write_file}
use Rattle.wdt_depot.specs.Slots.{Change, IsPlace, before_all, change_of, file_with, range_of, undo_change}
use Rattle.wdt_depot.proofs.Images.{outside_is_not_in, sound_clean, sound_write}
use Rattle.wdt_depot.proofs.Splices.{restored-spliced}

-- writes taken back, with one more

pub before_all-more : (cs : List Change) (c : Change) (b : List ℕ) → before_all (cs ++ c ∷ []) b ≡ before_all cs (undo_change c b)
before_all-more [] c b = refl
before_all-more (x ∷ cs) c b = ap (λ (l : List ℕ). undo_change x l) (before_all-more cs c b)

pub before_all-wrote : (cs : List Change) (o : ℕ) (b old : List ℕ) → before_all (cs ++ change_of o b old ∷ []) (spliced old o b) ≡ before_all cs old
before_all-wrote cs o b old = before_all-more cs (change_of o b old) (spliced old o b) ∙ ap (λ (l : List ℕ). before_all cs l) (restored-spliced old o b)

-- the plain files

pub file_with-wrote : (old : List ℕ) (cs : List Change) (o : ℕ) (b : List ℕ) → file_with (spliced old o b) (cs ++ change_of o b old ∷ []) ≡ write_file o b (file_with old cs)
unfolding write_file
file_with-wrote old cs o b =
    let synced : before_all (cs ++ change_of o b old ∷ []) (spliced old o b) ≡ before_all cs old = before_all-wrote cs o b old in
    let ranges : map range_of (cs ++ change_of o b old ∷ []) ≡ map range_of cs ++ record { offset = o; count = length b } ∷ [] = map-append range_of cs (change_of o b old ∷ []) in
    λ j. record { seen = spliced old o b; synced = synced j; ranges = ranges j }

pub file_with-none : (b : List ℕ) → file_with b [] ≡ clean b
unfolding clean
file_with-none b = refl

-- what is kept

all_above : (low less : ℕ) (cs : List Change) → less ≤ low → list_all (λ (c : Change). nat_le low c.offset) cs ≡ true → list_all (λ (c : Change). nat_le less c.offset) cs ≡ true
all_above low less [] h all = refl
all_above low less (c ∷ cs) h all =
    let parts = and_parts (nat_le low c.offset) (list_all (λ (x : Change). nat_le low x.offset) cs) all in
    let here : nat_le less c.offset ≡ true = let was : nat_le low c.offset ≡ true = parts.0 in grind (arith, nat_tests) in
    and_from (nat_le less c.offset) (list_all (λ (x : Change). nat_le less x.offset) cs) here (all_above low less cs h parts.1)

pub place_clean : (b : List ℕ) (room : ℕ) → AreBytes b → IsPlace b [] (length b) (length b) room
place_clean b room h = record {
  sound = subst IsSound (sym (file_with-none b)) (sound_clean b h);
  size = refl;
  low_synced = omega arith;
  low_changes = refl;
  enough = omega arith;
}

pub place_wrote : (old : List ℕ) (cs : List Change) (synced low room o : ℕ) (b : List ℕ) (more : ℕ) → IsPlace old cs synced low room → AreBytes b → length (spliced old o b) ≤ min low o + more
    → IsPlace (spliced old o b) (cs ++ change_of o b old ∷ []) synced (min low o) more
place_wrote old cs synced low room o b more p h enough =
    let c : Change = change_of o b old in
    let here : nat_le (min low o) o ≡ true = grind (arith, nat_tests) in
    record {
      sound = subst IsSound (sym (file_with-wrote old cs o b)) (sound_write o b (file_with old cs) h p.sound);
      size = p.size ∙ sym (ap (λ (l : List ℕ). length l) (before_all-wrote cs o b old));
      low_synced = omega (arith, p.low_synced);
      low_changes = list_all-append (λ (x : Change). nat_le (min low o) x.offset) cs (c ∷ [])
          ∙ and_from (list_all (λ (x : Change). nat_le (min low o) x.offset) cs) (nat_le (min low o) o && true) (all_above low (min low o) cs (omega arith) p.low_changes) (and_from (nat_le (min low o) o) true here refl);
      enough = enough;
    }

-- room does no harm
pub place_roomy : (b : List ℕ) (cs : List Change) (synced low room more : ℕ) → IsPlace b cs synced low room → room ≤ more → IsPlace b cs synced low more
place_roomy b cs synced low room more p h = record { sound = p.sound; size = p.size; low_synced = p.low_synced; low_changes = p.low_changes; enough = omega (arith, p.enough, h) }

-- below the low place all is settled

none_or : (a b : Bool) → a ≡ false → b ≡ false → (a || b) ≡ false
none_or true b h g = h
none_or false b h g = g

none_below : (low k : ℕ) (cs : List Change) → k < low → list_all (λ (c : Change). nat_le low c.offset) cs ≡ true → list_any (is_in k) (map range_of cs) ≡ false
none_below low k [] h all = refl
none_below low k (c ∷ cs) h all =
    let parts = and_parts (nat_le low c.offset) (list_all (λ (x : Change). nat_le low x.offset) cs) all in
    let above : low ≤ c.offset = let was : nat_le low c.offset ≡ true = parts.0 in grind (arith, nat_tests) in
    let out : is_in k (range_of c) ≡ false = outside_is_not_in k (range_of c) (inl (omega (arith, h, above))) in
    none_or (is_in k (range_of c)) (list_any (is_in k) (map range_of cs)) out (none_below low k cs h parts.1)

pub settled_below : (b : List ℕ) (cs : List Change) (synced low room k : ℕ) → IsPlace b cs synced low room → k < low → IsSettled (file_with b cs) k
settled_below b cs synced low room k p h = record { below = omega (arith, h, p.low_synced, p.size); untouched = none_below low k cs h p.low_changes }

-- any image, with the bytes from there on, gives what was read before
pub reopened-back : (b : List ℕ) (cs : List Change) (synced low room : ℕ) (i : List ℕ) → IsPlace b cs synced low room → IsFileImage (file_with b cs) i → take low i ++ drop low b ≡ b
reopened-back b cs synced low room i p h =
    let in_image : low ≤ length i = omega (arith, p.low_synced, p.size, h.no_shorter) in
    let in_file : low ≤ length b = omega (arith, p.low_synced, p.size, p.sound.no_shorter) in
    let fronts : take low i ≡ take low b = ext_get_or 0 (take low i) (take low b) (omega (arith, length-take low i, length-take low b, in_image, in_file))
    (λ k below. let under : k < low = omega (arith, below, length-take low i) in get_or-take low i k 0 under ∙ (h.fixed k (settled_below b cs synced low room k p under) ∙ sym (get_or-take low b k 0 under))) in
    ap (λ (l : List ℕ). l ++ drop low b) fronts ∙ take-append-drop low b

-- the same, said of equal data
pub place_as : (b b' : List ℕ) (cs cs' : List Change) (synced low low' room : ℕ) → b' ≡ b → cs' ≡ cs → low' ≡ low → IsPlace b cs synced low room → IsPlace b' cs' synced low' room
place_as b b' cs cs' synced low low' room e f g p =
    subst (λ (x : List ℕ). IsPlace x cs' synced low' room) (sym e) (subst (λ (x : List Change). IsPlace b x synced low' room) (sym f) (subst (λ (n : ℕ). IsPlace b cs synced n room) (sym g) p))

-- a file that was just synced
pub place_fresh : (b : List ℕ) (cs : List Change) (size room : ℕ) → cs ≡ [] → size ≡ length b → AreBytes b → IsPlace b cs size size room
place_fresh b cs size room none whole h =
    subst (λ (x : List Change). IsPlace b x size size room) (sym none) (subst (λ (n : ℕ). IsPlace b [] n n room) (sym whole) (place_clean b room h))
