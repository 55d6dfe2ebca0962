-- Files kept in slots, by number.
use Rattle.std.proofs.Common.{◌≡◌, ℕ, zero, suc, ◌+◌, ◌<◌, ◌≤◌, Bool, true, false, ◌&&◌, ◌||◌, List, [], ◌∷◌, ◌++◌, length, get_or, take, drop, map, set, sum_by, slice_get, Option, Some, None, refl, sym, ap, ◌∙◌, arith, add-one}
use Rattle.std.specs.Prelude.{◌==◌, option_and_then}
use Rattle.std.specs.List.{list_all, list_any}
use Rattle.std.proofs.lemmas.Bool.{and_parts, and_left, or_from, or_parts, or_left, or_right, lt-ltb, le-ltb, eq-eqb, ne_eqb, both_ways}
use Rattle.std.specs.Option.{is_some}
use Rattle.std.proofs.lemmas.List.Sums.{sum_by-cons}
use Rattle.std.proofs.lemmas.Option.{slice_get-get_or}
use Rattle.std.proofs.lemmas.List.{drop_more, length-take-le, take_more}
use Rattle.std.proofs.Math.ListN.{length-set}
use Rattle.wdt_units.specs.Have.{PlainSpan}
use Rattle.wdt_ranges.specs.declared.have.FileHave.{FileHave}
use Rattle.wdt_ranges.specs.Files.{have_file}
use Rattle.wdt_logfmt.specs.View.{NamedFile, is_numbered}
use Rattle.wdt_logfmt.specs.Adding.{put_by_number, covering, have_with, has_room, is_room_in}
use Rattle.wdt_logfmt.specs.Slots.{files_in, slot_of}

abbrev pub slot_file : ℕ → FileHave → NamedFile
slot_file n f = record { number = n; have = have_file f }

-- no file is in the slot
abbrev pub IsFree : List (Option FileHave) → ℕ → Type 0
IsFree slots i = (f : FileHave) → slice_get slots i ≡ Some (Some f) → ⊥

pub files_in_more : (slots : List (Option FileHave)) (first : ℕ) → files_in first (slots ++ None ∷ []) ≡ files_in first slots
files_in_more [] first = refl
files_in_more (None ∷ slots) first = files_in_more slots (first + 1)
files_in_more (Some f ∷ slots) first = ap (λ w. slot_file first f ∷ w) (files_in_more slots (first + 1))

-- ---- numbers

below : (slots : List (Option FileHave)) (first n : ℕ) → n < first → list_any (is_numbered n) (files_in first slots) ≡ false
below [] first n lt = refl
below (None ∷ slots) first n lt = below slots (first + 1) n (omega arith)
below (Some f ∷ slots) first n lt =
    or_from (first == n) (list_any (is_numbered n) (files_in (first + 1) slots)) (ne_eqb first n (λ e. omega arith)) (below slots (first + 1) n (omega arith))

pub numbered : (slots : List (Option FileHave)) (first i n : ℕ) (f : FileHave) → n ≡ first + i → slice_get slots i ≡ Some (Some f) → list_any (is_numbered n) (files_in first slots) ≡ true
numbered [] first i n f at here = absurd (cc)
numbered (None ∷ slots) first zero n f at here = absurd (cc)
numbered (Some g ∷ slots) first zero n f at here = or_left (first == n) (list_any (is_numbered n) (files_in (first + 1) slots)) (eq-eqb first n (omega arith))
numbered (None ∷ slots) first (suc i) n f at here = numbered slots (first + 1) i n f (omega arith) here
numbered (Some g ∷ slots) first (suc i) n f at here = or_right (first == n) (list_any (is_numbered n) (files_in (first + 1) slots)) (numbered slots (first + 1) i n f (omega arith) here)

pub unnumbered : (slots : List (Option FileHave)) (first i n : ℕ) → n ≡ first + i → IsFree slots i → list_any (is_numbered n) (files_in first slots) ≡ false
unnumbered [] first i n at free = refl
unnumbered (None ∷ slots) first zero n at free = below slots (first + 1) n (omega arith)
unnumbered (Some g ∷ slots) first zero n at free = absurd (free g refl)
unnumbered (None ∷ slots) first (suc i) n at free = unnumbered slots (first + 1) i n (omega arith) free
unnumbered (Some g ∷ slots) first (suc i) n at free =
    or_from (first == n) (list_any (is_numbered n) (files_in (first + 1) slots)) (ne_eqb first n (λ e. omega arith)) (unnumbered slots (first + 1) i n (omega arith) free)

-- ---- a file is put into a free slot

put_first : (slots : List (Option FileHave)) (first : ℕ) (x : NamedFile) → x.number < first → put_by_number x (files_in first slots) ≡ x ∷ files_in first slots
put_first [] first x lt = refl
put_first (None ∷ slots) first x lt = put_first slots (first + 1) x (omega arith)
put_first (Some f ∷ slots) first x lt = rw (lt-ltb x.number first lt) refl

pub set_free : (slots : List (Option FileHave)) (first i n : ℕ) (f : FileHave) → n ≡ first + i → i < length slots → IsFree slots i → files_in first (set slots i (Some f)) ≡ put_by_number (slot_file n f) (files_in first slots)
set_free [] first i n f at within free = absurd (omega arith)
set_free (None ∷ slots) first zero n f at within free =
    let e : first ≡ n = omega arith in
    ap (λ (k : ℕ). slot_file k f ∷ files_in (first + 1) slots) e ∙ sym (put_first slots (first + 1) (slot_file n f) (omega arith))
set_free (Some g ∷ slots) first zero n f at within free = absurd (free g refl)
set_free (None ∷ slots) first (suc i) n f at within free = set_free slots (first + 1) i n f (omega arith) (omega arith) free
set_free (Some g ∷ slots) first (suc i) n f at within free =
    rw (le-ltb n first (omega arith)) (ap (λ w. slot_file first g ∷ w) (set_free slots (first + 1) i n f (omega arith) (omega arith) free))

-- ---- a file gets one more span

cover_below : (slots : List (Option FileHave)) (first n : ℕ) (s : PlainSpan) → n < first → map (covering n s) (files_in first slots) ≡ files_in first slots
cover_below [] first n s lt = refl
cover_below (None ∷ slots) first n s lt = cover_below slots (first + 1) n s (omega arith)
cover_below (Some f ∷ slots) first n s lt = rw (ne_eqb first n (λ e. omega arith)) (ap (λ w. slot_file first f ∷ w) (cover_below slots (first + 1) n s (omega arith)))

inner : (f g : FileHave) → Some (Some f) ≡ Some (Some g) → f ≡ g
inner f g e = cc

pub set_covered : (slots : List (Option FileHave)) (first i n : ℕ) (s : PlainSpan) (f g : FileHave) → n ≡ first + i → slice_get slots i ≡ Some (Some f) → have_file g ≡ have_with s (have_file f)
    → files_in first (set slots i (Some g)) ≡ map (covering n s) (files_in first slots)
set_covered [] first i n s f g at here is = absurd (cc)
set_covered (None ∷ slots) first zero n s f g at here is = absurd (cc)
set_covered (Some h ∷ slots) first zero n s f g at here is =
    let same : h ≡ f = inner h f here in
    let made : slot_file first g ≡ record { number = first; have = have_with s (have_file h) } = ap (λ (x : _). record { number = first; have = x }) (is ∙ ap (λ (k : FileHave). have_with s (have_file k)) (sym same)) in
    rw (eq-eqb first n (omega arith)) (ap (λ w. w ∷ files_in (first + 1) slots) made ∙ ap (λ w. record { number = first; have = have_with s (have_file h) } ∷ w) (sym (cover_below slots (first + 1) n s (omega arith))))
set_covered (None ∷ slots) first (suc i) n s f g at here is = set_covered slots (first + 1) i n s f g (omega arith) here is
set_covered (Some h ∷ slots) first (suc i) n s f g at here is =
    rw (ne_eqb first n (λ e. omega arith)) (ap (λ w. slot_file first h ∷ w) (set_covered slots (first + 1) i n s f g (omega arith) here is))

-- ---- room for a span

roomless : (slots : List (Option FileHave)) (first n : ℕ) (s : PlainSpan) → n < first → list_any (is_room_in n s) (files_in first slots) ≡ false
roomless [] first n s lt = refl
roomless (None ∷ slots) first n s lt = roomless slots (first + 1) n s (omega arith)
roomless (Some f ∷ slots) first n s lt = rw (ne_eqb first n (λ e. omega arith)) (roomless slots (first + 1) n s (omega arith))

or_nothing : (a b : Bool) → b ≡ false → (a || b) ≡ a
or_nothing true b e = refl
or_nothing false b e = e

pub room_in : (slots : List (Option FileHave)) (first i n : ℕ) (s : PlainSpan) (f : FileHave) → n ≡ first + i → slice_get slots i ≡ Some (Some f) → list_any (is_room_in n s) (files_in first slots) ≡ has_room s (have_file f)
room_in [] first i n s f at here = absurd (cc)
room_in (None ∷ slots) first zero n s f at here = absurd (cc)
room_in (Some h ∷ slots) first zero n s f at here =
    rw (eq-eqb first n (omega arith)) (or_nothing (has_room s (have_file h)) _ (roomless slots (first + 1) n s (omega arith)) ∙ ap (λ (k : FileHave). has_room s (have_file k)) (inner h f here))
room_in (None ∷ slots) first (suc i) n s f at here = room_in slots (first + 1) i n s f (omega arith) here
room_in (Some h ∷ slots) first (suc i) n s f at here = rw (ne_eqb first n (λ e. omega arith)) (room_in slots (first + 1) i n s f (omega arith) here)

-- a file that isn't there has none
pub no_room : (fs : List NamedFile) (n : ℕ) (s : PlainSpan) → list_any (is_numbered n) fs ≡ false → list_any (is_room_in n s) fs ≡ false
no_room [] n s none = refl
no_room (f ∷ fs) n s none =
    let a = or_parts (f.number == n) (list_any (is_numbered n) fs) none in
    or_from (f.number == n && has_room s f.have) (list_any (is_room_in n s) fs) (and_left (f.number == n) (has_room s f.have) a.0) (no_room fs n s a.1)

-- ---- each file and all of them

pub at_slot : (p : NamedFile → Bool) (slots : List (Option FileHave)) (first i n : ℕ) (f : FileHave) → n ≡ first + i → slice_get slots i ≡ Some (Some f) → list_all p (files_in first slots) ≡ true → p (slot_file n f) ≡ true
at_slot p [] first i n f at here all = absurd (cc)
at_slot p (None ∷ slots) first zero n f at here all = absurd (cc)
at_slot p (Some h ∷ slots) first zero n f at here all =
    let e : first ≡ n = omega arith in
    let same : h ≡ f = inner h f here in (λ i. p (slot_file (sym e i) (sym same i))) ∙ (and_parts (p (slot_file first h)) (list_all p (files_in (first + 1) slots)) all).0
at_slot p (None ∷ slots) first (suc i) n f at here all = at_slot p slots (first + 1) i n f (omega arith) here all
at_slot p (Some h ∷ slots) first (suc i) n f at here all = at_slot p slots (first + 1) i n f (omega arith) here (and_parts (p (slot_file first h)) (list_all p (files_in (first + 1) slots)) all).1

-- what a count of files is once one of them is another
pub sum_set : (count : NamedFile → ℕ) (slots : List (Option FileHave)) (first i n : ℕ) (f g : FileHave) → n ≡ first + i → slice_get slots i ≡ Some (Some f)
    → sum_by count (files_in first (set slots i (Some g))) + count (slot_file n f) ≡ sum_by count (files_in first slots) + count (slot_file n g)
sum_set count [] first i n f g at here = absurd (cc)
sum_set count (None ∷ slots) first zero n f g at here = absurd (cc)
sum_set count (Some h ∷ slots) first zero n f g at here =
    let e : first ≡ n = omega arith in
    let same : h ≡ f = inner h f here in
    let old : count (slot_file first h) ≡ count (slot_file n f) = (λ i. count (slot_file (e i) (same i))) in
    let new : count (slot_file first g) ≡ count (slot_file n g) = (λ i. count (slot_file (e i) g)) in
    omega (arith, old, new, sum_by-cons count (slot_file first g) (files_in (first + 1) slots), sum_by-cons count (slot_file first h) (files_in (first + 1) slots))
sum_set count (None ∷ slots) first (suc i) n f g at here = sum_set count slots (first + 1) i n f g (omega arith) here
sum_set count (Some h ∷ slots) first (suc i) n f g at here =
    omega (
      arith,
      sum_set count slots (first + 1) i n f g (omega arith) here,
      sum_by-cons count (slot_file first h) (files_in (first + 1) (set slots i (Some g))),
      sum_by-cons count (slot_file first h) (files_in (first + 1) slots),
    )

pub part_of : (count : NamedFile → ℕ) (slots : List (Option FileHave)) (first i n : ℕ) (f : FileHave) → n ≡ first + i → slice_get slots i ≡ Some (Some f) → count (slot_file n f) ≤ sum_by count (files_in first slots)
part_of count [] first i n f at here = absurd (cc)
part_of count (None ∷ slots) first zero n f at here = absurd (cc)
part_of count (Some h ∷ slots) first zero n f at here =
    let e : first ≡ n = omega arith in
    let same : h ≡ f = inner h f here in
    let old : count (slot_file first h) ≡ count (slot_file n f) = (λ i. count (slot_file (e i) (same i))) in
    omega (arith, old, sum_by-cons count (slot_file first h) (files_in (first + 1) slots))
part_of count (None ∷ slots) first (suc i) n f at here = part_of count slots (first + 1) i n f (omega arith) here
part_of count (Some h ∷ slots) first (suc i) n f at here =
    omega (arith, part_of count slots (first + 1) i n f (omega arith) here, sum_by-cons count (slot_file first h) (files_in (first + 1) slots))

-- ---- a slot that was looked up

slice_get-past : (slots : List (Option FileHave)) (n : ℕ) → length slots ≤ n → slice_get slots n ≡ None
slice_get-past [] n le = refl
slice_get-past (s ∷ slots) zero le = absurd (omega arith)
slice_get-past (s ∷ slots) (suc n) le = slice_get-past slots n (omega arith)

pub slot-past : (slots : List (Option FileHave)) (n : ℕ) → length slots ≤ n → None ≡ slot_of slots n
slot-past slots n le = sym (ap (λ (o : Option (Option FileHave)). option_and_then (λ slot. slot) o) (slice_get-past slots n le))

pub slot-at : (slots : List (Option FileHave)) (n : ℕ) (slot : Option FileHave) → n < length slots → slot ≡ get_or slots n slot → slot ≡ slot_of slots n
slot-at slots n slot lt is = is ∙ sym (ap (λ (o : Option (Option FileHave)). option_and_then (λ slot. slot) o) (slice_get-get_or slots n slot lt))

pub slot-there : (slots : List (Option FileHave)) (n : ℕ) (f : FileHave) → Some f ≡ slot_of slots n → slice_get slots n ≡ Some (Some f)
slot-there slots n f is = go (slice_get slots n) is
  where
    go : (o : Option (Option FileHave)) → Some f ≡ option_and_then (λ slot. slot) o → o ≡ Some (Some f)
    go None e = absurd (cc)
    go (Some slot) e = ap Some (sym e)

pub slot-none : (slots : List (Option FileHave)) (n : ℕ) → None ≡ slot_of slots n → list_any (is_numbered n) (files_in 0 slots) ≡ false
slot-none slots n is = unnumbered slots 0 n n (omega arith) (λ f e. let no_way : None ≡ Some f = is ∙ ap (λ (o : Option (Option FileHave)). option_and_then (λ slot. slot) o) e in cc)

pub slot-taken : (slots : List (Option FileHave)) (n : ℕ) → list_any (is_numbered n) (files_in 0 slots) ≡ is_some (slot_of slots n)
slot-taken slots n = go (slot_of slots n) refl
  where
    go : (o : Option FileHave) → slot_of slots n ≡ o → list_any (is_numbered n) (files_in 0 slots) ≡ is_some o
    go None e = slot-none slots n (sym e)
    go (Some f) e = numbered slots 0 n n f (omega arith) (slot-there slots n f (sym e))

pub free_from : (slots : List (Option FileHave)) (n : ℕ) → list_any (is_numbered n) (files_in 0 slots) ≡ false → IsFree slots n
free_from slots n none f e = both_ways (list_any (is_numbered n) (files_in 0 slots)) none (numbered slots 0 n n f (omega arith) e)

pub set_past : {A : Type 0} (xs : List A) (n : ℕ) (x : A) → length xs ≤ n → set xs n x ≡ xs
set_past [] n x le = refl
set_past (y ∷ xs) zero x le = absurd (omega arith)
set_past (y ∷ xs) (suc n) x le = ap (λ w. y ∷ w) (set_past xs n x (omega arith))

-- ---- slots one by one

files_append : (xs : List (Option FileHave)) (first n : ℕ) (slot : Option FileHave) → n ≡ first + length xs → files_in first (xs ++ slot ∷ []) ≡ files_in first xs ++ files_in n (slot ∷ [])
files_append [] first n slot at = ap (λ k. files_in k (slot ∷ [])) (let e : first ≡ n = omega arith in e)
files_append (None ∷ xs) first n slot at = files_append xs (first + 1) n slot (omega arith)
files_append (Some f ∷ xs) first n slot at = ap (λ w. slot_file first f ∷ w) (files_append xs (first + 1) n slot (omega arith))

drop_set : {A : Type 0} (xs : List A) (i : ℕ) (x : A) → drop (suc i) (set xs i x) ≡ drop (suc i) xs
drop_set [] i x = refl
drop_set (y ∷ xs) zero x = refl
drop_set (y ∷ xs) (suc i) x = drop_set xs i x

drop_next : {A : Type 0} (xs : List A) (i : ℕ) (x : A) → drop (i + 1) (set xs i x) ≡ drop (i + 1) xs
drop_next xs i x = rw add-one (drop_set xs i x)

pub record IsListed (all now : List (Option FileHave)) (i : ℕ) (list : List NamedFile) : Type 0 where
  pub files : list ≡ files_in 0 (take i all)
  pub rest : drop i now ≡ drop i all
  pub long : length now ≡ length all

pub listed_none : (all now : List (Option FileHave)) (list : List NamedFile) → now ≡ all → list ≡ [] → IsListed all now 0 list
listed_none all now list same none = record { files = none; rest = same; long = ap length same }

head_same : (x y : Option FileHave) (xs ys : List (Option FileHave)) → x ∷ xs ≡ y ∷ ys → (x ≡ y) × (xs ≡ ys)
head_same x y xs ys e = ((cc), (cc))

pub listed_more : (all now next : List (Option FileHave)) (i : ℕ) (list more : List NamedFile) (slot : Option FileHave) → i < length all → slot ≡ slot_of now i → next ≡ set now i None → more ≡ list ++ files_in i (slot ∷ [])
    → IsListed all now i list → IsListed all next (i + 1) more
listed_more all now next i list more slot lt is taken adds l =
    let ends : (get_or now i None ≡ get_or all i None) × (drop (i + 1) now ≡ drop (i + 1) all) =
    head_same (get_or now i None) (get_or all i None) (drop (i + 1) now) (drop (i + 1) all) (sym (drop_more now i None (omega (arith, l.long))) ∙ l.rest ∙ drop_more all i None lt) in
    let here : slot ≡ get_or all i None = is ∙ sym (slot-at now i (get_or now i None) (omega (arith, l.long)) (get_or-default now i)) ∙ ends.0 in
    let count : i ≡ 0 + length (take i all) = omega (arith, length-take-le i all (omega arith)) in
    record {
      files = adds ∙ (λ k. l.files k ++ files_in i (here k ∷ [])) ∙ sym (files_append (take i all) 0 i (get_or all i None) count) ∙ ap (files_in 0) (sym (take_more all i None lt));
      rest = ap (drop (i + 1)) taken ∙ drop_next now i None ∙ ends.1;
      long = ap length taken ∙ length-set now i None ∙ l.long;
    }
  where
    get_or-default : (xs : List (Option FileHave)) (i : ℕ) → get_or xs i None ≡ get_or xs i (get_or xs i None)
    get_or-default [] i = refl
    get_or-default (x ∷ xs) zero = refl
    get_or-default (x ∷ xs) (suc i) = get_or-default xs i
