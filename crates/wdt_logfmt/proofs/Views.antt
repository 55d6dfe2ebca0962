-- An entry keeps the files a view.
use Rattle.std.proofs.Common.{◌≡◌, inl, inr, ℕ, ◌+◌, ◌<◌, ◌≤◌, ◌^◌, Bool, true, false, ◌&&◌, ◌||◌, not, nat_lt, nat_le, List, [], ◌∷◌, map, sum_by, Some, None, refl, sym, ap, ◌∙◌, subst, arith}
use Rattle.std.specs.Prelude.{if◌then◌else◌, ◌==◌, bytes_eq}
use Rattle.std.specs.List.{list_all, list_any}
use Rattle.std.proofs.lemmas.Bool.{and_parts, and_from, or_parts, or_cases, ltb-true, lt-ltb, le-ltb, leb-true, eqb-true, eqb-false, cases_lt, not-true, not_from_false, cases_eq, ne_eqb}
use Rattle.std.proofs.lemmas.List.Sums.{sum_by-cons}
use Rattle.std.proofs.lemmas.Slice.Eq.{bytes_eq-Decides}
use Rattle.wdt_units.specs.Have.{PlainSpan}
use Rattle.wdt_ranges.specs.Spans.{are_apart, end_of, is_span}
use Rattle.wdt_ranges.proofs.ForCallers.{span_from}
use Rattle.wdt_logfmt.specs.declared.entry.LogEntry.{LogEntry}
use Rattle.wdt_logfmt.specs.declared.entry.LogEntry.TheVariants.{File, Covered}
use Rattle.wdt_logfmt.specs.View.{NamedFile, is_numbered, names, is_nameable, ends_within, is_file, is_numbered_above, is_rising, are_paths_once, spans_in, bytes_in, is_within_limits, is_view}
use Rattle.wdt_logfmt.specs.Adding.{just_named, put_by_number, can_name, can_cover, covering, have_with, has_room, is_room_in, overlap, span_at, added}
use Rattle.wdt_logfmt.proofs.Spans.{same_test, with_apart, with_ends}

-- ---- the parts of a view

pub record IsView (fs : List NamedFile) : Type 0 where
  pub each : list_all is_file fs ≡ true
  pub rising : is_rising fs ≡ true
  pub paths : are_paths_once fs ≡ true
  pub limits : is_within_limits fs ≡ true

pub view_parts : (fs : List NamedFile) → is_view fs ≡ true → IsView fs
unfolding is_view
view_parts fs h =
    let a = and_parts (list_all is_file fs && is_rising fs && are_paths_once fs) (is_within_limits fs) h in
    let b = and_parts (list_all is_file fs && is_rising fs) (are_paths_once fs) a.0 in
    let c = and_parts (list_all is_file fs) (is_rising fs) b.0 in
    record { each = c.0; rising = c.1; paths = b.1; limits = a.1 }

pub view_from : (fs : List NamedFile) → IsView fs → is_view fs ≡ true
unfolding is_view
view_from fs v =
    and_from (list_all is_file fs && is_rising fs && are_paths_once fs) (is_within_limits fs)
    (and_from (list_all is_file fs && is_rising fs) (are_paths_once fs) (and_from (list_all is_file fs) (is_rising fs) v.each v.rising) v.paths)
    v.limits

pub record IsFile (f : NamedFile) : Type 0 where
  pub nameable : is_nameable f.number f.have.path f.have.size ≡ true
  pub apart : are_apart f.have.spans ≡ true
  pub within : list_all (ends_within f.have.size) f.have.spans ≡ true

pub file_parts : (f : NamedFile) → is_file f ≡ true → IsFile f
file_parts f h =
    let a = and_parts (is_nameable f.number f.have.path f.have.size && are_apart f.have.spans) (list_all (ends_within f.have.size) f.have.spans) h in
    let b = and_parts (is_nameable f.number f.have.path f.have.size) (are_apart f.have.spans) a.0 in
    record { nameable = b.0; apart = b.1; within = a.1 }

pub file_from : (f : NamedFile) → IsFile f → is_file f ≡ true
file_from f v =
    and_from (is_nameable f.number f.have.path f.have.size && are_apart f.have.spans) (list_all (ends_within f.have.size) f.have.spans)
    (and_from (is_nameable f.number f.have.path f.have.size) (are_apart f.have.spans) v.nameable v.apart) v.within

pub record IsWithin (fs : List NamedFile) : Type 0 where
  pub spans : sum_by spans_in fs ≤ 1310720
  pub bytes : sum_by bytes_in fs ≤ 2 ^ 50

pub limit_parts : (fs : List NamedFile) → is_within_limits fs ≡ true → IsWithin fs
limit_parts fs h =
    let a = and_parts (nat_le (sum_by spans_in fs) 1310720) (nat_le (sum_by bytes_in fs) (2 ^ 50)) h in
    record { spans = leb-true (sum_by spans_in fs) 1310720 a.0; bytes = leb-true (sum_by bytes_in fs) (2 ^ 50) a.1 }

-- ---- one file more

all_put : (p : NamedFile → Bool) (x : NamedFile) (fs : List NamedFile) → p x ≡ true → list_all p fs ≡ true → list_all p (put_by_number x fs) ≡ true
all_put p x [] here all = and_from (p x) true here refl
all_put p x (f ∷ fs) here all =
    let a = and_parts (p f) (list_all p fs) all in
    elim (cases_lt x.number f.number) [
      | inl lt ↦ rw (lt-ltb x.number f.number lt) (and_from (p x) (p f && list_all p fs) here all)
      | inr le ↦ rw (le-ltb x.number f.number le) (and_from (p f) (list_all p (put_by_number x fs)) a.0 (all_put p x fs here a.1))
    ]

pub sum_put : (count : NamedFile → ℕ) (x : NamedFile) (fs : List NamedFile) → sum_by count (put_by_number x fs) ≡ count x + sum_by count fs
sum_put count x [] = sum_by-cons count x []
sum_put count x (f ∷ fs) = elim (cases_lt x.number f.number) [
  | inl lt ↦ rw (lt-ltb x.number f.number lt) (sum_by-cons count x (f ∷ fs))
  | inr le ↦ rw (le-ltb x.number f.number le) (omega (arith, sum_by-cons count f (put_by_number x fs), sum_by-cons count f fs, sum_put count x fs))
]

pub sum_same : (count : NamedFile → ℕ) (x : NamedFile) (fs : List NamedFile) → count x ≡ 0 → sum_by count (put_by_number x fs) ≡ sum_by count fs
sum_same count x fs none = omega (arith, sum_put count x fs)

or_swap : (a b c : Bool) → (a || (b || c)) ≡ (b || (a || c))
or_swap true true c = refl
or_swap true false c = refl
or_swap false b c = refl

pub names_put : (x : NamedFile) (fs : List NamedFile) (path : List ℕ) → names (put_by_number x fs) path ≡ (bytes_eq x.have.path path || names fs path)
names_put x [] path = refl
names_put x (f ∷ fs) path = elim (cases_lt x.number f.number) [
  | inl lt ↦ rw (lt-ltb x.number f.number lt) refl
  | inr le ↦ rw (le-ltb x.number f.number le) (ap (λ b. bytes_eq f.have.path path || b) (names_put x fs path) ∙ or_swap (bytes_eq f.have.path path) (bytes_eq x.have.path path) (names fs path))
]

-- a number below those of the first of rising files is below all
below_all : (n : ℕ) (f : NamedFile) (fs : List NamedFile) → n < f.number → list_all (is_numbered_above f) fs ≡ true → list_all (λ g. nat_lt n g.number) fs ≡ true
below_all n f [] lt all = refl
below_all n f (g ∷ fs) lt all =
    let a = and_parts (nat_lt f.number g.number) (list_all (is_numbered_above f) fs) all in
    let more = ltb-true f.number g.number a.0 in
    and_from (nat_lt n g.number) (list_all (λ g. nat_lt n g.number) fs) (lt-ltb n g.number (omega arith)) (below_all n f fs lt a.1)

pub rising_put : (x : NamedFile) (fs : List NamedFile) → is_rising fs ≡ true → list_any (is_numbered x.number) fs ≡ false → is_rising (put_by_number x fs) ≡ true
rising_put x [] up new = refl
rising_put x (f ∷ fs) up new =
    let a = and_parts (list_all (is_numbered_above f) fs) (is_rising fs) up in
    let n = or_parts (f.number == x.number) (list_any (is_numbered x.number) fs) new in
    let other = eqb-false f.number x.number n.0 in
    elim (cases_lt x.number f.number) [
      | inl lt ↦ rw (lt-ltb x.number f.number lt) (and_from (nat_lt x.number f.number && list_all (is_numbered_above x) fs) (list_all (is_numbered_above f) fs && is_rising fs) (and_from (nat_lt x.number f.number) (list_all (is_numbered_above x) fs) (lt-ltb x.number f.number lt) (below_all x.number f fs lt a.0)) up)
      | inr le ↦
          let above : f.number < x.number = elim (cases_eq f.number x.number) [ inl e ↦ absurd (other e) | inr ne ↦ omega arith ] in
          rw (le-ltb x.number f.number le) (and_from (list_all (is_numbered_above f) (put_by_number x fs)) (is_rising (put_by_number x fs)) (all_put (is_numbered_above f) x fs (lt-ltb f.number x.number above) a.0) (rising_put x fs a.1 n.1))
    ]

pub eq_sym : (a b : List ℕ) → bytes_eq a b ≡ bytes_eq b a
eq_sym a b = same_test (bytes_eq a b) (bytes_eq b a) (λ e. (bytes_eq-Decides b a).1 (sym ((bytes_eq-Decides a b).0 e))) (λ e. (bytes_eq-Decides a b).1 (sym ((bytes_eq-Decides b a).0 e)))

once_put : (x : NamedFile) (fs : List NamedFile) → are_paths_once fs ≡ true → names fs x.have.path ≡ false → are_paths_once (put_by_number x fs) ≡ true
once_put x [] once new = refl
once_put x (f ∷ fs) once new =
    let a = and_parts (not (names fs f.have.path)) (are_paths_once fs) once in
    let n = or_parts (bytes_eq f.have.path x.have.path) (names fs x.have.path) new in
    elim (cases_lt x.number f.number) [
      | inl lt ↦ rw (lt-ltb x.number f.number lt) (and_from (not (names (f ∷ fs) x.have.path)) (are_paths_once (f ∷ fs)) (not_from_false (names (f ∷ fs) x.have.path) new) once)
      | inr le ↦
          let still : names (put_by_number x fs) f.have.path ≡ false =
          names_put x fs f.have.path ∙ ap (λ b. b || names fs f.have.path) (eq_sym x.have.path f.have.path ∙ n.0) ∙ not-true (names fs f.have.path) a.0 in
          rw (le-ltb x.number f.number le) (and_from (not (names (put_by_number x fs) f.have.path)) (are_paths_once (put_by_number x fs)) (not_from_false (names (put_by_number x fs) f.have.path) still) (once_put x fs a.1 n.1))
    ]

pub record CanName (fs : List NamedFile) (n : ℕ) (path : List ℕ) (size : ℕ) : Type 0 where
  pub nameable : is_nameable n path size ≡ true
  pub number : list_any (is_numbered n) fs ≡ false
  pub path_new : names fs path ≡ false

pub can_name-parts : (fs : List NamedFile) (n : ℕ) (path : List ℕ) (size : ℕ) → can_name fs n path size ≡ true → CanName fs n path size
unfolding can_name
can_name-parts fs n path size h =
    let a = and_parts (is_nameable n path size && not (list_any (is_numbered n) fs)) (not (names fs path)) h in
    let b = and_parts (is_nameable n path size) (not (list_any (is_numbered n) fs)) a.0 in
    record { nameable = b.0; number = not-true (list_any (is_numbered n) fs) b.1; path_new = not-true (names fs path) a.1 }

pub view_put : (fs : List NamedFile) (n : ℕ) (path : List ℕ) (size stamp : ℕ) → is_view fs ≡ true → can_name fs n path size ≡ true → is_view (put_by_number (just_named n path size stamp) fs) ≡ true
view_put fs n path size stamp view can =
    let v = view_parts fs view in
    let c = can_name-parts fs n path size can in
    let x = just_named n path size stamp in
    view_from (put_by_number x fs) (record {
      each = all_put is_file x fs (file_from x (record { nameable = c.nameable; apart = refl; within = refl })) v.each;
      rising = rising_put x fs v.rising c.number;
      paths = once_put x fs v.paths c.path_new;
      limits = (λ i. nat_le (sum_same spans_in x fs refl i) 1310720 && nat_le (sum_same bytes_in x fs refl i) (2 ^ 50)) ∙ v.limits;
    })

-- ---- one span more

number_kept : (n : ℕ) (s : PlainSpan) (f : NamedFile) → (covering n s f).number ≡ f.number
number_kept n s f = go (f.number == n)
  where
    go : (b : Bool) → (if b then record { number = f.number; have = have_with s f.have } else f).number ≡ f.number
    go true = refl
    go false = refl

path_kept : (n : ℕ) (s : PlainSpan) (f : NamedFile) → (covering n s f).have.path ≡ f.have.path
path_kept n s f = go (f.number == n)
  where
    go : (b : Bool) → (if b then record { number = f.number; have = have_with s f.have } else f).have.path ≡ f.have.path
    go true = refl
    go false = refl

pub names_kept : (n : ℕ) (s : PlainSpan) (fs : List NamedFile) (path : List ℕ) → names (map (covering n s) fs) path ≡ names fs path
names_kept n s [] path = refl
names_kept n s (f ∷ fs) path = (λ i. bytes_eq (path_kept n s f i) path || names_kept n s fs path i)

above_kept : (n : ℕ) (s : PlainSpan) (f : NamedFile) (fs : List NamedFile) → list_all (is_numbered_above (covering n s f)) (map (covering n s) fs) ≡ list_all (is_numbered_above f) fs
above_kept n s f [] = refl
above_kept n s f (g ∷ fs) = (λ i. nat_lt (number_kept n s f i) (number_kept n s g i) && above_kept n s f fs i)

rising_kept : (n : ℕ) (s : PlainSpan) (fs : List NamedFile) → is_rising (map (covering n s) fs) ≡ is_rising fs
rising_kept n s [] = refl
rising_kept n s (f ∷ fs) = (λ i. above_kept n s f fs i && rising_kept n s fs i)

once_kept : (n : ℕ) (s : PlainSpan) (fs : List NamedFile) → are_paths_once (map (covering n s) fs) ≡ are_paths_once fs
once_kept n s [] = refl
once_kept n s (f ∷ fs) = (ap (λ p. not (names (map (covering n s) fs) p) && are_paths_once (map (covering n s) fs)) (path_kept n s f)) ∙ (λ i. not (names_kept n s fs f.have.path i) && once_kept n s fs i)

-- the file of a number among rising ones is one
pub room_above : (n : ℕ) (s : PlainSpan) (f : NamedFile) (fs : List NamedFile) → list_all (is_numbered_above f) fs ≡ true → list_any (is_room_in n s) fs ≡ true → f.number < n
room_above n s f [] all any = absurd (cc)
room_above n s f (g ∷ fs) all any =
    let a = and_parts (nat_lt f.number g.number) (list_all (is_numbered_above f) fs) all in
    elim (or_cases (g.number == n && has_room s g.have) (list_any (is_room_in n s) fs) any) [
      | inl here ↦
          let e = eqb-true g.number n (and_parts (g.number == n) (has_room s g.have) here).0 in
          let lt = ltb-true f.number g.number a.0 in
          omega arith
      | inr later ↦ room_above n s f fs a.1 later
    ]

others_kept : (n : ℕ) (s : PlainSpan) (f : NamedFile) (fs : List NamedFile) → n ≤ f.number → list_all (is_numbered_above f) fs ≡ true → map (covering n s) fs ≡ fs
others_kept n s f [] le all = refl
others_kept n s f (g ∷ fs) le all =
    let a = and_parts (nat_lt f.number g.number) (list_all (is_numbered_above f) fs) all in
    let lt = ltb-true f.number g.number a.0 in
    rw (ne_eqb g.number n (λ e. omega arith)) (ap (λ w. g ∷ w) (others_kept n s f fs le a.1))

pub file_with : (s : PlainSpan) (f : NamedFile) → 0 < s.count → is_file f ≡ true → has_room s f.have ≡ true → is_file (record { number = f.number; have = have_with s f.have }) ≡ true
file_with s f some h room =
    let p = file_parts f h in
    let r = and_parts (nat_le (end_of s) f.have.size) (not (list_any (overlap s) f.have.spans)) room in
    let le = leb-true (end_of s) f.have.size r.0 in
    let small = leb-true f.have.size (2 ^ 40) (and_parts _ (nat_le f.have.size (2 ^ 40)) p.nameable).1 in
    let span : is_span s ≡ true = span_from s some (omega arith) in
    let none = not-true (list_any (overlap s) f.have.spans) r.1 in
    file_from (record { number = f.number; have = have_with s f.have }) (record {
      nameable = p.nameable;
      apart = with_apart 0 s f.have.spans (omega arith) span p.apart none;
      within = with_ends f.have.size 0 s f.have.spans le p.within span p.apart none;
    })

files_with : (n : ℕ) (s : PlainSpan) (fs : List NamedFile) → 0 < s.count → list_all is_file fs ≡ true → is_rising fs ≡ true → list_any (is_room_in n s) fs ≡ true → list_all is_file (map (covering n s) fs) ≡ true
files_with n s [] some each up room = refl
files_with n s (f ∷ fs) some each up room =
    let e = and_parts (is_file f) (list_all is_file fs) each in
    let u = and_parts (list_all (is_numbered_above f) fs) (is_rising fs) up in
    elim (or_cases (f.number == n && has_room s f.have) (list_any (is_room_in n s) fs) room) [
      | inl here ↦
          let h = and_parts (f.number == n) (has_room s f.have) here in
          let is = eqb-true f.number n h.0 in
          rw h.0 (and_from (is_file (record { number = f.number; have = have_with s f.have })) (list_all is_file (map (covering n s) fs)) (file_with s f some e.0 h.1) (ap (list_all is_file) (others_kept n s f fs (omega arith) u.0) ∙ e.1))
      | inr later ↦
          let lt = room_above n s f fs u.0 later in
          rw (ne_eqb f.number n (λ e. omega arith)) (and_from (is_file f) (list_all is_file (map (covering n s) fs)) e.0 (files_with n s fs some e.1 u.1 later))
    ]

pub record CanCover (fs : List NamedFile) (n : ℕ) (s : PlainSpan) : Type 0 where
  pub some : 0 < s.count
  pub room : list_any (is_room_in n s) fs ≡ true
  pub limits : is_within_limits (map (covering n s) fs) ≡ true

pub can_cover-parts : (fs : List NamedFile) (n : ℕ) (s : PlainSpan) → can_cover fs n s ≡ true → CanCover fs n s
unfolding can_cover
can_cover-parts fs n s h =
    let a = and_parts (nat_lt 0 s.count && nat_le s.count 67108864 && list_any (is_room_in n s) fs) (is_within_limits (map (covering n s) fs)) h in
    let b = and_parts (nat_lt 0 s.count && nat_le s.count 67108864) (list_any (is_room_in n s) fs) a.0 in
    let c = and_parts (nat_lt 0 s.count) (nat_le s.count 67108864) b.0 in
    record { some = ltb-true 0 s.count c.0; room = b.1; limits = a.1 }

pub view_cover : (fs : List NamedFile) (n : ℕ) (s : PlainSpan) → is_view fs ≡ true → can_cover fs n s ≡ true → is_view (map (covering n s) fs) ≡ true
view_cover fs n s view can =
    let v = view_parts fs view in
    let c = can_cover-parts fs n s can in
    view_from (map (covering n s) fs) (record {
      each = files_with n s fs c.some v.each v.rising c.room;
      rising = rising_kept n s fs ∙ v.rising;
      paths = once_kept n s fs ∙ v.paths;
      limits = c.limits;
    })

-- ---- entries

pub taken_true : {A : Type 0} (b : Bool) (x y : A) → (if b then Some x else None) ≡ Some y → (b ≡ true) × (x ≡ y)
taken_true true x y is = (refl, (cc))
taken_true false x y is = absurd (cc)

-- an entry that continues a view gives a view
pub added-view : (version : ℕ) (fs gs : List NamedFile) (e : LogEntry) → is_view fs ≡ true → added version fs e ≡ Some gs → is_view gs ≡ true
added-view version fs gs (File n path size stamp) view adds =
    let t = taken_true (can_name fs n path size) (put_by_number (just_named n path size stamp) fs) gs adds in
    subst (λ hs. is_view hs ≡ true) t.1 (view_put fs n path size stamp view t.0)
added-view version fs gs (Covered n offset count) view adds =
    let t = taken_true (can_cover fs n (span_at offset count)) (map (covering n (span_at offset count)) fs) gs adds in
    subst (λ hs. is_view hs ≡ true) t.1 (view_cover fs n (span_at offset count) view t.0)

pub view_none : is_view [] ≡ true
unfolding is_view
view_none = refl
