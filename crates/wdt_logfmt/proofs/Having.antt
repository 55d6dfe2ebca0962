-- What a destination has by a log: the files in the order of their paths are one list.
use Rattle.std.proofs.Common.{◌≡◌, ◌⊎◌, inl, inr, ℕ, zero, suc, ◌+◌, ◌-◌, ◌<◌, ◌≤◌, Bool, true, false, cond, ◌&&◌, not, nat_lt, nat_le, List, [], ◌∷◌, length, map, get_or, sum_by, refl, sym, ap, ◌∙◌, subst, arith}
use Rattle.std.specs.List.{list_all}
use Rattle.std.specs.List.Sorted.{IsPermutation}
use Rattle.std.specs.Ordering.{is_lt, is_eq, nat_cmp, ordering_reverse}
use Rattle.std.specs.declared.cmp.Ordering.{Ordering}
use Rattle.std.specs.declared.cmp.Ordering.TheVariants.{Less, Equal, Greater}
use Rattle.std.specs.Cmp.Lexicographic.{slice_cmp}
use Rattle.std.specs.Str.{bytes_eq}
use Rattle.std.proofs.lemmas.Bool.{and_parts, and_from, or_parts, cases_Bool, cond-true, cond-false, false_from_ne_true, not-true, ltb-true, le-leb, leb-true}
use Rattle.std.proofs.lemmas.Cmp.{nat_list_cmp_total}
use Rattle.std.proofs.lemmas.List.{get_or-map, length-map}
use Rattle.std.proofs.lemmas.List.Sorted.{All-permutation, IsPermutation-sym, ranks_by, sorted_far, sum_by-IsPermutation, length_permutation}
use Rattle.std.proofs.lemmas.List.Sums.{sum_by-cons, get_or-le-sum_by}
use Rattle.std.proofs.lemmas.Map.Text.{is_eq-slice_cmp}
use Rattle.std.proofs.lemmas.Slice.Eq.{bytes_eq-Decides}
use Rattle.wdt_units.specs.Have.{HaveFile, is_named}
use Rattle.wdt_units.specs.Tree.{is_before}
use Rattle.wdt_ranges.specs.declared.have.FileHave.{FileHave}
use Rattle.wdt_ranges.specs.Files.{have_file, is_before_file, is_in_order}
use Rattle.wdt_ranges.proofs.ForCallers.{in_order_from}
use Rattle.wdt_logfmt.specs.Sorting.{path_of, IsSortedByPath}
use Rattle.wdt_logfmt.specs.View.{NamedFile, have_of_file, have_of, put_by_path, names, is_file, is_numbered_above, is_rising, are_paths_once, is_view}
use Rattle.wdt_logfmt.proofs.Views.{file_parts, view_parts}

-- ---- each item of a list

abbrev Each : {A : Type 0} → (A → Type 0) → List A → Type 0
Each P [] = Unit {0}
Each P (x ∷ xs) = P x × Each P xs

each_from : {A : Type 0} (P Q : A → Type 0) (xs : List A) → ((x : A) → P x → Q x) → Each P xs → Each Q xs
each_from P Q [] f h = tt
each_from P Q (x ∷ xs) f h = (f x h.0, each_from P Q xs f h.1)

each_at : {A : Type 0} (P : A → Type 0) (xs : List A) (k : ℕ) (d : A) → Each P xs → k < length xs → P (get_or xs k d)
each_at P [] k d h lt = absurd (omega arith)
each_at P (x ∷ xs) zero d h lt = h.0
each_at P (x ∷ xs) (suc k) d h lt = each_at P xs k d h.1 (omega arith)

each_of : {A : Type 0} (P : A → Type 0) (xs : List A) → ((k : ℕ) (d : A) → k < length xs → P (get_or xs k d)) → Each P xs
each_of P [] h = tt
each_of P (x ∷ xs) h = (h zero x (omega arith), each_of P xs (λ k d lt. h (suc k) d (omega arith)))

each_moved : {A : Type 0} (P : A → Type 0) (xs ys : List A) → IsPermutation xs ys → Each P xs → Each P ys
each_moved P xs ys same h = each_of P ys (All-permutation P xs ys same (λ k d lt. each_at P xs k d h lt))

each_mapped : {A B : Type 0} (P : B → Type 0) (f : A → B) (xs : List A) → Each (λ x. P (f x)) xs → Each P (map f xs)
each_mapped P f [] h = tt
each_mapped P f (x ∷ xs) h = (h.0, each_mapped P f xs h.1)

each_unmapped : {A B : Type 0} (P : B → Type 0) (f : A → B) (xs : List A) → Each P (map f xs) → Each (λ x. P (f x)) xs
each_unmapped P f [] h = tt
each_unmapped P f (x ∷ xs) h = (h.0, each_unmapped P f xs h.1)

each_both : {A : Type 0} (P Q R : A → Type 0) (xs : List A) → ((x : A) → P x → Q x → R x) → Each P xs → Each Q xs → Each R xs
each_both P Q R [] f h k = tt
each_both P Q R (x ∷ xs) f h k = (f x h.0 k.0, each_both P Q R xs f h.1 k.1)

each_passes : {A : Type 0} (p : A → Bool) (xs : List A) → list_all p xs ≡ true → Each (λ x. p x ≡ true) xs
each_passes p [] h = tt
each_passes p (x ∷ xs) h = let a = and_parts (p x) (list_all p xs) h in (a.0, each_passes p xs a.1)

-- ---- the order of paths

less : (o : Ordering) → is_lt o ≡ true → o ≡ Less
less Less h = refl
less Equal h = cc
less Greater h = cc

before_both : (a b c : List ℕ) → is_before a b ≡ true → is_before b c ≡ true → is_before a c ≡ true
before_both a b c h k = ap is_lt (nat_list_cmp_total.trans a b c (less (slice_cmp nat_cmp a b) h) (less (slice_cmp nat_cmp b c) k))

one_way : (a b : List ℕ) → is_before a b ≡ true → is_before b a ≡ true → ⊥
one_way a b h k =
    let x : slice_cmp nat_cmp a b ≡ Less = less (slice_cmp nat_cmp a b) h in
    let y : slice_cmp nat_cmp b a ≡ Less = less (slice_cmp nat_cmp b a) k in
    let no_way : Less ≡ ordering_reverse Less = sym x ∙ nat_list_cmp_total.antisymm a b ∙ ap ordering_reverse y in
    cc

other_way : (a b : List ℕ) → is_before b a ≡ false → bytes_eq a b ≡ false → is_before a b ≡ true
other_way a b back other = go (slice_cmp nat_cmp b a) (slice_cmp nat_cmp a b) (nat_list_cmp_total.antisymm a b) back (is_eq-slice_cmp a b ∙ other)
  where
    go : (o p : Ordering) → p ≡ ordering_reverse o → is_lt o ≡ false → is_eq p ≡ false → is_lt p ≡ true
    go Less p e h k = cc
    go Equal p e h k = let t : is_eq p ≡ true = ap is_eq e in cc
    go Greater p e h k = ap is_lt e

-- ---- files in order are one list

heads_same : (s t : HaveFile) → (t ≡ s) ⊎ (is_before s.path t.path ≡ true) → (s ≡ t) ⊎ (is_before t.path s.path ≡ true) → s ≡ t
heads_same s t (inl e) b = sym e
heads_same s t (inr h) (inl e) = e
heads_same s t (inr h) (inr k) = absurd (one_way s.path t.path h k)

tail_within : (s t : HaveFile) (ss ts : List HaveFile) → s ≡ t → is_in_order (t ∷ ts) ≡ true → ((P : HaveFile → Type 0) → Each P (s ∷ ss) → Each P (t ∷ ts)) → (P : HaveFile → Type 0) → Each P ss → Each P ts
tail_within s t ss ts same order within P h =
    let a = and_parts (list_all (is_before_file t) ts) (is_in_order ts) order in
    let moved = within (λ x. (x ≡ s) ⊎ P x) (inl refl, each_from P (λ x. (x ≡ s) ⊎ P x) ss (λ x p. inr p) h) in
    each_both (λ x. (x ≡ s) ⊎ P x) (λ x. is_before_file t x ≡ true) P ts (λ x e later. only x e later) moved.1 (each_passes (is_before_file t) ts a.0)
  where
    only : (x : HaveFile) → (x ≡ s) ⊎ P x → is_before_file t x ≡ true → P x
    only x (inl e) later =
        let here : is_before t.path t.path ≡ true = sym (ap (λ (y : HaveFile). is_before t.path y.path) (e ∙ same)) ∙ later in
        absurd (one_way t.path t.path here here)
    only x (inr p) later = p

head_first : (s : HaveFile) (ss : List HaveFile) → is_in_order (s ∷ ss) ≡ true → Each (λ (x : HaveFile). (x ≡ s) ⊎ (is_before s.path x.path ≡ true)) (s ∷ ss)
head_first s ss order =
    let a = and_parts (list_all (is_before_file s) ss) (is_in_order ss) order in
    (inl refl, each_from (λ x. is_before_file s x ≡ true) (λ x. (x ≡ s) ⊎ (is_before s.path x.path ≡ true)) ss (λ x h. inr h) (each_passes (is_before_file s) ss a.0))

in_order_once : (ls bs : List HaveFile) → is_in_order ls ≡ true → is_in_order bs ≡ true → ((P : HaveFile → Type 0) → Each P ls → Each P bs) → ((P : HaveFile → Type 0) → Each P bs → Each P ls) → ls ≡ bs
in_order_once [] [] a b there back = refl
in_order_once [] (t ∷ ts) a b there back = absurd ((there (λ x. ⊥) tt).0)
in_order_once (s ∷ ss) [] a b there back = absurd ((back (λ x. ⊥) tt).0)
in_order_once (s ∷ ss) (t ∷ ts) a b there back =
    let one = (there (λ (x : HaveFile). (x ≡ s) ⊎ (is_before s.path x.path ≡ true)) (head_first s ss a)).0 in
    let two = (back (λ (x : HaveFile). (x ≡ t) ⊎ (is_before t.path x.path ≡ true)) (head_first t ts b)).0 in
    let same : s ≡ t = heads_same s t one two in
    let rest : ss ≡ ts = in_order_once ss ts (and_parts (list_all (is_before_file s) ss) (is_in_order ss) a).1 (and_parts (list_all (is_before_file t) ts) (is_in_order ts) b).1
    (tail_within s t ss ts same b there) (tail_within t s ts ss (sym same) a back) in (λ i. same i ∷ rest i)

-- ---- files put in order

put_to : (P : HaveFile → Type 0) (f : HaveFile) (gs : List HaveFile) → P f → Each P gs → Each P (put_by_path f gs)
put_to P f [] p h = (p, tt)
put_to P f (g ∷ gs) p h = elim (cases_Bool (is_before f.path g.path)) [
  | inl e ↦ rw e (p, h)
  | inr e ↦ rw e (h.0, put_to P f gs p h.1)
]

put_back : (P : HaveFile → Type 0) (f : HaveFile) (gs : List HaveFile) → Each P (put_by_path f gs) → P f × Each P gs
put_back P f [] h = h
put_back P f (g ∷ gs) h = elim (cases_Bool (is_before f.path g.path)) [
  | inl e ↦ rw e at h
  | inr e ↦ let k = rw e at h in let r = put_back P f gs k.1 in (r.0, (k.0, r.1))
]

sort_to : (P : HaveFile → Type 0) (fs : List NamedFile) → Each P (map have_of_file fs) → Each P (have_of fs)
sort_to P [] h = tt
sort_to P (f ∷ fs) h = put_to P f.have (have_of fs) h.0 (sort_to P fs h.1)

sort_back : (P : HaveFile → Type 0) (fs : List NamedFile) → Each P (have_of fs) → Each P (map have_of_file fs)
sort_back P [] h = tt
sort_back P (f ∷ fs) h = let r = put_back P f.have (have_of fs) h in (r.0, sort_back P fs r.1)

all_put : (p : HaveFile → Bool) (f : HaveFile) (gs : List HaveFile) → p f ≡ true → list_all p gs ≡ true → list_all p (put_by_path f gs) ≡ true
all_put p f [] here all = and_from (p f) true here refl
all_put p f (g ∷ gs) here all =
    let a = and_parts (p g) (list_all p gs) all in
    elim (cases_Bool (is_before f.path g.path)) [
      | inl e ↦ rw e (and_from (p f) (p g && list_all p gs) here all)
      | inr e ↦ rw e (and_from (p g) (list_all p (put_by_path f gs)) a.0 (all_put p f gs here a.1))
    ]

below_all : (f g : HaveFile) (gs : List HaveFile) → is_before f.path g.path ≡ true → list_all (is_before_file g) gs ≡ true → list_all (is_before_file f) gs ≡ true
below_all f g [] h all = refl
below_all f g (x ∷ xs) h all =
    let a = and_parts (is_before_file g x) (list_all (is_before_file g) xs) all in
    and_from (is_before_file f x) (list_all (is_before_file f) xs) (before_both f.path g.path x.path h a.0) (below_all f g xs h a.1)

put_in_order : (f : HaveFile) (gs : List HaveFile) → is_in_order gs ≡ true → Each (λ (g : HaveFile). bytes_eq g.path f.path ≡ false) gs → is_in_order (put_by_path f gs) ≡ true
put_in_order f [] order new = refl
put_in_order f (g ∷ gs) order new =
    let a = and_parts (list_all (is_before_file g) gs) (is_in_order gs) order in
    elim (cases_Bool (is_before f.path g.path)) [
      | inl e ↦ rw e (and_from (is_before f.path g.path && list_all (is_before_file f) gs) (list_all (is_before_file g) gs && is_in_order gs) (and_from (is_before f.path g.path) (list_all (is_before_file f) gs) e (below_all f g gs e a.0)) order)
      | inr e ↦ rw e (and_from (list_all (is_before_file g) (put_by_path f gs)) (is_in_order (put_by_path f gs)) (all_put (is_before_file g) f gs (other_way g.path f.path e new.0) a.0) (put_in_order f gs a.1 new.1))
    ]

unnamed_each : (hs : List HaveFile) (path : List ℕ) → is_named hs path ≡ false → Each (λ (h : HaveFile). bytes_eq h.path path ≡ false) hs
unnamed_each [] path none = tt
unnamed_each (h ∷ hs) path none = let a = or_parts (bytes_eq h.path path) (is_named hs path) none in (a.0, unnamed_each hs path a.1)

pub sorted_in_order : (fs : List NamedFile) → are_paths_once fs ≡ true → is_in_order (have_of fs) ≡ true
sorted_in_order [] once = refl
sorted_in_order (f ∷ fs) once =
    let a = and_parts (not (names fs f.have.path)) (are_paths_once fs) once in
    put_in_order f.have (have_of fs) (sorted_in_order fs a.1) (sort_to (λ (h : HaveFile). bytes_eq h.path f.have.path ≡ false) fs (unnamed_each (map have_of_file fs) f.have.path (not-true (names fs f.have.path) a.0)))

-- ---- how often a path stands

counts : List ℕ → HaveFile → ℕ
counts path h = cond (bytes_eq h.path path) 1 0

no_count : (hs : List HaveFile) (path : List ℕ) → is_named hs path ≡ false → sum_by (counts path) hs ≡ 0
unfolding counts
no_count [] path none = refl
no_count (h ∷ hs) path none =
    let a = or_parts (bytes_eq h.path path) (is_named hs path) none in
    omega (arith, sum_by-cons (counts path) h hs, cond-false {A = ℕ} (bytes_eq h.path path) 1 0 a.0, no_count hs path a.1)

once_count : (fs : List NamedFile) (path : List ℕ) → are_paths_once fs ≡ true → sum_by (counts path) (map have_of_file fs) ≤ 1
unfolding counts
once_count [] path once = omega arith
once_count (f ∷ fs) path once =
    let a = and_parts (not (names fs f.have.path)) (are_paths_once fs) once in
    elim (cases_Bool (bytes_eq f.have.path path)) [
      | inl e ↦
          let same : f.have.path ≡ path = (bytes_eq-Decides f.have.path path).0 e in
          let none : is_named (map have_of_file fs) path ≡ false = ap (is_named (map have_of_file fs)) (sym same) ∙ not-true (names fs f.have.path) a.0 in
          omega (arith, sum_by-cons (counts path) f.have (map have_of_file fs), cond-true {A = ℕ} (bytes_eq f.have.path path) 1 0 e, no_count (map have_of_file fs) path none)
      | inr e ↦ omega (arith, sum_by-cons (counts path) f.have (map have_of_file fs), cond-false {A = ℕ} (bytes_eq f.have.path path) 1 0 e, once_count fs path a.1)
    ]

sum_mapped : (count : HaveFile → ℕ) (xs : List FileHave) → sum_by count (map have_file xs) ≡ sum_by (λ (x : FileHave). count (have_file x)) xs
sum_mapped count [] = refl
sum_mapped count (x ∷ xs) = sum_by-cons count (have_file x) (map have_file xs) ∙ ap (λ n. count (have_file x) + n) (sum_mapped count xs) ∙ sym (sum_by-cons (λ (y : FileHave). count (have_file y)) x xs)

two_count : (path : List ℕ) (xs : List FileHave) (i j : ℕ) (d : FileHave) → i < j → j < length xs → bytes_eq (get_or xs i d).path path ≡ true → bytes_eq (get_or xs j d).path path ≡ true → 2 ≤ sum_by (λ (x : FileHave). counts path (have_file x)) xs
unfolding counts
two_count path [] i j d lt within a b = absurd (omega arith)
two_count path (x ∷ xs) i zero d lt within a b = absurd (omega arith)
two_count path (x ∷ xs) zero (suc j) d lt within a b =
    omega (arith, sum_by-cons (λ (y : FileHave). counts path (have_file y)) x xs, cond-true {A = ℕ} (bytes_eq x.path path) 1 0 a, get_or-le-sum_by (λ (y : FileHave). counts path (have_file y)) xs j d (omega arith), cond-true {A = ℕ} (bytes_eq (get_or xs j d).path path) 1 0 b)
two_count path (x ∷ xs) (suc i) (suc j) d lt within a b = omega (arith, sum_by-cons (λ (y : FileHave). counts path (have_file y)) x xs, two_count path xs i j d (omega arith) (omega arith) a b)

-- ---- the sorted copies

nothing : FileHave
nothing = record { path = []; size = 0; stamp = 0; spans = [] }

module _ (fs : List NamedFile) (xs ys : List FileHave) (once : are_paths_once fs ≡ true) (copies : map have_file xs ≡ map have_of_file fs) (same : IsPermutation xs ys) (sorted : IsSortedByPath ys) where
  few : (path : List ℕ) → sum_by (λ (x : FileHave). counts path (have_file x)) ys ≤ 1
  few path = omega (arith, sum_by-IsPermutation (λ (x : FileHave). counts path (have_file x)) xs ys same, sum_mapped (counts path) xs, ap (sum_by (counts path)) copies, once_count fs path once)

  differ : (k : ℕ) (d : FileHave) → suc k < length ys → bytes_eq (get_or ys k d).path (get_or ys (suc k) d).path ≡ false
  differ k d lt = false_from_ne_true (bytes_eq (get_or ys k d).path (get_or ys (suc k) d).path)
      (λ e. absurd (omega (
        arith,
        few (get_or ys (suc k) d).path,
        two_count (get_or ys (suc k) d).path ys k (suc k) d (omega arith) lt e ((bytes_eq-Decides (get_or ys (suc k) d).path (get_or ys (suc k) d).path).1 refl),
      )))

  neighbours : (k : ℕ) (d : FileHave) → suc k < length ys → is_before (get_or ys k d).path (get_or ys (suc k) d).path ≡ true
  neighbours k d lt =
      other_way (get_or ys k d).path (get_or ys (suc k) d).path
      (sorted_far (λ (x : FileHave) (y : FileHave). is_lt (slice_cmp nat_cmp (path_of x) (path_of y))) (ranks_by nat_list_cmp_total path_of) ys sorted k (suc k) d (omega arith) lt)
      (differ k d lt)

  copies_in_order : is_in_order (map have_file ys) ≡ true
  copies_in_order = in_order_from (map have_file ys) (λ k d lt.
      let within : suc k < length ys = omega (arith, length-map ys have_file) in
      let early : k < length ys = omega arith in
      (λ i. is_before_file (get_or-map have_file ys k nothing d early i) (get_or-map have_file ys (suc k) nothing d within i)) ∙ neighbours k nothing within)

  pub have_is : map have_file ys ≡ have_of fs
  have_is = in_order_once (map have_file ys) (have_of fs) copies_in_order (sorted_in_order fs once)
      (λ P h. sort_to P fs (subst (Each P) copies (each_mapped P have_file xs (each_moved (λ y. P (have_file y)) ys xs (IsPermutation-sym xs ys same) (each_unmapped P have_file ys h)))))
      (λ P h. each_mapped P have_file ys (each_moved (λ y. P (have_file y)) xs ys same (each_unmapped P have_file xs (subst (Each P) (sym copies) (sort_back P fs h)))))

-- ---- how many there are

numbers_below : (n : ℕ) (f : NamedFile) (fs : List NamedFile) → n < f.number + 1 → list_all (is_numbered_above f) fs ≡ true → list_all (λ g. nat_le (f.number + 1) g.number) fs ≡ true
numbers_below n f [] lt all = refl
numbers_below n f (g ∷ fs) lt all =
    let a = and_parts (nat_lt f.number g.number) (list_all (is_numbered_above f) fs) all in
    let more = ltb-true f.number g.number a.0 in
    and_from (nat_le (f.number + 1) g.number) (list_all (λ h. nat_le (f.number + 1) h.number) fs) (le-leb (f.number + 1) g.number (omega arith)) (numbers_below n f fs lt a.1)

few_from : (least : ℕ) (fs : List NamedFile) → list_all is_file fs ≡ true → is_rising fs ≡ true → list_all (λ g. nat_le least g.number) fs ≡ true → length fs ≤ 262144 - least
few_from least [] each up low = omega arith
few_from least (f ∷ fs) each up low =
    let e = and_parts (is_file f) (list_all is_file fs) each in
    let u = and_parts (list_all (is_numbered_above f) fs) (is_rising fs) up in
    let l = and_parts (nat_le least f.number) (list_all (λ g. nat_le least g.number) fs) low in
    let from = leb-true least f.number l.0 in
    let n = file_parts f e.0 in
    let small = ltb-true f.number 262144 (and_parts _ _ (and_parts _ _ (and_parts _ _ n.nameable).0).0).0 in
    omega (arith, few_from (f.number + 1) fs e.1 u.1 (numbers_below f.number f fs (omega arith) u.0))

low_all : (fs : List NamedFile) → list_all (λ g. nat_le 0 g.number) fs ≡ true
low_all [] = refl
low_all (f ∷ fs) = and_from (nat_le 0 f.number) (list_all (λ g. nat_le 0 g.number) fs) (le-leb 0 f.number (omega arith)) (low_all fs)

pub few_files : (fs : List NamedFile) → is_view fs ≡ true → length fs ≤ 262144
few_files fs view = let v = view_parts fs view in omega (arith, few_from 0 fs v.each v.rising (low_all fs))

pub few_copies : (fs : List NamedFile) (xs ys : List FileHave) → is_view fs ≡ true → map have_file xs ≡ map have_of_file fs → IsPermutation xs ys → length ys ≤ 262144
few_copies fs xs ys view copies same = omega (arith, few_files fs view, length_permutation xs ys same, length-map xs have_file, length-map fs have_of_file, ap length copies)
