-- The file of a path that a have names, as a search finds it.
use Rattle.std.proofs.Common.{◌≡◌, ℕ, zero, suc, ◌+◌, ◌<◌, Bool, true, false, cond, ◌||◌, List, [], ◌∷◌, length, map, get_or, refl, sym, ap, ◌∙◌, arith, inl, inr, subst}
use Rattle.std.specs.List.{list_all, AllWithin, HoldsAt}
use Rattle.std.specs.List.Sorted.{IsSortedByKey}
use Rattle.std.specs.Ordering.{is_lt, is_eq, nat_cmp}
use Rattle.std.specs.declared.cmp.Ordering.TheVariants.{Less, Equal, Greater}
use Rattle.std.specs.Cmp.Lexicographic.{slice_cmp}
use Rattle.std.specs.Str.{bytes_eq}
use Rattle.std.proofs.lemmas.Bool.{and_parts, cases_lt, or_left, or_right}
use Rattle.std.proofs.lemmas.Cmp.{nat_list_cmp_total}
use Rattle.std.proofs.lemmas.List.Sorted.{ranks_by}
use Rattle.std.proofs.lemmas.Map.Text.{is_eq-slice_cmp}
use Rattle.std.proofs.lemmas.Slice.Eq.{bytes_eq-Decides}
use Rattle.wdt_units.specs.Have.{HaveFile, is_named}
use Rattle.wdt_ranges.specs.declared.have.FileHave.{FileHave}
use Rattle.wdt_ranges.specs.Files.{have_file, is_before_file, is_in_order}
use Rattle.wdt_rest.specs.RestOf.{spans_of}
use Rattle.wdt_units.proofs.Shared.{before_differs}

abbrev pub path_of : FileHave → List ℕ
path_of file = file.path

-- each path comes before all later ones
all_get : (x : HaveFile) (files : List FileHave) (j : ℕ) (d : FileHave) → list_all (is_before_file x) (map have_file files) ≡ true → j < length files → is_before_file x (have_file (get_or files j d)) ≡ true
all_get x [] j d all lt = absurd (omega arith)
all_get x (f ∷ fs) zero d all lt = (and_parts (is_before_file x (have_file f)) (list_all (is_before_file x) (map have_file fs)) all).0
all_get x (f ∷ fs) (suc j) d all lt = all_get x fs j d ((and_parts (is_before_file x (have_file f)) (list_all (is_before_file x) (map have_file fs)) all).1) (omega arith)

in_order_at : (files : List FileHave) (i j : ℕ) (d : FileHave) → is_in_order (map have_file files) ≡ true → i < j → j < length files
    → is_lt (slice_cmp nat_cmp (path_of (get_or files i d)) (path_of (get_or files j d))) ≡ true
in_order_at [] i j d up lt within = absurd (omega arith)
in_order_at (f ∷ fs) i zero d up lt within = absurd (omega arith)
in_order_at (f ∷ fs) zero (suc j) d up lt within = all_get (have_file f) fs j d ((and_parts (list_all (is_before_file (have_file f)) (map have_file fs)) (is_in_order (map have_file fs)) up).0) (omega arith)
in_order_at (f ∷ fs) (suc i) (suc j) d up lt within = in_order_at fs i j d ((and_parts (list_all (is_before_file (have_file f)) (map have_file fs)) (is_in_order (map have_file fs)) up).1) (omega arith) (omega arith)

pub sorted_from : (files : List FileHave) → is_in_order (map have_file files) ≡ true → IsSortedByKey path_of (slice_cmp nat_cmp) files
sorted_from files up k d lo hi =
    (ranks_by nat_list_cmp_total path_of).one_way (get_or files k d) (get_or files (k + 1) d) (in_order_at files k (k + 1) d up (omega arith) hi)

-- ---- what is named, by a test of each file

named_none : (files : List FileHave) (path : List ℕ) → ((k : ℕ) (d : FileHave) → k < length files → bytes_eq (path_of (get_or files k d)) path ≡ false)
    → (is_named (map have_file files) path ≡ false) × (spans_of (map have_file files) path ≡ [])
named_none [] path h = (refl, refl)
named_none (f ∷ fs) path h =
    let here : bytes_eq f.path path ≡ false = h 0 f (omega arith) in
    let rest : (is_named (map have_file fs) path ≡ false) × (spans_of (map have_file fs) path ≡ []) = named_none fs path (λ k d lt. h (suc k) d (omega arith)) in
    (ap (λ (b : Bool). b || is_named (map have_file fs) path) here ∙ rest.0, ap (λ (b : Bool). cond b f.spans (spans_of (map have_file fs) path)) here ∙ rest.1)

named_at : (files : List FileHave) (path : List ℕ) (at : ℕ) (d : FileHave) → is_in_order (map have_file files) ≡ true → at < length files → bytes_eq (path_of (get_or files at d)) path ≡ true
    → (is_named (map have_file files) path ≡ true) × (spans_of (map have_file files) path ≡ (get_or files at d).spans)
named_at [] path at d up lt here = absurd (omega arith)
named_at (f ∷ fs) path zero d up lt here =
    (or_left (bytes_eq f.path path) (is_named (map have_file fs) path) here, ap (λ (b : Bool). cond b f.spans (spans_of (map have_file fs) path)) here)
named_at (f ∷ fs) path (suc at) d up lt here =
    let parts : (list_all (is_before_file (have_file f)) (map have_file fs) ≡ true) × (is_in_order (map have_file fs) ≡ true) = and_parts (list_all (is_before_file (have_file f)) (map have_file fs)) (is_in_order (map have_file fs)) up in
    let first : bytes_eq f.path (path_of (get_or fs at d)) ≡ false = before_differs f.path (path_of (get_or fs at d)) (all_get (have_file f) fs at d parts.0 (omega arith)) in
    let same : path_of (get_or fs at d) ≡ path = (bytes_eq-Decides (path_of (get_or fs at d)) path).0 here in
    let other : bytes_eq f.path path ≡ false = subst (λ (p : List ℕ). bytes_eq f.path p ≡ false) same first in
    let rest : (is_named (map have_file fs) path ≡ true) × (spans_of (map have_file fs) path ≡ (get_or fs at d).spans) = named_at fs path at d parts.1 (omega arith) here in
    (or_right (bytes_eq f.path path) (is_named (map have_file fs) path) rest.0, ap (λ (b : Bool). cond b f.spans (spans_of (map have_file fs) path)) other ∙ rest.1)

-- ---- what a search says

pub search_finds : (files : List FileHave) (path : List ℕ) (at : ℕ) → is_in_order (map have_file files) ≡ true → at < length files → HoldsAt (λ (y : FileHave). slice_cmp nat_cmp y.path path ≡ Equal) files at
    → (d : FileHave) → (is_named (map have_file files) path ≡ true) × (spans_of (map have_file files) path ≡ (get_or files at d).spans)
search_finds files path at up lt holds d =
    named_at files path at d up lt (sym (is_eq-slice_cmp (path_of (get_or files at d)) path) ∙ ap is_eq (holds d))

pub search_names : (files : List FileHave) (path : List ℕ) (at : ℕ) → is_in_order (map have_file files) ≡ true → at < length files → HoldsAt (λ (y : FileHave). slice_cmp nat_cmp y.path path ≡ Equal) files at
    → is_named (map have_file files) path ≡ true
search_names [] path at up lt holds = absurd (omega arith)
search_names (f ∷ fs) path at up lt holds = (search_finds (f ∷ fs) path at up lt holds f).0

pub search_misses : (files : List FileHave) (path : List ℕ) (i : ℕ) → AllWithin (λ (y : FileHave). slice_cmp nat_cmp y.path path ≡ Less) files 0 i
    → AllWithin (λ (y : FileHave). slice_cmp nat_cmp y.path path ≡ Greater) files i (length files)
    → (is_named (map have_file files) path ≡ false) × (spans_of (map have_file files) path ≡ [])
search_misses files path i low high = named_none files path (λ k d lt. elim (cases_lt k i) [
  | inl a ↦ sym (is_eq-slice_cmp (path_of (get_or files k d)) path) ∙ ap is_eq (low k d (omega arith) a)
  | inr b ↦ sym (is_eq-slice_cmp (path_of (get_or files k d)) path) ∙ ap is_eq (high k d b lt)
])
