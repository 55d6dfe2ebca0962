-- Files are counted by the tree's: each that is known or marked is one of them, and none is known or marked twice.
use Rattle.std.proofs.Common.{◌≡◌, ◌⊎◌, inl, inr, ℕ, zero, suc, ◌+◌, ◌<◌, ◌≤◌, ◌==◌, ◌||◌, nat_lt, not, Bool, true, false, cond, if◌then◌else◌, List, [], ◌∷◌, ◌++◌, length, map, count_by, sum_by, slice_get, Option, Some, None, is_some, subst, sym, ap, ◌∙◌, refl, arith, eq-eqb, eqb-true}
use Rattle.std.specs.List.{list_all, list_any}
use Rattle.std.specs.Prelude.{find}
use Rattle.std.specs.Option.{option_map}
use Rattle.std.specs.Str.{bytes_eq}
use Rattle.std.proofs.lemmas.Bool.{and_parts, both_ways, cases_lt, or_cases}
use Rattle.std.proofs.lemmas.Bool.Decides.{nat_tests}
use Rattle.std.proofs.lemmas.List.Sums.{sum_by-cons}
use Rattle.std.proofs.lemmas.Option.{same_Some}
use Rattle.std.proofs.lemmas.Slice.Eq.{bytes_eq-Decides}
use Rattle.wdt_units.specs.declared.blocks.Block.{Block}
use Rattle.wdt_units.proofs.Shared.{before_differs}
use Rattle.wdt_logfmt.specs.Beginning.{KnownFile, known_at, known_count}
use Rattle.wdt_logfmt.specs.Marks.{Marked, is_marked, just_marked, mark_block, marked_of, marks_from, marks_of, with_block}
use Rattle.wdt_logfmt.specs.View.{NamedFile, is_view}
use Rattle.wdt_rest.specs.Fitting.{found_in, size_and_stamp}
use Rattle.wdt_tree.specs.Listing.{has_path, is_below_entry, is_in_order}
use Rattle.wdt_tree.specs.declared.entry.Entry.{Entry}
use Rattle.wdt_pact.proofs.Marked.{NumbersRise}
use Rattle.wdt_pact.proofs.Opened.{Ups, ups_opened}

-- ---- counts

count_more : {A : Type 0} (q : A → Bool) (x : A) (xs : List A) → count_by q (x ∷ xs) ≡ cond (q x) 1 0 + count_by q xs
count_more q x xs = sum_by-cons (λ y. cond (q y) 1 0) x xs

one_of : (b : Bool) → b ≡ true → cond {A = ℕ} b 1 0 ≡ 1
one_of b e = ap (λ (c : Bool). cond {A = ℕ} c 1 0) e

none_of : (b : Bool) → b ≡ false → cond {A = ℕ} b 1 0 ≡ 0
none_of b e = ap (λ (c : Bool). cond {A = ℕ} c 1 0) e

by_test : (b : Bool) → (b ≡ true) ⊎ (b ≡ false)
by_test true = inl refl
by_test false = inr refl

pub count_zero : {A : Type 0} (q : A → Bool) (xs : List A) → ((j : ℕ) (y : A) → slice_get xs j ≡ Some y → q y ≡ true → ⊥) → count_by q xs ≡ 0
count_zero q [] none = refl
count_zero q (x ∷ xs) none = elim (by_test (q x)) [
  | inl here ↦ absurd (none 0 x refl here)
  | inr other ↦ (let a = none_of (q x) other in omega (arith, count_more q x xs, a, count_zero q xs (λ j y at. none (suc j) y at)))
]

-- one place at most passes
pub count_one : {A : Type 0} (q : A → Bool) (xs : List A) → ((i j : ℕ) (x y : A) → slice_get xs i ≡ Some x → slice_get xs j ≡ Some y → q x ≡ true → q y ≡ true → i ≡ j) → count_by q xs ≤ 1
count_one q [] once = omega arith
count_one q (x ∷ xs) once = elim (by_test (q x)) [
  | inl here ↦ (let a = one_of (q x) here in
      let b = count_zero q xs (λ j y at e. (let c : 0 ≡ suc j = once 0 (suc j) x y refl at here e in omega (arith, c))) in
      omega (arith, count_more q x xs, a, b))
  | inr other ↦ (let a = none_of (q x) other in
      let b = count_one q xs (λ i j y z at there e f. (let c : suc i ≡ suc j = once (suc i) (suc j) y z at there e f in omega (arith, c))) in
      omega (arith, count_more q x xs, a, b))
]

-- a place that passes
pub count_some : {A : Type 0} (q : A → Bool) (xs : List A) (k : ℕ) (x : A) → slice_get xs k ≡ Some x → q x ≡ true → 1 ≤ count_by q xs
count_some q [] k x at e = cc
count_some q (y ∷ ys) zero x at e = let is : y ≡ x = same_Some y x at in let a = one_of (q y) (ap q is ∙ e) in omega (arith, count_more q y ys, a)
count_some q (y ∷ ys) (suc k) x at e = let a = count_some q ys k x at e in omega (arith, count_more q y ys, a)

-- ---- a tree's files of a path

abbrev of_path : List ℕ → Entry → Bool
of_path path e = bytes_eq path e.path

later_none : (x : Entry) (es : List Entry) → list_all (is_below_entry x) es ≡ true → count_by (of_path x.path) es ≡ 0
later_none x [] all = refl
later_none x (e ∷ es) all =
    let a = and_parts (is_below_entry x e) (list_all (is_below_entry x) es) all in
    let b = none_of (of_path x.path e) (before_differs x.path e.path a.0) in
    omega (arith, count_more (of_path x.path) e es, b, later_none x es a.1)

-- a path that is found is that of one file
pub path_one : (es : List Entry) (path : List ℕ) (v : ℕ × ℕ) → is_in_order es ≡ true → found_in es path ≡ Some v → count_by (of_path path) es ≡ 1
path_one [] path v up found = cc
path_one (x ∷ xs) path v up found = go (has_path path x) refl found (λ f. path_one xs path v (and_parts _ _ up).1 f) where
  go : (b : Bool) → has_path path x ≡ b → option_map size_and_stamp (cond b (Some x) (find (has_path path) xs)) ≡ Some v → (found_in xs path ≡ Some v → count_by (of_path path) xs ≡ 1) → count_by (of_path path) (x ∷ xs) ≡ 1
  go true is f later =
      let same : x.path ≡ path = (bytes_eq-Decides x.path path).0 is in
      let a = one_of (of_path path x) ((bytes_eq-Decides path x.path).1 (sym same)) in
      let b : count_by (of_path path) xs ≡ 0 = subst (λ (p : List ℕ). count_by (of_path p) xs ≡ 0) same (later_none x xs (and_parts _ _ up).0) in
      omega (arith, count_more (of_path path) x xs, a, b)
  go false is f later =
      let a = none_of (of_path path x) (untrue (of_path path x) (λ e. both_ways (has_path path x) is ((bytes_eq-Decides x.path path).1 (sym ((bytes_eq-Decides path x.path).0 e))))) in
      let b = later f in
      omega (arith, count_more (of_path path) x xs, a, b) where
        untrue : (b : Bool) → (b ≡ true → ⊥) → b ≡ false
        untrue true none = absurd (none refl)
        untrue false none = refl

-- and there is one
pub path_at : (es : List Entry) (path : List ℕ) (v : ℕ × ℕ) → found_in es path ≡ Some v → (k : ℕ) × (e : Entry) × (slice_get es k ≡ Some e) × (e.path ≡ path)
path_at [] path v found = cc
path_at (x ∷ xs) path v found = go (has_path path x) refl found (path_at xs path v) where
  go : (b : Bool) → has_path path x ≡ b → option_map size_and_stamp (cond b (Some x) (find (has_path path) xs)) ≡ Some v → (found_in xs path ≡ Some v → (k : ℕ) × (e : Entry) × (slice_get xs k ≡ Some e) × (e.path ≡ path))
      → (k : ℕ) × (e : Entry) × (slice_get (x ∷ xs) k ≡ Some e) × (e.path ≡ path)
  go true is f later = (0, x, refl, (bytes_eq-Decides x.path path).0 is)
  go false is f later = let y = later f in (suc y.0, y.1, y.2, y.3)

-- ---- one count by the other

sum_of_counts : {A : Type 0} (r : A → Entry → Bool) (x : A) (xs : List A) (es : List Entry) → sum_by (λ (e : Entry). count_by (λ y. r y e) (x ∷ xs)) es ≡ count_by (r x) es + sum_by (λ (e : Entry). count_by (λ y. r y e) xs) es
sum_of_counts r x xs [] = refl
sum_of_counts r x xs (e ∷ es) =
    omega (
      arith,
      sum_by-cons (λ (f : Entry). count_by (λ y. r y f) (x ∷ xs)) e es,
      sum_by-cons (λ (f : Entry). count_by (λ y. r y f) xs) e es,
      count_more (λ y. r y e) x xs,
      count_more (r x) e es,
      sum_of_counts r x xs es,
    )

sum_of_none : {A : Type 0} (r : A → Entry → Bool) (es : List Entry) → sum_by (λ (e : Entry). count_by (λ y. r y e) []) es ≡ 0
sum_of_none r [] = refl
sum_of_none r (e ∷ es) = omega (arith, sum_by-cons (λ (f : Entry). count_by (λ y. r y f) []) e es, sum_of_none r es)

-- things of which each that passes is of one file, and each other of none
pub by_files : {A : Type 0} (r : A → Entry → Bool) (q : A → Bool) (es : List Entry) (xs : List A) → ((k : ℕ) (x : A) → slice_get xs k ≡ Some x → count_by (r x) es ≡ cond (q x) 1 0)
    → count_by q xs ≡ sum_by (λ (e : Entry). count_by (λ y. r y e) xs) es
by_files r q es [] each = sym (sum_of_none r es)
by_files r q es (x ∷ xs) each =
    let a : count_by (r x) es ≡ cond (q x) 1 0 = each 0 x refl in
    omega (arith, count_more q x xs, a, sum_of_counts r x xs es, by_files r q es xs (λ k y at. each (suc k) y at))

-- sums of which no term is above one
pub sum_few : (g : Entry → ℕ) (es : List Entry) → ((k : ℕ) (e : Entry) → slice_get es k ≡ Some e → g e ≤ 1) → sum_by g es ≤ length es
sum_few g [] each = omega arith
sum_few g (e ∷ es) each = let a : g e ≤ 1 = each 0 e refl in omega (arith, sum_by-cons g e es, a, sum_few g es (λ k x at. each (suc k) x at))

-- and one is none
pub sum_fewer : (g : Entry → ℕ) (es : List Entry) (i : ℕ) (x : Entry) → ((k : ℕ) (e : Entry) → slice_get es k ≡ Some e → g e ≤ 1) → slice_get es i ≡ Some x → g x ≡ 0 → sum_by g es + 1 ≤ length es
sum_fewer g [] i x each at none = cc
sum_fewer g (e ∷ es) zero x each at none =
    let is : g e ≡ g x = ap g (same_Some e x at) in omega (arith, sum_by-cons g e es, is, none, sum_few g es (λ k y there. each (suc k) y there))
sum_fewer g (e ∷ es) (suc i) x each at none =
    let a : g e ≤ 1 = each 0 e refl in omega (arith, sum_by-cons g e es, a, sum_fewer g es i x (λ k y there. each (suc k) y there) at none)

-- each is one
pub sum_ones : (g : Entry → ℕ) (es : List Entry) → ((k : ℕ) (e : Entry) → slice_get es k ≡ Some e → g e ≡ 1) → sum_by g es ≡ length es
sum_ones g [] each = refl
sum_ones g (e ∷ es) each = let a : g e ≡ 1 = each 0 e refl in omega (arith, sum_by-cons g e es, a, sum_ones g es (λ k x at. each (suc k) x at))

-- ---- a slot's file

-- the known file of a slot is this of the tree
abbrev pub slot_is : Option KnownFile → Entry → Bool
slot_is None e = false
slot_is (Some file) e = bytes_eq file.path e.path

none_at : (es : List Entry) → count_by (slot_is None) es ≡ 0
none_at [] = refl
none_at (e ∷ es) = omega (arith, count_more (slot_is None) e es, none_at es)

-- a slot is of one file where it has one, which is found in the tree
pub slot_counts : (es : List Entry) (slot : Option KnownFile) → is_in_order es ≡ true → ((file : KnownFile) → slot ≡ Some file → found_in es file.path ≡ Some (file.size, file.stamp)) → count_by (slot_is slot) es ≡ cond (is_some slot) 1 0
slot_counts es None up found = none_at es
slot_counts es (Some file) up found = path_one es file.path (file.size, file.stamp) up (found file refl)

-- ---- marks of distinct numbers

above : (m n : ℕ) → (m == n) ≡ false → m ≤ n → m + 1 ≤ n
above m n other le = elim (cases_lt m n) [
  | inl less ↦ omega (arith, less)
  | inr more ↦ absurd (both_ways (m == n) other (eq-eqb m n (omega (arith, le, more))))
]

pub rise_block : (low : ℕ) (ms : List Marked) (b : Block) → low ≤ b.file → NumbersRise low ms → NumbersRise low (mark_block ms b)
rise_block low [] b from up = (from, tt)
rise_block low (m ∷ ms) b from up = go (m.number == b.file) (nat_lt b.file m.number) refl refl (rise_block (m.number + 1) ms b) where
  go : (c d : Bool) → (m.number == b.file) ≡ c → nat_lt b.file m.number ≡ d → (m.number + 1 ≤ b.file → NumbersRise (m.number + 1) ms → NumbersRise (m.number + 1) (mark_block ms b))
      → NumbersRise low (if c then record { number = m.number; spans = with_block m.spans b } ∷ ms else if d then just_marked b ∷ m ∷ ms else m ∷ mark_block ms b)
  go true d same e on = (up.0, up.1)
  go false true other less on = (from, ((let x : b.file < m.number = grind (arith, nat_tests, less) in omega (arith, x)), up.1))
  go false false other more on = (up.0, on (above m.number b.file other (let x : m.number ≤ b.file = grind (arith, nat_tests, more) in x)) up.1)

pub ups_marked : (low : ℕ) (fs : List NamedFile) → Ups low fs → NumbersRise low (map marked_of fs)
ups_marked low [] u = tt
ups_marked low (f ∷ fs) u = (u.0, ups_marked (f.number + 1) fs u.1)

rise_all : (ms : List Marked) (bs : List Block) → NumbersRise 0 ms → NumbersRise 0 (marks_from ms bs)
rise_all ms [] up = up
rise_all ms (b ∷ bs) up = rise_all (mark_block ms b) bs (rise_block 0 ms b (omega arith) up)

pub marks_rise : (fs : List NamedFile) (bs : List Block) → is_view fs ≡ true → NumbersRise 0 (marks_of fs bs)
unfolding marks_of
marks_rise fs bs view = rise_all (map marked_of fs) bs (ups_marked 0 fs (ups_opened fs view))

above_all : (low : ℕ) (ms : List Marked) (k : ℕ) (m : Marked) → NumbersRise low ms → slice_get ms k ≡ Some m → low ≤ m.number
above_all low [] k m up at = cc
above_all low (x ∷ xs) zero m up at = subst (λ (y : Marked). low ≤ y.number) (same_Some x m at) up.0
above_all low (x ∷ xs) (suc k) m up at = let a : x.number + 1 ≤ m.number = above_all (x.number + 1) xs k m up.1 at in omega (arith, a, up.0)

-- marks of one number are one
pub marks_once : (low : ℕ) (ms : List Marked) (i j : ℕ) (m o : Marked) → NumbersRise low ms → slice_get ms i ≡ Some m → slice_get ms j ≡ Some o → m.number ≡ o.number → i ≡ j
marks_once low [] i j m o up at there same = cc
marks_once low (x ∷ xs) zero zero m o up at there same = refl
marks_once low (x ∷ xs) zero (suc j) m o up at there same =
    let a : x.number + 1 ≤ o.number = above_all (x.number + 1) xs j o up.1 there in
    let b : x.number ≡ m.number = ap (λ (y : Marked). y.number) (same_Some x m at) in
    absurd (omega (arith, a, b, same))
marks_once low (x ∷ xs) (suc i) zero m o up at there same =
    let a : x.number + 1 ≤ m.number = above_all (x.number + 1) xs i m up.1 at in
    let b : x.number ≡ o.number = ap (λ (y : Marked). y.number) (same_Some x o there) in
    absurd (omega (arith, a, b, same))
marks_once low (x ∷ xs) (suc i) (suc j) m o up at there same = ap suc (marks_once (x.number + 1) xs i j m o up.1 at there same)

-- ---- marks that stay

pub marked_at : (ms : List Marked) (n : ℕ) → is_marked ms n ≡ true → (k : ℕ) × (m : Marked) × (slice_get ms k ≡ Some m) × (m.number ≡ n)
marked_at [] n e = cc
marked_at (m ∷ ms) n e = elim (or_cases (m.number == n) (is_marked ms n) e) [
  | inl here ↦ (0, m, refl, eqb-true m.number n here)
  | inr there ↦ (let x = marked_at ms n there in (suc x.0, x.1, x.2, x.3))
]

pub at_marked : (ms : List Marked) (k : ℕ) (m : Marked) → slice_get ms k ≡ Some m → is_marked ms m.number ≡ true
at_marked [] k m at = cc
at_marked (x ∷ xs) zero m at = ap (λ (b : Bool). b || is_marked xs m.number) (eq-eqb x.number m.number (ap (λ (y : Marked). y.number) (same_Some x m at)))
at_marked (x ∷ xs) (suc k) m at = ap (λ (b : Bool). (x.number == m.number) || b) (at_marked xs k m at) ∙ or_true (x.number == m.number) where
  or_true : (b : Bool) → (b || true) ≡ true
  or_true true = refl
  or_true false = refl

block_marks : (ms : List Marked) (b : Block) (n : ℕ) → is_marked ms n ≡ true → is_marked (mark_block ms b) n ≡ true
block_marks [] b n e = cc
block_marks (m ∷ ms) b n e = go (m.number == b.file) (nat_lt b.file m.number) (block_marks ms b n) where
  or_two : (x y z : Bool) → (y ≡ true → z ≡ true) → (x || y) ≡ true → (x || z) ≡ true
  or_two true y z f e = refl
  or_two false y z f e = f e

  or_more : (x y : Bool) → y ≡ true → (x || y) ≡ true
  or_more true y e = refl
  or_more false y e = e

  go : (c d : Bool) → (is_marked ms n ≡ true → is_marked (mark_block ms b) n ≡ true) → is_marked (if c then record { number = m.number; spans = with_block m.spans b } ∷ ms else if d then just_marked b ∷ m ∷ ms else m ∷ mark_block ms b) n ≡ true
  go true d later = e
  go false true later = or_more (b.file == n) (is_marked (m ∷ ms) n) e
  go false false later = or_two (m.number == n) (is_marked ms n) (is_marked (mark_block ms b) n) later e

all_mark : (ms : List Marked) (bs : List Block) (n : ℕ) → is_marked ms n ≡ true → is_marked (marks_from ms bs) n ≡ true
all_mark ms [] n e = e
all_mark ms (b ∷ bs) n e = all_mark (mark_block ms b) bs n (block_marks ms b n e)

pub marks_stay : (fs : List NamedFile) (bs : List Block) (n : ℕ) → is_marked (map marked_of fs) n ≡ true → is_marked (marks_of fs bs) n ≡ true
unfolding marks_of
marks_stay fs bs n e = all_mark (map marked_of fs) bs n e

-- how many there are
pub count_all : (ms : List Marked) → count_by (λ (m : Marked). true) ms ≡ length ms
count_all [] = refl
count_all (m ∷ ms) = omega (arith, count_more (λ (x : Marked). true) m ms, count_all ms)

-- one that passes, where some do
pub sum_some : (q : Block → Bool) (xs : List Block) → 1 ≤ sum_by (λ (b : Block). cond {A = ℕ} (q b) 1 0) xs → (k : ℕ) × (b : Block) × (slice_get xs k ≡ Some b) × (q b ≡ true)
sum_some q [] some = absurd (omega (arith, some))
sum_some q (x ∷ xs) some = elim (by_test (q x)) [
  | inl here ↦ (0, x, refl, here)
  | inr other ↦
      let a = none_of (q x) other in
      let y = sum_some q xs (omega (arith, some, sum_by-cons (λ (b : Block). cond {A = ℕ} (q b) 1 0) x xs, a)) in
      (suc y.0, y.1, y.2, y.3)
]

pub sum_at : (q : Block → Bool) (xs : List Block) → list_any q xs ≡ true → 1 ≤ sum_by (λ (b : Block). cond {A = ℕ} (q b) 1 0) xs
sum_at q [] e = cc
sum_at q (x ∷ xs) e = elim (or_cases (q x) (list_any q xs) e) [
  | inl here ↦ (let a = one_of (q x) here in omega (arith, sum_by-cons (λ (b : Block). cond {A = ℕ} (q b) 1 0) x xs, a))
  | inr there ↦ (let a = sum_at q xs there in omega (arith, sum_by-cons (λ (b : Block). cond {A = ℕ} (q b) 1 0) x xs, a))
]
