-- The files of a log as it was opened: their spans rise, their numbers are known, and a destination has what they cover.
use Rattle.std.proofs.Common.{◌≡◌, ◌⊎◌, inl, inr, ℕ, zero, suc, ◌+◌, ◌-◌, ◌^◌, ◌<◌, ◌≤◌, ◌==◌, ◌||◌, ◌&&◌, not, nat_le, nat_lt, Bool, true, false, if◌then◌else◌, List, [], ◌∷◌, ◌++◌, map, Option, Some, None, subst, sym, ap, ◌∙◌, refl, arith, eq-eqb, eqb-true}
use Rattle.std.specs.List.{list_all, list_any}
use Rattle.std.specs.Str.{bytes_eq}
use Rattle.std.proofs.lemmas.Bool.{and_from, and_parts, both_ways, or_cases, or_parts}
use Rattle.std.proofs.lemmas.Bool.Decides.{nat_tests}
use Rattle.std.proofs.lemmas.Option.{same_Some}
use Rattle.std.proofs.lemmas.Slice.Eq.{bytes_eq-Decides}
use Rattle.wdt_units.specs.Have.{HaveFile, PlainSpan, is_covered, is_in, is_named}
use Rattle.wdt_units.specs.Tree.{is_before}
use Rattle.wdt_ranges.specs.Spans.{are_apart_from, end_of, has, is_span}
use Rattle.wdt_logfmt.specs.Beginning.{KnownFile, empty_slots, known_at, known_files, slots_from}
use Rattle.wdt_logfmt.specs.Marks.{Marked, is_marked, marked_of, spans_at}
use Rattle.wdt_logfmt.specs.View.{NamedFile, are_paths_once, have_of, is_file, is_numbered_above, is_rising, is_view, names, put_by_path}
use Rattle.wdt_logfmt.proofs.ForCallers.{IsView, file_parts, view_parts}
use Rattle.wdt_pact.proofs.KnownFiles.{known_of}
use Rattle.wdt_pact.proofs.Marked.{AllRise, RiseFrom}

abbrev pub Among : NamedFile → List NamedFile → Type 0
Among f [] = ⊥
Among f (g ∷ gs) = (f ≡ g) ⊎ Among f gs

-- ---- their spans rise

pub rise_of : (low : ℕ) (ss : List PlainSpan) → are_apart_from low ss ≡ true → RiseFrom low ss
rise_of low [] e = tt
rise_of low (s ∷ ss) e =
    let a = and_parts (nat_le low s.offset && is_span s) (are_apart_from (end_of s + 1) ss) e in
    let b = and_parts (nat_le low s.offset) (is_span s) a.0 in
    let c = and_parts (nat_lt 0 s.count) (nat_le (end_of s) (2 ^ 40)) b.1 in
    (grind (arith, nat_tests, b.0), grind (arith, nat_tests, c.0), rise_of (end_of s + 1) ss a.1)

all_rise : (fs : List NamedFile) → list_all is_file fs ≡ true → AllRise (map marked_of fs)
all_rise [] e = tt
all_rise (f ∷ fs) e = let a = and_parts (is_file f) (list_all is_file fs) e in (rise_of 0 f.have.spans (file_parts f a.0).apart, all_rise fs a.1)

pub opened_rise : (fs : List NamedFile) → is_view fs ≡ true → AllRise (map marked_of fs)
opened_rise fs view = all_rise fs (view_parts fs view).each

-- ---- what is marked of them

pub opened_has : (fs : List NamedFile) (n p : ℕ) → has (spans_at (map marked_of fs) n) p ≡ true → (f : NamedFile) × Among f fs × (f.number ≡ n) × (has f.have.spans p ≡ true)
opened_has [] n p h = cc
opened_has (f ∷ fs) n p h = go (f.number == n) refl h (opened_has fs n p) where
  go : (b : Bool) → (f.number == n) ≡ b → has (if b then f.have.spans else spans_at (map marked_of fs) n) p ≡ true
      → (has (spans_at (map marked_of fs) n) p ≡ true → (g : NamedFile) × Among g fs × (g.number ≡ n) × (has g.have.spans p ≡ true)) → (g : NamedFile) × Among g (f ∷ fs) × (g.number ≡ n) × (has g.have.spans p ≡ true)
  go true is x later = (f, inl refl, eqb-true f.number n is, x)
  go false is x later = let y = later x in (y.0, inr y.1, y.2, y.3)

pub opened_marked : (fs : List NamedFile) (n : ℕ) → is_marked (map marked_of fs) n ≡ true → (f : NamedFile) × Among f fs × (f.number ≡ n)
opened_marked [] n h = cc
opened_marked (f ∷ fs) n h = go (f.number == n) refl h (opened_marked fs n) where
  go : (b : Bool) → (f.number == n) ≡ b → (b || is_marked (map marked_of fs) n) ≡ true → (is_marked (map marked_of fs) n ≡ true → (g : NamedFile) × Among g fs × (g.number ≡ n)) → (g : NamedFile) × Among g (f ∷ fs) × (g.number ≡ n)
  go true is x later = (f, inl refl, eqb-true f.number n is)
  go false is x later = let y = later x in (y.0, inr y.1, y.2)

-- ---- their numbers

-- numbers rise from one on
abbrev pub Ups : ℕ → List NamedFile → Type 0
Ups low [] = Unit {0}
Ups low (f ∷ fs) = (low ≤ f.number) × Ups (f.number + 1) fs

ups_above : (f : NamedFile) (fs : List NamedFile) → list_all (is_numbered_above f) fs ≡ true → is_rising fs ≡ true → Ups (f.number + 1) fs
ups_above f [] above up = tt
ups_above f (g ∷ fs) above up =
    let a = and_parts (nat_lt f.number g.number) (list_all (is_numbered_above f) fs) above in
    let u = and_parts (list_all (is_numbered_above g) fs) (is_rising fs) up in
    (grind (arith, nat_tests, a.0), ups_above g fs u.0 u.1)

ups_all : (fs : List NamedFile) → is_rising fs ≡ true → Ups 0 fs
ups_all [] up = tt
ups_all (f ∷ fs) up = let u = and_parts (list_all (is_numbered_above f) fs) (is_rising fs) up in (omega arith, ups_above f fs u.0 u.1)

pub ups_opened : (fs : List NamedFile) → is_view fs ≡ true → Ups 0 fs
ups_opened fs view = ups_all fs (view_parts fs view).rising

pub above_low : (low : ℕ) (fs : List NamedFile) (f : NamedFile) → Ups low fs → Among f fs → low ≤ f.number
above_low low [] f u a = absurd a
above_low low (g ∷ gs) f u (inl e) = subst (λ (x : NamedFile). low ≤ x.number) (sym e) u.0
above_low low (g ∷ gs) f u (inr a) = let x : g.number + 1 ≤ f.number = above_low (g.number + 1) gs f u.1 a in omega (arith, x, u.0)

-- behind so many empty slots
slot_behind : (k : ℕ) (rest : List (Option KnownFile)) (m j : ℕ) → m ≡ k + j → known_at (empty_slots k ++ rest) m ≡ known_at rest j
slot_behind zero rest m j e = let is : m ≡ j = omega (arith, e) in ap (known_at rest) is
slot_behind (suc k) rest zero j e = absurd (omega (arith, e))
slot_behind (suc k) rest (suc m) j e = slot_behind k rest m j (omega (arith, e))

slot_at : (low : ℕ) (fs : List NamedFile) (f : NamedFile) (m : ℕ) → Ups low fs → Among f fs → f.number ≡ low + m → known_at (slots_from low fs) m ≡ Some (known_of f)
slot_at low [] f m u a at = absurd a
slot_at low (g ∷ gs) f m u (inl e) at =
    let same : f.number ≡ g.number = ap (λ (x : NamedFile). x.number) e in
    slot_behind (g.number - low) (Some (known_of g) ∷ slots_from (g.number + 1) gs) m 0 (omega (arith, at, same, u.0)) ∙ ap (λ (x : NamedFile). Some (known_of x)) (sym e)
slot_at low (g ∷ gs) f m u (inr a) at =
    let x : g.number + 1 ≤ f.number = above_low (g.number + 1) gs f u.1 a in
    let j : ℕ = f.number - (g.number + 1) in
    slot_behind (g.number - low) (Some (known_of g) ∷ slots_from (g.number + 1) gs) m (suc j) (omega (arith, at, x, u.0)) ∙ slot_at (g.number + 1) gs f j u.1 a (omega (arith, x))

pub opened_known : (fs : List NamedFile) (f : NamedFile) → is_view fs ≡ true → Among f fs → known_at (known_files fs) f.number ≡ Some (known_of f)
opened_known fs f view a = slot_at 0 fs f f.number (ups_all fs (view_parts fs view).rising) a (omega arith)

-- ---- what a destination has of them

or_true : (x : Bool) → (x || true) ≡ true
or_true true = refl
or_true false = refl

or_left : (a b : Bool) → a ≡ true → (a || b) ≡ true
or_left a b e = ap (λ (x : Bool). x || b) e

or_right : (a b : Bool) → b ≡ true → (a || b) ≡ true
or_right a b e = ap (λ (x : Bool). a || x) e ∙ or_true a

put_any : (q : HaveFile → Bool) (f : HaveFile) (gs : List HaveFile) → (q f || list_any q gs) ≡ true → list_any q (put_by_path f gs) ≡ true
put_any q f [] e = e
put_any q f (g ∷ gs) e = go (is_before f.path g.path) (put_any q f gs) where
  go : (b : Bool) → ((q f || list_any q gs) ≡ true → list_any q (put_by_path f gs) ≡ true) → list_any q (if b then f ∷ g ∷ gs else g ∷ put_by_path f gs) ≡ true
  go true later = e
  go false later = elim (or_cases (q f) (q g || list_any q gs) e) [
    | inl own ↦ or_right (q g) (list_any q (put_by_path f gs)) (later (or_left (q f) (list_any q gs) own))
    | inr rest ↦ elim (or_cases (q g) (list_any q gs) rest) [
      | inl here ↦ or_left (q g) (list_any q (put_by_path f gs)) here
      | inr there ↦ or_right (q g) (list_any q (put_by_path f gs)) (later (or_right (q f) (list_any q gs) there))
    ]
  ]

have_any : (q : HaveFile → Bool) (fs : List NamedFile) (f : NamedFile) → Among f fs → q f.have ≡ true → list_any q (have_of fs) ≡ true
have_any q [] f a e = absurd a
have_any q (g ∷ gs) f (inl is) e = put_any q g.have (have_of gs) (or_left (q g.have) (list_any q (have_of gs)) (ap (λ (x : NamedFile). q x.have) (sym is) ∙ e))
have_any q (g ∷ gs) f (inr a) e = put_any q g.have (have_of gs) (or_right (q g.have) (list_any q (have_of gs)) (have_any q gs f a e))

pub opened_covered : (fs : List NamedFile) (f : NamedFile) (path : List ℕ) (p : ℕ) → Among f fs → f.have.path ≡ path → has f.have.spans p ≡ true → is_covered (have_of fs) path p ≡ true
opened_covered fs f path p a same h =
    have_any (λ (file : HaveFile). bytes_eq file.path path && list_any (is_in p) file.spans) fs f a (and_from (bytes_eq f.have.path path) (list_any (is_in p) f.have.spans) ((bytes_eq-Decides f.have.path path).1 same) h)

pub opened_named : (fs : List NamedFile) (f : NamedFile) (path : List ℕ) → Among f fs → f.have.path ≡ path → is_named (have_of fs) path ≡ true
opened_named fs f path a same = have_any (λ (file : HaveFile). bytes_eq file.path path) fs f a ((bytes_eq-Decides f.have.path path).1 same)

-- ---- each path is one file's

-- a file that is known by a slot
slot_by : (gap k : ℕ) (f : NamedFile) (fs : List NamedFile) (x : KnownFile) → known_at (empty_slots gap ++ Some (known_of f) ∷ slots_from (f.number + 1) fs) k ≡ Some x
    → ((j : ℕ) → known_at (slots_from (f.number + 1) fs) j ≡ Some x → (g : NamedFile) × Among g fs × (x ≡ known_of g) × (g.number ≡ f.number + 1 + j))
    → (g : NamedFile) × Among g (f ∷ fs) × (x ≡ known_of g) × (g.number + gap ≡ f.number + k)
slot_by zero zero f fs x here later = (f, inl refl, sym (same_Some (known_of f) x here), omega arith)
slot_by zero (suc k) f fs x here later = let y = later k here in (y.0, inr y.1, y.2, omega (arith, y.3))
slot_by (suc gap) zero f fs x here later = cc
slot_by (suc gap) (suc k) f fs x here later = let y = slot_by gap k f fs x here later in (y.0, y.1, y.2, omega (arith, y.3))

slot_of : (low : ℕ) (fs : List NamedFile) (m : ℕ) (x : KnownFile) → Ups low fs → known_at (slots_from low fs) m ≡ Some x → (f : NamedFile) × Among f fs × (x ≡ known_of f) × (f.number ≡ low + m)
slot_of low [] m x u e = cc
slot_of low (f ∷ fs) m x u e =
    let y = slot_by (f.number - low) m f fs x e (λ j at. slot_of (f.number + 1) fs j x u.1 at) in
    (y.0, y.1, y.2, omega (arith, y.3, u.0))

-- no other has its path
named_not : (fs : List NamedFile) (path : List ℕ) (g : NamedFile) → names fs path ≡ false → Among g fs → g.have.path ≡ path → ⊥
named_not [] path g e a same = absurd a
named_not (f ∷ fs) path g e (inl is) same =
    both_ways (bytes_eq f.have.path path) (or_parts (bytes_eq f.have.path path) (names fs path) e).0 ((bytes_eq-Decides f.have.path path).1 (ap (λ (x : NamedFile). x.have.path) (sym is) ∙ same))
named_not (f ∷ fs) path g e (inr a) same = named_not fs path g (or_parts (bytes_eq f.have.path path) (names fs path) e).1 a same

untrue : (b : Bool) → not b ≡ true → b ≡ false
untrue true e = cc
untrue false e = refl

path_once : (fs : List NamedFile) (f g : NamedFile) → are_paths_once fs ≡ true → Among f fs → Among g fs → f.have.path ≡ g.have.path → f ≡ g
path_once [] f g e a b same = absurd a
path_once (x ∷ xs) f g e (inl p) (inl q) same = p ∙ sym q
path_once (x ∷ xs) f g e (inl p) (inr b) same =
    absurd (named_not xs x.have.path g (untrue (names xs x.have.path) (and_parts (not (names xs x.have.path)) (are_paths_once xs) e).0) b (sym same ∙ ap (λ (y : NamedFile). y.have.path) p))
path_once (x ∷ xs) f g e (inr a) (inl q) same =
    absurd (named_not xs x.have.path f (untrue (names xs x.have.path) (and_parts (not (names xs x.have.path)) (are_paths_once xs) e).0) a (same ∙ ap (λ (y : NamedFile). y.have.path) q))
path_once (x ∷ xs) f g e (inr a) (inr b) same = path_once xs f g (and_parts (not (names xs x.have.path)) (are_paths_once xs) e).1 a b same

pub once_opened : (fs : List NamedFile) → is_view fs ≡ true → (i j : ℕ) (x y : KnownFile) → known_at (known_files fs) i ≡ Some x → known_at (known_files fs) j ≡ Some y → x.path ≡ y.path → i ≡ j
once_opened fs view i j x y a b same =
    let v = view_parts fs view in
    let f = slot_of 0 fs i x (ups_all fs v.rising) a in
    let g = slot_of 0 fs j y (ups_all fs v.rising) b in
    let e : f.0.number ≡ g.0.number = ap (λ (z : NamedFile). z.number) (path_once fs f.0 g.0 v.paths f.1 g.1 (ap (λ (z : KnownFile). z.path) (sym f.2) ∙ (same ∙ ap (λ (z : KnownFile). z.path) g.2))) in
    omega (arith, f.3, g.3, e)

-- a file of a have is one of the log's
put_some : (q : HaveFile → Bool) (f : HaveFile) (gs : List HaveFile) → list_any q (put_by_path f gs) ≡ true → (q f ≡ true) ⊎ (list_any q gs ≡ true)
put_some q f [] e = elim (or_cases (q f) false e) [ inl x ↦ inl x | inr y ↦ inr y ]
put_some q f (g ∷ gs) e = go (is_before f.path g.path) e (put_some q f gs) where
  go : (b : Bool) → list_any q (if b then f ∷ g ∷ gs else g ∷ put_by_path f gs) ≡ true → (list_any q (put_by_path f gs) ≡ true → (q f ≡ true) ⊎ (list_any q gs ≡ true)) → (q f ≡ true) ⊎ ((q g || list_any q gs) ≡ true)
  go true x later = elim (or_cases (q f) (q g || list_any q gs) x) [ inl own ↦ inl own | inr rest ↦ inr rest ]
  go false x later = elim (or_cases (q g) (list_any q (put_by_path f gs)) x) [
    | inl here ↦ inr (or_left (q g) (list_any q gs) here)
    | inr there ↦ elim (later there) [ inl own ↦ inl own | inr old ↦ inr (or_right (q g) (list_any q gs) old) ]
  ]

pub have_some : (q : HaveFile → Bool) (fs : List NamedFile) → list_any q (have_of fs) ≡ true → (f : NamedFile) × Among f fs × (q f.have ≡ true)
have_some q [] e = cc
have_some q (f ∷ fs) e = elim (put_some q f.have (have_of fs) e) [
  | inl own ↦ (f, inl refl, own)
  | inr old ↦ (let x = have_some q fs old in (x.0, inr x.1, x.2))
]

-- a file of the log is marked
pub among_marked : (fs : List NamedFile) (f : NamedFile) → Among f fs → is_marked (map marked_of fs) f.number ≡ true
among_marked [] f a = absurd a
among_marked (g ∷ gs) f (inl is) = or_left (g.number == f.number) (is_marked (map marked_of gs) f.number) (eq-eqb g.number f.number (ap (λ (x : NamedFile). x.number) (sym is)))
among_marked (g ∷ gs) f (inr a) = or_right (g.number == f.number) (is_marked (map marked_of gs) f.number) (among_marked gs f a)
