-- A list whose neighbours rise is in order as a whole.
use Rattle.std.proofs.Common.{◌≡◌, ℕ, zero, suc, ◌+◌, ◌-◌, ◌<◌, ◌≤◌, true, false, List, [], ◌∷◌, length, map, get_or, refl, ap, ◌∙◌, arith, inl, inr, subst}
use Rattle.std.specs.List.{list_all}
use Rattle.std.specs.Ordering.{is_lt, nat_cmp}
use Rattle.std.specs.declared.cmp.Ordering.{Ordering}
use Rattle.std.specs.declared.cmp.Ordering.TheVariants.{Less, Equal, Greater}
use Rattle.std.specs.Cmp.Lexicographic.{slice_cmp}
use Rattle.std.proofs.lemmas.Bool.{and_from, and_parts, and_left, and_right, cases_lt}
use Rattle.std.proofs.lemmas.Cmp.{nat_list_cmp_total}
use Rattle.std.proofs.lemmas.List.{get_or-map, length-map}
use Rattle.std.proofs.lemmas.List.Folds.{list_all_at}
use Rattle.wdt_units.specs.Have.{HaveFile}
use Rattle.wdt_units.specs.Tree.{is_before}
use Rattle.wdt_ranges.specs.declared.have.FileHave.{FileHave}
use Rattle.wdt_ranges.specs.Files.{have_file, is_before_file, is_in_order}

-- the neighbours below a place rise
pub record IsWalk (files : List HaveFile) (at : ℕ) : Type 0 where
  pub rises : (k : ℕ) (d : HaveFile) → suc k < at → suc k < length files → is_before_file (get_or files k d) (get_or files (suc k) d) ≡ true

less : (o : Ordering) → is_lt o ≡ true → o ≡ Less
less Less h = refl
less Equal h = cc
less Greater h = cc

before_both : (a b c : List ℕ) → is_before a b ≡ true → is_before b c ≡ true → is_before a c ≡ true
before_both a b c h k = ap is_lt (nat_list_cmp_total.trans a b c (less (slice_cmp nat_cmp a b) h) (less (slice_cmp nat_cmp b c) k))

below_all : (file next : HaveFile) (files : List HaveFile) → is_before_file file next ≡ true → list_all (is_before_file next) files ≡ true → list_all (is_before_file file) files ≡ true
below_all file next [] h all = refl
below_all file next (x ∷ xs) h all =
    let parts = and_parts (is_before_file next x) (list_all (is_before_file next) xs) all in
    and_from (is_before_file file x) (list_all (is_before_file file) xs) (before_both file.path next.path x.path h parts.0) (below_all file next xs h parts.1)

pub in_order_from : (files : List HaveFile) → ((k : ℕ) (d : HaveFile) → suc k < length files → is_before_file (get_or files k d) (get_or files (suc k) d) ≡ true) → is_in_order files ≡ true
in_order_from [] h = refl
in_order_from (x ∷ []) h = refl
in_order_from (x ∷ y ∷ ys) h =
    let rest : is_in_order (y ∷ ys) ≡ true = in_order_from (y ∷ ys) (λ k d lt. h (suc k) d (omega arith)) in
    let next : is_before_file x y ≡ true = h zero x (omega arith) in
    let parts = and_parts (list_all (is_before_file y) ys) (is_in_order ys) rest in
    and_from (list_all (is_before_file x) (y ∷ ys)) (is_in_order (y ∷ ys))
    (and_from (is_before_file x y) (list_all (is_before_file x) ys) next (below_all x y ys next parts.0)) rest

pub in_order_not : (files : List HaveFile) (k : ℕ) (d : HaveFile) → suc k < length files → is_before_file (get_or files k d) (get_or files (suc k) d) ≡ false → is_in_order files ≡ false
in_order_not [] k d lt h = absurd (omega arith)
in_order_not (x ∷ xs) zero d lt h = and_left (list_all (is_before_file x) xs) (is_in_order xs) (list_all_at (is_before_file x) xs zero d (omega arith) h)
in_order_not (x ∷ xs) (suc k) d lt h = and_right (list_all (is_before_file x) xs) (is_in_order xs) (in_order_not xs k d (omega arith) h)

pub walk_more : (files : List HaveFile) (at : ℕ) → IsWalk files at → ((d : HaveFile) → is_before_file (get_or files (at - 1) d) (get_or files at d) ≡ true) → IsWalk files (at + 1)
walk_more files at walk here = record {
  rises = λ k d lt within. elim (cases_lt (suc k) at) [
    | inl early ↦ walk.rises k d early within
    | inr late ↦
        let low : at - 1 ≡ k = omega arith in
        let high : at ≡ suc k = omega arith in
        subst (λ n. is_before_file (get_or files k d) (get_or files n d) ≡ true) high (subst (λ n. is_before_file (get_or files n d) (get_or files at d) ≡ true) low (here d))
  ];
}

-- ---- files of the code

pub neighbours : (files : List FileHave) (at : ℕ) (a b : FileHave) → 0 < at → at < length files → (d : HaveFile)
    → is_before_file (get_or (map have_file files) (at - 1) d) (get_or (map have_file files) at d) ≡ is_before (get_or files (at - 1) a).path (get_or files at b).path
neighbours files at a b some within d =
    ap (λ (x : HaveFile). is_before_file x (get_or (map have_file files) at d)) (get_or-map have_file files (at - 1) a d (omega arith))
    ∙ ap (λ (y : HaveFile). is_before_file (have_file (get_or files (at - 1) a)) y) (get_or-map have_file files at b d within)

pub not_in_order : (files : List FileHave) (at : ℕ) (a b : FileHave) → 0 < at → at < length files → is_before (get_or files (at - 1) a).path (get_or files at b).path ≡ false
    → is_in_order (map have_file files) ≡ false
not_in_order files at a b some within h =
    let next : at ≡ suc (at - 1) = omega arith in
    in_order_not (map have_file files) (at - 1) (have_file a) (omega (arith, length-map files have_file))
    (subst (λ n. is_before_file (get_or (map have_file files) (at - 1) (have_file a)) (get_or (map have_file files) n (have_file a)) ≡ false) next (neighbours files at a b some within (have_file a) ∙ h))

pub all_in_order : (files : List FileHave) (at : ℕ) → IsWalk (map have_file files) at → length files ≤ at → is_in_order (map have_file files) ≡ true
all_in_order files at walk end = in_order_from (map have_file files) (λ k d lt. walk.rises k d (omega (arith, length-map files have_file)) lt)
