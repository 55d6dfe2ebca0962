-- What is told of a destination, compared place by place.
use Rattle.std.proofs.Common.{◌≡◌, ◌≢◌, ℕ, ◌+◌, ◌-◌, ◌<◌, ◌≤◌, Bool, true, false, ◌&&◌, List, [], ◌∷◌, length, get_or, drop, map, Option, Some, None, if◌then◌else◌, refl, sym, ap, ◌∙◌, arith}
use Rattle.std.proofs.lemmas.List.{drop_more, drop_all, get_or-map, length-drop}
use Rattle.wdt_units.specs.Have.{HaveFile}
use Rattle.wdt_ranges.specs.declared.have.FileHave.{FileHave}
use Rattle.wdt_ranges.specs.Files.{have_file, is_before_file}
use Rattle.wdt_sender_fsm.specs.Chunks.{different_from, is_same_file, unordered_at, unordered_from}

-- ---- the order

-- the least place from here on, where the list begins at the file before
abbrev pub from_behind : ℕ → List HaveFile → Option ℕ
from_behind at [] = None
from_behind at (file ∷ files) = unordered_from at file.path files

-- up to a place each path comes behind the one before it
pub record IsOrderedTo (files : List HaveFile) (at : ℕ) : Type 0 where
  pub some : 1 ≤ at
  pub rest : unordered_at files ≡ from_behind at (drop (at - 1) files)

begins : (files : List HaveFile) → unordered_at files ≡ from_behind 1 files
begins [] = refl
begins (file ∷ files) = refl

pub ordered_start : (files : List HaveFile) → IsOrderedTo files 1
ordered_start files = record { some = omega arith; rest = begins files }

two_more : (files : List HaveFile) (at : ℕ) (d : HaveFile) → 1 ≤ at → at < length files → drop (at - 1) files ≡ get_or files (at - 1) d ∷ get_or files at d ∷ drop (at + 1) files
two_more files at d some lt =
    let back : at - 1 + 1 ≡ at = omega arith in
    drop_more files (at - 1) d (omega arith)
    ∙ ap (λ (xs : List HaveFile). get_or files (at - 1) d ∷ xs) (ap (λ (n : ℕ). drop n files) back ∙ drop_more files at d lt)

pub ordered_more : (files : List HaveFile) (at : ℕ) (d : HaveFile) → IsOrderedTo files at → at < length files → is_before_file (get_or files (at - 1) d) (get_or files at d) ≡ true → IsOrderedTo files (at + 1)
ordered_more files at d to lt before =
    let same : at + 1 - 1 ≡ at = omega arith in
    record {
      some = omega arith;
      rest =
          to.rest
          ∙ ap (from_behind at) (two_more files at d to.some lt)
          ∙ ap (λ (b : Bool). if b then unordered_from (at + 1) (get_or files at d).path (drop (at + 1) files) else Some at) before
          ∙ ap (from_behind (at + 1)) (sym (drop_more files at d lt) ∙ ap (λ (n : ℕ). drop n files) (sym same));
    }

pub unordered_here : (files : List HaveFile) (at : ℕ) (d : HaveFile) → IsOrderedTo files at → at < length files → is_before_file (get_or files (at - 1) d) (get_or files at d) ≡ false → Some at ≡ unordered_at files
unordered_here files at d to lt before =
    sym (to.rest ∙ ap (from_behind at) (two_more files at d to.some lt) ∙ ap (λ (b : Bool). if b then unordered_from (at + 1) (get_or files at d).path (drop (at + 1) files) else Some at) before)

short : (at : ℕ) (files : List HaveFile) → length files ≤ 1 → from_behind at files ≡ None
short at [] few = refl
short at (x ∷ []) few = refl
short at (x ∷ y ∷ ys) few = absurd (omega (arith, few))

pub ordered_all : (files : List HaveFile) (at : ℕ) → IsOrderedTo files at → length files ≤ at → None ≡ unordered_at files
ordered_all files at to all = sym (to.rest ∙ short at (drop (at - 1) files) (omega (arith, length-drop (at - 1) files, to.some)))

-- ---- differences

pub differ_on : (xs ys : List HaveFile) (at : ℕ) (d : HaveFile) → at < length xs → at < length ys → is_same_file (get_or xs at d) (get_or ys at d) ≡ true → different_from at (drop at xs) (drop at ys) ≡ different_from (at + 1) (drop (at + 1) xs) (drop (at + 1) ys)
differ_on xs ys at d l m same =
    ap (λ (zs : List HaveFile). different_from at zs (drop at ys)) (drop_more xs at d l)
    ∙ ap (different_from at (get_or xs at d ∷ drop (at + 1) xs)) (drop_more ys at d m)
    ∙ ap (λ (b : Bool). if b then different_from (at + 1) (drop (at + 1) xs) (drop (at + 1) ys) else Some at) same

pub differ_here : (xs ys : List HaveFile) (at : ℕ) (d : HaveFile) → at < length xs → at < length ys → is_same_file (get_or xs at d) (get_or ys at d) ≡ false → different_from at (drop at xs) (drop at ys) ≡ Some at
differ_here xs ys at d l m other =
    ap (λ (zs : List HaveFile). different_from at zs (drop at ys)) (drop_more xs at d l)
    ∙ ap (different_from at (get_or xs at d ∷ drop (at + 1) xs)) (drop_more ys at d m)
    ∙ ap (λ (b : Bool). if b then different_from (at + 1) (drop (at + 1) xs) (drop (at + 1) ys) else Some at) other

pub differ_none : (xs ys : List HaveFile) (at : ℕ) → length xs ≤ at → length ys ≤ at → different_from at (drop at xs) (drop at ys) ≡ None
differ_none xs ys at l m = ap (λ (zs : List HaveFile). different_from at zs (drop at ys)) (drop_all at xs l) ∙ ap (different_from at []) (drop_all at ys m)

one_longer : (at : ℕ) (xs ys : List HaveFile) → length xs ≢ length ys → (length xs ≡ 0 → ⊥) → length ys ≡ 0 → different_from at xs ys ≡ Some at
one_longer at [] ys other some none = absurd (some refl)
one_longer at (x ∷ xs) [] other some none = refl
one_longer at (x ∷ xs) (y ∷ ys) other some none = absurd (omega (arith, none))

one_shorter : (at : ℕ) (xs ys : List HaveFile) → length xs ≡ 0 → (length ys ≡ 0 → ⊥) → different_from at xs ys ≡ Some at
one_shorter at [] [] none some = absurd (some refl)
one_shorter at [] (y ∷ ys) none some = refl
one_shorter at (x ∷ xs) ys none some = absurd (omega (arith, none))

pub differ_longer : (xs ys : List HaveFile) (at : ℕ) → at < length xs → length ys ≤ at → different_from at (drop at xs) (drop at ys) ≡ Some at
differ_longer xs ys at l m =
    one_longer at (drop at xs) (drop at ys) (λ e. omega (arith, e, length-drop at xs, length-drop at ys, l, m)) (λ e. omega (arith, e, length-drop at xs, l)) (omega (arith, length-drop at ys, m))

pub differ_shorter : (xs ys : List HaveFile) (at : ℕ) → length xs ≤ at → at < length ys → different_from at (drop at xs) (drop at ys) ≡ Some at
differ_shorter xs ys at l m = one_shorter at (drop at xs) (drop at ys) (omega (arith, length-drop at xs, l)) (λ e. omega (arith, e, length-drop at ys, m))

-- ---- files of the code

file_at : (xs : List FileHave) (at : ℕ) (r : FileHave) (d : HaveFile) → at < length xs → r ≡ get_or xs at r → get_or (map have_file xs) at d ≡ have_file r
file_at xs at r d lt e = get_or-map have_file xs at r d lt ∙ ap have_file (sym e)

pub same_files : (xs ys : List FileHave) (at : ℕ) (a b : FileHave) (d : HaveFile) → at < length xs → at < length ys → a ≡ get_or xs at a → b ≡ get_or ys at b
    → is_same_file (get_or (map have_file xs) at d) (get_or (map have_file ys) at d) ≡ is_same_file (have_file a) (have_file b)
same_files xs ys at a b d l m e f =
    ap (λ (x : HaveFile). is_same_file x (get_or (map have_file ys) at d)) (file_at xs at a d l e) ∙ ap (is_same_file (have_file a)) (file_at ys at b d m f)
