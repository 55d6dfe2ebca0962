-- As many named files and covered bytes as a tree has are all of its files, each covered whole.
use Rattle.std.proofs.Common.{◌≡◌, ◌⊎◌, inl, inr, ℕ, suc, ◌+◌, ◌≤◌, ◌||◌, not, Bool, true, false, List, [], ◌∷◌, length}
use Rattle.std.proofs.Common.{sum_by, Some, None, if◌then◌else◌, refl, sym, ap, ◌∙◌, subst, arith, bytes_eq}
use Rattle.std.proofs.lemmas.Bool.{and_parts, both_ways}
use Rattle.std.proofs.lemmas.List.Sums.{sum_by-cons}
use Rattle.std.proofs.lemmas.Slice.Eq.{bytes_eq-Decides}
use Rattle.wdt_units.specs.Tree.{File, file_of, length_of}
use Rattle.wdt_logfmt.specs.Landing.{IsAmong}
use Rattle.wdt_logfmt.specs.View.{NamedFile, are_paths_once, bytes_in, names}
use Rattle.wdt_good.specs.Good.{Each}

-- ---- tests

pub is_or_not : (b : Bool) → (b ≡ true) ⊎ (b ≡ false)
is_or_not true = inl refl
is_or_not false = inr refl

not_true : (b : Bool) → not b ≡ true → b ≡ false
not_true true e = cc
not_true false e = refl

not_from : (b : Bool) → b ≡ false → not b ≡ true
not_from true e = cc
not_from false e = refl

neither : (a b : Bool) → (a || b) ≡ false → (a ≡ false) × (b ≡ false)
neither true b e = cc
neither false b e = (refl, e)

-- ---- a file of the tree

-- the tree has it, and no more of it is covered than the file has
pub record IsOf (T : List File) (f : NamedFile) : Type 0 where
  pub file : File
  pub there : file_of T f.have.path ≡ Some file
  pub within : bytes_in f ≤ length file.bytes

-- the file of a path, by the first of a tree
pub first_file : (t : File) (T : List File) (path : List ℕ) → file_of (t ∷ T) path ≡ (if bytes_eq t.path path then Some t else file_of T path)
unfolding file_of
first_file t T path = refl

pub no_file : (path : List ℕ) → file_of [] path ≡ None
unfolding file_of
no_file path = refl

-- ---- files without that of a path

without : List ℕ → List NamedFile → List NamedFile
without path [] = []
without path (f ∷ fs) = if bytes_eq f.have.path path then without path fs else f ∷ without path fs

without_here : (path : List ℕ) (f : NamedFile) (fs : List NamedFile) → bytes_eq f.have.path path ≡ true → without path (f ∷ fs) ≡ without path fs
unfolding without
without_here path f fs is = rw is refl

without_there : (path : List ℕ) (f : NamedFile) (fs : List NamedFile) → bytes_eq f.have.path path ≡ false → without path (f ∷ fs) ≡ f ∷ without path fs
unfolding without
without_there path f fs is = rw is refl

without_none : (path : List ℕ) (fs : List NamedFile) → names fs path ≡ false → without path fs ≡ fs
unfolding without
without_none path [] none = refl
without_none path (f ∷ fs) none =
    let both = neither (bytes_eq f.have.path path) (names fs path) none in
    without_there path f fs both.0 ∙ ap (λ (gs : List NamedFile). f ∷ gs) (without_none path fs both.1)

-- a file that isn't named isn't named without another
unnamed : (path other : List ℕ) (fs : List NamedFile) → names fs other ≡ false → names (without path fs) other ≡ false
unfolding without
unnamed path other [] none = none
unnamed path other (f ∷ fs) none =
    let both = neither (bytes_eq f.have.path other) (names fs other) none in
    go both.0 (unnamed path other fs both.1) (is_or_not (bytes_eq f.have.path path))
  where
    go : bytes_eq f.have.path other ≡ false → names (without path fs) other ≡ false → (bytes_eq f.have.path path ≡ true) ⊎ (bytes_eq f.have.path path ≡ false)
        → names (without path (f ∷ fs)) other ≡ false
    go here more (inl is) = subst (λ (gs : List NamedFile). names gs other ≡ false) (sym (without_here path f fs is)) more
    go here more (inr is) = subst (λ (gs : List NamedFile). names gs other ≡ false) (sym (without_there path f fs is)) (rw here more)

once_without : (path : List ℕ) (fs : List NamedFile) → are_paths_once fs ≡ true → are_paths_once (without path fs) ≡ true
unfolding without
once_without path [] once = once
once_without path (f ∷ fs) once =
    let both = and_parts (not (names fs f.have.path)) (are_paths_once fs) once in
    go (not_true (names fs f.have.path) both.0) (once_without path fs both.1) (is_or_not (bytes_eq f.have.path path))
  where
    go : names fs f.have.path ≡ false → are_paths_once (without path fs) ≡ true → (bytes_eq f.have.path path ≡ true) ⊎ (bytes_eq f.have.path path ≡ false)
        → are_paths_once (without path (f ∷ fs)) ≡ true
    go none more (inl is) = subst (λ (gs : List NamedFile). are_paths_once gs ≡ true) (sym (without_here path f fs is)) more
    go none more (inr is) =
        subst (λ (gs : List NamedFile). are_paths_once gs ≡ true) (sym (without_there path f fs is)) (rw (unnamed path f.have.path fs none) more)

-- the other files are of the tree without its first
rest_of : (t : File) (T : List File) (fs : List NamedFile) → Each (IsOf (t ∷ T)) fs → Each (IsOf T) (without t.path fs)
unfolding without
rest_of t T [] all = tt
rest_of t T (f ∷ fs) all = go (rest_of t T fs all.1) (is_or_not (bytes_eq f.have.path t.path)) where
  other : bytes_eq f.have.path t.path ≡ false → bytes_eq t.path f.have.path ≡ false
  other is = apart (is_or_not (bytes_eq t.path f.have.path)) where
    apart : (bytes_eq t.path f.have.path ≡ true) ⊎ (bytes_eq t.path f.have.path ≡ false) → bytes_eq t.path f.have.path ≡ false
    apart (inl same) = absurd (both_ways _ is ((bytes_eq-Decides f.have.path t.path).1 (sym ((bytes_eq-Decides t.path f.have.path).0 same))))
    apart (inr ne) = ne

  go : Each (IsOf T) (without t.path fs) → (bytes_eq f.have.path t.path ≡ true) ⊎ (bytes_eq f.have.path t.path ≡ false) → Each (IsOf T) (without t.path (f ∷ fs))
  go more (inl is) = subst (Each (IsOf T)) (sym (without_here t.path f fs is)) more
  go more (inr is) =
      subst (Each (IsOf T)) (sym (without_there t.path f fs is)) (
        record {
          file = all.0.file;
          there = sym (first_file t T f.have.path ∙ ap (λ (b : Bool). if b then Some t else file_of T f.have.path)
              (other is)) ∙ all.0.there;
          within = all.0.within;
        },
        more,
      )

-- what is among the others is among all
among_rest : (path : List ℕ) (fs : List NamedFile) (g : NamedFile) → IsAmong g (without path fs) → IsAmong g fs
unfolding without
among_rest path [] g among = among
among_rest path (f ∷ fs) g among = go (among_rest path fs g) (is_or_not (bytes_eq f.have.path path)) where
  later : (IsAmong g (without path fs) → IsAmong g fs) → IsAmong g (f ∷ without path fs) → IsAmong g (f ∷ fs)
  later more (inl here) = inl here
  later more (inr behind) = inr (more behind)

  go : (IsAmong g (without path fs) → IsAmong g fs) → (bytes_eq f.have.path path ≡ true) ⊎ (bytes_eq f.have.path path ≡ false) → IsAmong g (f ∷ fs)
  go more (inl is) = inr (more (subst (IsAmong g) (without_here path f fs is) among))
  go more (inr is) = later more (subst (IsAmong g) (without_there path f fs is) among)

-- ---- the file of a path among others

-- the file of that path, and what the others are less
record Found (path : List ℕ) (fs : List NamedFile) : Type 0 where
  file : NamedFile
  among : IsAmong file fs
  path_is : file.have.path ≡ path
  count : length fs ≡ suc (length (without path fs))
  bytes : sum_by bytes_in fs ≡ bytes_in file + sum_by bytes_in (without path fs)

look : (path : List ℕ) (fs : List NamedFile) → are_paths_once fs ≡ true → (names fs path ≡ false) ⊎ Found path fs
unfolding without
look path [] once = inl refl
look path (f ∷ fs) once = go (is_or_not (bytes_eq f.have.path path)) (look path fs both.1) where
  both : (not (names fs f.have.path) ≡ true) × (are_paths_once fs ≡ true)
  both = and_parts (not (names fs f.have.path)) (are_paths_once fs) once

  go : (bytes_eq f.have.path path ≡ true) ⊎ (bytes_eq f.have.path path ≡ false) → (names fs path ≡ false) ⊎ Found path fs
      → (names (f ∷ fs) path ≡ false) ⊎ Found path (f ∷ fs)
  go (inl is) rest =
      let same : f.have.path ≡ path = (bytes_eq-Decides f.have.path path).0 is in
      let none : names fs path ≡ false = subst (λ (q : List ℕ). names fs q ≡ false) same (not_true (names fs f.have.path) both.0) in
      let others : without path (f ∷ fs) ≡ fs = without_here path f fs is ∙ without_none path fs none in
      inr record {
        file = f;
        among = inl refl;
        path_is = same;
        count = ap (λ (gs : List NamedFile). suc (length gs)) (sym others);
        bytes = sum_by-cons bytes_in f fs ∙ ap (λ (gs : List NamedFile). bytes_in f + sum_by bytes_in gs) (sym others);
      }
  go (inr is) (inl none) = inl (rw is none)
  go (inr is) (inr found) =
      let others : without path (f ∷ fs) ≡ f ∷ without path fs = without_there path f fs is in
      inr record {
        file = found.file;
        among = inr found.among;
        path_is = found.path_is;
        count = ap suc found.count ∙ ap (λ (gs : List NamedFile). suc (length gs)) (sym others);
        bytes = omega (arith, sum_by-cons bytes_in f fs, found.bytes, ap (sum_by bytes_in) others, sum_by-cons bytes_in f (without path fs));
      }

-- ---- counting

-- named files of a tree, each once, are no more than the tree's, with no more bytes
record AreFew (T : List File) (fs : List NamedFile) : Type 0 where
  files : length fs ≤ length T
  bytes : sum_by bytes_in fs ≤ sum_by length_of T

of_none : (fs : List NamedFile) → Each (IsOf []) fs → fs ≡ []
of_none [] all = refl
of_none (f ∷ fs) all = let none : None ≡ Some all.0.file = sym (no_file f.have.path) ∙ all.0.there in absurd (cc)

-- the file that has the path of the tree's first is that
first_is : (t : File) (T : List File) (f : NamedFile) → f.have.path ≡ t.path → IsOf (t ∷ T) f → bytes_in f ≤ length t.bytes
first_is t T f same of =
    let here : bytes_eq t.path f.have.path ≡ true = (bytes_eq-Decides t.path f.have.path).1 (sym same) in
    let found : Some t ≡ Some of.file = sym (first_file t T f.have.path ∙ ap (λ (b : Bool). if b then Some t else file_of T f.have.path) here) ∙ of.there in
    let is : t ≡ of.file = cc in
    subst (λ (u : File). bytes_in f ≤ length u.bytes) (sym is) of.within

pub each_among : (P : NamedFile → Type 0) (fs : List NamedFile) (f : NamedFile) → Each P fs → IsAmong f fs → P f
each_among P [] f all among = absurd among
each_among P (g ∷ fs) f all (inl is) = subst P is all.0
each_among P (g ∷ fs) f all (inr more) = each_among P fs f all.1 more

few : (T : List File) (fs : List NamedFile) → are_paths_once fs ≡ true → Each (IsOf T) fs → AreFew T fs
few [] fs once all = subst (AreFew []) (sym (of_none fs all)) (record { files = omega arith; bytes = omega arith })
few (t ∷ T) fs once all = go (look t.path fs once) (few T (without t.path fs) (once_without t.path fs once) (rest_of t T fs all)) where
  go : (names fs t.path ≡ false) ⊎ Found t.path fs → AreFew T (without t.path fs) → AreFew (t ∷ T) fs
  go (inl none) rest =
      let less : AreFew T fs = subst (AreFew T) (without_none t.path fs none) rest in
      record { files = omega (arith, less.files); bytes = omega (arith, less.bytes, sum_by-cons length_of t T) }
  go (inr found) rest =
      let first = first_is t T found.file found.path_is (each_among (IsOf (t ∷ T)) fs found.file all found.among) in
      record { files = omega (arith, found.count, rest.files); bytes = omega (arith, found.bytes, rest.bytes, first, sum_by-cons length_of t T) }

-- a file that is named and covered whole
pub record IsWhole (file : File) (fs : List NamedFile) : Type 0 where
  pub named : NamedFile
  pub among : IsAmong named fs
  pub path : named.have.path ≡ file.path
  pub bytes : bytes_in named ≡ length file.bytes

-- as many files and bytes as the tree has: each of its files is named and covered whole
pub all_whole : (T : List File) (fs : List NamedFile) → are_paths_once fs ≡ true → Each (IsOf T) fs → length fs ≡ length T → sum_by bytes_in fs ≡ sum_by length_of T
    → (path : List ℕ) (file : File) → file_of T path ≡ Some file → IsWhole file fs
all_whole [] fs once all count bytes path file there = let none : None ≡ Some file = sym (no_file path) ∙ there in absurd (cc)
all_whole (t ∷ T) fs once all count bytes path file there =
    let rest_once = once_without t.path fs once in
    let rest_all = rest_of t T fs all in
    go (few T (without t.path fs) rest_once rest_all) (λ count_is bytes_are. all_whole T (without t.path fs) rest_once rest_all
    count_is bytes_are path file) (look t.path fs once)
  where
    later : (length (without t.path fs) ≡ length T → sum_by bytes_in (without t.path fs) ≡ sum_by length_of T → file_of T path ≡ Some file
        → IsWhole file (without t.path fs))
        → length (without t.path fs) ≡ length T → sum_by bytes_in (without t.path fs) ≡ sum_by length_of T → bytes_eq t.path path ≡ false → IsWhole file fs
    later more count_is bytes_are ne =
        let behind : file_of T path ≡ Some file = sym (first_file t T path ∙ ap (λ (b : Bool). if b then Some t else file_of T path) ne) ∙ there in
        let whole = more count_is bytes_are behind in
        record { named = whole.named; among = among_rest t.path fs whole.named whole.among; path = whole.path; bytes = whole.bytes }

    here : (found : Found t.path fs) → bytes_in found.file ≡ length t.bytes → bytes_eq t.path path ≡ true → IsWhole file fs
    here found whole is =
        let same : Some t ≡ Some file = sym (first_file t T path ∙ ap (λ (b : Bool). if b then Some t else file_of T path) is) ∙ there in
        let first : t ≡ file = cc in
        subst (λ (u : File). IsWhole u fs) first (record { named = found.file; among = found.among; path = found.path_is; bytes = whole })

    by : AreFew T (without t.path fs)
        → (length (without t.path fs) ≡ length T → sum_by bytes_in (without t.path fs) ≡ sum_by length_of T → file_of T path ≡ Some file
        → IsWhole file (without t.path fs))
        → Found t.path fs → (bytes_eq t.path path ≡ true) ⊎ (bytes_eq t.path path ≡ false) → IsWhole file fs
    by less more found (inl is) =
        let first = first_is t T found.file found.path_is (each_among (IsOf (t ∷ T)) fs found.file all found.among) in
        here found (omega (arith, bytes, found.bytes, sum_by-cons length_of t T, less.bytes, first)) is
    by less more found (inr ne) =
        let first = first_is t T found.file found.path_is (each_among (IsOf (t ∷ T)) fs found.file all found.among) in
        later more (omega (arith, count, found.count)) (omega (arith, bytes, found.bytes, sum_by-cons length_of t T, less.bytes, first)) ne

    go : AreFew T (without t.path fs)
        → (length (without t.path fs) ≡ length T → sum_by bytes_in (without t.path fs) ≡ sum_by length_of T → file_of T path ≡ Some file
        → IsWhole file (without t.path fs))
        → (names fs t.path ≡ false) ⊎ Found t.path fs → IsWhole file fs
    go less more (inl none) = absurd (omega (arith, count, less.files, ap length (without_none t.path fs none)))
    go less more (inr found) = by less more found (is_or_not (bytes_eq t.path path))
