-- The file of a path in a tree is that at any place where the path stands among the tree's files.
use Rattle.std.proofs.Common.{inl, inr, arith, ◌+◌, map, length, ◌<◌, ◌≡◌, ℕ, Bool, true, false, List, [], ◌∷◌, Option, Some, None, if◌then◌else◌, refl, sym, ap, ◌∙◌, slice_get, subst}
use Rattle.std.specs.Prelude.{IfSome, Result, Err}
use Rattle.std.specs.List.{AllWithin, Contains, HoldsAt, find, list_any}
use Rattle.std.specs.Option.{MatchOption, option_map}
use Rattle.std.proofs.lemmas.List.Folds.{list_any_none}
use Rattle.std.proofs.lemmas.List.Elements.{All-map}
use Rattle.std.specs.List.Sorted.{IsPermutation}
use Rattle.std.proofs.lemmas.Bool.{or_parts, le-leb}
use Rattle.std.proofs.lemmas.List.Sorted.{Contains-permutation, list_any-IsPermutation}
use Rattle.std.proofs.lemmas.Option.{slice_get_cases, slice_get-map, slice_get_within, get_or_from_slice_get, slice_get-get_or}
use Rattle.std.proofs.lemmas.Slice.Eq.{bytes_eq-Decides}
use Rattle.wdt_tree.specs.declared.entry.Plain.{Plain}
use Rattle.wdt_tree.specs.Shown.{shown}
use Rattle.wdt_units.specs.Tree.{File, is_rising, is_tree, file_of}
use Rattle.wdt_tree.proofs.Shared.{file_of-at, rising}
use Rattle.wdt_source.specs.Laws.{same_files}
use Rattle.wdt_source.specs.Order.{in_order, tree_of}
use Rattle.wdt_source.specs.Place.{has_path, is_of_path, file_at, IsPart, IsPlace}
use Rattle.wdt_source.specs.Told.{IsRead, is_within, is_within_file, HasSlip}
use Rattle.wdt_source.specs.declared.failure.SourceFail.{SourceFail}
use Rattle.wdt_source.specs.declared.failure.SourceFail.TheVariants.{Failed}
use Rattle.wdt_units.specs.Counts.{Rises}

found : (tree files : List File) (place : ℕ) (file : File) (path : List ℕ) → is_rising tree ≡ true → IsPermutation files tree
    → slice_get files place ≡ Some file → has_path path file ≡ true → file_of tree path ≡ Some file
found tree files place file path up same at has =
    let h : Contains tree file = Contains-permutation files tree file same (place, slice_get_within files place file at, get_or_from_slice_get files place file file at) in
    let here : file_of tree file.path ≡ Some file = file_of-at tree h.0 file up (slice_get-get_or tree h.0 file h.1 ∙ ap Some h.2) in
    subst (λ p. file_of tree p ≡ Some file) ((bytes_eq-Decides file.path path).0 has) here

find_none : (p : File → Bool) (files : List File) → list_any p files ≡ false → find p files ≡ None
find_none p [] h = refl
find_none p (x ∷ xs) h =
    let parts : (p x ≡ false) × (list_any p xs ≡ false) = or_parts (p x) (list_any p xs) h in
    rw parts.0 (find_none p xs parts.1)

missing : (tree files : List File) (path : List ℕ) → IsPermutation files tree → list_any (has_path path) files ≡ false → file_of tree path ≡ None
unfolding file_of
missing tree files path same h = find_none (has_path path) tree (sym (list_any-IsPermutation (has_path path) files tree same) ∙ h)

in_tree : (tree files : List File) (path : List ℕ) (place : Option ℕ) → is_rising tree ≡ true → IsPermutation files tree → IsPlace files path place
    → file_of tree path ≡ file_at files place
in_tree tree files path None up same is = missing tree files path same is
in_tree tree files path (Some place) up same is = go (slice_get files place) refl is
  where
    go : (o : Option File) → slice_get files place ≡ o → is_of_path path o ≡ true → file_of tree path ≡ o
    go None e h = cc
    go (Some file) e h = found tree files place file path up same e h

-- a search that stopped at the first place of a path, or found none
pub place_from : (files : List Plain) (path : List ℕ) (place : Option ℕ)
    → MatchOption place (AllWithin (λ (x : Plain). false ≡ has_path path (shown x)) files 0 (length files)) (λ at. (at < length files) × HoldsAt (λ (x : Plain). true ≡ has_path path (shown x)) files at × AllWithin (λ (x : Plain). false ≡ has_path path (shown x)) files 0 at)
    → IsPlace (map shown files) path place
place_from files path None h =
    list_any_none (has_path path) (map shown files) (All-map (λ (x : File). has_path path x ≡ false) shown files (λ k d lt. sym (h k d (omega arith) lt)))
place_from files path (Some at) h = elim ((slice_get_cases files at).1) [
  | inr past ↦ absurd (omega (arith, past.0, h.0))
  | inl w ↦
      let e : slice_get (map shown files) at ≡ Some (shown w.0) = slice_get-map shown files at ∙ ap (option_map shown) w.2 in
      let has : has_path path (shown w.0) ≡ true = sym (subst (λ (x : Plain). true ≡ has_path path (shown x)) w.3 (h.1 w.0)) in
      rw e has
]

-- the file of a path in the tree that files are, where they are one
pub told_at : (files : List File) (path : List ℕ) (place : Option ℕ) → IsPlace files path place → IfSome (tree_of files) (λ told. file_of told path ≡ file_at files place)
told_at files path place is = go (is_tree (in_order files)) refl
  where
    go : (b : Bool) → is_tree (in_order files) ≡ b → IfSome (if b then Some (in_order files) else None) (λ told. file_of told path ≡ file_at files place)
    go false e = tt
    go true e = in_tree (in_order files) files path place (rising (in_order files) e) (same_files files) is

-- the bytes of a file of the tree
pub read_from : (tree : Option (List File)) (path : List ℕ) (found : Option File) (offset : ℕ) (bytes : List ℕ) → IfSome tree (λ told. file_of told path ≡ found) → IsPart found offset bytes
    → IfSome tree (λ told. IsRead told path offset bytes)
read_from None path found offset bytes here part = tt
read_from (Some told) path found offset bytes here part = record { file = part.file; found = here ∙ part.is; within = part.within; same = part.same }

-- a read is within the tree's file where it is within the file that was found
pub slip_from : {T : Type 0} (tree : Option (List File)) (path : List ℕ) (found : Option File) (offset count : ℕ) (result : Result T SourceFail) (old new : ℕ)
    → IfSome tree (λ told. file_of told path ≡ found) → HasSlip (is_within found offset count) result old new
    → IfSome tree (λ told. HasSlip (is_within_file told path offset count) result old new)
slip_from None path found offset count result old new here slip = tt
slip_from (Some told) path found offset count result old new here slip = rw here slip

-- a part of a file is within it
pub part_within : (found : Option File) (offset : ℕ) (bytes : List ℕ) → IsPart found offset bytes → is_within found offset (length bytes) ≡ true
part_within found offset bytes part = rw part.is (le-leb (offset + length bytes) (length part.file.bytes) part.within)

-- the count of slips stands at a read that is within its file
pub no_slip : {T : Type 0} {within : Bool} (result : Result T SourceFail) {old new : ℕ} → within ≡ true → new ≡ old → HasSlip within result old new
no_slip result is same = record { kept = λ _. same; rose = λ (h : _ ≡ false). cc }

-- the count of slips rises at a read that isn't, and which fails
pub a_slip : {T : Type 0} {within : Bool} (fail : SourceFail) {old new : ℕ} → within ≡ false → Rises old new → fail ≡ Failed → HasSlip {T = T} within (Err fail) old new
a_slip {T = T} fail isnt more failed =
    let failing : SourceFail → Result T SourceFail = λ e. Err e in
    record { kept = λ (h : _ ≡ true). cc; rose = λ _. (more, ap failing failed) }
