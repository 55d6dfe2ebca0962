-- What a memory source tells is a tree, and comes with its listing.
use Rattle.std.specs.Prelude.{◌≡◌, List, [], ◌∷◌, map, Some, None, IfSome, IsTrue, Bool, true, false, if◌then◌else◌, refl}
use Rattle.std.specs.List.Sorted.{IsPermutation}
use Rattle.std.proofs.lemmas.List.Sorted.{IsPermutation-refl, IsPermutation-sym, IsPermutation-trans, IsPermutation-cons, IsPermutation-insert, IsPermutation-map}
use Rattle.wdt_units.specs.Tree.{File, is_below, is_tree}
use Rattle.wdt_tree.specs.Shown.{entry_of_file}
use Rattle.wdt_source.specs.Told.{IsListed}
use Rattle.wdt_source.specs.Order.{put, in_order, tree_of}

swapped : (file x : File) (xs : List File) → IsPermutation (file ∷ x ∷ xs) (x ∷ file ∷ xs)
swapped file x xs = IsPermutation-insert (x ∷ xs) 1 file

put_moves : (file : File) (files : List File) → IsPermutation (file ∷ files) (put file files)
put_moves file [] = IsPermutation-refl (file ∷ [])
put_moves file (x ∷ xs) =
    elim (is_below x file) as (λ b. IsPermutation (file ∷ x ∷ xs) (if b then x ∷ put file xs else file ∷ x ∷ xs)) [
      | true ↦ IsPermutation-trans (file ∷ x ∷ xs) (x ∷ file ∷ xs) (x ∷ put file xs) (swapped file x xs) (IsPermutation-cons x (file ∷ xs) (put file xs) (put_moves file xs))
      | false ↦ IsPermutation-refl (file ∷ x ∷ xs)
    ]

-- files in order are the same files
pub same_files : (files : List File) → IsPermutation files (in_order files)
same_files [] = IsPermutation-refl []
same_files (file ∷ files) =
    IsPermutation-trans (file ∷ files) (file ∷ in_order files) (put file (in_order files)) (IsPermutation-cons file files (in_order files) (same_files files)) (put_moves file (in_order files))

-- what is told of files, where it is told, is a tree
pub told_is_tree : (files : List File) → IfSome (tree_of files) (λ told. IsTrue (is_tree told))
told_is_tree files = go (is_tree (in_order files)) refl
  where
    go : (b : Bool) → is_tree (in_order files) ≡ b → IfSome (if b then Some (in_order files) else None) (λ told. IsTrue (is_tree told))
    go true e = e
    go false e = tt

-- what is told of files comes with their listing
pub told_is_listed : (files : List File) → IsListed (tree_of files) (Some (map entry_of_file files))
told_is_listed files = go (is_tree (in_order files))
  where
    go : (b : Bool) → IsListed (if b then Some (in_order files) else None) (Some (map entry_of_file files))
    go true = IsPermutation-map entry_of_file (in_order files) files (IsPermutation-sym files (in_order files) (same_files files))
    go false = tt
