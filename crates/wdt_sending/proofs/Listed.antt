-- The listing of a tree that is told.
use Rattle.std.proofs.Common.{◌≡◌, ◌≤◌, ◌<◌, zero, suc, ℕ, ◌&&◌, true, List, [], ◌∷◌, length, map, Option, Some, None, IfSome, IsTrue, Result, Ok, Err, IfOk, refl, sym, ap, ◌∙◌, subst, arith}
use Rattle.std.specs.List.{list_all}
use Rattle.std.specs.List.Sorted.{IsPermutation}
use Rattle.std.proofs.lemmas.List.Sorted.{IsPermutation-trans}
use Rattle.wdt_units.specs.Tree.{File, is_tree, is_rising, is_below}
use Rattle.wdt_units.proofs.Shared.{before-one_way, rising_once}
use Rattle.wdt_tree.specs.declared.entry.Entry.{Entry}
use Rattle.wdt_tree.specs.Listing.{is_in_order, is_below_entry, Orders}
use Rattle.wdt_tree.specs.Shown.{entry_of_file}
use Rattle.wdt_tree.proofs.Shared.{rising}
use Rattle.wdt_source.specs.Told.{IsListed}

all_below : (file : File) (files : List File) → list_all (is_below_entry (entry_of_file file)) (map entry_of_file files) ≡ list_all (is_below file) files
all_below file [] = refl
all_below file (x ∷ files) = ap (λ b. is_below file x && b) (all_below file files)

-- the entries of a rising list of files are in order
in_order : (files : List File) → is_in_order (map entry_of_file files) ≡ is_rising files
in_order [] = refl
in_order (file ∷ files) = ap (λ b. b && is_in_order (map entry_of_file files)) (all_below file files) ∙ ap (λ b. list_all (is_below file) files && b) (in_order files)

-- a listing of a told tree, in the order of its paths, is the tree's
pub tree_listed : (told : Option (List File)) (listing : Option (List Entry)) (entries : List Entry) → IfSome told (λ files. IsTrue (is_tree files)) → IsListed told listing
    → IfSome listing (λ listed. Orders listed entries) → IfSome told (λ files. (is_tree files ≡ true) × (entries ≡ map entry_of_file files))
tree_listed None listing entries tree h order = tt
tree_listed (Some files) None entries tree h order = absurd h
tree_listed (Some files) (Some listed) entries tree h order =
    let whole : IsPermutation (map entry_of_file files) entries = IsPermutation-trans (map entry_of_file files) listed entries h order.same in
    (tree, sym (rising_once is_below_entry (λ a b. before-one_way a.path b.path) (map entry_of_file files) entries (in_order files ∙ rising files tree) order.rising whole))
