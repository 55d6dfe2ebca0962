-- A told tree, and what a check keeps of its listing.
use Rattle.std.proofs.Common.{◌≡◌, ◌&&◌, List, [], ◌∷◌, map, Option, Some, None, IfSome, IsTrue, refl, sym, ap, ◌∙◌, subst}
use Rattle.std.specs.List.{list_all}
use Rattle.std.specs.List.Sorted.{IsPermutation}
use Rattle.std.proofs.lemmas.List.Sorted.{IsPermutation-trans}
use Rattle.wdt_units.specs.Tree.{File, is_tree, is_rising, is_below}
use Rattle.wdt_tree.specs.declared.entry.Entry.{Entry}
use Rattle.wdt_tree.specs.declared.entry.RawEntry.{RawEntry}
use Rattle.wdt_tree.specs.Listing.{entry_of, is_in_order, is_below_entry, Orders}
use Rattle.wdt_tree.specs.Shown.{entry_of_file}
use Rattle.wdt_tree.proofs.Shared.{rising}
use Rattle.wdt_source.specs.Told.{IsListed}
use Rattle.wdt_rehearsal.proofs.Unique.{one-order}

all_below : (file : File) (files : List File) → list_all (is_below_entry (entry_of_file file)) (map entry_of_file files) ≡ list_all (is_below file) files
all_below file [] = refl
all_below file (x ∷ files) = ap (λ b. is_below file x && b) (all_below file files)

-- the entries of a rising list of files are in order
in_order : (files : List File) → is_in_order (map entry_of_file files) ≡ is_rising files
in_order [] = refl
in_order (file ∷ files) = ap (λ b. b && is_in_order (map entry_of_file files)) (all_below file files) ∙ ap (λ b. list_all (is_below file) files && b) (in_order files)

-- the manifest of a told tree's listing is that of the tree
pub told-ordered : (told : Option (List File)) (listing : Option (List Entry)) (raw : List RawEntry) (entries : List Entry) → IfSome told (λ files. IsTrue (is_tree files)) → IsListed told listing
    → IfSome listing (λ listed. map entry_of raw ≡ listed) → Orders (map entry_of raw) entries → IfSome told (λ files. entries ≡ map entry_of_file files)
told-ordered None listing raw entries tree h is order = tt
told-ordered (Some files) None raw entries tree h is order = absurd h
told-ordered (Some files) (Some listed) raw entries tree h is order =
    let whole : IsPermutation (map entry_of_file files) entries = IsPermutation-trans (map entry_of_file files) (map entry_of raw) entries (subst (IsPermutation (map entry_of_file files)) (sym is) h) order.same in
    sym (one-order (map entry_of_file files) entries (in_order files ∙ rising files tree) order.rising whole)
