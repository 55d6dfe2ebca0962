use Rattle.std.proofs.Common.{◌≡◌, ◌<◌, ℕ, true, List, [], ◌∷◌, length, slice_index_or, map, Option, Some, None, IfSome, IsTrue, Result, Ok, Err, IfOk, subst, arith}
use Rattle.wdt_units.specs.Tree.{File, is_tree}
use Rattle.wdt_tree.specs.declared.entry.Entry.{Entry}
use Rattle.wdt_tree.specs.Listing.{Orders}
use Rattle.wdt_tree.specs.Shown.{entry_of_file}
use Rattle.wdt_source.specs.Told.{IsListed}
use Rattle.wdt_tool.specs.declared.fail.CommandFail.{CommandFail}
use Rattle.wdt_sending.specs.Told.{first_told}
use Rattle.wdt_sending.proofs.Listed.{tree_listed}
use Rattle.wdt_sending.proofs.listing.list_first.Goals as goal

-- what the first source lists is the tree that it tells
first_listed : {S : Type 0} (told : S → Option (List File)) (listing : S → Option (List Entry)) → ((s : S) → IfSome (told s) (λ files. IsTrue (is_tree files)))
    → ((s : S) → IsListed (told s) (listing s))
    → (sources : List S) (x : S) → 0 < length sources → x ≡ slice_index_or sources 0 x → (result : Result (List Entry) CommandFail) → IfOk result (λ m. IfSome (listing x) (λ listed. Orders listed m))
    → IfOk result (λ m. IfSome (first_told told sources) (λ tree. (is_tree tree ≡ true) × (m ≡ map entry_of_file tree)))
first_listed told listing trees lists sources x some is (Err failure) order = tt
first_listed told listing trees lists [] x some is (Ok m) order = absurd (omega (arith, some))
first_listed {S} told listing trees lists (s ∷ sources) x some is (Ok m) order =
    subst (λ (y : S). IfSome (told y) (λ tree. (is_tree tree ≡ true) × (m ≡ map entry_of_file tree))) is (tree_listed (told x) (listing x) m (trees x) (lists x) order)

pub returns-clause-tree : goal.returns-clause-tree
returns-clause-tree g c = first_listed g.S.Source.told g.S.Source.listing g.met.S.Source.told_is_tree g.met.S.Source.told_is_listed c.args.sources.now.items c.index_mut.result.now c.requires
    c.index_mut.ensures.value c.listed.result c.listed.ensures.order
