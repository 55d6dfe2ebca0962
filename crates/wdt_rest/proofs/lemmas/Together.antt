-- A have and the rest are together the tree.
use Rattle.std.proofs.Common.{◌≡◌, ℕ, ◌<◌, true, not, ◌||◌, List, [], ap, ◌∙◌, arith, subst}
use Rattle.std.specs.List.{list_any}
use Rattle.std.proofs.Math.Nat.{zero-add}
use Rattle.wdt_units.specs.Have.{HaveFile, is_named}
use Rattle.wdt_claims.specs.Blocks.{HaveSameBlocks}
use Rattle.wdt_units.specs.declared.blocks.Block.{Block}
use Rattle.wdt_tree.specs.declared.entry.Entry.{Entry}
use Rattle.wdt_tree.specs.Listing.{is_in_order}
use Rattle.wdt_tree.specs.Rest.{IsRest}
use Rattle.wdt_tree.proofs.Shared.{rest_once}
use Rattle.wdt_rest.specs.RestOf.{rest_of}
use Rattle.wdt_rest.proofs.lemmas.Whole.{list_is_rest}
use Rattle.wdt_rest.specs.Together.{FitsTree, covered_of, is_of, is_new, names, AreTogether, IsAll}
use Rattle.wdt_rest.proofs.lemmas.Paths.{one, sum_one, weights_all, spans_below}
use Rattle.wdt_rest.proofs.lemmas.Bytes.{AllBelow, rest_bytes}
use Rattle.wdt_rest.proofs.lemmas.AnyOrder.{any_order}
use Rattle.wdt_rest.proofs.lemmas.Files.{rest_files, rest_each}

pub together : (entries : List Entry) (have : List HaveFile) (most : ℕ) → 0 < most → is_in_order entries ≡ true → FitsTree entries have → AreTogether entries have (rest_of entries have most)
together entries have most some up fit = record {
  bytes = omega (arith, rest_bytes have most 0 entries some below, weights_all covered_of entries have up fit.is.rising fit.own);
  files = omega (
    arith,
    rest_files (is_new entries have) have most 0 entries some below
        (λ k e at. ap (is_new entries have) (zero-add k) ∙ ap (λ found. not (names have found)) at),
    weights_all one entries have up fit.is.rising fit.own,
    sum_one have,
  );
  each = λ file entry at.
      subst (λ n. (is_named have entry.path || list_any (is_of n) (rest_of entries have most)) ≡ true) (zero-add file) (rest_each have most 0 entries file entry some below at);
}
  where
    below : AllBelow have entries
    below k e at = spans_below entries have k e up fit.is.sets fit.own fit.within at

pub landed : (entries : List Entry) (have : List HaveFile) (most : ℕ) (blocks : List Block) → 0 < most → is_in_order entries ≡ true → FitsTree entries have → HaveSameBlocks (rest_of entries have most) blocks → AreTogether entries have blocks
landed entries have most blocks some up fit same = any_order entries have (rest_of entries have most) blocks same (together entries have most some up fit)

pub nothing_left : (entries : List Entry) (have : List HaveFile) (most : ℕ) → 0 < most → is_in_order entries ≡ true → FitsTree entries have → IsRest entries have most [] → IsAll entries have
nothing_left entries have most some up fit rest =
    let none : rest_of entries have most ≡ [] = rest_once entries have most (rest_of entries have most) [] some (list_is_rest entries have most some fit.is) rest in
    let all : AreTogether entries have [] = subst (AreTogether entries have) none (together entries have most some up fit) in
    record { bytes = omega (arith, all.bytes); files = omega (arith, all.files) }
