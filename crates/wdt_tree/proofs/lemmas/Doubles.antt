-- A walk over a listing that ends at the first path that stood earlier, too.
use Rattle.std.proofs.Common.{◌≡◌, ℕ, ◌+◌, ◌<◌, Bool, true, false, cond, ◌||◌, List, length, take, slice_get, get_or, Some, refl, sym, ap, ◌∙◌}
use Rattle.std.specs.List.{list_any}
use Rattle.std.specs.Str.{bytes_eq}
use Rattle.std.proofs.lemmas.List.Folds.{list_any_more}
use Rattle.std.proofs.lemmas.Option.{slice_get_within, get_or_from_slice_get}
use Rattle.wdt_tree.specs.declared.entry.Entry.{Entry}
use Rattle.wdt_tree.specs.Listing.{has_path, is_twice, is_path_among, NoneTwiceBefore}
use borrow.Author.Count.{below_more}

-- what is known once the first paths were put into a set
pub record IsWalk (entries : List Entry) (index at : ℕ) (has : List ℕ → Bool) : Type 0 where
  pub place : at ≡ index
  pub seen : (path : List ℕ) → has path ≡ list_any (has_path path) (take index entries)
  pub before : NoneTwiceBefore entries index

pub twice_here : (entries : List Entry) (i at : ℕ) (has : List ℕ → Bool) (e : Entry) → slice_get entries i ≡ Some e → IsWalk entries i at has → is_twice entries i ≡ has e.path
twice_here entries i at has e found walk = ap (is_path_among (take i entries)) found ∙ sym (walk.seen e.path)

or_swap : (a b : Bool) → (a || b) ≡ cond b true a
or_swap true true = refl
or_swap true false = refl
or_swap false true = refl
or_swap false false = refl

pub walk_more : (entries : List Entry) (i at : ℕ) (has more : List ℕ → Bool) (e : Entry) → slice_get entries i ≡ Some e → IsWalk entries i at has → has e.path ≡ false
    → ((path : List ℕ) → more path ≡ cond (bytes_eq e.path path) true (has path)) → IsWalk entries (i + 1) (at + 1) more
walk_more entries i at has more e found walk new adds =
    let within : i < length entries = slice_get_within entries i e found in
    let read : get_or entries i e ≡ e = get_or_from_slice_get entries i e e found in
    record {
      place = ap (λ n. n + 1) walk.place;
      seen = λ path. adds path ∙ ap (λ b. cond (bytes_eq e.path path) true b) (walk.seen path) ∙ sym (or_swap (list_any (has_path path) (take i entries)) (bytes_eq e.path path))
          ∙ ap (λ (x : Entry). list_any (has_path path) (take i entries) || has_path path x) (sym read) ∙ sym (list_any_more (has_path path) entries i e within);
      before = below_more (λ k. is_twice entries k ≡ false) i walk.before (twice_here entries i at has e found walk ∙ new);
    }
