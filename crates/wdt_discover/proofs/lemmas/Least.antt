-- The first file that doesn't fit is the one of the least path.
use Rattle.std.proofs.Common.{◌≡◌, ◌↔◌, ℕ, zero, suc, Bool, true, false, not, cond, nat_lt, List, [], ◌∷◌, length, slice_get, Option, Some, None, refl, sym, ap, ◌∙◌, inl, inr, ◌⊎◌, subst}
use Rattle.std.specs.List.{list_all, find}
use Rattle.std.specs.Option.{option_map}
use Rattle.std.specs.Ordering.{is_lt, nat_cmp, ordering_reverse}
use Rattle.std.specs.declared.cmp.Ordering.{Ordering}
use Rattle.std.specs.declared.cmp.Ordering.TheVariants.{Less, Equal, Greater}
use Rattle.std.specs.Cmp.Lexicographic.{slice_cmp}
use Rattle.std.proofs.lemmas.Bool.{and_parts}
use Rattle.std.proofs.lemmas.Cmp.{nat_list_cmp_total}
use Rattle.std.proofs.lemmas.Option.{same_Some}
use Rattle.wdt_units.specs.Have.{HaveFile}
use Rattle.wdt_units.specs.Tree.{is_before}
use Rattle.wdt_tree.specs.declared.entry.Entry.{Entry}
use Rattle.wdt_ranges.specs.Files.{is_before_file, is_in_order}
use Rattle.wdt_rest.specs.RestOf.{rest_of}
use Rattle.wdt_discover.specs.declared.fail.PlanFail.TheVariants.{Stale, TooManyBlocks}
use Rattle.wdt_discover.specs.Least.{IsLeastStale}
use Rattle.wdt_rest.specs.Fitting.{found_in, fits}
use Rattle.wdt_discover.specs.Plan.{stale_of, refusal_after, refusal}

-- a file is the first that doesn't fit, and the least
record IsLeast (entries : List Entry) (have : List HaveFile) (file : HaveFile) : Type 0 where
  at : ℕ
  here : slice_get have at ≡ Some file
  unfit : fits entries file ≡ false
  least : (k : ℕ) (other : HaveFile) → slice_get have k ≡ Some other → fits entries other ≡ false → (other ≡ file) ⊎ (is_before file.path other.path ≡ true)

all_at : (p : HaveFile → Bool) (xs : List HaveFile) (k : ℕ) (x : HaveFile) → list_all p xs ≡ true → slice_get xs k ≡ Some x → p x ≡ true
all_at p [] k x all at = cc
all_at p (y ∷ ys) zero x all at =
    let e : y ≡ x = cc in
    subst (λ (z : HaveFile). p z ≡ true) e ((and_parts (p y) (list_all p ys) all).0)
all_at p (y ∷ ys) (suc k) x all at = all_at p ys k x ((and_parts (p y) (list_all p ys) all).1) at

-- what a search for a file that doesn't fit says
abbrev Says : List Entry → List HaveFile → Option HaveFile → Type 0
Says entries have None = (k : ℕ) (other : HaveFile) → slice_get have k ≡ Some other → fits entries other ≡ true
Says entries have (Some file) = IsLeast entries have file

nothing_says : (entries : List Entry) (k : ℕ) (other : HaveFile) → slice_get [] k ≡ Some other → fits entries other ≡ true
nothing_says entries k other at = cc

fit_says : (entries : List Entry) (f : HaveFile) (fs : List HaveFile) (found : Option HaveFile) → fits entries f ≡ true → Says entries fs found → Says entries (f ∷ fs) found
fit_says entries f fs None ok says = each
  where
    each : (k : ℕ) (other : HaveFile) → slice_get (f ∷ fs) k ≡ Some other → fits entries other ≡ true
    each zero other at = let e : f ≡ other = cc in ap (fits entries) (sym e) ∙ ok
    each (suc k) other at = says k other at
fit_says entries f fs (Some file) ok says = record { at = suc says.at; here = says.here; unfit = says.unfit; least = least }
  where
    least : (k : ℕ) (other : HaveFile) → slice_get (f ∷ fs) k ≡ Some other → fits entries other ≡ false → (other ≡ file) ⊎ (is_before file.path other.path ≡ true)
    least zero other at bad = let e : f ≡ other = cc in absurd (let t : true ≡ false = sym ok ∙ ap (fits entries) e ∙ bad in cc)
    least (suc k) other at bad = says.least k other at bad

unfit_says : (entries : List Entry) (f : HaveFile) (fs : List HaveFile) → is_in_order (f ∷ fs) ≡ true → fits entries f ≡ false → IsLeast entries (f ∷ fs) f
unfit_says entries f fs up bad = record { at = 0; here = refl; unfit = bad; least = least }
  where
    least : (k : ℕ) (other : HaveFile) → slice_get (f ∷ fs) k ≡ Some other → fits entries other ≡ false → (other ≡ f) ⊎ (is_before f.path other.path ≡ true)
    least zero other at not_fit = inl (let e : f ≡ other = cc in sym e)
    least (suc k) other at not_fit = inr (all_at (is_before_file f) fs k other ((and_parts (list_all (is_before_file f) fs) (is_in_order fs) up).0) at)

search_says : (entries : List Entry) (have : List HaveFile) → is_in_order have ≡ true → Says entries have (find (λ file. not (fits entries file)) have)
search_says entries [] up = nothing_says entries
search_says entries (f ∷ fs) up =
    go (fits entries f) refl (search_says entries fs ((and_parts (list_all (is_before_file f) fs) (is_in_order fs) up).1))
  where
    go : (b : Bool) → fits entries f ≡ b → Says entries fs (find (λ file. not (fits entries file)) fs) → Says entries (f ∷ fs) (cond (not b) (Some f) (find (λ file. not (fits entries file)) fs))
    go true ok says = fit_says entries f fs (find (λ file. not (fits entries file)) fs) ok says
    go false bad says = unfit_says entries f fs up bad

-- ---- no two are least

not_both_before : (a b : List ℕ) → is_before a b ≡ true → is_before b a ≡ true → ⊥
not_both_before a b h k = go (slice_cmp nat_cmp a b) (slice_cmp nat_cmp b a) (nat_list_cmp_total.antisymm a b) h k
  where
    go : (o p : Ordering) → o ≡ ordering_reverse p → is_lt o ≡ true → is_lt p ≡ true → ⊥
    go Less Less e h k = cc
    go Less Equal e h k = cc
    go Less Greater e h k = cc
    go Equal p e h k = cc
    go Greater p e h k = cc

least_once : (entries : List Entry) (have : List HaveFile) (a b : HaveFile) → IsLeast entries have a → IsLeast entries have b → a ≡ b
least_once entries have a b f g = elim (g.least f.at a f.here f.unfit) [
  | inl same ↦ same
  | inr after ↦ elim (f.least g.at b g.here g.unfit) [
    | inl same ↦ sym same
    | inr before ↦ absurd (not_both_before a.path b.path before after)
  ]
]

-- ---- refusals

no_stale : (entries : List Entry) (have : List HaveFile) (most count : ℕ) (path : List ℕ) (logged : ℕ × ℕ) (found : Option (ℕ × ℕ)) (b : Bool)
    → cond b (Some (TooManyBlocks count)) None ≡ Some (Stale path logged found) → ⊥
no_stale entries have most count path logged found true e = cc
no_stale entries have most count path logged found false e = cc

least_of : (entries : List Entry) (have : List HaveFile) (path : List ℕ) (logged : ℕ × ℕ) (found : Option (ℕ × ℕ)) (file : HaveFile) → IsLeast entries have file
    → stale_of entries file ≡ Stale path logged found → IsLeastStale entries have path logged found
least_of entries have path logged found file f e = record {
  at = f.at;
  file = file;
  here = f.here;
  unfit = f.unfit;
  least = f.least;
  named = cc;
  has_logged = cc;
  is_found = cc;
}

to_least : (entries : List Entry) (have : List HaveFile) (most : ℕ) (path : List ℕ) (logged : ℕ × ℕ) (found : Option (ℕ × ℕ)) (first : Option HaveFile) → Says entries have first
    → refusal_after entries have most (option_map (stale_of entries) first) ≡ Some (Stale path logged found) → IsLeastStale entries have path logged found
to_least entries have most path logged found None says e = absurd (no_stale entries have most (length (rest_of entries have most)) path logged found (nat_lt 1048576 (length (rest_of entries have most))) e)
to_least entries have most path logged found (Some file) says e = least_of entries have path logged found file says (same_Some (stale_of entries file) (Stale path logged found) e)

same_stale : (a b : List ℕ) (l m : ℕ × ℕ) (f g : Option (ℕ × ℕ)) → a ≡ b → l ≡ m → f ≡ g → Stale a l f ≡ Stale b m g
same_stale a b l m f g p q r = cc

from_least : (entries : List Entry) (have : List HaveFile) (most : ℕ) (path : List ℕ) (logged : ℕ × ℕ) (found : Option (ℕ × ℕ)) (first : Option HaveFile) → Says entries have first
    → IsLeastStale entries have path logged found → refusal_after entries have most (option_map (stale_of entries) first) ≡ Some (Stale path logged found)
from_least entries have most path logged found None says f =
    absurd (let t : true ≡ false = sym (says f.at f.file f.here) ∙ f.unfit in cc)
from_least entries have most path logged found (Some file) says f =
    let same : file ≡ f.file = least_once entries have file f.file says (record { at = f.at; here = f.here; unfit = f.unfit; least = f.least }) in
    ap (λ (x : HaveFile). Some (stale_of entries x)) same
    ∙ ap Some (same_stale f.file.path path (f.file.size, f.file.stamp) logged (found_in entries f.file.path) found (sym f.named) (sym f.has_logged) (sym f.is_found))

pub least_is_refused : (entries : List Entry) (have : List HaveFile) (most : ℕ) (path : List ℕ) (logged : ℕ × ℕ) (found : Option (ℕ × ℕ)) → is_in_order have ≡ true
    → (refusal entries have most ≡ Some (Stale path logged found)) ↔ IsLeastStale entries have path logged found
least_is_refused entries have most path logged found up = (
  to_least entries have most path logged found (find (λ file. not (fits entries file)) have) (search_says entries have up),
  from_least entries have most path logged found (find (λ file. not (fits entries file)) have) (search_says entries have up),
)
