-- The tree's file of a path, as a search finds it.
use Rattle.std.proofs.Common.{◌≡◌, ℕ, zero, suc, ◌<◌, Bool, true, false, cond, List, [], ◌∷◌, length, slice_get, Some, None, refl, sym, ap, ◌∙◌, inl, inr, subst}
use Rattle.std.specs.List.{list_all, list_any, find}
use Rattle.std.specs.Option.{option_map}
use Rattle.std.specs.Str.{bytes_eq}
use Rattle.std.proofs.lemmas.Bool.{and_parts, or_parts, cases_lt}
use Rattle.std.proofs.lemmas.Option.{slice_get_past, none-some, same_Some}
use Rattle.std.proofs.lemmas.Slice.Eq.{bytes_eq-Decides}
use Rattle.wdt_tree.specs.declared.entry.Entry.{Entry}
use Rattle.wdt_tree.specs.Listing.{path_of, has_path, is_below_entry, is_in_order}
use Rattle.wdt_units.proofs.Shared.{before_differs}
use Rattle.wdt_rest.specs.Fitting.{size_and_stamp, found_in}

pub within : (entries : List Entry) (path : List ℕ) (at : ℕ) → option_map path_of (slice_get entries at) ≡ Some path → at < length entries
within entries path at h = elim (cases_lt at (length entries)) [
  | inl lt ↦ lt
  | inr past ↦ absurd (none-some path (sym (ap (option_map path_of) (slice_get_past entries at past)) ∙ h))
]

all_at : (p : Entry → Bool) (xs : List Entry) (k : ℕ) (x : Entry) → list_all p xs ≡ true → slice_get xs k ≡ Some x → p x ≡ true
all_at p [] k x all at = cc
all_at p (y ∷ ys) zero x all at =
    let e : y ≡ x = cc in
    subst (λ (z : Entry). p z ≡ true) e ((and_parts (p y) (list_all p ys) all).0)
all_at p (y ∷ ys) (suc k) x all at = all_at p ys k x ((and_parts (p y) (list_all p ys) all).1) at

find_at : (entries : List Entry) (k : ℕ) (entry : Entry) → is_in_order entries ≡ true → slice_get entries k ≡ Some entry → find (has_path entry.path) entries ≡ Some entry
find_at [] k entry up at = cc
find_at (x ∷ xs) zero entry up at =
    let e : x ≡ entry = cc in
    let same : bytes_eq x.path entry.path ≡ true = (bytes_eq-Decides x.path entry.path).1 (ap path_of e) in
    ap (λ (b : Bool). cond b (Some x) (find (has_path entry.path) xs)) same ∙ ap Some e
find_at (x ∷ xs) (suc k) entry up at =
    let parts : (list_all (is_below_entry x) xs ≡ true) × (is_in_order xs ≡ true) = and_parts (list_all (is_below_entry x) xs) (is_in_order xs) up in
    let other : bytes_eq x.path entry.path ≡ false = before_differs x.path entry.path (all_at (is_below_entry x) xs k entry parts.0 at) in
    ap (λ (b : Bool). cond b (Some x) (find (has_path entry.path) xs)) other ∙ find_at xs k entry parts.1 at

find_none : (p : Entry → Bool) (xs : List Entry) → list_any p xs ≡ false → find p xs ≡ None
find_none p [] h = refl
find_none p (x ∷ xs) h =
    let parts : (p x ≡ false) × (list_any p xs ≡ false) = or_parts (p x) (list_any p xs) h in
    ap (λ (b : Bool). cond b (Some x) (find p xs)) parts.0 ∙ find_none p xs parts.1

pub found_here : (entries : List Entry) (path : List ℕ) (at : ℕ) (entry : Entry) → is_in_order entries ≡ true → option_map path_of (slice_get entries at) ≡ Some path → slice_get entries at ≡ Some entry
    → found_in entries path ≡ Some (entry.size, entry.stamp)
found_here entries path at entry up place here =
    let same : entry.path ≡ path = same_Some entry.path path (sym (ap (option_map path_of) here) ∙ place) in
    ap (option_map size_and_stamp) (subst (λ (p : List ℕ). find (has_path p) entries ≡ Some entry) same (find_at entries at entry up here))

pub found_nowhere : (entries : List Entry) (path : List ℕ) → list_any (has_path path) entries ≡ false → found_in entries path ≡ None
found_nowhere entries path h = ap (option_map size_and_stamp) (find_none (has_path path) entries h)
