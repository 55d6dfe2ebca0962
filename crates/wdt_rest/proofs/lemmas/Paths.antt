-- Sums over the files of a have are sums over the tree's files, path for path.
use Rattle.std.proofs.Common.{◌≡◌, ℕ, zero, suc, ◌+◌, Bool, true, false, cond, ◌||◌, ◌&&◌, ◌==◌, List, [], ◌∷◌, length, sum_by, slice_get, Some, refl, sym, ap, ◌∙◌, arith, subst}
use Rattle.std.specs.List.{list_all, find}
use Rattle.std.specs.Option.{option_map}
use Rattle.std.specs.Str.{bytes_eq}
use Rattle.std.proofs.lemmas.Bool.{and_parts, or_parts, false_from_ne_true, eqb-true}
use Rattle.std.proofs.lemmas.List.Sums.{sum_by-cons}
use Rattle.std.proofs.lemmas.Slice.Eq.{bytes_eq-Decides}
use Rattle.wdt_units.specs.Have.{PlainSpan, HaveFile, is_named}
use Rattle.wdt_units.specs.Tree.{is_before}
use Rattle.wdt_tree.specs.declared.entry.Entry.{Entry}
use Rattle.wdt_tree.specs.Listing.{has_path, is_below_entry, is_in_order}
use Rattle.wdt_units.proofs.Shared.{before_differs, list_all-at}
use Rattle.wdt_ranges.specs.Spans.{are_apart, total_of}
use Rattle.wdt_ranges.specs.Files.{is_before_file, is_in_order as have_in_order}
use Rattle.wdt_rest.specs.RestOf.{has_set, spans_of}
use Rattle.wdt_rest.specs.Fitting.{size_and_stamp, has_found, fits}
use Rattle.wdt_rest.specs.Together.{ends_by, lies_within, covered_of}

-- ---- paths

same : (a b : List ℕ) → bytes_eq a b ≡ true → a ≡ b
same a b = (bytes_eq-Decides a b).0

pub back : (a b : List ℕ) → bytes_eq a b ≡ true → bytes_eq b a ≡ true
back a b h = (bytes_eq-Decides b a).1 (sym (same a b h))

differs_back : (a b : List ℕ) → bytes_eq a b ≡ false → bytes_eq b a ≡ false
differs_back a b h = false_from_ne_true (bytes_eq b a) (λ e. let t : bytes_eq a b ≡ true = back b a e in cc)

-- ---- what the file of a path weighs

pub weight_at : (HaveFile → ℕ) → List HaveFile → List ℕ → ℕ
weight_at w [] path = 0
weight_at w (f ∷ fs) path = cond (bytes_eq f.path path) (w f) (weight_at w fs path)

weight_nil : (w : HaveFile → ℕ) (path : List ℕ) → weight_at w [] path ≡ 0
unfolding weight_at
weight_nil w path = refl

weight_here : (w : HaveFile → ℕ) (f : HaveFile) (fs : List HaveFile) (path : List ℕ) → bytes_eq f.path path ≡ true → weight_at w (f ∷ fs) path ≡ w f
unfolding weight_at
weight_here w f fs path h = ap (λ (b : Bool). cond b (w f) (weight_at w fs path)) h

weight_past : (w : HaveFile → ℕ) (f : HaveFile) (fs : List HaveFile) (path : List ℕ) → bytes_eq f.path path ≡ false → weight_at w (f ∷ fs) path ≡ weight_at w fs path
unfolding weight_at
weight_past w f fs path h = ap (λ (b : Bool). cond b (w f) (weight_at w fs path)) h

weight_none : (w : HaveFile → ℕ) (path : List ℕ) (fs : List HaveFile) → list_all (λ (f : HaveFile). is_before path f.path) fs ≡ true → weight_at w fs path ≡ 0
weight_none w path [] h = weight_nil w path
weight_none w path (f ∷ fs) h =
    let parts : (is_before path f.path ≡ true) × (list_all (λ (g : HaveFile). is_before path g.path) fs ≡ true) = and_parts (is_before path f.path) (list_all (λ (g : HaveFile). is_before path g.path) fs) h in
    weight_past w f fs path (differs_back path f.path (before_differs path f.path parts.0)) ∙ weight_none w path fs parts.1

pub weight_total : (have : List HaveFile) (path : List ℕ) → total_of (spans_of have path) ≡ weight_at covered_of have path
weight_total [] path = sym (weight_nil covered_of path)
weight_total (f ∷ fs) path = go (bytes_eq f.path path) refl (weight_total fs path)
  where
    go : (b : Bool) → bytes_eq f.path path ≡ b → total_of (spans_of fs path) ≡ weight_at covered_of fs path → total_of (cond b f.spans (spans_of fs path)) ≡ weight_at covered_of (f ∷ fs) path
    go true h rest = sym (weight_here covered_of f fs path h)
    go false h rest = rest ∙ sym (weight_past covered_of f fs path h)

abbrev pub one : HaveFile → ℕ
one file = 1

pub weight_named : (have : List HaveFile) (path : List ℕ) → weight_at one have path ≡ cond (is_named have path) 1 0
weight_named [] path = weight_nil one path
weight_named (f ∷ fs) path = go (bytes_eq f.path path) refl (weight_named fs path)
  where
    go : (b : Bool) → bytes_eq f.path path ≡ b → weight_at one fs path ≡ cond (is_named fs path) 1 0 → weight_at one (f ∷ fs) path ≡ cond (b || is_named fs path) 1 0
    go true h rest = weight_here one f fs path h
    go false h rest = weight_past one f fs path h ∙ rest

pub weight_unnamed : (w : HaveFile → ℕ) (have : List HaveFile) (path : List ℕ) → is_named have path ≡ false → weight_at w have path ≡ 0
weight_unnamed w [] path h = weight_nil w path
weight_unnamed w (f ∷ fs) path h =
    let parts : (bytes_eq f.path path ≡ false) × (is_named fs path ≡ false) = or_parts (bytes_eq f.path path) (is_named fs path) h in
    weight_past w f fs path parts.0 ∙ weight_unnamed w fs path parts.1

pub sum_one : (have : List HaveFile) → sum_by one have ≡ length have
sum_one [] = refl
sum_one (f ∷ fs) = omega (arith, sum_by-cons one f fs, sum_one fs)

-- ---- sums over the files of a tree

abbrev pub weights : (HaveFile → ℕ) → List HaveFile → List Entry → ℕ
weights w have entries = sum_by (λ (e : Entry). weight_at w have e.path) entries

pub weights_cons : (w : HaveFile → ℕ) (have : List HaveFile) (e : Entry) (es : List Entry) → weights w have (e ∷ es) ≡ weight_at w have e.path + weights w have es
weights_cons w have e es = sum_by-cons (λ (x : Entry). weight_at w have x.path) e es

weights_nil : (w : HaveFile → ℕ) (entries : List Entry) → weights w [] entries ≡ 0
weights_nil w [] = refl
weights_nil w (e ∷ es) = omega (arith, weights_cons w [] e es, weight_nil w e.path, weights_nil w es)

weights_past : (w : HaveFile → ℕ) (f : HaveFile) (fs : List HaveFile) (es : List Entry) → list_all (λ (e : Entry). is_before f.path e.path) es ≡ true → weights w (f ∷ fs) es ≡ weights w fs es
weights_past w f fs [] h = refl
weights_past w f fs (e ∷ es) h =
    let parts : (is_before f.path e.path ≡ true) × (list_all (λ (x : Entry). is_before f.path x.path) es ≡ true) = and_parts (is_before f.path e.path) (list_all (λ (x : Entry). is_before f.path x.path) es) h in
    omega (arith, weights_cons w (f ∷ fs) e es, weights_cons w fs e es, weight_past w f fs e.path (before_differs f.path e.path parts.0), weights_past w f fs es parts.1)

fits_past : (x : Entry) (xs : List Entry) (f : HaveFile) → bytes_eq x.path f.path ≡ false → fits (x ∷ xs) f ≡ fits xs f
fits_past x xs f h = ap (λ (b : Bool). has_found (option_map size_and_stamp (cond b (Some x) (find (has_path f.path) xs))) f) h

fits_here : (x : Entry) (xs : List Entry) (f : HaveFile) → bytes_eq x.path f.path ≡ true → fits (x ∷ xs) f ≡ (x.size == f.size && x.stamp == f.stamp)
fits_here x xs f h = ap (λ (b : Bool). has_found (option_map size_and_stamp (cond b (Some x) (find (has_path f.path) xs))) f) h

nothing_fits : (A : Type 0) (f : HaveFile) → fits [] f ≡ true → A
nothing_fits A f h = cc

-- a file of the tree adds what it weighs
weights_more : (w : HaveFile → ℕ) (f : HaveFile) (fs : List HaveFile) (es : List Entry) → list_all (is_before_file f) fs ≡ true → is_in_order es ≡ true → fits es f ≡ true
    → weights w (f ∷ fs) es ≡ w f + weights w fs es
weights_more w f fs [] below up fit = nothing_fits (weights w (f ∷ fs) [] ≡ w f + weights w fs []) f fit
weights_more w f fs (x ∷ xs) below up fit =
    let parts : (list_all (is_below_entry x) xs ≡ true) × (is_in_order xs ≡ true) = and_parts (list_all (is_below_entry x) xs) (is_in_order xs) up in
    go (bytes_eq x.path f.path) refl parts.0 (λ later. weights_more w f fs xs below parts.1 later)
  where
    go : (b : Bool) → bytes_eq x.path f.path ≡ b → list_all (is_below_entry x) xs ≡ true → (fits xs f ≡ true → weights w (f ∷ fs) xs ≡ w f + weights w fs xs) → weights w (f ∷ fs) (x ∷ xs) ≡ w f + weights w fs (x ∷ xs)
    go true h first later =
        let e : x.path ≡ f.path = same x.path f.path h in
        let behind : list_all (λ (y : Entry). is_before f.path y.path) xs ≡ true = subst (λ (p : List ℕ). list_all (λ (y : Entry). is_before p y.path) xs ≡ true) e first in
        let none : weight_at w fs x.path ≡ 0 = weight_none w x.path fs (subst (λ (p : List ℕ). list_all (λ (g : HaveFile). is_before p g.path) fs ≡ true) (sym e) below) in
        omega (arith, weights_cons w (f ∷ fs) x xs, weights_cons w fs x xs, weight_here w f fs x.path (back x.path f.path h), none, weights_past w f fs xs behind)
    go false h first later =
        omega (arith, weights_cons w (f ∷ fs) x xs, weights_cons w fs x xs, weight_past w f fs x.path (differs_back x.path f.path h), later (sym (fits_past x xs f h) ∙ fit))

pub weights_all : (w : HaveFile → ℕ) (entries : List Entry) (have : List HaveFile) → is_in_order entries ≡ true → have_in_order have ≡ true → list_all (fits entries) have ≡ true
    → weights w have entries ≡ sum_by w have
weights_all w entries [] up rising own = weights_nil w entries
weights_all w entries (f ∷ fs) up rising own =
    let order : (list_all (is_before_file f) fs ≡ true) × (have_in_order fs ≡ true) = and_parts (list_all (is_before_file f) fs) (have_in_order fs) rising in
    let fit : (fits entries f ≡ true) × (list_all (fits entries) fs ≡ true) = and_parts (fits entries f) (list_all (fits entries) fs) own in
    omega (arith, weights_more w f fs entries order.0 up fit.0, weights_all w entries fs up order.1 fit.1, sum_by-cons w f fs)

-- ---- what is covered of a tree's file is a set below its size

own_size : (es : List Entry) (f : HaveFile) (k : ℕ) (e : Entry) → is_in_order es ≡ true → fits es f ≡ true → slice_get es k ≡ Some e → bytes_eq f.path e.path ≡ true → f.size ≡ e.size
own_size [] f k e up fit at here = cc
own_size (x ∷ xs) f zero e up fit at here =
    let is : x ≡ e = cc in
    let first : bytes_eq x.path f.path ≡ true = subst (λ (y : Entry). bytes_eq y.path f.path ≡ true) (sym is) (back f.path e.path here) in
    let sizes : (x.size == f.size) ≡ true = (and_parts (x.size == f.size) (x.stamp == f.stamp) (sym (fits_here x xs f first) ∙ fit)).0 in
    sym (eqb-true x.size f.size sizes) ∙ ap (λ (y : Entry). y.size) is
own_size (x ∷ xs) f (suc k) e up fit at here =
    let parts : (list_all (is_below_entry x) xs ≡ true) × (is_in_order xs ≡ true) = and_parts (list_all (is_below_entry x) xs) (is_in_order xs) up in
    let before : is_before x.path e.path ≡ true = list_all-at (is_below_entry x) xs k e parts.0 at in
    let other : bytes_eq x.path f.path ≡ false = subst (λ (p : List ℕ). bytes_eq x.path p ≡ false) (sym (same f.path e.path here)) (before_differs x.path e.path before) in
    own_size xs f k e parts.1 (sym (fits_past x xs f other) ∙ fit) at here

-- spans are a set below a size
pub record AreBelow (size : ℕ) (ss : List PlainSpan) : Type 0 where
  pub apart : are_apart ss ≡ true
  pub within : list_all (ends_by size) ss ≡ true

pub spans_below : (entries : List Entry) (have : List HaveFile) (k : ℕ) (e : Entry) → is_in_order entries ≡ true → list_all has_set have ≡ true → list_all (fits entries) have ≡ true → list_all lies_within have ≡ true
    → slice_get entries k ≡ Some e → AreBelow e.size (spans_of have e.path)
spans_below entries [] k e up sets own within at = record { apart = refl; within = refl }
spans_below entries (f ∷ fs) k e up sets own within at =
    let set : (has_set f ≡ true) × (list_all has_set fs ≡ true) = and_parts (has_set f) (list_all has_set fs) sets in
    let fit : (fits entries f ≡ true) × (list_all (fits entries) fs ≡ true) = and_parts (fits entries f) (list_all (fits entries) fs) own in
    let low : (lies_within f ≡ true) × (list_all lies_within fs ≡ true) = and_parts (lies_within f) (list_all lies_within fs) within in
    go (bytes_eq f.path e.path) refl set.0 fit.0 low.0 (spans_below entries fs k e up set.1 fit.1 low.1 at)
  where
    go : (b : Bool) → bytes_eq f.path e.path ≡ b → has_set f ≡ true → fits entries f ≡ true → lies_within f ≡ true → AreBelow e.size (spans_of fs e.path) → AreBelow e.size (cond b f.spans (spans_of fs e.path))
    go true h set fit low later = record { apart = set; within = subst (λ n. list_all (ends_by n) f.spans ≡ true) (own_size entries f k e up fit at h) low }
    go false h set fit low later = later
