-- The order of paths by their bytes.
use Rattle.std.proofs.Common.{◌≡◌, ℕ, true, false, List, refl, sym, ap, ◌∙◌}
use Rattle.std.specs.Ordering.{is_lt, is_eq, nat_cmp, ordering_reverse}
use Rattle.std.specs.declared.cmp.Ordering.{Ordering}
use Rattle.std.specs.declared.cmp.Ordering.TheVariants.{Less, Equal, Greater}
use Rattle.std.specs.Cmp.Lexicographic.{slice_cmp}
use Rattle.std.specs.Str.{bytes_eq}
use Rattle.std.proofs.lemmas.Cmp.{nat_list_cmp_total}
use Rattle.std.proofs.lemmas.Map.Text.{is_eq-slice_cmp}
use Rattle.wdt_units.specs.Tree.{is_before}

-- what passes the test is less
pub less : (o : Ordering) → is_lt o ≡ true → o ≡ Less
less Less h = refl
less Equal h = cc
less Greater h = cc

-- a path before one that comes before a third comes before that
pub before_both : (a b c : List ℕ) → is_before a b ≡ true → is_before b c ≡ true → is_before a c ≡ true
before_both a b c h k = ap is_lt (nat_list_cmp_total.trans a b c (less (slice_cmp nat_cmp a b) h) (less (slice_cmp nat_cmp b c) k))

not_both : (o p : Ordering) → o ≡ ordering_reverse p → is_lt o ≡ true → is_lt p ≡ true → ⊥
not_both Less Less e h k = cc
not_both Less Equal e h k = cc
not_both Less Greater e h k = cc
not_both Equal p e h k = cc
not_both Greater p e h k = cc

-- of two paths at most one comes before the other
pub before-one_way : (a b : List ℕ) → is_before a b ≡ true → is_before b a ≡ true → ⊥
before-one_way a b = not_both (slice_cmp nat_cmp a b) (slice_cmp nat_cmp b a) (nat_list_cmp_total.antisymm a b)

lt_differs : (o : Ordering) → is_lt o ≡ true → is_eq o ≡ false
lt_differs Less h = refl
lt_differs Equal h = cc
lt_differs Greater h = refl

-- a path before another is another
pub before_differs : (a b : List ℕ) → is_before a b ≡ true → bytes_eq a b ≡ false
before_differs a b h = sym (is_eq-slice_cmp a b) ∙ lt_differs (slice_cmp nat_cmp a b) h

-- of two paths that differ one comes before the other
pub before_back : (a b : List ℕ) → is_before b a ≡ false → bytes_eq a b ≡ false → is_before a b ≡ true
before_back a b back other = go (slice_cmp nat_cmp b a) (slice_cmp nat_cmp a b) (nat_list_cmp_total.antisymm a b) back (is_eq-slice_cmp a b ∙ other)
  where
    go : (o p : Ordering) → p ≡ ordering_reverse o → is_lt o ≡ false → is_eq p ≡ false → is_lt p ≡ true
    go Less p e h k = cc
    go Equal p e h k = let t : is_eq p ≡ true = ap is_eq e in cc
    go Greater p e h k = ap is_lt e
