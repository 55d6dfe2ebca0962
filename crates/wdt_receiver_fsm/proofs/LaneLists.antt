-- Sets of lanes and rising lists of them.
use Rattle.std.proofs.Common.{◌≡◌, ◌⊎◌, inl, inr, ℕ, zero, suc, ◌<◌, ◌≤◌, ◌==◌, ◌||◌, ◌&&◌, nat_lt, List, [], ◌∷◌, ◌++◌, Bool, true, false, if◌then◌else◌, filter, subst, sym, ap, ◌∙◌, refl, arith, append-nil, eqb-true}
use Rattle.std.proofs.lemmas.Bool.Decides.{nat_tests}
use Rattle.std.proofs.lemmas.List.Elements.{filter-append}
use Rattle.std.proofs.lemmas.List.Folds.{list_any-append}
use Rattle.std.proofs.lemmas.Map.Views.{any-filter_same}
use Rattle.wdt_units.specs.LaneSets.{has_lane, only_lane}
use Rattle.wdt_units.proofs.LaneSetLaws.{in_none, in_only, in_with}
use Rattle.wdt_receiver_fsm.specs.Sets.{has, lanes_of, numbers, set_of}

or_both : (a b c d : Bool) → a ≡ b → c ≡ d → (a || c) ≡ (b || d)
or_both a b c d e f = ap (λ (x : Bool). x || c) e ∙ ap (λ (x : Bool). b || x) f

-- a set has the lanes of which it is made
pub has_set : (xs : List ℕ) (k : ℕ) → has_lane (set_of xs) k ≡ has xs k
has_set [] k = in_none k
has_set (x ∷ xs) k = in_with (only_lane x) (set_of xs) k ∙ or_both (has_lane (only_lane x) k) (x == k) (has_lane (set_of xs) k) (has xs k) (in_only x k) (has_set xs k)

one_more : (k n : ℕ) → (nat_lt k n || ((n == k) || false)) ≡ nat_lt k (suc n)
one_more k n = grind (arith, nat_tests)

has_numbers : (n k : ℕ) → has (numbers n) k ≡ nat_lt k n
has_numbers zero k = grind (arith, nat_tests)
has_numbers (suc n) k = list_any-append (λ (x : ℕ). x == k) (numbers n) (n ∷ []) ∙ ap (λ (b : Bool). b || ((n == k) || false)) (has_numbers n k) ∙ one_more k n

has_filter : (f : ℕ → Bool) (n k : ℕ) → has (filter f (numbers n)) k ≡ (f k && nat_lt k n)
has_filter f n k = any-filter_same (λ (x : ℕ). x == k) f (f k) (λ x e. ap f (eqb-true x k e)) (numbers n) ∙ ap (λ (b : Bool). f k && b) (has_numbers n k)

module _ (p f : ℕ → Bool) (n : ℕ) (same : (k : ℕ) → p k ≡ (f k && nat_lt k n)) where
  and_true : (a b : Bool) → b ≡ true → (a && b) ≡ a
  and_true true b e = e
  and_true false b e = refl

  and_false : (a b : Bool) → b ≡ false → (a && b) ≡ false
  and_false true b e = e
  and_false false b e = refl

  lt_true : (j k : ℕ) → j < k → nat_lt j k ≡ true
  lt_true j k h = grind (arith, nat_tests)

  lt_false : (j k : ℕ) → k ≤ j → nat_lt j k ≡ false
  lt_false j k h = grind (arith, nat_tests)

  below : (j : ℕ) → j ≤ n → filter p (numbers j) ≡ filter f (numbers j)
  below zero h = refl
  below (suc j) h =
      filter-append p (numbers j) (j ∷ [])
      ∙ ap (λ (xs : List ℕ). xs ++ filter p (j ∷ [])) (below j (omega (arith, h)))
      ∙ ap (λ (b : Bool). filter f (numbers j) ++ (if b then j ∷ [] else [])) (same j ∙ and_true (f j) (nat_lt j n) (lt_true j n (omega (arith, h))))
      ∙ sym (filter-append f (numbers j) (j ∷ []))

  split : (m : ℕ) → n ≤ suc m → (n ≤ m) ⊎ (n ≡ suc m)
  split m h = search arith

  above : (m : ℕ) → n ≤ m → filter p (numbers m) ≡ filter f (numbers n)
  above zero h = let none : n ≡ zero = omega (arith, h) in subst (λ (k : ℕ). [] ≡ filter f (numbers k)) (sym none) refl
  above (suc m) h = go (above m) (split m h) where
    go : (n ≤ m → filter p (numbers m) ≡ filter f (numbers n)) → (n ≤ m) ⊎ (n ≡ suc m) → filter p (numbers (suc m)) ≡ filter f (numbers n)
    go lower (inl g) =
        filter-append p (numbers m) (m ∷ [])
        ∙ ap (λ (b : Bool). filter p (numbers m) ++ (if b then m ∷ [] else [])) (same m ∙ and_false (f m) (nat_lt m n) (lt_false m n g))
        ∙ append-nil (filter p (numbers m)) ∙ lower g
    go lower (inr e) = subst (λ (k : ℕ). filter p (numbers k) ≡ filter f (numbers n)) e (below n (omega arith))

-- the lanes of a set that is made of some of the first n are these, in their order
pub lanes_of_some : (f : ℕ → Bool) (n : ℕ) → n ≤ 16 → lanes_of (set_of (filter f (numbers n))) ≡ filter f (numbers n)
lanes_of_some f n few = above (has_lane (set_of (filter f (numbers n)))) f n (λ k. has_set (filter f (numbers n)) k ∙ has_filter f n k) 16 few
