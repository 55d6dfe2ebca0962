-- How often a block stands in lists that are filtered, and sums over lanes.
use Rattle.std.proofs.Common.{◌≡◌, ◌≢◌, ◌⊎◌, ℕ, zero, suc, ◌+◌, ◌≤◌, List, [], ◌∷◌, filter, Bool, true, false, subst, sym, ap, ◌∙◌, arith, refl, inl, inr}
use Rattle.std.specs.List.{list_all}
use Rattle.std.proofs.lemmas.Bool.{cases_eq, and_from, and_parts, false≢true}
use Rattle.std.proofs.lemmas.Bool.Decides.{nat_tests}
use Rattle.wdt_units.specs.declared.blocks.Block.{Block}
use Rattle.wdt_claims.specs.Blocks.{precedes, are_rising, is_same, count_of}
use Rattle.wdt_claims.proofs.Shared.{count_of-nil, count_of-cons, one_if-false, one_block, not_among}
use Rattle.wdt_tree.specs.Rest.{is_earlier, is_rising}
use Rattle.wdt_claims.specs.Places.{is_among}

-- a block of a list is counted
pub present : (b : Block) (xs : List Block) → is_among xs b ≡ true → 1 ≤ count_of b xs
present b xs among = elim (cases_eq (count_of b xs) 0) [ inl none ↦ absurd (false≢true (sym (not_among b xs none) ∙ among)) | inr some ↦ omega (arith, some) ]

-- ---- blocks that pass a test

other_if : (p : Block → Bool) (b x : Block) (t : Bool) → (p b ≡ p x → ⊥) → is_same b x ≡ t → is_same b x ≡ false
other_if p b x true differ same = absurd (differ (ap p (one_block b x same)))
other_if p b x false differ same = same

kept_go : (p : Block → Bool) (b x : Block) (xs : List Block) (t : Bool) → p b ≡ true → count_of b (filter p xs) ≡ count_of b xs → p x ≡ t → count_of b (filter p (x ∷ xs)) ≡ count_of b (x ∷ xs)
kept_go p b x xs true has rest e = rw e (omega (arith, count_of-cons b x (filter p xs), count_of-cons b x xs, rest))
kept_go p b x xs false has rest e =
    rw e (omega (arith, count_of-cons b x xs, rest, one_if-false b x (other_if p b x (is_same b x) (λ same. false≢true (sym e ∙ sym same ∙ has)) refl)))

-- a block that passes stands as often among those that do
pub kept_count : (p : Block → Bool) (b : Block) (xs : List Block) → p b ≡ true → count_of b (filter p xs) ≡ count_of b xs
kept_count p b [] has = refl
kept_count p b (x ∷ xs) has = kept_go p b x xs (p x) has (kept_count p b xs has) refl

dropped_go : (p : Block → Bool) (b x : Block) (xs : List Block) (t : Bool) → p b ≡ false → count_of b (filter p xs) ≡ 0 → p x ≡ t → count_of b (filter p (x ∷ xs)) ≡ 0
dropped_go p b x xs false not_it rest e = rw e rest
dropped_go p b x xs true not_it rest e =
    rw e (omega (arith, count_of-cons b x (filter p xs), rest, one_if-false b x (other_if p b x (is_same b x) (λ same. false≢true (sym not_it ∙ same ∙ e)) refl)))

-- and one that doesn't isn't among them
pub dropped_count : (p : Block → Bool) (b : Block) (xs : List Block) → p b ≡ false → count_of b (filter p xs) ≡ 0
dropped_count p b [] not_it = count_of-nil b
dropped_count p b (x ∷ xs) not_it = dropped_go p b x xs (p x) not_it (dropped_count p b xs not_it) refl

-- ---- what rises in the order of the plan rises in that of blocks

earlier_precedes : (a b : Block) → is_earlier a b ≡ true → precedes a b ≡ true
earlier_precedes a b e = grind (arith, nat_tests)

all_precede : (a : Block) (xs : List Block) → list_all (is_earlier a) xs ≡ true → list_all (precedes a) xs ≡ true
all_precede a [] e = refl
all_precede a (x ∷ xs) e =
    let parts = and_parts (is_earlier a x) (list_all (is_earlier a) xs) e in
    and_from (precedes a x) (list_all (precedes a) xs) (earlier_precedes a x parts.0) (all_precede a xs parts.1)

pub plan_rises : (xs : List Block) → is_rising xs ≡ true → are_rising xs ≡ true
plan_rises [] e = refl
plan_rises (x ∷ xs) e =
    let parts = and_parts (list_all (is_earlier x) xs) (is_rising xs) e in
    and_from (list_all (precedes x) xs) (are_rising xs) (all_precede x xs parts.0) (plan_rises xs parts.1)

-- ---- sums over the lanes below n

abbrev pub total : ℕ → (ℕ → ℕ) → ℕ
total zero f = 0
total (suc n) f = total n f + f n

pub total_below : (n : ℕ) (f g : ℕ → ℕ) → ((l : ℕ) → g l ≤ f l) → total n g ≤ total n f
total_below zero f g below = omega arith
total_below (suc n) f g below = omega (arith, total_below n f g below, below n)

one_apart : (n k : ℕ) → (n ≡ k) ⊎ (n ≢ k)
one_apart n k = cases_eq n k

pub total_one : (n k : ℕ) (f g : ℕ → ℕ) → ((l : ℕ) → l ≢ k → g l ≤ f l) → g k ≤ f k + 1 → total n g ≤ total n f + 1
total_one zero k f g below one = omega arith
total_one (suc n) k f g below one = go (one_apart n k) (total_one n k f g below one) where
  lower : (m : ℕ) → m ≤ k → total m g ≤ total m f
  lower zero le = omega arith
  lower (suc m) le = omega (arith, lower m (omega (arith, le)), below m (λ e. omega (arith, le, e)))

  go : (n ≡ k) ⊎ (n ≢ k) → total n g ≤ total n f + 1 → total (suc n) g ≤ total (suc n) f + 1
  go (inl e) rest =
      let here : g n ≤ f n + 1 = subst (λ (j : ℕ). g j ≤ f j + 1) (sym e) one in
      omega (arith, lower n (omega (arith, e)), here)
  go (inr ne) rest = omega (arith, rest, below n ne)
