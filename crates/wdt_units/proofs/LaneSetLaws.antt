-- Which lanes are in a set that is made of others.
use Rattle.std.proofs.Common.{◌≡◌, ◌≢◌, ℕ, ◌+◌, ◌-◌, ◌%◌, ◌<◌, ◌≤◌, ◌^◌, ◌==◌, ◌&&◌, ◌||◌, ◌⊎◌, min, max, not, true, false, nat_lt, bit_and, bit_xor, sym, ap, ◌∙◌, inl, inr, arith}
use Rattle.std.specs.Int.{bit_at, bit_not, w16}
use Rattle.std.proofs.lemmas.Bool.{eq-eqb}
use Rattle.std.proofs.lemmas.Bool.Decides.{nat_tests, eqb_tells}
use Rattle.std.proofs.lemmas.Nat.{and_le_l, or_lt, xor_lt, pow_pos, pow_below}
use Rattle.std.proofs.lemmas.Nat.Bits.{bit_at-zero, bit_at-lt, bit_at_and, bit_at_or, bit_at_xor, bit_at_not, bit_at-pow_same, bit_at-pow_other, bit_at_ones, bit_at_ones_above, same_from_bits_below}
use Rattle.wdt_units.specs.declared.numbers.LaneSet.{LaneSet}
use Rattle.wdt_units.specs.LaneSets.{has_lane, no_lanes, only_lane, first_lanes, lanes_with, lanes_without}

eq_or_ne : (a b : ℕ) → (a ≡ b) ⊎ (a ≢ b)
eq_or_ne a b = elim (eqb_tells a b) [ inl h ↦ inl h.1 | inr h ↦ inr h.1 ]

ne_eqb : (a b : ℕ) → a ≢ b → (a == b) ≡ false
ne_eqb a b h = elim (eqb_tells a b) [ inl e ↦ absurd (h e.1) | inr e ↦ e.0 ]

lt_or_ge : (a b : ℕ) → (a < b) ⊎ (b ≤ a)
lt_or_ge a b = search arith

ltb_of : (a b : ℕ) → a < b → nat_lt a b ≡ true
ltb_of a b h = grind (arith, nat_tests)

ltb_not : (a b : ℕ) → b ≤ a → nat_lt a b ≡ false
ltb_not a b h = grind (arith, nat_tests)

one_of_max : (a b : ℕ) → a < 2 → b < 2 → (max a b == 1) ≡ ((a == 1) || (b == 1))
one_of_max a b x y = grind (arith, nat_tests)

one_of_less : (a b : ℕ) → a < 2 → b < 2 → (min a (1 - b) == 1) ≡ ((a == 1) && not (b == 1))
one_of_less a b x y = grind (arith, nat_tests)

zero_bit : (b : ℕ) → b < 2 → (b == 1) ≡ false → b ≡ 0
zero_bit b lt h = grind (arith, nat_tests)

-- a bit that is in the first number and not in the second
less_bits : (x y : ℕ) → x < 2 → y < 2 → (x + min x y) % 2 ≡ min x (1 - y)
less_bits x y p q = grind (arith, nat_tests)

less_bit : (a b k : ℕ) → bit_at (bit_xor a (bit_and a b)) k ≡ min (bit_at a k) (1 - bit_at b k)
less_bit a b k =
    bit_at_xor a (bit_and a b) k ∙ ap (λ (n : ℕ). (bit_at a k + n) % 2) (bit_at_and a b k) ∙ less_bits (bit_at a k) (bit_at b k) (bit_at-lt a k) (bit_at-lt b k)

-- what is left of 16 bits without those of another number
pub less_masked : (a b : ℕ) → a < 2 ^ 16 → b < 2 ^ 16 → bit_and a (bit_not w16 b) ≡ bit_xor a (bit_and a b)
less_masked a b p q =
    same_from_bits_below 16 (bit_and a (bit_not w16 b)) (bit_xor a (bit_and a b)) (omega (arith, and_le_l a (bit_not w16 b))) (xor_lt 16 a (bit_and a b) p (omega (arith, and_le_l a b))) (λ k lt. bit_at_and a (bit_not w16 b) k ∙ ap (λ (n : ℕ). min (bit_at a k) n) (bit_at_not w16 b k q lt) ∙ sym (less_bit a b k))

pub in_none : (lane : ℕ) → has_lane no_lanes lane ≡ false
in_none lane = ap (λ (n : ℕ). n == 1) (bit_at-zero lane)

pub in_only : (lane k : ℕ) → has_lane (only_lane lane) k ≡ (lane == k)
unfolding only_lane
in_only lane k = elim (eq_or_ne lane k) [ inl e ↦ ap (λ (n : ℕ). bit_at (2 ^ lane) n == 1) (sym e) ∙ ap (λ (n : ℕ). n == 1) (bit_at-pow_same lane) ∙ sym (eq-eqb lane k e) | inr ne ↦ ap (λ (n : ℕ). n == 1) (bit_at-pow_other lane k (λ e. ne (sym e))) ∙ sym (ne_eqb lane k ne) ]

pub in_first : (count k : ℕ) → has_lane (first_lanes count) k ≡ nat_lt k count
unfolding first_lanes
in_first count k = elim (lt_or_ge k count) [ inl lt ↦ ap (λ (n : ℕ). n == 1) (bit_at_ones count k lt) ∙ sym (ltb_of k count lt) | inr ge ↦ ap (λ (n : ℕ). n == 1) (bit_at_ones_above count k ge) ∙ sym (ltb_not k count ge) ]

pub in_with : (a b : LaneSet) (k : ℕ) → has_lane (lanes_with a b) k ≡ (has_lane a k || has_lane b k)
unfolding lanes_with
in_with a b k = ap (λ (n : ℕ). n == 1) (bit_at_or a.0 b.0 k) ∙ one_of_max (bit_at a.0 k) (bit_at b.0 k) (bit_at-lt a.0 k) (bit_at-lt b.0 k)

pub in_without : (a b : LaneSet) (k : ℕ) → has_lane (lanes_without a b) k ≡ (has_lane a k && not (has_lane b k))
unfolding lanes_without
in_without a b k = ap (λ (n : ℕ). n == 1) (less_bit a.0 b.0 k) ∙ one_of_less (bit_at a.0 k) (bit_at b.0 k) (bit_at-lt a.0 k) (bit_at-lt b.0 k)

-- a set without one of the lanes that it may have is the empty one
pub none_in : (count : ℕ) (set : LaneSet) → set.0 < 2 ^ count → ((k : ℕ) → k < count → has_lane set k ≡ false) → set ≡ no_lanes
none_in count set fits none =
    ap (λ (n : ℕ). let it : LaneSet = record { 0 = n } in it) (same_from_bits_below count set.0 0 fits (pow_pos count) (λ k lt. zero_bit (bit_at set.0 k) (bit_at-lt set.0 k) (none k lt) ∙ sym (bit_at-zero k)))

-- ---- sets of the first so many lanes

pub only_fits : (count lane : ℕ) → lane < count → (only_lane lane).0 < 2 ^ count
unfolding only_lane
only_fits count lane lt = pow_below lane count lt

pub first_fits : (count : ℕ) → (first_lanes count).0 < 2 ^ count
unfolding first_lanes
first_fits count = omega (arith, pow_pos count)

pub with_fits : (count : ℕ) (a b : LaneSet) → a.0 < 2 ^ count → b.0 < 2 ^ count → (lanes_with a b).0 < 2 ^ count
unfolding lanes_with
with_fits count a b p q = or_lt count a.0 b.0 p q

pub without_fits : (count : ℕ) (a b : LaneSet) → a.0 < 2 ^ count → (lanes_without a b).0 < 2 ^ count
unfolding lanes_without
without_fits count a b p = xor_lt count a.0 (bit_and a.0 b.0) p (omega (arith, and_le_l a.0 b.0))
