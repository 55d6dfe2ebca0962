-- A number of a range, high byte first.
use Rattle.std.proofs.Common.{◌≡◌, ℕ, zero, suc, ◌+◌, ◌-◌, ◌*◌, ◌/◌, ◌%◌, ◌^◌, ◌<◌, ◌≤◌, List, [], ◌∷◌, ◌++◌, length, get_or, take, drop, Result, Ok, Err, refl, sym, ap, ◌∙◌, arith, inl, inr}
use Rattle.std.specs.Prelude.{IfOk}
use Rattle.std.specs.Int.{byte_at, bytes_high_first}
use Rattle.std.proofs.Math.Nat.{pow-suc, div-one, div-div-eq-div-mul, div-add-mod', div-mul-le_self, le-div_iff_mul-le, mul-div_cancel, mul-le-mul_left, div-eq_of_lt}
use Rattle.std.proofs.lemmas.Nat.{div-mul-add, mod-mul-add, row_fits_turned, pow-add}
use Rattle.std.proofs.lemmas.List.{take-append-drop, drop_all, drop_more, length-drop}
use Rattle.byteorder.specs.Endian.{big_from, big_number}
use Rattle.byteorder.specs.Numbers.{big_from-cons}
use Rattle.std.proofs.lemmas.Bool.{cases_lt, lt-ltb, le-ltb}
use Rattle.wdt_codec.specs.declared.stop.Stop.{Stop}
use Rattle.wdt_codec.specs.declared.stop.Stop.TheVariants.{NotYet, Bad}
use Rattle.wdt_codec.specs.Reading.{digits, number_at, Answers}
use Rattle.wdt_codec.proofs.Field.{AreBytes, ok_is, Begins, Spoils, IsExact}

pow256_pos : (n : ℕ) → 0 < 256 ^ n
pow256_pos zero = omega arith
pow256_pos (suc n) = let h = pow256_pos n in omega (arith, pow-suc 256 n)

div_mono : (n a b : ℕ) → a ≤ b → a / 256 ^ n ≤ b / 256 ^ n
div_mono n a b h = (le-div_iff_mul-le (pow256_pos n)).1 (omega (arith, h, div-mul-le_self a (256 ^ n)))

byte_at-is : (n x : ℕ) → byte_at n x ≡ x / 256 ^ n % 256
byte_at-is zero x = ap (λ (y : ℕ). y % 256) (sym (div-one x))
byte_at-is (suc n) x = refl

high_part : (n x : ℕ) → x / 256 ^ suc n ≡ x / 256 ^ n / 256
high_part n x = ap (λ (y : ℕ). x / y) (pow-suc 256 n) ∙ sym (div-div-eq-div-mul x (256 ^ n) 256)

-- the digits before, and one more
pub one_more : (n x p : ℕ) → x / 256 ^ suc n ≡ p → p * 256 + byte_at n x ≡ x / 256 ^ n
one_more n x p e = rw (byte_at-is, ← e, high_part) (div-add-mod' (x / 256 ^ n) 256)

pub one_less : (n x p b : ℕ) → b < 256 → x / 256 ^ n ≡ p * 256 + b → (x / 256 ^ suc n ≡ p) × (byte_at n x ≡ b)
one_less n x p b lt e =
    let q : x / 256 ^ n / 256 ≡ p = rw e (div-mul-add p 256 b lt) in
    let s = div-add-mod' (x / 256 ^ n) 256 in
    (high_part n x ∙ q, byte_at-is n x ∙ omega (arith, s, q, e))

-- the number is in the range, and the digits before the last n of it are p
pub record From (low high n p x : ℕ) : Type 0 where
  pub low_le : low ≤ x
  pub le_high : x ≤ high
  pub before : x / 256 ^ n ≡ p

-- some number of the range begins with the digits p
pub record Open (low high n p : ℕ) : Type 0 where
  pub ranged : low ≤ high
  pub low_le : low / 256 ^ n ≤ p
  pub le_high : p ≤ high / 256 ^ n

pub open_has : (low high n p : ℕ) → Open low high n p → (x : ℕ) × From low high n p x
open_has low high n p o =
    let pos = pow256_pos n in
    elim (cases_lt (p * 256 ^ n) low) [
      | inl lt ↦
          let back : p ≤ low / 256 ^ n = (le-div_iff_mul-le pos).1 (omega arith) in
          (low, record { low_le = omega arith; le_high = o.ranged; before = omega (arith, back, o.low_le) })
      | inr le ↦
          let under : p * 256 ^ n ≤ high = (le-div_iff_mul-le pos).0 o.le_high in
          (p * 256 ^ n, record { low_le = le; le_high = under; before = mul-div_cancel p pos })
    ]

pub From-open : (low high n p x : ℕ) → From low high n p x → Open low high n p
From-open low high n p x f = record {
  ranged = omega (arith, f.low_le, f.le_high);
  low_le = rw (← f.before) (div_mono n low x f.low_le);
  le_high = rw (← f.before) (div_mono n x high f.le_high);
}

-- the test of the next digit
pub data Step (low high n p b : ℕ) (bytes : List ℕ) : Type 0 where
  goes : Open low high n (p * 256 + b) → digits low high (suc n) p (b ∷ bytes) ≡ digits low high n (p * 256 + b) bytes → Step low high n p b bytes
  stops : ((u : List ℕ) → digits low high (suc n) p (b ∷ u) ≡ Err (Bad (suc (length u)))) → Step low high n p b bytes

step : (low high n p b : ℕ) (bytes : List ℕ) → low ≤ high → Step low high n p b bytes
unfolding digits
step low high n p b bytes le =
    elim (cases_lt (p * 256 + b) (low / 256 ^ n)) [
      | inl lt ↦ stops (λ u. rw (lt-ltb _ _ lt) refl)
      | inr ge ↦ elim (cases_lt (high / 256 ^ n) (p * 256 + b)) [
        | inl lt ↦ stops (λ u. rw (le-ltb _ _ ge, lt-ltb _ _ lt) refl)
        | inr le' ↦ goes (record { ranged = le; low_le = ge; le_high = le' }) (rw (le-ltb _ _ ge, le-ltb _ _ le') refl)
      ]
    ]

step_open : (low high n p b : ℕ) (bytes : List ℕ) → Open low high n (p * 256 + b) → digits low high (suc n) p (b ∷ bytes) ≡ digits low high n (p * 256 + b) bytes
unfolding digits
step_open low high n p b bytes o = rw (le-ltb _ _ o.low_le, le-ltb _ _ o.le_high) refl

again : (low high n p x : ℕ) (rest : List ℕ) → From low high n p x → digits low high n p (bytes_high_first n x ++ rest) ≡ Ok (x, rest)
unfolding digits
again low high zero p x rest f = ap (λ (y : ℕ). Ok (y, rest)) (sym f.before ∙ div-one x)
again low high (suc n) p x rest f =
    let e = one_more n x p f.before in
    let g : From low high n (p * 256 + byte_at n x) x = record { low_le = f.low_le; le_high = f.le_high; before = sym e } in
    step_open low high n p (byte_at n x) (bytes_high_first n x ++ rest) (From-open low high n _ x g) ∙ again low high n (p * 256 + byte_at n x) x rest g

got : (low high n p : ℕ) (bytes : List ℕ) (x : ℕ) (rest : List ℕ) → Open low high n p → AreBytes bytes → digits low high n p bytes ≡ Ok (x, rest) → From low high n p x × (bytes ≡ bytes_high_first n x ++ rest)
unfolding digits
got low high zero p bytes x rest o fine e =
    let both : ◌≡◌ {A = ℕ × List ℕ} (p, bytes) (x, rest) = ok_is (p, bytes) (x, rest) e in
    let same : p ≡ x = ap (λ (z : ℕ × List ℕ). z.0) both in
    let rests : bytes ≡ rest = ap (λ (z : ℕ × List ℕ). z.1) both in
    (record { low_le = omega (arith, div-one low, o.low_le); le_high = omega (arith, div-one high, o.le_high); before = div-one x ∙ sym same }, rests)
got low high (suc n) p [] x rest o fine e = absurd cc
got low high (suc n) p (b ∷ bytes) x rest o fine e =
    elim (step low high n p b bytes o.ranged) [
      | goes o' s ↦
          let r = got low high n (p * 256 + b) bytes x rest o' fine.1 (sym s ∙ e) in
          let k = one_less n x p b fine.0 r.0.before in
          (record { low_le = r.0.low_le; le_high = r.0.le_high; before = k.0 }, rw (k.1) (ap (λ (w : List ℕ). b ∷ w) r.1))
      | stops s ↦ absurd (let t = s bytes in cc)
    ]

short : (low high n p : ℕ) (bytes : List ℕ) → Open low high n p → AreBytes bytes → digits low high n p bytes ≡ Err NotYet → Begins (From low high n p) (bytes_high_first n) bytes
unfolding digits
short low high zero p bytes o fine e = absurd cc
short low high (suc n) p [] o fine e =
    let x = open_has low high (suc n) p o in
    record { value = x.0; next = byte_at n x.0; more = bytes_high_first n x.0; fits = x.1; is = refl }
short low high (suc n) p (b ∷ bytes) o fine e =
    elim (step low high n p b bytes o.ranged) [
      | goes o' s ↦
          let r = short low high n (p * 256 + b) bytes o' fine.1 (sym s ∙ e) in
          let k = one_less n r.value p b fine.0 r.fits.before in
          record { value = r.value; next = r.next; more = r.more; fits = record { low_le = r.fits.low_le; le_high = r.fits.le_high; before = k.0 }; is = rw (k.1) (ap (λ (w : List ℕ). b ∷ w) r.is) }
      | stops s ↦ absurd (let t = s bytes in cc)
    ]

bad : (low high n p : ℕ) (bytes : List ℕ) (left : ℕ) → Open low high n p → digits low high n p bytes ≡ Err (Bad left) → Spoils (digits low high n p) bytes left
unfolding digits
bad low high zero p bytes left o e = absurd cc
bad low high (suc n) p [] left o e = absurd cc
bad low high (suc n) p (b ∷ bytes) left o e =
    elim (step low high n p b bytes o.ranged) [
      | goes o' s ↦
          let r = bad low high n (p * 256 + b) bytes left o' (sym s ∙ e) in
          record {
            front = b ∷ r.front;
            next = r.next;
            back = r.back;
            parts = ap (λ (w : List ℕ). b ∷ w) r.parts;
            left-is = r.left-is;
            hope = step_open low high n p b r.front o' ∙ r.hope;
            stays = λ u. step_open low high n p b (r.front ++ r.next ∷ u) o' ∙ r.stays u;
          }
      | stops s ↦
          let t = s bytes in
          record { front = []; next = b; back = bytes; parts = refl; left-is = cc; hope = refl; stays = s }
    ]

-- a number of the range
abbrev pub Within : ℕ → ℕ → ℕ → Type 0
Within low high x = (low ≤ x) × (x ≤ high)

module _ (width low high : ℕ) (ranged : low ≤ high) (fits : high < 256 ^ width) where
  whole : (x : ℕ) → Within low high x → From low high width 0 x
  whole x h = record { low_le = h.0; le_high = h.1; before = div-eq_of_lt (omega arith) }

  start : Open low high width 0
  start = From-open low high width 0 low (whole low (omega arith, ranged))

  pub number-exact : IsExact (Within low high) (bytes_high_first width) (number_at width low high)
  number-exact = record {
    again = λ x rest h. again low high width 0 x rest (whole x h);
    got = λ bytes x rest fine e. let r = got low high width 0 bytes x rest start fine e in ((r.0.low_le, r.0.le_high), r.1);
    short = λ bytes fine e. let r = short low high width 0 bytes start fine e in record { value = r.value; next = r.next; more = r.more; fits = (r.fits.low_le, r.fits.le_high); is = r.is };
    bad = λ bytes left fine e. bad low high width 0 bytes left start e;
  }

-- ---- the whole number at once

-- digits behind a number p
pub digits_back : (n p : ℕ) (bytes : List ℕ) → AreBytes bytes → n ≤ length bytes → (big_from 0 n bytes < 256 ^ n) × (bytes_high_first n (p * 256 ^ n + big_from 0 n bytes) ≡ take n bytes)
digits_back zero p bytes fine le = (omega arith, refl)
digits_back (suc n) p [] fine le = absurd (omega arith)
digits_back (suc n) p (b ∷ bytes) fine le =
    let r = digits_back n (p * 256 + b) bytes fine.1 (omega arith) in
    let w = pow-suc 256 n in
    let rest : big_from 1 n (b ∷ bytes) ≡ big_from 0 n bytes = big_from-cons 0 n b bytes in
    let room : b * 256 ^ n + 256 ^ n ≤ 256 ^ n * 256 = row_fits_turned b (256 ^ n) (256 ^ n) 256 fine.0 (omega arith) in
    let same : p * 256 ^ suc n + (b * 256 ^ n + big_from 1 n (b ∷ bytes)) ≡ (p * 256 + b) * 256 ^ n + big_from 0 n bytes = rw (rest, w) (omega arith) in
    let top : byte_at n ((p * 256 + b) * 256 ^ n + big_from 0 n bytes) ≡ b =
    byte_at-is n _ ∙ ap (λ (y : ℕ). y % 256) (div-mul-add (p * 256 + b) (256 ^ n) (big_from 0 n bytes) r.0) ∙ mod-mul-add p 256 b fine.0 in
    (rw (rest, w) (omega (arith, r.0, room)), ap (bytes_high_first (suc n)) same ∙ rw top (ap (λ (u : List ℕ). b ∷ u) r.1))

pub number-at_once : (width low high : ℕ) (bytes : List ℕ) → high < 256 ^ width → AreBytes bytes → width ≤ length bytes → low ≤ big_number width bytes → big_number width bytes ≤ high
    → number_at width low high bytes ≡ Ok (big_number width bytes, drop width bytes)
number-at_once width low high bytes fits fine le h1 h2 =
    let r = digits_back width 0 bytes fine le in
    let back : bytes_high_first width (big_from 0 width bytes) ≡ take width bytes = let zero_is : 0 * 256 ^ width + big_from 0 width bytes ≡ big_from 0 width bytes = omega arith in ap (bytes_high_first width) (sym zero_is) ∙ r.1 in
    let parts : bytes ≡ bytes_high_first width (big_number width bytes) ++ drop width bytes = rw back (sym (take-append-drop width bytes)) in
    ap (number_at width low high) parts ∙ (number-exact width low high (omega arith) fits).again (big_number width bytes) (drop width bytes) (h1, h2)

-- ---- the loop

pub pow256 : (n : ℕ) → 256 ^ n ≡ 2 ^ (8 * n)
pow256 zero = refl
pow256 (suc n) = pow-suc 256 n ∙ rw (pow256 n) (sym (ap (λ (k : ℕ). 2 ^ k) (let e : 8 * suc n ≡ 8 * n + 8 = omega arith in e) ∙ pow-add 2 (8 * n) 8))

-- a turn of the loop, at byte k
module _ (low high width k p : ℕ) (bytes : List ℕ) (more : k < width) where
  left : width - k ≡ suc (width - 1 - k)
  left = omega arith

  pub turn-short : length bytes ≤ k → digits low high (width - k) p (drop k bytes) ≡ Err NotYet
  unfolding digits
  turn-short le = rw (drop_all k bytes le, left) refl

  pub turn-low : k < length bytes → p * 256 + get_or bytes k 0 < low / 2 ^ (8 * (width - 1 - k)) → digits low high (width - k) p (drop k bytes) ≡ Err (Bad (length bytes - k))
  unfolding digits
  turn-low lt h =
      let h' = rw (← pow256 (width - 1 - k)) at h in
      let e : suc (length (drop (k + 1) bytes)) ≡ length bytes - k = omega (arith, length-drop (k + 1) bytes) in
      rw (drop_more bytes k 0 lt, left, lt-ltb _ _ h', ← e) refl

  pub turn-high : k < length bytes → high / 2 ^ (8 * (width - 1 - k)) < p * 256 + get_or bytes k 0 → digits low high (width - k) p (drop k bytes) ≡ Err (Bad (length bytes - k))
  unfolding digits
  turn-high lt h =
      let h' = rw (← pow256 (width - 1 - k)) at h in
      let e : suc (length (drop (k + 1) bytes)) ≡ length bytes - k = omega (arith, length-drop (k + 1) bytes) in
      elim (cases_lt (p * 256 + get_or bytes k 0) (low / 256 ^ (width - 1 - k))) [
        | inl a ↦ rw (drop_more bytes k 0 lt, left, lt-ltb _ _ a, ← e) refl
        | inr a ↦ rw (drop_more bytes k 0 lt, left, le-ltb _ _ a, lt-ltb _ _ h', ← e) refl
      ]

  pub turn-goes : k < length bytes → low / 2 ^ (8 * (width - 1 - k)) ≤ p * 256 + get_or bytes k 0 → p * 256 + get_or bytes k 0 ≤ high / 2 ^ (8 * (width - 1 - k))
      → digits low high (width - (k + 1)) (p * 256 + get_or bytes k 0) (drop (k + 1) bytes) ≡ digits low high (width - k) p (drop k bytes)
  unfolding digits
  turn-goes lt h1 h2 =
      let h1' = rw (← pow256 (width - 1 - k)) at h1 in
      let h2' = rw (← pow256 (width - 1 - k)) at h2 in
      let e : width - (k + 1) ≡ width - 1 - k = omega arith in
      rw (drop_more bytes k 0 lt, left, le-ltb _ _ h1', le-ltb _ _ h2', e) refl

pub turn-done : (low high width k p : ℕ) (bytes : List ℕ) → width ≤ k → digits low high (width - k) p bytes ≡ Ok (p, bytes)
unfolding digits
turn-done low high width k p bytes le = let e : width - k ≡ 0 = omega arith in rw e refl

pub digits-room : (high n q : ℕ) → 0 < n → q ≤ high / 2 ^ (8 * n) → q * 256 ≤ high
digits-room high zero q pos h = absurd (omega arith)
digits-room high (suc n) q pos h =
    let h' = rw (← pow256 (suc n)) at h in
    let a : q * 256 ^ suc n ≤ high = (le-div_iff_mul-le (pow256_pos (suc n))).0 h' in
    let one : 1 ≤ 256 ^ n = pow256_pos n in
    let b : q * 256 * 1 ≤ q * 256 * 256 ^ n = mul-le-mul_left (q * 256) one in
    let a' = rw pow-suc at a in
    omega (arith, a', b)

pub Answers-ranged : {X : Type 0} (width low high : ℕ) (bytes : List ℕ) → low ≤ high → high < 256 ^ width → AreBytes bytes → (view : X → ℕ × List ℕ) (r : Result X Stop) → Answers view r (number_at width low high bytes) → IfOk r (λ x. (low ≤ (view x).0) × ((view x).0 ≤ high))
Answers-ranged width low high bytes ranged fits fine view (Ok x) a = ((number-exact width low high ranged fits).got bytes (view x).0 (view x).1 fine a).0
Answers-ranged width low high bytes ranged fits fine view (Err d) a = tt
