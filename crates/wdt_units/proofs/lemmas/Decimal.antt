-- Numbers in words.
use Rattle.std.proofs.Common.{◌≡◌, ℕ, zero, suc, ◌^◌, ◌<◌, ◌≤◌, Bool, true, false, cond, ◌&&◌, nat_lt, List, [], ◌∷◌, length, get_or, Option, Some, None, is_some, Result, Ok, Err, refl, sym, ap, ◌∙◌, subst, arith}
use Rattle.std.specs.Prelude.{IfSome}
use Rattle.std.specs.Fmt.{decimal, digits}
use Rattle.std.specs.Result.{OkIff, result_ok}
use Rattle.std.specs.Str.{bytes_eq}
use Rattle.std.specs.Str.Parse.{AllDigits, ParsesUnsigned, digits_value}
use Rattle.std.proofs.lemmas.Bool.{and_from, and_parts, ltb-true, lt-ltb}
use Rattle.std.proofs.lemmas.Bool.Decides.{nat_tests}
use Rattle.std.proofs.lemmas.Fmt.{decimal-digits_value, decimal_is_IsNumeral, first_decimal}
use Rattle.std.proofs.lemmas.Slice.Eq.{bytes_eq-Decides}
use Rattle.std.proofs.lemmas.Str.Parse.{IsNumeralModel, digit_at, numerals_by_value, parse_plain, tells_digits}
use Rattle.wdt_units.specs.Decimal.{begins_number, number_of, value_of}

own : IsNumeralModel (AllDigits 10) (digits_value 10)
own = numerals_by_value (AllDigits 10) tells_digits

-- the answer on a word: its number, of which it is the spelling, or none where it spells none
pub record IsNumberOf (word : List ℕ) (found : Option ℕ) : Type 0 where
  pub value : found ≡ number_of word
  pub spelled : IfSome found (λ n. word ≡ decimal n)
  pub other : is_some found ≡ false → (n : ℕ) → n < 2 ^ 64 → word ≡ decimal n → ⊥

-- ---- the first digit

first-other : (word : List ℕ) → 48 < get_or word 0 0 → get_or word 0 0 ≤ 57 → begins_number word ≡ true
first-other [] low high = absurd (omega arith)
first-other (c ∷ cs) low high = grind (arith, nat_tests)

-- each number's spelling begins so
pub decimal_begins : (n : ℕ) → n < 2 ^ 64 → begins_number (decimal n) ≡ true
unfolding digits
decimal_begins zero lt = refl
decimal_begins (suc n) lt =
    let numeral = (decimal_is_IsNumeral (suc n) (omega arith)).0 in
    first-other (decimal (suc n)) (first_decimal (suc n) (omega arith) (omega arith)) (omega (arith, digit_at (decimal (suc n)) 0 numeral.1 numeral.0))

-- a word that begins so is no sign, and a zero in front is all of it
record IsBegun (word : List ℕ) : Type 0 where
  plain : get_or word 0 0 ≡ 43 → ⊥
  zero_alone : get_or word 0 0 ≡ 48 → length word ≡ 1

begun : (word : List ℕ) → begins_number word ≡ true → IsBegun word
begun [] b = absurd (let e : false ≡ true = b in cc)
begun (c ∷ []) b = record { plain = λ e. grind (arith, nat_tests); zero_alone = λ e. refl }
begun (c ∷ d ∷ ds) b = record { plain = λ e. grind (arith, nat_tests); zero_alone = λ e. grind (arith, nat_tests) }

-- ---- numbers

is_number : (word : List ℕ) → word ≡ decimal (value_of word) → value_of word < 2 ^ 64 → number_of word ≡ Some (value_of word)
unfolding number_of
is_number word spelled small =
    ap (λ (t : Bool). cond t (Some (value_of word)) None)
    (and_from (bytes_eq word (decimal (value_of word))) (nat_lt (value_of word) (2 ^ 64)) ((bytes_eq-Decides word (decimal (value_of word))).1 spelled) (lt-ltb (value_of word) (2 ^ 64) small))

none_from : (t : Bool) (x : Option ℕ) → (t ≡ true → ⊥) → cond t x None ≡ None
none_from true x h = absurd (h refl)
none_from false x h = refl

no_number : (word : List ℕ) → ((n : ℕ) → n < 2 ^ 64 → word ≡ decimal n → ⊥) → number_of word ≡ None
unfolding number_of
no_number word h = none_from (bytes_eq word (decimal (value_of word)) && nat_lt (value_of word) (2 ^ 64)) (Some (value_of word)) λ test.
    let parts = and_parts (bytes_eq word (decimal (value_of word))) (nat_lt (value_of word) (2 ^ 64)) test in
    h (value_of word) (ltb-true (value_of word) (2 ^ 64) parts.1) ((bytes_eq-Decides word (decimal (value_of word))).0 parts.0)

-- a word that begins otherwise spells no number
pub not_begun : (word : List ℕ) → begins_number word ≡ false → IsNumberOf word None
not_begun word b =
    let none : (n : ℕ) → n < 2 ^ 64 → word ≡ decimal n → ⊥ = λ n lt e. let s : false ≡ true = sym b ∙ ap begins_number e ∙ decimal_begins n lt in cc in
    record { value = sym (no_number word none); spelled = tt; other = λ f. none }

parsed_to : {E : Type 0} (word : List ℕ) (r : Result ℕ E) → IsBegun word → OkIff r (AllDigits 10 word × (0 < length word) × (digits_value 10 word < 2 ^ 64)) (digits_value 10 word)
    → IsNumberOf word (result_ok r)
parsed_to word (Ok x) b h =
    let digits = h.0 in
    let is : x ≡ value_of word = h.1 in
    let spelled : word ≡ decimal (value_of word) = sym (decimal-digits_value own word digits.0 digits.1 b.zero_alone digits.2) in
    record {
      value = ap Some is ∙ sym (is_number word spelled digits.2);
      spelled = spelled ∙ ap decimal (sym is);
      other = λ f. absurd (let e : true ≡ false = f in cc);
    }
parsed_to word (Err e) b h =
    let none : (n : ℕ) → n < 2 ^ 64 → word ≡ decimal n → ⊥ = λ n lt is.
    let numeral = decimal_is_IsNumeral n lt in
    let small : digits_value 10 word < 2 ^ 64 = omega (arith, ap (digits_value 10) is, numeral.1) in
    h (subst (AllDigits 10) (sym is) numeral.0.1, subst (λ (ds : List ℕ). 0 < length ds) (sym is) numeral.0.0, small) in
    record { value = sym (no_number word none); spelled = tt; other = λ f. none }

-- a word that begins so is read as a parse reads it
pub parsed : {E : Type 0} (word : List ℕ) (r : Result ℕ E) → begins_number word ≡ true → ParsesUnsigned 64 10 word r → IsNumberOf word (result_ok r)
parsed word r b parses = parsed_to word r (begun word b) (parse_plain own 64 word r parses (begun word b).plain)
