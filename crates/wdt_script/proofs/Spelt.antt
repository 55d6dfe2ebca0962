-- Lines that say events.
use Rattle.std.proofs.Common.{◌≡◌, ℕ, ◌^◌, ◌<◌, ◌≤◌, Bool, true, false, cond, not, nat_lt, nat_le, List, [], ◌∷◌, ◌++◌, map, get_or, Option, Some, None, refl, sym, ap, ◌∙◌, arith}
use Rattle.std.specs.Prelude.{codes}
use Rattle.std.specs.Fmt.{decimal}
use Rattle.std.specs.List.{flat_map, list_all, onto_first, slice_split}
use Rattle.std.specs.Str.{bytes_eq}
use Rattle.std.proofs.lemmas.Bool.{and_from, and_parts, le-leb, lt-ltb, not-true}
use Rattle.std.proofs.lemmas.Bool.Decides.{nat_tests}
use Rattle.std.proofs.lemmas.Fmt.{decimal_is_IsNumeral}
use Rattle.std.proofs.lemmas.List.{append-nil, get_or_default}
use Rattle.std.proofs.lemmas.List.Sums.{list_all-from_AllPass}
use Rattle.std.proofs.lemmas.Slice.Eq.{bytes_eq-Decides}
use Rattle.std.proofs.lemmas.Str.Parse.{digit_at}
use Rattle.wdt_units.specs.Decimal.{number_of, value_of}
use Rattle.wdt_units.specs.declared.limits.TheConstants.{MAX_LANES}
use Rattle.wdt_units.specs.declared.numbers.Lane.{Lane}
use Rattle.wdt_script.specs.declared.event.Event.{Event}
use Rattle.wdt_script.specs.declared.event.Event.TheVariants.{S, R, Cut, Deny, Refuse, Stop, Settle, Resume}
use Rattle.wdt_script.specs.declared.numbers.Numbers.{Numbers}
use Rattle.wdt_script.specs.declared.numbers.Numbers.TheVariants.{Zero, One, Two, Three}
use Rattle.wdt_script.specs.declared.reading.TheConstants.{MAX_AMOUNT, MAX_STEPS}
use Rattle.wdt_script.specs.declared.word.Word.{Word}
use Rattle.wdt_script.specs.declared.word.Word.TheVariants as words
use Rattle.wdt_script.specs.Events.{amount_of, cut_of, event_in, event_of, event_with, lane_of, on_lane, steps_of, stop_of, with_steps}
use Rattle.wdt_script.specs.Lines.{fields_of, is_space}
use Rattle.wdt_script.specs.Numbers.{joined, numbers_of}
use Rattle.wdt_script.specs.Spelling.{Fits, IsCount, spaced, spell, with_numbers}
use Rattle.wdt_script.specs.Words.{word_of}

-- ---- fields

-- no space is among the bytes
has_none : List ℕ → Bool
has_none bytes = list_all (λ b. not (is_space b)) bytes

onto-word : (b : ℕ) (t : Bool) (word : List ℕ) (fields parts : List (List ℕ)) → t ≡ false → parts ≡ word ∷ fields → cond t ([] ∷ parts) (onto_first b parts) ≡ (b ∷ word) ∷ fields
onto-word b true word fields parts e is = absurd (let h : true ≡ false = e in cc)
onto-word b false word fields parts e is = ap (onto_first b) is

first-word : (word rest : List ℕ) → has_none word ≡ true → slice_split is_space (word ++ 32 ∷ rest) ≡ word ∷ slice_split is_space rest
unfolding has_none
first-word [] rest clear = refl
first-word (b ∷ word) rest clear =
    let parts = and_parts (not (is_space b)) (list_all (λ c. not (is_space c)) word) clear in
    onto-word b (is_space b) word (slice_split is_space rest) (slice_split is_space (word ++ 32 ∷ rest)) (not-true (is_space b) parts.0) (first-word word rest parts.1)

only-word : (word : List ℕ) → has_none word ≡ true → slice_split is_space word ≡ word ∷ []
unfolding has_none
only-word [] clear = refl
only-word (b ∷ word) clear =
    let parts = and_parts (not (is_space b)) (list_all (λ c. not (is_space c)) word) clear in
    onto-word b (is_space b) word [] (slice_split is_space word) (not-true (is_space b) parts.0) (only-word word parts.1)

digit_is_none : (b : ℕ) → 48 ≤ b → not (is_space b) ≡ true
digit_is_none b least = grind (arith, nat_tests)

decimal_has_none : (n : ℕ) → n < 2 ^ 64 → has_none (decimal n) ≡ true
unfolding has_none
decimal_has_none n small =
    let numeral = (decimal_is_IsNumeral n small).0 in
    list_all-from_AllPass (λ b. not (is_space b)) (decimal n) λ k d lt. digit_is_none (get_or (decimal n) k d) (omega (arith, (digit_at (decimal n) k numeral.1 lt).0, get_or_default (decimal n) k d 0 lt))

-- each of them is below 2^64
AreSmall : List ℕ → Type 0
AreSmall [] = Unit {0}
AreSmall (n ∷ ns) = (n < 2 ^ 64) × AreSmall ns

split-numbers : (word : List ℕ) (ns : List ℕ) → has_none word ≡ true → AreSmall ns → slice_split is_space (with_numbers word ns) ≡ word ∷ map decimal ns
unfolding AreSmall
split-numbers word [] clear small = ap (slice_split is_space) (append-nil word) ∙ only-word word clear
split-numbers word (n ∷ ns) clear small =
    first-word word (decimal n ++ flat_map spaced ns) clear ∙ ap (λ (fields : List (List ℕ)). word ∷ fields) (split-numbers (decimal n) ns (decimal_has_none n small.0) small.1)

-- ---- numbers

number-read : (n : ℕ) → n < 2 ^ 64 → number_of (decimal n) ≡ Some n
unfolding number_of
number-read n small =
    let value : value_of (decimal n) ≡ n = (decimal_is_IsNumeral n small).1 in
    let spelled : bytes_eq (decimal n) (decimal (value_of (decimal n))) ≡ true = (bytes_eq-Decides (decimal n) (decimal (value_of (decimal n)))).1 (ap decimal (sym value)) in
    let below : nat_lt (value_of (decimal n)) (2 ^ 64) ≡ true = lt-ltb (value_of (decimal n)) (2 ^ 64) (omega (arith, value, small)) in
    ap (λ (t : Bool). cond t (Some (value_of (decimal n))) None) (and_from (bytes_eq (decimal n) (decimal (value_of (decimal n)))) (nat_lt (value_of (decimal n)) (2 ^ 64)) spelled below) ∙ ap Some value

one-read : (a : ℕ) → a < 2 ^ 64 → numbers_of (map decimal (a ∷ [])) ≡ Some (One a)
one-read a small = ap (λ (x : Option ℕ). joined x (Some Zero)) (number-read a small)

two-read : (a b : ℕ) → a < 2 ^ 64 → b < 2 ^ 64 → numbers_of (map decimal (a ∷ b ∷ [])) ≡ Some (Two a b)
two-read a b sa sb = ap (λ (x : Option ℕ). joined x (numbers_of (map decimal (b ∷ [])))) (number-read a sa) ∙ ap (joined (Some a)) (one-read b sb)

three-read : (a b c : ℕ) → a < 2 ^ 64 → b < 2 ^ 64 → c < 2 ^ 64 → numbers_of (map decimal (a ∷ b ∷ c ∷ [])) ≡ Some (Three a b c)
three-read a b c sa sb sc = ap (λ (x : Option ℕ). joined x (numbers_of (map decimal (b ∷ c ∷ [])))) (number-read a sa) ∙ ap (joined (Some a)) (two-read b c sb sc)

-- ---- what a number may be

lane-read : (lanes : ℕ) (lane : Lane) → lane.0 < lanes → lane_of lanes lane.0 ≡ Some lane
lane-read lanes lane lt = ap (λ (t : Bool). cond t (Some lane) None) (lt-ltb lane.0 lanes lt)

steps-read : (n : ℕ) → IsCount n → steps_of n ≡ Some n
steps-read n h = ap (λ (t : Bool). cond t (Some n) None) (and_from (nat_le 1 n) (nat_le n MAX_STEPS) (le-leb 1 n h.least) (le-leb n MAX_STEPS h.greatest))

amount-read : (n : ℕ) → n ≤ MAX_AMOUNT → amount_of n ≡ Some n
amount-read n h = ap (λ (t : Bool). cond t (Some n) None) (le-leb n MAX_AMOUNT h)

-- ---- lines

by-fields : (lanes : ℕ) (word : List ℕ) (ns : List ℕ) (w : Option Word) (numbers : Option Numbers) → has_none word ≡ true → AreSmall ns → word_of word ≡ w → numbers_of (map decimal ns) ≡ numbers
    → event_of lanes (with_numbers word ns) ≡ event_with lanes w numbers
unfolding fields_of
by-fields lanes word ns w numbers clear small is are =
    ap (event_in lanes) (split-numbers word ns clear small) ∙ (ap (λ (x : Option Word). event_with lanes x (numbers_of (map decimal ns))) is ∙ ap (event_with lanes w) are)

-- each event is said by its line
pub each-read : (lanes : ℕ) (event : Event) → lanes ≤ MAX_LANES → Fits lanes event → event_of lanes (spell event) ≡ Some event
unfolding AreSmall has_none
each-read lanes (S lane times) few fits =
    let l : lane.0 < 2 ^ 64 = omega (arith, few, fits.0) in
    let t : times < 2 ^ 64 = omega (arith, fits.1.greatest) in
    by-fields lanes (codes "s") (lane.0 ∷ times ∷ []) (Some words.S) (Some (Two lane.0 times)) refl (l, (t, tt)) refl (two-read lane.0 times l t)
    ∙ (ap (λ (x : Option Lane). with_steps S x (steps_of times)) (lane-read lanes lane fits.0) ∙ ap (with_steps S (Some lane)) (steps-read times fits.1))
each-read lanes (R lane times) few fits =
    let l : lane.0 < 2 ^ 64 = omega (arith, few, fits.0) in
    let t : times < 2 ^ 64 = omega (arith, fits.1.greatest) in
    by-fields lanes (codes "r") (lane.0 ∷ times ∷ []) (Some words.R) (Some (Two lane.0 times)) refl (l, (t, tt)) refl (two-read lane.0 times l t)
    ∙ (ap (λ (x : Option Lane). with_steps R x (steps_of times)) (lane-read lanes lane fits.0) ∙ ap (with_steps R (Some lane)) (steps-read times fits.1))
each-read lanes (Cut lane down up) few fits =
    let l : lane.0 < 2 ^ 64 = omega (arith, few, fits.0) in
    let d : down < 2 ^ 64 = omega (arith, fits.1) in
    let u : up < 2 ^ 64 = omega (arith, fits.2) in
    by-fields lanes (codes "cut") (lane.0 ∷ down ∷ up ∷ []) (Some words.Cut) (Some (Three lane.0 down up)) refl (l, (d, (u, tt))) refl (three-read lane.0 down up l d u)
    ∙ (ap (λ (x : Option Lane). cut_of x (amount_of down) (amount_of up)) (lane-read lanes lane fits.0)
    ∙ (ap (λ (x : Option ℕ). cut_of (Some lane) x (amount_of up)) (amount-read down fits.1) ∙ ap (cut_of (Some lane) (Some down)) (amount-read up fits.2)))
each-read lanes (Deny lane) few fits =
    let l : lane.0 < 2 ^ 64 = omega (arith, few, fits) in
    by-fields lanes (codes "deny") (lane.0 ∷ []) (Some words.Deny) (Some (One lane.0)) refl (l, tt) refl (one-read lane.0 l) ∙ ap (on_lane Deny) (lane-read lanes lane fits)
each-read lanes (Refuse lane) few fits =
    let l : lane.0 < 2 ^ 64 = omega (arith, few, fits) in
    by-fields lanes (codes "refuse") (lane.0 ∷ []) (Some words.Refuse) (Some (One lane.0)) refl (l, tt) refl (one-read lane.0 l) ∙ ap (on_lane Refuse) (lane-read lanes lane fits)
each-read lanes (Stop calls pick) few fits =
    let c : calls < 2 ^ 64 = omega (arith, fits.0.greatest) in
    let p : pick < 2 ^ 64 = omega (arith, fits.1) in
    by-fields lanes (codes "stop") (calls ∷ pick ∷ []) (Some words.Stop) (Some (Two calls pick)) refl (c, (p, tt)) refl (two-read calls pick c p)
    ∙ (ap (λ (x : Option ℕ). stop_of x (amount_of pick)) (steps-read calls fits.0) ∙ ap (stop_of (Some calls)) (amount-read pick fits.1))
each-read lanes Settle few fits = by-fields lanes (codes "settle") [] (Some words.Settle) (Some Zero) refl tt refl refl
each-read lanes Resume few fits = by-fields lanes (codes "resume") [] (Some words.Resume) (Some Zero) refl tt refl refl
