-- The gaps of a set are apart, and have the positions that the set lacks.
use Rattle.std.proofs.Common.{◌≡◌, ℕ, ◌+◌, ◌-◌, ◌<◌, ◌≤◌, ◌^◌, min, Bool, true, false, not, ◌&&◌, ◌||◌, nat_lt, nat_le, List, [], ◌∷◌, ◌++◌, refl, sym, ap, ◌∙◌, arith, inl, inr, subst}
use Rattle.std.proofs.lemmas.Bool.{cases_Bool, cond-true, cond-false, ltb-true, ltb-false, le-leb}
use Rattle.std.proofs.lemmas.Bool.Decides.{nat_tests}
use Rattle.std.proofs.lemmas.List.Folds.{list_any-append}
use Rattle.wdt_units.specs.Have.{PlainSpan, is_in}
use Rattle.wdt_ranges.specs.Spans.{end_of, are_apart_from, are_apart, has, span_between, gaps_from, gaps_of}
use Rattle.wdt_ranges.proofs.Apart.{span_from, apart_parts, apart_cons, apart_lower, has_before}

-- ---- one gap

between_spans : (least end : ℕ) (ss : List PlainSpan) → end ≤ 2 ^ 40 → are_apart_from (end + 1) ss ≡ true → are_apart_from least ss ≡ true → are_apart_from least (span_between least end ++ ss) ≡ true
between_spans least end ss limit past from = elim (cases_Bool (nat_lt least end)) [
  | inl some ↦
      let lt : least < end = ltb-true least end some in
      let gap : PlainSpan = record { offset = least; count = end - least } in
      let here : are_apart_from least (gap ∷ ss) ≡ true = apart_cons least gap ss (omega arith) (span_from gap (omega arith) (omega arith)) (subst (λ n. are_apart_from (n + 1) ss ≡ true) (omega arith) past) in
      subst (λ gs. are_apart_from least (gs ++ ss) ≡ true) (sym (cond-true (nat_lt least end) (gap ∷ []) [] some)) here
  | inr none ↦
      subst (λ gs. are_apart_from least (gs ++ ss) ≡ true) (sym (cond-false (nat_lt least end) (record { offset = least; count = end - least } ∷ []) [] none)) from
]

between_has : (least end x : ℕ) → has (span_between least end) x ≡ (nat_le least x && nat_lt x end)
between_has least end x = elim (cases_Bool (nat_lt least end)) [
  | inl some ↦
      let lt : least < end = ltb-true least end some in
      ap (λ gs. has gs x) (cond-true (nat_lt least end) (record { offset = least; count = end - least } ∷ []) [] some) ∙ one lt
  | inr none ↦
      let le : end ≤ least = ltb-false least end none in
      ap (λ gs. has gs x) (cond-false (nat_lt least end) (record { offset = least; count = end - least } ∷ []) [] none) ∙ grind (arith, nat_tests)
]
  where
    one : least < end → ((nat_le least x && nat_lt x (least + (end - least))) || false) ≡ (nat_le least x && nat_lt x end)
    one lt = grind (arith, nat_tests)

-- ---- all gaps

pub gaps_apart : (least size : ℕ) (ss : List PlainSpan) → size ≤ 2 ^ 40 → are_apart_from least ss ≡ true → are_apart_from least (gaps_from least size ss) ≡ true
gaps_apart least size [] limit h = elim (cases_Bool (nat_lt least size)) [
  | inl some ↦
      let lt : least < size = ltb-true least size some in
      let gap : PlainSpan = record { offset = least; count = size - least } in
      subst (λ gs. are_apart_from least gs ≡ true) (sym (cond-true (nat_lt least size) (gap ∷ []) [] some))
      (apart_cons least gap [] (omega arith) (span_from gap (omega arith) (omega arith)) refl)
  | inr none ↦ subst (λ gs. are_apart_from least gs ≡ true) (sym (cond-false (nat_lt least size) (record { offset = least; count = size - least } ∷ []) [] none)) refl
]
gaps_apart least size (s ∷ ss) limit h =
    let parts = apart_parts least s ss h in
    let rest : are_apart_from (end_of s) (gaps_from (end_of s) size ss) ≡ true = gaps_apart (end_of s) size ss limit (apart_lower (end_of s) (end_of s + 1) ss (omega arith) parts.rest) in
    between_spans least (min s.offset size) (gaps_from (end_of s) size ss) (omega arith)
    (apart_lower (min s.offset size + 1) (end_of s) (gaps_from (end_of s) size ss) (omega (arith, parts.span.some)) rest)
    (apart_lower least (end_of s) (gaps_from (end_of s) size ss) (omega arith) rest)

pub gaps_have : (least size x : ℕ) (ss : List PlainSpan) → are_apart_from least ss ≡ true → has (gaps_from least size ss) x ≡ (nat_le least x && nat_lt x size && not (has ss x))
gaps_have least size x [] h = between_has least size x ∙ last (nat_le least x && nat_lt x size)
  where
    last : (b : Bool) → b ≡ (b && not false)
    last true = refl
    last false = refl
gaps_have least size x (s ∷ ss) h =
    list_any-append (is_in x) (span_between least (min s.offset size)) (gaps_from (end_of s) size ss)
    ∙ ap (λ b. b || has (gaps_from (end_of s) size ss) x) (between_has least (min s.offset size) x)
    ∙ ap (λ b. (nat_le least x && nat_lt x (min s.offset size)) || b) (gaps_have (end_of s) size x ss (apart_lower (end_of s) (end_of s + 1) ss (omega arith) (apart_parts least s ss h).rest))
    ∙ step (has ss x) (λ lt. has_before (end_of s + 1) x ss (apart_parts least s ss h).rest (omega arith))
  where
    step : (rest : Bool) → (x < end_of s → rest ≡ false)
        → ((nat_le least x && nat_lt x (min s.offset size)) || (nat_le (end_of s) x && nat_lt x size && not rest)) ≡ (nat_le least x && nat_lt x size && not (is_in x s || rest))
    step rest before = grind (arith, nat_tests, (apart_parts least s ss h).low, (apart_parts least s ss h).span.some)

pub gaps_lack : (size x : ℕ) (ss : List PlainSpan) → are_apart ss ≡ true → has (gaps_of ss size) x ≡ (nat_lt x size && not (has ss x))
gaps_lack size x ss h = gaps_have 0 size x ss h ∙ ap (λ b. b && nat_lt x size && not (has ss x)) (le-leb 0 x (omega arith))
