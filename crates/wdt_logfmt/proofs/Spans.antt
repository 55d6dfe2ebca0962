-- A set of positions with one more span.
use Rattle.std.proofs.Common.{◌≡◌, ◌⊎◌, inl, inr, ℕ, ◌+◌, ◌<◌, ◌≤◌, Bool, true, false, ◌&&◌, ◌||◌, nat_lt, nat_le, List, [], ◌∷◌, length, refl, sym, ap, ◌∙◌, arith}
use Rattle.std.specs.List.{list_all, list_any}
use Rattle.std.proofs.lemmas.Bool.{and_parts, and_cases, and_right, or_parts, or_cases, or_left, or_right, or_from, ltb-true, leb-true, ltb-false, lt-ltb, le-ltb, le-leb, cases_lt, both_ways, false_from_ne_true, and_from}
use Rattle.wdt_units.specs.Have.{PlainSpan, is_in}
use Rattle.std.proofs.lemmas.List.Sums.{sum_by-cons}
use Rattle.wdt_ranges.specs.Spans.{count_of, end_of, is_span, are_apart_from, are_apart, has, total_of}
use Rattle.wdt_ranges.specs.Adding.{is_shared, HasNoneOf}
use Rattle.wdt_ranges.proofs.ForCallers.{IsSpanOf, span_parts, span_from, in_past, in_here, in_parts, apart_parts, apart_cons, apart_lower, has_before}
use Rattle.wdt_logfmt.specs.View.{ends_within}
use Rattle.wdt_logfmt.specs.Adding.{overlap, joined, with_span}

pub same_test : (a b : Bool) → (a ≡ true → b ≡ true) → (b ≡ true → a ≡ true) → a ≡ b
same_test true b f g = sym (f refl)
same_test false true f g = g refl
same_test false false f g = refl

-- ---- a set is one list

begins : (s : PlainSpan) (ss : List PlainSpan) (least : ℕ) → are_apart_from least (s ∷ ss) ≡ true → are_apart_from s.offset (s ∷ ss) ≡ true
begins s ss least h =
    let p = apart_parts least s ss h in
    apart_cons s.offset s ss (omega arith) (span_from s p.span.some p.span.limit) p.rest

begins_here : (s : PlainSpan) (ss : List PlainSpan) (least : ℕ) → are_apart_from least (s ∷ ss) ≡ true → has (s ∷ ss) s.offset ≡ true
begins_here s ss least h =
    let p = apart_parts least s ss h in
    or_left (is_in s.offset s) (has ss s.offset) (in_here s.offset s (omega arith) (omega (arith, p.span.some)))

offset_le : (l m : ℕ) (s t : PlainSpan) (ss ts : List PlainSpan) → are_apart_from l (s ∷ ss) ≡ true → are_apart_from m (t ∷ ts) ≡ true → ((x : ℕ) → has (s ∷ ss) x ≡ has (t ∷ ts) x) → t.offset ≤ s.offset
offset_le l m s t ss ts a b same = elim (cases_lt s.offset t.offset) [
  | inl lt ↦ absurd (both_ways (has (t ∷ ts) s.offset) (has_before t.offset s.offset (t ∷ ts) (begins t ts m b) lt) (sym (same s.offset) ∙ begins_here s ss l a))
  | inr le ↦ le
]

end_le : (l m : ℕ) (s t : PlainSpan) (ss ts : List PlainSpan) → are_apart_from l (s ∷ ss) ≡ true → are_apart_from m (t ∷ ts) ≡ true → ((x : ℕ) → has (s ∷ ss) x ≡ has (t ∷ ts) x) → s.offset ≡ t.offset → end_of t ≤ end_of s
end_le l m s t ss ts a b same at = elim (cases_lt (end_of s) (end_of t)) [
  | inl lt ↦
      let p = apart_parts l s ss a in
      let out : has (s ∷ ss) (end_of s) ≡ false = or_from (is_in (end_of s) s) (has ss (end_of s)) (in_past (end_of s) s (omega arith)) (has_before (end_of s + 1) (end_of s) ss p.rest (omega arith)) in
      let within : has (t ∷ ts) (end_of s) ≡ true = or_left (is_in (end_of s) t) (has ts (end_of s)) (in_here (end_of s) t (omega arith) lt) in
      absurd (both_ways (has (t ∷ ts) (end_of s)) (sym (same (end_of s)) ∙ out) within)
  | inr le ↦ le
]

same_span : (s t : PlainSpan) → s.offset ≡ t.offset → s.count ≡ t.count → s ≡ t
same_span s t p q = (λ i. record { offset = p i; count = q i })

rest_same : (s t : PlainSpan) (ss ts : List PlainSpan) → s ≡ t → are_apart_from (end_of s + 1) ss ≡ true → are_apart_from (end_of t + 1) ts ≡ true → ((x : ℕ) → has (s ∷ ss) x ≡ has (t ∷ ts) x) → (x : ℕ) → has ss x ≡ has ts x
rest_same s t ss ts is a b same x = elim (cases_lt x (end_of s)) [
  | inl lt ↦
      let e : end_of s ≡ end_of t = ap end_of is in
      has_before (end_of s + 1) x ss a (omega arith) ∙ sym (has_before (end_of t + 1) x ts b (omega (arith, e)))
  | inr le ↦
      let e : end_of s ≡ end_of t = ap end_of is in
      sym (ap (λ y. y || has ss x) (in_past x s le)) ∙ same x ∙ ap (λ y. y || has ts x) (in_past x t (omega (arith, e)))
]

-- two lists of spans that have the same positions are the same
pub once : (l m : ℕ) (ss ts : List PlainSpan) → are_apart_from l ss ≡ true → are_apart_from m ts ≡ true → ((x : ℕ) → has ss x ≡ has ts x) → ss ≡ ts
once l m [] [] a b same = refl
once l m [] (t ∷ ts) a b same = absurd (both_ways (has (t ∷ ts) t.offset) (sym (same t.offset)) (begins_here t ts m b))
once l m (s ∷ ss) [] a b same = absurd (both_ways (has (s ∷ ss) s.offset) (same s.offset) (begins_here s ss l a))
once l m (s ∷ ss) (t ∷ ts) a b same =
    let p = apart_parts l s ss a in
    let q = apart_parts m t ts b in
    let back : (x : ℕ) → has (t ∷ ts) x ≡ has (s ∷ ss) x = λ x. sym (same x) in
    let low : t.offset ≤ s.offset = offset_le l m s t ss ts a b same in
    let high : s.offset ≤ t.offset = offset_le m l t s ts ss b a back in
    let at : s.offset ≡ t.offset = omega arith in
    let one : end_of t ≤ end_of s = end_le l m s t ss ts a b same at in
    let two : end_of s ≤ end_of t = end_le m l t s ts ss b a back (sym at) in
    let is : s ≡ t = same_span s t at (omega arith) in
    let rest : ss ≡ ts = once (end_of s + 1) (end_of t + 1) ss ts p.rest q.rest (rest_same s t ss ts is p.rest q.rest same) in (λ i. is i ∷ rest i)

-- ---- two spans that touch

Touch : PlainSpan → PlainSpan → Type 0
Touch s t = (end_of t ≡ s.offset) ⊎ (end_of s ≡ t.offset)

touch : (s t : PlainSpan) → overlap s t ≡ false → s.offset ≤ end_of t → t.offset ≤ end_of s → Touch s t
unfolding Touch
touch s t none a b = elim (and_cases (nat_lt s.offset (end_of t)) (nat_lt t.offset (end_of s)) none) [
  | inl h ↦ let le = ltb-false s.offset (end_of t) h in inl (omega arith)
  | inr h ↦ let le = ltb-false t.offset (end_of s) h in inr (omega arith)
]

in_joined : (s t : PlainSpan) (x : ℕ) → Touch s t → is_in x (joined s t) ≡ (is_in x s || is_in x t)
unfolding Touch
in_joined s t x touches = same_test (is_in x (joined s t)) (is_in x s || is_in x t) (there touches) (back touches)
  where
    there : Touch s t → is_in x (joined s t) ≡ true → (is_in x s || is_in x t) ≡ true
    there (inl at) h =
        let p = in_parts x (joined s t) h in
        elim (cases_lt x (end_of t)) [
          | inl lt ↦ or_right (is_in x s) (is_in x t) (in_here x t (omega (arith, p.low)) lt)
          | inr le ↦ or_left (is_in x s) (is_in x t) (in_here x s (omega arith) (omega (arith, p.high)))
        ]
    there (inr at) h =
        let p = in_parts x (joined s t) h in
        elim (cases_lt x (end_of s)) [
          | inl lt ↦ or_left (is_in x s) (is_in x t) (in_here x s (omega (arith, p.low)) lt)
          | inr le ↦ or_right (is_in x s) (is_in x t) (in_here x t (omega arith) (omega (arith, p.high)))
        ]

    back : Touch s t → (is_in x s || is_in x t) ≡ true → is_in x (joined s t) ≡ true
    back (inl at) h = elim (or_cases (is_in x s) (is_in x t) h) [
      | inl a ↦ let p = in_parts x s a in in_here x (joined s t) (omega (arith, p.low)) (omega (arith, p.high))
      | inr b ↦ let p = in_parts x t b in in_here x (joined s t) (omega (arith, p.low)) (omega (arith, p.high))
    ]
    back (inr at) h = elim (or_cases (is_in x s) (is_in x t) h) [
      | inl a ↦ let p = in_parts x s a in in_here x (joined s t) (omega (arith, p.low)) (omega (arith, p.high))
      | inr b ↦ let p = in_parts x t b in in_here x (joined s t) (omega (arith, p.low)) (omega (arith, p.high))
    ]

span_joined : (s t : PlainSpan) → is_span s ≡ true → IsSpanOf t → Touch s t → is_span (joined s t) ≡ true
unfolding Touch
span_joined s t a q (inl at) = let p = span_parts s a in span_from (joined s t) (omega (arith, p.some)) (omega (arith, p.limit))
span_joined s t a q (inr at) = let p = span_parts s a in span_from (joined s t) (omega (arith, p.some)) (omega (arith, q.limit))

-- what overlaps neither of two spans, and begins behind the second, doesn't overlap both as one
none_joined : (s t : PlainSpan) (least : ℕ) (us : List PlainSpan) → Touch s t → end_of t ≤ least → are_apart_from least us ≡ true → list_any (overlap s) us ≡ false → list_any (overlap (joined s t)) us ≡ false
unfolding Touch
none_joined s t least [] touches behind h none = refl
none_joined s t least (u ∷ us) touches behind h none =
    let p = apart_parts least u us h in
    let n = or_parts (overlap s u) (list_any (overlap s) us) none in
    or_from (overlap (joined s t) u) (list_any (overlap (joined s t)) us) (past touches p.low p.span.some n.0) (none_joined s t (end_of u + 1) us touches (omega (arith, p.low)) p.rest n.1)
  where
    past : Touch s t → least ≤ u.offset → 0 < u.count → overlap s u ≡ false → overlap (joined s t) u ≡ false
    past (inl at) low some apart = elim (and_cases (nat_lt s.offset (end_of u)) (nat_lt u.offset (end_of s)) apart) [
      | inl a ↦ let le = ltb-false s.offset (end_of u) a in absurd (omega arith)
      | inr b ↦ let le = ltb-false u.offset (end_of s) b in and_right (nat_lt (joined s t).offset (end_of u)) (nat_lt u.offset (end_of (joined s t))) (le-ltb u.offset (end_of (joined s t)) (omega arith))
    ]
    past (inr at) low some apart = and_right (nat_lt (joined s t).offset (end_of u)) (nat_lt u.offset (end_of (joined s t))) (le-ltb u.offset (end_of (joined s t)) (omega arith))

-- ---- one more span

pub with_apart : (least : ℕ) (s : PlainSpan) (ts : List PlainSpan) → least ≤ s.offset → is_span s ≡ true → are_apart_from least ts ≡ true → list_any (overlap s) ts ≡ false → are_apart_from least (with_span s ts) ≡ true
with_apart least s [] low span h none = apart_cons least s [] low span refl
with_apart least s (t ∷ ts) low span h none =
    let p = apart_parts least t ts h in
    let t_span : is_span t ≡ true = span_from t p.span.some p.span.limit in
    let n = or_parts (overlap s t) (list_any (overlap s) ts) none in
    elim (cases_lt (end_of t) s.offset) [
      | inl lt ↦ rw (lt-ltb (end_of t) s.offset lt) (apart_cons least t (with_span s ts) p.low t_span (with_apart (end_of t + 1) s ts (omega arith) span p.rest n.1))
      | inr le ↦ rw (le-ltb (end_of t) s.offset le) (elim (cases_lt (end_of s) t.offset) [
        | inl lt ↦ rw (lt-ltb (end_of s) t.offset lt) (apart_cons least s (t ∷ ts) low span (apart_cons (end_of s + 1) t ts (omega arith) t_span p.rest))
        | inr more ↦
            let touches : Touch s t = touch s t n.0 le more in
            rw (le-ltb (end_of s) t.offset more) (with_apart least (joined s t) ts (omega (arith, p.low)) (span_joined s t span p.span touches) (apart_lower least (end_of t + 1) ts (omega (arith, p.low)) p.rest) (none_joined s t (end_of t + 1) ts touches (omega arith) p.rest n.1))
      ])
    ]

end_joined : (size : ℕ) (s t : PlainSpan) → Touch s t → end_of s ≤ size → end_of t ≤ size → end_of (joined s t) ≤ size
unfolding Touch
end_joined size s t (inl at) a b = omega arith
end_joined size s t (inr at) a b = omega arith

pub with_ends : (size least : ℕ) (s : PlainSpan) (ts : List PlainSpan) → end_of s ≤ size → list_all (ends_within size) ts ≡ true → is_span s ≡ true → are_apart_from least ts ≡ true → list_any (overlap s) ts ≡ false
    → list_all (ends_within size) (with_span s ts) ≡ true
with_ends size least s [] le all span h none = and_from (nat_le (end_of s) size) true (le-leb (end_of s) size le) refl
with_ends size least s (t ∷ ts) le all span h none =
    let p = apart_parts least t ts h in
    let a = and_parts (nat_le (end_of t) size) (list_all (ends_within size) ts) all in
    let n = or_parts (overlap s t) (list_any (overlap s) ts) none in
    elim (cases_lt (end_of t) s.offset) [
      | inl lt ↦ rw (lt-ltb (end_of t) s.offset lt) (and_from (nat_le (end_of t) size) (list_all (ends_within size) (with_span s ts)) a.0 (with_ends size (end_of t + 1) s ts le a.1 span p.rest n.1))
      | inr more ↦ rw (le-ltb (end_of t) s.offset more) (elim (cases_lt (end_of s) t.offset) [
        | inl lt ↦ rw (lt-ltb (end_of s) t.offset lt) (and_from (nat_le (end_of s) size) (nat_le (end_of t) size && list_all (ends_within size) ts) (le-leb (end_of s) size le) all)
        | inr far ↦
            let touches : Touch s t = touch s t n.0 more far in
            rw (le-ltb (end_of s) t.offset far) (with_ends size (end_of t + 1) (joined s t) ts (end_joined size s t touches le (leb-true (end_of t) size a.0)) a.1 (span_joined s t span p.span touches) p.rest (none_joined s t (end_of t + 1) ts touches (omega arith) p.rest n.1))
      ])
    ]

or_last : (a : Bool) → (a || false) ≡ a
or_last true = refl
or_last false = refl

or_moved : (a b c : Bool) → (a || (b || c)) ≡ ((a || b) || c)
or_moved true b c = refl
or_moved false b c = refl

or_around : (a b c : Bool) → (a || (b || c)) ≡ ((b || c) || a)
or_around true true c = refl
or_around true false true = refl
or_around true false false = refl
or_around false b c = sym (or_last (b || c))

or_turned : (a b c : Bool) → (a || (b || c)) ≡ ((c || a) || b)
or_turned true b true = refl
or_turned true b false = refl
or_turned false true true = refl
or_turned false true false = refl
or_turned false false true = refl
or_turned false false false = refl

pub with_has : (least : ℕ) (s : PlainSpan) (ts : List PlainSpan) (x : ℕ) → are_apart_from least ts ≡ true → is_span s ≡ true → list_any (overlap s) ts ≡ false → has (with_span s ts) x ≡ (has ts x || is_in x s)
with_has least s [] x h span none = or_last (is_in x s)
with_has least s (t ∷ ts) x h span none =
    let p = apart_parts least t ts h in
    let n = or_parts (overlap s t) (list_any (overlap s) ts) none in
    elim (cases_lt (end_of t) s.offset) [
      | inl lt ↦ rw (lt-ltb (end_of t) s.offset lt) (ap (λ y. is_in x t || y) (with_has (end_of t + 1) s ts x p.rest span n.1) ∙ or_moved (is_in x t) (has ts x) (is_in x s))
      | inr le ↦ rw (le-ltb (end_of t) s.offset le) (elim (cases_lt (end_of s) t.offset) [
        | inl lt ↦ rw (lt-ltb (end_of s) t.offset lt) (or_around (is_in x s) (is_in x t) (has ts x))
        | inr more ↦
            let touches : Touch s t = touch s t n.0 le more in
            rw (le-ltb (end_of s) t.offset more) (
            with_has (end_of t + 1) (joined s t) ts x p.rest (span_joined s t span p.span touches) (none_joined s t (end_of t + 1) ts touches (omega arith) p.rest n.1)
            ∙ ap (λ y. has ts x || y) (in_joined s t x touches) ∙ or_turned (has ts x) (is_in x s) (is_in x t)
            )
      ])
    ]

-- ---- what a set says of a span

pub none_overlap : (least : ℕ) (s : PlainSpan) (ts : List PlainSpan) → is_span s ≡ true → are_apart_from least ts ≡ true → HasNoneOf ts s → list_any (overlap s) ts ≡ false
none_overlap least s [] span h none = refl
none_overlap least s (t ∷ ts) span h none =
    let p = apart_parts least t ts h in
    or_from (overlap s t) (list_any (overlap s) ts) (false_from_ne_true (overlap s t) (λ e. both p.span e))
    (none_overlap (end_of t + 1) s ts span p.rest (λ x. rest x (none x)))
  where
    both : IsSpanOf t → overlap s t ≡ true → ⊥
    both q e =
        let p = span_parts s span in
        let o = and_parts (nat_lt s.offset (end_of t)) (nat_lt t.offset (end_of s)) e in
        let a = ltb-true s.offset (end_of t) o.0 in
        let b = ltb-true t.offset (end_of s) o.1 in
        elim (cases_lt s.offset t.offset) [
          | inl lt ↦ both_ways (is_shared (t ∷ ts) s t.offset) (none t.offset) (and_from (has (t ∷ ts) t.offset) (is_in t.offset s) (or_left (is_in t.offset t) (has ts t.offset) (in_here t.offset t (omega arith) (omega (arith, q.some)))) (in_here t.offset s (omega arith) b))
          | inr le ↦ both_ways (is_shared (t ∷ ts) s s.offset) (none s.offset) (and_from (has (t ∷ ts) s.offset) (is_in s.offset s) (or_left (is_in s.offset t) (has ts s.offset) (in_here s.offset t le a)) (in_here s.offset s (omega arith) (omega (arith, p.some))))
        ]

    rest : (x : ℕ) → is_shared (t ∷ ts) s x ≡ false → is_shared ts s x ≡ false
    rest x e = false_from_ne_true (is_shared ts s x) (λ h.
        let q = and_parts (has ts x) (is_in x s) h in
        both_ways (is_shared (t ∷ ts) s x) e (and_from (has (t ∷ ts) x) (is_in x s) (or_right (is_in x t) (has ts x) q.0) q.1))

pub some_overlap : (s : PlainSpan) (ts : List PlainSpan) (x : ℕ) → is_in x s ≡ true → has ts x ≡ true → list_any (overlap s) ts ≡ true
some_overlap s [] x a h = absurd (both_ways false refl h)
some_overlap s (t ∷ ts) x a h = elim (or_cases (is_in x t) (has ts x) h) [
  | inl b ↦
      let p = in_parts x s a in
      let q = in_parts x t b in
      or_left (overlap s t) (list_any (overlap s) ts) (and_from (nat_lt s.offset (end_of t)) (nat_lt t.offset (end_of s)) (lt-ltb s.offset (end_of t) (omega (arith, p.low, q.high))) (lt-ltb t.offset (end_of s) (omega (arith, p.high, q.low))))
  | inr c ↦ or_right (overlap s t) (list_any (overlap s) ts) (some_overlap s ts x a c)
]

-- the set that has a span's positions, too
pub with_span-is : (old new : List PlainSpan) (s : PlainSpan) → are_apart old ≡ true → are_apart new ≡ true → is_span s ≡ true → HasNoneOf old s → ((x : ℕ) → has new x ≡ (has old x || is_in x s)) → new ≡ with_span s old
with_span-is old new s a b span none same =
    let n = none_overlap 0 s old span a none in
    once 0 0 new (with_span s old) b (with_apart 0 s old (omega arith) span a n) (λ x. same x ∙ sym (with_has 0 s old x a span n))

pub length-with_span : (s : PlainSpan) (ts : List PlainSpan) → length (with_span s ts) ≤ length ts + 1
length-with_span s [] = omega arith
length-with_span s (t ∷ ts) = elim (cases_lt (end_of t) s.offset) [
  | inl lt ↦ rw (lt-ltb (end_of t) s.offset lt) (omega (arith, length-with_span s ts))
  | inr le ↦ rw (le-ltb (end_of t) s.offset le) (elim (cases_lt (end_of s) t.offset) [
    | inl lt ↦ rw (lt-ltb (end_of s) t.offset lt) (omega arith)
    | inr more ↦ rw (le-ltb (end_of s) t.offset more) (omega (arith, length-with_span (joined s t) ts))
  ])
]

pub total-with_span : (s : PlainSpan) (ts : List PlainSpan) → total_of (with_span s ts) ≡ total_of ts + s.count
total-with_span s [] = omega (arith, sum_by-cons count_of s [])
total-with_span s (t ∷ ts) = elim (cases_lt (end_of t) s.offset) [
  | inl lt ↦ rw (lt-ltb (end_of t) s.offset lt) (omega (arith, sum_by-cons count_of t (with_span s ts), sum_by-cons count_of t ts, total-with_span s ts))
  | inr le ↦ rw (le-ltb (end_of t) s.offset le) (elim (cases_lt (end_of s) t.offset) [
    | inl lt ↦ rw (lt-ltb (end_of s) t.offset lt) (omega (arith, sum_by-cons count_of s (t ∷ ts), sum_by-cons count_of t ts))
    | inr more ↦ rw (le-ltb (end_of s) t.offset more) (omega (arith, total-with_span (joined s t) ts, sum_by-cons count_of t ts))
  ])
]
