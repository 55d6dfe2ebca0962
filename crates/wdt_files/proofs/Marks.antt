-- What the marks of named files say of a number, and the first position that spans have in common with another.
use Rattle.std.proofs.Common.{◌≡◌, ◌⊎◌, inl, inr, ℕ, zero, suc, ◌+◌, ◌^◌, ◌<◌, ◌≤◌, Bool, true, false, ◌&&◌, ◌||◌, nat_lt, nat_le, List, [], ◌∷◌, map, sum_by, slice_get, Option, Some, None, refl, sym, ap, ◌∙◌, arith}
use Rattle.std.specs.Prelude.{◌==◌, if◌then◌else◌, max, min, IfSome, IfNone}
use Rattle.std.specs.List.{list_any}
use Rattle.std.proofs.lemmas.Bool.{and_from, and_parts, cases_lt, eq-eqb, ne_eqb, or_from, or_left, or_right, both_ways, ltb-true, lt-ltb, le-leb, false_from_ne_true}
use Rattle.std.proofs.lemmas.List.Sums.{sum_by-cons}
use Rattle.wdt_units.specs.Have.{HaveFile, PlainSpan, is_in}
use Rattle.wdt_ranges.specs.Adding.{HasNoneOf, IsFirstShared, is_shared}
use Rattle.wdt_ranges.specs.Spans.{are_apart, are_apart_from, end_of, has, is_span}
use Rattle.wdt_ranges.proofs.ForCallers.{apart_parts, in_parts, in_past, span_parts}
use Rattle.wdt_logfmt.specs.Adding.{overlap}
use Rattle.wdt_logfmt.specs.Beginning.{first_in_both, first_shared, least_position}
use Rattle.wdt_logfmt.specs.Marks.{byte_count, is_marked, marked_of, span_count, spans_at}
use Rattle.wdt_logfmt.specs.View.{NamedFile, bytes_in, is_numbered, spans_in}
use Rattle.wdt_files.specs.Slots.{named_from}
use Rattle.wdt_files.proofs.Named.{IsUnnamed}

-- ---- the marks of a number

pub marked : (fs : List NamedFile) (n : ℕ) → is_marked (map marked_of fs) n ≡ list_any (is_numbered n) fs
marked [] n = refl
marked (f ∷ fs) n = ap (λ b. f.number == n || b) (marked fs n)

spans_below : (haves : List (Option HaveFile)) (first n : ℕ) → n < first → spans_at (map marked_of (named_from first haves)) n ≡ []
spans_below [] first n lt = refl
spans_below (None ∷ haves) first n lt = spans_below haves (first + 1) n (omega arith)
spans_below (Some h ∷ haves) first n lt = rw (ne_eqb first n (λ e. omega arith)) (spans_below haves (first + 1) n (omega arith))

pub spans_there : (haves : List (Option HaveFile)) (first i n : ℕ) (h : HaveFile) → n ≡ first + i → slice_get haves i ≡ Some (Some h) → spans_at (map marked_of (named_from first haves)) n ≡ h.spans
spans_there [] first i n h at here = absurd (cc)
spans_there (None ∷ haves) first zero n h at here = absurd (cc)
spans_there (Some g ∷ haves) first zero n h at here =
    let same : g ≡ h = cc in
    rw (eq-eqb first n (omega arith)) (ap (λ (k : HaveFile). k.spans) same)
spans_there (None ∷ haves) first (suc i) n h at here = spans_there haves (first + 1) i n h (omega arith) here
spans_there (Some g ∷ haves) first (suc i) n h at here = rw (ne_eqb first n (λ e. omega arith)) (spans_there haves (first + 1) i n h (omega arith) here)

pub spans_unnamed : (haves : List (Option HaveFile)) (first i n : ℕ) → n ≡ first + i → IsUnnamed haves i → spans_at (map marked_of (named_from first haves)) n ≡ []
spans_unnamed [] first i n at free = refl
spans_unnamed (None ∷ haves) first zero n at free = spans_below haves (first + 1) n (omega arith)
spans_unnamed (Some g ∷ haves) first zero n at free = absurd (free g refl)
spans_unnamed (None ∷ haves) first (suc i) n at free = spans_unnamed haves (first + 1) i n (omega arith) free
spans_unnamed (Some g ∷ haves) first (suc i) n at free = rw (ne_eqb first n (λ e. omega arith)) (spans_unnamed haves (first + 1) i n (omega arith) free)

-- ---- sums

pub spans_summed : (fs : List NamedFile) → sum_by span_count (map marked_of fs) ≡ sum_by spans_in fs
spans_summed [] = refl
spans_summed (f ∷ fs) = omega (arith, sum_by-cons span_count (marked_of f) (map marked_of fs), sum_by-cons spans_in f fs, spans_summed fs)

pub bytes_summed : (fs : List NamedFile) → sum_by byte_count (map marked_of fs) ≡ sum_by bytes_in fs
bytes_summed [] = refl
bytes_summed (f ∷ fs) = omega (arith, sum_by-cons byte_count (marked_of f) (map marked_of fs), sum_by-cons bytes_in f fs, bytes_summed fs)

-- ---- the first shared position

-- the first number that passes a test, or none
abbrev pub IsFirst : (ℕ → Bool) → Option ℕ → Type 0
IsFirst p None = (k : ℕ) → p k ≡ false
IsFirst p (Some q) = (p q ≡ true) × ((k : ℕ) → k < q → p k ≡ false)

first_along : (p r : ℕ → Bool) (o : Option ℕ) → ((k : ℕ) → p k ≡ r k) → IsFirst p o → IsFirst r o
first_along p r None same first = λ k. sym (same k) ∙ first k
first_along p r (Some q) same first = (sym (same q) ∙ first.0, λ k lt. sym (same k) ∙ first.1 k lt)

first_of_two : (p r : ℕ → Bool) (x y : Option ℕ) → IsFirst p x → IsFirst r y → IsFirst (λ k. p k || r k) (least_position x y)
first_of_two p r None None f g = λ k. or_from (p k) (r k) (f k) (g k)
first_of_two p r None (Some b) f g = (or_right (p b) (r b) g.0, λ k lt. or_from (p k) (r k) (f k) (g.1 k lt))
first_of_two p r (Some a) None f g = (or_left (p a) (r a) f.0, λ k lt. or_from (p k) (r k) (f.1 k lt) (g k))
first_of_two p r (Some a) (Some b) f g = (here (cases_lt a b), λ k lt. or_from (p k) (r k) (f.1 k (omega arith)) (g.1 k (omega arith)))
  where
    here : (a < b) ⊎ (b ≤ a) → (p (min a b) || r (min a b)) ≡ true
    here (inl lt) = (let e : min a b ≡ a = omega arith in or_left (p (min a b)) (r (min a b)) (ap p e ∙ f.0))
    here (inr le) = (let e : min a b ≡ b = omega arith in or_right (p (min a b)) (r (min a b)) (ap r e ∙ g.0))

in_span : (k : ℕ) (s : PlainSpan) → s.offset ≤ k → k < end_of s → is_in k s ≡ true
in_span k s low high = and_from (nat_le s.offset k) (nat_lt k (end_of s)) (le-leb s.offset k low) (lt-ltb k (end_of s) high)

first_in_one : (s t : PlainSpan) → 0 < s.count → 0 < t.count → IsFirst (λ k. is_in k t && is_in k s) (first_in_both s t)
first_in_one s t some full = go (overlap s t) refl
  where
    least : ℕ
    least = max s.offset t.offset

    apart : overlap s t ≡ false → (k : ℕ) → (is_in k t && is_in k s) ≡ false
    apart none k = false_from_ne_true (is_in k t && is_in k s) (λ h.
        let p = and_parts (is_in k t) (is_in k s) h in
        let q = in_parts k t p.0 in
        let r = in_parts k s p.1 in
        both_ways (overlap s t) none (and_from (nat_lt s.offset (end_of t)) (nat_lt t.offset (end_of s)) (lt-ltb s.offset (end_of t) (omega (arith, q.high, r.low))) (lt-ltb t.offset (end_of s) (omega (arith, q.low, r.high)))))

    before : (k : ℕ) → k < max s.offset t.offset → (is_in k t && is_in k s) ≡ false
    before k lt = false_from_ne_true (is_in k t && is_in k s) (λ h.
        let p = and_parts (is_in k t) (is_in k s) h in
        omega (arith, lt, (in_parts k t p.0).low, (in_parts k s p.1).low))

    go : (b : Bool) → overlap s t ≡ b → IsFirst (λ k. is_in k t && is_in k s) (if b then Some (max s.offset t.offset) else None)
    go true e =
        let q = and_parts (nat_lt s.offset (end_of t)) (nat_lt t.offset (end_of s)) e in
        let low = ltb-true s.offset (end_of t) q.0 in
        let high = ltb-true t.offset (end_of s) q.1 in (
          and_from (is_in (max s.offset t.offset) t) (is_in (max s.offset t.offset) s)
              (in_span (max s.offset t.offset) t (omega arith) (omega (arith, low, full)))
              (in_span (max s.offset t.offset) s (omega arith) (omega (arith, high, some))),
          before,
        )
    go false e = apart e

shared_apart : (a b c : Bool) → ((a && c) || (b && c)) ≡ ((a || b) && c)
shared_apart true true true = refl
shared_apart true true false = refl
shared_apart true false true = refl
shared_apart true false false = refl
shared_apart false b c = refl

-- what is computed is the first position that is shared
first_in : (ts : List PlainSpan) (s : PlainSpan) (least : ℕ) → 0 < s.count → are_apart_from least ts ≡ true → IsFirst (λ k. is_shared ts s k) (first_shared ts s)
first_in [] s least some apart = λ k. refl
first_in (t ∷ ts) s least some apart =
    let p = apart_parts least t ts apart in
    first_along (λ k. (is_in k t && is_in k s) || is_shared ts s k) (λ k. is_shared (t ∷ ts) s k) (first_shared (t ∷ ts) s) (λ k. shared_apart (is_in k t) (has ts k) (is_in k s))
    (first_of_two (λ k. is_in k t && is_in k s) (λ k. is_shared ts s k) (first_in_both s t) (first_shared ts s) (first_in_one s t some p.span.some) (first_in ts s (end_of t + 1) some p.rest))

first_once : (p : ℕ → Bool) (x y : Option ℕ) → IsFirst p x → IsFirst p y → x ≡ y
first_once p None None f g = refl
first_once p None (Some b) f g = absurd (both_ways (p b) (f b) g.0)
first_once p (Some a) None f g = absurd (both_ways (p a) (g a) f.0)
first_once p (Some a) (Some b) f g = elim (cases_lt a b) [
  | inl lt ↦ absurd (both_ways (p a) (g.1 a lt) f.0)
  | inr le ↦ elim (cases_lt b a) [
    | inl lt ↦ absurd (both_ways (p b) (f.1 b lt) g.0)
    | inr more ↦ (let e : a ≡ b = omega arith in ap Some e)
  ]
]

pub first_found : (ts : List PlainSpan) (s : PlainSpan) (o : Option ℕ) → is_span s ≡ true → are_apart ts ≡ true → IfSome o (IsFirstShared ts s) → IfNone o (HasNoneOf ts s) → o ≡ first_shared ts s
first_found ts s o span apart some none = first_once (λ k. is_shared ts s k) o (first_shared ts s) (go o some none) (first_in ts s 0 (span_parts s span).some apart)
  where
    go : (o : Option ℕ) → IfSome o (IsFirstShared ts s) → IfNone o (HasNoneOf ts s) → IsFirst (λ k. is_shared ts s k) o
    go None some none = none
    go (Some q) some none = (some.here, some.before)

-- no position from 2^40 on is in a set
pub has_past : (ss : List PlainSpan) (x least : ℕ) → 2 ^ 40 ≤ x → are_apart_from least ss ≡ true → has ss x ≡ false
has_past [] x least high apart = refl
has_past (s ∷ ss) x least high apart =
    let p = apart_parts least s ss apart in
    or_from (is_in x s) (has ss x) (in_past x s (omega (arith, p.span.limit))) (has_past ss x (end_of s + 1) high p.rest)
