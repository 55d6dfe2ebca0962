-- A set cut at a place: what stands before it, and what stands from it on.
use Rattle.std.proofs.Common.{◌≡◌, ℕ, zero, suc, ◌+◌, ◌-◌, ◌<◌, ◌≤◌, true, false, ◌||◌, nat_le, List, [], ◌∷◌, ◌++◌, length, map, take, drop, get_or, refl, sym, ap, ◌∙◌, arith, inl, inr, subst}
use Rattle.std.specs.List.{AllWithin}
use Rattle.std.specs.List.Sorted.{IsNonDecreasingBy}
use Rattle.std.proofs.lemmas.Bool.{leb-false, both_ways, or_from, and_left, and_right, and_from, cases_lt, leb-true, le-leb}
use Rattle.std.proofs.lemmas.List.{take-append-drop, drop_all, get_or-map, length-map}
use Rattle.std.proofs.lemmas.List.Folds.{list_any-append, list_any_at}
use Rattle.wdt_units.specs.Have.{PlainSpan, is_in}
use Rattle.wdt_ranges.specs.declared.ranges.Span.{Span}
use Rattle.wdt_ranges.specs.Spans.{plain_span, end_of, is_span, are_apart_from, are_apart, has}
use Rattle.wdt_ranges.specs.Adding.{HasNoneOf, IsFirstShared}
use Rattle.wdt_ranges.specs.Places.{least_behind, begins_from, IsPlace, HasRoom}
use Rattle.wdt_ranges.proofs.Apart.{IsWithin, span_parts, span_from, in_before, in_past, in_here, in_parts, apart_parts, apart_cons, has_before}

-- ---- the spans before a place

pub behind_rises : (least : ℕ) (ss : List PlainSpan) → are_apart_from least ss ≡ true → least ≤ least_behind least ss
behind_rises least [] h = omega arith
behind_rises least (s ∷ ss) h =
    let parts = apart_parts least s ss h in
    omega (arith, parts.low, behind_rises (end_of s + 1) ss parts.rest)

pub has_behind : (least x : ℕ) (ss : List PlainSpan) → are_apart_from least ss ≡ true → least_behind least ss ≤ x + 1 → has ss x ≡ false
has_behind least x [] h le = refl
has_behind least x (s ∷ ss) h le =
    let parts = apart_parts least s ss h in
    or_from (is_in x s) (has ss x) (in_past x s (omega (arith, behind_rises (end_of s + 1) ss parts.rest))) (has_behind (end_of s + 1) x ss parts.rest le)

behind_suc : (least : ℕ) (ss : List PlainSpan) (k : ℕ) (d : PlainSpan) → k < length ss → least_behind least (take (suc k) ss) ≡ end_of (get_or ss k d) + 1
behind_suc least [] k d h = absurd (omega arith)
behind_suc least (s ∷ ss) zero d h = refl
behind_suc least (s ∷ ss) (suc k) d h = behind_suc (end_of s + 1) ss k d (omega arith)

pub behind_last : (least : ℕ) (ss : List PlainSpan) (at : ℕ) (d : PlainSpan) → 0 < at → at ≤ length ss → least_behind least (take at ss) ≡ end_of (get_or ss (at - 1) d) + 1
behind_last least ss zero d some le = absurd (omega arith)
behind_last least ss (suc k) d some le =
    let e : k ≡ suc k - 1 = omega arith in
    behind_suc least ss k d (omega arith) ∙ ap (λ n. end_of (get_or ss n d) + 1) e

pub behind_at : (least : ℕ) (ss : List PlainSpan) (k : ℕ) (d : PlainSpan) → are_apart_from least ss ≡ true → k < length ss → least_behind least (take k ss) ≤ (get_or ss k d).offset
behind_at least [] k d h lt = absurd (omega arith)
behind_at least (s ∷ ss) zero d h lt = (apart_parts least s ss h).low
behind_at least (s ∷ ss) (suc k) d h lt = behind_at (end_of s + 1) ss k d (apart_parts least s ss h).rest (omega arith)

pub room_before : (ss : List PlainSpan) (at : ℕ) (d : PlainSpan) (offset : ℕ) → at ≤ length ss → (0 < at → end_of (get_or ss (at - 1) d) ≤ offset) → least_behind 0 (take at ss) ≤ offset + 1
room_before ss zero d offset within last = omega arith
room_before ss (suc k) d offset within last = omega (arith, behind_last 0 ss (suc k) d (omega arith) within, last (omega arith))

-- ---- the spans from a place on

pub begins_at : (least : ℕ) (ss : List PlainSpan) (k : ℕ) (d : PlainSpan) → k < length ss → begins_from least (drop k ss) ≡ nat_le least (get_or ss k d).offset
begins_at least [] k d h = absurd (omega arith)
begins_at least (s ∷ ss) zero d h = refl
begins_at least (s ∷ ss) (suc k) d h = begins_at least ss k d (omega arith)

pub begins_past : (least : ℕ) (ss : List PlainSpan) (k : ℕ) → length ss ≤ k → begins_from least (drop k ss) ≡ true
begins_past least ss k h = ap (begins_from least) (drop_all k ss h)

pub begins_here : (least : ℕ) (ss : List PlainSpan) (k : ℕ) (d : PlainSpan) → (k < length ss → least ≤ (get_or ss k d).offset) → begins_from least (drop k ss) ≡ true
begins_here least ss k d h = elim (cases_lt k (length ss)) [
  | inl lt ↦ begins_at least ss k d lt ∙ le-leb least (get_or ss k d).offset (h lt)
  | inr le ↦ begins_past least ss k le
]

pub begins_read : (least : ℕ) (ss : List PlainSpan) (k : ℕ) (d : PlainSpan) → k < length ss → begins_from least (drop k ss) ≡ true → least ≤ (get_or ss k d).offset
begins_read least ss k d lt h = leb-true least (get_or ss k d).offset (sym (begins_at least ss k d lt) ∙ h)

pub apart_higher : (low high : ℕ) (ss : List PlainSpan) → are_apart_from low ss ≡ true → begins_from high ss ≡ true → are_apart_from high ss ≡ true
apart_higher low high [] h b = refl
apart_higher low high (s ∷ ss) h b =
    let parts = apart_parts low s ss h in
    apart_cons high s ss (leb-true high s.offset b) (span_from s parts.span.some parts.span.limit) parts.rest

-- behind a span the next one begins later
pub next_begins : (ss : List PlainSpan) (k : ℕ) (d : PlainSpan) (end : ℕ) → are_apart ss ≡ true → k < length ss → end ≡ end_of (get_or ss k d) → begins_from (end + 1) (drop (k + 1) ss) ≡ true
next_begins ss k d end h lt e = begins_here (end + 1) ss (k + 1) d (λ more. omega (arith, e, next_at 0 ss k h more))
  where
    next_at : (least : ℕ) (ts : List PlainSpan) (i : ℕ) → are_apart_from least ts ≡ true → i + 1 < length ts → end_of (get_or ts i d) + 1 ≤ (get_or ts (i + 1) d).offset
    next_at least ts i a more = omega (arith, behind_at least ts (i + 1) d a more, behind_last least ts (i + 1) d (omega arith) (omega arith), ap (λ n. end_of (get_or ts n d)) (back i))
      where
        back : (n : ℕ) → n + 1 - 1 ≡ n
        back n = omega arith

-- ---- both parts

pub record IsCut (least : ℕ) (ss : List PlainSpan) (at : ℕ) : Type 0 where
  pub before : are_apart_from least (take at ss) ≡ true
  pub behind : are_apart_from (least_behind least (take at ss)) (drop at ss) ≡ true

pub apart_cut : (least : ℕ) (ss : List PlainSpan) (at : ℕ) → are_apart_from least ss ≡ true → IsCut least ss at
apart_cut least ss zero h = record { before = refl; behind = h }
apart_cut least [] (suc k) h = record { before = refl; behind = refl }
apart_cut least (s ∷ ss) (suc k) h =
    let parts = apart_parts least s ss h in
    let rest = apart_cut (end_of s + 1) ss k parts.rest in
    record {
      before = apart_cons least s (take k ss) parts.low (span_from s parts.span.some parts.span.limit) rest.before;
      behind = rest.behind;
    }

pub apart_append : (least : ℕ) (ss ts : List PlainSpan) → are_apart_from least ss ≡ true → are_apart_from (least_behind least ss) ts ≡ true → are_apart_from least (ss ++ ts) ≡ true
apart_append least [] ts h k = k
apart_append least (s ∷ ss) ts h k =
    let parts = apart_parts least s ss h in
    apart_cons least s (ss ++ ts) parts.low (span_from s parts.span.some parts.span.limit) (apart_append (end_of s + 1) ss ts parts.rest k)

pub has_parts : (ss : List PlainSpan) (at x : ℕ) → has ss x ≡ (has (take at ss) x || has (drop at ss) x)
has_parts ss at x = ap (λ ts. has ts x) (sym (take-append-drop at ss)) ∙ list_any-append (is_in x) (take at ss) (drop at ss)

-- a position behind what stands before a place and before what stands from it on isn't in the set
pub has_neither : (ss : List PlainSpan) (at least x : ℕ) → are_apart ss ≡ true → least_behind 0 (take at ss) ≤ x + 1 → begins_from least (drop at ss) ≡ true → x < least → has ss x ≡ false
has_neither ss at least x h low high lt =
    let cut = apart_cut 0 ss at h in
    has_parts ss at x ∙ or_from (has (take at ss) x) (has (drop at ss) x)
    (has_behind 0 x (take at ss) cut.before low)
    (has_before least x (drop at ss) (apart_higher (least_behind 0 (take at ss)) least (drop at ss) cut.behind high) lt)

-- ---- the span that is added

-- where the span before a place ends, or 0 where none is before it
pub record IsEndBefore (ss : List PlainSpan) (at end : ℕ) : Type 0 where
  pub none : at ≡ 0 → end ≡ 0
  pub last : (d : PlainSpan) → 0 < at → end ≡ end_of (get_or ss (at - 1) d)

abbrev pub nothing : PlainSpan
nothing = record { offset = 0; count = 0 }

pub none_shared : (ss : List PlainSpan) (at : ℕ) (s : PlainSpan) → are_apart ss ≡ true → HasRoom ss at s → HasNoneOf ss s
none_shared ss at s h room x = elim (cases_lt x s.offset) [
  | inl lt ↦ and_right (has ss x) (is_in x s) (in_before x s lt)
  | inr le ↦ elim (cases_lt x (end_of s)) [
    | inl lt ↦ and_left (has ss x) (is_in x s) (has_neither ss at (end_of s) x h (omega (arith, room.before)) room.behind lt)
    | inr past ↦ and_right (has ss x) (is_in x s) (in_past x s past)
  ]
]

pub shared_before : (ss : List PlainSpan) (at end : ℕ) (s : PlainSpan) → is_span s ≡ true → IsPlace ss s.offset at → IsEndBefore ss at end → s.offset < end → IsFirstShared ss s s.offset
shared_before ss at end s span place last lt = record {
  here = and_from (has ss s.offset) (is_in s.offset s)
      (list_any_at (is_in s.offset) ss (at - 1) nothing (omega (arith, place.within, some)) (in_here s.offset (get_or ss (at - 1) nothing) (place.before nothing some) (omega (arith, last.last nothing some))))
      (in_here s.offset s (omega arith) (omega (arith, (span_parts s span).some)));
  before = λ x below. and_right (has ss x) (is_in x s) (in_before x s below);
}
  where
    some : 0 < at
    some = elim (cases_lt 0 at) [ inl lt ↦ lt | inr le ↦ absurd (omega (arith, last.none (omega arith))) ]

pub shared_behind : (ss : List PlainSpan) (at : ℕ) (s d : PlainSpan) → are_apart ss ≡ true → IsPlace ss s.offset at → least_behind 0 (take at ss) ≤ s.offset + 1 → at < length ss
    → (get_or ss at d).offset < end_of s → 0 < (get_or ss at d).count → IsFirstShared ss s (get_or ss at d).offset
shared_behind ss at s d h place low within lt some = record {
  here = and_from (has ss q.offset) (is_in q.offset s)
      (list_any_at (is_in q.offset) ss at d within (in_here q.offset q (omega arith) (omega (arith, some))))
      (in_here q.offset s (omega (arith, later)) lt);
  before = λ x below. elim (cases_lt x s.offset) [
    | inl early ↦ and_right (has ss x) (is_in x s) (in_before x s early)
    | inr le ↦ and_left (has ss x) (is_in x s) (has_neither ss at q.offset x h (omega (arith, low)) (begins_here q.offset ss at d (λ k. omega arith)) below)
  ];
}
  where
    q : PlainSpan
    q = get_or ss at d

    later : s.offset + 1 ≤ (get_or ss at d).offset
    later = begins_read (s.offset + 1) ss at d within place.behind

-- ---- a span that is covered

pub covered_at : (ss : List PlainSpan) (at end : ℕ) (s : PlainSpan) → is_span s ≡ true → IsPlace ss s.offset at → IsEndBefore ss at end → end_of s ≤ end → (x : ℕ) → is_in x s ≡ true → has ss x ≡ true
covered_at ss at end s span place before le x within = elim (cases_lt 0 at) [
  | inl some ↦
      list_any_at (is_in x) ss (at - 1) nothing (omega (arith, place.within))
      (in_here x (get_or ss (at - 1) nothing) (omega (arith, place.before nothing some, inside.low)) (omega (arith, before.last nothing some, inside.high)))
  | inr none ↦ absurd (omega (arith, before.none (omega arith), (span_parts s span).some))
]
  where
    inside : IsWithin x s
    inside = in_parts x s within

pub not_covered : (ss : List PlainSpan) (at end : ℕ) (s : PlainSpan) → are_apart ss ≡ true → is_span s ≡ true → IsPlace ss s.offset at → IsEndBefore ss at end → end < end_of s
    → ((x : ℕ) → is_in x s ≡ true → has ss x ≡ true) → ⊥
not_covered ss at end s h span place before lt all = elim (cases_lt end (s.offset + 1)) [
  | inl early ↦
      both_ways (has ss s.offset) (has_neither ss at (s.offset + 1) s.offset h (room_before ss at nothing s.offset place.within (λ some. omega (arith, before.last nothing some))) place.behind (omega arith))
      (all s.offset (in_here s.offset s (omega arith) (omega (arith, (span_parts s span).some))))
  | inr late ↦
      both_ways (has ss end) (has_neither ss at (end + 1) end h (room_before ss at nothing end place.within (λ some. omega (arith, before.last nothing some))) (behind late) (omega arith))
      (all end (in_here end s (omega (arith, late)) lt))
]
  where
    behind : s.offset + 1 ≤ end → begins_from (end + 1) (drop at ss) ≡ true
    behind late = elim (cases_lt 0 at) [
      | inl some ↦ begins_here (end + 1) ss at nothing (λ k. omega (arith, before.last nothing some, behind_last 0 ss at nothing some place.within, behind_at 0 ss at nothing h k))
      | inr none ↦ absurd (omega (arith, before.none (omega arith)))
    ]

-- spans of a set begin in their order
pub plain_rise : (least : ℕ) (ss : List PlainSpan) (i j : ℕ) (d : PlainSpan) → are_apart_from least ss ≡ true → i ≤ j → j < length ss → (get_or ss i d).offset ≤ (get_or ss j d).offset
plain_rise least [] i j d h le lt = absurd (omega arith)
plain_rise least (s ∷ ss) zero zero d h le lt = omega arith
plain_rise least (s ∷ ss) (suc i) zero d h le lt = absurd (omega arith)
plain_rise least (s ∷ ss) zero (suc j) d h le lt = omega (arith, begins_later (end_of s + 1) ss j (apart_parts least s ss h).rest (omega arith))
  where
    begins_later : (least : ℕ) (ts : List PlainSpan) (k : ℕ) → are_apart_from least ts ≡ true → k < length ts → least ≤ (get_or ts k d).offset
    begins_later least [] k h lt = absurd (omega arith)
    begins_later least (t ∷ ts) zero h lt = (apart_parts least t ts h).low
    begins_later least (t ∷ ts) (suc k) h lt =
        let parts = apart_parts least t ts h in
        omega (arith, parts.low, begins_later (end_of t + 1) ts k parts.rest (omega arith))
plain_rise least (s ∷ ss) (suc i) (suc j) d h le lt = plain_rise (end_of s + 1) ss i j d (apart_parts least s ss h).rest (omega arith) (omega arith)

-- ---- spans of the code

abbrev pub blank : Span
blank = record { offset = 0; length = 0 }

pub plain_at : (xs : List Span) (k : ℕ) (d : Span) → k < length xs → get_or (map plain_span xs) k (plain_span d) ≡ plain_span (get_or xs k d)
plain_at xs k d h = get_or-map plain_span xs k d (plain_span d) h

pub plain_length : (xs : List Span) → length (map plain_span xs) ≡ length xs
plain_length xs = length-map xs plain_span

pub offsets_rise : (xs : List Span) → are_apart (map plain_span xs) ≡ true → IsNonDecreasingBy (λ (s : Span). s.offset) xs
offsets_rise xs h i j d le lt =
    omega (
      arith,
      plain_rise 0 (map plain_span xs) i j (plain_span d) h le (omega (arith, plain_length xs)),
      ap (λ (s : PlainSpan). s.offset) (plain_at xs i d (omega arith)),
      ap (λ (s : PlainSpan). s.offset) (plain_at xs j d lt),
    )

pub place_from : (xs : List Span) (offset at : ℕ) → at ≤ length xs → AllWithin (λ (s : Span). nat_le s.offset offset ≡ true) xs 0 at → AllWithin (λ (s : Span). nat_le s.offset offset ≡ false) xs at (length xs)
    → IsPlace (map plain_span xs) offset at
place_from xs offset at within early late = record {
  within = omega (arith, plain_length xs);
  before = λ d some. subst (λ (s : PlainSpan). s.offset ≤ offset) (sym (get_or-map plain_span xs (at - 1) blank d (omega arith))) (leb-true _ offset (early (at - 1) blank (omega arith) (omega arith)));
  behind = begins_here (offset + 1) (map plain_span xs) at (plain_span blank) (λ lt.
      let short : at < length xs = omega (arith, plain_length xs) in
      subst (λ (s : PlainSpan). offset + 1 ≤ s.offset) (sym (plain_at xs at blank short)) (omega (arith, leb-false _ offset (late at blank (omega arith) short))));
}
