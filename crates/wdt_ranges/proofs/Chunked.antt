-- Spans in chunks: where a chunk's spans stand among all, and what an edit of one chunk does to them.
use Rattle.std.proofs.Common.{◌≡◌, ℕ, zero, suc, ◌+◌, ◌-◌, ◌<◌, ◌≤◌, Bool, true, false, List, [], ◌∷◌, ◌++◌, length, set, take, drop, get_or, map, refl, sym, ap, ◌∙◌, arith, subst, zero-add, add-zero, inl, inr, Result, Ok, Err, OnOk, OnErr}
use Rattle.std.specs.List.{list_all}
use Rattle.std.proofs.lemmas.Bool.{and_parts, and_from, cases_lt, leb-true, le-leb}
use Rattle.std.proofs.lemmas.List.{append_assoc, length-append, length-drop, length-map, length-take-le, get_or-set_same, get_or-set_other, take-append-le, drop-append-le, drop_at, get_or_append_left, get_or-append-add, get_or_read, set-get_or, get_or_default, get_or_past, take-append-drop, get_or-map}
use Rattle.std.specs.List.Sorted.{IsNonDecreasingBy}
use Rattle.wdt_units.specs.Have.{PlainSpan}
use Rattle.wdt_ranges.specs.declared.ranges.Span.{Span}
use Rattle.wdt_ranges.specs.Spans.{plain_span, end_of, are_apart, are_apart_from}
use Rattle.wdt_ranges.specs.Places.{begins_from, IsPlace}
use Rattle.wdt_ranges.proofs.Apart.{apart_parts, apart_cons, apart_lower, span_from}
use Rattle.wdt_ranges.proofs.Parts.{nothing, plain_rise, begins_here, begins_read}
use Rattle.wdt_ranges.specs.Chunks.{all_of, is_filled, are_filled, begin_of, count_before, chunk_at, halved, place_of, IsNext, IsSpot}
use Rattle.wdt_ranges.specs.declared.chunks.Spot.{Spot}

-- ---- lists

take_over : {A : Type 0} (xs ys : List A) (n : ℕ) → take (length xs + n) (xs ++ ys) ≡ xs ++ take n ys
take_over [] ys n = ap (λ k. take k ys) (zero-add n)
take_over (x ∷ xs) ys n =
    let e : length (x ∷ xs) + n ≡ suc (length xs + n) = omega arith in
    ap (λ k. take k (x ∷ (xs ++ ys))) e ∙ ap (λ zs. x ∷ zs) (take_over xs ys n)

drop_over : {A : Type 0} (xs ys : List A) (n : ℕ) → drop (length xs + n) (xs ++ ys) ≡ drop n ys
drop_over [] ys n = ap (λ k. drop k ys) (zero-add n)
drop_over (x ∷ xs) ys n =
    let e : length (x ∷ xs) + n ≡ suc (length xs + n) = omega arith in
    ap (λ k. drop k (x ∷ (xs ++ ys))) e ∙ drop_over xs ys n

-- ---- places

pub count_suc : (cs : List (List PlainSpan)) (k : ℕ) → k < length cs → count_before cs (suc k) ≡ count_before cs k + length (chunk_at cs k)
count_suc [] k lt = absurd (omega arith)
count_suc (c ∷ []) zero lt = omega arith
count_suc (c ∷ (d ∷ cs)) zero lt = omega arith
count_suc (c ∷ cs) (suc k) lt = omega (arith, count_suc cs k (omega arith))

pub count_past : (cs : List (List PlainSpan)) (k : ℕ) → length cs ≤ k → count_before cs k ≡ length (all_of cs)
count_past [] k le = refl
count_past (c ∷ cs) zero le = absurd (omega arith)
count_past (c ∷ cs) (suc k) le = ap (λ n. length c + n) (count_past cs k (omega arith)) ∙ sym (length-append c (all_of cs))

pub count_within : (cs : List (List PlainSpan)) (k : ℕ) → k < length cs → count_before cs k + length (chunk_at cs k) ≤ length (all_of cs)
count_within [] k lt = absurd (omega arith)
count_within (c ∷ cs) zero lt = omega (arith, length-append c (all_of cs))
count_within (c ∷ cs) (suc k) lt = omega (arith, length-append c (all_of cs), count_within cs k (omega arith))

pub count_rises : (cs : List (List PlainSpan)) (i j : ℕ) → i ≤ j → count_before cs i ≤ count_before cs j
count_rises [] i j le = omega arith
count_rises (c ∷ cs) zero j le = omega arith
count_rises (c ∷ cs) (suc i) zero le = absurd (omega arith)
count_rises (c ∷ cs) (suc i) (suc j) le = omega (arith, count_rises cs i j (omega arith))

pub get_in : (cs : List (List PlainSpan)) (k i : ℕ) (d : PlainSpan) → k < length cs → i < length (chunk_at cs k) → get_or (all_of cs) (count_before cs k + i) d ≡ get_or (chunk_at cs k) i d
get_in [] k i d lt within = absurd (omega arith)
get_in (c ∷ cs) zero i d lt within = ap (λ n. get_or (c ++ all_of cs) n d) (zero-add i) ∙ get_or_append_left c (all_of cs) d i within
get_in (c ∷ cs) (suc k) i d lt within =
    let e : length c + count_before cs k + i ≡ length c + (count_before cs k + i) = omega arith in
    ap (λ n. get_or (c ++ all_of cs) n d) e ∙ get_or-append-add c (all_of cs) (count_before cs k + i) d ∙ get_in cs k i d (omega arith) within

-- ---- chunks that aren't empty

pub filled_some : (c : List PlainSpan) → 0 < length c → is_filled c ≡ true
filled_some [] lt = absurd (omega arith)
filled_some (s ∷ ss) lt = refl

filled_length : (c : List PlainSpan) → is_filled c ≡ true → 0 < length c
filled_length [] h = absurd (cc)
filled_length (s ∷ ss) h = omega arith

pub filled_middle : (ss ts : List PlainSpan) (s : PlainSpan) → is_filled (ss ++ s ∷ ts) ≡ true
filled_middle [] ts s = refl
filled_middle (r ∷ ss) ts s = refl

pub filled_at : (cs : List (List PlainSpan)) (k : ℕ) → are_filled cs ≡ true → k < length cs → 0 < length (chunk_at cs k)
filled_at [] k h lt = absurd (omega arith)
filled_at (c ∷ cs) zero h lt = filled_length c (and_parts (is_filled c) (are_filled cs) h).0
filled_at (c ∷ cs) (suc k) h lt = filled_at cs k (and_parts (is_filled c) (are_filled cs) h).1 (omega arith)

pub filled_set : (cs : List (List PlainSpan)) (k : ℕ) (new : List PlainSpan) → are_filled cs ≡ true → is_filled new ≡ true → are_filled (set cs k new) ≡ true
filled_set [] k new h some = refl
filled_set (c ∷ cs) zero new h some = and_from (is_filled new) (are_filled cs) some (and_parts (is_filled c) (are_filled cs) h).1
filled_set (c ∷ cs) (suc k) new h some =
    let parts = and_parts (is_filled c) (are_filled cs) h in
    and_from (is_filled c) (are_filled (set cs k new)) parts.0 (filled_set cs k new parts.1 some)

pub filled_removed : (cs : List (List PlainSpan)) (k : ℕ) → are_filled cs ≡ true → are_filled (take k cs ++ drop (suc k) cs) ≡ true
filled_removed [] zero h = refl
filled_removed [] (suc k) h = refl
filled_removed (c ∷ cs) zero h = (and_parts (is_filled c) (are_filled cs) h).1
filled_removed (c ∷ cs) (suc k) h =
    let parts = and_parts (is_filled c) (are_filled cs) h in
    and_from (is_filled c) (are_filled (take k cs ++ drop (suc k) cs)) parts.0 (filled_removed cs k parts.1)

pub filled_more : (cs : List (List PlainSpan)) (new : List PlainSpan) → are_filled cs ≡ true → is_filled new ≡ true → are_filled (cs ++ new ∷ []) ≡ true
filled_more [] new h some = and_from (is_filled new) true some refl
filled_more (c ∷ cs) new h some =
    let parts = and_parts (is_filled c) (are_filled cs) h in
    and_from (is_filled c) (are_filled (cs ++ new ∷ [])) parts.0 (filled_more cs new parts.1 some)

-- ---- one chunk edited

-- spans of a chunk are replaced by others
pub edit_at : (cs : List (List PlainSpan)) (k i j : ℕ) (new : List PlainSpan) → k < length cs → i ≤ length (chunk_at cs k) → j ≤ length (chunk_at cs k)
    → all_of (set cs k (take i (chunk_at cs k) ++ (new ++ drop j (chunk_at cs k)))) ≡ take (count_before cs k + i) (all_of cs) ++ (new ++ drop (count_before cs k + j) (all_of cs))
edit_at [] k i j new lt from to = absurd (omega arith)
edit_at (c ∷ cs) zero i j new lt from to =
    append_assoc (take i c) (new ++ drop j c) (all_of cs)
    ∙ ap (λ w. take i c ++ w) (append_assoc new (drop j c) (all_of cs))
    ∙ ap (λ w. w ++ (new ++ (drop j c ++ all_of cs))) (sym (take-append-le i c (all_of cs) from) ∙ ap (λ n. take n (c ++ all_of cs)) (sym (zero-add i)))
    ∙ ap (λ w. take (0 + i) (c ++ all_of cs) ++ (new ++ w)) (sym (drop-append-le j c (all_of cs) to) ∙ ap (λ n. drop n (c ++ all_of cs)) (sym (zero-add j)))
edit_at (c ∷ cs) (suc k) i j new lt from to =
    ap (λ w. c ++ w) (edit_at cs k i j new (omega arith) from to)
    ∙ sym (append_assoc c (take (count_before cs k + i) (all_of cs)) (new ++ drop (count_before cs k + j) (all_of cs)))
    ∙ ap (λ w. w ++ (new ++ drop (count_before cs k + j) (all_of cs))) (sym (take_over c (all_of cs) (count_before cs k + i)) ∙ ap (λ n. take n (c ++ all_of cs)) (omega arith))
    ∙ ap (λ w. take (length c + count_before cs k + i) (c ++ all_of cs) ++ (new ++ w)) (sym (drop_over c (all_of cs) (count_before cs k + j)) ∙ ap (λ n. drop n (c ++ all_of cs)) (omega arith))

pub count_set : (cs : List (List PlainSpan)) (k m : ℕ) (new : List PlainSpan) → m ≤ k → count_before (set cs k new) m ≡ count_before cs m
count_set [] k m new le = refl
count_set (c ∷ cs) zero zero new le = refl
count_set (c ∷ cs) (suc k) zero new le = refl
count_set (c ∷ cs) zero (suc m) new le = absurd (omega arith)
count_set (c ∷ cs) (suc k) (suc m) new le = ap (λ n. length c + n) (count_set cs k m new (omega arith))

-- ---- one chunk removed

pub all_removed : (cs : List (List PlainSpan)) (k : ℕ) → k < length cs → all_of (take k cs ++ drop (suc k) cs) ≡ take (count_before cs k) (all_of cs) ++ drop (count_before cs k + length (chunk_at cs k)) (all_of cs)
all_removed [] k lt = absurd (omega arith)
all_removed (c ∷ cs) zero lt = sym (drop_at c (all_of cs) (0 + length c) (omega arith))
all_removed (c ∷ cs) (suc k) lt =
    ap (λ w. c ++ w) (all_removed cs k (omega arith))
    ∙ sym (append_assoc c (take (count_before cs k) (all_of cs)) (drop (count_before cs k + length (chunk_at cs k)) (all_of cs)))
    ∙ ap (λ w. w ++ drop (count_before cs k + length (chunk_at cs k)) (all_of cs)) (sym (take_over c (all_of cs) (count_before cs k)))
    ∙ ap (λ w. take (length c + count_before cs k) (c ++ all_of cs) ++ w) (sym (drop_over c (all_of cs) (count_before cs k + length (chunk_at cs k))) ∙ ap (λ n. drop n (c ++ all_of cs)) (omega arith))

pub count_removed : (cs : List (List PlainSpan)) (k m : ℕ) → m ≤ k → k < length cs → count_before (take k cs ++ drop (suc k) cs) m ≡ count_before cs m
count_removed [] k m le lt = absurd (omega arith)
count_removed (c ∷ []) zero zero le lt = refl
count_removed (c ∷ (d ∷ cs)) zero zero le lt = refl
count_removed (c ∷ cs) (suc k) zero le lt = refl
count_removed (c ∷ cs) zero (suc m) le lt = absurd (omega arith)
count_removed (c ∷ cs) (suc k) (suc m) le lt = ap (λ n. length c + n) (count_removed cs k m (omega arith) (omega arith))

-- ---- two chunks in the place of one

pub halved_by : (cs : List (List PlainSpan)) (k : ℕ) (low high : List PlainSpan) → k < length cs → set (take (suc k) cs ++ high ∷ drop (suc k) cs) k low ≡ take k cs ++ (low ∷ (high ∷ drop (suc k) cs))
halved_by [] k low high lt = absurd (omega arith)
halved_by (c ∷ cs) zero low high lt = refl
halved_by (c ∷ cs) (suc k) low high lt = ap (λ xs. c ∷ xs) (halved_by cs k low high (omega arith))

-- how the chunks stand afterwards
pub record IsHalved (cs : List (List PlainSpan)) (k half : ℕ) : Type 0 where
  pub all : all_of (halved cs k half) ≡ all_of cs
  pub size : length (halved cs k half) ≡ suc (length cs)
  pub count : count_before (halved cs k half) k ≡ count_before cs k
  pub low : chunk_at (halved cs k half) k ≡ take half (chunk_at cs k)
  pub next : count_before (halved cs k half) (suc k) ≡ count_before cs k + length (take half (chunk_at cs k))
  pub high : chunk_at (halved cs k half) (suc k) ≡ drop half (chunk_at cs k)

pub halved_is : (cs : List (List PlainSpan)) (k half : ℕ) → k < length cs → IsHalved cs k half
halved_is [] k half lt = absurd (omega arith)
halved_is (c ∷ cs) zero half lt = record {
  all = sym (append_assoc (take half c) (drop half c) (all_of cs)) ∙ ap (λ w. w ++ all_of cs) (take-append-drop half c);
  size = refl;
  count = refl;
  low = refl;
  next = omega arith;
  high = refl;
}
halved_is (c ∷ cs) (suc k) half lt =
    let rest = halved_is cs k half (omega arith) in
    record {
      all = ap (λ w. c ++ w) rest.all;
      size = ap suc rest.size;
      count = ap (λ n. length c + n) rest.count;
      low = rest.low;
      next = omega (arith, rest.next);
      high = rest.high;
    }

pub filled_halved : (cs : List (List PlainSpan)) (k half : ℕ) → are_filled cs ≡ true → k < length cs → is_filled (take half (chunk_at cs k)) ≡ true → is_filled (drop half (chunk_at cs k)) ≡ true → are_filled (halved cs k half) ≡ true
filled_halved [] k half h lt low high = absurd (omega arith)
filled_halved (c ∷ cs) zero half h lt low high =
    and_from (is_filled (take half c)) (are_filled (drop half c ∷ cs)) low (and_from (is_filled (drop half c)) (are_filled cs) high (and_parts (is_filled c) (are_filled cs) h).1)
filled_halved (c ∷ cs) (suc k) half h lt low high =
    let parts = and_parts (is_filled c) (are_filled cs) h in
    and_from (is_filled c) (are_filled (halved cs k half)) parts.0 (filled_halved cs k half parts.1 (omega arith) low high)

-- a chunk put in behind another leaves that one
pub inserted_here : (cs : List (List PlainSpan)) (k : ℕ) (new d : List PlainSpan) → k < length cs → get_or (take (suc k) cs ++ new ∷ drop (suc k) cs) k d ≡ chunk_at cs k
inserted_here [] k new d lt = absurd (omega arith)
inserted_here (c ∷ cs) zero new d lt = refl
inserted_here (c ∷ cs) (suc k) new d lt = inserted_here cs k new d (omega arith)

-- ---- chunks of the code

-- a chunk that was read is that of its place
pub read_chunk : (cs : List (List PlainSpan)) (k : ℕ) (x : List PlainSpan) → k < length cs → x ≡ get_or cs k x → x ≡ chunk_at cs k
read_chunk cs k x lt e = get_or_read cs k x lt e []

-- a span that was read of a chunk
pub span_in : (cs : List (List PlainSpan)) (k i : ℕ) (xs : List Span) (d : PlainSpan) (e : Span) → k < length cs → map plain_span xs ≡ chunk_at cs k → i < length xs → get_or (all_of cs) (count_before cs k + i) d ≡ plain_span (get_or xs i e)
span_in cs k i xs d e lt same within =
    get_in cs k i d lt (omega (arith, ap length same, length-map xs plain_span)) ∙ ap (λ ss. get_or ss i d) (sym same) ∙ get_or-map plain_span xs i e d within

-- a chunk that was read, edited and put back
pub edited : (cs : List (List PlainSpan)) (k i j from to : ℕ) (new x y : List PlainSpan) → k < length cs → x ≡ get_or cs k x → i ≤ length x → j ≤ length x → y ≡ take i x ++ (new ++ drop j x) → from ≡ count_before cs k + i → to ≡ count_before cs k + j
    → all_of (set cs k y) ≡ take from (all_of cs) ++ (new ++ drop to (all_of cs))
edited cs k i j from to new x y lt read low high e first last =
    ap (λ w. all_of (set cs k w)) (e ∙ ap (λ w. take i w ++ (new ++ drop j w)) same)
    ∙ edit_at cs k i j new lt (omega (arith, ap length same)) (omega (arith, ap length same))
    ∙ ap (λ n. take n (all_of cs) ++ (new ++ drop (count_before cs k + j) (all_of cs))) (sym first)
    ∙ ap (λ n. take from (all_of cs) ++ (new ++ drop n (all_of cs))) (sym last)
  where
    same : x ≡ chunk_at cs k
    same = read_chunk cs k x lt read

pub filled_edited : (cs : List (List PlainSpan)) (k : ℕ) (ss ts y : List PlainSpan) (s : PlainSpan) → are_filled cs ≡ true → y ≡ ss ++ s ∷ ts → are_filled (set cs k y) ≡ true
filled_edited cs k ss ts y s h e = filled_set cs k y h (ap is_filled e ∙ filled_middle ss ts s)

-- a spot behind a span lies in a chunk
pub spot_chunk : (cs : List (List PlainSpan)) (spot : Spot) → IsSpot cs spot → 0 < spot.at → spot.chunk < length cs
spot_chunk cs spot is some = elim (cases_lt spot.chunk (length cs)) [
  | inl lt ↦ lt
  | inr le ↦ absurd (omega (arith, is.at, some, ap length (get_or_past cs spot.chunk [] le)))
]

-- where a span stands behind a spot, the next spot lies in a chunk
pub next_chunk : (cs : List (List PlainSpan)) (spot next : Spot) → IsNext cs spot next → place_of cs spot < length (all_of cs) → next.chunk < length cs
next_chunk cs spot next is there = elim (cases_lt next.chunk (length cs)) [
  | inl lt ↦ lt
  | inr le ↦ absurd (omega (arith, there, is.past (omega (arith, is.chunk))))
]

-- ---- the spot of an offset

-- the first spans of chunks rise
pub begin_is : (cs : List (List PlainSpan)) (k : ℕ) (d : PlainSpan) → k < length cs → 0 < length (chunk_at cs k) → begin_of (chunk_at cs k) ≡ (get_or (all_of cs) (count_before cs k) d).offset
begin_is cs k d lt some =
    begin_first (chunk_at cs k) d some ∙ ap (λ (s : PlainSpan). s.offset) (sym (get_in cs k 0 d lt some)) ∙ ap (λ n. (get_or (all_of cs) n d).offset) (add-zero (count_before cs k))
  where
    begin_first : (c : List PlainSpan) (d : PlainSpan) → 0 < length c → begin_of c ≡ (get_or c 0 d).offset
    begin_first [] d some = absurd (omega arith)
    begin_first (s ∷ ss) d some = refl

pub begins_rise : (cs : List (List PlainSpan)) (i j : ℕ) → are_apart (all_of cs) ≡ true → are_filled cs ≡ true → i ≤ j → j < length cs → begin_of (chunk_at cs i) ≤ begin_of (chunk_at cs j)
begins_rise cs i j h filled le lt =
    omega (
      arith,
      begin_is cs i nothing (omega arith) (filled_at cs i filled (omega arith)),
      begin_is cs j nothing lt (filled_at cs j filled lt),
      plain_rise 0 (all_of cs) (count_before cs i) (count_before cs j) nothing h (count_rises cs i j le) (omega (arith, count_within cs j lt, filled_at cs j filled lt)),
    )

pub chunk_rise : (cs : List (List PlainSpan)) → are_apart (all_of cs) ≡ true → are_filled cs ≡ true → IsNonDecreasingBy begin_of cs
chunk_rise cs h filled i j d le lt =
    omega (
      arith,
      begins_rise cs i j h filled le lt,
      ap begin_of (get_or_default cs i [] d (omega (arith, le, lt))),
      ap begin_of (get_or_default cs j [] d lt),
    )

-- a place in a chunk that begins at the offset or earlier is behind its first span
pub behind_first : (cs : List (List PlainSpan)) (k i offset : ℕ) → are_filled cs ≡ true → k < length cs → begin_of (chunk_at cs k) ≤ offset → IsPlace (chunk_at cs k) offset i → 0 < i
behind_first cs k i offset filled lt low place = elim (cases_lt 0 i) [
  | inl some ↦ some
  | inr none ↦
      let e : i ≡ 0 = omega (arith, none) in
      absurd (first (chunk_at cs k) (filled_at cs k filled lt) low (subst (λ n. begins_from (offset + 1) (drop n (chunk_at cs k)) ≡ true) e place.behind))
]
  where
    first : (c : List PlainSpan) → 0 < length c → begin_of c ≤ offset → begins_from (offset + 1) c ≡ true → ⊥
    first [] some below h = omega arith
    first (s ∷ ss) some below h = omega (arith, below, leb-true (offset + 1) s.offset h)

-- a place in the last chunk that begins at an offset or earlier is the place among all spans
pub place_in : (cs : List (List PlainSpan)) (k i offset : ℕ) → are_filled cs ≡ true → k < length cs → begin_of (chunk_at cs k) ≤ offset → (suc k < length cs → offset < begin_of (chunk_at cs (suc k)))
    → IsPlace (chunk_at cs k) offset i → IsPlace (all_of cs) offset (count_before cs k + i)
place_in cs k i offset filled lt low high place = record {
  within = omega (arith, count_within cs k lt, place.within);
  before = λ d some. subst (λ (s : PlainSpan). s.offset ≤ offset) (sym (get_in cs k (i - 1) d lt (omega (arith, place.within, behind_first cs k i offset filled lt low place))) ∙ ap (λ n. get_or (all_of cs) n d) (omega (arith, behind_first cs k i offset filled lt low place)))
      (place.before d (behind_first cs k i offset filled lt low place));
  behind = begins_here (offset + 1) (all_of cs) (count_before cs k + i) nothing later;
}
  where
    later : count_before cs k + i < length (all_of cs) → offset + 1 ≤ (get_or (all_of cs) (count_before cs k + i) nothing).offset
    later there = elim (cases_lt i (length (chunk_at cs k))) [
      | inl here ↦ subst (λ (s : PlainSpan). offset + 1 ≤ s.offset) (sym (get_in cs k i nothing lt here)) (begins_read (offset + 1) (chunk_at cs k) i nothing here place.behind)
      | inr past ↦
          let next : suc k < length cs = next_there there past in
          let e : count_before cs (suc k) ≡ count_before cs k + i = omega (arith, count_suc cs k lt, place.within) in
          omega (arith, high next, begin_is cs (suc k) nothing next (filled_at cs (suc k) filled next), ap (λ n. (get_or (all_of cs) n nothing).offset) e)
    ]
      where
        next_there : count_before cs k + i < length (all_of cs) → length (chunk_at cs k) ≤ i → suc k < length cs
        next_there there past = elim (cases_lt (suc k) (length cs)) [
          | inl next ↦ next
          | inr none ↦ absurd (omega (arith, there, past, count_suc cs k lt, count_past cs (suc k) none, place.within))
        ]

-- before the first chunk that begins later there is no span
pub place_first : (cs : List (List PlainSpan)) (offset : ℕ) → are_filled cs ≡ true → (0 < length cs → offset < begin_of (chunk_at cs 0)) → IsPlace (all_of cs) offset 0
place_first cs offset filled later = record {
  within = omega arith;
  before = λ d some. absurd (omega arith);
  behind = begins_all cs filled later;
}
  where
    begins_all : (cs : List (List PlainSpan)) → are_filled cs ≡ true → (0 < length cs → offset < begin_of (chunk_at cs 0)) → begins_from (offset + 1) (all_of cs) ≡ true
    begins_all [] filled later = refl
    begins_all ([] ∷ cs) filled later = absurd (cc)
    begins_all ((s ∷ ss) ∷ cs) filled later = le-leb (offset + 1) s.offset (omega (arith, later (omega arith)))

pub count_first : (cs : List (List PlainSpan)) → 0 ≡ count_before cs 0 + 0
count_first [] = refl
count_first (c ∷ cs) = refl

pub chunk_apart : (least : ℕ) (cs : List (List PlainSpan)) (k : ℕ) → are_apart_from least (all_of cs) ≡ true → k < length cs → are_apart (chunk_at cs k) ≡ true
chunk_apart least [] k h lt = absurd (omega arith)
chunk_apart least (c ∷ cs) zero h lt = apart_lower 0 least c (omega arith) (front least c h)
  where
    front : (least : ℕ) (ss : List PlainSpan) → are_apart_from least (ss ++ all_of cs) ≡ true → are_apart_from least ss ≡ true
    front least [] h = refl
    front least (s ∷ ss) h =
        let parts = apart_parts least s (ss ++ all_of cs) h in
        apart_cons least s ss parts.low (span_from s parts.span.some parts.span.limit) (front (end_of s + 1) ss parts.rest)
chunk_apart least (c ∷ cs) (suc k) h lt = chunk_apart 0 cs k (back least c h) (omega arith)
  where
    back : (least : ℕ) (ss : List PlainSpan) → are_apart_from least (ss ++ all_of cs) ≡ true → are_apart_from 0 (all_of cs) ≡ true
    back least [] h = apart_lower 0 least (all_of cs) (omega arith) h
    back least (s ∷ ss) h = back (end_of s + 1) ss (apart_parts least s (ss ++ all_of cs) h).rest

pub spot_in : (cs : List (List PlainSpan)) (k i offset : ℕ) → are_filled cs ≡ true → k < length cs → begin_of (chunk_at cs k) ≤ offset → IsPlace (chunk_at cs k) offset i → IsSpot cs (record { chunk = k; at = i })
spot_in cs k i offset filled lt low place = record {
  chunk = omega (arith, lt);
  at = place.within;
  first = λ none. absurd (omega (arith, none, behind_first cs k i offset filled lt low place));
  past = λ e. absurd (omega (arith, e, lt));
}

-- ---- a span removed from a chunk that has two

pub filled_without : (x : List PlainSpan) (i : ℕ) → 2 ≤ length x → i < length x → is_filled (take i x ++ drop (i + 1) x) ≡ true
filled_without x i many lt =
    filled_some (take i x ++ drop (i + 1) x) (omega (arith, length-append (take i x) (drop (i + 1) x), length-take-le i x (omega (arith, lt)), length-drop (i + 1) x))

-- a spot before the span that is removed stays where it is
pub kept_at : (cs : List (List PlainSpan)) (spot next : Spot) (y : List PlainSpan) → IsSpot cs spot → IsNext cs spot next → next.chunk < length cs → length y + 1 ≡ length (chunk_at cs next.chunk)
    → spot.at ≤ length (chunk_at (set cs next.chunk y) spot.chunk)
kept_at cs spot next y is to lt size = elim (cases_lt spot.chunk next.chunk) [
  | inl below ↦
      omega (arith, is.at, ap length (get_or-set_other cs next.chunk spot.chunk y [] (λ e. omega (arith, e, below))))
  | inr le ↦
      let e : spot.chunk ≡ next.chunk = omega (arith, le, to.least) in
      let here : chunk_at (set cs next.chunk y) spot.chunk ≡ y = ap (chunk_at (set cs next.chunk y)) e ∙ get_or-set_same cs next.chunk y [] lt in
      omega (arith, ap length here, size, to.within lt, to.place, ap (count_before cs) e)
]

-- ---- a span inserted in a chunk, or not

pub map_ok : {T E P Q : Type 0} (r : Result T E) → (P → Q) → OnOk r P → OnOk r Q
map_ok (Ok x) f p = f p
map_ok (Err e) f p = tt

pub filled_inserted : {T E : Type 0} (r : Result T E) (cs : List (List PlainSpan)) (k i : ℕ) (s : PlainSpan) (x y : List PlainSpan) → are_filled cs ≡ true → x ≡ get_or cs k x
    → OnOk r (y ≡ take i x ++ s ∷ drop i x) → OnErr r (y ≡ x) → are_filled (set cs k y) ≡ true
filled_inserted (Ok v) cs k i s x y h read done same = filled_edited cs k (take i x) (drop i x) y s h done
filled_inserted (Err e) cs k i s x y h read done same =
    ap (λ w. are_filled (set cs k w)) (same ∙ read) ∙ ap are_filled (set-get_or cs k x) ∙ h
