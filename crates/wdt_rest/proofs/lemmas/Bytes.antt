-- The bytes of the blocks of a file, and of those of a tree.
use Rattle.std.proofs.Common.{◌≡◌, ℕ, zero, suc, ◌+◌, ◌-◌, ◌*◌, ◌<◌, ◌≤◌, min, Bool, true, false, not, cond, ◌==◌, nat_lt, nat_le, List, [], ◌∷◌, sum_by, slice_get, Some, refl, arith}
use Rattle.std.specs.List.{list_all}
use Rattle.std.proofs.Math.Nat.{suc-mul}
use Rattle.std.proofs.lemmas.Bool.{and_parts, ltb-false, leb-true, eqb-true}
use Rattle.std.proofs.lemmas.List.Sums.{sum_by-cons, sum_by-append, sum_by_push}
use Rattle.std.proofs.lemmas.Nat.{div-add-mod'}
use Rattle.wdt_units.specs.Have.{PlainSpan, HaveFile, is_named}
use Rattle.wdt_tree.specs.declared.entry.Entry.{Entry}
use Rattle.wdt_tree.specs.Listing.{size_of}
use Rattle.wdt_ranges.specs.Spans.{end_of, are_apart_from, count_of, total_of, span_between, gaps_from}
use Rattle.wdt_rest.specs.RestOf.{pieces_in, piece_at, first_pieces, pieces_of, gap_pieces, spans_of, gaps_in, is_new_empty, empty_block, file_rest, rest_from}
use Rattle.wdt_rest.proofs.lemmas.Gaps.{Parts, parts, apart_earlier}
use Rattle.wdt_rest.specs.Together.{ends_by, covered_of, length_of}
use Rattle.wdt_rest.proofs.lemmas.Paths.{AreBelow, weight_total, weights, weights_cons}

-- ---- gaps

lengths_first : (most file : ℕ) (gap : PlainSpan) (n : ℕ) → sum_by length_of (first_pieces most file gap n) ≡ min (n * most) gap.count
lengths_first most file gap zero = omega arith
lengths_first most file gap (suc n) =
    omega (arith, sum_by_push length_of (first_pieces most file gap n) (piece_at most file gap n), lengths_first most file gap n, suc-mul n most)

lengths_pieces : (most file : ℕ) (gap : PlainSpan) → 0 < most → sum_by length_of (pieces_of most file gap) ≡ gap.count
lengths_pieces most file gap some = omega (arith, lengths_first most file gap (pieces_in most gap), div-add-mod' (gap.count + most - 1) most)

lengths_gaps : (most file : ℕ) (gaps : List PlainSpan) → 0 < most → sum_by length_of (gap_pieces most file gaps) ≡ total_of gaps
lengths_gaps most file [] some = refl
lengths_gaps most file (g ∷ gs) some =
    omega (arith, sum_by-append length_of (pieces_of most file g) (gap_pieces most file gs), lengths_pieces most file g some, lengths_gaps most file gs some, sum_by-cons count_of g gs)

total_between : (least end : ℕ) → total_of (span_between least end) ≡ end - least
total_between least end = go (nat_lt least end) refl
  where
    go : (b : Bool) → nat_lt least end ≡ b → total_of (cond b (record { offset = least; count = end - least } ∷ []) []) ≡ end - least
    go true h = omega arith
    go false h = let le : end ≤ least = ltb-false least end h in omega arith

-- what spans below a size cover and what they leave out are together the size
total_gaps : (least size : ℕ) (ss : List PlainSpan) → least ≤ size → are_apart_from least ss ≡ true → list_all (ends_by size) ss ≡ true → total_of (gaps_from least size ss) + total_of ss + least ≡ size
total_gaps least size [] le apart within = omega (arith, total_between least size)
total_gaps least size (s ∷ ss) le apart within =
    let t : Parts least s ss = parts least s ss apart in
    let low : (nat_le (end_of s) size ≡ true) × (list_all (ends_by size) ss ≡ true) = and_parts (nat_le (end_of s) size) (list_all (ends_by size) ss) within in
    let end : end_of s ≤ size = leb-true (end_of s) size low.0 in
    let from : least ≤ s.offset = t.from in
    omega (
      arith,
      sum_by-append count_of (span_between least (min s.offset size)) (gaps_from (end_of s) size ss),
      total_between least (min s.offset size),
      total_gaps (end_of s) size ss end (apart_earlier (end_of s + 1) (end_of s) ss (omega arith) t.rest) low.1,
      sum_by-cons count_of s ss,
    )

-- ---- files

pub file_bytes : (have : List HaveFile) (most file : ℕ) (entry : Entry) → 0 < most → AreBelow entry.size (spans_of have entry.path)
    → sum_by length_of (file_rest have most file entry) + total_of (spans_of have entry.path) ≡ entry.size
file_bytes have most file entry some below = go (is_new_empty have entry) refl
  where
    gaps : total_of (gaps_in have entry) + total_of (spans_of have entry.path) + 0 ≡ entry.size
    gaps = total_gaps 0 entry.size (spans_of have entry.path) (omega arith) below.apart below.within

    go : (b : Bool) → is_new_empty have entry ≡ b → sum_by length_of (cond b (empty_block file ∷ []) (gap_pieces most file (gaps_in have entry))) + total_of (spans_of have entry.path) ≡ entry.size
    go true h =
        let none : entry.size ≡ 0 = eqb-true entry.size 0 ((and_parts (entry.size == 0) (not (is_named have entry.path)) h).0) in
        omega (arith, gaps)
    go false h = omega (arith, gaps, lengths_gaps most file (gaps_in have entry) some)

-- what is covered of a tree's files is a set below their sizes
abbrev pub AllBelow : List HaveFile → List Entry → Type 0
AllBelow have entries = (k : ℕ) (e : Entry) → slice_get entries k ≡ Some e → AreBelow e.size (spans_of have e.path)

pub rest_bytes : (have : List HaveFile) (most base : ℕ) (es : List Entry) → 0 < most → AllBelow have es → sum_by length_of (rest_from have most base es) + weights covered_of have es ≡ sum_by size_of es
rest_bytes have most base [] some below = refl
rest_bytes have most base (e ∷ es) some below =
    omega (
      arith,
      sum_by-append length_of (file_rest have most base e) (rest_from have most (base + 1) es),
      file_bytes have most base e some (below 0 e refl),
      weight_total have e.path,
      weights_cons covered_of have e es,
      sum_by-cons size_of e es,
      rest_bytes have most (base + 1) es some (λ k x at. below (suc k) x at),
    )
