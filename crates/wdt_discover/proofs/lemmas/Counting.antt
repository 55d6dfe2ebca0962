-- Walks over gaps and over the files of a tree: what is counted or listed so far, and what follows.
use Rattle.std.proofs.Common.{◌≡◌, ℕ, zero, suc, ◌+◌, ◌-◌, ◌*◌, ◌/◌, ◌<◌, ◌≤◌, ◌^◌, true, ◌&&◌, nat_lt, nat_le, min, List, [], ◌∷◌, ◌++◌, append_assoc, length, map, drop, get_or, slice_get, Some, refl, sym, ap, ◌∙◌, arith, add-one, inl, inr, subst, length-append}
use Rattle.std.proofs.Math.Nat.{suc-mul, mul-le-mul_right, zero-add}
use Rattle.std.proofs.Math.Seq.{drop-cons}
use Rattle.std.proofs.lemmas.Bool.{and_parts, cases_lt, leb-true}
use Rattle.std.proofs.lemmas.List.Sums.{sum_by-cons}
use Rattle.std.proofs.lemmas.Nat.{div-add-mod'}
use Rattle.std.proofs.lemmas.Option.{slice_get_within, get_or_from_slice_get}
use Rattle.wdt_units.specs.Have.{PlainSpan, HaveFile}
use Rattle.wdt_units.specs.declared.blocks.Block.{Block}
use Rattle.wdt_tree.specs.declared.entry.Entry.{Entry}
use Rattle.wdt_ranges.specs.declared.ranges.Span.{Span}
use Rattle.wdt_ranges.specs.Spans.{plain_span, end_of, is_span, are_apart_from, are_apart, count_of, total_of}
use Rattle.wdt_rest.specs.RestOf.{pieces_in, piece_at, first_pieces, pieces_of, gap_pieces, file_rest, rest_from, rest_of}

-- ---- lists from a place on

pub drop_here : {X : Type 0} (xs : List X) (i : ℕ) (x d : X) → i < length xs → x ≡ get_or xs i d → drop i xs ≡ x ∷ drop (i + 1) xs
drop_here xs i x d lt is = drop-cons xs i d lt ∙ ap (λ y. y ∷ drop (suc i) xs) (sym is) ∙ ap (λ n. x ∷ drop n xs) (sym (add-one i))

pub drop_at : {X : Type 0} (xs : List X) (i : ℕ) (x : X) → slice_get xs i ≡ Some x → drop i xs ≡ x ∷ drop (i + 1) xs
drop_at xs i x at = drop_here xs i x x (slice_get_within xs i x at) (sym (get_or_from_slice_get xs i x x at))

-- ---- pieces of a gap

pub piece_begins : (count most k : ℕ) → 0 < most → k < (count + most - 1) / most → k * most < count
piece_begins count most k some h =
    omega (arith, div-add-mod' (count + most - 1) most, suc-mul k most, mul-le-mul_right {m = suc k} {n = (count + most - 1) / most} most (omega arith))

one_each : (n most : ℕ) → 0 < most → n ≤ n * most
one_each zero most some = omega arith
one_each (suc n) most some = omega (arith, suc-mul n most, one_each n most some)

pub few_pieces : (count most : ℕ) → 0 < most → (count + most - 1) / most ≤ count
few_pieces count most some = elim (cases_lt count ((count + most - 1) / most)) [
  | inl more ↦ absurd (omega (arith, piece_begins count most count some more, one_each count most some))
  | inr enough ↦ enough
]

pub length_first : (most file : ℕ) (gap : PlainSpan) (n : ℕ) → length (first_pieces most file gap n) ≡ n
length_first most file gap zero = refl
length_first most file gap (suc n) = omega (arith, length-append (first_pieces most file gap n) (piece_at most file gap n ∷ []), length_first most file gap n)

-- ---- spans that are apart

apart_parts : (n : ℕ) (s : PlainSpan) (ss : List PlainSpan) → are_apart_from n (s ∷ ss) ≡ true → (n ≤ s.offset) × (end_of s ≤ 2 ^ 40) × (are_apart_from (end_of s + 1) ss ≡ true)
apart_parts n s ss h =
    let outer : ((nat_le n s.offset && is_span s) ≡ true) × (are_apart_from (end_of s + 1) ss ≡ true) = and_parts (nat_le n s.offset && is_span s) (are_apart_from (end_of s + 1) ss) h in
    let inner : (nat_le n s.offset ≡ true) × (is_span s ≡ true) = and_parts (nat_le n s.offset) (is_span s) outer.0 in
    let full : (nat_lt 0 s.count ≡ true) × (nat_le (end_of s) (2 ^ 40) ≡ true) = and_parts (nat_lt 0 s.count) (nat_le (end_of s) (2 ^ 40)) inner.1 in
    (leb-true n s.offset inner.0, leb-true (end_of s) (2 ^ 40) full.1, outer.1)

apart_total : (n top : ℕ) (ss : List PlainSpan) → top ≡ 2 ^ 40 → are_apart_from n ss ≡ true → total_of ss + min n top ≤ top
apart_total n top [] is h = omega arith
apart_total n top (s ∷ ss) is h =
    let t : (n ≤ s.offset) × (end_of s ≤ 2 ^ 40) × (are_apart_from (end_of s + 1) ss ≡ true) = apart_parts n s ss h in
    let low : n ≤ s.offset = t.0 in
    let end : s.offset + s.count ≤ top = subst (λ m. end_of s ≤ m) (sym is) t.1 in
    let rest : total_of ss + min (s.offset + s.count + 1) top ≤ top = apart_total (end_of s + 1) top ss is t.2 in
    let sum : total_of (s ∷ ss) ≡ s.count + total_of ss = sum_by-cons count_of s ss in
    omega arith

gap_end : (n : ℕ) (gaps : List Span) (i : ℕ) (gap d : Span) → are_apart_from n (map plain_span gaps) ≡ true → i < length gaps → gap ≡ get_or gaps i d → gap.offset + gap.length ≤ 2 ^ 40
gap_end n [] i gap d h lt is = absurd (omega arith)
gap_end n (g ∷ gs) zero gap d h lt is = subst (λ (x : Span). x.offset + x.length ≤ 2 ^ 40) (sym is) ((apart_parts n (plain_span g) (map plain_span gs) h).1)
gap_end n (g ∷ gs) (suc i) gap d h lt is = gap_end (end_of (plain_span g) + 1) gs i gap d ((apart_parts n (plain_span g) (map plain_span gs) h).2) (omega arith) is

pub ends_within : (gaps : List Span) (i : ℕ) (d : Span) → are_apart (map plain_span gaps) ≡ true → i < length gaps → (get_or gaps i d).offset + (get_or gaps i d).length ≤ 2 ^ 40
ends_within gaps i d h lt = gap_end 0 gaps i (get_or gaps i d) d h lt refl

-- ---- a walk over gaps that counts their blocks

pub record IsCounted (block : ℕ) (gaps : List Span) (i count : ℕ) : Type 0 where
  pub whole : (file : ℕ) → count + length (gap_pieces block file (map plain_span (drop i gaps))) ≡ length (gap_pieces block file (map plain_span gaps))
  pub fits : count + total_of (map plain_span (drop i gaps)) ≤ 2 ^ 40

pub count_none : (block : ℕ) (gaps : List Span) → are_apart (map plain_span gaps) ≡ true → IsCounted block gaps 0 0
count_none block gaps h = record {
  whole = λ file. zero-add (length (gap_pieces block file (map plain_span gaps)));
  fits = enough (total_of (map plain_span gaps)) (2 ^ 40) (apart_total 0 (2 ^ 40) (map plain_span gaps) refl h);
}
  where
    enough : (t top : ℕ) → t + min 0 top ≤ top → 0 + t ≤ top
    enough t top h = omega arith

pub count_more : (block : ℕ) (gaps : List Span) (i count more : ℕ) (gap d : Span) → i < length gaps → gap ≡ get_or gaps i d → more ≡ pieces_in block (plain_span gap) → more ≤ gap.length
    → IsCounted block gaps i count → IsCounted block gaps (i + 1) (count + more)
count_more block gaps i count more gap d lt is number few f = record {
  whole = λ file.
      let here : length (gap_pieces block file (map plain_span (drop i gaps))) ≡ length (pieces_of block file (plain_span gap) ++ gap_pieces block file (map plain_span (drop (i + 1) gaps))) =
      ap (λ (xs : List Span). length (gap_pieces block file (map plain_span xs))) (drop_here gaps i gap d lt is) in
      omega (arith, here, f.whole file, length-append (pieces_of block file (plain_span gap)) (gap_pieces block file (map plain_span (drop (i + 1) gaps))), length_first block file (plain_span gap) (pieces_in block (plain_span gap)), number);
  fits =
      let sum : total_of (map plain_span (drop i gaps)) ≡ gap.length + total_of (map plain_span (drop (i + 1) gaps)) =
      ap (λ (xs : List Span). total_of (map plain_span xs)) (drop_here gaps i gap d lt is) ∙ sum_by-cons count_of (plain_span gap) (map plain_span (drop (i + 1) gaps)) in
      bound count more gap.length (total_of (map plain_span (drop i gaps))) (total_of (map plain_span (drop (i + 1) gaps))) (2 ^ 40) few sum f.fits;
}
  where
    bound : (c m l t u top : ℕ) → m ≤ l → t ≡ l + u → c + t ≤ top → c + m + u ≤ top
    bound c m l t u top few sum h = omega arith

-- ---- a walk over gaps that lists their blocks

abbrev pub IsListed : ℕ → ℕ → List Span → ℕ → List Block → List Block → Type 0
IsListed block file gaps i old blocks = blocks ++ gap_pieces block file (map plain_span (drop i gaps)) ≡ old ++ gap_pieces block file (map plain_span gaps)

pub list_more : (block file : ℕ) (gaps : List Span) (i : ℕ) (old blocks more : List Block) (gap d : Span) → i < length gaps → gap ≡ get_or gaps i d → more ≡ blocks ++ pieces_of block file (plain_span gap)
    → IsListed block file gaps i old blocks → IsListed block file gaps (i + 1) old more
list_more block file gaps i old blocks more gap d lt is pushed f =
    ap (λ xs. xs ++ gap_pieces block file (map plain_span (drop (i + 1) gaps))) pushed
    ∙ append_assoc blocks (pieces_of block file (plain_span gap)) (gap_pieces block file (map plain_span (drop (i + 1) gaps)))
    ∙ ap (λ (xs : List Span). blocks ++ gap_pieces block file (map plain_span xs)) (sym (drop_here gaps i gap d lt is))
    ∙ f

-- ---- walks over the files of a tree

pub record IsTallied (have : List HaveFile) (block : ℕ) (entries : List Entry) (i count : ℕ) : Type 0 where
  pub whole : count + length (rest_from have block i (drop i entries)) ≡ length (rest_of entries have block)
  pub fits : count ≤ i * 2 ^ 40

pub tally_more : (have : List HaveFile) (block : ℕ) (entries : List Entry) (i count more : ℕ) (entry : Entry) → slice_get entries i ≡ Some entry → more ≡ length (file_rest have block i entry) → more ≤ 2 ^ 40
    → IsTallied have block entries i count → IsTallied have block entries (i + 1) (count + more)
tally_more have block entries i count more entry at number few f = record {
  whole =
      let here : length (rest_from have block i (drop i entries)) ≡ length (file_rest have block i entry ++ rest_from have block (i + 1) (drop (i + 1) entries)) =
      ap (λ (xs : List Entry). length (rest_from have block i xs)) (drop_at entries i entry at) in
      omega (arith, here, f.whole, length-append (file_rest have block i entry) (rest_from have block (i + 1) (drop (i + 1) entries)), number);
  fits = bound i count more (2 ^ 40) few f.fits;
}
  where
    bound : (i c m top : ℕ) → m ≤ top → c ≤ i * top → c + m ≤ (i + 1) * top
    bound i c m top few h = omega (arith, suc-mul i top, ap (λ n. n * top) (add-one i))

abbrev pub IsWalked : List HaveFile → ℕ → List Entry → ℕ → List Block → Type 0
IsWalked have block entries i blocks = blocks ++ rest_from have block i (drop i entries) ≡ rest_of entries have block

pub walk_more : (have : List HaveFile) (block : ℕ) (entries : List Entry) (i : ℕ) (blocks more : List Block) (entry : Entry) → slice_get entries i ≡ Some entry → more ≡ blocks ++ file_rest have block i entry
    → IsWalked have block entries i blocks → IsWalked have block entries (i + 1) more
walk_more have block entries i blocks more entry at pushed f =
    ap (λ xs. xs ++ rest_from have block (i + 1) (drop (i + 1) entries)) pushed
    ∙ append_assoc blocks (file_rest have block i entry) (rest_from have block (i + 1) (drop (i + 1) entries))
    ∙ ap (λ (xs : List Entry). blocks ++ rest_from have block i xs) (sym (drop_at entries i entry at))
    ∙ f
