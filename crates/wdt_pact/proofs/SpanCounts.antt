-- The spans of a destination, and those that the blocks of a plan may make beside them, are no more than the blocks and files.
use Rattle.std.proofs.Common.{◌≡◌, ◌⊎◌, inl, inr, ℕ, zero, suc, ◌+◌, ◌-◌, ◌*◌, ◌/◌, ◌<◌, ◌≤◌, ◌==◌, ◌||◌, ◌&&◌, min, not, nat_lt, nat_le, Bool, true, false, cond, if◌then◌else◌, List, [], ◌∷◌, ◌++◌, length, map, sum_by, slice_get, Option, Some, None, subst, sym, ap, ◌∙◌, refl, arith, append-nil, append_assoc, length-append, div-add-mod', eqb-true}
use Rattle.std.specs.List.{list_all, list_any}
use Rattle.std.specs.Str.{bytes_eq}
use Rattle.std.proofs.lemmas.Bool.{and_from, and_parts, both_ways, cases_lt, or_cases, lt-ltb}
use Rattle.std.proofs.lemmas.Bool.Decides.{nat_tests}
use Rattle.std.proofs.lemmas.List.Sums.{sum_by-append, sum_by-cons}
use Rattle.wdt_units.specs.Have.{HaveFile, PlainSpan, is_covered, is_in, is_named}
use Rattle.wdt_units.specs.declared.blocks.Block.{Block}
use Rattle.wdt_units.specs.declared.blocks.Header.{Header}
use Rattle.wdt_ranges.specs.Files.{is_before_file, is_in_order as have_in_order}
use Rattle.wdt_ranges.specs.Spans.{count_of, end_of, gaps_from, gaps_of, has, span_between, total_of}
use Rattle.wdt_rest.specs.RestOf.{empty_block, file_rest, first_pieces, gap_pieces, gaps_in, is_new_empty, piece_at, pieces_in, pieces_of, rest_from, spans_of}
use Rattle.wdt_rest.specs.Fitting.{fits, found_in, has_found}
use Rattle.wdt_rest.specs.Together.{FitsTree, covered_of, ends_by}
use Rattle.wdt_rest.proofs.lemmas.Paths.{AreBelow, spans_below, weight_at, weight_total, weights, weights_all, weights_cons}
use Rattle.wdt_rest.proofs.lemmas.Bytes.{AllBelow}
use Rattle.wdt_sender_fsm.specs.PlainSender.{header_by}
use Rattle.wdt_tree.specs.Listing.{is_in_order}
use Rattle.wdt_tree.specs.declared.entry.Entry.{Entry}
use Rattle.wdt_pact.specs.Conversation.{sent_header}
use Rattle.wdt_pact.specs.Each.{Each}
use Rattle.wdt_pact.proofs.Lists.{Each-append}
use Rattle.wdt_pact.proofs.Marked.{RiseFrom, in_of}
use Rattle.wdt_pact.proofs.Opened.{rise_of}

-- the position before a place is covered
abbrev pub covered_before : List HaveFile → List ℕ → ℕ → Bool
covered_before have path zero = false
covered_before have path (suc k) = is_covered have path k

-- how many spans more a block of a path makes beside those of a destination
abbrev pub path_cost : List HaveFile → List ℕ → Block → ℕ
path_cost have path b = if b.length == 0 || covered_before have path b.offset then 0 else 1

cost_one : (have : List HaveFile) (path : List ℕ) (b : Block) → path_cost have path b ≤ 1
cost_one have path b = go (b.length == 0 || covered_before have path b.offset) where
  go : (c : Bool) → (if c then 0 else 1) ≤ 1
  go true = omega arith
  go false = omega arith

cost_none : (have : List HaveFile) (path : List ℕ) (b : Block) (k : ℕ) → b.offset ≡ suc k → is_covered have path k ≡ true → path_cost have path b ≡ 0
cost_none have path b k at covers =
    ap (λ (c : Bool). if b.length == 0 || c then 0 else 1) (ap (covered_before have path) at ∙ covers) ∙ any (b.length == 0) where
      any : (c : Bool) → ◌≡◌ {A = ℕ} (if c || true then 0 else 1) 0
      any true = refl
      any false = refl

module _ (have : List HaveFile) (path : List ℕ) (most file : ℕ) (some : 0 < most) where
  abbrev cost : Block → ℕ
  cost b = path_cost have path b

  first_count : (gap : PlainSpan) (n : ℕ) → length (first_pieces most file gap n) ≡ n
  first_count gap zero = refl
  first_count gap (suc n) = omega (arith, length-append (first_pieces most file gap n) (piece_at most file gap n ∷ []), first_count gap n)

  first_cost : (gap : PlainSpan) (n : ℕ) → sum_by cost (first_pieces most file gap n) ≤ n
  first_cost gap zero = omega arith
  first_cost gap (suc n) =
      omega (arith, sum_by-append cost (first_pieces most file gap n) (piece_at most file gap n ∷ []), sum_by-cons cost (piece_at most file gap n) [], first_cost gap n, cost_one have path (piece_at most file gap n))

  -- behind a position that is covered the first makes none
  behind_cost : (gap : PlainSpan) (n k : ℕ) → gap.offset ≡ suc k → is_covered have path k ≡ true → 1 ≤ n → sum_by cost (first_pieces most file gap n) + 1 ≤ n
  behind_cost gap zero k at covers one = absurd (omega (arith, one))
  behind_cost gap (suc zero) k at covers one =
      let none : cost (piece_at most file gap 0) ≡ 0 = cost_none have path (piece_at most file gap 0) k (omega (arith, at)) covers in
      omega (arith, sum_by-cons cost (piece_at most file gap 0) [], none)
  behind_cost gap (suc (suc n)) k at covers one =
      omega (
        arith,
        sum_by-append cost (first_pieces most file gap (suc n)) (piece_at most file gap (suc n) ∷ []),
        sum_by-cons cost (piece_at most file gap (suc n)) [],
        behind_cost gap (suc n) k at covers (omega arith),
        cost_one have path (piece_at most file gap (suc n)),
      )

  reach : (count : ℕ) → count ≤ (count + most - 1) / most * most
  reach count = omega (arith, div-add-mod' (count + most - 1) most, some)

  some_pieces : (gap : PlainSpan) → 0 < gap.count → 1 ≤ pieces_in most gap
  some_pieces gap full = elim (cases_lt (pieces_in most gap) 1) [
    | inr more ↦ more
    | inl none ↦
        let zero_is : pieces_in most gap ≡ 0 = omega (arith, none) in
        let product : pieces_in most gap * most ≡ 0 * most = ap (λ (n : ℕ). n * most) zero_is in
        absurd (omega (arith, reach gap.count, product, full))
  ]

  -- ---- gaps

  gap_join : (xs ys : List PlainSpan) → gap_pieces most file (xs ++ ys) ≡ gap_pieces most file xs ++ gap_pieces most file ys
  gap_join [] ys = refl
  gap_join (g ∷ gs) ys = ap (λ (bs : List Block). pieces_of most file g ++ bs) (gap_join gs ys) ∙ sym (append_assoc (pieces_of most file g) (gap_pieces most file gs) (gap_pieces most file ys))

  -- blocks make no more spans than they are, or fewer by one
  abbrev Within : ℕ → List Block → Type 0
  Within d bs = sum_by cost bs + d ≤ length bs

  within_join : (d e : ℕ) (xs ys : List Block) → Within d xs → Within e ys → Within (d + e) (xs ++ ys)
  within_join d e xs ys x y = omega (arith, x, y, sum_by-append cost xs ys, length-append xs ys)

  one_gap : (gap : PlainSpan) → Within 0 (gap_pieces most file (gap ∷ []))
  one_gap gap =
      subst (λ (bs : List Block). Within 0 bs) (sym (append-nil (pieces_of most file gap)))
      (omega (arith, first_cost gap (pieces_in most gap), first_count gap (pieces_in most gap)))

  gap_behind : (gap : PlainSpan) (k : ℕ) → 0 < gap.count → gap.offset ≡ suc k → is_covered have path k ≡ true → Within 1 (gap_pieces most file (gap ∷ []))
  gap_behind gap k full at covers =
      subst (λ (bs : List Block). Within 1 bs) (sym (append-nil (pieces_of most file gap)))
      (omega (arith, behind_cost gap (pieces_in most gap) k at covers (some_pieces gap full), first_count gap (pieces_in most gap)))

  between_any : (least end : ℕ) → Within 0 (gap_pieces most file (span_between least end))
  between_any least end = go (nat_lt least end) where
    go : (b : Bool) → Within 0 (gap_pieces most file (if b then (record { offset = least; count = end - least } ∷ []) else []))
    go true = one_gap record { offset = least; count = end - least }
    go false = omega arith

  between_behind : (least end k : ℕ) → least < end → least ≡ suc k → is_covered have path k ≡ true → Within 1 (gap_pieces most file (span_between least end))
  between_behind least end k less at covers =
      subst (λ (b : Bool). Within 1 (gap_pieces most file (if b then (record { offset = least; count = end - least } ∷ []) else []))) (sym (lt-ltb least end less))
      (gap_behind record { offset = least; count = end - least } k (omega (arith, less)) at covers)

  ends_first : (size : ℕ) (s : PlainSpan) (ss : List PlainSpan) → list_all (ends_by size) (s ∷ ss) ≡ true → (end_of s ≤ size) × (list_all (ends_by size) ss ≡ true)
  ends_first size s ss e = let a = and_parts (nat_le (end_of s) size) (list_all (ends_by size) ss) e in (grind (arith, nat_tests, a.0), a.1)

  -- the last position of a span is covered
  last_of : (s : PlainSpan) (ss : List PlainSpan) → 0 < s.count → ((p : ℕ) → has (s ∷ ss) p ≡ true → is_covered have path p ≡ true) → (k : ℕ) × (end_of s ≡ suc k) × (is_covered have path k ≡ true)
  last_of s ss full covers = (
    s.offset + s.count - 1,
    omega (arith, full),
    covers (s.offset + s.count - 1) (ap (λ (b : Bool). b || has ss (s.offset + s.count - 1)) (in_of (s.offset + s.count - 1) s (omega (arith, full)) (omega (arith, full)))),
  )

  rest_covers : (s : PlainSpan) (ss : List PlainSpan) → ((p : ℕ) → has (s ∷ ss) p ≡ true → is_covered have path p ≡ true) → (p : ℕ) → has ss p ≡ true → is_covered have path p ≡ true
  rest_covers s ss covers p h = covers p (ap (λ (b : Bool). is_in p s || b) h ∙ any (is_in p s)) where
    any : (b : Bool) → (b || true) ≡ true
    any true = refl
    any false = refl

  -- behind a position that is covered
  gaps_behind : (least size k : ℕ) (ss : List PlainSpan) → least ≡ suc k → is_covered have path k ≡ true → RiseFrom (least + 1) ss → list_all (ends_by size) ss ≡ true
      → ((p : ℕ) → has ss p ≡ true → is_covered have path p ≡ true) → Within (length ss) (gap_pieces most file (gaps_from least size ss))
  gaps_behind least size k [] at covered r ends covers = between_any least size
  gaps_behind least size k (s ∷ ss) at covered r ends covers =
      let e = ends_first size s ss ends in
      let last = last_of s ss r.1 covers in
      let low : least < min s.offset size = omega (arith, r.0, r.1, e.0) in
      let a = between_behind least (min s.offset size) k low at covered in
      let b = gaps_behind (end_of s) size last.0 ss last.1 last.2 r.2 e.1 (rest_covers s ss covers) in
      subst (λ (bs : List Block). Within (length (s ∷ ss)) bs) (sym (gap_join (span_between least (min s.offset size)) (gaps_from (end_of s) size ss)))
      (let c = within_join 1 (length ss) (gap_pieces most file (span_between least (min s.offset size))) (gap_pieces most file (gaps_from (end_of s) size ss)) a b in omega (arith, c))

  -- from the start on: one more
  gaps_cost : (size : ℕ) (ss : List PlainSpan) → RiseFrom 0 ss → list_all (ends_by size) ss ≡ true → ((p : ℕ) → has ss p ≡ true → is_covered have path p ≡ true)
      → sum_by cost (gap_pieces most file (gaps_from 0 size ss)) + length ss ≤ length (gap_pieces most file (gaps_from 0 size ss)) + 1
  gaps_cost size [] r ends covers = let a = between_any 0 size in omega (arith, a)
  gaps_cost size (s ∷ ss) r ends covers =
      let e = ends_first size s ss ends in
      let last = last_of s ss r.1 covers in
      let a = between_any 0 (min s.offset size) in
      let b = gaps_behind (end_of s) size last.0 ss last.1 last.2 r.2 e.1 (rest_covers s ss covers) in
      let c = within_join 0 (length ss) (gap_pieces most file (span_between 0 (min s.offset size))) (gap_pieces most file (gaps_from (end_of s) size ss)) a b in
      let is = gap_join (span_between 0 (min s.offset size)) (gaps_from (end_of s) size ss) in
      omega (arith, c, ap (sum_by cost) is, ap (λ (bs : List Block). length bs) is)

-- ---- a file

-- below no size there are none
none_below : (size : ℕ) (ss : List PlainSpan) → size ≡ 0 → RiseFrom 0 ss → list_all (ends_by size) ss ≡ true → length ss ≡ 0
none_below size [] none r ends = refl
none_below size (s ∷ ss) none r ends =
    let a = and_parts (nat_le (end_of s) size) (list_all (ends_by size) ss) ends in
    let low : end_of s ≤ size = grind (arith, nat_tests, a.0) in
    absurd (omega (arith, low, none, r.1))

-- what is covered of the file of a path
spans_cover : (have : List HaveFile) (path : List ℕ) (p : ℕ) → has (spans_of have path) p ≡ true → is_covered have path p ≡ true
spans_cover [] path p h = cc
spans_cover (f ∷ fs) path p h = go (bytes_eq f.path path) refl h (spans_cover fs path p) where
  or_right : (x y : Bool) → y ≡ true → (x || y) ≡ true
  or_right true y e = refl
  or_right false y e = e

  go : (b : Bool) → bytes_eq f.path path ≡ b → has (if b then f.spans else spans_of fs path) p ≡ true → (has (spans_of fs path) p ≡ true → is_covered fs path p ≡ true) → is_covered (f ∷ fs) path p ≡ true
  go true is x later = ap (λ (b : Bool). b || is_covered fs path p) (and_from (bytes_eq f.path path) (list_any (is_in p) f.spans) is x)
  go false is x later = or_right (bytes_eq f.path path && list_any (is_in p) f.spans) (is_covered fs path p) (later x)

file_cost : (have : List HaveFile) (most file : ℕ) (entry : Entry) → 0 < most → AreBelow entry.size (spans_of have entry.path)
    → sum_by (path_cost have entry.path) (file_rest have most file entry) + length (spans_of have entry.path) ≤ length (file_rest have most file entry) + 1
file_cost have most file entry some below = go (is_new_empty have entry) refl where
  rises : RiseFrom 0 (spans_of have entry.path)
  rises = rise_of 0 (spans_of have entry.path) below.apart

  go : (b : Bool) → is_new_empty have entry ≡ b
      → sum_by (path_cost have entry.path) (if b then empty_block file ∷ [] else gap_pieces most file (gaps_in have entry)) + length (spans_of have entry.path) ≤ length (if b then empty_block file ∷ [] else gap_pieces most file (gaps_in have entry)) + 1
  go true is =
      let none : entry.size ≡ 0 = eqb-true entry.size 0 (and_parts (entry.size == 0) (not (is_named have entry.path)) is).0 in
      omega (arith, none_below entry.size (spans_of have entry.path) none rises below.within, sum_by-cons (path_cost have entry.path) (empty_block file) [])
  go false is = gaps_cost have entry.path most file some entry.size (spans_of have entry.path) rises below.within (spans_cover have entry.path)

-- its blocks are of its number
own_first : (most file : ℕ) (gap : PlainSpan) (n : ℕ) → Each (λ (b : Block). b.file ≡ file) (first_pieces most file gap n)
own_first most file gap zero = tt
own_first most file gap (suc n) = Each-append (λ (b : Block). b.file ≡ file) (first_pieces most file gap n) (piece_at most file gap n ∷ []) (own_first most file gap n) (refl, tt)

own_gaps : (most file : ℕ) (gaps : List PlainSpan) → Each (λ (b : Block). b.file ≡ file) (gap_pieces most file gaps)
own_gaps most file [] = tt
own_gaps most file (g ∷ gs) = Each-append (λ (b : Block). b.file ≡ file) (pieces_of most file g) (gap_pieces most file gs) (own_first most file g (pieces_in most g)) (own_gaps most file gs)

own_rest : (have : List HaveFile) (most file : ℕ) (entry : Entry) → Each (λ (b : Block). b.file ≡ file) (file_rest have most file entry)
own_rest have most file entry = go (is_new_empty have entry) where
  go : (b : Bool) → Each (λ (x : Block). x.file ≡ file) (if b then empty_block file ∷ [] else gap_pieces most file (gaps_in have entry))
  go true = (refl, tt)
  go false = own_gaps most file (gaps_in have entry)

-- ---- a tree

-- how many spans a file has
abbrev pub span_count : HaveFile → ℕ
span_count file = length file.spans

-- how many spans more a block makes beside those of a destination, by its header
abbrev pub head_cost : List HaveFile → Header → ℕ
head_cost have h = if h.length == 0 || covered_before have h.path h.offset then 0 else 1

-- what a have covers, where each span has one position: as much as it has spans
abbrev unit : PlainSpan → PlainSpan
unit s = record { offset = s.offset; count = 1 }

abbrev shrunk : HaveFile → HaveFile
shrunk file = record { path = file.path; size = file.size; stamp = file.stamp; spans = map unit file.spans }

unit_total : (ss : List PlainSpan) → total_of (map unit ss) ≡ length ss
unit_total [] = refl
unit_total (s ∷ ss) = omega (arith, sum_by-cons count_of (unit s) (map unit ss), unit_total ss)

shrunk_spans : (have : List HaveFile) (path : List ℕ) → spans_of (map shrunk have) path ≡ map unit (spans_of have path)
shrunk_spans [] path = refl
shrunk_spans (f ∷ fs) path = go (bytes_eq f.path path) (shrunk_spans fs path) where
  go : (b : Bool) → spans_of (map shrunk fs) path ≡ map unit (spans_of fs path) → (if b then map unit f.spans else spans_of (map shrunk fs) path) ≡ map unit (if b then f.spans else spans_of fs path)
  go true later = refl
  go false later = later

shrunk_all : (p : HaveFile → Bool) (have : List HaveFile) → ((f : HaveFile) → p (shrunk f) ≡ p f) → list_all p (map shrunk have) ≡ list_all p have
shrunk_all p [] same = refl
shrunk_all p (f ∷ fs) same = rw (same f, shrunk_all p fs same) refl

shrunk_order : (have : List HaveFile) → have_in_order (map shrunk have) ≡ have_in_order have
shrunk_order [] = refl
shrunk_order (f ∷ fs) = rw (shrunk_all (is_before_file f) fs (λ g. refl), shrunk_order fs) refl

fits_shrunk : (tree : List Entry) (f : HaveFile) → fits tree (shrunk f) ≡ fits tree f
fits_shrunk tree f = go (found_in tree f.path) where
  go : (o : Option (ℕ × ℕ)) → has_found o (shrunk f) ≡ has_found o f
  go None = refl
  go (Some found) = refl

shrunk_sum : (have : List HaveFile) → sum_by covered_of (map shrunk have) ≡ sum_by span_count have
shrunk_sum [] = refl
shrunk_sum (f ∷ fs) = omega (arith, sum_by-cons covered_of (shrunk f) (map shrunk fs), sum_by-cons span_count f fs, unit_total f.spans, shrunk_sum fs)

count_weight : (have : List HaveFile) (path : List ℕ) → length (spans_of have path) ≡ weight_at covered_of (map shrunk have) path
count_weight have path = sym (unit_total (spans_of have path)) ∙ (ap total_of (sym (shrunk_spans have path)) ∙ weight_total (map shrunk have) path)

same_sum : (f g : Block → ℕ) (xs : List Block) → Each (λ (b : Block). f b ≡ g b) xs → sum_by f xs ≡ sum_by g xs
same_sum f g [] e = refl
same_sum f g (x ∷ xs) e = let a = e.0 in omega (arith, sum_by-cons f x xs, sum_by-cons g x xs, a, same_sum f g xs e.1)

each_same : (f g : Block → ℕ) (file : ℕ) (xs : List Block) → ((b : Block) → b.file ≡ file → f b ≡ g b) → Each (λ (b : Block). b.file ≡ file) xs → Each (λ (b : Block). f b ≡ g b) xs
each_same f g file [] same e = tt
each_same f g file (x ∷ xs) same e = (same x e.0, each_same f g file xs same e.1)

rest_cost : (have : List HaveFile) (tree : List Entry) (most base : ℕ) (es : List Entry) → 0 < most → AllBelow have es → ((k : ℕ) (e : Entry) → slice_get es k ≡ Some e → slice_get tree (base + k) ≡ Some e)
    → sum_by (λ (b : Block). head_cost have (sent_header tree b)) (rest_from have most base es) + weights covered_of (map shrunk have) es ≤ length (rest_from have most base es) + length es
rest_cost have tree most base [] some below at = omega arith
rest_cost have tree most base (e ∷ es) some below at =
    let F : Block → ℕ = λ b. head_cost have (sent_header tree b) in
    let here : slice_get tree base ≡ Some e = subst (λ (n : ℕ). slice_get tree n ≡ Some e) (omega arith) (at 0 e refl) in
    let same = same_sum F (path_cost have e.path) (file_rest have most base e) (each_same F (path_cost have e.path) base (file_rest have most base e) (λ b is. ap (λ (o : Option Entry). head_cost have (header_by o b)) (ap (slice_get tree) is ∙ here)) (own_rest have most base e)) in
    omega (
      arith,
      sum_by-append F (file_rest have most base e) (rest_from have most (base + 1) es),
      length-append (file_rest have most base e) (rest_from have most (base + 1) es),
      same,
      file_cost have most base e some (below 0 e refl),
      count_weight have e.path,
      weights_cons covered_of (map shrunk have) e es,
      rest_cost have tree most (base + 1) es some (λ k x is. below (suc k) x is) (λ k x is. subst (λ (n : ℕ). slice_get tree n ≡ Some x) (omega arith) (at (suc k) x is)),
    )

pub plan_spans : (tree : List Entry) (have : List HaveFile) (most : ℕ) → 0 < most → is_in_order tree ≡ true → FitsTree tree have
    → sum_by (λ (b : Block). head_cost have (sent_header tree b)) (rest_from have most 0 tree) + sum_by span_count have ≤ length (rest_from have most 0 tree) + length tree
plan_spans tree have most some up fit =
    omega (
      arith,
      rest_cost have tree most 0 tree some (λ k e at. spans_below tree have k e up fit.is.sets fit.own fit.within at) (λ k e at. subst (λ (n : ℕ). slice_get tree n ≡ Some e) (omega arith) at),
      weights_all covered_of tree (map shrunk have) up (shrunk_order have ∙ fit.is.rising) (shrunk_all (fits tree) have (fits_shrunk tree) ∙ fit.own),
      shrunk_sum have,
    )
