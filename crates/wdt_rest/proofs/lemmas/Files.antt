-- The files of the blocks of a tree, each once.
use Rattle.std.proofs.Common.{◌≡◌, ℕ, zero, suc, ◌+◌, ◌<◌, ◌≤◌, Bool, true, false, not, cond, ◌||◌, ◌&&◌, ◌==◌, List, [], ◌∷◌, ◌++◌, length, sum_by, count_by, slice_get, Some, refl, sym, ap, ◌∙◌, arith, subst}
use Rattle.std.specs.List.{list_any, All}
use Rattle.std.proofs.lemmas.Bool.{or_left, or_right, eq-eqb, ne_eqb}
use Rattle.std.proofs.lemmas.List.Elements.{All-nil, All-push, All-append, All-weaker, All-head, All-tail}
use Rattle.std.proofs.lemmas.List.Folds.{list_any-append}
use Rattle.std.proofs.lemmas.List.Sums.{sum_by-cons}
use Rattle.wdt_units.specs.Have.{PlainSpan, HaveFile, is_named}
use Rattle.wdt_units.specs.declared.blocks.Block.{Block}
use Rattle.wdt_tree.specs.declared.entry.Entry.{Entry}
use Rattle.wdt_ranges.specs.Spans.{total_of}
use Rattle.wdt_rest.specs.RestOf.{pieces_in, piece_at, first_pieces, pieces_of, gap_pieces, spans_of, gaps_in, is_new_empty, empty_block, file_rest, rest_from}
use Rattle.wdt_rest.specs.Together.{covered_of, length_of, is_of, files_of}
use Rattle.wdt_rest.proofs.lemmas.Paths.{AreBelow, one, weight_at, weight_total, weight_named, weight_unnamed, weights, weights_cons}
use Rattle.wdt_rest.proofs.lemmas.Bytes.{file_bytes, AllBelow}

-- ---- blocks of one file, and of later ones

abbrev Own : ℕ → List Block → Type 0
Own file = All (λ (b : Block). b.file ≡ file)

abbrev Later : ℕ → List Block → Type 0
Later file = All (λ (b : Block). file ≤ b.file)

own_first : (most file : ℕ) (gap : PlainSpan) (n : ℕ) → Own file (first_pieces most file gap n)
own_first most file gap zero = All-nil (λ (b : Block). b.file ≡ file)
own_first most file gap (suc n) = All-push (λ (b : Block). b.file ≡ file) (first_pieces most file gap n) (piece_at most file gap n) (own_first most file gap n) refl

own_gaps : (most file : ℕ) (gaps : List PlainSpan) → Own file (gap_pieces most file gaps)
own_gaps most file [] = All-nil (λ (b : Block). b.file ≡ file)
own_gaps most file (g ∷ gs) = All-append (λ (b : Block). b.file ≡ file) (pieces_of most file g) (gap_pieces most file gs) (own_first most file g (pieces_in most g)) (own_gaps most file gs)

own_rest : (have : List HaveFile) (most file : ℕ) (entry : Entry) → Own file (file_rest have most file entry)
own_rest have most file entry = go (is_new_empty have entry)
  where
    go : (b : Bool) → Own file (cond b (empty_block file ∷ []) (gap_pieces most file (gaps_in have entry)))
    go true = All-push (λ (b : Block). b.file ≡ file) [] (empty_block file) (All-nil (λ (b : Block). b.file ≡ file)) refl
    go false = own_gaps most file (gaps_in have entry)

later_rest : (have : List HaveFile) (most base : ℕ) (es : List Entry) → Later base (rest_from have most base es)
later_rest have most base [] = All-nil (λ (b : Block). base ≤ b.file)
later_rest have most base (e ∷ es) =
    All-append (λ (b : Block). base ≤ b.file) (file_rest have most base e) (rest_from have most (base + 1) es)
    (All-weaker (λ (b : Block). b.file ≡ base) (λ (b : Block). base ≤ b.file) (λ b f. omega (arith, f)) (file_rest have most base e) (own_rest have most base e))
    (All-weaker (λ (b : Block). base + 1 ≤ b.file) (λ (b : Block). base ≤ b.file) (λ b f. omega (arith, f)) (rest_from have most (base + 1) es) (later_rest have most (base + 1) es))

none_of : (file : ℕ) (bs : List Block) → Later (file + 1) bs → list_any (is_of file) bs ≡ false
none_of file [] later = refl
none_of file (b ∷ bs) later =
    let past : file + 1 ≤ b.file = All-head (λ (x : Block). file + 1 ≤ x.file) b bs later in
    ap (λ (t : Bool). t || list_any (is_of file) bs) (ne_eqb b.file file (λ e. omega (arith, past))) ∙ none_of file bs (All-tail (λ (x : Block). file + 1 ≤ x.file) b bs later)

-- ---- counting files once

-- where a test of a file says yes only if the blocks have one of it, they count for one if it says yes
count_more : (q : ℕ → Bool) (file : ℕ) (xs ys : List Block) → Own file xs → Later (file + 1) ys → (q file ≡ true → list_any (is_of file) xs ≡ true)
    → count_by q (files_of (xs ++ ys)) ≡ cond (q file) 1 0 + count_by q (files_of ys)
count_more q file [] ys own later has = go (q file) refl has
  where
    go : (b : Bool) → q file ≡ b → (b ≡ true → list_any (is_of file) [] ≡ true) → count_by q (files_of ys) ≡ cond b 1 0 + count_by q (files_of ys)
    go true h f = let e : false ≡ true = f refl in cc
    go false h f = omega arith
count_more q file (x ∷ []) ys own later has =
    let is : x.file ≡ file = All-head (λ (b : Block). b.file ≡ file) x [] own in
    let none : list_any (is_of x.file) ys ≡ false = subst (λ n. list_any (is_of n) ys ≡ false) (sym is) (none_of file ys later) in
    ap (λ (t : Bool). count_by q (cond t (files_of ys) (x.file ∷ files_of ys))) none
    ∙ sum_by-cons (λ n. cond (q n) 1 0) x.file (files_of ys)
    ∙ ap (λ n. cond (q n) 1 0 + count_by q (files_of ys)) is
count_more q file (x ∷ (y ∷ xs)) ys own later has =
    let is : x.file ≡ file = All-head (λ (b : Block). b.file ≡ file) x (y ∷ xs) own in
    let rest : Own file (y ∷ xs) = All-tail (λ (b : Block). b.file ≡ file) x (y ∷ xs) own in
    let next : y.file ≡ file = All-head (λ (b : Block). b.file ≡ file) y xs rest in
    let again : list_any (is_of x.file) (y ∷ (xs ++ ys)) ≡ true = or_left (y.file == x.file) (list_any (is_of x.file) (xs ++ ys)) (eq-eqb y.file x.file (next ∙ sym is)) in
    ap (λ (t : Bool). count_by q (cond t (files_of (y ∷ (xs ++ ys))) (x.file ∷ files_of (y ∷ (xs ++ ys))))) again
    ∙ count_more q file (y ∷ xs) ys rest later (λ yes. or_left (y.file == file) (list_any (is_of file) xs) (eq-eqb y.file file next))

-- ---- a file that isn't named has a block

some_own : (file : ℕ) (bs : List Block) → Own file bs → 0 < sum_by length_of bs → list_any (is_of file) bs ≡ true
some_own file [] own some = absurd (omega (arith, some))
some_own file (b ∷ bs) own some = or_left (b.file == file) (list_any (is_of file) bs) (eq-eqb b.file file (All-head (λ (x : Block). x.file ≡ file) b bs own))

pub has_block : (have : List HaveFile) (most file : ℕ) (entry : Entry) → 0 < most → AreBelow entry.size (spans_of have entry.path) → is_named have entry.path ≡ false → list_any (is_of file) (file_rest have most file entry) ≡ true
has_block have most file entry some below new = go (entry.size == 0) refl
  where
    none : total_of (spans_of have entry.path) ≡ 0
    none = weight_total have entry.path ∙ weight_unnamed covered_of have entry.path new

    go : (b : Bool) → (entry.size == 0) ≡ b → list_any (is_of file) (file_rest have most file entry) ≡ true
    go true h =
        let yes : is_new_empty have entry ≡ true = ap (λ (t : Bool). t && not (is_named have entry.path)) h ∙ ap not new in
        ap (λ (t : Bool). list_any (is_of file) (cond t (empty_block file ∷ []) (gap_pieces most file (gaps_in have entry)))) yes ∙ or_left (file == file) false (eq-eqb file file refl)
    go false h =
        let full : 0 < entry.size = positive entry.size h in
        some_own file (file_rest have most file entry) (own_rest have most file entry) (omega (arith, file_bytes have most file entry some below, none))
      where
        positive : (n : ℕ) → (n == 0) ≡ false → 0 < n
        positive zero e = let t : true ≡ false = e in cc
        positive (suc n) e = omega arith

-- ---- the files of a tree

-- a test of files says of each number whether its file isn't named
abbrev pub IsNew : (ℕ → Bool) → List HaveFile → ℕ → List Entry → Type 0
IsNew q have base es = (k : ℕ) (e : Entry) → slice_get es k ≡ Some e → q (base + k) ≡ not (is_named have e.path)

pub rest_files : (q : ℕ → Bool) (have : List HaveFile) (most base : ℕ) (es : List Entry) → 0 < most → AllBelow have es → IsNew q have base es
    → count_by q (files_of (rest_from have most base es)) + weights one have es ≡ length es
rest_files q have most base [] some below new = refl
rest_files q have most base (e ∷ es) some below new =
    omega (
      arith,
      count_more q base (file_rest have most base e) (rest_from have most (base + 1) es) (own_rest have most base e) (later_rest have most (base + 1) es)
          (λ yes. has_block have most base e some (below 0 e refl) (unnamed (is_named have e.path) (sym here ∙ yes))),
      weights_cons one have e es,
      each (q base) (is_named have e.path) (weight_at one have e.path) here (weight_named have e.path),
      rest_files q have most (base + 1) es some (λ k x at. below (suc k) x at)
          (λ k x at. let same : base + 1 + k ≡ base + suc k = omega arith in ap q same ∙ new (suc k) x at),
    )
  where
    here : q base ≡ not (is_named have e.path)
    here = let same : base ≡ base + 0 = omega arith in ap q same ∙ new 0 e refl

    unnamed : (b : Bool) → not b ≡ true → b ≡ false
    unnamed true h = sym h
    unnamed false h = refl

    each : (a b : Bool) (w : ℕ) → a ≡ not b → w ≡ cond b 1 0 → cond a 1 0 + w ≡ 1
    each true true w h k = cc
    each true false w h k = omega (arith, k)
    each false true w h k = omega (arith, k)
    each false false w h k = cc

-- each file of the tree is named or has a block
pub rest_each : (have : List HaveFile) (most base : ℕ) (es : List Entry) (k : ℕ) (e : Entry) → 0 < most → AllBelow have es → slice_get es k ≡ Some e
    → (is_named have e.path || list_any (is_of (base + k)) (rest_from have most base es)) ≡ true
rest_each have most base [] k e some below at = cc
rest_each have most base (x ∷ xs) zero e some below at =
    let is : x ≡ e = cc in
    subst (λ (y : Entry). (is_named have y.path || list_any (is_of (base + 0)) (rest_from have most base (x ∷ xs))) ≡ true) is (go (is_named have x.path) refl)
  where
    go : (b : Bool) → is_named have x.path ≡ b → (b || list_any (is_of (base + 0)) (rest_from have most base (x ∷ xs))) ≡ true
    go true h = refl
    go false h =
        let same : base ≡ base + 0 = omega arith in
        subst (λ n. list_any (is_of n) (rest_from have most base (x ∷ xs)) ≡ true) same
        (list_any-append (is_of base) (file_rest have most base x) (rest_from have most (base + 1) xs)
        ∙ or_left (list_any (is_of base) (file_rest have most base x)) (list_any (is_of base) (rest_from have most (base + 1) xs)) (has_block have most base x some (below 0 x refl) h))
rest_each have most base (x ∷ xs) (suc k) e some below at =
    go (is_named have e.path) (rest_each have most (base + 1) xs k e some (λ j y h. below (suc j) y h) at)
  where
    go : (b : Bool) → (b || list_any (is_of (base + 1 + k)) (rest_from have most (base + 1) xs)) ≡ true → (b || list_any (is_of (base + suc k)) (rest_from have most base (x ∷ xs))) ≡ true
    go true h = refl
    go false h =
        let same : base + 1 + k ≡ base + suc k = omega arith in
        list_any-append (is_of (base + suc k)) (file_rest have most base x) (rest_from have most (base + 1) xs)
        ∙ or_right (list_any (is_of (base + suc k)) (file_rest have most base x)) (list_any (is_of (base + suc k)) (rest_from have most (base + 1) xs))
        (subst (λ n. list_any (is_of n) (rest_from have most (base + 1) xs) ≡ true) same h)
