-- The same blocks in any order: they have as many bytes, and the same files.
use Rattle.std.proofs.Common.{◌≡◌, ℕ, zero, suc, ◌+◌, ◌<◌, Bool, true, false, cond, ◌||◌, ◌&&◌, ◌==◌, List, [], ◌∷◌, ◌++◌, sum_by, count_by, refl, sym, ap, ◌∙◌, arith, inl, inr, subst}
use Rattle.std.specs.List.{list_any, All}
use Rattle.std.specs.List.Sorted.{IsPermutation}
use Rattle.std.proofs.lemmas.Bool.{and_right, cases_lt, eq-eqb, ne_eqb, eqb-true}
use Rattle.std.proofs.lemmas.List.Elements.{All-head, All-tail}
use Rattle.std.proofs.lemmas.List.Sorted.{IsPermutation-refl, IsPermutation-sym, IsPermutation-cons, IsPermutation-trans, IsPermutation-middle, All-permutation, sum_by-IsPermutation, list_any-IsPermutation}
use Rattle.std.proofs.lemmas.List.Sums.{sum_by-cons, get_or-le-sum_by}
use Rattle.wdt_units.specs.Have.{HaveFile, is_named}
use Rattle.wdt_claims.specs.Blocks.{is_same, count_of, HaveSameBlocks}
use Rattle.wdt_units.specs.declared.blocks.Block.{Block}
use Rattle.wdt_claims.proofs.Shared.{one_block, same_itself, count_of-nil, count_of-cons, count_of-append, one_if-true, one_if-false}
use Rattle.wdt_tree.specs.declared.entry.Entry.{Entry}
use Rattle.wdt_rest.specs.Together.{length_of, is_of, is_new, files_of, AreTogether}

-- ---- lists with the same blocks are one list in two orders

-- where a block stands in a list
record Split (b : Block) (ys : List Block) : Type 0 where
  before : List Block
  behind : List Block
  is : ys ≡ before ++ b ∷ behind

split : (b : Block) (ys : List Block) → 0 < count_of b ys → Split b ys
split b [] some = absurd (omega (arith, some, count_of-nil b))
split b (y ∷ ys) some = go (is_same b y) refl (λ later. split b ys later)
  where
    go : (t : Bool) → is_same b y ≡ t → (0 < count_of b ys → Split b ys) → Split b (y ∷ ys)
    go true h later = record { before = []; behind = ys; is = ap (λ (z : Block). z ∷ ys) (sym (one_block b y h)) }
    go false h later =
        let rest : Split b ys = later (omega (arith, some, count_of-cons b y ys, one_if-false b y h)) in
        record { before = y ∷ rest.before; behind = rest.behind; is = ap (λ zs. y ∷ zs) rest.is }

stands : (x : Block) (xs : List Block) → 0 < count_of x (x ∷ xs)
stands x xs = omega (arith, count_of-cons x x xs, one_if-true x x (same_itself x))

pub permuted : (xs ys : List Block) → HaveSameBlocks xs ys → IsPermutation xs ys
permuted [] [] h = IsPermutation-refl []
permuted [] (y ∷ ys) h = absurd (omega (arith, stands y ys, h y, count_of-nil y))
permuted (x ∷ xs) ys h =
    let at : Split x ys = split x ys (omega (arith, stands x xs, h x)) in
    let rest : HaveSameBlocks xs (at.before ++ at.behind) =
    λ b. omega (
      arith,
      h b,
      ap (count_of b) at.is,
      count_of-cons b x xs,
      count_of-append b at.before (x ∷ at.behind),
      count_of-cons b x at.behind,
      count_of-append b at.before at.behind,
    ) in
    subst (IsPermutation (x ∷ xs)) (sym at.is)
    (IsPermutation-trans (x ∷ xs) (x ∷ (at.before ++ at.behind)) (at.before ++ x ∷ at.behind)
    (IsPermutation-cons x xs (at.before ++ at.behind) (permuted xs (at.before ++ at.behind) rest))
    (IsPermutation-sym (at.before ++ x ∷ at.behind) (x ∷ (at.before ++ at.behind)) (IsPermutation-middle at.before x at.behind)))

-- ---- files counted by their numbers

-- of the numbers below n, those that pass a test and have a block
places : ℕ → (ℕ → Bool) → List Block → ℕ
places zero q bs = 0
places (suc n) q bs = places n q bs + cond (q n && list_any (is_of n) bs) 1 0

places_none : (q : ℕ → Bool) (bs : List Block) → places 0 q bs ≡ 0
unfolding places
places_none q bs = refl

places_more : (n : ℕ) (q : ℕ → Bool) (bs : List Block) → places (suc n) q bs ≡ places n q bs + cond (q n && list_any (is_of n) bs) 1 0
unfolding places
places_more n q bs = refl

counted_same : (a s t : Bool) → s ≡ t → ◌≡◌ {A = ℕ} (cond (a && s) 1 0) (cond (a && t) 1 0)
counted_same a s t e = ap (λ (b : Bool). cond (a && b) 1 0) e

places_same : (n : ℕ) (q : ℕ → Bool) (xs ys : List Block) → ((k : ℕ) → k < n → list_any (is_of k) xs ≡ list_any (is_of k) ys) → places n q xs ≡ places n q ys
places_same zero q xs ys h = places_none q xs ∙ sym (places_none q ys)
places_same (suc n) q xs ys h =
    omega (
      arith,
      places_more n q xs,
      places_more n q ys,
      places_same n q xs ys (λ k lt. h k (omega (arith, lt))),
      counted_same (q n) (list_any (is_of n) xs) (list_any (is_of n) ys) (h n (omega arith)),
    )

places_nil : (n : ℕ) (q : ℕ → Bool) → places n q [] ≡ 0
places_nil zero q = places_none q []
places_nil (suc n) q = omega (arith, places_more n q [], places_nil n q, ap {B = ℕ} (λ (t : Bool). cond t 1 0) (and_right (q n) false refl))

-- a block of a number's file, or of none
other_file : (b : Block) (bs : List Block) (k : ℕ) → (b.file ≡ k → ⊥) → list_any (is_of k) (b ∷ bs) ≡ list_any (is_of k) bs
other_file b bs k apart = ap (λ (t : Bool). t || list_any (is_of k) bs) (ne_eqb b.file k apart)

old_file : (b : Block) (bs : List Block) (k : ℕ) → list_any (is_of b.file) bs ≡ true → list_any (is_of k) (b ∷ bs) ≡ list_any (is_of k) bs
old_file b bs k has = go (b.file == k) refl
  where
    go : (t : Bool) → (b.file == k) ≡ t → (t || list_any (is_of k) bs) ≡ list_any (is_of k) bs
    go true h = sym (subst (λ n. list_any (is_of n) bs ≡ true) (eqb-true b.file k h) has)
    go false h = refl

places_new : (n : ℕ) (q : ℕ → Bool) (b : Block) (bs : List Block) → b.file < n → list_any (is_of b.file) bs ≡ false → places n q (b ∷ bs) ≡ cond (q b.file) 1 0 + places n q bs
places_new zero q b bs lt none = absurd (omega arith)
places_new (suc n) q b bs lt none = elim (cases_lt b.file n) [
  | inl less ↦ omega (
    arith,
    places_more n q (b ∷ bs),
    places_more n q bs,
    places_new n q b bs less none,
    counted_same (q n) (list_any (is_of n) (b ∷ bs)) (list_any (is_of n) bs) (other_file b bs n (λ e. omega (arith, e, less))),
  )
  | inr last ↦
      let is : b.file ≡ n = omega arith in
      let here : list_any (is_of n) (b ∷ bs) ≡ true = ap (λ (t : Bool). t || list_any (is_of n) bs) (eq-eqb b.file n is) in
      let missing : list_any (is_of n) bs ≡ false = subst (λ k. list_any (is_of k) bs ≡ false) is none in
      omega (
        arith,
        places_more n q (b ∷ bs),
        places_more n q bs,
        places_same n q (b ∷ bs) bs (λ k less. other_file b bs k (λ e. omega (arith, e, less, is))),
        counted_same (q n) (list_any (is_of n) (b ∷ bs)) true here,
        counted_same (q n) (list_any (is_of n) bs) false missing,
        with_true (q n),
        with_false (q n),
        ap {B = ℕ} (λ k. cond (q k) 1 0) is,
      )
]
  where
    with_true : (a : Bool) → ◌≡◌ {A = ℕ} (cond (a && true) 1 0) (cond a 1 0)
    with_true true = refl
    with_true false = refl

    with_false : (a : Bool) → ◌≡◌ {A = ℕ} (cond (a && false) 1 0) 0
    with_false true = refl
    with_false false = refl

counted : (n : ℕ) (q : ℕ → Bool) (bs : List Block) → All (λ (b : Block). b.file < n) bs → count_by q (files_of bs) ≡ places n q bs
counted n q [] below = sym (places_nil n q)
counted n q (b ∷ bs) below =
    go (list_any (is_of b.file) bs) refl (counted n q bs (All-tail (λ (x : Block). x.file < n) b bs below))
  where
    go : (t : Bool) → list_any (is_of b.file) bs ≡ t → count_by q (files_of bs) ≡ places n q bs → count_by q (cond t (files_of bs) (b.file ∷ files_of bs)) ≡ places n q (b ∷ bs)
    go true h rest = rest ∙ sym (places_same n q (b ∷ bs) bs (λ k lt. old_file b bs k h))
    go false h rest = omega (
      arith,
      rest,
      sum_by-cons (λ k. cond (q k) 1 0) b.file (files_of bs),
      places_new n q b bs (All-head (λ (x : Block). x.file < n) b bs below) h,
    )

file_of : Block → ℕ
file_of b = b.file

bounded : (xs : List Block) → All (λ (b : Block). b.file < sum_by file_of xs + 1) xs
unfolding file_of
bounded xs k d lt = omega (arith, get_or-le-sum_by file_of xs k d lt)

pub same_files : (q : ℕ → Bool) (xs ys : List Block) → IsPermutation xs ys → count_by q (files_of ys) ≡ count_by q (files_of xs)
same_files q xs ys p =
    counted n q ys (All-permutation (λ (b : Block). b.file < n) xs ys p (bounded xs))
    ∙ places_same n q ys xs (λ k lt. sym (list_any-IsPermutation (is_of k) xs ys p))
    ∙ sym (counted n q xs (bounded xs))
  where
    n : ℕ
    n = sum_by file_of xs + 1

-- ---- together with a have

pub any_order : (entries : List Entry) (have : List HaveFile) (xs ys : List Block) → HaveSameBlocks xs ys → AreTogether entries have xs → AreTogether entries have ys
any_order entries have xs ys same f = record {
  bytes = omega (arith, f.bytes, sum_by-IsPermutation length_of xs ys p);
  files = omega (arith, f.files, same_files (is_new entries have) xs ys p);
  each = λ file entry at. ap (λ (t : Bool). is_named have entry.path || t) (sym (list_any-IsPermutation (is_of file) xs ys p)) ∙ f.each file entry at;
}
  where
    p : IsPermutation xs ys
    p = permuted xs ys same
