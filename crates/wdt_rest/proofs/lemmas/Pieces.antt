-- The blocks of one gap of a file.
use Rattle.std.proofs.Common.{◌≡◌, ℕ, zero, suc, ◌+◌, ◌-◌, ◌*◌, ◌/◌, ◌<◌, ◌≤◌, Bool, true, false, cond, ◌||◌, ◌&&◌, ◌==◌, nat_lt, nat_le, min, List, [], ◌∷◌, ◌++◌, count_by, refl, sym, ap, ◌∙◌, arith, inl, inr, subst}
use Rattle.std.specs.List.{list_all, list_any, All}
use Rattle.std.proofs.Math.Nat.{suc-mul, mul-le-mul_right}
use Rattle.std.proofs.lemmas.Bool.{and_parts, and_from, or_left, or_right, cases_lt, eq-eqb, lt-ltb, le-leb}
use Rattle.std.proofs.lemmas.Bool.Decides.{nat_tests}
use Rattle.std.proofs.lemmas.List.Elements.{All-nil, All-push, All-append, All-weaker, All-head, All-tail}
use Rattle.std.proofs.lemmas.List.Folds.{list_any-append}
use Rattle.std.proofs.lemmas.List.Sums.{sum_by_push, AllPass-from_list_all, list_all-from_AllPass}
use Rattle.std.proofs.lemmas.Nat.{div-add-mod'}
use Rattle.wdt_units.specs.Have.{PlainSpan}
use Rattle.wdt_units.specs.declared.blocks.Block.{Block}
use Rattle.wdt_tree.specs.Rest.{holds, is_earlier, is_rising, is_behind}
use Rattle.wdt_rest.specs.RestOf.{pieces_in, piece_at, first_pieces, pieces_of}

-- ---- what is said of the blocks of a part of a file

-- a block has bytes, and they lie between two places of a file
pub record Lies (file low high : ℕ) (b : Block) : Type 0 where
  pub own : b.file ≡ file
  pub from : low ≤ b.offset
  pub some : 0 < b.length
  pub to : b.offset + b.length ≤ high

-- a block begins at its file's start, behind a position that is there, or behind a whole block
abbrev pub starts : ℕ → (ℕ → Bool) → List Block → Block → Bool
starts most there blocks b = b.offset == 0 || there (b.offset - 1) || list_any (is_behind most b) blocks

-- a block is whole, or ends at its file's end or before a position that is there
abbrev pub stops : ℕ → ℕ → (ℕ → Bool) → Block → Bool
stops most size there b = b.length == most || b.offset + b.length == size || there (b.offset + b.length)

-- a block of a file of this size is cut as the rest is
abbrev pub is_cut_in : ℕ → ℕ → (ℕ → Bool) → List Block → Block → Bool
is_cut_in most size there blocks b = nat_le b.length most && starts most there blocks b && stops most size there b

abbrev pub AllCut : ℕ → ℕ → (ℕ → Bool) → List Block → List Block → Type 0
AllCut most size there blocks = All (λ b. is_cut_in most size there blocks b ≡ true)

-- the blocks of a part of a file: they have exactly these positions
pub record IsPart (most file size : ℕ) (there : ℕ → Bool) (low high : ℕ) (lacks : ℕ → Bool) (blocks : List Block) : Type 0 where
  pub lies : All (Lies file low high) blocks
  pub rising : is_rising blocks ≡ true
  pub exact : (position : ℕ) → count_by (holds file position) blocks ≡ cond (lacks position) 1 0
  pub cut : AllCut most size there blocks blocks

-- ---- where a gap's blocks begin

pieces_reach : (count most : ℕ) → 0 < most → count ≤ (count + most - 1) / most * most
pieces_reach count most some = omega (arith, div-add-mod' (count + most - 1) most)

piece_begins : (count most k : ℕ) → 0 < most → k < (count + most - 1) / most → k * most < count
piece_begins count most k some h =
    omega (arith, div-add-mod' (count + most - 1) most, suc-mul k most, mul-le-mul_right {m = suc k} {n = (count + most - 1) / most} most (omega arith))

-- ---- which positions they have

same_file : (file : ℕ) → (file == file) ≡ true
same_file file = eq-eqb file file refl

position_step : (p low count m most : ℕ) → cond (nat_le low p && nat_lt p (low + count) && nat_lt p (low + m)) 1 0 + cond (nat_le (low + m) p && nat_lt p (low + m + min most (count - m))) 1 0
    ≡ cond (nat_le low p && nat_lt p (low + count) && nat_lt p (low + (m + most))) 1 0
position_step p low count m most = grind (arith, nat_tests)

count_first : (most file : ℕ) (gap : PlainSpan) (position n : ℕ) → count_by (holds file position) (first_pieces most file gap n)
    ≡ cond (nat_le gap.offset position && nat_lt position (gap.offset + gap.count) && nat_lt position (gap.offset + n * most)) 1 0
count_first most file gap position zero = grind (arith, nat_tests)
count_first most file gap position (suc n) =
    sum_by_push (λ b. cond (holds file position b) 1 0) (first_pieces most file gap n) (piece_at most file gap n)
    ∙ ap (λ c. c + cond (holds file position (piece_at most file gap n)) 1 0) (count_first most file gap position n)
    ∙ ap (λ (t : Bool). before + cond (t && nat_le (gap.offset + n * most) position && nat_lt position (gap.offset + n * most + min most (gap.count - n * most))) 1 0) (same_file file)
    ∙ position_step position gap.offset gap.count (n * most) most
    ∙ ap (λ m. cond (nat_le gap.offset position && nat_lt position (gap.offset + gap.count) && nat_lt position (gap.offset + m)) 1 0) (sym (suc-mul n most))
  where
    before : ℕ
    before = cond (nat_le gap.offset position && nat_lt position (gap.offset + gap.count) && nat_lt position (gap.offset + n * most)) 1 0

count_whole : (most file : ℕ) (gap : PlainSpan) (position : ℕ) → 0 < most → count_by (holds file position) (pieces_of most file gap) ≡ cond (nat_le gap.offset position && nat_lt position (gap.offset + gap.count)) 1 0
count_whole most file gap position some =
    count_first most file gap position (pieces_in most gap) ∙ enough (pieces_in most gap * most) (pieces_reach gap.count most some)
  where
    enough : (m : ℕ) → gap.count ≤ m
        → ◌≡◌ {A = ℕ} (cond (nat_le gap.offset position && nat_lt position (gap.offset + gap.count) && nat_lt position (gap.offset + m)) 1 0) (cond (nat_le gap.offset position && nat_lt position (gap.offset + gap.count)) 1 0)
    enough m le = grind (arith, nat_tests)

-- ---- where they lie, and that they rise

pub rising_append : (xs ys : List Block) → is_rising xs ≡ true → is_rising ys ≡ true → All (λ b. All (λ c. is_earlier b c ≡ true) ys) xs → is_rising (xs ++ ys) ≡ true
rising_append [] ys up down apart = down
rising_append (x ∷ xs) ys up down apart =
    let parts : (list_all (is_earlier x) xs ≡ true) × (is_rising xs ≡ true) = and_parts (list_all (is_earlier x) xs) (is_rising xs) up in
    and_from (list_all (is_earlier x) (xs ++ ys)) (is_rising (xs ++ ys))
    (list_all-from_AllPass (is_earlier x) (xs ++ ys) (All-append (λ c. is_earlier x c ≡ true) xs ys (AllPass-from_list_all (is_earlier x) xs parts.0) (All-head (λ b. All (λ c. is_earlier b c ≡ true) ys) x xs apart)))
    (rising_append xs ys parts.1 down (All-tail (λ b. All (λ c. is_earlier b c ≡ true) ys) x xs apart))

-- a block is one of the first blocks of a gap
record IsPiece (most file : ℕ) (gap : PlainSpan) (n : ℕ) (b : Block) : Type 0 where
  number : ℕ
  below : number < n
  is : b ≡ piece_at most file gap number

piece_more : (most file : ℕ) (gap : PlainSpan) (n : ℕ) (b : Block) → IsPiece most file gap n b → IsPiece most file gap (suc n) b
piece_more most file gap n b f = record { number = f.number; below = omega (arith, f.below); is = f.is }

are_pieces : (most file : ℕ) (gap : PlainSpan) (n : ℕ) → All (IsPiece most file gap n) (first_pieces most file gap n)
are_pieces most file gap zero = All-nil (IsPiece most file gap zero)
are_pieces most file gap (suc n) =
    All-push (IsPiece most file gap (suc n)) (first_pieces most file gap n) (piece_at most file gap n)
    (All-weaker (IsPiece most file gap n) (IsPiece most file gap (suc n)) (piece_more most file gap n) (first_pieces most file gap n) (are_pieces most file gap n))
    (record { number = n; below = omega arith; is = refl })

same_earlier : (b c : Block) → b.file ≡ c.file → b.offset < c.offset → is_earlier b c ≡ true
same_earlier b c file lt =
    or_right (nat_lt b.file c.file) (b.file == c.file && nat_lt b.offset c.offset)
    (and_from (b.file == c.file) (nat_lt b.offset c.offset) (eq-eqb b.file c.file file) (lt-ltb b.offset c.offset lt))

pub lies_earlier : (file low mid from high : ℕ) (b c : Block) → mid ≤ from → Lies file low mid b → Lies file from high c → is_earlier b c ≡ true
lies_earlier file low mid from high b c le f g = same_earlier b c (f.own ∙ sym g.own) (omega (arith, f.some, f.to, g.from))

piece_earlier : (most file : ℕ) (gap : PlainSpan) (n : ℕ) → 0 < most → (b : Block) → IsPiece most file gap n b → is_earlier b (piece_at most file gap n) ≡ true
piece_earlier most file gap n some b f =
    subst (λ (x : Block). is_earlier x (piece_at most file gap n) ≡ true) (sym f.is)
    (same_earlier (piece_at most file gap f.number) (piece_at most file gap n) refl
    (omega (arith, suc-mul f.number most, mul-le-mul_right {m = suc f.number} {n = n} most (omega (arith, f.below)))))

first_rising : (most file : ℕ) (gap : PlainSpan) (n : ℕ) → 0 < most → is_rising (first_pieces most file gap n) ≡ true
first_rising most file gap zero some = refl
first_rising most file gap (suc n) some =
    rising_append (first_pieces most file gap n) (piece_at most file gap n ∷ []) (first_rising most file gap n some) refl
    (All-weaker (IsPiece most file gap n) (λ b. All (λ c. is_earlier b c ≡ true) (piece_at most file gap n ∷ []))
    (λ b f. All-push (λ c. is_earlier b c ≡ true) [] (piece_at most file gap n) (All-nil (λ c. is_earlier b c ≡ true)) (piece_earlier most file gap n some b f))
    (first_pieces most file gap n) (are_pieces most file gap n))

piece_lies : (most file : ℕ) (gap : PlainSpan) → 0 < most → (b : Block) → IsPiece most file gap (pieces_in most gap) b → Lies file gap.offset (gap.offset + gap.count) b
piece_lies most file gap some b f =
    let begin : f.number * most < gap.count = piece_begins gap.count most f.number some f.below in
    subst (Lies file gap.offset (gap.offset + gap.count)) (sym f.is) (record { own = refl; from = omega arith; some = omega arith; to = omega arith })

-- ---- how they are cut

first_has : (p : Block → Bool) (most file : ℕ) (gap : PlainSpan) (n j : ℕ) → j < n → p (piece_at most file gap j) ≡ true → list_any p (first_pieces most file gap n) ≡ true
first_has p most file gap zero j lt h = absurd (omega arith)
first_has p most file gap (suc n) j lt h =
    list_any-append p (first_pieces most file gap n) (piece_at most file gap n ∷ []) ∙ elim (cases_lt j n) [
      | inl less ↦ or_left (list_any p (first_pieces most file gap n)) (list_any p (piece_at most file gap n ∷ [])) (first_has p most file gap n j less h)
      | inr last ↦
          let same : j ≡ n = omega arith in
          or_right (list_any p (first_pieces most file gap n)) (list_any p (piece_at most file gap n ∷ []))
          (or_left (p (piece_at most file gap n)) false (subst (λ k. p (piece_at most file gap k) ≡ true) same h))
    ]

behind : (most file : ℕ) (gap : PlainSpan) (j : ℕ) → suc j * most < gap.count → is_behind most (piece_at most file gap (suc j)) (piece_at most file gap j) ≡ true
behind most file gap j lt =
    let m : suc j * most ≡ j * most + most = suc-mul j most in
    let long : min most (gap.count - j * most) ≡ most = omega arith in
    and_from ((file == file) && (min most (gap.count - j * most) == most)) (gap.offset + j * most + min most (gap.count - j * most) == gap.offset + suc j * most)
    (and_from (file == file) (min most (gap.count - j * most) == most) (same_file file) (eq-eqb (min most (gap.count - j * most)) most long))
    (eq-eqb (gap.offset + j * most + min most (gap.count - j * most)) (gap.offset + suc j * most) (omega arith))

-- what is said of a gap's start and of its end
pub record IsGap (size : ℕ) (there : ℕ → Bool) (gap : PlainSpan) : Type 0 where
  pub start : (gap.offset == 0 || there (gap.offset - 1)) ≡ true
  pub end : (gap.offset + gap.count == size || there (gap.offset + gap.count)) ≡ true

piece_starts : (most file size : ℕ) (there : ℕ → Bool) (gap : PlainSpan) (number : ℕ) → 0 < most → IsGap size there gap → number < pieces_in most gap
    → starts most there (pieces_of most file gap) (piece_at most file gap number) ≡ true
piece_starts most file size there gap zero some is lt =
    let at : gap.offset ≡ gap.offset + 0 * most = omega arith in
    or_left (gap.offset + 0 * most == 0 || there (gap.offset + 0 * most - 1)) (list_any (is_behind most (piece_at most file gap 0)) (pieces_of most file gap))
    (subst (λ n. (n == 0 || there (n - 1)) ≡ true) at is.start)
piece_starts most file size there gap (suc j) some is lt =
    or_right (gap.offset + suc j * most == 0 || there (gap.offset + suc j * most - 1)) (list_any (is_behind most (piece_at most file gap (suc j))) (pieces_of most file gap))
    (first_has (is_behind most (piece_at most file gap (suc j))) most file gap (pieces_in most gap) j (omega arith)
    (behind most file gap j (piece_begins gap.count most (suc j) some lt)))

piece_stops : (most file size : ℕ) (there : ℕ → Bool) (gap : PlainSpan) (number : ℕ) → 0 < most → IsGap size there gap → number < pieces_in most gap
    → stops most size there (piece_at most file gap number) ≡ true
piece_stops most file size there gap number some is lt =
    let begin : number * most < gap.count = piece_begins gap.count most number some lt in
    elim (cases_lt (gap.count - number * most) most) [
      | inl short ↦
          let at : gap.offset + gap.count ≡ gap.offset + number * most + length = omega arith in
          last (length == most) (gap.offset + number * most + length == size) (there (gap.offset + number * most + length))
          (subst (λ n. (n == size || there n) ≡ true) at is.end)
      | inr long ↦ or_left (length == most || gap.offset + number * most + length == size) (there (gap.offset + number * most + length))
          (or_left (length == most) (gap.offset + number * most + length == size) (eq-eqb length most (omega arith)))
    ]
  where
    length : ℕ
    length = min most (gap.count - number * most)

    last : (a b c : Bool) → (b || c) ≡ true → (a || b || c) ≡ true
    last true b c h = refl
    last false b c h = h

piece_cut : (most file size : ℕ) (there : ℕ → Bool) (gap : PlainSpan) → 0 < most → IsGap size there gap → (b : Block) → IsPiece most file gap (pieces_in most gap) b
    → is_cut_in most size there (pieces_of most file gap) b ≡ true
piece_cut most file size there gap some is b f =
    subst (λ (x : Block). is_cut_in most size there (pieces_of most file gap) x ≡ true) (sym f.is)
    (and_from (nat_le block.length most && starts most there (pieces_of most file gap) block) (stops most size there block)
    (and_from (nat_le block.length most) (starts most there (pieces_of most file gap) block) (le-leb block.length most (omega arith)) (piece_starts most file size there gap f.number some is f.below))
    (piece_stops most file size there gap f.number some is f.below))
  where
    block : Block
    block = piece_at most file gap f.number

pub pieces_part : (most file size : ℕ) (there : ℕ → Bool) (gap : PlainSpan) → 0 < most → IsGap size there gap
    → IsPart most file size there gap.offset (gap.offset + gap.count) (λ p. nat_le gap.offset p && nat_lt p (gap.offset + gap.count)) (pieces_of most file gap)
pieces_part most file size there gap some is = record {
  lies = All-weaker (IsPiece most file gap (pieces_in most gap)) (Lies file gap.offset (gap.offset + gap.count)) (piece_lies most file gap some) (pieces_of most file gap) (are_pieces most file gap (pieces_in most gap));
  rising = first_rising most file gap (pieces_in most gap) some;
  exact = λ position. count_whole most file gap position some;
  cut = All-weaker (IsPiece most file gap (pieces_in most gap)) (λ b. is_cut_in most size there (pieces_of most file gap) b ≡ true) (piece_cut most file size there gap some is) (pieces_of most file gap)
      (are_pieces most file gap (pieces_in most gap));
}
