-- The blocks of a whole tree are the rest of it for a destination that has nothing.
use Rattle.std.proofs.Common.{◌≡◌, ℕ, zero, suc, ◌+◌, ◌-◌, ◌*◌, ◌/◌, ◌<◌, ◌≤◌, Bool, true, false, cond, ◌||◌, ◌&&◌, ◌==◌, nat_lt, nat_le, min, List, [], ◌∷◌, ◌++◌, count_by, slice_get, Option, Some, None, refl, sym, ap, ◌∙◌, arith, inl, inr, subst}
use Rattle.std.specs.List.{list_all, list_any, All}
use Rattle.std.proofs.Math.Nat.{suc-mul, mul-le-mul_right, zero-add}
use Rattle.std.proofs.lemmas.Bool.{and_parts, and_from, and_left, or_left, or_right, cond-false, cases_lt, eq-eqb, ne_eqb, lt-ltb, le-leb}
use Rattle.std.proofs.lemmas.Bool.Decides.{nat_tests}
use Rattle.std.proofs.lemmas.List.Elements.{All-nil, All-push, All-append, All-weaker, All-head, All-tail}
use Rattle.std.proofs.lemmas.List.Folds.{list_any-append}
use Rattle.std.proofs.lemmas.List.Sums.{sum_by-append, sum_by_push, AllPass-from_list_all, list_all-from_AllPass}
use Rattle.std.proofs.lemmas.Nat.{div-add-mod'}
use Rattle.wdt_units.specs.declared.blocks.Block.{Block}
use Rattle.wdt_tree.specs.declared.entry.Entry.{Entry}
use Rattle.wdt_tree.specs.Cuts.{blocks_in, block_at, first_cuts, cuts_of, cuts_from, cuts}
use Rattle.wdt_tree.specs.Rest.{lacks_position, is_there, lacks_name, is_end, holds, is_empty_of, is_earlier, is_rising, is_behind, begins, ends, is_cut, IsRest}

-- ---- where a file's blocks begin

ceil_enough : (size most : ℕ) → 0 < most → size ≤ (size + most - 1) / most * most
ceil_enough size most some = omega (arith, div-add-mod' (size + most - 1) most)

ceil_below : (size most k : ℕ) → 0 < most → 0 < size → k < (size + most - 1) / most → k * most < size
ceil_below size most k some full h =
    omega (arith, div-add-mod' (size + most - 1) most, suc-mul k most, mul-le-mul_right {m = suc k} {n = (size + most - 1) / most} most (omega arith))

not_empty : (s : ℕ) → (suc s == 0) ≡ false
not_empty s = ne_eqb (suc s) 0 (λ e. omega arith)

blocks_some : (most s : ℕ) → blocks_in most (suc s) ≡ (suc s + most - 1) / most
blocks_some most s = cond-false {A = ℕ} (suc s == 0) 1 ((suc s + most - 1) / most) (not_empty s)

in_blocks : (most size : ℕ) → 0 < most → size ≤ blocks_in most size * most
in_blocks most zero some = omega arith
in_blocks most (suc s) some = subst (λ n. suc s ≤ n * most) (sym (blocks_some most s)) (ceil_enough (suc s) most some)

starts_below : (most size k : ℕ) → 0 < most → 0 < size → k < blocks_in most size → k * most < size
starts_below most zero k some full h = absurd (omega arith)
starts_below most (suc s) k some full h = ceil_below (suc s) most k some full (subst (λ n. k < n) (blocks_some most s) h)

starts_within : (most size k : ℕ) → 0 < most → k < blocks_in most size → k * most ≤ size
starts_within most zero zero some h = omega arith
starts_within most zero (suc k) some h = absurd (omega arith)
starts_within most (suc s) k some h = omega (arith, starts_below most (suc s) k some (omega arith) h)

-- only a file with bytes has more than one block
later_full : (most size k : ℕ) → suc k < blocks_in most size → 0 < size
later_full most zero k h = absurd (omega arith)
later_full most (suc s) k h = omega arith

-- ---- which positions the first blocks of a file have

same_file : (file : ℕ) → (file == file) ≡ true
same_file file = eq-eqb file file refl

position_step : (p size m most : ℕ) → cond (nat_lt p size && nat_lt p m) 1 0 + cond (nat_le m p && nat_lt p (m + min most (size - m))) 1 0 ≡ cond (nat_lt p size && nat_lt p (m + most)) 1 0
position_step p size m most = grind (arith, nat_tests)

count_first : (most file size position n : ℕ) → count_by (holds file position) (first_cuts most file size n) ≡ cond (nat_lt position size && nat_lt position (n * most)) 1 0
count_first most file size position zero = grind (arith, nat_tests)
count_first most file size position (suc n) =
    sum_by_push (λ b. cond (holds file position b) 1 0) (first_cuts most file size n) (block_at most file size n)
    ∙ ap (λ c. c + cond (holds file position (block_at most file size n)) 1 0) (count_first most file size position n)
    ∙ ap (λ (t : Bool). cond (nat_lt position size && nat_lt position (n * most)) 1 0 + cond (t && nat_le (n * most) position && nat_lt position (n * most + min most (size - n * most))) 1 0) (same_file file)
    ∙ position_step position size (n * most) most
    ∙ ap (λ m. cond (nat_lt position size && nat_lt position m) 1 0) (sym (suc-mul n most))

count_whole : (most file size position : ℕ) → 0 < most → count_by (holds file position) (cuts_of most file size) ≡ cond (nat_lt position size) 1 0
count_whole most file size position some =
    count_first most file size position (blocks_in most size) ∙ enough (blocks_in most size * most) (in_blocks most size some)
  where
    enough : (m : ℕ) → size ≤ m → ◌≡◌ {A = ℕ} (cond (nat_lt position size && nat_lt position m) 1 0) (cond (nat_lt position size) 1 0)
    enough m le = grind (arith, nat_tests)

-- ---- which blocks have no byte

none_empty : (most file size n : ℕ) → 0 < most → ((k : ℕ) → k < n → k * most < size) → count_by (is_empty_of file) (first_cuts most file size n) ≡ 0
none_empty most file size zero some inside = refl
none_empty most file size (suc n) some inside =
    let here : n * most < size = inside n (omega arith) in
    let full : (min most (size - n * most) == 0) ≡ false = ne_eqb (min most (size - n * most)) 0 (λ e. omega arith) in
    sum_by_push (λ b. cond (is_empty_of file b) 1 0) (first_cuts most file size n) (block_at most file size n)
    ∙ ap (λ c. c + cond (is_empty_of file (block_at most file size n)) 1 0) (none_empty most file size n some (λ k h. inside k (omega arith)))
    ∙ ap (λ (t : Bool). 0 + cond (t && (min most (size - n * most) == 0)) 1 0) (same_file file)
    ∙ ap (λ (t : Bool). 0 + cond t 1 0) full

count_empty : (most file size : ℕ) → 0 < most → count_by (is_empty_of file) (cuts_of most file size) ≡ cond (size == 0) 1 0
count_empty most file zero some =
    let none : (min most (0 - 0 * most) == 0) ≡ true = eq-eqb (min most (0 - 0 * most)) 0 (omega arith) in
    ap (λ (t : Bool). 0 + cond (t && (min most (0 - 0 * most) == 0)) 1 0) (same_file file) ∙ ap (λ (t : Bool). 0 + cond t 1 0) none
count_empty most file (suc s) some =
    none_empty most file (suc s) (blocks_in most (suc s)) some (λ k h. starts_below most (suc s) k some (omega arith) h) ∙ sym (cond-false {A = ℕ} (suc s == 0) 1 0 (not_empty s))

-- ---- counts over the blocks of a tree, by tests that only blocks of one file pass

pub record IsOfFile (q : ℕ → Block → Bool) : Type 0 where
  pub other : (file : ℕ) (b : Block) → (b.file ≡ file → ⊥) → q file b ≡ false

count_apart : (q : ℕ → Block → Bool) → IsOfFile q → (most file other size n : ℕ) → (other ≡ file → ⊥) → count_by (q file) (first_cuts most other size n) ≡ 0
count_apart q own most file other size zero apart = refl
count_apart q own most file other size (suc n) apart =
    sum_by_push (λ b. cond (q file b) 1 0) (first_cuts most other size n) (block_at most other size n)
    ∙ ap (λ c. c + cond (q file (block_at most other size n)) 1 0) (count_apart q own most file other size n apart)
    ∙ ap (λ (t : Bool). 0 + cond t 1 0) (own.other file (block_at most other size n) apart)

count_join : (q : Block → Bool) (xs ys : List Block) (m n : ℕ) → count_by q xs ≡ m → count_by q ys ≡ n → count_by q (xs ++ ys) ≡ m + n
count_join q xs ys m n a b = sum_by-append (λ x. cond (q x) 1 0) xs ys ∙ ap (λ c. c + count_by q ys) a ∙ ap (λ c. m + c) b

count_before : (q : ℕ → Block → Bool) → IsOfFile q → (most base file : ℕ) (entries : List Entry) → file < base → count_by (q file) (cuts_from most base entries) ≡ 0
count_before q own most base file [] lt = refl
count_before q own most base file (e ∷ es) lt =
    count_join (q file) (cuts_of most base e.size) (cuts_from most (base + 1) es) 0 0
    (count_apart q own most file base e.size (blocks_in most e.size) (λ same. omega arith))
    (count_before q own most (base + 1) file es (omega arith))

abbrev value : (Entry → ℕ) → Option Entry → ℕ
value v None = 0
value v (Some e) = v e

count_at : (q : ℕ → Block → Bool) → IsOfFile q → (most : ℕ) (v : Entry → ℕ) → ((file : ℕ) (e : Entry) → count_by (q file) (cuts_of most file e.size) ≡ v e)
    → (entries : List Entry) (base k file : ℕ) → file ≡ base + k → count_by (q file) (cuts_from most base entries) ≡ value v (slice_get entries k)
count_at q own most v each [] base k file is = refl
count_at q own most v each (e ∷ es) base zero file is =
    let same : file ≡ base = omega arith in
    let here : count_by (q file) (cuts_of most base e.size) ≡ v e = subst (λ n. count_by (q file) (cuts_of most n e.size) ≡ v e) same (each file e) in
    count_join (q file) (cuts_of most base e.size) (cuts_from most (base + 1) es) (v e) 0 here
    (count_before q own most (base + 1) file es (omega arith)) ∙ add_nothing (v e)
  where
    add_nothing : (n : ℕ) → n + 0 ≡ n
    add_nothing n = omega arith
count_at q own most v each (e ∷ es) base (suc k) file is =
    count_join (q file) (cuts_of most base e.size) (cuts_from most (base + 1) es) 0 (value v (slice_get es k))
    (count_apart q own most file base e.size (blocks_in most e.size) (λ same. omega arith))
    (count_at q own most v each es (base + 1) k file (omega arith)) ∙ zero-add (value v (slice_get es k))

holds_own : (position : ℕ) → IsOfFile (λ file b. holds file position b)
holds_own position = record { other = λ file b apart. and_left (b.file == file && nat_le b.offset position) (nat_lt position (b.offset + b.length)) (and_left (b.file == file) (nat_le b.offset position) (ne_eqb b.file file apart)) }

empty_own : IsOfFile is_empty_of
empty_own = record { other = λ file b apart. and_left (b.file == file) (b.length == 0) (ne_eqb b.file file apart) }

and_true : (b : Bool) → b ≡ (b && true)
and_true true = refl
and_true false = refl

missing_value : (position : ℕ) (found : Option Entry) → value (λ e. cond (nat_lt position e.size) 1 0) found ≡ cond (lacks_position [] found position) 1 0
missing_value position None = refl
missing_value position (Some e) = ap (λ (t : Bool). cond t 1 0) (and_true (nat_lt position e.size))

nameless_value : (found : Option Entry) → value (λ e. cond (e.size == 0) 1 0) found ≡ cond (lacks_name [] found) 1 0
nameless_value None = refl
nameless_value (Some e) = ap (λ (t : Bool). cond t 1 0) (and_true (e.size == 0))

-- ---- rising

rising_append : (xs ys : List Block) → is_rising xs ≡ true → is_rising ys ≡ true → All (λ b. All (λ c. is_earlier b c ≡ true) ys) xs → is_rising (xs ++ ys) ≡ true
rising_append [] ys up down apart = down
rising_append (x ∷ xs) ys up down apart =
    let parts : (list_all (is_earlier x) xs ≡ true) × (is_rising xs ≡ true) = and_parts (list_all (is_earlier x) xs) (is_rising xs) up in
    and_from (list_all (is_earlier x) (xs ++ ys)) (is_rising (xs ++ ys))
    (list_all-from_AllPass (is_earlier x) (xs ++ ys) (All-append (λ c. is_earlier x c ≡ true) xs ys (AllPass-from_list_all (is_earlier x) xs parts.0) (All-head (λ b. All (λ c. is_earlier b c ≡ true) ys) x xs apart)))
    (rising_append xs ys parts.1 down (All-tail (λ b. All (λ c. is_earlier b c ≡ true) ys) x xs apart))

-- a block is one of the first blocks of a file
record IsFirst (most file size n : ℕ) (b : Block) : Type 0 where
  number : ℕ
  below : number < n
  is : b ≡ block_at most file size number

first_more : (most file size n : ℕ) (b : Block) → IsFirst most file size n b → IsFirst most file size (suc n) b
first_more most file size n b f = record { number = f.number; below = omega (arith, f.below); is = f.is }

firsts : (most file size n : ℕ) → All (IsFirst most file size n) (first_cuts most file size n)
firsts most file size zero = All-nil (IsFirst most file size zero)
firsts most file size (suc n) =
    All-push (IsFirst most file size (suc n)) (first_cuts most file size n) (block_at most file size n)
    (All-weaker (IsFirst most file size n) (IsFirst most file size (suc n)) (first_more most file size n) (first_cuts most file size n) (firsts most file size n))
    (record { number = n; below = omega arith; is = refl })

first_earlier : (most file size n : ℕ) → 0 < most → (b : Block) → IsFirst most file size n b → is_earlier b (block_at most file size n) ≡ true
first_earlier most file size n some b f =
    subst (λ (x : Block). is_earlier x (block_at most file size n) ≡ true) (sym f.is)
    (or_right (nat_lt file file) ((file == file) && nat_lt (f.number * most) (n * most))
    (and_from (file == file) (nat_lt (f.number * most) (n * most)) (same_file file)
    (lt-ltb (f.number * most) (n * most) (omega (arith, suc-mul f.number most, mul-le-mul_right {m = suc f.number} {n = n} most (omega (arith, f.below)))))))

first_rising : (most file size n : ℕ) → 0 < most → is_rising (first_cuts most file size n) ≡ true
first_rising most file size zero some = refl
first_rising most file size (suc n) some =
    rising_append (first_cuts most file size n) (block_at most file size n ∷ []) (first_rising most file size n some) refl
    (All-weaker (IsFirst most file size n) (λ b. All (λ c. is_earlier b c ≡ true) (block_at most file size n ∷ []))
    (λ b f. All-push (λ c. is_earlier b c ≡ true) [] (block_at most file size n) (All-nil (λ c. is_earlier b c ≡ true)) (first_earlier most file size n some b f))
    (first_cuts most file size n) (firsts most file size n))

-- a block is one of the blocks of a tree
record Comes (most base : ℕ) (entries : List Entry) (b : Block) : Type 0 where
  place : ℕ
  entry : Entry
  number : ℕ
  at : slice_get entries place ≡ Some entry
  below : number < blocks_in most entry.size
  is : b ≡ block_at most (base + place) entry.size number

comes_first : (most base : ℕ) (e : Entry) (es : List Entry) (b : Block) → IsFirst most base e.size (blocks_in most e.size) b → Comes most base (e ∷ es) b
comes_first most base e es b f = record {
  place = 0;
  entry = e;
  number = f.number;
  at = refl;
  below = f.below;
  is = f.is ∙ ap (λ n. block_at most n e.size f.number) (nothing base);
}
  where
    nothing : (n : ℕ) → n ≡ n + 0
    nothing n = omega arith

comes_later : (most base : ℕ) (e : Entry) (es : List Entry) (b : Block) → Comes most (base + 1) es b → Comes most base (e ∷ es) b
comes_later most base e es b f = record {
  place = suc f.place;
  entry = f.entry;
  number = f.number;
  at = f.at;
  below = f.below;
  is = f.is ∙ ap (λ n. block_at most n f.entry.size f.number) (shift base f.place);
}
  where
    shift : (m n : ℕ) → m + 1 + n ≡ m + suc n
    shift m n = omega arith

comes : (most base : ℕ) (entries : List Entry) → All (Comes most base entries) (cuts_from most base entries)
comes most base [] = All-nil (Comes most base [])
comes most base (e ∷ es) =
    All-append (Comes most base (e ∷ es)) (cuts_of most base e.size) (cuts_from most (base + 1) es)
    (All-weaker (IsFirst most base e.size (blocks_in most e.size)) (Comes most base (e ∷ es)) (comes_first most base e es) (cuts_of most base e.size) (firsts most base e.size (blocks_in most e.size)))
    (All-weaker (Comes most (base + 1) es) (Comes most base (e ∷ es)) (comes_later most base e es) (cuts_from most (base + 1) es) (comes most (base + 1) es))

file_earlier : (b c : Block) (m n : ℕ) → b.file ≡ m → c.file ≡ n → m < n → is_earlier b c ≡ true
file_earlier b c m n bf cf lt =
    or_left (nat_lt b.file c.file) (b.file == c.file && nat_lt b.offset c.offset) (lt-ltb b.file c.file (omega (arith, bf, cf)))

tree_rising : (most base : ℕ) (entries : List Entry) → 0 < most → is_rising (cuts_from most base entries) ≡ true
tree_rising most base [] some = refl
tree_rising most base (e ∷ es) some =
    rising_append (cuts_of most base e.size) (cuts_from most (base + 1) es) (first_rising most base e.size (blocks_in most e.size) some) (tree_rising most (base + 1) es some)
    (All-weaker (IsFirst most base e.size (blocks_in most e.size)) (λ b. All (λ c. is_earlier b c ≡ true) (cuts_from most (base + 1) es))
    (λ b f. All-weaker (Comes most (base + 1) es) (λ c. is_earlier b c ≡ true)
    (λ c g. file_earlier b c base (base + 1 + g.place) (ap (λ (x : Block). x.file) f.is) (ap (λ (x : Block). x.file) g.is) (omega arith))
    (cuts_from most (base + 1) es) (comes most (base + 1) es))
    (cuts_of most base e.size) (firsts most base e.size (blocks_in most e.size)))

-- ---- where blocks begin and end

first_has : (p : Block → Bool) (most file size n j : ℕ) → j < n → p (block_at most file size j) ≡ true → list_any p (first_cuts most file size n) ≡ true
first_has p most file size zero j lt h = absurd (omega arith)
first_has p most file size (suc n) j lt h =
    list_any-append p (first_cuts most file size n) (block_at most file size n ∷ []) ∙ elim (cases_lt j n) [
      | inl less ↦ or_left (list_any p (first_cuts most file size n)) (list_any p (block_at most file size n ∷ [])) (first_has p most file size n j less h)
      | inr last ↦
          let same : j ≡ n = omega arith in
          or_right (list_any p (first_cuts most file size n)) (list_any p (block_at most file size n ∷ []))
          (or_left (p (block_at most file size n)) false (subst (λ k. p (block_at most file size k) ≡ true) same h))
    ]

tree_has : (p : Block → Bool) (most : ℕ) (entries : List Entry) (base k file : ℕ) (entry : Entry) (j : ℕ) → slice_get entries k ≡ Some entry → file ≡ base + k → j < blocks_in most entry.size
    → p (block_at most file entry.size j) ≡ true → list_any p (cuts_from most base entries) ≡ true
tree_has p most [] base k file entry j at is lt h = cc
tree_has p most (e ∷ es) base zero file entry j at is lt h =
    let own : e ≡ entry = cc in
    let here : file ≡ base = omega arith in
    let within : j < blocks_in most e.size = subst (λ (x : Entry). j < blocks_in most x.size) (sym own) lt in
    let there : p (block_at most base e.size j) ≡ true = subst (λ (x : Entry). p (block_at most base x.size j) ≡ true) (sym own) (subst (λ n. p (block_at most n entry.size j) ≡ true) here h) in
    list_any-append p (cuts_of most base e.size) (cuts_from most (base + 1) es)
    ∙ or_left (list_any p (cuts_of most base e.size)) (list_any p (cuts_from most (base + 1) es)) (first_has p most base e.size (blocks_in most e.size) j within there)
tree_has p most (e ∷ es) base (suc k) file entry j at is lt h =
    list_any-append p (cuts_of most base e.size) (cuts_from most (base + 1) es)
    ∙ or_right (list_any p (cuts_of most base e.size)) (list_any p (cuts_from most (base + 1) es)) (tree_has p most es (base + 1) k file entry j at (omega arith) lt h)

behind : (most file size j : ℕ) → suc j * most < size → is_behind most (block_at most file size (suc j)) (block_at most file size j) ≡ true
behind most file size j lt =
    let m : suc j * most ≡ j * most + most = suc-mul j most in
    let long : min most (size - j * most) ≡ most = omega arith in
    and_from ((file == file) && (min most (size - j * most) == most)) (j * most + min most (size - j * most) == suc j * most)
    (and_from (file == file) (min most (size - j * most) == most) (same_file file) (eq-eqb (min most (size - j * most)) most long))
    (eq-eqb (j * most + min most (size - j * most)) (suc j * most) (omega arith))

block_begins : (most : ℕ) → 0 < most → (entries : List Entry) (file : ℕ) (entry : Entry) (number : ℕ) → slice_get entries file ≡ Some entry → number < blocks_in most entry.size
    → begins entries [] most (cuts most entries) (block_at most file entry.size number) ≡ true
block_begins most some entries file entry zero at lt =
    or_left ((0 * most == 0) || is_there entries [] file (0 * most - 1)) (list_any (is_behind most (block_at most file entry.size 0)) (cuts most entries))
    (or_left (0 * most == 0) (is_there entries [] file (0 * most - 1)) (eq-eqb (0 * most) 0 (omega arith)))
block_begins most some entries file entry (suc j) at lt =
    or_right ((suc j * most == 0) || is_there entries [] file (suc j * most - 1)) (list_any (is_behind most (block_at most file entry.size (suc j))) (cuts most entries))
    (tree_has (is_behind most (block_at most file entry.size (suc j))) most entries 0 file file entry j at (sym (zero-add file)) (omega arith)
    (behind most file entry.size j (starts_below most entry.size (suc j) some (later_full most entry.size j lt) lt)))

block_ends : (most : ℕ) → 0 < most → (entries : List Entry) (file : ℕ) (entry : Entry) (number : ℕ) → slice_get entries file ≡ Some entry → number < blocks_in most entry.size
    → ends entries [] most (block_at most file entry.size number) ≡ true
block_ends most some entries file entry number at lt =
    let m : number * most ≤ entry.size = starts_within most entry.size number some lt in
    or_left ((size == most) || is_end (slice_get entries file) (number * most + size)) (is_there entries [] file (number * most + size)) (elim (cases_lt (entry.size - number * most) most) [
      | inl short ↦
          or_right (size == most) (is_end (slice_get entries file) (number * most + size))
          (ap (λ (o : Option Entry). is_end o (number * most + size)) at ∙ eq-eqb (number * most + size) entry.size (omega arith))
      | inr long ↦ or_left (size == most) (is_end (slice_get entries file) (number * most + size)) (eq-eqb size most (omega arith))
    ])
  where
    size : ℕ
    size = min most (entry.size - number * most)

block_cut : (most : ℕ) → 0 < most → (entries : List Entry) (b : Block) → Comes most 0 entries b → is_cut entries [] most (cuts most entries) b ≡ true
block_cut most some entries b f =
    let place : 0 + f.place ≡ f.place = zero-add f.place in
    let is : b ≡ block_at most f.place f.entry.size f.number = f.is ∙ ap (λ n. block_at most n f.entry.size f.number) place in
    subst (λ (x : Block). is_cut entries [] most (cuts most entries) x ≡ true) (sym is)
    (and_from (nat_le own most && begins entries [] most (cuts most entries) block) (ends entries [] most block)
    (and_from (nat_le own most) (begins entries [] most (cuts most entries) block) (le-leb own most (omega arith)) (block_begins most some entries f.place f.entry f.number f.at f.below))
    (block_ends most some entries f.place f.entry f.number f.at f.below))
  where
    own : ℕ
    own = min most (f.entry.size - f.number * most)

    block : Block
    block = block_at most f.place f.entry.size f.number

-- ---- the law

pub cuts_rest : (entries : List Entry) (most : ℕ) → 0 < most → IsRest entries [] most (cuts most entries)
cuts_rest entries most some = record {
  rising = tree_rising most 0 entries some;
  exact = λ file position.
      count_at (λ n b. holds n position b) (holds_own position) most (λ e. cond (nat_lt position e.size) 1 0) (λ n e. count_whole most n e.size position some) entries 0 file file (sym (zero-add file))
      ∙ missing_value position (slice_get entries file);
  empty = λ file.
      count_at is_empty_of empty_own most (λ e. cond (e.size == 0) 1 0) (λ n e. count_empty most n e.size some) entries 0 file file (sym (zero-add file))
      ∙ nameless_value (slice_get entries file);
  cut = list_all-from_AllPass (is_cut entries [] most (cuts most entries)) (cuts most entries)
      (All-weaker (Comes most 0 entries) (λ b. is_cut entries [] most (cuts most entries) b ≡ true) (block_cut most some entries) (cuts most entries) (comes most 0 entries));
}
