-- The list of a tree's missing blocks is the rest.
use Rattle.std.proofs.Common.{◌≡◌, ℕ, zero, suc, ◌+◌, ◌<◌, Bool, true, false, not, cond, ◌||◌, ◌&&◌, ◌==◌, nat_lt, nat_le, List, [], ◌∷◌, count_by, slice_get, Option, Some, None, refl, sym, ap, ◌∙◌, arith, subst}
use Rattle.std.specs.List.{list_all, list_any, All}
use Rattle.std.specs.Ordering.{is_lt, nat_cmp}
use Rattle.std.specs.Cmp.Lexicographic.{slice_cmp}
use Rattle.std.specs.Str.{bytes_eq}
use Rattle.std.proofs.Math.Nat.{zero-add}
use Rattle.std.proofs.lemmas.Bool.{and_parts, and_left, or_left, cond-true, cond-false, false_from_ne_true, eq-eqb, eqb-true, ne_eqb, lt-ltb, le-leb}
use Rattle.std.proofs.lemmas.Bool.Decides.{nat_tests}
use Rattle.std.proofs.lemmas.List.Elements.{All-nil, All-cons, All-push, All-append, All-weaker, All-head, All-tail}
use Rattle.std.proofs.lemmas.List.Sums.{sum_by-cons, list_all-from_AllPass}
use Rattle.std.proofs.lemmas.Slice.Eq.{bytes_eq-Decides}
use Rattle.wdt_units.specs.Have.{HaveFile, is_in, is_covered, is_named}
use Rattle.wdt_units.specs.declared.blocks.Block.{Block}
use Rattle.wdt_units.proofs.Shared.{before_differs}
use Rattle.wdt_tree.specs.declared.entry.Entry.{Entry}
use Rattle.wdt_tree.specs.Rest.{lacks_position, lacks_name, holds, is_empty_of, is_earlier, is_rising, is_cut, IsRest}
use Rattle.wdt_ranges.specs.Spans.{has, are_apart}
use Rattle.wdt_ranges.specs.Files.{is_before_file, is_in_order}
use Rattle.wdt_rest.specs.RestOf.{IsHave, has_set, spans_of, gap_pieces, gaps_in, is_new_empty, empty_block, file_rest, rest_from, rest_of}
use Rattle.wdt_rest.proofs.lemmas.Pieces.{Lies, is_cut_in, AllCut, IsPart, rising_append}
use Rattle.wdt_rest.proofs.lemmas.Gaps.{both_false, IsWider, wider_left, wider_right, cuts_wider, count_join, gaps_part}

-- ---- what a have says of a path

-- a path behind another is no path that equals it
behind_differs : (a b path : List ℕ) → is_lt (slice_cmp nat_cmp a b) ≡ true → bytes_eq a path ≡ true → bytes_eq b path ≡ false
behind_differs a b path lt here = false_from_ne_true (bytes_eq b path)
    (λ e.
    let one : a ≡ path = (bytes_eq-Decides a path).0 here in
    let two : b ≡ path = (bytes_eq-Decides b path).0 e in
    let same : bytes_eq a b ≡ true = (bytes_eq-Decides a b).1 (one ∙ sym two) in
    let other : bytes_eq a b ≡ false = before_differs a b lt in
    cc)

later_lacks : (file : HaveFile) (files : List HaveFile) (path : List ℕ) (position : ℕ) → list_all (is_before_file file) files ≡ true → bytes_eq file.path path ≡ true → is_covered files path position ≡ false
later_lacks file [] path position up here = refl
later_lacks file (f ∷ fs) path position up here =
    let outer : (is_before_file file f ≡ true) × (list_all (is_before_file file) fs ≡ true) = and_parts (is_before_file file f) (list_all (is_before_file file) fs) up in
    both_false (bytes_eq f.path path && list_any (is_in position) f.spans) (is_covered fs path position)
    (and_left (bytes_eq f.path path) (list_any (is_in position) f.spans) (behind_differs file.path f.path path outer.0 here))
    (later_lacks file fs path position outer.1 here)

or_nothing : (x y : Bool) → y ≡ false → (x || y) ≡ x
or_nothing true y h = refl
or_nothing false y h = h

-- what is covered of a path are the spans of its file
covered_in : (have : List HaveFile) (path : List ℕ) (position : ℕ) → is_in_order have ≡ true → is_covered have path position ≡ has (spans_of have path) position
covered_in [] path position up = refl
covered_in (f ∷ fs) path position up =
    let outer : (list_all (is_before_file f) fs ≡ true) × (is_in_order fs ≡ true) = and_parts (list_all (is_before_file f) fs) (is_in_order fs) up in
    go (bytes_eq f.path path) refl outer.0 (covered_in fs path position outer.1)
  where
    go : (b : Bool) → bytes_eq f.path path ≡ b → list_all (is_before_file f) fs ≡ true → is_covered fs path position ≡ has (spans_of fs path) position
        → (b && list_any (is_in position) f.spans || is_covered fs path position) ≡ has (cond b f.spans (spans_of fs path)) position
    go true h first later = or_nothing (list_any (is_in position) f.spans) (is_covered fs path position) (later_lacks f fs path position first h)
    go false h first later = later

spans_apart : (have : List HaveFile) (path : List ℕ) → list_all has_set have ≡ true → are_apart (spans_of have path) ≡ true
spans_apart [] path h = refl
spans_apart (f ∷ fs) path h =
    let outer : (has_set f ≡ true) × (list_all has_set fs ≡ true) = and_parts (has_set f) (list_all has_set fs) h in
    go (bytes_eq f.path path) outer.0 (spans_apart fs path outer.1)
  where
    go : (b : Bool) → has_set f ≡ true → are_apart (spans_of fs path) ≡ true → are_apart (cond b f.spans (spans_of fs path)) ≡ true
    go true first later = first
    go false first later = later

-- ---- the blocks of one file

record IsFileRest (have : List HaveFile) (most file : ℕ) (entry : Entry) (blocks : List Block) : Type 0 where
  own : All (λ b. b.file ≡ file) blocks
  rising : is_rising blocks ≡ true
  exact : (position : ℕ) → count_by (holds file position) blocks ≡ cond (nat_lt position entry.size && not (is_covered have entry.path position)) 1 0
  empty : count_by (is_empty_of file) blocks ≡ cond (is_new_empty have entry) 1 0
  cut : AllCut most entry.size (is_covered have entry.path) blocks blocks

none_empty : (file low high : ℕ) (blocks : List Block) → All (Lies file low high) blocks → count_by (is_empty_of file) blocks ≡ 0
none_empty file low high [] all = refl
none_empty file low high (b ∷ bs) all =
    let head : Lies file low high b = All-head (Lies file low high) b bs all in
    let full : (b.length == 0) ≡ false = ne_eqb b.length 0 (λ e. omega (arith, head.some)) in
    let other : is_empty_of file b ≡ false = second_false (b.file == file) (b.length == 0) full in
    omega (arith, sum_by-cons (λ y. cond (is_empty_of file y) 1 0) b bs, cond-false {A = ℕ} (is_empty_of file b) 1 0 other, none_empty file low high bs (All-tail (Lies file low high) b bs all))
  where
    second_false : (x y : Bool) → y ≡ false → (x && y) ≡ false
    second_false true y h = h
    second_false false y h = refl

gaps_rest : (have : List HaveFile) (most file : ℕ) (entry : Entry) → 0 < most → IsHave have → is_new_empty have entry ≡ false → IsFileRest have most file entry (gap_pieces most file (gaps_in have entry))
gaps_rest have most file entry some is old = record {
  own = All-weaker (Lies file 0 entry.size) (λ b. b.file ≡ file) (λ b f. f.own) blocks part.lies;
  rising = part.rising;
  exact = λ position. part.exact position ∙ from_start (has (spans_of have entry.path) position) (is_covered have entry.path position) position entry.size (sym (covered_in have entry.path position is.rising));
  empty = none_empty file 0 entry.size blocks part.lies ∙ sym (cond-false {A = ℕ} (is_new_empty have entry) 1 0 old);
  cut = part.cut;
}
  where
    from_start : (s t : Bool) (p size : ℕ) → s ≡ t → ◌≡◌ {A = ℕ} (cond (nat_le 0 p && nat_lt p size && not s) 1 0) (cond (nat_lt p size && not t) 1 0)
    from_start true true p size e = grind (arith, nat_tests)
    from_start true false p size e = cc
    from_start false true p size e = cc
    from_start false false p size e = grind (arith, nat_tests)

    blocks : List Block
    blocks = gap_pieces most file (gaps_in have entry)

    part : IsPart most file entry.size (is_covered have entry.path) 0 entry.size (λ p. nat_le 0 p && nat_lt p entry.size && not (has (spans_of have entry.path) p)) blocks
    part = gaps_part most file entry.size (is_covered have entry.path) 0 (spans_of have entry.path) some (spans_apart have entry.path is.sets) refl
        (λ p h. covered_in have entry.path p is.rising ∙ h)

empty_rest : (have : List HaveFile) (most file : ℕ) (entry : Entry) → is_new_empty have entry ≡ true → IsFileRest have most file entry (empty_block file ∷ [])
empty_rest have most file entry new = record {
  own = All-push (λ b. b.file ≡ file) [] (empty_block file) (All-nil (λ b. b.file ≡ file)) refl;
  rising = refl;
  exact = λ position. holds_none (file == file) (is_covered have entry.path position) position entry.size size;
  empty = ap (λ (t : Bool). 0 + cond (t && true) 1 0) (eq-eqb file file refl) ∙ sym (cond-true {A = ℕ} (is_new_empty have entry) 1 0 new);
  cut = All-push (λ b. is_cut_in most entry.size there (empty_block file ∷ []) b ≡ true) [] (empty_block file) (All-nil (λ b. is_cut_in most entry.size there (empty_block file ∷ []) b ≡ true))
      (cut_alone (nat_le 0 most) (0 == most) (0 == entry.size) (there 0) (le-leb 0 most (omega arith)) (eq-eqb 0 entry.size (sym size)));
}
  where
    there : ℕ → Bool
    there = is_covered have entry.path

    size : entry.size ≡ 0
    size = eqb-true entry.size 0 ((and_parts (entry.size == 0) (not (is_named have entry.path)) new).0)

    holds_none : (a t : Bool) (p s : ℕ) → s ≡ 0 → 0 + cond (a && nat_le 0 p && nat_lt p 0) 1 0 ≡ cond (nat_lt p s && not t) 1 0
    holds_none true t p s e = grind (arith, nat_tests)
    holds_none false t p s e = grind (arith, nat_tests)

    cut_alone : (a b c d : Bool) → a ≡ true → c ≡ true → (a && true && (b || c || d)) ≡ true
    cut_alone a true c d x y = ap (λ (t : Bool). t && true && true) x
    cut_alone a false c d x y = ap (λ (t : Bool). t && true && (c || d)) x ∙ or_left c d y

file_is_rest : (have : List HaveFile) (most file : ℕ) (entry : Entry) → 0 < most → IsHave have → IsFileRest have most file entry (file_rest have most file entry)
file_is_rest have most file entry some is = go (is_new_empty have entry) refl
  where
    go : (b : Bool) → is_new_empty have entry ≡ b → IsFileRest have most file entry (cond b (empty_block file ∷ []) (gap_pieces most file (gaps_in have entry)))
    go true h = empty_rest have most file entry h
    go false h = gaps_rest have most file entry some is h

-- ---- counts over the blocks of a tree, by tests that only blocks of one file pass

record IsOfFile (q : ℕ → Block → Bool) : Type 0 where
  other : (file : ℕ) (b : Block) → (b.file ≡ file → ⊥) → q file b ≡ false

count_apart : (q : ℕ → Block → Bool) → IsOfFile q → (file other : ℕ) (blocks : List Block) → All (λ b. b.file ≡ other) blocks → (other ≡ file → ⊥) → count_by (q file) blocks ≡ 0
count_apart q own file other [] all apart = refl
count_apart q own file other (b ∷ bs) all apart =
    let is : b.file ≡ other = All-head (λ b. b.file ≡ other) b bs all in
    let none : q file b ≡ false = own.other file b (λ e. apart (sym is ∙ e)) in
    omega (arith, sum_by-cons (λ y. cond (q file y) 1 0) b bs, cond-false {A = ℕ} (q file b) 1 0 none, count_apart q own file other bs (All-tail (λ b. b.file ≡ other) b bs all) apart)

count_before : (q : ℕ → Block → Bool) → IsOfFile q → (have : List HaveFile) (most base file : ℕ) (entries : List Entry) → 0 < most → IsHave have → file < base
    → count_by (q file) (rest_from have most base entries) ≡ 0
count_before q own have most base file [] some is lt = refl
count_before q own have most base file (e ∷ es) some is lt =
    count_join (q file) (file_rest have most base e) (rest_from have most (base + 1) es) 0 0
    (count_apart q own file base (file_rest have most base e) (file_is_rest have most base e some is).own (λ same. omega arith))
    (count_before q own have most (base + 1) file es some is (omega arith))

abbrev value : (Entry → ℕ) → Option Entry → ℕ
value v None = 0
value v (Some e) = v e

count_at : (q : ℕ → Block → Bool) → IsOfFile q → (have : List HaveFile) (most : ℕ) (v : Entry → ℕ) → 0 < most → IsHave have
    → ((file : ℕ) (e : Entry) → count_by (q file) (file_rest have most file e) ≡ v e)
    → (entries : List Entry) (base k file : ℕ) → file ≡ base + k → count_by (q file) (rest_from have most base entries) ≡ value v (slice_get entries k)
count_at q own have most v some is each [] base k file at = refl
count_at q own have most v some is each (e ∷ es) base zero file at =
    let same : file ≡ base = omega arith in
    let here : count_by (q file) (file_rest have most base e) ≡ v e = subst (λ n. count_by (q file) (file_rest have most n e) ≡ v e) same (each file e) in
    count_join (q file) (file_rest have most base e) (rest_from have most (base + 1) es) (v e) 0 here
    (count_before q own have most (base + 1) file es some is (omega arith)) ∙ add_nothing (v e)
  where
    add_nothing : (n : ℕ) → n + 0 ≡ n
    add_nothing n = omega arith
count_at q own have most v some is each (e ∷ es) base (suc k) file at =
    count_join (q file) (file_rest have most base e) (rest_from have most (base + 1) es) 0 (value v (slice_get es k))
    (count_apart q own file base (file_rest have most base e) (file_is_rest have most base e some is).own (λ same. omega arith))
    (count_at q own have most v some is each es (base + 1) k file (omega arith)) ∙ zero-add (value v (slice_get es k))

holds_own : (position : ℕ) → IsOfFile (λ file b. holds file position b)
holds_own position = record { other = λ file b apart. and_left (b.file == file && nat_le b.offset position) (nat_lt position (b.offset + b.length)) (and_left (b.file == file) (nat_le b.offset position) (ne_eqb b.file file apart)) }

empty_own : IsOfFile is_empty_of
empty_own = record { other = λ file b apart. and_left (b.file == file) (b.length == 0) (ne_eqb b.file file apart) }

missing_value : (have : List HaveFile) (position : ℕ) (found : Option Entry) → value (λ e. cond (nat_lt position e.size && not (is_covered have e.path position)) 1 0) found ≡ cond (lacks_position have found position) 1 0
missing_value have position None = refl
missing_value have position (Some e) = refl

nameless_value : (have : List HaveFile) (found : Option Entry) → value (λ e. cond (is_new_empty have e) 1 0) found ≡ cond (lacks_name have found) 1 0
nameless_value have None = refl
nameless_value have (Some e) = refl

-- ---- the blocks of a tree

-- a block is one of a file of a tree, and cut as the rest is
record Comes (have : List HaveFile) (most base : ℕ) (entries : List Entry) (all : List Block) (b : Block) : Type 0 where
  place : ℕ
  entry : Entry
  at : slice_get entries place ≡ Some entry
  file : b.file ≡ base + place
  cut : is_cut_in most entry.size (is_covered have entry.path) all b ≡ true

comes_first : (have : List HaveFile) (most base : ℕ) (e : Entry) (es : List Entry) (all : List Block) → (blocks : List Block) → IsFileRest have most base e blocks → IsWider blocks all → All (Comes have most base (e ∷ es) all) blocks
comes_first have most base e es all blocks rest wider = go blocks rest.own (cuts_wider most e.size (is_covered have e.path) blocks all blocks wider rest.cut)
  where
    go : (bs : List Block) → All (λ b. b.file ≡ base) bs → AllCut most e.size (is_covered have e.path) all bs → All (Comes have most base (e ∷ es) all) bs
    go [] own cut = All-nil (Comes have most base (e ∷ es) all)
    go (b ∷ bs) own cut =
        let is : b.file ≡ base = All-head (λ x. x.file ≡ base) b bs own in
        All-cons (Comes have most base (e ∷ es) all) b bs
        (record { place = 0; entry = e; at = refl; file = omega (arith, is); cut = All-head (λ x. is_cut_in most e.size (is_covered have e.path) all x ≡ true) b bs cut })
        (go bs (All-tail (λ x. x.file ≡ base) b bs own) (All-tail (λ x. is_cut_in most e.size (is_covered have e.path) all x ≡ true) b bs cut))

comes_later : (have : List HaveFile) (most base : ℕ) (e : Entry) (es : List Entry) (all : List Block) (b : Block) → Comes have most (base + 1) es all b → Comes have most base (e ∷ es) all b
comes_later have most base e es all b f = record { place = suc f.place; entry = f.entry; at = f.at; file = omega (arith, f.file); cut = f.cut }

comes : (have : List HaveFile) (most base : ℕ) (entries : List Entry) (all : List Block) → 0 < most → IsHave have → IsWider (rest_from have most base entries) all
    → All (Comes have most base entries all) (rest_from have most base entries)
comes have most base [] all some is wider = All-nil (Comes have most base [] all)
comes have most base (e ∷ es) all some is wider =
    All-append (Comes have most base (e ∷ es) all) (file_rest have most base e) (rest_from have most (base + 1) es)
    (comes_first have most base e es all (file_rest have most base e) (file_is_rest have most base e some is)
    (record { any = λ p h. wider.any p ((wider_left (file_rest have most base e) (rest_from have most (base + 1) es)).any p h) }))
    (All-weaker (Comes have most (base + 1) es all) (Comes have most base (e ∷ es) all) (comes_later have most base e es all) (rest_from have most (base + 1) es)
    (comes have most (base + 1) es all some is (record { any = λ p h. wider.any p ((wider_right (file_rest have most base e) (rest_from have most (base + 1) es)).any p h) })))

file_earlier : (b c : Block) (m n : ℕ) → b.file ≡ m → c.file ≡ n → m < n → is_earlier b c ≡ true
file_earlier b c m n bf cf lt =
    or_left (nat_lt b.file c.file) (b.file == c.file && nat_lt b.offset c.offset) (lt-ltb b.file c.file (omega (arith, bf, cf)))

tree_rising : (have : List HaveFile) (most base : ℕ) (entries : List Entry) → 0 < most → IsHave have → is_rising (rest_from have most base entries) ≡ true
tree_rising have most base [] some is = refl
tree_rising have most base (e ∷ es) some is =
    let here : IsFileRest have most base e (file_rest have most base e) = file_is_rest have most base e some is in
    let later : List Block = rest_from have most (base + 1) es in
    rising_append (file_rest have most base e) (rest_from have most (base + 1) es) here.rising (tree_rising have most (base + 1) es some is)
    (All-weaker (λ b. b.file ≡ base) (λ b. All (λ c. is_earlier b c ≡ true) (rest_from have most (base + 1) es))
    (λ b f. All-weaker (Comes have most (base + 1) es (rest_from have most (base + 1) es)) (λ c. is_earlier b c ≡ true)
    (λ c g. file_earlier b c base (base + 1 + g.place) f g.file (omega arith))
    (rest_from have most (base + 1) es) (comes have most (base + 1) es (rest_from have most (base + 1) es) some is (record { any = λ p h. h })))
    (file_rest have most base e) here.own)

block_cut : (entries : List Entry) (have : List HaveFile) (most : ℕ) (all : List Block) (b : Block) → Comes have most 0 entries all b → is_cut entries have most all b ≡ true
block_cut entries have most all b f =
    let found : slice_get entries b.file ≡ Some f.entry = ap (slice_get entries) (f.file ∙ zero-add f.place) ∙ f.at in
    rw found f.cut

-- ---- the law

pub list_is_rest : (entries : List Entry) (have : List HaveFile) (most : ℕ) → 0 < most → IsHave have → IsRest entries have most (rest_of entries have most)
list_is_rest entries have most some is = record {
  rising = tree_rising have most 0 entries some is;
  exact = λ file position.
      count_at (λ n b. holds n position b) (holds_own position) have most (λ e. cond (nat_lt position e.size && not (is_covered have e.path position)) 1 0) some is
      (λ n e. (file_is_rest have most n e some is).exact position) entries 0 file file (sym (zero-add file))
      ∙ missing_value have position (slice_get entries file);
  empty = λ file.
      count_at is_empty_of empty_own have most (λ e. cond (is_new_empty have e) 1 0) some is (λ n e. (file_is_rest have most n e some is).empty) entries 0 file file (sym (zero-add file))
      ∙ nameless_value have (slice_get entries file);
  cut = list_all-from_AllPass (is_cut entries have most (rest_of entries have most)) (rest_of entries have most)
      (All-weaker (Comes have most 0 entries (rest_of entries have most)) (λ b. is_cut entries have most (rest_of entries have most) b ≡ true) (block_cut entries have most (rest_of entries have most)) (rest_of entries have most)
      (comes have most 0 entries (rest_of entries have most) some is (record { any = λ p h. h })));
}
