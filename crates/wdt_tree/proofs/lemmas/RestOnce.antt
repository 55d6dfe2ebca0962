-- What is to be sent is one list: two lists of blocks that are both the rest are equal.
use Rattle.std.proofs.Common.{◌≡◌, ℕ, zero, suc, ◌+◌, ◌-◌, ◌<◌, ◌≤◌, Bool, true, false, not, cond, ◌||◌, ◌&&◌, ◌==◌, nat_lt, nat_le, List, [], ◌∷◌, count_by, slice_get, Option, Some, None, refl, sym, ap, ◌∙◌, arith, inl, inr, ◌⊎◌, subst}
use Rattle.std.specs.List.{list_all, list_any}
use Rattle.std.specs.Str.{bytes_eq}
use Rattle.std.proofs.lemmas.Bool.{and_parts, and_from, or_cases, or_left, or_right, cond-true, cond-false, cases_lt, cases_order, cases_Bool, eq-eqb, eqb-true, lt-ltb, ltb-true, le-leb, leb-true}
use Rattle.std.proofs.lemmas.Bool.Decides.{nat_tests}
use Rattle.std.proofs.lemmas.List.Sums.{sum_by-cons}
use Rattle.std.proofs.lemmas.Option.{slice_get_within, get_or_from_slice_get}
use Rattle.wdt_units.specs.Have.{HaveFile, is_in, is_covered, is_named}
use Rattle.wdt_units.specs.declared.blocks.Block.{Block}
use Rattle.wdt_tree.specs.declared.entry.Entry.{Entry}
use Rattle.wdt_tree.specs.Rest.{lacks_position, is_missing, has_position, is_there, lacks_name, is_end, holds, is_empty_of, is_earlier, is_rising, is_behind, begins, ends, is_cut, IsRest}
use Rattle.wdt_tree.proofs.lemmas.Order.{two_count}

-- ---- what a list has

-- a block stands in a list
record Has (xs : List Block) (b : Block) : Type 0 where
  place : ℕ
  at : slice_get xs place ≡ Some b

has_first : (b : Block) (xs : List Block) → Has (b ∷ xs) b
has_first b xs = record { place = 0; at = refl }

has_later : (x : Block) (xs : List Block) (b : Block) → Has xs b → Has (x ∷ xs) b
has_later x xs b h = record { place = suc h.place; at = h.at }

has_nothing : (b : Block) → Has [] b → ⊥
has_nothing b h = let e : None ≡ Some b = h.at in cc

at_cases : (x : Block) (xs : List Block) (b : Block) (k : ℕ) → slice_get (x ∷ xs) k ≡ Some b → (x ≡ b) ⊎ Has xs b
at_cases x xs b zero at = inl cc
at_cases x xs b (suc k) at = inr (record { place = k; at = at })

has_cases : (x : Block) (xs : List Block) (b : Block) → Has (x ∷ xs) b → (x ≡ b) ⊎ Has xs b
has_cases x xs b h = at_cases x xs b h.place h.at

all_has : (p : Block → Bool) (xs : List Block) (b : Block) → list_all p xs ≡ true → Has xs b → p b ≡ true
all_has p [] b all h = absurd (has_nothing b h)
all_has p (x ∷ xs) b all h =
    let parts : (p x ≡ true) × (list_all p xs ≡ true) = and_parts (p x) (list_all p xs) all in
    elim (has_cases x xs b h) [ inl e ↦ subst (λ (y : Block). p y ≡ true) e parts.0 | inr l ↦ all_has p xs b parts.1 l ]

record Finds (p : Block → Bool) (xs : List Block) : Type 0 where
  block : Block
  has : Has xs block
  passes : p block ≡ true

any_finds : (p : Block → Bool) (xs : List Block) → list_any p xs ≡ true → Finds p xs
any_finds p [] h = cc
any_finds p (x ∷ xs) h = elim (or_cases (p x) (list_any p xs) h) [
  | inl here ↦ record { block = x; has = has_first x xs; passes = here }
  | inr later ↦ let f = any_finds p xs later in record { block = f.block; has = has_later x xs f.block f.has; passes = f.passes }
]

count_finds : (p : Block → Bool) (xs : List Block) → 1 ≤ count_by p xs → Finds p xs
count_finds p [] h = absurd (omega arith)
count_finds p (x ∷ xs) h = elim (cases_Bool (p x)) [
  | inl here ↦ record { block = x; has = has_first x xs; passes = here }
  | inr other ↦
      let f = count_finds p xs (omega (arith, sum_by-cons (λ y. cond (p y) 1 0) x xs, cond-false {A = ℕ} (p x) 1 0 other)) in
      record { block = f.block; has = has_later x xs f.block f.has; passes = f.passes }
]

has_count : (p : Block → Bool) (xs : List Block) (b : Block) → Has xs b → p b ≡ true → 1 ≤ count_by p xs
has_count p [] b h t = absurd (has_nothing b h)
has_count p (x ∷ xs) b h t = elim (has_cases x xs b h) [
  | inl e ↦ omega (arith, sum_by-cons (λ y. cond (p y) 1 0) x xs, cond-true {A = ℕ} (p x) 1 0 (ap p e ∙ t))
  | inr l ↦ omega (arith, sum_by-cons (λ y. cond (p y) 1 0) x xs, has_count p xs b l t)
]

same_place : (xs : List Block) (b c : Block) (j k : ℕ) → slice_get xs j ≡ Some b → slice_get xs k ≡ Some c → j ≡ k → b ≡ c
same_place xs b c j k f g e = let h : Some b ≡ Some c = sym f ∙ ap (slice_get xs) e ∙ g in cc

-- a test that at most one passes tells no two apart
two_apart : (p : Block → Bool) (xs : List Block) (b c : Block) (j k : ℕ) → slice_get xs j ≡ Some b → slice_get xs k ≡ Some c → j < k → p b ≡ true → p c ≡ true → 2 ≤ count_by p xs
two_apart p xs b c j k f g lt s t =
    two_count p xs j k b lt (slice_get_within xs k c g) (ap p (get_or_from_slice_get xs j b b f) ∙ s) (ap p (get_or_from_slice_get xs k c b g) ∙ t)

once_same : (p : Block → Bool) (xs : List Block) (b c : Block) → count_by p xs ≤ 1 → Has xs b → Has xs c → p b ≡ true → p c ≡ true → b ≡ c
once_same p xs b c few f g s t = elim (cases_order f.place g.place) [
  | inl e ↦ same_place xs b c f.place g.place f.at g.at e
  | inr other ↦ elim other [
    | inl lt ↦ absurd (omega (arith, few, two_apart p xs b c f.place g.place f.at g.at lt s t))
    | inr gt ↦ absurd (omega (arith, few, two_apart p xs c b g.place f.place g.at f.at gt t s))
  ]
]

-- ---- rising lists with the same blocks

not_both_earlier : (a b : Block) → is_earlier a b ≡ true → is_earlier b a ≡ true → ⊥
not_both_earlier a b h k = absurd (grind (arith, nat_tests))

later_than : (x : Block) (xs : List Block) (b : Block) → is_rising (x ∷ xs) ≡ true → Has xs b → is_earlier x b ≡ true
later_than x xs b up h = all_has (is_earlier x) xs b ((and_parts (list_all (is_earlier x) xs) (is_rising xs) up).0) h

heads : (x y : Block) (xs ys : List Block) → is_rising (x ∷ xs) ≡ true → is_rising (y ∷ ys) ≡ true → Has (y ∷ ys) x → Has (x ∷ xs) y → x ≡ y
heads x y xs ys ux uy f g = elim (has_cases y ys x f) [
  | inl e ↦ sym e
  | inr below ↦ elim (has_cases x xs y g) [
    | inl e ↦ e
    | inr above ↦ absurd (not_both_earlier x y (later_than x xs y ux above) (later_than y ys x uy below))
  ]
]

tails : (x y : Block) (xs ys : List Block) → is_rising (x ∷ xs) ≡ true → x ≡ y → ((b : Block) → Has (x ∷ xs) b → Has (y ∷ ys) b) → (b : Block) → Has xs b → Has ys b
tails x y xs ys ux same f b h = elim (has_cases y ys b (f b (has_later x xs b h))) [
  | inr l ↦ l
  | inl e ↦
      let early : is_earlier x b ≡ true = later_than x xs b ux h in
      let own : is_earlier b b ≡ true = subst (λ (z : Block). is_earlier z b ≡ true) (same ∙ e) early in
      absurd (not_both_earlier b b own own)
]

one_list : (xs ys : List Block) → is_rising xs ≡ true → is_rising ys ≡ true → ((b : Block) → Has xs b → Has ys b) → ((b : Block) → Has ys b → Has xs b) → xs ≡ ys
one_list [] [] ux uy f g = refl
one_list [] (y ∷ ys) ux uy f g = absurd (has_nothing y (g y (has_first y ys)))
one_list (x ∷ xs) [] ux uy f g = absurd (has_nothing x (f x (has_first x xs)))
one_list (x ∷ xs) (y ∷ ys) ux uy f g =
    let same : x ≡ y = heads x y xs ys ux uy (f x (has_first x xs)) (g y (has_first y ys)) in
    let rest : xs ≡ ys = one_list xs ys ((and_parts (list_all (is_earlier x) xs) (is_rising xs) ux).1) ((and_parts (list_all (is_earlier y) ys) (is_rising ys) uy).1)
    (tails x y xs ys ux same f) (tails y x ys xs uy (sym same) g) in
    cc

-- ---- what a rest says of its blocks

true_from : (t : Bool) (n : ℕ) → 1 ≤ n → n ≡ cond t 1 0 → t ≡ true
true_from true n some is = refl
true_from false n some is = absurd (omega arith)

one_from : (t : Bool) (n : ℕ) → t ≡ true → n ≡ cond t 1 0 → n ≡ 1
one_from true n h is = is
one_from false n h is = cc

at_most_one : (t : Bool) (n : ℕ) → n ≡ cond t 1 0 → n ≤ 1
at_most_one true n is = omega arith
at_most_one false n is = omega arith

covered_named : (have : List HaveFile) (path : List ℕ) (position : ℕ) → is_covered have path position ≡ true → is_named have path ≡ true
covered_named [] path position h = cc
covered_named (f ∷ fs) path position h =
    elim (or_cases (bytes_eq f.path path && list_any (is_in position) f.spans) (is_covered fs path position) h) [
      | inl here ↦ or_left (bytes_eq f.path path) (is_named fs path) ((and_parts (bytes_eq f.path path) (list_any (is_in position) f.spans) here).0)
      | inr later ↦ or_right (bytes_eq f.path path) (is_named fs path) (covered_named fs path position later)
    ]

not_both : (b : Bool) → b ≡ true → not b ≡ true → ⊥
not_both true t f = cc
not_both false t f = cc

there_named : (have : List HaveFile) (found : Option Entry) (position : ℕ) → has_position have found position ≡ true → lacks_name have found ≡ true → ⊥
there_named have None position h n = cc
there_named have (Some e) position h n =
    not_both (is_named have e.path) (covered_named have e.path position h) ((and_parts (e.size == 0) (not (is_named have e.path)) n).1)

missing_some : (have : List HaveFile) (found : Option Entry) (position : ℕ) → lacks_position have found position ≡ true → lacks_name have found ≡ true → ⊥
missing_some have None position h n = cc
missing_some have (Some e) position h n =
    absurd (omega (
      arith,
      ltb-true position e.size ((and_parts (nat_lt position e.size) (not (is_covered have e.path position)) h).0),
      eqb-true e.size 0 ((and_parts (e.size == 0) (not (is_named have e.path)) n).0),
    ))

there_missing : (have : List HaveFile) (found : Option Entry) (position : ℕ) → has_position have found position ≡ true → lacks_position have found position ≡ true → ⊥
there_missing have None position h m = cc
there_missing have (Some e) position h m =
    not_both (is_covered have e.path position) h ((and_parts (nat_lt position e.size) (not (is_covered have e.path position)) m).1)

end_missing : (have : List HaveFile) (found : Option Entry) (position : ℕ) → is_end found position ≡ true → lacks_position have found position ≡ true → ⊥
end_missing have None position h m = cc
end_missing have (Some e) position h m =
    absurd (omega (arith, eqb-true position e.size h, ltb-true position e.size ((and_parts (nat_lt position e.size) (not (is_covered have e.path position)) m).0)))

missing_from : (entries : List Entry) (have : List HaveFile) (most : ℕ) (xs : List Block) (b : Block) (file position : ℕ) → IsRest entries have most xs → Has xs b
    → holds file position b ≡ true → is_missing entries have file position ≡ true
missing_from entries have most xs b file position r h t =
    true_from (is_missing entries have file position) (count_by (holds file position) xs) (has_count (holds file position) xs b h t) (r.exact file position)

holds_at : (b : Block) (file position : ℕ) → b.file ≡ file → b.offset ≤ position → position < b.offset + b.length → holds file position b ≡ true
holds_at b file position own low high =
    and_from (b.file == file && nat_le b.offset position) (nat_lt position (b.offset + b.length))
    (and_from (b.file == file) (nat_le b.offset position) (eq-eqb b.file file own) (le-leb b.offset position low)) (lt-ltb position (b.offset + b.length) high)

held : (b : Block) (file position : ℕ) → holds file position b ≡ true → (b.file ≡ file) × (b.offset ≤ position) × (position < b.offset + b.length)
held b file position h =
    let outer : ((b.file == file && nat_le b.offset position) ≡ true) × (nat_lt position (b.offset + b.length) ≡ true) = and_parts (b.file == file && nat_le b.offset position) (nat_lt position (b.offset + b.length)) h in
    let inner : ((b.file == file) ≡ true) × (nat_le b.offset position ≡ true) = and_parts (b.file == file) (nat_le b.offset position) outer.0 in
    (eqb-true b.file file inner.0, leb-true b.offset position inner.1, ltb-true position (b.offset + b.length) outer.1)

record Cut (entries : List Entry) (have : List HaveFile) (most : ℕ) (xs : List Block) (b : Block) : Type 0 where
  small : b.length ≤ most
  start : begins entries have most xs b ≡ true
  stop : ends entries have most b ≡ true

cut_of : (entries : List Entry) (have : List HaveFile) (most : ℕ) (xs : List Block) (b : Block) → IsRest entries have most xs → Has xs b → Cut entries have most xs b
cut_of entries have most xs b r h =
    let whole : is_cut entries have most xs b ≡ true = all_has (is_cut entries have most xs) xs b r.cut h in
    let outer : ((nat_le b.length most && begins entries have most xs b) ≡ true) × (ends entries have most b ≡ true) = and_parts (nat_le b.length most && begins entries have most xs b) (ends entries have most b) whole in
    let inner : (nat_le b.length most ≡ true) × (begins entries have most xs b ≡ true) = and_parts (nat_le b.length most) (begins entries have most xs b) outer.0 in
    record { small = leb-true b.length most inner.0; start = inner.1; stop = outer.1 }

same_block : (b c : Block) → c.file ≡ b.file → c.offset ≡ b.offset → c.length ≡ b.length → c ≡ b
same_block b c file offset len =
    let by_file : ℕ → Block = λ (x : ℕ). record { file = x; offset = c.offset; length = c.length } in
    let by_offset : ℕ → Block = λ (x : ℕ). record { file = b.file; offset = x; length = c.length } in
    let by_length : ℕ → Block = λ (x : ℕ). record { file = b.file; offset = b.offset; length = x } in
    ap by_file file ∙ ap by_offset offset ∙ ap by_length len

-- the block of an empty file begins at its start
empty_start : (entries : List Entry) (have : List HaveFile) (most : ℕ) (xs : List Block) (b : Block) → 0 < most → IsRest entries have most xs → Has xs b
    → lacks_name have (slice_get entries b.file) ≡ true → b.offset ≡ 0
empty_start entries have most xs b some r h n =
    elim (or_cases (b.offset == 0 || is_there entries have b.file (b.offset - 1)) (list_any (is_behind most b) xs) (cut_of entries have most xs b r h).start) [
      | inl front ↦ elim (or_cases (b.offset == 0) (is_there entries have b.file (b.offset - 1)) front) [
        | inl start ↦ eqb-true b.offset 0 start
        | inr there ↦ absurd (there_named have (slice_get entries b.file) (b.offset - 1) there n)
      ]
      | inr after ↦ absurd (follows (any_finds (is_behind most b) xs after))
    ]
  where
    follows : Finds (is_behind most b) xs → ⊥
    follows f =
        let outer : ((f.block.file == b.file && f.block.length == most) ≡ true) × ((f.block.offset + f.block.length == b.offset) ≡ true) =
        and_parts (f.block.file == b.file && f.block.length == most) (f.block.offset + f.block.length == b.offset) f.passes in
        let inner : ((f.block.file == b.file) ≡ true) × ((f.block.length == most) ≡ true) = and_parts (f.block.file == b.file) (f.block.length == most) outer.0 in
        let long : f.block.length ≡ most = eqb-true f.block.length most inner.1 in
        missing_some have (slice_get entries b.file) f.block.offset
        (missing_from entries have most xs f.block b.file f.block.offset r f.has (holds_at f.block b.file f.block.offset (eqb-true f.block.file b.file inner.0) (omega arith) (omega arith))) n

-- of two blocks that begin alike none is shorter
not_shorter : (entries : List Entry) (have : List HaveFile) (most : ℕ) (xs ys : List Block) (b c : Block) → IsRest entries have most xs → IsRest entries have most ys → Has xs b → Has ys c
    → c.file ≡ b.file → c.offset ≡ b.offset → b.length < c.length → ⊥
not_shorter entries have most xs ys b c r s h k file offset lt =
    let missing : is_missing entries have b.file (b.offset + b.length) ≡ true =
    missing_from entries have most ys c b.file (b.offset + b.length) s k (holds_at c b.file (b.offset + b.length) file (omega arith) (omega arith)) in
    elim (or_cases (b.length == most || is_end (slice_get entries b.file) (b.offset + b.length)) (is_there entries have b.file (b.offset + b.length)) (cut_of entries have most xs b r h).stop) [
      | inl front ↦ elim (or_cases (b.length == most) (is_end (slice_get entries b.file) (b.offset + b.length)) front) [
        | inl whole ↦ absurd (omega (arith, eqb-true b.length most whole, (cut_of entries have most ys c s k).small))
        | inr end ↦ end_missing have (slice_get entries b.file) (b.offset + b.length) end missing
      ]
      | inr there ↦ there_missing have (slice_get entries b.file) (b.offset + b.length) there missing
    ]

-- ---- each block of one rest is one of the other

has_empty : (entries : List Entry) (have : List HaveFile) (most : ℕ) (xs ys : List Block) (b : Block) → 0 < most → IsRest entries have most xs → IsRest entries have most ys → Has xs b
    → b.length ≡ 0 → Has ys b
has_empty entries have most xs ys b some r s h none =
    let own : is_empty_of b.file b ≡ true = and_from (b.file == b.file) (b.length == 0) (eq-eqb b.file b.file refl) (eq-eqb b.length 0 none) in
    let lacks : lacks_name have (slice_get entries b.file) ≡ true =
    true_from (lacks_name have (slice_get entries b.file)) (count_by (is_empty_of b.file) xs) (has_count (is_empty_of b.file) xs b h own) (r.empty b.file) in
    let one : count_by (is_empty_of b.file) ys ≡ 1 = one_from (lacks_name have (slice_get entries b.file)) (count_by (is_empty_of b.file) ys) lacks (s.empty b.file) in
    found lacks (count_finds (is_empty_of b.file) ys (omega (arith, one)))
  where
    found : lacks_name have (slice_get entries b.file) ≡ true → Finds (is_empty_of b.file) ys → Has ys b
    found lacks f =
        let parts : ((f.block.file == b.file) ≡ true) × ((f.block.length == 0) ≡ true) = and_parts (f.block.file == b.file) (f.block.length == 0) f.passes in
        let file : f.block.file ≡ b.file = eqb-true f.block.file b.file parts.0 in
        let there : lacks_name have (slice_get entries f.block.file) ≡ true = ap (λ n. lacks_name have (slice_get entries n)) file ∙ lacks in
        let start : f.block.offset ≡ b.offset = empty_start entries have most ys f.block some s f.has there ∙ sym (empty_start entries have most xs b some r h lacks) in
        subst (Has ys) (same_block b f.block file start (eqb-true f.block.length 0 parts.1 ∙ sym none)) f.has

has_full : (entries : List Entry) (have : List HaveFile) (most : ℕ) (xs ys : List Block) (b : Block) → IsRest entries have most xs → IsRest entries have most ys → Has xs b
    → 0 < b.length → ((c : Block) → Has ys c → c.offset < b.offset → Has xs c) → Has ys b
has_full entries have most xs ys b r s h full earlier =
    let own : holds b.file b.offset b ≡ true = holds_at b b.file b.offset refl (omega arith) (omega arith) in
    let missing : is_missing entries have b.file b.offset ≡ true = missing_from entries have most xs b b.file b.offset r h own in
    let one : count_by (holds b.file b.offset) ys ≡ 1 = one_from (is_missing entries have b.file b.offset) (count_by (holds b.file b.offset) ys) missing (s.exact b.file b.offset) in
    found own (count_finds (holds b.file b.offset) ys (omega (arith, one)))
  where
    found : holds b.file b.offset b ≡ true → Finds (holds b.file b.offset) ys → Has ys b
    found own f =
        let at : (f.block.file ≡ b.file) × (f.block.offset ≤ b.offset) × (b.offset < f.block.offset + f.block.length) = held f.block b.file b.offset f.passes in
        elim (cases_lt f.block.offset b.offset) [
          | inl lt ↦
              let few : count_by (holds b.file b.offset) xs ≤ 1 = at_most_one (is_missing entries have b.file b.offset) (count_by (holds b.file b.offset) xs) (r.exact b.file b.offset) in
              let same : f.block ≡ b = once_same (holds b.file b.offset) xs f.block b few (earlier f.block f.has lt) h f.passes own in
              subst (Has ys) same f.has
          | inr le ↦
              let start : f.block.offset ≡ b.offset = omega (arith, at.1) in
              elim (cases_order f.block.length b.length) [
                | inl len ↦ subst (Has ys) (same_block b f.block at.0 start len) f.has
                | inr other ↦ elim other [
                  | inl short ↦ absurd (not_shorter entries have most ys xs f.block b s r f.has h (sym at.0) (sym start) short)
                  | inr long ↦ absurd (not_shorter entries have most xs ys b f.block r s h f.has at.0 start long)
                ]
              ]
        ]

has_too : (entries : List Entry) (have : List HaveFile) (most : ℕ) (xs ys : List Block) (b : Block) → 0 < most → IsRest entries have most xs → IsRest entries have most ys → Has xs b
    → ((c : Block) → Has ys c → c.offset < b.offset → Has xs c) → Has ys b
has_too entries have most xs ys b some r s h earlier = elim (cases_lt 0 b.length) [
  | inl full ↦ has_full entries have most xs ys b r s h full earlier
  | inr none ↦ has_empty entries have most xs ys b some r s h (omega arith)
]

record Alike (xs ys : List Block) (n : ℕ) : Type 0 where
  to : (b : Block) → Has xs b → b.offset < n → Has ys b
  from : (b : Block) → Has ys b → b.offset < n → Has xs b

alike : (entries : List Entry) (have : List HaveFile) (most : ℕ) (xs ys : List Block) → 0 < most → IsRest entries have most xs → IsRest entries have most ys → (n : ℕ) → Alike xs ys n
alike entries have most xs ys some r s zero = record { to = λ b h lt. absurd (omega arith); from = λ b h lt. absurd (omega arith) }
alike entries have most xs ys some r s (suc n) = more (alike entries have most xs ys some r s n)
  where
    more : Alike xs ys n → Alike xs ys (suc n)
    more a = record {
      to = λ b h lt. has_too entries have most xs ys b some r s h (λ c k less. a.from c k (omega arith));
      from = λ b h lt. has_too entries have most ys xs b some s r h (λ c k less. a.to c k (omega arith));
    }

pub rest_once : (entries : List Entry) (have : List HaveFile) (most : ℕ) (xs ys : List Block) → 0 < most → IsRest entries have most xs → IsRest entries have most ys → xs ≡ ys
rest_once entries have most xs ys some r s =
    one_list xs ys r.rising s.rising
    (λ b h. (alike entries have most xs ys some r s (suc b.offset)).to b h (omega arith))
    (λ b h. (alike entries have most xs ys some r s (suc b.offset)).from b h (omega arith))
