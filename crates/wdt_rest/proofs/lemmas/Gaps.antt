-- The blocks of the gaps of one file.
use Rattle.std.proofs.Common.{◌≡◌, ℕ, ◌+◌, ◌-◌, ◌<◌, ◌≤◌, ◌^◌, Bool, true, false, not, cond, ◌||◌, ◌&&◌, ◌==◌, nat_lt, nat_le, min, List, [], ◌∷◌, ◌++◌, append_assoc, append-nil, count_by, refl, sym, ap, ◌∙◌, arith, inl, inr, subst}
use Rattle.std.specs.List.{list_any, All}
use Rattle.std.proofs.lemmas.Bool.{and_parts, and_from, or_cases, or_left, or_right, cases_lt, eq-eqb, lt-ltb, ltb-true, ltb-false, le-leb, leb-true}
use Rattle.std.proofs.lemmas.Bool.Decides.{nat_tests}
use Rattle.std.proofs.lemmas.List.Elements.{All-nil, All-append, All-weaker}
use Rattle.std.proofs.lemmas.List.Folds.{list_any-append}
use Rattle.std.proofs.lemmas.List.Sums.{sum_by-append}
use Rattle.wdt_units.specs.Have.{PlainSpan, is_in}
use Rattle.wdt_units.specs.declared.blocks.Block.{Block}
use Rattle.wdt_tree.specs.Rest.{holds, is_earlier, is_behind}
use Rattle.wdt_ranges.specs.Spans.{end_of, is_span, are_apart_from, has, span_between, gaps_from}
use Rattle.wdt_rest.specs.RestOf.{pieces_of, gap_pieces}
use Rattle.wdt_rest.proofs.lemmas.Pieces.{Lies, stops, is_cut_in, AllCut, IsPart, rising_append, lies_earlier, pieces_part}

-- ---- parts of a file, one behind the other

-- what a list has, another has
pub record IsWider (xs ys : List Block) : Type 0 where
  pub any : (p : Block → Bool) → list_any p xs ≡ true → list_any p ys ≡ true

pub wider_left : (xs ys : List Block) → IsWider xs (xs ++ ys)
wider_left xs ys = record { any = λ p h. list_any-append p xs ys ∙ or_left (list_any p xs) (list_any p ys) h }

pub wider_right : (xs ys : List Block) → IsWider ys (xs ++ ys)
wider_right xs ys = record { any = λ p h. list_any-append p xs ys ∙ or_right (list_any p xs) (list_any p ys) h }

and_or_more : (a b c d e : Bool) → (d ≡ true → e ≡ true) → (a && (b || d) && c) ≡ true → (a && (b || e) && c) ≡ true
and_or_more a b c d e more h =
    let outer : ((a && (b || d)) ≡ true) × (c ≡ true) = and_parts (a && (b || d)) c h in
    let inner : (a ≡ true) × ((b || d) ≡ true) = and_parts a (b || d) outer.0 in
    and_from (a && (b || e)) c (and_from a (b || e) inner.0 (elim (or_cases b d inner.1) [ inl x ↦ or_left b e x | inr y ↦ or_right b e (more y) ])) outer.1

pub cut_wider : (most size : ℕ) (there : ℕ → Bool) (xs ys : List Block) → IsWider xs ys → (b : Block) → is_cut_in most size there xs b ≡ true → is_cut_in most size there ys b ≡ true
cut_wider most size there xs ys wider b h =
    and_or_more (nat_le b.length most) (b.offset == 0 || there (b.offset - 1)) (stops most size there b) (list_any (is_behind most b) xs) (list_any (is_behind most b) ys) (wider.any (is_behind most b)) h

pub cuts_wider : (most size : ℕ) (there : ℕ → Bool) (xs ys zs : List Block) → IsWider xs ys → AllCut most size there xs zs → AllCut most size there ys zs
cuts_wider most size there xs ys zs wider all =
    All-weaker (λ b. is_cut_in most size there xs b ≡ true) (λ b. is_cut_in most size there ys b ≡ true) (cut_wider most size there xs ys wider) zs all

lies_lower : (file low mid high : ℕ) → mid ≤ high → (b : Block) → Lies file low mid b → Lies file low high b
lies_lower file low mid high le b f = record { own = f.own; from = f.from; some = f.some; to = omega (arith, f.to) }

lies_upper : (file low from high : ℕ) → low ≤ from → (b : Block) → Lies file from high b → Lies file low high b
lies_upper file low from high le b f = record { own = f.own; from = omega (arith, f.from); some = f.some; to = f.to }

pub count_join : (q : Block → Bool) (xs ys : List Block) (m n : ℕ) → count_by q xs ≡ m → count_by q ys ≡ n → count_by q (xs ++ ys) ≡ m + n
count_join q xs ys m n a b = sum_by-append (λ x. cond (q x) 1 0) xs ys ∙ ap (λ c. c + count_by q ys) a ∙ ap (λ c. m + c) b

join : (most file size : ℕ) (there : ℕ → Bool) (low mid from high : ℕ) (m n l : ℕ → Bool) (xs ys : List Block) → mid ≤ from → low ≤ from → mid ≤ high
    → ((p : ℕ) → cond (m p) 1 0 + cond (n p) 1 0 ≡ cond (l p) 1 0)
    → IsPart most file size there low mid m xs → IsPart most file size there from high n ys → IsPart most file size there low high l (xs ++ ys)
join most file size there low mid from high m n l xs ys behind below within both f g = record {
  lies = All-append (Lies file low high) xs ys (All-weaker (Lies file low mid) (Lies file low high) (lies_lower file low mid high within) xs f.lies)
      (All-weaker (Lies file from high) (Lies file low high) (lies_upper file low from high below) ys g.lies);
  rising = rising_append xs ys f.rising g.rising
      (All-weaker (Lies file low mid) (λ b. All (λ c. is_earlier b c ≡ true) ys)
      (λ b k. All-weaker (Lies file from high) (λ c. is_earlier b c ≡ true) (λ c i. lies_earlier file low mid from high b c behind k i) ys g.lies) xs f.lies);
  exact = λ position. count_join (holds file position) xs ys (cond (m position) 1 0) (cond (n position) 1 0) (f.exact position) (g.exact position) ∙ both position;
  cut = All-append (λ b. is_cut_in most size there (xs ++ ys) b ≡ true) xs ys (cuts_wider most size there xs (xs ++ ys) xs (wider_left xs ys) f.cut)
      (cuts_wider most size there ys (xs ++ ys) ys (wider_right xs ys) g.cut);
}

part_as : (most file size : ℕ) (there : ℕ → Bool) (low high : ℕ) (m l : ℕ → Bool) (xs : List Block) → ((p : ℕ) → m p ≡ l p) → IsPart most file size there low high m xs
    → IsPart most file size there low high l xs
part_as most file size there low high m l xs same f = record {
  lies = f.lies;
  rising = f.rising;
  exact = λ position. f.exact position ∙ ap (λ (t : Bool). cond t 1 0) (same position);
  cut = f.cut;
}

-- ---- spans

pub record Parts (least : ℕ) (s : PlainSpan) (ss : List PlainSpan) : Type 0 where
  pub from : least ≤ s.offset
  pub some : 0 < s.count
  pub rest : are_apart_from (end_of s + 1) ss ≡ true

pub parts : (least : ℕ) (s : PlainSpan) (ss : List PlainSpan) → are_apart_from least (s ∷ ss) ≡ true → Parts least s ss
parts least s ss h =
    let outer : ((nat_le least s.offset && is_span s) ≡ true) × (are_apart_from (end_of s + 1) ss ≡ true) = and_parts (nat_le least s.offset && is_span s) (are_apart_from (end_of s + 1) ss) h in
    let inner : (nat_le least s.offset ≡ true) × (is_span s ≡ true) = and_parts (nat_le least s.offset) (is_span s) outer.0 in
    let full : (nat_lt 0 s.count ≡ true) × (nat_le (end_of s) (2 ^ 40) ≡ true) = and_parts (nat_lt 0 s.count) (nat_le (end_of s) (2 ^ 40)) inner.1 in
    record { from = leb-true least s.offset inner.0; some = ltb-true 0 s.count full.0; rest = outer.1 }

pub apart_earlier : (n m : ℕ) (ss : List PlainSpan) → m ≤ n → are_apart_from n ss ≡ true → are_apart_from m ss ≡ true
apart_earlier n m [] le h = refl
apart_earlier n m (s ∷ ss) le h =
    let outer : ((nat_le n s.offset && is_span s) ≡ true) × (are_apart_from (end_of s + 1) ss ≡ true) = and_parts (nat_le n s.offset && is_span s) (are_apart_from (end_of s + 1) ss) h in
    let inner : (nat_le n s.offset ≡ true) × (is_span s ≡ true) = and_parts (nat_le n s.offset) (is_span s) outer.0 in
    let low : n ≤ s.offset = leb-true n s.offset inner.0 in
    and_from (nat_le m s.offset && is_span s) (are_apart_from (end_of s + 1) ss) (and_from (nat_le m s.offset) (is_span s) (le-leb m s.offset (omega arith)) inner.1) outer.1

pub both_false : (x y : Bool) → x ≡ false → y ≡ false → (x || y) ≡ false
both_false true y a b = a
both_false false y a b = b

not_in : (p o c : ℕ) → p < o → (nat_le o p && nat_lt p (o + c)) ≡ false
not_in p o c lt = grind (arith, nat_tests)

none_below : (n : ℕ) (ss : List PlainSpan) (p : ℕ) → are_apart_from n ss ≡ true → p < n → has ss p ≡ false
none_below n [] p h lt = refl
none_below n (s ∷ ss) p h lt =
    let t : Parts n s ss = parts n s ss h in
    both_false (is_in p s) (has ss p) (not_in p s.offset s.count (omega (arith, t.from))) (none_below (end_of s + 1) ss p t.rest (omega (arith, t.from)))

-- ---- gaps

gap_pieces-append : (most file : ℕ) (xs ys : List PlainSpan) → gap_pieces most file (xs ++ ys) ≡ gap_pieces most file xs ++ gap_pieces most file ys
gap_pieces-append most file [] ys = refl
gap_pieces-append most file (x ∷ xs) ys = ap (λ bs. pieces_of most file x ++ bs) (gap_pieces-append most file xs ys) ∙ sym (append_assoc (pieces_of most file x) (gap_pieces most file xs) (gap_pieces most file ys))

no_position : (low high p : ℕ) → high ≤ low → ◌≡◌ {A = ℕ} 0 (cond (nat_le low p && nat_lt p high) 1 0)
no_position low high p le = grind (arith, nat_tests)

between_part : (most file size : ℕ) (there : ℕ → Bool) (low high : ℕ) → 0 < most → (low == 0 || there (low - 1)) ≡ true → (high == size || there high) ≡ true
    → IsPart most file size there low high (λ p. nat_le low p && nat_lt p high) (gap_pieces most file (span_between low high))
between_part most file size there low high some start end = go (nat_lt low high) refl
  where
    gap : PlainSpan
    gap = record { offset = low; count = high - low }

    lacks : ℕ → ℕ → Bool
    lacks top p = nat_le low p && nat_lt p top

    go : (b : Bool) → nat_lt low high ≡ b → IsPart most file size there low high (lacks high) (gap_pieces most file (cond b (gap ∷ []) []))
    go true h =
        let lt : low < high = ltb-true low high h in
        let top : low + (high - low) ≡ high = omega arith in
        let stop : (low + (high - low) == size || there (low + (high - low))) ≡ true = subst (λ n. (n == size || there n) ≡ true) (sym top) end in
        let part : IsPart most file size there low (low + (high - low)) (lacks (low + (high - low))) (pieces_of most file gap) = pieces_part most file size there gap some (record { start = start; end = stop }) in
        subst (IsPart most file size there low high (lacks high)) (sym (append-nil (pieces_of most file gap)))
        (subst (λ n. IsPart most file size there low n (lacks n) (pieces_of most file gap)) top part)
    go false h = record {
      lies = All-nil (Lies file low high);
      rising = refl;
      exact = λ p. no_position low high p (ltb-false low high h);
      cut = All-nil (λ b. is_cut_in most size there [] b ≡ true);
    }

position_step : (p least o c size : ℕ) (h : Bool) → least ≤ o → 0 < c → (p < o + c + 1 → h ≡ false)
    → cond (nat_le least p && nat_lt p (min o size)) 1 0 + cond (nat_le (o + c) p && nat_lt p size && not h) 1 0 ≡ cond (nat_le least p && nat_lt p size && not (nat_le o p && nat_lt p (o + c) || h)) 1 0
position_step p least o c size false low some none = grind (arith, nat_tests)
position_step p least o c size true low some none = elim (cases_lt p (o + c + 1)) [
  | inl lt ↦ absurd (let e : true ≡ false = none lt in cc)
  | inr ge ↦ past p least o c size ge
]
  where
    past : (p least o c size : ℕ) → o + c + 1 ≤ p
        → cond (nat_le least p && nat_lt p (min o size)) 1 0 + cond (nat_le (o + c) p && nat_lt p size && false) 1 0 ≡ cond (nat_le least p && nat_lt p size && not (nat_le o p && nat_lt p (o + c) || true)) 1 0
    past p least o c size ge = grind (arith, nat_tests)

and_true : (b : Bool) → b ≡ (b && true)
and_true true = refl
and_true false = refl

pub gaps_part : (most file size : ℕ) (there : ℕ → Bool) (least : ℕ) (ss : List PlainSpan) → 0 < most → are_apart_from least ss ≡ true → (least == 0 || there (least - 1)) ≡ true
    → ((p : ℕ) → has ss p ≡ true → there p ≡ true)
    → IsPart most file size there least size (λ p. nat_le least p && nat_lt p size && not (has ss p)) (gap_pieces most file (gaps_from least size ss))
gaps_part most file size there least [] some apart start covers =
    part_as most file size there least size (λ p. nat_le least p && nat_lt p size) (λ p. nat_le least p && nat_lt p size && true) (gap_pieces most file (span_between least size))
    (λ p. and_true (nat_le least p && nat_lt p size))
    (between_part most file size there least size some start (or_left (size == size) (there size) (eq-eqb size size refl)))
gaps_part most file size there least (s ∷ ss) some apart start covers =
    subst (IsPart most file size there least size lacks) (sym (gap_pieces-append most file (span_between least (min s.offset size)) (gaps_from (end_of s) size ss)))
    (join most file size there least (min s.offset size) (end_of s) size (λ p. nat_le least p && nat_lt p (min s.offset size)) (λ p. nat_le (end_of s) p && nat_lt p size && not (has ss p)) lacks
    (gap_pieces most file (span_between least (min s.offset size))) (gap_pieces most file (gaps_from (end_of s) size ss))
    (omega arith) (omega (arith, t.from)) (omega arith)
    (λ p. position_step p least s.offset s.count size (has ss p) t.from t.some (none_below (end_of s + 1) ss p t.rest))
    (between_part most file size there least (min s.offset size) some start stop)
    (gaps_part most file size there (end_of s) ss some (apart_earlier (end_of s + 1) (end_of s) ss (omega arith) t.rest)
    (or_right (end_of s == 0) (there (end_of s - 1)) (inside (end_of s - 1) (omega (arith, t.some)) (omega (arith, t.some))))
    (λ p h. covers p (or_right (is_in p s) (has ss p) h))))
  where
    t : Parts least s ss
    t = parts least s ss apart

    lacks : ℕ → Bool
    lacks p = nat_le least p && nat_lt p size && not (has (s ∷ ss) p)

    inside : (p : ℕ) → s.offset ≤ p → p < s.offset + s.count → there p ≡ true
    inside p low high = covers p (or_left (is_in p s) (has ss p) (and_from (nat_le s.offset p) (nat_lt p (s.offset + s.count)) (le-leb s.offset p low) (lt-ltb p (s.offset + s.count) high)))

    stop : (min s.offset size == size || there (min s.offset size)) ≡ true
    stop = elim (cases_lt s.offset size) [
      | inl lt ↦
          let same : s.offset ≡ min s.offset size = omega arith in
          or_right (min s.offset size == size) (there (min s.offset size)) (subst (λ n. there n ≡ true) same (inside s.offset (omega arith) (omega (arith, t.some))))
      | inr ge ↦ or_left (min s.offset size == size) (there (min s.offset size)) (eq-eqb (min s.offset size) size (omega arith))
    ]
