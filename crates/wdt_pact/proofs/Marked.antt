-- What is marked as there behind blocks that don't overlap: what was, and their positions.
use Rattle.std.proofs.Common.{◌≡◌, ◌⊎◌, inl, inr, ℕ, zero, suc, ◌+◌, ◌<◌, ◌≤◌, ◌==◌, ◌||◌, ◌&&◌, min, nat_le, nat_lt, Bool, true, false, if◌then◌else◌, List, [], ◌∷◌, ◌++◌, length, subst, sym, ap, ◌∙◌, refl, arith, eq-eqb, eqb-true}
use Rattle.std.proofs.lemmas.Bool.{and_parts, both_ways, cases_lt, ne_eqb, or_cases}
use Rattle.std.proofs.lemmas.Bool.Decides.{nat_tests}
use Rattle.std.proofs.lemmas.List.Sums.{sum_by-cons}
use Rattle.wdt_units.specs.Have.{PlainSpan, is_in}
use Rattle.wdt_units.specs.declared.blocks.Block.{Block}
use Rattle.wdt_ranges.specs.Spans.{end_of, has}
use Rattle.wdt_logfmt.specs.Adding.{joined, overlap, span_at, with_span}
use Rattle.wdt_logfmt.specs.Beginning.{is_behind}
use Rattle.wdt_logfmt.specs.Marks.{Marked, block_spans, is_marked, just_marked, mark_block, span_count, spans_at, spans_in, with_block}
use Rattle.wdt_logfmt.proofs.ForCallers.{length-with_span}
use Rattle.wdt_pact.specs.Each.{Each}

-- ---- spans that rise

-- they rise from a place on, neither overlap nor touch, and none is empty
abbrev pub RiseFrom : ℕ → List PlainSpan → Type 0
RiseFrom low [] = Unit {0}
RiseFrom low (t ∷ ts) = (low ≤ t.offset) × (0 < t.count) × RiseFrom (end_of t + 1) ts

-- two spans have no position in common
abbrev pub IsApartOf : PlainSpan → PlainSpan → Type 0
IsApartOf s t = (end_of s ≤ t.offset) ⊎ (end_of t ≤ s.offset)

rise_lower : (low least : ℕ) (ts : List PlainSpan) → least ≤ low → RiseFrom low ts → RiseFrom least ts
rise_lower low least [] le r = tt
rise_lower low least (t ∷ ts) le r = (omega (arith, le, r.0), r.1, r.2)

-- the positions of a span more
pub record Joins (low : ℕ) (s : PlainSpan) (ts : List PlainSpan) : Type 0 where
  pub rises : RiseFrom low (with_span s ts)
  pub from : (p : ℕ) → has (with_span s ts) p ≡ true → (is_in p s ≡ true) ⊎ (has ts p ≡ true)
  pub keeps : (p : ℕ) → (is_in p s ≡ true) ⊎ (has ts p ≡ true) → has (with_span s ts) p ≡ true
  -- it is one more at most, and none where it begins where what is there ends
  pub beside : (last : ℕ) → last + 1 ≡ s.offset → has ts last ≡ true → length (with_span s ts) ≤ length ts

pub in_parts : (p : ℕ) (s : PlainSpan) → is_in p s ≡ true → (s.offset ≤ p) × (p < end_of s)
in_parts p s h = let a = and_parts (nat_le s.offset p) (nat_lt p (end_of s)) h in (grind (arith, nat_tests, a.0), grind (arith, nat_tests, a.1))

pub in_of : (p : ℕ) (s : PlainSpan) → s.offset ≤ p → p < end_of s → is_in p s ≡ true
in_of p s low high = grind (arith, nat_tests)

less_of : (a b : ℕ) → nat_lt a b ≡ true → a < b
less_of a b h = grind (arith, nat_tests)

not_less : (a b : ℕ) → nat_lt a b ≡ false → b ≤ a
not_less a b h = grind (arith, nat_tests)

or_left : (a b : Bool) → a ≡ true → (a || b) ≡ true
or_left a b e = ap (λ (x : Bool). x || b) e

or_right : (a b : Bool) → b ≡ true → (a || b) ≡ true
or_right true b e = refl
or_right false b e = e

-- of two spans that touch
joined_in : (p : ℕ) (s t : PlainSpan) → IsApartOf s t → s.offset ≤ end_of t → t.offset ≤ end_of s → is_in p (joined s t) ≡ true → (is_in p s ≡ true) ⊎ (is_in p t ≡ true)
joined_in p s t (inl behind) near close h =
    let i = in_parts p (joined s t) h in
    elim (cases_lt p (end_of s)) [
      | inl below ↦ inl (in_of p s (omega (arith, i.0, behind, close)) below)
      | inr past ↦ inr (in_of p t (omega (arith, past, close, behind)) (omega (arith, i.1, behind, close)))
    ]
joined_in p s t (inr before) near close h =
    let i = in_parts p (joined s t) h in
    elim (cases_lt p (end_of t)) [
      | inl below ↦ inr (in_of p t (omega (arith, i.0, before, near)) below)
      | inr past ↦ inl (in_of p s (omega (arith, past, near, before)) (omega (arith, i.1, before, near)))
    ]

joined_apart : (s t u : PlainSpan) → IsApartOf s t → s.offset ≤ end_of t → t.offset ≤ end_of s → 0 < s.count → 0 < u.count → end_of t < u.offset → IsApartOf s u → IsApartOf (joined s t) u
joined_apart s t u (inl behind) near close some more above apart = inl (omega (arith, behind, close, above))
joined_apart s t u (inr before) near close some more above (inl apart) = inl (omega (arith, before, near, apart))
joined_apart s t u (inr before) near close some more above (inr apart) = absurd (omega (arith, before, near, apart, above, some, more))

joined_all : (s t : PlainSpan) (low : ℕ) (us : List PlainSpan) → IsApartOf s t → s.offset ≤ end_of t → t.offset ≤ end_of s → 0 < s.count → end_of t + 1 ≤ low → RiseFrom low us → Each (IsApartOf s) us → Each (IsApartOf (joined s t)) us
joined_all s t low [] apart near close some above r e = tt
joined_all s t low (u ∷ us) apart near close some above r e =
    (joined_apart s t u apart near close some r.1 (omega (arith, above, r.0)) e.0, joined_all s t (end_of u + 1) us apart near close some (omega (arith, above, r.0, r.1)) r.2 e.1)

-- nothing is there before the first
has_low : (low : ℕ) (ts : List PlainSpan) (p : ℕ) → RiseFrom low ts → has ts p ≡ true → low ≤ p
has_low low [] p r h = cc
has_low low (t ∷ ts) p r h = elim (or_cases (is_in p t) (has ts p) h) [
  | inl here ↦ (let i = in_parts p t here in omega (arith, r.0, i.0))
  | inr there ↦ (let x = has_low (end_of t + 1) ts p r.2 there in omega (arith, r.0, x))
]

joined_own : (p : ℕ) (s t : PlainSpan) → IsApartOf s t → s.offset ≤ end_of t → t.offset ≤ end_of s → (is_in p s ≡ true) ⊎ (is_in p t ≡ true) → is_in p (joined s t) ≡ true
joined_own p s t (inl behind) near close (inl own) = let i = in_parts p s own in in_of p (joined s t) (omega (arith, i.0)) (omega (arith, i.1, behind, close))
joined_own p s t (inl behind) near close (inr here) = let i = in_parts p t here in in_of p (joined s t) (omega (arith, i.0)) (omega (arith, i.1, behind, close))
joined_own p s t (inr before) near close (inl own) = let i = in_parts p s own in in_of p (joined s t) (omega (arith, i.0)) (omega (arith, i.1, before, near))
joined_own p s t (inr before) near close (inr here) = let i = in_parts p t here in in_of p (joined s t) (omega (arith, i.0)) (omega (arith, i.1, before, near))

pub joins : (low : ℕ) (s : PlainSpan) (ts : List PlainSpan) → low ≤ s.offset → 0 < s.count → RiseFrom low ts → Each (IsApartOf s) ts → Joins low s ts
joins low s [] from some r e =
    record {
      rises = (from, some, tt);
      from = λ p h. elim (or_cases (is_in p s) false h) [ inl x ↦ inl x | inr x ↦ inr x ];
      keeps = λ p h. elim h [ inl x ↦ or_left (is_in p s) false x | inr x ↦ cc ];
      beside = λ last at h. cc;
    }
joins low s (t ∷ ts) from some r e =
    go (nat_lt (end_of t) s.offset) (nat_lt (end_of s) t.offset) refl refl
    (λ less. joins (end_of t + 1) s ts (omega (arith, less)) some r.2 e.1)
    (λ near close. joins low (joined s t) ts (omega (arith, from, r.0)) (omega (arith, some)) (rise_lower (end_of t + 1) low ts (omega (arith, r.0)) r.2) (joined_all s t (end_of t + 1) ts e.0 near close some (omega arith) r.2 e.1))
  where
    go : (c d : Bool) → nat_lt (end_of t) s.offset ≡ c → nat_lt (end_of s) t.offset ≡ d → (end_of t < s.offset → Joins (end_of t + 1) s ts) → (s.offset ≤ end_of t → t.offset ≤ end_of s → Joins low (joined s t) ts) → Joins low s (t ∷ ts)
    go true d far x later join =
        let j = later (less_of (end_of t) s.offset far) in
        let less : end_of t < s.offset = less_of (end_of t) s.offset far in
        let is : with_span s (t ∷ ts) ≡ t ∷ with_span s ts = ap (λ (b : Bool). if b then t ∷ with_span s ts else if nat_lt (end_of s) t.offset then s ∷ t ∷ ts else with_span (joined s t) ts) far in
        record {
          rises = subst (RiseFrom low) (sym is) (r.0, r.1, j.rises);
          from = λ p h. elim (or_cases (is_in p t) (has (with_span s ts) p) (ap (λ (ss : List PlainSpan). has ss p) (sym is) ∙ h)) [
            | inl here ↦ inr (or_left (is_in p t) (has ts p) here)
            | inr there ↦ elim (j.from p there) [ inl own ↦ inl own | inr old ↦ inr (or_right (is_in p t) (has ts p) old) ]
          ];
          keeps = λ p h. ap (λ (ss : List PlainSpan). has ss p) is ∙ elim h [
            | inl own ↦ or_right (is_in p t) (has (with_span s ts) p) (j.keeps p (inl own))
            | inr old ↦ elim (or_cases (is_in p t) (has ts p) old) [
              | inl here ↦ or_left (is_in p t) (has (with_span s ts) p) here
              | inr there ↦ or_right (is_in p t) (has (with_span s ts) p) (j.keeps p (inr there))
            ]
          ];
          beside = λ last at h. elim (or_cases (is_in last t) (has ts last) h) [
            | inl here ↦ absurd (let i = in_parts last t here in omega (arith, at, less, i.1))
            | inr there ↦ (let x = j.beside last at there in omega (arith, ap (λ (ss : List PlainSpan). length ss) is, x))
          ];
        }
    go false true near far later join =
        let more : end_of s < t.offset = less_of (end_of s) t.offset far in
        let is : with_span s (t ∷ ts) ≡ s ∷ t ∷ ts = ap (λ (b : Bool). if b then t ∷ with_span s ts else if nat_lt (end_of s) t.offset then s ∷ t ∷ ts else with_span (joined s t) ts) near
        ∙ ap (λ (b : Bool). if b then s ∷ t ∷ ts else with_span (joined s t) ts) far in
        record {
          rises = subst (RiseFrom low) (sym is) (from, some, (omega (arith, more), r.1, r.2));
          from = λ p h. elim (or_cases (is_in p s) (is_in p t || has ts p) (ap (λ (ss : List PlainSpan). has ss p) (sym is) ∙ h)) [ inl own ↦ inl own | inr old ↦ inr old ];
          keeps = λ p h. ap (λ (ss : List PlainSpan). has ss p) is ∙ elim h [ inl own ↦ or_left (is_in p s) (is_in p t || has ts p) own | inr old ↦ or_right (is_in p s) (is_in p t || has ts p) old ];
          beside = λ last at h. absurd (let x = has_low t.offset (t ∷ ts) last (omega arith, r.1, r.2) h in omega (arith, at, more, x));
        }
    go false false near close later join =
        let n = not_less (end_of t) s.offset near in
        let c = not_less (end_of s) t.offset close in
        let j = join n c in
        let is : with_span s (t ∷ ts) ≡ with_span (joined s t) ts = ap (λ (b : Bool). if b then t ∷ with_span s ts else if nat_lt (end_of s) t.offset then s ∷ t ∷ ts else with_span (joined s t) ts) near
        ∙ ap (λ (b : Bool). if b then s ∷ t ∷ ts else with_span (joined s t) ts) close in
        record {
          rises = subst (RiseFrom low) (sym is) j.rises;
          from = λ p h. elim (j.from p (ap (λ (ss : List PlainSpan). has ss p) (sym is) ∙ h)) [
            | inl both ↦ elim (joined_in p s t e.0 n c both) [ inl own ↦ inl own | inr here ↦ inr (or_left (is_in p t) (has ts p) here) ]
            | inr old ↦ inr (or_right (is_in p t) (has ts p) old)
          ];
          keeps = λ p h. ap (λ (ss : List PlainSpan). has ss p) is ∙ elim h [
            | inl own ↦ j.keeps p (inl (joined_own p s t e.0 n c (inl own)))
            | inr old ↦ elim (or_cases (is_in p t) (has ts p) old) [ inl here ↦ j.keeps p (inl (joined_own p s t e.0 n c (inr here))) | inr there ↦ j.keeps p (inr there) ]
          ];
          beside = λ last at h. omega (arith, ap (λ (ss : List PlainSpan). length ss) is, length-with_span (joined s t) ts);
        }

-- ---- a block's positions

-- a position is one of a block's
abbrev pub InBlock : Block → ℕ → Type 0
InBlock b p = (b.offset ≤ p) × (p < b.offset + b.length)

-- spans that share no position with one are apart of it
pub apart_from : (s : PlainSpan) (low : ℕ) (ts : List PlainSpan) → 0 < s.count → RiseFrom low ts → ((p : ℕ) → is_in p s ≡ true → has ts p ≡ true → ⊥) → Each (IsApartOf s) ts
apart_from s low [] some r free = tt
apart_from s low (t ∷ ts) some r free = (
  elim (cases_lt t.offset (end_of s)) [
    | inr behind ↦ inl behind
    | inl near ↦ elim (cases_lt s.offset (end_of t)) [
      | inr before ↦ inr before
      | inl close ↦ absurd (meet near close)
    ]
  ],
  apart_from s (end_of t + 1) ts some r.2 (λ p own there. free p own (or_right (is_in p t) (has ts p) there)),
) where
  meet : t.offset < end_of s → s.offset < end_of t → ⊥
  meet near close = elim (cases_lt s.offset t.offset) [
    | inl less ↦ free t.offset (in_of t.offset s (omega (arith, less)) near) (or_left (is_in t.offset t) (has ts t.offset) (in_of t.offset t (omega arith) (omega (arith, r.1))))
    | inr more ↦ free s.offset (in_of s.offset s (omega arith) (omega (arith, some))) (or_left (is_in s.offset t) (has ts s.offset) (in_of s.offset t more close))
  ]

some_of : (n : ℕ) → (n == 0) ≡ false → 0 < n
some_of zero e = cc
some_of (suc n) e = omega arith

-- how many spans more a block makes of those that are there
abbrev pub cost_at : List PlainSpan → Block → ℕ
cost_at spans b = if b.length == 0 || is_behind spans b.offset then 0 else 1

-- the spans of a file with a block's positions
record With (new spans : List PlainSpan) (b : Block) : Type 0 where
  rises : RiseFrom 0 new
  from : (p : ℕ) → has new p ≡ true → (has spans p ≡ true) ⊎ InBlock b p
  stays : (p : ℕ) → has spans p ≡ true → has new p ≡ true
  few : length new ≤ length spans + cost_at spans b

with_from : (spans : List PlainSpan) (b : Block) → RiseFrom 0 spans → ((p : ℕ) → InBlock b p → has spans p ≡ true → ⊥) → With (with_block spans b) spans b
with_from spans b r free = go (b.length == 0) refl where
  go : (c : Bool) → (b.length == 0) ≡ c → With (if c then spans else with_span (span_at b.offset b.length) spans) spans b
  go true is = record { rises = r; from = λ p h. inl h; stays = λ p h. h; few = omega arith }
  go false is =
      let some : 0 < b.length = some_of b.length is in
      let j = joins 0 (span_at b.offset b.length) spans (omega arith) some r (apart_from (span_at b.offset b.length) 0 spans some r (λ p own there. free p (in_parts p (span_at b.offset b.length) own) there)) in
      record {
        rises = j.rises;
        from = λ p h. elim (j.from p h) [ inl own ↦ inr (in_parts p (span_at b.offset b.length) own) | inr old ↦ inl old ];
        stays = λ p h. j.keeps p (inr h);
        few = few b.offset refl (is_behind spans b.offset) refl j.beside;
      } where
        few : (at : ℕ) → b.offset ≡ at → (d : Bool) → is_behind spans b.offset ≡ d → ((last : ℕ) → last + 1 ≡ b.offset → has spans last ≡ true → length (with_span (span_at b.offset b.length) spans) ≤ length spans)
            → length (with_span (span_at b.offset b.length) spans) ≤ length spans + cost_at spans b
        few at same false behind beside =
            let one : cost_at spans b ≡ 1 = ap (λ (x : Bool). if x || is_behind spans b.offset then 0 else 1) is ∙ ap (λ (x : Bool). if x then 0 else 1) behind in
            omega (arith, one, length-with_span (span_at b.offset b.length) spans)
        few zero same true behind beside = let x : false ≡ true = sym (ap (is_behind spans) same) ∙ behind in cc
        few (suc k) same true behind beside =
            let x = beside k (omega (arith, same)) (sym (ap (is_behind spans) same) ∙ behind) in omega (arith, x)

-- those of a file that is named by a block
alone_from : (b : Block) → With (block_spans b) [] b
alone_from b = go (b.length == 0) refl where
  unbehind : (at : ℕ) → is_behind [] at ≡ false
  unbehind zero = refl
  unbehind (suc k) = refl

  go : (c : Bool) → (b.length == 0) ≡ c → With (if c then [] else span_at b.offset b.length ∷ []) [] b
  go true is = record { rises = tt; from = λ p h. inl h; stays = λ p h. h; few = omega arith }
  go false is =
      let one : cost_at [] b ≡ 1 = ap (λ (x : Bool). if x || is_behind [] b.offset then 0 else 1) is ∙ ap (λ (x : Bool). if x then 0 else 1) (unbehind b.offset) in
      record {
        rises = (omega arith, some_of b.length is, tt);
        from = λ p h. elim (or_cases (is_in p (span_at b.offset b.length)) false h) [ inl own ↦ inr (in_parts p (span_at b.offset b.length) own) | inr none ↦ cc ];
        stays = λ p h. cc;
        few = omega (arith, one);
      }

-- ---- marks

-- the spans of each mark rise
abbrev pub AllRise : List Marked → Type 0
AllRise ms = Each (λ (m : Marked). RiseFrom 0 m.spans) ms

-- no position of a block is there
abbrev pub IsFree : List Marked → Block → Type 0
IsFree ms b = (p : ℕ) → InBlock b p → has (spans_at ms b.file) p ≡ true → ⊥

-- the numbers of marks rise
abbrev pub NumbersRise : ℕ → List Marked → Type 0
NumbersRise low [] = Unit {0}
NumbersRise low (m ∷ ms) = (low ≤ m.number) × NumbersRise (m.number + 1) ms

-- nothing is marked of a number below all
absent : (low : ℕ) (ms : List Marked) (n : ℕ) → n < low → NumbersRise low ms → spans_at ms n ≡ []
absent low [] n below up = refl
absent low (m ∷ ms) n below up =
    ap (λ (b : Bool). if b then m.spans else spans_at ms n) (ne_eqb m.number n (λ e. absurd (omega (arith, e, below, up.0)))) ∙ absent (m.number + 1) ms n (omega (arith, below, up.0)) up.1

-- marks with a block more: what is there was there or is of the block
pub record Adds (new ms : List Marked) (b : Block) : Type 0 where
  pub rises : AllRise new
  pub from : (n p : ℕ) → has (spans_at new n) p ≡ true → (has (spans_at ms n) p ≡ true) ⊎ ((b.file ≡ n) × InBlock b p)
  pub named : (n : ℕ) → is_marked new n ≡ true → (is_marked ms n ≡ true) ⊎ (b.file ≡ n)
  pub stays : (n p : ℕ) → has (spans_at ms n) p ≡ true → has (spans_at new n) p ≡ true
  pub few : spans_in new ≤ spans_in ms + cost_at (spans_at ms b.file) b

none_in : {P : Type 0} (p : ℕ) → has [] p ≡ true → P
none_in p h = cc

pub adds : (low : ℕ) (ms : List Marked) (b : Block) → NumbersRise low ms → AllRise ms → IsFree ms b → Adds (mark_block ms b) ms b
adds low [] b up r f =
    record {
      rises = ((alone_from b).rises, tt);
      from = λ n p h. own n p (b.file == n) refl h;
      named = λ n h. elim (or_cases (b.file == n) false h) [ inl here ↦ inr (eqb-true b.file n here) | inr none ↦ cc ];
      stays = λ n p h. none_in p h;
      few = (let x = (alone_from b).few in omega (arith, x, sum_by-cons span_count (just_marked b) []));
    } where
      own : (n p : ℕ) (e : Bool) → (b.file == n) ≡ e → has (if e then block_spans b else []) p ≡ true → (has [] p ≡ true) ⊎ ((b.file ≡ n) × InBlock b p)
      own n p true same h = elim ((alone_from b).from p h) [ inl none ↦ inl none | inr i ↦ inr (eqb-true b.file n same, i) ]
      own n p false same h = inl h
adds low (m ∷ ms) b up r f = go (m.number == b.file) (nat_lt b.file m.number) refl refl (λ free. adds (m.number + 1) ms b up.1 r.1 free) where
  go : (c d : Bool) → (m.number == b.file) ≡ c → nat_lt b.file m.number ≡ d → (IsFree ms b → Adds (mark_block ms b) ms b)
      → Adds (if c then record { number = m.number; spans = with_block m.spans b } ∷ ms else if d then just_marked b ∷ m ∷ ms else m ∷ mark_block ms b) (m ∷ ms) b
  go true d is less later =
      let w = with_from m.spans b r.0 (λ p i there. f p i (ap (λ (c : Bool). has (if c then m.spans else spans_at ms b.file) p) is ∙ there)) in
      let here : cost_at (spans_at (m ∷ ms) b.file) b ≡ cost_at m.spans b = ap (λ (c : Bool). cost_at (if c then m.spans else spans_at ms b.file) b) is in
      record {
        rises = (w.rises, r.1);
        from = λ n p h. own n p w.from (m.number == n) refl h;
        named = λ n h. inl h;
        stays = λ n p h. old n p w.stays (m.number == n) h;
        few = (let x = w.few in omega (arith, x, here, sum_by-cons span_count record { number = m.number; spans = with_block m.spans b } ms, sum_by-cons span_count m ms));
      } where
        own : (n p : ℕ) → ((q : ℕ) → has (with_block m.spans b) q ≡ true → (has m.spans q ≡ true) ⊎ InBlock b q) → (e : Bool) → (m.number == n) ≡ e → has (if e then with_block m.spans b else spans_at ms n) p ≡ true
            → (has (if e then m.spans else spans_at ms n) p ≡ true) ⊎ ((b.file ≡ n) × InBlock b p)
        own n p w true same h = elim (w p h) [ inl old ↦ inl old | inr i ↦ inr (sym (eqb-true m.number b.file is) ∙ eqb-true m.number n same, i) ]
        own n p w false same h = inl h

        old : (n p : ℕ) → ((q : ℕ) → has m.spans q ≡ true → has (with_block m.spans b) q ≡ true) → (e : Bool) → has (if e then m.spans else spans_at ms n) p ≡ true → has (if e then with_block m.spans b else spans_at ms n) p ≡ true
        old n p w true h = w p h
        old n p w false h = h
  go false true is less later =
      let below : b.file < m.number = less_of b.file m.number less in
      let none : spans_at (m ∷ ms) b.file ≡ [] = absent m.number (m ∷ ms) b.file below (omega arith, up.1) in
      let here : cost_at (spans_at (m ∷ ms) b.file) b ≡ cost_at [] b = ap (λ (ss : List PlainSpan). cost_at ss b) none in
      record {
        rises = ((alone_from b).rises, r);
        from = λ n p h. own n p (b.file == n) refl h;
        named = λ n h. elim (or_cases (b.file == n) (is_marked (m ∷ ms) n) h) [ inl here ↦ inr (eqb-true b.file n here) | inr old ↦ inl old ];
        stays = λ n p h. old n p none (b.file == n) refl h;
        few = (let x = (alone_from b).few in omega (arith, x, here, sum_by-cons span_count (just_marked b) (m ∷ ms)));
      } where
        own : (n p : ℕ) (e : Bool) → (b.file == n) ≡ e → has (if e then block_spans b else spans_at (m ∷ ms) n) p ≡ true → (has (spans_at (m ∷ ms) n) p ≡ true) ⊎ ((b.file ≡ n) × InBlock b p)
        own n p true same h = elim ((alone_from b).from p h) [ inl none ↦ none_in p none | inr i ↦ inr (eqb-true b.file n same, i) ]
        own n p false same h = inl h

        old : (n p : ℕ) → spans_at (m ∷ ms) b.file ≡ [] → (e : Bool) → (b.file == n) ≡ e → has (spans_at (m ∷ ms) n) p ≡ true → has (if e then block_spans b else spans_at (m ∷ ms) n) p ≡ true
        old n p none true same h = none_in p (sym (ap (λ (ss : List PlainSpan). has ss p) none) ∙ (ap (λ (k : ℕ). has (spans_at (m ∷ ms) k) p) (eqb-true b.file n same) ∙ h))
        old n p none false same h = h
  go false false is less later =
      let a = later (λ p i there. f p i (ap (λ (c : Bool). has (if c then m.spans else spans_at ms b.file) p) is ∙ there)) in
      let here : cost_at (spans_at (m ∷ ms) b.file) b ≡ cost_at (spans_at ms b.file) b = ap (λ (c : Bool). cost_at (if c then m.spans else spans_at ms b.file) b) is in
      record {
        rises = (r.0, a.rises);
        from = λ n p h. own n p (a.from n p) (m.number == n) refl h;
        named = λ n h. elim (or_cases (m.number == n) (is_marked (mark_block ms b) n) h) [
          | inl here ↦ inl (or_left (m.number == n) (is_marked ms n) here)
          | inr there ↦ elim (a.named n there) [ inl old ↦ inl (or_right (m.number == n) (is_marked ms n) old) | inr own ↦ inr own ]
        ];
        stays = λ n p h. old n p (a.stays n p) (m.number == n) h;
        few = (let x = a.few in omega (arith, x, here, sum_by-cons span_count m (mark_block ms b), sum_by-cons span_count m ms));
      } where
        own : (n p : ℕ) → (has (spans_at (mark_block ms b) n) p ≡ true → (has (spans_at ms n) p ≡ true) ⊎ ((b.file ≡ n) × InBlock b p)) → (e : Bool) → (m.number == n) ≡ e
            → has (if e then m.spans else spans_at (mark_block ms b) n) p ≡ true → (has (if e then m.spans else spans_at ms n) p ≡ true) ⊎ ((b.file ≡ n) × InBlock b p)
        own n p from true same h = inl h
        own n p from false same h = from h

        old : (n p : ℕ) → (has (spans_at ms n) p ≡ true → has (spans_at (mark_block ms b) n) p ≡ true) → (e : Bool) → has (if e then m.spans else spans_at ms n) p ≡ true → has (if e then m.spans else spans_at (mark_block ms b) n) p ≡ true
        old n p more true h = h
        old n p more false h = more h
