-- In a legal history what is there was named by the log or has landed, and the blocks that are begun are apart from it and from each other.
use Rattle.std.proofs.Common.{◌≡◌, ◌≢◌, ◌⊎◌, inl, inr, ℕ, zero, suc, ◌+◌, ◌<◌, ◌≤◌, ◌==◌, ◌||◌, ◌&&◌, max, nat_lt, Bool, true, false, if◌then◌else◌, cond, List, [], ◌∷◌, ◌++◌, length, map, filter, sum_by, Option, Some, None, subst, sym, ap, ◌∙◌, refl, arith, append-nil, append_assoc, eq-eqb, eqb-true}
use Rattle.std.specs.List.{flat_map}
use Rattle.std.proofs.lemmas.Bool.{and_parts, both_ways, cases_eq, ne_eqb, or_cases}
use Rattle.std.proofs.lemmas.Bool.Decides.{nat_tests}
use Rattle.std.proofs.lemmas.List.Sums.{sum_by-append, sum_by-cons}
use Rattle.std.proofs.lemmas.Option.{same_Some}
use Rattle.wdt_units.specs.Have.{PlainSpan, is_in}
use Rattle.wdt_units.specs.declared.blocks.Block.{Block}
use Rattle.wdt_units.specs.declared.numbers.Lane.{Lane}
use Rattle.wdt_ranges.specs.Spans.{end_of as span_end, has}
use Rattle.wdt_logfmt.specs.Adding.{overlap, span_at}
use Rattle.wdt_logfmt.specs.Beginning.{first_in_both, first_shared, first_taken, is_behind, is_of_file, is_taken, least_position, span_of, taken_spans}
use Rattle.wdt_logfmt.specs.Marks.{Marked, is_marked, mark_block, marked_of, marks_from, marks_of, spans_at, spans_in}
use Rattle.wdt_logfmt.specs.View.{NamedFile}
use Rattle.wdt_receiver_fsm.specs.declared.events.RecvEvent.{RecvEvent}
use Rattle.wdt_receiver_fsm.specs.declared.events.RecvEvent.TheVariants as events
use Rattle.wdt_receiver_fsm.specs.Legal.{IsAllowed, IsLegal, Terms, begun_of, begun_on, legal_from, marks_by}
use Rattle.wdt_receiver_fsm.specs.ReceiverHistory.{RecvPast, begun_list, landed_of, lands_none, past_after, past_of, past_of-append, past_of-none, with_begun}
use Rattle.wdt_receiver_fsm.specs.Sets.{numbers}
use Rattle.wdt_receiver_fsm.proofs.ForCallers.{landed_more, landed_same}
use Rattle.wdt_pact.specs.Each.{Each}
use Rattle.wdt_pact.proofs.FileCounts.{rise_block}
use Rattle.wdt_pact.proofs.Marked.{Adds, AllRise, InBlock, IsFree, NumbersRise, adds, cost_at}

-- ---- blocks of a list

abbrev pub Among : Block → List Block → Type 0
Among c [] = ⊥
Among c (x ∷ xs) = (c ≡ x) ⊎ Among c xs

among_first : (c : Block) (xs ys : List Block) → Among c xs → Among c (xs ++ ys)
among_first c [] ys a = absurd a
among_first c (x ∷ xs) ys (inl e) = inl e
among_first c (x ∷ xs) ys (inr a) = inr (among_first c xs ys a)

among_last : (c : Block) (xs : List Block) → Among c (xs ++ c ∷ [])
among_last c [] = inl refl
among_last c (x ∷ xs) = inr (among_last c xs)

-- ---- a span that shares no position with others

both_none : (a b : Option ℕ) → least_position a b ≡ None → (a ≡ None) × (b ≡ None)
both_none None b e = (refl, e)
both_none (Some p) None e = cc
both_none (Some p) (Some q) e = cc

if_none : (b : Bool) (n : ℕ) → (if b then Some n else None) ≡ None → b ≡ false
if_none true n e = cc
if_none false n e = refl

shared_none : (ts : List PlainSpan) (s : PlainSpan) → first_shared ts s ≡ None → Each (λ (t : PlainSpan). overlap s t ≡ false) ts
shared_none [] s e = tt
shared_none (t ∷ ts) s e =
    let x = both_none (first_in_both s t) (first_shared ts s) e in
    (if_none (overlap s t) (max s.offset t.offset) x.0, shared_none ts s x.1)

each_parts : (P : PlainSpan → Type 0) (xs ys : List PlainSpan) → Each P (xs ++ ys) → Each P xs × Each P ys
each_parts P [] ys e = (tt, e)
each_parts P (x ∷ xs) ys e = let r = each_parts P xs ys e.1 in ((e.0, r.0), r.1)

-- spans that overlap nowhere have no position in common
pub apart_in : (s t : PlainSpan) (p : ℕ) → overlap s t ≡ false → is_in p s ≡ true → is_in p t ≡ true → ⊥
apart_in s t p none own there = both_ways (overlap s t) none (grind (arith, nat_tests, own, there))

none_has : (s : PlainSpan) (ts : List PlainSpan) (p : ℕ) → Each (λ (t : PlainSpan). overlap s t ≡ false) ts → is_in p s ≡ true → has ts p ≡ true → ⊥
none_has s [] p e own h = cc
none_has s (t ∷ ts) p e own h = elim (or_cases (is_in p t) (has ts p) h) [ inl here ↦ apart_in s t p e.0 own here | inr there ↦ none_has s ts p e.1 own there ]

-- ---- blocks that are begun

of_file : (P : PlainSpan → Type 0) (n : ℕ) (xs : List Block) (a : Block) → Each P (map span_of (filter (is_of_file n) xs)) → Among a xs → a.file ≡ n → P (span_of a)
of_file P n [] a e among same = absurd among
of_file P n (x ∷ xs) a e among same = go (is_of_file n x) refl e among (λ f i. of_file P n xs a f i same) where
  go : (b : Bool) → is_of_file n x ≡ b → Each P (map span_of (cond b (x ∷ filter (is_of_file n) xs) (filter (is_of_file n) xs))) → (a ≡ x) ⊎ Among a xs → (Each P (map span_of (filter (is_of_file n) xs)) → Among a xs → P (span_of a))
      → P (span_of a)
  go true is f (inl here) later = subst (λ (y : Block). P (span_of y)) (sym here) f.0
  go true is f (inr there) later = later f.1 there
  go false is f (inl here) later = absurd (both_ways (is_of_file n x) is (eq-eqb x.file n (ap (λ (y : Block). y.file) (sym here) ∙ same)))
  go false is f (inr there) later = later f there

flat_first : (f : ℕ → List Block) (ks : List ℕ) (k : ℕ) → flat_map f (ks ++ k ∷ []) ≡ flat_map f ks ++ f k
flat_first f [] k = append-nil (f k)
flat_first f (j ∷ ks) k = ap (λ (xs : List Block). f j ++ xs) (flat_first f ks k) ∙ sym (append_assoc (f j) (flat_map f ks) (f k))

among_second : (c : Block) (xs ys : List Block) → Among c ys → Among c (xs ++ ys)
among_second c [] ys a = a
among_second c (x ∷ xs) ys a = inr (among_second c xs ys a)

-- a lane's block is among those of all lanes
pub among_lanes : (n k : ℕ) (f : ℕ → List Block) (c : Block) → k < n → Among c (f k) → Among c (flat_map f (numbers n))
among_lanes zero k f c small a = absurd (omega (arith, small))
among_lanes (suc n) k f c small a = subst (Among c) (sym (flat_first f (numbers n) n)) (elim (cases_eq k n) [
  | inl same ↦ among_second c (flat_map f (numbers n)) (f n) (subst (λ (i : ℕ). Among c (f i)) same a)
  | inr other ↦ among_first c (flat_map f (numbers n)) (f n) (among_lanes n k f c (omega (arith, small, other)) a)
])

among_begun : (o : Option Block) (b : Block) → o ≡ Some b → Among b (begun_list o)
among_begun None b e = cc
among_begun (Some x) b e = inl (sym (same_Some x b e))

-- ---- what is marked

marks_last : (ms : List Marked) (bs : List Block) (b : Block) → marks_from ms (bs ++ b ∷ []) ≡ mark_block (marks_from ms bs) b
marks_last ms [] b = refl
marks_last ms (x ∷ bs) b = marks_last (mark_block ms x) bs b

marks_one : (fs : List NamedFile) (bs : List Block) (b : Block) → marks_of fs (bs ++ b ∷ []) ≡ mark_block (marks_of fs bs) b
unfolding marks_of
marks_one fs bs b = marks_last (map marked_of fs) bs b

marks_nothing : (fs : List NamedFile) → marks_of fs [] ≡ map marked_of fs
unfolding marks_of
marks_nothing fs = refl

landed_none : landed_of [] ≡ []
unfolding landed_of
landed_none = refl

-- ---- what a history keeps

-- a position of a file is of a block that landed
abbrev pub HasLanded : Terms → List RecvEvent → ℕ → ℕ → Type 0
HasLanded t g n p = (k : ℕ) × (c : Block) × (k < t.lanes) × Among c (past_of g k).landed × (c.file ≡ n) × InBlock c p

-- a block of a file landed
abbrev pub NamedLanded : Terms → List RecvEvent → ℕ → Type 0
NamedLanded t g n = (k : ℕ) × (c : Block) × (k < t.lanes) × Among c (past_of g k).landed × (c.file ≡ n)

-- how many spans more a block makes of those at the opening
abbrev pub opening_cost : List NamedFile → Block → ℕ
opening_cost opening b = cost_at (spans_at (map marked_of opening) b.file) b

-- where more is there, it makes no more
pub cost_less : (old new : List PlainSpan) (b : Block) → ((p : ℕ) → has old p ≡ true → has new p ≡ true) → cost_at new b ≤ cost_at old b
cost_less old new b more = go (b.length == 0) (is_behind old b.offset) refl (is_behind new b.offset) refl b.offset refl where
  go : (z c : Bool) → is_behind old b.offset ≡ c → (d : Bool) → is_behind new b.offset ≡ d → (at : ℕ) → b.offset ≡ at → (if z || d then 0 else 1) ≤ (if z || c then 0 else 1)
  go true c is d also at same = omega arith
  go false false is true also at same = omega arith
  go false false is false also at same = omega arith
  go false true is true also at same = omega arith
  go false true is false also zero same = let x : false ≡ true = sym (ap (is_behind old) same) ∙ is in cc
  go false true is false also (suc k) same =
      absurd (both_ways (has new k) (sym (ap (is_behind new) same) ∙ also) (more k (sym (ap (is_behind old) same) ∙ is)))

pub record IsClear (t : Terms) (g : List RecvEvent) : Type 0 where
  pub rises : AllRise (marks_by t g)
  pub ordered : NumbersRise 0 (marks_by t g)
  -- what was there at the opening is; and each landed block made at most as many spans more as it would have made then
  pub stays : (n p : ℕ) → has (spans_at (map marked_of t.opening) n) p ≡ true → has (spans_at (marks_by t g) n) p ≡ true
  pub few : spans_in (marks_by t g) ≤ spans_in (map marked_of t.opening) + sum_by (opening_cost t.opening) (landed_of g)
  -- what is there was there at the opening, or landed
  pub from : (n p : ℕ) → has (spans_at (marks_by t g) n) p ≡ true → (has (spans_at (map marked_of t.opening) n) p ≡ true) ⊎ HasLanded t g n p
  pub named : (n : ℕ) → is_marked (marks_by t g) n ≡ true → (is_marked (map marked_of t.opening) n ≡ true) ⊎ NamedLanded t g n
  -- a begun block is of a lane, and apart from what is there and from the others
  pub within : (k : ℕ) (b : Block) → (past_of g k).begun ≡ Some b → k < t.lanes
  pub free : (k : ℕ) (b : Block) → (past_of g k).begun ≡ Some b → IsFree (marks_by t g) b
  pub pair : (j k : ℕ) (a b : Block) → j ≢ k → (past_of g j).begun ≡ Some a → (past_of g k).begun ≡ Some b → a.file ≡ b.file → (p : ℕ) → InBlock a p → InBlock b p → ⊥

module _ (t : Terms) (g : List RecvEvent) (c : IsClear t g) where
  abbrev ms : List Marked
  ms = marks_by t g

  -- what landed stays landed
  landed_on : (e : RecvEvent) → ((k : ℕ) (b : Block) → Among b (past_of g k).landed → Among b (past_of (g ++ e ∷ []) k).landed) → (n p : ℕ) → HasLanded t g n p → HasLanded t (g ++ e ∷ []) n p
  landed_on e more n p (k, b, small, a, file, i) = (k, b, small, more k b a, file, i)

  named_on : (e : RecvEvent) → ((k : ℕ) (b : Block) → Among b (past_of g k).landed → Among b (past_of (g ++ e ∷ []) k).landed) → (n : ℕ) → NamedLanded t g n → NamedLanded t (g ++ e ∷ []) n
  named_on e more n (k, b, small, a, file) = (k, b, small, more k b a, file)

  -- an entry with which no block lands or begins
  quiet : (e : RecvEvent) → lands_none e ≡ true → ((k : ℕ) (p : RecvPast) (b : Block) → (past_after k p e).begun ≡ Some b → p.begun ≡ Some b) → ((k : ℕ) (p : RecvPast) → (past_after k p e).landed ≡ p.landed) → IsClear t (g ++ e ∷ [])
  quiet e none begun landed =
      let marks : marks_by t (g ++ e ∷ []) ≡ marks_by t g = ap (marks_of t.opening) (landed_same g e none) in
      record {
        rises = subst AllRise (sym marks) c.rises;
        ordered = subst (NumbersRise 0) (sym marks) c.ordered;
        stays = λ n p h. ap (λ (xs : List Marked). has (spans_at xs n) p) marks ∙ c.stays n p h;
        few = omega (arith, c.few, ap spans_in marks, ap (sum_by (opening_cost t.opening)) (landed_same g e none));
        from = λ n p h. elim (c.from n p (ap (λ (xs : List Marked). has (spans_at xs n) p) (sym marks) ∙ h)) [ inl old ↦ inl old | inr l ↦ inr (landed_on e more n p l) ];
        named = λ n h. elim (c.named n (ap (λ (xs : List Marked). is_marked xs n) (sym marks) ∙ h)) [ inl old ↦ inl old | inr l ↦ inr (named_on e more n l) ];
        within = λ k b is. c.within k b (was k b is);
        free = λ k b is. subst (λ (xs : List Marked). IsFree xs b) (sym marks) (c.free k b (was k b is));
        pair = λ j k a b ne x y. c.pair j k a b ne (was j a x) (was k b y);
      } where
        was : (k : ℕ) (b : Block) → (past_of (g ++ e ∷ []) k).begun ≡ Some b → (past_of g k).begun ≡ Some b
        was k b is = begun k (past_of g k) b (sym (ap (λ (p : RecvPast). p.begun) (past_of-append g (e ∷ []) k)) ∙ is)

        more : (k : ℕ) (b : Block) → Among b (past_of g k).landed → Among b (past_of (g ++ e ∷ []) k).landed
        more k b a = subst (Among b) (sym (ap (λ (p : RecvPast). p.landed) (past_of-append g (e ∷ []) k) ∙ landed k (past_of g k))) a

  -- ---- a block begins

  in_span : (b : Block) (p : ℕ) → InBlock b p → is_in p (span_of b) ≡ true
  in_span b p i = let low = i.0 in let high = i.1 in grind (arith, nat_tests, low, high)

  begins : (l : Lane) (b : Block) → l.0 < t.lanes → (past_of g l.0).begun ≡ None → first_taken ms (begun_of t.lanes g) b ≡ None → IsClear t (g ++ events.Begin l b ∷ [])
  begins l b small none clear =
      let marks : marks_by t (g ++ events.Begin l b ∷ []) ≡ marks_by t g = ap (marks_of t.opening) (landed_same g (events.Begin l b) refl) in
      record {
        rises = subst AllRise (sym marks) c.rises;
        ordered = subst (NumbersRise 0) (sym marks) c.ordered;
        stays = λ n p h. ap (λ (xs : List Marked). has (spans_at xs n) p) marks ∙ c.stays n p h;
        few = omega (arith, c.few, ap spans_in marks, ap (sum_by (opening_cost t.opening)) (landed_same g (events.Begin l b) refl));
        from = λ n p h. elim (c.from n p (ap (λ (xs : List Marked). has (spans_at xs n) p) (sym marks) ∙ h)) [ inl old ↦ inl old | inr x ↦ inr (landed_on (events.Begin l b) more n p x) ];
        named = λ n h. elim (c.named n (ap (λ (xs : List Marked). is_marked xs n) (sym marks) ∙ h)) [ inl old ↦ inl old | inr x ↦ inr (named_on (events.Begin l b) more n x) ];
        within = λ k a is. elim (was k a is) [ inl own ↦ subst (λ (i : ℕ). i < t.lanes) (sym own.0) small | inr old ↦ c.within k a old ];
        free = λ k a is. subst (λ (xs : List Marked). IsFree xs a) (sym marks) (elim (was k a is) [ inl own ↦ subst (IsFree ms) (sym own.1) new_free | inr old ↦ c.free k a old ]);
        pair = λ j k a d ne x y file p i o. elim (was j a x) [
          | inl own ↦ elim (was k d y) [
            | inl other ↦ absurd (ne (own.0 ∙ sym other.0))
            | inr old ↦ new_apart k d old (sym file ∙ ap (λ (z : Block). z.file) own.1) p (subst (λ (z : Block). InBlock z p) own.1 i) o
          ]
          | inr older ↦ elim (was k d y) [
            | inl other ↦ new_apart j a older (file ∙ ap (λ (z : Block). z.file) other.1) p (subst (λ (z : Block). InBlock z p) other.1 o) i
            | inr old ↦ c.pair j k a d ne older old file p i o
          ]
        ];
      } where
        was : (k : ℕ) (a : Block) → (past_of (g ++ events.Begin l b ∷ []) k).begun ≡ Some a → ((k ≡ l.0) × (a ≡ b)) ⊎ ((past_of g k).begun ≡ Some a)
        was k a is = go (l.0 == k) refl (sym (ap (λ (p : RecvPast). p.begun) (past_of-append g (events.Begin l b ∷ []) k)) ∙ is) where
          go : (d : Bool) → (l.0 == k) ≡ d → (if d then Some b else (past_of g k).begun) ≡ Some a → ((k ≡ l.0) × (a ≡ b)) ⊎ ((past_of g k).begun ≡ Some a)
          go true same e = inl (sym (eqb-true l.0 k same), sym (same_Some b a e))
          go false same e = inr e

        more : (k : ℕ) (a : Block) → Among a (past_of g k).landed → Among a (past_of (g ++ events.Begin l b ∷ []) k).landed
        more k a x = subst (Among a) (sym (ap (λ (p : RecvPast). p.landed) (past_of-append g (events.Begin l b ∷ []) k))) x

        -- a block with a position shares none
        spans : (p : ℕ) → InBlock b p → Each (λ (s : PlainSpan). overlap (span_of b) s ≡ false) (spans_at ms b.file) × Each (λ (s : PlainSpan). overlap (span_of b) s ≡ false) (map span_of (filter (is_of_file b.file) (begun_of t.lanes g)))
        spans p i =
            let some : (b.length == 0) ≡ false = ne_eqb b.length 0 (λ e. absurd (omega (arith, e, i.0, i.1))) in
            each_parts (λ (s : PlainSpan). overlap (span_of b) s ≡ false) (spans_at ms b.file) (map span_of (filter (is_of_file b.file) (begun_of t.lanes g)))
            (shared_none (taken_spans ms (begun_of t.lanes g) b.file) (span_of b)
            (sym (ap (λ (d : Bool). if d then (if is_taken ms (begun_of t.lanes g) b.file then Some 0 else None) else first_shared (taken_spans ms (begun_of t.lanes g) b.file) (span_of b)) some) ∙ clear))

        new_free : IsFree ms b
        new_free p i h = none_has (span_of b) (spans_at ms b.file) p (spans p i).0 (in_span b p i) h

        new_apart : (k : ℕ) (a : Block) → (past_of g k).begun ≡ Some a → a.file ≡ b.file → (p : ℕ) → InBlock b p → InBlock a p → ⊥
        new_apart k a is file p own other =
            apart_in (span_of b) (span_of a) p
            (of_file (λ (s : PlainSpan). overlap (span_of b) s ≡ false) b.file (begun_of t.lanes g) a (spans p own).1
            (among_lanes t.lanes k (begun_on g) a (c.within k a is) (among_begun (past_of g k).begun a is)) file) (in_span b p own) (in_span a p other)

  -- ---- a block lands

  lands : (l : Lane) (b : Block) → (past_of g l.0).begun ≡ Some b → IsClear t (g ++ events.Land l ∷ [])
  lands l b begun =
      let a = adds 0 ms b c.ordered c.rises (c.free l.0 b begun) in
      let cost = cost_less (spans_at (map marked_of t.opening) b.file) (spans_at ms b.file) b (c.stays b.file) in
      record {
        rises = subst AllRise (sym marks) a.rises;
        ordered = subst (NumbersRise 0) (sym marks) (rise_block 0 ms b (omega arith) c.ordered);
        stays = λ n p h. ap (λ (xs : List Marked). has (spans_at xs n) p) marks ∙ a.stays n p (c.stays n p h);
        few = omega (arith, c.few, ap spans_in marks, a.few, cost, ap (sum_by (opening_cost t.opening)) landed_is_one, sum_by-append (opening_cost t.opening) (landed_of g) (b ∷ []), sum_by-cons (opening_cost t.opening) b []);
        from = λ n p h. elim (a.from n p (ap (λ (xs : List Marked). has (spans_at xs n) p) (sym marks) ∙ h)) [
          | inl old ↦ elim (c.from n p old) [ inl at ↦ inl at | inr x ↦ inr (landed_on (events.Land l) more n p x) ]
          | inr own ↦ inr (l.0, b, c.within l.0 b begun, lately, own.0, own.1)
        ];
        named = λ n h. elim (a.named n (ap (λ (xs : List Marked). is_marked xs n) (sym marks) ∙ h)) [
          | inl old ↦ elim (c.named n old) [ inl at ↦ inl at | inr x ↦ inr (named_on (events.Land l) more n x) ]
          | inr own ↦ inr (l.0, b, c.within l.0 b begun, lately, own)
        ];
        within = λ k d is. c.within k d (was k d is).1;
        free = λ k d is. subst (λ (xs : List Marked). IsFree xs d) (sym marks) (λ p i h. elim (a.from d.file p h) [
          | inl old ↦ c.free k d (was k d is).1 p i old
          | inr own ↦ c.pair k l.0 d b (was k d is).0 (was k d is).1 begun (sym own.0) p i own.1
        ]);
        pair = λ j k d e ne x y. c.pair j k d e ne (was j d x).1 (was k e y).1;
      } where
        landed_is_one : landed_of (g ++ events.Land l ∷ []) ≡ landed_of g ++ b ∷ []
        landed_is_one = landed_more g l ∙ ap (λ (o : Option Block). landed_of g ++ begun_list o) begun

        marks : marks_by t (g ++ events.Land l ∷ []) ≡ mark_block (marks_by t g) b
        marks = ap (marks_of t.opening) landed_is_one ∙ marks_one t.opening (landed_of g) b

        was : (k : ℕ) (d : Block) → (past_of (g ++ events.Land l ∷ []) k).begun ≡ Some d → (k ≢ l.0) × ((past_of g k).begun ≡ Some d)
        was k d is = go (l.0 == k) refl (sym (ap (λ (p : RecvPast). p.begun) (past_of-append g (events.Land l ∷ []) k)) ∙ is) where
          go : (x : Bool) → (l.0 == k) ≡ x → (if x then None else (past_of g k).begun) ≡ Some d → (k ≢ l.0) × ((past_of g k).begun ≡ Some d)
          go true same e = cc
          go false same e = (λ here. both_ways (l.0 == k) same (eq-eqb l.0 k (sym here)), e)

        landed_is : (k : ℕ) → (past_of (g ++ events.Land l ∷ []) k).landed ≡ (if l.0 == k then with_begun (past_of g k).landed (past_of g k).begun else (past_of g k).landed)
        landed_is k = ap (λ (p : RecvPast). p.landed) (past_of-append g (events.Land l ∷ []) k)

        more : (k : ℕ) (d : Block) → Among d (past_of g k).landed → Among d (past_of (g ++ events.Land l ∷ []) k).landed
        more k d x = subst (Among d) (sym (landed_is k)) (go (l.0 == k) (past_of g k).begun) where
          go : (y : Bool) (o : Option Block) → Among d (if y then with_begun (past_of g k).landed o else (past_of g k).landed)
          go true None = x
          go true (Some e) = among_first d (past_of g k).landed (e ∷ []) x
          go false o = x

        lately : Among b (past_of (g ++ events.Land l ∷ []) l.0).landed
        lately =
            subst (Among b) (sym (landed_is l.0 ∙ (ap (λ (y : Bool). if y then with_begun (past_of g l.0).landed (past_of g l.0).begun else (past_of g l.0).landed) (eq-eqb l.0 l.0 refl)
            ∙ ap (with_begun (past_of g l.0).landed) begun)))
            (among_last b (past_of g l.0).landed)

  -- ---- an entry that is allowed

  dropped : (s : Option Block) (x : Bool) (b : Block) → (if x then None else s) ≡ Some b → s ≡ Some b
  dropped s true b e = cc
  dropped s false b e = e

  some_begun : (o : Option Block) → o ≢ None → (b : Block) × (o ≡ Some b)
  some_begun None ne = absurd (ne refl)
  some_begun (Some b) ne = (b, refl)

  pub clear_more : (e : RecvEvent) → IsAllowed t g e → IsClear t (g ++ e ∷ [])
  clear_more (events.Begin l b) a = begins l b a.speaks.within a.fits.begun a.fits.clear
  clear_more (events.Land l) a = let x = some_begun (past_of g l.0).begun a.fits in lands l x.0 x.1
  clear_more (events.Dropped l) a = quiet (events.Dropped l) refl (λ k p b is. dropped p.begun (l.0 == k) b is) (λ k p. refl)
  clear_more (events.Take l n) a = quiet (events.Take l n) refl (λ k p b is. is) (λ k p. refl)
  clear_more (events.NoLink l) a = quiet (events.NoLink l) refl (λ k p b is. is) (λ k p. refl)
  clear_more (events.Met l s) a = quiet (events.Met l s) refl (λ k p b is. is) (λ k p. refl)
  clear_more (events.Sized l files bytes) a = quiet (events.Sized l files bytes) refl (λ k p b is. is) (λ k p. refl)
  clear_more (events.Idle l) a = quiet (events.Idle l) refl (λ k p b is. is) (λ k p. refl)
  clear_more (events.Told l set) a = quiet (events.Told l set) refl (λ k p b is. is) (λ k p. refl)
  clear_more (events.Close l) a = quiet (events.Close l) refl (λ k p b is. is) (λ k p. refl)
  clear_more events.Finish a = quiet events.Finish refl (λ k p b is. is) (λ k p. refl)
  clear_more (events.Acked l) a = quiet (events.Acked l) refl (λ k p b is. is) (λ k p. refl)
  clear_more (events.Quit l) a = quiet (events.Quit l) refl (λ k p b is. is) (λ k p. refl)
  clear_more (events.Abort l code) a = quiet (events.Abort l code) refl (λ k p b is. is) (λ k p. refl)
  clear_more (events.Peer l kind) a = quiet (events.Peer l kind) refl (λ k p b is. is) (λ k p. refl)

-- ---- a legal history

clear_from : (t : Terms) (g es : List RecvEvent) → legal_from t g es → IsClear t g → IsClear t (g ++ es)
clear_from t g [] legal c = subst (IsClear t) (sym (append-nil g)) c
clear_from t g (e ∷ es) legal c = subst (IsClear t) (append_assoc g (e ∷ []) es) (clear_from t (g ++ e ∷ []) es legal.1 (clear_more t g c e legal.0))

-- nothing has happened
clear_none : (t : Terms) → AllRise (map marked_of t.opening) → NumbersRise 0 (map marked_of t.opening) → IsClear t []
clear_none t rises ordered =
    let marks : marks_by t [] ≡ map marked_of t.opening = ap (marks_of t.opening) landed_none ∙ marks_nothing t.opening in
    record {
      rises = subst AllRise (sym marks) rises;
      ordered = subst (NumbersRise 0) (sym marks) ordered;
      stays = λ n p h. ap (λ (xs : List Marked). has (spans_at xs n) p) marks ∙ h;
      few = omega (arith, ap spans_in marks);
      from = λ n p h. inl (ap (λ (xs : List Marked). has (spans_at xs n) p) (sym marks) ∙ h);
      named = λ n h. inl (ap (λ (xs : List Marked). is_marked xs n) (sym marks) ∙ h);
      within = λ k b is. none_begun k b is;
      free = λ k b is. absurd (none_begun k b is);
      pair = λ j k a b ne x y. absurd (none_begun j a x);
    } where
      none_begun : {P : Type 0} (k : ℕ) (b : Block) → (past_of [] k).begun ≡ Some b → P
      none_begun k b is = let e : None ≡ Some b = sym (ap (λ (p : RecvPast). p.begun) (past_of-none k)) ∙ is in cc

pub legal_clear : (t : Terms) (g : List RecvEvent) → AllRise (map marked_of t.opening) → NumbersRise 0 (map marked_of t.opening) → IsLegal t g → IsClear t g
unfolding IsLegal
legal_clear t g rises ordered legal = clear_from t [] g legal (clear_none t rises ordered)
