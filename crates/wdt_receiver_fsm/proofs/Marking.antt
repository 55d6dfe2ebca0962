-- Each block that landed is there: its file is named, and each of its positions.
use Rattle.std.proofs.Common.{◌≡◌, ℕ, zero, suc, ◌+◌, ◌<◌, ◌≤◌, ◌==◌, ◌||◌, nat_le, nat_lt, List, [], ◌∷◌, ◌++◌, map, Bool, true, false, if◌then◌else◌, Some, slice_get, subst, sym, ap, ◌∙◌, refl, arith, append-nil, append_assoc, eq-eqb, eqb-true}
use Rattle.std.specs.List.{list_all}
use Rattle.std.proofs.lemmas.Bool.{and_parts, both_ways, ne_eqb}
use Rattle.std.proofs.lemmas.Bool.Decides.{nat_tests}
use Rattle.std.proofs.lemmas.Option.{same_Some}
use Rattle.wdt_units.specs.Have.{PlainSpan, is_in}
use Rattle.wdt_units.specs.declared.blocks.Block.{Block}
use Rattle.wdt_ranges.specs.Spans.{end_of, has}
use Rattle.wdt_logfmt.specs.Adding.{joined, span_at, with_span}
use Rattle.wdt_logfmt.specs.Marks.{Marked, block_spans, is_marked, is_there, just_marked, mark_block, marked_of, marks_from, marks_of, spans_at, with_block}
use Rattle.wdt_logfmt.specs.View.{NamedFile, is_numbered_above, is_rising, is_view}
use Rattle.wdt_logfmt.proofs.ForCallers.{view_parts}
use Rattle.wdt_units.specs.declared.numbers.Lane.{Lane}
use Rattle.wdt_receiver_fsm.specs.declared.events.RecvEvent.{RecvEvent}
use Rattle.wdt_receiver_fsm.specs.declared.events.RecvEvent.TheVariants as events
use Rattle.wdt_receiver_fsm.specs.PlainReceiver.{PlainReceiver, marks_at}
use Rattle.wdt_receiver_fsm.specs.ReceiverHistory.{begun_list, landed_of, past_of}
use Rattle.wdt_receiver_fsm.specs.Touches.{Adds, StaysThere}
use Rattle.wdt_receiver_fsm.proofs.Batching.{landed_more, landed_same}

-- ---- each landed block's file is named

or_true : (x : Bool) → (x || true) ≡ true
or_true true = refl
or_true false = refl

-- marks with a block more, by whether a file is the block's, and above it
abbrev Behind : Block → Marked → List Marked → Bool → Bool → List Marked
Behind b m ms c d =
    if c then record { number = m.number; spans = with_block m.spans b } ∷ ms
    else if d then just_marked b ∷ m ∷ ms
    else m ∷ mark_block ms b

marked_own : (ms : List Marked) (b : Block) → is_marked (mark_block ms b) b.file ≡ true
marked_own [] b = ap (λ (x : Bool). x || false) (eq-eqb b.file b.file refl)
marked_own (m ∷ ms) b = go (marked_own ms b) (m.number == b.file) (nat_lt b.file m.number) refl
  where
    go : is_marked (mark_block ms b) b.file ≡ true → (c d : Bool) → (m.number == b.file) ≡ c → is_marked (Behind b m ms c d) b.file ≡ true
    go later true d is = ap (λ (x : Bool). x || is_marked ms b.file) is
    go later false true is = ap (λ (x : Bool). x || is_marked (m ∷ ms) b.file) (eq-eqb b.file b.file refl)
    go later false false is = ap (λ (x : Bool). (m.number == b.file) || x) later ∙ or_true (m.number == b.file)

marked_still : (ms : List Marked) (b : Block) (n : ℕ) → is_marked ms n ≡ true → is_marked (mark_block ms b) n ≡ true
marked_still [] b n is = absurd (cc)
marked_still (m ∷ ms) b n is = go (marked_still ms b n) (m.number == b.file) (nat_lt b.file m.number) (m.number == n) is refl
  where
    go : (is_marked ms n ≡ true → is_marked (mark_block ms b) n ≡ true) → (c d e : Bool) → (e || is_marked ms n) ≡ true → (m.number == n) ≡ e → is_marked (Behind b m ms c d) n ≡ true
    go later true d e is same = ap (λ (x : Bool). x || is_marked ms n) same ∙ is
    go later false true e is same = ap (λ (x : Bool). (b.file == n) || x) (ap (λ (x : Bool). x || is_marked ms n) same ∙ is) ∙ or_true (b.file == n)
    go later false false true is same = ap (λ (x : Bool). x || is_marked (mark_block ms b) n) same
    go later false false false is same = ap (λ (x : Bool). (m.number == n) || x) (later is) ∙ or_true (m.number == n)

marked_on : (ms : List Marked) (bs : List Block) (n : ℕ) → is_marked ms n ≡ true → is_marked (marks_from ms bs) n ≡ true
marked_on ms [] n is = is
marked_on ms (b ∷ bs) n is = marked_on (mark_block ms b) bs n (marked_still ms b n is)

named_from : (ms : List Marked) (bs : List Block) (k : ℕ) (b : Block) → slice_get bs k ≡ Some b → is_marked (marks_from ms bs) b.file ≡ true
named_from ms [] k b is = absurd (cc)
named_from ms (c ∷ bs) zero b is = subst (λ (x : Block). is_marked (marks_from (mark_block ms c) bs) x.file ≡ true) (same_Some c b is) (marked_on (mark_block ms c) bs c.file (marked_own ms c))
named_from ms (c ∷ bs) (suc k) b is = named_from (mark_block ms c) bs k b is

pub landed_named : (fs : List NamedFile) (bs : List Block) (k : ℕ) (b : Block) → slice_get bs k ≡ Some b → is_marked (marks_of fs bs) b.file ≡ true
unfolding marks_of
landed_named fs bs k b is = named_from (map marked_of fs) bs k b is

-- ---- a span more keeps positions, and has its own

in_parts : (p : ℕ) (s : PlainSpan) → is_in p s ≡ true → (s.offset ≤ p) × (p < end_of s)
in_parts p s h = let a = and_parts (nat_le s.offset p) (nat_lt p (end_of s)) h in (grind (arith, nat_tests, a.0), grind (arith, nat_tests, a.1))

in_of : (p : ℕ) (s : PlainSpan) → s.offset ≤ p → p < end_of s → is_in p s ≡ true
in_of p s low high = grind (arith, nat_tests)

not_less : (a b : ℕ) → nat_lt a b ≡ false → b ≤ a
not_less a b h = grind (arith, nat_tests)

-- spans that touch or overlap are in their joined one
joined_first : (p : ℕ) (s t : PlainSpan) → s.offset ≤ end_of t → is_in p s ≡ true → is_in p (joined s t) ≡ true
joined_first p s t near h = let i = in_parts p s h in in_of p (joined s t) (omega (arith, i.0)) (omega (arith, i.1, near))

joined_second : (p : ℕ) (s t : PlainSpan) → t.offset ≤ end_of s → is_in p t ≡ true → is_in p (joined s t) ≡ true
joined_second p s t near h = let i = in_parts p t h in in_of p (joined s t) (omega (arith, i.0)) (omega (arith, i.1, near))

either : (a b c d : Bool) → (a ≡ true → d ≡ true) → (b ≡ true → d ≡ true) → (a || (b || c)) ≡ true → (d || c) ≡ true
either true b c d f g h = ap (λ (x : Bool). x || c) (f refl)
either false true c d f g h = ap (λ (x : Bool). x || c) (g refl)
either false false c d f g h = ap (λ (x : Bool). d || x) h ∙ or_true d

around : (a b c d : Bool) → ((a || c) ≡ true → d ≡ true) → (a || (b || c)) ≡ true → (b || d) ≡ true
around a true c d f h = refl
around true false c d f h = f refl
around false false c d f h = f h

with_both : (s : PlainSpan) (ts : List PlainSpan) (p : ℕ) → (is_in p s || has ts p) ≡ true → has (with_span s ts) p ≡ true
with_both s [] p h = h
with_both s (t ∷ ts) p h = go (with_both s ts p) (with_both (joined s t) ts p) (nat_lt (end_of t) s.offset) (nat_lt (end_of s) t.offset) refl refl
  where
    go : ((is_in p s || has ts p) ≡ true → has (with_span s ts) p ≡ true) → ((is_in p (joined s t) || has ts p) ≡ true → has (with_span (joined s t) ts) p ≡ true)
        → (c d : Bool) → nat_lt (end_of t) s.offset ≡ c → nat_lt (end_of s) t.offset ≡ d
        → has (if c then t ∷ with_span s ts else if d then s ∷ t ∷ ts else with_span (joined s t) ts) p ≡ true
    go on join true d far e = around (is_in p s) (is_in p t) (has ts p) (has (with_span s ts) p) on h
    go on join false true near far = h
    go on join false false near close =
        join (either (is_in p s) (is_in p t) (has ts p) (is_in p (joined s t)) (joined_first p s t (not_less (end_of t) s.offset near)) (joined_second p s t (not_less (end_of s) t.offset close)) h)

-- ---- marks that rise by number

Rises : ℕ → List Marked → Type 0
Rises low [] = Unit {0}
Rises low (m ∷ ms) = (low ≤ m.number) × Rises (m.number + 1) ms

rises_files : (f : NamedFile) (fs : List NamedFile) → list_all (is_numbered_above f) fs ≡ true → is_rising fs ≡ true → Rises (f.number + 1) (map marked_of fs)
unfolding Rises
rises_files f [] above up = tt
rises_files f (g ∷ fs) above up =
    let a = and_parts (nat_lt f.number g.number) (list_all (is_numbered_above f) fs) above in
    let u = and_parts (list_all (is_numbered_above g) fs) (is_rising fs) up in
    (grind (arith, nat_tests, a.0), rises_files g fs u.0 u.1)

rises_all : (fs : List NamedFile) → is_rising fs ≡ true → Rises 0 (map marked_of fs)
unfolding Rises
rises_all [] up = tt
rises_all (f ∷ fs) up = let u = and_parts (list_all (is_numbered_above f) fs) (is_rising fs) up in (omega arith, rises_files f fs u.0 u.1)

rises_block : (low : ℕ) (ms : List Marked) (b : Block) → low ≤ b.file → Rises low ms → Rises low (mark_block ms b)
unfolding Rises
rises_block low [] b from up = (from, tt)
rises_block low (m ∷ ms) b from up = go (rises_block (m.number + 1) ms b) (m.number == b.file) (nat_lt b.file m.number) refl refl
  where
    go : (m.number + 1 ≤ b.file → Rises (m.number + 1) ms → Rises (m.number + 1) (mark_block ms b)) → (c d : Bool) → (m.number == b.file) ≡ c → nat_lt b.file m.number ≡ d → Rises low (Behind b m ms c d)
    go on true d same e = (up.0, up.1)
    go on false true other less = (from, (grind (arith, nat_tests), up.1))
    go on false false other more = (up.0, on (grind (arith, nat_tests)) up.1)

-- a number below all has no marks
absent : (low : ℕ) (ms : List Marked) (n : ℕ) → n < low → Rises low ms → spans_at ms n ≡ []
unfolding Rises
absent low [] n below up = refl
absent low (m ∷ ms) n below up =
    ap (λ (b : Bool). if b then m.spans else spans_at ms n) (ne_eqb m.number n (λ e. absurd (omega (arith, e, below, up.0)))) ∙ absent (m.number + 1) ms n (omega (arith, below, up.0)) up.1

block_keeps : (spans : List PlainSpan) (b : Block) (p : ℕ) → has spans p ≡ true → has (with_block spans b) p ≡ true
block_keeps spans b p h = go (b.length == 0)
  where
    go : (c : Bool) → has (if c then spans else with_span (span_at b.offset b.length) spans) p ≡ true
    go true = h
    go false = with_both (span_at b.offset b.length) spans p (ap (λ (x : Bool). is_in p (span_at b.offset b.length) || x) h ∙ or_true (is_in p (span_at b.offset b.length)))

-- the position is one of the block's
Within : Block → ℕ → Type 0
Within b p = (b.offset ≤ p) × (p < b.offset + b.length)

filled : (b : Block) (p : ℕ) → Within b p → (b.length == 0) ≡ false
unfolding Within
filled b p at = ne_eqb b.length 0 (λ e. absurd (omega (arith, e, at.0, at.1)))

block_own : (spans : List PlainSpan) (b : Block) (p : ℕ) → Within b p → has (with_block spans b) p ≡ true
unfolding Within
block_own spans b p at =
    ap (λ (c : Bool). has (if c then spans else with_span (span_at b.offset b.length) spans) p) (filled b p at)
    ∙ with_both (span_at b.offset b.length) spans p (ap (λ (x : Bool). x || has spans p) (in_of p (span_at b.offset b.length) at.0 at.1))

alone_own : (b : Block) (p : ℕ) → Within b p → has (block_spans b) p ≡ true
unfolding Within
alone_own b p at =
    ap (λ (c : Bool). has (if c then [] else span_at b.offset b.length ∷ []) p) (filled b p at)
    ∙ ap (λ (x : Bool). x || false) (in_of p (span_at b.offset b.length) at.0 at.1)

there_own : (ms : List Marked) (b : Block) (p : ℕ) → Within b p → is_there (mark_block ms b) b.file p ≡ true
there_own [] b p at = ap (λ (c : Bool). has (if c then block_spans b else []) p) (eq-eqb b.file b.file refl) ∙ alone_own b p at
there_own (m ∷ ms) b p at = go (there_own ms b p at) (m.number == b.file) (nat_lt b.file m.number) refl
  where
    go : is_there (mark_block ms b) b.file p ≡ true → (c d : Bool) → (m.number == b.file) ≡ c → is_there (Behind b m ms c d) b.file p ≡ true
    go later true d is = ap (λ (c : Bool). has (if c then with_block m.spans b else spans_at ms b.file) p) is ∙ block_own m.spans b p at
    go later false true is = ap (λ (c : Bool). has (if c then block_spans b else spans_at (m ∷ ms) b.file) p) (eq-eqb b.file b.file refl) ∙ alone_own b p at
    go later false false is = ap (λ (c : Bool). has (if c then m.spans else spans_at (mark_block ms b) b.file) p) is ∙ later

there_still : (low : ℕ) (ms : List Marked) (b : Block) (n p : ℕ) → Rises low ms → is_there ms n p ≡ true → is_there (mark_block ms b) n p ≡ true
unfolding Rises
there_still low [] b n p up is = absurd (cc)
there_still low (m ∷ ms) b n p up is = go (there_still (m.number + 1) ms b n p up.1) (m.number == b.file) (nat_lt b.file m.number) (m.number == n) refl refl refl
  where
    was : (e : Bool) → (m.number == n) ≡ e → has (if e then m.spans else spans_at ms n) p ≡ true
    was e same = sym (ap (λ (c : Bool). has (if c then m.spans else spans_at ms n) p) same) ∙ is

    below : b.file < m.number → (b.file == n) ≡ true → is_there (m ∷ ms) n p ≡ false
    below less same =
        let e : b.file ≡ n = eqb-true b.file n same in
        ap (λ (ss : List PlainSpan). has ss p) (absent m.number (m ∷ ms) n (omega (arith, less, eqb-true b.file n same)) (omega arith, up.1))

    before : (f : Bool) → (b.file == n) ≡ f → b.file < m.number → has (if f then block_spans b else spans_at (m ∷ ms) n) p ≡ true
    before true same less = absurd (both_ways _ (below less same) is)
    before false other less = is

    go : (is_there ms n p ≡ true → is_there (mark_block ms b) n p ≡ true) → (c d e : Bool) → (m.number == b.file) ≡ c → nat_lt b.file m.number ≡ d → (m.number == n) ≡ e → is_there (Behind b m ms c d) n p ≡ true
    go later true d true own e same = ap (λ (c : Bool). has (if c then with_block m.spans b else spans_at ms n) p) same ∙ block_keeps m.spans b p (was true same)
    go later true d false own e same = ap (λ (c : Bool). has (if c then with_block m.spans b else spans_at ms n) p) same ∙ was false same
    go later false true e own less same = before (b.file == n) refl (grind (arith, nat_tests))
    go later false false true own less same = ap (λ (c : Bool). has (if c then m.spans else spans_at (mark_block ms b) n) p) same ∙ was true same
    go later false false false own less same = ap (λ (c : Bool). has (if c then m.spans else spans_at (mark_block ms b) n) p) same ∙ later (was false same)

there_on : (ms : List Marked) (bs : List Block) (n p : ℕ) → Rises 0 ms → is_there ms n p ≡ true → is_there (marks_from ms bs) n p ≡ true
there_on ms [] n p up is = is
there_on ms (b ∷ bs) n p up is = there_on (mark_block ms b) bs n p (rises_block 0 ms b (omega arith) up) (there_still 0 ms b n p up is)

there_from : (ms : List Marked) (bs : List Block) (k : ℕ) (b : Block) (p : ℕ) → Rises 0 ms → slice_get bs k ≡ Some b → Within b p → is_there (marks_from ms bs) b.file p ≡ true
there_from ms [] k b p up is at = absurd (cc)
there_from ms (c ∷ bs) zero b p up is at =
    let same : c ≡ b = same_Some c b is in
    subst (λ (x : Block). is_there (marks_from (mark_block ms c) bs) x.file p ≡ true) (same_Some c b is)
    (there_on (mark_block ms c) bs c.file p (rises_block 0 ms c (omega arith) up) (there_own ms c p (subst (λ (x : Block). Within x p) (sym (same_Some c b is)) at)))
there_from ms (c ∷ bs) (suc k) b p up is at = there_from (mark_block ms c) bs k b p (rises_block 0 ms c (omega arith) up) is at

pub landed_there : (fs : List NamedFile) (bs : List Block) (k : ℕ) (b : Block) (p : ℕ) → is_view fs ≡ true → slice_get bs k ≡ Some b → b.offset ≤ p → p < b.offset + b.length → is_there (marks_of fs bs) b.file p ≡ true
unfolding marks_of Within
landed_there fs bs k b p view is low high = there_from (map marked_of fs) bs k b p (rises_all fs (view_parts fs view).rising) is (low, high)

-- ---- what is there stays there

-- further entries let further blocks land
landed_one : (g : List RecvEvent) (e : RecvEvent) → (more : List Block) × (landed_of (g ++ e ∷ []) ≡ landed_of g ++ more)
landed_one g (events.Land l) = (begun_list (past_of g l.0).begun, landed_more g l)
landed_one g e = ([], landed_same g e refl ∙ sym (append-nil (landed_of g)))

landed_all : (g es : List RecvEvent) → (more : List Block) × (landed_of (g ++ es) ≡ landed_of g ++ more)
landed_all g [] = ([], ap landed_of (append-nil g) ∙ sym (append-nil (landed_of g)))
landed_all g (e ∷ es) =
    let one = landed_one g e in
    let rest = landed_all (g ++ e ∷ []) es in (
      one.0 ++ rest.0,
      ap landed_of (sym (append_assoc g (e ∷ []) es)) ∙ rest.1 ∙ ap (λ (bs : List Block). bs ++ rest.0) one.1 ∙ append_assoc (landed_of g) one.0 rest.0,
    )

marks_more : (ms : List Marked) (bs cs : List Block) → marks_from ms (bs ++ cs) ≡ marks_from (marks_from ms bs) cs
marks_more ms [] cs = refl
marks_more ms (b ∷ bs) cs = marks_more (mark_block ms b) bs cs

marks_behind : (fs : List NamedFile) (bs cs : List Block) → marks_of fs (bs ++ cs) ≡ marks_from (marks_of fs bs) cs
unfolding marks_of
marks_behind fs bs cs = marks_more (map marked_of fs) bs cs

pub there_stays : (r t : PlainReceiver) (l : Lane) (files : List NamedFile) → t.opening ≡ r.opening → Adds l r.history t.history → marks_at r ≡ map marked_of files → is_view files ≡ true → StaysThere r t
there_stays r t l files opening adds marks view number position there =
    let more = landed_all r.history adds.entries in
    let behind : marks_at t ≡ marks_from (marks_at r) more.0 =
    ap (λ (fs : List NamedFile). marks_of fs (landed_of t.history)) opening ∙ ap (λ (g : List RecvEvent). marks_of r.opening (landed_of g)) adds.behind
    ∙ ap (λ (bs : List Block). marks_of r.opening bs) more.1 ∙ marks_behind r.opening (landed_of r.history) more.0 in
    ap (λ (ms : List Marked). is_there ms number position) behind
    ∙ there_on (marks_at r) more.0 number position (subst (λ (ms : List Marked). Rises 0 ms) (sym marks) (rises_all files (view_parts files view).rising)) there
