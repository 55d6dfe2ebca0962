-- No position of a block that a lane of the receiver has read is there already or on its way.
use Rattle.std.proofs.Common.{◌≡◌, ◌⊎◌, inl, inr, ℕ, zero, suc, ◌+◌, ◌<◌, ◌≤◌, ◌==◌, ◌||◌, ◌&&◌, max, nat_lt, Bool, true, false, if◌then◌else◌, cond, List, [], ◌∷◌, ◌++◌, length, map, filter, option_map, Option, Some, None, is_some, subst, sym, ap, ◌∙◌, refl, arith, append-nil, append_assoc, eq-eqb, eqb-true}
use Rattle.std.specs.List.{flat_map, list_any}
use Rattle.std.specs.Str.{bytes_eq}
use Rattle.std.proofs.lemmas.Bool.{and_from, both_ways, cases_eq, false_from_ne_true, ne_eqb, or_from, or_parts}
use Rattle.std.proofs.lemmas.Bool.Decides.{nat_tests}
use Rattle.std.proofs.lemmas.Option.{same_Some}
use Rattle.std.proofs.lemmas.Slice.Eq.{bytes_eq-Decides}
use Rattle.wdt_units.specs.Have.{HaveFile, PlainSpan, is_covered, is_in, is_named}
use Rattle.wdt_units.specs.declared.blocks.Block.{Block}
use Rattle.wdt_units.specs.declared.blocks.Header.{Header}
use Rattle.wdt_ranges.specs.Spans.{end_of as span_end, has}
use Rattle.wdt_logfmt.specs.Adding.{overlap, span_at}
use Rattle.wdt_logfmt.specs.Beginning.{KnownFile, block_of, first_in_both, first_shared, first_taken, free_number, is_of_file, is_taken, known_at, least_position, number_by, number_of, span_of, taken_spans}
use Rattle.wdt_logfmt.specs.Marks.{Marked, is_marked, marked_of, spans_at}
use Rattle.wdt_logfmt.specs.View.{NamedFile, have_of, is_view}
use Rattle.wdt_logfmt.proofs.ForCallers.{HasNumber, new_slot, number_found}
use Rattle.wdt_receiver_fsm.specs.Legal.{Terms, marks_by}
use Rattle.wdt_receiver_fsm.specs.PlainReceiver as recv
use Rattle.wdt_receiver_fsm.specs.PlainReceiver.{PlainReceiver}
use Rattle.wdt_receiver_fsm.specs.Receiver.{terms_of}
use Rattle.wdt_receiver_fsm.specs.ReceiverHistory.{begun_list}
use Rattle.wdt_receiver_fsm.specs.Sets.{numbers}
use Rattle.wdt_pact.specs.Clashes.{IsMissing, clash, heads_of}
use Rattle.wdt_pact.specs.Conversation.{IsNamed, common, header_from, known_header, receiving}
use Rattle.wdt_pact.specs.Each.{Each}
use Rattle.wdt_pact.specs.Fitting.{IsSound}
use Rattle.wdt_pact.specs.Lists.{begun_heads}
use Rattle.wdt_pact.specs.Meeting.{Meeting}
use Rattle.wdt_pact.specs.World.{PlainWorld}
use Rattle.wdt_pact.proofs.Clear.{Among, IsClear, legal_clear}
use Rattle.wdt_pact.proofs.FileCounts.{ups_marked}
use Rattle.wdt_pact.proofs.KnownFiles.{had, known_of}
use Rattle.wdt_pact.proofs.Lists.{Each-append}
use Rattle.wdt_pact.proofs.Marked.{AllRise, InBlock, IsApartOf, RiseFrom, apart_from, in_of, in_parts}
use Rattle.wdt_pact.proofs.Opened as opened
use Rattle.wdt_pact.proofs.Opened.{opened_covered, opened_has, opened_known, opened_marked, opened_named, opened_rise, ups_opened}

-- ---- spans that nothing shares

first_none : (ts : List PlainSpan) (s : PlainSpan) → Each (λ (t : PlainSpan). overlap s t ≡ false) ts → first_shared ts s ≡ None
first_none [] s e = refl
first_none (t ∷ ts) s e =
    ap (λ (b : Bool). least_position (if b then Some (max s.offset t.offset) else None) (first_shared ts s)) e.0 ∙ ap (λ (o : Option ℕ). least_position None o) (first_none ts s e.1)

apart_none : (s t : PlainSpan) → IsApartOf s t → overlap s t ≡ false
apart_none s t (inl behind) = grind (arith, nat_tests)
apart_none s t (inr before) = grind (arith, nat_tests)

apart_all : (s : PlainSpan) (ts : List PlainSpan) → Each (IsApartOf s) ts → Each (λ (t : PlainSpan). overlap s t ≡ false) ts
apart_all s [] e = tt
apart_all s (t ∷ ts) e = (apart_none s t e.0, apart_all s ts e.1)

-- a position of both
meets_at : (s t : PlainSpan) (p : ℕ) → is_in p s ≡ true → is_in p t ≡ true → overlap s t ≡ true
meets_at s t p own there = let a = in_parts p s own in let b = in_parts p t there in let low = a.0 in let high = a.1 in let least = b.0 in let most = b.1 in grind (arith, nat_tests, low, high, least, most)

spans_rise : (ms : List Marked) (n : ℕ) → AllRise ms → RiseFrom 0 (spans_at ms n)
spans_rise [] n r = tt
spans_rise (m ∷ ms) n r = go (m.number == n) (spans_rise ms n r.1) where
  go : (b : Bool) → RiseFrom 0 (spans_at ms n) → RiseFrom 0 (if b then m.spans else spans_at ms n)
  go true later = r.0
  go false later = later

-- ---- what holds of each lane

any_parts : {A : Type 0} (q : A → Bool) (xs ys : List A) → list_any q (xs ++ ys) ≡ false → (list_any q xs ≡ false) × (list_any q ys ≡ false)
any_parts q [] ys e = (refl, e)
any_parts q (x ∷ xs) ys e =
    let a = or_parts (q x) (list_any q (xs ++ ys)) e in
    let r = any_parts q xs ys a.1 in
    (or_from (q x) (list_any q xs) a.0 r.0, r.1)

flat_more : {A : Type 0} (f : ℕ → List A) (ks : List ℕ) (k : ℕ) → flat_map f (ks ++ k ∷ []) ≡ flat_map f ks ++ f k
flat_more f [] k = append-nil (f k)
flat_more f (j ∷ ks) k = ap (λ xs. f j ++ xs) (flat_more f ks k) ∙ sym (append_assoc (f j) (flat_map f ks) (f k))

any_lane : {A : Type 0} (q : A → Bool) (f : ℕ → List A) (n k : ℕ) → list_any q (flat_map f (numbers n)) ≡ false → k < n → list_any q (f k) ≡ false
any_lane q f zero k e small = absurd (omega (arith, small))
any_lane q f (suc n) k e small =
    let a = any_parts q (flat_map f (numbers n)) (f n) (ap (list_any q) (sym (flat_more f (numbers n) n)) ∙ e) in
    elim (cases_eq k n) [
      | inl same ↦ ap (λ (i : ℕ). list_any q (f i)) same ∙ a.1
      | inr other ↦ any_lane q f n k a.0 (omega (arith, small, other))
    ]

any_join : {A : Type 0} (q : A → Bool) (xs ys : List A) → list_any q xs ≡ false → list_any q ys ≡ false → list_any q (xs ++ ys) ≡ false
any_join q [] ys a b = b
any_join q (x ∷ xs) ys a b = let c = or_parts (q x) (list_any q xs) a in or_from (q x) (list_any q (xs ++ ys)) c.0 (any_join q xs ys c.1 b)

no_lane : {A : Type 0} (q : A → Bool) (f : ℕ → List A) (n : ℕ) → ((k : ℕ) → k < n → list_any q (f k) ≡ false) → list_any q (flat_map f (numbers n)) ≡ false
no_lane q f zero each = refl
no_lane q f (suc n) each =
    ap (list_any q) (flat_more f (numbers n) n) ∙ any_join q (flat_map f (numbers n)) (f n) (no_lane q f n (λ k small. each k (omega (arith, small)))) (each n (omega arith))

each_lane : (P : Block → Type 0) (f : ℕ → List Block) (n : ℕ) → ((k : ℕ) → k < n → Each P (f k)) → Each P (flat_map f (numbers n))
each_lane P f zero each = tt
each_lane P f (suc n) each =
    subst (Each P) (sym (flat_more f (numbers n) n)) (Each-append P (flat_map f (numbers n)) (f n) (each_lane P f n (λ k small. each k (omega (arith, small)))) (each n (omega arith)))

-- of those of one file
each_of : (Q : PlainSpan → Type 0) (n : ℕ) (xs : List Block) → Each (λ (x : Block). x.file ≡ n → Q (span_of x)) xs → Each Q (map span_of (filter (is_of_file n) xs))
each_of Q n [] e = tt
each_of Q n (x ∷ xs) e = go (is_of_file n x) refl (each_of Q n xs e.1) where
  go : (b : Bool) → is_of_file n x ≡ b → Each Q (map span_of (filter (is_of_file n) xs)) → Each Q (map span_of (cond b (x ∷ filter (is_of_file n) xs) (filter (is_of_file n) xs)))
  go true is later = (e.0 (eqb-true x.file n is), later)
  go false is later = later

-- a header of some blocks
among_not : (q : Header → Bool) (f : Block → Header) (xs : List Block) (c : Block) → list_any q (map f xs) ≡ false → Among c xs → q (f c) ≡ false
among_not q f [] c e a = absurd a
among_not q f (x ∷ xs) c e (inl is) = ap (λ (y : Block). q (f y)) is ∙ (or_parts (q (f x)) (list_any q (map f xs)) e).0
among_not q f (x ∷ xs) c e (inr a) = among_not q f xs c (or_parts (q (f x)) (list_any q (map f xs)) e).1 a

pub among_each : (P : Block → Type 0) (xs : List Block) (c : Block) → Each P xs → Among c xs → P c
among_each P [] c e a = absurd a
among_each P (x ∷ xs) c e (inl is) = subst P (sym is) e.0
among_each P (x ∷ xs) c e (inr a) = among_each P xs c e.1 a

-- ---- a header's file

-- the known file of the number that a header's file has or gets has its path
known_path : (known : List (Option KnownFile)) (h : Header) (n : ℕ) (file : KnownFile) → known_at known n ≡ Some file → n ≡ (block_of known h).file → file.path ≡ h.path
known_path known h n file there same = go (number_of known h.path) refl where
  at : (o : Option ℕ) → number_of known h.path ≡ o → known_at known (number_by known o) ≡ Some file
  at o is = ap (λ (x : Option ℕ). known_at known (number_by known x)) (sym is) ∙ (ap (known_at known) (sym same) ∙ there)

  path_of : (k : ℕ) → HasNumber known h.path k → known_at known k ≡ Some file → file.path ≡ h.path
  path_of k x here = let e : x.file ≡ file = same_Some x.file file (sym x.there ∙ here) in ap (λ (y : KnownFile). y.path) (sym e) ∙ x.path_is

  go : (o : Option ℕ) → number_of known h.path ≡ o → file.path ≡ h.path
  go None is = let e : None ≡ Some file = sym (new_slot known file).free ∙ at None is in cc
  go (Some k) is = path_of k (number_found known h.path k is) (at (Some k) is)

-- a block of that file clashes with the header, where it shares a position or one of them has none
clashes : (known : List (Option KnownFile)) (h : Header) (c : Block) → is_some (known_at known c.file) ≡ true → c.file ≡ (block_of known h).file
    → (h.length == 0 || (c.length == 0 || overlap (span_at h.offset h.length) (span_at c.offset c.length))) ≡ true → clash h (known_header known c) ≡ true
clashes known h c some same meets = go (known_at known c.file) refl some where
  go : (o : Option KnownFile) → known_at known c.file ≡ o → is_some o ≡ true → clash h (known_header known c) ≡ true
  go None is e = cc
  go (Some file) is e =
      ap (λ (o : Option KnownFile). clash h (header_from o c)) is
      ∙ and_from (bytes_eq h.path file.path) (h.length == 0 || (c.length == 0 || overlap (span_at h.offset h.length) (span_at c.offset c.length)))
      ((bytes_eq-Decides h.path file.path).1 (sym (known_path known h c.file file is same))) meets

or_last : (x y z : Bool) → z ≡ true → (x || (y || z)) ≡ true
or_last true y z e = refl
or_last false true z e = refl
or_last false false z e = e

or_one : (x y : Bool) → x ≡ true → (x || y) ≡ true
or_one x y e = ap (λ (z : Bool). z || y) e

-- ---- in a world

module _ (w : PlainWorld) (s : IsSound w) (m : Meeting w) (view : is_view w.receiver.opening ≡ true) (h : Header) (missing : IsMissing (common w.receiver).have h)
    (apart : list_any (clash h) (flat_map (λ (k : ℕ). heads_of (receiving w.receiver k)) (numbers (length w.pairs))) ≡ false) where
  abbrev known : List (Option KnownFile)
  known = w.receiver.known

  abbrev b : Block
  b = block_of w.receiver.known h

  abbrev ms : List Marked
  ms = recv.marks_at w.receiver

  clear : IsClear (terms_of w.receiver) w.receiver.history
  clear = legal_clear (terms_of w.receiver) w.receiver.history (opened_rise w.receiver.opening view) (ups_marked 0 w.receiver.opening (ups_opened w.receiver.opening view)) s.talk.receiver.legal

  in_pairs : (k : ℕ) → k < length w.receiver.lanes → k < length w.pairs
  in_pairs k small = subst (λ (n : ℕ). k < n) s.talk.recv_lanes small

  -- no block of a lane clashes
  lane_apart : (k : ℕ) → k < length w.receiver.lanes → list_any (clash h) (heads_of (receiving w.receiver k)) ≡ false
  lane_apart k small = any_lane (clash h) (λ (i : ℕ). heads_of (receiving w.receiver i)) (length w.pairs) k apart (in_pairs k small)

  parts_apart : (k : ℕ) → k < length w.receiver.lanes → (list_any (clash h) (receiving w.receiver k).landed ≡ false) × (list_any (clash h) (begun_heads (receiving w.receiver k).begun) ≡ false)
  parts_apart k small = any_parts (clash h) (receiving w.receiver k).landed (begun_heads (receiving w.receiver k).begun) (lane_apart k small)

  landed_not : (k : ℕ) (c : Block) → k < length w.receiver.lanes → Among c (recv.past_at w.receiver k).landed → c.file ≡ b.file
      → (h.length == 0 || (c.length == 0 || overlap (span_at h.offset h.length) (span_at c.offset c.length))) ≡ true → ⊥
  landed_not k c small a same meets =
      both_ways (clash h (known_header w.receiver.known c)) (among_not (clash h) (known_header w.receiver.known) (recv.past_at w.receiver k).landed c (parts_apart k small).0 a)
      (clashes w.receiver.known h c (among_each (λ (x : Block). is_some (known_at w.receiver.known x.file) ≡ true) (recv.past_at w.receiver k).landed c (s.talk.named k (in_pairs k small)).landed a) same meets)

  begun_not : (k : ℕ) (c : Block) → k < length w.receiver.lanes → (recv.past_at w.receiver k).begun ≡ Some c → c.file ≡ b.file
      → (h.length == 0 || (c.length == 0 || overlap (span_at h.offset h.length) (span_at c.offset c.length))) ≡ true → ⊥
  begun_not k c small is same meets =
      both_ways (clash h (known_header w.receiver.known c))
      (or_parts (clash h (known_header w.receiver.known c)) false
      (ap (λ (o : Option Block). list_any (clash h) (begun_heads (option_map (known_header w.receiver.known) o))) (sym is) ∙ (parts_apart k small).1)).0
      (clashes w.receiver.known h c ((s.talk.named k (in_pairs k small)).begun c is) same meets)

  -- a file of the log is that of the header
  log_path : (f : NamedFile) → opened.Among f w.receiver.opening → f.number ≡ b.file → f.have.path ≡ h.path
  log_path f a same = known_path w.receiver.known h f.number (known_of f) (m.numbers f.number (known_of f) (opened_known w.receiver.opening f view a)) same

  had_is : (common w.receiver).have ≡ have_of w.receiver.opening
  had_is = had w.receiver.opening w.receiver.history

  -- ---- a block with a position

  free_at : (p : ℕ) → is_in p (span_of b) ≡ true → has (spans_at ms b.file) p ≡ true → ⊥
  free_at p own there = elim (clear.from b.file p there) [
    | inl old ↦
        let f = opened_has w.receiver.opening b.file p old in
        let i = in_parts p (span_of b) own in
        both_ways (is_covered (have_of w.receiver.opening) h.path p) (ap (λ (have : List HaveFile). is_covered have h.path p) (sym had_is) ∙ missing.covered p i.0 i.1)
        (opened_covered w.receiver.opening f.0 h.path p f.1 (log_path f.0 f.1 f.2) f.3)
    | inr l ↦
        landed_not l.0 l.1 l.2 l.3 l.4
        (or_last (h.length == 0) (l.1.length == 0) (overlap (span_at h.offset h.length) (span_at l.1.offset l.1.length))
        (meets_at (span_of b) (span_of l.1) p own (in_of p (span_of l.1) l.5.0 l.5.1)))
  ]

  begun_apart : (k : ℕ) → k < length w.receiver.lanes → Each (λ (c : Block). c.file ≡ b.file → overlap (span_of b) (span_of c) ≡ false) (recv.begun_at w.receiver k)
  begun_apart k small = go (recv.past_at w.receiver k).begun refl where
    go : (o : Option Block) → (recv.past_at w.receiver k).begun ≡ o → Each (λ (c : Block). c.file ≡ b.file → overlap (span_of b) (span_of c) ≡ false) (begun_list o)
    go None is = tt
    go (Some c) is = (
      λ same. false_from_ne_true (overlap (span_of b) (span_of c)) (λ meets. begun_not k c small is same (or_last (h.length == 0) (c.length == 0) (overlap (span_at h.offset h.length) (span_at c.offset c.length)) meets)),
      tt,
    )

  full_free : 0 < h.length → first_shared (taken_spans ms (recv.begun_blocks w.receiver) b.file) (span_of b) ≡ None
  full_free some =
      first_none (taken_spans ms (recv.begun_blocks w.receiver) b.file) (span_of b)
      (Each-append (λ (t : PlainSpan). overlap (span_of b) t ≡ false) (spans_at ms b.file) (map span_of (filter (is_of_file b.file) (recv.begun_blocks w.receiver)))
      (apart_all (span_of b) (spans_at ms b.file) (apart_from (span_of b) 0 (spans_at ms b.file) some (spans_rise ms b.file clear.rises) free_at))
      (each_of (λ (t : PlainSpan). overlap (span_of b) t ≡ false) b.file (recv.begun_blocks w.receiver)
      (each_lane (λ (c : Block). c.file ≡ b.file → overlap (span_of b) (span_of c) ≡ false) (recv.begun_at w.receiver) (length w.receiver.lanes) begun_apart)))

  -- ---- an empty block

  unmarked : h.length ≡ 0 → is_marked ms b.file ≡ true → ⊥
  unmarked none marked = elim (clear.named b.file marked) [
    | inl old ↦
        let f = opened_marked w.receiver.opening b.file old in
        both_ways (is_named (have_of w.receiver.opening) h.path) (ap (λ (have : List HaveFile). is_named have h.path) (sym had_is) ∙ missing.named none)
        (opened_named w.receiver.opening f.0 h.path f.1 (log_path f.0 f.1 f.2))
    | inr l ↦ landed_not l.0 l.1 l.2 l.3 l.4 (or_one (h.length == 0) (l.1.length == 0 || overlap (span_at h.offset h.length) (span_at l.1.offset l.1.length)) (eq-eqb h.length 0 none))
  ]

  none_begun : h.length ≡ 0 → (k : ℕ) → k < length w.receiver.lanes → list_any (is_of_file b.file) (recv.begun_at w.receiver k) ≡ false
  none_begun none k small = go (recv.past_at w.receiver k).begun refl where
    go : (o : Option Block) → (recv.past_at w.receiver k).begun ≡ o → list_any (is_of_file b.file) (begun_list o) ≡ false
    go None is = refl
    go (Some c) is =
        or_from (is_of_file b.file c) false
        (false_from_ne_true (is_of_file b.file c) (λ e. begun_not k c small is (eqb-true c.file b.file e)
        (or_one (h.length == 0) (c.length == 0 || overlap (span_at h.offset h.length) (span_at c.offset c.length)) (eq-eqb h.length 0 none)))) refl

  empty_free : h.length ≡ 0 → is_taken ms (recv.begun_blocks w.receiver) b.file ≡ false
  empty_free none =
      or_from (is_marked ms b.file) (list_any (is_of_file b.file) (recv.begun_blocks w.receiver)) (false_from_ne_true (is_marked ms b.file) (unmarked none))
      (no_lane (is_of_file b.file) (recv.begun_at w.receiver) (length w.receiver.lanes) (none_begun none))

  -- nothing of it is taken
  pub none_taken : first_taken ms (recv.begun_blocks w.receiver) b ≡ None
  none_taken = elim (cases_eq h.length 0) [
    | inl none ↦
        ap (λ (x : Bool). if x then (if is_taken ms (recv.begun_blocks w.receiver) b.file then Some 0 else None) else first_shared (taken_spans ms (recv.begun_blocks w.receiver) b.file) (span_of b)) (eq-eqb h.length 0 none)
        ∙ ap (λ (x : Bool). if x then Some 0 else None) (empty_free none)
    | inr some ↦
        ap (λ (x : Bool). if x then (if is_taken ms (recv.begun_blocks w.receiver) b.file then Some 0 else None) else first_shared (taken_spans ms (recv.begun_blocks w.receiver) b.file) (span_of b)) (ne_eqb h.length 0 some)
        ∙ full_free (omega (arith, some))
  ]
