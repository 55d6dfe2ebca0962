-- The receiver knows each file of the tree once at most, and where all has landed it has marked each.
use Rattle.std.proofs.Common.{◌≡◌, ◌⊎◌, inl, inr, ℕ, zero, suc, ◌+◌, ◌<◌, ◌≤◌, ◌==◌, ◌||◌, nat_lt, not, Bool, true, false, cond, if◌then◌else◌, List, [], ◌∷◌, ◌++◌, length, map, count_by, sum_by, slice_get, Option, Some, None, IfSome, is_some, subst, sym, ap, ◌∙◌, refl, arith}
use Rattle.std.specs.List.{list_any}
use Rattle.std.specs.Str.{bytes_eq}
use Rattle.std.proofs.lemmas.Bool.{both_ways, or_cases}
use Rattle.std.proofs.lemmas.Option.{same_Some}
use Rattle.std.proofs.lemmas.Slice.Eq.{bytes_eq-Decides}
use Rattle.wdt_units.specs.Have.{HaveFile, is_named}
use Rattle.wdt_units.specs.declared.limits.TheConstants.{MAX_FILES}
use Rattle.wdt_units.specs.declared.blocks.Block.{Block}
use Rattle.wdt_units.specs.declared.blocks.Header.{Header}
use Rattle.wdt_logfmt.specs.Beginning.{KnownFile, files_with, is_new, known_at, known_by, known_count, number_of, one_if, over}
use Rattle.wdt_logfmt.specs.Marks.{Marked, is_marked, marked_of}
use Rattle.wdt_logfmt.specs.View.{NamedFile, have_of, is_view}
use Rattle.wdt_logfmt.proofs.ForCallers.{number_new}
use Rattle.wdt_rest.specs.Fitting.{first_unfit, found_in}
use Rattle.wdt_tree.specs.declared.entry.Entry.{Entry}
use Rattle.wdt_receiver_fsm.specs.PlainReceiver as recv
use Rattle.wdt_receiver_fsm.specs.Receiver.{terms_of}
use Rattle.wdt_receiver_fsm.specs.ReceiverHistory.{landed_of}
use Rattle.wdt_pact.specs.Fitting.{IsSound}
use Rattle.wdt_pact.specs.Meeting.{Meeting}
use Rattle.wdt_pact.specs.World.{PlainWorld}
use Rattle.wdt_pact.proofs.Clear.{Among, IsClear, legal_clear}
use Rattle.wdt_pact.proofs.FileCounts.{at_marked, by_files, count_all, count_one, count_some, count_zero, marked_at, marks_once, marks_rise, marks_stay, path_at, slot_counts, slot_is, sum_few, sum_fewer, sum_ones, ups_marked}
use Rattle.wdt_pact.proofs.KnownFiles.{known_found, known_of}
use Rattle.wdt_pact.proofs.Limits.{over_none}
use Rattle.wdt_pact.proofs.NoOverlap.{among_each}
use Rattle.wdt_pact.proofs.Opened as opened
use Rattle.wdt_pact.proofs.Opened.{among_marked, have_some, opened_known, opened_marked, opened_rise, ups_opened}

-- the file of a slot that is of an entry
slot_some : (slot : Option KnownFile) (e : Entry) → slot_is slot e ≡ true → (file : KnownFile) × (slot ≡ Some file) × (file.path ≡ e.path)
slot_some None e is = cc
slot_some (Some file) e is = (file, refl, (bytes_eq-Decides file.path e.path).0 is)

of_slot : (slot : Option KnownFile) (file : KnownFile) (e : Entry) → slot ≡ Some file → file.path ≡ e.path → slot_is slot e ≡ true
of_slot slot file e is same = ap (λ (o : Option KnownFile). slot_is o e) is ∙ (bytes_eq-Decides file.path e.path).1 same

slot_known : (known : List (Option KnownFile)) (k : ℕ) (slot : Option KnownFile) (file : KnownFile) → slice_get known k ≡ Some slot → slot ≡ Some file → known_at known k ≡ Some file
slot_known known k slot file at is = ap (λ (o : Option (Option KnownFile)). known_by o) at ∙ is

module _ (w : PlainWorld) (s : IsSound w) (m : Meeting w) (view : is_view w.receiver.opening ≡ true) (fresh : first_unfit w.sender.manifest (recv.have_now w.receiver.opening w.receiver.history) ≡ None) where
  abbrev known : List (Option KnownFile)
  known = w.receiver.known

  abbrev tree : List Entry
  tree = w.sender.manifest

  abbrev ms : List Marked
  ms = recv.marks_at w.receiver

  in_tree : (n : ℕ) (file : KnownFile) → known_at w.receiver.known n ≡ Some file → found_in w.sender.manifest file.path ≡ Some (file.size, file.stamp)
  in_tree n file at = known_found w.sender.manifest w.receiver.opening w.receiver.history file fresh (m.known n file at)

  -- ---- files that are known

  counted : known_count known ≡ sum_by (λ (e : Entry). count_by (λ (slot : Option KnownFile). slot_is slot e) known) tree
  counted =
      by_files slot_is is_some tree known (λ k slot at. slot_counts tree slot s.fits.sender.manifest.rising (λ file is. in_tree k file (slot_known known k slot file at is)))

  known_once : (e : Entry) → count_by (λ (slot : Option KnownFile). slot_is slot e) known ≤ 1
  known_once e =
      count_one (λ (slot : Option KnownFile). slot_is slot e) known (λ i j x y at there a b.
      let f = slot_some x e a in
      let g = slot_some y e b in
      m.once view i j f.0 g.0 (slot_known known i x f.0 at f.1) (slot_known known j y g.0 there g.1) (f.2 ∙ sym g.2))

  -- with a header's file there are no more than the tree's
  few_files : (h : Header) → found_in w.sender.manifest h.path ≡ Some (h.size, h.stamp) → files_with known (is_new known h) ≤ length tree
  few_files h found = go (number_of known h.path) refl where
    none_of : number_of w.receiver.known h.path ≡ None → (e : Entry) → e.path ≡ h.path → count_by (λ (slot : Option KnownFile). slot_is slot e) w.receiver.known ≡ 0
    none_of none e same =
        count_zero (λ (slot : Option KnownFile). slot_is slot e) w.receiver.known (λ j y at is.
        let f = slot_some y e is in number_new w.receiver.known h.path j f.0 none (slot_known w.receiver.known j y f.0 at f.1) (f.2 ∙ same))

    go : (o : Option ℕ) → number_of w.receiver.known h.path ≡ o → files_with w.receiver.known (is_new w.receiver.known h) ≤ length w.sender.manifest
    go None is =
        let e = path_at w.sender.manifest h.path (h.size, h.stamp) found in
        let new : is_new w.receiver.known h ≡ true = ap (λ (o : Option ℕ). not (is_some o)) is in
        let one : one_if (is_new w.receiver.known h) ≡ 1 = ap (λ (b : Bool). one_if b) new in
        let fewer = sum_fewer (λ (x : Entry). count_by (λ (slot : Option KnownFile). slot_is slot x) w.receiver.known) w.sender.manifest e.0 e.1 (λ k x at. known_once x) e.2 (none_of is e.1 e.3) in
        omega (arith, counted, one, fewer)
    go (Some n) is =
        let old : is_new w.receiver.known h ≡ false = ap (λ (o : Option ℕ). not (is_some o)) is in
        let none : one_if (is_new w.receiver.known h) ≡ 0 = ap (λ (b : Bool). one_if b) old in
        omega (arith, counted, none, sum_few (λ (x : Entry). count_by (λ (slot : Option KnownFile). slot_is slot x) w.receiver.known) w.sender.manifest (λ k x at. known_once x))

  pub files_in_limit : (h : Header) → found_in w.sender.manifest h.path ≡ Some (h.size, h.stamp) → over MAX_FILES (files_with w.receiver.known (is_new w.receiver.known h)) ≡ None
  files_in_limit h found =
      over_none MAX_FILES (files_with w.receiver.known (is_new w.receiver.known h)) (let a = few_files h found in omega (arith, a, s.fits.sender.manifest.few))

  -- ---- files that are marked

  clear : IsClear (terms_of w.receiver) w.receiver.history
  clear = legal_clear (terms_of w.receiver) w.receiver.history (opened_rise w.receiver.opening view) (ups_marked 0 w.receiver.opening (ups_opened w.receiver.opening view)) s.talk.receiver.legal

  -- they are known
  pub marked_known : (n : ℕ) → is_marked ms n ≡ true → is_some (known_at known n) ≡ true
  marked_known n marked = elim (clear.named n marked) [
    | inl old ↦
        let f = opened_marked w.receiver.opening n old in
        ap (λ (k : ℕ). is_some (known_at w.receiver.known k)) (sym f.2) ∙ ap is_some (m.numbers f.0.number (known_of f.0) (opened_known w.receiver.opening f.0 view f.1))
    | inr l ↦
        subst (λ (k : ℕ). is_some (known_at w.receiver.known k) ≡ true) l.4
        (among_each (λ (x : Block). is_some (known_at w.receiver.known x.file) ≡ true) (recv.past_at w.receiver l.0).landed l.1
        (s.talk.named l.0 (subst (λ (i : ℕ). l.0 < i) s.talk.recv_lanes l.2)).landed l.3)
  ]

  mark_is : Marked → Entry → Bool
  mark_is x e = slot_is (known_at w.receiver.known x.number) e

  marks_counted : length ms ≡ sum_by (λ (e : Entry). count_by (λ (x : Marked). slot_is (known_at known x.number) e) ms) tree
  marks_counted =
      sym (count_all ms)
      ∙ by_files (λ (x : Marked). λ (e : Entry). slot_is (known_at known x.number) e) (λ (x : Marked). true) tree ms
      (λ k x at. slot_counts tree (known_at known x.number) s.fits.sender.manifest.rising (λ file is. in_tree x.number file is)
      ∙ ap (λ (b : Bool). cond {A = ℕ} b 1 0) (marked_known x.number (at_marked ms k x at)))

  marks_of_one : (e : Entry) → count_by (λ (x : Marked). slot_is (known_at known x.number) e) ms ≤ 1
  marks_of_one e =
      count_one (λ (x : Marked). slot_is (known_at known x.number) e) ms (λ i j x y at there a b.
      let f = slot_some (known_at known x.number) e a in
      let g = slot_some (known_at known y.number) e b in
      marks_once 0 ms i j x y (marks_rise w.receiver.opening (landed_of w.receiver.history) view) at there (m.once view x.number y.number f.0 g.0 f.1 g.1 (f.2 ∙ sym g.2)))

  -- a mark of a file of this path
  pub marked_one : (e : Entry) (n : ℕ) (file : KnownFile) → is_marked ms n ≡ true → known_at known n ≡ Some file → file.path ≡ e.path → 1 ≤ count_by (λ (x : Marked). slot_is (known_at known x.number) e) ms
  marked_one e n file marked at same =
      let x = marked_at ms n marked in
      count_some (λ (y : Marked). slot_is (known_at known y.number) e) ms x.0 x.1 x.2 (of_slot (known_at known x.1.number) file e (ap (known_at known) x.3 ∙ at) same)

  -- a file of the log is marked
  pub named_one : (e : Entry) → is_named (have_of w.receiver.opening) e.path ≡ true → 1 ≤ count_by (λ (x : Marked). slot_is (known_at known x.number) e) ms
  named_one e named =
      let f = have_some (λ (file : HaveFile). bytes_eq file.path e.path) w.receiver.opening named in
      marked_one e f.0.number (known_of f.0) (marks_stay w.receiver.opening (landed_of w.receiver.history) f.0.number (among_marked w.receiver.opening f.0 f.1))
      (m.numbers f.0.number (known_of f.0) (opened_known w.receiver.opening f.0 view f.1)) ((bytes_eq-Decides f.0.have.path e.path).0 f.2)

  -- where each file of the tree is marked, there are as many marks as files
  pub all_marked : ((k : ℕ) (e : Entry) → slice_get w.sender.manifest k ≡ Some e → 1 ≤ count_by (λ (x : Marked). slot_is (known_at w.receiver.known x.number) e) (recv.marks_at w.receiver)) → length (recv.marks_at w.receiver) ≡ length w.sender.manifest
  all_marked each =
      marks_counted
      ∙ sum_ones (λ (e : Entry). count_by (λ (x : Marked). slot_is (known_at known x.number) e) ms) tree (λ k e at. let a = each k e at in omega (arith, a, marks_of_one e))
