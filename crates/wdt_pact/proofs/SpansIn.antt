-- With a block that a lane of the receiver has read there are no more spans than a transfer may have.
use Rattle.std.proofs.Common.{◌≡◌, ◌⊎◌, inl, inr, ℕ, zero, suc, ◌+◌, ◌<◌, ◌≤◌, ◌==◌, ◌||◌, ◌&&◌, Bool, true, false, if◌then◌else◌, List, [], ◌∷◌, ◌++◌, length, map, sum_by, slice_get, Option, Some, None, is_some, subst, sym, ap, ◌∙◌, refl, arith, eq-eqb}
use Rattle.std.specs.List.{list_any}
use Rattle.std.specs.Str.{bytes_eq}
use Rattle.std.proofs.lemmas.Bool.{and_parts, ne_eqb}
use Rattle.std.proofs.lemmas.List.Sums.{sum_by-cons}
use Rattle.std.proofs.lemmas.Slice.Eq.{bytes_eq-Decides}
use Rattle.wdt_units.specs.Have.{HaveFile, PlainSpan, is_covered, is_in}
use Rattle.wdt_units.specs.declared.blocks.Block.{Block}
use Rattle.wdt_units.specs.declared.blocks.Header.{Header}
use Rattle.wdt_units.specs.declared.limits.TheConstants.{MAX_BLOCKS, MAX_FILES, MAX_SPANS}
use Rattle.wdt_ranges.specs.Spans.{has}
use Rattle.wdt_logfmt.specs.Beginning.{KnownFile, block_of, is_behind, known_at, number_by, number_of, over, span_cost, spans_with}
use Rattle.wdt_logfmt.specs.Marks.{Marked, marked_of, span_count as marked_count, spans_at, spans_in}
use Rattle.wdt_logfmt.specs.View.{NamedFile, have_of, is_view}
use Rattle.wdt_logfmt.proofs.ForCallers.{HasNumber, number_found, number_new}
use Rattle.wdt_rest.specs.Fitting.{first_unfit}
use Rattle.wdt_rest.specs.RestOf.{rest_of}
use Rattle.wdt_sender_fsm.specs.PlainSender.{blocks_of}
use Rattle.wdt_receiver_fsm.specs.PlainReceiver as recv
use Rattle.wdt_receiver_fsm.specs.Receiver.{terms_of}
use Rattle.wdt_receiver_fsm.specs.ReceiverHistory.{begun_list, landed_of}
use Rattle.wdt_receiver_fsm.proofs.ForCallers.{landed_named}
use Rattle.wdt_pact.specs.Clashes.{heads_of}
use Rattle.wdt_pact.specs.Conversation.{header_from, known_header, receiving, sending, sent_header}
use Rattle.wdt_pact.specs.Finishing.{Finishing}
use Rattle.wdt_pact.specs.Fitting.{IsSound}
use Rattle.wdt_pact.specs.Meeting.{Meeting}
use Rattle.wdt_pact.specs.World.{PlainWorld}
use Rattle.wdt_pact.proofs.Clear.{IsClear, cost_less, legal_clear, opening_cost}
use Rattle.wdt_pact.proofs.Falls.{sum_to_le}
use Rattle.wdt_pact.proofs.FileCounts.{ups_marked}
use Rattle.wdt_pact.proofs.FilesIn.{marked_known}
use Rattle.wdt_pact.proofs.KnownFiles.{known_of, unrefused}
use Rattle.wdt_pact.proofs.Limits.{have_sum, opening_fits, over_none}
use Rattle.wdt_pact.proofs.Opened.{Among, Ups, above_low, have_some, opened_known, opened_rise, ups_opened}
use Rattle.wdt_pact.proofs.SpanCounts.{covered_before, head_cost, path_cost, plan_spans, span_count}
use Rattle.wdt_pact.proofs.Sums.{sum_lanes, sum_map}
use Rattle.wdt_pact.proofs.Within.{AreOrdered, ArePlaced, accepted, few_blocks, fits_tree, have_is, plan_is, under}

-- ---- sums

sum_le : (f g : Block → ℕ) (xs : List Block) → ((k : ℕ) (x : Block) → slice_get xs k ≡ Some x → f x ≤ g x) → sum_by f xs ≤ sum_by g xs
sum_le f g [] each = omega arith
sum_le f g (x ∷ xs) each = let a : f x ≤ g x = each 0 x refl in omega (arith, sum_by-cons f x xs, sum_by-cons g x xs, a, sum_le f g xs (λ k y at. each (suc k) y at))

-- ---- the spans of a log as it was opened

-- those of a file's number are the file's
opened_spans : (low : ℕ) (fs : List NamedFile) (f : NamedFile) → Ups low fs → Among f fs → spans_at (map marked_of fs) f.number ≡ f.have.spans
opened_spans low [] f up a = absurd a
opened_spans low (g ∷ gs) f up (inl is) =
    ap (λ (b : Bool). if b then g.have.spans else spans_at (map marked_of gs) f.number) (eq-eqb g.number f.number (ap (λ (x : NamedFile). x.number) (sym is)))
    ∙ ap (λ (x : NamedFile). x.have.spans) (sym is)
opened_spans low (g ∷ gs) f up (inr a) =
    ap (λ (b : Bool). if b then g.have.spans else spans_at (map marked_of gs) f.number) (ne_eqb g.number f.number (λ e. let x = above_low (g.number + 1) gs f up.1 a in absurd (omega (arith, x, e))))
    ∙ opened_spans (g.number + 1) gs f up.1 a

-- they are as many as a destination has
opened_count : (fs : List NamedFile) → spans_in (map marked_of fs) ≡ sum_by span_count (have_of fs)
opened_count fs = sum_map marked_count marked_of fs ∙ sym (have_sum span_count fs)

-- where a file's number is the block's, what is covered before the block is marked so
cost_below : (fs : List NamedFile) (c : Block) (path : List ℕ) → Ups 0 fs → ((f : NamedFile) → Among f fs → f.have.path ≡ path → f.number ≡ c.file) → opening_cost fs c ≤ path_cost (have_of fs) path c
cost_below fs c path up only = go (c.length == 0) (covered_before (have_of fs) path c.offset) refl c.offset refl where
  behind : (k : ℕ) → c.offset ≡ suc k → is_covered (have_of fs) path k ≡ true → is_behind (spans_at (map marked_of fs) c.file) c.offset ≡ true
  behind k at covered =
      let x = have_some (λ (file : HaveFile). bytes_eq file.path path && list_any (is_in k) file.spans) fs covered in
      let parts = and_parts (bytes_eq x.0.have.path path) (list_any (is_in k) x.0.have.spans) x.2 in
      let same : x.0.number ≡ c.file = only x.0 x.1 ((bytes_eq-Decides x.0.have.path path).0 parts.0) in
      ap (is_behind (spans_at (map marked_of fs) c.file)) at
      ∙ (ap (λ (n : ℕ). has (spans_at (map marked_of fs) n) k) (sym same)
      ∙ (ap (λ (ss : List PlainSpan). has ss k) (opened_spans 0 fs x.0 up x.1) ∙ parts.1))

  one_most : (d : Bool) → (if d then 0 else 1) ≤ 1
  one_most true = omega arith
  one_most false = omega arith

  go : (z b : Bool) → covered_before (have_of fs) path c.offset ≡ b → (at : ℕ) → c.offset ≡ at → (if z || is_behind (spans_at (map marked_of fs) c.file) c.offset then 0 else 1) ≤ (if z || b then 0 else 1)
  go true b is at same = omega arith
  go false false is at same = one_most (is_behind (spans_at (map marked_of fs) c.file) c.offset)
  go false true is zero same = let x : false ≡ true = sym (ap (covered_before (have_of fs) path) same) ∙ is in cc
  go false true is (suc k) same =
      let e : ◌≡◌ {A = ℕ} (if is_behind (spans_at (map marked_of fs) c.file) c.offset then 0 else 1) 0 = ap (λ (d : Bool). if d then 0 else 1) (behind k same (sym (ap (covered_before (have_of fs) path) same) ∙ is)) in
      omega (arith, e)

-- ---- in a world

module _ (places : ArePlaced) (w : PlainWorld) (s : IsSound w) (m : Meeting w) (view : is_view w.receiver.opening ≡ true) (fresh : first_unfit w.sender.manifest (recv.have_now w.receiver.opening w.receiver.history) ≡ None)
    (l : ℕ) (h : Header) (within : l < length w.pairs) (next : (more : List Header) × ((sending w.sender l).kept ≡ heads_of (receiving w.receiver l) ++ h ∷ more)) where
  abbrev known : List (Option KnownFile)
  known = w.receiver.known

  abbrev opening : List NamedFile
  opening = w.receiver.opening

  abbrev ms : List Marked
  ms = recv.marks_at w.receiver

  abbrev b : Block
  b = block_of w.receiver.known h

  ups : Ups 0 w.receiver.opening
  ups = ups_opened w.receiver.opening view

  clear : IsClear (terms_of w.receiver) w.receiver.history
  clear = legal_clear (terms_of w.receiver) w.receiver.history (opened_rise w.receiver.opening view) (ups_marked 0 w.receiver.opening ups) s.talk.receiver.legal

  -- a file of the log has the number that is known
  log_known : (f : NamedFile) → Among f w.receiver.opening → known_at w.receiver.known f.number ≡ Some (known_of f)
  log_known f a = m.numbers f.number (known_of f) (opened_known w.receiver.opening f view a)

  -- what a block costs that landed or is begun
  known_cost : (c : Block) → is_some (known_at w.receiver.known c.file) ≡ true → opening_cost w.receiver.opening c ≤ head_cost (have_of w.receiver.opening) (known_header w.receiver.known c)
  known_cost c some = go (known_at w.receiver.known c.file) refl some where
    go : (o : Option KnownFile) → known_at w.receiver.known c.file ≡ o → is_some o ≡ true → opening_cost w.receiver.opening c ≤ head_cost (have_of w.receiver.opening) (known_header w.receiver.known c)
    go None is x = cc
    go (Some file) is x =
        let a = cost_below w.receiver.opening c file.path ups (λ f among same. m.once view f.number c.file (known_of f) file (log_known f among) is same) in
        let e : head_cost (have_of w.receiver.opening) (known_header w.receiver.known c) ≡ path_cost (have_of w.receiver.opening) file.path c = ap (λ (o : Option KnownFile). head_cost (have_of w.receiver.opening) (header_from o c)) is in
        omega (arith, a, e)

  landed_cost : sum_by (opening_cost w.receiver.opening) (landed_of w.receiver.history) ≤ sum_by (λ (c : Block). head_cost (have_of w.receiver.opening) (known_header w.receiver.known c)) (landed_of w.receiver.history)
  landed_cost =
      sum_le (opening_cost w.receiver.opening) (λ (c : Block). head_cost (have_of w.receiver.opening) (known_header w.receiver.known c)) (landed_of w.receiver.history)
      (λ k c at. known_cost c (marked_known w s m view fresh c.file (landed_named w.receiver.opening (landed_of w.receiver.history) k c at)))

  begun_cost : sum_by (opening_cost w.receiver.opening) (recv.begun_blocks w.receiver) ≤ sum_by (λ (c : Block). head_cost (have_of w.receiver.opening) (known_header w.receiver.known c)) (recv.begun_blocks w.receiver)
  begun_cost =
      let F : Block → ℕ = opening_cost w.receiver.opening in
      let G : Block → ℕ = λ c. head_cost (have_of w.receiver.opening) (known_header w.receiver.known c) in
      omega (
        arith,
        sum_lanes F (recv.begun_at w.receiver) (length w.receiver.lanes),
        sum_lanes G (recv.begun_at w.receiver) (length w.receiver.lanes),
        sum_to_le (length w.receiver.lanes) (λ k. sum_by F (recv.begun_at w.receiver k)) (λ k. sum_by G (recv.begun_at w.receiver k)) (λ k small. of_lane k small),
      ) where
        of_lane : (k : ℕ) → k < length w.receiver.lanes
            → sum_by (opening_cost w.receiver.opening) (recv.begun_at w.receiver k) ≤ sum_by (λ (c : Block). head_cost (have_of w.receiver.opening) (known_header w.receiver.known c)) (recv.begun_at w.receiver k)
        of_lane k small = go (recv.past_at w.receiver k).begun refl where
          go : (o : Option Block) → (recv.past_at w.receiver k).begun ≡ o
              → sum_by (opening_cost w.receiver.opening) (begun_list o) ≤ sum_by (λ (c : Block). head_cost (have_of w.receiver.opening) (known_header w.receiver.known c)) (begun_list o)
          go None is = omega arith
          go (Some c) is =
              let a = known_cost c ((s.talk.named k (subst (λ (n : ℕ). k < n) s.talk.recv_lanes small)).begun c is) in
              omega (arith, a, sum_by-cons (opening_cost w.receiver.opening) c [], sum_by-cons (λ (x : Block). head_cost (have_of w.receiver.opening) (known_header w.receiver.known x)) c [])

  -- and the block that was read
  own_cost : opening_cost w.receiver.opening (block_of w.receiver.known h) ≤ head_cost (have_of w.receiver.opening) h
  own_cost = cost_below w.receiver.opening (block_of w.receiver.known h) h.path ups (λ f among same. number_is f among same) where
    number_is : (f : NamedFile) → Among f w.receiver.opening → f.have.path ≡ h.path → f.number ≡ (block_of w.receiver.known h).file
    number_is f among same = go (number_of w.receiver.known h.path) refl where
      of_number : (n : ℕ) → HasNumber w.receiver.known h.path n → f.number ≡ n
      of_number n x = m.once view f.number n (known_of f) x.file (log_known f among) x.there (same ∙ sym x.path_is)

      go : (o : Option ℕ) → number_of w.receiver.known h.path ≡ o → f.number ≡ (block_of w.receiver.known h).file
      go None is = absurd (number_new w.receiver.known h.path f.number (known_of f) is (log_known f among) same)
      go (Some n) is = of_number n (number_found w.receiver.known h.path n is) ∙ ap (number_by w.receiver.known) (sym is)

  -- what is there now makes no block cost more
  now_cost : (c : Block) → span_cost (recv.marks_at w.receiver) c ≤ opening_cost w.receiver.opening c
  now_cost c = cost_less (spans_at (map marked_of w.receiver.opening) c.file) (spans_at (recv.marks_at w.receiver) c.file) c (clear.stays c.file)

  module _ (f : Finishing w) (orders : AreOrdered) (have : List HaveFile) (had : w.sender.have ≡ Some have) where
    few_spans : spans_with (recv.marks_at w.receiver) (block_of w.receiver.known h ∷ recv.begun_blocks w.receiver) ≤ MAX_SPANS
    few_spans =
        let is : have ≡ have_of w.receiver.opening = have_is places w s f view orders have had in
        let plan =
        plan_spans w.sender.manifest (have_of w.receiver.opening) w.sender.block s.fits.sender.block.0 s.fits.sender.manifest.rising (fits_tree places w s f view orders have had) in
        let rest : blocks_of w.sender ≡ rest_of w.sender.manifest (have_of w.receiver.opening) w.sender.block = plan_is places w s f view orders have had ∙ ap (λ (x : List HaveFile). rest_of w.sender.manifest x w.sender.block) is in
        omega (
          arith,
          clear.few,
          opened_count w.receiver.opening,
          sum_by-cons (span_cost (recv.marks_at w.receiver)) (block_of w.receiver.known h) (recv.begun_blocks w.receiver),
          now_cost (block_of w.receiver.known h),
          sum_le (span_cost (recv.marks_at w.receiver)) (opening_cost w.receiver.opening) (recv.begun_blocks w.receiver) (λ k c at. now_cost c),
          landed_cost,
          begun_cost,
          own_cost,
          under places w s l h within next (head_cost (have_of w.receiver.opening)),
          ap (sum_by (λ (c : Block). head_cost (have_of w.receiver.opening) (sent_header w.sender.manifest c))) rest,
          plan,
          few_blocks w.sender.manifest have w.sender.block (accepted places w s f view orders have had).sent,
          ap (λ (x : List HaveFile). length (rest_of w.sender.manifest x w.sender.block)) is,
          s.fits.sender.manifest.few,
        )

    pub spans_in_limit : over MAX_SPANS (spans_with (recv.marks_at w.receiver) (block_of w.receiver.known h ∷ recv.begun_blocks w.receiver)) ≡ None
    spans_in_limit = over_none MAX_SPANS (spans_with (recv.marks_at w.receiver) (block_of w.receiver.known h ∷ recv.begun_blocks w.receiver)) few_spans
