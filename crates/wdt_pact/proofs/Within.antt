-- All that landed and is begun, and the block that a lane of the receiver has read, are blocks of the plan, each once: so is any sum over them.
use Rattle.std.proofs.Common.{◌≡◌, ◌⊎◌, inl, inr, ℕ, ◌+◌, ◌<◌, ◌≤◌, ◌==◌, ◌&&◌, nat_lt, nat_le, Bool, true, false, if◌then◌else◌, List, [], ◌∷◌, ◌++◌, length, map, slice_get, sum_by, option_map, Option, Some, None, IfSome, is_some, subst, sym, ap, ◌∙◌, refl, arith}
use Rattle.std.specs.List.{flat_map}
use Rattle.std.proofs.lemmas.Bool.{cases_eq, lt-leb}
use Rattle.std.proofs.lemmas.Bool.Decides.{nat_tests}
use Rattle.std.proofs.lemmas.List.Sums.{sum_by-append, sum_by-cons}
use Rattle.wdt_units.specs.Have.{HaveFile}
use Rattle.wdt_units.specs.declared.blocks.Block.{Block}
use Rattle.wdt_units.specs.declared.blocks.Header.{Header}
use Rattle.wdt_units.specs.declared.limits.TheConstants.{MAX_BLOCKS, MAX_TOTAL}
use Rattle.wdt_ranges.specs.Files.{is_in_order}
use Rattle.wdt_logfmt.specs.Beginning.{KnownFile, block_of, bytes_with, known_at, length_of, over}
use Rattle.wdt_logfmt.specs.Marks.{bytes_in, marked_of}
use Rattle.wdt_logfmt.specs.View.{NamedFile, have_of, is_view}
use Rattle.wdt_rest.specs.Fitting.{first_unfit}
use Rattle.wdt_rest.specs.RestOf.{rest_of}
use Rattle.wdt_rest.specs.Together.{AreTogether, FitsTree, covered}
use Rattle.wdt_rest.proofs.lemmas.Together.{together}
use Rattle.wdt_tree.specs.Listing.{size_of}
use Rattle.wdt_tree.specs.declared.entry.Entry.{Entry}
use Rattle.wdt_sender_fsm.specs.Chunks.{refusal, refusal_after, stale_of, unordered_at}
use Rattle.wdt_sender_fsm.specs.declared.answers.RefusedKind.{RefusedKind}
use Rattle.wdt_sender_fsm.specs.declared.answers.RefusedKind.TheVariants.{TooManyBlocks}
use Rattle.wdt_sender_fsm.specs.PlainSender.{HasPlaces, PlainSender, blocks_of, header_by, listed_blocks, past_at, waiting_blocks}
use Rattle.wdt_sender_fsm.specs.Sender.{IsAccepted, IsSender, plan_of}
use Rattle.wdt_receiver_fsm.specs.PlainReceiver as recv
use Rattle.wdt_receiver_fsm.specs.Receiver.{terms_of}
use Rattle.wdt_receiver_fsm.specs.ReceiverHistory.{begun_list, landed_of}
use Rattle.wdt_receiver_fsm.specs.Sets.{numbers}
use Rattle.wdt_pact.specs.Clashes.{heads_of}
use Rattle.wdt_pact.specs.Conversation.{common, header_from, known_header, receiving, sending, sent_header}
use Rattle.wdt_pact.specs.Finishing.{Finishing}
use Rattle.wdt_pact.specs.Fitting.{IsSound}
use Rattle.wdt_pact.specs.Lists.{begun_heads}
use Rattle.wdt_pact.specs.Measure.{sum_to}
use Rattle.wdt_pact.specs.World.{PlainWorld, pair_at}
use Rattle.wdt_pact.proofs.Falls.{sum_same}
use Rattle.wdt_pact.proofs.KnownFiles.{had, unrefused}
use Rattle.wdt_pact.proofs.Limits.{marks_bytes, opening_bytes, opening_fits, over_none, sum_both, sum_ext, term_below}
use Rattle.wdt_pact.proofs.NextBlocks.{front_of}
use Rattle.wdt_pact.proofs.Sums.{landed_sum, plan_sum, sum_lanes, sum_map, sum_more}

-- what the sender's own crate promises of its blocks
abbrev pub ArePlaced : Type 0
ArePlaced = (s : PlainSender) → IsSender s → 1 ≤ s.block → HasPlaces s

-- and of a list in order
abbrev pub AreOrdered : Type 0
AreOrdered = (files : List HaveFile) → unordered_at files ≡ None → is_in_order files ≡ true

-- a tree that isn't refused has no more blocks than a plan may have
pub few_blocks : (tree : List Entry) (have : List HaveFile) (block : ℕ) → refusal tree have block ≡ None → length (rest_of tree have block) ≤ MAX_BLOCKS
few_blocks tree have block e = go (nat_lt MAX_BLOCKS (length (rest_of tree have block))) refl where
  go : (b : Bool) → nat_lt MAX_BLOCKS (length (rest_of tree have block)) ≡ b → length (rest_of tree have block) ≤ MAX_BLOCKS
  go false is = grind (arith, nat_tests, is)
  go true is =
      let x : Some (TooManyBlocks (length (rest_of tree have block))) ≡ None =
      sym (ap (λ (o : Option HaveFile). refusal_after tree have block (option_map (stale_of tree) o)) (unrefused tree have block e) ∙ ap (λ (b : Bool). if b then Some (TooManyBlocks (length (rest_of tree have block))) else None) is) ∙ e in
      cc

ones : {A : Type 0} (xs : List A) → sum_by (λ (x : A). 1) xs ≡ length xs
ones {A} [] = refl
ones {A} (x ∷ xs) = omega (arith, sum_by-cons (λ (y : A). 1) x xs, ones xs)

module _ (places : ArePlaced) (w : PlainWorld) (s : IsSound w) where
  n : ℕ
  n = length w.pairs

  some : 1 ≤ w.sender.block
  some = s.fits.sender.block.0

  -- what a lane has landed and begun, in a sum
  heads_sum : (F : Header → ℕ) (k : ℕ) → sum_by F (heads_of (receiving w.receiver k))
      ≡ sum_by (λ c. F (known_header w.receiver.known c)) (recv.past_at w.receiver k).landed + sum_by (λ c. F (known_header w.receiver.known c)) (recv.begun_at w.receiver k)
  heads_sum F k =
      omega (
        arith,
        sum_by-append F (receiving w.receiver k).landed (begun_heads (receiving w.receiver k).begun),
        sum_map F (known_header w.receiver.known) (recv.past_at w.receiver k).landed,
        begun (recv.past_at w.receiver k).begun,
      ) where
        begun : (o : Option Block) → sum_by F (begun_heads (option_map (known_header w.receiver.known) o)) ≡ sum_by (λ c. F (known_header w.receiver.known c)) (begun_list o)
        begun None = refl
        begun (Some c) = refl

  all_heads : (F : Header → ℕ) → sum_by (λ c. F (known_header w.receiver.known c)) (landed_of w.receiver.history) + sum_by (λ c. F (known_header w.receiver.known c)) (recv.begun_blocks w.receiver)
      ≡ sum_to (length w.receiver.lanes) (λ k. sum_by F (heads_of (receiving w.receiver k)))
  all_heads F =
      let G : Block → ℕ = λ c. F (known_header w.receiver.known c) in
      omega (
        arith,
        landed_sum G (terms_of w.receiver) w.receiver.history s.talk.receiver.legal,
        sum_lanes G (recv.begun_at w.receiver) (length w.receiver.lanes),
        sum_both (length w.receiver.lanes) (λ k. sum_by G (recv.past_at w.receiver k).landed) (λ k. sum_by G (recv.begun_at w.receiver k)),
        sum_same (length w.receiver.lanes) (λ k. sum_by G (recv.past_at w.receiver k).landed + sum_by G (recv.begun_at w.receiver k)) (λ k. sum_by F (heads_of (receiving w.receiver k))) (λ k small. heads_sum F k),
      )

  pub kept_sum : (F : Header → ℕ) → sum_by (λ b. F (sent_header w.sender.manifest b)) (waiting_blocks w.sender) + sum_to (length w.receiver.lanes) (λ k. sum_by F (sending w.sender k).kept)
      ≡ sum_by (λ b. F (sent_header w.sender.manifest b)) (blocks_of w.sender)
  kept_sum F =
      let G : Block → ℕ = λ b. F (sent_header w.sender.manifest b) in
      omega (
        arith,
        plan_sum G w.sender (places w.sender s.talk.sender some),
        ap (λ (i : ℕ). sum_to i (λ k. sum_by G (past_at w.sender k).claims.kept)) (s.talk.send_lanes ∙ sym s.talk.recv_lanes),
        sum_same (length w.receiver.lanes) (λ k. sum_by G (past_at w.sender k).claims.kept) (λ k. sum_by F (sending w.sender k).kept)
            (λ k small. sum_map F (sent_header w.sender.manifest) (past_at w.sender k).claims.kept),
      )

  in_pairs : (k : ℕ) → k < length w.receiver.lanes → k < length w.pairs
  in_pairs k small = subst (λ (i : ℕ). k < i) s.talk.recv_lanes small

  lane_below : (F : Header → ℕ) (k : ℕ) → k < length w.receiver.lanes → sum_by F (heads_of (receiving w.receiver k)) ≤ sum_by F (sending w.sender k).kept
  lane_below F k small =
      let x = front_of _ (pair_at w k).taken (sending w.sender k).kept (receiving w.receiver k).landed (receiving w.receiver k).begun _ _ (s.talk.lanes k (in_pairs k small)).lists in
      omega (arith, ap (sum_by F) x.1, sum_by-append F (heads_of (receiving w.receiver k)) x.0)

  -- ---- lengths

  pub known_length : (c : Block) → (known_header w.receiver.known c).length ≡ length_of c
  known_length c = go (known_at w.receiver.known c.file) where
    go : (o : Option KnownFile) → (header_from o c).length ≡ c.length
    go None = refl
    go (Some file) = refl

  pub sent_length : (b : Block) → (sent_header w.sender.manifest b).length ≡ length_of b
  sent_length b = go (slice_get w.sender.manifest b.file) where
    go : (o : Option Entry) → (header_by o b).length ≡ b.length
    go None = refl
    go (Some entry) = refl

  -- ---- the plan

  module _ (f : Finishing w) (view : is_view w.receiver.opening ≡ true) (orders : AreOrdered) (have : List HaveFile) (known : w.sender.have ≡ Some have) where
    pub accepted : IsAccepted w.sender.manifest w.sender.block have
    accepted = subst (λ (o : Option (List HaveFile)). IfSome o (IsAccepted w.sender.manifest w.sender.block)) known s.talk.sender.plan.accepted

    pub plan_is : blocks_of w.sender ≡ rest_of w.sender.manifest have w.sender.block
    plan_is = ap listed_blocks (s.talk.sender.plan.planned ∙ ap (plan_of w.sender.manifest w.sender.block) known)

    pub have_is : have ≡ have_of w.receiver.opening
    have_is = f.list have known ∙ had w.receiver.opening w.receiver.history

    pub fits_tree : FitsTree w.sender.manifest (have_of w.receiver.opening)
    fits_tree =
        opening_fits w.sender.manifest w.receiver.opening view (ap is_in_order (sym have_is) ∙ orders have accepted.ordered)
        (ap (first_unfit w.sender.manifest) (sym have_is) ∙ unrefused w.sender.manifest have w.sender.block accepted.sent)

    pub tree : AreTogether w.sender.manifest have (rest_of w.sender.manifest have w.sender.block)
    tree = together w.sender.manifest have w.sender.block some s.fits.sender.manifest.rising (subst (FitsTree w.sender.manifest) (sym have_is) fits_tree)

  -- ---- with the block that lane l has read

  module _ (l : ℕ) (h : Header) (within : l < length w.pairs) (next : (more : List Header) × ((sending w.sender l).kept ≡ heads_of (receiving w.receiver l) ++ h ∷ more)) where
    lane : l < length w.receiver.lanes
    lane = subst (λ (i : ℕ). l < i) (sym s.talk.recv_lanes) within

    own_below : (F : Header → ℕ) → sum_by F (heads_of (receiving w.receiver l)) + F h ≤ sum_by F (sending w.sender l).kept
    own_below F = omega (arith, ap (sum_by F) next.1, sum_by-append F (heads_of (receiving w.receiver l)) (h ∷ next.0), sum_by-cons F h next.0)

    pub under : (F : Header → ℕ) → sum_by (λ c. F (known_header w.receiver.known c)) (landed_of w.receiver.history) + sum_by (λ c. F (known_header w.receiver.known c)) (recv.begun_blocks w.receiver) + F h
        ≤ sum_by (λ b. F (sent_header w.sender.manifest b)) (blocks_of w.sender)
    under F =
        omega (
          arith,
          all_heads F,
          kept_sum F,
          sum_more (length w.receiver.lanes) l (λ k. sum_by F (sending w.sender k).kept) (λ k. sum_by F (heads_of (receiving w.receiver k))) (F h) lane (λ k small. lane_below F k small) (own_below F),
        )

    -- ---- how many blocks

    module _ (f : Finishing w) (view : is_view w.receiver.opening ≡ true) (orders : AreOrdered) (have : List HaveFile) (known : w.sender.have ≡ Some have) where
      pub few_landed : nat_le MAX_BLOCKS (length (recv.past_at w.receiver l).landed) ≡ false
      few_landed =
          lt-leb MAX_BLOCKS (length (recv.past_at w.receiver l).landed)
          (omega (
            arith,
            few_blocks w.sender.manifest have w.sender.block (accepted f view orders have known).sent,
            ap length (plan_is f view orders have known),
            ones (blocks_of w.sender),
            kept_sum (λ (x : Header). 1),
            term_below (length w.receiver.lanes) l (λ k. sum_by (λ (x : Header). 1) (sending w.sender k).kept) lane,
            own_below (λ (x : Header). 1),
            heads_sum (λ (x : Header). 1) l,
            ones (recv.past_at w.receiver l).landed,
          ))

      -- ---- and bytes

      few_bytes : bytes_with (recv.marks_at w.receiver) (block_of w.receiver.known h ∷ recv.begun_blocks w.receiver) ≤ MAX_TOTAL
      few_bytes =
          omega (
            arith,
            marks_bytes w.receiver.opening (landed_of w.receiver.history),
            opening_bytes w.receiver.opening,
            ap covered (have_is f view orders have known),
            under (λ (x : Header). x.length),
            sum_ext (λ c. (known_header w.receiver.known c).length) length_of (landed_of w.receiver.history) known_length,
            sum_ext (λ c. (known_header w.receiver.known c).length) length_of (recv.begun_blocks w.receiver) known_length,
            sum_ext (λ b. (sent_header w.sender.manifest b).length) length_of (blocks_of w.sender) sent_length,
            ap (sum_by length_of) (plan_is f view orders have known),
            (tree f view orders have known).bytes,
            s.fits.sender.manifest.total,
            sum_by-cons length_of (block_of w.receiver.known h) (recv.begun_blocks w.receiver),
          )

      pub bytes_in_limit : over MAX_TOTAL (bytes_with (recv.marks_at w.receiver) (block_of w.receiver.known h ∷ recv.begun_blocks w.receiver)) ≡ None
      bytes_in_limit = over_none MAX_TOTAL (bytes_with (recv.marks_at w.receiver) (block_of w.receiver.known h ∷ recv.begun_blocks w.receiver)) few_bytes

  -- ---- where all has landed

  module _ (none : waiting_blocks w.sender ≡ []) (all : (k : ℕ) → k < length w.receiver.lanes → (sending w.sender k).kept ≡ (receiving w.receiver k).landed) where
    pub landed_all : (F : Header → ℕ) → sum_by (λ c. F (known_header w.receiver.known c)) (landed_of w.receiver.history) ≡ sum_by (λ b. F (sent_header w.sender.manifest b)) (blocks_of w.sender)
    landed_all F =
        let G : Block → ℕ = λ c. F (known_header w.receiver.known c) in
        let H : Block → ℕ = λ b. F (sent_header w.sender.manifest b) in
        omega (
          arith,
          landed_sum G (terms_of w.receiver) w.receiver.history s.talk.receiver.legal,
          kept_sum F,
          ap (sum_by H) none,
          sum_same (length w.receiver.lanes) (λ k. sum_by F (sending w.sender k).kept) (λ k. sum_by G (recv.past_at w.receiver k).landed)
              (λ k small. sym (sum_map F (known_header w.receiver.known) (recv.past_at w.receiver k).landed) ∙ ap (sum_by F) (sym (all k small))),
        )

    pub landed_bytes : (f : Finishing w) → is_view w.receiver.opening ≡ true → AreOrdered → (have : List HaveFile) → w.sender.have ≡ Some have → bytes_in (recv.marks_at w.receiver) ≡ sum_by size_of w.sender.manifest
    landed_bytes f view orders have known =
        omega (
          arith,
          marks_bytes w.receiver.opening (landed_of w.receiver.history),
          opening_bytes w.receiver.opening,
          ap covered (have_is f view orders have known),
          landed_all (λ (x : Header). x.length),
          sum_ext (λ c. (known_header w.receiver.known c).length) length_of (landed_of w.receiver.history) known_length,
          sum_ext (λ b. (sent_header w.sender.manifest b).length) length_of (blocks_of w.sender) sent_length,
          ap (sum_by length_of) (plan_is f view orders have known),
          (tree f view orders have known).bytes,
        )
