-- A finish that is ready is never short: what is there is the tree, in files and in bytes.
use Rattle.std.proofs.Common.{◌≡◌, ◌⊎◌, inl, inr, ℕ, ◌+◌, ◌<◌, ◌≤◌, ◌==◌, ◌&&◌, ◌||◌, Bool, true, false, cond, if◌then◌else◌, List, [], ◌∷◌, ◌++◌, length, count_by, sum_by, slice_get, Option, Some, None, is_some, subst, sym, ap, ◌∙◌, refl, arith, append-nil, eq-eqb, eqb-true}
use Rattle.std.specs.List.{list_any}
use Rattle.std.specs.Str.{bytes_eq}
use Rattle.std.proofs.lemmas.Bool.{both_ways, or_cases}
use Rattle.std.proofs.lemmas.List.{length-set}
use Rattle.std.proofs.lemmas.Slice.Eq.{bytes_eq-Decides}
use Rattle.wdt_units.specs.Have.{HaveFile, is_named}
use Rattle.wdt_units.specs.declared.blocks.Block.{Block}
use Rattle.wdt_units.specs.declared.blocks.Header.{Header}
use Rattle.wdt_codec.specs.declared.frames.Frame.TheVariants as frames
use Rattle.wdt_logfmt.specs.Beginning.{KnownFile, known_at}
use Rattle.wdt_logfmt.specs.Marks.{Marked, bytes_in, files_in, is_marked, marks_of}
use Rattle.wdt_logfmt.specs.View.{NamedFile, have_of, is_view}
use Rattle.wdt_rest.specs.Fitting.{first_unfit}
use Rattle.wdt_rest.specs.RestOf.{rest_of}
use Rattle.wdt_rest.specs.Together.{is_of}
use Rattle.wdt_tree.specs.Listing.{size_of}
use Rattle.wdt_tree.specs.declared.entry.Entry.{Entry}
use Rattle.wdt_sender_fsm.specs.PlainSender.{blocks_of, header_by, waiting_blocks}
use Rattle.wdt_sender_fsm.specs.declared.peers.PeerKind.{PeerKind}
use Rattle.wdt_sender_fsm.specs.Rules.{is_failure}
use Rattle.wdt_receiver_fsm.specs.declared.events.RecvEvent.{RecvEvent}
use Rattle.wdt_receiver_fsm.specs.declared.events.RecvEvent.TheVariants as events
use Rattle.wdt_receiver_fsm.specs.declared.inputs.RecvIn.TheVariants as inputs
use Rattle.wdt_receiver_fsm.specs.declared.states.RecvState.TheVariants as states
use Rattle.wdt_receiver_fsm.specs.Causes.{FallsShort}
use Rattle.wdt_receiver_fsm.specs.Frames.{short_fault}
use Rattle.wdt_receiver_fsm.specs.Logging.{all_logged, all_logged_by}
use Rattle.wdt_receiver_fsm.specs.Outcomes.{ByDone, ByWait, ByWaking, Idles}
use Rattle.wdt_receiver_fsm.specs.PlainReceiver as recv
use Rattle.wdt_receiver_fsm.specs.PlainReceiver.{PlainReceiver}
use Rattle.wdt_receiver_fsm.specs.Ready.{is_ready}
use Rattle.wdt_receiver_fsm.specs.ReceiverHistory.{EndPast, end_of, end_of-append, landed_of}
use Rattle.wdt_receiver_fsm.specs.Turn.{Given, Put}
use Rattle.wdt_receiver_fsm.proofs.ForCallers.{landed_named, landed_same}
use Rattle.wdt_pact.specs.Conversation.{header_from, known_header, receiving, sending, sent_header}
use Rattle.wdt_pact.specs.Finishing.{Finishing}
use Rattle.wdt_pact.specs.Fitting.{IsSound}
use Rattle.wdt_pact.specs.Lists.{Splits}
use Rattle.wdt_pact.specs.Meeting.{Meeting, totals_of}
use Rattle.wdt_pact.specs.World.{PlainWorld, number, pair_at}
use Rattle.wdt_pact.proofs.Confirming.{SoundLanes}
use Rattle.wdt_pact.proofs.FileCounts.{slot_is, sum_at, sum_some}
use Rattle.wdt_pact.proofs.FilesIn.{all_marked, marked_known, marked_one, named_one}
use Rattle.wdt_pact.proofs.Finishing.{all_landed, no_wait}
use Rattle.wdt_pact.proofs.RecvHands.{Hands, holds_input}
use Rattle.wdt_pact.proofs.RecvRows.{recv_fares}
use Rattle.wdt_pact.proofs.Within.{AreOrdered, ArePlaced, accepted, have_is, landed_all, landed_bytes, plan_is, tree}

same_lists : (kept landed : List Header) → Splits kept landed [] → kept ≡ landed
unfolding Splits
same_lists kept landed e = e ∙ append-nil landed

-- a logged receiver has the same marks
logged_marks : (t : PlainReceiver) (bs : List Block) → recv.marks_at (all_logged_by t bs) ≡ recv.marks_at t
logged_marks t [] = refl
logged_marks t (b ∷ bs) = refl

any_of : (p q : Block → Bool) (xs : List Block) → ((b : Block) → p b ≡ true → q b ≡ true) → list_any p xs ≡ true → list_any q xs ≡ true
any_of p q [] each e = cc
any_of p q (x ∷ xs) each e = elim (or_cases (p x) (list_any p xs) e) [
  | inl here ↦ ap (λ (b : Bool). b || list_any q xs) (each x here)
  | inr there ↦ or_more (q x) (list_any q xs) (any_of p q xs each there)
] where
  or_more : (a b : Bool) → b ≡ true → (a || b) ≡ true
  or_more true b e = refl
  or_more false b e = e

-- nothing is missing where the totals are those of the tree
none_short : (sized : Option (ℕ × ℕ)) (manifest : List Entry) (files bytes : ℕ) → ((x : ℕ × ℕ) → sized ≡ Some x → x ≡ totals_of manifest) → files ≡ length manifest → bytes ≡ sum_by size_of manifest → short_fault sized files bytes ≡ None
none_short None manifest files bytes same few many = refl
none_short (Some x) manifest files bytes same few many =
    let e = same x refl in
    let a : x.0 ≡ files = ap (λ (y : ℕ × ℕ). y.0) e ∙ sym few in
    let b : x.1 ≡ bytes = ap (λ (y : ℕ × ℕ). y.1) e ∙ sym many in
    rw (eq-eqb x.0 files a, eq-eqb x.1 bytes b) refl

module _ (sounds : SoundLanes) (places : ArePlaced) (orders : AreOrdered) (w : PlainWorld) (l : ℕ) (s : IsSound w) (f : Finishing w) (m : Meeting w) (view : is_view w.receiver.opening ≡ true) (within : l < length w.pairs)
    (fresh : first_unfit w.sender.manifest (recv.have_now w.receiver.opening w.receiver.history) ≡ None) (have : List HaveFile) (known : w.sender.have ≡ Some have) where
  -- ---- all has landed

  module _ (none : waiting_blocks w.sender ≡ []) (all : (k : ℕ) → k < length w.receiver.lanes → (sending w.sender k).kept ≡ (receiving w.receiver k).landed) where
    landed_one : (k : ℕ) (e : Entry) → slice_get w.sender.manifest k ≡ Some e → list_any (is_of k) (rest_of w.sender.manifest have w.sender.block) ≡ true
        → 1 ≤ count_by (λ (x : Marked). slot_is (known_at w.receiver.known x.number) e) (recv.marks_at w.receiver)
    landed_one k e at block =
        let F : Header → ℕ = λ h. cond {A = ℕ} (bytes_eq h.path e.path) 1 0 in
        let some : list_any (λ (b : Block). bytes_eq (sent_header w.sender.manifest b).path e.path) (blocks_of w.sender) ≡ true =
        any_of (is_of k) (λ (b : Block). bytes_eq (sent_header w.sender.manifest b).path e.path) (blocks_of w.sender) (λ b is. of_entry b (eqb-true b.file k is))
        (ap (list_any (is_of k)) (plan_is places w s f view orders have known) ∙ block) in
        let sum = sum_at (λ (b : Block). bytes_eq (sent_header w.sender.manifest b).path e.path) (blocks_of w.sender) some in
        let same = landed_all places w s none all (λ (h : Header). cond {A = ℕ} (bytes_eq h.path e.path) 1 0) in
        let c = sum_some (λ (b : Block). bytes_eq (known_header w.receiver.known b).path e.path) (landed_of w.receiver.history) (omega (arith, sum, same)) in
        of_landed c.1 (landed_named w.receiver.opening (landed_of w.receiver.history) c.0 c.1 c.2) c.3 where
          of_entry : (b : Block) → b.file ≡ k → bytes_eq (sent_header w.sender.manifest b).path e.path ≡ true
          of_entry b is = ap (λ (o : Option Entry). bytes_eq (header_by o b).path e.path) (ap (slice_get w.sender.manifest) is ∙ at) ∙ (bytes_eq-Decides e.path e.path).1 refl

          of_landed : (c : Block) → is_marked (recv.marks_at w.receiver) c.file ≡ true → bytes_eq (known_header w.receiver.known c).path e.path ≡ true
              → 1 ≤ count_by (λ (x : Marked). slot_is (known_at w.receiver.known x.number) e) (recv.marks_at w.receiver)
          of_landed c marked path = go (known_at w.receiver.known c.file) refl (marked_known w s m view fresh c.file marked) where
            go : (o : Option KnownFile) → known_at w.receiver.known c.file ≡ o → is_some o ≡ true → 1 ≤ count_by (λ (x : Marked). slot_is (known_at w.receiver.known x.number) e) (recv.marks_at w.receiver)
            go None is x = cc
            go (Some file) is x =
                marked_one w s m view fresh e c.file file marked is
                ((bytes_eq-Decides file.path e.path).0 (sym (ap (λ (o : Option KnownFile). bytes_eq (header_from o c).path e.path) is) ∙ path))

    landed_files : files_in (recv.marks_at w.receiver) ≡ length w.sender.manifest
    landed_files =
        all_marked w s m view fresh (λ k e at. elim (or_cases (is_named have e.path) (list_any (is_of k) (rest_of w.sender.manifest have w.sender.block)) ((tree places w s f view orders have known).each k e at)) [
          | inl named ↦ named_one w s m view fresh e (ap (λ (files : List HaveFile). is_named files e.path) (sym (have_is places w s f view orders have known)) ∙ named)
          | inr block ↦ landed_one k e at block
        ])

    pub never_short : (sized : Option (ℕ × ℕ)) → ((x : ℕ × ℕ) → sized ≡ Some x → x ≡ totals_of w.sender.manifest) → short_fault sized (files_in (recv.marks_at w.receiver)) (bytes_in (recv.marks_at w.receiver)) ≡ None
    never_short sized same =
        none_short sized w.sender.manifest (files_in (recv.marks_at w.receiver)) (bytes_in (recv.marks_at w.receiver)) same landed_files (landed_bytes places w s none all f view orders have known)

  -- ---- the finish

  module _ (put : Put) (hands : Hands (pair_at w l).recv put) where
    -- it is ready only where the sender's last word is read
    first_not : (t : PlainReceiver) → t.history ≡ w.receiver.history → length t.lanes ≡ length w.receiver.lanes → is_failure w.receiver.answer ≡ false → recv.has_finish t ≡ false → recv.can_finish t ≡ true → ⊥
    first_not t history lanes sound first ready =
        both_ways (recv.has_finish w.receiver) (ap (λ (g : List RecvEvent). (end_of g).has_finish) (sym history) ∙ first)
        (f.ready sound (sym (ap (λ (n : ℕ). is_ready n t.history) lanes ∙ ap (is_ready (length w.receiver.lanes)) history) ∙ ready))

    -- the sum of a lane that reads the last word
    at_word : (kind : PeerKind) → recv.state_at w.receiver l ≡ states.ReadNextCmd → (recv.lane_at w.receiver l).is_sized ≡ true → put ≡ Given (inputs.Got frames.Done) → is_failure w.receiver.answer ≡ false
        → (t : PlainReceiver) → t.opening ≡ w.receiver.opening → t.history ≡ w.receiver.history ++ events.Idle (number l) ∷ [] → length t.lanes ≡ length w.receiver.lanes → recv.can_finish t ≡ true
        → short_fault (end_of t.history).sized (files_in (recv.marks_at (all_logged t))) (bytes_in (recv.marks_at (all_logged t))) ≡ Some kind → ⊥
    at_word kind here sized given sound t opening history lanes ready short =
        let word = holds_input (pair_at w l).recv put (inputs.Got frames.Done) hands given refl in
        let is : is_ready (length w.receiver.lanes) (w.receiver.history ++ events.Idle (number l) ∷ []) ≡ true = sym (ap (λ (n : ℕ). is_ready n t.history) lanes ∙ ap (is_ready (length w.receiver.lanes)) history) ∙ ready in
        let none = no_wait sounds w l s.talk f within here sized word sound is in
        let marks : recv.marks_at (all_logged t) ≡ recv.marks_at w.receiver =
        logged_marks t t.unlogged ∙ (ap (λ (o : List NamedFile). marks_of o (landed_of t.history)) opening
        ∙ ap (marks_of w.receiver.opening) (ap landed_of history ∙ landed_same w.receiver.history (events.Idle (number l)) refl)) in
        let totals : (end_of t.history).sized ≡ (end_of w.receiver.history).sized = ap (λ (g : List RecvEvent). (end_of g).sized) history ∙ ap (λ (n : EndPast). n.sized) (end_of-append w.receiver.history (events.Idle (number l) ∷ [])) in
        let right = never_short none (λ k small. same_lists (sending w.sender k).kept (receiving w.receiver k).landed (all_landed sounds w l s.talk f within here sized word sound is k (subst (λ (n : ℕ). k < n) s.talk.recv_lanes small)).0)
        (end_of w.receiver.history).sized m.sized in
        no_some kind
        (sym (ap (λ (ms : List Marked). short_fault (end_of t.history).sized (files_in ms) (bytes_in ms)) marks ∙ ap (λ (o : Option (ℕ × ℕ)). short_fault o (files_in (recv.marks_at w.receiver)) (bytes_in (recv.marks_at w.receiver))) totals ∙ right)
        ∙ short) where
          no_some : (x : PeerKind) → None ≡ Some x → ⊥
          no_some x e = cc

    pub falls_not : (kind : PeerKind) → FallsShort w.receiver (number l) put kind → ⊥
    falls_not kind x = go x.finishes.idles where
      go : Idles w.receiver (number l) put x.idle → ⊥
      go (ByWait serves given is) = first_not x.idle (ap (λ (t : PlainReceiver). t.history) is) (ap (λ (t : PlainReceiver). length t.lanes) is ∙ length-set w.receiver.lanes l record (recv.lane_at w.receiver l) { has_waited = true }) serves.sound x.finishes.first x.finishes.ready
      go (ByWaking serves given is) = first_not x.idle (ap (λ (t : PlainReceiver). t.history) is) (ap (λ (t : PlainReceiver). length t.lanes) is) serves.sound x.finishes.first x.finishes.ready
      go (ByDone serves sized given is) =
          at_word kind serves.here sized given serves.sound x.idle (ap (λ (t : PlainReceiver). t.opening) is) (ap (λ (t : PlainReceiver). t.history) is)
          (ap (λ (t : PlainReceiver). length t.lanes) is ∙ length-set w.receiver.lanes l record (recv.lane_at w.receiver l) { has_waited = false }) x.finishes.ready x.short
