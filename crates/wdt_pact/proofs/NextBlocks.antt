-- The block that a lane of the receiver has read is new: it clashes with none that landed or is begun, and the destination had nothing of it.
use Rattle.std.proofs.Common.{◌≡◌, ◌≢◌, ℕ, ◌<◌, ◌≤◌, ◌||◌, Bool, true, false, List, [], ◌∷◌, ◌++◌, length, map, Option, Some, None, IfSome, is_some, option_map, subst, sym, ap, ◌∙◌, refl, append-nil, append_assoc}
use Rattle.std.specs.List.{flat_map, list_any}
use Rattle.wdt_units.specs.Have.{HaveFile}
use Rattle.wdt_units.specs.declared.blocks.Block.{Block}
use Rattle.wdt_units.specs.declared.blocks.Header.{Header}
use Rattle.wdt_claims.specs.Blocks.{count_of, is_same}
use Rattle.wdt_claims.specs.Places.{is_among}
use Rattle.wdt_codec.specs.declared.frames.Frame.TheVariants as frames
use Rattle.wdt_tree.specs.Rest.{IsRest, holds, is_empty_of}
use Rattle.wdt_sender_fsm.specs.Phases.{Message, Phase, Framed}
use Rattle.wdt_sender_fsm.specs.PlainSender.{PlainSender, blocks_of, listed_blocks, past_at, state_at}
use Rattle.wdt_sender_fsm.specs.Sender.{IsSender, plan_of}
use Rattle.wdt_receiver_fsm.specs.declared.inputs.RecvIn.TheVariants.{Got}
use Rattle.wdt_receiver_fsm.specs.declared.states.RecvLane.{RecvLane}
use Rattle.wdt_receiver_fsm.specs.declared.states.RecvState.{RecvState}
use Rattle.wdt_receiver_fsm.specs.declared.states.RecvState.TheVariants as states
use Rattle.wdt_receiver_fsm.specs.Phases as recv_phases
use Rattle.wdt_receiver_fsm.specs.PlainReceiver as recv
use Rattle.wdt_receiver_fsm.specs.Sets.{numbers}
use Rattle.wdt_pact.specs.Clashes.{IsMissing, clash, heads_of}
use Rattle.wdt_pact.specs.Conversation.{ConversesAt, HeardDown, IsWord, common, is_recv_out, known_header, receiving, sending, sends, sent_header}
use Rattle.wdt_pact.specs.Finishing.{Finishing}
use Rattle.wdt_pact.specs.Fitting.{IsSound}
use Rattle.wdt_pact.specs.Links.{Link}
use Rattle.wdt_pact.specs.Lists.{ListsBy, Splits, UnsentBy, begun_heads, blocks_in, flying, in_hand}
use Rattle.wdt_pact.specs.Pairs.{RecvHold, RecvHas}
use Rattle.wdt_pact.specs.Stances.{AgreeOn, Stance, Talks, Aborts, Silent, recv_stance, send_there, stand}
use Rattle.wdt_pact.specs.World.{PlainWorld, pair_at}
use Rattle.wdt_pact.proofs.Apart.{next_free}
use Rattle.wdt_pact.proofs.Clashes.{among_more, lanes_apart, planned_missing, same_self}
use Rattle.wdt_pact.proofs.RecvRows.{recv_fares}

-- ---- a lane's lists

-- what landed and what is begun are the first blocks that the lane claimed
pub front_of : (rs : Stance) (taken : Option Link) (kept landed : List Header) (begun : Option Header) (hand : List Message) (IsRest : List Header → Type 0) → ListsBy rs taken kept landed begun hand IsRest
    → (more : List Header) × (kept ≡ (landed ++ begun_heads begun) ++ more)
unfolding Splits
front_of (Talks q) (Some k) kept landed begun hand IsRest x =
    let bs : List Header = blocks_in (hand ++ k.down.sent) in (
      bs ++ x.rest,
      x.same ∙ (ap (λ (hs : List Header). landed ++ hs) (append_assoc (begun_heads begun) bs x.rest) ∙ sym (append_assoc landed (begun_heads begun) (bs ++ x.rest))),
    )
front_of Aborts (Some k) kept landed begun hand IsRest x = (x.rest, x.same ∙ sym (append_assoc landed (begun_heads begun) x.rest))
front_of Silent (Some k) kept landed begun hand IsRest x = (x.rest, x.same ∙ sym (append_assoc landed (begun_heads begun) x.rest))
front_of rs None kept landed begun hand IsRest x = (
  x.0.0,
  x.0.1 ∙ (ap (λ (hs : List Header). hs ++ x.0.0) (sym (append-nil landed)) ∙ ap (λ (o : Option Header). (landed ++ begun_heads o) ++ x.0.0) (sym x.1)),
)

-- the block that is read follows them
next_of : (q : Phase) (s : Stance) (taken : Option Link) (kept landed : List Header) (h : Header) (IsRest : List Header → Type 0) → AgreeOn s (Talks q) taken
    → ListsBy (Talks q) taken kept landed None (Framed (frames.Block h) ∷ []) IsRest → (more : List Header) × (kept ≡ (landed ++ []) ++ h ∷ more)
unfolding Splits
next_of q s (Some k) kept landed h IsRest agree x =
    (blocks_in k.down.sent ++ x.rest, x.same ∙ ap (λ (hs : List Header). hs ++ h ∷ (blocks_in k.down.sent ++ x.rest)) (sym (append-nil landed)))
next_of q s None kept landed h IsRest agree x = let e : Talks q ≡ Silent = agree.1 in cc

-- as the lane holds it
next_held : (lane : RecvLane) (idle acked : Bool) (held : RecvHold) (s : Stance) (taken : Option Link) (kept landed : List Header) (begun : Option Header) (h : Header) (IsRest : List Header → Type 0) (q : Phase)
    → held ≡ RecvHas (Got (frames.Block h)) → recv_stance lane idle acked (RecvHas (Got (frames.Block h))) ≡ Talks q → begun ≡ None → AgreeOn s (recv_stance lane idle acked held) taken
    → ListsBy (recv_stance lane idle acked held) taken kept landed begun (in_hand held) IsRest → (more : List Header) × (kept ≡ (landed ++ []) ++ h ∷ more)
next_held lane idle acked held s taken kept landed begun h IsRest q is talks none agree lists =
    let stance : recv_stance lane idle acked held ≡ Talks q = ap (recv_stance lane idle acked) is ∙ talks in
    next_of q s taken kept landed h IsRest (subst (λ (x : Stance). AgreeOn s x taken) stance agree)
    (subst (λ (x : Stance). ListsBy x taken kept landed None (Framed (frames.Block h) ∷ []) IsRest) stance
    (subst (λ (o : Option Header). ListsBy (recv_stance lane idle acked held) taken kept landed o (Framed (frames.Block h) ∷ []) IsRest) none
    (subst (λ (ms : List Message). ListsBy (recv_stance lane idle acked held) taken kept landed begun ms IsRest) (ap in_hand is) lists)))

word : (o : Option Phase) (free : Bool) → IsWord o free → free ≡ false → (q : Phase) × (stand false o ≡ Talks q)
word (Some q) free w e = (q, refl)
word None true w e = cc
word None false w e = absurd w

-- a header among those of blocks
mapped : (f : Block → Header) (ks : List Block) (xs : List Header) (h : Header) (ys : List Header) → map f ks ≡ xs ++ h ∷ ys → (b : Block) × (is_among ks b ≡ true) × (f b ≡ h)
mapped f [] [] h ys e = cc
mapped f [] (x ∷ xs) h ys e = cc
mapped f (k ∷ ks) [] h ys e = let head : f k ≡ h = cc in (k, ap (λ (y : Bool). y || is_among ks k) (same_self k), head)
mapped f (k ∷ ks) (x ∷ xs) h ys e =
    let tail : map f ks ≡ xs ++ h ∷ ys = cc in
    let found = mapped f ks xs h ys tail in
    (found.0, among_more found.0 k ks found.1, found.2)

-- ---- what the sender's own crate promises of its blocks

abbrev pub Positions : Type 0
Positions = (s : PlainSender) (b c : Block) (file position : ℕ) → IsSender s → 1 ≤ s.block → is_among (blocks_of s) b ≡ true → is_among (blocks_of s) c ≡ true → is_same b c ≡ false → holds file position b ≡ true
    → holds file position c ≡ false

abbrev pub ArePlanned : Type 0
ArePlanned = (s : PlainSender) (b : Block) (l : ℕ) → IsSender s → 1 ≤ s.block → l < length s.lanes → is_among (past_at s l).claims.kept b ≡ true → is_among (blocks_of s) b ≡ true

abbrev pub AreOnce : Type 0
AreOnce = (s : PlainSender) (b : Block) (l : ℕ) → IsSender s → 1 ≤ s.block → l < length s.lanes → count_of b (past_at s l).claims.kept ≤ 1

abbrev pub AreByOne : Type 0
AreByOne = (s : PlainSender) (b : Block) (k l : ℕ) → IsSender s → 1 ≤ s.block → k < length s.lanes → l < length s.lanes → k ≢ l → is_among (past_at s k).claims.kept b ≡ true → is_among (past_at s l).claims.kept b ≡ false

abbrev pub Empties : Type 0
Empties = (s : PlainSender) (b c : Block) (file : ℕ) → IsSender s → 1 ≤ s.block → is_among (blocks_of s) b ≡ true → is_among (blocks_of s) c ≡ true → is_same b c ≡ false → is_empty_of file b ≡ true → is_empty_of file c ≡ false

abbrev pub IsTheRest : Type 0
IsTheRest = (s : PlainSender) → IsSender s → 1 ≤ s.block → IfSome s.have (λ have. IsRest s.manifest have s.block (blocks_of s))

module _ (positions : Positions) (planned : ArePlanned) (once : AreOnce) (by_one : AreByOne) (empties : Empties) (rests : IsTheRest) (w : PlainWorld) (s : IsSound w) where
  some : 1 ≤ w.sender.block
  some = s.fits.sender.block.0

  below : (l : ℕ) → l < length w.pairs → l < length w.sender.lanes
  below l within = subst (λ (n : ℕ). l < n) (sym s.talk.send_lanes) within

  -- a sender of which some block is planned has a plan
  pub record Planned : Type 0 where
    pub have : List HaveFile
    pub known : w.sender.have ≡ Some have
    pub rest : IsRest w.sender.manifest have w.sender.block (blocks_of w.sender)

  plan : (b : Block) → is_among (blocks_of w.sender) b ≡ true → Planned
  plan b among = go w.sender.have refl (rests w.sender s.talk.sender some) where
    go : (o : Option (List HaveFile)) → w.sender.have ≡ o → IfSome o (λ have. IsRest w.sender.manifest have w.sender.block (blocks_of w.sender)) → Planned
    go None is x =
        let none : blocks_of w.sender ≡ [] = ap listed_blocks (s.talk.sender.plan.planned ∙ ap (plan_of w.sender.manifest w.sender.block) is) in
        let e : is_among [] b ≡ true = ap (λ (bs : List Block). is_among bs b) (sym none) ∙ among in
        cc
    go (Some have) is x = record { have = have; known = is; rest = x }

  -- ---- the header that lane l has read

  module _ (l : ℕ) (h : Header) (within : l < length w.pairs) (here : recv.state_at w.receiver l ≡ states.ReadNextCmd) (holds_it : (pair_at w l).recv ≡ RecvHas (Got (frames.Block h))) where
    at : ConversesAt w l
    at = s.talk.lanes l within

    none_begun : (receiving w.receiver l).begun ≡ None
    none_begun = ap (λ (o : Option Block). option_map (known_header w.receiver.known) o) (recv_fares w l states.ReadNextCmd s.talk within here).1

    talks : (q : Phase) × (recv_stance (recv.lane_at w.receiver l) (recv.past_at w.receiver l).is_idle (recv.past_at w.receiver l).is_acked (RecvHas (Got (frames.Block h))) ≡ Talks q)
    talks =
        word (recv_phases.phase_heard (Framed (frames.Block h)) (recv_phases.phase_by (recv.lane_at w.receiver l) (recv.past_at w.receiver l).is_idle false (recv.state_at w.receiver l)))
        (is_recv_out (recv.state_at w.receiver l) || false)
        (subst (λ (x : RecvHold). HeardDown x (recv.lane_at w.receiver l) (recv.past_at w.receiver l).is_idle) holds_it at.heard_down)
        (ap (λ (st : RecvState). is_recv_out st || false) here)

    next : (more : List Header) × ((sending w.sender l).kept ≡ ((receiving w.receiver l).landed ++ []) ++ h ∷ more)
    next =
        next_held (recv.lane_at w.receiver l) (recv.past_at w.receiver l).is_idle (recv.past_at w.receiver l).is_acked (pair_at w l).recv (send_there (pair_at w l).newest (sends (sending w.sender l) (pair_at w l))) (pair_at w l).taken
        (sending w.sender l).kept (receiving w.receiver l).landed (receiving w.receiver l).begun h (UnsentBy (pair_at w l).newest (state_at w.sender l) (pair_at w l).send) talks.0 holds_it talks.1 none_begun at.agrees.on_taken at.lists

    next_is : (sending w.sender l).kept ≡ heads_of (receiving w.receiver l) ++ h ∷ next.0
    next_is = next.1 ∙ ap (λ (o : Option Header). ((receiving w.receiver l).landed ++ begun_heads o) ++ h ∷ next.0) (sym none_begun)

    pub behind : (more : List Header) × ((sending w.sender l).kept ≡ heads_of (receiving w.receiver l) ++ h ∷ more)
    behind = (next.0, next_is)

    -- it is that of a block of the plan
    own : (b : Block) × (is_among (past_at w.sender l).claims.kept b ≡ true) × (sent_header w.sender.manifest b ≡ h)
    own = mapped (sent_header w.sender.manifest) (past_at w.sender l).claims.kept (heads_of (receiving w.receiver l)) h next.0 next_is

    pub has_plan : Planned
    has_plan = plan own.0 (planned w.sender own.0 l s.talk.sender some (below l within) own.1)

    pub next_missing : Finishing w → IsMissing (common w.receiver).have h
    next_missing f =
        subst (IsMissing (common w.receiver).have) own.2
        (subst (λ (have : List HaveFile). IsMissing have (sent_header w.sender.manifest own.0)) (f.list has_plan.have has_plan.known)
        (planned_missing w.sender.manifest has_plan.have w.sender.block (blocks_of w.sender) has_plan.rest s.fits.sender.manifest.rising own.0 (planned w.sender own.0 l s.talk.sender some (below l within) own.1)))

    pub next_apart : list_any (clash h) (flat_map (λ (k : ℕ). heads_of (receiving w.receiver k)) (numbers (length w.pairs))) ≡ false
    next_apart =
        next_free clash (length w.pairs) l (λ k. (sending w.sender k).kept) (λ k. heads_of (receiving w.receiver k)) h next.0
        (lanes_apart w.sender.manifest has_plan.have w.sender.block (blocks_of w.sender) has_plan.rest s.fits.sender.manifest.rising
        (λ b c file position has_b has_c. positions w.sender b c file position s.talk.sender some has_b has_c) (λ b c file has_b has_c. empties w.sender b c file s.talk.sender some has_b has_c)
        (length w.pairs) (λ k. (past_at w.sender k).claims.kept) (λ k b small. planned w.sender b k s.talk.sender some (below k small)) (λ k b small. once w.sender b k s.talk.sender some (below k small))
        (λ j k b j_in k_in. by_one w.sender b j k s.talk.sender some (below j j_in) (below k k_in)))
        within (λ k small. front_of _ (pair_at w k).taken (sending w.sender k).kept (receiving w.receiver k).landed (receiving w.receiver k).begun _ _ (s.talk.lanes k small).lists) next_is
