-- A lane that told of a closed one: what an act of either end, or an input that the sender's lane hands in, leaves of it.
use Rattle.std.proofs.Common.{◌≡◌, ◌⊎◌, inl, inr, ℕ, zero, suc, ◌||◌, ◌&&◌, not, nat_le, Bool, true, false, List, [], ◌∷◌, ◌++◌, take, Option, Some, None, option_map, subst, sym, ap, ◌∙◌, refl}
use Rattle.std.proofs.lemmas.Bool.{or_from}
use Rattle.wdt_units.specs.declared.blocks.Header.{Header}
use Rattle.wdt_codec.specs.declared.frames.Frame.{Frame}
use Rattle.wdt_sender_fsm.specs.declared.acts.SendAct.{SendAct}
use Rattle.wdt_sender_fsm.specs.declared.acts.SendAct.TheVariants as acts
use Rattle.wdt_sender_fsm.specs.declared.inputs.SendIn.{SendIn}
use Rattle.wdt_sender_fsm.specs.declared.inputs.SendIn.TheVariants as inputs
use Rattle.wdt_sender_fsm.specs.declared.states.SendLane.{SendLane}
use Rattle.wdt_sender_fsm.specs.Phases.{Message, pieces_in, pieces_of, written_by}
use Rattle.wdt_pact.specs.Links.{Link, Way, front, is_cut, new_link, note_greeted, size_up, with_sent}
use Rattle.wdt_pact.specs.Pairs.{Pair, SendHold, SendDoes, SendHas, RecvHold, noted_below, noted_newest, noted_taken, recv_stops, send_dials, send_loses, send_reads, send_reads_by, send_sends, send_takes, send_writes, top_by, waits, wrote_or_lost}
use Rattle.wdt_pact.specs.Stances.{IsTalking, Stance, Talks, Aborts, Silent, send_stance}
use Rattle.wdt_pact.specs.Lists.{has_done, in_hand}
use Rattle.wdt_pact.specs.Conversation.{send_in_hand, to_say, up_sent}
use Rattle.wdt_pact.specs.Finishing.{down_sent, marked_in}
use Rattle.wdt_pact.proofs.Below.{if_has}
use Rattle.wdt_pact.proofs.Finishing.{marked-append}
use Rattle.wdt_pact.proofs.Lists.{IsPiece, Each-take, are_pieces, has_done-append, no_done}
use Rattle.wdt_pact.proofs.Reading.{front_head}

-- the lane told of lane q, by what it holds and how the sender stands: the sender knows, or will know, or is past asking
abbrev pub TellsOn : Type 0 → ℕ → Pair → Stance → Type 0
TellsOn known q p ss =
    known
    ⊎ ((marked_in q (to_say p.recv) ≡ true)
    ⊎ ((p.newest ≡ None) × IsTalking ss × (marked_in q (send_in_hand p.send ++ up_sent p.taken) ≡ true)
    ⊎ (((p.newest ≡ None) → IsTalking ss → ⊥) × (has_done (in_hand p.recv ++ down_sent p.taken) ≡ false))))

pub some_not_none : {A : Type 0} {P : Type 0} (x : A) → Some x ≡ None → P
some_not_none x e = cc

-- ---- which of the two last

-- by how the sender stands
pub by_talk : (known : Type 0) (q : ℕ) (p : Pair) (ss : Stance)
    → ((p.newest ≡ None) → IsTalking ss → marked_in q (send_in_hand p.send ++ up_sent p.taken) ≡ true)
    → has_done (in_hand p.recv ++ down_sent p.taken) ≡ false → TellsOn known q p ss
by_talk known q p ss marks none = go p.newest refl ss refl where
  go : (o : Option Link) → p.newest ≡ o → (st : Stance) → ss ≡ st → TellsOn known q p ss
  go None top (Talks s) is = let t : IsTalking ss = subst IsTalking (sym is) tt in inr (inr (inl (top, t, marks top t)))
  go None top Aborts is = inr (inr (inr (λ n t. subst IsTalking is t, none)))
  go None top Silent is = inr (inr (inr (λ n t. subst IsTalking is t, none)))
  go (Some k) top st is = inr (inr (inr (λ n t. some_not_none k (sym top ∙ n), none)))

-- a sender that says nothing there keeps to it
pub hushed : (known : Type 0) (q : ℕ) (p o : Pair) (ss st : Stance) → ((p.newest ≡ None) → IsTalking ss → ⊥) → ((o.newest ≡ None) → IsTalking st → ⊥)
    → o.recv ≡ p.recv → o.taken ≡ p.taken → TellsOn known q p ss → TellsOn known q o st
hushed known q p o ss st before after recv taken (inl x) = inl x
hushed known q p o ss st before after recv taken (inr (inl x)) = inr (inl (ap (λ (h : RecvHold). marked_in q (to_say h)) recv ∙ x))
hushed known q p o ss st before after recv taken (inr (inr (inl x))) = absurd (before x.0 x.1)
hushed known q p o ss st before after recv taken (inr (inr (inr x))) =
    inr
    (inr (inr (after, ap (λ (h : RecvHold). has_done (in_hand h ++ down_sent o.taken)) recv ∙ (ap (λ (k : Option Link). has_done (in_hand p.recv ++ down_sent k)) taken ∙ x.1))))

-- ---- an act of the sender's lane

module _ (lane : SendLane) (acked : Bool) (known : Type 0) (q : ℕ) (rh : RecvHold) (between : List Link) (denies refusals : ℕ) where
  abbrev pub pair : SendHold → Option Link → Option Link → Pair
  pair sh taken newest = record { send = sh; recv = rh; taken = taken; between = between; newest = newest; denies = denies; refusals = refusals }

  abbrev Tells : Pair → Type 0
  Tells p = TellsOn known q p (send_stance lane acked p.send)

  -- where a newer connection waits, nothing of it changes
  newer : (sh new : SendHold) (taken : Option Link) (k j : Link) → Tells (pair sh taken (Some k)) → Tells (pair new taken (Some j))
  newer sh new taken k j t =
      hushed known q (pair sh taken (Some k)) (pair new taken (Some j)) (send_stance lane acked sh) (send_stance lane acked new) (λ n. some_not_none k n)
      (λ n. some_not_none j n) refl refl t

  -- what an act of the sender takes for granted of the connection on which it says or reads something
  pub record Grants (act : SendAct) (k : Link) : Type 0 where
    -- where it talks and has the word, no marks are on their way
    pub mute : IsTalking (send_stance lane acked (SendDoes act)) → marked_in q k.up.sent ≡ true → ⊥
    -- where it doesn't talk, it won't behind the act, and doesn't say its last word
    pub silent : (IsTalking (send_stance lane acked (SendDoes act)) → ⊥)
        → ((b : Bool) → IsTalking (send_stance lane acked (SendHas (wrote_or_lost b))) → ⊥) × ((b : Bool) → IsTalking (send_stance lane acked (SendHas (inputs.SourceLost b))) → ⊥) × (has_done (written_by act) ≡ false)

  -- messages are on their way behind an act
  says : (act : SendAct) (ms : List Message) (new : SendHold) (k : Link)
      → ((IsTalking (send_stance lane acked (SendDoes act)) → ⊥) → (IsTalking (send_stance lane acked new) → ⊥) × (has_done ms ≡ false))
      → (IsTalking (send_stance lane acked (SendDoes act)) → marked_in q k.up.sent ≡ true → ⊥)
      → Tells (pair (SendDoes act) (Some k) None) → Tells (pair new (Some record k { down = with_sent k.down ms }) None)
  says act ms new k silent mute (inl x) = inl x
  says act ms new k silent mute (inr (inl x)) = inr (inl x)
  says act ms new k silent mute (inr (inr (inl x))) = absurd (mute x.1 x.2)
  says act ms new k silent mute (inr (inr (inr x))) =
      let f = silent (x.0 refl) in
      inr (inr (inr (λ n t. f.0 t, has_done-append (in_hand rh) (k.down.sent ++ ms) ∙ lost (has_done (in_hand rh)) (has_done k.down.sent) (has_done ms) (has_done-append k.down.sent ms) (sym (has_done-append (in_hand rh) k.down.sent) ∙ x.1) f.1))) where
        lost : (a b d : Bool) → has_done (k.down.sent ++ ms) ≡ (b || d) → (a || b) ≡ false → d ≡ false → (a || has_done (k.down.sent ++ ms)) ≡ false
        lost true b d e f g = cc
        lost false b d e f g = e ∙ or_from b d f g

  pub writes_tell : (act : SendAct) (ms : List Message) (taken newest : Option Link) → ((k : Link) → taken ≡ Some k → newest ≡ None → Grants act k)
      → has_done ms ≡ has_done (written_by act)
      → Tells (pair (SendDoes act) taken newest) → Tells (send_writes (pair (SendDoes act) taken newest) ms (top_by newest taken))
  writes_tell act ms taken (Some k) grants same t =
      newer (SendDoes act) (SendHas (wrote_or_lost (not (is_cut k.down) && not (recv_stops rh)))) taken k record k { down = with_sent k.down ms } t
  writes_tell act ms None None grants same t = t
  writes_tell act ms (Some k) None grants same t =
      let g = grants k refl refl in
      let b : Bool = not (is_cut k.down) && not (recv_stops rh) in
      says act ms (SendHas (wrote_or_lost b)) k (λ n. let f = g.silent n in (f.0 b, same ∙ f.2)) g.mute t

  loses_tell : (act : SendAct) (ms : List Message) (unwritten : Bool) (taken newest : Option Link)
      → ((k : Link) → taken ≡ Some k → newest ≡ None → Grants act k) → has_done ms ≡ has_done (written_by act)
      → Tells (pair (SendDoes act) taken newest) → Tells (send_loses (pair (SendDoes act) taken newest) (top_by newest taken) ms unwritten)
  loses_tell act ms unwritten taken (Some k) grants same t =
      newer (SendDoes act) (SendHas (inputs.SourceLost unwritten)) taken k record k { down = with_sent k.down ms } t
  loses_tell act ms unwritten None None grants same t = t
  loses_tell act ms unwritten (Some k) None grants same t =
      let g = grants k refl refl in says act ms (SendHas (inputs.SourceLost unwritten)) k (λ n. let f = g.silent n in (f.1 unwritten, same ∙ f.2)) g.mute t

  -- a block has no last word
  block_done : (h : Header) (k : ℕ) → has_done (take (suc k) (written_by (acts.SendBlock h))) ≡ false
  block_done h k = no_done (take k (pieces_of h.length)) (Each-take IsPiece k (pieces_of h.length) (are_pieces h.length (pieces_in h.length)))

  pub whole_done : (h : Header) → has_done (written_by (acts.SendBlock h)) ≡ false
  whole_done h = no_done (pieces_of h.length) (are_pieces h.length (pieces_in h.length))

  pub sends_tell : (h : Header) (lost : Option ℕ) (taken newest : Option Link) → ((k : Link) → taken ≡ Some k → newest ≡ None → Grants (acts.SendBlock h) k)
      → Tells (pair (SendDoes (acts.SendBlock h)) taken newest) → Tells (send_sends (pair (SendDoes (acts.SendBlock h)) taken newest) h lost)
  sends_tell h None taken newest grants t = writes_tell (acts.SendBlock h) (written_by (acts.SendBlock h)) taken newest grants refl t
  sends_tell h (Some zero) taken newest grants t =
      if_has Tells (nat_le (pieces_in h.length) 0)
      (send_writes (pair (SendDoes (acts.SendBlock h)) taken newest) (written_by (acts.SendBlock h)) (top_by newest taken))
      (send_loses (pair (SendDoes (acts.SendBlock h)) taken newest) (top_by newest taken) [] true)
      (writes_tell (acts.SendBlock h) (written_by (acts.SendBlock h)) taken newest grants refl t)
      (loses_tell (acts.SendBlock h) [] true taken newest grants (sym (whole_done h)) t)
  sends_tell h (Some (suc k)) taken newest grants t =
      if_has Tells (nat_le (pieces_in h.length) (suc k))
      (send_writes (pair (SendDoes (acts.SendBlock h)) taken newest) (written_by (acts.SendBlock h)) (top_by newest taken))
      (send_loses (pair (SendDoes (acts.SendBlock h)) taken newest) (top_by newest taken) (take (suc (suc k)) (written_by (acts.SendBlock h))) false)
      (writes_tell (acts.SendBlock h) (written_by (acts.SendBlock h)) taken newest grants refl t)
      (loses_tell (acts.SendBlock h) (take (suc (suc k)) (written_by (acts.SendBlock h))) false taken newest grants (block_done h (suc k) ∙ sym (whole_done h)) t)

  -- a reader: marks that it takes are in its hand
  pub reads_tell : (taken newest : Option Link) → IsTalking (send_stance lane acked (SendDoes acts.Read))
      → (newest ≡ None → marked_in q (up_sent taken) ≡ true → has_done (in_hand rh ++ down_sent taken) ≡ false)
      → Tells (pair (SendDoes acts.Read) taken newest) → Tells (send_reads (pair (SendDoes acts.Read) taken newest) (top_by newest taken))
  reads_tell taken (Some k) talks none t = go (front size_up k.up) where
    go : (o : Option (Frame × Way Frame)) → Tells (send_reads_by (pair (SendDoes acts.Read) taken (Some k)) k o)
    go (Some x) = newer (SendDoes acts.Read) (SendHas (inputs.Got x.0)) taken k record k { up = x.1 } t
    go None =
        if_has Tells (is_cut k.up || recv_stops rh) (pair (SendHas inputs.Lost) taken (Some k)) (pair (SendDoes acts.Read) taken (Some k))
        (newer (SendDoes acts.Read) (SendHas inputs.Lost) taken k k t) t
  reads_tell None None talks none t = t
  reads_tell (Some k) None talks none t = go (front size_up k.up) refl where
    lost : Tells (pair (SendDoes acts.Read) (Some k) None) → Tells (pair (SendHas inputs.Lost) (Some k) None)
    lost (inl x) = inl x
    lost (inr (inl x)) = inr (inl x)
    lost (inr (inr (inl x))) = inr (inr (inr (λ n y. y, none refl x.2)))
    lost (inr (inr (inr x))) = absurd (x.0 refl talks)

    got : (f : Frame) (rest : Way Frame) → k.up.sent ≡ f ∷ rest.sent → Tells (pair (SendDoes acts.Read) (Some k) None)
        → Tells (pair (SendHas (inputs.Got f)) (Some record k { up = rest }) None)
    got f rest is (inl x) = inl x
    got f rest is (inr (inl x)) = inr (inl x)
    got f rest is (inr (inr (inl x))) =
        by_talk known q (pair (SendHas (inputs.Got f)) (Some record k { up = rest }) None) (send_stance lane acked (SendHas (inputs.Got f)))
        (λ n y. ap (marked_in q) (sym is) ∙ x.2) (none refl x.2)
    got f rest is (inr (inr (inr x))) = absurd (x.0 refl talks)

    go : (o : Option (Frame × Way Frame)) → front size_up k.up ≡ o → Tells (send_reads_by (pair (SendDoes acts.Read) (Some k) None) k o)
    go (Some (f, rest)) is = got f rest (front_head size_up k.up.sent k.up.room f rest is) t
    go None is = if_has Tells (is_cut k.up || recv_stops rh) (pair (SendHas inputs.Lost) (Some k) None) (pair (SendDoes acts.Read) (Some k) None) (lost t) t

  -- a lane that dials says nothing
  pub dials_tell : (act : SendAct) (taken newest : Option Link) (n : ℕ) (stopped : Bool) → (IsTalking (send_stance lane acked (SendDoes act)) → ⊥)
      → (IsTalking (send_stance lane acked (SendHas inputs.NoLink)) → ⊥)
      → Tells (pair (SendDoes act) taken newest) → Tells (send_dials (pair (SendDoes act) taken newest) n stopped)
  dials_tell act taken newest (suc n) stopped silent after t =
      hushed known q (pair (SendDoes act) taken newest) (record (pair (SendHas inputs.NoLink) taken newest) { denies = n })
      (send_stance lane acked (SendDoes act)) (send_stance lane acked (SendHas inputs.NoLink)) (λ x. silent) (λ x. after) refl refl t
  dials_tell act taken newest zero true silent after t =
      hushed known q (pair (SendDoes act) taken newest) (pair (SendHas inputs.NoLink) taken newest) (send_stance lane acked (SendDoes act))
      (send_stance lane acked (SendHas inputs.NoLink)) (λ x. silent) (λ x. after) refl refl t
  dials_tell act taken newest zero false silent after t =
      hushed known q (pair (SendDoes act) taken newest) (record (pair (SendHas inputs.Linked) taken (Some new_link)) { between = between ++ waits newest })
      (send_stance lane acked (SendDoes act)) (send_stance lane acked (SendHas inputs.Linked)) (λ x. silent) (λ x. some_not_none new_link x) refl refl t

-- ---- an input that the sender's lane hands in

up_noted : (b : Bool) (newest taken : Option Link) → up_sent (noted_below newest b taken) ≡ up_sent taken
up_noted b None None = refl
up_noted b None (Some k) = refl
up_noted b (Some t) taken = refl

down_noted : (b : Bool) (newest taken : Option Link) → down_sent (noted_below newest b taken) ≡ down_sent taken
down_noted b None None = refl
down_noted b None (Some k) = refl
down_noted b (Some t) taken = refl

pub up_turned : (input : SendIn) (b : Bool) (newest taken : Option Link) → up_sent (noted_taken input b newest taken) ≡ up_sent taken
up_turned (inputs.Got f) b newest taken = up_noted b newest taken
up_turned input b newest taken = refl

pub down_turned : (input : SendIn) (b : Bool) (newest taken : Option Link) → down_sent (noted_taken input b newest taken) ≡ down_sent taken
down_turned (inputs.Got f) b newest taken = down_noted b newest taken
down_turned input b newest taken = refl

some_noted : (b : Bool) (o : Option Link) → option_map (note_greeted b) o ≡ None → o ≡ None
some_noted b None e = refl
some_noted b (Some k) e = cc

pub newest_turned : (input : SendIn) (b : Bool) (newest : Option Link) → noted_newest input b newest ≡ None → newest ≡ None
newest_turned (inputs.Got f) b newest e = some_noted b newest e
newest_turned input b newest e = e

-- marks that it handed in it knows, or it talks no more
pub turn_tells : (before after : Type 0) (q : ℕ) (p : Pair) (input : SendIn) (b : Bool) (act : SendAct) (ss st : Stance) → p.send ≡ SendHas input
    → (before → after) → (marked_in q (send_in_hand (SendHas input)) ≡ true → after ⊎ (IsTalking st → ⊥)) → (IsTalking st → IsTalking ss)
    → (p.newest ≡ None → IsTalking ss → marked_in q (send_in_hand p.send ++ up_sent p.taken) ≡ true → has_done (in_hand p.recv ++ down_sent p.taken) ≡ false)
    → TellsOn before q p ss → TellsOn after q (send_takes p input b act) st
turn_tells before after q p input b act ss st holds knows hand talks none (inl x) = inl (knows x)
turn_tells before after q p input b act ss st holds knows hand talks none (inr (inl x)) = inr (inl x)
turn_tells before after q p input b act ss st holds knows hand talks none (inr (inr (inl x))) = go (marked-append q (send_in_hand (SendHas input)) (up_sent p.taken) (subst (λ (h : SendHold). marked_in q (send_in_hand h ++ up_sent p.taken) ≡ true) holds x.2)) where
  down : has_done (in_hand p.recv ++ down_sent (noted_taken input b p.newest p.taken)) ≡ false
  down = ap (λ (ds : List Message). has_done (in_hand p.recv ++ ds)) (down_turned input b p.newest p.taken) ∙ none x.0 x.1 x.2

  go : (marked_in q (send_in_hand (SendHas input)) ≡ true) ⊎ (marked_in q (up_sent p.taken) ≡ true) → TellsOn after q (send_takes p input b act) st
  go (inl m) = elim (hand m) [ inl y ↦ inl y | inr y ↦ inr (inr (inr (λ n t. y t, down))) ]
  go (inr m) = by_talk after q (send_takes p input b act) st (λ n t. ap (marked_in q) (up_turned input b p.newest p.taken) ∙ m) down
turn_tells before after q p input b act ss st holds knows hand talks none (inr (inr (inr x))) =
    inr
    (inr (inr (λ n t. x.0 (newest_turned input b p.newest n) (talks t), ap (λ (ds : List Message). has_done (in_hand p.recv ++ ds)) (down_turned input b p.newest p.taken) ∙ x.1)))
