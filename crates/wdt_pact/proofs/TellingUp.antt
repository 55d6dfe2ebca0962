-- A lane that told of a closed one: what an act of the receiver's lane leaves of it.
use Rattle.std.proofs.Common.{◌≡◌, inl, inr, ℕ, ◌||◌, ◌&&◌, not, Bool, true, false, List, [], ◌∷◌, ◌++◌, Option, Some, None, sym, ap, ◌∙◌, refl, append_assoc}
use Rattle.std.proofs.lemmas.Bool.{both_ways}
use Rattle.wdt_codec.specs.declared.frames.Frame.{Frame}
use Rattle.wdt_sender_fsm.specs.Phases.{Message, Framed, Piece}
use Rattle.wdt_receiver_fsm.specs.declared.acts.RecvAct.{RecvAct}
use Rattle.wdt_receiver_fsm.specs.declared.acts.RecvAct.TheVariants as recv_acts
use Rattle.wdt_receiver_fsm.specs.declared.inputs.RecvIn.TheVariants as recv_inputs
use Rattle.wdt_pact.specs.Links.{Link, Way, front, is_cut, size_down, with_sent}
use Rattle.wdt_pact.specs.Pairs.{Pair, SendHold, RecvHold, RecvDoes, RecvHas, RecvTook, recv_nothing, recv_reads, recv_reads_by, recv_takes, recv_takes_by, recv_writes, recv_wrote_or_lost, send_left}
use Rattle.wdt_pact.specs.Stances.{Stance}
use Rattle.wdt_pact.specs.Lists.{has_done, in_hand}
use Rattle.wdt_pact.specs.Conversation.{send_in_hand, to_say}
use Rattle.wdt_pact.specs.Finishing.{down_sent, marked_in, marks_lane}
use Rattle.wdt_pact.proofs.Below.{if_has}
use Rattle.wdt_pact.proofs.Reading.{front_head}
use Rattle.wdt_pact.proofs.Telling.{TellsOn, by_talk}

-- marks among others
pub marked_more : (q : ℕ) (us vs : List Frame) → marked_in q us ≡ true → marked_in q (us ++ vs) ≡ true
marked_more q [] vs m = cc
marked_more q (u ∷ us) vs m = go (marks_lane q u) (marked_more q us vs) m where
  go : (b : Bool) → (marked_in q us ≡ true → marked_in q (us ++ vs) ≡ true) → (b || marked_in q us) ≡ true → (b || marked_in q (us ++ vs)) ≡ true
  go true more e = refl
  go false more e = more e

pub marked_behind : (q : ℕ) (us vs : List Frame) → marked_in q vs ≡ true → marked_in q (us ++ vs) ≡ true
marked_behind q [] vs m = m
marked_behind q (u ∷ us) vs m = go (marks_lane q u) (marked_behind q us vs m) where
  go : (b : Bool) → marked_in q (us ++ vs) ≡ true → (b || marked_in q (us ++ vs)) ≡ true
  go true e = refl
  go false e = e

module _ (known : Type 0) (q : ℕ) (sh : SendHold) (ss : Stance) (between : List Link) (newest : Option Link) (denies refusals : ℕ) where
  abbrev pub pair : RecvHold → Option Link → Pair
  pair rh taken = record { send = sh; recv = rh; taken = taken; between = between; newest = newest; denies = denies; refusals = refusals }

  abbrev Tells : Pair → Type 0
  Tells p = TellsOn known q p ss

  -- what it holds changes, and it was about to say nothing
  holds_else : (old new : RecvHold) (taken : Option Link) → to_say old ≡ []
      → (has_done (in_hand old ++ down_sent taken) ≡ false → has_done (in_hand new ++ down_sent taken) ≡ false) → Tells (pair old taken)
      → Tells (pair new taken)
  holds_else old new taken mute done (inl x) = inl x
  holds_else old new taken mute done (inr (inl x)) = absurd (both_ways false refl (ap (marked_in q) (sym mute) ∙ x))
  holds_else old new taken mute done (inr (inr (inl x))) = inr (inr (inl x))
  holds_else old new taken mute done (inr (inr (inr x))) = inr (inr (inr (x.0, done x.1)))

  -- it writes a frame: marks in it are on their way to a sender that talks
  pub writes_tell : (f : Frame) (taken : Option Link) → (marked_in q (f ∷ []) ≡ true → has_done (down_sent taken) ≡ false)
      → Tells (pair (RecvDoes (recv_acts.Write f)) taken) → Tells (recv_writes (pair (RecvDoes (recv_acts.Write f)) taken) f taken)
  writes_tell f None none t = t
  writes_tell f (Some k) none t = go (not (is_cut k.up) && not (send_left newest sh)) where
    later : Option Link
    later = Some record k { up = with_sent k.up (f ∷ []) }

    up : (b : Bool) → Tells (pair (RecvDoes (recv_acts.Write f)) (Some k))
        → has_done (in_hand (RecvHas (recv_wrote_or_lost b)) ++ k.down.sent) ≡ has_done k.down.sent → Tells (pair (RecvHas (recv_wrote_or_lost b)) later)
    up b (inl x) same = inl x
    up b (inr (inl x)) same =
        by_talk known q (pair (RecvHas (recv_wrote_or_lost b)) later) ss
        (λ n y. marked_behind q (send_in_hand sh) (k.up.sent ++ f ∷ []) (marked_behind q k.up.sent (f ∷ []) x)) (same ∙ none x)
    up b (inr (inr (inl x))) same =
        inr
        (inr (inl (x.0, x.1, ap (marked_in q) (sym (append_assoc (send_in_hand sh) k.up.sent (f ∷ []))) ∙ marked_more q (send_in_hand sh ++ k.up.sent) (f ∷ []) x.2)))
    up b (inr (inr (inr x))) same = inr (inr (inr (x.0, same ∙ x.1)))

    go : (b : Bool) → Tells (pair (RecvHas (recv_wrote_or_lost b)) later)
    go true = up true t refl
    go false = up false t refl

  nothing_tell : (old : RecvHold) (k : Link) → to_say old ≡ [] → in_hand old ≡ [] → Tells (pair old (Some k)) → Tells (recv_nothing (pair old (Some k)) k)
  nothing_tell old k mute none t =
      if_has Tells (is_cut k.down || send_left newest sh) (pair (RecvHas recv_inputs.Lost) (Some k)) (pair old (Some k))
      (holds_else old (RecvHas recv_inputs.Lost) (Some k) mute (λ e. ap (λ (h : List Message). has_done (h ++ k.down.sent)) (sym none) ∙ e) t) t

  -- it reads a frame
  pub reads_tell : (taken : Option Link) → Tells (pair (RecvDoes recv_acts.Read) taken) → Tells (recv_reads (pair (RecvDoes recv_acts.Read) taken) taken)
  reads_tell None t = t
  reads_tell (Some k) t = go (front size_down k.down) refl where
    got : (f : Frame) (rest : Way Message) → k.down.sent ≡ Framed f ∷ rest.sent → Tells (pair (RecvDoes recv_acts.Read) (Some k))
        → Tells (pair (RecvHas (recv_inputs.Got f)) (Some record k { down = rest }))
    got f rest is (inl x) = inl x
    got f rest is (inr (inl x)) = absurd (both_ways false refl x)
    got f rest is (inr (inr (inl x))) = inr (inr (inl x))
    got f rest is (inr (inr (inr x))) = inr (inr (inr (x.0, ap has_done (sym is) ∙ x.1)))

    go : (o : Option (Message × Way Message)) → front size_down k.down ≡ o → Tells (recv_reads_by (pair (RecvDoes recv_acts.Read) (Some k)) k o)
    go (Some (Framed f, rest)) is = got f rest (front_head size_down k.down.sent k.down.room (Framed f) rest is) t
    go (Some (Piece n, rest)) is = t
    go None is = nothing_tell (RecvDoes recv_acts.Read) k refl refl t

  -- or takes a piece
  pub takes_tell : (n : ℕ) (taken : Option Link) → Tells (pair (RecvDoes (recv_acts.TakePiece n)) taken)
      → Tells (recv_takes (pair (RecvDoes (recv_acts.TakePiece n)) taken) taken)
  takes_tell n None t = t
  takes_tell n (Some k) t = go (front size_down k.down) refl where
    took : (m : ℕ) (rest : Way Message) → k.down.sent ≡ Piece m ∷ rest.sent → Tells (pair (RecvDoes (recv_acts.TakePiece n)) (Some k))
        → Tells (pair (RecvTook m) (Some record k { down = rest }))
    took m rest is (inl x) = inl x
    took m rest is (inr (inl x)) = absurd (both_ways false refl x)
    took m rest is (inr (inr (inl x))) = inr (inr (inl x))
    took m rest is (inr (inr (inr x))) = inr (inr (inr (x.0, ap has_done (sym is) ∙ x.1)))

    go : (o : Option (Message × Way Message)) → front size_down k.down ≡ o → Tells (recv_takes_by (pair (RecvDoes (recv_acts.TakePiece n)) (Some k)) k o)
    go (Some (Piece m, rest)) is = took m rest (front_head size_down k.down.sent k.down.room (Piece m) rest is) t
    go (Some (Framed f, rest)) is = t
    go None is = nothing_tell (RecvDoes (recv_acts.TakePiece n)) k refl refl t

  -- what it handed in is stepped
  pub steps_tell : (old : RecvHold) (act : RecvAct) (taken : Option Link) → to_say old ≡ []
      → (has_done (in_hand old ++ down_sent taken) ≡ false → has_done (down_sent taken) ≡ false) → Tells (pair old taken)
      → Tells (pair (RecvDoes act) taken)
  steps_tell old act taken mute done t = holds_else old (RecvDoes act) taken mute done t
