-- What was left behind is cut, in both directions: of each act.
use Rattle.std.proofs.Common.{◌≡◌, ◌⊎◌, inl, inr, ℕ, zero, suc, ◌||◌, ◌&&◌, not, Bool, true, false, if◌then◌else◌, List, [], ◌∷◌, is_some, Option, Some, None, sym, ap, ◌∙◌, refl}
use Rattle.std.proofs.lemmas.Bool.{both_ways, or_cases}
use Rattle.std.proofs.lemmas.Option.{same_Some}
use Rattle.wdt_codec.specs.declared.frames.Frame.{Frame}
use Rattle.wdt_sender_fsm.specs.declared.states.SendState.{SendState}
use Rattle.wdt_sender_fsm.specs.Phases.{Framed, Message, Piece}
use Rattle.wdt_receiver_fsm.specs.declared.acts.RecvAct.TheVariants as recv_acts
use Rattle.wdt_receiver_fsm.specs.declared.inputs.RecvIn.TheVariants as recv_inputs
use Rattle.wdt_receiver_fsm.specs.declared.states.RecvState.{RecvState}
use Rattle.wdt_receiver_fsm.specs.declared.states.RecvState.TheVariants as recv_states
use Rattle.wdt_receiver_fsm.specs.Rows as recv_rows
use Rattle.wdt_pact.specs.Belongs.{receives_writing}
use Rattle.wdt_pact.specs.Links.{Link, Way, front, front_by, front_of, has_room, is_cut, less, size_down, with_sent}
use Rattle.wdt_pact.specs.Pairs.{Pair, RecvHold, RecvDoes, RecvHas, RecvTook, SendHold, recv_accepts, recv_reads, recv_reads_by, recv_stops, recv_takes, recv_takes_by, recv_writes, recv_wrote_or_lost, send_left, send_stops, top_by}
use Rattle.wdt_pact.specs.Progress.{AreCut, AreEven, IsCut, IsCutBy, IsEven, IsEvenBy, is_recv_off}
use Rattle.wdt_pact.proofs.Below.{if_has}

-- what is said of a lane
pub record IsSplit (ss : SendState) (rs : RecvState) (p : Pair) : Type 0 where
  pub cut : AreCut ss rs p
  pub even : AreEven p

-- ---- one direction

less_cut : (room : Option ℕ) (n : ℕ) → is_some (less room n) ≡ is_some room
less_cut None n = refl
less_cut (Some room) n = refl

-- a direction stays cut as something is taken from it
pub front_cut : {M : Type 0} (size : M → ℕ) (ms : List M) (room : Option ℕ) (m : M) (rest : Way M) → front_of size ms room ≡ Some (m, rest) → is_cut rest ≡ is_some room
front_cut {M} size [] room m rest e = cc
front_cut {M} size (x ∷ ms) room m rest e = go (has_room room (size x)) e where
  go : (b : Bool) → front_by b x record { sent = ms; room = less room (size x) } ≡ Some (m, rest) → is_cut rest ≡ is_some room
  go true is = sym (ap {A = M × Way M} {B = Bool} (λ y. is_cut y.1) (same_Some _ _ is)) ∙ less_cut room (size x)
  go false is = cc

-- a connection that is cut in one direction is in both
pub both_cut : (k : Link) → IsEven k → is_cut k.down ≡ true → IsCut k
both_cut k even e = (e, sym even ∙ e)

pub up_cut : (k : Link) → IsEven k → is_cut k.up ≡ true → IsCut k
up_cut k even e = (even ∙ e, e)

-- where a write doesn't go well, the connection is cut or the other end has left
pub not_well : (a b : Bool) → (not a && not b) ≡ false → (a ≡ true) ⊎ (b ≡ true)
not_well true b e = inl refl
not_well false true e = inr refl
not_well false false e = cc

-- ---- the receiver's acts

writing_on : (rs : RecvState) → receives_writing rs ≡ true → is_recv_off (RecvHas recv_inputs.Wrote) rs ≡ false
writing_on recv_states.Listen e = cc
writing_on rs e = refl

reading_on : (rs : RecvState) (f : Frame) → recv_rows.is_reading rs ≡ true → is_recv_off (RecvHas (recv_inputs.Got f)) rs ≡ false
reading_on recv_states.Listen f e = cc
reading_on rs f e = refl

module _ (ss : SendState) (rs : RecvState) (sh : SendHold) (between : List Link) (denies refusals : ℕ) where
  abbrev at : RecvHold → Option Link → Option Link → Pair
  at rh taken newest = record { send = sh; recv = rh; taken = taken; between = between; newest = newest; denies = denies; refusals = refusals }

  -- the receiver's lane holds something else, and its connection is as it was but for what is on its way
  recv_holds : (rh new : RecvHold) (taken now newest : Option Link) → recv_stops rh ≡ false
      → (IsCutBy taken → IsCutBy now) → IsEvenBy now → (is_recv_off new rs ≡ true → IsCutBy now ⊎ (send_left newest sh ≡ true))
      → IsSplit ss rs (at rh taken newest) → IsSplit ss rs (at new now newest)
  recv_holds rh new taken now newest stops keeps even off s =
      record {
        cut = record {
          older = λ n. let x = s.cut.older n in (keeps x.0, x.1);
          sender = λ e. moved newest (s.cut.sender e);
          receiver = off;
        };
        even = record { taken = even; between = s.even.between; newest = s.even.newest };
      } where
        moved : (o : Option Link) → IsCutBy (top_by o taken) ⊎ (recv_stops rh ≡ true) → IsCutBy (top_by o now) ⊎ (recv_stops new ≡ true)
        moved o (inr e) = absurd (both_ways (recv_stops rh) stops e)
        moved None (inl e) = inl (keeps e)
        moved (Some t) (inl e) = inl e

  -- nothing can be taken
  recv_lost : (rh : RecvHold) (k : Link) (newest : Option Link) → recv_stops rh ≡ false → (is_cut k.down || send_left newest sh) ≡ true → IsSplit ss rs (at rh (Some k) newest) → IsSplit ss rs (at (RecvHas recv_inputs.Lost) (Some k) newest)
  recv_lost rh k newest stops gone s =
      recv_holds rh (RecvHas recv_inputs.Lost) (Some k) (Some k) newest stops (λ x. x) s.even.taken (λ e. go (or_cases (is_cut k.down) (send_left newest sh) gone)) s where
        go : (is_cut k.down ≡ true) ⊎ (send_left newest sh ≡ true) → IsCutBy (Some k) ⊎ (send_left newest sh ≡ true)
        go (inl e) = inl (both_cut k s.even.taken e)
        go (inr e) = inr e

  nothing_split : (rh : RecvHold) (k : Link) (newest : Option Link) → recv_stops rh ≡ false → IsSplit ss rs (at rh (Some k) newest) → IsSplit ss rs (if is_cut k.down || send_left newest sh then at (RecvHas recv_inputs.Lost) (Some k) newest else at rh (Some k) newest)
  nothing_split rh k newest stops s = go (is_cut k.down || send_left newest sh) refl where
    go : (b : Bool) → (is_cut k.down || send_left newest sh) ≡ b → IsSplit ss rs (if b then at (RecvHas recv_inputs.Lost) (Some k) newest else at rh (Some k) newest)
    go true is = recv_lost rh k newest stops is s
    go false is = s

  pub reads_split : (taken newest : Option Link) → recv_rows.is_reading rs ≡ true → IsSplit ss rs (at (RecvDoes recv_acts.Read) taken newest) → IsSplit ss rs (recv_reads (at (RecvDoes recv_acts.Read) taken newest) taken)
  reads_split None newest reads s = s
  reads_split (Some k) newest reads s = go (front size_down k.down) refl where
    go : (o : Option (Message × Way Message)) → front size_down k.down ≡ o → IsSplit ss rs (recv_reads_by (at (RecvDoes recv_acts.Read) (Some k) newest) k o)
    go (Some (Framed f, rest)) e =
        let same : is_cut rest ≡ is_cut k.down = front_cut size_down k.down.sent k.down.room (Framed f) rest e in
        recv_holds (RecvDoes recv_acts.Read) (RecvHas (recv_inputs.Got f)) (Some k) (Some record k { down = rest }) newest refl (λ x. (same ∙ x.0, x.1)) (same ∙ s.even.taken) (λ off. absurd (both_ways (is_recv_off (RecvHas (recv_inputs.Got f)) rs) (reading_on rs f reads) off)) s
    go (Some (Piece n, rest)) e = s
    go None e = nothing_split (RecvDoes recv_acts.Read) k newest refl s

  pub takes_split : (wanted : ℕ) (taken newest : Option Link) → rs ≡ recv_states.TakeBlock → IsSplit ss rs (at (RecvDoes (recv_acts.TakePiece wanted)) taken newest) → IsSplit ss rs (recv_takes (at (RecvDoes (recv_acts.TakePiece wanted)) taken newest) taken)
  takes_split wanted None newest here s = s
  takes_split wanted (Some k) newest here s = go (front size_down k.down) refl where
    go : (o : Option (Message × Way Message)) → front size_down k.down ≡ o → IsSplit ss rs (recv_takes_by (at (RecvDoes (recv_acts.TakePiece wanted)) (Some k) newest) k o)
    go (Some (Piece n, rest)) e =
        let same : is_cut rest ≡ is_cut k.down = front_cut size_down k.down.sent k.down.room (Piece n) rest e in
        recv_holds (RecvDoes (recv_acts.TakePiece wanted)) (RecvTook n) (Some k) (Some record k { down = rest }) newest refl (λ x. (same ∙ x.0, x.1)) (same ∙ s.even.taken) (λ off. absurd (both_ways (is_recv_off (RecvTook n) rs) (ap (is_recv_off (RecvTook n)) here) off)) s
    go (Some (Framed f, rest)) e = s
    go None e = nothing_split (RecvDoes (recv_acts.TakePiece wanted)) k newest refl s

  pub writes_split : (f : Frame) (taken newest : Option Link) → receives_writing rs ≡ true → IsSplit ss rs (at (RecvDoes (recv_acts.Write f)) taken newest) → IsSplit ss rs (recv_writes (at (RecvDoes (recv_acts.Write f)) taken newest) f taken)
  writes_split f None newest writes s = s
  writes_split f (Some k) newest writes s = go (not (is_cut k.up) && not (send_left newest sh)) refl where
    go : (b : Bool) → (not (is_cut k.up) && not (send_left newest sh)) ≡ b → IsSplit ss rs (at (RecvHas (recv_wrote_or_lost b)) (Some record k { up = with_sent k.up (f ∷ []) }) newest)
    go true is = recv_holds (RecvDoes (recv_acts.Write f)) (RecvHas recv_inputs.Wrote) (Some k) (Some record k { up = with_sent k.up (f ∷ []) }) newest refl (λ x. x) s.even.taken (λ off. absurd (both_ways (is_recv_off (RecvHas recv_inputs.Wrote) rs) (writing_on rs writes) off)) s
    go false is = recv_holds (RecvDoes (recv_acts.Write f)) (RecvHas recv_inputs.Lost) (Some k) (Some record k { up = with_sent k.up (f ∷ []) }) newest refl (λ x. x) s.even.taken (λ off. lost (not_well (is_cut k.up) (send_left newest sh) is)) s where
      lost : (is_cut k.up ≡ true) ⊎ (send_left newest sh ≡ true) → IsCutBy (Some record k { up = with_sent k.up (f ∷ []) }) ⊎ (send_left newest sh ≡ true)
      lost (inl e) = inl (up_cut k s.even.taken e)
      lost (inr e) = inr e

-- a connection is taken, or none
module _ (ss : SendState) (sh : SendHold) (denies : ℕ) where
  abbrev on : RecvHold → Option Link → List Link → Option Link → ℕ → Pair
  on rh taken between newest n = record { send = sh; recv = rh; taken = taken; between = between; newest = newest; denies = denies; refusals = n }

  none_split : (taken : Option Link) (between : List Link) (newest : Option Link) (n m : ℕ) → IsSplit ss recv_states.Listen (on (RecvDoes recv_acts.Accept) taken between newest n) → IsSplit ss recv_states.Listen (on (RecvHas recv_inputs.NoLink) taken between newest m)
  none_split taken between newest n m s = record { cut = record { older = s.cut.older; sender = s.cut.sender; receiver = λ e. s.cut.receiver refl }; even = record { taken = s.even.taken; between = s.even.between; newest = s.even.newest } }

  pub accepts_split : (taken : Option Link) (between : List Link) (newest : Option Link) (n : ℕ) → (newest ≡ None → between ≡ []) → IsSplit ss recv_states.Listen (on (RecvDoes recv_acts.Accept) taken between newest n) → IsSplit ss recv_states.Listen (recv_accepts (on (RecvDoes recv_acts.Accept) taken between newest n) n)
  accepts_split taken between newest (suc n) order s = none_split taken between newest (suc n) n s
  accepts_split taken (k ∷ ks) (Some t) zero order s =
      let old = s.cut.older (λ e. cc) in
      record { cut = record { older = λ n. (old.1.0, old.1.1); sender = s.cut.sender; receiver = λ e. cc }; even = record { taken = s.even.between.0; between = s.even.between.1; newest = s.even.newest } }
  accepts_split taken (k ∷ ks) None zero order s = let x = order refl in cc
  accepts_split taken [] (Some t) zero order s = record { cut = record { older = λ n. absurd (n refl); sender = s.cut.sender; receiver = λ e. cc }; even = record { taken = s.even.newest; between = tt; newest = tt } }
  accepts_split taken [] None zero order s =
      if_has (IsSplit ss recv_states.Listen) (send_stops sh) (on (RecvHas recv_inputs.NoLink) taken [] None zero) (on (RecvDoes recv_acts.Accept) taken [] None zero) (none_split taken [] None zero zero s) s
