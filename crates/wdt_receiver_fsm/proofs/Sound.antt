-- What a legal history says of each lane.
use Rattle.std.proofs.Common.{◌≡◌, ◌≢◌, ◌⊎◌, inl, inr, ℕ, ◌<◌, ◌≤◌, List, [], ◌∷◌, ◌++◌, length, Bool, true, false, Option, Some, None, subst, sym, refl, arith, append_assoc, append-nil, length-append}
use Rattle.std.proofs.lemmas.Bool.{both_ways}
use Rattle.wdt_units.specs.Lanes.{AllOf}
use Rattle.wdt_units.specs.declared.blocks.Block.{Block}
use Rattle.wdt_units.specs.declared.numbers.Lane.{Lane}
use Rattle.wdt_receiver_fsm.specs.declared.events.RecvEvent.{RecvEvent}
use Rattle.wdt_receiver_fsm.specs.declared.events.RecvEvent.TheVariants as events
use Rattle.wdt_receiver_fsm.specs.declared.states.RecvLane.{RecvLane}
use Rattle.wdt_receiver_fsm.specs.declared.states.RecvState.{RecvState}
use Rattle.wdt_receiver_fsm.specs.declared.states.RecvState.TheVariants as states
use Rattle.wdt_receiver_fsm.specs.Frames.{most_landed}
use Rattle.wdt_receiver_fsm.specs.Legal.{IsAllowed, IsLegal, IsOff, IsSound, MaySpeak, Terms, legal_from}
use Rattle.wdt_receiver_fsm.specs.PlainReceiver.{PlainReceiver, lane_at, past_at, state_at}
use Rattle.wdt_receiver_fsm.specs.Receiver.{Fares, IsReceiver}
use Rattle.wdt_receiver_fsm.specs.ReceiverHistory.{EndPast, RecvPast, end_of, lane_of, past_of, past_of-none, with_begun}
use Rattle.wdt_receiver_fsm.proofs.Entries.{abort_past, acked, began, closed, dropped, finish_past, idled, landed, met_past, peer_past, quitted, sized_past, told, took, tried}
use Rattle.wdt_receiver_fsm.proofs.Keeping.{other_past}

pub same_or : (a b : ℕ) → (a ≡ b) ⊎ (a ≢ b)
same_or a b = search arith

pub fewer : (bs : List Block) (o : Option Block) → length bs ≤ length (with_begun bs o)
fewer bs None = omega arith
fewer bs (Some b) = subst (λ (n : ℕ). length bs ≤ n) (sym (length-append bs (b ∷ []))) (omega arith)

one_more : (bs : List Block) (b : Block) (n : ℕ) → length bs < n → length (bs ++ b ∷ []) ≤ n
one_more bs b n less = subst (λ (k : ℕ). k ≤ n) (sym (length-append bs (b ∷ []))) (omega (arith, less))

module _ (g : List RecvEvent) (l : Lane) where
  abbrev Own : RecvEvent → Type 0
  Own e = IsSound (past_of (g ++ e ∷ []) l.0)

  -- the past behind an entry of another lane
  apart : (e : RecvEvent) (j : ℕ) → AllOf lane_of l.0 (e ∷ []) → IsSound (past_of g j) → (IsSound (past_of g l.0) → Own e) → IsSound (past_of (g ++ e ∷ []) j)
  apart e j own s here = go (same_or j l.0)
    where
      go : (j ≡ l.0) ⊎ (j ≢ l.0) → IsSound (past_of (g ++ e ∷ []) j)
      go (inl is) = subst (λ (k : ℕ). IsSound (past_of (g ++ e ∷ []) k)) (sym is) (here (subst (λ (k : ℕ). IsSound (past_of g k)) is s))
      go (inr ne) = subst IsSound (sym (other_past g e l.0 j own ne)) s

  -- a lane that may speak is neither closed nor given up
  no_close : {A : Type 0} (n : ℕ) (up : Bool) → MaySpeak n g l.0 up → (past_of g l.0).is_closed ≡ true → A
  no_close n up may is = absurd (both_ways _ may.closed is)

  no_quit : {A : Type 0} (n : ℕ) (up : Bool) → MaySpeak n g l.0 up → (past_of g l.0).has_quit ≡ true → A
  no_quit n up may is = absurd (both_ways _ may.quit is)

  no_link : {A : Type 0} (n : ℕ) → MaySpeak n g l.0 true → (past_of g l.0).is_up ≡ false → A
  no_link n may is = absurd (both_ways _ is may.link)

  by_take : (n : ℕ) (c : _) → MaySpeak n g l.0 false → IsSound (past_of g l.0) → Own (events.Take l c)
  by_take n c may s = subst IsSound (sym (took g l c)) record {
    few = s.few;
    off = λ is. absurd (both_ways true is refl);
    idle = s.idle;
    closed = λ is. no_close n false may is;
    quit = λ is. no_quit n false may is;
  }

  by_no_link : IsSound (past_of g l.0) → Own (events.NoLink l)
  by_no_link s = subst IsSound (sym (tried g l)) record {
    few = s.few;
    off = λ is. record { begun = (s.off is).begun; idle = (s.off is).idle; telling = (s.off is).telling };
    idle = s.idle;
    closed = s.closed;
    quit = s.quit;
  }

  by_begin : (n : ℕ) (b : Block) → MaySpeak n g l.0 true → length (past_of g l.0).landed < most_landed → IsSound (past_of g l.0) → Own (events.Begin l b)
  by_begin n b may few s = subst IsSound (sym (began g l b)) record {
    few = one_more (past_of g l.0).landed b most_landed few;
    off = λ is. no_link n may is;
    idle = s.idle;
    closed = s.closed;
    quit = s.quit;
  }

  by_land : (n : ℕ) → MaySpeak n g l.0 true → IsSound (past_of g l.0) → Own (events.Land l)
  by_land n may s = subst IsSound (sym (landed g l)) record {
    few = s.few;
    off = λ is. no_link n may is;
    idle = s.idle;
    closed = s.closed;
    quit = s.quit;
  }

  by_drop : (n : ℕ) → MaySpeak n g l.0 true → IsSound (past_of g l.0) → Own (events.Dropped l)
  by_drop n may s = subst IsSound (sym (dropped g l)) record {
    few = omega (arith, s.few, fewer (past_of g l.0).landed (past_of g l.0).begun);
    off = λ is. record { begun = refl; idle = refl; telling = refl };
    idle = λ is. refl;
    closed = λ is. (refl, (s.closed is).1);
    quit = λ is. refl;
  }

  by_idle : (n : ℕ) → MaySpeak n g l.0 true → IsSound (past_of g l.0) → Own (events.Idle l)
  by_idle n may s = subst IsSound (sym (idled g l)) record {
    few = s.few;
    off = λ is. no_link n may is;
    idle = λ is. refl;
    closed = s.closed;
    quit = s.quit;
  }

  by_told : (n : ℕ) (q : _) → MaySpeak n g l.0 true → IsSound (past_of g l.0) → Own (events.Told l q)
  by_told n q may s = subst IsSound (sym (told g l q)) record {
    few = s.few;
    off = λ is. no_link n may is;
    idle = λ is. absurd (both_ways false refl is);
    closed = s.closed;
    quit = s.quit;
  }

  by_close : (n : ℕ) → MaySpeak n g l.0 false → IsSound (past_of g l.0) → Own (events.Close l)
  by_close n may s = subst IsSound (sym (closed g l)) record {
    few = s.few;
    off = λ is. record { begun = (s.off is).begun; idle = (s.off is).idle; telling = (s.off is).telling };
    idle = s.idle;
    closed = λ is. (may.link, may.acked);
    quit = s.quit;
  }

  by_quit : (n : ℕ) → MaySpeak n g l.0 false → IsSound (past_of g l.0) → Own (events.Quit l)
  by_quit n may s = subst IsSound (sym (quitted g l)) record {
    few = s.few;
    off = λ is. record { begun = (s.off is).begun; idle = (s.off is).idle; telling = (s.off is).telling };
    idle = s.idle;
    closed = s.closed;
    quit = λ is. may.link;
  }

  by_ack : (n : ℕ) → MaySpeak n g l.0 true → IsSound (past_of g l.0) → Own (events.Acked l)
  by_ack n may s = subst IsSound (sym (acked g l)) record {
    few = s.few;
    off = λ is. record { begun = (s.off is).begun; idle = (s.off is).idle; telling = (s.off is).telling };
    idle = s.idle;
    closed = λ is. no_close n true may is;
    quit = s.quit;
  }

sound_after : (t : Terms) (g : List RecvEvent) (e : RecvEvent) (j : ℕ) → IsAllowed t g e → IsSound (past_of g j) → IsSound (past_of (g ++ e ∷ []) j)
sound_after t g (events.Take l c) j a s = apart g l (events.Take l c) j (refl, tt) s (λ h. by_take g l t.lanes c a.speaks h)
sound_after t g (events.NoLink l) j a s = apart g l (events.NoLink l) j (refl, tt) s (λ h. by_no_link g l h)
sound_after t g (events.Met l settings) j a s = subst IsSound (sym (met_past g l settings j)) s
sound_after t g (events.Sized l files bytes) j a s = subst IsSound (sym (sized_past g l files bytes j)) s
sound_after t g (events.Begin l b) j a s = apart g l (events.Begin l b) j (refl, tt) s (λ h. by_begin g l t.lanes b a.speaks a.fits.few h)
sound_after t g (events.Land l) j a s = apart g l (events.Land l) j (refl, tt) s (λ h. by_land g l t.lanes a.speaks h)
sound_after t g (events.Dropped l) j a s = apart g l (events.Dropped l) j (refl, tt) s (λ h. by_drop g l t.lanes a.speaks h)
sound_after t g (events.Idle l) j a s = apart g l (events.Idle l) j (refl, tt) s (λ h. by_idle g l t.lanes a.speaks h)
sound_after t g (events.Told l q) j a s = apart g l (events.Told l q) j (refl, tt) s (λ h. by_told g l t.lanes q a.speaks h)
sound_after t g (events.Close l) j a s = apart g l (events.Close l) j (refl, tt) s (λ h. by_close g l t.lanes a.speaks h)
sound_after t g events.Finish j a s = subst IsSound (sym (finish_past g j)) s
sound_after t g (events.Acked l) j a s = apart g l (events.Acked l) j (refl, tt) s (λ h. by_ack g l t.lanes a.speaks h)
sound_after t g (events.Quit l) j a s = apart g l (events.Quit l) j (refl, tt) s (λ h. by_quit g l t.lanes a.speaks h)
sound_after t g (events.Abort l code) j a s = subst IsSound (sym (abort_past g l code j)) s
sound_after t g (events.Peer l kind) j a s = subst IsSound (sym (peer_past g l kind j)) s

sound_from : (t : Terms) (b g : List RecvEvent) (j : ℕ) → IsSound (past_of b j) → legal_from t b g → IsSound (past_of (b ++ g) j)
sound_from t b [] j s legal = subst (λ (h : List RecvEvent). IsSound (past_of h j)) (sym (append-nil b)) s
sound_from t b (e ∷ g) j s legal = subst (λ (h : List RecvEvent). IsSound (past_of h j)) (append_assoc b (e ∷ []) g) (sound_from t (b ++ e ∷ []) g j (sound_after t b e j legal.0 s) legal.1)

sound_none : (j : ℕ) → IsSound (past_of [] j)
sound_none j = subst IsSound (sym (past_of-none j)) record {
  few = omega arith;
  off = λ is. record { begun = refl; idle = refl; telling = refl };
  idle = λ is. refl;
  closed = λ is. absurd (both_ways false refl is);
  quit = λ is. refl;
}

pub legal_sound : (t : Terms) (g : List RecvEvent) (l : ℕ) → IsLegal t g → IsSound (past_of g l)
unfolding IsLegal
legal_sound t g l legal = sound_from t [] g l (sound_none l) legal

-- ---- the lanes of a receiver

closed_ends : (f : Bool) (state : RecvState) (lane : RecvLane) (p : RecvPast) (e : EndPast) → Fares f state lane p e → p.is_closed ≡ true → state ≡ states.Ended
closed_ends f states.Ended lane p e h is = refl
closed_ends f states.Listen lane p e h is = absurd (both_ways _ h.goes_on.closed is)
closed_ends f states.ReadSettings lane p e h is = absurd (both_ways _ h.0.goes_on.closed is)
closed_ends f states.SendLocalCheckpoint lane p e h is = absurd (both_ways _ h.0.goes_on.closed is)
closed_ends f states.SendFileChunks lane p e h is = absurd (both_ways _ h.0.goes_on.closed is)
closed_ends f states.ReadNextCmd lane p e h is = absurd (both_ways _ h.0.goes_on.closed is)
closed_ends f states.TakeBlock lane p e h is = absurd (both_ways _ h.0.goes_on.closed is)
closed_ends f states.SendWait lane p e h is = absurd (both_ways _ h.0.goes_on.closed is)
closed_ends f states.WaitForFinish lane p e h is = absurd (both_ways _ h.0.goes_on.closed is)
closed_ends f states.SendGlobalCheckpoint lane p e h is = absurd (both_ways _ h.0.goes_on.closed is)
closed_ends f states.SendDone lane p e h is = absurd (both_ways _ h.goes_on.closed is)
closed_ends f states.ReadAck lane p e h is = absurd (both_ways _ h.goes_on.closed is)
closed_ends f states.SendAbort lane p e h is = absurd (both_ways _ h.goes_on.closed is)

pub closed_is_out : (r : PlainReceiver) (l : ℕ) → IsReceiver r → l < length r.lanes → (past_at r l).is_closed ≡ true → (state_at r l ≡ states.Ended) × ((past_at r l).is_acked ≡ false) × IsOff (past_at r l)
closed_is_out r l is within closed =
    let s = legal_sound (Rattle.wdt_receiver_fsm.specs.Receiver.terms_of r) r.history l is.legal in
    (closed_ends _ (state_at r l) (lane_at r l) (past_at r l) (end_of r.history) (is.lanes l within) closed, (s.closed closed).1, s.off (s.closed closed).0)
