-- A receiver in the midst of a step: entries that are noted, and what else the step does.
use Rattle.std.proofs.Common.{◌≡◌, ◌≢◌, ◌⊎◌, inl, inr, ℕ, zero, suc, ◌+◌, ◌<◌, ◌≤◌, ◌&&◌, ◌||◌, List, [], ◌∷◌, ◌++◌, length, Bool, true, false, Option, Some, None, subst, sym, ap, ◌∙◌, refl, arith, eq-eqb}
use Rattle.std.proofs.lemmas.Bool.{both_ways}
use Rattle.std.proofs.lemmas.List.{length-set}
use Rattle.wdt_units.specs.declared.blocks.Block.{Block}
use Rattle.wdt_units.specs.declared.blocks.Header.{Header}
use Rattle.wdt_units.specs.declared.numbers.Lane.{Lane}
use Rattle.wdt_codec.specs.declared.frames.Settings.{Settings}
use Rattle.wdt_sender_fsm.specs.declared.answers.EndAnswer.{EndAnswer}
use Rattle.wdt_sender_fsm.specs.Rules.{every, is_failure}
use Rattle.wdt_receiver_fsm.specs.declared.events.RecvEvent.{RecvEvent}
use Rattle.wdt_receiver_fsm.specs.declared.events.RecvEvent.TheVariants as events
use Rattle.wdt_receiver_fsm.specs.declared.states.RecvLane.{RecvLane}
use Rattle.wdt_receiver_fsm.specs.declared.states.RecvState.{RecvState}
use Rattle.wdt_receiver_fsm.specs.declared.states.RecvState.TheVariants as states
use Rattle.wdt_receiver_fsm.specs.Legal.{Fits, IsAllowed, IsLegal, IsLegal-more, MaySpeak, MayFinish, Terms, legal_from, marks_by, needs_link}
use Rattle.wdt_receiver_fsm.specs.Logging.{all_logged_by}
use Rattle.wdt_receiver_fsm.specs.PlainReceiver.{PlainReceiver, failed, has_finish, lane_at, marks_at, noted, past_at, with_lane}
use Rattle.wdt_receiver_fsm.specs.Ready.{is_ready, rests}
use Rattle.wdt_receiver_fsm.specs.Receiver.{Fares, FaresAt, GoesOn, IsReceiver, IsSized, terms_of}
use Rattle.wdt_receiver_fsm.specs.ReceiverHistory.{EndPast, RecvPast, end_after, end_from, end_of, end_of-append, first_of, has_fault_after, lane_of, past_after, past_of, past_of-append}
use Rattle.wdt_receiver_fsm.specs.Turn.{knows}
use Rattle.wdt_receiver_fsm.proofs.Judged.{Told, legal_put, legal_terms}
use Rattle.wdt_receiver_fsm.proofs.Keeping.{Stays, end_behind, judged_fails}
use Rattle.wdt_receiver_fsm.proofs.Touching.{set_other}

-- ---- what is allowed

-- an entry of the lane that fits is allowed
pub may : (t : PlainReceiver) (l : Lane) (up : Bool) (e : RecvEvent) → Stays t l → is_failure t.answer ≡ false → GoesOn (past_at t l.0) up → lane_of e ≡ Some l.0 → needs_link e ≡ up → Fits (terms_of t) t.history e → IsAllowed (terms_of t) t.history e
may t l up e stays sound on own link fits = record {
  fault = stays.faultless sound;
  speaks = subst (λ (o : Option ℕ). Rattle.wdt_receiver_fsm.specs.Legal.MayBe (length t.lanes) t.history o (needs_link e)) (sym own)
      record { within = stays.within; closed = on.closed; quit = on.quit; acked = on.acked; link = on.link ∙ sym link };
  fits = fits;
}

-- ---- the lane's own past behind its entry

module _ (g : List RecvEvent) (l : Lane) where
  abbrev before : RecvPast
  before = past_of g l.0

  pub took : (c : _) → past_of (g ++ events.Take l c ∷ []) l.0 ≡ record (past_of g l.0) { takes = (past_of g l.0).takes + 1; is_up = true; told = [] }
  took c = past_of-append g (events.Take l c ∷ []) l.0 ∙ rw (eq-eqb l.0 l.0 refl) refl

  pub tried : past_of (g ++ events.NoLink l ∷ []) l.0 ≡ record (past_of g l.0) { failed_tries = (past_of g l.0).failed_tries + 1 }
  tried = past_of-append g (events.NoLink l ∷ []) l.0 ∙ rw (eq-eqb l.0 l.0 refl) refl

  pub began : (b : Block) → past_of (g ++ events.Begin l b ∷ []) l.0 ≡ record (past_of g l.0) { begun = Some b }
  began b = past_of-append g (events.Begin l b ∷ []) l.0 ∙ rw (eq-eqb l.0 l.0 refl) refl

  pub landed : past_of (g ++ events.Land l ∷ []) l.0 ≡ record (past_of g l.0) { landed = Rattle.wdt_receiver_fsm.specs.ReceiverHistory.with_begun (past_of g l.0).landed (past_of g l.0).begun; begun = None }
  landed = past_of-append g (events.Land l ∷ []) l.0 ∙ rw (eq-eqb l.0 l.0 refl) refl

  pub dropped : past_of (g ++ events.Dropped l ∷ []) l.0 ≡ record (past_of g l.0) { begun = None; is_up = false; is_idle = false; telling = [] }
  dropped = past_of-append g (events.Dropped l ∷ []) l.0 ∙ rw (eq-eqb l.0 l.0 refl) refl

  pub idled : past_of (g ++ events.Idle l ∷ []) l.0 ≡ record (past_of g l.0) { is_idle = true; telling = [] }
  idled = past_of-append g (events.Idle l ∷ []) l.0 ∙ rw (eq-eqb l.0 l.0 refl) refl

  pub told : (q : _) → past_of (g ++ events.Told l q ∷ []) l.0 ≡ record (past_of g l.0) { is_idle = false; told = (past_of g l.0).told ++ Rattle.wdt_receiver_fsm.specs.Sets.lanes_of q; telling = Rattle.wdt_receiver_fsm.specs.Sets.lanes_of q }
  told q = past_of-append g (events.Told l q ∷ []) l.0 ∙ rw (eq-eqb l.0 l.0 refl) refl

  pub closed : past_of (g ++ events.Close l ∷ []) l.0 ≡ record (past_of g l.0) { is_closed = true }
  closed = past_of-append g (events.Close l ∷ []) l.0 ∙ rw (eq-eqb l.0 l.0 refl) refl

  pub quitted : past_of (g ++ events.Quit l ∷ []) l.0 ≡ record (past_of g l.0) { has_quit = true }
  quitted = past_of-append g (events.Quit l ∷ []) l.0 ∙ rw (eq-eqb l.0 l.0 refl) refl

  pub acked : past_of (g ++ events.Acked l ∷ []) l.0 ≡ record (past_of g l.0) { is_acked = true }
  acked = past_of-append g (events.Acked l ∷ []) l.0 ∙ rw (eq-eqb l.0 l.0 refl) refl

-- an entry that says something of the end alone leaves each lane's past
pub met_past : (g : List RecvEvent) (l : Lane) (s : Settings) (k : ℕ) → past_of (g ++ events.Met l s ∷ []) k ≡ past_of g k
met_past g l s k = past_of-append g (events.Met l s ∷ []) k

pub sized_past : (g : List RecvEvent) (l : Lane) (files bytes k : ℕ) → past_of (g ++ events.Sized l files bytes ∷ []) k ≡ past_of g k
sized_past g l files bytes k = past_of-append g (events.Sized l files bytes ∷ []) k

pub finish_past : (g : List RecvEvent) (k : ℕ) → past_of (g ++ events.Finish ∷ []) k ≡ past_of g k
finish_past g k = past_of-append g (events.Finish ∷ []) k

pub abort_past : (g : List RecvEvent) (l : Lane) (code k : ℕ) → past_of (g ++ events.Abort l code ∷ []) k ≡ past_of g k
abort_past g l code k = past_of-append g (events.Abort l code ∷ []) k

pub peer_past : (g : List RecvEvent) (l : Lane) (kind : _) (k : ℕ) → past_of (g ++ events.Peer l kind ∷ []) k ≡ past_of g k
peer_past g l kind k = past_of-append g (events.Peer l kind ∷ []) k

-- ---- a lane stands as it did

-- where the end failed, or learned more
pub fares_fails : (f : Bool) (state : RecvState) (lane : RecvLane) (p : RecvPast) (e : EndPast) → Fares f state lane p e → Fares true state lane p e
fares_fails f states.SendAbort lane p e h = record { goes_on = h.goes_on; failed = refl }
fares_fails f states.Ended lane p e h = inl refl
fares_fails f states.Listen lane p e h = h
fares_fails f states.ReadSettings lane p e h = h
fares_fails f states.SendLocalCheckpoint lane p e h = h
fares_fails f states.SendFileChunks lane p e h = h
fares_fails f states.ReadNextCmd lane p e h = h
fares_fails f states.TakeBlock lane p e h = h
fares_fails f states.SendWait lane p e h = h
fares_fails f states.WaitForFinish lane p e h = h
fares_fails f states.SendGlobalCheckpoint lane p e h = h
fares_fails f states.SendDone lane p e h = h
fares_fails f states.ReadAck lane p e h = h

module _ (f : Bool) (lane : RecvLane) (p : RecvPast) (e d : EndPast) (met : e.met ≢ None → d.met ≢ None) (sized : e.sized ≢ None → d.sized ≢ None) (finish : d.has_finish ≡ e.has_finish) where
  serves_more : Rattle.wdt_receiver_fsm.specs.Receiver.Serves p e → Rattle.wdt_receiver_fsm.specs.Receiver.Serves p d
  serves_more h = record { goes_on = h.goes_on; idle = h.idle; met = met h.met; finish = finish ∙ h.finish }

  waits_more : Rattle.wdt_receiver_fsm.specs.Receiver.Waits p e → Rattle.wdt_receiver_fsm.specs.Receiver.Waits p d
  waits_more h = record { goes_on = h.goes_on; begun = h.begun; idle = h.idle; met = met h.met; sized = sized h.sized }

  concludes_more : Rattle.wdt_receiver_fsm.specs.Receiver.Concludes p e → Rattle.wdt_receiver_fsm.specs.Receiver.Concludes p d
  concludes_more h = record { goes_on = h.goes_on; begun = h.begun; finish = finish ∙ h.finish }

  pub fares_more : (state : RecvState) → Fares f state lane p e → Fares f state lane p d
  fares_more states.Listen h = h
  fares_more states.ReadSettings h = h
  fares_more states.SendLocalCheckpoint h = (serves_more h.0, h.1, h.2)
  fares_more states.SendFileChunks h = (serves_more h.0, h.1, h.2)
  fares_more states.ReadNextCmd h = (serves_more h.0, h.1, λ s. sized (h.2 s))
  fares_more states.TakeBlock h = (serves_more h.0, h.1, h.2, sized h.3)
  fares_more states.SendWait h = (waits_more h.0, h.1)
  fares_more states.WaitForFinish h = (waits_more h.0, h.1)
  fares_more states.SendGlobalCheckpoint h = (serves_more h.0, h.1, h.2, sized h.3, h.4)
  fares_more states.SendDone h = concludes_more h
  fares_more states.ReadAck h = concludes_more h
  fares_more states.SendAbort h = h
  fares_more states.Ended h = h

-- ---- entries that say something of the end

no_more : {A : Type 0} (o : Option A) (x : A) → o ≢ None → first_of o x ≢ None
no_more None x some e = some refl
no_more (Some y) x some e = cc

module _ (t : PlainReceiver) (l : Lane) (e : RecvEvent) (stays : Stays t l) (same : (k : ℕ) → past_of (t.history ++ e ∷ []) k ≡ past_of t.history k) where
  -- other lanes where the end learned more
  pub others_more : ((end_of t.history).met ≢ None → (end_after (end_of t.history) e).met ≢ None) → ((end_of t.history).sized ≢ None → (end_after (end_of t.history) e).sized ≢ None) → (end_after (end_of t.history) e).has_finish ≡ (end_of t.history).has_finish
      → (j : ℕ) → j < length t.lanes → j ≢ l.0 → FaresAt (noted t (e ∷ [])) j
  others_more met sized finish j below ne =
      subst (λ (p : RecvPast). Fares (is_failure t.answer) (lane_at t j).state (lane_at t j) p (end_of (t.history ++ e ∷ []))) (sym (same j))
      (subst (λ (x : EndPast). Fares (is_failure t.answer) (lane_at t j).state (lane_at t j) (past_at t j) x) (sym (end_behind t.history e))
      (fares_more (is_failure t.answer) (lane_at t j) (past_at t j) (end_of t.history) (end_after (end_of t.history) e) met sized finish (lane_at t j).state (stays.others j below ne)))

pub notes_met : (t : PlainReceiver) (l : Lane) (s : Settings) → Stays t l → IsAllowed (terms_of t) t.history (events.Met l s) → Stays (noted t (events.Met l s ∷ [])) l
notes_met t l s stays allowed = record {
  few = stays.few;
  within = stays.within;
  legal = IsLegal-more (terms_of t) t.history (events.Met l s) stays.legal allowed;
  others = others_more t l (events.Met l s) stays (met_past t.history l s) (no_more (end_of t.history).met s) (λ h. h) refl;
  faultless = λ sound. ap (λ (x : EndPast). x.has_fault) (end_behind t.history (events.Met l s)) ∙ stays.faultless sound;
  finished = λ come. stays.finished (sym (ap (λ (x : EndPast). x.has_finish) (end_behind t.history (events.Met l s))) ∙ come);
}

pub notes_sized : (t : PlainReceiver) (l : Lane) (files bytes : ℕ) → Stays t l → IsAllowed (terms_of t) t.history (events.Sized l files bytes) → Stays (noted t (events.Sized l files bytes ∷ [])) l
notes_sized t l files bytes stays allowed = record {
  few = stays.few;
  within = stays.within;
  legal = IsLegal-more (terms_of t) t.history (events.Sized l files bytes) stays.legal allowed;
  others = others_more t l (events.Sized l files bytes) stays (sized_past t.history l files bytes) (λ h. h) (no_more (end_of t.history).sized (files, bytes)) refl;
  faultless = λ sound. ap (λ (x : EndPast). x.has_fault) (end_behind t.history (events.Sized l files bytes)) ∙ stays.faultless sound;
  finished = λ come. stays.finished (sym (ap (λ (x : EndPast). x.has_finish) (end_behind t.history (events.Sized l files bytes))) ∙ come);
}

-- ---- the finish

pub and_first : (x y : Bool) → (x && y) ≡ true → x ≡ true
and_first true y h = refl
and_first false y h = h

pub and_second : (x y : Bool) → (x && y) ≡ true → y ≡ true
and_second true y h = h
and_second false y h = absurd (cc)

last : (a b : ℕ) → a < suc b → (a < b) ⊎ (a ≡ b)
last a b h = search arith

pick : (f : ℕ → Bool) (n j : ℕ) → (j < n) ⊎ (j ≡ n) → (j < n → f j ≡ true) → f n ≡ true → f j ≡ true
pick f n j (inl lt) lower here = lower lt
pick f n j (inr e) lower here = subst (λ (k : ℕ). f k ≡ true) (sym e) here

pub every_at : (n : ℕ) (f : ℕ → Bool) (j : ℕ) → every n f ≡ true → j < n → f j ≡ true
every_at zero f j all below = absurd (omega (arith, below))
every_at (suc n) f j all below = pick f n j (last j n below) (every_at n f j (and_first (every n f) (f n) all)) (and_second (every n f) (f n) all)

neither : (a b : Bool) → a ≡ false → b ≡ false → (a || b) ≡ true → ⊥
neither true b x y h = absurd (cc)
neither false b x y h = both_ways b y h

module _ (lane : RecvLane) (p : RecvPast) (e : EndPast) (rest : (p.is_idle || p.is_closed) ≡ true) where
  busy : {A : Type 0} → Rattle.wdt_receiver_fsm.specs.Receiver.Serves p e → A
  busy h = absurd (neither p.is_idle p.is_closed h.idle h.goes_on.closed rest)

  -- a lane that rests stands as it did where the finish comes
  pub fares_finish : (state : RecvState) → Fares false state lane p e → Fares false state lane p (record e { has_finish = true })
  fares_finish states.Listen h = h
  fares_finish states.ReadSettings h = h
  fares_finish states.SendLocalCheckpoint h = busy h.0
  fares_finish states.SendFileChunks h = busy h.0
  fares_finish states.ReadNextCmd h = busy h.0
  fares_finish states.TakeBlock h = busy h.0
  fares_finish states.SendWait h = (record { goes_on = h.0.goes_on; begun = h.0.begun; idle = h.0.idle; met = h.0.met; sized = h.0.sized }, h.1)
  fares_finish states.WaitForFinish h = (record { goes_on = h.0.goes_on; begun = h.0.begun; idle = h.0.idle; met = h.0.met; sized = h.0.sized }, h.1)
  fares_finish states.SendGlobalCheckpoint h = busy h.0
  fares_finish states.SendDone h = record { goes_on = h.goes_on; begun = h.begun; finish = refl }
  fares_finish states.ReadAck h = record { goes_on = h.goes_on; begun = h.begun; finish = refl }
  fares_finish states.SendAbort h = h
  fares_finish states.Ended h = h

pub notes_finish : (t : PlainReceiver) (l : Lane) → Stays t l → is_failure t.answer ≡ false → is_ready (length t.lanes) t.history ≡ true → t.unlogged ≡ [] → IsAllowed (terms_of t) t.history events.Finish → Stays (noted t (events.Finish ∷ [])) l
notes_finish t l stays sound ready none allowed = record {
  few = stays.few;
  within = stays.within;
  legal = IsLegal-more (terms_of t) t.history events.Finish stays.legal allowed;
  others = others;
  faultless = λ calm. ap (λ (x : EndPast). x.has_fault) (end_behind t.history events.Finish) ∙ stays.faultless calm;
  finished = λ come. none;
}
  where
    others : (j : ℕ) → j < length t.lanes → j ≢ l.0 → FaresAt (noted t (events.Finish ∷ [])) j
    others j below ne =
        let resting : rests t.history j ≡ true = every_at (length t.lanes) (rests t.history) j (and_first _ _ (and_first _ _ ready)) below in
        subst (λ (p : RecvPast). Fares (is_failure t.answer) (lane_at t j).state (lane_at t j) p (end_of (t.history ++ events.Finish ∷ []))) (sym (finish_past t.history j))
        (subst (λ (x : EndPast). Fares (is_failure t.answer) (lane_at t j).state (lane_at t j) (past_at t j) x) (sym (end_behind t.history events.Finish))
        (subst (λ (b : Bool). Fares b (lane_at t j).state (lane_at t j) (past_at t j) (record (end_of t.history) { has_finish = true })) (sym sound)
        (fares_finish (lane_at t j) (past_at t j) (end_of t.history) resting (lane_at t j).state
        (subst (λ (b : Bool). Fares b (lane_at t j).state (lane_at t j) (past_at t j) (end_of t.history)) sound (stays.others j below ne)))))

-- ---- the end fails behind an entry that tells of it, or with none

-- the entry says nothing of lanes, and of the end that there was a fault
pub fails_noted : (t : PlainReceiver) (l : Lane) (e : RecvEvent) (a : EndAnswer) → is_failure a ≡ true → Stays t l → ((k : ℕ) → past_of (t.history ++ e ∷ []) k ≡ past_of t.history k) → end_after (end_of t.history) e ≡ record (end_of t.history) { has_fault = true } → IsAllowed (terms_of t) t.history e → Stays (failed (noted t (e ∷ [])) a) l
fails_noted t l e a fails stays same fault allowed = record {
  few = stays.few;
  within = stays.within;
  legal = IsLegal-more (terms_of t) t.history e stays.legal allowed;
  others = λ j below ne.
      subst (λ (b : Bool). Fares b (lane_at t j).state (lane_at t j) (past_of (t.history ++ e ∷ []) j) (end_of (t.history ++ e ∷ []))) (sym fails)
      (fares_fails (is_failure t.answer) (lane_at t j).state (lane_at t j) (past_of (t.history ++ e ∷ []) j) (end_of (t.history ++ e ∷ []))
      (others_more t l e stays same (λ h. subst (λ (x : EndPast). x.met ≢ None) (sym fault) h) (λ h. subst (λ (x : EndPast). x.sized ≢ None) (sym fault) h) (ap (λ (x : EndPast). x.has_finish) fault) j below ne));
  faultless = λ sound. absurd (both_ways (is_failure a) sound fails);
  finished = λ come. stays.finished (sym (ap (λ (x : EndPast). x.has_finish) (end_behind t.history e ∙ fault)) ∙ come);
}

pub fails_so : (t : PlainReceiver) (l : Lane) (a : EndAnswer) → is_failure a ≡ true → Stays t l → Stays (failed t a) l
fails_so t l a fails stays = record {
  few = stays.few;
  within = stays.within;
  legal = stays.legal;
  others = λ j below ne. subst (λ (b : Bool). Fares b (lane_at t j).state (lane_at t j) (past_at t j) (end_of t.history)) (sym fails) (fares_fails (is_failure t.answer) (lane_at t j).state (lane_at t j) (past_at t j) (end_of t.history) (stays.others j below ne));
  faultless = λ sound. absurd (both_ways (is_failure a) sound fails);
  finished = stays.finished;
}

-- ---- what else a step does

-- the lane is put, and another step goes on from there
pub puts_so : (t : PlainReceiver) (l : Lane) (lane : RecvLane) → Told t l lane → Stays t l → Stays (with_lane t l.0 lane) l
puts_so t l lane conn stays = record {
  few = subst (λ (n : ℕ). n ≤ 16) (sym (length-set t.lanes l.0 lane)) stays.few;
  within = subst (λ (n : ℕ). l.0 < n) (sym (length-set t.lanes l.0 lane)) stays.within;
  legal = legal_put t l lane conn stays.legal;
  others = λ j below ne.
      subst (λ (y : RecvLane). Fares (is_failure (with_lane t l.0 lane).answer) y.state y (past_at t j) (end_of t.history)) (sym (ap Rattle.wdt_receiver_fsm.specs.PlainReceiver.lane_or_ended (set_other t.lanes l.0 j lane ne)))
      (subst (λ (b : Bool). Fares b (lane_at t j).state (lane_at t j) (past_at t j) (end_of t.history)) (sym (judged_fails t.answer _ _)) (stays.others j (subst (λ (n : ℕ). j < n) (length-set t.lanes l.0 lane) below) ne));
  faultless = λ sound. stays.faultless (sym (judged_fails t.answer _ _) ∙ sound);
  finished = stays.finished;
}

pub logged_so : (t : PlainReceiver) (l : Lane) (bs : List Block) → t.unlogged ≡ bs → Stays t l → Stays (all_logged_by t bs) l
logged_so t l [] is stays = stays
logged_so t l (b ∷ bs) is stays = record { few = stays.few; within = stays.within; legal = stays.legal; others = stays.others; faultless = stays.faultless; finished = λ come. refl }

pub none_left : (t : PlainReceiver) (bs : List Block) → t.unlogged ≡ bs → (all_logged_by t bs).unlogged ≡ []
none_left t [] is = is
none_left t (b ∷ bs) is = refl

-- ---- files that are known

pub knows_so : (t : PlainReceiver) (l : Lane) (h : Header) → is_failure t.answer ≡ false → Stays t l → Stays (knows t h) l
knows_so t l h sound stays = record {
  few = stays.few;
  within = stays.within;
  legal = legal_terms (terms_of t) (knows t h).known (terms_of t).conns t.history (stays.faultless sound) stays.legal;
  others = stays.others;
  faultless = stays.faultless;
  finished = stays.finished;
}
