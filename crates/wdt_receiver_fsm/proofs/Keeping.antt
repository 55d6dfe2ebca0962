-- What a receiver keeps while a lane's step notes entries and puts its lane.
use Rattle.std.proofs.Common.{◌≡◌, ◌≢◌, ◌⊎◌, inl, inr, ℕ, ◌<◌, ◌≤◌, List, [], ◌∷◌, ◌++◌, length, Bool, true, false, subst, sym, ap, ◌∙◌, refl, arith}
use Rattle.std.proofs.lemmas.Bool.{ne_eqb}
use Rattle.std.proofs.lemmas.List.{length-set}
use Rattle.wdt_units.specs.Lanes.{AllOf}
use Rattle.wdt_units.specs.declared.numbers.Lane.{Lane}
use Rattle.wdt_sender_fsm.specs.declared.answers.EndAnswer.{EndAnswer}
use Rattle.wdt_sender_fsm.specs.declared.answers.EndAnswer.TheVariants as answers
use Rattle.wdt_sender_fsm.specs.Rules.{is_failure, judged, standing}
use Rattle.wdt_receiver_fsm.specs.declared.events.RecvEvent.{RecvEvent}
use Rattle.wdt_receiver_fsm.specs.declared.events.RecvEvent.TheVariants as events
use Rattle.wdt_receiver_fsm.specs.declared.states.RecvLane.{RecvLane}
use Rattle.wdt_receiver_fsm.specs.Legal.{IsAllowed, IsLegal, IsLegal-more}
use Rattle.wdt_receiver_fsm.specs.PlainReceiver.{PlainReceiver, failed, has_finish, lane_at, noted, past_at, with_lane}
use Rattle.wdt_receiver_fsm.specs.Receiver.{Fares, FaresAt, IsReceiver, terms_of}
use Rattle.wdt_receiver_fsm.specs.ReceiverHistory.{EndPast, RecvPast, end_after, end_of, end_of-append, lane_of, past_after, past_of, past_of-append}
use Rattle.wdt_receiver_fsm.proofs.HeldActs.{lane_set}
use Rattle.wdt_receiver_fsm.proofs.Judged.{Told, legal_put}
use Rattle.wdt_receiver_fsm.proofs.Touching.{set_other}

-- ---- other lanes' pasts

own_past : (e : RecvEvent) (l k : ℕ) (p : RecvPast) → AllOf lane_of l (e ∷ []) → k ≢ l → past_after k p e ≡ p
own_past (events.Take j c) l k p own ne = rw (ne_eqb j.0 k (λ e. ne (sym e ∙ own.0))) refl
own_past (events.NoLink j) l k p own ne = rw (ne_eqb j.0 k (λ e. ne (sym e ∙ own.0))) refl
own_past (events.Begin j b) l k p own ne = rw (ne_eqb j.0 k (λ e. ne (sym e ∙ own.0))) refl
own_past (events.Land j) l k p own ne = rw (ne_eqb j.0 k (λ e. ne (sym e ∙ own.0))) refl
own_past (events.Dropped j) l k p own ne = rw (ne_eqb j.0 k (λ e. ne (sym e ∙ own.0))) refl
own_past (events.Idle j) l k p own ne = rw (ne_eqb j.0 k (λ e. ne (sym e ∙ own.0))) refl
own_past (events.Told j q) l k p own ne = rw (ne_eqb j.0 k (λ e. ne (sym e ∙ own.0))) refl
own_past (events.Close j) l k p own ne = rw (ne_eqb j.0 k (λ e. ne (sym e ∙ own.0))) refl
own_past (events.Acked j) l k p own ne = rw (ne_eqb j.0 k (λ e. ne (sym e ∙ own.0))) refl
own_past (events.Quit j) l k p own ne = rw (ne_eqb j.0 k (λ e. ne (sym e ∙ own.0))) refl
own_past e l k p own ne = refl

-- the past of another lane behind an entry
pub other_past : (g : List RecvEvent) (e : RecvEvent) (l k : ℕ) → AllOf lane_of l (e ∷ []) → k ≢ l → past_of (g ++ e ∷ []) k ≡ past_of g k
other_past g e l k own ne = past_of-append g (e ∷ []) k ∙ own_past e l k (past_of g k) own ne

-- the end's past behind one
pub end_behind : (g : List RecvEvent) (e : RecvEvent) → end_of (g ++ e ∷ []) ≡ end_after (end_of g) e
end_behind g e = end_of-append g (e ∷ [])

-- ---- a failure stays one, and nothing else becomes one

standing_sound : (x y : Bool) → is_failure (standing x y) ≡ false
standing_sound true y = refl
standing_sound false true = refl
standing_sound false false = refl

pub judged_fails : (a : EndAnswer) (x y : Bool) → is_failure (judged a x y) ≡ is_failure a
judged_fails answers.Going x y = standing_sound x y
judged_fails answers.Done x y = standing_sound x y
judged_fails answers.Link x y = standing_sound x y
judged_fails a x y = refl

-- ---- in the midst of a step

-- all but the lane itself is as a receiver has it
pub record Stays (t : PlainReceiver) (l : Lane) : Type 0 where
  pub few : length t.lanes ≤ 16
  pub within : l.0 < length t.lanes
  pub legal : IsLegal (terms_of t) t.history
  pub others : (j : ℕ) → j < length t.lanes → j ≢ l.0 → FaresAt t j
  pub faultless : is_failure t.answer ≡ false → (end_of t.history).has_fault ≡ false
  pub finished : has_finish t ≡ true → t.unlogged ≡ []

pub receiver_stays : (r : PlainReceiver) (l : Lane) → IsReceiver r → l.0 < length r.lanes → Stays r l
receiver_stays r l is within = record {
  few = is.few;
  within = within;
  legal = is.legal;
  others = λ j below ne. is.lanes j below;
  faultless = is.faultless;
  finished = is.finished;
}

-- the lane is put, and stands as its state says
pub put_back : (t : PlainReceiver) (l : Lane) (lane : RecvLane) → Told t l lane → Stays t l → Fares (is_failure t.answer) lane.state lane (past_at t l.0) (end_of t.history) → IsReceiver (with_lane t l.0 lane)
put_back t l lane conn stays fares =
    let u : PlainReceiver = with_lane t l.0 lane in
    record {
      few = subst (λ (n : ℕ). n ≤ 16) (sym many) stays.few;
      legal = legal_put t l lane conn stays.legal;
      lanes = λ j below. each j (subst (λ (n : ℕ). j < n) many below) (same_or j l.0);
      faultless = λ sound. stays.faultless (sym (judged_fails t.answer _ _) ∙ sound);
      finished = stays.finished;
    }
  where
    many : length (with_lane t l.0 lane).lanes ≡ length t.lanes
    many = length-set t.lanes l.0 lane

    same_or : (a b : ℕ) → (a ≡ b) ⊎ (a ≢ b)
    same_or a b = search arith

    at : (j : ℕ) (x : RecvLane) → lane_at (with_lane t l.0 lane) j ≡ x → Fares (is_failure t.answer) x.state x (past_at t j) (end_of t.history) → FaresAt (with_lane t l.0 lane) j
    at j x is f =
        subst (λ (y : RecvLane). Fares (is_failure (with_lane t l.0 lane).answer) y.state y (past_at t j) (end_of t.history)) (sym is)
        (subst (λ (b : Bool). Fares b x.state x (past_at t j) (end_of t.history)) (sym (judged_fails t.answer _ _)) f)

    each : (j : ℕ) → j < length t.lanes → (j ≡ l.0) ⊎ (j ≢ l.0) → FaresAt (with_lane t l.0 lane) j
    each j below (inl e) = subst (λ (k : ℕ). FaresAt (with_lane t l.0 lane) k) (sym e) (at l.0 lane (lane_set t l.0 lane stays.within) fares)
    each j below (inr ne) = at j (lane_at t j) (ap Rattle.wdt_receiver_fsm.specs.PlainReceiver.lane_or_ended (set_other t.lanes l.0 j lane ne)) (stays.others j below ne)

-- ---- an entry more

-- it says nothing of the end
abbrev pub is_quiet : RecvEvent → Bool
is_quiet (events.Met l s) = false
is_quiet (events.Sized l files bytes) = false
is_quiet events.Finish = false
is_quiet (events.Abort l code) = false
is_quiet (events.Peer l kind) = false
is_quiet e = true

quiet_end : (s : EndPast) (e : RecvEvent) → is_quiet e ≡ true → end_after s e ≡ s
quiet_end s (events.Met l settings) q = cc
quiet_end s (events.Sized l files bytes) q = cc
quiet_end s events.Finish q = cc
quiet_end s (events.Abort l code) q = cc
quiet_end s (events.Peer l kind) q = cc
quiet_end s e q = refl

pub end_same : (g : List RecvEvent) (e : RecvEvent) → is_quiet e ≡ true → end_of (g ++ e ∷ []) ≡ end_of g
end_same g e q = end_behind g e ∙ quiet_end (end_of g) e q

-- a quiet entry of the lane
pub notes_quiet : (t : PlainReceiver) (l : Lane) (e : RecvEvent) → Stays t l → AllOf lane_of l.0 (e ∷ []) → is_quiet e ≡ true → IsAllowed (terms_of t) t.history e → Stays (noted t (e ∷ [])) l
notes_quiet t l e stays own quiet allowed = record {
  few = stays.few;
  within = stays.within;
  legal = IsLegal-more (terms_of t) t.history e stays.legal allowed;
  others = λ j below ne. subst (λ (p : RecvPast). Fares (is_failure t.answer) (lane_at t j).state (lane_at t j) p (end_of (t.history ++ e ∷ []))) (sym (other_past t.history e l.0 j own ne))
      (subst (λ (x : EndPast). Fares (is_failure t.answer) (lane_at t j).state (lane_at t j) (past_at t j) x) (sym (end_same t.history e quiet)) (stays.others j below ne));
  faultless = λ sound. ap (λ (x : EndPast). x.has_fault) (end_same t.history e quiet) ∙ stays.faultless sound;
  finished = λ come. stays.finished (sym (ap (λ (x : EndPast). x.has_finish) (end_same t.history e quiet)) ∙ come);
}
