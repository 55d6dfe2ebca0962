-- A connection between two ends, as each says or hears something, falls silent or is about to say that it
-- failed. Each is proved for the end that says ds; the other end's is the same law turned round.
use Rattle.std.proofs.Common.{◌≡◌, ◌⊎◌, List, [], ◌∷◌, ◌++◌, Bool, true, false, Option, Some, None, subst, sym, ap, ◌∙◌, inl, inr, refl, append_assoc, append-nil}
use Rattle.std.proofs.lemmas.Bool.{both_ways, or_cases, false_from_ne_true}
use Rattle.std.proofs.lemmas.Option.{same_Some}
use Rattle.wdt_codec.specs.declared.frames.Frame.{Frame}
use Rattle.wdt_codec.specs.declared.frames.Frame.TheVariants as frames
use Rattle.wdt_sender_fsm.specs.Phases.{Phase, Open, Met, Listing, Told, Sending, Asked, Bye, Over, Message, Framed, down, up}
use Rattle.wdt_sender_fsm.specs.Talk.{moved, OneTalker}
use Rattle.wdt_pact.proofs.Below.{moved-first, says, hears, turned}
use Rattle.wdt_pact.specs.Stances.{Stance, Talks, Aborts, Silent, Follows, Rests, Hears, Between, OnLink, is_calm, is_any, is_late, stand, recv_stance}
use Rattle.wdt_receiver_fsm.specs.declared.states.RecvLane.{RecvLane}
use Rattle.wdt_receiver_fsm.specs.declared.inputs.RecvIn.TheVariants as recv_inputs
use Rattle.wdt_receiver_fsm.specs.Phases as recv
use Rattle.wdt_pact.specs.Pairs.{RecvHold, RecvHas}
use Rattle.wdt_pact.specs.Lists.{in_hand, is_done, has_done}

module _ {D U : Type 0} (down : Phase → D → Option Phase) (up : Phase → U → Option Phase) (fd : D → Bool) (fu : U → Bool) (cd cu : Phase → Bool) (one : OneTalker down up) where
  abbrev On : Stance → Stance → List D → List U → Type 0
  On = Between down up fd fu cd cu

  -- who has the word hears nothing but a failure
  pub nothing_comes : (s t a : Phase) (m : D) (us : List U) → down s m ≡ Some t → moved up us s ≡ Some a → us ≡ []
  nothing_comes s t a m [] e f = refl
  nothing_comes s t a m (u ∷ us) e f = let x = moved-first up s a u us f in absurd (one s t x.0 m u e x.1)

  follows_on : (s t : Phase) (m : D) (us : List U) → down s m ≡ Some t → Follows up s us → Follows up t us
  follows_on s t m us e f = record { at = t; moves = subst (λ (xs : List U). moved up xs t ≡ Some t) (sym (nothing_comes s t f.at m us e f.moves)) refl }

  -- what one end says is a move of its phase
  pub says_one : ((s t : Phase) (m : D) → down s m ≡ Some t → cu s ≡ true → cu t ≡ true) → (s t : Phase) (r : Stance) (ds : List D) (us : List U) (m : D) → On (Talks s) r ds us → down s m ≡ Some t → On (Talks t) r (ds ++ m ∷ []) us
  says_one stays s t (Talks r) ds us m a e = says down up one s r t ds us m a e
  says_one stays s t Aborts ds us m a e =
      let none = nothing_comes s t a.at m us e a.moves in
      record {
        at = t;
        moves = subst (λ (xs : List U). moved up xs t ≡ Some t) (sym none) refl;
        calm_at = stays s t m e (subst (λ (x : Phase). cu x ≡ true) (sym (same_Some s a.at (subst (λ (xs : List U). moved up xs s ≡ Some a.at) none a.moves))) a.calm_at);
      }
  says_one stays s t Silent ds us m (inl a) e = inl (follows_on s t m us e a)
  says_one stays s t Silent ds us m (inr a) e =
      let none = nothing_comes s t a.rests.at m a.before e a.rests.moves in
      inr record {
        before = a.before;
        last = a.last;
        all = a.all;
        failure = a.failure;
        rests = record {
          at = t;
          moves = subst (λ (xs : List U). moved up xs t ≡ Some t) (sym none) refl;
          calm_at = stays s t m e (subst (λ (x : Phase). cu x ≡ true) (sym (same_Some s a.rests.at (subst (λ (xs : List U). moved up xs s ≡ Some a.rests.at) none a.rests.moves))) a.rests.calm_at);
        };
      }

  -- and so are several, one after the other
  pub says_all : ((s t : Phase) (m : D) → down s m ≡ Some t → cu s ≡ true → cu t ≡ true) → (ms : List D) (s t : Phase) (r : Stance) (ds : List D) (us : List U) → On (Talks s) r ds us → moved down ms s ≡ Some t → On (Talks t) r (ds ++ ms) us
  says_all stays [] s t r ds us a e = subst (λ (x : Phase). On (Talks x) r (ds ++ []) us) (same_Some s t e) (subst (λ (xs : List D). On (Talks s) r xs us) (sym (append-nil ds)) a)
  says_all stays (m ∷ ms) s t r ds us a e =
      let f = moved-first down s t m ms e in
      subst (λ (xs : List D). On (Talks t) r xs us) (append_assoc ds (m ∷ []) ms)
      (says_all stays ms f.0 t r (ds ++ m ∷ []) us (says_one stays s f.0 r ds us m a f.1) f.2)

  -- what one end hears has its move, but for a failure
  pub hears_one : (s : Phase) (r : Stance) (ds : List D) (us : List U) (u : U) → On (Talks s) r ds (u ∷ us) → fu u ≡ false → (q : Phase) × (up s u ≡ Some q) × On (Talks q) r ds us
  hears_one s (Talks r) ds us u a e =
      let h = hears up down r s us ds u (turned down up s r ds (u ∷ us) a) in
      (h.0, h.1, turned up down r h.0 us ds h.2)
  hears_one s Aborts ds us u a e = let f = moved-first up s a.at u us a.moves in (f.0, f.1, record { at = a.at; moves = f.2; calm_at = a.calm_at })
  hears_one s Silent ds us u (inl a) e = let f = moved-first up s a.at u us a.moves in (f.0, f.1, inl record { at = a.at; moves = f.2 })
  hears_one s Silent ds us u (inr a) e = go a.before a.all a.rests where
    go : (before : List U) → u ∷ us ≡ before ++ a.last ∷ [] → Rests up cu s before → (q : Phase) × (up s u ≡ Some q) × Hears up cu fu q us
    go [] is rests = let same : u ≡ a.last = cc in absurd (both_ways (fu u) e (subst (λ (x : U). fu x ≡ true) (sym same) a.failure))
    go (b ∷ bs) is rests =
        let same : u ≡ b = cc in
        let f = moved-first up s rests.at b bs rests.moves in
        (f.0, subst (λ (x : U). up s x ≡ Some f.0) (sym same) f.1, inr record { before = bs; last = a.last; all = cc; failure = a.failure; rests = record { at = rests.at; moves = f.2; calm_at = rests.calm_at } })

  -- the end that says ds falls silent
  pub falls_silent : (s : Phase) (r : Stance) (ds : List D) (us : List U) → On (Talks s) r ds us → On Silent r ds us
  falls_silent s (Talks r) ds us (inl a) = inl record { at = s; moves = a.1 }
  falls_silent s (Talks r) ds us (inr a) = inl record { at = r; moves = subst (λ (xs : List D). moved down xs r ≡ Some r) (sym a.0) refl }
  falls_silent s Aborts ds us a = tt
  falls_silent s Silent ds us a = tt

  -- or is about to say that it failed
  pub fails_soon : ((p q : Phase) (u : U) → up p u ≡ Some q → cd q ≡ true) → (s : Phase) (r : Stance) (ds : List D) (us : List U) → cd s ≡ true → On (Talks s) r ds us → On Aborts r ds us
  fails_soon calms s (Talks r) ds us calm (inl a) = record { at = s; moves = a.1; calm_at = calm }
  fails_soon calms s (Talks r) ds us calm (inr a) = record { at = r; moves = subst (λ (xs : List D). moved down xs r ≡ Some r) (sym a.0) refl; calm_at = go us s calm a.1 } where
    go : (us : List U) (s : Phase) → cd s ≡ true → moved up us s ≡ Some r → cd r ≡ true
    go [] s c e = subst (λ (x : Phase). cd x ≡ true) (same_Some s r e) c
    go (u ∷ us) s c e = let f = moved-first up s r u us e in go us f.0 (calms s f.0 u f.1) f.2
  fails_soon calms s Aborts ds us calm a = tt
  fails_soon calms s Silent ds us calm a = tt

  -- and says it
  pub says_failure : (r : Stance) (ds : List D) (us : List U) (m : D) → fd m ≡ true → On Aborts r ds us → On Silent r (ds ++ m ∷ []) us
  says_failure (Talks r) ds us m e a = inr record { before = ds; last = m; all = refl; failure = e; rests = a }
  says_failure Aborts ds us m e a = tt
  says_failure Silent ds us m e a = tt

  -- seen from the other end
  pub turned_on : (s r : Stance) (ds : List D) (us : List U) → Between down up fd fu cd cu s r ds us → Between up down fu fd cu cd r s us ds
  turned_on (Talks s) (Talks r) ds us a = turned down up s r ds us a
  turned_on (Talks s) Aborts ds us a = a
  turned_on (Talks s) Silent ds us a = a
  turned_on Aborts (Talks r) ds us a = a
  turned_on Silent (Talks r) ds us a = a
  turned_on Aborts Aborts ds us a = tt
  turned_on Aborts Silent ds us a = tt
  turned_on Silent Aborts ds us a = tt
  turned_on Silent Silent ds us a = tt

-- ---- the two ends of a transfer

calm_at : (p q : Phase) → is_calm p ≡ true → Some p ≡ Some q → is_calm q ≡ true
calm_at p q c e = subst (λ (x : Phase). is_calm x ≡ true) (same_Some p q e) c

pub up_calms : (p q : Phase) (u : Frame) → up p u ≡ Some q → is_calm q ≡ true
up_calms (Met true) q (frames.Greeting m) e = calm_at Listing q refl e
up_calms (Met false) q (frames.Greeting m) e = calm_at Told q refl e
up_calms (Met ask) q frames.Done e = calm_at Bye q refl e
up_calms Listing q (frames.Chunks have) e = calm_at Told q refl e
up_calms Asked q frames.Wait e = calm_at Asked q refl e
up_calms Asked q (frames.ErrMarks ms) e = calm_at Sending q refl e
up_calms Asked q frames.Done e = calm_at Bye q refl e
up_calms p q u e = cc

pub any_stays : (s t : Phase) (m : Message) → down s m ≡ Some t → is_any s ≡ true → is_any t ≡ true
any_stays s t m e c = refl

pub calm_stays : (s t : Phase) (u : Frame) → up s u ≡ Some t → is_calm s ≡ true → is_calm t ≡ true
calm_stays s t u e c = up_calms s t u e

pub any_calms : (p q : Phase) (m : Message) → down p m ≡ Some q → is_any q ≡ true
any_calms p q m e = refl

-- ---- a connection that waits

abbrev is_open : Phase → Bool
is_open Open = true
is_open _ = false

-- no word leads back to the start
up_leaves : (p q : Phase) (u : Frame) → up p u ≡ Some q → is_open q ≡ false
up_leaves (Met true) q (frames.Greeting m) e = ap is_open (sym (same_Some Listing q e))
up_leaves (Met false) q (frames.Greeting m) e = ap is_open (sym (same_Some Told q e))
up_leaves (Met ask) q frames.Done e = ap is_open (sym (same_Some Bye q e))
up_leaves Listing q (frames.Chunks have) e = ap is_open (sym (same_Some Told q e))
up_leaves Asked q frames.Wait e = ap is_open (sym (same_Some Asked q e))
up_leaves Asked q (frames.ErrMarks ms) e = ap is_open (sym (same_Some Sending q e))
up_leaves Asked q frames.Done e = ap is_open (sym (same_Some Bye q e))
up_leaves p q u e = cc

-- so only the start itself and what the first word leads to are phases there
pub waits_at : (s : Phase) (ds : List Message) (us : List Frame) → OnLink (Talks s) (Talks Open) ds us → (us ≡ []) × ((s ≡ Open) ⊎ ((ask : Bool) × (s ≡ Met ask)))
waits_at s [] us (inl a) = (a.0, inl (sym (same_Some Open s a.1)))
waits_at s (Framed (frames.Settings x) ∷ []) us (inl a) = (a.0, inr (x.ask, sym (same_Some (Met x.ask) s a.1)))
waits_at s (Framed (frames.Settings x) ∷ d ∷ ds) us (inl a) = cc
waits_at s (d ∷ ds) us (inl a) = cc
waits_at s ds [] (inr a) = (refl, inl (same_Some s Open a.1))
waits_at s ds (u ∷ us) (inr a) = go us s u a.1 where
  go : {P : Type 0} (us : List Frame) (s : Phase) (u : Frame) → moved up (u ∷ us) s ≡ Some Open → P
  go [] s u e = let f = moved-first up s Open u [] e in absurd (both_ways true (sym (ap is_open (same_Some f.0 Open f.2)) ∙ up_leaves s f.0 u f.1) refl)
  go (v ∷ us) s u e = let f = moved-first up s Open u (v ∷ us) e in go us f.0 v f.2

abbrev pub is_first : Phase → Bool
is_first Open = true
is_first (Met ask) = true
is_first _ = false

pub waits_not : {P : Type 0} (s : Phase) (ds : List Message) (us : List Frame) → OnLink (Talks s) (Talks Open) ds us → is_first s ≡ false → P
waits_not {P} s ds us a e = go (waits_at s ds us a).1 where
  go : (s ≡ Open) ⊎ ((ask : Bool) × (s ≡ Met ask)) → P
  go (inl x) = absurd (both_ways (is_first s) e (ap is_first x))
  go (inr x) = absurd (both_ways (is_first s) e (ap is_first x.1))

-- ---- what a sender that sends blocks is told and has told

pub late_stays : (p q : Phase) (m : Message) → down p m ≡ Some q → is_late p ≡ true → is_late q ≡ true
late_stays Bye q (Framed frames.Done) e l = ap is_late (sym (same_Some Over q e))
late_stays Bye q m e l = cc
late_stays Asked q m e l = cc
late_stays Over q m e l = cc
late_stays p q m e l = cc

pub all_late : (ms : List Message) (p q : Phase) → moved down ms p ≡ Some q → is_late p ≡ true → is_late q ≡ true
all_late [] p q e l = subst (λ (x : Phase). is_late x ≡ true) (same_Some p q e) l
all_late (m ∷ ms) p q e l = let f = moved-first down p q m ms e in all_late ms f.0 q f.2 (late_stays p f.0 m f.1 l)

late_done : (m : Message) (p q : Phase) → is_done m ≡ true → down p m ≡ Some q → is_late q ≡ true
late_done (Framed frames.Done) Sending q d e = ap is_late (sym (same_Some Asked q e))
late_done (Framed frames.Done) Bye q d e = ap is_late (sym (same_Some Over q e))
late_done (Framed frames.Done) p q d e = cc
late_done m p q d e = cc

pub done_late : (p q : Phase) (m : Message) → down p m ≡ Some q → is_done m ≡ true → is_late q ≡ true
done_late p q m e d = late_done m p q d e

pub all_done_late : (ms : List Message) (p q : Phase) → moved down ms p ≡ Some q → has_done ms ≡ true → is_late q ≡ true
all_done_late [] p q e d = cc
all_done_late (m ∷ ms) p q e d = go (all_done_late ms) (or_cases (is_done m) (has_done ms) d) where
  f : (x : Phase) × (down p m ≡ Some x) × (moved down ms x ≡ Some q)
  f = moved-first down p q m ms e

  go : ((x y : Phase) → moved down ms x ≡ Some y → has_done ms ≡ true → is_late y ≡ true) → (is_done m ≡ true) ⊎ (has_done ms ≡ true) → is_late q ≡ true
  go more (inl x) = all_late ms f.0 q f.2 (done_late p f.0 m f.1 x)
  go more (inr x) = more f.0 q f.2 x

-- it hasn't said its last word, and the receiver isn't past it
pub sending_talk : (q : Phase) (ds : List Message) (us : List Frame) → OnLink (Talks Sending) (Talks q) ds us → (is_late q ≡ false) × (has_done ds ≡ false)
sending_talk q ds us (inl a) = (false_from_ne_true (is_late q) (λ e. both_ways true (sym (all_late ds q Sending a.1 e)) refl), false_from_ne_true (has_done ds) (λ e. both_ways true (sym (all_done_late ds q Sending a.1 e)) refl))
sending_talk q ds [] (inr a) = (ap is_late (sym (same_Some Sending q a.1)), ap has_done a.0)
sending_talk q ds (u ∷ us) (inr a) = cc

hand_late : (o : Option Phase) (f : Frame) (q : Phase) → stand false (recv.phase_heard (Framed f) o) ≡ Talks q → has_done (Framed f ∷ []) ≡ true → is_late q ≡ true
hand_late None f q e d = cc
hand_late (Some p) f q e d = go (down p (Framed f)) refl e (or_cases (is_done (Framed f)) false d) where
  go : (o : Option Phase) → down p (Framed f) ≡ o → stand false o ≡ Talks q → (is_done (Framed f) ≡ true) ⊎ (false ≡ true) → is_late q ≡ true
  go None is x y = cc
  go (Some z) is x (inl y) = let same : z ≡ q = cc in subst (λ (v : Phase). is_late v ≡ true) same (done_late p z (Framed f) is y)
  go (Some z) is x (inr y) = cc

pub held_late : (lane : RecvLane) (idle acked : Bool) (hold : RecvHold) (q : Phase) → recv_stance lane idle acked hold ≡ Talks q → has_done (in_hand hold) ≡ true → is_late q ≡ true
held_late lane idle acked (RecvHas (recv_inputs.Got f)) q e d = hand_late (recv.phase_by lane idle false lane.state) f q e d
held_late lane idle acked hold q e d = cc
