-- How a step may end, with its act and the end's answer.
use Rattle.std.proofs.Common.{◌≡◌, ◌⊎◌, inl, inr, ℕ, ◌≤◌, ◌&&◌, ◌||◌, List, [], ◌∷◌, ◌++◌, Bool, true, false, not, None, subst, sym, ap, ◌∙◌, refl, is_some}
use Rattle.std.proofs.lemmas.Bool.{both_ways, or_from}
use Rattle.wdt_units.specs.declared.numbers.Lane.{Lane}
use Rattle.wdt_codec.specs.declared.frames.Frame.{Frame}
use Rattle.wdt_codec.specs.declared.frames.Frame.TheVariants as frames
use Rattle.wdt_sender_fsm.specs.declared.acts.SendAct.{SendAct}
use Rattle.wdt_sender_fsm.specs.declared.acts.SendAct.TheVariants as acts
use Rattle.wdt_sender_fsm.specs.declared.answers.EndAnswer.{EndAnswer}
use Rattle.wdt_sender_fsm.specs.declared.answers.EndAnswer.TheVariants as answers
use Rattle.wdt_sender_fsm.specs.declared.events.SendEvent.{SendEvent}
use Rattle.wdt_sender_fsm.specs.declared.inputs.SendIn.{SendIn}
use Rattle.wdt_sender_fsm.specs.declared.inputs.SendIn.TheVariants as inputs
use Rattle.wdt_sender_fsm.specs.declared.states.SendLane.{SendLane}
use Rattle.wdt_sender_fsm.specs.declared.states.SendState.{SendState}
use Rattle.wdt_sender_fsm.specs.declared.states.SendState.TheVariants as states
use Rattle.wdt_sender_fsm.specs.Causes.{IsCause, Follows}
use Rattle.wdt_sender_fsm.specs.PlainSender.{PlainSender, lane_at, is_closed, is_ended, with_lane, every_lane, is_done_with, is_out}
use Rattle.wdt_sender_fsm.specs.Rows.{is_allowed, is_mute, row_of}
use Rattle.wdt_sender_fsm.specs.Rules.{is_failure, code_of, judged, by_voice}
use Rattle.wdt_sender_fsm.specs.SenderHistory.{LanePast, past_of, past_of-more, past_after, lane_of, end_of}
use Rattle.wdt_sender_fsm.specs.Stops.{is_stop, is_through, is_silent, stops}
use Rattle.wdt_sender_fsm.specs.Turn.{Step, leaves, tells_failure, gives_up}
use Rattle.wdt_sender_fsm.specs.Writes.{FitsAct, IsLawful}
use Rattle.wdt_sender_fsm.proofs.lemmas.Notes.{goes_on_behind, Aside, own_quit, own_acked, own_open}
use Rattle.wdt_sender_fsm.proofs.lemmas.Works.{Works, judged_same}

-- a step of a lane in a state with an input: its act is Stop exactly where it must be, the answer has its
-- cause, and what is to be written is in the grammar's ranges
pub record Right (s : PlainSender) (l : Lane) (state : SendState) (input : SendIn) (step : Step) : Type 0 where
  pub stop : is_stop step.0 ≡ stops state input (is_through step.1 l.0) (is_failure step.1.answer)
  pub follows : Follows s l input step.1
  pub fits : IsLawful s → FitsAct s.manifest step.0

-- ---- a lane that isn't through

pub record Free (h : List SendEvent) (l : Lane) : Type 0 where
  pub is_open : (past_of h l.0).claims.closed ≡ None
  pub quit : (past_of h l.0).has_quit ≡ false
  pub acked : (past_of h l.0).is_acked ≡ false

pub free_of : (s : PlainSender) (l : Lane) → Works s l → Free s.history l
free_of s l w = record { is_open = w.is_open; quit = w.quit; acked = w.acked }

not_through : (s : PlainSender) (l : Lane) → Free s.history l → is_through s l.0 ≡ false
not_through s l free =
    or_from (is_closed s l.0) ((past_of s.history l.0).has_quit || (past_of s.history l.0).is_acked) (ap is_some free.is_open)
    (or_from (past_of s.history l.0).has_quit (past_of s.history l.0).is_acked free.quit free.acked)

pub free_more : (h : List SendEvent) (l : Lane) (e : SendEvent) → Free h l → goes_on_behind e ≡ true → Aside e → lane_of e ≡ l.0 → Free (h ++ e ∷ []) l
free_more h l e free on aside of =
    record {
      is_open = ap (λ (p : LanePast). p.claims.closed) (past_of-more h e l.0)
          ∙ subst (λ (k : ℕ). (past_after k (past_of h l.0) e).claims.closed ≡ None) of (own_open e (past_of h l.0) aside free.is_open);
      quit = ap (λ (p : LanePast). p.has_quit) (past_of-more h e l.0) ∙ own_quit e l.0 (past_of h l.0) on ∙ free.quit;
      acked = ap (λ (p : LanePast). p.is_acked) (past_of-more h e l.0) ∙ own_acked e l.0 (past_of h l.0) on ∙ free.acked;
    }

-- ---- when the act is Stop

stops_not : (a th f silent : Bool) → a ≡ true → th ≡ false → f ≡ false → false ≡ (not a || th || (f && silent))
stops_not false th f silent x y z = cc
stops_not true true f silent x y z = cc
stops_not true false true silent x y z = cc
stops_not true false false silent x y z = refl

stops_through : (a th f silent : Bool) → th ≡ true → true ≡ (not a || th || (f && silent))
stops_through a false f silent x = cc
stops_through true true f silent x = refl
stops_through false true f silent x = refl

stops_stray : (a th f silent : Bool) → a ≡ false → true ≡ (not a || th || (f && silent))
stops_stray true th f silent x = cc
stops_stray false th f silent x = refl

stops_failed : (a th f silent b : Bool) → th ≡ false → f ≡ true → (not a || false || (true && silent)) ≡ b → b ≡ (not a || th || (f && silent))
stops_failed a true f silent b x y z = cc
stops_failed a false false silent b x y z = cc
stops_failed a false true silent b x y z = sym z

pub stops_silent : (a th f silent : Bool) → f ≡ true → silent ≡ true → true ≡ (not a || th || (f && silent))
stops_silent a th false silent x y = cc
stops_silent a th true false x y = cc
stops_silent true true true true x y = refl
stops_silent true false true true x y = refl
stops_silent false th true true x y = refl

-- on a failed end a lane that isn't through is silent where its row leaves nothing to tell
abbrev IsMuteBy : SendState → SendIn → Type 0
IsMuteBy state input = (not (is_allowed state input) || false || (true && is_silent state input)) ≡ is_mute (row_of state input)

checkpoint_mute : (frame : Frame) → IsMuteBy states.ReadLocalCheckpoint (inputs.Got frame)
checkpoint_mute (frames.Abort code) = refl
checkpoint_mute frame = refl

chunks_mute : (frame : Frame) → IsMuteBy states.ReadFileChunks (inputs.Got frame)
chunks_mute (frames.Abort code) = refl
chunks_mute frame = refl

command_mute : (frame : Frame) → IsMuteBy states.ReadReceiverCmd (inputs.Got frame)
command_mute (frames.Abort code) = refl
command_mute frame = refl

mute_by : (state : SendState) (input : SendIn) → is_ended state ≡ false → IsMuteBy state input
mute_by states.Ended input e = cc
mute_by states.ReadLocalCheckpoint (inputs.Got frame) e = checkpoint_mute frame
mute_by states.ReadFileChunks (inputs.Got frame) e = chunks_mute frame
mute_by states.ReadReceiverCmd (inputs.Got frame) e = command_mute frame
mute_by states.SendBlocks (inputs.SourceLost true) e = refl
mute_by states.SendBlocks (inputs.SourceLost false) e = refl
mute_by states.Connect inputs.Start e = refl
mute_by states.SendSettings inputs.Start e = refl
mute_by states.SendSize inputs.Start e = refl
mute_by states.SendDone inputs.Start e = refl
mute_by states.AnswerDone inputs.Start e = refl
mute_by states.SendAbort inputs.Start e = refl
mute_by state input e = refl

-- ---- the answer

judged_stays : (a : EndAnswer) (x y : Bool) → is_failure a ≡ true → judged a x y ≡ a
judged_stays a x y fails = rw fails refl

pub put_failure : (t : PlainSender) (l : Lane) (lane : SendLane) → is_failure (with_lane t l lane).answer ≡ is_failure t.answer
put_failure t l lane = judged_same is_failure refl refl t.answer ((end_of t.history).has_finish && every_lane (with_lane t l lane) is_done_with) (every_lane (with_lane t l lane) is_out)

pub put_answer : (t : PlainSender) (l : Lane) (lane : SendLane) → is_failure t.answer ≡ true → (with_lane t l lane).answer ≡ t.answer
put_answer t l lane fails = judged_stays t.answer ((end_of t.history).has_finish && every_lane (with_lane t l lane) is_done_with) (every_lane (with_lane t l lane) is_out) fails

cause_sound : (s : PlainSender) (l : Lane) (input : SendIn) (h : List SendEvent) (a : EndAnswer) → is_failure a ≡ false → IsCause s l input h a
cause_sound s l input h answers.Going is = tt
cause_sound s l input h answers.Done is = tt
cause_sound s l input h answers.Link is = tt
cause_sound s l input h a is = cc

pub fails_now : (s t : PlainSender) (l : Lane) (input : SendIn) → is_failure s.answer ≡ false → IsCause s l input t.history t.answer → Follows s l input t
fails_now s t l input sound cause =
    record {
      stays = λ f. absurd (both_ways (is_failure s.answer) sound f);
      still = λ f. absurd (both_ways (is_failure s.answer) sound f);
      caused = λ f. cause;
    }

pub follows_sound : (s t : PlainSender) (l : Lane) (input : SendIn) → is_failure s.answer ≡ false → is_failure t.answer ≡ false → Follows s l input t
follows_sound s t l input sound is = fails_now s t l input sound (cause_sound s l input t.history t.answer is)

pub follows_same : (s : PlainSender) (l : Lane) (input : SendIn) → Follows s l input s
follows_same s l input = record { stays = λ f. refl; still = λ f. refl; caused = λ f. cause_sound s l input s.history s.answer f }

follows_put : (s t : PlainSender) (l : Lane) (input : SendIn) (lane : SendLane) → Follows s l input t → Follows s l input (with_lane t l lane)
follows_put s t l input lane f =
    record {
      stays = λ x. put_answer t l lane (ap is_failure (f.stays x) ∙ x) ∙ f.stays x;
      still = f.still;
      caused = λ x. go (is_failure t.answer) refl (f.caused x);
    } where
      go : (b : Bool) → is_failure t.answer ≡ b → IsCause s l input t.history t.answer → IsCause s l input t.history (with_lane t l lane).answer
      go true is x = subst (λ (a : EndAnswer). IsCause s l input t.history a) (sym (put_answer t l lane is)) x
      go false is x = cause_sound s l input t.history (with_lane t l lane).answer (put_failure t l lane ∙ is)

-- ---- the endings

-- the lane goes on
pub going : (s t : PlainSender) (l : Lane) (lane : SendLane) (act : SendAct) (state : SendState) (input : SendIn) → is_allowed state input ≡ true → is_stop act ≡ false → Free t.history l → is_failure s.answer ≡ false → is_failure t.answer ≡ false → (IsLawful s → FitsAct s.manifest act) → Right s l state input (act, with_lane t l lane)
going s t l lane act state input allowed acts_on free sound is fits =
    record {
      stop = acts_on ∙ stops_not (is_allowed state input) (is_through (with_lane t l lane) l.0) (is_failure (with_lane t l lane).answer) (is_silent state input) allowed (not_through t l free) (put_failure t l lane ∙ is);
      follows = follows_put s t l input lane (follows_sound s t l input sound is);
      fits = fits;
    }

-- nothing is changed
pub waiting : (s : PlainSender) (l : Lane) (act : SendAct) (state : SendState) (input : SendIn) → is_allowed state input ≡ true → is_stop act ≡ false → Free s.history l → is_failure s.answer ≡ false → FitsAct s.manifest act → Right s l state input (act, s)
waiting s l act state input allowed acts_on free sound fits =
    record {
      stop = acts_on ∙ stops_not (is_allowed state input) (is_through s l.0) (is_failure s.answer) (is_silent state input) allowed (not_through s l free) sound;
      follows = follows_same s l input;
      fits = λ lawful. fits;
    }

pub resting : (s : PlainSender) (l : Lane) (state : SendState) (input : SendIn) → is_allowed state input ≡ false → Right s l state input (acts.Stop, s)
resting s l state input stray =
    record {
      stop = stops_stray (is_allowed state input) (is_through s l.0) (is_failure s.answer) (is_silent state input) stray;
      follows = follows_same s l input;
      fits = λ lawful. tt;
    }

-- the lane is through
pub leaving : (s t : PlainSender) (l : Lane) (lane : SendLane) (state : SendState) (input : SendIn) → is_through t l.0 ≡ true → Follows s l input t → Right s l state input (acts.Stop, with_lane t l lane)
leaving s t l lane state input through f =
    record {
      stop = stops_through (is_allowed state input) (is_through (with_lane t l lane) l.0) (is_failure (with_lane t l lane).answer) (is_silent state input) through;
      follows = follows_put s t l input lane f;
      fits = λ lawful. tt;
    }

-- it has ended
pub ended_rests : (s t : PlainSender) (l : Lane) (input : SendIn) → (is_failure t.answer ≡ true) ⊎ (is_through t l.0 ≡ true) → Follows s l input t → Right s l states.Ended input (acts.Stop, t)
ended_rests s t l input (inl fails) f = record { stop = stops_silent (is_allowed states.Ended input) (is_through t l.0) (is_failure t.answer) true fails refl; follows = f; fits = λ lawful. tt }
ended_rests s t l input (inr through) f = record { stop = stops_through (is_allowed states.Ended input) (is_through t l.0) (is_failure t.answer) true through; follows = f; fits = λ lawful. tt }

-- the end has failed, and the lane tells it where it can
pub telling : (s t : PlainSender) (l : Lane) (state : SendState) (input : SendIn) → is_ended state ≡ false → Free t.history l → is_failure t.answer ≡ true → code_of t.answer ≤ 255 → Follows s l input t → Right s l state input (gives_up t l (row_of state input))
telling s t l state input lives free fails code f = go (is_mute (row_of state input)) (mute_by state input lives) where
  go : (b : Bool) → (not (is_allowed state input) || false || (true && is_silent state input)) ≡ b → Right s l state input (by_voice b (leaves t l) (tells_failure t l))
  go true mute = record {
    stop = stops_failed (is_allowed state input) (is_through t l.0) (is_failure (leaves t l).1.answer) (is_silent state input) true (not_through t l free) (put_failure t l record { state = states.Ended; ask = (lane_at t l.0).ask } ∙ fails) mute;
    follows = follows_put s t l input record { state = states.Ended; ask = (lane_at t l.0).ask } f;
    fits = λ lawful. tt;
  }
  go false mute = record {
    stop = stops_failed (is_allowed state input) (is_through t l.0) (is_failure (tells_failure t l).1.answer) (is_silent state input) false (not_through t l free) (put_failure t l record { state = states.SendAbort; ask = (lane_at t l.0).ask } ∙ fails) mute;
    follows = follows_put s t l input record { state = states.SendAbort; ask = (lane_at t l.0).ask } f;
    fits = λ lawful. (code, tt);
  }
