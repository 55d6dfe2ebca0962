-- Each step's act, answer and frame: the rules that come before the table.
use Rattle.std.proofs.Common.{◌≡◌, ◌≢◌, ◌⊎◌, inl, inr, ℕ, zero, suc, ◌<◌, ◌≤◌, ◌&&◌, length, Bool, true, false, None, subst, sym, ap, ◌∙◌, refl, arith, is_some}
use Rattle.std.proofs.lemmas.Bool.{both_ways, and_parts, or_parts, or_left, or_right, or_from, cases_lt}
use Rattle.wdt_units.specs.declared.numbers.Lane.{Lane}
use Rattle.wdt_codec.specs.declared.frames.Frame.{Frame}
use Rattle.wdt_codec.specs.declared.frames.Frame.TheVariants as frames
use Rattle.wdt_sender_fsm.specs.declared.acts.SendAct.TheVariants as acts
use Rattle.wdt_sender_fsm.specs.declared.answers.EndAnswer.{EndAnswer}
use Rattle.wdt_sender_fsm.specs.declared.answers.EndAnswer.TheVariants as answers
use Rattle.wdt_sender_fsm.specs.declared.inputs.SendIn.{SendIn}
use Rattle.wdt_sender_fsm.specs.declared.inputs.SendIn.TheVariants as inputs
use Rattle.wdt_sender_fsm.specs.declared.states.SendState.{SendState}
use Rattle.wdt_sender_fsm.specs.declared.states.SendState.TheVariants as states
use Rattle.wdt_sender_fsm.specs.Causes.{Follows}
use Rattle.wdt_sender_fsm.specs.PlainSender.{PlainSender, lane_at, state_at, past_at, is_closed, is_ended, is_done_with, is_out, every_lane, failed}
use Rattle.wdt_sender_fsm.specs.Rows.{Row, Starved, at_checkpoint, at_chunks, at_command, row_of}
use Rattle.wdt_sender_fsm.specs.Rules.{is_failure, starved, standing, judged, by_rules, every}
use Rattle.wdt_sender_fsm.specs.Sender.{Fares, FitsIn, IsSender, is_over}
use Rattle.wdt_sender_fsm.specs.SenderHistory.{LanePast, end_of}
use Rattle.wdt_sender_fsm.specs.Stops.{is_through}
use Rattle.wdt_sender_fsm.specs.Turn.{rests, leaves, gives_up, turn_row, after_starving, is_over as is_over_row, ruled, send_turn}
use Rattle.wdt_claims.proofs.Shared.{none_of}
use Rattle.wdt_sender_fsm.proofs.lemmas.Endings.{Right, Free, leaving, ended_rests, telling, follows_same, fails_now}
use Rattle.wdt_sender_fsm.proofs.lemmas.Outcomes.{done_only}
use Rattle.wdt_sender_fsm.proofs.lemmas.Rights.{Basis}
use Rattle.wdt_sender_fsm.proofs.lemmas.Served.{row_right}
use Rattle.wdt_sender_fsm.proofs.lemmas.Turns.{alive_of, starves}
use Rattle.wdt_sender_fsm.proofs.lemmas.Works.{in_state}

-- ---- which row it is

abbrev is_starved : Row → Bool
is_starved (Starved mute) = true
is_starved _ = false

checkpoint_none : (frame : Frame) → (is_over_row (at_checkpoint frame) ≡ false) × (is_starved (at_checkpoint frame) ≡ false)
checkpoint_none frames.Done = (refl, refl)
checkpoint_none frame = (refl, refl)

chunks_none : (frame : Frame) → (is_over_row (at_chunks frame) ≡ false) × (is_starved (at_chunks frame) ≡ false)
chunks_none frames.Done = (refl, refl)
chunks_none frame = (refl, refl)

command_none : (frame : Frame) → (is_over_row (at_command frame) ≡ false) × (is_starved (at_command frame) ≡ false)
command_none frames.Done = (refl, refl)
command_none frame = (refl, refl)

-- a row isn't one of a lane that has ended, nor one of want of memory
abbrev IsOther : SendState → SendIn → Type 0
IsOther state input = (is_over_row (row_of state input) ≡ false) × (is_starved (row_of state input) ≡ false)

others : (state : SendState) (input : SendIn) → is_ended state ≡ false → input ≢ inputs.Starved → IsOther state input
others states.Ended input lives some = cc
others state inputs.Starved lives some = absurd (some refl)
others states.ReadLocalCheckpoint (inputs.Got frame) lives some = checkpoint_none frame
others states.ReadFileChunks (inputs.Got frame) lives some = chunks_none frame
others states.ReadReceiverCmd (inputs.Got frame) lives some = command_none frame
others states.Connect inputs.Start lives some = (refl, refl)
others states.SendSettings inputs.Start lives some = (refl, refl)
others states.SendSize inputs.Start lives some = (refl, refl)
others states.SendBlocks inputs.Start lives some = (refl, refl)
others states.SendDone inputs.Start lives some = (refl, refl)
others states.AnswerDone inputs.Start lives some = (refl, refl)
others states.SendAbort inputs.Start lives some = (refl, refl)
others state input lives some = (refl, refl)

lives_of : (state : SendState) (input : SendIn) → is_over_row (row_of state input) ≡ false → is_ended state ≡ false
lives_of states.Ended input e = cc
lives_of state input e = refl

starved_row : (state : SendState) → is_ended state ≡ false → is_over_row (row_of state inputs.Starved) ≡ false
starved_row states.Ended lives = cc
starved_row state lives = refl

is_memory : (input : SendIn) → (input ≡ inputs.Starved) ⊎ (input ≢ inputs.Starved)
is_memory inputs.Starved = inl refl
is_memory inputs.Start = inr (λ e. cc)
is_memory inputs.Linked = inr (λ e. cc)
is_memory inputs.NoLink = inr (λ e. cc)
is_memory inputs.Wrote = inr (λ e. cc)
is_memory inputs.Lost = inr (λ e. cc)
is_memory (inputs.Got frame) = inr (λ e. cc)
is_memory (inputs.Bad at) = inr (λ e. cc)
is_memory (inputs.SourceLost unwritten) = inr (λ e. cc)

is_end : (state : SendState) → (state ≡ states.Ended) ⊎ (is_ended state ≡ false)
is_end states.Ended = inl refl
is_end state = inr refl

-- only a lane that has ended has that row
ended_of : (state : SendState) (input : SendIn) → is_over_row (row_of state input) ≡ true → state ≡ states.Ended
ended_of state input over = go (is_end state) (is_memory input) where
  go : (state ≡ states.Ended) ⊎ (is_ended state ≡ false) → (input ≡ inputs.Starved) ⊎ (input ≢ inputs.Starved) → state ≡ states.Ended
  go (inl e) m = e
  go (inr lives) (inl e) = absurd (both_ways (is_over_row (row_of state inputs.Starved)) (starved_row state lives) (subst (λ (x : SendIn). is_over_row (row_of state x) ≡ true) e over))
  go (inr lives) (inr some) = absurd (both_ways (is_over_row (row_of state input)) (others state input lives some).0 over)

-- ---- the rules

-- what holds of the outcome of each rule where that rule is the first to hold
by_first : {X : Type 0} (P : X → Type 0) (a b c : Bool) (w x y z : X) → (a ≡ true → P w) → (b ≡ true → P x) → (a ≡ false → b ≡ false → c ≡ true → P y) → (a ≡ false → b ≡ false → c ≡ false → P z) → P (by_rules a b c w x y z)
by_first P true b c w x y z f g h k = f refl
by_first P false true c w x y z f g h k = g refl
by_first P false false true w x y z f g h k = h refl refl refl
by_first P false false false w x y z f g h k = k refl refl refl

-- a lane that has ended is through, or the end has failed
through_or_failed : (t : PlainSender) (l : Lane) → IsSender t → l.0 < length t.lanes → state_at t l.0 ≡ states.Ended → (is_failure t.answer ≡ true) ⊎ (is_through t l.0 ≡ true)
through_or_failed t l is within here = go (is_closed t l.0) refl where
  ends : (past_at t l.0).claims.closed ≡ None → Fares (is_failure t.answer) states.Ended (lane_at t l.0).ask (past_at t l.0) (end_of t.history)
  ends opens = subst (λ (x : SendState). Fares (is_failure t.answer) x (lane_at t l.0).ask (past_at t l.0) (end_of t.history)) here (is.lanes l.0 within opens)

  past_over : (p : LanePast) → (p.has_quit ≡ true) ⊎ (p.is_acked ≡ true) → is_over p ≡ true
  past_over p (inl e) = or_left p.has_quit p.is_acked e
  past_over p (inr e) = or_right p.has_quit p.is_acked e

  open_ends : (is_failure t.answer ≡ true) ⊎ (((past_at t l.0).has_quit ≡ true) ⊎ ((past_at t l.0).is_acked ≡ true)) → (is_failure t.answer ≡ true) ⊎ (is_through t l.0 ≡ true)
  open_ends (inl fails) = inl fails
  open_ends (inr over) = inr (or_right (is_closed t l.0) (is_over (past_at t l.0)) (past_over (past_at t l.0) over))

  go : (c : Bool) → is_closed t l.0 ≡ c → (is_failure t.answer ≡ true) ⊎ (is_through t l.0 ≡ true)
  go true closed = inr (or_left (is_closed t l.0) (is_over (past_at t l.0)) closed)
  go false closed = open_ends (ends (none_of (past_at t l.0).claims.closed closed))

-- a step by the rules, where the answer before the row follows
ruled_right : (s t : PlainSender) (l : Lane) (state : SendState) (input : SendIn) → IsSender t → l.0 < length t.lanes → state_at t l.0 ≡ state → Follows s l input t → (Basis t l → is_ended state ≡ false → Fares (is_failure t.answer) state (lane_at t l.0).ask (past_at t l.0) (end_of t.history) → Right s l state input (turn_row t l (row_of state input))) → Right s l state input (ruled t l (row_of state input))
ruled_right s t l state input is within here follows served =
    by_first (Right s l state input) (is_over_row (row_of state input)) (is_closed t l.0) (is_failure t.answer) (rests t) (leaves t l) (gives_up t l (row_of state input)) (turn_row t l (row_of state input))
    (λ over. let end : state ≡ states.Ended = ended_of state input over in
    subst (λ (x : SendState). Right s l x input (acts.Stop, t)) (sym end) (ended_rests s t l input (through_or_failed t l is within (here ∙ end)) follows))
    (λ closed. leaving s t l (in_state t l states.Ended) state input (or_left (is_closed t l.0) (is_over (past_at t l.0)) closed) follows)
    (λ goes closed fails. telling s t l state input (lives_of state input goes) (free_of goes closed) fails is.answer.code follows)
    (λ goes closed sound. served record { within = within; free = free_of goes closed; sound = sound; planned = is.plan.planned } (lives_of state input goes)
    (subst (λ (x : SendState). Fares (is_failure t.answer) x (lane_at t l.0).ask (past_at t l.0) (end_of t.history)) here (is.lanes l.0 within (none_of (past_at t l.0).claims.closed closed)))) where
      free_of : is_over_row (row_of state input) ≡ false → is_closed t l.0 ≡ false → Free t.history l
      free_of goes closed =
          let opens : (past_at t l.0).claims.closed ≡ None = none_of (past_at t l.0).claims.closed closed in
          let both = or_parts (past_at t l.0).has_quit (past_at t l.0).is_acked (alive_of t l state input is.ended within here goes) in
          record { is_open = opens; quit = both.0; acked = both.1 }

-- ---- want of memory

every_at : (n : ℕ) (f : ℕ → Bool) → every n f ≡ true → (l : ℕ) → l < n → f l ≡ true
every_at zero f all l within = absurd (omega (arith, within))
every_at (suc n) f all l within = go (every_at n f (and_parts (every n f) (f n) all).0 l) (cases_lt l n) where
  go : (l < n → f l ≡ true) → (l < n) ⊎ (n ≤ l) → f l ≡ true
  go before (inl x) = before x
  go before (inr x) = subst (λ (k : ℕ). f k ≡ true) (omega (arith, x, within)) (and_parts (every n f) (f n) all).1

link_stands : (d o : Bool) → standing d o ≡ answers.Link → o ≡ true
link_stands true o e = cc
link_stands false true e = refl
link_stands false false e = cc

-- an end that is done or has no lane left has none that goes on
pub all_out : (s : PlainSender) (l : Lane) (a : EndAnswer) → s.answer ≡ a → is_failure (starved a) ≡ false → IsSender s → l.0 < length s.lanes → Free s.history l → is_ended (state_at s l.0) ≡ false → ⊥
all_out s l answers.Done e sound is within free lives =
    let d : Bool = (end_of s.history).has_finish && every_lane s is_done_with in
    let done : ((end_of s.history).has_finish && every_lane s is_done_with) ≡ true =
    done_only ((end_of s.history).has_finish && every_lane s is_done_with) (every_lane s is_out) (sym (ap (λ (a : EndAnswer). judged a ((end_of s.history).has_finish && every_lane s is_done_with) (every_lane s is_out)) e) ∙ sym is.answer.follows ∙ e) in
    both_ways (is_done_with s l.0)
    (or_from (past_at s l.0).is_acked (is_closed s l.0) free.acked (ap is_some free.is_open))
    (every_at (length s.lanes) (is_done_with s) (and_parts (end_of s.history).has_finish (every_lane s is_done_with) done).1 l.0 within)
all_out s l answers.Link e sound is within free lives =
    let out : every_lane s is_out ≡ true =
    link_stands ((end_of s.history).has_finish && every_lane s is_done_with) (every_lane s is_out) (sym (ap (λ (a : EndAnswer). judged a ((end_of s.history).has_finish && every_lane s is_done_with) (every_lane s is_out)) e) ∙ sym is.answer.follows ∙ e) in
    both_ways (is_out s l.0) (or_from (is_ended (state_at s l.0)) (is_closed s l.0) lives (ap is_some free.is_open)) (every_at (length s.lanes) (is_out s) out l.0 within)
all_out s l a e sound is within free lives = cc

follows_starved : (s : PlainSender) (l : Lane) (input : SendIn) (a : EndAnswer) → s.answer ≡ a → input ≡ inputs.Starved → Follows s l input (failed s (starved a))
follows_starved s l input answers.Going e starves_is = fails_now s (failed s answers.NoMemory) l input (ap is_failure e) starves_is
follows_starved s l input a e starves_is = subst (λ (x : EndAnswer). Follows s l input (failed s x)) e (follows_same s l input)

-- ---- a step

starving : (s : PlainSender) (row : Row) → ((is_starved row ≡ true) × (after_starving s row ≡ failed s (starved s.answer))) ⊎ ((is_starved row ≡ false) × (after_starving s row ≡ s))
starving s (Starved mute) = inl (refl, refl)
starving s row = inr (refl, refl)

memory_row : (state : SendState) → is_ended state ≡ false → is_starved (row_of state inputs.Starved) ≡ true
memory_row states.Ended lives = cc
memory_row state lives = refl

not_memory : (state : SendState) (input : SendIn) → is_starved (row_of state input) ≡ true → input ≢ inputs.Starved → ⊥
not_memory state input is some = go (is_end state) where
  go : (state ≡ states.Ended) ⊎ (is_ended state ≡ false) → ⊥
  go (inl e) = both_ways (is_starved (row_of state input)) (subst (λ (x : SendState). is_starved (row_of x input) ≡ false) (sym e) refl) is
  go (inr lives) = both_ways (is_starved (row_of state input)) (others state input lives some).1 is

no_memory : (state : SendState) (input : SendIn) → is_starved (row_of state input) ≡ false → is_ended state ≡ false → input ≢ inputs.Starved
no_memory state input is lives e = both_ways (is_starved (row_of state input)) is (subst (λ (x : SendIn). is_starved (row_of state x) ≡ true) (sym e) (memory_row state lives))

memory_right : (s : PlainSender) (l : Lane) (input : SendIn) → input ≡ inputs.Starved → IsSender s → l.0 < length s.lanes → Right s l (state_at s l.0) input (ruled (failed s (starved s.answer)) l (row_of (state_at s l.0) input))
memory_right s l input e is within =
    ruled_right s (failed s (starved s.answer)) l (state_at s l.0) input (starves s s.answer refl is) within refl (follows_starved s l input s.answer refl e)
    (λ base lives fares. absurd (all_out s l s.answer refl base.sound is within record { is_open = base.free.is_open; quit = base.free.quit; acked = base.free.acked } lives))

pub turn_right : (s : PlainSender) (l : Lane) (input : SendIn) → IsSender s → l.0 < length s.lanes → FitsIn input → Right s l (state_at s l.0) input (send_turn s l input)
unfolding send_turn
turn_right s l input is within fit = go (starving s (row_of (state_at s l.0) input)) (is_memory input) where
  go : ((is_starved (row_of (state_at s l.0) input) ≡ true) × (after_starving s (row_of (state_at s l.0) input) ≡ failed s (starved s.answer))) ⊎ ((is_starved (row_of (state_at s l.0) input) ≡ false) × (after_starving s (row_of (state_at s l.0) input) ≡ s))
      → (input ≡ inputs.Starved) ⊎ (input ≢ inputs.Starved) → Right s l (state_at s l.0) input (ruled (after_starving s (row_of (state_at s l.0) input)) l (row_of (state_at s l.0) input))
  go (inl x) (inl e) = subst (λ (t : PlainSender). Right s l (state_at s l.0) input (ruled t l (row_of (state_at s l.0) input))) (sym x.1) (memory_right s l input e is within)
  go (inl x) (inr some) = absurd (not_memory (state_at s l.0) input x.0 some)
  go (inr x) m = subst (λ (t : PlainSender). Right s l (state_at s l.0) input (ruled t l (row_of (state_at s l.0) input))) (sym x.1)
      (ruled_right s s l (state_at s l.0) input is within refl (follows_same s l input)
      (λ base lives fares. row_right s l (state_at s l.0) input (no_memory (state_at s l.0) input x.0 lives) refl fares lives fit base))
