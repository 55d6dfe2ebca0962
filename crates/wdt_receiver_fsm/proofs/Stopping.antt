-- When a step's act is Stop.
use Rattle.std.proofs.Common.{◌≡◌, ◌⊎◌, inl, inr, ℕ, zero, suc, ◌<◌, ◌&&◌, ◌||◌, not, List, length, Bool, true, false, Option, refl, sym, ap, ◌∙◌, subst}
use Rattle.std.proofs.lemmas.Bool.{both_ways, or_from}
use Rattle.wdt_units.specs.declared.blocks.Block.{Block}
use Rattle.wdt_units.specs.declared.blocks.Header.{Header}
use Rattle.wdt_units.specs.declared.numbers.Lane.{Lane}
use Rattle.wdt_codec.specs.declared.frames.Frame.{Frame}
use Rattle.wdt_codec.specs.declared.frames.Frame.TheVariants as frames
use Rattle.wdt_codec.specs.declared.frames.Settings.{Settings}
use Rattle.wdt_sender_fsm.specs.declared.answers.EndAnswer.{EndAnswer}
use Rattle.wdt_sender_fsm.specs.declared.answers.EndAnswer.TheVariants as answers
use Rattle.wdt_sender_fsm.specs.declared.peers.PeerKind.{PeerKind}
use Rattle.wdt_sender_fsm.specs.Rules.{by_voice, is_failure, starved}
use Rattle.wdt_receiver_fsm.specs.declared.inputs.RecvIn.{RecvIn}
use Rattle.wdt_receiver_fsm.specs.declared.inputs.RecvIn.TheVariants as inputs
use Rattle.wdt_receiver_fsm.specs.declared.states.RecvLane.{RecvLane}
use Rattle.wdt_receiver_fsm.specs.declared.states.RecvState.{RecvState}
use Rattle.wdt_receiver_fsm.specs.declared.states.RecvState.TheVariants as states
use Rattle.wdt_receiver_fsm.specs.Acts.{act_in}
use Rattle.wdt_receiver_fsm.specs.Answered.{IsAnswered}
use Rattle.wdt_receiver_fsm.specs.Outcomes.{Acknowledged, AtFirst, Begins, Begun, ByChunks, ByDone, ByGreeting, ByLanding, ByLogging, ByLoss, ByMarks, ByNoLink, ByWait, ByWaking, Comes, ComesOf, Concluded, Concludes, Ended, Failed, Fails, GivenUp, Greeted, Idles, IsFinished, Left, Linked, Listed, Listened, Listens, Mistakes, NoFrame, NoPlace, OfFinish, OfKnown, OfLog, OfMake, OfMemory, OfNew, OfPeer, OfSender, OfShort, OfWrite, OtherSize, Outcome, ReadOn, ReadsOn, Rested, Rests, Sized, Taken, Told, Waited, Warned, WasFinished, WasMute, WasNoBlock, WasOver, WasSettled, WasStray, WasTold, WrongBlock, WrongSettings, came_to, is_linked}
use Rattle.wdt_receiver_fsm.specs.PlainReceiver.{PlainReceiver, every_lane, failed, has_finish, is_done_with, is_ended, is_out, lane_at, past_at, state_at}
use Rattle.wdt_receiver_fsm.specs.Receiver.{Fares, FaresAt, HasLeft, IsReceiver}
use Rattle.wdt_receiver_fsm.specs.ReceiverHistory.{EndPast, RecvPast, end_of}
use Rattle.wdt_receiver_fsm.specs.Rows.{Row, Unexpected, at_answer, at_command, at_settings, is_allowed, is_mute, is_mute_at, is_reading, is_stray, piece_row, place_of, row_of}
use Rattle.wdt_receiver_fsm.specs.Stops.{belongs, is_silent, is_stop, is_through, stops}
use Rattle.wdt_receiver_fsm.specs.Turn.{Bytes, Given, Put, Step, begins_by, greets_by, leaves, meets, row_at, tells_failure, waits_by}
use Rattle.wdt_receiver_fsm.proofs.Answered.{answered_done, answered_link}
use Rattle.wdt_receiver_fsm.proofs.Entries.{every_at}
use Rattle.wdt_receiver_fsm.proofs.HeldActs.{is_rest, outcome_holds}
use Rattle.wdt_receiver_fsm.proofs.Keeping.{judged_fails}
use Rattle.wdt_receiver_fsm.proofs.Living.{live_lane}

-- ---- tests

not_stop : (b through f silent : Bool) → b ≡ true → through ≡ false → (f && silent) ≡ false → false ≡ (not b || through || (f && silent))
not_stop false through f silent x y z = absurd (cc)
not_stop true true f silent x y z = absurd (cc)
not_stop true false f silent x y z = sym z

stop_through : (b through f silent : Bool) → through ≡ true → true ≡ (not b || through || (f && silent))
stop_through b false f silent x = absurd (cc)
stop_through true true f silent x = refl
stop_through false true f silent x = refl

stop_stray : (b through f silent : Bool) → b ≡ false → true ≡ (not b || through || (f && silent))
stop_stray true through f silent x = absurd (cc)
stop_stray false through f silent x = refl

stop_silent : (b through f silent : Bool) → f ≡ true → (not b || silent) ≡ true → true ≡ (not b || through || (f && silent))
stop_silent b through false silent x y = absurd (cc)
stop_silent true true true silent x y = refl
stop_silent true false true silent x y = sym y
stop_silent false through true silent x y = refl

silent_so : (b silent : Bool) → silent ≡ true → (not b || silent) ≡ true
silent_so true silent x = x
silent_so false silent x = refl

and_none : (f silent : Bool) → silent ≡ false → (f && silent) ≡ false
and_none true silent x = x
and_none false silent x = refl

none_and : (f silent : Bool) → f ≡ false → (f && silent) ≡ false
none_and true silent x = absurd (cc)
none_and false silent x = refl

neither : (b silent : Bool) → (not b || silent) ≡ false → (b ≡ true) × (silent ≡ false)
neither true silent x = (refl, x)
neither false silent x = absurd (cc)

-- ---- a lane that stands

live_through : (r : PlainReceiver) (l : ℕ) → FaresAt r l → is_ended (state_at r l) ≡ false → is_through r l ≡ false
live_through r l fares lives =
    let p = live_lane r l fares lives in
    or_from ((past_at r l).is_closed || (past_at r l).has_quit) (past_at r l).is_acked (or_from (past_at r l).is_closed (past_at r l).has_quit p.0 p.1) p.2

-- one that has ended is, or the end has failed
ended_by : (f : Bool) (state : RecvState) (lane : RecvLane) (p : RecvPast) (e : EndPast) → state ≡ states.Ended → Fares f state lane p e → (f ≡ true) ⊎ ((p.is_closed || p.has_quit || p.is_acked) ≡ true)
ended_by f state lane p e is h = go (subst (λ (s : RecvState). Fares f s lane p e) is h)
  where
    first : (a b c : Bool) → a ≡ true → (a || b || c) ≡ true
    first a b c x = rw x refl

    second : (a b c : Bool) → b ≡ true → (a || b || c) ≡ true
    second true b c x = refl
    second false b c x = rw x refl

    third : (a b c : Bool) → c ≡ true → (a || b || c) ≡ true
    third true b c x = refl
    third false true c x = refl
    third false false c x = x

    go : Fares f states.Ended lane p e → (f ≡ true) ⊎ ((p.is_closed || p.has_quit || p.is_acked) ≡ true)
    go (inl failed) = inl failed
    go (inr (inl closed)) = inr (first p.is_closed p.has_quit p.is_acked closed)
    go (inr (inr (inl quit))) = inr (second p.is_closed p.has_quit p.is_acked quit)
    go (inr (inr (inr acked))) = inr (third p.is_closed p.has_quit p.is_acked acked)

-- the act is Stop exactly where the lane has ended
stop_in : (r : PlainReceiver) (l : Lane) (lane : RecvLane) (state : RecvState) → is_stop (act_in r l lane state) ≡ is_ended state
stop_in r l lane states.Listen = refl
stop_in r l lane states.ReadSettings = refl
stop_in r l lane states.SendLocalCheckpoint = refl
stop_in r l lane states.SendFileChunks = refl
stop_in r l lane states.ReadNextCmd = refl
stop_in r l lane states.TakeBlock = refl
stop_in r l lane states.SendWait = refl
stop_in r l lane states.WaitForFinish = refl
stop_in r l lane states.SendGlobalCheckpoint = refl
stop_in r l lane states.SendDone = refl
stop_in r l lane states.ReadAck = refl
stop_in r l lane states.SendAbort = refl
stop_in r l lane states.Ended = refl

-- ---- what belongs to a state

command_stray : (sized : Bool) (frame : Frame) → is_stray (at_command sized frame) ≡ false
command_stray sized (frames.Abort code) = refl
command_stray false (frames.Size files bytes) = refl
command_stray true (frames.Block header) = refl
command_stray true frames.Done = refl
command_stray true frame = refl
command_stray false frame = refl

stray_as : (sized : Bool) (state : RecvState) (input : RecvIn) → is_stray (row_of sized state input) ≡ is_stray (row_of false state input)
stray_as sized states.Ended input = refl
stray_as sized state inputs.Starved = refl
stray_as sized states.ReadNextCmd (inputs.Got frame) = command_stray sized frame ∙ sym (command_stray false frame)
stray_as sized states.ReadSettings (inputs.Got frame) = refl
stray_as sized states.ReadAck (inputs.Got frame) = refl
stray_as sized state input = refl

not_true : (b : Bool) → b ≡ true → not b ≡ false
not_true b is = rw is refl

stray_by : (sized : Bool) (state : RecvState) (input : RecvIn) → is_stray (row_of sized state input) ≡ true → is_allowed state input ≡ false
stray_by sized states.Ended inputs.Starved is = absurd (cc)
stray_by sized states.Ended input is = refl
stray_by sized state inputs.Starved is = absurd (cc)
stray_by sized state input is = not_true (is_stray (row_of false state input)) (sym (stray_as sized state input) ∙ is)

piece_stray : (state : RecvState) (bytes : List ℕ) → is_stray (piece_row state bytes) ≡ true → belongs state (Bytes bytes) ≡ false
piece_stray states.TakeBlock bytes is = absurd (cc)
piece_stray states.Ended bytes is = refl
piece_stray state bytes is = refl

stray_not : (r : PlainReceiver) (l : Lane) (put : Put) → is_stray (row_at r l put) ≡ true → belongs (state_at r l.0) put ≡ false
stray_not r l (Given input) is = stray_by (lane_at r l.0).is_sized (state_at r l.0) input is
stray_not r l (Bytes bytes) is = piece_stray (state_at r l.0) bytes is

-- on a failed end a lane that hasn't ended is silent, or what it hands in is stray, exactly where its row
-- leaves nothing to tell
abbrev IsMuteBy : RecvState → Put → Row → Type 0
IsMuteBy state put row = (not (belongs state put) || is_silent state put) ≡ is_mute row

settings_mute : (frame : Frame) → IsMuteBy states.ReadSettings (Given (inputs.Got frame)) (at_settings frame)
settings_mute (frames.Abort code) = refl
settings_mute (frames.Settings s) = refl
settings_mute frame = refl

command_mute : (sized : Bool) (frame : Frame) → IsMuteBy states.ReadNextCmd (Given (inputs.Got frame)) (at_command sized frame)
command_mute sized (frames.Abort code) = refl
command_mute false (frames.Size files bytes) = refl
command_mute true (frames.Block header) = refl
command_mute true frames.Done = refl
command_mute true frame = refl
command_mute false frame = refl

answer_mute : (frame : Frame) → IsMuteBy states.ReadAck (Given (inputs.Got frame)) (at_answer frame)
answer_mute (frames.Abort code) = refl
answer_mute frames.Done = refl
answer_mute frame = refl

mute_by : (sized : Bool) (state : RecvState) (input : RecvIn) → is_ended state ≡ false → IsMuteBy state (Given input) (row_of sized state input)
mute_by sized states.Ended input lives = absurd (cc)
mute_by sized states.ReadSettings (inputs.Got frame) lives = settings_mute frame
mute_by sized states.ReadNextCmd (inputs.Got frame) lives = command_mute sized frame
mute_by sized states.ReadAck (inputs.Got frame) lives = answer_mute frame
mute_by sized states.Listen inputs.Start lives = refl
mute_by sized states.Listen inputs.NoLink lives = refl
mute_by sized states.Listen inputs.Linked lives = refl
mute_by sized states.SendLocalCheckpoint inputs.Wrote lives = refl
mute_by sized states.TakeBlock inputs.Lost lives = refl
mute_by sized states.SendFileChunks inputs.Wrote lives = refl
mute_by sized states.SendWait inputs.Wrote lives = refl
mute_by sized states.WaitForFinish inputs.Woken lives = refl
mute_by sized states.SendGlobalCheckpoint inputs.Wrote lives = refl
mute_by sized states.SendDone inputs.Wrote lives = refl
mute_by sized states.SendAbort inputs.Wrote lives = refl
mute_by sized state input lives = refl

piece_mute : (state : RecvState) (bytes : List ℕ) → is_ended state ≡ false → IsMuteBy state (Bytes bytes) (piece_row state bytes)
piece_mute states.Ended bytes lives = absurd (cc)
piece_mute states.TakeBlock bytes lives = refl
piece_mute state bytes lives = refl

mute_at : (r : PlainReceiver) (l : Lane) (put : Put) → is_ended (state_at r l.0) ≡ false → IsMuteBy (state_at r l.0) put (row_at r l put)
mute_at r l (Given input) lives = mute_by (lane_at r l.0).is_sized (state_at r l.0) input lives
mute_at r l (Bytes bytes) lives = piece_mute (state_at r l.0) bytes lives

-- ---- each outcome

-- the lane goes on, or it ends
data Verdict (state : RecvState) (put : Put) (step : Step) : Type 0 where
  Lives : belongs state put ≡ true → (is_failure step.1.answer && is_silent state put) ≡ false → is_stop step.0 ≡ false → Verdict state put step
  Ends : is_stop step.0 ≡ true → (is_failure step.1.answer ≡ true → (not (belongs state put) || is_silent state put) ≡ true) → Verdict state put step

memory_silent : (state : RecvState) → is_ended state ≡ false → is_silent state (Given inputs.Starved) ≡ is_mute_at state
memory_silent states.Ended lives = absurd (cc)
memory_silent states.Listen lives = refl
memory_silent states.SendAbort lives = refl
memory_silent state lives = refl

memory_belongs : (state : RecvState) → belongs state (Given inputs.Starved) ≡ true
memory_belongs states.Ended = refl
memory_belongs state = refl

reads_abort : (state : RecvState) (code : ℕ) → is_reading state ≡ true → (belongs state (Given (inputs.Got (frames.Abort code))) ≡ true) × (is_silent state (Given (inputs.Got (frames.Abort code))) ≡ true)
reads_abort states.ReadSettings code reads = (refl, refl)
reads_abort states.ReadNextCmd code reads = (refl, refl)
reads_abort states.ReadAck code reads = (refl, refl)
reads_abort state code reads = absurd (cc)

reads_bad : (state : RecvState) (at : ℕ) → is_reading state ≡ true → (belongs state (Given (inputs.Bad at)) ≡ true) × (is_silent state (Given (inputs.Bad at)) ≡ false)
reads_bad states.ReadSettings at reads = (refl, refl)
reads_bad states.ReadNextCmd at reads = (refl, refl)
reads_bad states.ReadAck at reads = (refl, refl)
reads_bad state at reads = absurd (cc)

-- a frame that may not come isn't that the sender has failed
no_abort : (sized : Bool) (state : RecvState) (frame : Frame) (place command : ℕ) → is_reading state ≡ true → row_of sized state (inputs.Got frame) ≡ Unexpected place command
    → (belongs state (Given (inputs.Got frame)) ≡ true) × (is_silent state (Given (inputs.Got frame)) ≡ false)
no_abort sized states.ReadSettings (frames.Abort code) place command reads row = absurd (cc)
no_abort sized states.ReadSettings (frames.Settings s) place command reads row = absurd (cc)
no_abort sized states.ReadSettings frame place command reads row = (refl, refl)
no_abort sized states.ReadNextCmd (frames.Abort code) place command reads row = absurd (cc)
no_abort sized states.ReadNextCmd frame place command reads row = (ap not (command_stray false frame), refl)
no_abort sized states.ReadAck (frames.Abort code) place command reads row = absurd (cc)
no_abort sized states.ReadAck frames.Done place command reads row = absurd (cc)
no_abort sized states.ReadAck frame place command reads row = (refl, refl)
no_abort sized state frame place command reads row = absurd (cc)

-- a state and what is handed in there, both as they are
both_so : (Q : RecvState → Put → Type 0) (state at : RecvState) (put given : Put) → state ≡ at → put ≡ given → Q at given → Q state put
both_so Q state at put given is same q = subst (λ (s : RecvState). Q s put) (sym is) (subst (λ (p : Put). Q at p) (sym same) q)

module _ (r : PlainReceiver) (l : Lane) (put : Put) where
  abbrev state : RecvState
  state = state_at r l.0

  abbrev Speaks : RecvState → Put → Type 0
  Speaks s p = (belongs s p ≡ true) × (is_silent s p ≡ false)

  -- the end fails, and the lane tells it where it can
  failed_so : (t : PlainReceiver) (a : EndAnswer) (mute : Bool) → is_failure a ≡ true → belongs state put ≡ true → is_silent state put ≡ mute → Verdict state put (by_voice mute (leaves (failed t a) l) (tells_failure (failed t a) l))
  failed_so t a true fails allowed silent = Ends refl (λ f. silent_so (belongs state put) (is_silent state put) silent)
  failed_so t a false fails allowed silent = Lives allowed (and_none (is_failure (tells_failure (failed t a) l).1.answer) (is_silent state put) silent) refl

  speaks_so : (t : PlainReceiver) (a : EndAnswer) (at : RecvState) (given : Put) → is_failure a ≡ true → state ≡ at → put ≡ given → Speaks at given → Verdict state put (by_voice false (leaves (failed t a) l) (tells_failure (failed t a) l))
  speaks_so t a at given fails here same both = (let s = both_so Speaks state at put given here same both in failed_so t a false fails s.0 s.1)

  mistaken : (at : RecvState) (kind : PeerKind) → state ≡ at → is_reading at ≡ true → Mistakes r l at put kind → Speaks state put
  mistaken at kind here reads (NoFrame place given is) = both_so Speaks state at put (Given (inputs.Bad place)) here given (reads_bad at place reads)
  mistaken at kind here reads (NoPlace frame command given row is) = both_so Speaks state at put (Given (inputs.Got frame)) here given (no_abort (lane_at r l.0).is_sized at frame (place_of at) command reads row)
  mistaken at kind here reads (WrongSettings s field given same wrong is) = both_so Speaks state states.ReadSettings put (Given (inputs.Got (frames.Settings s))) (here ∙ same) given (refl, refl)
  mistaken at kind here reads (OtherSize files bytes given same sized wrong) = both_so Speaks state states.ReadNextCmd put (Given (inputs.Got (frames.Size files bytes))) (here ∙ same) given (refl, refl)
  mistaken at kind here reads (WrongBlock header given same sized wrong) = both_so Speaks state states.ReadNextCmd put (Given (inputs.Got (frames.Block header))) (here ∙ same) given (refl, refl)

  idle_speaks : (t : PlainReceiver) → Idles r l put t → Speaks state put
  idle_speaks t (ByDone at sized given is) = both_so Speaks state states.ReadNextCmd put (Given (inputs.Got frames.Done)) at.here given (refl, refl)
  idle_speaks t (ByWait at given is) = both_so Speaks state states.SendWait put (Given inputs.Wrote) at.here given (refl, refl)
  idle_speaks t (ByWaking at given is) = both_so Speaks state states.WaitForFinish put (Given inputs.Woken) at.here given (refl, refl)

  takes_speaks : (bytes : List ℕ) → state ≡ states.TakeBlock → put ≡ Bytes bytes → Speaks state put
  takes_speaks bytes here given = both_so Speaks state states.TakeBlock put (Bytes bytes) here given (refl, refl)

  block_speaks : (h : Header) → state ≡ states.ReadNextCmd → put ≡ Given (inputs.Got (frames.Block h)) → Speaks state put
  block_speaks h here given = both_so Speaks state states.ReadNextCmd put (Given (inputs.Got (frames.Block h))) here given (refl, refl)

  fails_verdict : (t : PlainReceiver) (a : EndAnswer) (mute : Bool) → Fails r l put t a mute → Verdict state put (by_voice mute (leaves (failed t a) l) (tells_failure (failed t a) l))
  fails_verdict t a mute (OfMemory m going given lives same) =
      failed_so t a mute refl (ap (belongs state) given ∙ memory_belongs state) (ap (is_silent state) given ∙ memory_silent state lives ∙ sym same)
  fails_verdict t a mute (OfSender at code serves reads given) =
      let s = both_so (λ s p. (belongs s p ≡ true) × (is_silent s p ≡ true)) state at put (Given (inputs.Got (frames.Abort code))) serves.here given (reads_abort at code reads) in
      failed_so t a true refl s.0 s.1
  fails_verdict t a mute (OfPeer at kind serves reads wrong) = (let s = mistaken at kind serves.here reads wrong in failed_so t a false refl s.0 s.1)
  fails_verdict t a mute (OfShort u kind why short) = (let s = idle_speaks u why.idles in failed_so t a false refl s.0 s.1)
  fails_verdict t a mute (OfMake h serves sized given right new) = (let s = block_speaks h serves.here given in failed_so t a false refl s.0 s.1)
  fails_verdict t a mute (OfWrite bytes b serves given begun) = (let s = takes_speaks bytes serves.here given in failed_so t a false refl s.0 s.1)
  fails_verdict t a mute (OfLog b lands full) = (let s = takes_speaks lands.bytes lands.serves.here lands.handed in failed_so t a false refl s.0 s.1)
  fails_verdict t a mute (OfFinish u why) = (let s = idle_speaks u why.idles in failed_so t a false refl s.0 s.1)

  goes_on : (step : Step) → Speaks state put → is_stop step.0 ≡ false → Verdict state put step
  goes_on step s acts_on = Lives s.0 (and_none (is_failure step.1.answer) (is_silent state put) s.1) acts_on

  -- what a lane hands in that wants a connection
  listens_speaks : (t : PlainReceiver) → Listens r l put t → (belongs state put ≡ true) × (is_silent state put ≡ true) × (is_failure t.answer ≡ false)
  listens_speaks t (AtFirst at given) = (let s = both_so (λ s p. (belongs s p ≡ true) × (is_silent s p ≡ true)) state states.Listen put (Given inputs.Start) at.here given (refl, refl) in (s.0, s.1, at.sound))
  listens_speaks t (ByNoLink at given) = (let s = both_so (λ s p. (belongs s p ≡ true) × (is_silent s p ≡ true)) state states.Listen put (Given inputs.NoLink) at.here given (refl, refl) in (s.0, s.1, at.sound))
  listens_speaks t (ByLoss at serves linked given) =
      let s = both_so (λ s p. (belongs s p ≡ true) × (is_silent s p ≡ true)) state at put (Given inputs.Lost) serves.here given (lost at linked) in
      (s.0, s.1, judged_fails r.answer _ _ ∙ serves.sound)
    where
      lost : (at : RecvState) → is_linked at ≡ true → (belongs at (Given inputs.Lost) ≡ true) × (is_silent at (Given inputs.Lost) ≡ true)
      lost states.Listen linked = absurd (cc)
      lost states.Ended linked = absurd (cc)
      lost states.SendAbort linked = (refl, refl)
      lost at linked = (refl, refl)

  greets_verdict : (t : PlainReceiver) (s : Settings) (come : Bool) → Speaks state put → Verdict state put (greets_by t l s come)
  greets_verdict t s true both = goes_on (greets_by t l s true) both refl
  greets_verdict t s false both = goes_on (greets_by t l s false) both refl

  begins_verdict : (t : PlainReceiver) (b : Block) (left : ℕ) → Speaks state put → Verdict state put (begins_by t l b left)
  begins_verdict t b zero both = goes_on (begins_by t l b 0) both refl
  begins_verdict t b (suc left) both = goes_on (begins_by t l b (suc left)) both refl

  waits_verdict : (t : PlainReceiver) (again : Bool) → Speaks state put → Verdict state put (waits_by t l again)
  waits_verdict t true both = goes_on (waits_by t l true) both refl
  waits_verdict t false both = goes_on (waits_by t l false) both refl

  reads_speaks : (t : PlainReceiver) → ReadsOn r l put t → Speaks state put
  reads_speaks t (ByGreeting at given asked) = both_so Speaks state states.SendLocalCheckpoint put (Given inputs.Wrote) at.here given (refl, refl)
  reads_speaks t (ByChunks at given) = both_so Speaks state states.SendFileChunks put (Given inputs.Wrote) at.here given (refl, refl)
  reads_speaks t (ByMarks at given) = both_so Speaks state states.SendGlobalCheckpoint put (Given inputs.Wrote) at.here given (refl, refl)
  reads_speaks t (ByLanding b lands full) = takes_speaks lands.bytes lands.serves.here lands.handed
  reads_speaks t (ByLogging b lands full) = takes_speaks lands.bytes lands.serves.here lands.handed

  concludes_speaks : (t : PlainReceiver) → Concludes r l put t → Speaks state put
  concludes_speaks t (WasFinished u idles come) = idle_speaks u idles
  concludes_speaks t (IsFinished u why whole) = idle_speaks u why.idles

  begins_speaks : (t : PlainReceiver) (b : Block) → Begins r l put t b → Speaks state put
  begins_speaks t b (OfKnown h at sized given right new) = block_speaks h at.here given
  begins_speaks t b (OfNew h at sized given right new) = block_speaks h at.here given

  verdict : (o : Outcome) → is_rest o ≡ false → FaresAt r l.0 → ComesOf r l put o → Verdict state put (came_to r l o)
  verdict Rested acts_on fares of = absurd (cc)
  verdict Left acts_on fares (lives, WasMute fails mute) = Ends refl (λ f. mute_at r l put lives ∙ mute)
  verdict Left acts_on fares (lives, WasTold at given) = absurd (both_ways (is_failure r.answer) at.sound (subst (λ (s : RecvState). Fares (is_failure r.answer) s (lane_at r l.0) (past_at r l.0) (end_of r.history)) at.here fares).failed)
  verdict Warned acts_on fares of =
      let s = neither (belongs state put) (is_silent state put) (mute_at r l put of.0 ∙ of.1.voice) in
      goes_on (tells_failure r l) s refl
  verdict (Failed t a mute) acts_on fares of = fails_verdict t a mute of
  verdict (GivenUp t) acts_on fares of = (let s = listens_speaks t of.0 in Ends refl (λ f. silent_so (belongs state put) (is_silent state put) s.1))
  verdict (Listened t) acts_on fares of = (let s = listens_speaks t of.0 in Lives s.0 (none_and _ (is_silent state put) (judged_fails t.answer _ _ ∙ s.2)) refl)
  verdict Linked acts_on fares of =
      Lives (both_so (λ s p. belongs s p ≡ true) state states.Listen put (Given inputs.Linked) of.0.here of.1 refl) (none_and _ (is_silent state put) (judged_fails r.answer _ _ ∙ of.0.sound)) refl
  verdict (Greeted s) acts_on fares of = greets_verdict (meets r l s) s (has_finish r) (both_so Speaks state states.ReadSettings put (Given (inputs.Got (frames.Settings s))) of.0.here of.1 (refl, refl))
  verdict Listed acts_on fares of = goes_on (came_to r l Listed) (both_so Speaks state states.SendLocalCheckpoint put (Given inputs.Wrote) of.0.here of.1 (refl, refl)) refl
  verdict (ReadOn t) acts_on fares of = goes_on (came_to r l (ReadOn t)) (reads_speaks t of) refl
  verdict (Sized files bytes) acts_on fares of = goes_on (came_to r l (Sized files bytes)) (both_so Speaks state states.ReadNextCmd put (Given (inputs.Got (frames.Size files bytes))) of.0.here of.2 (refl, refl)) refl
  verdict (Begun t b) acts_on fares of = begins_verdict t b b.length (begins_speaks t b of)
  verdict (Taken left) acts_on fares of = goes_on (came_to r l (Taken left)) (takes_speaks of.bytes of.serves.here of.handed) refl
  verdict (Concluded t) acts_on fares of = goes_on (came_to r l (Concluded t)) (concludes_speaks t of) refl
  verdict (Told t q qs) acts_on fares of = goes_on (came_to r l (Told t q qs)) (idle_speaks t of.idles) refl
  verdict (Waited t again) acts_on fares of = waits_verdict t again (idle_speaks t of.0.idles)
  verdict Ended acts_on fares of = goes_on (came_to r l Ended) (both_so Speaks state states.SendDone put (Given inputs.Wrote) of.0.here of.1 (refl, refl)) refl
  verdict Acknowledged acts_on fares of = Ends refl (λ f. absurd (both_ways _ (judged_fails r.answer _ _ ∙ of.0.sound) f))

-- ---- nothing changes

-- an end that has its answer has no lane that stands
settled_none : (r : PlainReceiver) (l : ℕ) → IsAnswered r → l < length r.lanes → FaresAt r l → is_ended (state_at r l) ≡ false → is_failure r.answer ≡ false → is_failure (starved r.answer) ≡ false → ⊥
settled_none r l is within fares lives sound calm = go r.answer refl calm
  where
    live : ((past_at r l).is_closed ≡ false) × ((past_at r l).has_quit ≡ false) × ((past_at r l).is_acked ≡ false)
    live = live_lane r l fares lives

    second : (a b : Bool) → (a && b) ≡ true → b ≡ true
    second true b x = x
    second false b x = absurd (cc)

    go : (a : EndAnswer) → r.answer ≡ a → is_failure (starved a) ≡ false → ⊥
    go answers.Going e calm = absurd (cc)
    go answers.Done e calm =
        let done = (answered_done r is).0 e in
        let here = every_at (length r.lanes) (is_done_with r) l (second (has_finish r) (every_lane r is_done_with) done) within in
        absurd (both_ways (is_done_with r l) (or_from (past_at r l).is_acked (past_at r l).is_closed live.2 live.0) here)
    go answers.Link e calm =
        let here = every_at (length r.lanes) (is_out r) l ((answered_link r is).0 e).out within in
        absurd (both_ways (is_out r l) lives here)
    go a e calm = absurd (both_ways (is_failure r.answer) sound (ap is_failure e))

rests_stop : (r : PlainReceiver) (l : Lane) (put : Put) → IsReceiver r → IsAnswered r → l.0 < length r.lanes → Rests r l put → true ≡ stops (state_at r l.0) put (is_through r l.0) (is_failure r.answer)
rests_stop r l put is answered within (WasOver ended) = elim (ended_by (is_failure r.answer) (state_at r l.0) (lane_at r l.0) (past_at r l.0) (end_of r.history) ended (is.lanes l.0 within)) [
  | inl fails ↦ stop_silent (belongs (state_at r l.0) put) (is_through r l.0) (is_failure r.answer) (is_silent (state_at r l.0) put) fails
      (silent_so (belongs (state_at r l.0) put) (is_silent (state_at r l.0) put) (ap (λ (s : RecvState). is_silent s put) ended))
  | inr through ↦ stop_through (belongs (state_at r l.0) put) (is_through r l.0) (is_failure r.answer) (is_silent (state_at r l.0) put) through
]
rests_stop r l put is answered within (WasStray sound stray) = stop_stray (belongs (state_at r l.0) put) (is_through r l.0) (is_failure r.answer) (is_silent (state_at r l.0) put) (stray_not r l put stray)
rests_stop r l put is answered within (WasSettled sound lives given calm) = absurd (settled_none r l.0 answered within (is.lanes l.0 within) lives sound calm)
rests_stop r l put is answered within (WasNoBlock bytes at given none) =
    absurd (subst (λ (o : Option Block). HasLeft o (lane_at r l.0).left) none (subst (λ (s : RecvState). Fares (is_failure r.answer) s (lane_at r l.0) (past_at r l.0) (end_of r.history)) at.here (is.lanes l.0 within)).1)

-- ---- a step

over : (state : RecvState) → is_ended state ≡ true → state ≡ states.Ended
over states.Ended e = refl
over state e = absurd (cc)

-- of a step whose act is that of its lane
verdict_stop : (r : PlainReceiver) (l : Lane) (put : Put) (step : Step) → IsReceiver step.1 → l.0 < length step.1.lanes → is_stop step.0 ≡ is_ended (state_at step.1 l.0) → Verdict (state_at r l.0) put step
    → is_stop step.0 ≡ stops (state_at r l.0) put (is_through step.1 l.0) (is_failure step.1.answer)
verdict_stop r l put step behind there ends (Lives allowed quiet lives) =
    lives ∙ not_stop (belongs (state_at r l.0) put) (is_through step.1 l.0) (is_failure step.1.answer) (is_silent (state_at r l.0) put) allowed (live_through step.1 l.0 (behind.lanes l.0 there) (sym ends ∙ lives)) quiet
verdict_stop r l put step behind there ends (Ends stopped silent) =
    stopped ∙ elim (ended_by (is_failure step.1.answer) (state_at step.1 l.0) (lane_at step.1 l.0) (past_at step.1 l.0) (end_of step.1.history) (over (state_at step.1 l.0) (sym ends ∙ stopped)) (behind.lanes l.0 there)) [
      | inl fails ↦ stop_silent (belongs (state_at r l.0) put) (is_through step.1 l.0) (is_failure step.1.answer) (is_silent (state_at r l.0) put) fails (silent fails)
      | inr through ↦ stop_through (belongs (state_at r l.0) put) (is_through step.1 l.0) (is_failure step.1.answer) (is_silent (state_at r l.0) put) through
    ]

acts_stop : (r : PlainReceiver) (l : Lane) (put : Put) (o : Outcome) → is_rest o ≡ false → ComesOf r l put o → IsReceiver r → IsReceiver (came_to r l o).1 → l.0 < length r.lanes → l.0 < length (came_to r l o).1.lanes
    → is_stop (came_to r l o).0 ≡ stops (state_at r l.0) put (is_through (came_to r l o).1 l.0) (is_failure (came_to r l o).1.answer)
acts_stop r l put o acts_on of is behind within there =
    verdict_stop r l put (came_to r l o) behind there
    (ap is_stop (outcome_holds r l put o acts_on of is.few within) ∙ stop_in (came_to r l o).1 l (lane_at (came_to r l o).1 l.0) (state_at (came_to r l o).1 l.0))
    (verdict r l put o acts_on (is.lanes l.0 within) of)

pub step_stops : (r : PlainReceiver) (l : Lane) (put : Put) (step : Step) → IsReceiver r → IsReceiver step.1 → IsAnswered r → l.0 < length r.lanes → l.0 < length step.1.lanes → Comes r l put step
    → is_stop step.0 ≡ stops (state_at r l.0) put (is_through step.1 l.0) (is_failure step.1.answer)
step_stops r l put step is behind answered within there comes =
    subst (λ (x : Step). is_stop x.0 ≡ stops (state_at r l.0) put (is_through x.1 l.0) (is_failure x.1.answer)) (sym comes.is)
    (by comes.outcome (subst (λ (x : Step). IsReceiver x.1) comes.is behind) (subst (λ (x : Step). l.0 < length x.1.lanes) comes.is there) comes.of)
  where
    by : (o : Outcome) → IsReceiver (came_to r l o).1 → l.0 < length (came_to r l o).1.lanes → ComesOf r l put o → is_stop (came_to r l o).0 ≡ stops (state_at r l.0) put (is_through (came_to r l o).1 l.0) (is_failure (came_to r l o).1.answer)
    by Rested new below of = rests_stop r l put is answered within of
    by o new below of = acts_stop r l put o refl of is new within below
