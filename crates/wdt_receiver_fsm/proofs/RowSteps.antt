-- A step of a lane by its row.
use Rattle.std.proofs.Common.{◌≡◌, ◌⊎◌, inl, inr, ℕ, List, [], ◌∷◌, Bool, true, false, Option, subst, sym, ap, ◌∙◌, refl}
use Rattle.wdt_units.specs.declared.blocks.Block.{Block}
use Rattle.wdt_units.specs.declared.numbers.Lane.{Lane}
use Rattle.wdt_codec.specs.declared.frames.Frame.TheVariants as frames
use Rattle.wdt_logfmt.specs.Marks.{bytes_in, files_in}
use Rattle.wdt_sender_fsm.specs.declared.answers.EndAnswer.{EndAnswer}
use Rattle.wdt_sender_fsm.specs.declared.answers.EndAnswer.TheVariants as answers
use Rattle.wdt_sender_fsm.specs.declared.peers.PeerKind.{PeerKind}
use Rattle.wdt_sender_fsm.specs.Rules.{is_failure, starved, by_rules, by_voice}
use Rattle.wdt_receiver_fsm.specs.declared.events.RecvEvent.{RecvEvent}
use Rattle.wdt_receiver_fsm.specs.declared.events.RecvEvent.TheVariants as events
use Rattle.wdt_receiver_fsm.specs.declared.inputs.RecvIn.{RecvIn}
use Rattle.wdt_receiver_fsm.specs.declared.inputs.RecvIn.TheVariants as inputs
use Rattle.wdt_receiver_fsm.specs.declared.states.RecvState.{RecvState}
use Rattle.wdt_receiver_fsm.specs.declared.states.RecvState.TheVariants as states
use Rattle.wdt_receiver_fsm.specs.Causes.{FallsShort, Misspeaks}
use Rattle.wdt_receiver_fsm.specs.Frames.{short_fault}
use Rattle.wdt_receiver_fsm.specs.Logging.{all_logged, all_logged_by, flush_by, flush_plan}
use Rattle.wdt_receiver_fsm.specs.Outcomes.{ByDone, ByWait, ByWaking, Idles, Mistakes, NoFrame, NoPlace, OtherSize, Serves, WrongBlock, WrongSettings}
use Rattle.wdt_receiver_fsm.specs.Plan.{EndsIn, Plan, ends}
use Rattle.wdt_receiver_fsm.specs.PlainReceiver.{PlainReceiver, can_finish, failed, lane_at, marks_at, noted}
use Rattle.wdt_receiver_fsm.specs.ReceiverHistory.{end_of}
use Rattle.wdt_receiver_fsm.specs.Rows.{BadFrame, Block as BlockRead, Done, Over, Row, SettingsRead, Size, Starved, Unexpected, WaitWritten, Woken, is_mute, is_reading, place_of, row_of}
use Rattle.wdt_receiver_fsm.specs.Turn.{Given, Put, Step, after_starving, block_with, disk_fails, finishes, finishes_with, gives_up, greets_with, idle_by, idle_plan, idles_lane, is_over, is_starved, leaves, rests, row_at, ruled, sizes_with, tells_failure, turn_plan, turn_row, turned, waited_lane}

fed : (r : PlainReceiver) (row : Row) → is_starved row ≡ false → after_starving r row ≡ r
fed r (Starved mute) e = cc
fed r row e = refl

-- by the table
by_table : (r : PlainReceiver) (l : Lane) (row : Row) → is_failure r.answer ≡ false → is_over row ≡ false → is_starved row ≡ false → turned r l row ≡ turn_row r l row
by_table r l row sound lives fed_on =
    ap (λ (t : PlainReceiver). ruled t l row) (fed r row fed_on)
    ∙ ap (λ (b : Bool). by_rules b false (is_failure r.answer) (ends (rests r)) (ends (leaves r l)) (ends (gives_up r l row)) (turn_row r l row)) lives
    ∙ ap (λ (b : Bool). by_rules false false b (ends (rests r)) (ends (leaves r l)) (ends (gives_up r l row)) (turn_row r l row)) sound

pub row_step : (r : PlainReceiver) (l : Lane) (put : Put) (row : Row) → row_at r l put ≡ row → is_failure r.answer ≡ false → is_over row ≡ false → is_starved row ≡ false → turn_plan r l put ≡ turn_row r l row
unfolding turn_plan
row_step r l put row is sound lives fed_on = ap (λ (x : Row). turned r l x) is ∙ by_table r l row sound lives fed_on

pub over_step : (r : PlainReceiver) (l : Lane) (put : Put) → row_at r l put ≡ Over → turn_plan r l put ≡ ends (rests r)
unfolding turn_plan
over_step r l put is = ap (λ (x : Row). turned r l x) is

-- a failure stays the answer where memory runs out
full : (a : EndAnswer) → is_failure a ≡ true → starved a ≡ a
full answers.Going fails = cc
full a fails = refl

full_end : (r : PlainReceiver) (row : Row) → is_failure r.answer ≡ true → after_starving r row ≡ r
full_end r (Starved mute) fails = ap (λ (a : EndAnswer). failed r a) (full r.answer fails)
full_end r row fails = refl

pub failed_step : (r : PlainReceiver) (l : Lane) (put : Put) (row : Row) → row_at r l put ≡ row → is_failure r.answer ≡ true → is_over row ≡ false → turn_plan r l put ≡ ends (gives_up r l row)
unfolding turn_plan
failed_step r l put row is fails lives =
    ap (λ (x : Row). turned r l x) is
    ∙ ap (λ (t : PlainReceiver). ruled t l row) (full_end r row fails)
    ∙ ap (λ (b : Bool). by_rules b false (is_failure r.answer) (ends (rests r)) (ends (leaves r l)) (ends (gives_up r l row)) (turn_row r l row)) lives
    ∙ ap (λ (b : Bool). by_rules false false b (ends (rests r)) (ends (leaves r l)) (ends (gives_up r l row)) (turn_row r l row)) fails

pub starved_step : (r : PlainReceiver) (l : Lane) (put : Put) (mute : Bool) → row_at r l put ≡ Starved mute → r.answer ≡ answers.Going → turn_plan r l put ≡ ends (gives_up (failed r answers.NoMemory) l (Starved mute))
unfolding turn_plan
starved_step r l put mute is going =
    ap (λ (x : Row). turned r l x) is ∙ ap (λ (a : EndAnswer). ruled (failed r (starved a)) l (Starved mute)) going

pub settled_step : (r : PlainReceiver) (l : Lane) (put : Put) (mute : Bool) → row_at r l put ≡ Starved mute → is_failure (starved r.answer) ≡ false → turn_plan r l put ≡ ends (rests r)
unfolding turn_plan
settled_step r l put mute is calm = ap (λ (x : Row). turned r l x) is ∙ go r.answer refl calm
  where
    go : (a : EndAnswer) → r.answer ≡ a → is_failure (starved r.answer) ≡ false → turned r l (Starved mute) ≡ ends (rests r)
    go answers.Going e calm = absurd (cc)
    go answers.Done e calm = ap (λ (x : EndAnswer). ruled (failed r (starved x)) l (Starved mute)) e ∙ ap (λ (x : EndAnswer). ends (rests (failed r x))) (sym e)
    go answers.Link e calm = ap (λ (x : EndAnswer). ruled (failed r (starved x)) l (Starved mute)) e ∙ ap (λ (x : EndAnswer). ends (rests (failed r x))) (sym e)
    go a e calm = absurd (cc)

-- ---- what the sender may not say

module _ (r : PlainReceiver) (l : Lane) where
  abbrev told : PeerKind → Step
  told kind = tells_failure (failed (noted r (events.Peer l kind ∷ [])) (answers.Peer kind)) l

  here_row : (state : RecvState) (input : RecvIn) (row : Row) → Serves r l state → row_of (lane_at r l.0).is_sized state input ≡ row → row_at r l (Given input) ≡ row
  here_row state input row at is = ap (λ (x : RecvState). row_of (lane_at r l.0).is_sized x input) at.here ∙ is

  -- the row is named, and the step is that of the row
  wrong_row : (state : RecvState) (put : Put) (input : RecvIn) (row : Row) (kind : PeerKind) → put ≡ Given input → Serves r l state → row_of (lane_at r l.0).is_sized state input ≡ row → is_over row ≡ false → is_starved row ≡ false → turn_row r l row ≡ ends (told kind) → turn_plan r l put ≡ ends (told kind)
  wrong_row state put input row kind given at is lives fed_on step =
      ap (λ (x : Put). turn_plan r l x) given ∙ row_step r l (Given input) row (here_row state input row at is) at.sound lives fed_on ∙ step

  bad_row : (sized : Bool) (state : RecvState) (at : ℕ) → is_reading state ≡ true → row_of sized state (inputs.Bad at) ≡ BadFrame at
  bad_row sized states.ReadSettings at reads = refl
  bad_row sized states.ReadNextCmd at reads = refl
  bad_row sized states.ReadAck at reads = refl
  bad_row sized state at reads = absurd (cc)

  mistake_step : (state : RecvState) (put : Put) (kind : PeerKind) → Serves r l state → is_reading state ≡ true → Mistakes r l state put kind → turn_plan r l put ≡ ends (told kind)
  mistake_step state put kind at reads (NoFrame place given is) =
      wrong_row state put (inputs.Bad place) (BadFrame place) kind given at (bad_row (lane_at r l.0).is_sized state place reads) refl refl (ap (λ (k : PeerKind). ends (told k)) (sym is))
  mistake_step state put kind at reads (NoPlace frame command given row is) =
      wrong_row state put (inputs.Got frame) (Unexpected (place_of state) command) kind given at row refl refl (ap (λ (k : PeerKind). ends (told k)) (sym is))
  mistake_step state put kind at reads (WrongSettings s field given here wrong is) =
      wrong_row state put (inputs.Got (frames.Settings s)) (SettingsRead s) kind given at (ap (λ (x : RecvState). row_of (lane_at r l.0).is_sized x (inputs.Got (frames.Settings s))) here) refl refl
      (ap (λ (o : Option ℕ). ends (greets_with r l s o)) wrong ∙ ap (λ (k : PeerKind). ends (told k)) (sym is))
  mistake_step state put kind at reads (OtherSize files bytes given here sized wrong) =
      wrong_row state put (inputs.Got (frames.Size files bytes)) (Size files bytes) kind given at
      (ap (λ (x : RecvState). row_of (lane_at r l.0).is_sized x (inputs.Got (frames.Size files bytes))) here ∙ ap (λ (b : Bool). row_of b states.ReadNextCmd (inputs.Got (frames.Size files bytes))) sized) refl refl
      (ap (λ (o : Option PeerKind). ends (sizes_with r l files bytes o)) wrong)
  mistake_step state put kind at reads (WrongBlock header given here sized wrong) =
      wrong_row state put (inputs.Got (frames.Block header)) (BlockRead header) kind given at
      (ap (λ (x : RecvState). row_of (lane_at r l.0).is_sized x (inputs.Got (frames.Block header))) here ∙ ap (λ (b : Bool). row_of b states.ReadNextCmd (inputs.Got (frames.Block header))) sized) refl refl
      (ap (λ (o : Option PeerKind). block_with r l header o) wrong)

pub misspeaks_step : (r : PlainReceiver) (l : Lane) (put : Put) (kind : PeerKind) → Misspeaks r l put kind → turn_plan r l put ≡ ends (tells_failure (failed (noted r (events.Peer l kind ∷ [])) (answers.Peer kind)) l)
misspeaks_step r l put kind m = mistake_step r l m.state put kind m.serves m.reads m.said

-- ---- an idle lane

module _ (r : PlainReceiver) (l : Lane) where
  -- the step of this row is the choice of the idle lane
  pub record Chooses (put : Put) (t : PlainReceiver) : Type 0 where
    pub row : Row
    pub voice : is_mute row ≡ false
    pub step : turn_plan r l put ≡ idle_plan r.history t l row

  chooses_by : (state : RecvState) (put : Put) (input : RecvIn) (row : Row) (t u : PlainReceiver) → put ≡ Given input → Serves r l state → row_of (lane_at r l.0).is_sized state input ≡ row → is_over row ≡ false → is_starved row ≡ false → turn_row r l row ≡ idle_plan r.history u l row → t ≡ u → turn_plan r l put ≡ idle_plan r.history t l row
  chooses_by state put input row t u given at is lives fed_on step same =
      ap (λ (x : Put). turn_plan r l x) given ∙ row_step r l (Given input) row (ap (λ (x : RecvState). row_of (lane_at r l.0).is_sized x input) at.here ∙ is) at.sound lives fed_on ∙ step
      ∙ ap (λ (x : PlainReceiver). idle_plan r.history x l row) (sym same)

  pub chooses : (put : Put) (t : PlainReceiver) → Idles r l put t → Chooses put t
  chooses put t (ByDone at sized given is) = record {
    row = Done;
    voice = refl;
    step = chooses_by states.ReadNextCmd put (inputs.Got frames.Done) Done t (idles_lane r l) given at (ap (λ (b : Bool). row_of b states.ReadNextCmd (inputs.Got frames.Done)) sized) refl refl refl is;
  }
  chooses put t (ByWait at given is) = record { row = WaitWritten; voice = refl; step = chooses_by states.SendWait put inputs.Wrote WaitWritten t (waited_lane r l) given at refl refl refl refl is }
  chooses put t (ByWaking at given is) = record { row = Woken; voice = refl; step = chooses_by states.WaitForFinish put inputs.Woken Woken t r given at refl refl refl refl is }

-- a flush ends where a call of it failed, or as it goes on
flush_ends : {S : Type 0} (Why : Type 0) (t : PlainReceiver) (bs : List Block) (broken : S) (next : PlainReceiver → Plan S) (x : S) → EndsIn Why (flush_by t bs broken next) x → (x ≡ broken) ⊎ EndsIn Why (next (all_logged_by t bs)) x
flush_ends Why t [] broken next x h = inr h
flush_ends Why t (b ∷ bs) broken next x (inl h) = inl h.1
flush_ends Why t (b ∷ bs) broken next x (inr h) = inr h

same_history : (t : PlainReceiver) (bs : List Block) → (all_logged_by t bs).history ≡ t.history
same_history t [] = refl
same_history t (b ∷ bs) = refl

-- at a ready finish that finds something else the step tells it, or a call of the flush failed
short_ends : (r : PlainReceiver) (l : Lane) (put : Put) (kind : PeerKind) (Why : Type 0) (step : Step) → (short : FallsShort r l put kind) → EndsIn Why (turn_plan r l put) step
    → (step ≡ tells_failure (failed short.idle answers.Disk) l) ⊎ (step ≡ tells_failure (failed (noted (record (all_logged short.idle) { history = r.history }) (events.Peer l kind ∷ [])) (answers.Peer kind)) l)
short_ends r l put kind Why step short ends_in =
    let t : PlainReceiver = short.idle in
    let c = chooses r l put short.idle short.finishes.idles in
    let plan : turn_plan r l put ≡ flush_plan short.idle (disk_fails short.idle l c.row) (finishes r.history l c.row) =
    c.step ∙ ap (λ (b : Bool). idle_by r.history short.idle l c.row b (can_finish short.idle)) short.finishes.first ∙ ap (λ (b : Bool). idle_by r.history short.idle l c.row false b) short.finishes.ready in
    go c.row c.voice (flush_ends Why short.idle short.idle.unlogged (disk_fails short.idle l c.row) (finishes r.history l c.row) step (subst (λ (p : Plan Step). EndsIn Why p step) plan ends_in))
  where
    go : (row : Row) → is_mute row ≡ false → (step ≡ disk_fails short.idle l row) ⊎ EndsIn Why (finishes r.history l row (all_logged short.idle)) step
        → (step ≡ tells_failure (failed short.idle answers.Disk) l) ⊎ (step ≡ tells_failure (failed (noted (record (all_logged short.idle) { history = r.history }) (events.Peer l kind ∷ [])) (answers.Peer kind)) l)
    go row voice (inl is) = inl (is ∙ ap (λ (b : Bool). by_voice b (leaves (failed short.idle answers.Disk) l) (tells_failure (failed short.idle answers.Disk) l)) voice)
    go row voice (inr is) = inr (is
        ∙ ap (λ (h : List RecvEvent). finishes_with r.history (all_logged short.idle) l row (short_fault (end_of h).sized (files_in (marks_at (all_logged short.idle))) (bytes_in (marks_at (all_logged short.idle))))) (same_history short.idle short.idle.unlogged)
        ∙ ap (λ (o : Option PeerKind). finishes_with r.history (all_logged short.idle) l row o) short.short
        ∙ ap (λ (b : Bool). by_voice b (leaves (failed (noted (record (all_logged short.idle) { history = r.history }) (events.Peer l kind ∷ [])) (answers.Peer kind)) l) (tells_failure (failed (noted (record (all_logged short.idle) { history = r.history }) (events.Peer l kind ∷ [])) (answers.Peer kind)) l)) voice)

pub short_told : (r : PlainReceiver) (l : Lane) (put : Put) (kind : PeerKind) (step : Step) → FallsShort r l put kind → EndsIn (Unit {0}) (turn_plan r l put) step → (step.1.answer ≡ answers.Peer kind) ⊎ (step.1.answer ≡ answers.Disk)
short_told r l put kind step short ends_in = go (short_ends r l put kind (Unit {0}) step short ends_in)
  where
    go : (step ≡ tells_failure (failed short.idle answers.Disk) l) ⊎ (step ≡ tells_failure (failed (noted (record (all_logged short.idle) { history = r.history }) (events.Peer l kind ∷ [])) (answers.Peer kind)) l) → (step.1.answer ≡ answers.Peer kind) ⊎ (step.1.answer ≡ answers.Disk)
    go (inl is) = inr (ap (λ (x : Step). x.1.answer) is)
    go (inr is) = inl (ap (λ (x : Step). x.1.answer) is)
