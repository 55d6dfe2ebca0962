-- What a lane is given to write lies in the grammar's ranges.
use Rattle.std.proofs.Common.{◌≡◌, ◌≢◌, ◌⊎◌, inl, inr, ℕ, zero, suc, ◌+◌, ◌<◌, ◌≤◌, ◌&&◌, not, List, [], ◌∷◌, ◌++◌, length, filter, map, Bool, true, false, if◌then◌else◌, subst, sym, ap, ◌∙◌, refl, arith, append_assoc, append-nil, length-append}
use Rattle.std.proofs.lemmas.Bool.{both_ways}
use Rattle.std.proofs.lemmas.List.Elements.{filter-append}
use Rattle.wdt_units.specs.Lanes.{AllOf}
use Rattle.wdt_units.specs.declared.numbers.Lane.{Lane}
use Rattle.wdt_codec.specs.Frames.{FitMarks, FitsMark, FitsMarks}
use Rattle.wdt_sender_fsm.specs.declared.answers.EndAnswer.{EndAnswer}
use Rattle.wdt_sender_fsm.specs.declared.answers.EndAnswer.TheVariants as answers
use Rattle.wdt_sender_fsm.specs.Rules.{code_of, is_failure}
use Rattle.wdt_receiver_fsm.specs.declared.events.RecvEvent.{RecvEvent}
use Rattle.wdt_receiver_fsm.specs.declared.events.RecvEvent.TheVariants as events
use Rattle.wdt_receiver_fsm.specs.declared.states.RecvLane.{RecvLane}
use Rattle.wdt_receiver_fsm.specs.declared.states.RecvState.{RecvState}
use Rattle.wdt_receiver_fsm.specs.declared.states.RecvState.TheVariants as states
use Rattle.wdt_receiver_fsm.specs.Acts.{act_in, act_of}
use Rattle.wdt_receiver_fsm.specs.Causes.{IsCause}
use Rattle.wdt_receiver_fsm.specs.Legal.{IsAllowed, IsLegal, IsSound, Terms, legal_from}
use Rattle.wdt_receiver_fsm.specs.Plan.{EndsIn}
use Rattle.wdt_receiver_fsm.specs.PlainReceiver.{PlainReceiver, lane_at, mark_of, past_at, state_at}
use Rattle.wdt_receiver_fsm.specs.Ready.{is_confirmed, is_untold, untold}
use Rattle.wdt_receiver_fsm.specs.Receiver.{Fares, IsReceiver, terms_of}
use Rattle.wdt_receiver_fsm.specs.ReceiverHistory.{RecvPast, end_of, lane_of, past_of, past_of-none}
use Rattle.wdt_receiver_fsm.specs.Sets.{has, lanes_of, numbers, set_of}
use Rattle.wdt_receiver_fsm.specs.Turn.{Put, Step, turn_plan}
use Rattle.wdt_receiver_fsm.specs.Writes.{CanTell, FitsAct, FitsPut}
use Rattle.wdt_receiver_fsm.proofs.Entries.{abort_past, acked, began, closed, dropped, finish_past, idled, landed, met_past, peer_past, quitted, sized_past, told, took, tried}
use Rattle.wdt_receiver_fsm.proofs.Failing.{turn_follows}
use Rattle.wdt_receiver_fsm.proofs.Keeping.{other_past}
use Rattle.wdt_receiver_fsm.proofs.LaneLists.{lanes_of_some}
use Rattle.wdt_receiver_fsm.proofs.Sound.{fewer, legal_sound, same_or}

-- ---- rising lanes

-- numbers that rise, from low on and below high
Up : ℕ → ℕ → List ℕ → Type 0
Up low high [] = Unit {0}
Up low high (x ∷ xs) = (low ≤ x) × (x < high) × Up (x + 1) high xs

up_wider : (low high more : ℕ) (xs : List ℕ) → high ≤ more → Up low high xs → Up low more xs
unfolding Up
up_wider low high more [] wide up = tt
up_wider low high more (x ∷ xs) wide up = (up.0, omega (arith, up.1, wide), up_wider (x + 1) high more xs wide up.2)

up_put : (low n : ℕ) (xs : List ℕ) → low ≤ n → Up low n xs → Up low (suc n) (xs ++ n ∷ [])
unfolding Up
up_put low n [] from up = (from, omega arith, tt)
up_put low n (x ∷ xs) from up = (up.0, omega (arith, up.1), up_put (x + 1) n xs (omega (arith, up.1)) up.2)

up_some : (f : ℕ → Bool) (n : ℕ) → Up 0 n (filter f (numbers n))
unfolding Up
up_some f zero = tt
up_some f (suc n) = subst (λ (xs : List ℕ). Up 0 (suc n) xs) (sym (filter-append f (numbers n) (n ∷ []))) (go (up_some f n) (f n))
  where
    go : Up 0 n (filter f (numbers n)) → (b : Bool) → Up 0 (suc n) (filter f (numbers n) ++ (if b then n ∷ [] else []))
    go up true = up_put 0 n (filter f (numbers n)) (omega arith) up
    go up false = subst (λ (xs : List ℕ). Up 0 (suc n) xs) (sym (append-nil (filter f (numbers n)))) (up_wider 0 n (suc n) (filter f (numbers n)) (omega arith) up)

count_next : (f : ℕ → Bool) (n : ℕ) (b : Bool) → f n ≡ b → length (filter f (numbers (suc n))) ≡ length (filter f (numbers n)) + (if b then 1 else 0)
count_next f n true is = ap length (filter-append f (numbers n) (n ∷ []) ∙ ap (λ (b : Bool). filter f (numbers n) ++ (if b then n ∷ [] else [])) is) ∙ length-append (filter f (numbers n)) (n ∷ [])
count_next f n false is = ap length (filter-append f (numbers n) (n ∷ []) ∙ ap (λ (b : Bool). filter f (numbers n) ++ (if b then n ∷ [] else [])) is) ∙ length-append (filter f (numbers n)) []

count_most : (f : ℕ → Bool) (n : ℕ) → length (filter f (numbers n)) ≤ n
count_most f zero = omega arith
count_most f (suc n) = go (count_most f n) (f n) refl
  where
    go : length (filter f (numbers n)) ≤ n → (b : Bool) → f n ≡ b → length (filter f (numbers (suc n))) ≤ suc n
    go most true is = omega (arith, count_next f n true is, most)
    go most false is = omega (arith, count_next f n false is, most)

-- fewer, where one of them is left out
count_less : (f : ℕ → Bool) (n l : ℕ) → l < n → f l ≡ false → length (filter f (numbers n)) < n
count_less f zero l within out = absurd (omega (arith, within))
count_less f (suc n) l within out = go (λ (w : l < n). count_less f n l w out) (f n) refl (same_or l n)
  where
    go : (l < n → length (filter f (numbers n)) < n) → (b : Bool) → f n ≡ b → (l ≡ n) ⊎ (l ≢ n) → length (filter f (numbers (suc n))) < suc n
    go less false is at = omega (arith, count_next f n false is, count_most f n)
    go less true is (inl same) = absurd (both_ways (f n) (subst (λ (k : ℕ). f k ≡ false) same out) is)
    go less true is (inr ne) = let below : l < n = omega (arith, within, ne) in omega (arith, count_next f n true is, less (omega (arith, within, ne)))

-- ---- what lanes tell

-- nothing, or some lanes that have their place in a frame
record FitsTelling (xs : List ℕ) : Type 0 where
  up : Up 0 16 xs
  most : length xs ≤ 15

telling_none : FitsTelling []
unfolding Up
telling_none = record { up = tt; most = omega arith }

untold_self : (g : List RecvEvent) (l : ℕ) → (past_of g l).is_closed ≡ false → is_untold g l l ≡ false
untold_self g l open_ = ap (λ (b : Bool). b && not (is_confirmed g l) && not (has (past_of g l).told l)) open_

untold_fits : (n : ℕ) (g : List RecvEvent) (l : ℕ) → n ≤ 16 → l < n → (past_of g l).is_closed ≡ false → FitsTelling (lanes_of (set_of (untold n g l)))
untold_fits n g l few within lives = subst FitsTelling (sym (lanes_of_some (is_untold g l) n few)) record {
  up = up_wider 0 n 16 (filter (is_untold g l) (numbers n)) few (up_some (is_untold g l) n);
  most = omega (arith, count_less (is_untold g l) n l within (untold_self g l lives), few);
}

abbrev T : List RecvEvent → ℕ → Type 0
T g j = FitsTelling (past_of g j).telling

-- an entry of a lane that is another's, or leaves what it tells, or clears it
apart : (g : List RecvEvent) (l : Lane) (e : RecvEvent) (j : ℕ) → AllOf lane_of l.0 (e ∷ []) → T g j → (T g l.0 → T (g ++ e ∷ []) l.0) → T (g ++ e ∷ []) j
apart g l e j own s here = go (same_or j l.0)
  where
    go : (j ≡ l.0) ⊎ (j ≢ l.0) → T (g ++ e ∷ []) j
    go (inl is) = subst (λ (k : ℕ). T (g ++ e ∷ []) k) (sym is) (here (subst (λ (k : ℕ). T g k) is s))
    go (inr ne) = subst (λ (p : RecvPast). FitsTelling p.telling) (sym (other_past g e l.0 j own ne)) s

telling_after : (t : Terms) (g : List RecvEvent) (e : RecvEvent) (j : ℕ) → t.lanes ≤ 16 → IsAllowed t g e → T g j → T (g ++ e ∷ []) j
telling_after t g (events.Take l c) j few a s = apart g l (events.Take l c) j (refl, tt) s (λ h. subst (λ (p : RecvPast). FitsTelling p.telling) (sym (took g l c)) h)
telling_after t g (events.NoLink l) j few a s = apart g l (events.NoLink l) j (refl, tt) s (λ h. subst (λ (p : RecvPast). FitsTelling p.telling) (sym (tried g l)) h)
telling_after t g (events.Met l settings) j few a s = subst (λ (p : RecvPast). FitsTelling p.telling) (sym (met_past g l settings j)) s
telling_after t g (events.Sized l files bytes) j few a s = subst (λ (p : RecvPast). FitsTelling p.telling) (sym (sized_past g l files bytes j)) s
telling_after t g (events.Begin l b) j few a s = apart g l (events.Begin l b) j (refl, tt) s (λ h. subst (λ (p : RecvPast). FitsTelling p.telling) (sym (began g l b)) h)
telling_after t g (events.Land l) j few a s = apart g l (events.Land l) j (refl, tt) s (λ h. subst (λ (p : RecvPast). FitsTelling p.telling) (sym (landed g l)) h)
telling_after t g (events.Dropped l) j few a s = apart g l (events.Dropped l) j (refl, tt) s (λ h. subst (λ (p : RecvPast). FitsTelling p.telling) (sym (dropped g l)) telling_none)
telling_after t g (events.Idle l) j few a s = apart g l (events.Idle l) j (refl, tt) s (λ h. subst (λ (p : RecvPast). FitsTelling p.telling) (sym (idled g l)) telling_none)
telling_after t g (events.Told l q) j few a s =
    apart g l (events.Told l q) j (refl, tt) s
    (λ h. subst (λ (p : RecvPast). FitsTelling p.telling) (sym (told g l q))
    (subst (λ (set : _). FitsTelling (lanes_of set)) (sym a.fits.1) (untold_fits t.lanes g l.0 few a.speaks.within a.speaks.closed)))
telling_after t g (events.Close l) j few a s = apart g l (events.Close l) j (refl, tt) s (λ h. subst (λ (p : RecvPast). FitsTelling p.telling) (sym (closed g l)) h)
telling_after t g events.Finish j few a s = subst (λ (p : RecvPast). FitsTelling p.telling) (sym (finish_past g j)) s
telling_after t g (events.Acked l) j few a s = apart g l (events.Acked l) j (refl, tt) s (λ h. subst (λ (p : RecvPast). FitsTelling p.telling) (sym (acked g l)) h)
telling_after t g (events.Quit l) j few a s = apart g l (events.Quit l) j (refl, tt) s (λ h. subst (λ (p : RecvPast). FitsTelling p.telling) (sym (quitted g l)) h)
telling_after t g (events.Abort l code) j few a s = subst (λ (p : RecvPast). FitsTelling p.telling) (sym (abort_past g l code j)) s
telling_after t g (events.Peer l kind) j few a s = subst (λ (p : RecvPast). FitsTelling p.telling) (sym (peer_past g l kind j)) s

telling_from : (t : Terms) (b g : List RecvEvent) (j : ℕ) → t.lanes ≤ 16 → T b j → legal_from t b g → T (b ++ g) j
telling_from t b [] j few s legal = subst (λ (h : List RecvEvent). T h j) (sym (append-nil b)) s
telling_from t b (e ∷ g) j few s legal = subst (λ (h : List RecvEvent). T h j) (append_assoc b (e ∷ []) g) (telling_from t (b ++ e ∷ []) g j few (telling_after t b e j few legal.0 s) legal.1)

telling_legal : (t : Terms) (g : List RecvEvent) (j : ℕ) → t.lanes ≤ 16 → IsLegal t g → T g j
unfolding IsLegal
telling_legal t g j few legal = telling_from t [] g j few (subst (λ (p : RecvPast). FitsTelling p.telling) (sym (past_of-none j)) telling_none) legal

-- ---- marks

mark_fits : (g : List RecvEvent) (l : ℕ) → l ≤ 15 → IsSound (past_of g l) → FitsMark (mark_of g l)
unfolding mark_of
mark_fits g l few sound = record { lane = few; count = omega (arith, fewer (past_of g l).landed (past_of g l).begun, sound.few) }

mark_lane : (g : List RecvEvent) (l : ℕ) → (mark_of g l).lane.0 ≡ l
unfolding mark_of
mark_lane g l = refl

marks_fit : (g : List RecvEvent) (low : ℕ) (xs : List ℕ) → ((l : ℕ) → IsSound (past_of g l)) → Up low 16 xs → FitMarks low (map (mark_of g) xs)
unfolding Up
marks_fit g low [] sound up = tt
marks_fit g low (x ∷ xs) sound up = (
  mark_fits g x (omega (arith, up.1)) (sound x),
  subst (λ (n : ℕ). low ≤ n) (sym (mark_lane g x)) up.0,
  subst (λ (n : ℕ). FitMarks (n + 1) (map (mark_of g) xs)) (sym (mark_lane g x)) (marks_fit g (x + 1) xs sound up.2),
)

marks_many : (g : List RecvEvent) (xs : List ℕ) → length (map (mark_of g) xs) ≡ length xs
marks_many g [] = refl
marks_many g (x ∷ xs) = ap suc (marks_many g xs)

some_length : (xs : List ℕ) → xs ≢ [] → 1 ≤ length xs
some_length [] some = absurd (some refl)
some_length (x ∷ xs) some = omega arith

-- ---- acts

module _ (r : PlainReceiver) (l : Lane) (is : IsReceiver r) (within : l.0 < length r.lanes) (tells : CanTell r) where
  sound : (j : ℕ) → IsSound (past_of r.history j)
  sound j = legal_sound (terms_of r) r.history j is.legal

  told_fits : (past_at r l.0).telling ≢ [] → FitsMarks (map (mark_of r.history) (past_at r l.0).telling)
  told_fits some =
      let fits = telling_legal (terms_of r) r.history l.0 is.few is.legal in
      record {
        some = subst (λ (n : ℕ). 1 ≤ n) (sym (marks_many r.history (past_at r l.0).telling)) (some_length (past_at r l.0).telling some);
        most = subst (λ (n : ℕ). n ≤ 15) (sym (marks_many r.history (past_at r l.0).telling)) fits.most;
        rise = marks_fit r.history 0 (past_at r l.0).telling sound fits.up;
      }

  fits_in : (lane : RecvLane) (state : RecvState) → Fares (is_failure r.answer) state lane (past_at r l.0) (end_of r.history) → FitsAct (act_in r l lane state)
  fits_in lane states.SendLocalCheckpoint fares = (mark_fits r.history l.0 (omega (arith, within, is.few)) (sound l.0), tt)
  fits_in lane states.SendFileChunks fares = (tells.have, tt)
  fits_in lane states.SendWait fares = (tt, tt)
  fits_in lane states.SendGlobalCheckpoint fares = (told_fits fares.4, tt)
  fits_in lane states.SendDone fares = (tt, tt)
  fits_in lane states.SendAbort fares = (tells.code, tt)
  fits_in lane state fares = tt

  pub act_written : FitsAct (act_of r l)
  act_written = fits_in (lane_at r l.0) (state_at r l.0) (is.lanes l.0 within)

-- ---- codes

code_of_cause : (r : PlainReceiver) (l : Lane) (put : Put) (t : PlainReceiver) (a : EndAnswer) → FitsPut put → IsCause r l put t a → code_of a ≤ 255
code_of_cause r l put t answers.Going fits why = omega arith
code_of_cause r l put t answers.Done fits why = omega arith
code_of_cause r l put t answers.Link fits why = omega arith
code_of_cause r l put t answers.Source fits why = omega arith
code_of_cause r l put t answers.Disk fits why = omega arith
code_of_cause r l put t (answers.Peer kind) fits why = omega arith
code_of_cause r l put t (answers.Aborted code) fits why = subst FitsPut why.0.said fits
code_of_cause r l put t (answers.Refused kind) fits why = omega arith
code_of_cause r l put t answers.NoMemory fits why = omega arith

pub codes_keep : (r : PlainReceiver) (l : Lane) (put : Put) (step : Step) → FitsPut put → code_of r.answer ≤ 255 → EndsIn (Unit {0}) (turn_plan r l put) step → code_of step.1.answer ≤ 255
codes_keep r l put step fits small ends = go (is_failure r.answer) refl
  where
    go : (b : Bool) → is_failure r.answer ≡ b → code_of step.1.answer ≤ 255
    go true fails = subst (λ (x : PlainReceiver). code_of x.answer ≤ 255) (sym ((turn_follows r l put step ends).still fails)) small
    go false sound = code_of_cause r l put step.1 step.1.answer fits ((turn_follows r l put step ends).caused sound)
