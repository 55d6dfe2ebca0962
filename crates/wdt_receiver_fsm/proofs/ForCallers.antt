-- A turn's plan, part by part, for the proofs of the crates that make its calls.
use Rattle.std.proofs.Common.{◌≡◌, inl, inr, Bool, true, false, List, [], ◌∷◌, ◌++◌, Option, Some, None, ℕ, suc, ◌-◌, length, ap, ◌∙◌, refl, subst, sym}
use Rattle.std.specs.Prelude.{option_map}
use Rattle.std.proofs.lemmas.Option.{same_Some}
use Rattle.wdt_units.specs.declared.blocks.Block.{Block}
use Rattle.wdt_units.specs.declared.numbers.Lane.{Lane}
use Rattle.wdt_depot.specs.Programs.{Calls, Drive, both, onward}
use Rattle.wdt_logfmt.specs.Batches.{path_at}
use Rattle.wdt_receiver_fsm.specs.declared.states.RecvState.TheVariants as states
use Rattle.wdt_good.specs.Calls.{run_piece, run_sync_file, run_syncs}
use Rattle.wdt_receiver_fsm.specs.Logging.{all_logged, all_logged_by, flush_by, flush_calls, flush_calls_by, flush_plan, flushed}
use Rattle.wdt_receiver_fsm.specs.Outcomes.{landed_by}
use Rattle.wdt_receiver_fsm.specs.Plan.{EndsIn, Plan, PlanRan, calls, ends, run_plan, went}
use Rattle.wdt_receiver_fsm.specs.PlainReceiver.{PlainReceiver, goes, is_batch_full, lane_at}
use Rattle.wdt_receiver_fsm.specs.Rows.{Piece, Row}
use Rattle.wdt_receiver_fsm.specs.Turn.{Step, disk_fails, logs, logs_by, next_place, piece_by, piece_of, reads, reads_on, takes_piece}
-- a result, from what holds of it otherwise
pub use Rattle.wdt_receiver_fsm.proofs.Results.{if_ok}
-- steps by their rows, and as outcomes
pub use Rattle.wdt_receiver_fsm.proofs.RowSteps.{Chooses, chooses, failed_step, misspeaks_step, over_step, row_step, settled_step, short_told, starved_step}
pub use Rattle.wdt_receiver_fsm.proofs.Comes.{end_comes}
-- when a lane stops, or waits
pub use Rattle.wdt_receiver_fsm.proofs.Parking.{park_why, parks_act}
pub use Rattle.wdt_receiver_fsm.proofs.Stopping.{step_stops}
-- what steps keep
pub use Rattle.wdt_receiver_fsm.proofs.Answered.{answered_done, answered_link, logged_answered, lost_answered, opened_answered, turn_answered}
pub use Rattle.wdt_receiver_fsm.proofs.Batching.{flush_batched, landed_more, landed_same, marks_follow, marks_logged, opened_batched, turn_batched}
pub use Rattle.wdt_receiver_fsm.proofs.Failing.{turn_follows}
pub use Rattle.wdt_receiver_fsm.proofs.HeldActs.{lane_set, turn_acts}
pub use Rattle.wdt_receiver_fsm.proofs.Marking.{landed_named, landed_there, there_stays}
pub use Rattle.wdt_receiver_fsm.proofs.Receiving.{opened_is, turn_keeps}
pub use Rattle.wdt_receiver_fsm.proofs.Touching.{turn_touches}
-- what lanes say, and what is said of them
pub use Rattle.wdt_receiver_fsm.proofs.Keeping.{end_behind, other_past}
pub use Rattle.wdt_receiver_fsm.proofs.Sound.{closed_is_out, legal_sound}
pub use Rattle.wdt_receiver_fsm.proofs.Speaking.{act_fits, heard_named, piece_asked}
pub use Rattle.wdt_receiver_fsm.proofs.Talking.{turn_stands}
pub use Rattle.wdt_receiver_fsm.proofs.Tellers.{tellers_tell}
pub use Rattle.wdt_receiver_fsm.proofs.Writing.{act_written, codes_keep}

-- ---- plans

-- the program went well, and so did the rest
pub plan_well : {S : Type 0} (f : Drive → Bool × Drive) (broken s : S) (next : Plan S) (a b c : Option Drive) → Calls f true a b → PlanRan next s b c → PlanRan (calls f broken next) s a c
plan_well f broken s next None None None p q = refl
plan_well f broken s next None None (Some z) p q = cc
plan_well f broken s next None (Some y) c p q = cc
plan_well f broken s next (Some x) None c p q = cc
plan_well f broken s next (Some x) (Some y) None p q = cc
plan_well f broken s next (Some x) (Some y) (Some z) p q = ap (λ (r : Bool × Drive). Some (went broken (run_plan next) r.0 r.1)) (same_Some _ _ p) ∙ q

-- a call of it failed
pub plan_broken : {S : Type 0} (f : Drive → Bool × Drive) (broken : S) (next : Plan S) (a b : Option Drive) → Calls f false a b → PlanRan (calls f broken next) broken a b
plan_broken f broken next None None p = refl
plan_broken f broken next None (Some y) p = cc
plan_broken f broken next (Some x) None p = cc
plan_broken f broken next (Some x) (Some y) p = ap (λ (r : Bool × Drive). Some (went broken (run_plan next) r.0 r.1)) (same_Some _ _ p)

-- an end
pub plan_ends : {S : Type 0} (x y : S) (a : Option Drive) → x ≡ y → PlanRan (ends y) x a a
plan_ends x y a is = ap (λ (z : _). option_map (λ p. (z, p)) a) (sym is)

-- what a turn may end in for a reason, it may end in for another that follows from it
pub ends_weaker : {S : Type 0} (Fails Why : Type 0) (plan : Plan S) (x : S) → (Fails → Why) → EndsIn Fails plan x → EndsIn Why plan x
ends_weaker Fails Why (ends s) x why h = h
ends_weaker Fails Why (calls f broken next) x why (inl h) = inl (why h.0, h.1)
ends_weaker Fails Why (calls f broken next) x why (inr h) = inr (ends_weaker Fails Why next x why h)

-- ---- the syncs of files

-- programs that do the same on each drive
pub calls_as : (f g : Drive → Bool × Drive) (ok : Bool) (a b : Option Drive) → ((p : Drive) → f p ≡ g p) → Calls f ok a b → Calls g ok a b
calls_as f g ok None None same p = refl
calls_as f g ok None (Some y) same p = cc
calls_as f g ok (Some x) None same p = cc
calls_as f g ok (Some x) (Some y) same p = sym (ap (λ (r : Bool × Drive). Some r) (same x)) ∙ p

-- more files
pub run_syncs-append : (ps qs : List (List ℕ)) (p : Drive) → both (run_syncs ps) (run_syncs qs) p ≡ run_syncs (ps ++ qs) p
run_syncs-append [] qs p = refl
run_syncs-append (x ∷ ps) qs p = go (run_syncs-append ps qs) (run_sync_file x p).0 (run_sync_file x p).1
  where
    go : ((d : Drive) → both (run_syncs ps) (run_syncs qs) d ≡ run_syncs (ps ++ qs) d) → (b : Bool) (d : Drive) → onward (run_syncs qs) (onward (run_syncs ps) b d).0 (onward (run_syncs ps) b d).1 ≡ onward (run_syncs (ps ++ qs)) b d
    go more true d = more d
    go more false d = refl

-- ---- a flush

idle_same : {S : Type 0} (next : Plan S) (s : S) (a b c : Option Drive) → Calls (λ p. (true, p)) true a b → PlanRan next s b c → PlanRan next s a c
idle_same next s None None c p q = q
idle_same next s None (Some y) c p q = cc
idle_same next s (Some x) None c p q = cc
idle_same next s (Some x) (Some y) c p q = let same : x ≡ y = ap (λ (r : Bool × Drive). r.1) (same_Some _ _ p) in ap (λ (d : Drive). Some (run_plan next d)) same ∙ q

idle_fails : {A : Type 0} (a b : Option Drive) → Calls (λ p. (true, p)) false a b → (a ≡ None → b ≡ None → A) → A
idle_fails None None p h = h refl refl
idle_fails None (Some y) p h = absurd (cc)
idle_fails (Some x) None p h = absurd (cc)
idle_fails (Some x) (Some y) p h = let apart : true ≡ false = ap (λ (r : Bool × Drive). r.0) (same_Some _ _ p) in absurd (cc)

module _ {S : Type 0} (r : PlainReceiver) (broken : S) (next : PlainReceiver → Plan S) where
  well_by : (bs : List Block) (x : S) (a b c : Option Drive) → Calls (flush_calls_by r bs) true a b → PlanRan (next (all_logged_by r bs)) x b c → PlanRan (flush_by r bs broken next) x a c
  well_by [] x a b c p q = idle_same (next r) x a b c p q
  well_by (e ∷ es) x a b c p q = plan_well (flush_calls_by r (e ∷ es)) broken x (next (flushed r)) a b c p q

  broken_by : (bs : List Block) (a b : Option Drive) → Calls (flush_calls_by r bs) false a b → PlanRan (flush_by r bs broken next) broken a b
  broken_by [] a b p = idle_fails a b p (λ no none. ap (option_map (run_plan (next r))) no ∙ sym (ap (option_map (λ d. (broken, d))) none))
  broken_by (e ∷ es) a b p = plan_broken (flush_calls_by r (e ∷ es)) broken (next (flushed r)) a b p

  -- it went well, and so did the rest
  pub flush_well : (x : S) (a b c : Option Drive) → Calls (flush_calls r) true a b → PlanRan (next (all_logged r)) x b c → PlanRan (flush_plan r broken next) x a c
  flush_well x a b c p q = well_by r.unlogged x a b c p q

  -- a call of it failed
  pub flush_broken : (a b : Option Drive) → Calls (flush_calls r) false a b → PlanRan (flush_plan r broken next) broken a b
  flush_broken a b p = broken_by r.unlogged a b p

  ends_well_by : (Fails : Type 0) (bs : List Block) (x : S) → EndsIn Fails (next (all_logged_by r bs)) x → EndsIn Fails (flush_by r bs broken next) x
  ends_well_by Fails [] x h = h
  ends_well_by Fails (e ∷ es) x h = inr h

  ends_broken_by : (Fails : Type 0) (bs : List Block) (x : S) → Fails → (bs ≡ [] → ⊥) → x ≡ broken → EndsIn Fails (flush_by r bs broken next) x
  ends_broken_by Fails [] x why some is = absurd (some refl)
  ends_broken_by Fails (e ∷ es) x why some is = inl (why, is)

  -- what the turn may end in, where nothing of the flush failed, and where something did
  pub ends_well : (Fails : Type 0) (x : S) → EndsIn Fails (next (all_logged r)) x → EndsIn Fails (flush_plan r broken next) x
  ends_well Fails x h = ends_well_by Fails r.unlogged x h

  pub ends_broken : (Fails : Type 0) (x : S) → Fails → (r.unlogged ≡ [] → ⊥) → x ≡ broken → EndsIn Fails (flush_plan r broken next) x
  ends_broken Fails x why some is = ends_broken_by Fails r.unlogged x why some is

-- ---- plans that are the same

-- a turn by another name of its plan
pub plan_as : {S : Type 0} (plan other : Plan S) (x : S) (a b : Option Drive) → plan ≡ other → PlanRan other x a b → PlanRan plan x a b
plan_as {S} plan other x a b same ran = subst (λ (p : Plan S). PlanRan p x a b) (sym same) ran

pub ends_as : {S : Type 0} (Fails : Type 0) (plan other : Plan S) (x : S) → plan ≡ other → EndsIn Fails other x → EndsIn Fails plan x
ends_as {S} Fails plan other x same h = subst (λ (p : Plan S). EndsIn Fails p x) (sym same) h

-- ---- what landed is logged, where it is time

module _ (r : PlainReceiver) (l : Lane) (row : Row) where
  -- it isn't
  pub logs_none : (a : Option Drive) → is_batch_full r ≡ false → PlanRan (logs r l row) (reads (goes r l.0 states.ReadNextCmd)) a a
  logs_none a room =
      plan_as (logs r l row) (reads_on l r) (reads (goes r l.0 states.ReadNextCmd)) a a (ap (λ (b : Bool). logs_by r l row b) room)
      (plan_ends (reads (goes r l.0 states.ReadNextCmd)) (reads (goes r l.0 states.ReadNextCmd)) a refl)

  -- it is, and the flush went well
  pub logs_well : (a b : Option Drive) → is_batch_full r ≡ true → Calls (flush_calls r) true a b → PlanRan (logs r l row) (reads (goes (all_logged r) l.0 states.ReadNextCmd)) a b
  logs_well a b full called =
      plan_as (logs r l row) (flush_plan r (disk_fails r l row) (reads_on l)) (reads (goes (all_logged r) l.0 states.ReadNextCmd)) a b (ap (λ (x : Bool). logs_by r l row x) full)
      (flush_well r (disk_fails r l row) (reads_on l) (reads (goes (all_logged r) l.0 states.ReadNextCmd)) a b b called
      (plan_ends (reads (goes (all_logged r) l.0 states.ReadNextCmd)) (reads (goes (all_logged r) l.0 states.ReadNextCmd)) b refl))

  -- a call of it failed
  pub logs_broken : (a b : Option Drive) → is_batch_full r ≡ true → Calls (flush_calls r) false a b → PlanRan (logs r l row) (disk_fails r l row) a b
  logs_broken a b full called =
      plan_as (logs r l row) (flush_plan r (disk_fails r l row) (reads_on l)) (disk_fails r l row) a b (ap (λ (x : Bool). logs_by r l row x) full) (flush_broken r (disk_fails r l row) (reads_on l) a b called)

  pub logs_end_none : (Fails : Type 0) → is_batch_full r ≡ false → EndsIn Fails (logs r l row) (reads (goes r l.0 states.ReadNextCmd))
  logs_end_none Fails room = ends_as Fails (logs r l row) (reads_on l r) (reads (goes r l.0 states.ReadNextCmd)) (ap (λ (b : Bool). logs_by r l row b) room) refl

  pub logs_end_well : (Fails : Type 0) → is_batch_full r ≡ true → EndsIn Fails (logs r l row) (reads (goes (all_logged r) l.0 states.ReadNextCmd))
  logs_end_well Fails full =
      ends_as Fails (logs r l row) (flush_plan r (disk_fails r l row) (reads_on l)) (reads (goes (all_logged r) l.0 states.ReadNextCmd)) (ap (λ (b : Bool). logs_by r l row b) full)
      (ends_well r (disk_fails r l row) (reads_on l) Fails (reads (goes (all_logged r) l.0 states.ReadNextCmd)) refl)

  pub logs_end_broken : (Fails : Type 0) → Fails → is_batch_full r ≡ true → (r.unlogged ≡ [] → ⊥) → EndsIn Fails (logs r l row) (disk_fails r l row)
  logs_end_broken Fails why full some =
      ends_as Fails (logs r l row) (flush_plan r (disk_fails r l row) (reads_on l)) (disk_fails r l row) (ap (λ (b : Bool). logs_by r l row b) full) (ends_broken r (disk_fails r l row) (reads_on l) Fails (disk_fails r l row) why some refl)

-- ---- a piece of a block

module _ (r : PlainReceiver) (l : Lane) (bytes : List ℕ) (b : Block) where
  abbrev piece_calls : Drive → Bool × Drive
  piece_calls = run_piece (path_at r.known b.file) (next_place b (lane_at r l.0).left) bytes

  left_by : (left : ℕ) (x : Step) (c d : Option Drive) → (lane_at r l.0).left - length bytes ≡ left → PlanRan (piece_by r l b (Piece bytes) left) x c d → PlanRan (piece_by r l b (Piece bytes) ((lane_at r l.0).left - length bytes)) x c d
  left_by left x c d is ran = subst (λ (n : ℕ). PlanRan (piece_by r l b (Piece bytes) n) x c d) (sym is) ran

  -- it is written, and more is to come
  pub piece_taken : (left : ℕ) (a c : Option Drive) → (lane_at r l.0).left - length bytes ≡ suc left → Calls piece_calls true a c → PlanRan (piece_of r l bytes b) (takes_piece r l (suc left)) a c
  piece_taken left a c more called =
      plan_well piece_calls (disk_fails r l (Piece bytes)) (takes_piece r l (suc left)) (piece_by r l b (Piece bytes) ((lane_at r l.0).left - length bytes)) a c c called
      (left_by (suc left) (takes_piece r l (suc left)) c c more (plan_ends (takes_piece r l (suc left)) (takes_piece r l (suc left)) c refl))

  -- it is written and lands the block, and what landed may be logged
  pub piece_landed : (x : Step) (a c d : Option Drive) → (lane_at r l.0).left - length bytes ≡ 0 → Calls piece_calls true a c → PlanRan (logs (landed_by r l b) l (Piece bytes)) x c d → PlanRan (piece_of r l bytes b) x a d
  piece_landed x a c d last called ran =
      plan_well piece_calls (disk_fails r l (Piece bytes)) x (piece_by r l b (Piece bytes) ((lane_at r l.0).left - length bytes)) a c d called (left_by 0 x c d last ran)

  -- it couldn't be written
  pub piece_broken : (a c : Option Drive) → Calls piece_calls false a c → PlanRan (piece_of r l bytes b) (disk_fails r l (Piece bytes)) a c
  piece_broken a c called = plan_broken piece_calls (disk_fails r l (Piece bytes)) (piece_by r l b (Piece bytes) ((lane_at r l.0).left - length bytes)) a c called

  pub piece_end_taken : (Fails : Type 0) (left : ℕ) → (lane_at r l.0).left - length bytes ≡ suc left → EndsIn Fails (piece_of r l bytes b) (takes_piece r l (suc left))
  piece_end_taken Fails left more = inr (subst (λ (n : ℕ). EndsIn Fails (piece_by r l b (Piece bytes) n) (takes_piece r l (suc left))) (sym more) refl)

  pub piece_end_landed : (Fails : Type 0) (x : Step) → (lane_at r l.0).left - length bytes ≡ 0 → EndsIn Fails (logs (landed_by r l b) l (Piece bytes)) x → EndsIn Fails (piece_of r l bytes b) x
  piece_end_landed Fails x last h = inr (subst (λ (n : ℕ). EndsIn Fails (piece_by r l b (Piece bytes) n) x) (sym last) h)

  pub piece_end_broken : (Fails : Type 0) → Fails → EndsIn Fails (piece_of r l bytes b) (disk_fails r l (Piece bytes))
  piece_end_broken Fails why = inl (why, refl)
