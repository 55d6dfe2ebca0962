-- What a step leaves of the begun blocks and of how many lanes there are, and that it loses no disk.
use Rattle.std.proofs.Common.{◌≡◌, inl, inr, ℕ, zero, suc, ◌<◌, Bool, true, false, List, [], ◌∷◌, length, Option, Some, refl, sym, ap, ◌∙◌, subst, arith}
use Rattle.std.specs.Prelude.{if◌then◌else◌, slice_get, slice_set}
use Rattle.std.proofs.lemmas.Bool.{cases_eq}
use Rattle.std.proofs.lemmas.List.{length-set}
use Rattle.wdt_units.specs.declared.blocks.Block.{Block}
use Rattle.wdt_sender_fsm.specs.declared.answers.EndAnswer.{EndAnswer}
use Rattle.wdt_sender_fsm.specs.declared.answers.EndAnswer.TheVariants as answers
use Rattle.wdt_sender_fsm.specs.Rules.{is_failure, judged, standing}
use Rattle.wdt_receiver_fsm.specs.declared.events.RecvEvent.{RecvEvent}
use Rattle.wdt_receiver_fsm.specs.declared.states.RecvLane.{RecvLane}
use Rattle.wdt_receiver_fsm.specs.declared.states.RecvState.{RecvState}
use Rattle.wdt_receiver_fsm.specs.PlainReceiver.{PlainReceiver, failed, goes, lane_at, lane_or_ended, noted, past_at, with_lane}
use Rattle.wdt_receiver_fsm.specs.ReceiverHistory.{RecvPast, begun_after, past_of-append}
use Rattle.wdt_dock.specs.DockView.{HasLostDisk}

-- as many lanes, and of each the same begun block with as many bytes to come
pub record Stays (r t : PlainReceiver) : Type 0 where
  pub lanes : length t.lanes ≡ length r.lanes
  pub begun : (k : ℕ) → (past_at t k).begun ≡ (past_at r k).begun
  pub left : (k : ℕ) → (lane_at t k).left ≡ (lane_at r k).left

-- the disk isn't lost where it wasn't
abbrev pub LosesNone : PlainReceiver → PlainReceiver → Type 0
LosesNone r t = (HasLostDisk r.answer → ⊥) → HasLostDisk t.answer → ⊥

pub stays_same : (r : PlainReceiver) → Stays r r
stays_same r = record { lanes = refl; begun = λ k. refl; left = λ k. refl }

pub stays_more : (r s t : PlainReceiver) → Stays r s → Stays s t → Stays r t
stays_more r s t a b = record {
  lanes = b.lanes ∙ a.lanes;
  begun = λ k. b.begun k ∙ a.begun k;
  left = λ k. b.left k ∙ a.left k;
}

-- ---- an entry

-- an entry that begins, lands and loses no block
abbrev pub IsApart : RecvEvent → Type 0
IsApart e = (k : ℕ) (b : Option Block) → begun_after k b e ≡ b

pub stays_noted : (r : PlainReceiver) (e : RecvEvent) → IsApart e → Stays r (noted r (e ∷ []))
stays_noted r e apart = record {
  lanes = refl;
  begun = λ k. ap (λ (p : RecvPast). p.begun) (past_of-append r.history (e ∷ []) k) ∙ apart k (past_at r k).begun;
  left = λ k. refl;
}

-- ---- a lane

set_here : (xs : List RecvLane) (i : ℕ) (x : RecvLane) → i < length xs → slice_get (slice_set xs i x) i ≡ Some x
set_here [] i x within = absurd (omega (arith, within))
set_here (y ∷ ys) zero x within = refl
set_here (y ∷ ys) (suc i) x within = set_here ys i x (omega (arith, within))

pub set_other : (xs : List RecvLane) (i k : ℕ) (x : RecvLane) → (k ≡ i → ⊥) → slice_get (slice_set xs i x) k ≡ slice_get xs k
set_other [] i k x ne = refl
set_other (y ∷ ys) zero zero x ne = absurd (ne refl)
set_other (y ∷ ys) zero (suc k) x ne = refl
set_other (y ∷ ys) (suc i) zero x ne = refl
set_other (y ∷ ys) (suc i) (suc k) x ne = set_other ys i k x (λ same. ne (ap suc same))

pub lane_here : (r : PlainReceiver) (l : ℕ) (lane : RecvLane) → l < length r.lanes → lane_at (with_lane r l lane) l ≡ lane
lane_here r l lane within = ap lane_or_ended (set_here r.lanes l lane within)

pub lane_other : (r : PlainReceiver) (l k : ℕ) (lane : RecvLane) → (k ≡ l → ⊥) → lane_at (with_lane r l lane) k ≡ lane_at r k
lane_other r l k lane ne = ap lane_or_ended (set_other r.lanes l k lane ne)

pub stays_lane : (r : PlainReceiver) (l : ℕ) (lane : RecvLane) → l < length r.lanes → lane.left ≡ (lane_at r l).left → Stays r (with_lane r l lane)
stays_lane r l lane within same = record {
  lanes = length-set r.lanes l lane;
  begun = λ k. refl;
  left = λ k. elim (cases_eq k l) [
    | inl is ↦ subst (λ (j : ℕ). (lane_at (with_lane r l lane) j).left ≡ (lane_at r j).left) (sym is) (ap (λ (x : RecvLane). x.left) (lane_here r l lane within) ∙ same)
    | inr ne ↦ ap (λ (x : RecvLane). x.left) (lane_other r l k lane ne)
  ];
}

pub stays_going : (r : PlainReceiver) (l : ℕ) (state : RecvState) → l < length r.lanes → Stays r (goes r l state)
stays_going r l state within = stays_lane r l record (lane_at r l) { state = state } within refl

-- the end fails
pub stays_failed : (r : PlainReceiver) (a : EndAnswer) → Stays r (failed r a)
stays_failed r a = record { lanes = refl; begun = λ k. refl; left = λ k. refl }

-- ---- the disk

judged_sound : (a : EndAnswer) (done over : Bool) → (HasLostDisk a → ⊥) → HasLostDisk (judged a done over) → ⊥
judged_sound a done over here lost = go (is_failure a) lost
  where
    stood : (x y : Bool) → HasLostDisk (standing x y) → ⊥
    stood true y none = none
    stood false true none = none
    stood false false none = none

    go : (c : Bool) → HasLostDisk (if c then a else standing done over) → ⊥
    go true l = here l
    go false l = stood done over l

pub loses_lane : (r : PlainReceiver) (l : ℕ) (lane : RecvLane) → LosesNone r (with_lane r l lane)
loses_lane r l lane = judged_sound r.answer _ _

-- an end that hasn't failed hasn't lost its disk
pub not_lost : (a : EndAnswer) → is_failure a ≡ false → HasLostDisk a → ⊥
not_lost answers.Disk sound lost = cc
not_lost answers.Going sound none = none
not_lost answers.Done sound none = none
not_lost answers.Link sound none = none
not_lost answers.Source sound none = none
not_lost (answers.Peer kind) sound none = none
not_lost (answers.Aborted code) sound none = none
not_lost (answers.Refused kind) sound none = none
not_lost answers.NoMemory sound none = none
