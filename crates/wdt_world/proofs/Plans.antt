-- What a turn that calls the disk ends in, by which of its programs failed.
use Rattle.std.proofs.Common.{◌≡◌, inl, inr, ℕ, zero, suc, ◌-◌, Bool, true, false, List, length, Option, Some, None, sym, ap, ◌∙◌, refl}
use Rattle.std.proofs.lemmas.List.{length-replicate}
use Rattle.wdt_units.specs.declared.blocks.Block.{Block}
use Rattle.wdt_depot.specs.Programs.{Drive}
use Rattle.wdt_units.specs.declared.numbers.Lane.{Lane}
use Rattle.wdt_sender_fsm.specs.Rules.{by_rules, is_failure}
use Rattle.wdt_receiver_fsm.specs.declared.states.RecvState.{RecvState}
use Rattle.wdt_receiver_fsm.specs.declared.states.RecvState.TheVariants as states
use Rattle.wdt_receiver_fsm.specs.Plan.{EndsIn, Plan, calls, ends}
use Rattle.wdt_receiver_fsm.specs.PlainReceiver.{PlainReceiver, lane_at, past_at, state_at}
use Rattle.wdt_receiver_fsm.specs.Rows.{Piece, piece_row}
use Rattle.wdt_receiver_fsm.specs.Turn.{Bytes, gives_up, leaves, piece_by, piece_plan, rests, turn_plan, turned}
use Rattle.wdt_pact.specs.World.{ended, some_bytes}

-- ---- one program failed, or none

-- a turn ended so where this program failed, which it did for this reason, or none did
pub record EndedBy {S : Type 0} (Fails : Type 0) (plan : Plan S) (x : S) : Type 0 where
  pub broken : Option ℕ
  pub at : ended plan broken ≡ x
  pub cause : (broken ≡ None → ⊥) → Fails

-- the same program, one further behind
abbrev behind_one : Option ℕ → Option ℕ
behind_one None = None
behind_one (Some n) = Some (suc n)

shifts : {S : Type 0} (f : Drive → Bool × Drive) (s : S) (next : Plan S) (b : Option ℕ) → ended (calls f s next) (behind_one b) ≡ ended next b
shifts f s next None = refl
shifts f s next (Some n) = refl

none_of : (b : Option ℕ) → b ≡ None → behind_one b ≡ None
none_of None e = refl
none_of (Some n) e = absurd (no_some e) where
  no_some : Some n ≡ None → ⊥
  no_some e = cc

pub ends_by : {S : Type 0} (Fails : Type 0) (plan : Plan S) (x : S) → EndsIn Fails plan x → EndedBy Fails plan x
ends_by Fails (ends s) x e = record { broken = None; at = sym e; cause = λ none. absurd (none refl) }
ends_by Fails (calls f s next) x (inl e) = record { broken = Some zero; at = sym e.1; cause = λ none. e.0 }
ends_by Fails (calls f s next) x (inr e) =
    let b = ends_by Fails next x e in
    record { broken = behind_one b.broken; at = shifts f s next b.broken ∙ b.at; cause = λ none. b.cause (λ e. none (none_of b.broken e)) }

-- ---- what the bytes are makes no difference to the act and the end

piece_alike : (r : PlainReceiver) (l : Lane) (b : Block) (xs ys : List ℕ) (k : ℕ) (broken : Option ℕ) → ended (piece_by r l b (Piece xs) k) broken ≡ ended (piece_by r l b (Piece ys) k) broken
piece_alike r l b xs ys zero broken = refl
piece_alike r l b xs ys (suc k) broken = refl

plan_alike : (r : PlainReceiver) (l : Lane) (xs ys : List ℕ) → length xs ≡ length ys → (begun : Option Block) (broken : Option ℕ) → ended (piece_plan r l xs begun) broken ≡ ended (piece_plan r l ys begun) broken
plan_alike r l xs ys same None broken = refl
plan_alike r l xs ys same (Some b) None =
    piece_alike r l b xs ys ((lane_at r l.0).left - length xs) None ∙ ap (λ (n : ℕ). ended (piece_by r l b (Piece ys) ((lane_at r l.0).left - n)) None) same
plan_alike r l xs ys same (Some b) (Some zero) = refl
plan_alike r l xs ys same (Some b) (Some (suc n)) =
    piece_alike r l b xs ys ((lane_at r l.0).left - length xs) (Some n) ∙ ap (λ (k : ℕ). ended (piece_by r l b (Piece ys) ((lane_at r l.0).left - k)) (Some n)) same

ruled_alike : (r : PlainReceiver) (l : Lane) (xs ys : List ℕ) → length xs ≡ length ys → (broken : Option ℕ) (fails : Bool)
    → ended (by_rules false false fails (ends (rests r)) (ends (leaves r l)) (ends (gives_up r l (Piece xs))) (piece_plan r l xs (past_at r l.0).begun)) broken
    ≡ ended (by_rules false false fails (ends (rests r)) (ends (leaves r l)) (ends (gives_up r l (Piece ys))) (piece_plan r l ys (past_at r l.0).begun)) broken
ruled_alike r l xs ys same broken true = refl
ruled_alike r l xs ys same broken false = plan_alike r l xs ys same (past_at r l.0).begun broken

rows_alike : (r : PlainReceiver) (l : Lane) (xs ys : List ℕ) → length xs ≡ length ys → (broken : Option ℕ) (state : RecvState) → ended (turned r l (piece_row state xs)) broken ≡ ended (turned r l (piece_row state ys)) broken
rows_alike r l xs ys same broken states.TakeBlock = ruled_alike r l xs ys same broken (is_failure r.answer)
rows_alike r l xs ys same broken _ = refl

turns_alike : (r : PlainReceiver) (l : Lane) (xs ys : List ℕ) → length xs ≡ length ys → (broken : Option ℕ) → ended (turn_plan r l (Bytes xs)) broken ≡ ended (turn_plan r l (Bytes ys)) broken
unfolding turn_plan
turns_alike r l xs ys same broken = rows_alike r l xs ys same broken (state_at r l.0)

-- bytes are handed in
pub bytes_alike : (r : PlainReceiver) (l : Lane) (bytes : List ℕ) (broken : Option ℕ) → ended (turn_plan r l (Bytes bytes)) broken ≡ ended (turn_plan r l (Bytes (some_bytes (length bytes)))) broken
bytes_alike r l bytes broken = turns_alike r l bytes (some_bytes (length bytes)) (sym (length-replicate (length bytes) 0)) broken
