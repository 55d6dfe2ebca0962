-- A lane that wants bytes takes a block, and wants no more than are left of it.
use Rattle.std.proofs.Common.{◌≡◌, ℕ, ◌≤◌, min, List, Option, Some, None, refl, ap, arith}
use Rattle.std.specs.Prelude.{IfSome, option_map}
use Rattle.std.proofs.lemmas.Option.{same_Some}
use Rattle.wdt_units.specs.declared.blocks.Block.{Block}
use Rattle.wdt_units.specs.declared.limits.TheConstants.{PIECE}
use Rattle.wdt_receiver_fsm.specs.declared.states.RecvState.{RecvState}
use Rattle.wdt_receiver_fsm.specs.declared.states.RecvState.TheVariants as states
use Rattle.wdt_receiver_fsm.specs.PlainReceiver.{PlainReceiver, lane_at, past_at, state_at}
use Rattle.wdt_receiver_fsm.specs.Turn.{next_place}
use Rattle.wdt_logfmt.specs.Batches.{path_at}
use Rattle.wdt_dock.specs.Dock.{wanted, wanted_in, wanted_of}

module _ {N : Type 0} (path : N → List ℕ) (r : PlainReceiver) (l : ℕ) where
  abbrev Shown : N × ℕ × ℕ → List ℕ × ℕ × ℕ
  Shown told = (path told.0, told.1, told.2)

  abbrev pub Takes : N × ℕ × ℕ → Type 0
  Takes told = (state_at r l ≡ states.TakeBlock) × (told.2 ≤ PIECE) × (told.2 ≤ (lane_at r l).left)

  less_piece : (n left : ℕ) → n ≡ min left PIECE → n ≤ PIECE
  less_piece n left is = omega (arith, is)

  less_left : (n left : ℕ) → n ≡ min left PIECE → n ≤ left
  less_left n left is = omega (arith, is)

  count_of : (told : N × ℕ × ℕ) (x : List ℕ × ℕ × ℕ) → Some (Shown told) ≡ Some x → told.2 ≡ x.2
  count_of told x e = ap (λ (t : List ℕ × ℕ × ℕ). t.2) (same_Some (Shown told) x e)

  none_takes : (o : Option (N × ℕ × ℕ)) → option_map Shown o ≡ None → IfSome o Takes
  none_takes None e = tt
  none_takes (Some told) e = absurd (cc)

  by_begun : (o : Option (N × ℕ × ℕ)) (begun : Option Block) → state_at r l ≡ states.TakeBlock → option_map Shown o ≡ wanted_of r begun (lane_at r l).left → IfSome o Takes
  by_begun o None here e = none_takes o e
  by_begun None (Some b) here e = tt
  by_begun (Some told) (Some b) here e =
      let is = count_of told (path_at r.known b.file, next_place b (lane_at r l).left, min (lane_at r l).left PIECE) e in
      (here, less_piece told.2 (lane_at r l).left is, less_left told.2 (lane_at r l).left is)

  by_state : (o : Option (N × ℕ × ℕ)) (state : RecvState) → state_at r l ≡ state → option_map Shown o ≡ wanted_in r l state → IfSome o Takes
  by_state o states.TakeBlock here e = by_begun o (past_at r l).begun here e
  by_state o state here e = none_takes o e

  pub wants_takes : (o : Option (N × ℕ × ℕ)) → option_map Shown o ≡ wanted r l → IfSome o Takes
  wants_takes o e = by_state o (state_at r l) refl e
