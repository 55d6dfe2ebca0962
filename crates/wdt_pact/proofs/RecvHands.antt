-- What a receiver's lane holds, by what it hands in.
use Rattle.std.proofs.Common.{◌≡◌, ℕ, Bool, true, false, List, [], subst, sym, ap, ◌∙◌, refl}
use Rattle.std.proofs.lemmas.Bool.{both_ways}
use Rattle.wdt_receiver_fsm.specs.declared.acts.RecvAct.TheVariants as recv_acts
use Rattle.wdt_receiver_fsm.specs.declared.inputs.RecvIn.{RecvIn}
use Rattle.wdt_receiver_fsm.specs.declared.inputs.RecvIn.TheVariants as recv_inputs
use Rattle.wdt_receiver_fsm.specs.declared.states.RecvLane.{RecvLane}
use Rattle.wdt_receiver_fsm.specs.ReceiverHistory.{RecvPast}
use Rattle.wdt_receiver_fsm.specs.Turn.{Bytes, Given, Put}
use Rattle.wdt_pact.specs.Belongs.{RecvBelongs}
use Rattle.wdt_pact.specs.Pairs.{RecvHold, RecvDoes, RecvHas, RecvTook}
use Rattle.wdt_pact.specs.World.{some_bytes}

-- what is handed in of what the lane holds: an input, a piece, or that a waiting lane is woken
abbrev pub Hands : RecvHold → Put → Type 0
Hands (RecvHas input) put = put ≡ Given input
Hands (RecvTook n) put = put ≡ Bytes (some_bytes n)
Hands (RecvDoes recv_acts.Park) put = put ≡ Given recv_inputs.Woken
Hands (RecvDoes act) put = ⊥

abbrev input_of : Put → RecvIn
input_of (Given input) = input
input_of (Bytes bytes) = recv_inputs.Odd

abbrev bytes_in : Put → List ℕ
bytes_in (Given input) = []
bytes_in (Bytes bytes) = bytes

abbrev is_given : Put → Bool
is_given (Given input) = true
is_given (Bytes bytes) = false

abbrev pub is_woken : RecvIn → Bool
is_woken recv_inputs.Woken = true
is_woken _ = false

pub same_input : (a b : RecvIn) → Given a ≡ Given b → a ≡ b
same_input a b e = ap input_of e

pub not_bytes : {P : Type 0} (bytes : List ℕ) (input : RecvIn) → Bytes bytes ≡ Given input → P
not_bytes bytes input e = absurd (both_ways false refl (ap is_given e))

-- an input is held as it is
pub holds_input : (held : RecvHold) (put : Put) (input : RecvIn) → Hands held put → put ≡ Given input → is_woken input ≡ false → held ≡ RecvHas input
holds_input (RecvHas i) put input h e n = ap RecvHas (same_input i input (sym h ∙ e))
holds_input (RecvTook m) put input h e n = not_bytes (some_bytes m) input (sym h ∙ e)
holds_input (RecvDoes recv_acts.Park) put input h e n = absurd (both_ways (is_woken input) n (ap is_woken (sym (same_input recv_inputs.Woken input (sym h ∙ e)))))
holds_input (RecvDoes act) put input h e n = absurd h

-- a lane that is woken waits
pub holds_park : (held : RecvHold) (put : Put) (lane : RecvLane) (past : RecvPast) → Hands held put → put ≡ Given recv_inputs.Woken → RecvBelongs held lane past → held ≡ RecvDoes recv_acts.Park
holds_park (RecvHas i) put lane past h e b = absurd (subst (λ (x : RecvIn). RecvBelongs (RecvHas x) lane past) (same_input i recv_inputs.Woken (sym h ∙ e)) b)
holds_park (RecvTook m) put lane past h e b = not_bytes (some_bytes m) recv_inputs.Woken (sym h ∙ e)
holds_park (RecvDoes recv_acts.Park) put lane past h e b = refl
holds_park (RecvDoes act) put lane past h e b = absurd h

-- bytes are those of the piece that it took
pub holds_piece : (held : RecvHold) (put : Put) (bytes : List ℕ) → Hands held put → put ≡ Bytes bytes → (n : ℕ) × (held ≡ RecvTook n) × (bytes ≡ some_bytes n)
holds_piece (RecvHas i) put bytes h e = not_bytes bytes i (sym e ∙ h)
holds_piece (RecvTook m) put bytes h e = (m, refl, ap bytes_in (sym e ∙ h))
holds_piece (RecvDoes recv_acts.Park) put bytes h e = not_bytes bytes recv_inputs.Woken (sym e ∙ h)
holds_piece (RecvDoes act) put bytes h e = absurd h
