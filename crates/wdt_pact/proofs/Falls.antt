-- Sums over lanes, and what the message at the front weighs.
use Rattle.std.proofs.Common.{◌≡◌, ◌≢◌, ◌⊎◌, inl, inr, ℕ, zero, suc, ◌+◌, ◌*◌, ◌<◌, ◌≤◌, Bool, true, false, List, [], ◌∷◌, length, slice_set, sum_by, Option, Some, None, sym, ap, ◌∙◌, refl, arith}
use Rattle.std.proofs.lemmas.Bool.{cases_eq}
use Rattle.std.proofs.lemmas.List.{length-set}
use Rattle.wdt_codec.specs.declared.frames.Frame.{Frame}
use Rattle.wdt_sender_fsm.specs.Phases.{Message, Framed, pieces_in}
use Rattle.wdt_sender_fsm.specs.declared.states.SendState.{SendState}
use Rattle.std.proofs.lemmas.List.Sums.{sum_by-cons}
use Rattle.wdt_units.specs.declared.blocks.Block.{Block}
use Rattle.wdt_units.specs.declared.blocks.Header.{Header}
use Rattle.wdt_tree.specs.declared.entry.Entry.{Entry}
use Rattle.wdt_rest.specs.RestOf.{rest_of}
use Rattle.wdt_sender_fsm.specs.declared.acts.SendAct.TheVariants as acts
use Rattle.wdt_sender_fsm.specs.declared.inputs.SendIn.TheVariants as inputs
use Rattle.wdt_sender_fsm.specs.declared.states.SendState.TheVariants as states
use Rattle.wdt_sender_fsm.specs.declared.states.SendLane.{SendLane}
use Rattle.wdt_sender_fsm.specs.PlainSender.{PlainSender, lane_at, state_at, waiting_blocks, header_by}
use Rattle.wdt_pact.proofs.Below.{get_set, set_other}
use Rattle.wdt_receiver_fsm.specs.declared.acts.RecvAct.TheVariants as recv_acts
use Rattle.wdt_receiver_fsm.specs.declared.inputs.RecvIn.TheVariants as recv_inputs
use Rattle.wdt_receiver_fsm.specs.declared.states.RecvState.{RecvState}
use Rattle.wdt_receiver_fsm.specs.declared.states.RecvState.TheVariants as recv_states
use Rattle.wdt_receiver_fsm.specs.PlainReceiver as recv
use Rattle.wdt_receiver_fsm.specs.PlainReceiver.{have_now}
use Rattle.wdt_pact.specs.Links.{Way, Link, front, front_of, front_by, has_room, less, size_down}
use Rattle.wdt_pact.specs.Pairs.{SendHold, SendDoes, SendHas, RecvHold, RecvDoes, RecvHas, Pair}
use Rattle.wdt_pact.specs.World.{PlainWorld, pair_at, pair_or, with_pair}
use Rattle.wdt_pact.specs.Measure.{weigh, weigh_by, cost_down, sum_to, lane_low, low_at, lows, low, highs, high, queued_cost, weight, measure}

-- ---- sums

pub sum_same : (n : ℕ) (f g : ℕ → ℕ) → ((k : ℕ) → k < n → g k ≡ f k) → sum_to n g ≡ sum_to n f
sum_same zero f g same = refl
sum_same (suc n) f g same = let a = sum_same n f g (λ k b. same k (omega (arith, b))) in let b : g n ≡ f n = same n (omega arith) in omega (arith, a, b)

pub sum_to_le : (n : ℕ) (f g : ℕ → ℕ) → ((k : ℕ) → k < n → f k ≤ g k) → sum_to n f ≤ sum_to n g
sum_to_le zero f g each = omega arith
sum_to_le (suc n) f g each = let a = sum_to_le n f g (λ k small. each k (omega (arith, small))) in let b : f n ≤ g n = each n (omega arith) in omega (arith, a, b)

-- where one lane's part changes, the sum changes by as much
pub sum_change : (n l : ℕ) (f g : ℕ → ℕ) → l < n → ((k : ℕ) → k < n → k ≢ l → g k ≡ f k) → sum_to n g + f l ≡ sum_to n f + g l
sum_change zero l f g within same = absurd (omega (arith, within))
sum_change (suc n) l f g within same = go (λ b. sum_change n l f g b (λ k c ne. same k (omega (arith, c)) ne)) (cases_eq l n) where
  go : (l < n → sum_to n g + f l ≡ sum_to n f + g l) → (l ≡ n) ⊎ (l ≢ n) → sum_to n g + g n + f l ≡ sum_to n f + f n + g l
  go before (inl e) =
      let a : sum_to n g ≡ sum_to n f = sum_same n f g (λ k b. same k (omega (arith, b)) (λ x. omega (arith, b, x, e))) in
      let b : f l ≡ f n = ap f e in
      let c : g l ≡ g n = ap g e in
      omega (arith, a, b, c)
  go before (inr ne) =
      let a : sum_to n g + f l ≡ sum_to n f + g l = before (omega (arith, within, ne)) in
      let b : g n ≡ f n = same n (omega arith) (λ x. ne (sym x)) in
      omega (arith, a, b)

-- a lane's part falls: so does the sum
pub sum_falls : (n l : ℕ) (f g : ℕ → ℕ) (d : ℕ) → l < n → ((k : ℕ) → k < n → k ≢ l → g k ≡ f k) → g l + d ≤ f l → sum_to n g + d ≤ sum_to n f
sum_falls n l f g d within same falls = let a = sum_change n l f g within same in omega (arith, a, falls)

-- ---- what is on its way

abbrev weighs : {M : Type 0} → (M → ℕ) → (M → ℕ) → Option (M × Way M) → ℕ
weighs cost size None = 0
weighs cost size (Some x) = cost x.0 + weigh cost size x.1.sent x.1.room

pub front_weighs : {M : Type 0} (cost size : M → ℕ) (ms : List M) (room : Option ℕ) (m : M) (rest : Way M) → front_of size ms room ≡ Some (m, rest) → weigh cost size ms room ≡ cost m + weigh cost size rest.sent rest.room
front_weighs {M} cost size [] room m rest e = cc
front_weighs {M} cost size (x ∷ ms) room m rest e = go (has_room room (size x)) e where
  go : (b : Bool) → front_by b x record { sent = ms; room = less room (size x) } ≡ Some (m, rest) → weigh_by b (cost x) (weigh cost size ms (less room (size x))) ≡ cost m + weigh cost size rest.sent rest.room
  go true is = ap {A = Option (M × Way M)} {B = ℕ} (weighs cost size) is
  go false is = cc

-- ---- a block's header

pub header_length : (o : Option Entry) (b : Block) → (header_by o b).length ≡ b.length
header_length None b = refl
header_length (Some e) b = refl
