-- When a step's act is Park.
use Rattle.std.proofs.Common.{◌≡◌, ℕ, zero, suc, ◌<◌, List, [], length, Bool, true, false, refl, sym, ap, ◌∙◌, subst}
use Rattle.std.proofs.lemmas.Bool.{both_ways}
use Rattle.std.proofs.lemmas.List.{length-set}
use Rattle.wdt_units.specs.declared.blocks.Block.{Block}
use Rattle.wdt_units.specs.declared.numbers.Lane.{Lane}
use Rattle.wdt_codec.specs.declared.frames.Settings.{Settings}
use Rattle.wdt_sender_fsm.specs.Rules.{by_voice, is_failure}
use Rattle.wdt_receiver_fsm.specs.declared.acts.RecvAct.{RecvAct}
use Rattle.wdt_receiver_fsm.specs.declared.acts.RecvAct.TheVariants as acts
use Rattle.wdt_receiver_fsm.specs.declared.inputs.RecvIn.TheVariants as inputs
use Rattle.wdt_receiver_fsm.specs.declared.states.RecvLane.{RecvLane}
use Rattle.wdt_receiver_fsm.specs.declared.states.RecvState.{RecvState}
use Rattle.wdt_receiver_fsm.specs.declared.states.RecvState.TheVariants as states
use Rattle.wdt_receiver_fsm.specs.Outcomes.{Acknowledged, Begun, ByDone, ByWait, ByWaking, Comes, ComesOf, Concluded, Ended, Failed, GivenUp, Greeted, Idles, IsIdle, Left, Linked, Listed, Listened, Outcome, ReadOn, Rested, Sized, Taken, Told, Waited, Warned, came_to}
use Rattle.wdt_receiver_fsm.specs.Plan.{EndsIn, Plan, ends}
use Rattle.wdt_receiver_fsm.specs.PlainReceiver.{PlainReceiver, can_finish, failed, has_finish, lane_at, past_at, state_at, untold_at}
use Rattle.wdt_receiver_fsm.specs.Ready.{is_ready, untold}
use Rattle.wdt_receiver_fsm.specs.Receiver.{Fares, IsReceiver}
use Rattle.wdt_receiver_fsm.specs.ReceiverHistory.{end_of}
use Rattle.wdt_receiver_fsm.specs.Stops.{Parks, belongs, is_waiting}
use Rattle.wdt_receiver_fsm.specs.Turn.{Given, Put, Step, begins_by, greets_by, idle_by, leaves, meets, tells_by, tells_failure, turn_plan, waited_lane, waits_by}
use Rattle.wdt_receiver_fsm.proofs.HeldActs.{lane_set}
use Rattle.wdt_receiver_fsm.proofs.RowSteps.{chooses}

-- ---- an outcome with this act

abbrev is_park : RecvAct → Bool
is_park acts.Park = true
is_park act = false

voice_not : (t : PlainReceiver) (l : Lane) (mute : Bool) → is_park (by_voice mute (leaves t l) (tells_failure t l)).0 ≡ false
voice_not t l true = refl
voice_not t l false = refl

greets_not : (t : PlainReceiver) (l : Lane) (s : Settings) (come : Bool) → is_park (greets_by t l s come).0 ≡ false
greets_not t l s true = refl
greets_not t l s false = refl

begins_not : (t : PlainReceiver) (l : Lane) (b : Block) (left : ℕ) → is_park (begins_by t l b left).0 ≡ false
begins_not t l b zero = refl
begins_not t l b (suc left) = refl

-- the outcome is that the lane waits itself
abbrev waits_itself : Outcome → Bool
waits_itself (Waited t true) = true
waits_itself o = false

park_by : (r : PlainReceiver) (l : Lane) (o : Outcome) → is_park (came_to r l o).0 ≡ waits_itself o
park_by r l Rested = refl
park_by r l Left = refl
park_by r l Warned = refl
park_by r l (Failed t a mute) = voice_not (failed t a) l mute
park_by r l (GivenUp t) = refl
park_by r l (Listened t) = refl
park_by r l Linked = refl
park_by r l (Greeted s) = greets_not (meets r l s) l s (has_finish r)
park_by r l Listed = refl
park_by r l (ReadOn t) = refl
park_by r l (Sized files bytes) = refl
park_by r l (Begun t b) = begins_not t l b b.length
park_by r l (Taken left) = refl
park_by r l (Concluded t) = refl
park_by r l (Told t q qs) = refl
park_by r l (Waited t true) = refl
park_by r l (Waited t false) = refl
park_by r l Ended = refl
park_by r l Acknowledged = refl

-- ---- an idle lane

wait_fares : (r : PlainReceiver) (l : Lane) (at : RecvState) → state_at r l.0 ≡ at → IsReceiver r → l.0 < length r.lanes → Fares (is_failure r.answer) at (lane_at r l.0) (past_at r l.0) (end_of r.history)
wait_fares r l at here is within = subst (λ (s : RecvState). Fares (is_failure r.answer) s (lane_at r l.0) (past_at r l.0) (end_of r.history)) here (is.lanes l.0 within)

both_so : (Q : RecvState → Put → Type 0) (state at : RecvState) (put given : Put) → state ≡ at → put ≡ given → Q at given → Q state put
both_so Q state at put given is same q = subst (λ (s : RecvState). Q s put) (sym is) (subst (λ (p : Put). Q at p) (sym same) q)

idle_parks : (r : PlainReceiver) (l : Lane) (put : Put) (t : PlainReceiver) → IsReceiver r → l.0 < length r.lanes → IsIdle r l put t [] → (lane_at t l.0).has_waited ≡ true → Parks r l put
idle_parks r l put t is within idle waited = go idle.idles
  where
    many : length (waited_lane r l).lanes ≡ length r.lanes
    many = length-set r.lanes l.0 record (lane_at r l.0) { has_waited = true }

    go : Idles r l put t → Parks r l put
    go (ByDone at sized given same) =
        let fresh : (lane_at t l.0).has_waited ≡ false = ap (λ (x : PlainReceiver). (lane_at x l.0).has_waited) same ∙ ap (λ (x : RecvLane). x.has_waited) (lane_set r l.0 record (lane_at r l.0) { has_waited = false } within) in
        absurd (both_ways (lane_at t l.0).has_waited fresh waited)
    go (ByWait at given same) = record {
      allowed = both_so (λ s p. belongs s p ≡ true) (state_at r l.0) states.SendWait put (Given inputs.Wrote) at.here given refl;
      idle = (wait_fares r l states.SendWait at.here is within).0.idle;
      waited = both_so (λ s p. is_waiting s (lane_at r l.0).has_waited p ≡ true) (state_at r l.0) states.SendWait put (Given inputs.Wrote) at.here given refl;
      sound = at.sound;
      first = sym (ap has_finish same) ∙ idle.first;
      unready = sym (ap can_finish same ∙ ap (λ (n : ℕ). is_ready n r.history) many) ∙ idle.unready;
      told = sym (ap (λ (x : PlainReceiver). untold_at x l.0) same ∙ ap (λ (n : ℕ). untold n r.history l.0) many) ∙ idle.told;
    }
    go (ByWaking at given same) = record {
      allowed = both_so (λ s p. belongs s p ≡ true) (state_at r l.0) states.WaitForFinish put (Given inputs.Woken) at.here given refl;
      idle = (wait_fares r l states.WaitForFinish at.here is within).0.idle;
      waited = both_so (λ s p. is_waiting s (lane_at r l.0).has_waited p ≡ true) (state_at r l.0) states.WaitForFinish put (Given inputs.Woken) at.here given (sym (ap (λ (x : PlainReceiver). (lane_at x l.0).has_waited) same) ∙ waited);
      sound = at.sound;
      first = sym (ap has_finish same) ∙ idle.first;
      unready = sym (ap can_finish same) ∙ idle.unready;
      told = sym (ap (λ (x : PlainReceiver). untold_at x l.0) same) ∙ idle.told;
    }

pub park_why : (r : PlainReceiver) (l : Lane) (put : Put) (step : Step) → IsReceiver r → l.0 < length r.lanes → Comes r l put step → step.0 ≡ acts.Park → Parks r l put
park_why r l put step is within comes park = go comes.outcome comes.of (sym (park_by r l comes.outcome) ∙ ap (λ (x : Step). is_park x.0) (sym comes.is) ∙ ap is_park park)
  where
    go : (o : Outcome) → ComesOf r l put o → waits_itself o ≡ true → Parks r l put
    go (Waited t true) of waits = idle_parks r l put t is within of.0 of.1
    go o of waits = absurd (cc)

-- ---- a lane that waits parks

record Idle (r : PlainReceiver) (l : Lane) (put : Put) : Type 0 where
  at : PlainReceiver
  idles : Idles r l put at
  waited : (lane_at at l.0).has_waited ≡ true
  first : has_finish at ≡ has_finish r
  ready : can_finish at ≡ can_finish r
  told : untold_at at l.0 ≡ untold_at r l.0

waiting_idle : (r : PlainReceiver) (l : Lane) (state : RecvState) (put : Put) → l.0 < length r.lanes → is_failure r.answer ≡ false → state_at r l.0 ≡ state → is_waiting state (lane_at r l.0).has_waited put ≡ true → Idle r l put
waiting_idle r l states.SendWait (Given inputs.Wrote) within sound here waits =
    let many : length (waited_lane r l).lanes ≡ length r.lanes = length-set r.lanes l.0 record (lane_at r l.0) { has_waited = true } in
    record {
      at = waited_lane r l;
      idles = ByWait (record { sound = sound; here = here }) refl refl;
      waited = ap (λ (x : RecvLane). x.has_waited) (lane_set r l.0 record (lane_at r l.0) { has_waited = true } within);
      first = refl;
      ready = ap (λ (n : ℕ). is_ready n r.history) many;
      told = ap (λ (n : ℕ). untold n r.history l.0) many;
    }
waiting_idle r l states.WaitForFinish (Given inputs.Woken) within sound here waits = record {
  at = r;
  idles = ByWaking (record { sound = sound; here = here }) refl refl;
  waited = waits;
  first = refl;
  ready = refl;
  told = refl;
}
waiting_idle r l state put within sound here waits = absurd (cc)

pub parks_act : (Why : Type 0) (r : PlainReceiver) (l : Lane) (put : Put) (step : Step) → l.0 < length r.lanes → Parks r l put → EndsIn Why (turn_plan r l put) step → step.0 ≡ acts.Park
parks_act Why r l put step within parks ends_in =
    let i = waiting_idle r l (state_at r l.0) put within parks.sound refl parks.waited in
    let c = chooses r l put i.at i.idles in
    let plan : turn_plan r l put ≡ ends (waits_by i.at l true) =
    c.step ∙ ap (λ (b : Bool). idle_by r.history i.at l c.row b (can_finish i.at)) (i.first ∙ parks.first) ∙ ap (λ (b : Bool). idle_by r.history i.at l c.row false b) (i.ready ∙ parks.unready)
    ∙ ap (λ (qs : List ℕ). ends (tells_by i.at l qs)) (i.told ∙ parks.told) ∙ ap (λ (b : Bool). ends (waits_by i.at l b)) i.waited in
    ap (λ (x : Step). x.0) (subst (λ (p : Plan Step). EndsIn Why p step) plan ends_in)
