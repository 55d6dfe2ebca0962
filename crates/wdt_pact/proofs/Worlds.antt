-- Whatever happens to a world, event after event, it stays sound, and its finish as it must be.
use Rattle.std.proofs.Common.{◌≡◌, ℕ, zero, suc, ◌+◌, ◌-◌, ◌^◌, ◌<◌, ◌≤◌, Bool, true, false, List, [], ◌∷◌, length, replicate, slice_get, Some, cond, count_by, subst, sym, ap, ◌∙◌, refl, append-nil, arith}
use Rattle.std.proofs.lemmas.List.{length-replicate, length-set}
use Rattle.std.proofs.lemmas.List.Sums.{sum_by-append, sum_by-cons}
use Rattle.wdt_units.specs.declared.blocks.Header.{Header}
use Rattle.wdt_units.specs.declared.numbers.Conn.{Conn}
use Rattle.wdt_claims.specs.Claimed.{is_held}
use Rattle.wdt_claims.specs.LaneWords.{Claims}
use Rattle.wdt_codec.specs.Chunks.{FitsChunks}
use Rattle.wdt_codec.specs.declared.frames.Frame.{Frame}
use Rattle.wdt_codec.specs.declared.frames.Frame.TheVariants as frames
use Rattle.wdt_logfmt.specs.View.{Meaning}
use Rattle.wdt_tree.specs.declared.entry.Entry.{Entry}
use Rattle.wdt_sender_fsm.specs.declared.inputs.SendIn.TheVariants as inputs
use Rattle.wdt_sender_fsm.specs.declared.states.SendState.{SendState}
use Rattle.wdt_sender_fsm.specs.Phases.{Phase, is_named, phase_by, phase_heard}
use Rattle.wdt_sender_fsm.specs.Places.{tabulate}
use Rattle.wdt_sender_fsm.specs.PlainSender.{new_lane, opened, unfinished_blocks}
use Rattle.wdt_sender_fsm.specs.Rows.{row_of}
use Rattle.wdt_sender_fsm.specs.Sender.{IsSender}
use Rattle.wdt_sender_fsm.specs.SenderHistory.{past_of}
use Rattle.wdt_sender_fsm.specs.Writes.{IsLawful}
use Rattle.wdt_receiver_fsm.specs.PlainReceiver as recv
use Rattle.wdt_receiver_fsm.specs.PlainReceiver.{have_now}
use Rattle.wdt_receiver_fsm.specs.Receiver.{IsReceiver}
use Rattle.wdt_pact.specs.Conversation.{common, receiving, sending}
use Rattle.wdt_pact.specs.Finishing.{Finishing}
use Rattle.wdt_pact.specs.Fitting.{AreOfLanes, IsSound, lane_of}
use Rattle.wdt_pact.specs.Lists.{Splits}
use Rattle.wdt_pact.specs.Pairs.{SendHas}
use Rattle.wdt_pact.specs.Right.{IsRight}
use Rattle.wdt_pact.specs.World.{PlainWorld, WorldEvent, Sends, Receives, Cut, Deny, Refuse, all_happen, first_pair, first_world, happens, pair_at}
use Rattle.wdt_pact.proofs.Agreeing.{list_after, told_true}
use Rattle.wdt_pact.proofs.Beginning.{finishing_first, lands_in_order, receives_named, sends_named, sound_first}
use Rattle.wdt_pact.proofs.Confirming.{SenderTouches, SoundLanes, StayClosed, confirmed_after, ready_after}
use Rattle.wdt_pact.proofs.Counting.{greeting_right, marks_right}
use Rattle.wdt_pact.proofs.Emptying.{empty_after, planned_after}
use Rattle.wdt_pact.proofs.Events.{recv_cases, send_cases}
use Rattle.wdt_pact.proofs.Planning.{sized_after, tells_after}
use Rattle.wdt_pact.proofs.Served.{SenderMakes, finish_stays, finished_after}
use Rattle.wdt_pact.proofs.TellingAll.{SenderComes, tellings_after}
use Rattle.wdt_pact.proofs.Witnessing.{witness_after}

-- a world keeps its lanes
pub many_stay : (w : PlainWorld) (e : WorldEvent) → length (happens w e).pairs ≡ length w.pairs
many_stay w (Sends l lost) =
    send_cases (λ (v : PlainWorld). length v.pairs ≡ length w.pairs) w l lost (λ act is. length-set w.pairs l _) (λ input is. length-set w.pairs l _)
many_stay w (Receives l broken) =
    recv_cases (λ (v : PlainWorld). length v.pairs ≡ length w.pairs) w l broken refl (λ act is. length-set w.pairs l _)
    (λ put hands. length-set w.pairs l _)
many_stay w (Cut l down up) = length-set w.pairs l _
many_stay w (Deny l) = length-set w.pairs l _
many_stay w (Refuse l) = length-set w.pairs l _

module _ (sounds : SoundLanes) (stay : StayClosed) (touches : SenderTouches) (comes : SenderComes) (makes : SenderMakes)
    (keeps : (w : PlainWorld) (e : WorldEvent) → IsSound w → Finishing w → lane_of e < length w.pairs → IsSound (happens w e)) where
  pub finishing_after : (w : PlainWorld) (e : WorldEvent) → IsSound w → Finishing w → lane_of e < length w.pairs → Finishing (happens w e)
  finishing_after w e s f within =
      record {
        tellings = tellings_after stay touches comes w e s f within;
        confirmed = confirmed_after sounds stay touches w e s f within;
        witness = witness_after sounds comes w e s f within (keeps w e s f within) (tellings_after stay touches comes w e s f within) (confirmed_after sounds stay touches w e s f within);
        ready = ready_after sounds stay touches w e s f within;
        tells = tells_after touches comes w e s f within;
        sized = sized_after touches comes w e s f within;
        list = list_after touches w e s f within;
        finished = finished_after comes makes finish_stays w e s f within;
        empty = empty_after sounds touches comes w e s f within;
        planned = planned_after sounds touches comes w e s f within;
      }

  pub lanes_stay : (n m : ℕ) (es : List WorldEvent) → m ≡ n → AreOfLanes n es → AreOfLanes m es
  lanes_stay n m es is a = subst (λ (k : ℕ). AreOfLanes k es) (sym is) a

  pub all_after : (es : List WorldEvent) (w : PlainWorld) → IsSound w → Finishing w → AreOfLanes (length w.pairs) es
      → IsSound (all_happen w es) × Finishing (all_happen w es)
  all_after [] w s f of = (s, f)
  all_after (e ∷ es) w s f of =
      all_after es (happens w e) (keeps w e s f of.0) (finishing_after w e s f of.0)
      (lanes_stay (length w.pairs) (length (happens w e).pairs) es (many_stay w e) of.1)

-- ---- the receiver's last word is never early

abbrev one_if : Claims → ℕ
one_if c = cond (is_held c) 1 0

none_held : (n : ℕ) (f : ℕ → Claims) → ((k : ℕ) → k < n → (f k).held ≡ false) → count_by is_held (tabulate n f) ≡ 0
none_held zero f none = refl
none_held (suc n) f none =
    sum_by-append one_if (tabulate n f) (f n ∷ [])
    ∙ (ap (λ (c : ℕ). count_by is_held (tabulate n f) + c) (sum_by-cons one_if (f n) [] ∙ ap (λ (b : Bool). cond b 1 0 + 0) (none n (omega arith)))
    ∙ omega (arith, none_held n f (λ k small. none k (omega (arith, small)))))

-- a lane reads it only behind the finish
pub word_finished : (w : PlainWorld) (l : ℕ) → IsSound w → l < length w.pairs → (pair_at w l).send ≡ SendHas (inputs.Got frames.Done)
    → (common w.receiver).finish ≡ true
word_finished w l s within holds = told_true w l frames.Done s within holds refl

pub never_early : (w : PlainWorld) (l : ℕ) → IsSound w → Finishing w → l < length w.pairs → (pair_at w l).send ≡ SendHas (inputs.Got frames.Done)
    → unfinished_blocks w.sender ≡ 0
never_early w l s f within holds =
    let come = word_finished w l s within holds in
    omega
    (arith, ap length (f.empty come), none_held (length w.sender.lanes) (λ k. (past_of w.sender.history k).claims) (λ k small. ((s.talk.lanes k (subst (λ (n : ℕ). k < n) s.talk.send_lanes small)).finished come).holds))

-- ---- nothing goes wrong

splits_none : (kept landed : List Header) → Splits kept landed [] → kept ≡ landed
unfolding Splits
splits_none kept landed m = m ∙ append-nil landed

pub is_right : SoundLanes
    →
    ((state : SendState) (ask acked : Bool) (frame : Frame) (q : Phase) → phase_heard frame (phase_by ask acked state) ≡ Some q → is_named (row_of state (inputs.Got frame)) ≡ true)
    → (w : PlainWorld) (l : ℕ) → IsSound w → Finishing w → l < length w.pairs → IsRight w l
is_right sounds hears w l s f within =
    record {
      receives = λ frame holds calm. receives_named w l frame s within holds calm;
      sends = λ frame holds calm. sends_named hears w l frame s within holds calm;
      count = λ mark here holds. greeting_right sounds w s.talk l mark within here holds;
      counts = λ marks here holds. marks_right sounds w s.talk l marks within here holds;
      last = never_early w l s f within;
      order = lands_in_order w l s.talk within;
      landed = λ come. (splits_none (sending w.sender l).kept (receiving w.receiver l).landed ((s.talk.lanes l within).finished come).same, f.empty come);
    }

-- ---- worlds that began

module _ (sounds : SoundLanes) (stay : StayClosed) (touches : SenderTouches) (comes : SenderComes) (makes : SenderMakes)
    (keeps : (w : PlainWorld) (e : WorldEvent) → IsSound w → Finishing w → lane_of e < length w.pairs → IsSound (happens w e))
    (sent : (manifest : List Entry) (block session n : ℕ) → 1 ≤ n → IsSender (opened manifest block session (replicate n new_lane)))
    (received : (log : Meaning) (batch n : ℕ) → n ≤ 16 → IsReceiver (recv.opened log batch (replicate n recv.new_lane))) where
  pub all_begun : (manifest : List Entry) (block session : ℕ) (log : Meaning) (batch n : ℕ) (conn : Conn) (es : List WorldEvent) → 1 ≤ n → n ≤ 16
      → IsLawful (opened manifest block session (replicate n new_lane)) →
      ((file : ℕ) (entry : Entry) → slice_get manifest file ≡ Some entry → entry.stamp ≤ 2 ^ 64 - 1)
      → FitsChunks (have_now log.files []) → AreOfLanes n es → IsSound (all_happen (first_world manifest block session log batch n conn) es) × Finishing
      (all_happen (first_world manifest block session log batch n conn) es)
  all_begun manifest block session log batch n conn es some few lawful stamps have of =
      all_after sounds stay touches comes makes keeps es (first_world manifest block session log batch n conn)
      (sound_first manifest block session log batch n conn (sent manifest block session n some) (received log batch n few) lawful stamps have)
      (finishing_first manifest block session log batch n conn some) (subst (λ (m : ℕ). AreOfLanes m es) (sym (length-replicate n (first_pair conn))) of)

-- a world keeps its lanes, whatever happens
pub all_stay : (es : List WorldEvent) (w : PlainWorld) → length (all_happen w es).pairs ≡ length w.pairs
all_stay [] w = refl
all_stay (e ∷ es) w = all_stay es (happens w e) ∙ many_stay w e

pub lanes_begun : (manifest : List Entry) (block session : ℕ) (log : Meaning) (batch n : ℕ) (conn : Conn) (es : List WorldEvent) (l : ℕ) → l < n
    → l < length (all_happen (first_world manifest block session log batch n conn) es).pairs
lanes_begun manifest block session log batch n conn es l within =
    subst (λ (m : ℕ). l < m) (sym (all_stay es (first_world manifest block session log batch n conn) ∙ length-replicate n (first_pair conn))) within
