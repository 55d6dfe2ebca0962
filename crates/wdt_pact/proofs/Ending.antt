-- The receiver's lane reads the last word, and the finish comes with it.
-- Of the step the parts of the lane and of the others stand here; the world's statement joins them with Finishing, and is open.
use Rattle.std.proofs.Common.{◌≡◌, inl, inr, ℕ, Bool, true, false, List, [], ◌∷◌, ◌++◌, Option, Some, None, subst, sym, ap, ◌∙◌, refl}
use Rattle.std.proofs.lemmas.Bool.{both_ways}
use Rattle.std.proofs.lemmas.Option.{same_Some}
use Rattle.wdt_units.specs.declared.blocks.Header.{Header}
use Rattle.wdt_codec.specs.Frames.{Fits}
use Rattle.wdt_codec.specs.declared.frames.Frame.{Frame}
use Rattle.wdt_codec.specs.declared.frames.Frame.TheVariants as frames
use Rattle.wdt_codec.specs.declared.frames.Mark.{Mark}
use Rattle.wdt_sender_fsm.specs.declared.inputs.SendIn.TheVariants as inputs
use Rattle.wdt_sender_fsm.specs.declared.states.SendLane.{SendLane}
use Rattle.wdt_sender_fsm.specs.Phases.{Phase, Open, Met, Listing, Sending, Asked, Message, up, phase_by, phase_heard}
use Rattle.wdt_sender_fsm.specs.Talk.{moved}
use Rattle.wdt_pact.proofs.Below.{moved-first}
use Rattle.wdt_receiver_fsm.specs.declared.states.RecvLane.{RecvLane}
use Rattle.wdt_receiver_fsm.specs.declared.acts.RecvAct.TheVariants as recv_acts
use Rattle.wdt_receiver_fsm.specs.declared.inputs.RecvIn.TheVariants as recv_inputs
use Rattle.wdt_receiver_fsm.specs.declared.states.RecvState.TheVariants as recv_states
use Rattle.wdt_receiver_fsm.specs.ReceiverHistory.{RecvPast}
use Rattle.wdt_pact.specs.Each.{Each}
use Rattle.wdt_pact.specs.Links.{Link}
use Rattle.wdt_pact.specs.Pairs.{SendHold, SendHas, RecvDoes, RecvHas, Pair, top_by}
use Rattle.wdt_pact.specs.Stances.{Stance, Talks, Aborts, Silent, AgreeOn, AgreeWaiting, OnLink, is_late, send_stance, send_there, stand}
use Rattle.wdt_pact.specs.Lists.{Splits}
use Rattle.wdt_pact.specs.Conversation.{Common, Sending as Side, Receiving, Converses, AllTell, IsIdle, IsNoMarks, Marks, Tells, upward_by, send_in_hand, up_sent, said_there}
use Rattle.wdt_pact.proofs.Links.{all_late, waits_at, waits_not}

-- ---- a sender whose receiver was asked

wait_only : (s : Phase) (u : Frame) → up s u ≡ Some Asked → (s ≡ Asked) × IsNoMarks u
wait_only Asked frames.Wait e = (refl, tt)
wait_only Asked (frames.ErrMarks ms) e = cc
wait_only Asked frames.Done e = cc
wait_only (Met true) (frames.Greeting m) e = cc
wait_only (Met false) (frames.Greeting m) e = cc
wait_only (Met ask) frames.Done e = cc
wait_only Listing (frames.Chunks have) e = cc
wait_only s u e = cc

asked_up : (us : List Frame) (s : Phase) → moved up us s ≡ Some Asked → (s ≡ Asked) × Each IsNoMarks us
asked_up [] s e = (same_Some s Asked e, tt)
asked_up (u ∷ us) s e =
    let f = moved-first up s Asked u us e in
    let x = asked_up us f.0 f.2 in
    let y = wait_only s u (subst (λ (r : Phase). up s u ≡ Some r) x.0 f.1) in
    (y.0, (y.1, x.1))

asked_talk : (s : Phase) (ds : List Message) (us : List Frame) → OnLink (Talks s) (Talks Asked) ds us → (is_late s ≡ true) × Each IsNoMarks us
asked_talk s ds us (inl a) = (all_late ds Asked s a.1 refl, subst (λ (xs : List Frame). Each IsNoMarks xs) (sym a.0) tt)
asked_talk s ds us (inr a) = let x = asked_up us s a.1 in (ap is_late x.0, x.1)

-- what the sender has in hand isn't marks where it is late
hand_quiet : (lane : SendLane) (acked : Bool) (hold : SendHold) (s : Phase) → send_stance lane acked hold ≡ Talks s → is_late s ≡ true → Each IsNoMarks (send_in_hand hold)
hand_quiet lane acked (SendHas (inputs.Got (frames.ErrMarks ms))) s is late = go (phase_by lane.ask false lane.state) is where
  go : {P : Type 0} (o : Option Phase) → stand false (phase_heard (frames.ErrMarks ms) o) ≡ Talks s → P
  go None e = cc
  go (Some Asked) e = let same : Sending ≡ s = cc in absurd (both_ways (is_late s) (ap is_late (sym same)) late)
  go (Some p) e = cc
hand_quiet lane acked (SendHas (inputs.Got f)) s is late = (tt, tt)
hand_quiet lane acked hold s is late = tt

each_join : (P : Frame → Type 0) (xs ys : List Frame) → Each P xs → Each P ys → Each P (xs ++ ys)
each_join P [] ys a b = b
each_join P (x ∷ xs) ys a b = (a.0, each_join P xs ys a.1 b)

each_part : (P : Frame → Type 0) (xs ys : List Frame) → Each P (xs ++ ys) → Each P xs × Each P ys
each_part P [] ys e = (tt, e)
each_part P (x ∷ xs) ys e = let f = each_part P xs ys e.1 in ((e.0, f.0), f.1)

each_tells : (P Q : Frame → Type 0) → ((f : Frame) → P f → Q f) → (us : List Frame) → Each P us → Each Q us
each_tells P Q f [] e = tt
each_tells P Q f (u ∷ us) e = (f u e.0, each_tells P Q f us e.1)

-- a lane that becomes idle is so for the sender, too
pub idle_here : (lane : SendLane) (acked : Bool) (hold : SendHold) (ss : Stance) (k : Link) (newest : Option Link) (kept landed : List Header) (held : Bool) → send_stance lane acked hold ≡ ss → AgreeOn (send_there newest ss) (Talks Asked) (Some k) → AgreeWaiting ss newest → Splits kept landed [] → held ≡ false
    → IsIdle kept landed held newest ss (send_in_hand hold ++ (up_sent (top_by newest (Some k)) ++ said_there newest (frames.Done ∷ [])))
idle_here lane acked hold (Talks s) k None kept landed held is on wait same holds =
    let x = asked_talk s k.down.sent k.up.sent on in
    record { same = same; holds = holds; late = λ e. x.0; quiet = each_join IsNoMarks (send_in_hand hold) (k.up.sent ++ frames.Done ∷ []) (hand_quiet lane acked hold s is x.0) (each_join IsNoMarks k.up.sent (frames.Done ∷ []) x.1 (tt, tt)) }
idle_here lane acked hold (Talks s) k (Some t) kept landed held is on wait same holds =
    let none : t.up.sent ≡ [] = (waits_at s t.down.sent t.up.sent wait).0 in
    record { same = same; holds = holds; late = λ e. cc; quiet = each_join IsNoMarks (send_in_hand hold) (t.up.sent ++ []) (waiting_hand lane acked hold s is t wait) (each_join IsNoMarks t.up.sent [] (subst (λ (xs : List Frame). Each IsNoMarks xs) (sym none) tt) tt) } where
      waiting_hand : (lane : SendLane) (acked : Bool) (hold : SendHold) (s : Phase) → send_stance lane acked hold ≡ Talks s → (t : Link) → AgreeWaiting (Talks s) (Some t) → Each IsNoMarks (send_in_hand hold)
      waiting_hand lane acked (SendHas (inputs.Got (frames.ErrMarks ms))) s is t w = go (phase_by lane.ask false lane.state) is where
        go : {P : Type 0} (o : Option Phase) → stand false (phase_heard (frames.ErrMarks ms) o) ≡ Talks s → P
        go None e = cc
        go (Some Asked) e = let same : s ≡ Sending = cc in waits_not Sending t.down.sent t.up.sent (subst (λ (p : Phase). OnLink (Talks p) (Talks Open) t.down.sent t.up.sent) same w) refl
        go (Some p) e = cc
      waiting_hand lane acked (SendHas (inputs.Got f)) s is t w = (tt, tt)
      waiting_hand lane acked hold s is t w = tt
idle_here lane acked hold Aborts k newest kept landed held is on wait same holds = record { same = same; holds = holds; late = λ e. tt; quiet = tt }
idle_here lane acked hold Silent k newest kept landed held is on wait same holds = record { same = same; holds = holds; late = λ e. tt; quiet = tt }

-- ---- what is told behind the finish

tells_finish : (g new : Common) (l : ℕ) (landed : List Header) → new.have ≡ g.have → new.finish ≡ true → ((q n : ℕ) → g.closed q ≡ Some n → new.closed q ≡ Some n) → (f : Frame) → Tells g l landed f → Tells new l landed f
tells_finish g new l landed have finish closed (frames.ErrMarks ms) t = go ms t where
  go : (ms : List Mark) → Each (Marks g l) ms → Each (Marks new l) ms
  go [] e = tt
  go (m ∷ ms) e = ((closed m.lane.0 m.count e.0.0, e.0.1), go ms e.1)
tells_finish g new l landed have finish closed (frames.Chunks h) t = t ∙ sym have
tells_finish g new l landed have finish closed frames.Done t = finish
tells_finish g new l landed have finish closed f t = t

said_done : (ss : Stance) (P Q : Frame → Type 0) (hand up : List Frame) (newest : Option Link) → ((f : Frame) → P f → Q f) → Q frames.Done → AllTell ss P (hand ++ (up ++ said_there newest [])) → AllTell ss Q (hand ++ (up ++ said_there newest (frames.Done ∷ [])))
said_done (Talks s) P Q hand up None f d e =
    let x = each_part P hand (up ++ []) e in
    let y = each_part P up [] x.1 in
    each_join Q hand (up ++ frames.Done ∷ []) (each_tells P Q f hand x.0) (each_join Q up (frames.Done ∷ []) (each_tells P Q f up y.0) (d, tt))
said_done (Talks s) P Q hand up (Some t) f d e = each_tells P Q f (hand ++ (up ++ [])) e
said_done Aborts P Q hand up newest f d e = tt
said_done Silent P Q hand up newest f d e = tt

-- the last word lies in the grammar
said_fits : (hand up : List Frame) (newest : Option Link) → Each Fits (hand ++ (up ++ said_there newest [])) → Each Fits (hand ++ (up ++ said_there newest (frames.Done ∷ [])))
said_fits hand up None e =
    let x = each_part Fits hand (up ++ []) e in
    let y = each_part Fits up [] x.1 in
    each_join Fits hand (up ++ frames.Done ∷ []) x.0 (each_join Fits up (frames.Done ∷ []) y.0 (tt, tt))
said_fits hand up (Some t) e = e

-- ---- the lane's part

abbrev commanding : RecvLane → RecvPast → List Header → Option Header → Receiving
commanding lane past landed begun = record { lane = record lane { state = recv_states.ReadNextCmd; is_sized = true }; past = past; landed = landed; begun = begun }

abbrev heard_done : SendHold → Option Link → List Link → Option Link → ℕ → ℕ → Pair
heard_done s taken between newest denies refusals = record { send = s; recv = RecvHas (recv_inputs.Got frames.Done); taken = taken; between = between; newest = newest; denies = denies; refusals = refusals }

-- the last word is read, and with it the finish comes
pub finishes_here : (g new : Common) (l : ℕ) (s : Side) (lane : RecvLane) (past after : RecvPast) (landed : List Header) (begun : Option Header) (hold : SendHold) (taken : Option Link) (between : List Link) (newest : Option Link) (denies refusals : ℕ)
    → new.have ≡ g.have → new.finish ≡ true → ((q n : ℕ) → g.closed q ≡ Some n → new.closed q ≡ Some n)
    → after ≡ record past { is_idle = true; telling = [] } → Splits s.kept landed [] → s.past.claims.held ≡ false → past.is_closed ≡ false
    → Converses g l s (commanding lane past landed begun) (heard_done hold taken between newest denies refusals)
    → Converses new l s record { lane = record lane { state = recv_states.SendDone; is_sized = true; has_waited = false }; past = after; landed = landed; begun = begun } (record (heard_done hold taken between newest denies refusals) { recv = RecvDoes (recv_acts.Write frames.Done) })
finishes_here g new l s lane past after landed begun hold None between newest denies refusals have finish closed is same holds opens c = let x = c.agrees.on_taken.1 in cc
finishes_here g new l s lane past after landed begun hold (Some k) between newest denies refusals have finish closed is same holds opens c =
    subst (λ (x : RecvPast). Converses new l s record { lane = record lane { state = recv_states.SendDone; is_sized = true; has_waited = false }; past = x; landed = landed; begun = begun } (record (heard_done hold (Some k) between newest denies refusals) { recv = RecvDoes (recv_acts.Write frames.Done) })) (sym is)
    record {
      agrees = c.agrees;
      lists = record { rest = c.lists.rest; same = c.lists.same; live = c.lists.live; dead = c.lists.dead };
      sure = c.sure;
      upward = said_done (send_stance s.lane s.past.is_acked hold) (Tells g l landed) (Tells new l landed) (send_in_hand hold) (up_sent (top_by newest (Some k))) newest (tells_finish g new l landed have finish closed) finish c.upward;
      fits = said_fits (send_in_hand hold) (up_sent (top_by newest (Some k))) newest c.fits;
      notes = c.notes;
      closed = λ e. let x = c.closed e in record { there = x.there; same = x.same };
      asked = λ e. c.asked refl;
      finished = λ e. record { same = same; holds = holds };
      pieces = tt;
      waits = c.waits;
      idle = λ e. idle_here s.lane s.past.is_acked hold (send_stance s.lane s.past.is_acked hold) k newest s.kept landed s.past.claims.held refl c.agrees.on_taken c.agrees.on_newest same holds;
      shut = λ e. absurd (both_ways past.is_closed opens e);
      heard_up = c.heard_up;
      heard_down = tt;
    }

tells_on : (ss : Stance) (P Q : Frame → Type 0) (us : List Frame) → ((f : Frame) → P f → Q f) → AllTell ss P us → AllTell ss Q us
tells_on (Talks s) P Q us f e = each_tells P Q f us e
tells_on Aborts P Q us f e = tt
tells_on Silent P Q us f e = tt

-- another lane, which is idle or closed: behind the finish it is as the finish says
pub finished_there : (g new : Common) (l : ℕ) (s : Side) (r : Receiving) (p : Pair) → new.have ≡ g.have → new.finish ≡ true → ((q n : ℕ) → g.closed q ≡ Some n → new.closed q ≡ Some n) → Splits s.kept r.landed [] → s.past.claims.held ≡ false → Converses g l s r p → Converses new l s r p
finished_there g new l s r p have finish closed same holds c =
    record {
      agrees = c.agrees;
      lists = c.lists;
      sure = c.sure;
      upward = tells_on (send_stance s.lane s.past.is_acked p.send) (Tells g l r.landed) (Tells new l r.landed) (upward_by p.newest p.taken p.send p.recv) (tells_finish g new l r.landed have finish closed) c.upward;
      fits = c.fits;
      notes = c.notes;
      closed = c.closed;
      asked = c.asked;
      finished = λ e. record { same = same; holds = holds };
      pieces = c.pieces;
      waits = c.waits;
      idle = c.idle;
      shut = c.shut;
      heard_up = c.heard_up;
      heard_down = c.heard_down;
    }
