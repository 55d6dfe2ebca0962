-- Connections are cut, made and taken.
use Rattle.std.proofs.Common.{◌≡◌, inl, inr, ℕ, zero, suc, ◌<◌, Bool, true, false, List, [], ◌∷◌, ◌++◌, length, Option, Some, None, subst, sym, ap, ◌∙◌, refl, option_map}
use Rattle.std.proofs.lemmas.Bool.{both_ways}
use Rattle.wdt_units.specs.declared.blocks.Header.{Header}
use Rattle.wdt_codec.specs.declared.frames.Frame.{Frame}
use Rattle.wdt_codec.specs.declared.frames.Frame.TheVariants as frames
use Rattle.wdt_sender_fsm.specs.declared.acts.SendAct.TheVariants as acts
use Rattle.wdt_sender_fsm.specs.declared.inputs.SendIn.TheVariants as inputs
use Rattle.wdt_sender_fsm.specs.declared.states.SendState.TheVariants as states
use Rattle.wdt_sender_fsm.specs.Phases.{Phase, Open, Message, Framed, down, up, is_abort}
use Rattle.wdt_sender_fsm.specs.SenderHistory.{LanePast}
use Rattle.wdt_sender_fsm.specs.Talk.{moved}
use Rattle.wdt_pact.proofs.Below.{one_talker, if_has}
use Rattle.wdt_pact.proofs.Links.{falls_silent}
use Rattle.wdt_receiver_fsm.specs.declared.states.RecvLane.{RecvLane}
use Rattle.wdt_receiver_fsm.specs.declared.states.RecvState.{RecvState}
use Rattle.wdt_receiver_fsm.specs.declared.acts.RecvAct.TheVariants as recv_acts
use Rattle.wdt_receiver_fsm.specs.declared.inputs.RecvIn.TheVariants as recv_inputs
use Rattle.wdt_receiver_fsm.specs.declared.states.RecvState.TheVariants as recv_states
use Rattle.wdt_receiver_fsm.specs.PlainReceiver.{lane_at, past_at, state_at}
use Rattle.wdt_receiver_fsm.specs.ReceiverHistory.{RecvPast}
use Rattle.wdt_pact.specs.Each.{Each}
use Rattle.wdt_pact.specs.Links.{Link, new_link}
use Rattle.wdt_pact.specs.Pairs.{SendHold, SendDoes, SendHas, RecvHold, RecvDoes, RecvHas, Pair, cuts_by, top, recv_does, send_stops, waits}
use Rattle.wdt_pact.specs.World.{PlainWorld, pair_at, happens, Cut, recv_steps, recv_steps_by}
use Rattle.wdt_pact.specs.Stances.{Stance, Talks, Aborts, Silent, Agree, AgreeOn, AgreeWaiting, OnLink, recv_stance, Hears, is_abort_down, is_calm, is_any, send_stance, send_there}
use Rattle.wdt_pact.specs.Lists.{begun_heads, Splits-same, ListsBy, UnsentBy, blocks_in, flying, has_done, in_hand}
use Rattle.wdt_pact.specs.Conversation.{Common, Sending, Receiving, Converses, Conversation, IsFresh, FreshBy, common, known_header, sending, receiving}
use Rattle.wdt_receiver_fsm.specs.Receiver.{Listens}
use Rattle.wdt_pact.proofs.Frame.{pair_keeps}
use Rattle.wdt_pact.proofs.RecvRows.{recv_fares}
use Rattle.wdt_pact.proofs.Lists.{Each-append, leads_of, lists_weaker}

-- ---- a cut

-- what no part of the conversation speaks of may change: how much of what was written can be taken
pub cuts_here : (g : Common) (l : ℕ) (s : Sending) (r : Receiving) (sh : SendHold) (rh : RecvHold) (taken : Option Link) (between : List Link) (newest : Option Link) (denies refusals d u : ℕ) → Converses g l s r record { send = sh; recv = rh; taken = taken; between = between; newest = newest; denies = denies; refusals = refusals }
    → Converses g l s r (let p : Pair = record { send = sh; recv = rh; taken = taken; between = between; newest = newest; denies = denies; refusals = refusals } in cuts_by p d u (top p))
cuts_here g l s r sh rh None between None denies refusals d u c = c
cuts_here g l s r sh rh (Some k) between None denies refusals d u c =
    record {
      agrees = record { on_taken = c.agrees.on_taken; waiting = c.agrees.waiting; on_newest = tt };
      lists = record { rest = c.lists.rest; same = c.lists.same; live = c.lists.live; dead = c.lists.dead };
      sure = c.sure;
      upward = c.upward;
      fits = c.fits;
      notes = c.notes;
      closed = c.closed;
      asked = c.asked;
      finished = c.finished;
      pieces = c.pieces;
      waits = c.waits;
      idle = c.idle;
      shut = c.shut;
      heard_up = c.heard_up;
      heard_down = c.heard_down;
    }
cuts_here g l s r sh rh taken between (Some t) denies refusals d u c =
    record {
      agrees = record { on_taken = c.agrees.on_taken; waiting = c.agrees.waiting; on_newest = c.agrees.on_newest };
      lists = c.lists;
      sure = c.sure;
      upward = c.upward;
      fits = c.fits;
      notes = c.notes;
      closed = c.closed;
      asked = c.asked;
      finished = c.finished;
      pieces = c.pieces;
      waits = record { fresh = c.waits.fresh; fresh_newest = c.waits.fresh_newest; order = λ e. cc };
      idle = λ e. let x = c.idle e in record { same = x.same; holds = x.holds; late = λ y. cc; quiet = x.quiet };
      shut = c.shut;
      heard_up = c.heard_up;
      heard_down = c.heard_down;
    }

pub cut_keeps : (w : PlainWorld) (l d u : ℕ) → Conversation w → l < length w.pairs → Conversation (happens w (Cut l d u))
cut_keeps w l d u c within =
    let p : Pair = pair_at w l in
    pair_keeps w l (cuts_by p d u (top p)) c within
    (cuts_here (common w.receiver) l (sending w.sender l) (receiving w.receiver l) p.send p.recv p.taken p.between p.newest p.denies p.refusals d u (c.lanes l within))

-- ---- a connection is taken

-- on a connection that waits no block was told of, and no last word
blocks_none : (ds : List Message) → Hears down is_calm is_abort_down Open ds → (blocks_in ds ≡ []) × (has_done ds ≡ false)
blocks_none ds (inl a) = follows ds a.at a.moves where
  follows : (ds : List Message) (q : Phase) → moved down ds Open ≡ Some q → (blocks_in ds ≡ []) × (has_done ds ≡ false)
  follows [] q e = (refl, refl)
  follows (Framed (frames.Settings x) ∷ []) q e = (refl, refl)
  follows (Framed (frames.Settings x) ∷ d ∷ ds) q e = cc
  follows (d ∷ ds) q e = cc
blocks_none ds (inr a) = subst (λ (xs : List Message). (blocks_in xs ≡ []) × (has_done xs ≡ false)) (sym a.all) (go a.before a.last a.failure a.rests.moves) where
  go : {q : Phase} (before : List Message) (m : Message) → is_abort_down m ≡ true → moved down before Open ≡ Some q → (blocks_in (before ++ m ∷ []) ≡ []) × (has_done (before ++ m ∷ []) ≡ false)
  go [] (Framed (frames.Abort code)) f e = (refl, refl)
  go [] m f e = cc
  go (Framed (frames.Settings x) ∷ []) (Framed (frames.Abort code)) f e = (refl, refl)
  go (Framed (frames.Settings x) ∷ []) m f e = cc
  go (Framed (frames.Settings x) ∷ d ∷ ds) m f e = cc
  go (d ∷ ds) m f e = cc

hears_waiting : (st : Stance) (ds : List Message) (us : List Frame) → OnLink st (Talks Open) ds us → Hears down is_calm is_abort_down Open ds
hears_waiting (Talks s) ds us a = falls_silent down up is_abort_down is_abort is_calm is_any one_talker s (Talks Open) ds us a
hears_waiting Aborts ds us a = inl record { at = a.at; moves = a.moves }
hears_waiting Silent ds us a = a

-- a lane that takes a connection has begun no block, and is neither idle nor closed
module _ (g : Common) (l : ℕ) (s : Sending) (lane : RecvLane) (past : RecvPast) (landed : List Header) (begun : Option Header) (sh : SendHold) (denies refusals : ℕ) (none : begun ≡ None) (busy : past.is_idle ≡ false) (opens : past.is_closed ≡ false) where
  abbrev listening : Receiving
  listening = record { lane = record lane { state = recv_states.Listen }; past = past; landed = landed; begun = begun }

  abbrev Here : Pair → Type 0
  Here = Converses g l s listening

  abbrev pair : RecvHold → Option Link → List Link → Option Link → ℕ → Pair
  pair rh taken between newest n = record { send = sh; recv = rh; taken = taken; between = between; newest = newest; denies = denies; refusals = n }

  lists_take : (k : Link) (rs : Stance) (taken : Option Link) (IsRest More : List Header → Type 0) → k.greeted ≡ false → blocks_in k.down.sent ≡ [] → ListsBy rs taken s.kept landed begun [] IsRest → ListsBy (Talks Open) (Some k) s.kept landed begun [] More
  lists_take k rs taken IsRest More fresh still x =
      let leads = leads_of rs taken s.kept landed begun [] IsRest x in
      let fly : flying begun [] k.down.sent ≡ [] = ap (λ (o : Option Header). begun_heads o ++ blocks_in k.down.sent) none ∙ still in
      record {
        rest = leads.0;
        same = Splits-same s.kept landed leads.0 (flying begun [] k.down.sent ++ leads.0) leads.1 (ap (λ (hs : List Header). hs ++ leads.0) (sym fly));
        live = λ e. absurd (both_ways k.greeted fresh e);
        dead = λ e. fly;
      }

  -- the connection that waited longest is taken; a further one waits
  takes_older : (k : Link) (taken : Option Link) (between : List Link) (t : Link) (n : ℕ) → Here (pair (RecvDoes recv_acts.Accept) taken (k ∷ between) (Some t) n) → Here (pair (RecvHas recv_inputs.Linked) (Some k) between (Some t) n)
  takes_older k taken between t n c =
      let still = blocks_none k.down.sent c.agrees.waiting.0 in
      record {
        agrees = record { on_taken = c.agrees.waiting.0; waiting = c.agrees.waiting.1; on_newest = c.agrees.on_newest };
        lists = lists_take k Silent taken (UnsentBy (Some t) s.lane.state sh) (UnsentBy (Some t) s.lane.state sh) c.waits.fresh.0 still.0 c.lists;
        sure = c.sure;
        upward = c.upward;
        fits = c.fits;
        notes = c.notes;
        closed = c.closed;
        asked = λ e. absurd (both_ways (has_done k.down.sent) still.1 e);
        finished = λ e. let f = c.finished e in record { same = f.same; holds = f.holds };
        pieces = tt;
        waits = record { fresh = c.waits.fresh.1; fresh_newest = c.waits.fresh_newest; order = λ e. cc };
        idle = λ e. absurd (both_ways past.is_idle busy e);
        shut = λ e. absurd (both_ways past.is_closed opens e);
        heard_up = c.heard_up;
        heard_down = tt;
      }

  -- the newest is taken
  takes_newest : (taken : Option Link) (t : Link) (n : ℕ) → Here (pair (RecvDoes recv_acts.Accept) taken [] (Some t) n) → Here (pair (RecvHas recv_inputs.Linked) (Some t) [] None n)
  takes_newest taken t n c =
      let still = blocks_none t.down.sent (hears_waiting (send_stance s.lane s.past.is_acked sh) t.down.sent t.up.sent c.agrees.on_newest) in
      record {
        agrees = record { on_taken = c.agrees.on_newest; waiting = tt; on_newest = tt };
        lists = lists_take t Silent taken (UnsentBy (Some t) s.lane.state sh) (UnsentBy None s.lane.state sh) c.waits.fresh_newest still.0 c.lists;
        sure = c.sure;
        upward = c.upward;
        fits = c.fits;
        notes = c.notes;
        closed = c.closed;
        asked = λ e. absurd (both_ways (has_done t.down.sent) still.1 e);
        finished = λ e. let f = c.finished e in record { same = f.same; holds = f.holds };
        pieces = tt;
        waits = record { fresh = tt; fresh_newest = tt; order = λ e. refl };
        idle = λ e. absurd (both_ways past.is_idle busy e);
        shut = λ e. absurd (both_ways past.is_closed opens e);
        heard_up = c.heard_up;
        heard_down = tt;
      }

  -- none waits, and the sender's lane has left; or a try is refused
  takes_none : (taken : Option Link) (between : List Link) (newest : Option Link) (n m : ℕ) → Here (pair (RecvDoes recv_acts.Accept) taken between newest n) → Here (pair (RecvHas recv_inputs.NoLink) taken between newest m)
  takes_none taken between newest n m c =
      record {
        agrees = c.agrees;
        lists = c.lists;
        sure = c.sure;
        upward = c.upward;
        fits = c.fits;
        notes = c.notes;
        closed = c.closed;
        asked = c.asked;
        finished = λ e. let f = c.finished e in record { same = f.same; holds = f.holds };
        pieces = tt;
        waits = c.waits;
        idle = λ e. absurd (both_ways past.is_idle busy e);
        shut = c.shut;
        heard_up = c.heard_up;
        heard_down = tt;
      }

  accepts_here : (taken : Option Link) (between : List Link) (newest : Option Link) (n : ℕ) → Here (pair (RecvDoes recv_acts.Accept) taken between newest n) → Here (recv_does (pair (RecvDoes recv_acts.Accept) taken between newest n) recv_acts.Accept)
  accepts_here taken between newest (suc n) c = takes_none taken between newest (suc n) n c
  accepts_here taken (k ∷ between) (Some t) zero c = takes_older k taken between t zero c
  accepts_here taken (k ∷ between) None zero c = let x = c.waits.order refl in cc
  accepts_here taken [] (Some t) zero c = takes_newest taken t zero c
  accepts_here taken [] None zero c = if_has Here (send_stops sh) (pair (RecvHas recv_inputs.NoLink) taken [] None zero) (pair (RecvDoes recv_acts.Accept) taken [] None zero) (takes_none taken [] None zero zero c) c

pub accept_keeps : (w : PlainWorld) (l : ℕ) → Conversation w → l < length w.pairs → state_at w.receiver l ≡ recv_states.Listen → (pair_at w l).recv ≡ RecvDoes recv_acts.Accept → Conversation (recv_steps w l None)
accept_keeps w l c within here holds =
    subst (λ (x : RecvHold). Conversation (recv_steps_by w l None x)) (sym holds)
    (pair_keeps w l (recv_does p recv_acts.Accept) c within
    (subst (λ (x : RecvState). Converses (common w.receiver) l (sending w.sender l) (side x) (recv_does p recv_acts.Accept)) (sym here)
    (subst (λ (x : RecvHold). Converses (common w.receiver) l (sending w.sender l) (side recv_states.Listen) (recv_does (record p { recv = x }) recv_acts.Accept)) (sym holds)
    (accepts_here (common w.receiver) l (sending w.sender l) lane past landed begun p.send p.denies p.refusals (ap (option_map (known_header w.receiver.known)) fares.begun) fares.idle fares.goes_on.closed p.taken p.between p.newest p.refusals
    (subst (λ (x : RecvState). Converses (common w.receiver) l (sending w.sender l) (side x) (record p { recv = RecvDoes recv_acts.Accept })) here
    (subst (λ (x : RecvHold). Converses (common w.receiver) l (sending w.sender l) (receiving w.receiver l) (record p { recv = x })) holds (c.lanes l within))))))) where
      p : Pair
      p = pair_at w l

      lane : RecvLane
      lane = lane_at w.receiver l

      past : RecvPast
      past = past_at w.receiver l

      landed : List Header
      landed = (receiving w.receiver l).landed

      begun : Option Header
      begun = (receiving w.receiver l).begun

      side : RecvState → Receiving
      side x = record { lane = record lane { state = x }; past = past; landed = landed; begun = begun }

      fares : Listens past
      fares = recv_fares w l recv_states.Listen c within here

-- ---- a connection is made

Each-waits : (P : Link → Type 0) (between : List Link) (newest : Option Link) → Each P between → ((t : Link) → newest ≡ Some t → P t) → Each P (between ++ waits newest)
Each-waits P between None a f = Each-append P between [] a tt
Each-waits P between (Some t) a f = Each-append P between (t ∷ []) a (f t refl, tt)

module _ (g : Common) (l : ℕ) (ask : Bool) (past : LanePast) (kept : List Header) (r : Receiving) (rh : RecvHold) (refusals : ℕ) where
  abbrev connecting : Sending
  connecting = record { lane = record { state = states.Connect; ask = ask }; past = past; kept = kept }

  abbrev There : Pair → Type 0
  There = Converses g l connecting r

  abbrev dialling : SendHold → Option Link → List Link → Option Link → ℕ → Pair
  dialling sh taken between newest n = record { send = sh; recv = rh; taken = taken; between = between; newest = newest; denies = n; refusals = refusals }

  pub made : (c : ℕ) (taken : Option Link) (between : List Link) (newest : Option Link) (n m : ℕ) → There (dialling (SendDoes (acts.Dial record { 0 = c })) taken between newest n) → There (dialling (SendHas inputs.Linked) taken (between ++ waits newest) (Some new_link) m)
  made c taken between newest n m x =
      record {
        agrees = record { on_taken = silent_on newest x.agrees.on_taken; waiting = Each-waits (Agree Silent (Talks Open)) between newest x.agrees.waiting (λ t e. subst (λ (o : Option Link). AgreeWaiting Silent o) e x.agrees.on_newest); on_newest = inl (refl, refl) };
        lists = lists_weaker (recv_stance r.lane r.past.is_idle r.past.is_acked rh) taken kept r.landed r.begun (in_hand rh) (UnsentBy newest states.Connect (SendDoes (acts.Dial record { 0 = c }))) (UnsentBy (Some new_link) states.Connect (SendHas inputs.Linked)) (unsent newest) x.lists;
        sure = x.sure;
        upward = tt;
        fits = tt;
        notes = refl;
        closed = x.closed;
        asked = x.asked;
        finished = λ e. let f = x.finished e in record { same = f.same; holds = f.holds };
        pieces = x.pieces;
        waits = record { fresh = Each-waits IsFresh between newest x.waits.fresh (λ t e. subst (λ (o : Option Link). FreshBy o) e x.waits.fresh_newest); fresh_newest = refl; order = λ e. cc };
        idle = λ e. let y = x.idle e in record { same = y.same; holds = y.holds; late = λ z. cc; quiet = tt };
        shut = x.shut;
        heard_up = tt;
        heard_down = x.heard_down;
      } where
        unsent : (newest : Option Link) (rest : List Header) → UnsentBy newest states.Connect (SendDoes (acts.Dial record { 0 = c })) rest → rest ≡ []
        unsent None rest e = e
        unsent (Some t) rest e = e

        silent_on : (newest : Option Link) → AgreeOn (send_there newest Silent) (recv_stance r.lane r.past.is_idle r.past.is_acked rh) taken → AgreeOn Silent (recv_stance r.lane r.past.is_idle r.past.is_acked rh) taken
        silent_on None a = a
        silent_on (Some t) a = a
