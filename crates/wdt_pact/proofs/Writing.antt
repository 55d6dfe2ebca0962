-- The sender's lane writes a frame: what it is, what is sent in all, that nothing more is to come, or that its
-- end has failed.
use Rattle.std.proofs.Common.{◌≡◌, ℕ, ◌<◌, ◌||◌, ◌&&◌, not, Bool, true, false, List, [], ◌∷◌, ◌++◌, length, Option, Some, None, is_some, subst, sym, ap, ◌∙◌, refl, append_assoc, append-nil}
use Rattle.std.specs.Option.{option_and_then}
use Rattle.wdt_units.specs.declared.blocks.Header.{Header}
use Rattle.wdt_codec.specs.Frames.{Fits}
use Rattle.wdt_codec.specs.declared.frames.Frame.{Frame}
use Rattle.wdt_codec.specs.declared.frames.Frame.TheVariants as frames
use Rattle.wdt_codec.specs.declared.frames.Settings.{Settings}
use Rattle.wdt_sender_fsm.specs.declared.acts.SendAct.TheVariants as acts
use Rattle.wdt_sender_fsm.specs.declared.inputs.SendIn.{SendIn}
use Rattle.wdt_sender_fsm.specs.declared.inputs.SendIn.TheVariants as inputs
use Rattle.wdt_sender_fsm.specs.declared.states.SendState.{SendState}
use Rattle.wdt_sender_fsm.specs.declared.states.SendState.TheVariants as states
use Rattle.wdt_sender_fsm.specs.Phases.{Phase, Open, Met, Told, Sending as SendingPhase, Asked, Message, Framed, down, up, is_abort}
use Rattle.wdt_sender_fsm.specs.PlainSender.{lane_at, past_at, state_at}
use Rattle.wdt_sender_fsm.specs.SenderHistory.{LanePast}
use Rattle.wdt_sender_fsm.specs.Talk.{moved}
use Rattle.wdt_pact.specs.Each.{Each}
use Rattle.wdt_pact.specs.Links.{Link, is_cut, with_sent}
use Rattle.wdt_pact.specs.Pairs.{SendHold, SendDoes, SendHas, RecvHold, Pair, recv_stops, send_does, wrote_or_lost}
use Rattle.wdt_pact.specs.World.{PlainWorld, pair_at, send_steps, send_steps_by}
use Rattle.wdt_pact.specs.Stances.{Stance, Talks, Aborts, Silent, IsLate, OnLink, is_abort_down, is_any, is_calm, recv_stance, send_stance}
use Rattle.wdt_pact.specs.Lists.{AskedBy, ListsBy, Splits-same, Unsent, UnsentBy, blocks_in, flying, has_done, in_hand, is_done}
use Rattle.wdt_pact.specs.Conversation.{AllTell, Common, Conversation, Converses, HeardUp, IsNoMarks, Notes, Receiving, Sending, Tells, common, receiving, send_in_hand, sending, to_say}
use Rattle.wdt_pact.proofs.Below.{one_talker}
use Rattle.wdt_pact.proofs.Blocks.{says_down, silent}
use Rattle.wdt_pact.proofs.Frame.{pair_keeps}
use Rattle.wdt_pact.proofs.Links.{says_failure, waits_not}
use Rattle.wdt_pact.proofs.Lists.{flying-more, has_done-append, lists_weaker}
use Rattle.wdt_pact.proofs.Rows.{fares_in, stands_in}

-- ---- one message more

pub moves_one : (p q : Phase) (m : Message) → down p m ≡ Some q → moved down (m ∷ []) p ≡ Some q
moves_one p q m e = ap (λ (o : Option Phase). option_and_then (moved down []) o) e

-- no block more flies
lists_more : (rs : Stance) (k : Link) (ms : List Message) (kept landed : List Header) (begun : Option Header) (hand : List Message) (IsRest : List Header → Type 0) → blocks_in ms ≡ [] → ListsBy rs (Some k) kept landed begun hand IsRest → ListsBy rs (Some record k { down = with_sent k.down ms }) kept landed begun hand IsRest
lists_more (Talks q) k ms kept landed begun hand IsRest none x =
    let same : flying begun hand k.down.sent ≡ flying begun hand (k.down.sent ++ ms) = sym (flying-more begun hand k.down.sent ms ∙ (ap (λ (hs : List Header). flying begun hand k.down.sent ++ hs) none ∙ append-nil (flying begun hand k.down.sent))) in
    record {
      rest = x.rest;
      same = Splits-same kept landed (flying begun hand k.down.sent ++ x.rest) (flying begun hand (k.down.sent ++ ms) ++ x.rest) x.same (ap (λ (hs : List Header). hs ++ x.rest) same);
      live = x.live;
      dead = λ e. sym same ∙ x.dead e;
    }
lists_more Aborts k ms kept landed begun hand IsRest none x = record { rest = x.rest; same = x.same; live = x.live; dead = x.dead }
lists_more Silent k ms kept landed begun hand IsRest none x = record { rest = x.rest; same = x.same; live = x.live; dead = x.dead }

or_false : (a b : Bool) → b ≡ false → (a || b) ≡ a
or_false true b e = refl
or_false false b e = e

done_more : (hand ds : List Message) (m : Message) → is_done m ≡ false → has_done (hand ++ (ds ++ m ∷ [])) ≡ has_done (hand ++ ds)
done_more hand ds m none = ap has_done (sym (append_assoc hand ds (m ∷ []))) ∙ (has_done-append (hand ++ ds) (m ∷ []) ∙ or_false (has_done (hand ++ ds)) (has_done (m ∷ [])) (or_false (is_done m) false refl ∙ none))

-- no last word more is on its way
asked_more : (rs : Stance) (k : Link) (m : Message) (kept landed : List Header) (begun : Option Header) (hand : List Message) (held : Bool) → is_done m ≡ false → blocks_in (m ∷ []) ≡ [] → AskedBy rs (Some k) kept landed begun hand held → AskedBy rs (Some record k { down = with_sent k.down (m ∷ []) }) kept landed begun hand held
asked_more (Talks q) k m kept landed begun hand held none still x = λ e.
    let same : flying begun hand k.down.sent ≡ flying begun hand (k.down.sent ++ m ∷ []) = sym (flying-more begun hand k.down.sent (m ∷ []) ∙ (ap (λ (hs : List Header). flying begun hand k.down.sent ++ hs) still ∙ append-nil (flying begun hand k.down.sent))) in
    let y = x (sym (done_more hand k.down.sent m none) ∙ e) in
    (Splits-same kept landed (flying begun hand k.down.sent) (flying begun hand (k.down.sent ++ m ∷ [])) y.0 same, y.1)
asked_more Aborts k m kept landed begun hand held none still x = tt
asked_more Silent k m kept landed begun hand held none still x = tt

-- ---- on the taken connection

module _ (g : Common) (l : ℕ) (st : SendState) (ask : Bool) (past : LanePast) (kept : List Header) (r : Receiving) (rh : RecvHold) (between : List Link) (denies refusals : ℕ) where
  abbrev writer : Sending
  writer = record { lane = record { state = st; ask = ask }; past = past; kept = kept }

  abbrev rs : Stance
  rs = recv_stance r.lane r.past.is_idle r.past.is_acked rh

  abbrev pair : SendHold → Option Link → Option Link → Pair
  pair sh taken newest = record { send = sh; recv = rh; taken = taken; between = between; newest = newest; denies = denies; refusals = refusals }

  abbrev Here : Pair → Type 0
  Here = Converses g l writer r

  abbrev stance : SendHold → Stance
  stance sh = send_stance record { state = st; ask = ask } past.is_acked sh

  -- a frame that tells of no block is written; of what changes is said how
  pub says_here : (k : Link) (f : Frame) (input : SendIn) → blocks_in (Framed f ∷ []) ≡ []
      → (OnLink (stance (SendDoes (acts.Write f))) rs k.down.sent k.up.sent → OnLink (stance (SendHas input)) rs (k.down.sent ++ Framed f ∷ []) k.up.sent)
      → ((xs : List Header) → Unsent st (SendDoes (acts.Write f)) xs → Unsent st (SendHas input) xs)
      → ((P : Frame → Type 0) → AllTell (stance (SendDoes (acts.Write f))) P (k.up.sent ++ to_say rh) → AllTell (stance (SendHas input)) P (send_in_hand (SendHas input) ++ (k.up.sent ++ to_say rh)))
      → (Each Fits (k.up.sent ++ to_say rh) → Each Fits (send_in_hand (SendHas input) ++ (k.up.sent ++ to_say rh)))
      → (Notes st (SendDoes (acts.Write f)) past.is_greeted k.greeted → Notes st (SendHas input) past.is_greeted k.greeted)
      → AskedBy rs (Some record k { down = with_sent k.down (Framed f ∷ []) }) kept r.landed r.begun (in_hand rh) past.claims.held
      → (IsLate (stance (SendDoes (acts.Write f))) → IsLate (stance (SendHas input)))
      → HeardUp (SendHas input) record { state = st; ask = ask }
      → Here (pair (SendDoes (acts.Write f)) (Some k) None) → Here (pair (SendHas input) (Some record k { down = with_sent k.down (Framed f ∷ []) }) None)
  says_here k f input still on unsent told fits notes asked late heard c =
      record {
        agrees = record { on_taken = on c.agrees.on_taken; waiting = c.agrees.waiting; on_newest = tt };
        lists = lists_weaker rs (Some record k { down = with_sent k.down (Framed f ∷ []) }) kept r.landed r.begun (in_hand rh) (UnsentBy None st (SendDoes (acts.Write f))) (UnsentBy None st (SendHas input)) unsent (lists_more rs k (Framed f ∷ []) kept r.landed r.begun (in_hand rh) (UnsentBy None st (SendDoes (acts.Write f))) still c.lists);
        sure = c.sure;
        upward = told (Tells g l r.landed) c.upward;
        fits = fits c.fits;
        notes = notes c.notes;
        closed = c.closed;
        asked = asked;
        finished = c.finished;
        pieces = c.pieces;
        waits = c.waits;
        idle = λ e. let x = c.idle e in record { same = x.same; holds = x.holds; late = λ y. late (x.late refl); quiet = told IsNoMarks x.quiet };
        shut = c.shut;
        heard_up = heard;
        heard_down = c.heard_down;
      }

-- ---- each frame

module _ (g : Common) (l : ℕ) (ask : Bool) (past : LanePast) (kept : List Header) (r : Receiving) (rh : RecvHold) (between : List Link) (denies refusals : ℕ) where
  abbrev at : SendHold → Link → Pair
  at sh k = record { send = sh; recv = rh; taken = Some k; between = between; newest = None; denies = denies; refusals = refusals }

  abbrev rt : Stance
  rt = recv_stance r.lane r.past.is_idle r.past.is_acked rh

  abbrev In : SendState → Pair → Type 0
  In st = Converses g l record { lane = record { state = st; ask = ask }; past = past; kept = kept } r

  -- what is sent in all
  size_here : (k : Link) (files bytes : ℕ) (b : Bool) → In states.SendSize (at (SendDoes (acts.Write (frames.Size files bytes))) k) → In states.SendSize (at (SendHas (wrote_or_lost b)) record k { down = with_sent k.down (Framed (frames.Size files bytes) ∷ []) })
  size_here k files bytes true c =
      says_here g l states.SendSize ask past kept r rh between denies refusals k (frames.Size files bytes) inputs.Wrote refl
      (λ a. says_down (Framed (frames.Size files bytes) ∷ []) Told SendingPhase rt k.down.sent k.up.sent a (moves_one Told SendingPhase (Framed (frames.Size files bytes)) refl))
      (λ xs e. e) (λ P e. e) (λ e. e) (λ n. n) (asked_more rt k (Framed (frames.Size files bytes)) kept r.landed r.begun (in_hand rh) past.claims.held refl refl c.asked) (λ x. cc) tt c
  size_here k files bytes false c =
      says_here g l states.SendSize ask past kept r rh between denies refusals k (frames.Size files bytes) inputs.Lost refl
      (λ a. silent SendingPhase rt (k.down.sent ++ Framed (frames.Size files bytes) ∷ []) k.up.sent (says_down (Framed (frames.Size files bytes) ∷ []) Told SendingPhase rt k.down.sent k.up.sent a (moves_one Told SendingPhase (Framed (frames.Size files bytes)) refl)))
      (λ xs e. e) (λ P e. tt) (λ e. e) (λ n. n) (asked_more rt k (Framed (frames.Size files bytes)) kept r.landed r.begun (in_hand rh) past.claims.held refl refl c.asked) (λ x. tt) tt c

  -- that nothing more is to come: all that the lane has claimed has landed or flies
  asked_done : (x : Stance) (k : Link) → k.greeted ≡ true → past.claims.held ≡ false → ListsBy x (Some k) kept r.landed r.begun (in_hand rh) (λ rest. rest ≡ []) → AskedBy x (Some record k { down = with_sent k.down (Framed frames.Done ∷ []) }) kept r.landed r.begun (in_hand rh) past.claims.held
  asked_done (Talks q) k told free x = λ e. (
    Splits-same kept r.landed (flying r.begun (in_hand rh) k.down.sent ++ x.rest) (flying r.begun (in_hand rh) (k.down.sent ++ Framed frames.Done ∷ [])) x.same
        (ap (λ (hs : List Header). flying r.begun (in_hand rh) k.down.sent ++ hs) (x.live told) ∙ sym (flying-more r.begun (in_hand rh) k.down.sent (Framed frames.Done ∷ []))),
    free,
  )
  asked_done Aborts k told free x = tt
  asked_done Silent k told free x = tt

  -- an open lane was told its count and holds no block; of a closed one the receiver says nothing
  asked_by : (k : Link) → (past.claims.closed ≡ None → (past.is_greeted ≡ true) × (past.claims.held ≡ false)) → (o : Option ℕ) → past.claims.closed ≡ o → In states.SendDone (at (SendDoes (acts.Write frames.Done)) k) → AskedBy rt (Some record k { down = with_sent k.down (Framed frames.Done ∷ []) }) kept r.landed r.begun (in_hand rh) past.claims.held
  asked_by k stands None is c = let s = stands is in asked_done rt k (c.notes ∙ s.0) s.1 c.lists
  asked_by k stands (Some n) is c =
      subst (λ (x : Stance). AskedBy x (Some record k { down = with_sent k.down (Framed frames.Done ∷ []) }) kept r.landed r.begun (in_hand rh) past.claims.held) (sym (c.shut (c.closed (ap is_some is)).there).silent) tt

  done_here : (k : Link) (b : Bool) → (past.claims.closed ≡ None → (past.is_greeted ≡ true) × (past.claims.held ≡ false)) → In states.SendDone (at (SendDoes (acts.Write frames.Done)) k) → In states.SendDone (at (SendHas (wrote_or_lost b)) record k { down = with_sent k.down (Framed frames.Done ∷ []) })
  done_here k true stands c =
      says_here g l states.SendDone ask past kept r rh between denies refusals k frames.Done inputs.Wrote refl
      (λ a. says_down (Framed frames.Done ∷ []) SendingPhase Asked rt k.down.sent k.up.sent a (moves_one SendingPhase Asked (Framed frames.Done) refl))
      (λ xs e. e) (λ P e. e) (λ e. e) (λ n. n) (asked_by k stands past.claims.closed refl c) (λ x. refl) tt c
  done_here k false stands c =
      says_here g l states.SendDone ask past kept r rh between denies refusals k frames.Done inputs.Lost refl
      (λ a. silent Asked rt (k.down.sent ++ Framed frames.Done ∷ []) k.up.sent (says_down (Framed frames.Done ∷ []) SendingPhase Asked rt k.down.sent k.up.sent a (moves_one SendingPhase Asked (Framed frames.Done) refl)))
      (λ xs e. e) (λ P e. tt) (λ e. e) (λ n. n) (asked_by k stands past.claims.closed refl c) (λ x. tt) tt c

  -- that the end has failed
  abort_here : (k : Link) (code : ℕ) (b : Bool) → In states.SendAbort (at (SendDoes (acts.Write (frames.Abort code))) k) → In states.SendAbort (at (SendHas (wrote_or_lost b)) record k { down = with_sent k.down (Framed (frames.Abort code) ∷ []) })
  abort_here k code true c =
      says_here g l states.SendAbort ask past kept r rh between denies refusals k (frames.Abort code) inputs.Wrote refl
      (λ a. says_failure down up is_abort_down is_abort is_calm is_any one_talker rt k.down.sent k.up.sent (Framed (frames.Abort code)) refl a)
      (λ xs e. tt) (λ P e. tt) (λ e. e) (λ n. n) (asked_more rt k (Framed (frames.Abort code)) kept r.landed r.begun (in_hand rh) past.claims.held refl refl c.asked) (λ x. tt) tt c
  abort_here k code false c =
      says_here g l states.SendAbort ask past kept r rh between denies refusals k (frames.Abort code) inputs.Lost refl
      (λ a. says_failure down up is_abort_down is_abort is_calm is_any one_talker rt k.down.sent k.up.sent (Framed (frames.Abort code)) refl a)
      (λ xs e. tt) (λ P e. tt) (λ e. e) (λ n. n) (asked_more rt k (Framed (frames.Abort code)) kept r.landed r.begun (in_hand rh) past.claims.held refl refl c.asked) (λ x. tt) tt c

  -- what the sender is
  settings_here : (k : Link) (s : Settings) (b : Bool) → s.ask ≡ ask → In states.SendSettings (at (SendDoes (acts.Write (frames.Settings s))) k) → In states.SendSettings (at (SendHas (wrote_or_lost b)) record k { down = with_sent k.down (Framed (frames.Settings s) ∷ []) })
  settings_here k s true same c =
      says_here g l states.SendSettings ask past kept r rh between denies refusals k (frames.Settings s) inputs.Wrote refl
      (λ a. says_down (Framed (frames.Settings s) ∷ []) Open (Met ask) rt k.down.sent k.up.sent a (moves_one Open (Met ask) (Framed (frames.Settings s)) (ap (λ (x : Bool). Some (Met x)) same)))
      (λ xs e. e) (λ P e. e) (λ e. e) (λ n. n) (asked_more rt k (Framed (frames.Settings s)) kept r.landed r.begun (in_hand rh) past.claims.held refl refl c.asked) (λ x. cc) tt c
  settings_here k s false same c =
      says_here g l states.SendSettings ask past kept r rh between denies refusals k (frames.Settings s) inputs.Lost refl
      (λ a. silent (Met ask) rt (k.down.sent ++ Framed (frames.Settings s) ∷ []) k.up.sent (says_down (Framed (frames.Settings s) ∷ []) Open (Met ask) rt k.down.sent k.up.sent a (moves_one Open (Met ask) (Framed (frames.Settings s)) (ap (λ (x : Bool). Some (Met x)) same))))
      (λ xs e. e) (λ P e. tt) (λ e. e) (λ n. n) (asked_more rt k (Framed (frames.Settings s)) kept r.landed r.begun (in_hand rh) past.claims.held refl refl c.asked) (λ x. tt) tt c

  -- ---- the same on a connection that waits

  abbrev there : SendHold → Option Link → Link → Pair
  there sh taken t = record { send = sh; recv = rh; taken = taken; between = between; newest = Some t; denies = denies; refusals = refusals }

  -- a frame is written there; of what changes is said how
  says_there : (st : SendState) (taken : Option Link) (t : Link) (f : Frame) (input : SendIn)
      → (OnLink (send_stance record { state = st; ask = ask } past.is_acked (SendDoes (acts.Write f))) (Talks Open) t.down.sent t.up.sent → OnLink (send_stance record { state = st; ask = ask } past.is_acked (SendHas input)) (Talks Open) (t.down.sent ++ Framed f ∷ []) t.up.sent)
      → ((P : Frame → Type 0) → AllTell (send_stance record { state = st; ask = ask } past.is_acked (SendDoes (acts.Write f))) P (t.up.sent ++ []) → AllTell (send_stance record { state = st; ask = ask } past.is_acked (SendHas input)) P (send_in_hand (SendHas input) ++ (t.up.sent ++ [])))
      → (Each Fits (t.up.sent ++ []) → Each Fits (send_in_hand (SendHas input) ++ (t.up.sent ++ [])))
      → (Notes st (SendDoes (acts.Write f)) past.is_greeted t.greeted → Notes st (SendHas input) past.is_greeted t.greeted)
      → HeardUp (SendHas input) record { state = st; ask = ask }
      → In st (there (SendDoes (acts.Write f)) taken t) → In st (there (SendHas input) taken record t { down = with_sent t.down (Framed f ∷ []) })
  says_there st taken t f input on told fits notes heard c =
      record {
        agrees = record { on_taken = c.agrees.on_taken; waiting = c.agrees.waiting; on_newest = on c.agrees.on_newest };
        lists = c.lists;
        sure = c.sure;
        upward = told (Tells g l r.landed) c.upward;
        fits = fits c.fits;
        notes = notes c.notes;
        closed = c.closed;
        asked = c.asked;
        finished = c.finished;
        pieces = c.pieces;
        waits = record { fresh = c.waits.fresh; fresh_newest = c.waits.fresh_newest; order = λ e. cc };
        idle = λ e. let x = c.idle e in record { same = x.same; holds = x.holds; late = λ y. cc; quiet = told IsNoMarks x.quiet };
        shut = c.shut;
        heard_up = heard;
        heard_down = c.heard_down;
      }

  settings_there : (taken : Option Link) (t : Link) (s : Settings) (b : Bool) → s.ask ≡ ask → In states.SendSettings (there (SendDoes (acts.Write (frames.Settings s))) taken t) → In states.SendSettings (there (SendHas (wrote_or_lost b)) taken record t { down = with_sent t.down (Framed (frames.Settings s) ∷ []) })
  settings_there taken t s true same c =
      says_there states.SendSettings taken t (frames.Settings s) inputs.Wrote
      (λ a. says_down (Framed (frames.Settings s) ∷ []) Open (Met ask) (Talks Open) t.down.sent t.up.sent a (moves_one Open (Met ask) (Framed (frames.Settings s)) (ap (λ (x : Bool). Some (Met x)) same)))
      (λ P e. e) (λ e. e) (λ n. n) tt c
  settings_there taken t s false same c =
      says_there states.SendSettings taken t (frames.Settings s) inputs.Lost
      (λ a. silent (Met ask) (Talks Open) (t.down.sent ++ Framed (frames.Settings s) ∷ []) t.up.sent (says_down (Framed (frames.Settings s) ∷ []) Open (Met ask) (Talks Open) t.down.sent t.up.sent a (moves_one Open (Met ask) (Framed (frames.Settings s)) (ap (λ (x : Bool). Some (Met x)) same))))
      (λ P e. tt) (λ e. e) (λ n. n) tt c

  abort_there : (taken : Option Link) (t : Link) (code : ℕ) (b : Bool) → In states.SendAbort (there (SendDoes (acts.Write (frames.Abort code))) taken t) → In states.SendAbort (there (SendHas (wrote_or_lost b)) taken record t { down = with_sent t.down (Framed (frames.Abort code) ∷ []) })
  abort_there taken t code true c =
      says_there states.SendAbort taken t (frames.Abort code) inputs.Wrote
      (λ a. says_failure down up is_abort_down is_abort is_calm is_any one_talker (Talks Open) t.down.sent t.up.sent (Framed (frames.Abort code)) refl a) (λ P e. tt) (λ e. e) (λ n. n) tt c
  abort_there taken t code false c =
      says_there states.SendAbort taken t (frames.Abort code) inputs.Lost
      (λ a. says_failure down up is_abort_down is_abort is_calm is_any one_talker (Talks Open) t.down.sent t.up.sent (Framed (frames.Abort code)) refl a) (λ P e. tt) (λ e. e) (λ n. n) tt c

  -- ---- wherever the sender's connection is

  abbrev pair_of : SendHold → Option Link → Option Link → Pair
  pair_of sh taken newest = record { send = sh; recv = rh; taken = taken; between = between; newest = newest; denies = denies; refusals = refusals }

  pub writes_size : (taken newest : Option Link) (lost : Option ℕ) (files bytes : ℕ) → In states.SendSize (pair_of (SendDoes (acts.Write (frames.Size files bytes))) taken newest) → In states.SendSize (send_does (pair_of (SendDoes (acts.Write (frames.Size files bytes))) taken newest) lost (acts.Write (frames.Size files bytes)))
  writes_size None None lost files bytes c = c
  writes_size (Some k) None lost files bytes c = size_here k files bytes (not (is_cut k.down) && not (recv_stops rh)) c
  writes_size taken (Some t) lost files bytes c = waits_not Told t.down.sent t.up.sent c.agrees.on_newest refl

  pub writes_done : (taken newest : Option Link) (lost : Option ℕ) → (past.claims.closed ≡ None → (past.is_greeted ≡ true) × (past.claims.held ≡ false)) → In states.SendDone (pair_of (SendDoes (acts.Write frames.Done)) taken newest) → In states.SendDone (send_does (pair_of (SendDoes (acts.Write frames.Done)) taken newest) lost (acts.Write frames.Done))
  writes_done None None lost stands c = c
  writes_done (Some k) None lost stands c = done_here k (not (is_cut k.down) && not (recv_stops rh)) stands c
  writes_done taken (Some t) lost stands c = waits_not SendingPhase t.down.sent t.up.sent c.agrees.on_newest refl

  pub writes_settings : (taken newest : Option Link) (lost : Option ℕ) (s : Settings) → s.ask ≡ ask → In states.SendSettings (pair_of (SendDoes (acts.Write (frames.Settings s))) taken newest) → In states.SendSettings (send_does (pair_of (SendDoes (acts.Write (frames.Settings s))) taken newest) lost (acts.Write (frames.Settings s)))
  writes_settings None None lost s same c = c
  writes_settings (Some k) None lost s same c = settings_here k s (not (is_cut k.down) && not (recv_stops rh)) same c
  writes_settings taken (Some t) lost s same c = settings_there taken t s (not (is_cut t.down) && not (recv_stops rh)) same c

  pub writes_abort : (taken newest : Option Link) (lost : Option ℕ) (code : ℕ) → In states.SendAbort (pair_of (SendDoes (acts.Write (frames.Abort code))) taken newest) → In states.SendAbort (send_does (pair_of (SendDoes (acts.Write (frames.Abort code))) taken newest) lost (acts.Write (frames.Abort code)))
  writes_abort None None lost code c = c
  writes_abort (Some k) None lost code c = abort_here k code (not (is_cut k.down) && not (recv_stops rh)) c
  writes_abort taken (Some t) lost code c = abort_there taken t code (not (is_cut t.down) && not (recv_stops rh)) c

-- ---- the steps

-- an act of the sender's lane in a state, by what it makes of the lane's part
pub act_keeps : (w : PlainWorld) (l : ℕ) (lost : Option ℕ) (st : SendState) (f : Frame) → Conversation w → l < length w.pairs → state_at w.sender l ≡ st → (pair_at w l).send ≡ SendDoes (acts.Write f)
    → (Converses (common w.receiver) l (stands_in w.sender l st) (receiving w.receiver l) (record (pair_at w l) { send = SendDoes (acts.Write f) })
    → Converses (common w.receiver) l (stands_in w.sender l st) (receiving w.receiver l) (send_does (record (pair_at w l) { send = SendDoes (acts.Write f) }) lost (acts.Write f)))
    → Conversation (send_steps w l lost)
act_keeps w l lost st f c within here holds own =
    let p : Pair = pair_at w l in
    subst (λ (x : SendHold). Conversation (send_steps_by w l lost x)) (sym holds)
    (pair_keeps w l (send_does p lost (acts.Write f)) c within
    (subst (λ (x : SendState). Converses (common w.receiver) l (stands_in w.sender l x) (receiving w.receiver l) (send_does p lost (acts.Write f))) (sym here)
    (subst (λ (x : SendHold). Converses (common w.receiver) l (stands_in w.sender l st) (receiving w.receiver l) (send_does (record p { send = x }) lost (acts.Write f))) (sym holds)
    (own
    (subst (λ (x : SendState). Converses (common w.receiver) l (stands_in w.sender l x) (receiving w.receiver l) (record p { send = SendDoes (acts.Write f) })) here
    (subst (λ (x : SendHold). Converses (common w.receiver) l (sending w.sender l) (receiving w.receiver l) (record p { send = x })) holds (c.lanes l within)))))))

pub size_write_keeps : (w : PlainWorld) (l : ℕ) (lost : Option ℕ) (files bytes : ℕ) → Conversation w → l < length w.pairs → state_at w.sender l ≡ states.SendSize → (pair_at w l).send ≡ SendDoes (acts.Write (frames.Size files bytes)) → Conversation (send_steps w l lost)
size_write_keeps w l lost files bytes c within here holds =
    let p : Pair = pair_at w l in
    act_keeps w l lost states.SendSize (frames.Size files bytes) c within here holds
    (writes_size (common w.receiver) l (lane_at w.sender l).ask (past_at w.sender l) (sending w.sender l).kept (receiving w.receiver l) p.recv p.between p.denies p.refusals p.taken p.newest lost files bytes)

pub done_write_keeps : (w : PlainWorld) (l : ℕ) (lost : Option ℕ) → Conversation w → l < length w.pairs → state_at w.sender l ≡ states.SendDone → (pair_at w l).send ≡ SendDoes (acts.Write frames.Done) → Conversation (send_steps w l lost)
done_write_keeps w l lost c within here holds =
    let p : Pair = pair_at w l in
    act_keeps w l lost states.SendDone frames.Done c within here holds
    (writes_done (common w.receiver) l (lane_at w.sender l).ask (past_at w.sender l) (sending w.sender l).kept (receiving w.receiver l) p.recv p.between p.denies p.refusals p.taken p.newest lost (λ opens. let f = fares_in w l states.SendDone c within here opens in (f.greeted, f.held)))

pub settings_write_keeps : (w : PlainWorld) (l : ℕ) (lost : Option ℕ) (s : Settings) → Conversation w → l < length w.pairs → state_at w.sender l ≡ states.SendSettings → (pair_at w l).send ≡ SendDoes (acts.Write (frames.Settings s)) → s.ask ≡ (lane_at w.sender l).ask → Conversation (send_steps w l lost)
settings_write_keeps w l lost s c within here holds same =
    let p : Pair = pair_at w l in
    act_keeps w l lost states.SendSettings (frames.Settings s) c within here holds
    (writes_settings (common w.receiver) l (lane_at w.sender l).ask (past_at w.sender l) (sending w.sender l).kept (receiving w.receiver l) p.recv p.between p.denies p.refusals p.taken p.newest lost s same)

pub abort_write_keeps : (w : PlainWorld) (l : ℕ) (lost : Option ℕ) (code : ℕ) → Conversation w → l < length w.pairs → state_at w.sender l ≡ states.SendAbort → (pair_at w l).send ≡ SendDoes (acts.Write (frames.Abort code)) → Conversation (send_steps w l lost)
abort_write_keeps w l lost code c within here holds =
    let p : Pair = pair_at w l in
    act_keeps w l lost states.SendAbort (frames.Abort code) c within here holds
    (writes_abort (common w.receiver) l (lane_at w.sender l).ask (past_at w.sender l) (sending w.sender l).kept (receiving w.receiver l) p.recv p.between p.denies p.refusals p.taken p.newest lost code)
