-- How the receiver's side of a lane may change in a step, whatever row of the table it was: the lane stands where it
-- stood on its connection, says nothing more there, or is about to say that its end has failed.
use Rattle.std.proofs.Common.{◌≡◌, ◌≤◌, ℕ, Bool, true, false, List, [], ◌∷◌, ◌++◌, Option, Some, None, subst, sym, ap, ◌∙◌, refl, append_assoc}
use Rattle.wdt_units.specs.declared.blocks.Header.{Header}
use Rattle.wdt_codec.specs.Frames.{Fits}
use Rattle.wdt_codec.specs.declared.frames.Frame.{Frame}
use Rattle.wdt_codec.specs.declared.frames.Frame.TheVariants as frames
use Rattle.wdt_sender_fsm.specs.Phases.{Phase, Asked, Message, Framed, down, up, is_abort}
use Rattle.wdt_receiver_fsm.specs.declared.acts.RecvAct.{RecvAct}
use Rattle.wdt_receiver_fsm.specs.declared.acts.RecvAct.TheVariants as recv_acts
use Rattle.wdt_receiver_fsm.specs.declared.inputs.RecvIn.TheVariants as recv_inputs
use Rattle.wdt_receiver_fsm.specs.declared.states.RecvLane.{RecvLane}
use Rattle.wdt_receiver_fsm.specs.ReceiverHistory.{RecvPast}
use Rattle.wdt_pact.specs.Each.{Each}
use Rattle.wdt_pact.specs.Links.{Link}
use Rattle.wdt_pact.specs.Pairs.{SendHold, RecvHold, RecvDoes, RecvHas, Pair, top_by}
use Rattle.wdt_pact.specs.Stances.{Stance, Talks, Aborts, Silent, AgreeOn, AgreeWaiting, Agrees, is_abort_down, is_any, is_calm, recv_stance, send_stance, send_there}
use Rattle.wdt_pact.specs.Lists.{AskedBy, ListsBy, Splits, Splits-same, UnsentBy, begun_heads, blocks_in, flying, has_done, in_hand}
use Rattle.wdt_pact.specs.Conversation.{AllTell, Common, Converses, Grows, IsIdle, IsNoMarks, Pieces, Receiving, Sending, Tells, said_there, send_in_hand, to_say, up_sent, upward_by}
use Rattle.wdt_pact.proofs.Below.{one_talker, turned_talker}
use Rattle.wdt_pact.proofs.Ending.{idle_here}
use Rattle.wdt_pact.proofs.Finishing.{own_here}
use Rattle.wdt_pact.proofs.Grows.{each_map, tells_grow}
use Rattle.wdt_pact.proofs.Links.{any_calms, fails_soon, turned_on}
use Rattle.wdt_pact.proofs.Lists.{Each-append}
use Rattle.wdt_pact.proofs.RecvHearing.{recv_silenced}

-- ---- what goes up

each_front : (P : Frame → Type 0) (xs ys : List Frame) → Each P (xs ++ ys) → Each P xs
each_front P [] ys e = tt
each_front P (x ∷ xs) ys e = (e.0, each_front P xs ys e.1)

each_back : (P : Frame → Type 0) (xs ys : List Frame) → Each P (xs ++ ys) → Each P ys
each_back P [] ys e = e
each_back P (x ∷ xs) ys e = each_back P xs ys e.1

-- the lane is about to say more
each_said : (P Q : Frame → Type 0) (hand up : List Frame) (newest : Option Link) (old new : List Frame) → old ≡ [] → ((f : Frame) → P f → Q f) → Each Q new → Each P (hand ++ (up ++ said_there newest old)) → Each Q (hand ++ (up ++ said_there newest new))
each_said P Q hand up None old new none f more e =
    let rest = each_back P hand (up ++ old) e in
    Each-append Q hand (up ++ new) (each_map P Q f hand (each_front P hand (up ++ old) e)) (Each-append Q up new (each_map P Q f up (each_front P up old rest)) more)
each_said P Q hand up (Some t) old new none f more e = each_map P Q f (hand ++ (up ++ [])) e

tells_said : (ss : Stance) (P Q : Frame → Type 0) (hand up : List Frame) (newest : Option Link) (old new : List Frame) → old ≡ [] → ((f : Frame) → P f → Q f) → Each Q new → AllTell ss P (hand ++ (up ++ said_there newest old)) → AllTell ss Q (hand ++ (up ++ said_there newest new))
tells_said (Talks p) P Q hand up newest old new none f more e = each_said P Q hand up newest old new none f more e
tells_said Aborts P Q hand up newest old new none f more e = tt
tells_said Silent P Q hand up newest old new none f more e = tt

-- and what is on its way is all that was
tells_sent : (ss : Stance) (P : Frame → Type 0) (hand up : List Frame) (newest : Option Link) (old : List Frame) → AllTell ss P (hand ++ (up ++ said_there newest old)) → AllTell ss P (hand ++ (up ++ said_there newest []))
tells_sent (Talks p) P hand up None old e =
    let rest = each_back P hand (up ++ old) e in
    Each-append P hand (up ++ []) (each_front P hand (up ++ old) e) (Each-append P up [] (each_front P up old rest) tt)
tells_sent (Talks p) P hand up (Some t) old e = e
tells_sent Aborts P hand up newest old e = tt
tells_sent Silent P hand up newest old e = tt

-- ---- what is in hand is stepped

-- it told of no block
lists_stepped : (rs : Stance) (taken : Option Link) (kept landed : List Header) (begun : Option Header) (hand : List Message) (IsRest : List Header → Type 0) → ((ds : List Message) → blocks_in (hand ++ ds) ≡ blocks_in ds) → ListsBy rs taken kept landed begun hand IsRest → ListsBy rs taken kept landed begun [] IsRest
lists_stepped (Talks q) (Some k) kept landed begun hand IsRest none x =
    let same : flying begun hand k.down.sent ≡ flying begun [] k.down.sent = ap (λ (hs : List Header). begun_heads begun ++ hs) (none k.down.sent) in
    record {
      rest = x.rest;
      same = Splits-same kept landed (flying begun hand k.down.sent ++ x.rest) (flying begun [] k.down.sent ++ x.rest) x.same (ap (λ (hs : List Header). hs ++ x.rest) same);
      live = x.live;
      dead = λ e. sym same ∙ x.dead e;
    }
lists_stepped Aborts (Some k) kept landed begun hand IsRest none x = record { rest = x.rest; same = x.same; live = x.live; dead = x.dead }
lists_stepped Silent (Some k) kept landed begun hand IsRest none x = record { rest = x.rest; same = x.same; live = x.live; dead = x.dead }
lists_stepped rs None kept landed begun hand IsRest none x = x

asked_stepped : (rs : Stance) (taken : Option Link) (kept landed : List Header) (begun : Option Header) (hand : List Message) (held : Bool) → ((ds : List Message) → blocks_in (hand ++ ds) ≡ blocks_in ds) → ((ds : List Message) → has_done ds ≡ true → has_done (hand ++ ds) ≡ true) → AskedBy rs taken kept landed begun hand held → AskedBy rs taken kept landed begun [] held
asked_stepped (Talks q) (Some k) kept landed begun hand held none done x = λ e.
    let y = x (done k.down.sent e) in
    (Splits-same kept landed (flying begun hand k.down.sent) (flying begun [] k.down.sent) y.0 (ap (λ (hs : List Header). begun_heads begun ++ hs) (none k.down.sent)), y.1)
asked_stepped Aborts (Some k) kept landed begun hand held none done x = tt
asked_stepped Silent (Some k) kept landed begun hand held none done x = tt
asked_stepped rs None kept landed begun hand held none done x = tt

-- ---- the lane says nothing more, or is about to say that its end has failed

-- a block that was begun may be lost
pub data Loses (begun after : Option Header) : Type 0 where
  Keeps : after ≡ begun → Loses begun after
  Drops : after ≡ None → Loses begun after

kept_heads : (begun after : Option Header) (xs : List Header) → Loses begun after → (ys : List Header) × (begun_heads begun ++ xs ≡ begun_heads after ++ ys)
kept_heads begun after xs (Keeps e) = (xs, ap (λ (o : Option Header). begun_heads o ++ xs) (sym e))
kept_heads begun after xs (Drops e) = (begun_heads begun ++ xs, sym (ap (λ (o : Option Header). begun_heads o ++ (begun_heads begun ++ xs)) e))

none_kept : (begun after : Option Header) → Loses begun after → begun_heads begun ≡ [] → begun_heads after ≡ []
none_kept begun after (Keeps e) none = ap begun_heads e ∙ none
none_kept begun after (Drops e) none = ap begun_heads e

none_begun : (begun after : Option Header) → Loses begun after → begun ≡ None → after ≡ None
none_begun begun after (Keeps e) none = e ∙ none
none_begun begun after (Drops e) none = e

front_none : (xs ys : List Header) → xs ++ ys ≡ [] → xs ≡ []
front_none [] ys e = refl
front_none (x ∷ xs) ys e = cc

-- an end that talks no more
abbrev pub is_through : Stance → Bool
is_through (Talks q) = false
is_through _ = true

pub lists_through : (rs new : Stance) (taken : Option Link) (kept landed : List Header) (begun after : Option Header) (hand : List Message) (P : List Header → Type 0) → is_through new ≡ true → Loses begun after → ListsBy rs taken kept landed begun hand P → ListsBy new taken kept landed after [] P
lists_through rs new None kept landed begun after hand P t loses x = (x.0, none_begun begun after loses x.1)
lists_through (Talks q) Silent (Some k) kept landed begun after hand P t loses x =
    let y = kept_heads begun after (blocks_in (hand ++ k.down.sent) ++ x.rest) loses in
    record {
      rest = y.0;
      same = Splits-same kept landed (flying begun hand k.down.sent ++ x.rest) (begun_heads after ++ y.0) x.same (append_assoc (begun_heads begun) (blocks_in (hand ++ k.down.sent)) x.rest ∙ y.1);
      live = λ e. tt;
      dead = λ e. none_kept begun after loses (front_none (begun_heads begun) (blocks_in (hand ++ k.down.sent)) (x.dead e));
    }
lists_through (Talks q) Aborts (Some k) kept landed begun after hand P t loses x =
    let y = kept_heads begun after (blocks_in (hand ++ k.down.sent) ++ x.rest) loses in
    record {
      rest = y.0;
      same = Splits-same kept landed (flying begun hand k.down.sent ++ x.rest) (begun_heads after ++ y.0) x.same (append_assoc (begun_heads begun) (blocks_in (hand ++ k.down.sent)) x.rest ∙ y.1);
      live = λ e. tt;
      dead = λ e. none_kept begun after loses (front_none (begun_heads begun) (blocks_in (hand ++ k.down.sent)) (x.dead e));
    }
lists_through Silent Silent (Some k) kept landed begun after hand P t loses x =
    let y = kept_heads begun after x.rest loses in
    record { rest = y.0; same = Splits-same kept landed (begun_heads begun ++ x.rest) (begun_heads after ++ y.0) x.same y.1; live = λ e. tt; dead = λ e. none_kept begun after loses (x.dead e) }
lists_through Silent Aborts (Some k) kept landed begun after hand P t loses x =
    let y = kept_heads begun after x.rest loses in
    record { rest = y.0; same = Splits-same kept landed (begun_heads begun ++ x.rest) (begun_heads after ++ y.0) x.same y.1; live = λ e. tt; dead = λ e. none_kept begun after loses (x.dead e) }
lists_through Aborts Silent (Some k) kept landed begun after hand P t loses x =
    let y = kept_heads begun after x.rest loses in
    record { rest = y.0; same = Splits-same kept landed (begun_heads begun ++ x.rest) (begun_heads after ++ y.0) x.same y.1; live = λ e. tt; dead = λ e. none_kept begun after loses (x.dead e) }
lists_through Aborts Aborts (Some k) kept landed begun after hand P t loses x =
    let y = kept_heads begun after x.rest loses in
    record { rest = y.0; same = Splits-same kept landed (begun_heads begun ++ x.rest) (begun_heads after ++ y.0) x.same y.1; live = λ e. tt; dead = λ e. none_kept begun after loses (x.dead e) }
lists_through rs (Talks q) (Some k) kept landed begun after hand P t loses x = cc

pub asked_through : (new : Stance) (taken : Option Link) (kept landed : List Header) (begun : Option Header) (held : Bool) → is_through new ≡ true → AskedBy new taken kept landed begun [] held
asked_through new None kept landed begun held t = tt
asked_through (Talks q) (Some k) kept landed begun held t = cc
asked_through Aborts (Some k) kept landed begun held t = tt
asked_through Silent (Some k) kept landed begun held t = tt

silent_on : (ss rs : Stance) (taken : Option Link) → AgreeOn ss rs taken → AgreeOn ss Silent taken
silent_on ss rs None a = (a.0, refl)
silent_on ss rs (Some k) a = recv_silenced ss rs k.down.sent k.up.sent a

-- the receiver is about to say that it failed
aborts_on : (ss : Stance) (q : Phase) (taken : Option Link) → AgreeOn ss (Talks q) taken → AgreeOn ss Aborts taken
aborts_on ss q None a = let x = a.1 in cc
aborts_on ss q (Some k) a =
    turned_on up down is_abort is_abort_down is_any is_calm (turned_talker down up one_talker) Aborts ss k.up.sent k.down.sent
    (fails_soon up down is_abort is_abort_down is_any is_calm (turned_talker down up one_talker) any_calms q ss k.up.sent k.down.sent refl (turned_on down up is_abort_down is_abort is_calm is_any one_talker ss (Talks q) k.down.sent k.up.sent a))

-- ---- the lane's part

module _ (g new : Common) (l : ℕ) (grows : Grows g new) (s : Sending) (landed : List Header) (sh : SendHold) (taken : Option Link) (between : List Link) (newest : Option Link) (denies refusals : ℕ) where
  abbrev ss : Stance
  ss = send_stance s.lane s.past.is_acked sh

  abbrev side : RecvLane → RecvPast → Option Header → Receiving
  side lane past begun = record { lane = lane; past = past; landed = landed; begun = begun }

  abbrev at : RecvHold → Pair
  at rh = record { send = sh; recv = rh; taken = taken; between = between; newest = newest; denies = denies; refusals = refusals }

  abbrev stance : RecvLane → RecvPast → RecvHold → Stance
  stance lane past rh = recv_stance lane past.is_idle past.is_acked rh

  -- an idle lane stays idle, and tells of no closed lane
  pub still_idle : (held : RecvHold) (act : RecvAct) → to_say held ≡ [] → Each IsNoMarks (to_say (RecvDoes act))
      → IsIdle s.kept landed s.past.claims.held newest ss (upward_by newest taken sh held) → IsIdle s.kept landed s.past.claims.held newest ss (upward_by newest taken sh (RecvDoes act))
  still_idle held act mute quiet x =
      record { same = x.same; holds = x.holds; late = x.late; quiet = tells_said ss IsNoMarks IsNoMarks (send_in_hand sh) (up_sent (top_by newest taken)) newest (to_say held) (to_say (RecvDoes act)) mute (λ f e. e) quiet x.quiet }

  -- the lane becomes idle as it reads the sender's last word
  pub becomes_idle : (act : RecvAct) (lane : RecvLane) (past : RecvPast) (begun : Option Header)
      → begun ≡ None → Each IsNoMarks (to_say (RecvDoes act)) → stance lane past (RecvHas (recv_inputs.Got frames.Done)) ≡ Talks Asked
      → Converses g l s (side lane past begun) (at (RecvHas (recv_inputs.Got frames.Done))) → IsIdle s.kept landed s.past.claims.held newest ss (upward_by newest taken sh (RecvDoes act))
  becomes_idle act lane past begun none quiet asked c =
      let own = own_here ss (stance lane past (RecvHas (recv_inputs.Got frames.Done))) taken newest s.kept landed begun (Framed frames.Done ∷ []) s.past.claims.held asked refl none c.agrees.on_taken c.asked in
      let x = idle_on taken (subst (λ (y : Stance). AgreeOn (send_there newest ss) y taken) asked c.agrees.on_taken) c.agrees.on_newest own.0 own.1 in
      record { same = x.same; holds = x.holds; late = x.late; quiet = tells_said ss IsNoMarks IsNoMarks (send_in_hand sh) (up_sent (top_by newest taken)) newest [] (to_say (RecvDoes act)) refl (λ f e. e) quiet (tells_sent ss IsNoMarks (send_in_hand sh) (up_sent (top_by newest taken)) newest (frames.Done ∷ []) x.quiet) } where
        idle_on : (o : Option Link) → AgreeOn (send_there newest ss) (Talks Asked) o → AgreeWaiting ss newest → Splits s.kept landed [] → s.past.claims.held ≡ false
            → IsIdle s.kept landed s.past.claims.held newest ss (send_in_hand sh ++ (up_sent (top_by newest o) ++ said_there newest (frames.Done ∷ [])))
        idle_on None a w same holds = let y = a.1 in cc
        idle_on (Some k) a w same holds = idle_here s.lane s.past.is_acked sh ss k newest s.kept landed s.past.claims.held refl a w same holds

  -- the lane stands where it stood
  pub stays_here : (held : RecvHold) (act : RecvAct) (lane after : RecvLane) (past later : RecvPast) (begun : Option Header)
      → to_say held ≡ [] → stance after later (RecvDoes act) ≡ stance lane past held
      → ((ds : List Message) → blocks_in (in_hand held ++ ds) ≡ blocks_in ds) → ((ds : List Message) → has_done ds ≡ true → has_done (in_hand held ++ ds) ≡ true)
      → Each (Tells new l landed) (to_say (RecvDoes act)) → Each Fits (to_say (RecvDoes act)) → Pieces after.left (RecvDoes act)
      → (later.is_idle ≡ true → IsIdle s.kept landed s.past.claims.held newest ss (upward_by newest taken sh (RecvDoes act)))
      → later.is_closed ≡ past.is_closed
      → Converses g l s (side lane past begun) (at held) → Converses new l s (side after later begun) (at (RecvDoes act))
  stays_here held act lane after past later begun mute stands none done tells fits pieces idle closed c =
      let rs : Stance = stance lane past held in
      record {
        agrees = subst (λ (x : Stance). Agrees ss x taken between newest) (sym stands) c.agrees;
        lists = subst (λ (x : Stance). ListsBy x taken s.kept landed begun [] (UnsentBy newest s.lane.state sh)) (sym stands) (lists_stepped rs taken s.kept landed begun (in_hand held) (UnsentBy newest s.lane.state sh) none c.lists);
        sure = c.sure;
        upward = tells_said ss (Tells g l landed) (Tells new l landed) (send_in_hand sh) (up_sent (top_by newest taken)) newest (to_say held) (to_say (RecvDoes act)) mute (tells_grow g new l landed grows) tells c.upward;
        fits = each_said Fits Fits (send_in_hand sh) (up_sent (top_by newest taken)) newest (to_say held) (to_say (RecvDoes act)) mute (λ f e. e) fits c.fits;
        notes = c.notes;
        closed = λ e. let x = c.closed e in record { there = closed ∙ x.there; same = x.same };
        asked = subst (λ (x : Stance). AskedBy x taken s.kept landed begun [] s.past.claims.held) (sym stands) (asked_stepped rs taken s.kept landed begun (in_hand held) s.past.claims.held none done c.asked);
        finished = λ e. let x = c.finished (sym grows.finish ∙ e) in record { same = x.same; holds = x.holds };
        pieces = pieces;
        waits = c.waits;
        idle = idle;
        shut = λ e. let x = c.shut (sym closed ∙ e) in record { silent = stands ∙ x.silent; none = x.none };
        heard_up = c.heard_up;
        heard_down = tt;
      }

  -- the same, where it is idle only where it was, and tells of no closed lane
  pub stays_on : (held : RecvHold) (act : RecvAct) (lane after : RecvLane) (past later : RecvPast) (begun : Option Header)
      → to_say held ≡ [] → stance after later (RecvDoes act) ≡ stance lane past held
      → ((ds : List Message) → blocks_in (in_hand held ++ ds) ≡ blocks_in ds) → ((ds : List Message) → has_done ds ≡ true → has_done (in_hand held ++ ds) ≡ true)
      → Each (Tells new l landed) (to_say (RecvDoes act)) → Each Fits (to_say (RecvDoes act)) → Pieces after.left (RecvDoes act)
      → (later.is_idle ≡ true → past.is_idle ≡ true) → Each IsNoMarks (to_say (RecvDoes act)) → later.is_closed ≡ past.is_closed
      → Converses g l s (side lane past begun) (at held) → Converses new l s (side after later begun) (at (RecvDoes act))
  stays_on held act lane after past later begun mute stands none done tells fits pieces idle quiet closed c =
      stays_here held act lane after past later begun mute stands none done tells fits pieces (λ e. still_idle held act mute quiet (c.idle (idle e))) closed c

  -- it says nothing more
  pub quiets_here : (held : RecvHold) (act : RecvAct) (lane after : RecvLane) (past later : RecvPast) (begun rest : Option Header)
      → to_say held ≡ [] → to_say (RecvDoes act) ≡ [] → stance after later (RecvDoes act) ≡ Silent → Loses begun rest → Pieces after.left (RecvDoes act)
      → (later.is_idle ≡ true → past.is_idle ≡ true) → (later.is_closed ≡ true → rest ≡ None) → (past.is_closed ≡ true → later.is_closed ≡ true)
      → Converses g l s (side lane past begun) (at held) → Converses new l s (side after later rest) (at (RecvDoes act))
  quiets_here held act lane after past later begun rest mute says silent loses pieces idle shut closed c =
      let none : (P : Frame → Type 0) → Each P (to_say (RecvDoes act)) = λ P. subst (λ (us : List Frame). Each P us) (sym says) tt in
      record {
        agrees = subst (λ (x : Stance). Agrees ss x taken between newest) (sym silent) record { on_taken = silent_on (send_there newest ss) (stance lane past held) taken c.agrees.on_taken; waiting = c.agrees.waiting; on_newest = c.agrees.on_newest };
        lists = subst (λ (x : Stance). ListsBy x taken s.kept landed rest [] (UnsentBy newest s.lane.state sh)) (sym silent) (lists_through (stance lane past held) Silent taken s.kept landed begun rest (in_hand held) (UnsentBy newest s.lane.state sh) refl loses c.lists);
        sure = c.sure;
        upward = tells_said ss (Tells g l landed) (Tells new l landed) (send_in_hand sh) (up_sent (top_by newest taken)) newest (to_say held) (to_say (RecvDoes act)) mute (tells_grow g new l landed grows) (none (Tells new l landed)) c.upward;
        fits = each_said Fits Fits (send_in_hand sh) (up_sent (top_by newest taken)) newest (to_say held) (to_say (RecvDoes act)) mute (λ f e. e) (none Fits) c.fits;
        notes = c.notes;
        closed = λ e. let x = c.closed e in record { there = closed x.there; same = x.same };
        asked = subst (λ (x : Stance). AskedBy x taken s.kept landed rest [] s.past.claims.held) (sym silent) (asked_through Silent taken s.kept landed rest s.past.claims.held refl);
        finished = λ e. let x = c.finished (sym grows.finish ∙ e) in record { same = x.same; holds = x.holds };
        pieces = pieces;
        waits = c.waits;
        idle = λ e. still_idle held act mute (none IsNoMarks) (c.idle (idle e));
        shut = λ e. record { silent = silent; none = shut e };
        heard_up = c.heard_up;
        heard_down = tt;
      }

  -- it is about to say that its end has failed
  pub warns_here : (held : RecvHold) (code : ℕ) (lane after : RecvLane) (past later : RecvPast) (begun : Option Header) (q : Phase)
      → to_say held ≡ [] → stance lane past held ≡ Talks q → stance after later (RecvDoes (recv_acts.Write (frames.Abort code))) ≡ Aborts → code ≤ 255
      → (later.is_idle ≡ true → IsIdle s.kept landed s.past.claims.held newest ss (upward_by newest taken sh (RecvDoes (recv_acts.Write (frames.Abort code))))) → later.is_closed ≡ past.is_closed
      → Converses g l s (side lane past begun) (at held) → Converses new l s (side after later begun) (at (RecvDoes (recv_acts.Write (frames.Abort code))))
  warns_here held code lane after past later begun q mute talks aborts small idle closed c =
      let act : RecvAct = recv_acts.Write (frames.Abort code) in
      record {
        agrees = subst (λ (x : Stance). Agrees ss x taken between newest) (sym aborts) record { on_taken = aborts_on (send_there newest ss) q taken (subst (λ (x : Stance). AgreeOn (send_there newest ss) x taken) talks c.agrees.on_taken); waiting = c.agrees.waiting; on_newest = c.agrees.on_newest };
        lists = subst (λ (x : Stance). ListsBy x taken s.kept landed begun [] (UnsentBy newest s.lane.state sh)) (sym aborts) (lists_through (stance lane past held) Aborts taken s.kept landed begun begun (in_hand held) (UnsentBy newest s.lane.state sh) refl (Keeps refl) c.lists);
        sure = c.sure;
        upward = tells_said ss (Tells g l landed) (Tells new l landed) (send_in_hand sh) (up_sent (top_by newest taken)) newest (to_say held) (to_say (RecvDoes act)) mute (tells_grow g new l landed grows) (tt, tt) c.upward;
        fits = each_said Fits Fits (send_in_hand sh) (up_sent (top_by newest taken)) newest (to_say held) (to_say (RecvDoes act)) mute (λ f e. e) (small, tt) c.fits;
        notes = c.notes;
        closed = λ e. let x = c.closed e in record { there = closed ∙ x.there; same = x.same };
        asked = subst (λ (x : Stance). AskedBy x taken s.kept landed begun [] s.past.claims.held) (sym aborts) (asked_through Aborts taken s.kept landed begun s.past.claims.held refl);
        finished = λ e. let x = c.finished (sym grows.finish ∙ e) in record { same = x.same; holds = x.holds };
        pieces = tt;
        waits = c.waits;
        idle = idle;
        shut = λ e. let x = c.shut (sym closed ∙ e) in absurd (not_both q (sym talks ∙ x.silent));
        heard_up = c.heard_up;
        heard_down = tt;
      } where
        not_both : (q : Phase) → Talks q ≡ Silent → ⊥
        not_both q e = cc
