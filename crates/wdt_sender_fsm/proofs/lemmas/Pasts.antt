-- What an entry makes of the pasts of the lanes.
use Rattle.std.proofs.Common.{◌≡◌, ◌≢◌, ℕ, ◌==◌, Bool, true, false, if◌then◌else◌, Option, Some, None, refl}
use Rattle.std.proofs.lemmas.Bool.{ne_eqb}
use Rattle.wdt_claims.specs.LaneWords.{Claims}
use Rattle.wdt_sender_fsm.specs.declared.events.SendEvent.{SendEvent}
use Rattle.wdt_sender_fsm.specs.declared.events.SendEvent.TheVariants as events
use Rattle.wdt_sender_fsm.specs.declared.states.SendState.{SendState}
use Rattle.wdt_sender_fsm.specs.declared.states.SendState.TheVariants as states
use Rattle.wdt_sender_fsm.specs.Sender.{Fares}
use Rattle.wdt_sender_fsm.specs.SenderHistory.{LanePast, EndPast, past_after, end_after, lane_of, close_by}

abbrev pub is_finish : SendEvent → Bool
is_finish (events.Finish k) = true
is_finish _ = false

-- ---- of another lane

-- who closes a lane that is open behind it
closes : (o : Option ℕ) (n : ℕ) (s : Claims) → s.closed ≡ o → (close_by o n s).closed ≡ None → ⊥
closes None n s is e = cc
closes (Some m) n s is e = cc

-- an entry of another lane changes nothing of a lane that isn't closed behind it, but for the finish
global_past : (b : Bool) (n : ℕ) (p : LanePast) → (if b then close_by p.claims.closed n p.claims else p.claims).closed ≡ None → record p { claims = if b then close_by p.claims.closed n p.claims else p.claims } ≡ p
global_past true n p opens = absurd (closes p.claims.closed n p.claims refl opens)
global_past false n p opens = refl

pub other_past : (e : SendEvent) (j : ℕ) (p : LanePast) → lane_of e ≢ j → is_finish e ≡ false → (past_after j p e).claims.closed ≡ None → past_after j p e ≡ p
other_past (events.Linked k c) j p ne f opens = rw (ne_eqb k.0 j ne) refl
other_past (events.NoLink k) j p ne f opens = rw (ne_eqb k.0 j ne) refl
other_past (events.Lost k) j p ne f opens = rw (ne_eqb k.0 j ne) refl
other_past (events.Greet k n) j p ne f opens = rw (ne_eqb k.0 j ne) refl
other_past (events.Claim k b) j p ne f opens = rw (ne_eqb k.0 j ne) refl
other_past (events.Sent k) j p ne f opens = rw (ne_eqb k.0 j ne) refl
other_past (events.Global k c n) j p ne f opens = global_past (c.0 == j) n p opens
other_past (events.Finish k) j p ne f opens = cc
other_past (events.Acked k) j p ne f opens = rw (ne_eqb k.0 j ne) refl
other_past (events.Quit k) j p ne f opens = rw (ne_eqb k.0 j ne) refl
other_past e j p ne f opens = refl

-- an entry of another lane neither gives it up nor acknowledges it
pub other_quit : (e : SendEvent) (j : ℕ) (p : LanePast) → lane_of e ≢ j → (past_after j p e).has_quit ≡ p.has_quit
other_quit (events.Quit k) j p ne = rw (ne_eqb k.0 j ne) refl
other_quit e j p ne = refl

pub other_acked : (e : SendEvent) (j : ℕ) (p : LanePast) → lane_of e ≢ j → (past_after j p e).is_acked ≡ p.is_acked
other_acked (events.Acked k) j p ne = rw (ne_eqb k.0 j ne) refl
other_acked e j p ne = refl

-- ---- of the end

pub record Later (end next : EndPast) : Type 0 where
  pub listed : end.is_listed ≡ true → next.is_listed ≡ true
  pub finish : end.has_finish ≡ true → next.has_finish ≡ true

pub later : (end : EndPast) (e : SendEvent) → Later end (end_after end e)
later end (events.Chunks k) = record { listed = λ x. refl; finish = λ x. x }
later end (events.Finish k) = record { listed = λ x. x; finish = λ x. refl }
later end (events.Abort k c) = record { listed = λ x. x; finish = λ x. x }
later end (events.Peer k c) = record { listed = λ x. x; finish = λ x. x }
later end e = record { listed = λ x. x; finish = λ x. x }

-- a lane stands as before where only the end's past went on
pub fares_on : (x : Bool) (state : SendState) (ask : Bool) (p : LanePast) (end next : EndPast) → Later end next → Fares x state ask p end → Fares x state ask p next
fares_on x states.Connect ask p end next on f = f
fares_on x states.SendSettings ask p end next on f = record { goes_on = f.goes_on; greeted = f.greeted; known = λ e. on.listed (f.known e) }
fares_on x states.ReadLocalCheckpoint ask p end next on f = record { goes_on = f.goes_on; greeted = f.greeted; known = λ e. on.listed (f.known e) }
fares_on x states.ReadFileChunks ask p end next on f = f
fares_on x states.SendSize ask p end next on f = record { goes_on = f.goes_on; greeted = f.greeted; held = f.held; known = on.listed f.known }
fares_on x states.SendBlocks ask p end next on f = record { goes_on = f.goes_on; greeted = f.greeted; held = f.held; known = on.listed f.known }
fares_on x states.SendDone ask p end next on f = record { goes_on = f.goes_on; greeted = f.greeted; held = f.held; known = on.listed f.known }
fares_on x states.ReadReceiverCmd ask p end next on f = record { goes_on = f.goes_on; greeted = f.greeted; held = f.held; known = on.listed f.known }
fares_on x states.AnswerDone ask p end next on f = record { goes_on = f.goes_on; held = f.held; finish = f.finish; end_finish = on.finish f.end_finish }
fares_on x states.SendAbort ask p end next on f = f
fares_on x states.Ended ask p end next on f = f
