-- Steps of a lane that makes or loses its connection.
use Rattle.std.proofs.Common.{◌≡◌, ◌⊎◌, inl, inr, ℕ, ◌<◌, ◌≤◌, [], ◌∷◌, Bool, true, false, not, sym, ap, ◌∙◌, refl, nat_le, ◌||◌, is_some, eq-eqb, arith}
use Rattle.std.proofs.lemmas.Bool.{or_cases, or_parts, leb-true, leb-false, not-false}
use Rattle.wdt_units.specs.declared.numbers.Conn.{Conn}
use Rattle.wdt_units.specs.declared.numbers.Lane.{Lane}
use Rattle.wdt_sender_fsm.specs.declared.events.SendEvent.TheVariants as events
use Rattle.wdt_sender_fsm.specs.declared.states.SendState.TheVariants as states
use Rattle.wdt_sender_fsm.specs.PlainSender.{PlainSender, past_at, noted}
use Rattle.wdt_sender_fsm.specs.Rows.{Begin, NotLinked, Linked, Dropped}
use Rattle.wdt_sender_fsm.specs.Sender.{Dials, Asks}
use Rattle.wdt_sender_fsm.specs.SenderHistory.{LanePast, past_of-more}
use Rattle.wdt_sender_fsm.specs.Turn.{is_used_up, redial_by, next_conn, turn_row}
use Rattle.wdt_sender_fsm.proofs.lemmas.Failing.{Keeps}
use Rattle.wdt_sender_fsm.proofs.lemmas.Notes.{stays_more, works_more, behind}
use Rattle.wdt_sender_fsm.proofs.lemmas.Works.{Works, put, in_state}

used_up : (c t : ℕ) → (nat_le 8 c || nat_le 8 t) ≡ true → (8 ≤ c) ⊎ (8 ≤ t)
used_up c t is = go (or_cases (nat_le 8 c) (nat_le 8 t) is) where
  go : (nat_le 8 c ≡ true) ⊎ (nat_le 8 t ≡ true) → (8 ≤ c) ⊎ (8 ≤ t)
  go (inl x) = inl (leb-true 8 c x)
  go (inr x) = inr (leb-true 8 t x)

left_over : (c t : ℕ) → (nat_le 8 c || nat_le 8 t) ≡ false → (c < 8) × (t < 8)
left_over c t is = let both = or_parts (nat_le 8 c) (nat_le 8 t) is in (leb-false 8 c both.0, leb-false 8 t both.1)

redials : (s : PlainSender) (l : Lane) (b : Bool) → is_used_up (past_at s l.0) ≡ b → Works s l → (past_at s l.0).is_up ≡ false → Keeps (redial_by s l b)
redials s l true is w up =
    put (noted s (events.Quit l ∷ [])) l (in_state s l states.Ended)
    (stays_more s l (events.Quit l) w refl refl up (used_up (past_at s l.0).connections (past_at s l.0).failed_tries is))
    (inr (inl (ap (λ (p : LanePast). p.has_quit) (past_of-more s.history (events.Quit l) l.0) ∙ rw (eq-eqb l.0 l.0 refl) refl)))
redials s l false is w up =
    let left = left_over (past_at s l.0).connections (past_at s l.0).failed_tries is in
    put s l (in_state s l states.Connect) w.stays record { goes_on = record { quit = w.quit; acked = w.acked; link = up }; connections = left.0; failed_tries = left.1 }

pub begins : (s : PlainSender) (l : Lane) → Works s l → (past_at s l.0).is_up ≡ false → Keeps (turn_row s l Begin)
begins s l w up = redials s l (is_used_up (past_at s l.0)) refl w up

-- no connection could be made
pub tries_again : (s : PlainSender) (l : Lane) → Works s l → Dials (past_at s l.0) → Keeps (turn_row s l NotLinked)
tries_again s l w dials =
    let up = dials.goes_on.link in
    redials (noted s (events.NoLink l ∷ [])) l (is_used_up (past_at (noted s (events.NoLink l ∷ [])) l.0)) refl
    (works_more s l (events.NoLink l) w refl refl tt refl up dials.failed_tries)
    (ap (λ (p : LanePast). p.is_up) (past_of-more s.history (events.NoLink l) l.0) ∙ up)

-- the connection is lost
pub loses : (s : PlainSender) (l : Lane) → Works s l → (past_at s l.0).is_up ≡ true → Keeps (turn_row s l Dropped)
loses s l w up =
    redials (noted s (events.Lost l ∷ [])) l (is_used_up (past_at (noted s (events.Lost l ∷ [])) l.0)) refl
    (works_more s l (events.Lost l) w refl refl tt refl up tt)
    (ap (λ (p : LanePast). p.is_up) (past_of-more s.history (events.Lost l) l.0) ∙ rw (eq-eqb l.0 l.0 refl) refl)

-- a connection stands
pub links : (s : PlainSender) (l : Lane) → Works s l → Dials (past_at s l.0) → Keeps (turn_row s l Linked)
links s l w dials =
    let ask : Bool = not (is_some s.have) in
    let conn : Conn = next_conn s l in
    let few : (past_at s l.0).connections < 8 = dials.connections in
    put (noted s (events.Linked l (next_conn s l) ∷ [])) l record { state = states.SendSettings; ask = not (is_some s.have) }
    (stays_more s l (events.Linked l (next_conn s l)) w refl refl dials.goes_on.link (refl, omega (arith, few)))
    (behind (λ p end. Asks (not (is_some s.have)) p end) s.history (events.Linked l (next_conn s l)) l.0 record {
      goes_on = record { quit = w.quit; acked = w.acked; link = rw (eq-eqb l.0 l.0 refl) refl };
      greeted = rw (eq-eqb l.0 l.0 refl) refl;
      known = λ e. sym w.stays.plan.listed ∙ not-false (is_some s.have) e;
    })
