-- What a legal history is judged by, and how that changes while no fault is noted.
use Rattle.std.proofs.Common.{◌≡◌, ℕ, zero, suc, List, [], ◌∷◌, ◌++◌, length, map, Bool, true, false, Option, slice_get, slice_set, subst, sym, ap, ◌∙◌, refl, append_assoc}
use Rattle.std.proofs.lemmas.Bool.{both_ways}
use Rattle.std.proofs.lemmas.List.{length-set}
use Rattle.wdt_units.specs.declared.numbers.Lane.{Lane}
use Rattle.wdt_logfmt.specs.Beginning.{KnownFile}
use Rattle.wdt_receiver_fsm.specs.declared.events.RecvEvent.{RecvEvent}
use Rattle.wdt_receiver_fsm.specs.declared.events.RecvEvent.TheVariants as events
use Rattle.wdt_receiver_fsm.specs.declared.states.RecvLane.{RecvLane}
use Rattle.wdt_receiver_fsm.specs.Legal.{IsAllowed, IsLegal, Terms, legal_from, number_or_none}
use Rattle.wdt_receiver_fsm.specs.PlainReceiver.{PlainReceiver, lane_at, lane_or_ended, with_lane}
use Rattle.wdt_receiver_fsm.specs.Receiver.{conn_of, terms_of}
use Rattle.wdt_receiver_fsm.specs.ReceiverHistory.{EndPast, end_after, end_from, end_of, end_of-append, has_fault_after}

fault_later : (s : EndPast) (es : List RecvEvent) → s.has_fault ≡ true → (end_from s es).has_fault ≡ true
fault_later s [] h = h
fault_later s (e ∷ es) h = fault_later (end_after s e) es (stays_fault s e h)
  where
    stays_fault : (s : EndPast) (e : RecvEvent) → s.has_fault ≡ true → has_fault_after s.has_fault e ≡ true
    stays_fault s (events.Abort l code) h = refl
    stays_fault s (events.Peer l kind) h = refl
    stays_fault s e h = h

-- where no fault was noted, a legal history says nothing of the known files or of connections' numbers
known_allowed : (t : Terms) (k : List (Option KnownFile)) (cs : List ℕ) (g : List RecvEvent) (e : RecvEvent) → (end_after (end_of g) e).has_fault ≡ false → IsAllowed t g e → IsAllowed (record t { known = k; conns = cs }) g e
known_allowed t k cs g (events.Peer l kind) calm a = cc
known_allowed t k cs g (events.Abort l code) calm a = cc
known_allowed t k cs g (events.Begin l b) calm a = record { fault = a.fault; speaks = a.speaks; fits = record { finish = a.fits.finish; idle = a.fits.idle; begun = a.fits.begun; few = a.fits.few; clear = a.fits.clear } }
known_allowed t k cs g events.Finish calm a = record { fault = a.fault; speaks = a.speaks; fits = record { first = a.fits.first; ready = a.fits.ready; whole = a.fits.whole } }
known_allowed t k cs g e calm a = record { fault = a.fault; speaks = a.speaks; fits = a.fits }

no_fault_here : (g : List RecvEvent) (e : RecvEvent) (es : List RecvEvent) → (end_of (g ++ e ∷ es)).has_fault ≡ false → (end_after (end_of g) e).has_fault ≡ false
no_fault_here g e es calm = go ((end_after (end_of g) e).has_fault) refl
  where
    go : (b : Bool) → (end_after (end_of g) e).has_fault ≡ b → (end_after (end_of g) e).has_fault ≡ false
    go false is = is
    go true is = absurd (both_ways _ (sym (ap (λ (x : EndPast). x.has_fault) (end_of-append g (e ∷ es))) ∙ calm) (fault_later (end_after (end_of g) e) es is))

legal_from_terms : (t : Terms) (k : List (Option KnownFile)) (cs : List ℕ) (b g : List RecvEvent) → (end_of (b ++ g)).has_fault ≡ false → legal_from t b g → legal_from (record t { known = k; conns = cs }) b g
legal_from_terms t k cs b [] calm legal = tt
legal_from_terms t k cs b (e ∷ g) calm legal =
    (known_allowed t k cs b e (no_fault_here b e g calm) legal.0, legal_from_terms t k cs (b ++ e ∷ []) g (ap (λ (h : List RecvEvent). (end_of h).has_fault) (append_assoc b (e ∷ []) g) ∙ calm) legal.1)

pub legal_terms : (t : Terms) (k : List (Option KnownFile)) (cs : List ℕ) (g : List RecvEvent) → (end_of g).has_fault ≡ false → IsLegal t g → IsLegal (record t { known = k; conns = cs }) g
unfolding IsLegal
legal_terms t k cs g calm legal = legal_from_terms t k cs [] g calm legal

-- ---- the numbers of connections

-- a lane that is put has the number that was read before, where a fault was noted
abbrev pub Told : PlainReceiver → Lane → RecvLane → Type 0
Told t l lane = (end_of t.history).has_fault ≡ true → lane.conn ≡ (lane_at t l.0).conn

conns_set : (lanes : List RecvLane) (l : ℕ) (lane : RecvLane) → lane.conn ≡ (lane_or_ended (slice_get lanes l)).conn → map conn_of (slice_set lanes l lane) ≡ map conn_of lanes
conns_set [] l lane same = refl
conns_set (x ∷ xs) zero lane same = ap (λ (c : ℕ). c ∷ map conn_of xs) same
conns_set (x ∷ xs) (suc l) lane same = ap (λ (cs : List ℕ). x.conn ∷ cs) (conns_set xs l lane same)

pub legal_put : (t : PlainReceiver) (l : Lane) (lane : RecvLane) → Told t l lane → IsLegal (terms_of t) t.history → IsLegal (terms_of (with_lane t l.0 lane)) t.history
legal_put t l lane told legal = subst (λ (n : ℕ). IsLegal record { lanes = n; opening = t.opening; known = t.known; conns = map conn_of (slice_set t.lanes l.0 lane) } t.history) (sym (length-set t.lanes l.0 lane)) (go (end_of t.history).has_fault refl)
  where
    go : (b : Bool) → (end_of t.history).has_fault ≡ b → IsLegal record { lanes = length t.lanes; opening = t.opening; known = t.known; conns = map conn_of (slice_set t.lanes l.0 lane) } t.history
    go false calm = legal_terms (terms_of t) t.known (map conn_of (slice_set t.lanes l.0 lane)) t.history calm legal
    go true fault = subst (λ (cs : List ℕ). IsLegal record { lanes = length t.lanes; opening = t.opening; known = t.known; conns = cs } t.history) (sym (conns_set t.lanes l.0 lane (told fault))) legal

-- the number that was read on a lane is the one that the lane has
pub conn_is : (lanes : List RecvLane) (l : ℕ) → number_or_none (slice_get (map conn_of lanes) l) ≡ (lane_or_ended (slice_get lanes l)).conn
conn_is [] l = refl
conn_is (x ∷ xs) zero = refl
conn_is (x ∷ xs) (suc l) = conn_is xs l
