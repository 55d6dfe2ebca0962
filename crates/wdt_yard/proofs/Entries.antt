-- What one more entry makes of the claims, the tallies and the finish.
use Rattle.std.proofs.Common.{◌≡◌, ◌≢◌, ℕ, ◌<◌, ◌==◌, Bool, true, List, [], ◌∷◌, ◌++◌, get_or, set, if◌then◌else◌, refl, sym, ap, ◌∙◌}
use Rattle.wdt_claims.specs.LaneWords.{Claims}
use Rattle.wdt_claims.specs.Claimed.{lane_at, with_lane}
use Rattle.wdt_sender_fsm.specs.declared.events.SendEvent.{SendEvent}
use Rattle.wdt_sender_fsm.specs.declared.events.SendEvent.TheVariants as events
use Rattle.wdt_sender_fsm.specs.Places.{claims_of}
use Rattle.wdt_sender_fsm.proofs.Shared.{claims_at, claims_one, tabulate_at, tabulate_same, tabulate_set}
use Rattle.wdt_sender_fsm.specs.SenderHistory.{LanePast, past_of, past_of-more, end_of, end_of-more, claims_after, end_finish_after, past_after, EndPast}
use Rattle.wdt_yard.specs.declared.tally.Tally.{Tally}
use Rattle.wdt_yard.specs.Ledger.{is_quiet}
use Rattle.wdt_yard.specs.Tallies.{tally_of, tallies_of}

pub tally_at : (n : ℕ) (h : List SendEvent) (l : ℕ) (d : Tally) → l < n → get_or (tallies_of n h) l d ≡ tally_of (past_of h l)
tally_at n h l d lt = tabulate_at n (λ k. tally_of (past_of h k)) l d lt

-- ---- entries that leave the claims alone

pub claims_same : (n : ℕ) (h : List SendEvent) (e : SendEvent) → ((l : ℕ) (s : Claims) → claims_after l s e ≡ s) → claims_of n (h ++ e ∷ []) ≡ claims_of n h
claims_same n h e stay =
    tabulate_same n (λ k. (past_of h k).claims) (λ k. (past_of (h ++ e ∷ []) k).claims) (λ k lt. ap (λ (p : LanePast). p.claims) (past_of-more h e k) ∙ stay k (past_of h k).claims)

pub tallies_same : (n : ℕ) (h : List SendEvent) (e : SendEvent) → ((l : ℕ) (p : LanePast) → tally_of (past_after l p e) ≡ tally_of p) → tallies_of n (h ++ e ∷ []) ≡ tallies_of n h
tallies_same n h e stay =
    tabulate_same n (λ k. tally_of (past_of h k)) (λ k. tally_of (past_of (h ++ e ∷ []) k)) (λ k lt. ap tally_of (past_of-more h e k) ∙ stay k (past_of h k))

pub finish_same : (h : List SendEvent) (e : SendEvent) → ((b : Bool) → end_finish_after b e ≡ b) → (end_of (h ++ e ∷ [])).has_finish ≡ (end_of h).has_finish
finish_same h e stay = ap (λ (p : EndPast). p.has_finish) (end_of-more h e) ∙ stay (end_of h).has_finish

-- ---- entries of one lane

-- the claims of one lane change
pub claims_set : (n : ℕ) (h : List SendEvent) (e : SendEvent) (l : ℕ) (change : Claims → Claims) → l < n → ((k : ℕ) (s : Claims) → claims_after k s e ≡ (if l == k then change s else s))
    → claims_of n (h ++ e ∷ []) ≡ with_lane (claims_of n h) l (change (lane_at (claims_of n h) l))
claims_set n h e l change lt does =
    claims_one n h e l change lt does ∙ ap (λ (s : Claims). with_lane (claims_of n h) l (change s)) (sym (claims_at n h l lt))

-- the tally of one lane changes
pub tallies_set : (n : ℕ) (h : List SendEvent) (e : SendEvent) (l : ℕ) (y : Tally) → l < n → y ≡ tally_of (past_after l (past_of h l) e) → ((k : ℕ) (p : LanePast) → k ≢ l → tally_of (past_after k p e) ≡ tally_of p)
    → tallies_of n (h ++ e ∷ []) ≡ set (tallies_of n h) l y
tallies_set n h e l y lt here others =
    tabulate_set n l (λ k. tally_of (past_of h k)) (λ k. tally_of (past_of (h ++ e ∷ []) k)) lt
    (λ k o. ap tally_of (past_of-more h e k) ∙ others k (past_of h k) o)
    ∙ ap (λ (x : Tally). set (tallies_of n h) l x) (ap tally_of (past_of-more h e l) ∙ sym here)

-- ---- the quiet entries

pub quiet_claims : (e : SendEvent) → is_quiet e ≡ true → (l : ℕ) (s : Claims) → claims_after l s e ≡ s
quiet_claims (events.Linked k c) q l s = cc
quiet_claims (events.NoLink k) q l s = cc
quiet_claims (events.Lost k) q l s = refl
quiet_claims (events.Greet k c) q l s = cc
quiet_claims (events.Chunks k) q l s = refl
quiet_claims (events.Claim k b) q l s = cc
quiet_claims (events.Sent k) q l s = cc
quiet_claims (events.Done k) q l s = refl
quiet_claims (events.Global k c n) q l s = cc
quiet_claims (events.Finish k) q l s = cc
quiet_claims (events.Acked k) q l s = cc
quiet_claims (events.Quit k) q l s = refl
quiet_claims (events.Abort k c) q l s = refl
quiet_claims (events.Peer k c) q l s = refl

pub quiet_tally : (e : SendEvent) → is_quiet e ≡ true → (l : ℕ) (p : LanePast) → tally_of (past_after l p e) ≡ tally_of p
quiet_tally (events.Linked k c) q l p = cc
quiet_tally (events.NoLink k) q l p = cc
quiet_tally (events.Lost k) q l p = refl
quiet_tally (events.Greet k c) q l p = refl
quiet_tally (events.Chunks k) q l p = refl
quiet_tally (events.Claim k b) q l p = refl
quiet_tally (events.Sent k) q l p = refl
quiet_tally (events.Done k) q l p = refl
quiet_tally (events.Global k c n) q l p = refl
quiet_tally (events.Finish k) q l p = refl
quiet_tally (events.Acked k) q l p = cc
quiet_tally (events.Quit k) q l p = refl
quiet_tally (events.Abort k c) q l p = refl
quiet_tally (events.Peer k c) q l p = refl

pub quiet_finish : (e : SendEvent) → is_quiet e ≡ true → (b : Bool) → end_finish_after b e ≡ b
quiet_finish (events.Linked k c) q b = refl
quiet_finish (events.NoLink k) q b = refl
quiet_finish (events.Lost k) q b = refl
quiet_finish (events.Greet k c) q b = refl
quiet_finish (events.Chunks k) q b = refl
quiet_finish (events.Claim k s) q b = refl
quiet_finish (events.Sent k) q b = refl
quiet_finish (events.Done k) q b = refl
quiet_finish (events.Global k c n) q b = refl
quiet_finish (events.Finish k) q b = cc
quiet_finish (events.Acked k) q b = refl
quiet_finish (events.Quit k) q b = refl
quiet_finish (events.Abort k c) q b = refl
quiet_finish (events.Peer k c) q b = refl
