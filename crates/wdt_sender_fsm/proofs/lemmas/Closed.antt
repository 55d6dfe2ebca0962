-- A closed lane stays closed, with the count that closed it.
use Rattle.std.proofs.Common.{◌≡◌, ℕ, List, [], ◌∷◌, ◌++◌, Option, Some, None, ap, ◌∙◌}
use Rattle.wdt_claims.specs.LaneWords.{Claims, claimed, sent, cut_to}
use Rattle.wdt_sender_fsm.specs.declared.events.SendEvent.{SendEvent}
use Rattle.wdt_sender_fsm.specs.declared.events.SendEvent.TheVariants.{Greet, Claim, Sent, Global, Finish}
use Rattle.wdt_sender_fsm.specs.SenderHistory.{past_of, past_of-more, close_by, claims_after}
use Rattle.wdt_sender_fsm.proofs.lemmas.Histories.{if_same}

abbrev IsClosed : ℕ → Claims → Type 0
IsClosed m s = s.closed ≡ Some m

close_again : (m n : ℕ) (o : Option ℕ) (s : Claims) → o ≡ Some m → IsClosed m s → IsClosed m (close_by o n s)
close_again m n None s is closed = cc
close_again m n (Some k) s is closed = closed

claims_closed : (m l : ℕ) (s : Claims) (e : SendEvent) → IsClosed m s → IsClosed m (claims_after l s e)
claims_closed m l s (Greet k n) is = if_same (IsClosed m) k.0 l (cut_to n 0 s) s (λ e. is) is
claims_closed m l s (Claim k b) is = if_same (IsClosed m) k.0 l (claimed b s) s (λ e. is) is
claims_closed m l s (Sent k) is = if_same (IsClosed m) k.0 l (sent s) s (λ e. is) is
claims_closed m l s (Global k c n) is = if_same (IsClosed m) c.0 l (close_by s.closed n s) s (λ e. close_again m n s.closed s is is) is
claims_closed m l s (Finish k) is = is
claims_closed m l s _ is = is

pub stays_closed : (h : List SendEvent) (e : SendEvent) (l m : ℕ) → (past_of h l).claims.closed ≡ Some m → (past_of (h ++ e ∷ []) l).claims.closed ≡ Some m
stays_closed h e l m is = ap (λ p. p.claims.closed) (past_of-more h e l) ∙ claims_closed m l (past_of h l).claims e is
