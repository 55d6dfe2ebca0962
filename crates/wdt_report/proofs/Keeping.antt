-- What the code keeps of a lane is that of what the lane has claimed.
use Rattle.std.proofs.Common.{◌≡◌, ℕ, ◌+◌, ◌<◌, ◌==◌, Bool, true, false, List, length, get_or, take, is_some, Option, Some, None, if◌then◌else◌, refl, sym, ap, ◌∙◌}
use Rattle.std.proofs.lemmas.List.{take_more}
use Rattle.wdt_claims.specs.LaneWords.{Claims, claimed, cut_to, sent}
use Rattle.wdt_sender_fsm.specs.SenderHistory.{claims_after, close_by, past_of, past_of-more}
use Rattle.wdt_sender_fsm.specs.declared.events.SendEvent.{SendEvent}
use Rattle.wdt_sender_fsm.specs.declared.events.SendEvent.TheVariants.{Linked, NoLink, Lost, Greet, Chunks, Claim, Sent, Done, Global, Finish, Acked, Quit, Abort, Peer}
use Rattle.wdt_report.specs.Kept.{KeptView, close_kept, kept_after, kept_of}

kept_if : (b : Bool) (s t : Claims) → (if b then kept_of t else kept_of s) ≡ kept_of (if b then t else s)
kept_if true s t = refl
kept_if false s t = refl

same_if : (b : Bool) (s t : Claims) → kept_of t ≡ kept_of s → kept_of s ≡ kept_of (if b then t else s)
same_if true s t same = sym same
same_if false s t same = refl

closes : (o : Option ℕ) (n : ℕ) (s : Claims) → close_kept (is_some o) n (kept_of s) ≡ kept_of (close_by o n s)
closes None n s = refl
closes (Some m) n s = refl

-- an entry does to what is kept what it does to the claims
kept_step : (l : ℕ) (s : Claims) (e : SendEvent) → kept_after l (kept_of s) e ≡ kept_of (claims_after l s e)
kept_step l s (Claim of b) = kept_if (of.0 == l) s (claimed b s)
kept_step l s (Greet of n) = kept_if (of.0 == l) s (cut_to n 0 s)
kept_step l s (Global by of n) =
    ap (λ k. if of.0 == l then k else kept_of s) (closes s.closed n s) ∙ kept_if (of.0 == l) s (close_by s.closed n s)
kept_step l s (Sent of) = same_if (of.0 == l) s (sent s) refl
kept_step l s (Finish of) = refl
kept_step l s (Linked of c) = refl
kept_step l s (NoLink of) = refl
kept_step l s (Lost of) = refl
kept_step l s (Chunks of) = refl
kept_step l s (Done of) = refl
kept_step l s (Acked of) = refl
kept_step l s (Quit of) = refl
kept_step l s (Abort of code) = refl
kept_step l s (Peer of kind) = refl

-- so does the next entry of a history
kept_next : (h : List SendEvent) (k : ℕ) (d : SendEvent) (l : ℕ) → k < length h
    → kept_after l (kept_of (past_of (take k h) l).claims) (get_or h k d) ≡ kept_of (past_of (take (k + 1) h) l).claims
kept_next h k d l lt =
    kept_step l (past_of (take k h) l).claims (get_or h k d)
    ∙ sym (ap (λ (g : List SendEvent). kept_of (past_of g l).claims) (take_more h k d lt)
    ∙ ap (λ p. kept_of p.claims) (past_of-more (take k h) (get_or h k d) l))

-- the same, by what a note of the entry at k leaves
pub kept_followed : (h : List SendEvent) (k : ℕ) (d : SendEvent) (l : ℕ) (kept more : KeptView) → k < length h → more ≡ kept_after l kept (get_or h k d)
    → kept ≡ kept_of (past_of (take k h) l).claims → more ≡ kept_of (past_of (take (k + 1) h) l).claims
kept_followed h k d l kept more lt step so = step ∙ (ap (λ (v : KeptView). kept_after l v (get_or h k d)) so ∙ kept_next h k d l lt)
