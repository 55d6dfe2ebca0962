-- Where the finish has come, the totals that the receiver read first are those of the sender's tree.
use Rattle.std.proofs.Common.{◌≡◌, ℕ, Bool, true, false, List, [], ◌∷◌, ◌++◌, Option, Some, None, subst, sym, ap, ◌∙◌, refl, append_assoc, append-nil}
use Rattle.std.proofs.lemmas.Bool.{both_ways}
use Rattle.wdt_receiver_fsm.specs.declared.events.RecvEvent.{RecvEvent}
use Rattle.wdt_receiver_fsm.specs.declared.events.RecvEvent.TheVariants as events
use Rattle.wdt_receiver_fsm.specs.Legal.{IsAllowed, IsLegal, Terms, legal_from}
use Rattle.wdt_receiver_fsm.specs.PlainReceiver.{PlainReceiver, has_finish}
use Rattle.wdt_receiver_fsm.specs.Receiver.{IsReceiver, terms_of}
use Rattle.wdt_receiver_fsm.specs.ReceiverHistory.{EndPast, end_after, end_of, end_of-append, end_of-none, first_of}
use Rattle.wdt_pact.specs.Meeting.{Meeting, totals_of}
use Rattle.wdt_pact.specs.World.{PlainWorld}

-- ---- totals stay, and a finish needs them

-- totals were read
abbrev Told : EndPast → Type 0
Told n = (x : ℕ × ℕ) × (n.sized ≡ Some x)

stays : (n : EndPast) (e : RecvEvent) → Told n → Told (end_after n e)
stays n (events.Sized l files bytes) x = (x.0, ap (λ (o : Option (ℕ × ℕ)). first_of o (files, bytes)) x.1)
stays n e x = x

-- an entry that is allowed leaves no finish without totals
allowed_told : (t : Terms) (g : List RecvEvent) (e : RecvEvent) → IsAllowed t g e → ((end_of g).has_finish ≡ true → Told (end_of g)) → (end_after (end_of g) e).has_finish ≡ true → Told (end_after (end_of g) e)
allowed_told t g events.Finish a before come = (_, a.fits.whole)
allowed_told t g e a before come = stays (end_of g) e (before come)

legal_told : (t : Terms) (g es : List RecvEvent) → legal_from t g es → ((end_of g).has_finish ≡ true → Told (end_of g)) → (end_of (g ++ es)).has_finish ≡ true → Told (end_of (g ++ es))
legal_told t g [] legal before come = subst (λ (x : List RecvEvent). Told (end_of x)) (sym (append-nil g)) (before (ap (λ (x : List RecvEvent). (end_of x).has_finish) (sym (append-nil g)) ∙ come))
legal_told t g (e ∷ es) legal before come =
    subst (λ (x : List RecvEvent). Told (end_of x)) (append_assoc g (e ∷ []) es)
    (legal_told t (g ++ e ∷ []) es legal.1
    (λ c. subst Told (sym (end_of-append g (e ∷ []))) (allowed_told t g e legal.0 before (ap (λ (n : EndPast). n.has_finish) (sym (end_of-append g (e ∷ []))) ∙ c)))
    (ap (λ (x : List RecvEvent). (end_of x).has_finish) (append_assoc g (e ∷ []) es) ∙ come))

finish_told : (t : Terms) (g : List RecvEvent) → IsLegal t g → (end_of g).has_finish ≡ true → Told (end_of g)
unfolding IsLegal
finish_told t g legal come = legal_told t [] g legal (λ c. absurd (both_ways (end_of []).has_finish (ap (λ (n : EndPast). n.has_finish) end_of-none) c)) come

-- ---- in a world whose ends have met

pub finish_of_tree : (w : PlainWorld) → IsReceiver w.receiver → Meeting w → has_finish w.receiver ≡ true → (end_of w.receiver.history).sized ≡ Some (totals_of w.sender.manifest)
finish_of_tree w r m come = let x = finish_told (terms_of w.receiver) w.receiver.history r.legal come in x.1 ∙ ap (λ (y : ℕ × ℕ). Some y) (m.sized x.0 x.1)
