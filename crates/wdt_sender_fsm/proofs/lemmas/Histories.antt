-- Induction over legal histories, and what they say of a lane.
use Rattle.std.proofs.Common.{◌≡◌, ◌⊎◌, ◌≢◌, ℕ, ◌+◌, ◌<◌, ◌≤◌, ◌==◌, List, [], ◌∷◌, ◌++◌, length, take, Bool, true, false, if◌then◌else◌, Option, Some, None, subst, sym, ◌∙◌, arith, refl, inl, inr, append_assoc, append-nil, eq-eqb}
use Rattle.std.proofs.lemmas.Bool.{cases_eq, ne_eqb}
use Rattle.std.proofs.lemmas.List.{length-take-le, length-append}
use Rattle.std.proofs.lemmas.Option.{same_Some}
use Rattle.wdt_claims.specs.LaneWords.{Claims, claimed, sent, cut_to, closed_at, finished}
use Rattle.wdt_units.specs.declared.blocks.Block.{Block}
use Rattle.wdt_sender_fsm.specs.declared.events.SendEvent.{SendEvent}
use Rattle.wdt_sender_fsm.specs.declared.events.SendEvent.TheVariants.{Linked, NoLink, Lost, Greet, Chunks, Claim, Sent, Done, Global, Finish, Acked, Quit, Abort, Peer}
use Rattle.wdt_sender_fsm.specs.Legal.{IsAllowed, IsLegal, IsSound, legal_from}
use Rattle.wdt_sender_fsm.proofs.lemmas.Tellings.{TellsBy, tells_at, within}
use Rattle.wdt_sender_fsm.specs.SenderHistory.{past_of, past_of-more, past_of-none, close_by, claims_after, connections_after, failed_tries_after, has_quit_after, is_acked_after, has_finish_after}

-- ---- induction

kept_from : (n : ℕ) (planned : List Block) (Has : List SendEvent → Type 0) → ((b : List SendEvent) (e : SendEvent) → Has b → IsAllowed n planned b e → Has (b ++ e ∷ [])) → (b h : List SendEvent) → Has b → legal_from n planned b h → Has (b ++ h)
kept_from n planned Has step b [] has legal = subst Has (sym (append-nil b)) has
kept_from n planned Has step b (e ∷ es) has legal = subst Has (append_assoc b (e ∷ []) es) (kept_from n planned Has step (b ++ e ∷ []) es (step b e has legal.0) legal.1)

-- what stands behind the first entries of a legal history is legal behind them
behind : (n : ℕ) (planned : List Block) (b h es : List SendEvent) → legal_from n planned b (h ++ es) → legal_from n planned (b ++ h) es
behind n planned b [] es legal = subst (λ (x : List SendEvent). legal_from n planned x es) (sym (append-nil b)) legal
behind n planned b (e ∷ h) es legal = subst (λ (x : List SendEvent). legal_from n planned x es) (append_assoc b (e ∷ []) h) (behind n planned (b ++ e ∷ []) h es legal.1)

-- what each entry that is allowed keeps is kept by the later entries of a legal history
pub kept_on : (n : ℕ) (planned : List Block) (Has : List SendEvent → Type 0) → ((b : List SendEvent) (e : SendEvent) → Has b → IsAllowed n planned b e → Has (b ++ e ∷ [])) → (h es : List SendEvent) → Has h → IsLegal n planned (h ++ es) → Has (h ++ es)
unfolding IsLegal
kept_on n planned Has step h es has legal = kept_from n planned Has step h es has (behind n planned [] h es legal)

-- what holds at first, and is kept by each entry that is allowed, holds of a legal history
pub of_legal : (n : ℕ) (planned : List Block) (Has : List SendEvent → Type 0) → Has [] → ((b : List SendEvent) (e : SendEvent) → Has b → IsAllowed n planned b e → Has (b ++ e ∷ [])) → (h : List SendEvent) → IsLegal n planned h → Has h
unfolding IsLegal
of_legal n planned Has none step h legal = kept_from n planned Has step [] h none legal

-- ---- an entry of this lane, or of another

-- what holds of both holds of the one that is chosen
pub if_same : {X : Type 0} (P : X → Type 0) (k l : ℕ) (x y : X) → (k ≡ l → P x) → P y → P (if k == l then x else y)
if_same {X} P k l x y f g = go (cases_eq k l) where
  go : (k ≡ l) ⊎ (k ≢ l) → P (if k == l then x else y)
  go (inl e) = rw (eq-eqb k l e) (f e)
  go (inr ne) = rw (ne_eqb k l ne) g

-- ---- what a lane has claimed

record IsSoundClaims (s : Claims) : Type 0 where
  pub sure : s.sure ≤ length s.kept
  pub held : s.held ≡ true → s.sure < length s.kept
  pub closed : (n : ℕ) → s.closed ≡ Some n → (n ≡ s.sure) × (n ≡ length s.kept)

pub false_true : {X : Type 0} → false ≡ true → X
false_true e = cc

not_closed : {X : Type 0} (o : Option ℕ) (n : ℕ) → o ≡ None → o ≡ Some n → X
not_closed o n e f = cc

cut_sound : (s : Claims) (n : ℕ) → s.closed ≡ None → n ≤ length s.kept → IsSoundClaims (cut_to n 0 s)
cut_sound s n open_is within =
    let long : length (take n s.kept) ≡ n = length-take-le n s.kept within in
    record { sure = omega (arith, long); held = λ h. false_true h; closed = λ m c. not_closed s.closed m open_is c }

claimed_sound : (s : Claims) (b : Block) → s.closed ≡ None → IsSoundClaims s → IsSoundClaims (claimed b s)
claimed_sound s b open_is sound =
    let long : length (s.kept ++ b ∷ []) ≡ length s.kept + 1 = length-append s.kept (b ∷ []) in
    record { sure = omega (arith, long, sound.sure); held = λ h. omega (arith, long, sound.sure); closed = λ m c. not_closed s.closed m open_is c }

closed_sound : (s : Claims) (n : ℕ) → n ≤ length s.kept → IsSoundClaims (closed_at n 0 s)
closed_sound s n within =
    let long : length (take n s.kept) ≡ n = length-take-le n s.kept within in
    record { sure = omega (arith, long); held = λ h. false_true h; closed = λ m c. (sym (same_Some n m c), sym (same_Some n m c) ∙ sym long) }

close_sound : (o : Option ℕ) (s : Claims) (n : ℕ) → TellsBy o s n → IsSoundClaims s → IsSoundClaims (close_by o n s)
close_sound None s n tells sound = closed_sound s n tells.1
close_sound (Some m) s n tells sound = sound

finished_sound : (s : Claims) → IsSoundClaims s → IsSoundClaims (finished s)
finished_sound s sound = record { sure = omega arith; held = λ h. false_true h; closed = λ m c. ((sound.closed m c).1, (sound.closed m c).1) }

sent_sound : (s : Claims) → IsSoundClaims s → IsSoundClaims (sent s)
sent_sound s sound = record { sure = sound.sure; held = λ h. false_true h; closed = sound.closed }

abbrev ClaimsAfter : ℕ → List SendEvent → SendEvent → Type 0
ClaimsAfter l b e = IsSoundClaims (claims_after l (past_of b l).claims e)

claims_sound : (n : ℕ) (planned : List Block) (b : List SendEvent) (e : SendEvent) (l : ℕ) → IsSoundClaims (past_of b l).claims → IsAllowed n planned b e → ClaimsAfter l b e
claims_sound n planned b (Greet k c) l sound is =
    let s = (past_of b l).claims in
    if_same IsSoundClaims k.0 l (cut_to c 0 s) s (λ e. subst (λ (j : ℕ). IsSoundClaims (cut_to c 0 (past_of b j).claims)) e (cut_sound (past_of b k.0).claims c is.0.is_open (within (past_of b k.0).claims c is.0.is_open is.1).1)) sound
claims_sound n planned b (Claim k x) l sound is =
    let s = (past_of b l).claims in
    if_same IsSoundClaims k.0 l (claimed x s) s (λ e. claimed_sound s x (subst (λ (j : ℕ). (past_of b j).claims.closed ≡ None) e is.0.is_open) sound) sound
claims_sound n planned b (Sent k) l sound is =
    let s = (past_of b l).claims in if_same IsSoundClaims k.0 l (sent s) s (λ e. sent_sound s sound) sound
claims_sound n planned b (Global k c m) l sound is =
    let s = (past_of b l).claims in
    if_same IsSoundClaims c.0 l (close_by s.closed m s) s (λ e. close_sound s.closed s m (tells_at b c.0 l m e is.1.2) sound) sound
claims_sound n planned b (Finish k) l sound is = finished_sound (past_of b l).claims sound
claims_sound n planned b (Linked k c) l sound is = sound
claims_sound n planned b (NoLink k) l sound is = sound
claims_sound n planned b (Lost k) l sound is = sound
claims_sound n planned b (Chunks k) l sound is = sound
claims_sound n planned b (Done k) l sound is = sound
claims_sound n planned b (Acked k) l sound is = sound
claims_sound n planned b (Quit k) l sound is = sound
claims_sound n planned b (Abort k c) l sound is = sound
claims_sound n planned b (Peer k c) l sound is = sound

-- ---- its connections

abbrev Few : ℕ → Type 0
Few n = n ≤ 8

connections_few : (n : ℕ) (planned : List Block) (b : List SendEvent) (e : SendEvent) (l : ℕ) → Few (past_of b l).connections → IsAllowed n planned b e → Few (connections_after l (past_of b l).connections e)
connections_few n planned b (Linked k c) l few is =
    if_same Few k.0 l ((past_of b l).connections + 1) (past_of b l).connections
    (λ e. subst (λ (j : ℕ). (past_of b j).connections + 1 ≤ 8) e (subst Few is.1.0 is.1.1)) few
connections_few n planned b _ l few is = few

tries_few : (n : ℕ) (planned : List Block) (b : List SendEvent) (e : SendEvent) (l : ℕ) → Few (past_of b l).failed_tries → IsAllowed n planned b e → Few (failed_tries_after l (past_of b l).failed_tries e)
tries_few n planned b (NoLink k) l few is =
    if_same Few k.0 l ((past_of b l).failed_tries + 1) (past_of b l).failed_tries
    (λ e. subst (λ (j : ℕ). (past_of b j).failed_tries + 1 ≤ 8) e (omega (arith, is.1))) few
tries_few n planned b _ l few is = few

-- ---- how it ended

quit_sound : (n : ℕ) (planned : List Block) (b : List SendEvent) (e : SendEvent) (l : ℕ) → IsSound (past_of b l) → IsAllowed n planned b e
    → has_quit_after l (past_of b l).has_quit e ≡ true → (8 ≤ connections_after l (past_of b l).connections e) ⊎ (8 ≤ failed_tries_after l (past_of b l).failed_tries e)
quit_sound n planned b (Quit k) l sound is =
    let p = past_of b l in
    if_same (λ (x : Bool). x ≡ true → (8 ≤ p.connections) ⊎ (8 ≤ p.failed_tries)) k.0 l true p.has_quit
    (λ e x. subst (λ (j : ℕ). (8 ≤ (past_of b j).connections) ⊎ (8 ≤ (past_of b j).failed_tries)) e is.1) sound.quit
quit_sound n planned b (Linked k c) l sound is = λ q. more (sound.quit q) where
  more : (8 ≤ (past_of b l).connections) ⊎ (8 ≤ (past_of b l).failed_tries) → (8 ≤ connections_after l (past_of b l).connections (Linked k c)) ⊎ (8 ≤ (past_of b l).failed_tries)
  more (inl x) = inl (if_same (λ (m : ℕ). 8 ≤ m) k.0 l ((past_of b l).connections + 1) (past_of b l).connections (λ e. omega (arith, x)) x)
  more (inr x) = inr x
quit_sound n planned b (NoLink k) l sound is = λ q. more (sound.quit q) where
  more : (8 ≤ (past_of b l).connections) ⊎ (8 ≤ (past_of b l).failed_tries) → (8 ≤ (past_of b l).connections) ⊎ (8 ≤ failed_tries_after l (past_of b l).failed_tries (NoLink k))
  more (inl x) = inl x
  more (inr x) = inr (if_same (λ (m : ℕ). 8 ≤ m) k.0 l ((past_of b l).failed_tries + 1) (past_of b l).failed_tries (λ e. omega (arith, x)) x)
quit_sound n planned b e l sound is = sound.quit

acked_sound : (n : ℕ) (planned : List Block) (b : List SendEvent) (e : SendEvent) (l : ℕ) → IsSound (past_of b l) → IsAllowed n planned b e → is_acked_after l (past_of b l).is_acked e ≡ true → has_finish_after l (past_of b l).has_finish e ≡ true
acked_sound n planned b (Acked k) l sound is =
    let p = past_of b l in
    if_same (λ (x : Bool). x ≡ true → p.has_finish ≡ true) k.0 l true p.is_acked (λ e x. subst (λ (j : ℕ). (past_of b j).has_finish ≡ true) e is.1.1) sound.acked
acked_sound n planned b (Linked k c) l sound is =
    let p = past_of b l in
    if_same (λ (x : Bool). p.is_acked ≡ true → x ≡ true) k.0 l false p.has_finish
    (λ e a. false_true (sym (subst (λ (j : ℕ). (past_of b j).is_acked ≡ false) e is.0.acked) ∙ a)) sound.acked
acked_sound n planned b (Finish k) l sound is =
    let p = past_of b l in if_same (λ (x : Bool). p.is_acked ≡ true → x ≡ true) k.0 l true p.has_finish (λ e a. refl) sound.acked
acked_sound n planned b e l sound is = sound.acked

-- ---- all of it

none_sound : (l : ℕ) → IsSound (past_of [] l)
none_sound l = subst IsSound (sym (past_of-none l)) record {
  sure = omega arith;
  held = λ h. false_true h;
  closed = λ n c. not_closed None n refl c;
  connections = omega arith;
  failed_tries = omega arith;
  quit = λ q. false_true q;
  acked = λ a. false_true a;
}

step_sound : (n : ℕ) (planned : List Block) (b : List SendEvent) (e : SendEvent) → ((l : ℕ) → IsSound (past_of b l)) → IsAllowed n planned b e → (l : ℕ) → IsSound (past_of (b ++ e ∷ []) l)
step_sound n planned b e sound is l =
    let old = sound l in
    let new = claims_sound n planned b e l record { sure = old.sure; held = old.held; closed = old.closed } is in
    subst IsSound (sym (past_of-more b e l)) record {
      sure = new.sure;
      held = new.held;
      closed = new.closed;
      connections = connections_few n planned b e l old.connections is;
      failed_tries = tries_few n planned b e l old.failed_tries is;
      quit = quit_sound n planned b e l old is;
      acked = acked_sound n planned b e l old is;
    }

pub legal_sound : (n : ℕ) (planned : List Block) (h : List SendEvent) (l : ℕ) → IsLegal n planned h → IsSound (past_of h l)
legal_sound n planned h l legal = of_legal n planned (λ b. (k : ℕ) → IsSound (past_of b k)) none_sound (step_sound n planned) h legal l
