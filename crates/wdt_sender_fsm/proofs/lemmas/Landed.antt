-- Once a lane read the receiver's last word, each block of the plan has surely landed.
use Rattle.std.proofs.Common.{◌≡◌, ℕ, zero, suc, ◌<◌, ◌||◌, not, List, [], ◌∷◌, ◌++◌, length, take, filter, Bool, true, false, cond, Option, Some, None, subst, sym, ap, ◌∙◌, arith, refl}
use Rattle.std.specs.List.{list_any}
use Rattle.std.proofs.Math.Seq.{take-length}
use Rattle.std.proofs.lemmas.Bool.{or_left, or_right}
use Rattle.wdt_claims.specs.Blocks.{is_same}
use Rattle.wdt_claims.specs.LaneWords.{Claims, sent, cut_to, closed_at}
use Rattle.wdt_units.specs.declared.blocks.Block.{Block}
use Rattle.wdt_claims.proofs.Shared.{one_block}
use Rattle.wdt_claims.specs.Places.{is_among, keeps, confirms, is_queued, place_of}
use Rattle.wdt_claims.specs.declared.place.Place.TheVariants.{Confirmed}
use Rattle.wdt_sender_fsm.specs.declared.events.SendEvent.{SendEvent}
use Rattle.wdt_sender_fsm.specs.declared.events.SendEvent.TheVariants.{Linked, NoLink, Lost, Greet, Chunks, Claim, Sent, Done, Global, Finish, Acked, Quit, Abort, Peer}
use Rattle.wdt_sender_fsm.specs.Legal.{IsAllowed, IsLegal, HasLanded}
use Rattle.wdt_sender_fsm.specs.Places.{tabulate, claims_of, planned_now-is, queue_of, queued, least_of}
use Rattle.wdt_sender_fsm.specs.SenderHistory.{past_of, past_of-more, past_of-none, has_finish_after, end_of, end_of-more, end_of-none, close_by, claims_after}
use Rattle.wdt_sender_fsm.proofs.lemmas.Claimed.{at_more}
use Rattle.wdt_sender_fsm.proofs.lemmas.Confirmed.{any_last, confirmed_by}
use Rattle.wdt_sender_fsm.proofs.lemmas.Histories.{false_true, of_legal, if_same, legal_sound}
use Rattle.wdt_sender_fsm.proofs.lemmas.Placed.{not_not}
use Rattle.wdt_sender_fsm.proofs.lemmas.Tellings.{IsWithin, TellsBy, tells_at, within}

-- ---- the queue hangs on the lists alone

pub any_kept : (b : Block) (n : ℕ) (f g : ℕ → Claims) → ((l : ℕ) → l < n → (g l).kept ≡ (f l).kept) → list_any (keeps b) (tabulate n g) ≡ list_any (keeps b) (tabulate n f)
any_kept b zero f g same = refl
any_kept b (suc n) f g same =
    let before = any_kept b n f g (λ l lt. same l (omega (arith, lt))) in
    let here : keeps b (g n) ≡ keeps b (f n) = ap (λ xs. is_among xs b) (same n (omega arith)) in
    any_last (keeps b) (tabulate n g) (g n) ∙ (ap (λ x. x || keeps b (g n)) before ∙ (ap (λ x. list_any (keeps b) (tabulate n f) || x) here ∙ sym (any_last (keeps b) (tabulate n f) (f n))))

pub filter_same : (p q : Block → Bool) (xs : List Block) → ((x : Block) → p x ≡ q x) → filter p xs ≡ filter q xs
filter_same p q [] same = refl
filter_same p q (x ∷ xs) same = ap (λ c. cond c (x ∷ filter p xs) (filter p xs)) (same x) ∙ ap (λ ys. cond (q x) (x ∷ ys) ys) (filter_same p q xs same)

abbrev at : List SendEvent → ℕ → Claims
at h l = (past_of h l).claims

queued_same : (n : ℕ) (planned : List Block) (h k : List SendEvent) → ((l : ℕ) → l < n → (at k l).kept ≡ (at h l).kept) → queued n planned k ≡ queued n planned h
queued_same n planned h k same =
    ap (λ p. queue_of p (claims_of n k)) (planned_now-is planned k)
    ∙ (filter_same (is_queued (claims_of n k)) (is_queued (claims_of n h)) planned (λ b. ap not (any_kept b n (at h) (at k) same))
    ∙ ap (λ p. queue_of p (claims_of n h)) (sym (planned_now-is planned h)))

-- ---- one entry

-- the lane keeps what it kept, and all of it has surely landed
record Keeps (old new : Claims) : Type 0 where
  pub same : new.kept ≡ old.kept
  pub sure : new.sure ≡ length new.kept

cut_all : (s : Claims) (n : ℕ) → s.sure ≡ length s.kept → IsWithin s n → Keeps s (cut_to n 0 s)
cut_all s n sure inside =
    let all : n ≡ length s.kept = omega (arith, sure, inside.0, inside.1) in
    let same : take n s.kept ≡ s.kept = ap (λ m. take m s.kept) all ∙ take-length s.kept in
    record { same = same; sure = all ∙ ap length (sym same) }

closed_all : (s : Claims) (n : ℕ) → s.sure ≡ length s.kept → IsWithin s n → Keeps s (closed_at n 0 s)
closed_all s n sure inside = let c = cut_all s n sure inside in record { same = c.same; sure = c.sure }

close_all : (o : Option ℕ) (s : Claims) (n : ℕ) → s.sure ≡ length s.kept → TellsBy o s n → Keeps s (close_by o n s)
close_all None s n sure tells = closed_all s n sure tells
close_all (Some m) s n sure tells = record { same = refl; sure = sure }

some_first : {X : Type 0} (xs : List Block) (x : Block) → xs ≡ [] → least_of xs ≡ Some x → X
some_first [] x e f = cc
some_first (y ∷ ys) x e f = cc

claims_all : (n : ℕ) (planned : List Block) (h : List SendEvent) (e : SendEvent) (l : ℕ) → queued n planned h ≡ [] → (at h l).sure ≡ length (at h l).kept → IsAllowed n planned h e → Keeps (at h l) (claims_after l (at h l) e)
claims_all n planned h (Greet k c) l none sure allowed =
    if_same (Keeps (at h l)) k.0 l (cut_to c 0 (at h l)) (at h l) (λ e. cut_all (at h l) c sure (subst (λ (j : ℕ). IsWithin (at h j) c) e (within (at h k.0) c allowed.0.is_open allowed.1))) record { same = refl; sure = sure }
claims_all n planned h (Claim k x) l none sure allowed = some_first (queued n planned h) x none allowed.1.1
claims_all n planned h (Sent k) l none sure allowed = if_same (Keeps (at h l)) k.0 l (sent (at h l)) (at h l) (λ e. record { same = refl; sure = sure }) record { same = refl; sure = sure }
claims_all n planned h (Global k c m) l none sure allowed =
    if_same (Keeps (at h l)) c.0 l (close_by (at h l).closed m (at h l)) (at h l) (λ e. close_all (at h l).closed (at h l) m sure (tells_at h c.0 l m e allowed.1.2)) record { same = refl; sure = sure }
claims_all n planned h (Finish k) l none sure allowed = record { same = refl; sure = refl }
claims_all n planned h (Linked k c) l none sure allowed = record { same = refl; sure = sure }
claims_all n planned h (NoLink k) l none sure allowed = record { same = refl; sure = sure }
claims_all n planned h (Lost k) l none sure allowed = record { same = refl; sure = sure }
claims_all n planned h (Chunks k) l none sure allowed = record { same = refl; sure = sure }
claims_all n planned h (Done k) l none sure allowed = record { same = refl; sure = sure }
claims_all n planned h (Acked k) l none sure allowed = record { same = refl; sure = sure }
claims_all n planned h (Quit k) l none sure allowed = record { same = refl; sure = sure }
claims_all n planned h (Abort k c) l none sure allowed = record { same = refl; sure = sure }
claims_all n planned h (Peer k c) l none sure allowed = record { same = refl; sure = sure }

-- nothing waits, and all that lanes keep has surely landed
record Lies (n : ℕ) (planned : List Block) (h : List SendEvent) : Type 0 where
  pub none : queued n planned h ≡ []
  pub sure : (l : ℕ) → (at h l).sure ≡ length (at h l).kept

landed_with : (n : ℕ) (planned : List Block) (h : List SendEvent) (e : SendEvent) → queued n planned h ≡ [] → ((l : ℕ) → Keeps (at h l) (claims_after l (at h l) e)) → Lies n planned (h ++ e ∷ [])
landed_with n planned h e none keep = record {
  none = queued_same n planned h (h ++ e ∷ []) (λ l lt. ap (λ s. s.kept) (at_more h e l) ∙ (keep l).same) ∙ none;
  sure = λ l. subst (λ (s : Claims). s.sure ≡ length s.kept) (sym (at_more h e l)) (keep l).sure;
}

finish_landed : (n : ℕ) (planned : List Block) (h : List SendEvent) (e : SendEvent) → IsAllowed n planned h e → (end_of (h ++ e ∷ [])).has_finish ≡ true → ((end_of h).has_finish ≡ true → Lies n planned h) → Lies n planned (h ++ e ∷ [])
finish_landed n planned h (Finish k) allowed is before = landed_with n planned h (Finish k) allowed.1.1 (λ l. record { same = refl; sure = refl })
finish_landed n planned h e allowed is before =
    let old = before (sym (ap (λ x. x.has_finish) (end_of-more h e)) ∙ is) in
    landed_with n planned h e old.none (λ l. claims_all n planned h e l old.none (old.sure l) allowed)

abbrev Lands : ℕ → List Block → List SendEvent → Type 0
Lands n planned h = (end_of h).has_finish ≡ true → Lies n planned h

legal_lands : (n : ℕ) (planned : List Block) (h : List SendEvent) → IsLegal n planned h → Lands n planned h
legal_lands n planned h legal =
    of_legal n planned (Lands n planned) (λ is. false_true (sym (ap (λ x. x.has_finish) end_of-none) ∙ is))
    (λ b e before allowed is. finish_landed n planned b e allowed is before) h legal

-- ---- the law

cons_nil : {X : Type 0} (y : Block) (ys : List Block) → y ∷ ys ≡ [] → X
cons_nil y ys e = cc

-- where nothing passes a test, a block of the list doesn't
stopped : (p : Block → Bool) (xs : List Block) (b : Block) → filter p xs ≡ [] → is_among xs b ≡ true → p b ≡ false
stopped p [] b none among = false_true among
stopped p (x ∷ xs) b none among = go (p x) refl none (stopped p xs b) where
  here : (same : Bool) → is_same b x ≡ same → p x ≡ false → (is_among xs b ≡ true → p b ≡ false) → (same || is_among xs b) ≡ true → p b ≡ false
  here true e out f a = subst (λ (y : Block). p y ≡ false) (sym (one_block b x e)) out
  here false e out f a = f a

  go : (q : Bool) → p x ≡ q → cond q (x ∷ filter p xs) (filter p xs) ≡ [] → (filter p xs ≡ [] → is_among xs b ≡ true → p b ≡ false) → p b ≡ false
  go true e nil f = cons_nil x (filter p xs) nil
  go false e nil f = here (is_same b x) refl e (f nil) among

-- a block in a list whose blocks have all landed has
any_confirms : (b : Block) (n : ℕ) (f : ℕ → Claims) → ((l : ℕ) → (f l).sure ≡ length (f l).kept) → list_any (keeps b) (tabulate n f) ≡ true → list_any (confirms b) (tabulate n f) ≡ true
any_confirms b zero f sure some = some
any_confirms b (suc n) f sure some =
    any_last (confirms b) (tabulate n f) (f n) ∙ go (list_any (keeps b) (tabulate n f)) (any_confirms b n f sure) (keeps b (f n)) whole (sym (any_last (keeps b) (tabulate n f) (f n)) ∙ some) where
      whole : keeps b (f n) ≡ true → confirms b (f n) ≡ true
      whole is = ap (λ xs. is_among xs b) (ap (λ m. take m (f n).kept) (sure n) ∙ take-length (f n).kept) ∙ is

      go : (a : Bool) → (a ≡ true → list_any (confirms b) (tabulate n f) ≡ true) → (c : Bool) → (c ≡ true → confirms b (f n) ≡ true) → (a || c) ≡ true → (list_any (confirms b) (tabulate n f) || confirms b (f n)) ≡ true
      go true i c j e = or_left _ _ (i refl)
      go false i true j e = or_right _ _ (j refl)
      go false i false j e = false_true e

-- once a lane read the receiver's last word, each block of the plan is confirmed
pub all_confirmed : (n : ℕ) (planned : List Block) (h : List SendEvent) (b : Block) → IsLegal n planned h → (end_of h).has_finish ≡ true → is_among planned b ≡ true → place_of b (claims_of n h) ≡ Confirmed
all_confirmed n planned h b legal finished_is among =
    let landed = legal_lands n planned h legal finished_is in
    let none : queue_of planned (claims_of n h) ≡ [] = ap (λ p. queue_of p (claims_of n h)) (sym (planned_now-is planned h)) ∙ landed.none in
    let kept = not_not (list_any (keeps b) (claims_of n h)) (stopped (is_queued (claims_of n h)) planned b none among) in
    confirmed_by (claims_of n h) b (any_confirms b n (at h) landed.sure kept)

-- and nothing waits
pub none_waits : (n : ℕ) (planned : List Block) (h : List SendEvent) → IsLegal n planned h → (end_of h).has_finish ≡ true → queued n planned h ≡ []
none_waits n planned h legal finished_is = (legal_lands n planned h legal finished_is).none

-- ---- what the last word says

-- what the destination has was known
listed_more : (n : ℕ) (planned : List Block) (h : List SendEvent) (e : SendEvent) → IsAllowed n planned h e → ((end_of h).has_finish ≡ true → (end_of h).is_listed ≡ true) → (end_of (h ++ e ∷ [])).has_finish ≡ true → (end_of (h ++ e ∷ [])).is_listed ≡ true
listed_more n planned h (Finish k) allowed before is = ap (λ x. x.is_listed) (end_of-more h (Finish k)) ∙ allowed.1.0
listed_more n planned h (Chunks k) allowed before is = ap (λ x. x.is_listed) (end_of-more h (Chunks k))
listed_more n planned h e allowed before is = ap (λ x. x.is_listed) (end_of-more h e) ∙ before (sym (ap (λ x. x.has_finish) (end_of-more h e)) ∙ is)

finish_listed : (n : ℕ) (planned : List Block) (h : List SendEvent) → IsLegal n planned h → (end_of h).has_finish ≡ true → (end_of h).is_listed ≡ true
finish_listed n planned h legal =
    of_legal n planned (λ b. (end_of b).has_finish ≡ true → (end_of b).is_listed ≡ true) (λ is. false_true (sym (ap (λ x. x.has_finish) end_of-none) ∙ is)) (λ b e before allowed is. listed_more n planned b e allowed before is) h legal

-- a lane that read it stands in the end's past
word_more : (h : List SendEvent) (e : SendEvent) (l : ℕ) → ((past_of h l).has_finish ≡ true → (end_of h).has_finish ≡ true) → has_finish_after l (past_of h l).has_finish e ≡ true → (end_of (h ++ e ∷ [])).has_finish ≡ true
word_more h (Finish k) l before is = ap (λ x. x.has_finish) (end_of-more h (Finish k))
word_more h (Linked k c) l before is =
    ap (λ x. x.has_finish) (end_of-more h (Linked k c))
    ∙ if_same (λ (x : Bool). x ≡ true → (end_of h).has_finish ≡ true) k.0 l false (past_of h l).has_finish (λ e x. false_true x) before is
word_more h e l before is = ap (λ x. x.has_finish) (end_of-more h e) ∙ before is

pub last_word : (n : ℕ) (planned : List Block) (h : List SendEvent) (l : ℕ) → IsLegal n planned h → (past_of h l).has_finish ≡ true → (end_of h).has_finish ≡ true
last_word n planned h l legal =
    of_legal n planned (λ b. (past_of b l).has_finish ≡ true → (end_of b).has_finish ≡ true) (λ is. false_true (sym (ap (λ p. p.has_finish) (past_of-none l)) ∙ is))
    (λ b e before allowed is. word_more b e l before (sym (ap (λ p. p.has_finish) (past_of-more b e l)) ∙ is)) h legal

unheld_by : (s : Claims) (held : Bool) → s.held ≡ held → (s.held ≡ true → s.sure < length s.kept) → s.sure ≡ length s.kept → s.held ≡ false
unheld_by s true is few sure = let less : s.sure < length s.kept = few is in absurd (omega (arith, less, sure))
unheld_by s false is few sure = is

pub has_landed : (n : ℕ) (planned : List Block) (h : List SendEvent) → IsLegal n planned h → (end_of h).has_finish ≡ true → HasLanded n planned h
has_landed n planned h legal finish =
    let lies = legal_lands n planned h legal finish in
    record {
      listed = finish_listed n planned h legal finish;
      none = lies.none;
      unheld = λ l. unheld_by (past_of h l).claims (past_of h l).claims.held refl (legal_sound n planned h l legal).held (lies.sure l);
      sure = lies.sure;
    }
