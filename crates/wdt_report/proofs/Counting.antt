-- The table of a sender's lanes shows what they have claimed, and what was counted so far is what its entries say.
use Rattle.std.proofs.Common.{◌≡◌, ◌≢◌, ◌⊎◌, inl, inr, ℕ, suc, ◌+◌, ◌-◌, ◌<◌, ◌≤◌, ◌==◌, min, Bool, true, false, List, [], ◌∷◌, length, get_or, set}
use Rattle.std.proofs.Common.{replicate, take, drop, sum_by, is_some, Option, Some, None, if◌then◌else◌, refl, sym, ap, ◌∙◌, subst, arith, zero-add}
use Rattle.std.proofs.Common.{eq-eqb, length-append}
use Rattle.std.proofs.lemmas.Bool.{cases_eq, ne_eqb}
use Rattle.std.proofs.Math.Seq.{drop-cons}
use Rattle.std.proofs.lemmas.List.{get_or-replicate, get_or-set_other, get_or-set_same, length-replicate, length-set, length-take}
use Rattle.std.proofs.lemmas.List.Folds.{sum_by-replicate}
use Rattle.std.proofs.lemmas.List.Sums.{sum_by-cons, sum_by-set}
use Rattle.wdt_claims.specs.LaneWords.{Claims, no_claims, claimed, cut_to, sent}
use Rattle.wdt_sender_fsm.specs.SenderHistory.{close_by}
use Rattle.wdt_sender_fsm.specs.declared.events.SendEvent.{SendEvent}
use Rattle.wdt_sender_fsm.specs.declared.events.SendEvent.TheVariants.{Linked, NoLink, Lost, Greet, Chunks, Claim, Sent, Done, Global, Finish, Acked, Quit, Abort, Peer}
use Rattle.wdt_report.specs.declared.sent.Listed.{Listed}
use Rattle.wdt_report.specs.Sent.{all_after, connections_in, is_linked, one_linked, requeued_from, requeued_in, taken_closing, taken_off}
use Rattle.wdt_report.specs.Tables.{HasPlace, IsListed, ShowsClaims, count_of, cut, cut_once, none_listed, noted, place, taken, taken_once}

-- ---- places

-- one lane's claims change, and its place with them
one_shows : (claims : ℕ → Claims) (lanes : List Listed) (k : ℕ) (make : Claims → Claims) (v : Listed) → k < length lanes
    → IsListed (make (claims k)) v → ShowsClaims claims lanes
    → ShowsClaims (λ l. if k == l then make (claims l) else claims l) (set lanes k v)
one_shows claims lanes k make v within here shows l lt = go (cases_eq k l) where
  go : (k ≡ l) ⊎ (k ≢ l) → IsListed (if k == l then make (claims l) else claims l) (place (set lanes k v) l)
  go (inl e) =
      subst (λ (j : ℕ). IsListed (if k == j then make (claims j) else claims j) (place (set lanes k v) j)) e
      (rw (eq-eqb k k refl, get_or-set_same lanes k v none_listed within) here)
  go (inr ne) = rw (ne_eqb k l ne, get_or-set_other lanes k l v none_listed (λ e. ne (sym e))) (shows l (omega (arith, lt, length-set lanes k v)))

-- nothing of the lanes' lists changes
quiet_shows : (claims more : ℕ → Claims) (lanes : List Listed) → ((l : ℕ) → (more l).kept ≡ (claims l).kept) → ((l : ℕ)
    → (more l).closed ≡ (claims l).closed) → ShowsClaims claims lanes → ShowsClaims more lanes
quiet_shows claims more lanes kept closed shows l lt =
    record { count = (shows l lt).count ∙ ap length (sym (kept l)); closed = (shows l lt).closed ∙ ap is_some (sym (closed l)) }

kept_if : (b : Bool) (s t : Claims) → s.kept ≡ t.kept → (if b then s else t).kept ≡ t.kept
kept_if true s t e = e
kept_if false s t e = refl

closed_if : (b : Bool) (s t : Claims) → s.closed ≡ t.closed → (if b then s else t).closed ≡ t.closed
closed_if true s t e = e
closed_if false s t e = refl

-- a lane that keeps at most n blocks
cut_listed : (s t : Claims) (listed : Listed) (n : ℕ) (closed : Bool) → t.kept ≡ take n s.kept → closed ≡ is_some t.closed → IsListed s listed
    → IsListed t (record { count = min listed.count n; is_closed = closed })
cut_listed s t listed n closed kept is shows =
    record { count = omega (arith, ap length kept, length-take n s.kept, shows.count); closed = is }

closes : (o : Option ℕ) (n : ℕ) (s : Claims) (listed : Listed) → is_some o ≡ false → IsListed s listed
    → IsListed (close_by o n s) (record { count = min listed.count n; is_closed = true })
closes None n s listed none shows = cut_listed s (close_by None n s) listed n true refl refl shows
closes (Some m) n s listed none shows = cc

stays : (o : Option ℕ) (n : ℕ) (s : Claims) → is_some o ≡ true → close_by o n s ≡ s
stays None n s is = cc
stays (Some m) n s is = refl

kept_closed : (b : Bool) (o : Option ℕ) (n : ℕ) (s : Claims) → is_some o ≡ true → (if b then close_by o n s else s) ≡ s
kept_closed true o n s is = stays o n s is
kept_closed false o n s is = refl

-- a lane is closed that was closed before, or wasn't
closing : (claims : ℕ → Claims) (lanes : List Listed) (k n : ℕ) (b : Bool) → k < length lanes → (place lanes k).is_closed ≡ b → ShowsClaims claims lanes
    → ShowsClaims (λ l. if k == l then close_by (claims l).closed n (claims l) else claims l) (cut_once lanes k n b)
closing claims lanes k n false within is shows =
    one_shows claims lanes k (λ s. close_by s.closed n s) (record { count = min (place lanes k).count n; is_closed = true }) within
    (closes (claims k).closed n (claims k) (place lanes k) (sym (shows k within).closed ∙ is) (shows k within)) shows
closing claims lanes k n true within is shows = λ l lt. go l lt (cases_eq k l) where
  go : (l : ℕ) → l < length lanes → (k ≡ l) ⊎ (k ≢ l) → IsListed (if k == l then close_by (claims l).closed n (claims l) else claims l) (place lanes l)
  go l lt (inl e) =
      let closed : is_some (claims l).closed ≡ true = subst (λ (j : ℕ). is_some (claims j).closed ≡ true) e (sym (shows k within).closed ∙ is) in
      subst (λ (s : Claims). IsListed s (place lanes l)) (sym (kept_closed (k == l) (claims l).closed n (claims l) closed)) (shows l lt)
  go l lt (inr ne) = rw (ne_eqb k l ne) (shows l lt)

-- ---- an entry

-- the table shows the lanes' claims behind an entry
pub noted_shows : (claims : ℕ → Claims) (lanes : List Listed) (e : SendEvent) → HasPlace lanes e → ShowsClaims claims lanes
    → ShowsClaims (all_after claims e) (noted lanes e)
noted_shows claims lanes (Claim k b) within shows =
    one_shows claims lanes k.0 (claimed b) (record { count = (place lanes k.0).count + 1; is_closed = (place lanes k.0).is_closed }) within
    (record { count = omega (arith, length-append (claims k.0).kept (b ∷ []), (shows k.0 within).count); closed = (shows k.0 within).closed }) shows
noted_shows claims lanes (Greet k n) within shows =
    one_shows claims lanes k.0 (cut_to n 0) (record { count = min (place lanes k.0).count n; is_closed = (place lanes k.0).is_closed }) within
    (cut_listed (claims k.0) (cut_to n 0 (claims k.0)) (place lanes k.0) n (place lanes k.0).is_closed refl (shows k.0 within).closed (shows k.0 within)) shows
noted_shows claims lanes (Global j k n) within shows = closing claims lanes k.0 n (place lanes k.0).is_closed within refl shows
noted_shows claims lanes (Sent k) within shows =
    quiet_shows claims (all_after claims (Sent k)) lanes (λ l. kept_if (k.0 == l) (sent (claims l)) (claims l) refl) (λ l. closed_if (k.0 == l) (sent
    (claims l)) (claims l) refl) shows
noted_shows claims lanes (Finish k) within shows = quiet_shows claims (all_after claims (Finish k)) lanes (λ l. refl) (λ l. refl) shows
noted_shows claims lanes (Linked k c) within shows = shows
noted_shows claims lanes (NoLink k) within shows = shows
noted_shows claims lanes (Lost k) within shows = shows
noted_shows claims lanes (Chunks k) within shows = shows
noted_shows claims lanes (Done k) within shows = shows
noted_shows claims lanes (Acked k) within shows = shows
noted_shows claims lanes (Quit k) within shows = shows
noted_shows claims lanes (Abort k code) within shows = shows
noted_shows claims lanes (Peer k kind) within shows = shows

taken_as : (o : Option ℕ) (b : Bool) (n : ℕ) (s : Claims) (listed : Listed) → b ≡ is_some o → listed.count ≡ length s.kept → taken_once listed n b ≡ taken_closing o n s
taken_as None true n s listed is count = cc
taken_as None false n s listed is count = ap (λ c. c - n) count
taken_as (Some m) true n s listed is count = refl
taken_as (Some m) false n s listed is count = cc

-- and what it takes off lists is told by the table
pub taken_is : (claims : ℕ → Claims) (lanes : List Listed) (e : SendEvent) → HasPlace lanes e → ShowsClaims claims lanes → taken lanes e ≡ taken_off claims e
taken_is claims lanes (Greet k n) within shows = ap (λ c. c - n) (shows k.0 within).count
taken_is claims lanes (Global j k n) within shows =
    taken_as (claims k.0).closed (place lanes k.0).is_closed n (claims k.0) (place lanes k.0) (shows k.0 within).closed (shows k.0 within).count
taken_is claims lanes (Claim k b) within shows = refl
taken_is claims lanes (Sent k) within shows = refl
taken_is claims lanes (Finish k) within shows = refl
taken_is claims lanes (Linked k c) within shows = refl
taken_is claims lanes (NoLink k) within shows = refl
taken_is claims lanes (Lost k) within shows = refl
taken_is claims lanes (Chunks k) within shows = refl
taken_is claims lanes (Done k) within shows = refl
taken_is claims lanes (Acked k) within shows = refl
taken_is claims lanes (Quit k) within shows = refl
taken_is claims lanes (Abort k code) within shows = refl
taken_is claims lanes (Peer k kind) within shows = refl

cut_few : (lanes : List Listed) (k n : ℕ) (closed : Bool) → k < length lanes → ((place lanes k).count - n) + sum_by count_of (cut lanes k n
    closed) ≤ sum_by count_of lanes + 1
cut_few lanes k n closed within =
    omega (arith, sum_by-set count_of lanes k (record { count = min (place lanes k).count n; is_closed = closed }) none_listed within)

once_few : (lanes : List Listed) (k n : ℕ) (b : Bool) → k < length lanes → taken_once (place lanes k) n b + sum_by count_of
    (cut_once lanes k n b) ≤ sum_by count_of lanes + 1
once_few lanes k n true within = omega arith
once_few lanes k n false within = cut_few lanes k n true within

same_few : (lanes : List Listed) → 0 + sum_by count_of lanes ≤ sum_by count_of lanes + 1
same_few lanes = omega arith

-- an entry adds one block to the lists at most, and what it takes off is there no more
pub taken_few : (lanes : List Listed) (e : SendEvent) → HasPlace lanes e → taken lanes e + sum_by count_of (noted lanes e) ≤ sum_by count_of lanes + 1
taken_few lanes (Claim k b) within =
    omega (arith, sum_by-set count_of lanes k.0 (record { count = (place lanes k.0).count + 1; is_closed = (place lanes k.0).is_closed }) none_listed within)
taken_few lanes (Greet k n) within = cut_few lanes k.0 n (place lanes k.0).is_closed within
taken_few lanes (Global j k n) within = once_few lanes k.0 n (place lanes k.0).is_closed within
taken_few lanes (Sent k) within = same_few lanes
taken_few lanes (Finish k) within = same_few lanes
taken_few lanes (Linked k c) within = same_few lanes
taken_few lanes (NoLink k) within = same_few lanes
taken_few lanes (Lost k) within = same_few lanes
taken_few lanes (Chunks k) within = same_few lanes
taken_few lanes (Done k) within = same_few lanes
taken_few lanes (Acked k) within = same_few lanes
taken_few lanes (Quit k) within = same_few lanes
taken_few lanes (Abort k code) within = same_few lanes
taken_few lanes (Peer k kind) within = same_few lanes

-- a lane's list has no more blocks than all lists together
pub place_few : (lanes : List Listed) (k : ℕ) → k < length lanes → (place lanes k).count ≤ sum_by count_of lanes
place_few lanes k within = omega (arith, sum_by-set count_of lanes k none_listed none_listed within)

-- ---- a history

-- what was counted of the first k entries
pub record Counted (h : List SendEvent) (k : ℕ) (lanes : List Listed) (connections requeued : ℕ) : Type 0 where
  pub claims : ℕ → Claims
  pub shows : ShowsClaims claims lanes
  pub made : connections + connections_in (drop k h) ≡ connections_in h
  pub few_made : connections ≤ k
  pub taken : requeued + requeued_from claims (drop k h) ≡ requeued_in h
  pub few : requeued + sum_by count_of lanes ≤ k

-- nothing was counted
pub counted_none : (h : List SendEvent) (n : ℕ) → Counted h 0 (replicate n none_listed) 0 0
counted_none h n =
    record {
      claims = λ l. no_claims;
      shows = λ l lt. subst (λ (x : Listed). IsListed no_claims x) (sym (get_or-replicate n l none_listed none_listed (omega
          (arith, lt, length-replicate n none_listed)))) (record { count = refl; closed = refl });
      made = zero-add (connections_in h);
      few_made = omega arith;
      taken = zero-add (requeued_in h);
      few = omega (arith, sum_by-replicate count_of n none_listed);
    }

-- one more entry
pub counted_more : (h : List SendEvent) (k : ℕ) (e : SendEvent) (lanes : List Listed) (connections requeued : ℕ) → drop k h ≡ e ∷ drop (k + 1) h
    → HasPlace lanes e → Counted h k lanes connections requeued
    → Counted h (k + 1) (noted lanes e) (connections + one_linked e) (requeued + taken lanes e)
counted_more h k e lanes connections requeued next within c =
    record {
      claims = all_after c.claims e;
      shows = noted_shows c.claims lanes e within c.shows;
      made = omega (arith, c.made, ap connections_in next, sum_by-cons (λ x. if is_linked x then 1 else 0) e (drop (k + 1) h));
      few_made = omega (arith, c.few_made, one_few (is_linked e));
      taken = omega (arith, c.taken, ap (requeued_from c.claims) next, taken_is c.claims lanes e within c.shows);
      few = omega (arith, c.few, taken_few lanes e within);
    }
  where
    one_few : (b : Bool) → (if b then 1 else 0) ≤ 1
    one_few true = omega arith
    one_few false = omega arith

-- the same, by what a note of the entry at k answers
pub counted_next : (h : List SendEvent) (k : ℕ) (d : SendEvent) (lanes more : List Listed) (connections requeued made off : ℕ) → k < length h
    → more ≡ noted lanes (get_or h k d) → made ≡ one_linked (get_or h k d)
    → off ≡ taken lanes (get_or h k d) → HasPlace lanes (get_or h k d) → Counted h k lanes connections requeued
    → Counted h (k + 1) more (connections + made) (requeued + off)
counted_next h k d lanes more connections requeued made off lt more_is made_is off_is within c =
    let next : drop k h ≡ get_or h k d ∷ drop (k + 1) h = drop-cons h k d lt ∙ ap (λ j. get_or h k d ∷ drop j h) (one_more k) in
    subst (λ (n : ℕ). Counted h (k + 1) more (connections + made) (requeued + n)) (sym off_is)
    (subst (λ (n : ℕ). Counted h (k + 1) more (connections + n) (requeued + taken lanes (get_or h k d))) (sym made_is)
    (subst (λ (ls : List Listed). Counted h (k + 1) ls (connections + one_linked (get_or h k d)) (requeued + taken lanes (get_or h k d))) (sym more_is)
    (counted_more h k (get_or h k d) lanes connections requeued next within c)))
  where
    one_more : (n : ℕ) → suc n ≡ n + 1
    one_more n = omega arith

-- all entries
pub counted_all : (h : List SendEvent) (k : ℕ) (lanes : List Listed) (connections requeued : ℕ) → drop k h ≡ []
    → Counted h k lanes connections requeued → (connections ≡ connections_in h) × (requeued ≡ requeued_in h)
counted_all h k lanes connections requeued none c =
    (omega (arith, c.made, ap connections_in none), omega (arith, c.taken, ap (requeued_from c.claims) none))
