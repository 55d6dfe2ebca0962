-- What all lanes have claimed, as a list that an entry changes.
use Rattle.std.proofs.Common.{◌≡◌, ◌≢◌, ◌⊎◌, ℕ, zero, suc, ◌+◌, ◌<◌, ◌==◌, List, [], ◌∷◌, ◌++◌, length, map, get_or, set, replicate, false, if◌then◌else◌, subst, sym, ap, ◌∙◌, arith, refl, inl, inr, eq-eqb}
use Rattle.std.proofs.Math.Seq.{get_or-append_seam, set-append_seam}
use Rattle.std.proofs.lemmas.Bool.{cases_eq, ne_eqb}
use Rattle.std.proofs.lemmas.List.{get_or_append_left, set-append_left, map-append, replicate-append-replicate, length-append}
use Rattle.wdt_claims.specs.LaneWords.{Claims, no_claims, claimed, sent, cut_to, finished}
use Rattle.wdt_units.specs.declared.blocks.Block.{Block}
use Rattle.wdt_units.specs.declared.numbers.Lane.{Lane}
use Rattle.wdt_sender_fsm.specs.declared.events.SendEvent.{SendEvent}
use Rattle.wdt_sender_fsm.specs.declared.events.SendEvent.TheVariants.{Linked, NoLink, Lost, Greet, Chunks, Claim, Sent, Done, Global, Finish, Acked, Quit, Abort, Peer}
use Rattle.wdt_sender_fsm.specs.Places.{tabulate, claims_of, changes_claims}
use Rattle.wdt_sender_fsm.specs.SenderHistory.{past_of, past_of-more, past_of-none, close_by, claims_after}

-- ---- lists by numbers

tabulate_length : {X : Type 0} (n : ℕ) (f : ℕ → X) → length (tabulate n f) ≡ n
tabulate_length zero f = refl
tabulate_length (suc n) f = omega (arith, length-append (tabulate n f) (f n ∷ []), tabulate_length n f)

last_or_before : (n l : ℕ) → l < suc n → (l ≡ n) ⊎ (l < n)
last_or_before n l within = go (cases_eq l n) where
  go : (l ≡ n) ⊎ (l ≢ n) → (l ≡ n) ⊎ (l < n)
  go (inl e) = inl e
  go (inr ne) = inr (grind (arith, within, ne))

pub tabulate_at : {X : Type 0} (n : ℕ) (f : ℕ → X) (l : ℕ) (d : X) → l < n → get_or (tabulate n f) l d ≡ f l
tabulate_at zero f l d within = absurd (omega (arith, within))
tabulate_at {X} (suc n) f l d within = go (last_or_before n l within) (tabulate_at n f l d) where
  go : (l ≡ n) ⊎ (l < n) → (l < n → get_or (tabulate n f) l d ≡ f l) → get_or (tabulate n f ++ f n ∷ []) l d ≡ f l
  go (inl e) rest =
      subst (λ (j : ℕ). get_or (tabulate n f ++ f n ∷ []) j d ≡ f j) (sym e)
      (subst (λ (j : ℕ). get_or (tabulate n f ++ f n ∷ []) j d ≡ f n) (tabulate_length n f) (get_or-append_seam (tabulate n f) (f n) [] d))
  go (inr lt) rest = get_or_append_left (tabulate n f) (f n ∷ []) d l (omega (arith, tabulate_length n f, lt)) ∙ rest lt

pub tabulate_same : {X : Type 0} (n : ℕ) (f g : ℕ → X) → ((l : ℕ) → l < n → g l ≡ f l) → tabulate n g ≡ tabulate n f
tabulate_same zero f g same = refl
tabulate_same (suc n) f g same = rw (tabulate_same n f g (λ l lt. same l (omega (arith, lt))), same n (omega arith)) refl

-- one of them is another
pub tabulate_set : {X : Type 0} (n k : ℕ) (f g : ℕ → X) → k < n → ((l : ℕ) → l ≢ k → g l ≡ f l) → tabulate n g ≡ set (tabulate n f) k (g k)
tabulate_set zero k f g within same = absurd (omega (arith, within))
tabulate_set {X} (suc n) k f g within same = go (last_or_before n k within) (λ lt. tabulate_set n k f g lt same) where
  go : (k ≡ n) ⊎ (k < n) → (k < n → tabulate n g ≡ set (tabulate n f) k (g k)) → tabulate n g ++ g n ∷ [] ≡ set (tabulate n f ++ f n ∷ []) k (g k)
  go (inl e) rest =
      let before : tabulate n g ≡ tabulate n f = tabulate_same n f g (λ l lt. same l (λ q. omega (arith, lt, q, e))) in
      let here : set (tabulate n f ++ f n ∷ []) n (g n) ≡ tabulate n f ++ g n ∷ [] = subst (λ (j : ℕ). set (tabulate n f ++ f n ∷ []) j (g n) ≡ tabulate n f ++ g n ∷ []) (tabulate_length n f) (set-append_seam (tabulate n f) (f n) [] (g n)) in
      ap (λ xs. xs ++ g n ∷ []) before ∙ (sym here ∙ ap (λ j. set (tabulate n f ++ f n ∷ []) j (g j)) (sym e))
  go (inr lt) rest =
      let last : g n ≡ f n = same n (λ q. omega (arith, lt, q)) in
      ap (λ xs. xs ++ g n ∷ []) (rest lt) ∙ (ap (λ x. set (tabulate n f) k (g k) ++ x ∷ []) last ∙ sym (set-append_left (tabulate n f) (f n ∷ []) k (g k) (omega (arith, tabulate_length n f, lt))))

tabulate_map : {X Y : Type 0} (m : X → Y) (n : ℕ) (f : ℕ → X) → tabulate n (λ l. m (f l)) ≡ map m (tabulate n f)
tabulate_map m zero f = refl
tabulate_map m (suc n) f = ap (λ xs. xs ++ m (f n) ∷ []) (tabulate_map m n f) ∙ sym (map-append m (tabulate n f) (f n ∷ []))

pub tabulate_one : {X : Type 0} (n : ℕ) (x : X) → tabulate n (λ l. x) ≡ replicate n x
tabulate_one zero x = refl
tabulate_one (suc n) x = ap (λ xs. xs ++ x ∷ []) (tabulate_one n x) ∙ (replicate-append-replicate n 1 x ∙ ap (λ k. replicate k x) (more n)) where
  more : (m : ℕ) → m + 1 ≡ suc m
  more m = omega arith

-- ---- the lanes' claims

abbrev at : List SendEvent → ℕ → Claims
at h l = (past_of h l).claims

pub at_more : (h : List SendEvent) (e : SendEvent) (l : ℕ) → at (h ++ e ∷ []) l ≡ claims_after l (at h l) e
at_more h e l = ap (λ p. p.claims) (past_of-more h e l)

pub claims_length : (n : ℕ) (h : List SendEvent) → length (claims_of n h) ≡ n
claims_length n h = tabulate_length n (at h)

pub claims_at : (n : ℕ) (h : List SendEvent) (l : ℕ) → l < n → get_or (claims_of n h) l no_claims ≡ (past_of h l).claims
claims_at n h l within = tabulate_at n (at h) l no_claims within

pub claims_none : (n : ℕ) → claims_of n [] ≡ replicate n no_claims
claims_none n = tabulate_same n (λ l. no_claims) (at []) (λ l lt. ap (λ p. p.claims) (past_of-none l)) ∙ tabulate_one n no_claims

if_yes : {X : Type 0} (l : ℕ) (x y : X) → (if l == l then x else y) ≡ x
if_yes l x y = rw (eq-eqb l l refl) refl

if_not : {X : Type 0} (k l : ℕ) (x y : X) → l ≢ k → (if k == l then x else y) ≡ y
if_not k l x y other = rw (ne_eqb k l (λ e. other (sym e))) refl

-- an entry that changes one lane's claims
pub claims_one : (n : ℕ) (h : List SendEvent) (e : SendEvent) (k : ℕ) (make : Claims → Claims) → k < n → ((l : ℕ) (s : Claims) → claims_after l s e ≡ (if k == l then make s else s)) → claims_of n (h ++ e ∷ []) ≡ set (claims_of n h) k (make (at h k))
claims_one n h e k make within is =
    tabulate_set n k (at h) (at (h ++ e ∷ [])) within (λ l other. at_more h e l ∙ (is l (at h l) ∙ if_not k l (make (at h l)) (at h l) other))
    ∙ ap (λ s. set (claims_of n h) k s) (at_more h e k ∙ (is k (at h k) ∙ if_yes k (make (at h k)) (at h k)))

pub claims_greet : (n : ℕ) (h : List SendEvent) (l : Lane) (count : ℕ) → l.0 < n → claims_of n (h ++ Greet l count ∷ []) ≡ set (claims_of n h) l.0 (cut_to count 0 (past_of h l.0).claims)
claims_greet n h l count within = claims_one n h (Greet l count) l.0 (cut_to count 0) within (λ k s. refl)

pub claims_claim : (n : ℕ) (h : List SendEvent) (l : Lane) (b : Block) → l.0 < n → claims_of n (h ++ Claim l b ∷ []) ≡ set (claims_of n h) l.0 (claimed b (past_of h l.0).claims)
claims_claim n h l b within = claims_one n h (Claim l b) l.0 (claimed b) within (λ k s. refl)

pub claims_sent : (n : ℕ) (h : List SendEvent) (l : Lane) → l.0 < n → claims_of n (h ++ Sent l ∷ []) ≡ set (claims_of n h) l.0 (sent (past_of h l.0).claims)
claims_sent n h l within = claims_one n h (Sent l) l.0 sent within (λ k s. refl)

pub claims_global : (n : ℕ) (h : List SendEvent) (k l : Lane) (count : ℕ) → l.0 < n → claims_of n (h ++ Global k l count ∷ []) ≡ set (claims_of n h) l.0 (close_by (past_of h l.0).claims.closed count (past_of h l.0).claims)
claims_global n h k l count within = claims_one n h (Global k l count) l.0 (λ s. close_by s.closed count s) within (λ j s. refl)

pub claims_finish : (n : ℕ) (h : List SendEvent) (l : Lane) → claims_of n (h ++ Finish l ∷ []) ≡ map finished (claims_of n h)
claims_finish n h l = tabulate_same n (λ k. finished (at h k)) (at (h ++ Finish l ∷ [])) (λ k lt. at_more h (Finish l) k) ∙ tabulate_map finished n (at h)

stays : (l : ℕ) (s : Claims) (e : SendEvent) → changes_claims e ≡ false → claims_after l s e ≡ s
stays l s (Linked k c) is = refl
stays l s (NoLink k) is = refl
stays l s (Lost k) is = refl
stays l s (Chunks k) is = refl
stays l s (Done k) is = refl
stays l s (Acked k) is = refl
stays l s (Quit k) is = refl
stays l s (Abort k c) is = refl
stays l s (Peer k c) is = refl
stays l s (Greet k c) is = cc
stays l s (Claim k b) is = cc
stays l s (Sent k) is = cc
stays l s (Global k c m) is = cc
stays l s (Finish k) is = cc

pub claims_stay : (n : ℕ) (h : List SendEvent) (e : SendEvent) → changes_claims e ≡ false → claims_of n (h ++ e ∷ []) ≡ claims_of n h
claims_stay n h e is = tabulate_same n (at h) (at (h ++ e ∷ [])) (λ l lt. at_more h e l ∙ stays l (at h l) e is)
