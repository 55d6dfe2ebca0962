-- A lane that takes a block takes the head of what waits.
use Rattle.std.proofs.Common.{◌≡◌, ◌≢◌, ◌⊎◌, inl, inr, ℕ, zero, suc, ◌<◌, ◌&&◌, ◌||◌, not, List, [], ◌∷◌, ◌++◌, filter, Bool, true, false, cond, subst, sym, ap, ◌∙◌, arith, refl, eq-eqb}
use Rattle.std.specs.List.{list_all, list_any}
use Rattle.std.proofs.lemmas.Bool.{and_parts, cases_eq, ne_eqb}
use Rattle.std.proofs.lemmas.Bool.Decides.{nat_tests}
use Rattle.wdt_units.specs.declared.blocks.Block.{Block}
use Rattle.wdt_units.specs.declared.numbers.Lane.{Lane}
use Rattle.wdt_claims.proofs.Shared.{same_itself}
use Rattle.wdt_claims.specs.Blocks.{is_same}
use Rattle.wdt_claims.specs.LaneWords.{Claims}
use Rattle.wdt_claims.specs.Places.{is_among, keeps, is_queued}
use Rattle.wdt_tree.specs.Rest.{is_earlier, is_rising}
use Rattle.wdt_sender_fsm.specs.declared.events.SendEvent.{SendEvent}
use Rattle.wdt_sender_fsm.specs.declared.events.SendEvent.TheVariants.{Claim}
use Rattle.wdt_sender_fsm.specs.Places.{tabulate, claims_of, planned_now-is, queue_of, queued}
use Rattle.wdt_sender_fsm.specs.SenderHistory.{past_of}
use Rattle.wdt_sender_fsm.proofs.lemmas.Claimed.{at_more}
use Rattle.wdt_sender_fsm.proofs.lemmas.Confirmed.{any_last}
use Rattle.wdt_sender_fsm.proofs.lemmas.Landed.{any_kept, filter_same}
use Rattle.wdt_sender_fsm.proofs.lemmas.Queue.{queue_rises}

-- ---- tests

or_move : (a b s : Bool) → (a || (b || s)) ≡ ((a || b) || s)
or_move true b s = refl
or_move false b s = refl

or_swap : (a b s : Bool) → ((a || s) || b) ≡ ((a || b) || s)
or_swap true b s = refl
or_swap false true true = refl
or_swap false true false = refl
or_swap false false true = refl
or_swap false false false = refl

not_or : (a b : Bool) → not (a || b) ≡ (not a && not b)
not_or true b = refl
not_or false b = refl

among_last : (xs : List Block) (b x : Block) → is_among (xs ++ b ∷ []) x ≡ (is_among xs x || is_same x b)
among_last xs b x = any_last (is_same x) xs b

-- ---- the lanes' lists

any_claimed : (x b : Block) (n l : ℕ) (f g : ℕ → Claims) → l < n → (g l).kept ≡ (f l).kept ++ b ∷ [] → ((k : ℕ) → k ≢ l → (g k).kept ≡ (f k).kept) → list_any (keeps x) (tabulate n g) ≡ (list_any (keeps x) (tabulate n f) || is_same x b)
any_claimed x b zero l f g within own others = absurd (omega (arith, within))
any_claimed x b (suc n) l f g within own others = go (cases_eq l n) (λ lt. any_claimed x b n l f g lt own others) where
  last_is : list_any (keeps x) (tabulate n g ++ g n ∷ []) ≡ (list_any (keeps x) (tabulate n g) || keeps x (g n))
  last_is = any_last (keeps x) (tabulate n g) (g n)

  go : (l ≡ n) ⊎ (l ≢ n) → (l < n → list_any (keeps x) (tabulate n g) ≡ (list_any (keeps x) (tabulate n f) || is_same x b)) → list_any (keeps x) (tabulate n g ++ g n ∷ []) ≡ (list_any (keeps x) (tabulate n f ++ f n ∷ []) || is_same x b)
  go (inl e) rest =
      let front : list_any (keeps x) (tabulate n g) ≡ list_any (keeps x) (tabulate n f) = any_kept x n f g (λ k lt. others k (λ q. omega (arith, lt, q, e))) in
      let here : keeps x (g n) ≡ (keeps x (f n) || is_same x b) = subst (λ (j : ℕ). is_among (g j).kept x ≡ (is_among (f j).kept x || is_same x b)) e (ap (λ xs. is_among xs x) own ∙ among_last (f l).kept b x) in
      last_is ∙ ap (λ a. a || keeps x (g n)) front ∙ ap (λ a. list_any (keeps x) (tabulate n f) || a) here
      ∙ or_move (list_any (keeps x) (tabulate n f)) (keeps x (f n)) (is_same x b)
      ∙ ap (λ a. a || is_same x b) (sym (any_last (keeps x) (tabulate n f) (f n)))
  go (inr ne) rest =
      let same : keeps x (g n) ≡ keeps x (f n) = ap (λ xs. is_among xs x) (others n (λ q. ne (sym q))) in
      last_is ∙ ap (λ a. a || keeps x (g n)) (rest (omega (arith, within, ne))) ∙ ap (λ a. (list_any (keeps x) (tabulate n f) || is_same x b) || a) same
      ∙ or_swap (list_any (keeps x) (tabulate n f)) (keeps x (f n)) (is_same x b)
      ∙ ap (λ a. a || is_same x b) (sym (any_last (keeps x) (tabulate n f) (f n)))

-- ---- filters

filter_both : (p q : Block → Bool) (xs : List Block) → filter (λ x. p x && q x) xs ≡ filter q (filter p xs)
filter_both p q [] = refl
filter_both p q (x ∷ xs) = go (p x) (filter_both p q xs) where
  go : (b : Bool) → filter (λ y. p y && q y) xs ≡ filter q (filter p xs) → cond (b && q x) (x ∷ filter (λ y. p y && q y) xs) (filter (λ y. p y && q y) xs) ≡ filter q (cond b (x ∷ filter p xs) (filter p xs))
  go true rest = ap (λ ys. cond (q x) (x ∷ ys) ys) rest
  go false rest = rest

filter_none : (p : Block → Bool) (xs : List Block) → list_all p xs ≡ true → filter p xs ≡ xs
filter_none p [] all = refl
filter_none p (x ∷ xs) all = let parts = and_parts (p x) (list_all p xs) all in go (p x) parts.0 (filter_none p xs parts.1) where
  go : (b : Bool) → b ≡ true → filter p xs ≡ xs → cond b (x ∷ filter p xs) (filter p xs) ≡ x ∷ xs
  go true e rest = ap (λ ys. x ∷ ys) rest
  go false e rest = cc

other_later : (b x : Block) → is_earlier b x ≡ true → not (is_same x b) ≡ true
other_later b x later = grind (arith, nat_tests)

all_other : (b : Block) (xs : List Block) → list_all (is_earlier b) xs ≡ true → list_all (λ x. not (is_same x b)) xs ≡ true
all_other b [] all = refl
all_other b (x ∷ xs) all =
    let parts = and_parts (is_earlier b x) (list_all (is_earlier b) xs) all in
    ap (λ a. a && list_all (λ y. not (is_same y b)) xs) (other_later b x parts.0) ∙ all_other b xs parts.1

head_drops : (b : Block) (bs : List Block) → is_rising (b ∷ bs) ≡ true → filter (λ x. not (is_same x b)) (b ∷ bs) ≡ bs
head_drops b bs rising =
    let parts = and_parts (list_all (is_earlier b) bs) (is_rising bs) rising in
    ap (λ s. cond (not s) (b ∷ filter (λ x. not (is_same x b)) bs) (filter (λ x. not (is_same x b)) bs)) (same_itself b) ∙ filter_none (λ x. not (is_same x b)) bs (all_other b bs parts.0)

-- ---- the law

abbrev at : List SendEvent → ℕ → Claims
at h l = (past_of h l).claims

claim_own : (h : List SendEvent) (l : Lane) (b : Block) → (at (h ++ Claim l b ∷ []) l.0).kept ≡ (at h l.0).kept ++ b ∷ []
claim_own h l b = ap (λ s. s.kept) (at_more h (Claim l b) l.0) ∙ rw (eq-eqb l.0 l.0 refl) refl

claim_other : (h : List SendEvent) (l : Lane) (b : Block) (k : ℕ) → k ≢ l.0 → (at (h ++ Claim l b ∷ []) k).kept ≡ (at h k).kept
claim_other h l b k ne = ap (λ s. s.kept) (at_more h (Claim l b) k) ∙ rw (ne_eqb l.0 k (λ e. ne (sym e))) refl

pub takes_head : (n : ℕ) (planned : List Block) (h : List SendEvent) (l : Lane) (b : Block) (bs : List Block) → is_rising planned ≡ true → l.0 < n → queued n planned h ≡ b ∷ bs → queued n planned (h ++ Claim l b ∷ []) ≡ bs
takes_head n planned h l b bs rising within waits =
    let k : List SendEvent = h ++ Claim l b ∷ [] in
    let before : filter (is_queued (claims_of n h)) planned ≡ b ∷ bs = ap (λ p. queue_of p (claims_of n h)) (sym (planned_now-is planned h)) ∙ waits in
    let rises : is_rising (b ∷ bs) ≡ true = subst (λ (xs : List Block). is_rising xs ≡ true) waits (queue_rises n planned h rising) in
    let test : (x : Block) → is_queued (claims_of n (h ++ Claim l b ∷ [])) x ≡ (is_queued (claims_of n h) x && not (is_same x b)) =
    λ x. ap not (any_claimed x b n l.0 (at h) (at (h ++ Claim l b ∷ [])) within (claim_own h l b) (λ j ne. claim_other h l b j ne)) ∙ not_or (list_any (keeps x) (claims_of n h)) (is_same x b) in
    ap (λ p. queue_of p (claims_of n (h ++ Claim l b ∷ []))) (planned_now-is planned (h ++ Claim l b ∷ []))
    ∙ filter_same (is_queued (claims_of n (h ++ Claim l b ∷ []))) (λ x. is_queued (claims_of n h) x && not (is_same x b)) planned test
    ∙ filter_both (is_queued (claims_of n h)) (λ x. not (is_same x b)) planned
    ∙ ap (filter (λ x. not (is_same x b))) before
    ∙ head_drops b bs rises
