-- Each block of the plan stands once: in the queue, or in one lane's list.
use Rattle.std.proofs.Common.{◌≡◌, ◌≢◌, ℕ, zero, suc, ◌+◌, ◌≤◌, ◌==◌, ◌||◌, not, List, [], ◌∷◌, ◌++◌, filter, take, Bool, true, false, cond, if◌then◌else◌, Option, Some, None, subst, sym, ap, ◌∙◌, arith, refl}
use Rattle.std.specs.List.{list_any}
use Rattle.std.proofs.lemmas.Bool.{or_parts}
use Rattle.std.proofs.lemmas.Option.{same_Some}
use Rattle.std.proofs.lemmas.List.Sums.{sum_by-append}
use Rattle.wdt_claims.specs.Blocks.{is_same, count_of}
use Rattle.wdt_claims.specs.LaneWords.{Claims, claimed, sent, cut_to}
use Rattle.wdt_units.specs.declared.blocks.Block.{Block}
use Rattle.wdt_claims.proofs.Shared.{count_of-nil, count_of-parts, count_of-push, one_if_same, rising_distinct, one_block, same_itself, absent}
use Rattle.wdt_tree.specs.Rest.{is_rising}
use Rattle.wdt_claims.specs.Claimed.{count_in as count_in_lane, count_kept}
use Rattle.wdt_claims.specs.Places.{is_among, keeps, is_queued}
use Rattle.wdt_sender_fsm.specs.declared.events.SendEvent.{SendEvent}
use Rattle.wdt_sender_fsm.specs.declared.events.SendEvent.TheVariants.{Linked, NoLink, Lost, Greet, Chunks, Claim, Sent, Done, Global, Finish, Acked, Quit, Abort, Peer}
use Rattle.wdt_sender_fsm.specs.Legal.{IsAllowed, IsLegal}
use Rattle.wdt_sender_fsm.specs.Places.{AreShared, tabulate, claims_of, planned_now, planned_now-is, queue_of, queued, least_of}
use Rattle.wdt_sender_fsm.specs.SenderHistory.{past_of, past_of-more, past_of-none, close_by, claims_after}
use Rattle.wdt_sender_fsm.proofs.lemmas.Confirmed.{any_last}
use Rattle.wdt_sender_fsm.proofs.lemmas.Counts.{present, kept_count, dropped_count, plan_rises, total, total_below, total_one}
use Rattle.wdt_sender_fsm.proofs.lemmas.Histories.{of_legal, if_same}

-- ---- filters

-- the first that passes passes, and is one of the list
first_passes : (p : Block → Bool) (xs : List Block) (x : Block) → least_of (filter p xs) ≡ Some x → (p x ≡ true) × (is_among xs x ≡ true)
first_passes p [] x is = cc
first_passes p (y ∷ ys) x is = go (p y) refl (first_passes p ys x) is where
  go : (b : Bool) → p y ≡ b → (least_of (filter p ys) ≡ Some x → (p x ≡ true) × (is_among ys x ≡ true)) → least_of (cond b (y ∷ filter p ys) (filter p ys)) ≡ Some x → (p x ≡ true) × (is_among (y ∷ ys) x ≡ true)
  go true e f i =
      let same : y ≡ x = same_Some y x i in
      (subst (λ (z : Block). p z ≡ true) same e, rw (subst (λ (z : Block). is_same x z ≡ true) (sym same) (same_itself x)) refl)
  go false e f i = let rest = f i in (rest.0, either (is_same x y) rest.1) where
    either : (b : Bool) → is_among ys x ≡ true → (b || is_among ys x) ≡ true
    either true r = refl
    either false r = r

-- ---- the lanes' lists

cut_count : (b : Block) (n : ℕ) (xs : List Block) → count_of b (take n xs) ≤ count_of b xs
cut_count b n xs = omega (arith, count_of-parts b xs n)

abbrev count_in : Block → (ℕ → Claims) → ℕ → ℕ
count_in b f l = count_of b (f l).kept

-- the sum over all lanes' lists
pub kept_total : (b : Block) (n : ℕ) (f : ℕ → Claims) → count_kept b (tabulate n f) ≡ total n (count_in b f)
unfolding count_kept
kept_total b zero f = refl
kept_total b (suc n) f = omega (arith, sum_by-append (count_in_lane b) (tabulate n f) (f n ∷ []), kept_total b n f)

total_none : (b : Block) (n : ℕ) (f : ℕ → Claims) → list_any (keeps b) (tabulate n f) ≡ false → total n (count_in b f) ≡ 0
total_none b zero f none = refl
total_none b (suc n) f none =
    let parts = or_parts (list_any (keeps b) (tabulate n f)) (keeps b (f n)) (sym (any_last (keeps b) (tabulate n f) (f n)) ∙ none) in
    omega (arith, total_none b n f parts.0, absent b (f n).kept parts.1)

total_some : (b : Block) (n : ℕ) (f : ℕ → Claims) → list_any (keeps b) (tabulate n f) ≡ true → 1 ≤ total n (count_in b f)
total_some b zero f some = cc
total_some b (suc n) f some =
    go (list_any (keeps b) (tabulate n f)) (total_some b n f) (keeps b (f n)) (present b (f n).kept) (sym (any_last (keeps b) (tabulate n f) (f n)) ∙ some) where
      go : (a : Bool) → (a ≡ true → 1 ≤ total n (count_in b f)) → (c : Bool) → (c ≡ true → 1 ≤ count_of b (f n).kept) → (a || c) ≡ true → 1 ≤ total (suc n) (count_in b f)
      go true i c j e = omega (arith, i refl)
      go false i true j e = omega (arith, j refl)
      go false i false j e = cc

not_any : (a : Bool) → not a ≡ true → a ≡ false
not_any true e = cc
not_any false e = refl

pub not_not : (a : Bool) → not a ≡ false → a ≡ true
not_not true e = refl
not_not false e = cc

-- ---- one entry

abbrev claims_in : List SendEvent → ℕ → Claims
claims_in h l = (past_of h l).claims

-- no lane's list has a block more often than the plan
abbrev Once : ℕ → List Block → List SendEvent → Type 0
Once n planned h = (b : Block) → total n (count_in b (claims_in h)) ≤ count_of b planned

abbrev AtMost : Block → ℕ → Claims → Type 0
AtMost b n s = count_of b s.kept ≤ n

close_count : (b : Block) (o : Option ℕ) (s : Claims) (n : ℕ) → AtMost b (count_of b s.kept) (close_by o n s)
close_count b None s n = cut_count b n s.kept
close_count b (Some m) s n = omega arith

-- what is no claim adds nothing to a list
abbrev IsClaim : SendEvent → Type 0
IsClaim (Claim k x) = Unit {0}
IsClaim _ = ⊥

no_more : (b : Block) (l : ℕ) (s : Claims) (e : SendEvent) → (IsClaim e → ⊥) → AtMost b (count_of b s.kept) (claims_after l s e)
no_more b l s (Claim k x) not_claim = absurd (not_claim tt)
no_more b l s (Greet k c) not_claim = if_same (AtMost b (count_of b s.kept)) k.0 l (cut_to c 0 s) s (λ e. cut_count b c s.kept) (omega arith)
no_more b l s (Sent k) not_claim = if_same (AtMost b (count_of b s.kept)) k.0 l (sent s) s (λ e. omega arith) (omega arith)
no_more b l s (Global k c m) not_claim = if_same (AtMost b (count_of b s.kept)) c.0 l (close_by s.closed m s) s (λ e. close_count b s.closed s m) (omega arith)
no_more b l s (Finish k) not_claim = omega arith
no_more b l s (Linked k c) not_claim = omega arith
no_more b l s (NoLink k) not_claim = omega arith
no_more b l s (Lost k) not_claim = omega arith
no_more b l s (Chunks k) not_claim = omega arith
no_more b l s (Done k) not_claim = omega arith
no_more b l s (Acked k) not_claim = omega arith
no_more b l s (Quit k) not_claim = omega arith
no_more b l s (Abort k c) not_claim = omega arith
no_more b l s (Peer k c) not_claim = omega arith

after_is : (b : Block) (h : List SendEvent) (e : SendEvent) (l : ℕ) → count_in b (claims_in (h ++ e ∷ [])) l ≡ count_of b (claims_after l (claims_in h l) e).kept
after_is b h e l = ap (λ x. count_of b x.claims.kept) (past_of-more h e l)

others_once : (n : ℕ) (planned : List Block) (h : List SendEvent) (e : SendEvent) → (IsClaim e → ⊥) → Once n planned h → Once n planned (h ++ e ∷ [])
others_once n planned h e not_claim once b =
    let below = total_below n (count_in b (claims_in h)) (count_in b (claims_in (h ++ e ∷ []))) (λ l. subst (λ (c : ℕ). c ≤ count_in b (claims_in h) l) (sym (after_is b h e l)) (no_more b l (claims_in h l) e not_claim)) in
    omega (arith, below, once b)

-- a claim adds the block to its lane's list
claim_more : (b x : Block) (l k : ℕ) (s : Claims) → count_of b (if k == l then claimed x s else s).kept ≤ count_of b s.kept + one_if_same b x
claim_more b x l k s =
    if_same (AtMost b (count_of b s.kept + one_if_same b x)) k l (claimed x s) s (λ e. omega (arith, count_of-push b s.kept x)) (omega arith)

claim_other : (b x : Block) (l k : ℕ) (s : Claims) → l ≢ k → count_of b (if k == l then claimed x s else s).kept ≤ count_of b s.kept
claim_other b x l k s other = if_same (AtMost b (count_of b s.kept)) k l (claimed x s) s (λ e. absurd (other (sym e))) (omega arith)

claim_once : (n : ℕ) (planned : List Block) (h : List SendEvent) (k : ℕ) (x : Block) (g : ℕ → Claims) → ((b : Block) (l : ℕ) → count_in b g l ≡ count_of b (if k == l then claimed x (claims_in h l) else claims_in h l).kept)
    → least_of (queue_of planned (claims_of n h)) ≡ Some x → Once n planned h → (b : Block) → total n (count_in b g) ≤ count_of b planned
claim_once n planned h k x g is least once b = go (is_same b x) refl where
  waits : (is_queued (claims_of n h) x ≡ true) × (is_among planned x ≡ true)
  waits = first_passes (is_queued (claims_of n h)) planned x least

  more : (l : ℕ) → count_in b g l ≤ count_in b (claims_in h) l + one_if_same b x
  more l = subst (λ (c : ℕ). c ≤ count_in b (claims_in h) l + one_if_same b x) (sym (is b l)) (claim_more b x l k (claims_in h l))

  other : (l : ℕ) → l ≢ k → count_in b g l ≤ count_in b (claims_in h) l
  other l ne = subst (λ (c : ℕ). c ≤ count_in b (claims_in h) l) (sym (is b l)) (claim_other b x l k (claims_in h l) ne)

  go : (same : Bool) → is_same b x ≡ same → total n (count_in b g) ≤ count_of b planned
  go true e =
      let same : b ≡ x = one_block b x e in
      let most = total_one n k (count_in b (claims_in h)) (count_in b g) other (subst (λ (s : Bool). count_in b g k ≤ count_in b (claims_in h) k + cond s 1 0) e (more k)) in
      let none : total n (count_in b (claims_in h)) ≡ 0 = total_none b n (claims_in h) (subst (λ (y : Block). list_any (keeps y) (claims_of n h) ≡ false) (sym same) (not_any (list_any (keeps x) (claims_of n h)) waits.0)) in
      let there : 1 ≤ count_of b planned = present b planned (subst (λ (y : Block). is_among planned y ≡ true) (sym same) waits.1) in
      omega (arith, most, none, there)
  go false e =
      let below = total_below n (count_in b (claims_in h)) (count_in b g) (λ l. omega (arith, subst (λ (s : Bool). count_in b g l ≤ count_in b (claims_in h) l + cond s 1 0) e (more l))) in
      omega (arith, below, once b)

step_once : (n : ℕ) (planned : List Block) (h : List SendEvent) (e : SendEvent) → Once n planned h → IsAllowed n planned h e → Once n planned (h ++ e ∷ [])
step_once n planned h (Claim k x) once allowed =
    claim_once n planned h k.0 x (claims_in (h ++ Claim k x ∷ [])) (λ c l. after_is c h (Claim k x) l)
    (subst (λ (p : List Block). least_of (queue_of p (claims_of n h)) ≡ Some x) (planned_now-is planned h) allowed.1.1) once
step_once n planned h (Linked k c) once allowed = others_once n planned h (Linked k c) (λ z. z) once
step_once n planned h (NoLink k) once allowed = others_once n planned h (NoLink k) (λ z. z) once
step_once n planned h (Lost k) once allowed = others_once n planned h (Lost k) (λ z. z) once
step_once n planned h (Greet k c) once allowed = others_once n planned h (Greet k c) (λ z. z) once
step_once n planned h (Chunks k) once allowed = others_once n planned h (Chunks k) (λ z. z) once
step_once n planned h (Sent k) once allowed = others_once n planned h (Sent k) (λ z. z) once
step_once n planned h (Done k) once allowed = others_once n planned h (Done k) (λ z. z) once
step_once n planned h (Global k c m) once allowed = others_once n planned h (Global k c m) (λ z. z) once
step_once n planned h (Finish k) once allowed = others_once n planned h (Finish k) (λ z. z) once
step_once n planned h (Acked k) once allowed = others_once n planned h (Acked k) (λ z. z) once
step_once n planned h (Quit k) once allowed = others_once n planned h (Quit k) (λ z. z) once
step_once n planned h (Abort k c) once allowed = others_once n planned h (Abort k c) (λ z. z) once
step_once n planned h (Peer k c) once allowed = others_once n planned h (Peer k c) (λ z. z) once

total_zero : (b : Block) (n : ℕ) → total n (count_in b (claims_in [])) ≡ 0
total_zero b zero = refl
total_zero b (suc n) = omega (arith, total_zero b n, ap (λ x. count_of b x.claims.kept) (past_of-none n), count_of-nil b)

none_once : (n : ℕ) (planned : List Block) → Once n planned []
none_once n planned b = omega (arith, total_zero b n)

legal_once : (n : ℕ) (planned : List Block) (h : List SendEvent) → IsLegal n planned h → Once n planned h
legal_once n planned h legal = of_legal n planned (Once n planned) (none_once n planned) (step_once n planned) h legal

-- ---- the law

placed_by : (n : ℕ) (planned : List Block) (h : List SendEvent) (b : Block) → count_of b planned ≤ 1 → Once n planned h → (q : Bool) → is_queued (claims_of n h) b ≡ q → count_of b (queue_of planned (claims_of n h)) + count_kept b (claims_of n h) ≡ count_of b planned
placed_by n planned h b few once true is =
    omega (arith, kept_count (is_queued (claims_of n h)) b planned is, kept_total b n (claims_in h), total_none b n (claims_in h) (not_any (list_any (keeps b) (claims_of n h)) is))
placed_by n planned h b few once false is =
    omega (arith, few, once b, dropped_count (is_queued (claims_of n h)) b planned is, kept_total b n (claims_in h), total_some b n (claims_in h) (not_not (list_any (keeps b) (claims_of n h)) is))

pub placed_once : (n : ℕ) (planned : List Block) (h : List SendEvent) → is_rising planned ≡ true → IsLegal n planned h → AreShared (planned_now planned h) (queued n planned h) (claims_of n h)
placed_once n planned h rising legal b =
    subst (λ (p : List Block). count_of b (queue_of p (claims_of n h)) + count_kept b (claims_of n h) ≡ count_of b p) (sym (planned_now-is planned h))
    (placed_by n planned h b (rising_distinct planned (plan_rises planned rising) b) (legal_once n planned h legal) (is_queued (claims_of n h) b) refl)
