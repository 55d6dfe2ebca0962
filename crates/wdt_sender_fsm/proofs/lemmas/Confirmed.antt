-- A block that has surely landed stays so.
use Rattle.std.proofs.Common.{◌≡◌, ℕ, zero, suc, ◌≤◌, ◌||◌, List, [], ◌∷◌, ◌++◌, length, take, Bool, true, false, if◌then◌else◌, Option, Some, None, subst, sym, ap, ◌∙◌, arith, refl}
use Rattle.std.specs.List.{list_any}
use Rattle.std.proofs.lemmas.Bool.{or_left, or_right}
use Rattle.std.proofs.lemmas.List.Folds.{list_any-append}
use Rattle.wdt_claims.specs.Blocks.{is_same}
use Rattle.wdt_claims.specs.LaneWords.{Claims, claimed, sent, cut_to}
use Rattle.wdt_units.specs.declared.blocks.Block.{Block}
use Rattle.wdt_claims.specs.Places.{is_among, keeps, confirms, holds, is_queued, place_of}
use Rattle.wdt_claims.specs.declared.place.Place.TheVariants.{Queued, Held, Unconfirmed, Confirmed}
use Rattle.wdt_sender_fsm.specs.declared.events.SendEvent.{SendEvent}
use Rattle.wdt_sender_fsm.specs.declared.events.SendEvent.TheVariants.{Linked, NoLink, Lost, Greet, Chunks, Claim, Sent, Done, Global, Finish, Acked, Quit, Abort, Peer}
use Rattle.wdt_sender_fsm.specs.Legal.{IsAllowed}
use Rattle.wdt_sender_fsm.specs.Places.{tabulate, claims_of}
use Rattle.wdt_sender_fsm.specs.SenderHistory.{past_of, past_of-more, close_by, claims_after}
use Rattle.wdt_sender_fsm.proofs.lemmas.Histories.{false_true, if_same}
use Rattle.wdt_sender_fsm.proofs.lemmas.Tellings.{TellsBy, tells_at, within}

-- ---- among the first of a list

among_take : (b : Block) (n m : ℕ) (xs : List Block) → n ≤ m → is_among (take n xs) b ≡ true → is_among (take m xs) b ≡ true
among_take b zero m xs below among = false_true among
among_take b (suc n) m [] below among = false_true among
among_take b (suc n) zero (x ∷ xs) below among = grind arith
among_take b (suc n) (suc m) (x ∷ xs) below among = go (among_take b n m xs (omega (arith, below))) (is_same b x) among where
  go : (is_among (take n xs) b ≡ true → is_among (take m xs) b ≡ true) → (same : Bool) → (same || is_among (take n xs) b) ≡ true → (same || is_among (take m xs) b) ≡ true
  go f true e = refl
  go f false e = f e

-- cutting a list behind its first ones leaves them
among_cut : (b : Block) (n m : ℕ) (xs : List Block) → n ≤ m → is_among (take n xs) b ≡ true → is_among (take m (take m xs)) b ≡ true
among_cut b zero m xs below among = false_true among
among_cut b (suc n) m [] below among = false_true among
among_cut b (suc n) zero (x ∷ xs) below among = grind arith
among_cut b (suc n) (suc m) (x ∷ xs) below among = go (among_cut b n m xs (omega (arith, below))) (is_same b x) among where
  go : (is_among (take n xs) b ≡ true → is_among (take m (take m xs)) b ≡ true) → (same : Bool) → (same || is_among (take n xs) b) ≡ true → (same || is_among (take m (take m xs)) b) ≡ true
  go f true e = refl
  go f false e = f e

-- and so does a further one behind the list
among_longer : (b : Block) (n : ℕ) (xs ys : List Block) → is_among (take n xs) b ≡ true → is_among (take n (xs ++ ys)) b ≡ true
among_longer b zero xs ys among = false_true among
among_longer b (suc n) [] ys among = false_true among
among_longer b (suc n) (x ∷ xs) ys among = go (among_longer b n xs ys) (is_same b x) among where
  go : (is_among (take n xs) b ≡ true → is_among (take n (xs ++ ys)) b ≡ true) → (same : Bool) → (same || is_among (take n xs) b) ≡ true → (same || is_among (take n (xs ++ ys)) b) ≡ true
  go f true e = refl
  go f false e = f e

among_whole : (b : Block) (n : ℕ) (xs : List Block) → is_among (take n xs) b ≡ true → is_among (take (length xs) xs) b ≡ true
among_whole b zero xs among = false_true among
among_whole b (suc n) [] among = false_true among
among_whole b (suc n) (x ∷ xs) among = go (among_whole b n xs) (is_same b x) among where
  go : (is_among (take n xs) b ≡ true → is_among (take (length xs) xs) b ≡ true) → (same : Bool) → (same || is_among (take n xs) b) ≡ true → (same || is_among (take (length xs) xs) b) ≡ true
  go f true e = refl
  go f false e = f e

among_all : (b : Block) (n : ℕ) (xs : List Block) → is_among (take n xs) b ≡ true → is_among xs b ≡ true
among_all b zero xs among = false_true among
among_all b (suc n) [] among = false_true among
among_all b (suc n) (x ∷ xs) among = go (among_all b n xs) (is_same b x) among where
  go : (is_among (take n xs) b ≡ true → is_among xs b ≡ true) → (same : Bool) → (same || is_among (take n xs) b) ≡ true → (same || is_among xs b) ≡ true
  go f true e = refl
  go f false e = f e

-- ---- one lane, one entry

abbrev Confirms : Block → Claims → Type 0
Confirms b s = confirms b s ≡ true

close_confirms : (b : Block) (o : Option ℕ) (s : Claims) (n : ℕ) → TellsBy o s n → Confirms b s → Confirms b (close_by o n s)
close_confirms b None s n tells is = among_cut b s.sure n s.kept tells.0 is
close_confirms b (Some m) s n tells is = is

claims_confirm : (n : ℕ) (planned : List Block) (h : List SendEvent) (e : SendEvent) (l : ℕ) (b : Block) → IsAllowed n planned h e → Confirms b (past_of h l).claims → Confirms b (claims_after l (past_of h l).claims e)
claims_confirm n planned h (Greet k c) l b allowed is =
    let s = (past_of h l).claims in
    if_same (Confirms b) k.0 l (cut_to c 0 s) s (λ e. among_cut b s.sure c s.kept (subst (λ (j : ℕ). (past_of h j).claims.sure ≤ c) e (within (past_of h k.0).claims c allowed.0.is_open allowed.1).0) is) is
claims_confirm n planned h (Claim k x) l b allowed is =
    let s = (past_of h l).claims in if_same (Confirms b) k.0 l (claimed x s) s (λ e. among_longer b s.sure s.kept (x ∷ []) is) is
claims_confirm n planned h (Sent k) l b allowed is =
    let s = (past_of h l).claims in if_same (Confirms b) k.0 l (sent s) s (λ e. is) is
claims_confirm n planned h (Global k c m) l b allowed is =
    let s = (past_of h l).claims in
    if_same (Confirms b) c.0 l (close_by s.closed m s) s (λ e. close_confirms b s.closed s m (tells_at h c.0 l m e allowed.1.2) is) is
claims_confirm n planned h (Finish k) l b allowed is = among_whole b (past_of h l).claims.sure (past_of h l).claims.kept is
claims_confirm n planned h (Linked k c) l b allowed is = is
claims_confirm n planned h (NoLink k) l b allowed is = is
claims_confirm n planned h (Lost k) l b allowed is = is
claims_confirm n planned h (Chunks k) l b allowed is = is
claims_confirm n planned h (Done k) l b allowed is = is
claims_confirm n planned h (Acked k) l b allowed is = is
claims_confirm n planned h (Quit k) l b allowed is = is
claims_confirm n planned h (Abort k c) l b allowed is = is
claims_confirm n planned h (Peer k c) l b allowed is = is

-- a block among those of a lane that have surely landed stays there
pub lane_confirms : (n : ℕ) (planned : List Block) (h : List SendEvent) (e : SendEvent) (l : ℕ) (b : Block) → IsAllowed n planned h e → Confirms b (past_of h l).claims → Confirms b (past_of (h ++ e ∷ []) l).claims
lane_confirms n planned h e l b allowed is = subst (Confirms b) (sym (ap (λ x. x.claims) (past_of-more h e l))) (claims_confirm n planned h e l b allowed is)

-- ---- all lanes

pub any_last : {X : Type 0} (p : X → Bool) (xs : List X) (x : X) → list_any p (xs ++ x ∷ []) ≡ (list_any p xs || p x)
any_last p xs x = list_any-append p xs (x ∷ []) ∙ go (list_any p xs) (p x) where
  go : (a c : Bool) → (a || (c || false)) ≡ (a || c)
  go true c = refl
  go false true = refl
  go false false = refl

any_same : (p : Claims → Bool) (n : ℕ) (f g : ℕ → Claims) → ((l : ℕ) → p (f l) ≡ true → p (g l) ≡ true) → list_any p (tabulate n f) ≡ true → list_any p (tabulate n g) ≡ true
any_same p zero f g keeps is = is
any_same p (suc n) f g keeps is =
    any_last p (tabulate n g) (g n) ∙ go (list_any p (tabulate n f)) (p (f n)) (any_same p n f g keeps) (keeps n) (sym (any_last p (tabulate n f) (f n)) ∙ is) where
      go : (a c : Bool) → (a ≡ true → list_any p (tabulate n g) ≡ true) → (c ≡ true → p (g n) ≡ true) → (a || c) ≡ true → (list_any p (tabulate n g) || p (g n)) ≡ true
      go true c i j e = or_left _ _ (i refl)
      go false true i j e = or_right _ _ (j refl)
      go false false i j e = false_true e

any_more : {X : Type 0} (p q : X → Bool) (xs : List X) → ((x : X) → p x ≡ true → q x ≡ true) → list_any p xs ≡ true → list_any q xs ≡ true
any_more p q [] f is = is
any_more p q (x ∷ xs) f is = go (p x) (f x) (any_more p q xs f) is where
  go : (a : Bool) → (a ≡ true → q x ≡ true) → (list_any p xs ≡ true → list_any q xs ≡ true) → (a || list_any p xs) ≡ true → (q x || list_any q xs) ≡ true
  go true i j e = or_left _ _ (i refl)
  go false i j e = or_right _ _ (j e)

-- a block is confirmed exactly where it is among those of a lane that have surely landed
pub confirmed_by : (lanes : List Claims) (b : Block) → list_any (confirms b) lanes ≡ true → place_of b lanes ≡ Confirmed
confirmed_by lanes b is = rw (any_more (confirms b) (keeps b) lanes (λ s. among_all b s.sure s.kept) is, is) refl

confirms_by : (lanes : List Claims) (b : Block) → place_of b lanes ≡ Confirmed → list_any (confirms b) lanes ≡ true
confirms_by lanes b = go (is_queued lanes b) (list_any (confirms b) lanes) (list_any (holds b) lanes) where
  go : (q c h : Bool) → (if q then Queued else if c then Confirmed else if h then Held else Unconfirmed) ≡ Confirmed → c ≡ true
  go q true h e = refl
  go true false h e = cc
  go false false true e = cc
  go false false false e = cc

-- a confirmed block stays confirmed
pub stays_confirmed : (n : ℕ) (planned : List Block) (h : List SendEvent) (e : SendEvent) (b : Block) → IsAllowed n planned h e → place_of b (claims_of n h) ≡ Confirmed → place_of b (claims_of n (h ++ e ∷ [])) ≡ Confirmed
stays_confirmed n planned h e b allowed is =
    confirmed_by (claims_of n (h ++ e ∷ [])) b (any_same (confirms b) n _ _ (λ l. lane_confirms n planned h e l b allowed) (confirms_by (claims_of n h) b is))
