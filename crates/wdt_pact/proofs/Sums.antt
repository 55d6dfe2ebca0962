-- Sums over blocks: those of the plan wait or are kept by one lane, and those that landed did so on one lane.
use Rattle.std.proofs.Common.{◌≡◌, ◌≢◌, ◌⊎◌, inl, inr, ℕ, zero, suc, ◌+◌, ◌<◌, ◌≤◌, ◌==◌, Bool, true, false, if◌then◌else◌, List, [], ◌∷◌, ◌++◌, length, map, sum_by, Option, Some, None, subst, sym, ap, ◌∙◌, refl, arith, append-nil, append_assoc, eq-eqb}
use Rattle.std.specs.List.{flat_map}
use Rattle.std.proofs.lemmas.Bool.{cases_eq, ne_eqb}
use Rattle.std.proofs.lemmas.List.Sorted.{sum_by-IsPermutation}
use Rattle.std.proofs.lemmas.List.Sums.{sum_by-append, sum_by-cons}
use Rattle.wdt_units.specs.declared.blocks.Block.{Block}
use Rattle.wdt_units.specs.declared.numbers.Lane.{Lane}
use Rattle.wdt_claims.specs.Blocks.{HaveSameBlocks, count_of}
use Rattle.wdt_claims.specs.Claimed.{count_kept}
use Rattle.wdt_claims.specs.LaneWords.{Claims}
use Rattle.wdt_claims.proofs.Shared.{count_of-append, count_of-nil}
use Rattle.wdt_rest.proofs.lemmas.AnyOrder.{permuted}
use Rattle.wdt_sender_fsm.specs.Places.{planned_now-is}
use Rattle.wdt_sender_fsm.specs.PlainSender.{HasPlaces, PlainSender, blocks_of, lanes_claims, past_at, waiting_blocks}
use Rattle.wdt_sender_fsm.specs.SenderHistory.{past_of as sent_past}
use Rattle.wdt_sender_fsm.proofs.lemmas.Counts.{total}
use Rattle.wdt_sender_fsm.proofs.lemmas.Placed.{kept_total}
use Rattle.wdt_receiver_fsm.specs.declared.events.RecvEvent.{RecvEvent}
use Rattle.wdt_receiver_fsm.specs.declared.events.RecvEvent.TheVariants as events
use Rattle.wdt_receiver_fsm.specs.Legal.{IsAllowed, IsLegal, Terms, legal_from}
use Rattle.wdt_receiver_fsm.specs.ReceiverHistory.{RecvPast, begun_list, landed_of, lands_none, past_after, past_of, past_of-append, past_of-none, with_begun}
use Rattle.wdt_receiver_fsm.specs.Sets.{numbers}
use Rattle.wdt_receiver_fsm.proofs.ForCallers.{landed_more, landed_same}
use Rattle.wdt_pact.specs.Measure.{sum_to}
use Rattle.wdt_pact.proofs.Falls.{sum_change, sum_same}

flat_next : {A : Type 0} (f : ℕ → List A) (ks : List ℕ) (k : ℕ) → flat_map f (ks ++ k ∷ []) ≡ flat_map f ks ++ f k
flat_next f [] k = append-nil (f k)
flat_next f (j ∷ ks) k = ap (λ xs. f j ++ xs) (flat_next f ks k) ∙ sym (append_assoc (f j) (flat_map f ks) (f k))

-- of all lanes together
pub sum_lanes : {A : Type 0} (f : A → ℕ) (xs : ℕ → List A) (n : ℕ) → sum_by f (flat_map xs (numbers n)) ≡ sum_to n (λ k. sum_by f (xs k))
sum_lanes f xs zero = refl
sum_lanes f xs (suc n) = ap (sum_by f) (flat_next xs (numbers n) n) ∙ omega (arith, sum_by-append f (flat_map xs (numbers n)) (xs n), sum_lanes f xs n)

-- some more on one lane
pub sum_more : (n l : ℕ) (f g : ℕ → ℕ) (d : ℕ) → l < n → ((k : ℕ) → k < n → g k ≤ f k) → g l + d ≤ f l → sum_to n g + d ≤ sum_to n f
sum_more zero l f g d small all one = absurd (omega (arith, small))
sum_more (suc n) l f g d small all one = go (λ b. sum_more n l f g d b (λ k s. all k (omega (arith, s))) one) (sum_less n f g (λ k s. all k (omega (arith, s)))) (cases_eq l n) where
  sum_less : (m : ℕ) (f g : ℕ → ℕ) → ((k : ℕ) → k < m → g k ≤ f k) → sum_to m g ≤ sum_to m f
  sum_less zero f g all = omega arith
  sum_less (suc m) f g all = let a = sum_less m f g (λ k s. all k (omega (arith, s))) in let b : g m ≤ f m = all m (omega arith) in omega (arith, a, b)

  go : (l < n → sum_to n g + d ≤ sum_to n f) → sum_to n g ≤ sum_to n f → (l ≡ n) ⊎ (l ≢ n) → sum_to n g + g n + d ≤ sum_to n f + f n
  go later less (inl e) =
      let a : g l ≡ g n = ap g e in
      let b : f l ≡ f n = ap f e in
      omega (arith, less, one, a, b)
  go later less (inr ne) =
      let a : sum_to n g + d ≤ sum_to n f = later (omega (arith, small, ne)) in
      let b : g n ≤ f n = all n (omega arith) in
      omega (arith, a, b)

pub sum_map : {A B : Type 0} (f : B → ℕ) (h : A → B) (xs : List A) → sum_by f (map h xs) ≡ sum_by (λ x. f (h x)) xs
sum_map f h [] = refl
sum_map f h (x ∷ xs) = omega (arith, sum_by-cons f (h x) (map h xs), sum_by-cons (λ y. f (h y)) x xs, sum_map f h xs)

-- ---- the plan

count_lanes : (b : Block) (xs : ℕ → List Block) (n : ℕ) → count_of b (flat_map xs (numbers n)) ≡ total n (λ k. count_of b (xs k))
count_lanes b xs zero = count_of-nil b
count_lanes b xs (suc n) = ap (count_of b) (flat_next xs (numbers n) n) ∙ omega (arith, count_of-append b (flat_map xs (numbers n)) (xs n), count_lanes b xs n)

-- what is planned waits, or a lane keeps it
pub plan_sum : (f : Block → ℕ) (s : PlainSender) → HasPlaces s → sum_by f (blocks_of s) ≡ sum_by f (waiting_blocks s) + sum_to (length s.lanes) (λ k. sum_by f (past_at s k).claims.kept)
plan_sum f s has =
    let n : ℕ = length s.lanes in
    let kept : ℕ → List Block = λ k. (past_at s k).claims.kept in
    let all : List Block = waiting_blocks s ++ flat_map kept (numbers n) in
    let same : HaveSameBlocks (blocks_of s) all =
    λ b. omega (
      arith,
      has.shared b,
      ap (count_of b) (planned_now-is (blocks_of s) s.history),
      kept_total b n (λ l. (sent_past s.history l).claims),
      count_lanes b kept n,
      count_of-append b (waiting_blocks s) (flat_map kept (numbers n)),
    ) in
    omega (arith, sum_by-IsPermutation f (blocks_of s) all (permuted (blocks_of s) all same), sum_by-append f (waiting_blocks s) (flat_map kept (numbers n)), sum_lanes f kept n)

-- ---- what landed

module _ (f : Block → ℕ) (t : Terms) where
  abbrev SumsUp : List RecvEvent → Type 0
  SumsUp g = sum_by f (landed_of g) ≡ sum_to t.lanes (λ k. sum_by f (past_of g k).landed)

  landed_behind : (g : List RecvEvent) (e : RecvEvent) (k : ℕ) → (past_of (g ++ e ∷ []) k).landed ≡ (past_after k (past_of g k) e).landed
  landed_behind g e k = ap (λ (p : RecvPast). p.landed) (past_of-append g (e ∷ []) k)

  quiet : (g : List RecvEvent) (e : RecvEvent) → SumsUp g → lands_none e ≡ true → ((k : ℕ) (p : RecvPast) → (past_after k p e).landed ≡ p.landed) → SumsUp (g ++ e ∷ [])
  quiet g e sums none same =
      ap (sum_by f) (landed_same g e none)
      ∙ (sums ∙ sym (sum_same t.lanes (λ k. sum_by f (past_of g k).landed) (λ k. sum_by f (past_of (g ++ e ∷ []) k).landed) (λ k small. ap (sum_by f) (landed_behind g e k ∙ same k (past_of g k)))))

  lands : (g : List RecvEvent) (l : Lane) (b : Block) → SumsUp g → l.0 < t.lanes → (past_of g l.0).begun ≡ Some b → SumsUp (g ++ events.Land l ∷ [])
  lands g l b sums small begun =
      let e : RecvEvent = events.Land l in
      let more : landed_of (g ++ events.Land l ∷ []) ≡ landed_of g ++ b ∷ [] = landed_more g l ∙ ap (λ (o : Option Block). landed_of g ++ begun_list o) begun in
      let own : (past_of (g ++ events.Land l ∷ []) l.0).landed ≡ (past_of g l.0).landed ++ b ∷ [] =
      landed_behind g (events.Land l) l.0
      ∙ (ap (λ (y : Bool). if y then with_begun (past_of g l.0).landed (past_of g l.0).begun else (past_of g l.0).landed) (eq-eqb l.0 l.0 refl)
      ∙ ap (with_begun (past_of g l.0).landed) begun) in
      let change =
      sum_change t.lanes l.0 (λ k. sum_by f (past_of g k).landed) (λ k. sum_by f (past_of (g ++ events.Land l ∷ []) k).landed) small
      (λ k s ne. ap (sum_by f) (landed_behind g (events.Land l) k ∙ ap (λ (y : Bool). if y then with_begun (past_of g k).landed (past_of g k).begun else (past_of g k).landed) (ne_eqb l.0 k (λ x. ne (sym x))))) in
      let lane : sum_by f (past_of (g ++ events.Land l ∷ []) l.0).landed ≡ sum_by f (past_of g l.0).landed + sum_by f (b ∷ []) = ap (sum_by f) own ∙ sum_by-append f (past_of g l.0).landed (b ∷ []) in
      let all : sum_by f (landed_of (g ++ events.Land l ∷ [])) ≡ sum_by f (landed_of g) + sum_by f (b ∷ []) = ap (sum_by f) more ∙ sum_by-append f (landed_of g) (b ∷ []) in
      omega (arith, all, lane, change, sums)

  some_begun : (o : Option Block) → o ≢ None → (b : Block) × (o ≡ Some b)
  some_begun None ne = absurd (ne refl)
  some_begun (Some b) ne = (b, refl)

  one_more : (g : List RecvEvent) (e : RecvEvent) → SumsUp g → IsAllowed t g e → SumsUp (g ++ e ∷ [])
  one_more g (events.Land l) sums a = let x = some_begun (past_of g l.0).begun a.fits in lands g l x.0 sums a.speaks.within x.1
  one_more g (events.Begin l b) sums a = quiet g (events.Begin l b) sums refl (λ k p. refl)
  one_more g (events.Dropped l) sums a = quiet g (events.Dropped l) sums refl (λ k p. refl)
  one_more g (events.Take l n) sums a = quiet g (events.Take l n) sums refl (λ k p. refl)
  one_more g (events.NoLink l) sums a = quiet g (events.NoLink l) sums refl (λ k p. refl)
  one_more g (events.Met l s) sums a = quiet g (events.Met l s) sums refl (λ k p. refl)
  one_more g (events.Sized l files bytes) sums a = quiet g (events.Sized l files bytes) sums refl (λ k p. refl)
  one_more g (events.Idle l) sums a = quiet g (events.Idle l) sums refl (λ k p. refl)
  one_more g (events.Told l set) sums a = quiet g (events.Told l set) sums refl (λ k p. refl)
  one_more g (events.Close l) sums a = quiet g (events.Close l) sums refl (λ k p. refl)
  one_more g events.Finish sums a = quiet g events.Finish sums refl (λ k p. refl)
  one_more g (events.Acked l) sums a = quiet g (events.Acked l) sums refl (λ k p. refl)
  one_more g (events.Quit l) sums a = quiet g (events.Quit l) sums refl (λ k p. refl)
  one_more g (events.Abort l code) sums a = quiet g (events.Abort l code) sums refl (λ k p. refl)
  one_more g (events.Peer l kind) sums a = quiet g (events.Peer l kind) sums refl (λ k p. refl)

  all_more : (g es : List RecvEvent) → SumsUp g → legal_from t g es → SumsUp (g ++ es)
  all_more g [] sums legal = subst SumsUp (sym (append-nil g)) sums
  all_more g (e ∷ es) sums legal = subst SumsUp (append_assoc g (e ∷ []) es) (all_more (g ++ e ∷ []) es (one_more g e sums legal.0) legal.1)

  none_sum : (n : ℕ) → sum_to n (λ k. sum_by f (past_of [] k).landed) ≡ 0
  none_sum zero = refl
  none_sum (suc n) = omega (arith, none_sum n, ap (λ (p : RecvPast). sum_by f p.landed) (past_of-none n))

  landed_nothing : landed_of [] ≡ []
  unfolding landed_of
  landed_nothing = refl

  pub landed_sum : (g : List RecvEvent) → IsLegal t g → sum_by f (landed_of g) ≡ sum_to t.lanes (λ k. sum_by f (past_of g k).landed)
  unfolding IsLegal
  landed_sum g legal = all_more [] g (ap (sum_by f) landed_nothing ∙ sym (none_sum t.lanes)) legal
