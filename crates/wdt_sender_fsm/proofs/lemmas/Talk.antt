-- Two ends that speak in turn, where in no phase both have the word.
use Rattle.std.proofs.Common.{◌≡◌, List, [], ◌∷◌, ◌++◌, Option, Some, None, subst, sym, ap, ◌∙◌, inl, inr, refl}
use Rattle.std.specs.Option.{option_and_then}
use Rattle.std.proofs.lemmas.Option.{same_Some}
use Rattle.wdt_sender_fsm.specs.Talk.{moved, Talk, OneTalker}

-- a message behind others has its move
pub moved-more : {P M : Type 0} (move : P → M → Option P) (r : P) (ms : List M) (s t : P) (m : M) → moved move ms r ≡ Some s → move s m ≡ Some t → moved move (ms ++ m ∷ []) r ≡ Some t
moved-more {P} {M} move r [] s t m a b = go (move r m) (ap (λ q. move q m) (same_Some r s a) ∙ b) where
  go : (o : Option P) → o ≡ Some t → option_and_then (moved move []) o ≡ Some t
  go None x = cc
  go (Some q) x = x
moved-more {P} {M} move r (d ∷ ds) s t m a b = go (λ q x. moved-more move q ds s t m x b) (move r d) a where
  go : ((q : P) → moved move ds q ≡ Some s → moved move (ds ++ m ∷ []) q ≡ Some t) → (o : Option P) → option_and_then (moved move ds) o ≡ Some s → option_and_then (moved move (ds ++ m ∷ [])) o ≡ Some t
  go f None x = cc
  go f (Some q) x = f q x

-- the first of some messages has its move, and the others theirs behind it
pub moved-first : {P M : Type 0} (move : P → M → Option P) (r s : P) (m : M) (ms : List M) → moved move (m ∷ ms) r ≡ Some s → (q : P) × (move r m ≡ Some q) × (moved move ms q ≡ Some s)
moved-first {P} {M} move r s m ms a = go (move r m) refl a where
  go : (o : Option P) → move r m ≡ o → option_and_then (moved move ms) o ≡ Some s → (q : P) × (move r m ≡ Some q) × (moved move ms q ≡ Some s)
  go None is x = cc
  go (Some q) is x = (q, is, x)

-- one end says something: nothing is on its way to it then
pub says : {P D U : Type 0} (down : P → D → Option P) (up : P → U → Option P) → OneTalker down up → (s r t : P) (ds : List D) (us : List U) (m : D) → Talk down up s r ds us → down s m ≡ Some t → Talk down up t r (ds ++ m ∷ []) us
says down up one s r t ds us m (inl a) e = inl (a.0, moved-more down r ds s t m a.1 e)
says {P} {D} {U} down up one s r t ds [] m (inr a) e = inl (refl, moved-more down r ds s t m (subst (λ (xs : List D). moved down xs r ≡ Some s) (sym a.0) (ap (λ x. Some x) (sym (same_Some s r a.1)))) e)
says down up one s r t ds (u ∷ us) m (inr a) e = let f = moved-first up s r u us a.1 in absurd (one s t f.0 m u e f.1)

-- what the other end hears has its move
pub hears : {P D U : Type 0} (down : P → D → Option P) (up : P → U → Option P) (s r : P) (ds : List D) (us : List U) (m : D) → Talk down up s r (m ∷ ds) us → (q : P) × (down r m ≡ Some q) × Talk down up s q ds us
hears down up s r ds us m (inl a) = let f = moved-first down r s m ds a.1 in (f.0, f.1, inl (a.0, f.2))
hears down up s r ds us m (inr a) = cc

-- the talk as the other end sees it
pub turned : {P D U : Type 0} (down : P → D → Option P) (up : P → U → Option P) (s r : P) (ds : List D) (us : List U) → Talk down up s r ds us → Talk up down r s us ds
turned down up s r ds us (inl a) = inr a
turned down up s r ds us (inr a) = inl a

pub turned_talker : {P D U : Type 0} (down : P → D → Option P) (up : P → U → Option P) → OneTalker down up → OneTalker up down
turned_talker down up one p q r u m e f = one p r q m u f e
