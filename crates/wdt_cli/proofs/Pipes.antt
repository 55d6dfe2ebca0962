-- Pipes of all lanes of a copy, of which no call was made, and what serves a transfer.
use Rattle.std.proofs.Common.{◌≡◌, ℕ, ◌+◌, ◌<◌, zero, suc, List, [], ◌∷◌, ◌++◌, length, length-append, All, Option, Some, IfSome, refl, sym, ap, ◌∙◌, subst, arith}
use Rattle.std.proofs.lemmas.List.Elements.{All-push}
use Rattle.wdt_units.specs.declared.numbers.Lane.{Lane}
use Rattle.wdt_pipes.specs.Ends.{EndView, fails_of, new_end, new_ends}
use Rattle.wdt_words.specs.declared.command.Transfer.{Transfer}
use Rattle.wdt_cli.specs.Carried.{IsServed}

-- there is an end for each lane
pub ends_counted : (n : ℕ) (pairs : List (Lane × ℕ)) → length (new_ends n pairs) ≡ n
ends_counted zero pairs = refl
ends_counted (suc n) pairs = omega (arith, length-append (new_ends n pairs) (new_end (fails_of n pairs) ∷ []), ends_counted n pairs)

none_out : (n : ℕ) (pairs : List (Lane × ℕ)) → All (λ (end : EndView). end.out ≡ 0) (new_ends n pairs)
none_out zero pairs = λ k d within. absurd (omega (arith, within))
none_out (suc n) pairs = All-push (λ (end : EndView). end.out ≡ 0) (new_ends n pairs) (new_end (fails_of n pairs)) (none_out n pairs) refl

-- none has a connection out
pub ends_home : (ends : List EndView) (n : ℕ) (pairs : List (Lane × ℕ)) → ends ≡ new_ends n pairs → All (λ (end : EndView). end.out ≡ 0) ends
ends_home ends n pairs are = subst (All (λ (end : EndView). end.out ≡ 0)) (sym are) (none_out n pairs)

-- ---- what serves a transfer

-- as many of each serve it, too
pub serves_as : (found : Option Transfer) (s d a t e b : ℕ) → t ≡ s → e ≡ d → b ≡ a → IfSome found (λ transfer. IsServed transfer s d a) → IfSome found (λ transfer. IsServed transfer t e b)
serves_as found s d a t e b first second third served =
    subst (λ (x : ℕ). IfSome found (λ transfer. IsServed transfer x e b)) (sym first)
    (subst (λ (x : ℕ). IfSome found (λ transfer. IsServed transfer s x b)) (sym second)
    (subst (λ (x : ℕ). IfSome found (λ transfer. IsServed transfer s d x)) (sym third) served))

-- pipes for so many lanes
pub pipes_for : (ends : List EndView) (n : ℕ) (pairs : List (Lane × ℕ)) → ends ≡ new_ends n pairs → length ends ≡ n
pipes_for ends n pairs are = ap (λ (x : List EndView). length x) are ∙ ends_counted n pairs
