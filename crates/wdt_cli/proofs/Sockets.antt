-- Dialers and acceptors over TCP of all lanes, of which no call was made.
use Rattle.std.proofs.Common.{◌≡◌, ℕ, ◌+◌, ◌<◌, zero, suc, List, [], ◌∷◌, ◌++◌, length, length-append, All, Option, Some, None, IfSome, refl, sym, ap, ◌∙◌, subst, arith}
use Rattle.std.proofs.lemmas.List.Elements.{All-push}
use Rattle.wdt_tree.specs.Told.{ToldRun}
use Rattle.wdt_net.specs.Ends.{EndView, new_end, new_ends}
use Rattle.wdt_words.specs.declared.command.Transfer.{Transfer}
use Rattle.wdt_words.specs.declared.command.Transfer.TheVariants.{Copy, Send, Recv}
use Rattle.wdt_cli.specs.Carried.{stored_run}

-- there is an end for each lane
counted : (n port : ℕ) → length (new_ends n port) ≡ n
counted zero port = refl
counted (suc n) port = omega (arith, length-append (new_ends n port) (new_end (port + n) ∷ []), counted n port)

pub sockets_for : (ends : List EndView) (n port : ℕ) → ends ≡ new_ends n port → length ends ≡ n
sockets_for ends n port are = ap (λ (x : List EndView). length x) are ∙ counted n port

none_out : (n port : ℕ) → All (λ (end : EndView). end.out ≡ 0) (new_ends n port)
none_out zero port = λ k d within. absurd (omega (arith, within))
none_out (suc n) port = All-push (λ (end : EndView). end.out ≡ 0) (new_ends n port) (new_end (port + n)) (none_out n port) refl

-- none has a connection out
pub sockets_home : (ends : List EndView) (n port : ℕ) → ends ≡ new_ends n port → All (λ (end : EndView). end.out ≡ 0) ends
sockets_home ends n port are = subst (All (λ (end : EndView). end.out ≡ 0)) (sym are) (none_out n port)

-- ---- where there is none

-- none is within
pub none_within : {X : Type 0} (ends : List X) (k : ℕ) → ends ≡ [] → k < length ends → ⊥
none_within {X} ends k none within = go (subst (λ (x : List X). k < length x) none within) where
  go : k < 0 → ⊥
  go less = omega (arith, less)

pub none_for : {X : Type 0} (ends : List X) → ends ≡ [] → length ends ≡ 0
none_for {X} ends none = ap (λ (x : List X). length x) none

-- and a run that isn't told has nothing to be stored
pub none_stored : (words : Option Transfer) (P : ToldRun → Type 0) → IfSome (stored_run words None) P
none_stored None P = tt
none_stored (Some (Copy lanes block batch)) P = tt
none_stored (Some (Send port lanes block session)) P = tt
none_stored (Some (Recv port lanes batch)) P = tt
