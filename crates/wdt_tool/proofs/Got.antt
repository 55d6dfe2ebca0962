-- What a sink got of one put.
use Rattle.std.proofs.Common.{◌≡◌, ℕ, List, [], ◌∷◌, ◌++◌, length, take, Option, Some, None, Result, Ok, Err, refl, sym, ap, ◌∙◌, arith}
use Rattle.wdt_units.specs.Counts.{Rises, Stands, HasCause}
use Rattle.wdt_units.specs.Sinks.{Puts}
use Rattle.wdt_units.specs.declared.failures.Failed.{Failed}
use Rattle.wdt_tool.specs.Lines.{GotMost}

whole : (xs : List ℕ) → take (length xs) xs ≡ xs
whole [] = refl
whole (x ∷ xs) = ap (λ ys. x ∷ ys) (whole xs)

not_both : (old new : ℕ) → Rises old new → Stands old new → ⊥
not_both old new rose stood = omega (arith, rose.more stood.below, stood.same)

-- what a put leaves: all of its bytes, or a front of them where it failed
pub got-most : (line : List ℕ) (result : Result Unit Failed) (before after : ℕ) (old new : Option (List ℕ)) → HasCause result before after → Puts line result old new → GotMost line before after old new
got-most line result before after None new cause puts = puts
got-most line (Ok u) before after (Some old) new cause puts = (length line, puts ∙ ap (λ x. Some (old ++ x)) (sym (whole line)), λ stood. puts)
got-most line (Err e) before after (Some old) new cause puts = (puts.0, puts.1, λ stood. absurd (not_both before after cause.failed stood))
