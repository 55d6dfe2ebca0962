-- Programs of calls, one behind the other.
use Rattle.std.proofs.Common.{◌≡◌, ℕ, ◌≤◌, ◌+◌, ◌^◌, Option, Some, None, Bool, true, false, List, length, ap, ◌∙◌, refl, arith}
use Rattle.std.specs.Prelude.{if◌then◌else◌}
use Rattle.std.proofs.lemmas.Bool.Decides.{nat_tests}
use Rattle.std.proofs.lemmas.Option.{same_Some}
use Rattle.wdt_depot.specs.Disk.{Disk, wrote}
use Rattle.wdt_depot.specs.Programs.{Calls, Drive, IsQuiet, both, onward, torn_write}
use Rattle.wdt_depot.specs.State.{State, is_past_end}

-- no own fault came in either of two parts
pub quiet_parts : (s0 s1 s2 : State) → s0.own ≤ s1.own → s1.own ≤ s2.own → IsQuiet s0 s2 → IsQuiet s0 s1 × IsQuiet s1 s2
quiet_parts s0 s1 s2 one two quiet =
    let same = quiet.same in
    let below = quiet.below in
    (record { same = omega (arith, one, two, same); below = below }, record { same = omega (arith, one, two, same); below = omega (arith, one, two, same, below) })

-- the first answered Ok: the program goes on
pub calls_both : (f g : Drive → Bool × Drive) (ok : Bool) (a b c : Option Drive) → Calls f true a b → Calls g ok b c → Calls (both f g) ok a c
calls_both f g ok None None None p q = refl
calls_both f g ok None None (Some z) p q = cc
calls_both f g ok None (Some y) c p q = cc
calls_both f g ok (Some x) None c p q = cc
calls_both f g ok (Some x) (Some y) None p q = cc
calls_both f g ok (Some x) (Some y) (Some z) p q = ap (λ (r : Bool × Drive). Some (onward g r.0 r.1)) (same_Some _ _ p) ∙ q

-- the first failed: the program ends there
pub calls_first : (f g : Drive → Bool × Drive) (a b : Option Drive) → Calls f false a b → Calls (both f g) false a b
calls_first f g None None p = refl
calls_first f g None (Some y) p = cc
calls_first f g (Some x) None p = cc
calls_first f g (Some x) (Some y) p = ap (λ (r : Bool × Drive). Some (onward g r.0 r.1)) (same_Some _ _ p)

-- a write within the limit counts whole where it is struck
pub torn_within : (path : List ℕ) (offset : ℕ) (bytes : List ℕ) (pick : ℕ) (d : Disk) → offset + length bytes ≤ 2 ^ 41 → torn_write path offset bytes pick d ≡ wrote path offset bytes d
torn_within path offset bytes pick d h =
    let no : is_past_end offset (length bytes) ≡ false = grind (arith, nat_tests) in
    ap (λ (b : Bool). if b then d else wrote path offset bytes d) no
