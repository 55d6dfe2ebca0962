-- Flags over several steps.
use Rattle.std.proofs.Common.{◌≡◌, ℕ, ◌||◌, inl, inr, Bool, true, false, refl, arith}
use Rattle.wdt_units.proofs.Shared.{rises_wider}
use Rattle.wdt_lanes.specs.Held.{Flagged, RoseFor}

pub flagged_none : (was : Bool) (n : ℕ) → Flagged was was n n
flagged_none was n = record { later = omega arith; rose = λ e. inl e }

pub rose_none : (n : ℕ) → RoseFor false n n
rose_none n = record { later = omega arith; rose = λ e. cc }

-- a flag that came with a rise, or that was there with one before
pub rose_on : (x y : Bool) (a b c : ℕ) → RoseFor x a b → Flagged x y b c → RoseFor y a c
rose_on x y a b c p q =
    record {
      later = omega (arith, p.later, q.later);
      rose = λ e. elim (q.rose e) [ inl f ↦ rises_wider a a b c (omega arith) q.later (p.rose f) | inr r ↦ rises_wider a b c c p.later (omega arith) r ];
    }

-- a flag that is set where something came
pub noted : (was came test : Bool) (a b : ℕ) → test ≡ came → RoseFor came a b → Flagged was (was || test) a b
noted true came test a b e r = record { later = r.later; rose = λ h. inl refl }
noted false came test a b e r = record { later = r.later; rose = λ h. inr (r.rose cc) }
