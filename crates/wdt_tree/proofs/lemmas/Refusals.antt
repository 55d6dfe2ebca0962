-- A listing is accepted or refused for one thing.
use Rattle.std.proofs.Common.{◌≡◌, ◌≢◌, ℕ, ◌<◌, ◌≤◌, Bool, true, false, List, length, Some, None, Err, refl, sym, ap, ◌∙◌, arith, inl, inr}
use Rattle.std.proofs.lemmas.Bool.{cases_lt, cases_order}
use Rattle.std.proofs.lemmas.Option.{slice_get_past, same_Some, none-some}
use Rattle.wdt_tree.specs.declared.entry.Entry.{Entry}
use Rattle.wdt_tree.specs.declared.manifest.ManifestFail.{ManifestFail}
use Rattle.wdt_tree.specs.declared.manifest.ManifestFail.TheVariants.{TooMany, BadPath, Reserved, TooLarge, Twice, NoMemory}
use Rattle.wdt_tree.specs.Listing.{fault, is_twice, IsAccepted, IsFirstFault, IsFirstTwice, IsRefused, Refuses, NoFaultBefore}

no_fault_past : (listing : List Entry) (at : ℕ) → length listing ≤ at → fault listing at ≡ None
no_fault_past listing at past = rw (slice_get_past listing at past) refl

fault_within : (listing : List Entry) (at : ℕ) (fail : ManifestFail) → fault listing at ≡ Some fail → at < length listing
fault_within listing at fail here = elim (cases_lt at (length listing)) [
  | inl lt ↦ lt
  | inr past ↦ absurd (none-some fail (sym (no_fault_past listing at past) ∙ here))
]

-- where nothing is wrong with any file, none is the first with a fault
no_first_fault : (listing : List Entry) (fail : ManifestFail) → NoFaultBefore listing (length listing) → IsFirstFault listing fail → ⊥
no_first_fault listing fail right first =
    none-some fail (sym (right first.at (fault_within listing first.at fail first.here)) ∙ first.here)

first_fault_once : (listing : List Entry) (a b : ManifestFail) → IsFirstFault listing a → IsFirstFault listing b → a ≡ b
first_fault_once listing a b f g = elim (cases_order f.at g.at) [
  | inl same ↦ same_Some a b (sym f.here ∙ ap (fault listing) same ∙ g.here)
  | inr other ↦ elim other [
    | inl lt ↦ absurd (none-some a (sym (g.before f.at lt) ∙ f.here))
    | inr gt ↦ absurd (none-some b (sym (f.before g.at gt) ∙ g.here))
  ]
]

not_both : (b : Bool) → b ≡ true → b ≡ false → ⊥
not_both true t f = cc
not_both false t f = cc

first_twice_once : (listing : List Entry) (a b : ℕ) → IsFirstTwice listing a → IsFirstTwice listing b → a ≡ b
first_twice_once listing a b f g = elim (cases_order a b) [
  | inl same ↦ same
  | inr other ↦ elim other [
    | inl lt ↦ absurd (not_both (is_twice listing a) f.here (g.before a lt))
    | inr gt ↦ absurd (not_both (is_twice listing b) g.here (f.before b gt))
  ]
]

-- the three kinds of refusals
data Reason (listing : List Entry) (fail : ManifestFail) : Type 0 where
  many : 262144 < length listing → fail ≡ TooMany (length listing) → Reason listing fail
  wrong : IsFirstFault listing fail → Reason listing fail
  double : (at : ℕ) → fail ≡ Twice at → IsFirstTwice listing at → Reason listing fail

reason : (listing : List Entry) (fail : ManifestFail) → IsRefused listing fail → Reason listing fail
reason listing (TooMany count) h = many h.0 (ap TooMany h.1)
reason listing (Twice at) h = double at refl h
reason listing NoMemory h = absurd h
reason listing (BadPath at) h = wrong h
reason listing (Reserved at) h = wrong h
reason listing (TooLarge at) h = wrong h

once : (listing : List Entry) (a b : ManifestFail) → Reason listing a → Reason listing b → a ≡ b
once listing a b (many lt e) (many lt2 e2) = e ∙ sym e2
once listing a b (many lt e) (wrong f) = absurd (omega (arith, f.few))
once listing a b (many lt e) (double at e2 f) = absurd (omega (arith, f.few))
once listing a b (wrong f) (many lt e) = absurd (omega (arith, f.few))
once listing a b (wrong f) (wrong g) = first_fault_once listing a b f g
once listing a b (wrong f) (double at e g) = absurd (no_first_fault listing a g.right f)
once listing a b (double at e f) (many lt e2) = absurd (omega (arith, f.few))
once listing a b (double at e f) (wrong g) = absurd (no_first_fault listing b f.right g)
once listing a b (double at e f) (double at2 e2 g) = e ∙ ap Twice (first_twice_once listing at at2 f g) ∙ sym e2

none : (listing : List Entry) (fail : ManifestFail) → IsAccepted listing → Reason listing fail → ⊥
none listing fail ok (many lt e) = absurd (omega (arith, ok.few))
none listing fail ok (wrong f) = no_first_fault listing fail ok.right f
none listing fail ok (double at e f) = not_both (is_twice listing at) f.here (ok.once at f.within)

-- a listing that is accepted is refused for nothing
pub accepts : (listing : List Entry) → IsAccepted listing → (fail : ManifestFail) → IsRefused listing fail → ⊥
accepts listing ok fail refused = none listing fail ok (reason listing fail refused)

-- a listing that is refused for one thing is refused for nothing else
pub refuses : (A : Type 0) (listing : List Entry) (given : ManifestFail) → (given ≢ NoMemory → IsRefused listing given) → (fail : ManifestFail) → IsRefused listing fail
    → Refuses {A = A} (Err given) fail
refuses A listing NoMemory h fail refused = tt
refuses A listing (TooMany count) h fail refused = once listing (TooMany count) fail (reason listing (TooMany count) (h (λ e. cc))) (reason listing fail refused)
refuses A listing (Twice at) h fail refused = once listing (Twice at) fail (reason listing (Twice at) (h (λ e. cc))) (reason listing fail refused)
refuses A listing (BadPath at) h fail refused = once listing (BadPath at) fail (reason listing (BadPath at) (h (λ e. cc))) (reason listing fail refused)
refuses A listing (Reserved at) h fail refused = once listing (Reserved at) fail (reason listing (Reserved at) (h (λ e. cc))) (reason listing fail refused)
refuses A listing (TooLarge at) h fail refused = once listing (TooLarge at) fail (reason listing (TooLarge at) (h (λ e. cc))) (reason listing fail refused)
