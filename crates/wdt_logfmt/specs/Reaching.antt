-- What the front of a log leads to, whatever stands behind it. Torn writes change only what stands behind.
use Rattle.std.specs.Prelude.{◌≡◌, ℕ, ◌≤◌, List, ◌∷◌, ◌++◌, length}
use Rattle.wdt_logfmt.specs.View.{NamedFile, Meaning}
use Rattle.wdt_logfmt.specs.Meaning.{from_gate, log_meaning}

-- The bytes before a gate lead to these files, whatever the gate and what stands behind it.
abbrev pub Reaches : ℕ → List ℕ → List NamedFile → Type 0
Reaches version front fs =
    (gate : ℕ) (rest : List ℕ) → (fuel : ℕ) × (length rest ≤ fuel)
    × (log_meaning (front ++ gate ∷ rest) ≡ from_gate fuel (record { version = version; place = length front; files = fs; byte = gate; rest = rest }))

-- The bytes are a log of this version with this meaning: a gate other than 1 stands at the end, and what stands before it leads
-- to the files.
pub record EndsAt (version : ℕ) (bytes : List ℕ) (m : Meaning) : Type 0 where
  pub front : List ℕ
  pub gate : ℕ
  pub behind : List ℕ
  pub split : bytes ≡ front ++ gate ∷ behind
  pub place : length front ≡ m.end
  pub closed : gate ≡ 1 → ⊥
  pub reaches : Reaches version front m.files
