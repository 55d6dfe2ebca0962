-- Lines by their numbers.
use Rattle.std.proofs.Common.{◌≡◌, ℕ, zero, suc, ◌-◌, ◌<◌, ◌≤◌, List, [], ◌∷◌, drop, length, refl, ap, ◌∙◌, arith}
use Rattle.std.proofs.lemmas.List.{drop_all}
use Rattle.wdt_script.specs.Lines.{item_or_nothing, lines_of}

later : (line : List ℕ) (lines : List (List ℕ)) (n : ℕ) → 1 < n → item_or_nothing (line ∷ lines) n ≡ item_or_nothing lines (n - 1)
later line lines zero lt = absurd (omega arith)
later line lines (suc zero) lt = absurd (omega arith)
later line lines (suc (suc n)) lt = let e : suc n ≡ suc (suc n) - 1 = omega arith in ap (item_or_nothing lines) e

-- behind the first line the numbers are one less
pub next-item : (rest line more : List ℕ) (n : ℕ) → lines_of rest ≡ line ∷ lines_of more → 1 < n → item_or_nothing (lines_of rest) n ≡ item_or_nothing (lines_of more) (n - 1)
next-item rest line more n cut lt = ap (λ (ls : List (List ℕ)). item_or_nothing ls n) cut ∙ later line (lines_of more) n lt

first : (line : List ℕ) (lines : List (List ℕ)) (n : ℕ) → n ≤ 1 → item_or_nothing (line ∷ lines) n ≡ line
first line lines zero le = refl
first line lines (suc zero) le = refl
first line lines (suc (suc n)) le = absurd (omega arith)

-- the first line is that of number 1
pub first-item : (rest line more : List ℕ) (n : ℕ) → lines_of rest ≡ line ∷ lines_of more → n ≤ 1 → item_or_nothing (lines_of rest) n ≡ line
first-item rest line more n cut le = ap (λ (ls : List (List ℕ)). item_or_nothing ls n) cut ∙ first line (lines_of more) n le

-- behind the last line there is none
pub no-item : (bytes : List ℕ) (start n : ℕ) → length bytes ≤ start → item_or_nothing (lines_of (drop start bytes)) n ≡ []
unfolding lines_of
no-item bytes start n over = ap (λ (rest : List ℕ). item_or_nothing (lines_of rest) n) (drop_all start bytes over)
