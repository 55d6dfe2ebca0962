-- Bytes that are written, as far as they arrive.
use Rattle.std.proofs.Common.{◌≡◌, ℕ, ◌-◌, ◌≤◌, List, [], ◌∷◌, ◌++◌, length, take, Option, Some, None, Result, Ok, Err, ap, ◌∙◌, arith, zero, suc}
use Rattle.std.specs.Prelude.{IfSome, OnOk}
use Rattle.std.proofs.lemmas.List.{take_all, take_min}
use Rattle.wdt_wire.specs.Ways.{PlainWay, arriving, arriving_count, with_bytes}

-- what follows of a call that went well
pub through : {A E P Q : Type 0} (r : Result A E) → (P → Q) → OnOk r P → OnOk r Q
through (Ok x) f p = f p
through (Err e) f p = p

take_past : (n : ℕ) (xs ys : List ℕ) → length xs ≤ n → xs ++ take (n - length xs) ys ≡ take n (xs ++ ys)
take_past n [] ys le = let e : n - 0 ≡ n = omega arith in ap (λ (i : ℕ). take i ys) e
take_past zero (x ∷ xs) ys le = absurd (omega (arith, le))
take_past (suc n) (x ∷ xs) ys le =
    let e : suc n - length (x ∷ xs) ≡ n - length xs = omega arith in
    ap (λ (i : ℕ). x ∷ (xs ++ take i ys)) e ∙ ap (λ (zs : List ℕ). x ∷ zs) (take_past n xs ys (omega (arith, le)))

arrive : (untaken bytes : List ℕ) (room : Option ℕ) → IfSome room (λ r. length untaken ≤ r) → untaken ++ take (arriving_count room (length untaken) (length bytes)) bytes ≡ arriving room (untaken ++ bytes)
arrive untaken bytes None within = ap (λ (more : List ℕ). untaken ++ more) (take_all (length bytes) bytes (omega arith))
arrive untaken bytes (Some room) within = ap (λ (more : List ℕ). untaken ++ more) (take_min (room - length untaken) bytes) ∙ take_past room untaken bytes within

-- a direction behind a write
pub bytes-arrive : (untaken bytes added : List ℕ) (owed count waiting : ℕ) (room : Option ℕ) (now : PlainWay) → record { untaken = untaken; owed = owed; room = room } ≡ now → IfSome room (λ r. length untaken ≤ r)
    → waiting ≡ length untaken → count ≡ arriving_count room waiting (length bytes) → added ≡ untaken ++ take count bytes → record { untaken = added; owed = owed; room = room } ≡ with_bytes bytes now
bytes-arrive untaken bytes added owed count waiting room now view within long few is =
    let some : added ≡ arriving room (untaken ++ bytes) =
    is ∙ (ap (λ (n : ℕ). untaken ++ take n bytes) (few ∙ ap (λ (n : ℕ). arriving_count room n (length bytes)) long) ∙ arrive untaken bytes room within) in
    ap (λ (u : List ℕ). record { untaken = u; owed = owed; room = room }) some ∙ ap (with_bytes bytes) view
