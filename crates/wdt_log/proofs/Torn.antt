-- What a crash leaves of a list of bytes of which a part was written over.
use Rattle.std.proofs.Common.{◌≡◌, ◌⊎◌, inl, inr, ℕ, suc, ◌+◌, ◌-◌, ◌<◌, ◌≤◌, List, [], ◌∷◌, ◌++◌, length, get_or, take, drop, replicate, refl, sym, ap, ◌∙◌, arith, append_assoc, length-append}
use Rattle.std.proofs.lemmas.List.{get_or-append-add, take_at, drop_at, drop-drop}
use Rattle.std.proofs.lemmas.Grind.{same_number_lists}
use Rattle.wdt_depot.specs.Disk.{IsFileImage, clean, spliced, write_file}
use Rattle.wdt_depot.proofs.ForCallers.{settled_after_write}

-- bytes written behind a front
pub over : (f tail bytes : List ℕ) (at : ℕ) → length f ≡ at → spliced (f ++ tail) at bytes ≡ f ++ (bytes ++ drop (length bytes) tail)
unfolding spliced
over f tail bytes at is =
    let n = length bytes in
    let gap : List ℕ = replicate (at - length (f ++ tail)) 0 in
    let front : take at ((f ++ tail) ++ gap) ≡ f = ap (take at) (append_assoc f tail gap) ∙ take_at f (tail ++ gap) at is in
    let back : drop (at + n) (f ++ tail) ≡ drop n tail = sym (drop-drop n at (f ++ tail)) ∙ ap (λ (l : List ℕ). drop n l) (drop_at f tail at is) in
    append_assoc (take at ((f ++ tail) ++ gap)) bytes (drop (at + n) (f ++ tail)) ∙ ap (λ (l : List ℕ). l ++ (bytes ++ drop (at + n) (f ++ tail))) front ∙ ap (λ (l : List ℕ). f ++ (bytes ++ l)) back

pub over_behind : (front : List ℕ) (gate : ℕ) (behind bytes : List ℕ) (end : ℕ) → length front ≡ end
    → spliced (front ++ gate ∷ behind) (end + 1) bytes ≡ front ++ gate ∷ (bytes ++ drop (length bytes) behind)
over_behind front gate behind bytes end is =
    ap (λ (l : List ℕ). spliced l (end + 1) bytes) (sym (append_assoc front (gate ∷ []) behind))
    ∙ over (front ++ gate ∷ []) behind bytes (end + 1) (omega (arith, length-append front (gate ∷ [])))
    ∙ append_assoc front (gate ∷ []) (bytes ++ drop (length bytes) behind)

-- a list that agrees with another on its front begins with it
front_stays : (f rest b : List ℕ) → length f ≤ length b → ((k : ℕ) → k < length f → get_or b k 0 ≡ get_or (f ++ rest) k 0) → (more : List ℕ) × (b ≡ f ++ more)
front_stays [] rest b le same = (b, refl)
front_stays (x ∷ f) rest [] le same = absurd (omega arith)
front_stays (x ∷ f) rest (y ∷ b) le same =
    let r = front_stays f rest b (omega arith) (λ k lt. same (suc k) (omega arith)) in
    let head : y ≡ x = same 0 (omega arith) in
    (r.0, λ i. head i ∷ r.1 i)

-- nothing up to the gate was written: the gate stands
pub left_behind : (front : List ℕ) (gate : ℕ) (behind bytes b : List ℕ) (end : ℕ) → length front ≡ end → IsFileImage (write_file (end + 1) bytes (clean (front ++ gate ∷ behind))) b → (more : List ℕ) × (b ≡ front ++ gate ∷ more)
unfolding clean write_file
left_behind front gate behind bytes b end place left =
    let before = front ++ gate ∷ behind in
    let f = front ++ gate ∷ [] in
    let long : length f ≡ length front + 1 = omega (arith, length-append front (gate ∷ [])) in
    let size : length before ≡ length front + suc (length behind) = omega (arith, length-append front (gate ∷ behind)) in
    let whole : spliced before (end + 1) bytes ≡ f ++ (bytes ++ drop (length bytes) behind) = over_behind front gate behind bytes end place ∙ sym (append_assoc front (gate ∷ []) (bytes ++ drop (length bytes) behind)) in
    let r = front_stays f (bytes ++ drop (length bytes) behind) b (omega (arith, left.no_shorter, long, size)) (λ k lt.
    left.fixed k (settled_after_write (end + 1) bytes (clean before) k (record { below = omega (arith, long, size); untouched = refl }) (inl (omega (arith, long, place))))
    ∙ ap (λ (l : List ℕ). get_or l k 0) whole) in
    (r.0, r.1 ∙ append_assoc front (gate ∷ []) r.0)

-- a list as long as another that has a byte behind the front
gate_of : (front more : List ℕ) (gate : ℕ) (behind : List ℕ) → length (front ++ more) ≡ length (front ++ gate ∷ behind) → (x : ℕ) × (tail : List ℕ) × (more ≡ x ∷ tail)
gate_of front [] gate behind long = absurd (omega (arith, length-append front [], length-append front (gate ∷ behind), long))
gate_of front (x ∷ tail) gate behind long = (x, tail, refl)

one_other : (front : List ℕ) (gate : ℕ) (behind b : List ℕ) → length b ≡ length (front ++ gate ∷ behind) → ((k : ℕ) → (k < length front) ⊎ (length front + 1 ≤ k) → k < length b → get_or b k 0 ≡ get_or (front ++ gate ∷ behind) k 0)
    → (x : ℕ) × (b ≡ front ++ x ∷ behind)
one_other front gate behind b long same =
    let size : length (front ++ gate ∷ behind) ≡ length front + suc (length behind) = omega (arith, length-append front (gate ∷ behind)) in
    let r = front_stays front (gate ∷ behind) b (omega (arith, long, size)) (λ k lt. same k (inl lt) (omega (arith, long, size))) in
    let g = gate_of front r.0 gate behind (ap length (sym r.1) ∙ long) in
    let whole : b ≡ front ++ g.0 ∷ g.1 = r.1 ∙ ap (λ (l : List ℕ). front ++ l) g.2 in
    let rest : length g.1 ≡ length behind = omega (arith, ap length whole, length-append front (g.0 ∷ g.1), long, size) in
    let tail : g.1 ≡ behind = same_number_lists g.1 behind rest (λ k lt.
    sym (get_or-append-add front (g.0 ∷ g.1) (suc k) 0) ∙ ap (λ (l : List ℕ). get_or l (length front + suc k) 0) (sym whole)
    ∙ same (length front + suc k) (inr (omega arith)) (omega (arith, long, size, rest))
    ∙ get_or-append-add front (gate ∷ behind) (suc k) 0) in
    (g.0, whole ∙ ap (λ (l : List ℕ). front ++ g.0 ∷ l) tail)

-- nothing but the gate was written: all else stands
pub left_gate : (front : List ℕ) (gate : ℕ) (behind b : List ℕ) (end : ℕ) → length front ≡ end → IsFileImage (write_file end (1 ∷ []) (clean (front ++ gate ∷ behind))) b → (x : ℕ) × (b ≡ front ++ x ∷ behind)
unfolding clean write_file
left_gate front gate behind b end place left =
    let before = front ++ gate ∷ behind in
    let whole : spliced before end (1 ∷ []) ≡ front ++ 1 ∷ behind = over front (gate ∷ behind) (1 ∷ []) end place in
    let size : length before ≡ length front + suc (length behind) = omega (arith, length-append front (gate ∷ behind)) in
    let same_size : length (front ++ 1 ∷ behind) ≡ length front + suc (length behind) = omega (arith, length-append front (1 ∷ behind)) in
    one_other front 1 behind b (omega (arith, left.no_shorter, left.no_longer, ap length whole, size, same_size)) (λ k out lt.
    left.fixed k (settled_after_write end (1 ∷ []) (clean before) k (record { below = omega (arith, left.no_longer, ap length whole, size, same_size); untouched = refl }) (elim out [ inl low ↦ inl (omega (arith, place)) | inr high ↦ inr (omega (arith, place)) ]))
    ∙ ap (λ (l : List ℕ). get_or l k 0) whole)
