-- A log that has a meaning leads to its files, whatever stands at its last gate and behind.
use Rattle.std.proofs.Common.{◌≡◌, inl, inr, ℕ, zero, suc, ◌+◌, ◌≤◌, Bool, true, false, List, [], ◌∷◌, ◌++◌, length, take, drop, Option, Some, None, Result, Ok, Err, refl, sym, ap, ◌∙◌, subst, arith, append_assoc, length-append, length-drop, take-append-drop}
use Rattle.std.specs.Prelude.{if◌then◌else◌, nat_le, bytes_eq}
use Rattle.std.proofs.lemmas.Bool.{cases_eq, eq-eqb, le-leb, leb-true}
use Rattle.std.proofs.lemmas.List.{take_at, drop_at, length-take-le}
use Rattle.std.proofs.lemmas.Slice.Eq.{bytes_eq-Decides}
use Rattle.byteorder.specs.Endian.{big_number}
use Rattle.byteorder.specs.Numbers.{big_from-append}
use Rattle.wdt_logfmt.specs.View.{NamedFile, Meaning}
use Rattle.wdt_logfmt.specs.Spelling.{header}
use Rattle.wdt_logfmt.specs.Meaning.{number, Gate, ok_then, with_entries, whole_batch, sized_batch, next_gate, from_gate, version_of, behind_header, log_meaning}
use Rattle.wdt_logfmt.specs.Reaching.{Reaches, EndsAt}
use Rattle.wdt_logfmt.proofs.Reach.{from_gate-closed, reaches-header}

-- The step to the next gate reads its batch alone.
record IsLocal (g h : Gate) : Type 0 where
  pub batch : List ℕ
  pub split : g.rest ≡ batch ++ h.byte ∷ h.rest
  pub place : h.place ≡ g.place + 1 + length batch
  pub version : h.version ≡ g.version
  pub again : (gate : ℕ) (rest : List ℕ) → sized_batch g.version (g.place + 1) g.files (number 4 (batch ++ gate ∷ rest)) ≡ Ok (record { version = g.version; place = h.place; files = h.files; byte = gate; rest = rest })

-- the same of what stands behind a batch's length
record IsLocalBody (version place : ℕ) (fs : List NamedFile) (body back : List ℕ) (h : Gate) : Type 0 where
  pub split : back ≡ h.byte ∷ h.rest
  pub there : h.place ≡ place + 4 + length body
  pub version_is : h.version ≡ version
  pub again : (gate : ℕ) (rest : List ℕ) → whole_batch version place fs body (gate ∷ rest) ≡ Ok (record { version = version; place = h.place; files = h.files; byte = gate; rest = rest })

abbrev gate_behind : ℕ → ℕ → ℕ → List ℕ → List NamedFile → Result Gate ℕ
gate_behind version place byte rest gs = Ok (record { version = version; place = place; files = gs; byte = byte; rest = rest })

record IsMade (version place : ℕ) (byte : ℕ) (rest : List ℕ) (r : Result (List NamedFile) ℕ) (h : Gate) : Type 0 where
  pub byte_is : byte ≡ h.byte
  pub rest_is : rest ≡ h.rest
  pub place_is : h.place ≡ place
  pub version_is : h.version ≡ version
  pub again : (gate : ℕ) (more : List ℕ) → ok_then r (gate_behind version place gate more) ≡ Ok (record { version = version; place = h.place; files = h.files; byte = gate; rest = more })

made : (version place byte : ℕ) (rest : List ℕ) (r : Result (List NamedFile) ℕ) (h : Gate) → ok_then r (gate_behind version place byte rest) ≡ Ok h → IsMade version place byte rest r h
made version place byte rest (Err e) h is = absurd (cc)
made version place byte rest (Ok gs) h is =
    let same : h ≡ record { version = version; place = place; files = gs; byte = byte; rest = rest } = cc in
    subst (IsMade version place byte rest (Ok gs)) (sym same) (record { byte_is = refl; rest_is = refl; place_is = refl; version_is = refl; again = λ gate more. refl })

body_local : (version place : ℕ) (fs : List NamedFile) (body back : List ℕ) (h : Gate) → whole_batch version place fs body back ≡ Ok h → IsLocalBody version place fs body back h
unfolding whole_batch
body_local version place fs body [] h is = absurd (cc)
body_local version place fs body (gate ∷ rest) h is =
    let m = made version (place + 4 + length body) gate rest (with_entries version (length body) (place + 4) fs body) h is in
    record { split = (λ i. m.byte_is i ∷ m.rest_is i); there = m.place_is; version_is = m.version_is; again = m.again }

number_is : (bytes : List ℕ) → 4 ≤ length bytes → number 4 bytes ≡ Some (big_number 4 bytes, drop 4 bytes)
unfolding number
number_is bytes le = ap (λ (b : Bool). if b then Some (big_number 4 bytes, drop 4 bytes) else None) (le-leb 4 (length bytes) le)

number_none : (bytes : List ℕ) → nat_le 4 (length bytes) ≡ false → number 4 bytes ≡ None
unfolding number
number_none bytes nay = ap (λ (b : Bool). if b then Some (big_number 4 bytes, drop 4 bytes) else None) nay

-- a number of four bytes whose tail is another
number_moved : (bytes tail : List ℕ) → 4 ≤ length bytes → number 4 (take 4 bytes ++ tail) ≡ Some (big_number 4 bytes, tail)
number_moved bytes tail le =
    let four : length (take 4 bytes) ≡ 4 = length-take-le 4 bytes le in
    let enough : 4 ≤ length (take 4 bytes) = omega (arith, four) in
    let value : big_number 4 (take 4 bytes ++ tail) ≡ big_number 4 bytes =
    big_from-append 4 (take 4 bytes) tail enough ∙ sym (big_from-append 4 (take 4 bytes) (drop 4 bytes) enough) ∙ ap (λ (l : List ℕ). big_number 4 l) (take-append-drop 4 bytes) in
    let rest : drop 4 (take 4 bytes ++ tail) ≡ tail = drop_at (take 4 bytes) tail 4 four in
    number_is (take 4 bytes ++ tail) (omega (arith, four, length-append (take 4 bytes) tail)) ∙ (λ i. Some (value i, rest i))

local_long : (g h : Gate) → 4 ≤ length g.rest → next_gate g ≡ Ok h → IsLocal g h
local_long g h le is =
    let n = big_number 4 g.rest in
    let more = drop 4 g.rest in
    let body = take n more in
    let b : IsLocalBody g.version (g.place + 1) g.files body (drop n more) h = body_local g.version (g.place + 1) g.files body (drop n more) h (ap (sized_batch g.version (g.place + 1) g.files) (sym (number_is g.rest le)) ∙ is) in
    let front : length (take 4 g.rest) ≡ 4 = length-take-le 4 g.rest le in
    let under : n ≤ length more = omega (arith, ap length b.split, length-drop n more) in
    let size : length body ≡ n = length-take-le n more under in
    let batch = take 4 g.rest ++ body in
    record {
      batch = batch;
      split = sym (take-append-drop 4 g.rest) ∙ ap (λ (l : List ℕ). take 4 g.rest ++ l) (sym (take-append-drop n more) ∙ ap (λ (l : List ℕ). body ++ l) b.split)
          ∙ sym (append_assoc (take 4 g.rest) body (h.byte ∷ h.rest));
      place = omega (arith, b.there, front, length-append (take 4 g.rest) body);
      version = b.version_is;
      again = λ gate rest.
          ap (λ (l : List ℕ). sized_batch g.version (g.place + 1) g.files (number 4 l)) (append_assoc (take 4 g.rest) body (gate ∷ rest))
          ∙ ap (sized_batch g.version (g.place + 1) g.files) (number_moved g.rest (body ++ gate ∷ rest) le)
          ∙ (λ i. whole_batch g.version (g.place + 1) g.files (take_at body (gate ∷ rest) n size i) (drop_at body (gate ∷ rest) n size i))
          ∙ b.again gate rest;
    }

local : (g h : Gate) → next_gate g ≡ Ok h → IsLocal g h
local g h is = go (nat_le 4 (length g.rest)) refl
  where
    go : (b : Bool) → nat_le 4 (length g.rest) ≡ b → IsLocal g h
    go true aye = local_long g h (leb-true 4 (length g.rest) aye) is
    go false nay = absurd (let none : sized_batch g.version (g.place + 1) g.files None ≡ Ok h = ap (sized_batch g.version (g.place + 1) g.files) (sym (number_none g.rest nay)) ∙ is in cc)

-- one batch on
step_from : (version : ℕ) (front batch : List ℕ) (fs : List NamedFile) (place : ℕ) (h : Gate) (gate : ℕ) (rest : List ℕ) (fuel : ℕ)
    → sized_batch version (length front + 1) fs (number 4 (batch ++ gate ∷ rest)) ≡ Ok (record { version = version; place = place; files = h.files; byte = gate; rest = rest })
    → place ≡ length (front ++ 1 ∷ batch)
    → length (batch ++ gate ∷ rest) ≤ fuel
    → log_meaning (front ++ 1 ∷ (batch ++ gate ∷ rest)) ≡ from_gate fuel (record { version = version; place = length front; files = fs; byte = 1; rest = batch ++ gate ∷ rest })
    → (fuel : ℕ) × (length rest ≤ fuel) × (log_meaning ((front ++ 1 ∷ batch) ++ gate ∷ rest) ≡ from_gate fuel (record { version = version; place = length (front ++ 1 ∷ batch); files = h.files; byte = gate; rest = rest }))
unfolding from_gate
step_from version front batch fs place h gate rest zero again there le is = absurd (omega (arith, length-append batch (gate ∷ rest)))
step_from version front batch fs place h gate rest (suc fuel) again there le is =
    let long : length rest ≤ fuel = omega (arith, length-append batch (gate ∷ rest)) in (
      fuel,
      long,
      ap log_meaning (append_assoc front (1 ∷ batch) (gate ∷ rest)) ∙ is ∙ ap (λ (r : Result Gate ℕ). ok_then r (from_gate fuel)) again
          ∙ ap (λ (p : ℕ). from_gate fuel (record { version = version; place = p; files = h.files; byte = gate; rest = rest })) there,
    )

reaches-next : (front : List ℕ) (g h : Gate) → Reaches g.version front g.files → g.place ≡ length front → (l : IsLocal g h) → Reaches g.version (front ++ 1 ∷ l.batch) h.files
reaches-next front g h reach at l gate rest =
    let r = reach 1 (l.batch ++ gate ∷ rest) in
    let again = subst (λ (p : ℕ). sized_batch g.version (p + 1) g.files (number 4 (l.batch ++ gate ∷ rest)) ≡ Ok (record { version = g.version; place = h.place; files = h.files; byte = gate; rest = rest })) at (l.again gate rest) in
    step_from g.version front l.batch g.files h.place h gate rest r.0 again (omega (arith, l.place, at, length-append front (1 ∷ l.batch))) r.1 r.2

closed_ends : (front : List ℕ) (g : Gate) (m : Meaning) → Reaches g.version front g.files → g.place ≡ length front → (g.byte ≡ 1 → ⊥) → m ≡ record { files = g.files; end = g.place } → EndsAt g.version (front ++ g.byte ∷ g.rest) m
closed_ends front g m reach at shut is =
    subst (EndsAt g.version (front ++ g.byte ∷ g.rest)) (sym is) (record { front = front; gate = g.byte; behind = g.rest; split = refl; place = sym at; closed = shut; reaches = reach })

split_ok : {A B : Type 0} (r : Result A ℕ) (f : A → Result B ℕ) (z : B) → ok_then r f ≡ Ok z → (y : A) × (r ≡ Ok y) × (f y ≡ Ok z)
split_ok (Err e) f z is = absurd (cc)
split_ok (Ok y) f z is = (y, refl, is)

ok_same : (m n : Meaning) (r : Result Meaning ℕ) → r ≡ Ok m → r ≡ Ok n → m ≡ n
ok_same m n r a b = cc

ends_from : (fuel : ℕ) (front : List ℕ) (g : Gate) (m : Meaning) → Reaches g.version front g.files → g.place ≡ length front → from_gate fuel g ≡ Ok m → EndsAt g.version (front ++ g.byte ∷ g.rest) m
unfolding from_gate
ends_from zero front g m reach at is = elim (cases_eq g.byte 1) [
  | inl one ↦
      let none : Err (g.place + 1) ≡ Ok m =
      sym (ap (λ (b : Bool). if b then Err (g.place + 1) else Ok (record { files = g.files; end = g.place })) (eq-eqb g.byte 1 one)) ∙ is in
      absurd (cc)
  | inr shut ↦ closed_ends front g m reach at shut (ok_same m _ (from_gate zero g) is (from_gate-closed zero g shut))
]
ends_from (suc fuel) front g m reach at is = elim (cases_eq g.byte 1) [
  | inl one ↦
      let goes : ok_then (next_gate g) (from_gate fuel) ≡ Ok m =
      sym (ap (λ (b : Bool). if b then ok_then (next_gate g) (from_gate fuel) else Ok (record { files = g.files; end = g.place })) (eq-eqb g.byte 1 one)) ∙ is in
      let next = split_ok (next_gate g) (from_gate fuel) m goes in
      let l = local g next.0 next.1 in
      let there : next.0.place ≡ length (front ++ 1 ∷ l.batch) = omega (arith, l.place, at, length-append front (1 ∷ l.batch)) in
      let leads : Reaches next.0.version (front ++ 1 ∷ l.batch) next.0.files = subst (λ (v : ℕ). Reaches v (front ++ 1 ∷ l.batch) next.0.files) (sym l.version) (reaches-next front g next.0 reach at l) in
      let ends = ends_from fuel (front ++ 1 ∷ l.batch) next.0 m leads there next.2 in
      let same : (front ++ 1 ∷ l.batch) ++ next.0.byte ∷ next.0.rest ≡ front ++ g.byte ∷ g.rest =
      append_assoc front (1 ∷ l.batch) (next.0.byte ∷ next.0.rest) ∙ (λ i. front ++ sym one i ∷ sym l.split i) in
      subst (λ (v : ℕ). EndsAt v (front ++ g.byte ∷ g.rest) m) l.version (subst (λ bytes. EndsAt next.0.version bytes m) same ends)
  | inr shut ↦ closed_ends front g m reach at shut (ok_same m _ (from_gate (suc fuel) g) is (from_gate-closed (suc fuel) g shut))
]

version-known : (b : Bool) (version : ℕ) → (if b then Some 1 else None) ≡ Some version → (b ≡ true) × (version ≡ 1)
version-known true version is = (refl, let same : 1 ≡ version = cc in sym same)
version-known false version is = absurd (cc)

-- A log with a meaning is of version 1 and ends at a closed gate, and its front leads to its files.
pub ends : (bytes : List ℕ) (m : Meaning) → log_meaning bytes ≡ Ok m → EndsAt 1 bytes m
unfolding log_meaning
ends bytes m is = go (version_of (take 6 bytes)) refl (drop 6 bytes) refl
  where
    go : (told : Option ℕ) → version_of (take 6 bytes) ≡ told → (rest : List ℕ) → drop 6 bytes ≡ rest → EndsAt 1 bytes m
    go None nay rest at = absurd (let none : Err 0 ≡ Ok m = (λ i. behind_header (sym nay i) (drop 6 bytes)) ∙ is in cc)
    go (Some version) aye [] at = absurd (let none : Err 0 ≡ Ok m = (λ i. behind_header (sym aye i) (sym at i)) ∙ is in cc)
    go (Some version) aye (gate ∷ rest) at =
        let known = version-known (bytes_eq (take 6 bytes) (header 1)) version aye in
        let first : take 6 bytes ≡ header 1 = (bytes_eq-Decides (take 6 bytes) (header 1)).0 known.0 in
        let whole : header 1 ++ gate ∷ rest ≡ bytes = (λ i. sym first i ++ sym at i) ∙ take-append-drop 6 bytes in
        let from : from_gate (length rest) (record { version = version; place = 6; files = []; byte = gate; rest = rest }) ≡ Ok m = (λ i. behind_header (sym aye i) (sym at i)) ∙ is in
        let leads : Reaches version (header 1) [] = subst (λ (v : ℕ). Reaches v (header 1) []) (sym known.1) reaches-header in
        subst (λ (v : ℕ). EndsAt v bytes m) known.1 (subst (λ l. EndsAt version l m) whole (ends_from (length rest) (header 1) (record { version = version; place = 6; files = []; byte = gate; rest = rest }) m leads refl from))
