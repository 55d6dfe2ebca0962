-- A lawful path goes through the scan.
use Rattle.std.proofs.Common.{◌≡◌, ◌≢◌, ℕ, zero, suc, ◌+◌, ◌/◌, ◌%◌, ◌<◌, ◌≤◌, Bool, true, false, List, [], ◌∷◌, ◌++◌, length, Some, refl, sym, ap, subst, ◌∙◌, arith, inl, inr, ◌⊎◌}
use lib.Utf8.{scalar, scalars, encode, encodes, scalar_cases}
use mathlib.Core.Bool.{◌&&◌}
use Rattle.std.specs.List.{AllByRecursion}
use Rattle.std.proofs.lemmas.Bool.{cases_lt, cases_eq, lt-ltb, le-ltb, le-leb, ne_eqb, eq-eqb}
use Rattle.wdt_units.specs.declared.scan.PathScan.{PathScan}
use Rattle.wdt_units.specs.declared.scan.PathScan.TheVariants.{Start, Dot, Dots, Plain, Last, Two, Three, AfterE0, AfterEd, AfterF0, AfterF4}
use Rattle.wdt_units.specs.Scan.{lead, among, next, need, leaves, or_plain, scan_after}
use Rattle.wdt_units.proofs.lemmas.PathBytes.{Ends}
use Rattle.wdt_units.proofs.lemmas.PathParts.{first_part, other_parts, IsPart, NoZero, IsParted, begun, PartsFrom, IsPart-plain}

go : (n b : ℕ) (s s' : PathScan) (rest : List ℕ) → next s b ≡ Some s' → b < 256 → need s' ≤ n → Ends n s' rest → Ends (suc n) s (b ∷ rest)
go n b s s' rest is lt le e =
    let after : scan_after s b ≡ s' = ap or_plain is in
    ((ap (leaves n) is ∙ le-leb (need s') n le, lt), subst (λ (z : PathScan). Ends n z rest) (sym after) e)

among_go : (low high y : ℕ) (s : PathScan) → low ≤ y → y ≤ high → among low high s y ≡ Some s
among_go low high y s a b = rw (le-ltb y low a, le-ltb high y b) refl

-- a character may begin here
abbrev pub Opens : PathScan → Type 0
Opens s = (b : ℕ) → 128 ≤ b → next s b ≡ lead b

last : (n y : ℕ) (rest : List ℕ) → 128 ≤ y → y ≤ 191 → Ends n Plain rest → Ends (suc n) Last (y ∷ rest)
last n y rest a b e = go n y Last Plain rest (among_go 128 191 y Plain a b) (omega arith) (omega arith) e

two : (n y z : ℕ) (rest : List ℕ) → 128 ≤ y → y ≤ 191 → 128 ≤ z → z ≤ 191 → Ends n Plain rest → Ends (suc (suc n)) Two (y ∷ z ∷ rest)
two n y z rest a b c d e = go (suc n) y Two Last (z ∷ rest) (among_go 128 191 y Last a b) (omega arith) (omega arith) (last n z rest c d e)

char2 : (c n : ℕ) (s : PathScan) (rest : List ℕ) → Opens s → 128 ≤ c → c < 2048 → Ends n Plain rest → Ends (suc (suc n)) s ((192 + c / 64) ∷ (128 + c % 64) ∷ rest)
char2 c n s rest o a b e =
    let is : lead (192 + c / 64) ≡ Some Last = rw (le-ltb (192 + c / 64) 1 (omega arith), le-ltb (192 + c / 64) 128 (omega arith), le-ltb (192 + c / 64) 194 (omega arith), lt-ltb (192 + c / 64) 224 (omega arith)) refl in
    go (suc n) (192 + c / 64) s Last ((128 + c % 64) ∷ rest) (o (192 + c / 64) (omega arith) ∙ is) (omega arith) (omega arith) (last n (128 + c % 64) rest (omega arith) (omega arith) e)

char3 : (c n b y z : ℕ) (s : PathScan) (rest : List ℕ) → Opens s → 2048 ≤ c → c < 65536 → (c < 55296) ⊎ (57344 ≤ c) → b ≡ 224 + c / 4096 → y ≡ 128 + c / 64 % 64 → z ≡ 128 + c % 64 → Ends n Plain rest → Ends (suc (suc (suc n))) s (b ∷ y ∷ z ∷ rest)
char3 c n b y z s rest o a k sc eb ey ez e =
    elim (cases_lt b 225) [
      | inl h1 ↦
          let is : lead b ≡ Some AfterE0 = rw (le-ltb b 1 (omega arith), le-ltb b 128 (omega arith), le-ltb b 194 (omega arith), le-ltb b 224 (omega arith), lt-ltb b 225 h1) refl in
          go (suc (suc n)) b s AfterE0 (y ∷ z ∷ rest) (o b (omega arith) ∙ is) (omega arith) (omega arith)
          (go (suc n) y AfterE0 Last (z ∷ rest) (among_go 160 191 y Last (omega arith) (omega arith)) (omega arith) (omega arith) (last n z rest (omega arith) (omega arith) e))
      | inr h1 ↦ elim (cases_lt b 237) [
        | inl h2 ↦
            let is : lead b ≡ Some Two = rw (le-ltb b 1 (omega arith), le-ltb b 128 (omega arith), le-ltb b 194 (omega arith), le-ltb b 224 (omega arith), le-ltb b 225 h1, lt-ltb b 237 h2) refl in
            go (suc (suc n)) b s Two (y ∷ z ∷ rest) (o b (omega arith) ∙ is) (omega arith) (omega arith) (two n y z rest (omega arith) (omega arith) (omega arith) (omega arith) e)
        | inr h2 ↦ elim (cases_lt b 238) [
          | inl h3 ↦
              let is : lead b ≡ Some AfterEd = rw (le-ltb b 1 (omega arith), le-ltb b 128 (omega arith), le-ltb b 194 (omega arith), le-ltb b 224 (omega arith), le-ltb b 225 h1, le-ltb b 237 h2, lt-ltb b 238 h3) refl in
              let low : c < 55296 = elim sc [ inl l ↦ l | inr g ↦ absurd (omega arith) ] in
              go (suc (suc n)) b s AfterEd (y ∷ z ∷ rest) (o b (omega arith) ∙ is) (omega arith) (omega arith)
              (go (suc n) y AfterEd Last (z ∷ rest) (among_go 128 159 y Last (omega arith) (omega arith)) (omega arith) (omega arith) (last n z rest (omega arith) (omega arith) e))
          | inr h3 ↦
              let is : lead b ≡ Some Two = rw (le-ltb b 1 (omega arith), le-ltb b 128 (omega arith), le-ltb b 194 (omega arith), le-ltb b 224 (omega arith), le-ltb b 225 h1, le-ltb b 237 h2, le-ltb b 238 h3, lt-ltb b 240 (omega arith)) refl in
              go (suc (suc n)) b s Two (y ∷ z ∷ rest) (o b (omega arith) ∙ is) (omega arith) (omega arith) (two n y z rest (omega arith) (omega arith) (omega arith) (omega arith) e)
        ]
      ]
    ]

char4 : (c n b y z w : ℕ) (s : PathScan) (rest : List ℕ) → Opens s → 65536 ≤ c → c < 1114112 → b ≡ 240 + c / 262144 → y ≡ 128 + c / 4096 % 64 → z ≡ 128 + c / 64 % 64 → w ≡ 128 + c % 64 → Ends n Plain rest → Ends (suc (suc (suc (suc n)))) s (b ∷ y ∷ z ∷ w ∷ rest)
char4 c n b y z w s rest o a k eb ey ez ew e =
    let after : Ends (suc (suc n)) Two (z ∷ w ∷ rest) = two n z w rest (omega arith) (omega arith) (omega arith) (omega arith) e in
    elim (cases_lt b 241) [
      | inl h1 ↦
          let is : lead b ≡ Some AfterF0 = rw (le-ltb b 1 (omega arith), le-ltb b 128 (omega arith), le-ltb b 194 (omega arith), le-ltb b 224 (omega arith), le-ltb b 225 (omega arith), le-ltb b 237 (omega arith), le-ltb b 238 (omega arith), le-ltb b 240 (omega arith), lt-ltb b 241 h1) refl in
          go (suc (suc (suc n))) b s AfterF0 (y ∷ z ∷ w ∷ rest) (o b (omega arith) ∙ is) (omega arith) (omega arith)
          (go (suc (suc n)) y AfterF0 Two (z ∷ w ∷ rest) (among_go 144 191 y Two (omega arith) (omega arith)) (omega arith) (omega arith) after)
      | inr h1 ↦ elim (cases_lt b 244) [
        | inl h2 ↦
            let is : lead b ≡ Some Three = rw (le-ltb b 1 (omega arith), le-ltb b 128 (omega arith), le-ltb b 194 (omega arith), le-ltb b 224 (omega arith), le-ltb b 225 (omega arith), le-ltb b 237 (omega arith), le-ltb b 238 (omega arith), le-ltb b 240 (omega arith), le-ltb b 241 h1, lt-ltb b 244 h2) refl in
            go (suc (suc (suc n))) b s Three (y ∷ z ∷ w ∷ rest) (o b (omega arith) ∙ is) (omega arith) (omega arith)
            (go (suc (suc n)) y Three Two (z ∷ w ∷ rest) (among_go 128 191 y Two (omega arith) (omega arith)) (omega arith) (omega arith) after)
        | inr h2 ↦
            let is : lead b ≡ Some AfterF4 = rw (le-ltb b 1 (omega arith), le-ltb b 128 (omega arith), le-ltb b 194 (omega arith), le-ltb b 224 (omega arith), le-ltb b 225 (omega arith), le-ltb b 237 (omega arith), le-ltb b 238 (omega arith), le-ltb b 240 (omega arith), le-ltb b 241 h1, le-ltb b 244 h2, lt-ltb b 245 (omega arith)) refl in
            go (suc (suc (suc n))) b s AfterF4 (y ∷ z ∷ w ∷ rest) (o b (omega arith) ∙ is) (omega arith) (omega arith)
            (go (suc (suc n)) y AfterF4 Two (z ∷ w ∷ rest) (among_go 128 143 y Two (omega arith) (omega arith)) (omega arith) (omega arith) after)
      ]
    ]

opens : (s : PathScan) → ((s ≡ Start) ⊎ (s ≡ Dot)) ⊎ ((s ≡ Dots) ⊎ (s ≡ Plain)) → Opens s
opens s (inl (inl e)) b h = ap (λ (x : PathScan). next x b) e ∙ rw (ne_eqb b 47 (λ z. omega arith), ne_eqb b 46 (λ z. omega arith)) refl ∙ refl
opens s (inl (inr e)) b h = ap (λ (x : PathScan). next x b) e ∙ rw (ne_eqb b 47 (λ z. omega arith), ne_eqb b 46 (λ z. omega arith)) refl
opens s (inr (inl e)) b h = ap (λ (x : PathScan). next x b) e ∙ rw (ne_eqb b 47 (λ z. omega arith)) refl
opens s (inr (inr e)) b h = ap (λ (x : PathScan). next x b) e ∙ rw (ne_eqb b 47 (λ z. omega arith)) refl

-- where a path may go on there is a byte
room_start : (rest : List ℕ) → IsPart (first_part rest) → 1 ≤ length rest
room_start [] p = absurd (p.0 refl)
room_start (x ∷ rest) p = omega arith

room_dot : (rest : List ℕ) → IsPart (46 ∷ first_part rest) → 1 ≤ length rest
room_dot [] p = absurd (p.1 refl)
room_dot (x ∷ rest) p = omega arith

room_dots : (rest : List ℕ) → IsPart (46 ∷ 46 ∷ first_part rest) → 1 ≤ length rest
room_dots [] p = absurd (p.2 refl)
room_dots (x ∷ rest) p = omega arith

lead_ascii : (b : ℕ) → b ≢ 0 → b < 128 → lead b ≡ Some Plain
lead_ascii b ne h = rw (le-ltb b 1 (omega (arith, ne_zero b ne)), lt-ltb b 128 h) refl where
  ne_zero : (b : ℕ) → b ≢ 0 → 1 ≤ b
  ne_zero zero n = absurd (n refl)
  ne_zero (suc b) n = omega arith

-- what is left of the parts behind a byte that is no `/`
past : (b : ℕ) (s : PathScan) (rest : List ℕ) → b ≢ 47 → PartsFrom s (b ∷ rest) → IsPart (begun s ++ b ∷ first_part rest) × AllByRecursion IsPart (other_parts rest)
past b s rest ne p = rw (ne_eqb b 47 ne) at p

ascii_go : (b : ℕ) (s : PathScan) (rest : List ℕ) → b < 128 → b ≢ 0 → NoZero rest → ((t : PathScan) → ((t ≡ Start) ⊎ (t ≡ Dot)) ⊎ ((t ≡ Dots) ⊎ (t ≡ Plain)) → PartsFrom t rest → Ends (length rest) t rest)
    → ((s ≡ Start) ⊎ (s ≡ Dot)) ⊎ ((s ≡ Dots) ⊎ (s ≡ Plain)) → PartsFrom s (b ∷ rest) → Ends (suc (length rest)) s (b ∷ rest)
ascii_go b Start rest lt nz z ih at p =
    elim (cases_eq b 47) [
      | inl h ↦ absurd (let q = rw (eq-eqb b 47 h) at p in q.0.0 refl)
      | inr h ↦
          let q = past b Start rest h p in
          elim (cases_eq b 46) [
            | inl k ↦
                let r : PartsFrom Dot rest = (subst (λ (x : ℕ). IsPart (x ∷ first_part rest)) k q.0, q.1) in
                go (length rest) b Start Dot rest (rw (ne_eqb b 47 h, eq-eqb b 46 k) refl) (omega arith) (room_dot rest r.0) (ih Dot (inl (inr refl)) r)
            | inr k ↦ go (length rest) b Start Plain rest (rw (ne_eqb b 47 h, ne_eqb b 46 k) (lead_ascii b nz lt)) (omega arith) (omega arith) (ih Plain (inr (inr refl)) (IsPart-plain (first_part rest), q.1))
          ]
    ]
ascii_go b Dot rest lt nz z ih at p =
    elim (cases_eq b 47) [
      | inl h ↦ absurd (let q = rw (eq-eqb b 47 h) at p in q.0.1 refl)
      | inr h ↦
          let q = past b Dot rest h p in
          elim (cases_eq b 46) [
            | inl k ↦
                let r : PartsFrom Dots rest = (subst (λ (x : ℕ). IsPart (46 ∷ x ∷ first_part rest)) k q.0, q.1) in
                go (length rest) b Dot Dots rest (rw (ne_eqb b 47 h, eq-eqb b 46 k) refl) (omega arith) (room_dots rest r.0) (ih Dots (inr (inl refl)) r)
            | inr k ↦ go (length rest) b Dot Plain rest (rw (ne_eqb b 47 h, ne_eqb b 46 k) (lead_ascii b nz lt)) (omega arith) (omega arith) (ih Plain (inr (inr refl)) (IsPart-plain (first_part rest), q.1))
          ]
    ]
ascii_go b Dots rest lt nz z ih at p =
    elim (cases_eq b 47) [
      | inl h ↦ absurd (let q = rw (eq-eqb b 47 h) at p in q.0.2 refl)
      | inr h ↦
          let q = past b Dots rest h p in
          go (length rest) b Dots Plain rest (rw (ne_eqb b 47 h) (lead_ascii b nz lt)) (omega arith) (omega arith) (ih Plain (inr (inr refl)) (IsPart-plain (first_part rest), q.1))
    ]
ascii_go b Plain rest lt nz z ih at p =
    elim (cases_eq b 47) [
      | inl h ↦
          let q = rw (eq-eqb b 47 h) at p in
          let r : PartsFrom Start rest = (q.1.0, q.1.1) in
          go (length rest) b Plain Start rest (rw (eq-eqb b 47 h) refl) (omega arith) (room_start rest r.0) (ih Start (inl (inl refl)) r)
      | inr h ↦
          let q = past b Plain rest h p in
          go (length rest) b Plain Plain rest (rw (ne_eqb b 47 h) (lead_ascii b nz lt)) (omega arith) (omega arith) (ih Plain (inr (inr refl)) (IsPart-plain (first_part rest), q.1))
    ]
ascii_go b s rest lt nz z ih (inl (inl e)) p = absurd cc
ascii_go b s rest lt nz z ih (inl (inr e)) p = absurd cc
ascii_go b s rest lt nz z ih (inr (inl e)) p = absurd cc
ascii_go b s rest lt nz z ih (inr (inr e)) p = absurd cc

-- no byte of a longer character is a `/`
abbrev High : List ℕ → Type 0
High [] = Unit {0}
High (b ∷ bytes) = (128 ≤ b) × High bytes

others_past : (w rest : List ℕ) → High w → AllByRecursion IsPart (other_parts (w ++ rest)) → AllByRecursion IsPart (other_parts rest)
others_past [] rest h q = q
others_past (b ∷ w) rest h q = others_past w rest h.1 (rw (ne_eqb b 47 (λ z. omega (arith, h.0))) at q)

zero_past : (w rest : List ℕ) → NoZero (w ++ rest) → NoZero rest
zero_past [] rest h = h
zero_past (b ∷ w) rest h = zero_past w rest h.1

abbrev Boundary : PathScan → Type 0
Boundary s = ((s ≡ Start) ⊎ (s ≡ Dot)) ⊎ ((s ≡ Dots) ⊎ (s ≡ Plain))

both_true : (a b : Bool) → a && b ≡ true → (a ≡ true) × (b ≡ true)
both_true true b e = (refl, e)
both_true false b e = absurd cc

char_go : (c : ℕ) (s : PathScan) (rest : List ℕ) → scalar c ≡ true → Boundary s → ((t : PathScan) → Boundary t → NoZero rest → PartsFrom t rest → Ends (length rest) t rest)
    → NoZero (encode c ++ rest) → PartsFrom s (encode c ++ rest) → Ends (length (encode c ++ rest)) s (encode c ++ rest)
unfolding encode
char_go c s rest sc at ih z p =
    elim (cases_lt c 128) [
      | inl h ↦
          let e : encode c ≡ c ∷ [] = rw (lt-ltb c 128 h) refl in
          let z' = subst (λ (w : List ℕ). NoZero (w ++ rest)) e z in
          subst (λ (w : List ℕ). Ends (length (w ++ rest)) s (w ++ rest)) (sym e)
          (ascii_go c s rest h z'.0 z'.1 (λ t b q. ih t b z'.1 q) at (subst (λ (w : List ℕ). PartsFrom s (w ++ rest)) e p))
      | inr h1 ↦ elim (cases_lt c 2048) [
        | inl h ↦
            let w : List ℕ = (192 + c / 64) ∷ (128 + c % 64) ∷ [] in
            let e : encode c ≡ (192 + c / 64) ∷ (128 + c % 64) ∷ [] = rw (le-ltb c 128 h1, lt-ltb c 2048 h) refl in
            subst (λ (w : List ℕ). Ends (length (w ++ rest)) s (w ++ rest)) (sym e)
            (char2 c (length rest) s rest (opens s at) h1 h (after w e (omega arith, (omega arith, tt))))
        | inr h2 ↦ elim (cases_lt c 65536) [
          | inl h ↦
              let w : List ℕ = (224 + c / 4096) ∷ (128 + c / 64 % 64) ∷ (128 + c % 64) ∷ [] in
              let e : encode c ≡ (224 + c / 4096) ∷ (128 + c / 64 % 64) ∷ (128 + c % 64) ∷ [] = rw (le-ltb c 128 h1, le-ltb c 2048 h2, lt-ltb c 65536 h) refl in
              let k : (c < 55296) ⊎ (57344 ≤ c) = elim (scalar_cases c sc) [ inl l ↦ inl l | inr g ↦ inr g.0 ] in
              subst (λ (w : List ℕ). Ends (length (w ++ rest)) s (w ++ rest)) (sym e)
              (char3 c (length rest) _ _ _ s rest (opens s at) h2 h k refl refl refl (after w e (omega arith, (omega arith, (omega arith, tt)))))
          | inr h3 ↦
              let w : List ℕ = (240 + c / 262144) ∷ (128 + c / 4096 % 64) ∷ (128 + c / 64 % 64) ∷ (128 + c % 64) ∷ [] in
              let e : encode c ≡ (240 + c / 262144) ∷ (128 + c / 4096 % 64) ∷ (128 + c / 64 % 64) ∷ (128 + c % 64) ∷ [] = rw (le-ltb c 128 h1, le-ltb c 2048 h2, le-ltb c 65536 h3) refl in
              let k : c < 1114112 = elim (scalar_cases c sc) [ inl l ↦ omega arith | inr g ↦ g.1 ] in
              subst (λ (w : List ℕ). Ends (length (w ++ rest)) s (w ++ rest)) (sym e)
              (char4 c (length rest) _ _ _ _ s rest (opens s at) h3 k refl refl refl refl (after w e (omega arith, (omega arith, (omega arith, (omega arith, tt))))))
        ]
      ]
    ] where
      after : (w : List ℕ) → encode c ≡ w → High w → Ends (length rest) Plain rest
      after w e h =
          let q = subst (λ (x : List ℕ). PartsFrom s (x ++ rest)) e p in
          let y = subst (λ (x : List ℕ). NoZero (x ++ rest)) e z in
          ih Plain (inr (inr refl)) (zero_past w rest y) (IsPart-plain (first_part rest), others_past w rest h q.1)

fill : (cs : List ℕ) (s : PathScan) → scalars cs ≡ true → Boundary s → NoZero (encodes cs) → PartsFrom s (encodes cs) → Ends (length (encodes cs)) s (encodes cs)
fill [] s sc at z p = tt
fill (c ∷ cs) s sc at z p =
    let k = both_true (scalar c) (scalars cs) sc in
    char_go c s (encodes cs) k.0 at (λ t b z' q. fill cs t k.1 b z' q) z p

pub parted-ends : (n : ℕ) (bytes : List ℕ) → length bytes ≡ n → IsParted bytes → Ends n Start bytes
parted-ends n bytes len l =
    let cs = l.utf8.0 in
    let is = l.utf8.1.1 in
    let r = fill cs Start l.utf8.1.0 (inl (inl refl)) (subst NoZero (sym is) l.no_zero) (subst (λ (w : List ℕ). PartsFrom Start w) (sym is) (l.first, l.others)) in
    subst (λ (k : ℕ). Ends k Start bytes) len (subst (λ (w : List ℕ). Ends (length w) Start w) is r)
