-- The scan goes through exactly the characters of UTF-8.
use Rattle.std.proofs.Common.{◌≡◌, ℕ, zero, suc, ◌+◌, ◌-◌, ◌*◌, ◌/◌, ◌%◌, ◌<◌, ◌≤◌, true, List, [], ◌∷◌, ◌++◌, Option, Some, None, refl, ap, ◌∙◌, arith, inl, inr, ◌⊎◌}
use lib.Utf8.{scalar, encode, encodes}
use Rattle.std.proofs.lemmas.Bool.{cases_lt, cases_eq, lt-ltb, le-ltb, le-leb, ne_eqb, eq-eqb}
use Rattle.std.proofs.lemmas.Nat.{div-mul-add, mod-mul-add}
use Rattle.std.specs.Str.{IsUtf8}
use Rattle.wdt_units.specs.declared.scan.PathScan.{PathScan}
use Rattle.wdt_units.specs.declared.scan.PathScan.TheVariants.{Start, Dot, Dots, Plain, Last, Two, Three, AfterE0, AfterEd, AfterF0, AfterF4}
use Rattle.wdt_units.specs.Scan.{lead, among, next, need, leaves, or_plain, scan_after}
use Rattle.wdt_units.proofs.lemmas.PathBytes.{Ends, leaves_need}

-- what the first byte of a character is
abbrev pub Leads : ℕ → Option PathScan → Type 0
Leads b None = Unit {0}
Leads b (Some Plain) = (1 ≤ b) × (b < 128)
Leads b (Some Last) = (194 ≤ b) × (b < 224)
Leads b (Some AfterE0) = b ≡ 224
Leads b (Some Two) = ((225 ≤ b) × (b < 237)) ⊎ ((238 ≤ b) × (b < 240))
Leads b (Some AfterEd) = b ≡ 237
Leads b (Some AfterF0) = b ≡ 240
Leads b (Some Three) = (241 ≤ b) × (b < 244)
Leads b (Some AfterF4) = b ≡ 244
Leads b (Some _) = ⊥

pub leads : (b : ℕ) → Leads b (lead b)
leads b =
    elim (cases_lt b 1) [
      | inl h ↦ rw (lt-ltb b 1 h) tt
      | inr a1 ↦
          elim (cases_lt b 128) [
            | inl h ↦ rw (le-ltb b 1 a1, lt-ltb b 128 h) (a1, h)
            | inr a2 ↦
                elim (cases_lt b 194) [
                  | inl h ↦ rw (le-ltb b 1 a1, le-ltb b 128 a2, lt-ltb b 194 h) tt
                  | inr a3 ↦
                      elim (cases_lt b 224) [
                        | inl h ↦ rw (le-ltb b 1 a1, le-ltb b 128 a2, le-ltb b 194 a3, lt-ltb b 224 h) (a3, h)
                        | inr a4 ↦
                            elim (cases_lt b 225) [
                              | inl h ↦ rw (le-ltb b 1 a1, le-ltb b 128 a2, le-ltb b 194 a3, le-ltb b 224 a4, lt-ltb b 225 h) (omega arith)
                              | inr a5 ↦
                                  elim (cases_lt b 237) [
                                    | inl h ↦ rw (le-ltb b 1 a1, le-ltb b 128 a2, le-ltb b 194 a3, le-ltb b 224 a4, le-ltb b 225 a5, lt-ltb b 237 h) (inl (a5, h))
                                    | inr a6 ↦
                                        elim (cases_lt b 238) [
                                          | inl h ↦ rw (le-ltb b 1 a1, le-ltb b 128 a2, le-ltb b 194 a3, le-ltb b 224 a4, le-ltb b 225 a5, le-ltb b 237 a6, lt-ltb b 238 h) (omega arith)
                                          | inr a7 ↦
                                              elim (cases_lt b 240) [
                                                | inl h ↦ rw (le-ltb b 1 a1, le-ltb b 128 a2, le-ltb b 194 a3, le-ltb b 224 a4, le-ltb b 225 a5, le-ltb b 237 a6, le-ltb b 238 a7, lt-ltb b 240 h) (inr (a7, h))
                                                | inr a8 ↦
                                                    elim (cases_lt b 241) [
                                                      | inl h ↦ rw (le-ltb b 1 a1, le-ltb b 128 a2, le-ltb b 194 a3, le-ltb b 224 a4, le-ltb b 225 a5, le-ltb b 237 a6, le-ltb b 238 a7, le-ltb b 240 a8, lt-ltb b 241 h) (omega arith)
                                                      | inr a9 ↦
                                                          elim (cases_lt b 244) [
                                                            | inl h ↦ rw (le-ltb b 1 a1, le-ltb b 128 a2, le-ltb b 194 a3, le-ltb b 224 a4, le-ltb b 225 a5, le-ltb b 237 a6, le-ltb b 238 a7, le-ltb b 240 a8, le-ltb b 241 a9, lt-ltb b 244 h) (a9, h)
                                                            | inr a10 ↦
                                                                elim (cases_lt b 245) [
                                                                  | inl h ↦ rw (le-ltb b 1 a1, le-ltb b 128 a2, le-ltb b 194 a3, le-ltb b 224 a4, le-ltb b 225 a5, le-ltb b 237 a6, le-ltb b 238 a7, le-ltb b 240 a8, le-ltb b 241 a9, le-ltb b 244 a10, lt-ltb b 245 h) (omega arith)
                                                                  | inr a11 ↦
                                                                      rw (le-ltb b 1 a1, le-ltb b 128 a2, le-ltb b 194 a3, le-ltb b 224 a4, le-ltb b 225 a5, le-ltb b 237 a6, le-ltb b 238 a7, le-ltb b 240 a8, le-ltb b 241 a9, le-ltb b 244 a10, le-ltb b 245 a11) tt
                                                                ]
                                                          ]
                                                    ]
                                              ]
                                        ]
                                  ]
                            ]
                      ]
                ]
          ]
    ]

-- ---- characters of two to four bytes

abbrev pub Is : ℕ → List ℕ → Type 0
Is c bytes = (scalar c ≡ true) × (encode c ≡ bytes)

scalar_low : (c : ℕ) → c < 55296 → scalar c ≡ true
scalar_low c h = rw (lt-ltb c 55296 h) refl

scalar_high : (c : ℕ) → 57344 ≤ c → c < 1114112 → scalar c ≡ true
scalar_high c a b = rw (le-ltb c 55296 (omega arith), le-leb 57344 c a, lt-ltb c 1114112 b) refl

pub enc1 : (b : ℕ) → b < 128 → Is b (b ∷ [])
unfolding encode
enc1 b h = (scalar_low b (omega arith), rw (lt-ltb b 128 h) refl)

pub enc2 : (b y : ℕ) → 194 ≤ b → b < 224 → 128 ≤ y → y ≤ 191 → (c : ℕ) × Is c (b ∷ y ∷ [])
unfolding encode
enc2 b y h1 h2 h3 h4 =
    let c : ℕ = (b - 192) * 64 + (y - 128) in
    let lo : 128 ≤ (b - 192) * 64 + (y - 128) = omega arith in
    let hi : (b - 192) * 64 + (y - 128) < 2048 = omega arith in
    let q : ((b - 192) * 64 + (y - 128)) / 64 ≡ b - 192 = div-mul-add (b - 192) 64 (y - 128) (omega arith) in
    let r : ((b - 192) * 64 + (y - 128)) % 64 ≡ y - 128 = mod-mul-add (b - 192) 64 (y - 128) (omega arith) in
    let e1 : 192 + (b - 192) ≡ b = omega arith in
    let e2 : 128 + (y - 128) ≡ y = omega arith in
    (c, (scalar_low c (omega arith), rw (le-ltb _ 128 lo, lt-ltb _ 2048 hi, q, r, e1, e2) refl))

pub enc3 : (b y z : ℕ) → 224 ≤ b → b < 240 → 128 ≤ y → y ≤ 191 → 128 ≤ z → z ≤ 191 → ((225 ≤ b) ⊎ (160 ≤ y)) → (((b < 237) ⊎ (238 ≤ b)) ⊎ (y ≤ 159)) → (c : ℕ) × Is c (b ∷ y ∷ z ∷ [])
unfolding encode
enc3 b y z h1 h2 h3 h4 h5 h6 h7 h8 = go ((b - 224) * 4096 + (y - 128) * 64 + (z - 128)) refl where
  go : (c : ℕ) → c ≡ (b - 224) * 4096 + (y - 128) * 64 + (z - 128) → (c : ℕ) × Is c (b ∷ y ∷ z ∷ [])
  go c e =
      let lo : 2048 ≤ c = elim h7 [ inl k ↦ omega arith | inr k ↦ omega arith ] in
      let hi : c < 65536 = omega arith in
      let q : c / 4096 ≡ b - 224 = omega arith in
      let q2 : c / 64 % 64 ≡ y - 128 = omega arith in
      let r : c % 64 ≡ z - 128 = omega arith in
      let e1 : 224 + (b - 224) ≡ b = omega arith in
      let e2 : 128 + (y - 128) ≡ y = omega arith in
      let e3 : 128 + (z - 128) ≡ z = omega arith in
      let s : scalar c ≡ true = elim (cases_lt c 55296) [ inl l ↦ scalar_low c l | inr g ↦ scalar_high c (elim h8 [ inl (inl k) ↦ absurd (omega arith) | inl (inr k) ↦ omega arith | inr k ↦ elim (cases_lt b 238) [ inl l ↦ absurd (omega arith) | inr l ↦ omega arith ] ]) (omega arith) ] in
      (c, (s, rw (le-ltb c 128 (omega arith), le-ltb c 2048 lo, lt-ltb c 65536 hi, q, q2, r, e1, e2, e3) refl))

pub enc4 : (b y z w : ℕ) → 240 ≤ b → b < 245 → 128 ≤ y → y ≤ 191 → 128 ≤ z → z ≤ 191 → 128 ≤ w → w ≤ 191 → ((241 ≤ b) ⊎ (144 ≤ y)) → ((b < 244) ⊎ (y ≤ 143)) → (c : ℕ) × Is c (b ∷ y ∷ z ∷ w ∷ [])
unfolding encode
enc4 b y z w h1 h2 h3 h4 h5 h6 h7 h8 h9 h10 = go ((b - 240) * 262144 + (y - 128) * 4096 + (z - 128) * 64 + (w - 128)) refl where
  go : (c : ℕ) → c ≡ (b - 240) * 262144 + (y - 128) * 4096 + (z - 128) * 64 + (w - 128) → (c : ℕ) × Is c (b ∷ y ∷ z ∷ w ∷ [])
  go c e =
      let lo : 65536 ≤ c = elim h9 [ inl k ↦ omega arith | inr k ↦ omega arith ] in
      let hi : c < 1114112 = elim h10 [ inl k ↦ omega arith | inr k ↦ omega arith ] in
      let q : c / 262144 ≡ b - 240 = omega arith in
      let q2 : c / 4096 % 64 ≡ y - 128 = omega arith in
      let q3 : c / 64 % 64 ≡ z - 128 = omega arith in
      let r : c % 64 ≡ w - 128 = omega arith in
      let e1 : 240 + (b - 240) ≡ b = omega arith in
      let e2 : 128 + (y - 128) ≡ y = omega arith in
      let e3 : 128 + (z - 128) ≡ z = omega arith in
      let e4 : 128 + (w - 128) ≡ w = omega arith in
      (c, (scalar_high c (omega arith) hi, rw (le-ltb c 128 (omega arith), le-ltb c 2048 (omega arith), le-ltb c 65536 lo, q, q2, q3, r, e1, e2, e3, e4) refl))

-- ---- reading: what goes through is UTF-8

IsUtf8-char : (c : ℕ) (bytes rest : List ℕ) → Is c bytes → IsUtf8 rest → IsUtf8 (bytes ++ rest)
IsUtf8-char c bytes rest h (cs, (all, is)) = (c ∷ cs, (rw (h.0, all) refl, ap (λ w. w ++ encodes cs) h.1 ∙ ap (λ w. bytes ++ w) is))

-- what stands behind each state
abbrev pub Tail : PathScan → List ℕ → Type 0
Tail Last (y ∷ rest) = ((128 ≤ y) × (y ≤ 191)) × IsUtf8 rest
Tail Two (y ∷ rest) = ((128 ≤ y) × (y ≤ 191)) × Tail Last rest
Tail Three (y ∷ rest) = ((128 ≤ y) × (y ≤ 191)) × Tail Two rest
Tail AfterE0 (y ∷ rest) = ((160 ≤ y) × (y ≤ 191)) × Tail Last rest
Tail AfterEd (y ∷ rest) = ((128 ≤ y) × (y ≤ 159)) × Tail Last rest
Tail AfterF0 (y ∷ rest) = ((144 ≤ y) × (y ≤ 191)) × Tail Two rest
Tail AfterF4 (y ∷ rest) = ((128 ≤ y) × (y ≤ 143)) × Tail Two rest
Tail Start rest = IsUtf8 rest
Tail Dot rest = IsUtf8 rest
Tail Dots rest = IsUtf8 rest
Tail Plain rest = IsUtf8 rest
Tail _ [] = ⊥

-- a whole character from its first byte
by_lead : (b : ℕ) (rest : List ℕ) (s : PathScan) → Leads b (Some s) → Tail s rest → IsUtf8 (b ∷ rest)
by_lead b rest Plain l t = IsUtf8-char b (b ∷ []) rest (enc1 b l.1) t
by_lead b (y ∷ rest) Last l t = let e = enc2 b y l.0 l.1 t.0.0 t.0.1 in IsUtf8-char e.0 (b ∷ y ∷ []) rest e.1 t.1
by_lead b (y ∷ z ∷ rest) AfterE0 l t = let e = enc3 b y z (omega arith) (omega arith) (omega (arith, t.0)) t.0.1 t.1.0.0 t.1.0.1 (inr t.0.0) (inl (inl (omega arith))) in IsUtf8-char e.0 (b ∷ y ∷ z ∷ []) rest e.1 t.1.1
by_lead b (y ∷ z ∷ rest) AfterEd l t = let e = enc3 b y z (omega arith) (omega arith) t.0.0 (omega (arith, t.0)) t.1.0.0 t.1.0.1 (inl (omega arith)) (inr t.0.1) in IsUtf8-char e.0 (b ∷ y ∷ z ∷ []) rest e.1 t.1.1
by_lead b (y ∷ z ∷ rest) Two (inl l) t = let e = enc3 b y z (omega (arith, l)) (omega (arith, l)) t.0.0 t.0.1 t.1.0.0 t.1.0.1 (inl l.0) (inl (inl l.1)) in IsUtf8-char e.0 (b ∷ y ∷ z ∷ []) rest e.1 t.1.1
by_lead b (y ∷ z ∷ rest) Two (inr l) t = let e = enc3 b y z (omega (arith, l)) (omega (arith, l)) t.0.0 t.0.1 t.1.0.0 t.1.0.1 (inl (omega (arith, l))) (inl (inr l.0)) in IsUtf8-char e.0 (b ∷ y ∷ z ∷ []) rest e.1 t.1.1
by_lead b (y ∷ z ∷ w ∷ rest) AfterF0 l t = let e = enc4 b y z w (omega arith) (omega arith) (omega (arith, t.0)) t.0.1 t.1.0.0 t.1.0.1 t.1.1.0.0 t.1.1.0.1 (inr t.0.0) (inl (omega arith)) in IsUtf8-char e.0 (b ∷ y ∷ z ∷ w ∷ []) rest e.1 t.1.1.1
by_lead b (y ∷ z ∷ w ∷ rest) Three l t = let e = enc4 b y z w (omega (arith, l)) (omega (arith, l)) t.0.0 t.0.1 t.1.0.0 t.1.0.1 t.1.1.0.0 t.1.1.0.1 (inl l.0) (inl l.1) in IsUtf8-char e.0 (b ∷ y ∷ z ∷ w ∷ []) rest e.1 t.1.1.1
by_lead b (y ∷ z ∷ w ∷ rest) AfterF4 l t = let e = enc4 b y z w (omega arith) (omega arith) t.0.0 (omega (arith, t.0)) t.1.0.0 t.1.0.1 t.1.1.0.0 t.1.1.0.1 (inl (omega arith)) (inr t.0.1) in IsUtf8-char e.0 (b ∷ y ∷ z ∷ w ∷ []) rest e.1 t.1.1.1
by_lead b rest Start l t = absurd l
by_lead b rest Dot l t = absurd l
by_lead b rest Dots l t = absurd l
by_lead b [] Last l t = absurd t
by_lead b [] Two l t = absurd t
by_lead b (y ∷ []) Two l t = absurd t.1
by_lead b [] Three l t = absurd t
by_lead b (y ∷ []) Three l t = absurd t.1
by_lead b (y ∷ z ∷ []) Three l t = absurd t.1.1
by_lead b [] AfterE0 l t = absurd t
by_lead b (y ∷ []) AfterE0 l t = absurd t.1
by_lead b [] AfterEd l t = absurd t
by_lead b (y ∷ []) AfterEd l t = absurd t.1
by_lead b [] AfterF0 l t = absurd t
by_lead b (y ∷ []) AfterF0 l t = absurd t.1
by_lead b (y ∷ z ∷ []) AfterF0 l t = absurd t.1.1
by_lead b [] AfterF4 l t = absurd t
by_lead b (y ∷ []) AfterF4 l t = absurd t.1
by_lead b (y ∷ z ∷ []) AfterF4 l t = absurd t.1.1

at_lead : (n b : ℕ) (rest : List ℕ) (o : Option PathScan) → Leads b o → leaves n o ≡ true → Tail (or_plain o) rest → IsUtf8 (b ∷ rest)
at_lead n b rest None l e t = absurd cc
at_lead n b rest (Some s) l e t = by_lead b rest s l t

ascii : (b : ℕ) (rest : List ℕ) → b < 128 → IsUtf8 rest → IsUtf8 (b ∷ rest)
ascii b rest h u = IsUtf8-char b (b ∷ []) rest (enc1 b h) u

-- a byte of a range, and what follows it
in_range : (n low high y : ℕ) (s : PathScan) (rest : List ℕ) → leaves n (among low high s y) ≡ true → Tail (or_plain (among low high s y)) rest → ((low ≤ y) × (y ≤ high)) × Tail s rest
in_range n low high y s rest e t =
    elim (cases_lt y low) [
      | inl lt ↦ absurd (let no_way = rw (lt-ltb y low lt) at e in cc)
      | inr ge ↦ elim (cases_lt high y) [
        | inl lt ↦ absurd (let no_way = rw (le-ltb y low ge, lt-ltb high y lt) at e in cc)
        | inr le ↦ ((ge, le), rw (le-ltb y low ge, le-ltb high y le) at t)
      ]
    ]

pub in_range_of : (n low high y : ℕ) (s : PathScan) → leaves n (among low high s y) ≡ true → (low ≤ y) × (y ≤ high)
in_range_of n low high y s e =
    elim (cases_lt y low) [
      | inl lt ↦ absurd (let no_way = rw (lt-ltb y low lt) at e in cc)
      | inr ge ↦ elim (cases_lt high y) [
        | inl lt ↦ absurd (let no_way = rw (le-ltb y low ge, lt-ltb high y lt) at e in cc)
        | inr le ↦ (ge, le)
      ]
    ]

-- where a character may begin, what goes through is UTF-8
first_of_char : (n b : ℕ) (rest : List ℕ) (s : PathScan) → leaves n (next s b) ≡ true → Tail (or_plain (next s b)) rest → Tail s (b ∷ rest)
first_of_char n b rest Start e t =
    elim (cases_eq b 47) [
      | inl h ↦ absurd (let no_way = rw (eq-eqb b 47 h) at e in cc)
      | inr h ↦
          elim (cases_eq b 46) [
            | inl k ↦ ascii b rest (omega arith) (rw (ne_eqb b 47 h, eq-eqb b 46 k) at t)
            | inr k ↦ at_lead n b rest (lead b) (leads b) (rw (ne_eqb b 47 h, ne_eqb b 46 k) at e) (rw (ne_eqb b 47 h, ne_eqb b 46 k) at t)
          ]
    ]
first_of_char n b rest Dot e t =
    elim (cases_eq b 47) [
      | inl h ↦ absurd (let no_way = rw (eq-eqb b 47 h) at e in cc)
      | inr h ↦
          elim (cases_eq b 46) [
            | inl k ↦ ascii b rest (omega arith) (rw (ne_eqb b 47 h, eq-eqb b 46 k) at t)
            | inr k ↦ at_lead n b rest (lead b) (leads b) (rw (ne_eqb b 47 h, ne_eqb b 46 k) at e) (rw (ne_eqb b 47 h, ne_eqb b 46 k) at t)
          ]
    ]
first_of_char n b rest Dots e t =
    elim (cases_eq b 47) [
      | inl h ↦ absurd (let no_way = rw (eq-eqb b 47 h) at e in cc)
      | inr h ↦ at_lead n b rest (lead b) (leads b) (rw (ne_eqb b 47 h) at e) (rw (ne_eqb b 47 h) at t)
    ]
first_of_char n b rest Plain e t =
    elim (cases_eq b 47) [
      | inl h ↦ ascii b rest (omega arith) (rw (eq-eqb b 47 h) at t)
      | inr h ↦ at_lead n b rest (lead b) (leads b) (rw (ne_eqb b 47 h) at e) (rw (ne_eqb b 47 h) at t)
    ]
first_of_char n b rest Last e t = in_range n 128 191 b Plain rest e t
first_of_char n b rest Two e t = in_range n 128 191 b Last rest e t
first_of_char n b rest Three e t = in_range n 128 191 b Two rest e t
first_of_char n b rest AfterE0 e t = in_range n 160 191 b Last rest e t
first_of_char n b rest AfterEd e t = in_range n 128 159 b Last rest e t
first_of_char n b rest AfterF0 e t = in_range n 144 191 b Two rest e t
first_of_char n b rest AfterF4 e t = in_range n 128 143 b Two rest e t

at_end : (s : PathScan) → need s ≤ 0 → Tail s []
at_end Plain h = ([], (refl, refl))
at_end Start h = absurd (omega arith)
at_end Dot h = absurd (omega arith)
at_end Dots h = absurd (omega arith)
at_end Last h = absurd (omega arith)
at_end Two h = absurd (omega arith)
at_end Three h = absurd (omega arith)
at_end AfterE0 h = absurd (omega arith)
at_end AfterEd h = absurd (omega arith)
at_end AfterF0 h = absurd (omega arith)
at_end AfterF4 h = absurd (omega arith)

pub goes_through : (bytes : List ℕ) (n : ℕ) (s : PathScan) → need s ≤ n → Ends n s bytes → Tail s bytes
goes_through [] zero s h e = at_end s h
goes_through [] (suc n) s h e = absurd e
goes_through (b ∷ bytes) zero s h e = absurd e
goes_through (b ∷ bytes) (suc n) s h e =
    first_of_char n b bytes s e.0.0 (goes_through bytes n (scan_after s b) (leaves_need n (next s b) e.0.0) e.1)

-- a path that is read is UTF-8
pub path-utf8 : (n : ℕ) (bytes : List ℕ) → 1 ≤ n → Ends n Start bytes → IsUtf8 bytes
path-utf8 n bytes h e = goes_through bytes n Start h e
