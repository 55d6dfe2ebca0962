-- When a reading is exact: it reads what is spelled, wants more only of a front of a spelling, and
-- stops at the first byte with which none begins.
use Rattle.std.proofs.Common.{◌≡◌, ℕ, zero, suc, ◌<◌, ◌≤◌, Bool, true, false, eqb, List, [], ◌∷◌, ◌++◌, length, get_or, Result, Ok, Err, refl, sym, ap, subst, ◌∙◌, append_assoc, arith, inl, inr, ◌⊎◌, eq-eqb}
use Rattle.std.specs.List.{flat_map}
use Rattle.std.proofs.lemmas.List.{append-nil}
use Rattle.std.proofs.lemmas.Bool.{cases_eq, ne_eqb}
use Rattle.wdt_codec.specs.declared.stop.Stop.{Stop}
use Rattle.wdt_codec.specs.declared.stop.Stop.TheVariants.{NotYet, Bad}
use Rattle.wdt_codec.specs.Reading.{Reading, ◌>>=◌, both, made, alt, unknown, byte_where, cons, times, with_front}

abbrev pub AreBytes : List ℕ → Type 0
AreBytes [] = Unit {0}
AreBytes (b ∷ bytes) = (b < 256) × AreBytes bytes

pub AreBytes-append : (a b : List ℕ) → AreBytes (a ++ b) → AreBytes a × AreBytes b
AreBytes-append [] b h = (tt, h)
AreBytes-append (x ∷ a) b h = let r = AreBytes-append a b h.1 in ((h.0, r.0), r.1)

pub AreBytes-from_index : (bytes : List ℕ) → ((i : ℕ) → get_or bytes i 0 < 256) → AreBytes bytes
AreBytes-from_index [] h = tt
AreBytes-from_index (b ∷ bytes) h = (h 0, AreBytes-from_index bytes (λ i. h (suc i)))

-- the bytes are a proper front of a spelling
pub record Begins {A : Type 0} (Fits : A → Type 0) (spell : A → List ℕ) (front : List ℕ) : Type 0 where
  pub value : A
  pub next : ℕ
  pub more : List ℕ
  pub fits : Fits value
  pub is : spell value ≡ front ++ next ∷ more

-- the reading waits for more up to a byte, and stops there whatever follows it
pub record Spoils {A : Type 0} (read : Reading A) (bytes : List ℕ) (left : ℕ) : Type 0 where
  pub front : List ℕ
  pub next : ℕ
  pub back : List ℕ
  pub parts : bytes ≡ front ++ next ∷ back
  pub left-is : left ≡ suc (length back)
  pub hope : read front ≡ Err NotYet
  pub stays : (u : List ℕ) → read (front ++ next ∷ u) ≡ Err (Bad (suc (length u)))

pub record IsExact {A : Type 0} (Fits : A → Type 0) (spell : A → List ℕ) (read : Reading A) : Type 0 where
  pub again : (x : A) (rest : List ℕ) → Fits x → read (spell x ++ rest) ≡ Ok (x, rest)
  pub got : (bytes : List ℕ) (x : A) (rest : List ℕ) → AreBytes bytes → read bytes ≡ Ok (x, rest) → Fits x × (bytes ≡ spell x ++ rest)
  pub short : (bytes : List ℕ) → AreBytes bytes → read bytes ≡ Err NotYet → Begins Fits spell bytes
  pub bad : (bytes : List ℕ) (left : ℕ) → AreBytes bytes → read bytes ≡ Err (Bad left) → Spoils read bytes left

no_byte : (front back : List ℕ) (next : ℕ) → [] ≡ front ++ next ∷ back → ⊥
no_byte [] back next e = cc
no_byte (x ∷ front) back next e = cc

some_by : {A : Type 0} {F : A → Type 0} {s : A → List ℕ} {read : Reading A} → IsExact F s read → (r : Result (A × List ℕ) Stop) → read [] ≡ r → (x : A) × F x
some_by e (Ok x) is = (x.0, (e.got [] x.0 x.1 tt is).0)
some_by e (Err NotYet) is = let b = e.short [] tt is in (b.value, b.fits)
some_by e (Err (Bad left)) is = let b = e.bad [] left tt is in absurd (no_byte b.front b.back b.next b.parts)

-- an exact field has a value
pub some : {A : Type 0} {F : A → Type 0} {s : A → List ℕ} {read : Reading A} → IsExact F s read → (x : A) × F x
some {read = read} e = some_by e (read []) refl

-- ---- two fields

pub bind_ok : {A B : Type 0} (r : Result A Stop) (f : A → Result B Stop) (y : B) → (r >>= f) ≡ Ok y → (x : A) × (r ≡ Ok x) × (f x ≡ Ok y)
bind_ok (Ok x) f y e = (x, refl, e)
bind_ok (Err d) f y e = absurd cc

-- how a sequence stopped: in the first field, or in the second
pub data BindErr {A B : Type 0} (r : Result A Stop) (f : A → Result B Stop) (d : Stop) : Type 0 where
  first : r ≡ Err d → BindErr r f d
  second : (x : A) → r ≡ Ok x → f x ≡ Err d → BindErr r f d

pub bind_err : {A B : Type 0} (r : Result A Stop) (f : A → Result B Stop) (d : Stop) → (r >>= f) ≡ Err d → BindErr r f d
bind_err (Ok x) f d e = second x refl e
bind_err (Err c) f d e = first cc

abbrev pub done : {A : Type 0} → A → Result A Stop
done x = Ok x

pub ok_is : {A : Type 0} (x y : A) → done x ≡ done y → x ≡ y
ok_is x y e = cc

module _ {A B : Type 0} {F : A → Type 0} {s : A → List ℕ} {f : Reading A} {G : A → B → Type 0} {t : A → B → List ℕ} {g : A → Reading B}
    (ef : IsExact F s f) (eg : (x : A) → F x → IsExact (G x) (t x) (g x)) where
  abbrev Both : A × B → Type 0
  Both p = F p.0 × G p.0 p.1

  abbrev spelled : A × B → List ℕ
  spelled p = s p.0 ++ t p.0 p.1

  both-again : (p : A × B) (rest : List ℕ) → Both p → both f g (spelled p ++ rest) ≡ Ok (p, rest)
  both-again p rest h =
      let e = append_assoc (s p.0) (t p.0 p.1) rest in
      ap (both f g) e ∙ rw (ef.again p.0 (t p.0 p.1 ++ rest) h.0, (eg p.0 h.0).again p.1 rest h.1) refl

  both-got : (bytes : List ℕ) (p : A × B) (rest : List ℕ) → AreBytes bytes → both f g bytes ≡ Ok (p, rest) → Both p × (bytes ≡ spelled p ++ rest)
  both-got bytes p rest fine e =
      let a = bind_ok (f bytes) (λ x. g x.0 x.1 >>= λ y. Ok ((x.0, y.0), y.1)) (p, rest) e in
      let b = bind_ok (g a.0.0 a.0.1) (λ y. Ok ((a.0.0, y.0), y.1)) (p, rest) a.2 in
      let one = ef.got bytes a.0.0 a.0.1 fine a.1 in
      let after : AreBytes a.0.1 = (AreBytes-append (s a.0.0) a.0.1 (subst AreBytes one.1 fine)).1 in
      let two = (eg a.0.0 one.0).got a.0.1 b.0.0 b.0.1 after b.1 in
      let made : (A × B) × List ℕ = ((a.0.0, b.0.0), b.0.1) in
      let same : made ≡ (p, rest) = ok_is made (p, rest) b.2 in
      let whole : bytes ≡ (s a.0.0 ++ t a.0.0 b.0.0) ++ b.0.1 = one.1 ∙ ap (λ (w : List ℕ). s a.0.0 ++ w) two.1 ∙ sym (append_assoc (s a.0.0) (t a.0.0 b.0.0) b.0.1) in
      subst (λ (z : (A × B) × List ℕ). Both z.0 × (bytes ≡ spelled z.0 ++ z.1)) same ((one.0, two.0), whole)

  both-short : (bytes : List ℕ) → AreBytes bytes → both f g bytes ≡ Err NotYet → Begins Both spelled bytes
  both-short bytes fine e =
      elim (bind_err (f bytes) (λ x. g x.0 x.1 >>= λ y. Ok ((x.0, y.0), y.1)) NotYet e) [
        | first e1 ↦
            let b = ef.short bytes fine e1 in
            let y = some (eg b.value b.fits) in
            record {
              value = (b.value, y.0);
              next = b.next;
              more = b.more ++ t b.value y.0;
              fits = (b.fits, y.1);
              is = ap (λ (w : List ℕ). w ++ t b.value y.0) b.is ∙ append_assoc bytes (b.next ∷ b.more) (t b.value y.0);
            }
        | second x e1 e2 ↦
            let one = ef.got bytes x.0 x.1 fine e1 in
            let after : AreBytes x.1 = (AreBytes-append (s x.0) x.1 (subst AreBytes one.1 fine)).1 in
            elim (bind_err (g x.0 x.1) (λ y. Ok ((x.0, y.0), y.1)) NotYet e2) [
              | first e3 ↦
                  let b = (eg x.0 one.0).short x.1 after e3 in
                  record {
                    value = (x.0, b.value);
                    next = b.next;
                    more = b.more;
                    fits = (one.0, b.fits);
                    is = ap (λ (w : List ℕ). s x.0 ++ w) b.is ∙ sym (append_assoc (s x.0) x.1 (b.next ∷ b.more)) ∙ ap (λ (w : List ℕ). w ++ b.next ∷ b.more) (sym one.1);
                  }
              | second y e3 e4 ↦ absurd cc
            ]
      ]

  both-bad : (bytes : List ℕ) (left : ℕ) → AreBytes bytes → both f g bytes ≡ Err (Bad left) → Spoils (both f g) bytes left
  both-bad bytes left fine e =
      elim (bind_err (f bytes) (λ x. g x.0 x.1 >>= λ y. Ok ((x.0, y.0), y.1)) (Bad left) e) [
        | first e1 ↦
            let b = ef.bad bytes left fine e1 in
            record { front = b.front; next = b.next; back = b.back; parts = b.parts; left-is = b.left-is; hope = rw b.hope refl; stays = λ u. rw (b.stays u) refl }
        | second x e1 e2 ↦
            let one = ef.got bytes x.0 x.1 fine e1 in
            let after : AreBytes x.1 = (AreBytes-append (s x.0) x.1 (subst AreBytes one.1 fine)).1 in
            elim (bind_err (g x.0 x.1) (λ y. Ok ((x.0, y.0), y.1)) (Bad left) e2) [
              | first e3 ↦
                  let b = (eg x.0 one.0).bad x.1 left after e3 in
                  record {
                    front = s x.0 ++ b.front;
                    next = b.next;
                    back = b.back;
                    left-is = b.left-is;
                    parts = one.1 ∙ ap (λ (w : List ℕ). s x.0 ++ w) b.parts ∙ sym (append_assoc (s x.0) b.front (b.next ∷ b.back));
                    hope = rw (ef.again x.0 b.front one.0, b.hope) refl;
                    stays = λ u. ap (both f g) (append_assoc (s x.0) b.front (b.next ∷ u)) ∙ rw (ef.again x.0 (b.front ++ b.next ∷ u) one.0, b.stays u) refl;
                  }
              | second y e3 e4 ↦ absurd cc
            ]
      ]

  pub both-exact : IsExact (λ (p : A × B). F p.0 × G p.0 p.1) (λ (p : A × B). s p.0 ++ t p.0 p.1) (both f g)
  both-exact = record { again = both-again; got = both-got; short = both-short; bad = both-bad }

-- ---- a field under another name

module _ {A C : Type 0} {F : A → Type 0} {s : A → List ℕ} {read : Reading A} (make : A → C) (G : C → Type 0) (t : C → List ℕ) (er : IsExact F s read)
    (to : (a : A) → F a → G (make a) × (t (make a) ≡ s a)) (from : (c : C) → G c → (a : A) × F a × (make a ≡ c)) where
  made-again : (c : C) (rest : List ℕ) → G c → made make read (t c ++ rest) ≡ Ok (c, rest)
  made-again c rest h =
      let a = from c h in
      let k = to a.0 a.1 in
      let e : t c ≡ s a.0 = ap t (sym a.2) ∙ k.1 in
      rw (e, er.again a.0 rest a.1, a.2) refl

  made-got : (bytes : List ℕ) (c : C) (rest : List ℕ) → AreBytes bytes → made make read bytes ≡ Ok (c, rest) → G c × (bytes ≡ t c ++ rest)
  made-got bytes c rest fine e =
      let b = bind_ok (read bytes) (λ x. Ok (make x.0, x.1)) (c, rest) e in
      let one = er.got bytes b.0.0 b.0.1 fine b.1 in
      let k = to b.0.0 one.0 in
      let found : C × List ℕ = (make b.0.0, b.0.1) in
      let same : found ≡ (c, rest) = ok_is found (c, rest) b.2 in
      let whole : bytes ≡ t (make b.0.0) ++ b.0.1 = one.1 ∙ ap (λ (w : List ℕ). w ++ b.0.1) (sym k.1) in
      subst (λ (z : C × List ℕ). G z.0 × (bytes ≡ t z.0 ++ z.1)) same (k.0, whole)

  made-short : (bytes : List ℕ) → AreBytes bytes → made make read bytes ≡ Err NotYet → Begins G t bytes
  made-short bytes fine e =
      elim (bind_err (read bytes) (λ x. Ok (make x.0, x.1)) NotYet e) [
        | first e1 ↦
            let b = er.short bytes fine e1 in
            let k = to b.value b.fits in
            record { value = make b.value; next = b.next; more = b.more; fits = k.0; is = k.1 ∙ b.is }
        | second x e1 e2 ↦ absurd cc
      ]

  made-bad : (bytes : List ℕ) (left : ℕ) → AreBytes bytes → made make read bytes ≡ Err (Bad left) → Spoils (made make read) bytes left
  made-bad bytes left fine e =
      elim (bind_err (read bytes) (λ x. Ok (make x.0, x.1)) (Bad left) e) [
        | first e1 ↦
            let b = er.bad bytes left fine e1 in
            record { front = b.front; next = b.next; back = b.back; parts = b.parts; left-is = b.left-is; hope = rw b.hope refl; stays = λ u. rw (b.stays u) refl }
        | second x e1 e2 ↦ absurd cc
      ]

  pub made-exact : IsExact G t (made make read)
  made-exact = record { again = made-again; got = made-got; short = made-short; bad = made-bad }

-- the same field, said otherwise
pub same-exact : {A : Type 0} {F G : A → Type 0} {s : A → List ℕ} {read : Reading A} → IsExact F s read → ((x : A) → F x → G x) → ((x : A) → G x → F x) → IsExact G s read
same-exact e to from = record {
  again = λ x rest h. e.again x rest (from x h);
  got = λ bytes x rest fine h. let r = e.got bytes x rest fine h in (to x r.0, r.1);
  short = λ bytes fine h. let r = e.short bytes fine h in record { value = r.value; next = r.next; more = r.more; fits = to r.value r.fits; is = r.is };
  bad = e.bad;
}

-- the same field, spelled and said otherwise
pub made-exact-id : {A : Type 0} {F : A → Type 0} {s : A → List ℕ} {read : Reading A} (G : A → Type 0) (t : A → List ℕ) → IsExact F s read
    → ((x : A) → F x → G x × (t x ≡ s x)) → ((x : A) → G x → F x) → IsExact G t read
made-exact-id {s = s} {read = read} G t e to from = record {
  again = λ x rest h. let f = from x h in ap (λ w. read (w ++ rest)) (to x f).1 ∙ e.again x rest f;
  got = λ bytes x rest fine h. let r = e.got bytes x rest fine h in let k = to x r.0 in (k.0, r.1 ∙ ap (λ w. w ++ rest) (sym k.1));
  short = λ bytes fine h. let r = e.short bytes fine h in let k = to r.value r.fits in record { value = r.value; next = r.next; more = r.more; fits = k.0; is = k.1 ∙ r.is };
  bad = e.bad;
}

-- ---- nothing, and one of several by its first byte

pub nothing-exact : {A : Type 0} (x : A) → IsExact (λ (y : A). y ≡ x) (λ (y : A). []) (λ (bytes : List ℕ). done (x, bytes))
nothing-exact x = record {
  again = λ y rest h. ap (λ z. done (z, rest)) (sym h);
  got = λ bytes y rest fine e. let same = ok_is (x, bytes) (y, rest) e in (sym (ap (λ p. p.0) same), ap (λ p. p.1) same);
  short = λ bytes fine e. absurd cc;
  bad = λ bytes left fine e. absurd cc;
}

-- exact of bytes that are there
pub record IsExactBehind {A : Type 0} (Fits : A → Type 0) (spell : A → List ℕ) (read : Reading A) : Type 0 where
  pub again : (x : A) (rest : List ℕ) → Fits x → read (spell x ++ rest) ≡ Ok (x, rest)
  pub got : (bytes : List ℕ) (x : A) (rest : List ℕ) → AreBytes bytes → read bytes ≡ Ok (x, rest) → Fits x × (bytes ≡ spell x ++ rest)
  pub short : (b : ℕ) (bytes : List ℕ) → AreBytes (b ∷ bytes) → read (b ∷ bytes) ≡ Err NotYet → Begins Fits spell (b ∷ bytes)
  pub bad : (bytes : List ℕ) (left : ℕ) → AreBytes bytes → read bytes ≡ Err (Bad left) → Spoils read bytes left

pub behind : {A : Type 0} {Fits : A → Type 0} {spell : A → List ℕ} {read : Reading A} → IsExact Fits spell read → IsExactBehind Fits spell read
behind e = record { again = e.again; got = e.got; short = λ b bytes. e.short (b ∷ bytes); bad = e.bad }

unknown-got : {C : Type 0} (t : C → List ℕ) (bytes : List ℕ) (c : C) (rest : List ℕ) → AreBytes bytes → unknown bytes ≡ Ok (c, rest) → ⊥ × (bytes ≡ t c ++ rest)
unknown-got t [] c rest fine e = absurd cc
unknown-got t (b ∷ bytes) c rest fine e = absurd cc

unknown-bad : {C : Type 0} (bytes : List ℕ) (left : ℕ) → AreBytes bytes → unknown {A = C} bytes ≡ Err (Bad left) → Spoils (unknown {A = C}) bytes left
unknown-bad [] left fine e = absurd cc
unknown-bad (b ∷ bytes) left fine e = record { front = []; next = b; back = bytes; parts = refl; left-is = cc; hope = refl; stays = λ u. refl }

pub unknown-exact : {C : Type 0} (t : C → List ℕ) → IsExactBehind (λ (c : C). ⊥) t unknown
unknown-exact t = record {
  again = λ c rest h. absurd h;
  got = unknown-got t;
  short = λ b bytes fine e. absurd cc;
  bad = unknown-bad;
}

-- the first byte of a spelling is below a bound
pub record HeadBelow (bound : ℕ) (bytes : List ℕ) : Type 0 where
  pub head : ℕ
  pub tail : List ℕ
  pub is : bytes ≡ head ∷ tail
  pub below : head < bound

-- some of the alternatives, whose tags are below the bound
pub record IsChoice {C : Type 0} (Fits : C → Type 0) (spell : C → List ℕ) (read : Reading C) (bound : ℕ) : Type 0 where
  pub exact : IsExactBehind Fits spell read
  pub heads : (c : C) → Fits c → HeadBelow bound (spell c)

pub no-choice : {C : Type 0} (t : C → List ℕ) → IsChoice (λ (c : C). ⊥) t unknown 0
no-choice t = record { exact = unknown-exact t; heads = λ c h. absurd h }

module _ {A C : Type 0} {F : A → Type 0} {s : A → List ℕ} {read : Reading A} {H : C → Type 0} {t : C → List ℕ} {others : Reading C} {bound : ℕ} (tag : ℕ) (make : A → C) (above : bound ≤ tag)
    (er : IsExact F s read) (choice : IsChoice H t others bound) (spelled : (a : A) → t (make a) ≡ tag ∷ s a) where
  eo : IsExactBehind H t others
  eo = choice.exact

  abbrev Either : C → Type 0
  Either c = ((a : A) × F a × (make a ≡ c)) ⊎ H c

  alt-again : (c : C) (rest : List ℕ) → Either c → alt tag make read others (t c ++ rest) ≡ Ok (c, rest)
  alt-again c rest (inl h) =
      let e : t c ≡ tag ∷ s h.0 = ap t (sym h.2) ∙ spelled h.0 in
      ap (λ w. alt tag make read others (w ++ rest)) e ∙ rw (eq-eqb tag tag refl, er.again h.0 rest h.1, h.2) refl
  alt-again c rest (inr h) =
      let o = choice.heads c h in
      let a = eo.again c rest h in
      let other : eqb o.head tag ≡ false = ne_eqb o.head tag (λ e. omega (arith, o.below)) in
      ap (λ w. alt tag make read others (w ++ rest)) o.is ∙ rw other (ap (λ w. others (w ++ rest)) (sym o.is) ∙ a)

  alt-got : (bytes : List ℕ) (c : C) (rest : List ℕ) → AreBytes bytes → alt tag make read others bytes ≡ Ok (c, rest) → Either c × (bytes ≡ t c ++ rest)
  alt-got [] c rest fine e = absurd cc
  alt-got (b ∷ bytes) c rest fine e =
      elim (cases_eq b tag) [
        | inl same ↦
            let e' = rw (eq-eqb b tag same) at e in
            let x = bind_ok (read bytes) (λ x. Ok (make x.0, x.1)) (c, rest) e' in
            let one = er.got bytes x.0.0 x.0.1 fine.1 x.1 in
            let found : C × List ℕ = (make x.0.0, x.0.1) in
            let is : found ≡ (c, rest) = ok_is found (c, rest) x.2 in
            let whole : b ∷ bytes ≡ t (make x.0.0) ++ x.0.1 = ap (λ h. h ∷ bytes) same ∙ ap (λ w. tag ∷ w) one.1 ∙ sym (ap (λ w. w ++ x.0.1) (spelled x.0.0)) in
            subst (λ (z : C × List ℕ). Either z.0 × (b ∷ bytes ≡ t z.0 ++ z.1)) is (inl (x.0.0, one.0, refl), whole)
        | inr ne ↦
            let e' = rw (ne_eqb b tag ne) at e in
            let r = eo.got (b ∷ bytes) c rest fine e' in
            (inr r.0, r.1)
      ]

  alt-short : (bytes : List ℕ) → AreBytes bytes → alt tag make read others bytes ≡ Err NotYet → Begins Either t bytes
  alt-short [] fine e = let a = some er in record { value = make a.0; next = tag; more = s a.0; fits = inl (a.0, a.1, refl); is = spelled a.0 }
  alt-short (b ∷ bytes) fine e =
      elim (cases_eq b tag) [
        | inl same ↦
            let e' = rw (eq-eqb b tag same) at e in
            elim (bind_err (read bytes) (λ x. Ok (make x.0, x.1)) NotYet e') [
              | first e1 ↦
                  let r = er.short bytes fine.1 e1 in
                  record { value = make r.value; next = r.next; more = r.more; fits = inl (r.value, r.fits, refl); is = spelled r.value ∙ rw same (ap (λ w. tag ∷ w) r.is) }
              | second x e1 e2 ↦ absurd cc
            ]
        | inr ne ↦
            let e' = rw (ne_eqb b tag ne) at e in
            let r = eo.short b bytes fine e' in
            record { value = r.value; next = r.next; more = r.more; fits = inr r.fits; is = r.is }
      ]

  alt-other : (b : ℕ) (bytes : List ℕ) (left : ℕ) → eqb b tag ≡ false → Spoils others (b ∷ bytes) left → Spoils (alt tag make read others) (b ∷ bytes) left
  alt-other b bytes left ne r = by_front r.front r.next r.back r.parts r.left-is r.hope r.stays where
    by_front : (front : List ℕ) (next : ℕ) (back : List ℕ) → b ∷ bytes ≡ front ++ next ∷ back → left ≡ suc (length back) → others front ≡ Err NotYet
        → ((u : List ℕ) → others (front ++ next ∷ u) ≡ Err (Bad (suc (length u)))) → Spoils (alt tag make read others) (b ∷ bytes) left
    by_front [] next back parts left-is hope stays =
        let same : b ≡ next = cc in
        let ne' : eqb next tag ≡ false = rw (← same) ne in
        record { front = []; next = next; back = back; parts = parts; left-is = left-is; hope = refl; stays = λ u. rw ne' (stays u) }
    by_front (x ∷ front) next back parts left-is hope stays =
        let same : b ≡ x = cc in
        let ne' : eqb x tag ≡ false = rw (← same) ne in
        record { front = x ∷ front; next = next; back = back; parts = parts; left-is = left-is; hope = rw ne' hope; stays = λ u. rw ne' (stays u) }

  alt-bad : (bytes : List ℕ) (left : ℕ) → AreBytes bytes → alt tag make read others bytes ≡ Err (Bad left) → Spoils (alt tag make read others) bytes left
  alt-bad [] left fine e = absurd cc
  alt-bad (b ∷ bytes) left fine e =
      elim (cases_eq b tag) [
        | inl same ↦
            let e' = rw (eq-eqb b tag same) at e in
            elim (bind_err (read bytes) (λ x. Ok (make x.0, x.1)) (Bad left) e') [
              | first e1 ↦
                  let r = er.bad bytes left fine.1 e1 in
                  record {
                    front = b ∷ r.front;
                    next = r.next;
                    back = r.back;
                    parts = ap (λ w. b ∷ w) r.parts;
                    left-is = r.left-is;
                    hope = rw (eq-eqb b tag same, r.hope) refl;
                    stays = λ u. rw (eq-eqb b tag same, r.stays u) refl;
                  }
              | second x e1 e2 ↦ absurd cc
            ]
        | inr ne ↦
            let e' = rw (ne_eqb b tag ne) at e in
            alt-other b bytes left (ne_eqb b tag ne) (eo.bad (b ∷ bytes) left fine e')
      ]

  pub alt-exact : IsExact Either t (alt tag make read others)
  alt-exact = record { again = alt-again; got = alt-got; short = alt-short; bad = alt-bad }

  alt-heads : (c : C) → Either c → HeadBelow (suc tag) (t c)
  alt-heads c (inl h) = record { head = tag; tail = s h.0; is = ap t (sym h.2) ∙ spelled h.0; below = omega arith }
  alt-heads c (inr h) = let o = choice.heads c h in record { head = o.head; tail = o.tail; is = o.is; below = omega (arith, o.below) }

  pub alt-choice : IsChoice Either t (alt tag make read others) (suc tag)
  alt-choice = record { exact = behind alt-exact; heads = alt-heads }

-- ---- one byte

module _ (ok : ℕ → Bool) (one : (b : ℕ) × (ok b ≡ true) × (b < 256)) where
  abbrev Passes : ℕ → Type 0
  Passes b = (ok b ≡ true) × (b < 256)

  abbrev alone : ℕ → List ℕ
  alone b = b ∷ []

  byte-again : (b : ℕ) (rest : List ℕ) → Passes b → byte_where ok (alone b ++ rest) ≡ Ok (b, rest)
  byte-again b rest h = let e = h.0 in rw e refl

  byte-got : (bytes : List ℕ) (b : ℕ) (rest : List ℕ) → AreBytes bytes → byte_where ok bytes ≡ Ok (b, rest) → Passes b × (bytes ≡ alone b ++ rest)
  byte-got [] b rest fine e = absurd cc
  byte-got (x ∷ bytes) b rest fine e = by (ok x) refl where
    by : (t : Bool) → ok x ≡ t → Passes b × (x ∷ bytes ≡ alone b ++ rest)
    by true is =
        let same = ok_is (x, bytes) (b, rest) (rw is at e) in
        let same_b : x ≡ b = ap (λ p. p.0) same in
        ((ap ok (sym same_b) ∙ is, subst (λ y. y < 256) same_b fine.0), ap (λ p. p.0 ∷ p.1) same)
    by false is = absurd (let no = rw is at e in cc)

  byte-short : (bytes : List ℕ) → AreBytes bytes → byte_where ok bytes ≡ Err NotYet → Begins Passes alone bytes
  byte-short [] fine e = record { value = one.0; next = one.0; more = []; fits = (one.1, one.2); is = refl }
  byte-short (x ∷ bytes) fine e = by (ok x) refl where
    by : (t : Bool) → ok x ≡ t → Begins Passes alone (x ∷ bytes)
    by true is = absurd (let no = rw is at e in cc)
    by false is = absurd (let no = rw is at e in cc)

  byte-bad : (bytes : List ℕ) (left : ℕ) → AreBytes bytes → byte_where ok bytes ≡ Err (Bad left) → Spoils (byte_where ok) bytes left
  byte-bad [] left fine e = absurd cc
  byte-bad (x ∷ bytes) left fine e = by (ok x) refl where
    by : (t : Bool) → ok x ≡ t → Spoils (byte_where ok) (x ∷ bytes) left
    by true is = absurd (let no = rw is at e in cc)
    by false is =
        let is' : suc (length bytes) ≡ left = (let no = rw is at e in cc) in
        record { front = []; next = x; back = bytes; parts = refl; left-is = sym is'; hope = refl; stays = λ u. rw is refl }

  pub byte-exact : IsExact (λ b. (ok b ≡ true) × (b < 256)) (λ b. b ∷ []) (byte_where ok)
  byte-exact = record { again = byte-again; got = byte-got; short = byte-short; bad = byte-bad }

-- ---- items, so many

abbrev pub FitTimes : {S A : Type 0} → (ℕ → S → A → Type 0) → (S → A → S) → ℕ → S → List A → Type 0
FitTimes F next zero s [] = Unit {0}
FitTimes F next zero s (x ∷ xs) = ⊥
FitTimes F next (suc n) s [] = ⊥
FitTimes F next (suc n) s (x ∷ xs) = F n s x × FitTimes F next n (next s x) xs

module _ {S A : Type 0} (Good : ℕ → S → Type 0) (F : ℕ → S → A → Type 0) (sp : A → List ℕ) (step : ℕ → S → Reading A) (next : S → A → S)
    (es : (n : ℕ) (s : S) → Good (suc n) s → IsExact (F n s) sp (step n s)) (goes : (n : ℕ) (s : S) (x : A) → Good (suc n) s → F n s x → Good n (next s x)) where
  none_to : (s : S) (xs : List A) → xs ≡ [] → FitTimes F next zero s xs × (flat_map sp xs ≡ [])
  none_to s [] e = (tt, refl)
  none_to s (x ∷ xs) e = absurd cc

  none_from : (s : S) (xs : List A) → FitTimes F next zero s xs → (ys : List A) × (ys ≡ []) × (ys ≡ xs)
  none_from s [] f = ([], refl, refl)
  none_from s (x ∷ xs) f = absurd f

  more_from : (n : ℕ) (s : S) (xs : List A) → FitTimes F next (suc n) s xs → (a : A × List A) × (F n s a.0 × FitTimes F next n (next s a.0) a.1) × (cons a ≡ xs)
  more_from n s [] f = absurd f
  more_from n s (x ∷ xs) f = ((x, xs), f, refl)

  pub times-exact : (n : ℕ) (s : S) → Good n s → IsExact (FitTimes F next n s) (flat_map sp) (times step next n s)
  unfolding times
  times-exact zero s g = made-exact (λ (xs : List A). xs) (FitTimes F next zero s) (flat_map sp) (nothing-exact []) (none_to s) (none_from s)
  times-exact (suc n) s g =
      made-exact cons (FitTimes F next (suc n) s) (flat_map sp)
      (both-exact (es n s g) λ x f. times-exact n (next s x) (goes n s x g f))
      (λ a f. (f, refl))
      (more_from n s)

-- ---- items one after the other, as a loop reads them

regroup : {A : Type 0} (front : List A) (x : A) (read : Result (List A × List ℕ) Stop) → with_front front (read >>= λ y. Ok (x ∷ y.0, y.1)) ≡ with_front (front ++ x ∷ []) read
regroup front x (Ok y) = ap (λ ys. Ok (ys, y.1)) (simp append_assoc)
regroup front x (Err e) = refl

abbrev pair_put : {A : Type 0} → A → List A × List ℕ → Result ((A × List A) × List ℕ) Stop
pair_put x y = Ok ((x, y.0), y.1)

abbrev cons_put : {A : Type 0} → (A × List A) × List ℕ → Result (List A × List ℕ) Stop
cons_put z = Ok (cons z.0, z.1)

module _ {S A : Type 0} (step : ℕ → S → Reading A) (next : S → A → S) (front : List A) (n m : ℕ) (s : S) (bytes : List ℕ) (total : Result (List A × List ℕ) Stop)
    (so_far : with_front front (times step next n s bytes) ≡ total) where
  pub times-goes : (x : A) (after : List ℕ) → n ≡ suc m → step m s bytes ≡ Ok (x, after) → with_front (front ++ x ∷ []) (times step next m (next s x) after) ≡ total
  unfolding times
  times-goes x after more h =
      let one : with_front front (times step next (suc m) s bytes) ≡ with_front (front ++ x ∷ []) (times step next m (next s x) after) = rw h (by_rest (times step next m (next s x) after)) in
      sym one ∙ ap (λ k. with_front front (times step next k s bytes)) (sym more) ∙ so_far where
        by_rest : (r : Result (List A × List ℕ) Stop) → with_front front (r >>= (λ y. pair_put x y) >>= (λ z. cons_put z)) ≡ with_front (front ++ x ∷ []) r
        by_rest (Ok y) = regroup front x (Ok y)
        by_rest (Err e) = refl

  pub times-stops : (d : Stop) → n ≡ suc m → step m s bytes ≡ Err d → total ≡ Err d
  unfolding times
  times-stops d more h =
      let one : with_front front (times step next (suc m) s bytes) ≡ Err d = rw h refl in
      sym so_far ∙ ap (λ k. with_front front (times step next k s bytes)) more ∙ one

  pub times-ends : n ≡ 0 → total ≡ Ok (front, bytes)
  unfolding times
  times-ends none =
      let one : with_front front (times step next 0 s bytes) ≡ Ok (front, bytes) = ap (λ w. Ok (w, bytes)) (append-nil front) in
      sym so_far ∙ ap (λ k. with_front front (times step next k s bytes)) none ∙ one

-- ---- items that come in pieces: a reading of all the bytes, whatever they are, behind those that are read

-- behind the front the reading goes on so
abbrev pub GoesOn : {A : Type 0} → Reading A → List ℕ → Reading A → Type 0
GoesOn read front rest = (u : List ℕ) → read (front ++ u) ≡ rest u

module _ {S A : Type 0} (F : A → Type 0) (sp : A → List ℕ) (step : ℕ → S → Reading A) (next : S → A → S) (read : Reading (List A)) (taken : List ℕ) (done_so_far : List A) (n m : ℕ) (s : S)
    (e : IsExact F sp (step m s)) (goes : GoesOn read taken (λ u. with_front done_so_far (times step next n s u))) where
  pub goes-more : (bytes : List ℕ) (x : A) (after : List ℕ) → n ≡ suc m → AreBytes bytes → step m s bytes ≡ Ok (x, after)
      → (bytes ≡ sp x ++ after) × GoesOn read (taken ++ sp x) (λ u. with_front (done_so_far ++ x ∷ []) (times step next m (next s x) u))
  goes-more bytes x after more fine h =
      let one = e.got bytes x after fine h in (
        one.1,
        λ u. ap read (append_assoc taken (sp x) u) ∙ goes (sp x ++ u)
            ∙ sym (times-goes step next done_so_far n m s (sp x ++ u) (with_front done_so_far (times step next n s (sp x ++ u))) refl x u more (e.again x u one.0)),
      )

  pub goes-stops : (bytes : List ℕ) (d : Stop) → n ≡ suc m → step m s bytes ≡ Err d → read (taken ++ bytes) ≡ Err d
  goes-stops bytes d more h = goes bytes ∙ times-stops step next done_so_far n m s bytes (with_front done_so_far (times step next n s bytes)) refl d more h
