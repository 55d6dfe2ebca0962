-- What an exact reading says of longer bytes, and of fronts.
use Rattle.std.proofs.Common.{◌≡◌, ℕ, suc, ◌+◌, ◌<◌, ◌≤◌, Bool, true, false, List, [], ◌∷◌, ◌++◌, length, Result, Ok, Err, refl, sym, ap, subst, ◌∙◌, append_assoc, arith}
use Rattle.std.proofs.lemmas.List.{append-nil, length-append}
use Rattle.wdt_codec.specs.declared.stop.Stop.{Stop}
use Rattle.wdt_codec.specs.declared.stop.Stop.TheVariants.{NotYet, Bad}
use Rattle.wdt_codec.specs.Reading.{Reading, except}
use Rattle.wdt_codec.proofs.Field.{AreBytes, AreBytes-append, Begins, Spoils, IsExact, ok_is}

ok_err : {A : Type 0} (x : A) (d : Stop) → ◌≡◌ {A = Result A Stop} (Ok x) (Err d) → ⊥
ok_err x d e = absurd cc

module _ {A : Type 0} {F : A → Type 0} {s : A → List ℕ} {read : Reading A} (e : IsExact F s read) where
  -- bytes that come behind change neither what was read nor where it is bad
  pub more-ok : (bytes : List ℕ) (x : A) (rest u : List ℕ) → AreBytes bytes → read bytes ≡ Ok (x, rest) → read (bytes ++ u) ≡ Ok (x, rest ++ u)
  more-ok bytes x rest u fine h =
      let g = e.got bytes x rest fine h in
      ap (λ w. read (w ++ u)) g.1 ∙ ap read (append_assoc (s x) rest u) ∙ e.again x (rest ++ u) g.0

  pub more-bad : (bytes : List ℕ) (left : ℕ) (u : List ℕ) → AreBytes bytes → read bytes ≡ Err (Bad left) → read (bytes ++ u) ≡ Err (Bad (left + length u))
  more-bad bytes left u fine h =
      let b = e.bad bytes left fine h in
      let k : suc (length (b.back ++ u)) ≡ left + length u = omega (arith, b.left-is, length-append b.back u) in
      ap (λ w. read (w ++ u)) b.parts ∙ ap read (append_assoc b.front (b.next ∷ b.back) u) ∙ b.stays (b.back ++ u) ∙ ap (λ n. stop_at n) k where
        stop_at : ℕ → Result (A × List ℕ) Stop
        stop_at n = Err (Bad n)

  -- more bytes than any spelling has are never too few
  pub more-short : (bound : ℕ) → ((x : A) → F x → length (s x) ≤ bound) → (bytes : List ℕ) → AreBytes bytes → read bytes ≡ Err NotYet → length bytes < bound
  more-short bound most bytes fine h =
      let b = e.short bytes fine h in
      let m = most b.value b.fits in
      omega (arith, m, ap length b.is, length-append bytes (b.next ∷ b.more))

  whole : (x : A) → F x → read (s x) ≡ Ok (x, [])
  whole x h = ap read (sym (append-nil (s x))) ∙ e.again x [] h

  begins_by : (bytes : List ℕ) (r : Result (A × List ℕ) Stop) → read bytes ≡ r → AreBytes bytes → Begins F s bytes → read bytes ≡ Err NotYet
  begins_by bytes (Ok x) is fine b =
      let g = e.got bytes x.0 x.1 fine is in
      let long : read (s b.value) ≡ Ok (x.0, x.1 ++ b.next ∷ b.more) = ap read (b.is ∙ ap (λ w. w ++ b.next ∷ b.more) g.1 ∙ append_assoc (s x.0) x.1 (b.next ∷ b.more)) ∙ e.again x.0 (x.1 ++ b.next ∷ b.more) g.0 in
      let same : length (x.1 ++ b.next ∷ b.more) ≡ 0 = ap (λ (p : A × List ℕ). length p.1) (ok_is (x.0, x.1 ++ b.next ∷ b.more) (b.value, []) (sym long ∙ whole b.value b.fits)) in
      absurd (omega (arith, same, length-append x.1 (b.next ∷ b.more)))
  begins_by bytes (Err NotYet) is fine b = is
  begins_by bytes (Err (Bad left)) is fine b =
      let r = e.bad bytes left fine is in
      let w : s b.value ≡ r.front ++ r.next ∷ (r.back ++ b.next ∷ b.more) = b.is ∙ ap (λ w. w ++ b.next ∷ b.more) r.parts ∙ append_assoc r.front (r.next ∷ r.back) (b.next ∷ b.more) in
      absurd (ok_err (b.value, []) (Bad (suc (length (r.back ++ b.next ∷ b.more)))) (sym (whole b.value b.fits) ∙ ap read w ∙ r.stays (r.back ++ b.next ∷ b.more)))

  -- the reading waits for more at each front of a spelling
  pub begins-is : (bytes : List ℕ) → AreBytes bytes → Begins F s bytes → read bytes ≡ Err NotYet
  begins-is bytes fine b = begins_by bytes (read bytes) refl fine b

-- a front of a list that ends with a byte
record Shorter (front bytes : List ℕ) : Type 0 where
  mid : List ℕ
  is : front ≡ bytes ++ mid

shorter : (bytes front more : List ℕ) (next b : ℕ) → front ++ b ∷ [] ≡ bytes ++ next ∷ more → Shorter front bytes
shorter [] front more next b e = record { mid = front; is = refl }
shorter (x ∷ bytes) [] more next b e = absurd (let l = ap length e in omega (arith, l, length-append bytes (next ∷ more)))
shorter (x ∷ bytes) (y ∷ front) more next b e =
    let same : y ≡ x = cc in
    let r = shorter bytes front more next b cc in
    record { mid = r.mid; is = ap (λ w. y ∷ w) r.is ∙ ap (λ h. h ∷ (bytes ++ r.mid)) same }

-- beside a barred value stands another one that differs in the last byte alone
pub record Beside {A : Type 0} (F : A → Type 0) (s : A → List ℕ) (bar : A → Bool) (x : A) : Type 0 where
  pub front : List ℕ
  pub last : ℕ
  pub is : s x ≡ front ++ last ∷ []
  pub other : A
  pub next : ℕ
  pub more : List ℕ
  pub fits : F other
  pub free : bar other ≡ false
  pub other-is : s other ≡ front ++ next ∷ more

module _ {A : Type 0} {F : A → Type 0} {s : A → List ℕ} {read : Reading A} (bar : A → Bool) (e : IsExact F s read) (beside : (x : A) → F x → bar x ≡ true → Beside F s bar x) where
  abbrev Free : A → Type 0
  Free x = F x × (bar x ≡ false)

  except-again : (x : A) (rest : List ℕ) → Free x → except bar read (s x ++ rest) ≡ Ok (x, rest)
  except-again x rest h = let f = h.1 in rw (e.again x rest h.0, f) refl

  except-got : (bytes : List ℕ) (x : A) (rest : List ℕ) → AreBytes bytes → except bar read bytes ≡ Ok (x, rest) → Free x × (bytes ≡ s x ++ rest)
  except-got bytes x rest fine h = by (read bytes) refl where
    by : (r : Result (A × List ℕ) Stop) → read bytes ≡ r → Free x × (bytes ≡ s x ++ rest)
    by (Err d) is = absurd (let no_way = rw is at h in cc)
    by (Ok y) is = at_bar (bar y.0) refl where
      at_bar : (t : Bool) → bar y.0 ≡ t → Free x × (bytes ≡ s x ++ rest)
      at_bar true b = absurd (let no_way = rw (is, b) at h in cc)
      at_bar false b =
          let g = e.got bytes y.0 y.1 fine is in
          let same : y ≡ (x, rest) = ok_is y (x, rest) (rw (is, b) at h) in
          subst (λ (z : A × List ℕ). Free z.0 × (bytes ≡ s z.0 ++ z.1)) same ((g.0, b), g.1)

  except-short : (bytes : List ℕ) → AreBytes bytes → except bar read bytes ≡ Err NotYet → Begins Free s bytes
  except-short bytes fine h = by (read bytes) refl where
    by : (r : Result (A × List ℕ) Stop) → read bytes ≡ r → Begins Free s bytes
    by (Ok y) is = at_bar (bar y.0) refl where
      at_bar : (t : Bool) → bar y.0 ≡ t → Begins Free s bytes
      at_bar true b = absurd (let no_way = rw (is, b) at h in cc)
      at_bar false b = absurd (let no_way = rw (is, b) at h in cc)
    by (Err (Bad left)) is = absurd (let no_way = rw is at h in cc)
    by (Err NotYet) is =
        let b = e.short bytes fine is in at_bar b (bar b.value) refl where
          at_bar : (b : Begins F s bytes) (t : Bool) → bar b.value ≡ t → Begins Free s bytes
          at_bar b false free = record { value = b.value; next = b.next; more = b.more; fits = (b.fits, free); is = b.is }
          at_bar b true barred =
              let k = beside b.value b.fits barred in
              let m = shorter bytes k.front b.more b.next k.last (sym k.is ∙ b.is) in
              let whole_is : s k.other ≡ bytes ++ (m.mid ++ k.next ∷ k.more) = k.other-is ∙ ap (λ w. w ++ k.next ∷ k.more) m.is ∙ append_assoc bytes m.mid (k.next ∷ k.more) in
              on_mid m.mid k.other k.next k.more (k.fits, k.free) whole_is where
                on_mid : (mid : List ℕ) (o : A) (n : ℕ) (more : List ℕ) → Free o → s o ≡ bytes ++ (mid ++ n ∷ more) → Begins Free s bytes
                on_mid [] o n more f w = record { value = o; next = n; more = more; fits = f; is = w }
                on_mid (y ∷ mid) o n more f w = record { value = o; next = y; more = mid ++ n ∷ more; fits = f; is = w }

  except-bad : (bytes : List ℕ) (left : ℕ) → AreBytes bytes → except bar read bytes ≡ Err (Bad left) → Spoils (except bar read) bytes left
  except-bad bytes left fine h = by (read bytes) refl where
    by : (r : Result (A × List ℕ) Stop) → read bytes ≡ r → Spoils (except bar read) bytes left
    by (Err NotYet) is = absurd (let no_way = rw is at h in cc)
    by (Err (Bad k)) is =
        let same : k ≡ left = (let now = rw is at h in cc) in
        let r = e.bad bytes k fine is in
        record { front = r.front; next = r.next; back = r.back; parts = r.parts; left-is = sym same ∙ r.left-is; hope = rw r.hope refl; stays = λ u. rw (r.stays u) refl }
    by (Ok y) is = at_bar (bar y.0) refl where
      at_bar : (t : Bool) → bar y.0 ≡ t → Spoils (except bar read) bytes left
      at_bar false b = absurd (let no_way = rw (is, b) at h in cc)
      at_bar true b =
          let g = e.got bytes y.0 y.1 fine is in
          let k = beside y.0 g.0 b in
          let same : suc (length y.1) ≡ left = (let now = rw (is, b) at h in cc) in
          let parts : bytes ≡ k.front ++ k.last ∷ y.1 = g.1 ∙ ap (λ w. w ++ y.1) k.is ∙ append_assoc k.front (k.last ∷ []) y.1 in
          let front_fine : AreBytes k.front = (AreBytes-append k.front (k.last ∷ y.1) (subst AreBytes parts fine)).0 in
          let hope : read k.front ≡ Err NotYet = begins-is e k.front front_fine (record { value = y.0; next = k.last; more = []; fits = g.0; is = k.is }) in
          let again_u : (u : List ℕ) → read (k.front ++ k.last ∷ u) ≡ Ok (y.0, u) = λ u. ap read (sym (append_assoc k.front (k.last ∷ []) u) ∙ ap (λ w. w ++ u) (sym k.is)) ∙ e.again y.0 u g.0 in
          record { front = k.front; next = k.last; back = y.1; parts = parts; left-is = sym same; hope = rw hope refl; stays = λ u. rw (again_u u, b) refl }

  pub except-exact : IsExact (λ (x : A). F x × (bar x ≡ false)) s (except bar read)
  except-exact = record { again = except-again; got = except-got; short = except-short; bad = except-bad }
