-- What an exact reading says of the bytes, and that it says each thing exactly where it is right.
use Rattle.std.proofs.Common.{◌≡◌, ℕ, zero, suc, ◌+◌, ◌-◌, ◌<◌, ◌≤◌, ◌*◌, List, [], ◌∷◌, ◌++◌, length, take, drop, Result, Ok, Err, refl, sym, ap, subst, ◌∙◌, append_assoc, arith, inl, inr}
use Rattle.std.specs.List.{flat_map}
use Rattle.std.proofs.lemmas.List.{append-nil, length-append, take_at, take-append-drop, take-take, take-append-le, length-take}
use Rattle.std.proofs.lemmas.Bool.{cases_lt, cases_order}
use Rattle.wdt_codec.specs.declared.stop.Stop.{Stop}
use Rattle.wdt_codec.specs.declared.stop.Stop.TheVariants.{NotYet, Bad}
use Rattle.wdt_units.proofs.Shared.{lawful}
use Rattle.wdt_codec.specs.declared.fails.ReadFail.{ReadFail}
use Rattle.wdt_codec.specs.declared.fails.ReadFail.TheVariants as fails
use Rattle.wdt_codec.specs.declared.frames.Frame.{Frame}
use Rattle.wdt_codec.specs.declared.frames.Frame.TheVariants as frames
use Rattle.wdt_codec.specs.Reading.{Fails}
use Rattle.wdt_codec.specs.declared.frames.Mark.{Mark}
use Rattle.wdt_codec.specs.Frames.{Fits, spell_mark, spell, frame_at}
use Rattle.wdt_codec.specs.Grammar.{Starts, IsFront, IsBadAt, IsFrame}
use Rattle.wdt_codec.proofs.Field.{AreBytes, AreBytes-append, done, ok_is}
use Rattle.wdt_codec.proofs.Exact.{frame-exact}
use Rattle.wdt_codec.proofs.HaveExact.{chunks-short}

ok_err : {A : Type 0} (x : A) (d : Stop) → ◌≡◌ {A = Result A Stop} (Ok x) (Err d) → ⊥
ok_err x d e = absurd cc

-- the whole of a spelling is read
whole : (f : Frame) → Fits f → frame_at (spell f) ≡ Ok (f, [])
whole f h = ap frame_at (sym (append-nil (spell f))) ∙ frame-exact.again f [] h

take_front : (bytes front back : List ℕ) (b : ℕ) → bytes ≡ front ++ b ∷ back → (take (length bytes - suc (length back)) bytes ≡ front) × (take (length bytes - suc (length back) + 1) bytes ≡ front ++ b ∷ []) × (length bytes - suc (length back) < length bytes)
take_front bytes front back b e =
    let len : length bytes ≡ length front + suc (length back) = ap length e ∙ length-append front (b ∷ back) in
    let at : length bytes - suc (length back) ≡ length front = omega (arith, len) in
    let at' : length (front ++ b ∷ []) ≡ length bytes - suc (length back) + 1 = omega (arith, len, length-append front (b ∷ [])) in
    let e' : bytes ≡ (front ++ b ∷ []) ++ back = e ∙ sym (append_assoc front (b ∷ []) back) in (
      ap (λ w. take (length bytes - suc (length back)) w) e ∙ take_at front (b ∷ back) _ (sym at),
      ap (λ w. take (length bytes - suc (length back) + 1) w) e' ∙ take_at (front ++ b ∷ []) back _ at',
      omega (arith, len),
    )

pub front-found : (bytes : List ℕ) → AreBytes bytes → frame_at bytes ≡ Err NotYet → IsFront bytes
front-found bytes fine e = let r = frame-exact.short bytes fine e in (r.value, r.fits, r.next, r.more, r.is)

apart : {A : Type 0} (a : A) (r : Result A Stop) (d : Stop) → r ≡ Ok a → r ≡ Err d → ⊥
apart a (Ok x) d e1 e2 = absurd (let k : ◌≡◌ {A = Result _ Stop} (Ok x) (Err d) = e2 in ok_err x d k)
apart a (Err x) d e1 e2 = absurd (let k : ◌≡◌ {A = Result _ Stop} (Err x) (Ok a) = e1 in ok_err a x (sym k))

none_begins : (front : List ℕ) (b : ℕ) → ((u : List ℕ) → frame_at (front ++ b ∷ u) ≡ Err (Bad (suc (length u)))) → Starts (front ++ b ∷ []) → ⊥
none_begins front b stays (f, h, more, is) =
    let e : spell f ≡ front ++ b ∷ more = is ∙ append_assoc front (b ∷ []) more in
    apart (f, []) (frame_at (spell f)) (Bad (suc (length more))) (whole f h) (ap frame_at e ∙ stays more)

pub bad-found : (bytes : List ℕ) (left : ℕ) → AreBytes bytes → frame_at bytes ≡ Err (Bad left) → (left ≤ length bytes) × IsBadAt bytes (length bytes - left)
bad-found bytes left fine e =
    let r = frame-exact.bad bytes left fine e in
    let t = take_front bytes r.front r.back r.next r.parts in
    let fine' : AreBytes r.front = (AreBytes-append r.front (r.next ∷ r.back) (subst AreBytes r.parts fine)).0 in
    let hope : IsFront r.front = front-found r.front fine' r.hope in
    let found : IsBadAt bytes (length bytes - suc (length r.back)) = record {
      within = t.2;
      hope = subst IsFront (sym t.0) hope;
      none = λ s. none_begins r.front r.next r.stays (subst Starts t.1 s);
    } in
    (omega (arith, r.left-is, ap length r.parts, length-append r.front (r.next ∷ r.back)), subst (λ (k : ℕ). IsBadAt bytes (length bytes - k)) (sym r.left-is) found)

-- ---- and the other way

pub frame-is : (bytes : List ℕ) (f : Frame) (rest : List ℕ) → IsFrame bytes f rest → frame_at bytes ≡ Ok (f, rest)
frame-is bytes f rest h = ap frame_at h.1 ∙ frame-exact.again f rest h.0

-- where a frame is, no spelling goes on
front_apart : (bytes : List ℕ) (f : Frame) (rest : List ℕ) → frame_at bytes ≡ Ok (f, rest) → AreBytes bytes → IsFront bytes → ⊥
front_apart bytes f rest e fine (g, h, b, more, is) =
    let k = frame-exact.got bytes f rest fine e in
    let long : frame_at (spell g) ≡ Ok (f, rest ++ b ∷ more) =
    ap frame_at (is ∙ ap (λ w. w ++ b ∷ more) k.1 ∙ append_assoc (spell f) rest (b ∷ more)) ∙ frame-exact.again f (rest ++ b ∷ more) k.0 in
    let two : done (f, rest ++ b ∷ more) ≡ done (g, []) = sym long ∙ whole g h in
    let same = ap (λ (p : Frame × List ℕ). length p.1) (ok_is (f, rest ++ b ∷ more) (g, []) two) in
    omega (arith, same, length-append rest (b ∷ more))

front_by : (bytes : List ℕ) (r : Result (Frame × List ℕ) Stop) → frame_at bytes ≡ r → AreBytes bytes → IsFront bytes → frame_at bytes ≡ Err NotYet
front_by bytes (Ok x) e fine h = absurd (front_apart bytes x.0 x.1 e fine h)
front_by bytes (Err NotYet) e fine h = e
front_by bytes (Err (Bad left)) e fine (g, h, b, more, is) =
    let r = frame-exact.bad bytes left fine e in
    let w : spell g ≡ r.front ++ r.next ∷ (r.back ++ b ∷ more) = is ∙ ap (λ w. w ++ b ∷ more) r.parts ∙ append_assoc r.front (r.next ∷ r.back) (b ∷ more) in
    absurd (apart (g, []) (frame_at (spell g)) (Bad _) (whole g h) (ap frame_at w ∙ r.stays (r.back ++ b ∷ more)))

pub front-is : (bytes : List ℕ) → AreBytes bytes → IsFront bytes → frame_at bytes ≡ Err NotYet
front-is bytes fine h = front_by bytes (frame_at bytes) refl fine h

starts_less : (bytes : List ℕ) (j k : ℕ) → j ≤ k → Starts (take k bytes) → Starts (take j bytes)
starts_less bytes j k le (f, h, more, is) =
    let split : take j bytes ++ drop j (take k bytes) ≡ take k bytes = ap (λ w. w ++ drop j (take k bytes)) (sym (take-take j k bytes le)) ∙ take-append-drop j (take k bytes) in
    (f, h, drop j (take k bytes) ++ more, is ∙ ap (λ w. w ++ more) (sym split) ∙ append_assoc (take j bytes) (drop j (take k bytes)) more)

front_starts : (bytes : List ℕ) → IsFront bytes → Starts bytes
front_starts bytes (f, h, b, more, is) = (f, h, b ∷ more, is)

whole_starts : (bytes : List ℕ) (k : ℕ) → Starts bytes → Starts (take k bytes)
whole_starts bytes k (f, h, more, is) =
    (f, h, drop k bytes ++ more, is ∙ ap (λ w. w ++ more) (sym (take-append-drop k bytes)) ∙ append_assoc (take k bytes) (drop k bytes) more)

AreBytes-take : (k : ℕ) (bytes : List ℕ) → AreBytes bytes → AreBytes (take k bytes)
AreBytes-take k bytes fine = (AreBytes-append (take k bytes) (drop k bytes) (subst AreBytes (sym (take-append-drop k bytes)) fine)).0

bad_frame : (bytes : List ℕ) (i : ℕ) (f : Frame) (rest : List ℕ) → AreBytes bytes → IsBadAt bytes i → Fits f → bytes ≡ spell f ++ rest → ⊥
bad_frame bytes i f rest fine h fits e =
    elim (cases_lt i (length (spell f))) [
      | inl lt ↦ h.none (starts_by (take-append-le (i + 1) (spell f) rest (omega arith)))
      | inr le ↦
          let is : take i bytes ≡ spell f ++ take (i - length (spell f)) rest = ap (take i) e ∙ take_past (spell f) rest i le in
          front_apart (take i bytes) f (take (i - length (spell f)) rest) (frame-is (take i bytes) f _ (fits, is)) (AreBytes-take i bytes fine) h.hope
    ] where
      starts_by : take (i + 1) (spell f ++ rest) ≡ take (i + 1) (spell f) → Starts (take (i + 1) bytes)
      starts_by t = (f, fits, drop (i + 1) (spell f), sym (ap (λ w. take (i + 1) w ++ drop (i + 1) (spell f)) e ∙ ap (λ w. w ++ drop (i + 1) (spell f)) t ∙ take-append-drop (i + 1) (spell f)))

      take_past : (xs ys : List ℕ) (k : ℕ) → length xs ≤ k → take k (xs ++ ys) ≡ xs ++ take (k - length xs) ys
      take_past [] ys k le = ap (λ n. take n ys) (let n : k ≡ k - 0 = omega arith in n)
      take_past (x ∷ xs) ys zero le = absurd (omega arith)
      take_past (x ∷ xs) ys (suc k) le = ap (λ w. x ∷ w) (take_past xs ys k (omega arith) ∙ ap (λ n. xs ++ take n ys) (let n : k - length xs ≡ suc k - suc (length xs) = omega arith in n))

one_place : (bytes : List ℕ) (i j : ℕ) → IsBadAt bytes i → IsBadAt bytes j → i ≡ j
one_place bytes i j a b =
    elim (cases_order i j) [
      | inl same ↦ same
      | inr (inl lt) ↦ absurd (a.none (starts_less bytes (i + 1) j (omega arith) (front_starts (take j bytes) b.hope)))
      | inr (inr gt) ↦ absurd (b.none (starts_less bytes (j + 1) i (omega arith) (front_starts (take i bytes) a.hope)))
    ]

abbrev pub stop_err : Stop → Result (Frame × List ℕ) Stop
stop_err d = Err d

-- what each outcome of the reading says of a bad place
abbrev pub IsBadLeft : List ℕ → ℕ → Result (Frame × List ℕ) Stop → Type 0
IsBadLeft bytes i (Ok x) = ⊥
IsBadLeft bytes i (Err NotYet) = ⊥
IsBadLeft bytes i (Err (Bad left)) = length bytes - left ≡ i

bad_by : (bytes : List ℕ) (i : ℕ) (r : Result (Frame × List ℕ) Stop) → frame_at bytes ≡ r → AreBytes bytes → IsBadAt bytes i → IsBadLeft bytes i r
bad_by bytes i (Ok x) e fine h = let k = frame-exact.got bytes x.0 x.1 fine e in bad_frame bytes i x.0 x.1 fine h k.0 k.1
bad_by bytes i (Err NotYet) e fine h = h.none (whole_starts bytes (i + 1) (front_starts bytes (front-found bytes fine e)))
bad_by bytes i (Err (Bad left)) e fine h = one_place bytes (length bytes - left) i (bad-found bytes left fine e).1 h

pub bad-is : (bytes : List ℕ) (i : ℕ) → AreBytes bytes → IsBadAt bytes i → (r : Result (Frame × List ℕ) Stop) → frame_at bytes ≡ r → IsBadLeft bytes i r
bad-is bytes i fine h r e = bad_by bytes i r e fine h

-- ---- for the code's answers

pub no-frame : (bytes : List ℕ) (f : Frame) (rest : List ℕ) (d : Stop) → IsFrame bytes f rest → frame_at bytes ≡ Err d → ⊥
no-frame bytes f rest d h e = apart (f, rest) (frame_at bytes) d (frame-is bytes f rest h) e

pub same-frame : (bytes : List ℕ) (f g : Frame) (rest more : List ℕ) → IsFrame bytes f rest → frame_at bytes ≡ Ok (g, more) → (g ≡ f) × (more ≡ rest)
same-frame bytes f g rest more h e =
    let same = ok_is (g, more) (f, rest) (sym e ∙ frame-is bytes f rest h) in
    (ap (λ (p : Frame × List ℕ). p.0) same, ap (λ (p : Frame × List ℕ). p.1) same)

pub not-front : (bytes : List ℕ) (x : Frame × List ℕ) → AreBytes bytes → IsFront bytes → frame_at bytes ≡ Ok x → ⊥
not-front bytes x fine h e = apart x (frame_at bytes) NotYet e (front-is bytes fine h)

not_bad_and_front : (left : ℕ) (r : Result (Frame × List ℕ) Stop) → r ≡ Err NotYet → r ≡ Err (Bad left) → ⊥
not_bad_and_front left (Ok x) a b = absurd (ok_err x NotYet a)
not_bad_and_front left (Err NotYet) a b = absurd cc
not_bad_and_front left (Err (Bad k)) a b = absurd cc

pub not-bad-front : (bytes : List ℕ) (left : ℕ) → AreBytes bytes → IsFront bytes → frame_at bytes ≡ Err (Bad left) → ⊥
not-bad-front bytes left fine h e = not_bad_and_front left (frame_at bytes) (front-is bytes fine h) e

pub stopped_short : (x : ReadFail) (v : Result (Frame × List ℕ) Stop) → x ≡ fails.NotYet → Fails x v → v ≡ Err NotYet
stopped_short x v e h = subst (λ (y : ReadFail). Fails y v) e h

pub stopped_bad : (x : ReadFail) (left : ℕ) (v : Result (Frame × List ℕ) Stop) → x ≡ fails.Bad left → Fails x v → v ≡ Err (Bad left)
stopped_bad x left v e h = subst (λ (y : ReadFail). Fails y v) e h

-- ---- a spelling has at most 295,174,149 bytes

length-marks : (ms : List Mark) → length (flat_map spell_mark ms) ≡ 5 * length ms
length-marks [] = refl
length-marks (m ∷ ms) = let r = length-marks ms in simp length-append (omega (arith, r))

spelled_short : (f : Frame) → Fits f → length (spell f) ≤ 295174149
spelled_short (frames.Size files bytes) f = omega arith
spelled_short (frames.Settings s) f = omega arith
spelled_short frames.Done f = omega arith
spelled_short (frames.Greeting m) f = omega arith
spelled_short (frames.Block h) f = let most : length h.path ≤ 1024 = ((lawful h.path).0 f.path).most in simp length-append (omega arith)
spelled_short (frames.Chunks fs) f = let r = chunks-short fs f in omega (arith, r)
spelled_short frames.Wait f = omega arith
spelled_short (frames.ErrMarks ms) f = let r = length-marks ms in simp length-append (omega (arith, r, f.most))
spelled_short (frames.Abort n) f = omega arith

front_short : (bytes : List ℕ) → IsFront bytes → length bytes < 295174149
front_short bytes (f, h, b, more, is) = omega (arith, spelled_short f h, ap length is, length-append bytes (b ∷ more))

pub place-short : (bytes : List ℕ) (i : ℕ) → IsBadAt bytes i → i < 295174149
place-short bytes i h = omega (arith, front_short (take i bytes) h.hope, h.within, length-take i bytes)
