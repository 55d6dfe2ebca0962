-- Messages and bytes: what can be taken of a cut spelling has the message at its front exactly where that fits.
use Rattle.std.proofs.Common.{◌≡◌, ℕ, zero, suc, ◌+◌, ◌-◌, ◌<◌, ◌≤◌, min, nat_le, Bool, true, false, List, [], ◌∷◌, ◌++◌, length, take, drop, get_or, Option, Some, None, subst, sym, ap, ◌∙◌, refl, arith, length-append, append_assoc}
use Rattle.std.proofs.lemmas.Bool.{leb-true, leb-false}
use Rattle.std.proofs.lemmas.List.{drop_more, take-append-le, take-append-drop, take_at, drop_at, length-take}
use Rattle.wdt_units.specs.declared.blocks.Header.{Header}
use Rattle.wdt_codec.specs.Frames.{Fits, spell}
use Rattle.wdt_codec.specs.Grammar.{IsFrame, IsFront}
use Rattle.wdt_codec.specs.declared.frames.Frame.{Frame}
use Rattle.wdt_codec.specs.declared.frames.Frame.TheVariants as frames
use Rattle.wdt_sender_fsm.specs.Phases.{Message, Framed, Piece}
use Rattle.wdt_pact.specs.Each.{Each}
use Rattle.wdt_pact.specs.Links.{front, front_by, less, lower, size_up, size_down, with_sent}
use Rattle.wdt_pact.specs.Bytes.{taken_by, spell_up, raw_by, spell_down, bytes_up, bytes_down, FrontUp, FrontDown}

-- ---- lists

none_left : (n : ℕ) → 0 ≡ 0 - n
none_left n = omega arith

-- of a list that is cut behind its first part
take_past : (n : ℕ) (xs ys : List ℕ) → length xs ≤ n → take n (xs ++ ys) ≡ xs ++ take (n - length xs) ys
take_past n [] ys e = let same : n ≡ n - 0 = omega arith in ap (λ (k : ℕ). take k ys) same
take_past zero (x ∷ xs) ys e = absurd (omega (arith, e))
take_past (suc n) (x ∷ xs) ys e =
    let same : n - length xs ≡ suc n - suc (length xs) = omega arith in
    ap (λ (zs : List ℕ). x ∷ zs) (take_past n xs ys (omega (arith, e)) ∙ ap (λ (k : ℕ). xs ++ take k ys) same)

-- what a write adds to what can be taken
take_seam : (n : ℕ) (xs ys : List ℕ) → take n (xs ++ ys) ≡ take n xs ++ take (n - length xs) ys
take_seam zero xs ys = ap (λ (k : ℕ). take k ys) (none_left (length xs))
take_seam (suc n) [] ys = let same : suc n ≡ suc n - 0 = omega arith in ap (λ (k : ℕ). take k ys) same
take_seam (suc n) (x ∷ xs) ys =
    let same : n - length xs ≡ suc n - suc (length xs) = omega arith in
    ap (λ (zs : List ℕ). x ∷ zs) (take_seam n xs ys ∙ ap (λ (k : ℕ). take n xs ++ take k ys) same)

-- a cut lowers what can be taken
take_twice : (n m : ℕ) (xs : List ℕ) → take (min n m) xs ≡ take m (take n xs)
take_twice n zero xs = let none : min n 0 ≡ 0 = omega arith in ap (λ (k : ℕ). take k xs) none
take_twice zero (suc m) xs = let none : min 0 (suc m) ≡ 0 = omega arith in ap (λ (k : ℕ). take k xs) none
take_twice (suc n) (suc m) [] = let least : min (suc n) (suc m) ≡ suc (min n m) = omega arith in ap (λ (k : ℕ). take k []) least
take_twice (suc n) (suc m) (x ∷ xs) = let least : min (suc n) (suc m) ≡ suc (min n m) = omega arith in ap (λ (k : ℕ). take k (x ∷ xs)) least ∙ ap (λ (zs : List ℕ). x ∷ zs) (take_twice n m xs)

pub cuts_bytes : (n : ℕ) (room : Option ℕ) (bytes : List ℕ) → taken_by (lower room n) bytes ≡ take n (taken_by room bytes)
cuts_bytes n None bytes = refl
cuts_bytes n (Some m) bytes = take_twice m n bytes

-- ---- a frame at the front

no_frame : IsFront []
no_frame = (frames.Done, tt, 0x4C, [], refl)

front_of_frame : (f : Frame) (n : ℕ) (rest : List ℕ) → Fits f → n < length (spell f) → IsFront (take n (spell f ++ rest))
front_of_frame f n rest fits less = (
  f,
  fits,
  get_or (spell f) n 0,
  drop (n + 1) (spell f),
  sym (take-append-drop n (spell f)) ∙ (ap (λ (xs : List ℕ). take n (spell f) ++ xs) (drop_more (spell f) n 0 less)
      ∙ ap (λ (xs : List ℕ). xs ++ get_or (spell f) n 0 ∷ drop (n + 1) (spell f)) (sym (take-append-le n (spell f) rest (omega (arith, less))))),
)

frame_of_frame : (f : Frame) (n : ℕ) (rest : List ℕ) → Fits f → length (spell f) ≤ n → IsFrame (take n (spell f ++ rest)) f (take (n - length (spell f)) rest)
frame_of_frame f n rest fits less = (fits, take_past n (spell f) rest less)

-- ---- upwards

reads_by : (f : Frame) (fs : List Frame) (n : ℕ) (b : Bool) → nat_le (length (spell f)) n ≡ b → Fits f → FrontUp (front_by b f record { sent = fs; room = Some (n - length (spell f)) }) (take n (spell f ++ spell_up fs))
reads_by f fs n true e fits = frame_of_frame f n (spell_up fs) fits (leb-true (length (spell f)) n e)
reads_by f fs n false e fits = front_of_frame f n (spell_up fs) fits (leb-false (length (spell f)) n e)

-- the frame that is read is the one at the front, exactly where it can be taken whole
pub reads_up : (sent : List Frame) (room : Option ℕ) → Each Fits sent → FrontUp (front size_up record { sent = sent; room = room }) (bytes_up record { sent = sent; room = room })
reads_up [] None e = no_frame
reads_up [] (Some zero) e = no_frame
reads_up [] (Some (suc n)) e = no_frame
reads_up (f ∷ fs) None e = (e.0, refl)
reads_up (f ∷ fs) (Some n) e = reads_by f fs n (nat_le (length (spell f)) n) refl e.0

-- a write appends what still fits
flat-append : (fs gs : List Frame) → spell_up (fs ++ gs) ≡ spell_up fs ++ spell_up gs
flat-append [] gs = refl
flat-append (f ∷ fs) gs = ap (λ (xs : List ℕ). spell f ++ xs) (flat-append fs gs) ∙ sym (append_assoc (spell f) (spell_up fs) (spell_up gs))

pub writes_up : (sent fs : List Frame) (room : Option ℕ) → bytes_up (with_sent record { sent = sent; room = room } fs) ≡ bytes_up record { sent = sent; room = room } ++ taken_by (less room (length (spell_up sent))) (spell_up fs)
writes_up sent fs None = flat-append sent fs
writes_up sent fs (Some n) = ap (take n) (flat-append sent fs) ∙ take_seam n (spell_up sent) (spell_up fs)

-- ---- downwards

reads_frame : (content : Header → List ℕ) (f : Frame) (ms : List Message) (left : List ℕ) (n : ℕ) (b : Bool) → nat_le (length (spell f)) n ≡ b → Fits f → FrontDown content left (front_by b (Framed f) record { sent = ms; room = Some (n - length (spell f)) }) (take n (spell f ++ spell_down content (raw_by content f) ms))
reads_frame content f ms left n true e fits = frame_of_frame f n (spell_down content (raw_by content f) ms) fits (leb-true (length (spell f)) n e)
reads_frame content f ms left n false e fits = tt

piece_parts : (xs rest : List ℕ) (k : ℕ) → length xs ≡ k → (n : ℕ) → k ≤ n → (take k (take n (xs ++ rest)) ≡ xs) × (drop k (take n (xs ++ rest)) ≡ take (n - k) rest) × (k ≤ length (take n (xs ++ rest)))
piece_parts xs rest k is n le =
    let split : take n (xs ++ rest) ≡ xs ++ take (n - k) rest = take_past n xs rest (omega (arith, is, le)) ∙ ap (λ (i : ℕ). xs ++ take (n - i) rest) is in (
      ap (take k) split ∙ take_at xs (take (n - k) rest) k is,
      ap (drop k) split ∙ drop_at xs (take (n - k) rest) k is,
      subst (λ (ys : List ℕ). k ≤ length ys) (sym split) (omega (arith, length-append xs (take (n - k) rest), is)),
    )

reads_piece : (content : Header → List ℕ) (k : ℕ) (ms : List Message) (left : List ℕ) (n : ℕ) (b : Bool) → nat_le k n ≡ b → k ≤ length left → FrontDown content left (front_by b (Piece k) record { sent = ms; room = Some (n - k) }) (take n (take k left ++ spell_down content (drop k left) ms))
reads_piece content k ms left n true e le = piece_parts (take k left) (spell_down content (drop k left) ms) k (omega (arith, length-take k left, le)) n (leb-true k n e)
reads_piece content k ms left n false e le = tt

-- what is at the front: a frame in the grammar, or a piece of what is left
abbrev pub FitsFront : List ℕ → List Message → Type 0
FitsFront left [] = Unit {0}
FitsFront left (Framed f ∷ ms) = Fits f
FitsFront left (Piece n ∷ ms) = n ≤ length left

pub reads_down : (content : Header → List ℕ) (left : List ℕ) (sent : List Message) (room : Option ℕ) → FitsFront left sent → FrontDown content left (front size_down record { sent = sent; room = room }) (bytes_down content left record { sent = sent; room = room })
reads_down content left [] room e = tt
reads_down content left (Framed f ∷ ms) None e = (e, refl)
reads_down content left (Framed f ∷ ms) (Some n) e = reads_frame content f ms left n (nat_le (length (spell f)) n) refl e
reads_down content left (Piece k ∷ ms) None e =
    let is : length (take k left) ≡ k = omega (arith, length-take k left, e) in
    let rest : List ℕ = spell_down content (drop k left) ms in
    (take_at (take k left) rest k is, drop_at (take k left) rest k is, omega (arith, length-append (take k left) rest, is))
reads_down content left (Piece k ∷ ms) (Some n) e = reads_piece content k ms left n (nat_le k n) refl e
