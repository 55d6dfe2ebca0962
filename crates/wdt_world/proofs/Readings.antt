-- What is read of bytes that can be taken is the message at the front.
use Rattle.std.proofs.Common.{◌≡◌, ℕ, ◌-◌, ◌<◌, ◌≤◌, nat_le, Bool, true, false, List, [], ◌∷◌, ◌++◌, length, map, take, drop, Option, Some, None, subst, sym, ap, ◌∙◌, refl, arith, length-append}
use Rattle.std.specs.List.{flat_map}
use Rattle.std.proofs.lemmas.Bool.{leb-true, leb-false}
use Rattle.std.proofs.lemmas.List.{drop_at, length-take}
use Rattle.wdt_codec.specs.Frames.{owed_by, spell}
use Rattle.wdt_codec.specs.Grammar.{IsFrame}
use Rattle.wdt_codec.specs.declared.frames.Frame.{Frame}
use Rattle.wdt_wire.specs.Ways.{arriving}
use Rattle.wdt_pact.specs.Each.{Each}
use Rattle.wdt_pact.specs.Bytes.{spell_up}
use Rattle.wdt_pact.specs.Links.{front_by, front_of, has_room, less, size_down, size_up}
use Rattle.wdt_sender_fsm.specs.Phases.{Framed, Piece}
use Rattle.wdt_world.specs.Said.{FitsSaid, Said, SaidBytes, SaidFrame, message_of, written_as}
use Rattle.wdt_world.specs.Shown.{IsAnswer}
use Rattle.wdt_world.specs.Finding.{BeginsWithFrame, BeginsWithPiece}
use Rattle.wdt_world.proofs.Fronts.{FrontBy, OneReading, fronts, no_both, no_front, take_past}

-- ---- upwards

-- this frame was read: it is at the front, and behind it is the rest
pub record ReadUp (sent : List Frame) (room : Option ℕ) (f : Frame) (rest : List ℕ) : Type 0 where
  pub more : List Frame
  pub at : front_of size_up sent room ≡ Some (f, record { sent = more; room = less room (length (spell f)) })
  pub fits : Each IsAnswer more
  pub owes : owed_by f ≡ 0
  pub left : rest ≡ arriving (less room (length (spell f))) (spell_up more)

up_by : OneReading → (g : Frame) (gs : List Frame) (room : Option ℕ) (rest : List ℕ) (f : Frame) (b : Bool) → has_room room (length (spell g)) ≡ b → Each IsAnswer (g ∷ gs)
    → FrontBy b (arriving room (spell_up (g ∷ gs))) g (arriving (less room (length (spell g))) (spell_up gs)) → IsFrame (arriving room (spell_up (g ∷ gs))) f rest → ReadUp (g ∷ gs) room f rest
up_by one g gs room rest f true has fits front frame =
    let same : (g ≡ f) × (arriving (less room (length (spell g))) (spell_up gs) ≡ rest) = one g f (arriving (less room (length (spell g))) (spell_up gs)) rest fits.0.0 frame.0 (sym front.1 ∙ frame.1) in
    subst (λ (h : Frame). ReadUp (g ∷ gs) room h rest) same.0
    record {
      more = gs;
      at = ap (λ (b : Bool). front_by b g record { sent = gs; room = less room (length (spell g)) }) has;
      fits = fits.1;
      owes = fits.0.1;
      left = sym same.1;
    }
up_by one g gs room rest f false has fits front frame = absurd (no_both one (arriving room (spell_up (g ∷ gs))) rest f front frame)

pub read_up : OneReading → (sent : List Frame) (room : Option ℕ) (rest : List ℕ) (f : Frame) → Each IsAnswer sent → IsFrame (arriving room (spell_up sent)) f rest → ReadUp sent room f rest
read_up one [] room rest f fits frame = absurd (no_both one (arriving room []) rest f (no_front room) frame)
read_up one (g ∷ gs) room rest f fits frame = up_by one g gs room rest f (has_room room (length (spell g))) refl fits (fronts g (spell_up gs) room fits.0.0) frame

-- where no frame is whole, none is at the front
no_up_by : (g : Frame) (gs : List Frame) (room : Option ℕ) (b : Bool) → has_room room (length (spell g)) ≡ b
    → FrontBy b (arriving room (spell_up (g ∷ gs))) g (arriving (less room (length (spell g))) (spell_up gs))
    → ((f : Frame) (rest : List ℕ) → IsFrame (arriving room (spell_up (g ∷ gs))) f rest → ⊥) → front_of size_up (g ∷ gs) room ≡ None
no_up_by g gs room true has front none = absurd (none g (arriving (less room (length (spell g))) (spell_up gs)) front)
no_up_by g gs room false has front none = ap (λ (b : Bool). front_by b g record { sent = gs; room = less room (length (spell g)) }) has

pub no_up : (sent : List Frame) (room : Option ℕ) → Each IsAnswer sent → ((f : Frame) (rest : List ℕ) → IsFrame (arriving room (spell_up sent)) f rest → ⊥) → front_of size_up sent room ≡ None
no_up [] room fits none = refl
no_up (g ∷ gs) room fits none = no_up_by g gs room (has_room room (length (spell g))) refl (fronts g (spell_up gs) room fits.0.0) none

-- ---- downwards

-- what was said in bytes, and by messages
abbrev pub spell_said : List Said → List ℕ
spell_said said = flat_map written_as said

-- this frame was read: it is at the front, and behind it is the rest
pub record ReadDown (said : List Said) (room : Option ℕ) (f : Frame) (rest : List ℕ) : Type 0 where
  pub more : List Said
  pub at : front_of size_down (map message_of said) room ≡ Some (Framed f, record { sent = map message_of more; room = less room (length (spell f)) })
  pub fits : Each FitsSaid more
  pub left : rest ≡ arriving (less room (length (spell f))) (spell_said more)

down_by : OneReading → (g : Frame) (gs : List Said) (room : Option ℕ) (rest : List ℕ) (f : Frame) (b : Bool) → has_room room (length (spell g)) ≡ b → Each FitsSaid (SaidFrame g ∷ gs)
    → FrontBy b (arriving room (spell g ++ spell_said gs)) g (arriving (less room (length (spell g))) (spell_said gs)) → IsFrame (arriving room (spell g ++ spell_said gs)) f rest → ReadDown (SaidFrame g ∷ gs) room f rest
down_by one g gs room rest f true has fits front frame =
    let same : (g ≡ f) × (arriving (less room (length (spell g))) (spell_said gs) ≡ rest) = one g f (arriving (less room (length (spell g))) (spell_said gs)) rest fits.0 frame.0 (sym front.1 ∙ frame.1) in
    subst (λ (h : Frame). ReadDown (SaidFrame g ∷ gs) room h rest) same.0
    record {
      more = gs;
      at = ap (λ (b : Bool). front_by b (Framed g) record { sent = map message_of gs; room = less room (length (spell g)) }) has;
      fits = fits.1;
      left = sym same.1;
    }
down_by one g gs room rest f false has fits front frame = absurd (no_both one (arriving room (spell g ++ spell_said gs)) rest f front frame)

pub read_down : OneReading → (said : List Said) (room : Option ℕ) (rest : List ℕ) (f : Frame) → Each FitsSaid said → BeginsWithFrame (map message_of said) → IsFrame (arriving room (spell_said said)) f rest → ReadDown said room f rest
read_down one [] room rest f fits head frame = absurd (no_both one (arriving room []) rest f (no_front room) frame)
read_down one (SaidFrame g ∷ gs) room rest f fits head frame = down_by one g gs room rest f (has_room room (length (spell g))) refl fits (fronts g (spell_said gs) room fits.0) frame
read_down one (SaidBytes bytes ∷ gs) room rest f fits head frame = absurd head

-- where no frame is whole, none is at the front
no_down_by : (g : Frame) (gs : List Said) (room : Option ℕ) (b : Bool) → has_room room (length (spell g)) ≡ b
    → FrontBy b (arriving room (spell g ++ spell_said gs)) g (arriving (less room (length (spell g))) (spell_said gs))
    → ((f : Frame) (rest : List ℕ) → IsFrame (arriving room (spell g ++ spell_said gs)) f rest → ⊥) → front_of size_down (map message_of (SaidFrame g ∷ gs)) room ≡ None
no_down_by g gs room true has front none = absurd (none g (arriving (less room (length (spell g))) (spell_said gs)) front)
no_down_by g gs room false has front none = ap (λ (b : Bool). front_by b (Framed g) record { sent = map message_of gs; room = less room (length (spell g)) }) has

pub no_down : (said : List Said) (room : Option ℕ) → Each FitsSaid said → BeginsWithFrame (map message_of said) → ((f : Frame) (rest : List ℕ) → IsFrame (arriving room (spell_said said)) f rest → ⊥) → front_of size_down (map message_of said) room ≡ None
no_down [] room fits head none = refl
no_down (SaidFrame g ∷ gs) room fits head none = no_down_by g gs room (has_room room (length (spell g))) refl (fronts g (spell_said gs) room fits.0) none
no_down (SaidBytes bytes ∷ gs) room fits head none = absurd head

-- ---- a piece

-- this piece was taken: it is at the front, and behind it is the rest
pub record TookPiece (said : List Said) (room : Option ℕ) (n : ℕ) (rest : List ℕ) : Type 0 where
  pub more : List Said
  pub at : front_of size_down (map message_of said) room ≡ Some (Piece n, record { sent = map message_of more; room = less room n })
  pub fits : Each FitsSaid more
  pub left : rest ≡ arriving (less room n) (spell_said more)

-- nothing has no piece
nothing_left : (room : Option ℕ) (n : ℕ) → 1 ≤ n → n ≤ length (arriving room []) → ⊥
nothing_left None n some there = omega (arith, some, there)
nothing_left (Some m) n some there = omega (arith, some, there, length-take {A = ℕ} m [])

-- where so many bytes can be taken there is room for the piece
roomy : (bytes more : List ℕ) (room : Option ℕ) → length bytes ≤ length (arriving room (bytes ++ more)) → has_room room (length bytes) ≡ true
roomy bytes more None there = refl
roomy bytes more (Some m) there = true_of (length bytes) m (nat_le (length bytes) m) refl (omega (arith, there, length-take m (bytes ++ more))) where
  true_of : (k n : ℕ) (b : Bool) → nat_le k n ≡ b → k ≤ n → b ≡ true
  true_of k n true is le = refl
  true_of k n false is le = absurd (omega (arith, le, leb-false k n is))

past_piece : (bytes more : List ℕ) (room : Option ℕ) → has_room room (length bytes) ≡ true → drop (length bytes) (arriving room (bytes ++ more)) ≡ arriving (less room (length bytes)) more
past_piece bytes more None has = drop_at bytes more (length bytes) refl
past_piece bytes more (Some m) has = ap (drop (length bytes)) (take_past m bytes more (leb-true (length bytes) m has)) ∙ drop_at bytes (take (m - length bytes) more) (length bytes) refl

took_by : (bytes : List ℕ) (gs : List Said) (room : Option ℕ) → Each FitsSaid gs → has_room room (length bytes) ≡ true → TookPiece (SaidBytes bytes ∷ gs) room (length bytes) (drop (length bytes) (arriving room (bytes ++ spell_said gs)))
took_by bytes gs room fits has =
    record {
      more = gs;
      at = ap (λ (b : Bool). front_by b (Piece (length bytes)) record { sent = map message_of gs; room = less room (length bytes) }) has;
      fits = fits;
      left = past_piece bytes (spell_said gs) room has;
    }

pub took : (said : List Said) (room : Option ℕ) (n : ℕ) → 1 ≤ n → Each FitsSaid said → BeginsWithPiece n (map message_of said) → n ≤ length (arriving room (spell_said said)) → TookPiece said room n (drop n (arriving room (spell_said said)))
took [] room n some fits head there = absurd (nothing_left room n some there)
took (SaidFrame g ∷ gs) room n some fits head there = absurd head
took (SaidBytes bytes ∷ gs) room n some fits head there =
    subst (λ (k : ℕ). TookPiece (SaidBytes bytes ∷ gs) room k (drop k (arriving room (bytes ++ spell_said gs)))) head
    (took_by bytes gs room fits.1 (roomy bytes (spell_said gs) room (subst (λ (k : ℕ). k ≤ length (arriving room (bytes ++ spell_said gs))) (sym head) there)))

-- where fewer bytes can be taken, no piece is at the front
short : (bytes more : List ℕ) (room : Option ℕ) → length (arriving room (bytes ++ more)) < length bytes → has_room room (length bytes) ≡ false
short bytes more None few = absurd (omega (arith, few, length-append bytes more))
short bytes more (Some m) few = false_of (nat_le (length bytes) m) refl where
  false_of : (b : Bool) → nat_le (length bytes) m ≡ b → b ≡ false
  false_of true is = absurd (omega (arith, few, length-append bytes more, length-take m (bytes ++ more), leb-true (length bytes) m is))
  false_of false is = refl

pub no_piece : (said : List Said) (room : Option ℕ) (n : ℕ) → BeginsWithPiece n (map message_of said) → length (arriving room (spell_said said)) < n → front_of size_down (map message_of said) room ≡ None
no_piece [] room n head few = refl
no_piece (SaidFrame g ∷ gs) room n head few = absurd head
no_piece (SaidBytes bytes ∷ gs) room n head few =
    ap (λ (b : Bool). front_by b (Piece (length bytes)) record { sent = map message_of gs; room = less room (length bytes) })
    (short bytes (spell_said gs) room (subst (λ (k : ℕ). length (arriving room (bytes ++ spell_said gs)) < k) (sym head) few))
