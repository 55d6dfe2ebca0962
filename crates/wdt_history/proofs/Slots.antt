-- Slots that are read and written, behind the claims that are seen of them.
use Rattle.std.proofs.Common.{◌≡◌, ℕ, zero, suc, ◌<◌, ◌≤◌, List, [], ◌∷◌, length, get_or, set, map, Option, Some, None, refl, sym, ap, ◌∙◌, subst, inl, inr, arith}
use Rattle.std.proofs.lemmas.Bool.{cases_eq}
use Rattle.std.proofs.lemmas.List.{get_or-map, get_or_read, get_or-set_same, get_or-set_other, length-map, map-set, set-get_or}
use Rattle.wdt_claims.specs.LaneWords.{Claims, no_claims, finished}
use Rattle.wdt_units.specs.declared.numbers.Lane.{Lane}
use Rattle.wdt_claims.specs.Claimed.{lane_at, with_lane, IsLane, AreLanes}
use Rattle.wdt_history.specs.Slots.{Slot, Book, claims_in, finished_slot, no_slot, HasRoom, IsBook}
use Rattle.wdt_history.proofs.Keeps.{read_at, lanes_finished}

pub within : (slots : List Slot) (l : ℕ) → l < length (map claims_in slots) → l < length slots
within slots l lt = omega (arith, lt, length-map slots claims_in)

-- what was read at a lane's number has its claims
pub read_in : (slots : List Slot) (l : ℕ) (x : Slot) → l < length (map claims_in slots) → x ≡ get_or slots l x → x.claims ≡ lane_at (map claims_in slots) l
read_in slots l x lt e =
    read_at (map claims_in slots) l x.claims lt (ap claims_in e ∙ sym (get_or-map claims_in slots l x x.claims (within slots l lt)))

-- the claims behind a write
pub written : (slots : List Slot) (l : ℕ) (y : Slot) → map claims_in (set slots l y) ≡ with_lane (map claims_in slots) l y.claims
written slots l y = map-set claims_in slots l y

pub seen_as : (slots : List Slot) (l : ℕ) (y : Slot) (s : Claims) (lanes : List Claims) → map claims_in slots ≡ lanes → y.claims ≡ s → map claims_in (set slots l y) ≡ with_lane lanes l s
seen_as slots l y s lanes e f = written slots l y ∙ ap (λ (xs : List Claims). with_lane xs l y.claims) e ∙ ap (with_lane lanes l) f

-- a lane whose list has no less room than before
room_stays : (slots : List Slot) (l : ℕ) (x y : Slot) (ready : Option Lane) → l < length slots → x ≡ get_or slots l x → x.room ≤ y.room → HasRoom slots ready → HasRoom (set slots l y) ready
room_stays slots l x y None lt e more has = tt
room_stays slots l x y (Some k) lt e more has =
    elim (cases_eq k.0 l) [
      | inl same ↦ omega (arith, more, subst (λ (j : ℕ). 0 < (get_or slots j no_slot).room) same has, ap (λ (s : Slot). s.room) (get_or_read slots l x lt e no_slot), ap (λ (s : Slot). s.room) (ap (λ (j : ℕ). get_or (set slots l y) j no_slot) same ∙ get_or-set_same slots l y no_slot lt))
      | inr other ↦ subst (λ (s : Slot). 0 < s.room) (sym (get_or-set_other slots l k.0 y no_slot other)) has
    ]

pub slot_put : (slots : List Slot) (l : ℕ) (x y : Slot) (ready : Option Lane) (lanes : List Claims) → IsBook slots ready → map claims_in slots ≡ lanes → l < length lanes → x ≡ get_or slots l x → x.room ≤ y.room
    → AreLanes (with_lane lanes l y.claims) → IsBook (set slots l y) ready
slot_put slots l x y ready lanes is e lt read more are = record {
  lanes = subst AreLanes (sym (seen_as slots l y y.claims lanes e refl)) are;
  room = room_stays slots l x y ready (within slots l (subst (λ (xs : List Claims). l < length xs) (sym e) lt)) read more is.room;
}

-- a lane that was given room
pub room_made : (slots : List Slot) (l : Lane) (y : Slot) → l.0 < length (map claims_in slots) → 0 < y.room → HasRoom (set slots l.0 y) (Some l)
room_made slots l y lt more = subst (λ (s : Slot). 0 < s.room) (sym (get_or-set_same slots l.0 y no_slot (within slots l.0 lt))) more

-- writing back what was read changes no claims
pub same_claims : (slots : List Slot) (l : ℕ) (x y : Slot) → l < length (map claims_in slots) → x ≡ get_or slots l x → y.claims ≡ x.claims → map claims_in (set slots l y) ≡ map claims_in slots
same_claims slots l x y lt e f =
    written slots l y
    ∙ ap (with_lane (map claims_in slots) l) (f ∙ read_in slots l x lt e)
    ∙ set-get_or (map claims_in slots) l no_claims

pub read_as : (slots : List Slot) (l : ℕ) (x : Slot) (lanes : List Claims) → map claims_in slots ≡ lanes → l < length lanes → x ≡ get_or slots l x → x.claims ≡ lane_at lanes l
read_as slots l x lanes e lt read =
    read_in slots l x (subst (λ (xs : List Claims). l < length xs) (sym e) lt) read ∙ ap (λ (xs : List Claims). lane_at xs l) e

pub lane_in : (slots : List Slot) (l : ℕ) (d : Slot) → AreLanes (map claims_in slots) → l < length slots → IsLane (get_or slots l d).claims
lane_in slots l d are lt = subst IsLane (get_or-map claims_in slots l d d.claims lt) (are.each l d.claims (omega (arith, lt, length-map slots claims_in)))

pub lane_read : (slots : List Slot) (l : ℕ) (x : Slot) → AreLanes (map claims_in slots) → l < length slots → x ≡ get_or slots l x → IsLane x.claims
lane_read slots l x are lt read = subst (λ (s : Slot). IsLane s.claims) (sym read) (lane_in slots l x are lt)

abbrev book : List Claims → Option Lane → Book
book lanes ready = record { lanes = lanes; ready = ready }

pub same_book : (a b : List Claims) (r s : Option Lane) → a ≡ b → r ≡ s → book a r ≡ book b s
same_book a b r s e f = ap (λ (x : List Claims). book x r) e ∙ ap (book b) f

-- ---- the finish

pub finished_all : (slots : List Slot) → map claims_in (map finished_slot slots) ≡ map finished (map claims_in slots)
finished_all [] = refl
finished_all (s ∷ slots) = ap (λ (xs : List Claims). finished s.claims ∷ xs) (finished_all slots)

finished_room : (slots : List Slot) (l : ℕ) → (get_or (map finished_slot slots) l no_slot).room ≡ (get_or slots l no_slot).room
finished_room [] l = refl
finished_room (s ∷ slots) zero = refl
finished_room (s ∷ slots) (suc l) = finished_room slots l

room_finished : (slots : List Slot) (ready : Option Lane) → HasRoom slots ready → HasRoom (map finished_slot slots) ready
room_finished slots None has = tt
room_finished slots (Some l) has = omega (arith, finished_room slots l.0, has)

pub book_finished : (slots : List Slot) (ready : Option Lane) → IsBook slots ready → IsBook (map finished_slot slots) ready
book_finished slots ready is = record {
  lanes = subst AreLanes (sym (finished_all slots)) (lanes_finished (map claims_in slots) is.lanes);
  room = room_finished slots ready is.room;
}
