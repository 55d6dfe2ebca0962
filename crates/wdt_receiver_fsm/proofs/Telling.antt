-- A lane tells of closed lanes, where there are any; and an idle lane of an end that fails tells it.
use Rattle.std.proofs.Common.{◌≡◌, ℕ, Bool, true, false, List, [], ◌∷◌, length, map, refl, sym, ap, ◌∙◌, arith}
use Rattle.std.specs.Prelude.{◌==◌}
use Rattle.std.proofs.lemmas.Bool.{eqb-true}
use Rattle.wdt_units.specs.declared.numbers.Lane.{Lane}
use Rattle.wdt_receiver_fsm.specs.declared.events.RecvEvent.TheVariants as events
use Rattle.wdt_receiver_fsm.specs.declared.states.RecvState.TheVariants as states
use Rattle.wdt_receiver_fsm.specs.PlainReceiver.{PlainReceiver, goes, marks_told, noted}
use Rattle.wdt_receiver_fsm.specs.Sets.{set_of}
use Rattle.wdt_receiver_fsm.specs.Rows.{is_mute}
use Rattle.wdt_receiver_fsm.specs.Turn.{tells_by, writes}
use Rattle.wdt_receiver_fsm.specs.declared.idling.Idling.{Idling}
use Rattle.wdt_receiver_fsm.specs.declared.idling.Idling.TheVariants as ways
use Rattle.wdt_receiver_fsm.specs.Idling.{row_of_way}

pub map_none : {A B : Type 0} (f : A → B) (xs : List A) → map f xs ≡ [] → xs ≡ []
map_none f [] none = refl
map_none f (x ∷ xs) none = absurd (cc)

-- there are some
pub tells_some : (r : PlainReceiver) (l : Lane) (closed : List ℕ) → (closed ≡ [] → ⊥) → tells_by r l closed ≡ writes (goes (noted r (events.Told l (set_of closed) ∷ [])) l.0 states.SendGlobalCheckpoint) (marks_told r closed)
tells_some r l [] some = absurd (some refl)
tells_some r l (q ∷ qs) some = refl

-- a list is tried for being empty
none_by : {A : Type 0} (xs : List A) → (length xs == 0) ≡ true → xs ≡ []
none_by [] e = refl
none_by (x ∷ xs) e = (let none : length (x ∷ xs) ≡ 0 = eqb-true (length (x ∷ xs)) 0 e in absurd (omega (arith, none)))

pub none_empty : {A : Type 0} (xs : List A) {b : Bool} → b ≡ (length xs == 0) → b ≡ true → xs ≡ []
none_empty xs is holds = none_by xs (sym is ∙ holds)

pub some_filled : {A : Type 0} (xs : List A) {b : Bool} → b ≡ (length xs == 0) → b ≡ false → xs ≡ [] → ⊥
some_filled xs is isnt none = (let e : false ≡ true = sym isnt ∙ is ∙ ap (λ (ys : List _). length ys == 0) none in cc)

-- an idle lane can tell a failure
pub speaks : (way : Idling) → is_mute (row_of_way way) ≡ false
speaks ways.Done = refl
speaks ways.WaitWritten = refl
speaks ways.Woken = refl
