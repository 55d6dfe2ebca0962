-- A lane tells of a closed one exactly where it is among those that told of it and weren't idle since.
use Rattle.std.proofs.Common.{◌≡◌, ◌≢◌, ◌⊎◌, inl, inr, ℕ, ◌==◌, ◌||◌, not, List, [], ◌∷◌, ◌++◌, Bool, true, false, if◌then◌else◌, subst, sym, ap, ◌∙◌, refl, append_assoc, append-nil, eq-eqb, eqb-true}
use Rattle.std.proofs.lemmas.Bool.{ne_eqb}
use Rattle.wdt_units.specs.Lanes.{AllOf}
use Rattle.wdt_units.specs.declared.numbers.Lane.{Lane}
use Rattle.wdt_units.specs.declared.numbers.LaneSet.{LaneSet}
use Rattle.wdt_receiver_fsm.specs.declared.events.RecvEvent.{RecvEvent}
use Rattle.wdt_receiver_fsm.specs.declared.events.RecvEvent.TheVariants as events
use Rattle.wdt_receiver_fsm.specs.Legal.{IsAllowed, IsLegal, IsLegal-none, IsLegal-more, Terms, legal_from}
use Rattle.wdt_receiver_fsm.specs.ReceiverHistory.{Confirm, RecvPast, confirm_of, confirm_of-append, confirm_of-none, lane_of, past_of, past_of-none, tellers_after}
use Rattle.wdt_receiver_fsm.specs.Sets.{has, lanes_of, without}
use Rattle.wdt_receiver_fsm.proofs.Entries.{abort_past, acked, began, closed, dropped, finish_past, idled, landed, met_past, peer_past, quitted, sized_past, told, took, tried}
use Rattle.wdt_receiver_fsm.proofs.Keeping.{other_past}
use Rattle.wdt_receiver_fsm.proofs.Sound.{legal_sound, same_or}

-- ---- lists of lanes

has_cons : (b : Bool) (k l : ℕ) (xs : List ℕ) → has (if b then k ∷ xs else xs) l ≡ (if b then ((k == l) || has xs l) else has xs l)
has_cons true k l xs = refl
has_cons false k l xs = refl

-- the lane that is left out
left_out : (l : ℕ) (xs : List ℕ) → has (without l xs) l ≡ false
left_out l [] = refl
left_out l (x ∷ xs) = has_cons (not (x == l)) x l (without l xs) ∙ go (left_out l xs) (x == l) refl
  where
    go : has (without l xs) l ≡ false → (b : Bool) → (x == l) ≡ b → (if not b then ((x == l) || has (without l xs) l) else has (without l xs) l) ≡ false
    go rest true is = rest
    go rest false is = ap (λ (c : Bool). c || has (without l xs) l) is ∙ rest

-- and another
still_in : (k l : ℕ) (xs : List ℕ) → l ≢ k → has (without k xs) l ≡ has xs l
still_in k l [] ne = refl
still_in k l (x ∷ xs) ne = has_cons (not (x == k)) x l (without k xs) ∙ go (still_in k l xs ne) (x == k) refl
  where
    go : has (without k xs) l ≡ has xs l → (b : Bool) → (x == k) ≡ b → (if not b then ((x == l) || has (without k xs) l) else has (without k xs) l) ≡ ((x == l) || has xs l)
    go rest true is = rest ∙ ap (λ (c : Bool). c || has xs l) (sym (ne_eqb x l (λ e. ne (sym e ∙ eqb-true x k is))))
    go rest false is = ap (λ (h : Bool). (x == l) || h) rest

-- ---- behind an entry

abbrev S : List RecvEvent → ℕ → ℕ → Type 0
S g j q = has (past_of g j).telling q ≡ has (confirm_of g q).tellers j

module _ (g : List RecvEvent) (l : Lane) (j q : ℕ) (s : S g j q) where
  -- an entry that neither tells nor ends the telling
  quiet : (e : RecvEvent) → (past_of (g ++ e ∷ []) j).telling ≡ (past_of g j).telling → (confirm_of (g ++ e ∷ []) q).tellers ≡ (confirm_of g q).tellers → S (g ++ e ∷ []) j q
  quiet e same tellers = ap (λ (xs : List ℕ). has xs q) same ∙ s ∙ ap (λ (xs : List ℕ). has xs j) (sym tellers)

  own_or : (e : RecvEvent) → AllOf lane_of l.0 (e ∷ []) → (past_of (g ++ e ∷ []) l.0).telling ≡ (past_of g l.0).telling → (past_of (g ++ e ∷ []) j).telling ≡ (past_of g j).telling
  own_or e own here = go (same_or j l.0)
    where
      go : (j ≡ l.0) ⊎ (j ≢ l.0) → (past_of (g ++ e ∷ []) j).telling ≡ (past_of g j).telling
      go (inl is) = subst (λ (k : ℕ). (past_of (g ++ e ∷ []) k).telling ≡ (past_of g k).telling) (sym is) here
      go (inr ne) = ap (λ (p : RecvPast). p.telling) (other_past g e l.0 j own ne)

  -- the lane tells nothing more
  clears : (e : RecvEvent) → AllOf lane_of l.0 (e ∷ []) → (past_of (g ++ e ∷ []) l.0).telling ≡ [] → (confirm_of (g ++ e ∷ []) q).tellers ≡ without l.0 (confirm_of g q).tellers → S (g ++ e ∷ []) j q
  clears e own here tellers = go (same_or j l.0)
    where
      go : (j ≡ l.0) ⊎ (j ≢ l.0) → S (g ++ e ∷ []) j q
      go (inl is) = subst (λ (k : ℕ). S (g ++ e ∷ []) k q) (sym is) (ap (λ (xs : List ℕ). has xs q) here ∙ sym (left_out l.0 (confirm_of g q).tellers) ∙ ap (λ (xs : List ℕ). has xs l.0) (sym tellers))
      go (inr ne) = ap (λ (p : RecvPast). has p.telling q) (other_past g e l.0 j own ne) ∙ s ∙ sym (still_in l.0 j (confirm_of g q).tellers ne) ∙ ap (λ (xs : List ℕ). has xs j) (sym tellers)

  -- the lane, which told nothing, tells of these
  tells : (set : LaneSet) → (past_of g l.0).telling ≡ [] → S (g ++ events.Told l set ∷ []) j q
  tells set none = go (same_or j l.0)
    where
      tellers : (k : ℕ) → has (confirm_of (g ++ events.Told l set ∷ []) q).tellers k ≡ (if has (lanes_of set) q then ((l.0 == k) || has (confirm_of g q).tellers k) else has (confirm_of g q).tellers k)
      tellers k = ap (λ (c : Confirm). has c.tellers k) (confirm_of-append g (events.Told l set ∷ []) q) ∙ has_cons (has (lanes_of set) q) l.0 k (confirm_of g q).tellers

      here : (b : Bool) (h : Bool) → h ≡ false → b ≡ (if b then ((l.0 == l.0) || h) else h)
      here true h out = ap (λ (c : Bool). c || h) (sym (eq-eqb l.0 l.0 refl))
      here false h out = sym out

      there : (b c h : Bool) → c ≡ false → h ≡ (if b then (c || h) else h)
      there true c h out = ap (λ (x : Bool). x || h) (sym out)
      there false c h out = refl

      go : (j ≡ l.0) ⊎ (j ≢ l.0) → S (g ++ events.Told l set ∷ []) j q
      go (inl is) = subst (λ (k : ℕ). S (g ++ events.Told l set ∷ []) k q) (sym is)
          (ap (λ (p : RecvPast). has p.telling q) (told g l set)
          ∙ here (has (lanes_of set) q) (has (confirm_of g q).tellers l.0) (sym (subst (λ (k : ℕ). S g k q) is s) ∙ ap (λ (xs : List ℕ). has xs q) none)
          ∙ sym (tellers l.0))
      go (inr ne) = ap (λ (p : RecvPast). has p.telling q) (other_past g (events.Told l set) l.0 j (refl, tt) ne) ∙ s
          ∙ there (has (lanes_of set) q) (l.0 == j) (has (confirm_of g q).tellers j) (ne_eqb l.0 j (λ e. ne (sym e))) ∙ sym (tellers j)

-- who told of a lane, behind an entry
tellers_by : (g : List RecvEvent) (e : RecvEvent) (q : ℕ) (xs : List ℕ) → tellers_after q (confirm_of g q).tellers e ≡ xs → (confirm_of (g ++ e ∷ []) q).tellers ≡ xs
tellers_by g e q xs is = ap (λ (c : Confirm). c.tellers) (confirm_of-append g (e ∷ []) q) ∙ is

after : (t : Terms) (g : List RecvEvent) (e : RecvEvent) (j q : ℕ) → IsLegal t g → IsAllowed t g e → S g j q → S (g ++ e ∷ []) j q
after t g (events.Take l c) j q legal a s = quiet g l j q s (events.Take l c) (own_or g l j q s (events.Take l c) (refl, tt) (ap (λ (p : RecvPast). p.telling) (took g l c))) (tellers_by g (events.Take l c) q _ refl)
after t g (events.NoLink l) j q legal a s = quiet g l j q s (events.NoLink l) (own_or g l j q s (events.NoLink l) (refl, tt) (ap (λ (p : RecvPast). p.telling) (tried g l))) (tellers_by g (events.NoLink l) q _ refl)
after t g (events.Met l settings) j q legal a s = quiet g l j q s (events.Met l settings) (ap (λ (p : RecvPast). p.telling) (met_past g l settings j)) (tellers_by g (events.Met l settings) q _ refl)
after t g (events.Sized l files bytes) j q legal a s = quiet g l j q s (events.Sized l files bytes) (ap (λ (p : RecvPast). p.telling) (sized_past g l files bytes j)) (tellers_by g (events.Sized l files bytes) q _ refl)
after t g (events.Begin l b) j q legal a s = quiet g l j q s (events.Begin l b) (own_or g l j q s (events.Begin l b) (refl, tt) (ap (λ (p : RecvPast). p.telling) (began g l b))) (tellers_by g (events.Begin l b) q _ refl)
after t g (events.Land l) j q legal a s = quiet g l j q s (events.Land l) (own_or g l j q s (events.Land l) (refl, tt) (ap (λ (p : RecvPast). p.telling) (landed g l))) (tellers_by g (events.Land l) q _ refl)
after t g (events.Dropped l) j q legal a s = clears g l j q s (events.Dropped l) (refl, tt) (ap (λ (p : RecvPast). p.telling) (dropped g l)) (tellers_by g (events.Dropped l) q _ refl)
after t g (events.Idle l) j q legal a s = clears g l j q s (events.Idle l) (refl, tt) (ap (λ (p : RecvPast). p.telling) (idled g l)) (tellers_by g (events.Idle l) q _ refl)
after t g (events.Told l set) j q legal a s = tells g l j q s set ((legal_sound t g l.0 legal).idle a.fits.0)
after t g (events.Close l) j q legal a s = quiet g l j q s (events.Close l) (own_or g l j q s (events.Close l) (refl, tt) (ap (λ (p : RecvPast). p.telling) (closed g l))) (tellers_by g (events.Close l) q _ refl)
after t g events.Finish j q legal a s = ap (λ (p : RecvPast). has p.telling q) (finish_past g j) ∙ s ∙ ap (λ (xs : List ℕ). has xs j) (sym (tellers_by g events.Finish q _ refl))
after t g (events.Acked l) j q legal a s = quiet g l j q s (events.Acked l) (own_or g l j q s (events.Acked l) (refl, tt) (ap (λ (p : RecvPast). p.telling) (acked g l))) (tellers_by g (events.Acked l) q _ refl)
after t g (events.Quit l) j q legal a s = quiet g l j q s (events.Quit l) (own_or g l j q s (events.Quit l) (refl, tt) (ap (λ (p : RecvPast). p.telling) (quitted g l))) (tellers_by g (events.Quit l) q _ refl)
after t g (events.Abort l code) j q legal a s = quiet g l j q s (events.Abort l code) (ap (λ (p : RecvPast). p.telling) (abort_past g l code j)) (tellers_by g (events.Abort l code) q _ refl)
after t g (events.Peer l kind) j q legal a s = quiet g l j q s (events.Peer l kind) (ap (λ (p : RecvPast). p.telling) (peer_past g l kind j)) (tellers_by g (events.Peer l kind) q _ refl)

from : (t : Terms) (b g : List RecvEvent) (j q : ℕ) → IsLegal t b → S b j q → legal_from t b g → S (b ++ g) j q
from t b [] j q before s legal = subst (λ (h : List RecvEvent). S h j q) (sym (append-nil b)) s
from t b (e ∷ g) j q before s legal = subst (λ (h : List RecvEvent). S h j q) (append_assoc b (e ∷ []) g) (from t (b ++ e ∷ []) g j q (IsLegal-more t b e before legal.0) (after t b e j q before legal.0 s) legal.1)

pub tellers_tell : (t : Terms) (g : List RecvEvent) (l q : ℕ) → IsLegal t g → has (past_of g l).telling q ≡ has (confirm_of g q).tellers l
unfolding IsLegal
tellers_tell t g l q legal = from t [] g l q (IsLegal-none t) (ap (λ (p : RecvPast). has p.telling q) (past_of-none l) ∙ ap (λ (c : Confirm). has c.tellers l) (sym (confirm_of-none q))) legal
