-- What a history says once one thing more has happened.
use Rattle.std.proofs.Common.{◌≡◌, ◌≢◌, ℕ, ◌==◌, ◌&&◌, ◌||◌, not, Bool, true, false, List, [], ◌∷◌, ◌++◌, refl, sym, ap, ◌∙◌, inl, inr, append_assoc}
use Rattle.std.specs.List.{list_any}
use Rattle.std.proofs.lemmas.Bool.Decides.{eqb_tells}
use Rattle.std.proofs.lemmas.Bool.{eq-eqb, true≢false}
use Rattle.wdt_units.specs.declared.numbers.LaneSet.{LaneSet}
use Rattle.wdt_units.specs.LaneSets.{has_lane}
use Rattle.wdt_funnel.specs.Happenings.{Happening, Took, Dropped, Idled, Told, Closed, drops, idles, ends_telling, stands, is_telling, idles_first, is_heard}

pub ne_eqb : (a b : ℕ) → a ≢ b → (a == b) ≡ false
ne_eqb a b h = elim (eqb_tells a b) [ inl e ↦ absurd (h e.1) | inr e ↦ e.0 ]

-- ---- tests

pub or_false : (a : Bool) → (a || false) ≡ a
or_false true = refl
or_false false = refl

or_assoc : (a b c : Bool) → ((a || b) || c) ≡ (a || (b || c))
or_assoc true b c = refl
or_assoc false b c = refl

first_stands : (a : Bool) → ((a && true) || false) ≡ a
first_stands true = refl
first_stands false = refl

-- what started stays unless it is ended now
more_stands : (a b c d i : Bool) → ((a && not (b || c)) || ((i && not c) || d)) ≡ ((((a && not b) || i) && not c) || d)
more_stands true true c d i = refl
more_stands true false true d true = refl
more_stands true false true d false = refl
more_stands true false false d i = refl
more_stands false b c d i = refl

-- ---- one thing more

pub any-more : (p : Happening → Bool) (history : List Happening) (e : Happening) → list_any p (history ++ e ∷ []) ≡ (list_any p history || p e)
any-more p [] e = or_false (p e)
any-more p (x ∷ history) e = ap (λ (b : Bool). p x || b) (any-more p history e) ∙ sym (or_assoc (p x) (list_any p history) (p e))

pub stands-more : (starts ends : Happening → Bool) (history : List Happening) (e : Happening) → stands starts ends (history ++ e ∷ []) ≡ ((stands starts ends history && not (ends e)) || starts e)
stands-more starts ends [] e = first_stands (starts e)
stands-more starts ends (x ∷ history) e =
    ap (λ (b : Bool). (starts x && not b) || stands starts ends (history ++ e ∷ [])) (any-more ends history e)
    ∙ ap (λ (b : Bool). (starts x && not (list_any ends history || ends e)) || b) (stands-more starts ends history e)
    ∙ more_stands (starts x) (list_any ends history) (ends e) (starts e) (stands starts ends history)

-- ---- of a lane that others tell of

behind_drop : (b x y z : Bool) → (x || not y) ≡ (x || not z) → ((not b && x) || not (b || y)) ≡ ((not b && x) || not (b || z))
behind_drop true x y z h = refl
behind_drop false x y z h = h

behind_idling : (b x y z : Bool) → (x || not y) ≡ (x || not z) → ((b || x) || not y) ≡ ((b || x) || not (b || z))
behind_idling true x y z h = refl
behind_idling false x y z h = h

-- an idling ends what is told, as a lost connection does: whichever comes first decides
first_or_none : (history : List Happening) (l : ℕ) → (idles_first history l || not (list_any (drops l) history)) ≡ (idles_first history l || not (list_any (ends_telling l) history))
first_or_none [] l = refl
first_or_none (Took k ∷ history) l = first_or_none history l
first_or_none (Dropped k ∷ history) l = behind_drop (k == l) (idles_first history l) (list_any (drops l) history) (list_any (ends_telling l) history) (first_or_none history l)
first_or_none (Idled k ∷ history) l = behind_idling (k == l) (idles_first history l) (list_any (drops l) history) (list_any (ends_telling l) history) (first_or_none history l)
first_or_none (Told k set ∷ history) l = first_or_none history l
first_or_none (Closed k ∷ history) l = first_or_none history l

first_at : (e : Happening) (l : ℕ) → idles_first (e ∷ []) l ≡ idles l e
first_at (Took k) l = refl
first_at (Dropped k) l = none (k == l)
  where
    none : (b : Bool) → (not b && false) ≡ false
    none true = refl
    none false = refl
first_at (Idled k) l = or_false (k == l)
first_at (Told k set) l = refl
first_at (Closed k) l = refl

more_first : (b x y d : Bool) → (not b && (x || (y && not d))) ≡ ((not b && x) || (y && not (b || d)))
more_first true x true d = refl
more_first true x false d = refl
more_first false x y d = refl

first-more : (history : List Happening) (e : Happening) (l : ℕ) → idles_first (history ++ e ∷ []) l ≡ (idles_first history l || (idles l e && not (list_any (drops l) history)))
first-more [] e l = first_at e l ∙ sym (and_true (idles l e))
  where
    and_true : (a : Bool) → (a && true) ≡ a
    and_true true = refl
    and_true false = refl
first-more (Took k ∷ history) e l = first-more history e l
first-more (Dropped k ∷ history) e l = ap (λ (b : Bool). not (k == l) && b) (first-more history e l) ∙ more_first (k == l) (idles_first history l) (idles l e) (list_any (drops l) history)
first-more (Idled k ∷ history) e l = ap (λ (b : Bool). k == l || b) (first-more history e l) ∙ sym (or_assoc (k == l) (idles_first history l) (idles l e && not (list_any (drops l) history)))
first-more (Told k set ∷ history) e l = first-more history e l
first-more (Closed k ∷ history) e l = first-more history e l

-- what is heard as this happens: a lane that was telling of it idles
abbrev pub hears : List Happening → ℕ → Happening → Bool
hears history c (Idled k) = is_telling history k c
hears history c _ = false

keeps_told : (h f heard : Bool) → ((h && (f || false)) || (heard || false)) ≡ (((h && f) || heard) || false)
keeps_told true true heard = refl
keeps_told true false heard = refl
keeps_told false f heard = refl

-- the lane that told now idles: the first of what follows decides
hears_now : (h f d t heard later : Bool) → (f || not d) ≡ (f || not t) → ((h && (f || (true && not d))) || (heard || later)) ≡ (((h && f) || heard) || ((h && not t) || later))
hears_now true true d t heard later e = refl
hears_now true false d t heard later e = e' (not d) (not t) heard later e
  where
    e' : (x y heard later : Bool) → x ≡ y → (x || (heard || later)) ≡ (heard || (y || later))
    e' true true true later h = refl
    e' true true false later h = refl
    e' true false heard later h = cc
    e' false true heard later h = cc
    e' false false true later h = refl
    e' false false false later h = refl
hears_now false f d t heard later e = refl

hears_else : (h f d t heard later : Bool) → ((h && (f || (false && not d))) || (heard || later)) ≡ (((h && f) || heard) || ((false && not t) || later))
hears_else true true d t heard later = refl
hears_else true false d t heard later = refl
hears_else false f d t heard later = refl

-- a lane that told of c idles
told_idles : (history : List Happening) (j k c : ℕ) (set : LaneSet) → is_heard (history ++ Idled k ∷ []) c ≡ (is_heard history c || is_telling history k c)
    → is_heard ((Told j set ∷ history) ++ Idled k ∷ []) c ≡ (is_heard (Told j set ∷ history) c || is_telling (Told j set ∷ history) k c)
told_idles history j k c set later = elim (eqb_tells j k) [ inl e ↦ same e.1 | inr e ↦ other (λ eq. e.1 eq) ]
  where
    grown : (b : Bool) → (k == j) ≡ b → is_heard ((Told j set ∷ history) ++ Idled k ∷ []) c ≡ ((has_lane set c && (idles_first history j || (b && not (list_any (drops j) history)))) || (is_heard history c || is_telling history k c))
    grown b e =
        ap (λ (x : Bool). (has_lane set c && x) || is_heard (history ++ Idled k ∷ []) c) (first-more history (Idled k) j ∙ ap (λ (x : Bool). idles_first history j || (x && not (list_any (drops j) history))) e)
        ∙ ap (λ (x : Bool). (has_lane set c && (idles_first history j || (b && not (list_any (drops j) history)))) || x) later

    whole : (b : Bool) → (j == k) ≡ b → (((has_lane set c && idles_first history j) || is_heard history c) || (((b && has_lane set c) && not (list_any (ends_telling k) history)) || is_telling history k c))
        ≡ (is_heard (Told j set ∷ history) c || is_telling (Told j set ∷ history) k c)
    whole b e = ap (λ (x : Bool). ((has_lane set c && idles_first history j) || is_heard history c) || (((x && has_lane set c) && not (list_any (ends_telling k) history)) || is_telling history k c)) (sym e)

    same : j ≡ k → is_heard ((Told j set ∷ history) ++ Idled k ∷ []) c ≡ (is_heard (Told j set ∷ history) c || is_telling (Told j set ∷ history) k c)
    same e =
        grown true (eq-eqb k j (sym e))
        ∙ hears_now (has_lane set c) (idles_first history j) (list_any (drops j) history) (list_any (ends_telling k) history) (is_heard history c) (is_telling history k c)
        (first_or_none history j ∙ ap (λ (l : ℕ). idles_first history j || not (list_any (ends_telling l) history)) e)
        ∙ whole true (eq-eqb j k e)

    other : (j ≢ k) → is_heard ((Told j set ∷ history) ++ Idled k ∷ []) c ≡ (is_heard (Told j set ∷ history) c || is_telling (Told j set ∷ history) k c)
    other ne =
        grown false (ne_eqb k j (λ e. ne (sym e)))
        ∙ hears_else (has_lane set c) (idles_first history j) (list_any (drops j) history) (list_any (ends_telling k) history) (is_heard history c) (is_telling history k c)
        ∙ whole false (ne_eqb j k ne)

-- something else happens behind a telling
told_else : (history : List Happening) (j c : ℕ) (set : LaneSet) (e : Happening) → idles j e ≡ false → is_heard (history ++ e ∷ []) c ≡ (is_heard history c || false)
    → is_heard ((Told j set ∷ history) ++ e ∷ []) c ≡ (is_heard (Told j set ∷ history) c || false)
told_else history j c set e none later =
    ap (λ (x : Bool). (has_lane set c && x) || is_heard (history ++ e ∷ []) c) (first-more history e j ∙ ap (λ (x : Bool). idles_first history j || (x && not (list_any (drops j) history))) none)
    ∙ ap (λ (x : Bool). (has_lane set c && (idles_first history j || false)) || x) later
    ∙ keeps_told (has_lane set c) (idles_first history j) (is_heard history c)

heard_at : (e : Happening) (c : ℕ) → is_heard (e ∷ []) c ≡ hears [] c e
heard_at (Took k) c = refl
heard_at (Dropped k) c = refl
heard_at (Idled k) c = refl
heard_at (Told k set) c = none (has_lane set c)
  where
    none : (b : Bool) → ((b && false) || false) ≡ false
    none true = refl
    none false = refl
heard_at (Closed k) c = refl

pub heard-more : (history : List Happening) (e : Happening) (c : ℕ) → is_heard (history ++ e ∷ []) c ≡ (is_heard history c || hears history c e)
heard-more [] e c = heard_at e c
heard-more (Took j ∷ history) (Idled k) c = heard-more history (Idled k) c
heard-more (Took j ∷ history) (Took k) c = heard-more history (Took k) c
heard-more (Took j ∷ history) (Dropped k) c = heard-more history (Dropped k) c
heard-more (Took j ∷ history) (Told k set) c = heard-more history (Told k set) c
heard-more (Took j ∷ history) (Closed k) c = heard-more history (Closed k) c
heard-more (Dropped j ∷ history) (Idled k) c = heard-more history (Idled k) c
heard-more (Dropped j ∷ history) (Took k) c = heard-more history (Took k) c
heard-more (Dropped j ∷ history) (Dropped k) c = heard-more history (Dropped k) c
heard-more (Dropped j ∷ history) (Told k set) c = heard-more history (Told k set) c
heard-more (Dropped j ∷ history) (Closed k) c = heard-more history (Closed k) c
heard-more (Idled j ∷ history) (Idled k) c = heard-more history (Idled k) c
heard-more (Idled j ∷ history) (Took k) c = heard-more history (Took k) c
heard-more (Idled j ∷ history) (Dropped k) c = heard-more history (Dropped k) c
heard-more (Idled j ∷ history) (Told k set) c = heard-more history (Told k set) c
heard-more (Idled j ∷ history) (Closed k) c = heard-more history (Closed k) c
heard-more (Closed j ∷ history) (Idled k) c = heard-more history (Idled k) c
heard-more (Closed j ∷ history) (Took k) c = heard-more history (Took k) c
heard-more (Closed j ∷ history) (Dropped k) c = heard-more history (Dropped k) c
heard-more (Closed j ∷ history) (Told k set) c = heard-more history (Told k set) c
heard-more (Closed j ∷ history) (Closed k) c = heard-more history (Closed k) c
heard-more (Told j own ∷ history) (Idled k) c = told_idles history j k c own (heard-more history (Idled k) c)
heard-more (Told j own ∷ history) (Took k) c = told_else history j c own (Took k) refl (heard-more history (Took k) c)
heard-more (Told j own ∷ history) (Dropped k) c = told_else history j c own (Dropped k) refl (heard-more history (Dropped k) c)
heard-more (Told j own ∷ history) (Told k set) c = told_else history j c own (Told k set) refl (heard-more history (Told k set) c)
heard-more (Told j own ∷ history) (Closed k) c = told_else history j c own (Closed k) refl (heard-more history (Closed k) c)

-- ---- what stays

pub any_stays : (p : Happening → Bool) (history more : List Happening) → list_any p history ≡ true → list_any p (history ++ more) ≡ true
any_stays p [] more h = absurd (true≢false (sym h))
any_stays p (e ∷ history) more h = at (p e) (list_any p history) h (any_stays p history more)
  where
    at : (a b : Bool) {c : Bool} → (a || b) ≡ true → (b ≡ true → c ≡ true) → (a || c) ≡ true
    at true b h later = refl
    at false b h later = later h

pub heard_stays : (history more : List Happening) (c : ℕ) → is_heard history c ≡ true → is_heard (history ++ more) c ≡ true
heard_stays history [] c h = ap (λ (xs : List Happening). is_heard xs c) (append_nil history) ∙ h
  where
    append_nil : (xs : List Happening) → xs ++ [] ≡ xs
    append_nil [] = refl
    append_nil (x ∷ xs) = ap (λ (ys : List Happening). x ∷ ys) (append_nil xs)
heard_stays history (e ∷ more) c h =
    ap (λ (xs : List Happening). is_heard xs c) (sym (append_assoc history (e ∷ []) more))
    ∙ heard_stays (history ++ e ∷ []) more c (heard-more history e c ∙ ap (λ (b : Bool). b || hears history c e) h)
