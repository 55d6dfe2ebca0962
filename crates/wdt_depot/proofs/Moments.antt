-- Calls one after another.
use Rattle.std.proofs.Common.{◌≡◌, ◌⊎◌, List, [], ◌∷◌, ◌++◌, Option, Some, None, Result, Ok, Err, refl, sym, ap, subst, ◌∙◌, append_assoc, append-nil, inl, inr}
use Rattle.std.proofs.lemmas.Option.{same_Some}
use Rattle.wdt_depot.specs.Disk.{Disk}
use Rattle.wdt_depot.specs.Moments.{Holds, IfTold, MayDo, OneStep, Run, Since, Told, moments}

pub Holds-append : (P : Disk → Type 0) (ds es : List Disk) → Holds P ds → Holds P es → Holds P (ds ++ es)
Holds-append P [] es h p = p
Holds-append P (x ∷ ds) es h p = (h.0, Holds-append P ds es h.1 p)

pub Holds_weaker : (P Q : Disk → Type 0) (ds : List Disk) → ((d : Disk) → P d → Q d) → Holds P ds → Holds Q ds
Holds_weaker P Q [] f h = tt
Holds_weaker P Q (x ∷ ds) f h = (f x h.0, Holds_weaker P Q ds f h.1)

-- since now there was no moment
pub since_now : (P : Disk → Type 0) (t : Option Told) → Since P t t
since_now P None = tt
since_now P (Some t) = ([], sym (append-nil (moments t)), tt)

-- a call more: the moment that it makes has P
pub since_more : (P : Disk → Type 0) (R : Disk → Disk → Type 0) (a b c : Option Told) → Since P a b → OneStep R b c → IfTold (λ t. (e : Disk) → R t.now e → P e) b → Since P a c
since_more P R None None None s o f = tt
since_more P R None None (Some v) s o f = absurd o
since_more P R None (Some u) c s o f = absurd s
since_more P R (Some t) None c s o f = absurd s
since_more P R (Some t) (Some u) None s o f = absurd o
since_more P R (Some t) (Some u) (Some v) s o f = elim o.1 [
  | inl e ↦ (s.0, ap moments e ∙ s.1, s.2)
  | inr p ↦
      (s.0 ++ v.now ∷ [], (ap (λ (ds : List Disk). ds ++ v.now ∷ []) (p ∙ s.1) ∙ append_assoc (moments t) s.0 (v.now ∷ [])), Holds-append P s.0 (v.now ∷ []) s.2 (f v.now o.0, tt))
]

-- two calls' moments, one behind the other
pub since-since : (P : Disk → Type 0) (a b c : Option Told) → Since P a b → Since P b c → Since P a c
since-since P None None None s o = tt
since-since P None None (Some v) s o = absurd o
since-since P None (Some u) c s o = absurd s
since-since P (Some t) None c s o = absurd s
since-since P (Some t) (Some u) None s o = absurd o
since-since P (Some t) (Some u) (Some v) s o =
    (s.0 ++ o.0, (o.1 ∙ ap (λ (ds : List Disk). ds ++ o.0) s.1 ∙ append_assoc (moments t) s.0 o.0), Holds-append P s.0 o.0 s.2 o.2)

pub since_weaker : (P Q : Disk → Type 0) (a b : Option Told) → ((d : Disk) → P d → Q d) → Since P a b → Since Q a b
since_weaker P Q None None f s = tt
since_weaker P Q None (Some u) f s = absurd s
since_weaker P Q (Some t) None f s = absurd s
since_weaker P Q (Some t) (Some u) f s = (s.0, s.1, Holds_weaker P Q s.0 f s.2)

-- the last moment

or_last : Option Disk → Disk → Option Disk
or_last None x = Some x
or_last (Some y) x = Some y

last_of : List Disk → Option Disk
last_of [] = None
last_of (x ∷ xs) = or_last (last_of xs) x

or_again : (o : Option Disk) (y w : Disk) → or_last (or_last o y) w ≡ or_last o y
unfolding or_last
or_again None y w = refl
or_again (Some z) y w = refl

last-skip : (ys : List Disk) (y : Disk) (ds : List Disk) → last_of (ys ++ y ∷ ds) ≡ last_of (y ∷ ds)
unfolding last_of
last-skip [] y ds = refl
last-skip (w ∷ ys) y ds = ap (λ (o : Option Disk). or_last o w) (last-skip ys y ds) ∙ or_again (last_of ds) y w

last_by : (P : Disk → Type 0) (o : Option Disk) (d x : Disk) → P d → ((y : Disk) → o ≡ Some y → P y) → or_last o d ≡ Some x → P x
unfolding or_last
last_by P None d x here later h = subst P (same_Some d x h) here
last_by P (Some y) d x here later h = later x h

last_holds : (P : Disk → Type 0) (ds : List Disk) → Holds P ds → (x : Disk) → last_of ds ≡ Some x → P x
unfolding last_of
last_holds P [] all x is = absurd (cc)
last_holds P (d ∷ ds) all x is = last_by P (last_of ds) d x all.0 (λ y e. last_holds P ds all.1 y e) is

last_is : (u : Told) → last_of (moments u) ≡ Some u.now
unfolding last_of or_last
last_is u = last-skip u.past u.now []

-- what holds at the start and at each moment since holds at the last
pub since_last : (P : Disk → Type 0) (a b : Option Told) → IfTold (λ t. P t.now) a → Since P a b → IfTold (λ t. P t.now) b
since_last P None None here s = tt
since_last P None (Some u) here s = absurd s
since_last P (Some t) None here s = absurd s
since_last P (Some t) (Some u) here s =
    last_holds P (t.now ∷ s.0) (here, s.2) u.now
    (sym (last-skip t.past t.now s.0) ∙ ap last_of (sym (append_assoc t.past (t.now ∷ []) s.0)) ∙ ap last_of (sym s.1) ∙ last_is u)

-- a call that may do a thing did it or not
pub may_either : {T E : Type 0} (f : Disk → Disk) (r : Result T E) (d e : Disk) → MayDo f r d e → (e ≡ d) ⊎ (e ≡ f d)
may_either f (Ok x) d e h = inr h
may_either f (Err x) d e h = h

-- what a step makes
pub step_weaker : (R S : Disk → Disk → Type 0) (a b : Option Told) → ((d e : Disk) → R d e → S d e) → OneStep R a b → OneStep S a b
step_weaker R S None None f o = tt
step_weaker R S None (Some u) f o = absurd o
step_weaker R S (Some t) None f o = absurd o
step_weaker R S (Some t) (Some u) f o = (f t.now u.now o.0, o.1)

-- runs

pub run_start : (P Q : Disk → Disk → Type 0) (a : Option Told) → IfTold (λ t. Q t.now t.now) a → Run P Q a a
run_start P Q None h = tt
run_start P Q (Some t) h = (since_now (P t.now) (Some t), h)

-- a call more
pub run_more : (P Q Q' R : Disk → Disk → Type 0) (a b c : Option Told) → Run P Q a b → OneStep R b c → ((d x y : Disk) → Q d x → R x y → P d y × Q' d y) → Run P Q' a c
run_more P Q Q' R None None None r o f = tt
run_more P Q Q' R None None (Some v) r o f = absurd o
run_more P Q Q' R None (Some u) c r o f = absurd r
run_more P Q Q' R (Some t) None c r o f = absurd r
run_more P Q Q' R (Some t) (Some u) None r o f = absurd o
run_more P Q Q' R (Some t) (Some u) (Some v) r o f =
    (since_more (P t.now) R (Some t) (Some u) (Some v) r.0 o (λ e h. (f t.now u.now e r.1 h).0), (f t.now u.now v.now r.1 o.0).1)

-- a run behind another
pub run_join : (P Q R S P2 Q2 : Disk → Disk → Type 0) (a b c : Option Told) → Run P Q a b → Run R S b c → ((d x : Disk) → P d x → P2 d x) → ((d x y : Disk) → Q d x → R x y → P2 d y) → ((d x y : Disk) → Q d x → S x y → Q2 d y) → Run P2 Q2 a c
run_join P Q R S P2 Q2 None None None one two f g h = tt
run_join P Q R S P2 Q2 None None (Some v) one two f g h = absurd two
run_join P Q R S P2 Q2 None (Some u) c one two f g h = absurd one
run_join P Q R S P2 Q2 (Some t) None c one two f g h = absurd one
run_join P Q R S P2 Q2 (Some t) (Some u) None one two f g h = absurd two
run_join P Q R S P2 Q2 (Some t) (Some u) (Some v) one two f g h = (
  since-since (P2 t.now) (Some t) (Some u) (Some v) (since_weaker (P t.now) (P2 t.now) (Some t) (Some u) (λ x at. f t.now x at) one.0) (since_weaker (R u.now) (P2 t.now) (Some u) (Some v) (λ y at. g t.now u.now y one.1 at) two.0),
  h t.now u.now v.now one.1 two.1,
)

pub run_same : (P Q : Disk → Disk → Type 0) (a b c : Option Told) → Run P Q a b → c ≡ b → Run P Q a c
run_same P Q a b c r same = subst (λ (x : Option Told). Run P Q a x) (sym same) r

-- the same run, said in other words
pub run_as : (P Q Q' : Disk → Disk → Type 0) (a b : Option Told) → Run P Q a b → ((d x : Disk) → Q d x → Q' d x) → Run P Q' a b
run_as P Q Q' None None r f = tt
run_as P Q Q' None (Some u) r f = absurd r
run_as P Q Q' (Some t) None r f = absurd r
run_as P Q Q' (Some t) (Some u) r f = (r.0, f t.now u.now r.1)

-- what the last disk has
pub run_ends : (P Q : Disk → Disk → Type 0) (E : Disk → Type 0) (a b : Option Told) → Run P Q a b → ((d x : Disk) → Q d x → E x) → IfTold (λ t. E t.now) b
run_ends P Q E None None r f = tt
run_ends P Q E None (Some u) r f = absurd r
run_ends P Q E (Some t) None r f = absurd r
run_ends P Q E (Some t) (Some u) r f = f t.now u.now r.1

-- its moments
pub run_since : (P Q : Disk → Disk → Type 0) (a b : Option Told) → Run P Q a b → Since (λ e. IfTold (λ t. P t.now e) a) a b
run_since P Q None None r = tt
run_since P Q None (Some u) r = absurd r
run_since P Q (Some t) None r = absurd r
run_since P Q (Some t) (Some u) r = r.0
