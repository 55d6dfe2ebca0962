-- A funnel's words say of what happened what a receiver's history says.
use Rattle.std.proofs.Common.{◌≡◌, ℕ, zero, suc, ◌<◌, ◌≤◌, ◌==◌, ◌&&◌, ◌||◌, not, nat_lt, Bool, true, false, List, [], ◌∷◌, ◌++◌, filter, if◌then◌else◌, refl, sym, ap, subst, ◌∙◌, append_assoc, append-nil, eqb-true, arith}
use Rattle.std.proofs.lemmas.Bool.Decides.{nat_tests}
use Rattle.std.proofs.lemmas.Grind.{flat_map-append}
use Rattle.std.proofs.lemmas.List.Folds.{list_any-append}
use Rattle.std.proofs.lemmas.Map.Views.{any-filter_same}
use Rattle.wdt_units.specs.declared.limits.TheConstants.{MAX_LANES}
use Rattle.wdt_units.specs.declared.numbers.LaneSet.{LaneSet}
use Rattle.wdt_units.specs.LaneSets.{has_lane}
use Rattle.wdt_funnel.specs.Happenings.{Happening, ends_idling, ends_telling, idles, closes, stands, takes, tells}
use Rattle.wdt_funnel.specs.Happenings as funnel
use Rattle.wdt_funnel.proofs.ForCallers.{any-more, heard-more, stands-more}
use Rattle.wdt_sender_fsm.specs.Rules.{every}
use Rattle.wdt_receiver_fsm.specs.declared.events.RecvEvent.{RecvEvent}
use Rattle.wdt_receiver_fsm.specs.declared.events.RecvEvent.TheVariants as events
use Rattle.wdt_receiver_fsm.specs.Ready.{is_busy, is_closed, is_confirmed, is_idle, is_known_closed, is_ready, is_untold, rests}
use Rattle.wdt_receiver_fsm.specs.ReceiverHistory.{Confirm, RecvPast, confirm_of, confirm_of-append, confirm_of-none, is_closed_after, is_confirmed_after, is_idle_after, past_of, past_of-append, past_of-none, tellers_after, told_after}
use Rattle.wdt_receiver_fsm.specs.Sets.{has, lanes_of, numbers, without}
use Rattle.wdt_receiver_fsm.specs.Happened.{happening_of, happenings_of}

-- ---- tests

sets_true : (x b : Bool) → ((x && not false) || b) ≡ (if b then true else x)
sets_true true true = refl
sets_true true false = refl
sets_true false true = refl
sets_true false false = refl

sets_false : (x b : Bool) → ((x && not b) || false) ≡ (if b then false else x)
sets_false true true = refl
sets_false true false = refl
sets_false false true = refl
sets_false false false = refl

adds : (x b : Bool) → (x || b) ≡ (if b then true else x)
adds true true = refl
adds true false = refl
adds false true = refl
adds false false = refl

stays : (x : Bool) → ((x && not false) || false) ≡ x
stays true = refl
stays false = refl

or_false : (x : Bool) → (x || false) ≡ x
or_false true = refl
or_false false = refl

same_test : (a b : ℕ) → (a == b) ≡ (b == a)
same_test a b = grind (arith, nat_tests)

-- ---- lists of lanes

one_more : (k n : ℕ) → (nat_lt k n || ((n == k) || false)) ≡ nat_lt k (suc n)
one_more k n = grind (arith, nat_tests)

has_numbers : (n k : ℕ) → has (numbers n) k ≡ nat_lt k n
has_numbers zero k = grind (arith, nat_tests)
has_numbers (suc n) k = list_any-append (λ (x : ℕ). x == k) (numbers n) (n ∷ []) ∙ ap (λ (b : Bool). b || ((n == k) || false)) (has_numbers n k) ∙ one_more k n

pub has_filter : (f : ℕ → Bool) (n k : ℕ) → has (filter f (numbers n)) k ≡ (f k && nat_lt k n)
has_filter f n k = any-filter_same (λ (x : ℕ). x == k) f (f k) (λ x e. ap f (eqb-true x k e)) (numbers n) ∙ ap (λ (b : Bool). f k && b) (has_numbers n k)

pub is_below : (k n : ℕ) → k < n → nat_lt k n ≡ true
is_below k n h = grind (arith, nat_tests)

and_true : (a b : Bool) → b ≡ true → (a && b) ≡ a
and_true true b e = e
and_true false b e = refl

-- a set's lanes are those in it
has_of : (set : LaneSet) (c : ℕ) → c < MAX_LANES → has (lanes_of set) c ≡ has_lane set c
has_of set c lt = has_filter (has_lane set) 16 c ∙ and_true (has_lane set c) (nat_lt c 16) (is_below c 16 lt)

has_without : (l k : ℕ) (lanes : List ℕ) → has (without l lanes) k ≡ (not (k == l) && has lanes k)
has_without l k lanes = any-filter_same (λ (x : ℕ). x == k) (λ (x : ℕ). not (x == l)) (not (k == l)) (λ x e. ap (λ (y : ℕ). not (y == l)) (eqb-true x k e)) lanes

-- ---- a step

-- what happened says of each lane what a history says
pub record Says (hs : List Happening) (g : List RecvEvent) : Type 0 where
  pub idle : (l : ℕ) → funnel.is_idle hs l ≡ is_idle g l
  pub closed : (l : ℕ) → funnel.is_closed hs l ≡ is_closed g l
  pub told : (l c : ℕ) → c < MAX_LANES → funnel.has_named hs l c ≡ has (past_of g l).told c
  pub tellers : (l c : ℕ) → c < MAX_LANES → funnel.is_telling hs l c ≡ has (confirm_of g c).tellers l
  pub heard : (c : ℕ) → c < MAX_LANES → funnel.is_heard hs c ≡ is_confirmed g c

idle_more : (g : List RecvEvent) (e : RecvEvent) (l : ℕ) → is_idle (g ++ e ∷ []) l ≡ is_idle_after l (is_idle g l) e
idle_more g e l = ap (λ (p : RecvPast). p.is_idle) (past_of-append g (e ∷ []) l)

closed_more : (g : List RecvEvent) (e : RecvEvent) (l : ℕ) → is_closed (g ++ e ∷ []) l ≡ is_closed_after l (is_closed g l) e
closed_more g e l = ap (λ (p : RecvPast). p.is_closed) (past_of-append g (e ∷ []) l)

told_more : (g : List RecvEvent) (e : RecvEvent) (l c : ℕ) → has (past_of (g ++ e ∷ []) l).told c ≡ has (told_after l (past_of g l).told e) c
told_more g e l c = ap (λ (p : RecvPast). has p.told c) (past_of-append g (e ∷ []) l)

tellers_more : (g : List RecvEvent) (e : RecvEvent) (l c : ℕ) → has (confirm_of (g ++ e ∷ []) c).tellers l ≡ has (tellers_after c (confirm_of g c).tellers e) l
tellers_more g e l c = ap (λ (s : Confirm). has s.tellers l) (confirm_of-append g (e ∷ []) c)

confirmed_more : (g : List RecvEvent) (e : RecvEvent) (c : ℕ) → is_confirmed (g ++ e ∷ []) c ≡ is_confirmed_after (confirm_of g c).tellers (is_confirmed g c) e
confirmed_more g e c = ap (λ (s : Confirm). s.is_confirmed) (confirm_of-append g (e ∷ []) c)

-- nothing happens
still : (hs : List Happening) (g : List RecvEvent) (e : RecvEvent) → ((l : ℕ) (s : Bool) → is_idle_after l s e ≡ s) → ((l : ℕ) (s : Bool) → is_closed_after l s e ≡ s)
    → ((l : ℕ) (s : List ℕ) → told_after l s e ≡ s)
    → ((c : ℕ) (s : List ℕ) → tellers_after c s e ≡ s) → ((ts : List ℕ) (s : Bool) → is_confirmed_after ts s e ≡ s) → Says hs g → Says (hs ++ []) (g ++ e ∷ [])
still hs g e idle closed told tellers confirmed says = subst (λ (xs : List Happening). Says xs (g ++ e ∷ [])) (sym (append-nil hs)) record {
  idle = λ l. says.idle l ∙ sym (idle_more g e l ∙ idle l (is_idle g l));
  closed = λ l. says.closed l ∙ sym (closed_more g e l ∙ closed l (is_closed g l));
  told = λ l c lt. says.told l c lt ∙ sym (told_more g e l c ∙ ap (λ (s : List ℕ). has s c) (told l (past_of g l).told));
  tellers = λ l c lt. says.tellers l c lt ∙ sym (tellers_more g e l c ∙ ap (λ (s : List ℕ). has s l) (tellers c (confirm_of g c).tellers));
  heard = λ c lt. says.heard c lt ∙ sym (confirmed_more g e c ∙ confirmed (confirm_of g c).tellers (is_confirmed g c));
}

-- of a happening: what it starts and what it ends
idle_on : (hs : List Happening) (g : List RecvEvent) (h : Happening) (l : ℕ) → Says hs g → funnel.is_idle (hs ++ h ∷ []) l ≡ ((is_idle g l && not (ends_idling l h)) || idles l h)
idle_on hs g h l says = stands-more (idles l) (ends_idling l) hs h ∙ ap (λ (x : Bool). (x && not (ends_idling l h)) || idles l h) (says.idle l)

closed_on : (hs : List Happening) (g : List RecvEvent) (h : Happening) (l : ℕ) → Says hs g → funnel.is_closed (hs ++ h ∷ []) l ≡ (is_closed g l || closes l h)
closed_on hs g h l says = any-more (closes l) hs h ∙ ap (λ (x : Bool). x || closes l h) (says.closed l)

told_on : (hs : List Happening) (g : List RecvEvent) (h : Happening) (l c : ℕ) → c < MAX_LANES → Says hs g
    → funnel.has_named (hs ++ h ∷ []) l c ≡ ((has (past_of g l).told c && not (takes l h)) || tells l c h)
told_on hs g h l c lt says = stands-more (tells l c) (takes l) hs h ∙ ap (λ (x : Bool). (x && not (takes l h)) || tells l c h) (says.told l c lt)

tellers_on : (hs : List Happening) (g : List RecvEvent) (h : Happening) (l c : ℕ) → c < MAX_LANES → Says hs g
    → funnel.is_telling (hs ++ h ∷ []) l c ≡ ((has (confirm_of g c).tellers l && not (ends_telling l h)) || tells l c h)
tellers_on hs g h l c lt says = stands-more (tells l c) (ends_telling l) hs h ∙ ap (λ (x : Bool). (x && not (ends_telling l h)) || tells l c h) (says.tellers l c lt)

unheard_on : (hs : List Happening) (g : List RecvEvent) (h : Happening) (c : ℕ) → c < MAX_LANES → funnel.is_heard (hs ++ h ∷ []) c ≡ (funnel.is_heard hs c || false) → Says hs g
    → funnel.is_heard (hs ++ h ∷ []) c ≡ is_confirmed g c
unheard_on hs g h c lt more says = more ∙ or_false (funnel.is_heard hs c) ∙ says.heard c lt

-- told of nothing
told_none : (s : List ℕ) (c : ℕ) (b : Bool) → ((has s c && not b) || false) ≡ has (if b then [] else s) c
told_none s c true = sets_false (has s c) true
told_none s c false = stays (has s c)

-- told of more
told_also : (s : List ℕ) (set : LaneSet) (c : ℕ) (b : Bool) → c < MAX_LANES → ((has s c && not false) || (b && has_lane set c)) ≡ has (if b then s ++ lanes_of set else s) c
told_also s set c true lt = grown (has s c) ∙ sym (list_any-append (λ (x : ℕ). x == c) s (lanes_of set) ∙ ap (λ (x : Bool). has s c || x) (has_of set c lt))
  where
    grown : (x : Bool) → ((x && not false) || (true && has_lane set c)) ≡ (x || has_lane set c)
    grown true = refl
    grown false = refl
told_also s set c false lt = stays (has s c)

-- a lane tells of this one, or doesn't
teller_also : (s : List ℕ) (k l : ℕ) (a b : Bool) → a ≡ b → ((has s l && not false) || (k == l && a)) ≡ has (if b then k ∷ s else s) l
teller_also s k l a true e = ap (λ (x : Bool). (has s l && not false) || (k == l && x)) e ∙ front (has s l) (k == l)
  where
    front : (x y : Bool) → ((x && not false) || (y && true)) ≡ (y || x)
    front true true = refl
    front true false = refl
    front false true = refl
    front false false = refl
teller_also s k l a false e = ap (λ (x : Bool). (has s l && not false) || (k == l && x)) e ∙ none (has s l) (k == l)
  where
    none : (x y : Bool) → ((x && not false) || (y && false)) ≡ x
    none true true = refl
    none true false = refl
    none false true = refl
    none false false = refl

-- a lane tells no more
teller_less : (s : List ℕ) (k l : ℕ) → ((has s l && not (k == l)) || false) ≡ has (without k s) l
teller_less s k l = turned (has s l) (k == l) (l == k) (same_test k l) ∙ sym (has_without k l s)
  where
    turned : (x a b : Bool) → a ≡ b → ((x && not a) || false) ≡ (not b && x)
    turned true true b e = ap (λ (c : Bool). not c && true) e
    turned true false b e = ap (λ (c : Bool). not c && true) e
    turned false a true e = refl
    turned false a false e = refl

step : (hs : List Happening) (g : List RecvEvent) (e : RecvEvent) → Says hs g → Says (hs ++ happening_of e) (g ++ e ∷ [])
step hs g (events.Take k conn) says = record {
  idle = λ l. idle_on hs g (funnel.Took k.0) l says ∙ stays (is_idle g l) ∙ sym (idle_more g (events.Take k conn) l);
  closed = λ l. closed_on hs g (funnel.Took k.0) l says ∙ or_false (is_closed g l) ∙ sym (closed_more g (events.Take k conn) l);
  told = λ l c lt. told_on hs g (funnel.Took k.0) l c lt says ∙ told_none (past_of g l).told c (k.0 == l) ∙ sym (told_more g (events.Take k conn) l c);
  tellers = λ l c lt. tellers_on hs g (funnel.Took k.0) l c lt says ∙ stays (has (confirm_of g c).tellers l) ∙ sym (tellers_more g (events.Take k conn) l c);
  heard = λ c lt. unheard_on hs g (funnel.Took k.0) c lt (heard-more hs (funnel.Took k.0) c) says ∙ sym (confirmed_more g (events.Take k conn) c);
}
step hs g (events.Dropped k) says = record {
  idle = λ l. idle_on hs g (funnel.Dropped k.0) l says ∙ sets_false (is_idle g l) (k.0 == l) ∙ sym (idle_more g (events.Dropped k) l);
  closed = λ l. closed_on hs g (funnel.Dropped k.0) l says ∙ or_false (is_closed g l) ∙ sym (closed_more g (events.Dropped k) l);
  told = λ l c lt. told_on hs g (funnel.Dropped k.0) l c lt says ∙ stays (has (past_of g l).told c) ∙ sym (told_more g (events.Dropped k) l c);
  tellers = λ l c lt. tellers_on hs g (funnel.Dropped k.0) l c lt says ∙ teller_less (confirm_of g c).tellers k.0 l ∙ sym (tellers_more g (events.Dropped k) l c);
  heard = λ c lt. unheard_on hs g (funnel.Dropped k.0) c lt (heard-more hs (funnel.Dropped k.0) c) says ∙ sym (confirmed_more g (events.Dropped k) c);
}
step hs g (events.Idle k) says = record {
  idle = λ l. idle_on hs g (funnel.Idled k.0) l says ∙ sets_true (is_idle g l) (k.0 == l) ∙ sym (idle_more g (events.Idle k) l);
  closed = λ l. closed_on hs g (funnel.Idled k.0) l says ∙ or_false (is_closed g l) ∙ sym (closed_more g (events.Idle k) l);
  told = λ l c lt. told_on hs g (funnel.Idled k.0) l c lt says ∙ stays (has (past_of g l).told c) ∙ sym (told_more g (events.Idle k) l c);
  tellers = λ l c lt. tellers_on hs g (funnel.Idled k.0) l c lt says ∙ teller_less (confirm_of g c).tellers k.0 l ∙ sym (tellers_more g (events.Idle k) l c);
  heard = λ c lt. heard-more hs (funnel.Idled k.0) c ∙ ap (λ (x : Bool). x || funnel.is_telling hs k.0 c) (says.heard c lt) ∙ ap (λ (x : Bool). is_confirmed g c || x) (says.tellers k.0 c lt)
      ∙ sym (confirmed_more g (events.Idle k) c);
}
step hs g (events.Told k set) says = record {
  idle = λ l. idle_on hs g (funnel.Told k.0 set) l says ∙ sets_false (is_idle g l) (k.0 == l) ∙ sym (idle_more g (events.Told k set) l);
  closed = λ l. closed_on hs g (funnel.Told k.0 set) l says ∙ or_false (is_closed g l) ∙ sym (closed_more g (events.Told k set) l);
  told = λ l c lt. told_on hs g (funnel.Told k.0 set) l c lt says ∙ told_also (past_of g l).told set c (k.0 == l) lt ∙ sym (told_more g (events.Told k set) l c);
  tellers = λ l c lt. tellers_on hs g (funnel.Told k.0 set) l c lt says ∙ teller_also (confirm_of g c).tellers k.0 l (has_lane set c) (has (lanes_of set) c) (sym (has_of set c lt))
      ∙ sym (tellers_more g (events.Told k set) l c);
  heard = λ c lt. unheard_on hs g (funnel.Told k.0 set) c lt (heard-more hs (funnel.Told k.0 set) c) says ∙ sym (confirmed_more g (events.Told k set) c);
}
step hs g (events.Close k) says = record {
  idle = λ l. idle_on hs g (funnel.Closed k.0) l says ∙ stays (is_idle g l) ∙ sym (idle_more g (events.Close k) l);
  closed = λ l. closed_on hs g (funnel.Closed k.0) l says ∙ adds (is_closed g l) (k.0 == l) ∙ sym (closed_more g (events.Close k) l);
  told = λ l c lt. told_on hs g (funnel.Closed k.0) l c lt says ∙ stays (has (past_of g l).told c) ∙ sym (told_more g (events.Close k) l c);
  tellers = λ l c lt. tellers_on hs g (funnel.Closed k.0) l c lt says ∙ stays (has (confirm_of g c).tellers l) ∙ sym (tellers_more g (events.Close k) l c);
  heard = λ c lt. unheard_on hs g (funnel.Closed k.0) c lt (heard-more hs (funnel.Closed k.0) c) says ∙ sym (confirmed_more g (events.Close k) c);
}
step hs g (events.NoLink k) says = still hs g (events.NoLink k) (λ l s. refl) (λ l s. refl) (λ l s. refl) (λ l s. refl) (λ l s. refl) says
step hs g (events.Met k settings) says = still hs g (events.Met k settings) (λ l s. refl) (λ l s. refl) (λ l s. refl) (λ l s. refl) (λ l s. refl) says
step hs g (events.Sized k files bytes) says = still hs g (events.Sized k files bytes) (λ l s. refl) (λ l s. refl) (λ l s. refl) (λ l s. refl) (λ l s. refl) says
step hs g (events.Begin k b) says = still hs g (events.Begin k b) (λ l s. refl) (λ l s. refl) (λ l s. refl) (λ l s. refl) (λ l s. refl) says
step hs g (events.Land k) says = still hs g (events.Land k) (λ l s. refl) (λ l s. refl) (λ l s. refl) (λ l s. refl) (λ l s. refl) says
step hs g events.Finish says = still hs g events.Finish (λ l s. refl) (λ l s. refl) (λ l s. refl) (λ l s. refl) (λ l s. refl) says
step hs g (events.Acked k) says = still hs g (events.Acked k) (λ l s. refl) (λ l s. refl) (λ l s. refl) (λ l s. refl) (λ l s. refl) says
step hs g (events.Quit k) says = still hs g (events.Quit k) (λ l s. refl) (λ l s. refl) (λ l s. refl) (λ l s. refl) (λ l s. refl) says
step hs g (events.Abort k code) says = still hs g (events.Abort k code) (λ l s. refl) (λ l s. refl) (λ l s. refl) (λ l s. refl) (λ l s. refl) says
step hs g (events.Peer k kind) says = still hs g (events.Peer k kind) (λ l s. refl) (λ l s. refl) (λ l s. refl) (λ l s. refl) (λ l s. refl) says

-- ---- a whole history

pub happenings-more : (g : List RecvEvent) (e : RecvEvent) → happenings_of (g ++ e ∷ []) ≡ happenings_of g ++ happening_of e
happenings-more g e = flat_map-append happening_of g (e ∷ []) ∙ ap (λ (xs : List Happening). happenings_of g ++ xs) (append-nil (happening_of e))

says_none : Says [] []
says_none = record {
  idle = λ l. sym (ap (λ (p : RecvPast). p.is_idle) (past_of-none l));
  closed = λ l. sym (ap (λ (p : RecvPast). p.is_closed) (past_of-none l));
  told = λ l c lt. sym (ap (λ (p : RecvPast). has p.told c) (past_of-none l));
  tellers = λ l c lt. sym (ap (λ (s : Confirm). has s.tellers l) (confirm_of-none c));
  heard = λ c lt. sym (ap (λ (s : Confirm). s.is_confirmed) (confirm_of-none c));
}

says_from : (g rest : List RecvEvent) → Says (happenings_of g) g → Says (happenings_of (g ++ rest)) (g ++ rest)
says_from g [] says = subst (λ (xs : List RecvEvent). Says (happenings_of xs) xs) (sym (append-nil g)) says
says_from g (e ∷ rest) says =
    subst (λ (xs : List RecvEvent). Says (happenings_of xs) xs) (append_assoc g (e ∷ []) rest)
    (says_from (g ++ e ∷ []) rest (subst (λ (hs : List Happening). Says hs (g ++ e ∷ [])) (sym (happenings-more g e)) (step (happenings_of g) g e says)))

pub says_of : (g : List RecvEvent) → Says (happenings_of g) g
says_of g = says_from [] g says_none

-- ---- what follows

pub untold_of : (g : List RecvEvent) (l c : ℕ) → c < MAX_LANES → funnel.is_untold (happenings_of g) l c ≡ is_untold g l c
untold_of g l c lt =
    ap (λ (x : Bool). x && not (funnel.is_heard (happenings_of g) c) && not (funnel.has_named (happenings_of g) l c)) ((says_of g).closed c)
    ∙ ap (λ (x : Bool). is_closed g c && not x && not (funnel.has_named (happenings_of g) l c)) ((says_of g).heard c lt)
    ∙ ap (λ (x : Bool). is_closed g c && not (is_confirmed g c) && not x) ((says_of g).told l c lt)

every_same : (n : ℕ) (p q : ℕ → Bool) → ((l : ℕ) → l < n → p l ≡ q l) → funnel.every n p ≡ every n q
every_same zero p q same = refl
every_same (suc n) p q same = ap (λ (x : Bool). x && funnel.every n p) (same n (omega arith)) ∙ ap (λ (x : Bool). q n && x) (every_same n p q (λ l lt. same l (omega arith))) ∙ turned (q n) (every n q)
  where
    turned : (a b : Bool) → (a && b) ≡ (b && a)
    turned true true = refl
    turned true false = refl
    turned false true = refl
    turned false false = refl

some_same : (n : ℕ) (p q : ℕ → Bool) → ((l : ℕ) → p l ≡ q l) → funnel.some n p ≡ not (every n (λ l. not (q l)))
some_same zero p q same = refl
some_same (suc n) p q same = ap (λ (x : Bool). x || funnel.some n p) (same n) ∙ ap (λ (x : Bool). q n || x) (some_same n p q same) ∙ turned (q n) (every n (λ l. not (q l)))
  where
    turned : (a b : Bool) → (a || not b) ≡ not (b && not a)
    turned true true = refl
    turned true false = refl
    turned false true = refl
    turned false false = refl

pub ready_of : (n : ℕ) (g : List RecvEvent) → n ≤ MAX_LANES → funnel.is_ready n (happenings_of g) ≡ is_ready n g
ready_of n g few =
    ap (λ (x : Bool). x && funnel.some n (funnel.is_idle (happenings_of g)) && funnel.every n (λ l. not (funnel.is_closed (happenings_of g) l) || funnel.is_heard (happenings_of g) l))
    (every_same n (λ l. funnel.is_idle (happenings_of g) l || funnel.is_closed (happenings_of g) l) (rests g)
    (λ l lt. ap (λ (x : Bool). x || funnel.is_closed (happenings_of g) l) ((says_of g).idle l) ∙ ap (λ (x : Bool). is_idle g l || x) ((says_of g).closed l)))
    ∙ ap (λ (x : Bool). every n (rests g) && x && funnel.every n (λ l. not (funnel.is_closed (happenings_of g) l) || funnel.is_heard (happenings_of g) l))
    (some_same n (funnel.is_idle (happenings_of g)) (is_idle g) (λ l. (says_of g).idle l))
    ∙ ap (λ (x : Bool). every n (rests g) && not (every n (is_busy g)) && x)
    (every_same n (λ l. not (funnel.is_closed (happenings_of g) l) || funnel.is_heard (happenings_of g) l) (is_known_closed g)
    (λ l lt. ap (λ (x : Bool). not x || funnel.is_heard (happenings_of g) l) ((says_of g).closed l) ∙ ap (λ (x : Bool). not (is_closed g l) || x) ((says_of g).heard l (omega (arith, lt, few)))))
