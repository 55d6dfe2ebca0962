-- The exits of a call of a memory depot.
use Rattle.std.proofs.Common.{◌≡◌, ◌⊎◌, inl, inr, ℕ, ◌-◌, ◌≤◌, List, Option, Some, None, Bool, true, false, refl, sym, ◌∙◌, ap, subst, arith, Ok, Err}
use Rattle.std.specs.Prelude.{if◌then◌else◌, ◌==◌, IsSome, Result, is_some, ◌%◌, ◌||◌}
use Rattle.std.proofs.lemmas.Bool.Decides.{nat_tests}
use Rattle.wdt_units.specs.Schedule.{Schedule, is_due}
use Rattle.wdt_units.specs.Slips.{RisesIf}
use Rattle.wdt_depot.specs.Disk.{Disk, synced_at}
use Rattle.wdt_depot.specs.Memory.{IsSynced}
use Rattle.wdt_depot.specs.Health.{IsBarred, IsCountedOn, IsEnded, IsFaulted, IsFree, IsLater, IsOwnFault, IsOwnRefusal, IsRefused, IsStruck, IsTurn, goes, is_whole, less, reaches_disk, schedule_of, state_of, stop_of}
use Rattle.wdt_depot.specs.Moments.{OneStep, Told}
use Rattle.wdt_depot.specs.Outcome.{Look, Outcome}
use Rattle.wdt_depot.specs.Programs.{Drive, changed, changing, done_or_torn, looked, looking, when_odd}
use Rattle.wdt_depot.specs.Slots.{next_of}
use Rattle.wdt_depot.specs.State.{FailsWhere, State, Stop, armed_on, counted, counted_on}
use Rattle.wdt_depot.specs.declared.failure.DepotFail.{DepotFail}
use Rattle.wdt_depot.specs.declared.failure.DepotFail.TheVariants.{Failed, NoMemory}
use Rattle.wdt_depot.specs.declared.health.Health.{Health}
use Rattle.wdt_depot.specs.declared.health.Turn.{Turn}
use Rattle.wdt_depot.specs.declared.health.Turn.TheVariants.{Bars, Strikes, Fails, Goes}

-- failures

not_memory : {T : Type 0} (x : DepotFail) → x ≡ Failed → let r : Result T DepotFail = Err x in r ≡ Err NoMemory → ⊥
not_memory x e h = cc (e, h)

is_failed : {T : Type 0} (x : DepotFail) → x ≡ Failed → let r : Result T DepotFail = Err x in r ≡ Err Failed
is_failed {T} x e = ap {A = DepotFail} {B = Result T DepotFail} (λ y. Err y) e

-- the stop

same_stop : (l m : Health) (a : Option (ℕ × ℕ)) (s : Option ℕ) → m.armed ≡ a → m.struck ≡ s → stop_of m ≡ record { armed = a; struck = s }
same_stop l m a s e g = λ j. record { armed = e j; struck = g j }

counted_down : (l m : Health) → IsSome l.struck → m.armed ≡ l.armed → m.struck ≡ l.struck → stop_of m ≡ counted (stop_of l)
counted_down l m down a s = same_stop l m l.armed l.struck a s ∙ sym (go l.struck down)
  where
    go : (o : Option ℕ) → IsSome o → counted_on o l.armed ≡ record { armed = l.armed; struck = o }
    go None h = cc
    go (Some pick) h = refl

later_on : (a : Option (ℕ × ℕ)) → IsLater a → armed_on a ≡ record { armed = less a; struck = None }
later_on None h = refl
later_on (Some a) h =
    let other : (a.0 == 1) ≡ false = grind (arith, nat_tests) in
    ap (λ (b : Bool). if b then record { armed = None; struck = Some a.1 } else record { armed = Some (a.0 - 1, a.1); struck = None }) other

counted_later : (l m : Health) → l.struck ≡ None → IsLater l.armed → m.armed ≡ less l.armed → m.struck ≡ l.struck → stop_of m ≡ counted (stop_of l)
counted_later l m up later a s =
    same_stop l m (less l.armed) None a (s ∙ up) ∙ sym (ap (λ (o : Option ℕ). counted_on o l.armed) up ∙ later_on l.armed later)

counted_strikes : (l m : Health) (pick : ℕ) → l.struck ≡ None → l.armed ≡ Some (1, pick) → m.armed ≡ None → m.struck ≡ Some pick → stop_of m ≡ counted (stop_of l)
counted_strikes l m pick up armed a s =
    same_stop l m None (Some pick) a s ∙ sym (ap (λ (o : Option ℕ). counted_on o l.armed) up ∙ ap (λ (o : Option (ℕ × ℕ)). armed_on o) armed)

-- programs

changed_down : (done : Disk → Disk) (torn : ℕ → Disk → Disk) (d : Disk) (l m : Health) → IsSome l.struck → stop_of m ≡ counted (stop_of l) → changing done torn (record { disk = d; stop = stop_of l }) ≡ (false, record { disk = d; stop = stop_of m })
unfolding changing
changed_down done torn d l m down same = go l.struck down ∙ ap (λ (s : Stop). (false, record { disk = d; stop = s })) (sym same)
  where
    go : (o : Option ℕ) → IsSome o → changed done torn (counted (stop_of l)) d o ≡ (false, record { disk = d; stop = counted (stop_of l) })
    go None h = cc
    go (Some pick) h = refl

changed_up : (done : Disk → Disk) (torn : ℕ → Disk → Disk) (d : Disk) (l m : Health) → l.struck ≡ None → stop_of m ≡ counted (stop_of l) → changing done torn (record { disk = d; stop = stop_of l }) ≡ done_or_torn done torn (stop_of m) d m.struck
unfolding changing
changed_up done torn d l m up same =
    ap (λ (o : Option ℕ). changed done torn (counted (stop_of l)) d o) up ∙ ap (λ (s : Stop). done_or_torn done torn s d s.struck) (sym same)

-- a stop that struck: the call isn't one that fails by itself

bars_fails : (due : Bool) (failed refused : Type 0) (s : State) → IsSome s.stop.struck → FailsWhere due failed refused s
bars_fails due failed refused s down = record { only = λ h none. absurd (cc); each = λ is none other. absurd (cc) }

slips_later : (slip : Bool) (old new : ℕ) → RisesIf slip old new → old ≤ new
slips_later true old new s = (s.rose refl).later
slips_later false old new s = omega (arith, s.stays refl)

-- a stop had struck before
exit_bars : (cant slip : Bool) (done : Disk → Disk) (torn : ℕ → Disk → Disk) (t : Told) (l m : Health) (es : List (ℕ × List ℕ)) → IsSome l.struck → IsBarred l m → Outcome cant slip done torn (Err Failed) (state_of t l es) (state_of t m es)
exit_bars cant slip done torn t l m es down f =
    let stop : stop_of m ≡ counted (stop_of l) = counted_down l m down f.armed f.struck in
    let still : IsSome m.struck = subst IsSome (sym f.struck) down in
    record {
      step = (inl refl, inl refl);
      exact = λ _ _. ap (λ (r : Bool × Drive). Some r) (changed_down done torn t.now l m down stop);
      memory = λ h. cc;
      stop = λ _. stop;
      up = tt;
      slips = record { none = λ _. f.slips; struck = λ _. f.slips; rose = λ _ none _. absurd (let h : IsSome m.struck = still in cc) };
      counts = record {
        faults = f.faults.later;
        own = omega (arith, f.own);
        own_then = f.own_then;
        slips = omega (arith, f.slips);
        rose = λ _. f.faults;
        cause = λ _. inl still;
        struck = λ _. f.own;
        fine = λ other. absurd (other refl);
      };
      number = record { number = λ _. ap (λ (s : Schedule). Some s) f.schedule; fails = bars_fails _ _ _ (state_of t m es) still };
    }

-- the stop strikes
exit_struck : (cant slip : Bool) (done : Disk → Disk) (torn : ℕ → Disk → Disk) (pick : ℕ) (t u : Told) (l m : Health) (es : List (ℕ × List ℕ)) → l.struck ≡ None → l.armed ≡ Some (1, pick) → IsStruck pick l m → u.now ≡ torn pick t.now → OneStep (λ d e. (e ≡ d) ⊎ (e ≡ done d)) (Some t) (Some u)
    → Outcome cant slip done torn (Err Failed) (state_of t l es) (state_of u m es)
exit_struck cant slip done torn pick t u l m es up armed f now step =
    let stop : stop_of m ≡ counted (stop_of l) = counted_strikes l m pick up armed f.armed f.struck in
    let still : IsSome m.struck = subst IsSome (sym f.struck) refl in
    let torn_is : changing done torn (record { disk = t.now; stop = stop_of l }) ≡ (false, record { disk = u.now; stop = stop_of m }) =
    changed_up done torn t.now l m up stop ∙ (ap (λ (o : Option ℕ). done_or_torn done torn (stop_of m) t.now o) f.struck ∙ ap (λ (d : Disk). (false, record { disk = d; stop = stop_of m })) (sym now)) in
    record {
      step = step;
      exact = λ _ _. ap (λ (r : Bool × Drive). Some r) torn_is;
      memory = λ h. cc;
      stop = λ _. stop;
      up = tt;
      slips = record { none = λ _. f.slips; struck = λ _. f.slips; rose = λ _ none _. absurd (let h : IsSome m.struck = still in cc) };
      counts = record {
        faults = f.faults.later;
        own = omega (arith, f.own);
        own_then = f.own_then;
        slips = omega (arith, f.slips);
        rose = λ _. f.faults;
        cause = λ _. inl still;
        struck = λ _. f.own;
        fine = λ other. absurd (other refl);
      };
      number = record { number = λ _. ap (λ (s : Schedule). Some s) f.schedule; fails = bars_fails _ _ _ (state_of u m es) still };
    }

-- it is an own fault
exit_refused : (cant slip : Bool) (done : Disk → Disk) (torn : ℕ → Disk → Disk) (t : Told) (l m : Health) (es : List (ℕ × List ℕ)) → l.struck ≡ None → IsLater l.armed → (cant || is_due (schedule_of l)) ≡ true → IsOwnRefusal slip l m → Outcome cant slip done torn (Err Failed) (state_of t l es) (state_of t m es)
exit_refused cant slip done torn t l m es up later due f =
    let stop : stop_of m ≡ counted (stop_of l) = counted_later l m up later f.armed f.struck in
    record {
      step = (inl refl, inl refl);
      exact = λ _ quiet. absurd (omega (arith, f.own.more quiet.below, quiet.same));
      memory = λ h. cc;
      stop = λ _. stop;
      up = tt;
      slips = record { none = f.slipped.stays; struck = λ h. absurd (let none : m.struck ≡ None = f.struck ∙ up in cc); rose = λ is _ _. (f.slipped.rose is, refl) };
      counts = record {
        faults = f.faults.later;
        own = f.own.later;
        own_then = f.own_then;
        slips = slips_later slip l.slips m.slips f.slipped;
        rose = λ _. f.faults;
        cause = λ _. inr f.own;
        struck = λ h. absurd (let none : m.struck ≡ None = f.struck ∙ up in cc);
        fine = λ other. absurd (other refl);
      };
      number = record { number = λ _. ap (λ (s : Schedule). Some s) f.schedule; fails = record { only = λ _ _. due; each = λ _ _ _. refl } };
    }

-- the call is done
exit_goes : (done : Disk → Disk) (torn : ℕ → Disk → Disk) (t u : Told) (l m : Health) (es : List (ℕ × List ℕ)) → IsFree false l → IsCountedOn l m → OneStep (λ d e. e ≡ done d) (Some t) (Some u) → Outcome false false done torn (Ok tt) (state_of t l es) (state_of u m es)
exit_goes done torn t u l m es free f step =
    let stop : stop_of m ≡ counted (stop_of l) = counted_later l m free.up free.later f.armed f.struck in
    let none : m.struck ≡ None = f.struck ∙ free.up in
    let done_is : changing done torn (record { disk = t.now; stop = stop_of l }) ≡ (true, record { disk = u.now; stop = stop_of m }) =
    changed_up done torn t.now l m free.up stop ∙ (ap (λ (o : Option ℕ). done_or_torn done torn (stop_of m) t.now o) none ∙ ap (λ (d : Disk). (true, record { disk = d; stop = stop_of m })) (sym step.0)) in
    record {
      step = step;
      exact = λ _ _. ap (λ (r : Bool × Drive). Some r) done_is;
      memory = λ h. cc;
      stop = λ _. stop;
      up = none;
      slips = record { none = λ _. f.slips; struck = λ _. f.slips; rose = λ h _ _. cc };
      counts = record {
        faults = omega (arith, f.faults);
        own = omega (arith, f.own);
        own_then = f.own_then;
        slips = omega (arith, f.slips);
        rose = λ h. cc;
        cause = λ h. cc;
        struck = λ _. f.own;
        fine = λ _. (f.faults, f.own);
      };
      number = record { number = λ _. ap (λ (s : Schedule). Some s) f.schedule; fails = record { only = λ h _. cc; each = λ is _ _. absurd (let not_due = free.due in cc) } };
    }

-- it was refused for memory
pub exit_memory : (cant slip : Bool) (done : Disk → Disk) (torn : ℕ → Disk → Disk) (t u : Told) (l : Health) (es : List (ℕ × List ℕ)) → u ≡ t → Outcome cant slip done torn (Err NoMemory) (state_of t l es) (state_of u l es)
exit_memory cant slip done torn t u l es same = record {
  step = (inl (ap (λ (v : Told). v.now) same), inl same);
  exact = λ other _. absurd (other refl);
  memory = λ _. ap (λ (v : Told). state_of v l es) same;
  stop = λ other. absurd (other refl);
  up = tt;
  slips = record { none = λ _. refl; struck = λ _. refl; rose = λ _ _ other. absurd (other refl) };
  counts = record { faults = omega arith; own = omega arith; own_then = refl; slips = omega arith; rose = λ h. cc; cause = λ h. cc; struck = λ _. refl; fine = λ _. (refl, refl) };
  number = record { number = λ other. absurd (other refl); fails = record { only = λ h _. cc; each = λ _ _ other. absurd (other refl) } };
}

-- the same, by another name of what it can't do and of a slip
outcome_as : (a b x y : Bool) (done : Disk → Disk) (torn : ℕ → Disk → Disk) (r : Result (Unit {0}) DepotFail) (s s' : State) → a ≡ x → b ≡ y → Outcome x y done torn r s s' → Outcome a b done torn r s s'
outcome_as a b x y done torn r s s' e g o = subst (λ (c : Bool). Outcome a c done torn r s s') (sym g) (subst (λ (c : Bool). Outcome c y done torn r s s') (sym e) o)

-- ---- a call that can't be done

refuse_by : (slip : Bool) (done : Disk → Disk) (torn : ℕ → Disk → Disk) (turn : Turn) (t : Told) (l m : Health) (es : List (ℕ × List ℕ)) → IsTurn l turn → IsRefused turn slip l m → ((pick : ℕ) → torn pick t.now ≡ t.now) → Outcome true slip done torn (Err Failed) (state_of t l es) (state_of t m es)
refuse_by slip done torn Bars t l m es at f still = exit_bars true slip done torn t l m es at f
refuse_by slip done torn (Strikes pick) t l m es at f still = exit_struck true slip done torn pick t t l m es at.0 at.1 f (sym (still pick)) (inl refl, inl refl)
refuse_by slip done torn Fails t l m es at f still = exit_refused true slip done torn t l m es at.up at.later refl f
refuse_by slip done torn Goes t l m es at f still = exit_refused true slip done torn t l m es at.up at.later refl f

pub exit_refuse : (cant slip slips : Bool) (done : Disk → Disk) (torn : ℕ → Disk → Disk) (x : DepotFail) (turn : Turn) (t : Told) (l m : Health) (es : List (ℕ × List ℕ)) → cant ≡ true → slip ≡ slips → x ≡ Failed → IsTurn l turn → IsRefused turn slips l m → ((pick : ℕ) → torn pick t.now ≡ t.now)
    → Outcome cant slip done torn (Err x) (state_of t l es) (state_of t m es)
exit_refuse cant slip slips done torn x turn t l m es can't known failed at f still =
    subst (λ (y : DepotFail). Outcome cant slip done torn (Err y) (state_of t l es) (state_of t m es)) (sym failed)
    (outcome_as cant slip true slips done torn (Err Failed) (state_of t l es) (state_of t m es) can't known (refuse_by slips done torn turn t l m es at f still))

-- ---- a call that can be done

-- what it leaves of the disk
abbrev pub HasEffect : (Disk → Disk) → (ℕ → Disk → Disk) → Turn → Told → Told → Type 0
HasEffect done torn Bars t u = u ≡ t
HasEffect done torn (Strikes pick) t u = (u.now ≡ torn pick t.now) × OneStep (λ d e. (e ≡ d) ⊎ (e ≡ done d)) (Some t) (Some u)
HasEffect done torn Fails t u = u ≡ t
HasEffect done torn Goes t u = OneStep (λ d e. e ≡ done d) (Some t) (Some u)

end_by : (done : Disk → Disk) (torn : ℕ → Disk → Disk) (turn : Turn) (r : Result (Unit {0}) DepotFail) (t u : Told) (l m : Health) (es : List (ℕ × List ℕ)) → IsTurn l turn → IsEnded turn r l m → HasEffect done torn turn t u → Outcome false false done torn r (state_of t l es) (state_of u m es)
end_by done torn Bars r t u l m es at end effect =
    subst (λ (q : Result (Unit {0}) DepotFail). Outcome false false done torn q (state_of t l es) (state_of u m es)) (sym end.0)
    (subst (λ (v : Told). Outcome false false done torn (Err Failed) (state_of t l es) (state_of v m es)) (sym effect) (exit_bars false false done torn t l m es at end.1))
end_by done torn (Strikes pick) r t u l m es at end effect =
    subst (λ (q : Result (Unit {0}) DepotFail). Outcome false false done torn q (state_of t l es) (state_of u m es)) (sym end.0) (exit_struck false false done torn pick t u l m es at.0 at.1 end.1 effect.0 effect.1)
end_by done torn Fails r t u l m es at end effect =
    subst (λ (q : Result (Unit {0}) DepotFail). Outcome false false done torn q (state_of t l es) (state_of u m es)) (sym end.0)
    (subst (λ (v : Told). Outcome false false done torn (Err Failed) (state_of t l es) (state_of v m es)) (sym effect) (exit_refused false false done torn t l m es at.up at.later at.due end.1))
end_by done torn Goes r t u l m es at end effect = subst (λ (q : Result (Unit {0}) DepotFail). Outcome false false done torn q (state_of t l es) (state_of u m es)) (sym end.0) (exit_goes done torn t u l m es at end.1 effect)

pub exit_end : (cant slip : Bool) (done : Disk → Disk) (torn : ℕ → Disk → Disk) (turn : Turn) (r : Result (Unit {0}) DepotFail) (t u : Told) (l m : Health) (es : List (ℕ × List ℕ)) → cant ≡ false → slip ≡ false → IsTurn l turn → IsEnded turn r l m → HasEffect done torn turn t u
    → Outcome cant slip done torn r (state_of t l es) (state_of u m es)
exit_end cant slip done torn turn r t u l m es can no_slip at end effect =
    outcome_as cant slip false false done torn r (state_of t l es) (state_of u m es) can no_slip (end_by done torn turn r t u l m es at end effect)

-- a moment more
pub step_next : (R : Disk → Disk → Type 0) (d : Disk) (t u : Told) → u ≡ next_of d t → R t.now d → OneStep R (Some t) (Some u)
step_next R d t u e r = (subst (λ (x : Disk). R t.now x) (sym (ap (λ (v : Told). v.now) e)) r, inr (ap (λ (v : Told). v.past) e))

-- what is whole or not done at all

odd_does : (done : Disk → Disk) (pick : ℕ) (d : Disk) (b : Bool) → (pick % 2 == 1) ≡ b → when_odd done pick d ≡ (if b then done d else d)
odd_does done pick d b is = ap (λ (c : Bool). if c then done d else d) is

pub whole_done : (done : Disk → Disk) (turn : Turn) (t u : Told) → is_whole turn ≡ true → OneStep (λ d e. e ≡ done d) (Some t) (Some u) → HasEffect done (when_odd done) turn t u
whole_done done Bars t u is step = cc
whole_done done (Strikes pick) t u is step = (step.0 ∙ sym (odd_does done pick t.now true is), (inr step.0, step.1))
whole_done done Fails t u is step = cc
whole_done done Goes t u is step = step

pub whole_not : (done : Disk → Disk) (turn : Turn) (t : Told) → is_whole turn ≡ false → HasEffect done (when_odd done) turn t t
whole_not done Bars t is = refl
whole_not done (Strikes pick) t is = (sym (odd_does done pick t.now false is), (inl refl, inl refl))
whole_not done Fails t is = refl
whole_not done Goes t is = cc

-- what a stop strikes on the disk

pub reached_done : (done : Disk → Disk) (torn : ℕ → Disk → Disk) (turn : Turn) (t u : Told) → reaches_disk turn ≡ true → ((pick : ℕ) → torn pick t.now ≡ done t.now) → OneStep (λ d e. e ≡ done d) (Some t) (Some u) → HasEffect done torn turn t u
reached_done done torn Bars t u is whole step = cc
reached_done done torn (Strikes pick) t u is whole step = (step.0 ∙ sym (whole pick), (inr step.0, step.1))
reached_done done torn Fails t u is whole step = cc
reached_done done torn Goes t u is whole step = step

pub reached_not : (done : Disk → Disk) (torn : ℕ → Disk → Disk) (turn : Turn) (t : Told) → reaches_disk turn ≡ false → HasEffect done torn turn t t
reached_not done torn Bars t is = refl
reached_not done torn (Strikes pick) t is = cc
reached_not done torn Fails t is = refl
reached_not done torn Goes t is = cc

-- what a stop keeps off the disk

pub went_done : (done : Disk → Disk) (torn : ℕ → Disk → Disk) (turn : Turn) (t u : Told) → goes turn ≡ true → OneStep (λ d e. e ≡ done d) (Some t) (Some u) → HasEffect done torn turn t u
went_done done torn Bars t u is step = cc
went_done done torn (Strikes pick) t u is step = cc
went_done done torn Fails t u is step = cc
went_done done torn Goes t u is step = step

pub went_not : (done : Disk → Disk) (torn : ℕ → Disk → Disk) (turn : Turn) (t : Told) → goes turn ≡ false → ((pick : ℕ) → torn pick t.now ≡ t.now) → HasEffect done torn turn t t
went_not done torn Bars t is still = refl
went_not done torn (Strikes pick) t is still = (sym (still pick), (inl refl, inl refl))
went_not done torn Fails t is still = refl
went_not done torn Goes t is still = cc

-- a call that went on answers Ok, and no other does

pub ended_not : (turn : Turn) (r : Result (Unit {0}) DepotFail) (l m : Health) → IsEnded turn r l m → r ≡ Err NoMemory → ⊥
ended_not Bars r l m end h = let e = end.0 in cc
ended_not (Strikes pick) r l m end h = let e = end.0 in cc
ended_not Fails r l m end h = let e = end.0 in cc
ended_not Goes r l m end h = let e = end.0 in cc

-- a sync's step
pub synced_step : (path : List ℕ) (t u : Told) → IsSynced path t u → OneStep (λ d e. e ≡ synced_at path d) (Some t) (Some u)
synced_step path t u (inl none) = (ap (λ (v : Told). v.now) none.1 ∙ sym none.0, inl none.1)
synced_step path t u (inr done) = step_next (λ d e. e ≡ synced_at path d) (synced_at path t.now) t u done refl

-- ---- calls that look

pub look_down : {T : Type 0} (slip : Bool) (x : DepotFail) (t : Told) (l m : Health) (es : List (ℕ × List ℕ)) → x ≡ Failed → IsSome l.struck → IsFaulted l m → Look {T = T} slip (Err x) (state_of t l es) (state_of t m es)
unfolding looking
look_down {T} slip x t l m es failed down f =
    let still : IsSome m.struck = subst IsSome (sym f.struck) down in
    let stop : stop_of m ≡ stop_of l = same_stop l m l.armed l.struck f.armed f.struck in
    let looked_is : looked (record { disk = t.now; stop = stop_of l }) l.struck ≡ (false, record { disk = t.now; stop = stop_of m }) = go l.struck down ∙ ap (λ (s : Stop). (false, record { disk = t.now; stop = s })) (sym stop) in
    record {
      looks = record { told = refl; stop = stop; schedule = ap (λ (s : Schedule). Some s) f.schedule };
      fails = bars_fails _ _ _ (state_of t m es) still;
      exact = λ _ _. ap (λ (r : Bool × Drive). Some r) looked_is;
      memory = λ h. absurd (not_memory x failed h);
      up = tt;
      slips = record { none = λ _. f.slips; struck = λ _. f.slips; rose = λ _ none _. absurd (let h : IsSome m.struck = still in cc) };
      counts = record {
        faults = f.faults.later;
        own = omega (arith, f.own);
        own_then = f.own_then;
        slips = omega (arith, f.slips);
        rose = λ _. f.faults;
        cause = λ _. inl still;
        struck = λ _. f.own;
        fine = λ other. absurd (other (is_failed x failed));
      };
    }
  where
    go : (o : Option ℕ) → IsSome o → looked (record { disk = t.now; stop = stop_of l }) o ≡ (false, record { disk = t.now; stop = stop_of l })
    go None h = cc
    go (Some pick) h = refl

-- it looked
pub look_up : {T : Type 0} (y : T) (t : Told) (l : Health) (es fs : List (ℕ × List ℕ)) → l.struck ≡ None → Look false (Ok y) (state_of t l es) (state_of t l fs)
unfolding looking
look_up y t l es fs up =
    let looked_is : looked (record { disk = t.now; stop = stop_of l }) l.struck ≡ (true, record { disk = t.now; stop = stop_of l }) = ap (λ (o : Option ℕ). looked (record { disk = t.now; stop = stop_of l }) o) up in
    record {
      looks = record { told = refl; stop = refl; schedule = refl };
      fails = record { only = λ h _. cc; each = λ h _ _. cc };
      exact = λ _ _. ap (λ (r : Bool × Drive). Some r) looked_is;
      memory = λ h. cc;
      up = up;
      slips = record { none = λ _. refl; struck = λ _. refl; rose = λ h _ _. cc };
      counts = record { faults = omega arith; own = omega arith; own_then = refl; slips = omega arith; rose = λ h. cc; cause = λ h. cc; struck = λ _. refl; fine = λ _. (refl, refl) };
    }

-- it is an own fault
pub look_own : {T : Type 0} (slip : Bool) (x : DepotFail) (t : Told) (l m : Health) (es : List (ℕ × List ℕ)) → slip ≡ true → x ≡ Failed → l.struck ≡ None → IsOwnFault slip l m → Look {T = T} slip (Err x) (state_of t l es) (state_of t m es)
look_own {T} slip x t l m es cant failed up f = record {
  looks = record { told = refl; stop = same_stop l m l.armed l.struck f.armed f.struck; schedule = ap (λ (s : Schedule). Some s) f.schedule };
  fails = record { only = λ _ _. cant; each = λ _ _ _. is_failed x failed };
  exact = λ _ quiet. absurd (omega (arith, f.own.more quiet.below, quiet.same));
  memory = λ h. absurd (not_memory x failed h);
  up = tt;
  slips = record { none = f.slipped.stays; struck = λ h. absurd (let none : m.struck ≡ None = f.struck ∙ up in cc); rose = λ is _ _. (f.slipped.rose is, is_failed x failed) };
  counts = record {
    faults = f.faults.later;
    own = f.own.later;
    own_then = f.own_then;
    slips = slips_later slip l.slips m.slips f.slipped;
    rose = λ _. f.faults;
    cause = λ _. inr f.own;
    struck = λ h. absurd (let none : m.struck ≡ None = f.struck ∙ up in cc);
    fine = λ other. absurd (other (is_failed x failed));
  };
}

-- it was refused for memory
pub look_memory : {T : Type 0} (slip : Bool) (t : Told) (l : Health) (es : List (ℕ × List ℕ)) → Look {T = T} slip (Err NoMemory) (state_of t l es) (state_of t l es)
look_memory {T} slip t l es = record {
  looks = record { told = refl; stop = refl; schedule = refl };
  fails = record { only = λ h _. cc; each = λ _ _ other. absurd (other refl) };
  exact = λ other _. absurd (other refl);
  memory = λ _. refl;
  up = tt;
  slips = record { none = λ _. refl; struck = λ _. refl; rose = λ _ _ other. absurd (other refl) };
  counts = record { faults = omega arith; own = omega arith; own_then = refl; slips = omega arith; rose = λ h. cc; cause = λ h. cc; struck = λ _. refl; fine = λ _. (refl, refl) };
}

-- whether a stop had struck

none_from : {X : Type 0} (o : Option X) → is_some o ≡ false → o ≡ None
none_from None e = refl
none_from (Some x) e = cc

pub is_up : (l : Health) (b : Bool) → b ≡ is_some l.struck → b ≡ false → l.struck ≡ None
is_up l b e no_it_isn't = none_from l.struck (sym e ∙ no_it_isn't)

pub is_down : (l : Health) (b : Bool) → b ≡ is_some l.struck → b ≡ true → IsSome l.struck
is_down l b e it_is = sym e ∙ it_is

pub look_as : {T : Type 0} (a b : Bool) (r : Result T DepotFail) (s s' : State) → a ≡ b → Look b r s s' → Look a r s s'
look_as a b r s s' e o = subst (λ (x : Bool). Look x r s s') (sym e) o
