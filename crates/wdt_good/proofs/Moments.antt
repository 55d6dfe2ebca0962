-- Disks all of whose images are good: fewer images, and moments one behind the other.
use Rattle.std.proofs.Common.{◌≡◌, ◌⊎◌, inl, inr, ℕ, List, [], ◌∷◌, ◌++◌, Option, Some, None, Result, refl, sym, subst}
use Rattle.std.specs.List.{list_any}
use Rattle.std.specs.Str.{bytes_eq}
use Rattle.std.proofs.lemmas.Bool.{or_from, or_parts}
use Rattle.wdt_units.specs.Tree.{File}
use Rattle.wdt_depot.specs.Disk.{Disk, HasImagesOf}
use Rattle.wdt_depot.specs.Moments.{IfTold, MayDo, OneStep, Told}
use Rattle.wdt_depot.proofs.ForCallers.{may_either, since-since, since_last, since_more, since_now, since_weaker}
use Rattle.wdt_logfmt.specs.declared.entry.LogEntry.{LogEntry}
use Rattle.wdt_logfmt.specs.View.{NamedFile}
use Rattle.wdt_good.specs.Logged.{AllFit, AllGood, GoodSince, IsRemembered, LoggedAt, LoggedName}
use Rattle.wdt_good.specs.LogState.{IsReady}
use Rattle.wdt_good.proofs.Images.{fit_good}

-- ---- what is good

-- for what was logged, for the tree alone
pub good_fits : (T : List File) (forgotten : List (List ℕ)) (d e : Disk) → AllGood T forgotten d e → AllFit T e
good_fits T forgotten d e all i image =
    let good = all i image in
    record { meaning = good.meaning; means = good.means; files = good.files; named = λ path none. absurd none; covered = λ path k none. absurd none }

-- what was logged stays logged
pub good_names : (T : List File) (forgotten : List (List ℕ)) (d e : Disk) → AllGood T forgotten d e → (path : List ℕ) → IsRemembered forgotten path → LoggedName d path → LoggedName e path
good_names T forgotten d e all path remembered logged i image = let good = all i image in (good.meaning, good.means, good.named path (remembered, logged))

pub good_covers : (T : List File) (forgotten : List (List ℕ)) (d e : Disk) → AllGood T forgotten d e → (path : List ℕ) (k : ℕ) → IsRemembered forgotten path → LoggedAt d path k → LoggedAt e path k
good_covers T forgotten d e all path k remembered logged i image = let good = all i image in (good.meaning, good.means, good.covered path k (remembered, logged))

-- ---- no image is new

pub fewer_good : (T : List File) (forgotten : List (List ℕ)) (before d e : Disk) → HasImagesOf d e → AllGood T forgotten before d → AllGood T forgotten before e
fewer_good T forgotten before d e has all i image = all i (has i image)

pub fewer_fit : (T : List File) (d e : Disk) → HasImagesOf d e → AllFit T d → AllFit T e
fewer_fit T d e has all i image = all i (has i image)

pub fewer_ready : (version : ℕ) (T : List File) (fs gs : List NamedFile) (es : List LogEntry) (d e : Disk) → HasImagesOf d e → IsReady version T fs gs es d → IsReady version T fs gs es e
fewer_ready version T fs gs es d e has ready = record { fit = fewer_fit T d e has ready.fit; adds = ready.adds; holds = λ i image. ready.holds i (has i image) }

pub fewer_names : (d e : Disk) → HasImagesOf d e → (path : List ℕ) → LoggedName d path → LoggedName e path
fewer_names d e has path logged i image = logged i (has i image)

pub fewer_covers : (d e : Disk) → HasImagesOf d e → (path : List ℕ) (k : ℕ) → LoggedAt d path k → LoggedAt e path k
fewer_covers d e has path k logged i image = logged i (has i image)

-- ---- one behind the other

remembered_parts : (f g : List (List ℕ)) (path : List ℕ) → IsRemembered (f ++ g) path → IsRemembered f path × IsRemembered g path
remembered_parts [] g path h = (refl, h)
remembered_parts (x ∷ f) g path h =
    let p = or_parts (bytes_eq path x) (list_any (bytes_eq path) (f ++ g)) h in
    let rest = remembered_parts f g path p.1 in
    (or_from (bytes_eq path x) (list_any (bytes_eq path) f) p.0 rest.0, rest.1)

-- what a disk had logged, another has
record StaysLogged (forgotten : List (List ℕ)) (d e : Disk) : Type 0 where
  named : (path : List ℕ) → IsRemembered forgotten path → LoggedName d path → LoggedName e path
  covered : (path : List ℕ) (k : ℕ) → IsRemembered forgotten path → LoggedAt d path k → LoggedAt e path k

stays_good : (T : List File) (forgotten : List (List ℕ)) (d e : Disk) → AllGood T forgotten d e → StaysLogged forgotten d e
stays_good T forgotten d e all = record { named = good_names T forgotten d e all; covered = good_covers T forgotten d e all }

stays_itself : (forgotten : List (List ℕ)) (d : Disk) → StaysLogged forgotten d d
stays_itself forgotten d = record { named = λ path r logged. logged; covered = λ path k r logged. logged }

-- good for what an earlier disk had logged, which stayed logged up to one in between
good_on : (T : List File) (f g : List (List ℕ)) (d e x : Disk) → StaysLogged f d e → AllGood T g e x → AllGood T (f ++ g) d x
good_on T f g d e x stays all i image =
    let good = all i image in
    record {
      meaning = good.meaning;
      means = good.means;
      files = good.files;
      named = λ path asked. (let r = remembered_parts f g path asked.0 in good.named path (r.1, stays.named path r.0 asked.1));
      covered = λ path k asked. (let r = remembered_parts f g path asked.0 in good.covered path k (r.1, stays.covered path k r.0 asked.1));
    }

-- good for less
good_less : (T : List File) (f g : List (List ℕ)) (d x : Disk) → AllGood T f d x → AllGood T (f ++ g) d x
good_less T f g d x all i image =
    let good = all i image in
    record {
      meaning = good.meaning;
      means = good.means;
      files = good.files;
      named = λ path asked. good.named path ((remembered_parts f g path asked.0).0, asked.1);
      covered = λ path k asked. good.covered path k ((remembered_parts f g path asked.0).0, asked.1);
    }

stays_told : (T : List File) (f : List (List ℕ)) (t u : Told) → GoodSince T f (Some t) (Some u) → StaysLogged f t.now u.now
stays_told T f t u since = since_last (StaysLogged f t.now) (Some t) (Some u) (stays_itself f t.now) (since_weaker (AllGood T f t.now) (StaysLogged f t.now) (Some t) (Some u) (λ d all. stays_good T f t.now d all) since)

-- good since a moment, and then since a later one, is good since the first
pub join_good : (T : List File) (f g : List (List ℕ)) (a b c : Option Told) → GoodSince T f a b → GoodSince T g b c → GoodSince T (f ++ g) a c
join_good T f g None None None one two = tt
join_good T f g None None (Some v) one two = absurd two
join_good T f g None (Some u) c one two = absurd one
join_good T f g (Some t) None c one two = absurd one
join_good T f g (Some t) (Some u) None one two = absurd two
join_good T f g (Some t) (Some u) (Some v) one two =
    since-since (AllGood T (f ++ g) t.now) (Some t) (Some u) (Some v)
    (since_weaker (AllGood T f t.now) (AllGood T (f ++ g) t.now) (Some t) (Some u) (λ d all. good_less T f g t.now d all) one)
    (since_weaker (AllGood T g u.now) (AllGood T (f ++ g) t.now) (Some u) (Some v) (λ d all. good_on T f g t.now u.now d (stays_told T f t u one) all) two)

-- at the last moment
pub last_fits : (T : List File) (f : List (List ℕ)) (a b : Option Told) → IfTold (λ t. AllFit T t.now) a → GoodSince T f a b → IfTold (λ t. AllFit T t.now) b
last_fits T f None None fit since = tt
last_fits T f None (Some u) fit since = absurd since
last_fits T f (Some t) None fit since = absurd since
last_fits T f (Some t) (Some u) fit since =
    since_last (AllFit T) (Some t) (Some u) fit (since_weaker (AllGood T f t.now) (AllFit T) (Some t) (Some u) (λ d all. good_fits T f t.now d all) since)

pub last_names : (T : List File) (f : List (List ℕ)) (a b : Option Told) (path : List ℕ) → GoodSince T f a b → IsRemembered f path → IfTold (λ t. LoggedName t.now path) a → IfTold (λ t. LoggedName t.now path) b
last_names T f None None path since r logged = tt
last_names T f None (Some u) path since r logged = absurd since
last_names T f (Some t) None path since r logged = absurd since
last_names T f (Some t) (Some u) path since r logged = (stays_told T f t u since).named path r logged

pub last_covers : (T : List File) (f : List (List ℕ)) (a b : Option Told) (path : List ℕ) (k : ℕ) → GoodSince T f a b → IsRemembered f path → IfTold (λ t. LoggedAt t.now path k) a → IfTold (λ t. LoggedAt t.now path k) b
last_covers T f None None path k since r logged = tt
last_covers T f None (Some u) path k since r logged = absurd since
last_covers T f (Some t) None path k since r logged = absurd since
last_covers T f (Some t) (Some u) path k since r logged = (stays_told T f t u since).covered path k r logged

-- ---- a call

either_good : (T : List File) (forgotten : List (List ℕ)) (d x e : Disk) → AllFit T d → AllGood T forgotten d x → (e ≡ d) ⊎ (e ≡ x) → AllGood T forgotten d e
either_good T forgotten d x e fit all (inl is) = subst (AllGood T forgotten d) (sym is) (fit_good T forgotten d fit)
either_good T forgotten d x e fit all (inr is) = subst (AllGood T forgotten d) (sym is) all

-- a call that did what is good, or nothing
pub call_good : {X E : Type 0} (T : List File) (forgotten : List (List ℕ)) (done : Disk → Disk) (result : Result X E) (a b : Option Told) → IfTold (λ t. AllFit T t.now) a → IfTold (λ t. AllGood T forgotten t.now (done t.now)) a → OneStep (MayDo done result) a b
    → GoodSince T forgotten a b
call_good T forgotten done result None None fit all step = tt
call_good T forgotten done result None (Some u) fit all step = absurd step
call_good T forgotten done result (Some t) None fit all step = absurd step
call_good T forgotten done result (Some t) (Some u) fit all step =
    since_more (AllGood T forgotten t.now) (MayDo done result) (Some t) (Some t) (Some u) (since_now (AllGood T forgotten t.now) (Some t)) step
    (λ e may. either_good T forgotten t.now (done t.now) e fit all (may_either done result t.now e may))
