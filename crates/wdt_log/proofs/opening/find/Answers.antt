use Rattle.std.proofs.Common.{◌≡◌, ◌∙◌, None, Some, ap, arith, sym, subst}
use Rattle.std.specs.Prelude.{MatchOption}
use Rattle.wdt_depot.specs.Disk.{seen_of, synced_at}
use Rattle.wdt_depot.specs.Moments.{IfTold, Run}
use Rattle.wdt_logfmt.specs.Meaning.{log_meaning}
use Rattle.wdt_logfmt.specs.View.{Meaning, is_view, meaning_of}
use Rattle.wdt_logfmt.proofs.ForCallers.{view_none}
use Rattle.wdt_good.specs.Good.{log_path}
use Rattle.wdt_log.specs.Opening.{IsMaking, IsSyncing, Makes}
use Rattle.wdt_log.proofs.Alone.{making_stands, syncing_stands}
use Rattle.wdt_log.proofs.Making.{end_within, found_rests, found_says, if_ok_more, made_logged, made_since, none_says, synced_since}
use Rattle.wdt_log.proofs.opening.find.Goals as goal

pub returns-in_err-found-clause-images : goal.returns-in_err-found-clause-images
returns-in_err-found-clause-images g c T fit = synced_since T _ _ _ c.read.ensures.moments (g.met.D.Depot.sound c.args.depot.now) fit

pub returns-in_err-view-in-Some-clause-images : goal.returns-in_err-view-in-Some-clause-images
returns-in_err-view-in-Some-clause-images g c T fit = synced_since T _ _ _ c.read.ensures.moments (g.met.D.Depot.sound c.args.depot.now) fit

pub returns-in_ok-view-in-Some-clause-images : goal.returns-in_ok-view-in-Some-clause-images
returns-in_ok-view-in-Some-clause-images g c T fit = synced_since T _ _ _ c.read.ensures.moments (g.met.D.Depot.sound c.args.depot.now) fit

pub returns-in_ok-view-in-Some-clause-logged : goal.returns-in_ok-view-in-Some-clause-logged
returns-in_ok-view-in-Some-clause-logged g c =
    let t0 = (g.D.Depot.state c.args.depot.now).told in
    let t1 = (g.D.Depot.state c.read.new.depot).told in
    let reads = subst (λ o. IfTold (λ t. MatchOption o (t.now log_path ≡ None) (λ bytes. seen_of t.now log_path ≡ Some bytes.items)) t0) c.in-Some.is c.in_ok-found.ensures.bytes in
    let run = subst (λ o. MatchOption o (t1 ≡ t0) (λ _. Run IsSyncing (λ d x. x ≡ synced_at log_path d) t0 t1)) c.in-Some.is c.in_ok-found.ensures.none in
    found_rests c.in-Some.bytes.items (meaning_of c.in_ok-view-in-Some.view) t0 t1 (ap log_meaning (sym c.deref.ensures.value) ∙ c.in_ok-view-in-Some.ensures.meaning) c.in_ok-view-in-Some.ensures.view reads run

pub returns-in_ok-view-in-Some-clause-room : goal.returns-in_ok-view-in-Some-clause-room
returns-in_ok-view-in-Some-clause-room g c =
    let lt = end_within c.deref.result.now (meaning_of c.in_ok-view-in-Some.view) c.in_ok-view-in-Some.ensures.meaning in
    let small = c.deref.type_inv.1 in
    omega (arith, lt, small)

pub returns-in_err-found-clause-others : goal.returns-in_err-found-clause-others
returns-in_err-found-clause-others g c = syncing_stands _ _ c.read.ensures.moments

pub returns-in_err-view-in-Some-clause-others : goal.returns-in_err-view-in-Some-clause-others
returns-in_err-view-in-Some-clause-others g c = syncing_stands _ _ c.read.ensures.moments

pub returns-in_ok-view-in-Some-clause-others : goal.returns-in_ok-view-in-Some-clause-others
returns-in_ok-view-in-Some-clause-others g c = syncing_stands _ _ c.read.ensures.moments

pub returns-in-None-clause-images : goal.returns-in-None-clause-images
returns-in-None-clause-images g c T fit =
    let t0 = (g.D.Depot.state c.args.depot.now).told in
    let t1 = (g.D.Depot.state c.read.new.depot).told in
    let t2 = (g.D.Depot.state c.make.new.depot).told in
    let none = subst (λ o. IfTold (λ t. MatchOption o (t.now log_path ≡ None) (λ bytes. seen_of t.now log_path ≡ Some bytes.items)) t0) c.in-None.is c.in_ok-found.ensures.bytes in
    let same = subst (λ o. MatchOption o (t1 ≡ t0) (λ _. Run IsSyncing (λ d x. x ≡ synced_at log_path d) t0 t1)) c.in-None.is c.in_ok-found.ensures.none in
    made_since T _ t0 t2 (subst (λ a. Run IsMaking (Makes c.make.result) a t2) same c.make.ensures.moments) (g.met.D.Depot.sound c.args.depot.now) none

pub returns-in-None-clause-others : goal.returns-in-None-clause-others
returns-in-None-clause-others g c =
    let t0 = (g.D.Depot.state c.args.depot.now).told in
    let t1 = (g.D.Depot.state c.read.new.depot).told in
    let t2 = (g.D.Depot.state c.make.new.depot).told in
    let same = subst (λ o. MatchOption o (t1 ≡ t0) (λ _. Run IsSyncing (λ d x. x ≡ synced_at log_path d) t0 t1)) c.in-None.is c.in_ok-found.ensures.none in
    making_stands c.make.result t0 t2 (subst (λ a. Run IsMaking (Makes c.make.result) a t2) same c.make.ensures.moments)

pub returns-in-None-clause-logged : goal.returns-in-None-clause-logged
returns-in-None-clause-logged g c =
    let t0 = (g.D.Depot.state c.args.depot.now).told in
    let t1 = (g.D.Depot.state c.read.new.depot).told in
    let t2 = (g.D.Depot.state c.make.new.depot).told in
    let none = subst (λ o. IfTold (λ t. MatchOption o (t.now log_path ≡ None) (λ bytes. seen_of t.now log_path ≡ Some bytes.items)) t0) c.in-None.is c.in_ok-found.ensures.bytes in
    let same = subst (λ o. MatchOption o (t1 ≡ t0) (λ _. Run IsSyncing (λ d x. x ≡ synced_at log_path d) t0 t1)) c.in-None.is c.in_ok-found.ensures.none in
    made_logged c.make.result t0 t2 (subst (λ a. Run IsMaking (Makes c.make.result) a t2) same c.make.ensures.moments) none c.make.ensures.view

pub returns-in-None-clause-view : goal.returns-in-None-clause-view
returns-in-None-clause-view g c = if_ok_more c.make.result _ _ c.make.ensures.view (λ view is. ap (λ (m : Meaning). is_view m.files) is ∙ view_none)

pub returns-in_ok-view-in-Some-clause-says : goal.returns-in_ok-view-in-Some-clause-says
returns-in_ok-view-in-Some-clause-says g c =
    let t0 = (g.D.Depot.state c.args.depot.now).told in
    let reads = subst (λ o. IfTold (λ t. MatchOption o (t.now log_path ≡ None) (λ bytes. seen_of t.now log_path ≡ Some bytes.items)) t0) c.in-Some.is c.in_ok-found.ensures.bytes in
    found_says c.in-Some.bytes.items (meaning_of c.in_ok-view-in-Some.view) t0 (ap log_meaning (sym c.deref.ensures.value) ∙ c.in_ok-view-in-Some.ensures.meaning) reads

pub returns-in-None-clause-says : goal.returns-in-None-clause-says
returns-in-None-clause-says g c =
    let t0 = (g.D.Depot.state c.args.depot.now).told in
    let none = subst (λ o. IfTold (λ t. MatchOption o (t.now log_path ≡ None) (λ bytes. seen_of t.now log_path ≡ Some bytes.items)) t0) c.in-None.is c.in_ok-found.ensures.bytes in
    if_ok_more c.make.result _ _ c.make.ensures.view (λ view is. none_says (meaning_of view) t0 is none)
