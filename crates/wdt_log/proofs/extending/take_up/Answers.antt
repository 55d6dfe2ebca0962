use Rattle.std.proofs.Common.{◌≡◌, List, None, arith, subst}
use Rattle.wdt_logfmt.specs.declared.view.LogFile.{LogFile}
use Rattle.wdt_logfmt.specs.View.{named_files}
use Rattle.wdt_log.specs.Places.{IsPlace}
use Rattle.wdt_log.specs.Touched.{numbered}
use Rattle.wdt_log.proofs.Laying.{others_there, taken_up}
use Rattle.wdt_log.proofs.extending.take_up.Goals as goal

pub copy_of-requires-clause-there : goal.copy_of-requires-clause-there
copy_of-requires-clause-there c =
    others_there (named_files c.args.touched.now.items) (named_files c.args.files.now) c.args.number (subst (λ (ts : List LogFile). numbered c.args.number (named_files ts) ≡ None) c.deref.ensures.value c.in-Err.ensures.none) c.requires.there

pub insert-requires : goal.insert-requires
insert-requires c = let le = c.in-Err.ensures.room in omega (arith, le, c.deref.ensures.len)

pub returns-in_ok-insert-in-Err-clause-rising : goal.returns-in_ok-insert-in-Err-clause-rising
returns-in_ok-insert-in-Err-clause-rising c =
    let ts = c.args.touched.now.items in
    (taken_up c.args.number c.in-Err.at c.in_ok-copy-in-Err.copy ts c.insert.new.self.items (named_files c.args.files.now) c.in_ok-insert-in-Err.ensures.items c.in_ok-copy-in-Err.ensures.number
    (subst (λ (us : List LogFile). IsPlace c.args.number (named_files us) c.in-Err.at) c.deref.ensures.value c.in-Err.ensures.place) c.requires.rising (subst (λ (us : List LogFile). numbered c.args.number (named_files us) ≡ None) c.deref.ensures.value c.in-Err.ensures.none) c.in_ok-copy-in-Err.ensures.have).rising

pub returns-in_ok-insert-in-Err-clause-same : goal.returns-in_ok-insert-in-Err-clause-same
returns-in_ok-insert-in-Err-clause-same c =
    let ts = c.args.touched.now.items in
    (taken_up c.args.number c.in-Err.at c.in_ok-copy-in-Err.copy ts c.insert.new.self.items (named_files c.args.files.now) c.in_ok-insert-in-Err.ensures.items c.in_ok-copy-in-Err.ensures.number
    (subst (λ (us : List LogFile). IsPlace c.args.number (named_files us) c.in-Err.at) c.deref.ensures.value c.in-Err.ensures.place) c.requires.rising (subst (λ (us : List LogFile). numbered c.args.number (named_files us) ≡ None) c.deref.ensures.value c.in-Err.ensures.none) c.in_ok-copy-in-Err.ensures.have).same

pub returns-in_ok-insert-in-Err-clause-at : goal.returns-in_ok-insert-in-Err-clause-at
returns-in_ok-insert-in-Err-clause-at c =
    let ts = c.args.touched.now.items in
    (taken_up c.args.number c.in-Err.at c.in_ok-copy-in-Err.copy ts c.insert.new.self.items (named_files c.args.files.now) c.in_ok-insert-in-Err.ensures.items c.in_ok-copy-in-Err.ensures.number
    (subst (λ (us : List LogFile). IsPlace c.args.number (named_files us) c.in-Err.at) c.deref.ensures.value c.in-Err.ensures.place) c.requires.rising (subst (λ (us : List LogFile). numbered c.args.number (named_files us) ≡ None) c.deref.ensures.value c.in-Err.ensures.none) c.in_ok-copy-in-Err.ensures.have).stands
