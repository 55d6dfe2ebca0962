use Rattle.std.proofs.Common.{◌≡◌, ℕ, true, List, sym, ap, ◌∙◌, subst}
use Rattle.wdt_depot.specs.Moments.{IfTold}
use Rattle.wdt_logfmt.specs.View.{Meaning, NamedFile, is_view}
use Rattle.wdt_good.specs.LogState.{LogOf}
use Rattle.wdt_writer.specs.PlainWriter.{PlainWriter, opened as writer_opened}
use Rattle.wdt_receiver_fsm.specs.Batched.{IsBatched}
use Rattle.wdt_receiver_fsm.specs.Receiver.{IsReceiver}
use Rattle.wdt_dock.specs.Desk.{plain_of}
use Rattle.wdt_receiver_fsm.specs.Writes.{CanTell}
use Rattle.wdt_dock.specs.Dock.{AreStamped, IsDock}
use Rattle.wdt_dock.specs.DockGood.{DockGood}
use Rattle.wdt_receiver_fsm.specs.End.{EndView, new_end}
use Rattle.wdt_dock.proofs.Flushed.{fits_after}
use Rattle.wdt_dock.proofs.HaveTold.{opened_tells}
use Rattle.wdt_dock.proofs.Opened.{dock_opened, told_opened}
use Rattle.wdt_receiver_fsm.proofs.ForCallers.{opened_answered}
use Rattle.wdt_dock.proofs.dock.Dock.open.Goals as goal

pub invariant_of-result : goal.invariant_of-result
invariant_of-result g c =
    let same = ap (λ (m : Meaning). m.files) c.view.ensures.meaning in
    let end_is = c.in-Ok-parts_of.ensures.end ∙ ap (λ (fs : List NamedFile). new_end fs c.args.batch c.args.lanes) same in
    let writer_is = c.in-Ok-parts_of.ensures.writer ∙ ap (λ (fs : List NamedFile). writer_opened fs c.args.lanes) same in
    let view = subst (λ (fs : List NamedFile). is_view fs ≡ true) same c.view.ensures.view in
    let s = g.D.Depot.state c.open.new.depot in
    subst (λ (e : EndView). IsDock e c.in-Ok.log c.in-Ok-parts_of.writer s) (sym end_is)
    (subst (λ (w : PlainWriter). IsDock (new_end c.in-Ok.log.meaning.files c.args.batch c.args.lanes) c.in-Ok.log w s) (sym writer_is)
    (dock_opened c.in-Ok.log c.args.batch c.args.lanes view c.in-Ok.ensures.version s c.in-Ok.ensures.spots c.in-Ok.ensures.open c.in-Ok.ensures.logged
    (c.receivers_stay_receivers.ensures.begins c.in-Ok.log.meaning c.args.batch c.args.lanes c.requires.few_lanes) (c.batches_add_up.ensures.begins c.in-Ok.log.meaning c.args.batch c.args.lanes view c.requires.some_bytes)
    (opened_answered c.in-Ok.log.meaning c.args.batch c.args.lanes c.requires.some_lanes)))

pub returns-in-Ok-parts_of-clause-receiver : goal.returns-in-Ok-parts_of-clause-receiver
returns-in-Ok-parts_of-clause-receiver g c =
    let same = ap (λ (m : Meaning). m.files) c.view.ensures.meaning in
    let end_is = c.in-Ok-parts_of.ensures.end ∙ ap (λ (fs : List NamedFile). new_end fs c.args.batch c.args.lanes) same in
    let writer_is = c.in-Ok-parts_of.ensures.writer ∙ ap (λ (fs : List NamedFile). writer_opened fs c.args.lanes) same in
    subst (λ (e : EndView). IsReceiver (plain_of e c.in-Ok.log c.in-Ok-parts_of.writer)) (sym end_is)
    (subst (λ (w : PlainWriter). IsReceiver (plain_of (new_end c.in-Ok.log.meaning.files c.args.batch c.args.lanes) c.in-Ok.log w)) (sym writer_is)
    (c.receivers_stay_receivers.ensures.begins c.in-Ok.log.meaning c.args.batch c.args.lanes c.requires.few_lanes))

pub returns-in-Ok-parts_of-clause-batched : goal.returns-in-Ok-parts_of-clause-batched
returns-in-Ok-parts_of-clause-batched g c =
    let same = ap (λ (m : Meaning). m.files) c.view.ensures.meaning in
    let end_is = c.in-Ok-parts_of.ensures.end ∙ ap (λ (fs : List NamedFile). new_end fs c.args.batch c.args.lanes) same in
    let writer_is = c.in-Ok-parts_of.ensures.writer ∙ ap (λ (fs : List NamedFile). writer_opened fs c.args.lanes) same in
    let view = subst (λ (fs : List NamedFile). is_view fs ≡ true) same c.view.ensures.view in
    subst (λ (e : EndView). IsBatched (plain_of e c.in-Ok.log c.in-Ok-parts_of.writer)) (sym end_is)
    (subst (λ (w : PlainWriter). IsBatched (plain_of (new_end c.in-Ok.log.meaning.files c.args.batch c.args.lanes) c.in-Ok.log w)) (sym writer_is)
    (c.batches_add_up.ensures.begins c.in-Ok.log.meaning c.args.batch c.args.lanes view c.requires.some_bytes))

pub returns-in-Ok-parts_of-clause-good : goal.returns-in-Ok-parts_of-clause-good
returns-in-Ok-parts_of-clause-good g c = λ T fit.
    let same = ap (λ (m : Meaning). m.files) c.view.ensures.meaning in
    let end_is = c.in-Ok-parts_of.ensures.end ∙ ap (λ (fs : List NamedFile). new_end fs c.args.batch c.args.lanes) same in
    let writer_is = c.in-Ok-parts_of.ensures.writer ∙ ap (λ (fs : List NamedFile). writer_opened fs c.args.lanes) same in
    let s = g.D.Depot.state c.open.new.depot in
    let rests = subst (λ (v : ℕ). IfTold (λ t. LogOf v c.in-Ok.log.meaning.files c.in-Ok.log.meaning.end t.now) s.told) c.in-Ok.ensures.version c.in-Ok.ensures.logged in
    subst (λ (e : EndView). IfTold (λ t. DockGood T (plain_of e c.in-Ok.log c.in-Ok-parts_of.writer) t.now) s.told) (sym end_is)
    (subst (λ (w : PlainWriter). IfTold (λ t. DockGood T (plain_of (new_end c.in-Ok.log.meaning.files c.args.batch c.args.lanes) c.in-Ok.log w) t.now) s.told) (sym writer_is)
    (told_opened T c.in-Ok.log.meaning c.args.batch c.args.lanes s.told (g.met.D.Depot.sound c.open.new.depot) (fits_after T (g.D.Depot.state c.args.depot).told s.told fit (c.in-Ok.ensures.images T fit)) rests))

pub returns-in-Ok-parts_of-clause-tells : goal.returns-in-Ok-parts_of-clause-tells
returns-in-Ok-parts_of-clause-tells g c =
    let same = ap (λ (m : Meaning). m.files) c.view.ensures.meaning in
    let end_is = c.in-Ok-parts_of.ensures.end ∙ ap (λ (fs : List NamedFile). new_end fs c.args.batch c.args.lanes) same in
    let view = subst (λ (fs : List NamedFile). is_view fs ≡ true) same c.view.ensures.view in
    let stamped = subst AreStamped same c.in-Ok-parts_of.ensures.stamped in
    subst (λ (e : EndView). CanTell (plain_of e c.in-Ok.log c.in-Ok-parts_of.writer)) (sym end_is)
    (opened_tells c.in-Ok.log.meaning.files c.args.batch c.args.lanes c.in-Ok.log c.in-Ok-parts_of.writer view stamped)
