use Rattle.std.proofs.Common.{◌≡◌, ℕ, false, List, Bor, map, sym, ap, ◌∙◌, subst}
use Rattle.std.specs.Str.{bytes_eq}
use Rattle.wdt_units.specs.declared.path.Name.{Name}
use Rattle.wdt_good.specs.Good.{Each, log_path}
use Rattle.wdt_dock.proofs.Booking.{others}
use Rattle.wdt_dock.proofs.LoggedAll.{landed, slips_known, small}
use Rattle.wdt_dock.proofs.logging.log_all.Goals as goal

abbrev path_of : Bor Name → List ℕ
path_of p = p.now

pub flush-requires-clause-others : goal.flush-requires-clause-others
flush-requires-clause-others g c =
    let w = c.args.writer.now in
    subst (λ (ps : List (List ℕ)). Each (λ path. bytes_eq path log_path ≡ false) ps) (sym (ap (map path_of) c.deref.ensures.value ∙ c.in_ok-paths.ensures)) (others w.known w.unlogged c.requires.books.sound.are_files c.requires.books.known)

pub flush-requires-clause-small : goal.flush-requires-clause-small
flush-requires-clause-small g c = small c.args.log.now c.args.writer.now c.requires.books c.pending.result.now c.pending.ensures c.requires.few

pub returns-in_err-flush-clause-images : goal.returns-in_err-flush-clause-images
returns-in_err-flush-clause-images g c = λ T booked.
    c.flush.ensures.images T c.args.writer.now.files (landed c.args.log.now c.args.writer.now c.requires.books T (map path_of c.deref.result.now) (ap (map path_of) c.deref.ensures.value ∙ c.in_ok-paths.ensures) c.pending.result.now c.pending.ensures (g.D.Depot.state c.args.depot.now).told booked)

pub returns-clause-images : goal.returns-clause-images
returns-clause-images g c = λ T booked.
    c.flush.ensures.images T c.args.writer.now.files (landed c.args.log.now c.args.writer.now c.requires.books T (map path_of c.deref.result.now) (ap (map path_of) c.deref.ensures.value ∙ c.in_ok-paths.ensures) c.pending.result.now c.pending.ensures (g.D.Depot.state c.args.depot.now).told booked)

pub returns-in_err-flush-clause-slips : goal.returns-in_err-flush-clause-slips
returns-in_err-flush-clause-slips g c = λ rests.
    slips_known c.args.log.now c.args.writer.now c.requires.books (map path_of c.deref.result.now) (ap (map path_of) c.deref.ensures.value ∙ c.in_ok-paths.ensures) (g.D.Depot.state c.args.depot.now).slips (g.D.Depot.state c.flush.new.depot).slips (g.D.Depot.state c.args.depot.now).told (c.flush.ensures.slips rests)

pub returns-clause-slips : goal.returns-clause-slips
returns-clause-slips g c = λ rests.
    slips_known c.args.log.now c.args.writer.now c.requires.books (map path_of c.deref.result.now) (ap (map path_of) c.deref.ensures.value ∙ c.in_ok-paths.ensures) (g.D.Depot.state c.args.depot.now).slips (g.D.Depot.state c.flush.new.depot).slips (g.D.Depot.state c.args.depot.now).told (c.flush.ensures.slips rests)
