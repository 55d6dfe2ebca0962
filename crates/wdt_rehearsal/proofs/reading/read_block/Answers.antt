use Rattle.std.proofs.Common.{◌≡◌, ◌+◌, ◌≤◌, List, ◌++◌, length, IfSome, Option, ap, ◌∙◌, subst, arith}
use Rattle.std.proofs.lemmas.List.{take_at}
use Rattle.wdt_units.specs.Tree.{File}
use Rattle.wdt_source.specs.Told.{IsRead, HasSlip, is_within_file}
use Rattle.wdt_rehearsal.proofs.Pieces.{adds-more, told-part, no-slip, stood}
use Rattle.wdt_rehearsal.proofs.reading.read_block.Goals as goal

pub loop-done-preserved : goal.loop-done-preserved
loop-done-preserved g c =
    let told = g.S.Source.told c.args.source.now in
    let here : g.S.Source.told c.loop-done.source ≡ told = c.loop-done.invariant.told in
    let long : length c.read_exact_at.new.into ≡ c.min-count.result = omega (arith, c.read_exact_at.auto.into, ap length c.deref_mut.ensures.value, c.in_ok-resize.ensures.length) in
    let within : c.loop-done.done + c.min-count.result ≤ c.args.length = omega arith in
    let part = told-part told c.args.path.now c.args.offset c.args.length c.loop-done.done (length c.read_exact_at.new.into) c.requires.within (omega arith) in
    record {
      within = within;
      added = adds-more told c.args.path.now c.args.offset c.loop-done.done c.min-count.result c.args.into.now.items c.loop-done.into.items c.extend_from_slice.new.self.items c.read_exact_at.new.into
          c.loop-done.invariant.added (c.in_ok-extend_from_slice.ensures.items ∙ ap (λ x. c.loop-done.into.items ++ x) (c.deref.ensures.value ∙ take_at c.read_exact_at.new.into _ _ (omega (arith, c.read_exact_at.auto.into, c.deref_mut.ensures.len)))) long (subst (λ (t : Option (List File)). IfSome t (λ files. IsRead files c.args.path.now (c.args.offset + c.loop-done.done) c.read_exact_at.new.into)) here c.in_ok-read_exact_at.ensures.bytes);
      told = c.in_ok-read_exact_at.ensures.told ∙ here;
      listing = c.in_ok-read_exact_at.ensures.listing ∙ c.loop-done.invariant.listing;
      faults = omega (arith, c.in_ok-read_exact_at.ensures.cause.later);
      slips = stood told (g.S.Source.slips c.args.source.now) (g.S.Source.slips c.loop-done.source) (g.S.Source.slips c.read_exact_at.new.self) c.loop-done.invariant.slips
          (no-slip told c.args.path.now (c.args.offset + c.loop-done.done) (length c.read_exact_at.new.into) c.read_exact_at.result _ _ part
          (subst (λ (t : Option (List File)). IfSome t (λ files. HasSlip (is_within_file files c.args.path.now (c.args.offset + c.loop-done.done) (length c.read_exact_at.new.into)) c.read_exact_at.result (g.S.Source.slips c.loop-done.source) (g.S.Source.slips c.read_exact_at.new.self))) here c.read_exact_at.ensures.slips));
    }
