use Rattle.std.proofs.Common.{◌-◌, length, get_or, sym, ◌∙◌, arith}
use Rattle.std.proofs.lemmas.Bool.{eqb-true, eqb-false}
use Rattle.wdt_units.specs.Scan.{next}
use Rattle.wdt_units.proofs.lemmas.Lawful.{lawful-is, unlawful-is}
use Rattle.wdt_units.proofs.lemmas.PathBytes.{within_goes, within_stops, turn-stops, turn-goes, turn-comes, turn-done}
use Rattle.wdt_units.proofs.path.is_lawful.Goals as goal

pub returns-then-is_empty : goal.returns-then-is_empty
returns-then-is_empty c = sym (unlawful-is c.args.bytes.now (λ h. omega (arith, h.some, eqb-true _ _ (sym c.is_empty.ensures ∙ c.if-is_empty.true))))

pub returns-then-bytes-gt-MAX_PATH : goal.returns-then-bytes-gt-MAX_PATH
returns-then-bytes-gt-MAX_PATH c = sym (unlawful-is c.args.bytes.now (λ h. omega (arith, h.most)))

pub returns-in-None : goal.returns-in-None
returns-in-None c =
    sym (unlawful-is c.args.bytes.now (λ h.
    turn-stops c.loop-k.k c.loop-k.scan c.args.bytes.now c.loop-k-test.true (within_stops (length c.args.bytes.now - 1 - c.loop-k.k) (next c.loop-k.scan (get_or c.args.bytes.now c.loop-k.k 0)) (sym c.in-None.is ∙ c.scan_on.ensures)) (c.loop-k.invariant.goes h.ends)))

pub loop-k-preserved : goal.loop-k-preserved
loop-k-preserved c =
    let w = within_goes (length c.args.bytes.now - 1 - c.loop-k.k) (next c.loop-k.scan (get_or c.args.bytes.now c.loop-k.k 0)) c.in-Some.after (sym c.in-Some.is ∙ c.scan_on.ensures) in
    record {
      goes = λ e. turn-goes c.loop-k.k c.loop-k.scan c.args.bytes.now c.loop-k-test.true c.in-Some.after w.0 (c.loop-k.invariant.goes e);
      comes = λ e. c.loop-k.invariant.comes (turn-comes c.loop-k.k c.loop-k.scan c.args.bytes.now c.loop-k-test.true c.in-Some.after w.0 (omega (arith, w.1)) (omega (arith, c.type_inv.bytes c.loop-k.k)) e);
    }

pub returns : goal.returns
returns c =
    sym (lawful-is c.args.bytes.now (omega (arith, eqb-false _ _ (sym c.is_empty.ensures ∙ c.if-is_empty.false))) c.if-bytes-gt-MAX_PATH.false (c.loop-k.invariant.comes (turn-done c.loop-k.k c.loop-k.scan c.args.bytes.now c.loop-k-test.false)))
