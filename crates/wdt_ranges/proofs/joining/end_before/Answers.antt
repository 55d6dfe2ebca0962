use Rattle.std.proofs.Common.{◌-◌, arith}
use Rattle.wdt_ranges.specs.Chunks.{all_of, place_of}
use Rattle.wdt_ranges.proofs.Apart.{bounds_of}
use Rattle.wdt_ranges.proofs.Parts.{nothing}
use Rattle.wdt_ranges.proofs.joining.end_before.Goals as goal

pub overflow_add-result : goal.overflow_add-result
overflow_add-result c =
    omega (arith, (bounds_of (all_of c.args.chunks.now) (place_of c.args.chunks.now c.args.spot - 1) nothing c.in-Some.before c.requires.apart (omega (arith, c.requires.place, c.in-Some.ensures.some)) (c.in-Some.ensures.span nothing)).limit)
