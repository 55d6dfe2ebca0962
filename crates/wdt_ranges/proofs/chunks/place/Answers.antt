use Rattle.std.proofs.Common.{rules, nat_le}
use Rattle.std.proofs.lemmas.List.Sorted.{IsPartitionPoint-from_clause, IsPartitionedBy-leb}
use Rattle.wdt_ranges.specs.declared.ranges.Span.{Span}
use Rattle.wdt_ranges.proofs.Parts.{offsets_rise, place_from}
use Rattle.wdt_ranges.proofs.chunks.place.Goals as goal

pub returns-in-Some : goal.returns-in-Some
returns-in-Some c =
    let parted = IsPartitionPoint-from_clause (λ (s : Span). nat_le s.offset c.args.offset) c.args.spans.now c.partition_point.result c.partition_point.ensures.partitioned
    (IsPartitionedBy-leb (λ (s : Span). s.offset) c.args.spans.now c.args.offset (offsets_rise c.args.spans.now c.requires)) (λ a r f' k. search rules) in
    place_from c.args.spans.now c.args.offset c.partition_point.result c.partition_point.ensures.bound parted.0 parted.1
