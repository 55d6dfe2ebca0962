use Rattle.std.proofs.Common.{rules}
use Rattle.std.proofs.lemmas.List.Sorted.{IsPartitionPoint-from_clause}
use Rattle.wdt_log.proofs.Adding.{is_below, parted, place_from}
use Rattle.wdt_log.proofs.extending.place.Goals as goal

pub returns-clause-place : goal.returns-clause-place
returns-clause-place c =
    place_from c.args.number c.args.files.now c.partition_point.result c.partition_point.ensures.bound
    (IsPartitionPoint-from_clause (is_below c.args.number) c.args.files.now c.partition_point.result c.partition_point.ensures.partitioned (parted c.args.number c.args.files.now c.requires) (λ a r f' k. search rules))
