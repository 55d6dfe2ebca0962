use Rattle.std.proofs.Common.{length, map, string_bytes}
use Rattle.wdt_words.specs.Words.{transfer_of}
use Rattle.wdt_cli.proofs.Pipes.{ends_home, pipes_for, serves_as}
use Rattle.wdt_cli.proofs.over_pipes.copy_folders.Goals as goal

pub carry-carried-requires-clause-served : goal.carry-carried-requires-clause-served
carry-carried-requires-clause-served g c κs within =
    serves_as (transfer_of (map string_bytes c.args.words.now)) c.args.lanes c.args.lanes c.args.lanes (length c.in_ok-sources.sources.items) (length c.in-Ok.dialers.items)
    (length c.in-Ok.acceptors.items) c.in_ok-sources.ensures (pipes_for c.in-Ok.dialers.items c.args.lanes _ c.in-Ok.ensures.dialers)
    (pipes_for c.in-Ok.acceptors.items c.args.lanes _ c.in-Ok.ensures.acceptors) c.requires

pub carry-carried-requires-clause-dialers_home : goal.carry-carried-requires-clause-dialers_home
carry-carried-requires-clause-dialers_home g c κs within = ends_home c.in-Ok.dialers.items c.args.lanes _ c.in-Ok.ensures.dialers

pub carry-carried-requires-clause-acceptors_home : goal.carry-carried-requires-clause-acceptors_home
carry-carried-requires-clause-acceptors_home g c κs within = ends_home c.in-Ok.acceptors.items c.args.lanes _ c.in-Ok.ensures.acceptors
