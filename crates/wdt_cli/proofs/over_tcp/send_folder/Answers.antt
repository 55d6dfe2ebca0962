use Rattle.std.proofs.Common.{length, map, string_bytes}
use Rattle.wdt_words.specs.Words.{transfer_of}
use Rattle.wdt_cli.proofs.Pipes.{serves_as}
use Rattle.wdt_cli.proofs.Sockets.{none_for, none_stored, none_within, sockets_for, sockets_home}
use Rattle.wdt_cli.proofs.over_tcp.send_folder.Goals as goal

pub carry-carried-requires-clause-served : goal.carry-carried-requires-clause-served
carry-carried-requires-clause-served g c κs within =
    serves_as (transfer_of (map string_bytes c.args.words.now)) c.args.lanes c.args.lanes 0 (length c.in_ok-sources.sources.items) (length c.in-Ok.dialers.items) (length c.new-nobody.result.items)
    c.in_ok-sources.ensures (sockets_for c.in-Ok.dialers.items c.args.lanes _ c.in-Ok.ensures) (none_for c.new-nobody.result.items c.new-nobody.ensures.items) c.requires.served

pub carry-carried-requires-clause-dialers_home : goal.carry-carried-requires-clause-dialers_home
carry-carried-requires-clause-dialers_home g c κs within = sockets_home c.in-Ok.dialers.items c.args.lanes _ c.in-Ok.ensures

pub carry-carried-requires-clause-acceptors_home : goal.carry-carried-requires-clause-acceptors_home
carry-carried-requires-clause-acceptors_home g c κs within = λ k d inside. absurd (none_within c.new-nobody.result.items k c.new-nobody.ensures.items inside)

pub carry-carried-requires-clause-disk : goal.carry-carried-requires-clause-disk
carry-carried-requires-clause-disk g c κs within = none_stored (transfer_of (map string_bytes c.args.words.now)) _
