use Rattle.std.proofs.Common.{length, map, string_bytes}
use Rattle.wdt_words.specs.Words.{transfer_of}
use Rattle.wdt_cli.proofs.Pipes.{serves_as}
use Rattle.wdt_cli.proofs.Sockets.{none_for, none_stored, none_within, sockets_for, sockets_home}
use Rattle.wdt_cli.proofs.over_tcp.recv_folder.Goals as goal

pub carry-carried-requires-clause-served : goal.carry-carried-requires-clause-served
carry-carried-requires-clause-served g c κs within =
    serves_as (transfer_of (map string_bytes c.args.words.now)) 0 0 c.args.lanes (length c.new-sources.result.items) (length c.new-nobody.result.items) (length c.in-Ok.acceptors.items)
    (none_for c.new-sources.result.items c.new-sources.ensures.items) (none_for c.new-nobody.result.items c.new-nobody.ensures.items) (sockets_for c.in-Ok.acceptors.items c.args.lanes _ c.in-Ok.ensures) c.requires.served

pub carry-carried-requires-clause-dialers_home : goal.carry-carried-requires-clause-dialers_home
carry-carried-requires-clause-dialers_home g c κs within = λ k d inside. absurd (none_within c.new-nobody.result.items k c.new-nobody.ensures.items inside)

pub carry-carried-requires-clause-acceptors_home : goal.carry-carried-requires-clause-acceptors_home
carry-carried-requires-clause-acceptors_home g c κs within = sockets_home c.in-Ok.acceptors.items c.args.lanes _ c.in-Ok.ensures

pub carry-carried-requires-clause-disk : goal.carry-carried-requires-clause-disk
carry-carried-requires-clause-disk g c κs within = none_stored (transfer_of (map string_bytes c.args.words.now)) _
