use Rattle.wdt_recv_lanes.specs.Kept.{started_of}
use Rattle.wdt_sending.specs.Sending.{begun_of}
use Rattle.wdt_cli.proofs.copying.copy_parts.Given as goal

-- what the sender's end is opened with
abbrev pub ghosts-copy_since-B-Begin : goal.ghosts-copy_since-B-Begin
ghosts-copy_since-B-Begin g a = record { begun = begun_of a.opening.manifest a.opening.block }

-- what the depot is as it is handed in
abbrev pub ghosts-copy_since-J-Start : goal.ghosts-copy_since-J-Start
ghosts-copy_since-J-Start g a = record { started = started_of (g.D.Depot.state a.parts.depot) }

abbrev pub ghosts-copy_since-L-Ledger : goal.ghosts-copy_since-L-Ledger
ghosts-copy_since-L-Ledger g a = record { name = a.sent.name; parts = a.sent.parts }

abbrev pub ghosts-copy_since-K-Ledger : goal.ghosts-copy_since-K-Ledger
ghosts-copy_since-K-Ledger g a = record { name = a.received.name; parts = a.received.parts }
