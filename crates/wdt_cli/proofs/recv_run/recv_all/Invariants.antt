use Rattle.wdt_recv_lanes.specs.Kept.{started_of}
use Rattle.wdt_cli.proofs.recv_run.recv_all.Given as goal

-- what the depot is as it is handed in
abbrev pub ghosts-recv_since-J-Start : goal.ghosts-recv_since-J-Start
ghosts-recv_since-J-Start g a = record { started = started_of (g.D.Depot.state a.depot) }

abbrev pub ghosts-recv_since-K-Ledger : goal.ghosts-recv_since-K-Ledger
ghosts-recv_since-K-Ledger g a = record { name = a.blank.name; parts = a.blank.parts }
