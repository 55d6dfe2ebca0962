use Rattle.std.specs.Prelude.{None}
use Rattle.wdt_recv_lanes_tests.proofs.tests.a_lane_waits_for_the_other.Given as goal

abbrev pub ghosts-receive-L-Ledger : goal.ghosts-receive-L-Ledger
ghosts-receive-L-Ledger g a = record { name = a.blank.name; parts = a.blank.parts }

abbrev pub ghosts-receive-J-Start : goal.ghosts-receive-J-Start
ghosts-receive-J-Start g a = record { started = record { faults = 0; slips = 0; told = None } }
