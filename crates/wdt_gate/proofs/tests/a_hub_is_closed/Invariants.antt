use Rattle.wdt_gate.proofs.tests.a_hub_is_closed.Given as goal

abbrev pub ghosts-closed : goal.ghosts-closed
ghosts-closed g a = record { name = a.blank.name; parts = a.blank.parts }
