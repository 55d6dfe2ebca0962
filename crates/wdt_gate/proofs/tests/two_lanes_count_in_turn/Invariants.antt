use Rattle.wdt_gate.proofs.tests.two_lanes_count_in_turn.Given as goal

abbrev pub ghosts-game : goal.ghosts-game
ghosts-game g a = record { name = a.blank.name; parts = a.blank.parts }
