use Rattle.wdt_lanes_tests.proofs.tests.a_lane_comes_to_its_end.Given as goal

abbrev pub ghosts-send-L-Ledger : goal.ghosts-send-L-Ledger
ghosts-send-L-Ledger g a = record { name = a.blank.name; parts = a.blank.parts }

abbrev pub ghosts-send-B-Begin : goal.ghosts-send-B-Begin
ghosts-send-B-Begin g a = record { begun = record { manifest = a.manifest; block = 4 } }
