-- A sender's end as the code keeps it.
use Rattle.wdt_yard.specs.declared.end.SendEnd.TheInside.{Inside}
use Rattle.wdt_yard.specs.End.{EndView, IsEnd}

-- what contracts see of an end
abbrev pub seen : Inside → EndView
seen end =
    record {
      plain = record {
        manifest = end.manifest;
        block = end.block;
        session = end.session;
        have = end.have;
        planned = end.journal.planned;
        lanes = end.lanes.items;
        history = end.journal.history;
        answer = end.answer;
      };
      spare = end.journal.spare;
      ready = end.journal.ready;
    }

-- what the end keeps hangs together
abbrev pub IsSendEnd : Inside → Type 0
IsSendEnd end = IsEnd end.manifest end.block end.have end.journal end.lanes.items
