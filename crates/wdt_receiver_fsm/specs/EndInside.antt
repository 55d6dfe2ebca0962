-- A receiver's end as the code keeps it.
use Rattle.std.specs.Prelude.{◌≡◌, length, IsTrue}
use Rattle.wdt_logfmt.specs.View.{is_view, named_files}
use Rattle.wdt_receiver_fsm.specs.declared.end.RecvEnd.TheInside.{Inside}
use Rattle.wdt_receiver_fsm.specs.End.{EndView}

-- what contracts see of it
abbrev pub seen : Inside → EndView
seen end =
    record {
      opening = named_files end.opening.files.items;
      batch = end.batch;
      lanes = end.lanes.items;
      history = end.notes.history;
      answer = end.answer;
      room = end.notes.room;
    }

-- the notes are of its lanes, and what the log said can be said
pub record IsRecvEnd (end : Inside) : Type 0 where
  pub same : length end.lanes.items ≡ end.notes.lanes
  pub view : IsTrue (is_view (named_files end.opening.files.items))
