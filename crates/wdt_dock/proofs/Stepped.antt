-- What a dock keeps behind a step of a lane.
use Rattle.std.proofs.Common.{◌≡◌, ℕ, ◌<◌, Bool, true, List, [], ◌∷◌, ◌++◌, length, append-nil, Option, Some, None, Result, Ok, Err, refl, sym, ap, ◌∙◌, subst}
use Rattle.std.specs.Prelude.{IfOk, OnErr, is_some, option_and_then}
use Rattle.std.specs.List.{list_all}
use Rattle.std.proofs.lemmas.Bool.{and_from, and_parts}
use Rattle.wdt_units.specs.Counts.{Rises}
use Rattle.wdt_units.specs.declared.blocks.Block.{Block}
use Rattle.wdt_units.specs.declared.numbers.Lane.{Lane}
use Rattle.wdt_depot.specs.State.{State}
use Rattle.wdt_log.specs.OpenLog.{OpenLog}
use Rattle.wdt_writer.specs.PlainWriter.{PlainWriter, part_at}
use Rattle.wdt_writer.specs.declared.parts.Part.{Part}
use Rattle.wdt_writer.proofs.ForCallers.{settles}
use Rattle.wdt_logfmt.specs.declared.entry.LogEntry.{LogEntry}
use Rattle.wdt_logfmt.specs.Adding.{all_added}
use Rattle.wdt_logfmt.specs.Batches.{block_entries, entries_of, has_known_file}
use Rattle.wdt_logfmt.specs.Spelling.{written_version}
use Rattle.wdt_logfmt.specs.View.{NamedFile}
use Rattle.wdt_logfmt.proofs.ForCallers.{all_added-append, entries-append}
use Rattle.wdt_receiver_fsm.specs.declared.acts.RecvAct.{RecvAct}
use Rattle.wdt_receiver_fsm.specs.declared.inputs.RecvIn.{RecvIn}
use Rattle.wdt_receiver_fsm.specs.Batched.{CanLog, Continues}
use Rattle.wdt_receiver_fsm.specs.Outcomes.{Lands}
use Rattle.wdt_receiver_fsm.specs.Plan.{EndsIn}
use Rattle.wdt_receiver_fsm.specs.PlainReceiver.{PlainReceiver}
use Rattle.wdt_receiver_fsm.specs.Turn.{Bytes, Given, Put, turn_plan}
use Rattle.wdt_receiver_fsm.proofs.ForCallers.{ends_weaker}
use Rattle.wdt_dock.specs.Desk.{AreBooks, IsDesk, part_by, plain_of}
use Rattle.wdt_dock.specs.DockView.{Turns}
use Rattle.wdt_receiver_fsm.specs.End.{EndView, lane_in}
use Rattle.wdt_dock.proofs.Flushed.{continues}

-- what stands behind each end of a step, and stood before, stands behind the step, also where it was refused for memory
pub stepped : (E : Type 0) (r : Result RecvAct E) (a b : PlainReceiver) (l : Lane) (put : Put) (s0 s1 : State) (Q : PlainReceiver → Type 0) → Turns (turn_plan a l put) r b s0 s1 → OnErr r (b ≡ a) → Q a
    → ((act : RecvAct) → EndsIn (Unit {0}) (turn_plan a l put) (act, b) → Q b) → Q b
stepped E (Ok act) a b l put s0 s1 Q turns same here go = go act (ends_weaker (Rises s0.faults s1.faults) (Unit {0}) (turn_plan a l put) (act, b) (λ why. tt) turns)
stepped E (Err e) a b l put s0 s1 Q turns same here go = subst Q (sym same) here

-- what holds of each end of a step holds where it was done
pub done_step : (E : Type 0) (r : Result RecvAct E) (a b : PlainReceiver) (l : Lane) (put : Put) (s0 s1 : State) (Q : RecvAct → Type 0) → Turns (turn_plan a l put) r b s0 s1
    → ((act : RecvAct) → EndsIn (Unit {0}) (turn_plan a l put) (act, b) → Q act) → IfOk r Q
done_step E (Ok act) a b l put s0 s1 Q turns go = go act (ends_weaker (Rises s0.faults s1.faults) (Unit {0}) (turn_plan a l put) (act, b) (λ why. tt) turns)
done_step E (Err e) a b l put s0 s1 Q turns go = tt

-- no block lands by an input, so what landed can be logged
pub given_logs : (e : EndView) (log : OpenLog) (w : PlainWriter) (l : Lane) (input : RecvIn) → AreBooks log w → CanLog (plain_of e log w) l (Given input)
given_logs e log w l input books = record { now = continues log w books; next = λ b lands. absurd (not_bytes lands.bytes lands.handed) }
  where
    not_bytes : (bytes : List ℕ) → Given input ≡ Bytes bytes → ⊥
    not_bytes bytes is = cc

-- ---- bytes of a block

all_more : (p : Block → Bool) (bs : List Block) (b : Block) → list_all p bs ≡ true → p b ≡ true → list_all p (bs ++ b ∷ []) ≡ true
all_more p [] b all one = and_from (p b) true one refl
all_more p (c ∷ bs) b all one = (let a = and_parts (p c) (list_all p bs) all in and_from (p c) (list_all p (bs ++ b ∷ [])) a.0 (all_more p bs b a.1 one))

-- a block that lands can be logged behind what landed
pub bytes_logs : (e : EndView) (log : OpenLog) (w : PlainWriter) → IsDesk e log w → (l : Lane) → l.0 < length e.lanes → (bytes : List ℕ) → CanLog (plain_of e log w) l (Bytes bytes)
bytes_logs e log w desk l within bytes = record { now = continues log w desk.books; next = next }
  where
    some_none : (fs : List NamedFile) → Some fs ≡ None → ⊥
    some_none fs none = cc

    next : (b : Block) → Lands (plain_of e log w) l (Bytes bytes) b → Continues w.known log.meaning.files (w.unlogged ++ b ∷ [])
    next b lands =
        let sound = desk.books.sound in
        let p : Part = record { block = b; left = (lane_in e l.0).left } in
        let at : part_at w l.0 ≡ Some p = desk.parts l.0 within ∙ ap (λ (o : Option Block). part_by o (lane_in e l.0).left) lands.begun in
        let s = settles w.known w.files w.parts sound.are_files sound.are_named sound.way l.0 p at in
        let on = sound.way.each l.0 p at in
        let was : all_added written_version log.meaning.files (entries_of w.known log.meaning.files w.unlogged) ≡ Some w.files =
        ap (λ (es : List LogEntry). all_added written_version log.meaning.files es) (sym desk.books.pending) ∙ desk.books.adds in
        let one : entries_of w.known w.files (b ∷ []) ≡ block_entries w.known w.files b = append-nil (block_entries w.known w.files b) in
        let adds : all_added written_version log.meaning.files (entries_of w.known log.meaning.files (w.unlogged ++ b ∷ [])) ≡ Some s.0 =
        ap (λ (es : List LogEntry). all_added written_version log.meaning.files es) (entries-append w.known log.meaning.files w.files w.unlogged (b ∷ []) was)
        ∙ all_added-append written_version log.meaning.files (entries_of w.known log.meaning.files w.unlogged) (entries_of w.known w.files (b ∷ []))
        ∙ ap (option_and_then (λ (gs : List NamedFile). all_added written_version gs (entries_of w.known w.files (b ∷ [])))) was
        ∙ ap (λ (es : List LogEntry). all_added written_version w.files es) one ∙ (s.1).adds in
        record { known_files = all_more (has_known_file w.known) w.unlogged b desk.books.known (ap is_some on.known_as); added = λ none. some_none s.0 (sym adds ∙ none) }
