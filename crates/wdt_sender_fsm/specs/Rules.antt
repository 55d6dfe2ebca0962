-- The rules that come before the table, and how an end's answer follows from its lanes. They are the
-- same at both ends.
use Rattle.std.specs.Prelude.{ℕ, zero, suc, ◌&&◌, Bool, true, false, if◌then◌else◌}
use Rattle.wdt_sender_fsm.specs.declared.answers.EndAnswer.{EndAnswer}
use Rattle.wdt_sender_fsm.specs.declared.answers.EndAnswer.TheVariants as answers

-- the end has failed
abbrev pub is_failure : EndAnswer → Bool
is_failure answers.Going = false
is_failure answers.Done = false
is_failure answers.Link = false
is_failure _ = true

-- the code by which a failed end tells the other: the number of the exit status that the answer leads
-- to, and where the other end has failed itself the code that it told
abbrev pub code_of : EndAnswer → ℕ
code_of answers.Going = 0
code_of answers.Done = 0
code_of answers.Source = 2
code_of answers.Disk = 3
code_of answers.Link = 4
code_of (answers.Peer kind) = 5
code_of (answers.Aborted code) = code
code_of (answers.Refused kind) = 7
code_of answers.NoMemory = 10

-- memory ran out: that is the answer, unless the end had one before
abbrev pub starved : EndAnswer → EndAnswer
starved answers.Going = answers.NoMemory
starved answer = answer

-- the answer of an end that hasn't failed: whether it finished and each lane is acknowledged or closed,
-- and whether each lane has ended or is closed
abbrev pub standing : Bool → Bool → EndAnswer
standing true _ = answers.Done
standing false true = answers.Link
standing false false = answers.Going

-- the answer behind a step: a failure stays
abbrev pub judged : EndAnswer → Bool → Bool → EndAnswer
judged answer is_done is_over = if is_failure answer then answer else standing is_done is_over

-- the rules in their order: a lane that has ended does nothing more; a closed lane ends; on an end that
-- has failed a lane gives up; else the table has the step
abbrev pub by_rules : {X : Type 0} → Bool → Bool → Bool → X → X → X → X → X
by_rules has_ended is_closed has_failed rests leaves gives_up serves =
    if has_ended then rests else if is_closed then leaves else if has_failed then gives_up else serves

-- a lane gives up: where nothing more can be told it ends, else it tells the other end of the failure
abbrev pub by_voice : {X : Type 0} → Bool → X → X → X
by_voice is_mute leaves tells = if is_mute then leaves else tells

-- it holds for each number below n
abbrev pub every : ℕ → (ℕ → Bool) → Bool
every zero f = true
every (suc n) f = every n f && f n
