-- A script, line by line.
use Rattle.std.proofs.Common.{◌≡◌, ℕ, ◌+◌, ◌<◌, ◌≤◌, Bool, true, false, cond, nat_le, List, ◌∷◌, length, drop, Ok, Err, sym, ap, ◌∙◌, arith}
use Rattle.std.proofs.lemmas.Bool.Decides.{nat_tests}
use Rattle.std.proofs.lemmas.List.{append-nil, drop_all}
use Rattle.wdt_script.specs.declared.event.Event.{Event}
use Rattle.wdt_script.specs.declared.reading.Reading.{Reading}
use Rattle.wdt_script.specs.declared.script.TheConstants.{MAX_LINES}
use Rattle.wdt_script.specs.Events.{read_line}
use Rattle.wdt_script.specs.Lines.{lines_of}
use Rattle.wdt_script.specs.Script.{in_front, script_behind, with_events}

not-le : (a b : ℕ) → b < a → nat_le a b ≡ false
not-le a b lt = grind (arith, nat_tests)

-- where a line is to be read, it stands in front of those behind it
pub one-more : (lanes count : ℕ) (rest line more : List ℕ) → lines_of rest ≡ line ∷ lines_of more → nat_le MAX_LINES count ≡ false
    → script_behind lanes count (lines_of rest) ≡ in_front (count + 1) (read_line lanes line) (script_behind lanes (count + 1) (lines_of more))
unfolding script_behind
one-more lanes count rest line more cut few =
    ap (script_behind lanes count) cut ∙ ap (λ (t : Bool). cond t (Err (count + 1)) (in_front (count + 1) (read_line lanes line) (script_behind lanes (count + 1) (lines_of more)))) few

-- the same with what the line was read as
pub step-is : (lanes count : ℕ) (rest line more : List ℕ) (reading : Reading) → lines_of rest ≡ line ∷ lines_of more → count < MAX_LINES → reading ≡ read_line lanes line
    → script_behind lanes count (lines_of rest) ≡ in_front (count + 1) reading (script_behind lanes (count + 1) (lines_of more))
step-is lanes count rest line more reading cut few is =
    one-more lanes count rest line more cut (not-le MAX_LINES count few) ∙ ap (λ (r : Reading). in_front (count + 1) r (script_behind lanes (count + 1) (lines_of more))) (sym is)

-- a line too many has no reading
pub too-many : (lanes count : ℕ) (rest line more : List ℕ) → lines_of rest ≡ line ∷ lines_of more → nat_le MAX_LINES count ≡ true
    → script_behind lanes count (lines_of rest) ≡ Err (count + 1)
unfolding script_behind
too-many lanes count rest line more cut many =
    ap (script_behind lanes count) cut ∙ ap (λ (t : Bool). cond t (Err (count + 1)) (in_front (count + 1) (read_line lanes line) (script_behind lanes (count + 1) (lines_of more)))) many

-- behind the last line nothing is said
pub at-end : (lanes count start : ℕ) (bytes : List ℕ) (events : List Event) → length bytes ≤ start → with_events events (script_behind lanes count (lines_of (drop start bytes))) ≡ Ok events
unfolding script_behind lines_of
at-end lanes count start bytes events over =
    ap (λ (rest : List ℕ). with_events events (script_behind lanes count (lines_of rest))) (drop_all start bytes over) ∙ ap Ok (append-nil events)
