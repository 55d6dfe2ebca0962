use Rattle.std.proofs.Common.{◌+◌, ◌-◌, ◌<◌, List, ℕ, length, take, drop, Result, sym, ap, ◌∙◌, subst, arith}
use Rattle.std.proofs.lemmas.Bool.{le-leb}
use Rattle.std.proofs.lemmas.List.{length-drop}
use Rattle.wdt_script.specs.declared.event.Event.{Event}
use Rattle.wdt_script.specs.declared.script.TheConstants.{MAX_LINES}
use Rattle.wdt_script.specs.Lines.{ends_line, lines_of}
use Rattle.wdt_script.specs.Script.{script_behind, with_events, Fails}
use Rattle.std.specs.List.{position_or_len}
use Rattle.wdt_script.proofs.Parts.{first-line}
use Rattle.wdt_script.proofs.Steps.{at-end, step-is, too-many}
use Rattle.wdt_script.proofs.script.read_script.Goals as goal

pub returns-then-line-ge-MAX_LINES : goal.returns-then-line-ge-MAX_LINES
returns-then-line-ge-MAX_LINES c =
    let rest : List ℕ = drop c.loop-start.start c.args.bytes.now in
    let p : ℕ = position_or_len ends_line rest in
    let some : 0 < length rest = omega (arith, length-drop c.loop-start.start c.args.bytes.now) in
    c.loop-start.invariant.reads
    ∙ ap (with_events c.loop-start.events.items) (too-many c.args.lanes c.loop-start.line rest (take p rest) (drop (p + 1) rest) (first-line rest some) (le-leb MAX_LINES c.loop-start.line (omega arith)))

pub returns-in-Err : goal.returns-in-Err
returns-in-Err c =
    let rest : List ℕ = drop c.loop-start.start c.args.bytes.now in
    let line : List ℕ = take (c.line_end-end.result - c.loop-start.start) rest in
    let more : List ℕ = drop (c.line_end-end.result + 1) c.args.bytes.now in
    let behind : Result (List Event) ℕ = script_behind c.args.lanes (c.loop-start.line + 1) (lines_of more) in
    let whole = c.loop-start.invariant.reads ∙ ap (with_events c.loop-start.events.items) (step-is c.args.lanes c.loop-start.line rest line more c.read_line-reading.result c.line_end-end.ensures.line (omega arith) c.read_line-reading.ensures) in
    subst (λ (s : Result (List Event) ℕ). Fails c.in-Err.fail s) (sym whole) (c.in-Err.ensures.failed behind)

pub loop-start-preserved : goal.loop-start-preserved
loop-start-preserved c =
    let rest : List ℕ = drop c.loop-start.start c.args.bytes.now in
    let line : List ℕ = take (c.line_end-end.result - c.loop-start.start) rest in
    let more : List ℕ = drop (c.line_end-end.result + 1) c.args.bytes.now in
    let behind : Result (List Event) ℕ = script_behind c.args.lanes (c.loop-start.line + 1) (lines_of more) in
    record {
      reads = c.loop-start.invariant.reads
          ∙ (ap (with_events c.loop-start.events.items) (step-is c.args.lanes c.loop-start.line rest line more c.read_line-reading.result c.line_end-end.ensures.line (omega arith) c.read_line-reading.ensures)
          ∙ c.in-Ok.ensures.added behind);
      few = omega arith;
    }

pub returns : goal.returns
returns c = c.loop-start.invariant.reads ∙ at-end c.args.lanes c.loop-start.line c.loop-start.start c.args.bytes.now c.loop-start.events.items (omega arith)
