-- The first line without a reading.
use Rattle.std.proofs.Common.{◌≡◌, ℕ, zero, suc, ◌+◌, ◌<◌, Bool, true, false, cond, not, ◌&&◌, nat_le, List, [], ◌∷◌, slice_get, Some, None, Result, Ok, Err, refl, ap, ◌∙◌, subst, arith}
use Rattle.wdt_script.specs.declared.event.Event.{Event}
use Rattle.wdt_script.specs.declared.reading.Reading.{Reading}
use Rattle.wdt_script.specs.declared.reading.Reading.TheVariants.{Passed, Says, Unread}
use Rattle.wdt_script.specs.declared.script.TheConstants.{MAX_LINES}
use Rattle.wdt_script.specs.Events.{read_line}
use Rattle.wdt_script.specs.Script.{in_front, script_behind, with_event}
use Rattle.wdt_script.specs.Unread.{AreReadBehind, IsUnreadAt, has_reading, is_reading}

-- where the lines behind so many others are refused
record IsRefusedBehind (lanes count : ℕ) (lines : List (List ℕ)) (n : ℕ) : Type 0 where
  at : ℕ
  is : n ≡ count + at + 1
  first : IsUnreadAt lanes count lines at

-- a script that is refused at a line
abbrev refused_at : ℕ → Result (List Event) ℕ
refused_at n = Err n

-- a script that is read isn't refused
not-refused : (events : List Event) (n : ℕ) (script : Result (List Event) ℕ) → script ≡ Ok events → script ≡ Err n → ⊥
not-refused events n script read bad = cc

-- ---- one line more in front

before-more : (lanes count : ℕ) (line : List ℕ) (lines : List (List ℕ)) (at : ℕ) → has_reading lanes count line ≡ true → IsUnreadAt lanes (count + 1) lines at
    → (j : ℕ) (other : List ℕ) → j < suc at → slice_get (line ∷ lines) j ≡ Some other → has_reading lanes (count + j) other ≡ true
before-more lanes count line lines at ok f zero other lt there =
    let same : line ≡ other = cc in
    let here : count ≡ count + 0 = omega arith in
    subst (λ (k : ℕ). has_reading lanes k other ≡ true) here (subst (λ (l : List ℕ). has_reading lanes count l ≡ true) same ok)
before-more lanes count line lines at ok f (suc j) other lt there =
    let here : count + 1 + j ≡ count + suc j = omega arith in
    subst (λ (k : ℕ). has_reading lanes k other ≡ true) here (f.before j other (omega (arith, lt)) there)

refused-more : (lanes count : ℕ) (line : List ℕ) (lines : List (List ℕ)) (n : ℕ) → has_reading lanes count line ≡ true → IsRefusedBehind lanes (count + 1) lines n → IsRefusedBehind lanes count (line ∷ lines) n
refused-more lanes count line lines n ok f =
    let here : count + 1 + f.at ≡ count + suc f.at = omega arith in
    record {
      at = suc f.at;
      is = omega (arith, f.is);
      first = record {
        line = f.first.line;
        there = f.first.there;
        unread = subst (λ (k : ℕ). has_reading lanes k f.first.line ≡ false) here f.first.unread;
        before = before-more lanes count line lines f.at ok f.first;
      };
    }

refused-here : (lanes count : ℕ) (line : List ℕ) (lines : List (List ℕ)) (n : ℕ) → has_reading lanes count line ≡ false → count + 1 ≡ n → IsRefusedBehind lanes count (line ∷ lines) n
refused-here lanes count line lines n bad is =
    let here : count ≡ count + 0 = omega arith in
    record {
      at = 0;
      is = omega (arith, is);
      first = record {
        line = line;
        there = refl;
        unread = subst (λ (k : ℕ). has_reading lanes k line ≡ false) here bad;
        before = λ j other lt there. absurd (omega (arith, lt));
      };
    }

reading-is : (lanes count : ℕ) (line : List ℕ) (many : Bool) (r : Reading) (b : Bool) → nat_le MAX_LINES count ≡ many → read_line lanes line ≡ r → not many && is_reading r ≡ b → has_reading lanes count line ≡ b
reading-is lanes count line many r b m e is = ap (λ (t : Bool). not t && is_reading (read_line lanes line)) m ∙ (ap (λ (x : Reading). not many && is_reading x) e ∙ is)

same-line : (m n : ℕ) → refused_at m ≡ Err n → m ≡ n
same-line m n e = cc

without-event : (event : Event) (more : Result (List Event) ℕ) (n : ℕ) → with_event event more ≡ Err n → more ≡ Err n
without-event event (Ok events) n e = absurd (not-refused (event ∷ events) n (Ok (event ∷ events)) refl e)
without-event event (Err m) n e = e

-- ---- the law

by-line : (lanes count : ℕ) (line : List ℕ) (lines : List (List ℕ)) (n : ℕ) (many : Bool) (r : Reading) → nat_le MAX_LINES count ≡ many → read_line lanes line ≡ r
    → (script_behind lanes (count + 1) lines ≡ Err n → IsRefusedBehind lanes (count + 1) lines n)
    → cond many (Err (count + 1)) (in_front (count + 1) r (script_behind lanes (count + 1) lines)) ≡ Err n → IsRefusedBehind lanes count (line ∷ lines) n
by-line lanes count line lines n true r m e more h = refused-here lanes count line lines n (reading-is lanes count line true r false m e refl) (same-line (count + 1) n h)
by-line lanes count line lines n false Unread m e more h = refused-here lanes count line lines n (reading-is lanes count line false Unread false m e refl) (same-line (count + 1) n h)
by-line lanes count line lines n false Passed m e more h = refused-more lanes count line lines n (reading-is lanes count line false Passed true m e refl) (more h)
by-line lanes count line lines n false (Says event) m e more h =
    refused-more lanes count line lines n (reading-is lanes count line false (Says event) true m e refl) (more (without-event event (script_behind lanes (count + 1) lines) n h))

refused : (lanes count : ℕ) (lines : List (List ℕ)) (n : ℕ) → script_behind lanes count lines ≡ Err n → IsRefusedBehind lanes count lines n
unfolding script_behind
refused lanes count [] n h = absurd (not-refused [] n (Ok []) refl h)
refused lanes count (line ∷ lines) n h = by-line lanes count line lines n (nat_le MAX_LINES count) (read_line lanes line) refl refl (refused lanes (count + 1) lines n) h

pub first-bad : (lanes : ℕ) (lines : List (List ℕ)) (n : ℕ) → script_behind lanes 0 lines ≡ Err n → (k : ℕ) × (n ≡ k + 1) × IsUnreadAt lanes 0 lines k
first-bad lanes lines n h = let r = refused lanes 0 lines n h in (r.at, omega (arith, r.is), r.first)

-- ---- where none is refused

without-first : (event : Event) (more : Result (List Event) ℕ) (events : List Event) → with_event event more ≡ Ok events → (rest : List Event) × (more ≡ Ok rest)
without-first event (Ok rest) events e = (rest, refl)
without-first event (Err m) events e = absurd (not-refused events m (Err m) e refl)

read-more : (lanes count : ℕ) (line : List ℕ) (lines : List (List ℕ)) → has_reading lanes count line ≡ true → AreReadBehind lanes (count + 1) lines → AreReadBehind lanes count (line ∷ lines)
read-more lanes count line lines ok more zero other there =
    let same : line ≡ other = cc in
    let here : count ≡ count + 0 = omega arith in
    subst (λ (k : ℕ). has_reading lanes k other ≡ true) here (subst (λ (l : List ℕ). has_reading lanes count l ≡ true) same ok)
read-more lanes count line lines ok more (suc j) other there =
    let here : count + 1 + j ≡ count + suc j = omega arith in
    subst (λ (k : ℕ). has_reading lanes k other ≡ true) here (more j other there)

by-read : (lanes count : ℕ) (line : List ℕ) (lines : List (List ℕ)) (events : List Event) (many : Bool) (r : Reading) → nat_le MAX_LINES count ≡ many → read_line lanes line ≡ r
    → ((rest : List Event) → script_behind lanes (count + 1) lines ≡ Ok rest → AreReadBehind lanes (count + 1) lines)
    → cond many (Err (count + 1)) (in_front (count + 1) r (script_behind lanes (count + 1) lines)) ≡ Ok events → AreReadBehind lanes count (line ∷ lines)
by-read lanes count line lines events true r m e more h = absurd (not-refused events (count + 1) (Err (count + 1)) h refl)
by-read lanes count line lines events false Unread m e more h = absurd (not-refused events (count + 1) (Err (count + 1)) h refl)
by-read lanes count line lines events false Passed m e more h = read-more lanes count line lines (reading-is lanes count line false Passed true m e refl) (more events h)
by-read lanes count line lines events false (Says event) m e more h =
    let rest = without-first event (script_behind lanes (count + 1) lines) events h in
    read-more lanes count line lines (reading-is lanes count line false (Says event) true m e refl) (more rest.0 rest.1)

pub all-read : (lanes count : ℕ) (lines : List (List ℕ)) (events : List Event) → script_behind lanes count lines ≡ Ok events → AreReadBehind lanes count lines
unfolding script_behind
all-read lanes count [] events h = λ k line there. absurd (let none : None ≡ Some line = there in cc)
all-read lanes count (line ∷ lines) events h = by-read lanes count line lines events (nat_le MAX_LINES count) (read_line lanes line) refl refl (all-read lanes (count + 1) lines) h
