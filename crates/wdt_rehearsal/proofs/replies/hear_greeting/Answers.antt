use Rattle.std.proofs.Common.{◌≡◌, ◌∙◌, sym, ap, refl, arith, ◌⊎◌, inl, inr}
use Rattle.wdt_codec.specs.declared.frames.Frame.{Frame}
use Rattle.wdt_codec.specs.declared.frames.Mark.{Mark}
use Rattle.wdt_codec.specs.declared.frames.Frame.TheVariants as frames
use Rattle.wdt_codec.specs.Frames.{Fits}
use Rattle.wdt_rehearsal.specs.Replies.{greeting}
use Rattle.wdt_rehearsal.proofs.Heard.{failed}
use Rattle.wdt_rehearsal.proofs.replies.hear_greeting.Goals as goal

fits : Fits greeting
fits = record { lane = omega arith; count = omega arith }

abbrev mark_of : Frame → Mark
mark_of (frames.Greeting m) = m
mark_of other = record { lane = record { 0 = 0 }; count = 0 }

-- the greeting has lane 0 and count 0
first : (m : Mark) → (m.lane.0 ≡ 0 × (m.count ≡ 0 → ⊥)) ⊎ (m.lane.0 ≡ 0 → ⊥) → frames.Greeting m ≡ greeting → ⊥
first m (inl h) is = h.1 (ap (λ (f : Frame). (mark_of f).count) is)
first m (inr h) is = h (ap (λ (f : Frame). (mark_of f).lane.0) is)

pub returns-then-mark-eq0-2-clause-taken : goal.returns-then-mark-eq0-2-clause-taken
returns-then-mark-eq0-2-clause-taken c = λ rest spelled. (refl, (c.in-Ok.ensures.taken greeting rest (fits, spelled)).1)

pub returns-else-mark-eq0-clause-taken : goal.returns-else-mark-eq0-clause-taken
returns-else-mark-eq0-clause-taken c = λ rest spelled. first c.in-Greeting.mark c.else-mark-eq0.either (sym c.in-Greeting.is ∙ (c.in-Ok.ensures.taken greeting rest (fits, spelled)).0)

pub returns-in_default : goal.returns-in_default
returns-in_default c = record { found = tt {0}; taken = λ rest spelled. absurd (c.in_default.not-Greeting (record { lane = record { 0 = 0 }; count = 0 }) (c.in-Ok.ensures.taken greeting rest (fits, spelled)).0); owed = tt {0} }

pub returns-in-Err-clause-taken : goal.returns-in-Err-clause-taken
returns-in-Err-clause-taken c = λ rest spelled. failed greeting (tt {0}) rest _ c.in-Err.fail (c.in-Err.ensures.taken greeting rest (fits, spelled))
