-- Steps of a lane that sends blocks.
use Rattle.std.proofs.Common.{◌≡◌, inr, [], ◌∷◌, Bool, true, false, Option, Some, None, ap, ◌∙◌, refl, eq-eqb}
use Rattle.wdt_units.specs.declared.blocks.Block.{Block}
use Rattle.wdt_units.specs.declared.numbers.Lane.{Lane}
use Rattle.wdt_sender_fsm.specs.declared.events.SendEvent.TheVariants as events
use Rattle.wdt_sender_fsm.specs.declared.states.SendState.TheVariants as states
use Rattle.wdt_sender_fsm.specs.PlainSender.{PlainSender, past_at, least_queued, noted}
use Rattle.wdt_sender_fsm.specs.Rows.{SizeWritten, BlockWritten, DoneWritten, Answered}
use Rattle.wdt_sender_fsm.specs.Sender.{Sends, Answers}
use Rattle.wdt_sender_fsm.specs.SenderHistory.{LanePast, past_of-more, end_of}
use Rattle.wdt_sender_fsm.specs.Turn.{next_by, next, turn_row}
use Rattle.wdt_sender_fsm.proofs.lemmas.Failing.{Keeps}
use Rattle.wdt_sender_fsm.proofs.lemmas.Notes.{stays_more, works_more, behind}
use Rattle.wdt_sender_fsm.proofs.lemmas.Works.{Works, put, in_state}

abbrev pub SendsAt : PlainSender → Lane → Bool → Type 0
SendsAt s l is_held = Sends (past_at s l.0) (end_of s.history) is_held

takes_by : (s : PlainSender) (l : Lane) (o : Option Block) → least_queued s ≡ o → Works s l → SendsAt s l false → Keeps (next_by s l o)
takes_by s l None is w sends = put s l (in_state s l states.SendDone) w.stays sends
takes_by s l (Some b) is w sends =
    put (noted s (events.Claim l b ∷ [])) l (in_state s l states.SendBlocks)
    (stays_more s l (events.Claim l b) w refl refl sends.goes_on.link (sends.known, is, sends.held))
    (behind (λ p end. Sends p end true) s.history (events.Claim l b) l.0 record {
      goes_on = record { quit = w.quit; acked = w.acked; link = sends.goes_on.link };
      greeted = sends.greeted;
      held = rw (eq-eqb l.0 l.0 refl) refl;
      known = sends.known;
    })

-- the lane takes the least block that waits, or says that nothing more is to come
pub takes : (s : PlainSender) (l : Lane) → Works s l → SendsAt s l false → Keeps (next s l)
takes s l w sends = takes_by s l (least_queued s) refl w sends

pub takes_first : (s : PlainSender) (l : Lane) → Works s l → SendsAt s l false → Keeps (turn_row s l SizeWritten)
takes_first s l w sends = takes s l w sends

pub takes_next : (s : PlainSender) (l : Lane) → Works s l → SendsAt s l true → Keeps (turn_row s l BlockWritten)
takes_next s l w sends =
    takes (noted s (events.Sent l ∷ [])) l (works_more s l (events.Sent l) w refl refl tt refl sends.goes_on.link sends.held)
    (behind (λ p end. Sends p end false) s.history (events.Sent l) l.0 record {
      goes_on = record { quit = w.quit; acked = w.acked; link = sends.goes_on.link };
      greeted = sends.greeted;
      held = rw (eq-eqb l.0 l.0 refl) refl;
      known = sends.known;
    })

pub listens : (s : PlainSender) (l : Lane) → Works s l → SendsAt s l false → Keeps (turn_row s l DoneWritten)
listens s l w sends =
    put (noted s (events.Done l ∷ [])) l (in_state s l states.ReadReceiverCmd) (stays_more s l (events.Done l) w refl refl sends.goes_on.link sends.held)
    (behind (λ p end. Sends p end false) s.history (events.Done l) l.0 record {
      goes_on = record { quit = w.quit; acked = w.acked; link = sends.goes_on.link };
      greeted = sends.greeted;
      held = sends.held;
      known = sends.known;
    })

-- the last word is answered
pub acknowledges : (s : PlainSender) (l : Lane) → Works s l → Answers (past_at s l.0) (end_of s.history) → Keeps (turn_row s l Answered)
acknowledges s l w says =
    put (noted s (events.Acked l ∷ [])) l (in_state s l states.Ended) (stays_more s l (events.Acked l) w refl refl says.goes_on.link (says.end_finish, says.finish))
    (inr (inr (ap (λ (p : LanePast). p.is_acked) (past_of-more s.history (events.Acked l) l.0) ∙ rw (eq-eqb l.0 l.0 refl) refl)))
