-- An end that refuses the tree has a reason, and keeps it; and none fails by a disk.
use Rattle.std.proofs.Common.{◌≡◌, ℕ, Bool, true, false, List, replicate, is_some, Option, Some, None, IfSome, Result, Ok, Err, IfOk, OnErr, refl, sym, ap, ◌∙◌, subst}
use Rattle.std.proofs.lemmas.Bool.{both_ways}
use Rattle.wdt_units.specs.Have.{HaveFile}
use Rattle.wdt_units.specs.declared.numbers.Lane.{Lane}
use Rattle.wdt_codec.specs.declared.frames.Frame.TheVariants as frames
use Rattle.wdt_tree.specs.declared.entry.Entry.{Entry}
use Rattle.wdt_sender_fsm.specs.declared.acts.SendAct.{SendAct}
use Rattle.wdt_sender_fsm.specs.declared.answers.EndAnswer.{EndAnswer}
use Rattle.wdt_sender_fsm.specs.declared.answers.EndAnswer.TheVariants as answers
use Rattle.wdt_sender_fsm.specs.declared.answers.RefusedKind.{RefusedKind}
use Rattle.wdt_sender_fsm.specs.declared.events.SendEvent.{SendEvent}
use Rattle.wdt_sender_fsm.specs.declared.inputs.SendIn.{SendIn}
use Rattle.wdt_sender_fsm.specs.declared.inputs.SendIn.TheVariants as inputs
use Rattle.wdt_sender_fsm.specs.Causes.{Follows, IsCause, Refuses}
use Rattle.wdt_sender_fsm.specs.Chunks.{refusal}
use Rattle.wdt_sender_fsm.specs.PlainSender.{PlainSender, new_lane, opened}
use Rattle.wdt_sender_fsm.specs.Rules.{is_failure}
use Rattle.wdt_sender_fsm.specs.Sender.{FitsIn, IsAccepted, IsSender}
use Rattle.wdt_sender_fsm.specs.SenderHistory.{end_of}
use Rattle.wdt_sender_fsm.specs.Touches.{Plans, AsBefore, Anew, Touches}
use Rattle.wdt_sender_fsm.specs.Turn.{Step, send_turn}
use Rattle.wdt_sender_fsm.specs.Writes.{IsLawful}
use Rattle.wdt_yard.specs.Inside.{IsYard}
use Rattle.wdt_yard.specs.Refused.{HasNoDisk, HasReason, WasRefused}

-- an end that begins refuses nothing
pub begins_so : (manifest : List Entry) (block session n : ℕ) → HasReason (opened manifest block session (replicate n new_lane))
begins_so manifest block session n kind e = absurd (both_ways (is_failure answers.Going) refl (ap is_failure e))

-- nor has it failed
pub begins_diskless : (manifest : List Entry) (block session n : ℕ) → HasNoDisk (opened manifest block session (replicate n new_lane))
begins_diskless manifest block session n e = both_ways (is_failure answers.Going) refl (ap is_failure e)

-- ---- what is known of the destination

none_is : {A : Type 0} (o : Option A) → is_some o ≡ false → o ≡ None
none_is None e = refl
none_is (Some x) e = absurd (both_ways true e refl)

-- a failed end plans nothing more
still_unplanned : (s t : PlainSender) → IsSender s → IsSender t → t.history ≡ s.history → s.have ≡ None → t.have ≡ None
still_unplanned s t was is same none =
    none_is t.have (is.plan.listed ∙ ap (λ (h : List SendEvent). (end_of h).is_listed) same ∙ sym was.plan.listed ∙ ap (λ (o : Option (List HaveFile)). is_some o) none)

one_list : (put : SendIn) (a b : List HaveFile) → put ≡ inputs.Got (frames.Chunks a) → put ≡ inputs.Got (frames.Chunks b) → a ≡ b
one_list put a b e f = cc

not_both : {A : Type 0} (o : Option A) (x : A) → o ≡ None → o ≡ Some x → ⊥
not_both o x e f = cc

-- nor is planned by what the tree is refused for
unplanned_by : (s t : PlainSender) (put : SendIn) (have : List HaveFile) (kind : RefusedKind) → Plans s put t → IsSender t → s.have ≡ None → put ≡ inputs.Got (frames.Chunks have) → refusal t.manifest have t.block ≡ Some kind → t.have ≡ None
unplanned_by s t put have kind (AsBefore same planned) is none read refused = same ∙ none
unplanned_by s t put have kind (Anew other got first now planned) is none read refused =
    let P : Option (List HaveFile) → Type 0 = λ o. IfSome o (IsAccepted t.manifest t.block) in
    let sent : refusal t.manifest other t.block ≡ None = (subst P now is.plan.accepted).sent in
    absurd (not_both (refusal t.manifest other t.block) kind sent (ap (λ (list : List HaveFile). refusal t.manifest list t.block) (one_list put other have got read) ∙ refused))

-- ---- a step

-- the tree and the greatest length of a block stay
same_refusal : (s t : PlainSender) (l : Lane) (put : SendIn) (have : List HaveFile) → Touches s l put t → refusal t.manifest have t.block ≡ refusal s.manifest have s.block
same_refusal s t l put have touches = ap (λ (entries : List Entry). refusal entries have t.block) touches.manifest ∙ ap (λ (most : ℕ). refusal s.manifest have most) touches.block

-- a step leaves an end its reason, or gives it one
pub reason_behind : (s t : PlainSender) (l : Lane) (put : SendIn) → IsSender s → IsSender t → FitsIn put → Touches s l put t → Follows s l put t → HasReason s → HasReason t
reason_behind s t l put was is fit touches follows had kind e = go (is_failure s.answer) refl where
  go : (failed : Bool) → is_failure s.answer ≡ failed → WasRefused t kind
  go true f =
      let old : WasRefused s kind = had kind (sym (follows.stays f) ∙ e) in
      record {
        have = old.have;
        fits = old.fits;
        ordered = old.ordered;
        refused = same_refusal s t l put old.have touches ∙ old.refused;
        unplanned = still_unplanned s t was is (follows.still f) old.unplanned;
      }
  go false f =
      let cause : Refuses s l.0 put kind = subst (λ (a : EndAnswer). IsCause s l put t.history a) e (follows.caused f) in
      let refused : refusal t.manifest cause.have t.block ≡ Some kind = same_refusal s t l put cause.have touches ∙ cause.refused in
      record {
        have = cause.have;
        fits = subst FitsIn cause.read fit;
        ordered = cause.ordered;
        refused = refused;
        unplanned = unplanned_by s t put cause.have kind touches.plan is cause.first cause.read refused;
      }

-- and no disk fails it
pub diskless_behind : (s t : PlainSender) (l : Lane) (put : SendIn) → Follows s l put t → HasNoDisk s → HasNoDisk t
diskless_behind s t l put follows had e = go (is_failure s.answer) refl where
  go : (failed : Bool) → is_failure s.answer ≡ failed → ⊥
  go true f = had (sym (follows.stays f) ∙ e)
  go false f = subst (λ (a : EndAnswer). IsCause s l put t.history a) e (follows.caused f)

-- ---- the yard

-- a step, and a step that wanted memory, leave all that a yard keeps true
pub yard_behind : {E : Type 0} (result : Result SendAct E) (s t : PlainSender) (l : Lane) (put : SendIn) → IfOk result (λ act. send_turn s l put ≡ (act, t)) → OnErr result (t ≡ s)
    → IsSender (send_turn s l put).1 → IsLawful (send_turn s l put).1 → Touches s l put (send_turn s l put).1 → Follows s l put (send_turn s l put).1 → FitsIn put → IsYard s → IsYard t
yard_behind (Ok act) s t l put ok err is lawful touches follows fit had =
    let behind : (send_turn s l put).1 ≡ t = ap (λ (step : Step). step.1) ok in
    subst IsYard behind record {
      sender = is;
      lawful = lawful;
      reason = reason_behind s (send_turn s l put).1 l put had.sender is fit touches follows had.reason;
      diskless = diskless_behind s (send_turn s l put).1 l put follows had.diskless;
    }
yard_behind (Err e) s t l put ok err is lawful touches follows fit had = subst IsYard (sym err) had
