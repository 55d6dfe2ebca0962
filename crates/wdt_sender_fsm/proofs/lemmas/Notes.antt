-- An entry that a lane adds in its step.
use Rattle.std.proofs.Common.{◌≡◌, ◌≢◌, ℕ, List, [], ◌∷◌, ◌++◌, length, Bool, true, false, ◌||◌, Option, None, subst, sym, ap, ◌∙◌, refl, eq-eqb}
use Rattle.std.proofs.lemmas.Bool.{ne_eqb}
use Rattle.wdt_units.specs.declared.blocks.Block.{Block}
use Rattle.wdt_units.specs.declared.numbers.Lane.{Lane}
use Rattle.wdt_sender_fsm.specs.declared.answers.EndAnswer.{EndAnswer}
use Rattle.wdt_sender_fsm.specs.declared.events.SendEvent.{SendEvent}
use Rattle.wdt_sender_fsm.specs.declared.events.SendEvent.TheVariants as events
use Rattle.wdt_sender_fsm.specs.Legal.{Fits, MaySpeak, needs_link, IsAllowed, IsLegal, IsLegal-more}
use Rattle.wdt_sender_fsm.specs.PlainSender.{PlainSender, lane_at, state_at, past_at, blocks_of, noted}
use Rattle.wdt_sender_fsm.specs.Rules.{is_failure}
use Rattle.wdt_sender_fsm.specs.Sender.{Fares, FaresAt, failure_in, failure_in-more, failure_after, is_over}
use Rattle.wdt_sender_fsm.specs.SenderHistory.{LanePast, EndPast, past_of, past_of-more, past_after, end_of, end_of-more, end_after, lane_of}
use Rattle.wdt_sender_fsm.proofs.lemmas.Pasts.{is_finish, other_past, other_quit, other_acked, later, fares_on}
use Rattle.wdt_sender_fsm.proofs.lemmas.Works.{Others, OthersEnded, Stays, Works, not_failed}

-- ---- which entries

-- neither a plan, nor the finish, nor a failure
abbrev pub is_calm : SendEvent → Bool
is_calm (events.Chunks k) = false
is_calm (events.Finish k) = false
is_calm (events.Abort k code) = false
is_calm (events.Peer k kind) = false
is_calm _ = true

-- the lane goes on behind it
abbrev pub goes_on_behind : SendEvent → Bool
goes_on_behind (events.Acked k) = false
goes_on_behind (events.Quit k) = false
goes_on_behind _ = true

-- it doesn't close the lane that reads it
abbrev pub Aside : SendEvent → Type 0
Aside (events.Global k c n) = k.0 ≢ c.0
Aside _ = Unit {0}

calm_finish : (e : SendEvent) → is_calm e ≡ true → is_finish e ≡ false
calm_finish (events.Finish k) calm = cc
calm_finish e calm = refl

calm_listed : (e : SendEvent) (s : EndPast) → is_calm e ≡ true → (end_after s e).is_listed ≡ s.is_listed
calm_listed (events.Chunks k) s calm = cc
calm_listed e s calm = refl

calm_fault : (e : SendEvent) (s : EndPast) → is_calm e ≡ true → (end_after s e).has_fault ≡ s.has_fault
calm_fault (events.Abort k code) s calm = cc
calm_fault (events.Peer k kind) s calm = cc
calm_fault e s calm = refl

calm_failure : (e : SendEvent) (s : Option EndAnswer) → is_calm e ≡ true → failure_after s e ≡ s
calm_failure (events.Abort k code) s calm = cc
calm_failure (events.Peer k kind) s calm = cc
calm_failure e s calm = refl

-- ---- the entry is allowed

pub speaks : (s : PlainSender) (l : Lane) (up : Bool) → Works s l → (past_at s l.0).is_up ≡ up → MaySpeak (length s.lanes) s.history l.0 up
speaks s l up w is = record { within = w.stays.within; is_open = w.is_open; quit = w.quit; acked = w.acked; fault = w.stays.faultless w.sound; link = is }

pub allowed : (s : PlainSender) (l : Lane) (planned : List Block) (e : SendEvent) → Works s l → lane_of e ≡ l.0 → (past_at s l.0).is_up ≡ needs_link e → Fits (length s.lanes) planned s.history e → IsAllowed (length s.lanes) planned s.history e
allowed s l planned e w of up fits = (subst (λ (k : ℕ). MaySpeak (length s.lanes) s.history k (needs_link e)) (sym of) (speaks s l (needs_link e) w up), fits)

pub legal_more : (s : PlainSender) (l : Lane) (e : SendEvent) → Works s l → lane_of e ≡ l.0 → (past_at s l.0).is_up ≡ needs_link e → Fits (length s.lanes) (blocks_of s) s.history e → IsLegal (length s.lanes) (blocks_of s) (s.history ++ e ∷ [])
legal_more s l e w of up fits = IsLegal-more (length s.lanes) (blocks_of s) s.history e w.stays.legal (allowed s l (blocks_of s) e w of up fits)

-- ---- what it leaves of the others

pub others_more : (s : PlainSender) (l : ℕ) (e : SendEvent) → lane_of e ≡ l → is_finish e ≡ false → Others s l → Others (noted s (e ∷ [])) l
others_more s l e of finish others j within ne is_open =
    let same : past_after j (past_of s.history j) e ≡ past_of s.history j =
    other_past e j (past_of s.history j) (λ x. ne (sym x ∙ of)) finish (subst (λ (p : LanePast). p.claims.closed ≡ None) (past_of-more s.history e j) is_open) in
    let past : past_of (s.history ++ e ∷ []) j ≡ past_of s.history j = past_of-more s.history e j ∙ same in
    let before : FaresAt s j = others j within ne (subst (λ (p : LanePast). p.claims.closed ≡ None) past is_open) in
    subst (λ (p : LanePast). Fares (is_failure s.answer) (state_at s j) (lane_at s j).ask p (end_of (s.history ++ e ∷ []))) (sym past)
    (subst (λ (x : EndPast). Fares (is_failure s.answer) (state_at s j) (lane_at s j).ask (past_of s.history j) x) (sym (end_of-more s.history e))
    (fares_on (is_failure s.answer) (state_at s j) (lane_at s j).ask (past_of s.history j) (end_of s.history) (end_after (end_of s.history) e) (later (end_of s.history) e) before))

pub ended_more : (s : PlainSender) (l : ℕ) (e : SendEvent) → lane_of e ≡ l → OthersEnded s l → OthersEnded (noted s (e ∷ [])) l
ended_more s l e of ended j within ne over =
    let other : lane_of e ≢ j = λ x. ne (sym x ∙ of) in
    let same : is_over (past_of (s.history ++ e ∷ []) j) ≡ is_over (past_of s.history j) =
    ap is_over (past_of-more s.history e j) ∙ ap (λ (q : Bool). q || (past_after j (past_of s.history j) e).is_acked) (other_quit e j (past_of s.history j) other) ∙ ap (λ (a : Bool). (past_of s.history j).has_quit || a) (other_acked e j (past_of s.history j) other) in
    ended j within ne (sym same ∙ over)

pub stays_more : (s : PlainSender) (l : Lane) (e : SendEvent) → Works s l → is_calm e ≡ true → lane_of e ≡ l.0 → (past_at s l.0).is_up ≡ needs_link e → Fits (length s.lanes) (blocks_of s) s.history e → Stays (noted s (e ∷ [])) l
stays_more s l e w calm of up fits =
    record {
      within = w.stays.within;
      legal = legal_more s l e w of up fits;
      plan = record {
        listed = w.stays.plan.listed ∙ sym (ap (λ (x : EndPast). x.is_listed) (end_of-more s.history e) ∙ calm_listed e (end_of s.history) calm);
        planned = w.stays.plan.planned;
        accepted = w.stays.plan.accepted;
      };
      noted = w.stays.noted ∙ sym (failure_in-more s.history e ∙ calm_failure e (failure_in s.history) calm);
      code = w.stays.code;
      unfinished = λ f. not_failed s l w f;
      faultless = λ x. ap (λ (x : EndPast). x.has_fault) (end_of-more s.history e) ∙ calm_fault e (end_of s.history) calm ∙ w.stays.faultless x;
      others = others_more s l.0 e of (calm_finish e calm) w.stays.others;
      ended = ended_more s l.0 e of w.stays.ended;
    }

-- ---- what it leaves of the lane

pub own_quit : (e : SendEvent) (k : ℕ) (p : LanePast) → goes_on_behind e ≡ true → (past_after k p e).has_quit ≡ p.has_quit
own_quit (events.Quit l) k p on = cc
own_quit e k p on = refl

pub own_acked : (e : SendEvent) (k : ℕ) (p : LanePast) → goes_on_behind e ≡ true → (past_after k p e).is_acked ≡ p.is_acked
own_acked (events.Acked l) k p on = cc
own_acked e k p on = refl

pub own_open : (e : SendEvent) (p : LanePast) → Aside e → p.claims.closed ≡ None → (past_after (lane_of e) p e).claims.closed ≡ None
own_open (events.Greet k n) p aside is = rw (eq-eqb k.0 k.0 refl) is
own_open (events.Claim k b) p aside is = rw (eq-eqb k.0 k.0 refl) is
own_open (events.Sent k) p aside is = rw (eq-eqb k.0 k.0 refl) is
own_open (events.Global k c n) p aside is = rw (ne_eqb c.0 k.0 (λ e. aside (sym e))) is
own_open e p aside is = is

-- what holds of a lane's past and the end's, each with the entry, holds behind it
pub behind : (P : LanePast → EndPast → Type 0) (h : List SendEvent) (e : SendEvent) (l : ℕ) → P (past_after l (past_of h l) e) (end_after (end_of h) e) → P (past_of (h ++ e ∷ []) l) (end_of (h ++ e ∷ []))
behind P h e l is =
    subst (λ (p : LanePast). P p (end_of (h ++ e ∷ []))) (sym (past_of-more h e l))
    (subst (λ (x : EndPast). P (past_after l (past_of h l) e) x) (sym (end_of-more h e)) is)

abbrev IsOpen : LanePast → EndPast → Type 0
IsOpen p x = p.claims.closed ≡ None

pub works_more : (s : PlainSender) (l : Lane) (e : SendEvent) → Works s l → is_calm e ≡ true → goes_on_behind e ≡ true → Aside e → lane_of e ≡ l.0 → (past_at s l.0).is_up ≡ needs_link e → Fits (length s.lanes) (blocks_of s) s.history e → Works (noted s (e ∷ [])) l
works_more s l e w calm on aside of up fits =
    record {
      stays = stays_more s l e w calm of up fits;
      sound = w.sound;
      is_open = behind IsOpen s.history e l.0 (subst (λ (k : ℕ). (past_after k (past_of s.history l.0) e).claims.closed ≡ None) of (own_open e (past_of s.history l.0) aside w.is_open));
      quit = ap (λ (p : LanePast). p.has_quit) (past_of-more s.history e l.0) ∙ own_quit e l.0 (past_of s.history l.0) on ∙ w.quit;
      acked = ap (λ (p : LanePast). p.is_acked) (past_of-more s.history e l.0) ∙ own_acked e l.0 (past_of s.history l.0) on ∙ w.acked;
    }
