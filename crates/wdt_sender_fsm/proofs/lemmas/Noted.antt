-- An end's failure that the receiver caused stands in its history, and no other entry of that kind does.
use Rattle.std.proofs.Common.{◌≡◌, ◌⊎◌, inl, inr, ℕ, List, [], ◌∷◌, ◌++◌, length, Option, Some, None, subst, sym, ap, ◌∙◌, refl, is_some, ◌<◌, arith}
use Rattle.std.specs.List.{Contains}
use Rattle.std.proofs.lemmas.Bool.{both_ways}
use Rattle.std.proofs.lemmas.List.Elements.{Contains-push, Contains-push_cases, Contains-append_left}
use Rattle.std.proofs.lemmas.Option.{same_Some}
use Rattle.wdt_units.specs.declared.blocks.Block.{Block}
use Rattle.wdt_units.specs.declared.numbers.Lane.{Lane}
use Rattle.wdt_sender_fsm.specs.declared.answers.EndAnswer.{EndAnswer}
use Rattle.wdt_sender_fsm.specs.declared.answers.EndAnswer.TheVariants as answers
use Rattle.wdt_sender_fsm.specs.declared.events.SendEvent.{SendEvent}
use Rattle.wdt_sender_fsm.specs.declared.events.SendEvent.TheVariants as events
use Rattle.wdt_sender_fsm.specs.declared.peers.PeerKind.{PeerKind}
use Rattle.wdt_sender_fsm.specs.Legal.{IsAllowed}
use Rattle.wdt_sender_fsm.specs.PlainSender.{PlainSender, blocks_of}
use Rattle.wdt_sender_fsm.specs.Sender.{IsSender, noted_failure, failure_after, failure_in, failure_in-more, failure_in-none}
use Rattle.wdt_sender_fsm.specs.SenderHistory.{EndPast, end_of, end_of-more, end_of-none, end_after}
use Rattle.wdt_sender_fsm.proofs.lemmas.Histories.{of_legal}

-- ---- one entry

-- the answer that an entry leads to, if any
abbrev answer_by : SendEvent → Option EndAnswer
answer_by e = failure_after None e

-- an entry leads to an answer, or leaves it
leads : (e : SendEvent) (s : Option EndAnswer) (a : EndAnswer) → answer_by e ≡ Some a → failure_after s e ≡ Some a
leads (events.Abort l code) s a is = is
leads (events.Peer l kind) s a is = is
leads e s a is = cc

led : (e : SendEvent) (s : Option EndAnswer) (a : EndAnswer) → failure_after s e ≡ Some a → (answer_by e ≡ Some a) ⊎ (s ≡ Some a)
led (events.Abort l code) s a is = inl is
led (events.Peer l kind) s a is = inl is
led e s a is = inr is

faulted : (e : SendEvent) (s : Option EndAnswer) (x : EndPast) → is_some s ≡ x.has_fault → is_some (failure_after s e) ≡ (end_after x e).has_fault
faulted (events.Abort l code) s x is = refl
faulted (events.Peer l kind) s x is = refl
faulted e s x is = is

-- ---- a legal history

-- an answer that entries led to has its entry, and each such entry leads to the answer
record IsNoted (h : List SendEvent) : Type 0 where
  pub fault : is_some (failure_in h) ≡ (end_of h).has_fault
  pub found : (a : EndAnswer) → failure_in h ≡ Some a → (e : SendEvent) × Contains h e × (answer_by e ≡ Some a)
  pub only : (e : SendEvent) (a : EndAnswer) → Contains h e → answer_by e ≡ Some a → failure_in h ≡ Some a

noted_none : IsNoted []
noted_none = record {
  fault = ap is_some failure_in-none ∙ sym (ap (λ (x : EndPast). x.has_fault) end_of-none);
  found = λ a is. absurd (apart a (sym failure_in-none ∙ is));
  only = λ e a c is. absurd (nowhere e c);
} where
  apart : (a : EndAnswer) → None ≡ Some a → ⊥
  apart a x = cc

  nowhere : (e : SendEvent) → Contains [] e → ⊥
  nowhere e c = let below : c.0 < 0 = c.1 in omega (arith, below)

found_more : (h : List SendEvent) (d : SendEvent) (a : EndAnswer) → IsNoted h → failure_in (h ++ d ∷ []) ≡ Some a → (e : SendEvent) × Contains (h ++ d ∷ []) e × (answer_by e ≡ Some a)
found_more h d a is x = go (led d (failure_in h) a (sym (failure_in-more h d) ∙ x)) where
  go : (answer_by d ≡ Some a) ⊎ (failure_in h ≡ Some a) → (e : SendEvent) × Contains (h ++ d ∷ []) e × (answer_by e ≡ Some a)
  go (inl y) = (d, Contains-push h d, y)
  go (inr y) = let f = is.found a y in (f.0, Contains-append_left h (d ∷ []) f.0 f.1, f.2)

only_more : (n : ℕ) (planned : List Block) (h : List SendEvent) (d e : SendEvent) (a : EndAnswer) → IsNoted h → IsAllowed n planned h d → Contains (h ++ d ∷ []) e → answer_by e ≡ Some a → failure_in (h ++ d ∷ []) ≡ Some a
only_more n planned h d e a is allowed c x = go (Contains-push_cases h d e c) where
  go : Contains h e ⊎ (d ≡ e) → failure_in (h ++ d ∷ []) ≡ Some a
  go (inl y) = absurd (both_ways (end_of h).has_fault allowed.0.fault (sym is.fault ∙ ap is_some (is.only e a y x)))
  go (inr y) = failure_in-more h d ∙ leads d (failure_in h) a (ap answer_by y ∙ x)

noted_more : (n : ℕ) (planned : List Block) (h : List SendEvent) (d : SendEvent) → IsNoted h → IsAllowed n planned h d → IsNoted (h ++ d ∷ [])
noted_more n planned h d is allowed = record {
  fault = ap is_some (failure_in-more h d) ∙ faulted d (failure_in h) (end_of h) is.fault ∙ sym (ap (λ (x : EndPast). x.has_fault) (end_of-more h d));
  found = λ a x. found_more h d a is x;
  only = λ e a c x. only_more n planned h d e a is allowed c x;
}

is_noted : (s : PlainSender) → IsSender s → IsNoted s.history
is_noted s is = of_legal (length s.lanes) (blocks_of s) IsNoted noted_none (noted_more (length s.lanes) (blocks_of s)) s.history is.legal

-- ---- an end's answer

noted_as : (a b : EndAnswer) → noted_failure a ≡ Some b → a ≡ b
noted_as (answers.Aborted code) b is = same_Some (answers.Aborted code) b is
noted_as (answers.Peer kind) b is = same_Some (answers.Peer kind) b is
noted_as a b is = cc

peer_entry : (e : SendEvent) (kind : PeerKind) → answer_by e ≡ Some (answers.Peer kind) → (l : Lane) × (e ≡ events.Peer l kind)
peer_entry (events.Peer l k) kind is = (l, cc)
peer_entry (events.Abort l code) kind is = cc
peer_entry e kind is = cc

abort_entry : (e : SendEvent) (code : ℕ) → answer_by e ≡ Some (answers.Aborted code) → (l : Lane) × (e ≡ events.Abort l code)
abort_entry (events.Abort l k) code is = (l, cc)
abort_entry (events.Peer l kind) code is = cc
abort_entry e code is = cc

pub peer_noted : (s : PlainSender) (kind : PeerKind) → IsSender s → s.answer ≡ answers.Peer kind → (l : Lane) × Contains s.history (events.Peer l kind)
peer_noted s kind is e =
    let f = (is_noted s is).found (answers.Peer kind) (sym is.answer.noted ∙ ap noted_failure e) in
    let there = peer_entry f.0 kind f.2 in
    (there.0, subst (λ (x : SendEvent). Contains s.history x) there.1 f.1)

pub noted_peer : (s : PlainSender) (kind : PeerKind) → IsSender s → (l : Lane) × Contains s.history (events.Peer l kind) → s.answer ≡ answers.Peer kind
noted_peer s kind is c = noted_as s.answer (answers.Peer kind) (is.answer.noted ∙ (is_noted s is).only (events.Peer c.0 kind) (answers.Peer kind) c.1 refl)

pub abort_noted : (s : PlainSender) (code : ℕ) → IsSender s → s.answer ≡ answers.Aborted code → (l : Lane) × Contains s.history (events.Abort l code)
abort_noted s code is e =
    let f = (is_noted s is).found (answers.Aborted code) (sym is.answer.noted ∙ ap noted_failure e) in
    let there = abort_entry f.0 code f.2 in
    (there.0, subst (λ (x : SendEvent). Contains s.history x) there.1 f.1)

pub noted_abort : (s : PlainSender) (code : ℕ) → IsSender s → (l : Lane) × Contains s.history (events.Abort l code) → s.answer ≡ answers.Aborted code
noted_abort s code is c = noted_as s.answer (answers.Aborted code) (is.answer.noted ∙ (is_noted s is).only (events.Abort c.0 code) (answers.Aborted code) c.1 refl)
