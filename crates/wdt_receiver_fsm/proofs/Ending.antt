-- How an end's answer follows from its lanes.
use Rattle.std.proofs.Common.{◌≡◌, ℕ, ◌<◌, ◌+◌, ◌&&◌, Bool, true, List, get_or, length, Option, refl, ap, ◌∙◌}
use Rattle.std.proofs.Common.{add-one}
use Rattle.std.proofs.lemmas.Option.{slice_get-get_or}
use Rattle.wdt_sender_fsm.specs.declared.answers.EndAnswer.{EndAnswer}
use Rattle.wdt_sender_fsm.specs.Rules.{every}
use Rattle.wdt_receiver_fsm.specs.declared.states.RecvLane.{RecvLane}
use Rattle.wdt_receiver_fsm.specs.PlainReceiver.{is_ended, lane_or_ended}
use Rattle.wdt_logfmt.specs.View.{NamedFile}
use Rattle.wdt_receiver_fsm.specs.declared.events.RecvEvent.{RecvEvent}
use Rattle.wdt_receiver_fsm.specs.PlainReceiver.{PlainReceiver}
use Rattle.wdt_receiver_fsm.specs.End.{Books, EndView, IsSameEnd, is_out_in, plain_with}

-- the same end, with other lanes and another answer
abbrev pub answered_so : EndView → List RecvLane → EndAnswer → EndView
answered_so e lanes answer = record e { lanes = lanes; answer = answer }

pub every_more : (i : ℕ) (f : ℕ → Bool) → every i f ≡ true → f i ≡ true → every (i + 1) f ≡ true
every_more i f all here = ap (λ n. every n f) (add-one i) ∙ both (every i f) (f i) all here
  where
    both : (a b : Bool) → a ≡ true → b ≡ true → (a && b) ≡ true
    both a b one two = rw (one, two) refl

-- a lane that is there
pub out_at : (lanes : List RecvLane) (i : ℕ) (d : RecvLane) → i < length lanes → is_out_in lanes i ≡ is_ended (get_or lanes i d).state
out_at lanes i d lt = ap (λ (o : Option RecvLane). is_ended (lane_or_ended o).state) (slice_get-get_or lanes i d lt)

-- an end with other room is the same receiver
pub same_plain : (e f : EndView) → IsSameEnd e f → (books : Books) → plain_with f books ≡ plain_with e books
same_plain e f same books =
    let made : List NamedFile → ℕ → List RecvLane → List RecvEvent → EndAnswer → PlainReceiver =
    λ opening batch lanes history answer. record { opening = opening; known = books.known; log = books.log; unlogged = books.unlogged; batch = batch; lanes = lanes; history = history; answer = answer } in
    let one : made f.opening f.batch f.lanes f.history f.answer ≡ made e.opening f.batch f.lanes f.history f.answer = ap (λ (x : List NamedFile). made x f.batch f.lanes f.history f.answer) same.opening in
    let two : made e.opening f.batch f.lanes f.history f.answer ≡ made e.opening e.batch f.lanes f.history f.answer = ap (λ (x : ℕ). made e.opening x f.lanes f.history f.answer) same.batch in
    let three : made e.opening e.batch f.lanes f.history f.answer ≡ made e.opening e.batch e.lanes f.history f.answer = ap (λ (x : List RecvLane). made e.opening e.batch x f.history f.answer) same.lanes in
    let four : made e.opening e.batch e.lanes f.history f.answer ≡ made e.opening e.batch e.lanes e.history f.answer = ap (λ (x : List RecvEvent). made e.opening e.batch e.lanes x f.answer) same.history in
    let five : made e.opening e.batch e.lanes e.history f.answer ≡ made e.opening e.batch e.lanes e.history e.answer = ap (λ (x : EndAnswer). made e.opening e.batch e.lanes e.history x) same.answer in
    one ∙ two ∙ three ∙ four ∙ five
