-- How the sender's side of a lane may change in a step, whatever row of the table it was.
use Rattle.std.proofs.Common.{◌≡◌, ℕ, ◌≤◌, ◌||◌, Bool, true, false, List, [], ◌∷◌, ◌++◌, length, is_some, Option, Some, None, subst, sym, ap, ◌∙◌, refl, arith, append-nil}
use Rattle.std.proofs.lemmas.Bool.{both_ways}
use Rattle.wdt_claims.specs.LaneWords.{Claims, finished}
use Rattle.wdt_units.specs.declared.blocks.Header.{Header}
use Rattle.wdt_codec.specs.Frames.{Fits}
use Rattle.wdt_codec.specs.declared.frames.Frame.{Frame}
use Rattle.wdt_codec.specs.declared.frames.Frame.TheVariants as frames
use Rattle.wdt_sender_fsm.specs.declared.acts.SendAct.{SendAct}
use Rattle.wdt_sender_fsm.specs.declared.inputs.SendIn.{SendIn}
use Rattle.wdt_sender_fsm.specs.declared.inputs.SendIn.TheVariants as inputs
use Rattle.wdt_sender_fsm.specs.declared.states.SendLane.{SendLane}
use Rattle.wdt_sender_fsm.specs.declared.states.SendState.{SendState}
use Rattle.wdt_sender_fsm.specs.declared.states.SendState.TheVariants as states
use Rattle.wdt_sender_fsm.specs.Phases.{Message, Phase, is_abort, phase_by, phase_heard, phase_written}
use Rattle.wdt_sender_fsm.specs.PlainSender.{is_ended}
use Rattle.wdt_sender_fsm.specs.Rows.{is_mute, is_reading, row_of}
use Rattle.wdt_sender_fsm.specs.SenderHistory.{LanePast}
use Rattle.wdt_pact.specs.Belongs.{SendBelongs, sends_linked, sends_writing}
use Rattle.wdt_pact.specs.Each.{Each}
use Rattle.wdt_pact.specs.Links.{Link}
use Rattle.wdt_pact.specs.Pairs.{Pair, RecvHold, SendHold, SendDoes, SendHas, send_takes, top_by}
use Rattle.wdt_pact.specs.Stances.{Stance, Talks, Aborts, Silent, Agrees, IsLate, is_calm, recv_stance, send_stance, stand}
use Rattle.wdt_pact.specs.Lists.{AskedBy, Splits, Unsent, UnsentBy, in_hand}
use Rattle.wdt_pact.specs.Conversation.{AllTell, Common, Converses, HeardUp, IsNoMarks, IsWord, Notes, NotesBy, Receiving, Tells, is_send_out, send_in_hand, upward_by}
use Rattle.wdt_pact.proofs.Failing.{MayTell}
use Rattle.wdt_pact.proofs.Links.{up_calms}
use Rattle.wdt_pact.proofs.Lists.{lists_weaker}
use Rattle.wdt_pact.proofs.Sending.{noted_same}

-- ---- what was read is stepped

each_behind : (P : Frame → Type 0) (xs ys : List Frame) → Each P (xs ++ ys) → Each P ys
each_behind P [] ys e = e
each_behind P (x ∷ xs) ys e = each_behind P xs ys e.1

tells_behind : (ss : Stance) (P : Frame → Type 0) (xs ys : List Frame) → AllTell ss P (xs ++ ys) → AllTell ss P ys
tells_behind (Talks p) P xs ys e = each_behind P xs ys e
tells_behind Aborts P xs ys e = tt
tells_behind Silent P xs ys e = tt

unsent_on : (newest : Option Link) (st after : SendState) (held new : SendHold) → ((rest : List Header) → Unsent st held rest → Unsent after new rest) → (rest : List Header) → UnsentBy newest st held rest → UnsentBy newest after new rest
unsent_on None st after held new f rest x = f rest x
unsent_on (Some t) st after held new f rest x = x

-- the lane stands where it stood, and has claimed what it had
pub steps_here : (g : Common) (l : ℕ) (lane after : SendLane) (past later : LanePast) (kept : List Header) (r : Receiving) (rh : RecvHold) (taken : Option Link) (between : List Link) (newest : Option Link) (denies refusals : ℕ) (input : SendIn) (act : SendAct)
    → send_stance after later.is_acked (SendDoes act) ≡ send_stance lane past.is_acked (SendHas input) → later.claims ≡ past.claims
    → ((rest : List Header) → Unsent lane.state (SendHas input) rest → Unsent after.state (SendDoes act) rest)
    → ((o : Option Link) → NotesBy lane.state (SendHas input) past o → NotesBy after.state (SendDoes act) later o)
    → Converses g l record { lane = lane; past = past; kept = kept } r record { send = SendHas input; recv = rh; taken = taken; between = between; newest = newest; denies = denies; refusals = refusals }
    → Converses g l record { lane = after; past = later; kept = kept } r record { send = SendDoes act; recv = rh; taken = taken; between = between; newest = newest; denies = denies; refusals = refusals }
steps_here g l lane after past later kept r rh taken between newest denies refusals input act stands claims unsent notes c =
    let rs : Stance = recv_stance r.lane r.past.is_idle r.past.is_acked rh in
    record {
      agrees = subst (λ (x : Stance). Agrees x rs taken between newest) (sym stands) c.agrees;
      lists = lists_weaker rs taken kept r.landed r.begun (in_hand rh) (UnsentBy newest lane.state (SendHas input)) (UnsentBy newest after.state (SendDoes act)) (unsent_on newest lane.state after.state (SendHas input) (SendDoes act) unsent) c.lists;
      sure = subst (λ (x : Claims). x.sure ≤ length r.landed) (sym claims) c.sure;
      upward = subst (λ (x : Stance). AllTell x (Tells g l r.landed) (upward_by newest taken (SendDoes act) rh)) (sym stands) (tells_behind (send_stance lane past.is_acked (SendHas input)) (Tells g l r.landed) (send_in_hand (SendHas input)) _ c.upward);
      fits = each_behind Fits (send_in_hand (SendHas input)) _ c.fits;
      notes = notes (top_by newest taken) c.notes;
      closed = λ e. c.closed (subst (λ (x : Claims). is_some x.closed ≡ true) claims e);
      asked = subst (λ (x : Claims). AskedBy rs taken kept r.landed r.begun (in_hand rh) x.held) (sym claims) c.asked;
      finished = λ e. let x = c.finished e in record { same = x.same; holds = subst (λ (y : Claims). y.held ≡ false) (sym claims) x.holds };
      pieces = c.pieces;
      waits = c.waits;
      idle = λ e. let x = c.idle e in record {
        same = x.same;
        holds = subst (λ (y : Claims). y.held ≡ false) (sym claims) x.holds;
        late = λ y. subst IsLate (sym stands) (x.late y);
        quiet = subst (λ (y : Stance). AllTell y IsNoMarks (upward_by newest taken (SendDoes act) rh)) (sym stands) (tells_behind (send_stance lane past.is_acked (SendHas input)) IsNoMarks (send_in_hand (SendHas input)) _ x.quiet);
      };
      shut = c.shut;
      heard_up = tt;
      heard_down = c.heard_down;
    }

-- ---- all blocks have landed

pub splits_all : (kept landed : List Header) → Splits kept landed [] → length kept ≡ length landed
unfolding Splits
splits_all kept landed m = ap length (m ∙ append-nil landed)

asked_free : (rs : Stance) (k : Option Link) (kept landed : List Header) (begun : Option Header) (hand : List Message) (held : Bool) → AskedBy rs k kept landed begun hand held → AskedBy rs k kept landed begun hand false
asked_free (Talks q) (Some k) kept landed begun hand held x = λ e. ((x e).0, refl)
asked_free Aborts (Some k) kept landed begun hand held x = tt
asked_free Silent (Some k) kept landed begun hand held x = tt
asked_free rs None kept landed begun hand held x = tt

-- the finish is known on each lane: what it has claimed has surely landed
pub ends_here : (g : Common) (l : ℕ) (lane : SendLane) (past later : LanePast) (kept : List Header) (r : Receiving) (p : Pair)
    → g.finish ≡ true → length past.claims.kept ≡ length kept → later.claims ≡ finished past.claims → later.is_acked ≡ past.is_acked → later.is_greeted ≡ past.is_greeted
    → Converses g l record { lane = lane; past = past; kept = kept } r p → Converses g l record { lane = lane; past = later; kept = kept } r p
ends_here g l lane past later kept r p come long claims acked greeted c =
    let final = c.finished come in
    let rs : Stance = recv_stance r.lane r.past.is_idle r.past.is_acked p.recv in
    record {
      agrees = subst (λ (x : Bool). Agrees (send_stance lane x p.send) rs p.taken p.between p.newest) (sym acked) c.agrees;
      lists = c.lists;
      sure = subst (λ (x : Claims). x.sure ≤ length r.landed) (sym claims) (let same = splits_all kept r.landed final.same in omega (arith, long, same));
      upward = subst (λ (x : Bool). AllTell (send_stance lane x p.send) (Tells g l r.landed) (upward_by p.newest p.taken p.send p.recv)) (sym acked) c.upward;
      fits = c.fits;
      notes = notes (top_by p.newest p.taken) c.notes;
      closed = λ e. c.closed (subst (λ (x : Claims). is_some x.closed ≡ true) claims e);
      asked = subst (λ (x : Claims). AskedBy rs p.taken kept r.landed r.begun (in_hand p.recv) x.held) (sym claims) (asked_free rs p.taken kept r.landed r.begun (in_hand p.recv) past.claims.held c.asked);
      finished = λ e. record { same = final.same; holds = ap (λ (x : Claims). x.held) claims };
      pieces = c.pieces;
      waits = c.waits;
      idle = λ e. let x = c.idle e in record {
        same = x.same;
        holds = ap (λ (y : Claims). y.held) claims;
        late = λ y. subst (λ (z : Bool). IsLate (send_stance lane z p.send)) (sym acked) (x.late y);
        quiet = subst (λ (z : Bool). AllTell (send_stance lane z p.send) IsNoMarks (upward_by p.newest p.taken p.send p.recv)) (sym acked) x.quiet;
      };
      shut = c.shut;
      heard_up = c.heard_up;
      heard_down = c.heard_down;
    } where
      notes : (o : Option Link) → NotesBy lane.state p.send past o → NotesBy lane.state p.send later o
      notes None n = tt
      notes (Some k) n = subst (λ (b : Bool). Notes lane.state p.send b k.greeted) (sym greeted) n

-- ---- what is noted on the connection

-- a lane that reads a frame knows on its connection whether it was told its count
pub reading_notes : (st : SendState) (held : SendHold) (past : LanePast) (o : Option Link) → is_reading st ≡ true → NotesBy st held past o → (k : Link) → o ≡ Some k → k.greeted ≡ past.is_greeted
reading_notes states.ReadLocalCheckpoint held past o reads n k e = subst (λ (x : Option Link). NotesBy states.ReadLocalCheckpoint held past x) e n
reading_notes states.ReadFileChunks held past o reads n k e = subst (λ (x : Option Link). NotesBy states.ReadFileChunks held past x) e n
reading_notes states.ReadReceiverCmd held past o reads n k e = subst (λ (x : Option Link). NotesBy states.ReadReceiverCmd held past x) e n
reading_notes st held past o reads n k e = cc

-- so the note stays where the lane isn't told its count
pub noted_still : (input : SendIn) (lane : SendLane) (past : LanePast) (act : SendAct) (rh : RecvHold) (taken : Option Link) (between : List Link) (newest : Option Link) (denies refusals : ℕ) → SendBelongs (SendHas input) lane → NotesBy lane.state (SendHas input) past (top_by newest taken)
    → record { send = SendDoes act; recv = rh; taken = taken; between = between; newest = newest; denies = denies; refusals = refusals } ≡ send_takes record { send = SendHas input; recv = rh; taken = taken; between = between; newest = newest; denies = denies; refusals = refusals } input past.is_greeted act
noted_still (inputs.Got f) lane past act rh taken between newest denies refusals b n = noted_same (SendHas (inputs.Got f)) f past.is_greeted act rh taken between newest denies refusals (reading_notes lane.state (SendHas (inputs.Got f)) past (top_by newest taken) b n)
noted_still input lane past act rh taken between newest denies refusals b n = refl

-- ---- where a lane that hands something in stands

lives_writing : (st : SendState) → sends_writing st ≡ true → is_ended st ≡ false
lives_writing states.Ended e = cc
lives_writing st e = refl

lives_reading : (st : SendState) → is_reading st ≡ true → is_ended st ≡ false
lives_reading states.Ended e = cc
lives_reading st e = refl

lives_linked : (st : SendState) → sends_linked st ≡ true → is_ended st ≡ false
lives_linked states.Ended e = cc
lives_linked st e = refl

-- it hasn't ended
pub has_lives : (input : SendIn) (lane : SendLane) → SendBelongs (SendHas input) lane → is_ended lane.state ≡ false
has_lives inputs.Wrote lane b = lives_writing lane.state b
has_lives (inputs.Got f) lane b = lives_reading lane.state b
has_lives inputs.Linked lane b = ap is_ended b
has_lives inputs.NoLink lane b = ap is_ended b
has_lives inputs.Lost lane b = lives_linked lane.state b
has_lives (inputs.SourceLost u) lane b = ap is_ended b
has_lives input lane b = absurd b

-- where it can say that its end has failed, its stance allows it
wrote_may : (lane : SendLane) (acked : Bool) (st : SendState) → lane.state ≡ st → sends_writing st ≡ true → is_mute (row_of st inputs.Wrote) ≡ false → MayTell (send_stance lane acked (SendHas inputs.Wrote))
wrote_may lane acked states.SendSettings is w m = subst (λ (x : SendState). MayTell (stand false (phase_written lane.ask x))) (sym is) refl
wrote_may lane acked states.SendSize is w m = subst (λ (x : SendState). MayTell (stand false (phase_written lane.ask x))) (sym is) refl
wrote_may lane acked states.SendBlocks is w m = subst (λ (x : SendState). MayTell (stand false (phase_written lane.ask x))) (sym is) refl
wrote_may lane acked states.SendDone is w m = subst (λ (x : SendState). MayTell (stand false (phase_written lane.ask x))) (sym is) refl
wrote_may lane acked states.AnswerDone is w m = subst (λ (x : SendState). MayTell (stand false (phase_written lane.ask x))) (sym is) refl
wrote_may lane acked states.SendAbort is w m = cc
wrote_may lane acked st is w m = cc

calm_row : (st : SendState) (f : Frame) → is_reading st ≡ true → is_mute (row_of st (inputs.Got f)) ≡ false → is_abort f ≡ false
calm_row states.ReadLocalCheckpoint (frames.Abort code) r m = cc
calm_row states.ReadFileChunks (frames.Abort code) r m = cc
calm_row states.ReadReceiverCmd (frames.Abort code) r m = cc
calm_row st (frames.Abort code) r m = cc
calm_row st f r m = refl

reading_in : (st : SendState) → is_reading st ≡ true → is_send_out st ≡ false
reading_in states.ReadLocalCheckpoint e = refl
reading_in states.ReadFileChunks e = refl
reading_in states.ReadReceiverCmd e = refl
reading_in st e = cc

or_both : (a b : Bool) → a ≡ false → b ≡ false → (a || b) ≡ false
or_both a b x y = ap (λ (c : Bool). c || b) x ∙ y

heard_calm : (f : Frame) (o : Option Phase) (q : Phase) → phase_heard f o ≡ Some q → is_calm q ≡ true
heard_calm f None q e = cc
heard_calm f (Some p) q e = up_calms p q f e

word_may : (f : Frame) (o : Option Phase) (free : Bool) → IsWord (phase_heard f o) free → free ≡ false → MayTell (stand false (phase_heard f o))
word_may f o free w e = go (phase_heard f o) refl w where
  go : (x : Option Phase) → phase_heard f o ≡ x → IsWord x free → MayTell (stand false x)
  go None is w = go_none free w e where
    go_none : {P : Type 0} (b : Bool) → IsWord None b → b ≡ false → P
    go_none true w e = cc
    go_none false w e = absurd w
  go (Some q) is w = heard_calm f o q is

linked_mute : (st : SendState) → sends_linked st ≡ true → is_mute (row_of st inputs.Lost) ≡ true
linked_mute states.Connect e = cc
linked_mute states.Ended e = cc
linked_mute st e = refl

pub voice_may : (input : SendIn) (lane : SendLane) (acked : Bool) → SendBelongs (SendHas input) lane → HeardUp (SendHas input) lane → is_mute (row_of lane.state input) ≡ false → MayTell (send_stance lane acked (SendHas input))
voice_may inputs.Wrote lane acked b h m = wrote_may lane acked lane.state refl b m
voice_may (inputs.Got f) lane acked b h m = word_may f (phase_by lane.ask false lane.state) (is_send_out lane.state || is_abort f) h (or_both (is_send_out lane.state) (is_abort f) (reading_in lane.state b) (calm_row lane.state f b m))
voice_may inputs.Linked lane acked b h m = absurd (both_ways (is_mute (row_of lane.state inputs.Linked)) m (ap (λ (x : SendState). is_mute (row_of x inputs.Linked)) b))
voice_may inputs.NoLink lane acked b h m = absurd (both_ways (is_mute (row_of lane.state inputs.NoLink)) m (ap (λ (x : SendState). is_mute (row_of x inputs.NoLink)) b))
voice_may inputs.Lost lane acked b h m = absurd (both_ways (is_mute (row_of lane.state inputs.Lost)) m (linked_mute lane.state b))
voice_may (inputs.SourceLost true) lane acked b h m = tt
voice_may (inputs.SourceLost false) lane acked b h m = absurd (both_ways (is_mute (row_of lane.state (inputs.SourceLost false))) m (ap (λ (x : SendState). is_mute (row_of x (inputs.SourceLost false))) b))
voice_may input lane acked b h m = absurd b
