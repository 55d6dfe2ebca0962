-- What a status tells of the answers that it comes of.
use Rattle.std.proofs.Common.{◌≡◌, ◌⊎◌, inl, inr, ◌≤◌, nat_lt, Bool, true, false, if◌then◌else◌, refl, sym, ap, ◌∙◌, subst, arith}
use Rattle.std.proofs.lemmas.Bool.{ltb-false, ltb-true}
use Rattle.wdt_sender_fsm.specs.declared.answers.EndAnswer.{EndAnswer}
use Rattle.wdt_sender_fsm.specs.declared.answers.EndAnswer.TheVariants as answers
use Rattle.wdt_sender_fsm.specs.declared.answers.RefusedKind.{RefusedKind}
use Rattle.wdt_sender_fsm.specs.declared.peers.PeerKind.{PeerKind}
use Rattle.wdt_sender_fsm.specs.declared.peers.PeerKind.TheVariants as peers
use Rattle.wdt_tool.specs.declared.status.Status.{Status}
use Rattle.wdt_tool.specs.declared.status.Status.TheVariants.{Done, Usage, SourceFault, DiskFault, LinkFault, Peer, Aborted, Refused, OutFault, NoMemory}
use Rattle.wdt_sending.specs.Judging.{first_of, if_met, met_fault, rank, status_of}

-- ---- one end

-- the answer that a status comes of, and what a lane met
abbrev pub IsAnswerOf : Bool → Bool → Bool → EndAnswer → Status → Type 0
IsAnswerOf lost cut alarmed answer Done = answer ≡ answers.Done
IsAnswerOf lost cut alarmed answer SourceFault = (answer ≡ answers.Source) × (lost ≡ true)
IsAnswerOf lost cut alarmed answer DiskFault = answer ≡ answers.Disk
IsAnswerOf lost cut alarmed answer LinkFault = (answer ≡ answers.Link) × (cut ≡ true)
IsAnswerOf lost cut alarmed answer (Peer (peers.BadFrame at)) = (answer ≡ answers.Peer (peers.BadFrame at)) × (alarmed ≡ true)
IsAnswerOf lost cut alarmed answer (Peer kind) = answer ≡ answers.Peer kind
IsAnswerOf lost cut alarmed answer (Aborted code) = (answer ≡ answers.Aborted code) × (alarmed ≡ true)
IsAnswerOf lost cut alarmed answer (Refused kind) = answer ≡ answers.Refused kind
IsAnswerOf lost cut alarmed answer NoMemory = Unit {0}
IsAnswerOf lost cut alarmed answer Usage = ⊥
IsAnswerOf lost cut alarmed answer OutFault = ⊥

peer_of : (lost cut alarmed : Bool) (kind : PeerKind) → IsAnswerOf lost cut alarmed (answers.Peer kind) (met_fault alarmed kind)
peer_of lost cut true (peers.BadFrame at) = (refl, refl)
peer_of lost cut false (peers.BadFrame at) = tt
peer_of lost cut alarmed (peers.Unexpected state command) = refl
peer_of lost cut alarmed (peers.BadSettings field) = refl
peer_of lost cut alarmed (peers.BadCheckpoint n low high) = refl
peer_of lost cut alarmed (peers.Differs n before) = refl
peer_of lost cut alarmed (peers.BadChunks at) = refl
peer_of lost cut alarmed (peers.ChunksDiffer at) = refl
peer_of lost cut alarmed (peers.SizesDiffer files bytes told_files told_bytes) = refl
peer_of lost cut alarmed (peers.Overlap offset) = refl
peer_of lost cut alarmed (peers.SizeDiffers size stamp told_size told_stamp) = refl
peer_of lost cut alarmed (peers.OverLimit count) = refl
peer_of lost cut alarmed (peers.EarlyDone count) = refl
peer_of lost cut alarmed (peers.Short files bytes told_files told_bytes) = refl

pub answer_of : (lost cut alarmed : Bool) (answer : EndAnswer) → IsAnswerOf lost cut alarmed answer (status_of lost cut alarmed answer)
answer_of lost cut alarmed answers.Going = tt
answer_of lost cut alarmed answers.Done = refl
answer_of true cut alarmed answers.Source = (refl, refl)
answer_of false cut alarmed answers.Source = tt
answer_of lost cut alarmed answers.Disk = refl
answer_of lost true alarmed answers.Link = (refl, refl)
answer_of lost false alarmed answers.Link = tt
answer_of lost cut alarmed (answers.Peer kind) = peer_of lost cut alarmed kind
answer_of lost cut true (answers.Aborted code) = (refl, refl)
answer_of lost cut false (answers.Aborted code) = tt
answer_of lost cut alarmed (answers.Refused kind) = refl
answer_of lost cut alarmed answers.NoMemory = tt

-- ---- both ends

-- the first of two is one of them
pub one_of : (a b : Status) → (first_of a b ≡ a) ⊎ (first_of a b ≡ b)
one_of a b = go (nat_lt (rank b) (rank a)) where
  go : (t : Bool) → ((if t then b else a) ≡ a) ⊎ ((if t then b else a) ≡ b)
  go true = inr refl
  go false = inl refl

-- it comes no later than either
rank_first : (s t : Status) → (rank (first_of s t) ≤ rank s) × (rank (first_of s t) ≤ rank t)
rank_first s t = go (nat_lt (rank t) (rank s)) refl where
  go : (b : Bool) → nat_lt (rank t) (rank s) ≡ b → (rank (if b then t else s) ≤ rank s) × (rank (if b then t else s) ≤ rank t)
  go true is = let less = ltb-true (rank t) (rank s) is in (omega (arith, less), omega arith)
  go false is = let more = ltb-false (rank t) (rank s) is in (omega arith, omega (arith, more))

-- an end whose status comes last is done
last_done : (lost cut alarmed : Bool) (answer : EndAnswer) (s : Status) → IsAnswerOf lost cut alarmed answer s → 7 ≤ rank s → answer ≡ answers.Done
last_done lost cut alarmed answer Done of late = of
last_done lost cut alarmed answer Usage of late = absurd of
last_done lost cut alarmed answer OutFault of late = absurd of
last_done lost cut alarmed answer NoMemory of late = absurd (omega (arith, late))
last_done lost cut alarmed answer SourceFault of late = absurd (omega (arith, late))
last_done lost cut alarmed answer DiskFault of late = absurd (omega (arith, late))
last_done lost cut alarmed answer (Refused kind) of late = absurd (omega (arith, late))
last_done lost cut alarmed answer (Peer kind) of late = absurd (omega (arith, late))
last_done lost cut alarmed answer LinkFault of late = absurd (omega (arith, late))
last_done lost cut alarmed answer (Aborted code) of late = absurd (omega (arith, late))

-- a copy that is done is done at both ends
pub both_done : (l c a : Bool) (x : EndAnswer) (m d b : Bool) (y : EndAnswer) → first_of (status_of l c a x) (status_of m d b y) ≡ Done
    → (x ≡ answers.Done) × (y ≡ answers.Done)
both_done l c a x m d b y is =
    let ranks = rank_first (status_of l c a x) (status_of m d b y) in
    let last : rank (first_of (status_of l c a x) (status_of m d b y)) ≡ 7 = ap rank is in (
      last_done l c a x (status_of l c a x) (answer_of l c a x) (omega (arith, ranks.0, last)),
      last_done m d b y (status_of m d b y) (answer_of m d b y) (omega (arith, ranks.1, last)),
    )

-- what the status of a copy tells of either end
pub either : (l c a : Bool) (x : EndAnswer) (m d b : Bool) (y : EndAnswer) (s : Status) → first_of (status_of l c a x) (status_of m d b y) ≡ s
    → IsAnswerOf l c a x s ⊎ IsAnswerOf m d b y s
either l c a x m d b y s is = go (one_of (status_of l c a x) (status_of m d b y)) where
  go : (first_of (status_of l c a x) (status_of m d b y) ≡ status_of l c a x) ⊎ (first_of (status_of l c a x) (status_of m d b y) ≡ status_of m d b y)
      → IsAnswerOf l c a x s ⊎ IsAnswerOf m d b y s
  go (inl first) = inl (subst (IsAnswerOf l c a x) (sym first ∙ is) (answer_of l c a x))
  go (inr first) = inr (subst (IsAnswerOf m d b y) (sym first ∙ is) (answer_of m d b y))

-- ---- what stands behind a status

-- a source failed: a lane of the sender lost its own
pub lost_for : (l c a : Bool) (x : EndAnswer) (d b : Bool) (y : EndAnswer) → IsAnswerOf l c a x SourceFault ⊎ IsAnswerOf false d b y SourceFault → l ≡ true
lost_for l c a x d b y (inl of) = of.1
lost_for l c a x d b y (inr of) = absurd (false_not (of.1)) where
  false_not : false ≡ true → ⊥
  false_not is = cc

-- an end failed by what the other said that it may not say
pub peer_for : (l c a : Bool) (x : EndAnswer) (kind : PeerKind) → IsAnswerOf l c a x (Peer kind) → x ≡ answers.Peer kind
peer_for l c a x (peers.BadFrame at) of = of.0
peer_for l c a x (peers.Unexpected state command) of = of
peer_for l c a x (peers.BadSettings field) of = of
peer_for l c a x (peers.BadCheckpoint n low high) of = of
peer_for l c a x (peers.Differs n before) of = of
peer_for l c a x (peers.BadChunks at) of = of
peer_for l c a x (peers.ChunksDiffer at) of = of
peer_for l c a x (peers.SizesDiffer files bytes told_files told_bytes) of = of
peer_for l c a x (peers.Overlap offset) of = of
peer_for l c a x (peers.SizeDiffers size stamp told_size told_stamp) of = of
peer_for l c a x (peers.OverLimit count) of = of
peer_for l c a x (peers.EarlyDone count) of = of
peer_for l c a x (peers.Short files bytes told_files told_bytes) of = of

-- no end comes to one of these
pub never_for : (l c a : Bool) (x : EndAnswer) (m d b : Bool) (y : EndAnswer) → (IsAnswerOf l c a x Usage ⊎ IsAnswerOf m d b y Usage) ⊎ (IsAnswerOf l c a x OutFault ⊎ IsAnswerOf m d b y OutFault) → ⊥
never_for l c a x m d b y (inl (inl of)) = of
never_for l c a x m d b y (inl (inr of)) = of
never_for l c a x m d b y (inr (inl of)) = of
never_for l c a x m d b y (inr (inr of)) = of

-- where there is no memory for one end, that is what both come to
pub first_starved : (t : Status) → first_of NoMemory t ≡ NoMemory
first_starved Done = refl
first_starved Usage = refl
first_starved SourceFault = refl
first_starved DiskFault = refl
first_starved LinkFault = refl
first_starved (Peer kind) = refl
first_starved (Aborted code) = refl
first_starved (Refused kind) = refl
first_starved OutFault = refl
first_starved NoMemory = refl

pub second_starved : (s : Status) → first_of s NoMemory ≡ NoMemory
second_starved Done = refl
second_starved Usage = refl
second_starved SourceFault = refl
second_starved DiskFault = refl
second_starved LinkFault = refl
second_starved (Peer kind) = refl
second_starved (Aborted code) = refl
second_starved (Refused kind) = refl
second_starved OutFault = refl
second_starved NoMemory = refl
