-- What a lane has claimed, what has landed, and what is between.
use Rattle.std.specs.Prelude.{◌≡◌, refl, ℕ, ◌≤◌, Bool, true, false, ◌||◌, List, [], ◌∷◌, ◌++◌, length, take, map, Option, Some, None}
use Rattle.std.proofs.Common.{subst, sym, ap, ◌∙◌, arith, append_assoc, append-nil, length-append}
use Rattle.std.proofs.lemmas.List.{take_at, take-map}
use Rattle.wdt_units.specs.declared.blocks.Header.{Header}
use Rattle.wdt_codec.specs.declared.frames.Frame.{Frame}
use Rattle.wdt_codec.specs.declared.frames.Frame.TheVariants as frames
use Rattle.wdt_sender_fsm.specs.declared.acts.SendAct.TheVariants as acts
use Rattle.wdt_sender_fsm.specs.declared.inputs.SendIn.TheVariants as inputs
use Rattle.wdt_sender_fsm.specs.declared.states.SendState.{SendState}
use Rattle.wdt_sender_fsm.specs.declared.states.SendState.TheVariants as states
use Rattle.wdt_sender_fsm.specs.Phases.{Message, Framed, Piece}
use Rattle.wdt_receiver_fsm.specs.declared.inputs.RecvIn.TheVariants as recv_inputs
use Rattle.wdt_pact.specs.Links.{Link}
use Rattle.wdt_pact.specs.Pairs.{SendHold, SendDoes, SendHas, RecvHold, RecvHas}
use Rattle.wdt_pact.specs.Stances.{Stance, Talks}

-- ---- what was claimed, by what has landed

-- what was claimed is what has landed and then these blocks
unfoldable pub Splits : List Header → List Header → List Header → Type 0
Splits kept landed xs = kept ≡ landed ++ xs

-- what a count leaves of what was claimed
unfoldable pub cut_heads : ℕ → List Header → List Header
cut_heads n kept = take n kept

-- of nothing, nothing has landed
pub Splits-none : Splits [] [] []
unfolding Splits
Splits-none = refl

-- the same blocks
pub Splits-same : (kept landed xs ys : List Header) → Splits kept landed xs → xs ≡ ys → Splits kept landed ys
unfolding Splits
Splits-same kept landed xs ys m e = m ∙ ap (λ (hs : List Header). landed ++ hs) e

-- one more is claimed
pub Splits-claim : (kept landed xs : List Header) (b : Header) → Splits kept landed xs → Splits (kept ++ b ∷ []) landed (xs ++ b ∷ [])
unfolding Splits
Splits-claim kept landed xs b m = ap (λ (hs : List Header). hs ++ b ∷ []) m ∙ append_assoc landed xs (b ∷ [])

-- the first that hasn't landed lands
pub Splits-land : (kept landed xs : List Header) (b : Header) → Splits kept landed (b ∷ xs) → Splits kept (landed ++ b ∷ []) xs
unfolding Splits
Splits-land kept landed xs b m = m ∙ sym (append_assoc landed (b ∷ []) xs)

-- what hasn't landed is put back
pub Splits-cut : (kept landed xs : List Header) (n : ℕ) → n ≡ length landed → Splits kept landed xs → Splits (cut_heads n kept) landed []
unfolding Splits cut_heads
Splits-cut kept landed xs n is m = ap (take n) m ∙ (take_at landed xs n (sym is) ∙ sym (append-nil landed))

-- no more have landed than were claimed
pub Splits-few : (kept landed xs : List Header) → Splits kept landed xs → length landed ≤ length kept
unfolding Splits
Splits-few kept landed xs m = subst (λ (hs : List Header). length landed ≤ length hs) (sym m) (omega (arith, length-append landed xs))

-- a count leaves of headers those of the blocks that it leaves
pub cut_heads-map : {B : Type 0} (f : B → Header) (n : ℕ) (bs : List B) → map f (take n bs) ≡ cut_heads n (map f bs)
unfolding cut_heads
cut_heads-map f n bs = sym (take-map f n bs)

-- ---- what flies

-- the block that a frame tells of, and others
abbrev pub blocks_by : Frame → List Header → List Header
blocks_by (frames.Block h) hs = h ∷ hs
blocks_by _ hs = hs

-- the blocks that are told of among some messages
abbrev pub blocks_in : List Message → List Header
blocks_in [] = []
blocks_in (Framed frame ∷ ms) = blocks_by frame (blocks_in ms)
blocks_in (Piece n ∷ ms) = blocks_in ms

-- the block that the receiver's lane has begun, as a list
abbrev pub begun_heads : Option Header → List Header
begun_heads None = []
begun_heads (Some h) = h ∷ []

-- what the receiver's lane has read and not stepped
abbrev pub in_hand : RecvHold → List Message
in_hand (RecvHas (recv_inputs.Got frame)) = Framed frame ∷ []
in_hand _ = []

-- the blocks between the ends: begun, read, and on the way
abbrev pub flying : Option Header → List Message → List Message → List Header
flying begun hand ds = begun_heads begun ++ blocks_in (hand ++ ds)

-- what flies where the receiver's lane talks; else only what it has begun counts, until it drops it
abbrev pub flying_by : Stance → Option Header → List Message → List Message → List Header
flying_by (Talks q) begun hand ds = flying begun hand ds
flying_by _ begun hand ds = begun_heads begun

-- ---- what is neither landed nor flies

-- of the last block nothing may be written yet, where the lane holds it, or its end fails
abbrev pub Unsent : SendState → SendHold → List Header → Type 0
Unsent states.SendAbort held rest = Unit {0}
Unsent states.Ended held rest = Unit {0}
Unsent state (SendHas (inputs.SourceLost unwritten)) rest = Unit {0}
Unsent state (SendHas inputs.Starved) rest = Unit {0}
Unsent state (SendDoes (acts.SendBlock h)) rest = rest ≡ h ∷ []
Unsent state held rest = rest ≡ []

-- where a newer connection waits there is nothing
abbrev pub UnsentOn : Option Link → Type 0 → List Header → Type 0
UnsentOn None P rest = P
UnsentOn (Some t) P rest = rest ≡ []

-- what of the blocks of a lane in this state may be unsent on the taken connection
abbrev pub UnsentBy : Option Link → SendState → SendHold → List Header → Type 0
UnsentBy newest state held rest = UnsentOn newest (Unsent state held rest) rest

-- nothing is said of it where the receiver's lane doesn't talk
abbrev pub RestBy : Stance → (List Header → Type 0) → List Header → Type 0
RestBy (Talks q) IsRest = IsRest
RestBy _ IsRest = λ rest. Unit {0}

-- ---- a lane's lists

-- what was claimed is what has landed, what flies, and the rest: on a connection on which the sender was
-- told its count the rest is known, on another nothing flies
pub record Parts (greeted : Bool) (kept landed fly : List Header) (IsRest : List Header → Type 0) : Type 0 where
  pub rest : List Header
  pub same : Splits kept landed (fly ++ rest)
  pub live : greeted ≡ true → IsRest rest
  pub dead : greeted ≡ false → fly ≡ []

-- what has landed is a front of what was claimed
abbrev pub Leads : List Header → List Header → Type 0
Leads kept landed = (rest : List Header) × Splits kept landed rest

-- a lane's lists, by how the receiver's lane stands on the taken connection
abbrev pub ListsBy : Stance → Option Link → (kept landed : List Header) → (begun : Option Header) → (hand : List Message) → (List Header → Type 0) → Type 0
ListsBy rs (Some k) kept landed begun hand IsRest = Parts k.greeted kept landed (flying_by rs begun hand k.down.sent) (RestBy rs IsRest)
ListsBy rs None kept landed begun hand IsRest = Leads kept landed × (begun ≡ None)

-- ---- a lane that asks for the end

-- the sender says that nothing more is to come
abbrev pub is_done : Message → Bool
is_done (Framed frames.Done) = true
is_done _ = false

-- it is said among some messages
abbrev pub has_done : List Message → Bool
has_done [] = false
has_done (m ∷ ms) = is_done m || has_done ms

-- where that word is read or on its way, all that the lane has claimed has landed or flies, and it holds no block
abbrev pub AskedOn : Stance → List Message → (kept landed : List Header) → (begun : Option Header) → (hand : List Message) → (held : Bool) → Type 0
AskedOn (Talks q) ds kept landed begun hand held = has_done (hand ++ ds) ≡ true → Splits kept landed (flying begun hand ds) × (held ≡ false)
AskedOn _ ds kept landed begun hand held = Unit {0}

-- the same, by the taken connection
abbrev pub AskedBy : Stance → Option Link → (kept landed : List Header) → (begun : Option Header) → (hand : List Message) → (held : Bool) → Type 0
AskedBy rs (Some k) kept landed begun hand held = AskedOn rs k.down.sent kept landed begun hand held
AskedBy rs None kept landed begun hand held = Unit {0}
