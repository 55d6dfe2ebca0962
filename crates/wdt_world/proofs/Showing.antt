-- What a wire shows of its connection, behind each of its calls.
use Rattle.std.proofs.Common.{◌≡◌, ℕ, ◌-◌, ◌<◌, ◌≤◌, Bool, true, false, not, ◌&&◌, ◌||◌, is_some, List, [], ◌∷◌, ◌++◌, length, map, take, drop, Option, Some, None, subst, sym, ap, ◌∙◌, refl, arith, append_assoc, if◌then◌else◌}
use Rattle.std.specs.List.{flat_map}
use Rattle.std.proofs.lemmas.List.{length-take}
use Rattle.wdt_codec.specs.Frames.{owed_by, spell}
use Rattle.wdt_codec.specs.Grammar.{IsFrame}
use Rattle.wdt_codec.specs.declared.frames.Frame.{Frame}
use Rattle.wdt_wire.specs.declared.side.Side.TheVariants.{Down, Up}
use Rattle.wdt_wire.specs.declared.taken.Taken.{Taken}
use Rattle.wdt_wire.specs.declared.taken.Taken.TheVariants as found
use Rattle.wdt_wire.specs.Ways.{PlainWay, arriving, behind, with_bytes}
use Rattle.wdt_wire.specs.Ways as ways
use Rattle.wdt_wire.specs.Wires.{FindsFrame, FindsPiece, PlainWire, can_write, cut_wire, left_by, new_wire, with_way, written}
use Rattle.wdt_pact.specs.Each.{Each}
use Rattle.wdt_pact.specs.Bytes.{spell_up}
use Rattle.wdt_pact.specs.Links.{Link, Way, cut_link, front, is_cut, less, lower, new_link, size_down, size_up, with_sent}
use Rattle.wdt_sender_fsm.specs.Phases.{Message, Framed, Piece}
use Rattle.wdt_world.specs.Said.{FitsSaid, Said, message_of, written_as}
use Rattle.wdt_world.specs.Shown.{IsAnswer, ShowsDown, ShowsLink, ShowsUp}
use Rattle.wdt_world.specs.Finding.{BeginsWithFrame, BeginsWithPiece, FoundDown, FoundUp}
use Rattle.wdt_world.proofs.Fronts.{OneReading, arrives_less, arrives_more}
use Rattle.wdt_world.proofs.Readings.{ReadDown, ReadUp, TookPiece, no_down, no_piece, no_up, read_down, read_up, spell_said, took}

-- ---- a connection that was just made

pub begins : ShowsLink false false new_wire new_link
begins =
    record {
      sender = refl;
      receiver = refl;
      down = λ _. record { said = []; messages = refl; fits = tt; untaken = refl; room = refl };
      up = λ _. record { fits = tt; owed = refl; untaken = refl; room = refl };
    }

-- ---- lists

flat_append : {A : Type 0} (f : A → List ℕ) (xs ys : List A) → flat_map f xs ++ flat_map f ys ≡ flat_map f (xs ++ ys)
flat_append f [] ys = refl
flat_append f (x ∷ xs) ys = append_assoc (f x) (flat_map f xs) (flat_map f ys) ∙ ap (λ (zs : List ℕ). f x ++ zs) (flat_append f xs ys)

pub map_append : {A B : Type 0} (f : A → B) (xs ys : List A) → map f (xs ++ ys) ≡ map f xs ++ map f ys
map_append f [] ys = refl
map_append {A} {B} f (x ∷ xs) ys = ap (λ (zs : List B). f x ∷ zs) (map_append f xs ys)

each_append : {A : Type 0} (P : A → Type 0) (xs ys : List A) → Each P xs → Each P ys → Each P (xs ++ ys)
each_append P [] ys a b = b
each_append P (x ∷ xs) ys a b = (a.0, each_append P xs ys a.1 b)

-- ---- a write

-- the bytes that can be taken, where more are written
wrote_bytes : (room room' : Option ℕ) (bytes all more : List ℕ) → room ≡ room' → bytes ≡ arriving room' all → arriving room (bytes ++ more) ≡ arriving room' (all ++ more)
wrote_bytes room room' bytes all more same is =
    ap (λ (r : Option ℕ). arriving r (bytes ++ more)) same ∙ (ap (λ (bs : List ℕ). arriving room' (bs ++ more)) is ∙ arrives_more room' all more)

pub wrote_way_up : (way : PlainWay) (sends : Way Frame) (fs : List Frame) → Each IsAnswer fs → ShowsUp way sends → ShowsUp (with_bytes (spell_up fs) way) (with_sent sends fs)
wrote_way_up way sends fs fits shows =
    record {
      fits = each_append IsAnswer sends.sent fs shows.fits fits;
      owed = shows.owed;
      untaken = wrote_bytes way.room sends.room way.untaken (spell_up sends.sent) (spell_up fs) shows.room shows.untaken ∙ ap (arriving sends.room) (flat_append spell sends.sent fs);
      room = shows.room;
    }

pub wrote_way_down : (way : PlainWay) (sends : Way Message) (said : List Said) → Each FitsSaid said → ShowsDown way sends → ShowsDown (with_bytes (spell_said said) way) (with_sent sends (map message_of said))
wrote_way_down way sends said fits shows =
    record {
      said = shows.said ++ said;
      messages = map_append message_of shows.said said ∙ ap (λ (ms : List Message). ms ++ map message_of said) shows.messages;
      fits = each_append FitsSaid shows.said said shows.fits fits;
      untaken = wrote_bytes way.room sends.room way.untaken (spell_said shows.said) (spell_said said) shows.room shows.untaken ∙ ap (arriving sends.room) (flat_append written_as shows.said said);
      room = shows.room;
    }

wrote_up_by : (s r gone : Bool) (wire : PlainWire) (link : Link) (fs : List Frame) → s ≡ gone → Each IsAnswer fs → ShowsLink s r wire link
    → ShowsLink s r (if gone then wire else record wire { up = with_bytes (spell_up fs) wire.up }) record link { up = with_sent link.up fs }
wrote_up_by s r true wire link fs is fits shows =
    record { sender = shows.sender; receiver = shows.receiver; down = shows.down; up = λ here. let both : true ≡ false = sym is ∙ here in cc }
wrote_up_by s r false wire link fs is fits shows =
    record { sender = shows.sender; receiver = shows.receiver; down = shows.down; up = λ here. wrote_way_up wire.up link.up fs fits (shows.up here) }

-- frames are written upwards
pub wrote_up : (s r : Bool) (wire : PlainWire) (link : Link) (fs : List Frame) → Each IsAnswer fs → ShowsLink s r wire link → ShowsLink s r (written wire Up (spell_up fs)) record link { up = with_sent link.up fs }
wrote_up s r wire link fs fits shows = wrote_up_by s r wire.sender_left wire link fs (sym shows.sender) fits shows

wrote_down_by : (s r gone : Bool) (wire : PlainWire) (link : Link) (said : List Said) → r ≡ gone → Each FitsSaid said → ShowsLink s r wire link
    → ShowsLink s r (if gone then wire else record wire { down = with_bytes (spell_said said) wire.down }) record link { down = with_sent link.down (map message_of said) }
wrote_down_by s r true wire link said is fits shows =
    record { sender = shows.sender; receiver = shows.receiver; up = shows.up; down = λ here. let both : true ≡ false = sym is ∙ here in cc }
wrote_down_by s r false wire link said is fits shows =
    record { sender = shows.sender; receiver = shows.receiver; up = shows.up; down = λ here. wrote_way_down wire.down link.down said fits (shows.down here) }

-- messages are written downwards
pub wrote_down : (s r : Bool) (wire : PlainWire) (link : Link) (said : List Said) → Each FitsSaid said → ShowsLink s r wire link
    → ShowsLink s r (written wire Down (spell_said said)) record link { down = with_sent link.down (map message_of said) }
wrote_down s r wire link said fits shows = wrote_down_by s r wire.receiver_left wire link said (sym shows.receiver) fits shows

-- ---- whether a write works

no_or : (a b : Bool) → not (a || b) ≡ (not a && not b)
no_or true b = refl
no_or false b = refl

works_by : (gone cut cut' left : Bool) → left ≡ gone → (gone ≡ false → cut ≡ cut') → not (cut || left) ≡ (not cut' && not gone)
works_by true true true left is same = no_or true left
works_by true true false left is same = refl
works_by true false cut' left is same = ap not is ∙ none cut' where
  none : (b : Bool) → false ≡ (not b && false)
  none true = refl
  none false = refl
works_by false cut cut' left is same = ap (λ (b : Bool). not (cut || b)) is ∙ (no_or cut false ∙ ap (λ (b : Bool). not b && true) (same refl))

-- a write downwards works where the connection isn't cut and the receiver is there
pub works_down : (s r : Bool) (wire : PlainWire) (link : Link) → ShowsLink s r wire link → can_write wire Down ≡ (not (is_cut link.down) && not r)
works_down s r wire link shows = works_by r (is_some wire.down.room) (is_some link.down.room) wire.receiver_left shows.receiver (λ here. ap is_some (shows.down here).room)

pub works_up : (s r : Bool) (wire : PlainWire) (link : Link) → ShowsLink s r wire link → can_write wire Up ≡ (not (is_cut link.up) && not s)
works_up s r wire link shows = works_by s (is_some wire.up.room) (is_some link.up.room) wire.sender_left shows.sender (λ here. ap is_some (shows.up here).room)

-- ---- a cut

cut_rooms : (n : ℕ) (room room' : Option ℕ) → room ≡ room' → ways.lower room n ≡ lower room' n
cut_rooms n room room' same = ap (λ (r : Option ℕ). lower r n) same

cut_bytes : (n : ℕ) (room : Option ℕ) (bytes all : List ℕ) → bytes ≡ arriving room all → take n bytes ≡ arriving (lower room n) all
cut_bytes n room bytes all is = ap (take n) is ∙ arrives_less n room all

pub cuts : (s r : Bool) (wire : PlainWire) (link : Link) (down up : ℕ) → ShowsLink s r wire link → ShowsLink s r (cut_wire down up wire) (cut_link down up link)
cuts s r wire link down up shows =
    record {
      sender = shows.sender;
      receiver = shows.receiver;
      down = λ here. let old = shows.down here in
          record { said = old.said; messages = old.messages; fits = old.fits; untaken = cut_bytes down link.down.room wire.down.untaken (spell_said old.said) old.untaken; room = cut_rooms down wire.down.room link.down.room old.room };
      up = λ here. let old = shows.up here in
          record { fits = old.fits; owed = old.owed; untaken = cut_bytes up link.up.room wire.up.untaken (spell_up link.up.sent) old.untaken; room = cut_rooms up wire.up.room link.up.room old.room };
    }

-- ---- an end leaves

pub sender_leaves : (s r : Bool) (wire : PlainWire) (link : Link) → ShowsLink s r wire link → ShowsLink true r (left_by wire Down) link
sender_leaves s r wire link shows = record { sender = refl; receiver = shows.receiver; down = shows.down; up = λ here. cc }

pub receiver_leaves : (s r : Bool) (wire : PlainWire) (link : Link) → ShowsLink s r wire link → ShowsLink s true (left_by wire Up) link
receiver_leaves s r wire link shows = record { sender = shows.sender; receiver = refl; up = shows.up; down = λ here. cc }

-- ---- a frame upwards

frames_up : OneReading → (s r : Bool) (old new : PlainWire) (link : Link) (f : Frame) → ShowsLink s r old link → s ≡ false → IsFrame old.up.untaken f new.up.untaken
    → new ≡ with_way old Up (behind (length (spell f)) (owed_by f) old.up) → FoundUp s r (found.Frame f) new link
frames_up one s r old new link f shows here frame same =
    let up = shows.up here in
    let got : ReadUp link.up.sent link.up.room f new.up.untaken =
    read_up one link.up.sent link.up.room new.up.untaken f up.fits (subst (λ (bytes : List ℕ). IsFrame bytes f new.up.untaken) up.untaken frame) in (
      record { sent = got.more; room = less link.up.room (length (spell f)) },
      got.at,
      record {
        sender = ap (λ (w : PlainWire). w.sender_left) same ∙ shows.sender;
        receiver = ap (λ (w : PlainWire). w.receiver_left) same ∙ shows.receiver;
        down = λ there. subst (λ (way : PlainWay). ShowsDown way link.down) (sym (ap (λ (w : PlainWire). w.down) same)) (shows.down there);
        up = λ _. record { fits = got.fits; owed = ap (λ (w : PlainWire). w.up.owed) same ∙ got.owes; untaken = got.left; room = ap (λ (w : PlainWire). w.up.room) same ∙ ap (λ (room : Option ℕ). less room (length (spell f))) up.room };
      },
    )

-- what is found of a wire that shows a connection where nothing whole is there
lost_by : (cut cut' left gone b : Bool) → cut ≡ cut' → left ≡ gone → (cut || left) ≡ b → (cut' || gone) ≡ b
lost_by cut cut' left gone b same is lost = ap (λ (c : Bool). c || gone) (sym same) ∙ (ap (λ (g : Bool). cut || g) (sym is) ∙ lost)

none_up : (s r : Bool) (old : PlainWire) (link : Link) → ShowsLink s r old link → s ≡ false → ((f : Frame) (rest : List ℕ) → IsFrame old.up.untaken f rest → ⊥) → front size_up link.up ≡ None
none_up s r old link shows here none =
    let up = shows.up here in
    no_up link.up.sent link.up.room up.fits (λ f rest frame. none f rest (subst (λ (bytes : List ℕ). IsFrame bytes f rest) (sym up.untaken) frame))

-- what is found upwards is what the connection has at its front
pub found_up : OneReading → (s r : Bool) (old new : PlainWire) (link : Link) (taken : Taken) → ShowsLink s r old link → s ≡ false → FindsFrame Up taken old new → FoundUp s r taken new link
found_up one s r old new link (found.Frame f) shows here finds = frames_up one s r old new link f shows here finds.0 finds.1
found_up one s r old new link (found.Piece bytes) shows here finds = absurd finds
found_up one s r old new link found.Nothing shows here finds = (
  none_up s r old link shows here finds.0,
  lost_by (is_some old.up.room) (is_some link.up.room) old.receiver_left r false (ap is_some (shows.up here).room) shows.receiver finds.1,
  subst (λ (w : PlainWire). ShowsLink s r w link) (sym finds.2) shows,
)
found_up one s r old new link found.Lost shows here finds = (
  none_up s r old link shows here finds.0,
  lost_by (is_some old.up.room) (is_some link.up.room) old.receiver_left r true (ap is_some (shows.up here).room) shows.receiver finds.1,
  subst (λ (w : PlainWire). ShowsLink s r w link) (sym finds.2) shows,
)

-- ---- a frame or a piece downwards

-- what is said of the messages of a connection, at what was said with its bytes
at_said : (P : List Message → Type 0) (said : List Said) (ms : List Message) → map message_of said ≡ ms → P ms → P (map message_of said)
at_said P said ms same p = subst P (sym same) p

-- a message was taken from the front
took_down : (s r : Bool) (old new : PlainWire) (link : Link) (n owed : ℕ) (more : List Said) (m : Message) → ShowsLink s r old link → r ≡ false
    → front size_down link.down ≡ Some (m, record { sent = map message_of more; room = less link.down.room n }) → Each FitsSaid more → new.down.untaken ≡ arriving (less link.down.room n) (spell_said more)
    → new ≡ with_way old Down (behind n owed old.down) → (rest : Way Message) × (front size_down link.down ≡ Some (m, rest)) × ShowsLink s r new record link { down = rest }
took_down s r old new link n owed more m shows here at fits left same = (
  record { sent = map message_of more; room = less link.down.room n },
  at,
  record {
    sender = ap (λ (w : PlainWire). w.sender_left) same ∙ shows.sender;
    receiver = ap (λ (w : PlainWire). w.receiver_left) same ∙ shows.receiver;
    up = λ there. subst (λ (way : PlainWay). ShowsUp way link.up) (sym (ap (λ (w : PlainWire). w.up) same)) (shows.up there);
    down = λ _. record { said = more; messages = refl; fits = fits; untaken = left; room = ap (λ (w : PlainWire). w.down.room) same ∙ ap (λ (room : Option ℕ). less room n) (shows.down here).room };
  },
)

front_same : (link : Link) (said : List Said) → map message_of said ≡ link.down.sent → front size_down link.down ≡ front size_down record { sent = map message_of said; room = link.down.room }
front_same link said same = ap (λ (ms : List Message). front size_down record { sent = ms; room = link.down.room }) (sym same)

frames_down : OneReading → (s r : Bool) (old new : PlainWire) (link : Link) (f : Frame) → ShowsLink s r old link → r ≡ false → BeginsWithFrame link.down.sent → IsFrame old.down.untaken f new.down.untaken
    → new ≡ with_way old Down (behind (length (spell f)) (owed_by f) old.down) → FoundDown s r (found.Frame f) new link
frames_down one s r old new link f shows here head frame same =
    let down = shows.down here in
    let got : ReadDown down.said link.down.room f new.down.untaken =
    read_down one down.said link.down.room new.down.untaken f down.fits (at_said BeginsWithFrame down.said link.down.sent down.messages head)
    (subst (λ (bytes : List ℕ). IsFrame bytes f new.down.untaken) down.untaken frame) in
    took_down s r old new link (length (spell f)) (owed_by f) got.more (Framed f) shows here (front_same link down.said down.messages ∙ got.at) got.fits got.left same

none_down : (s r : Bool) (old : PlainWire) (link : Link) → ShowsLink s r old link → r ≡ false → BeginsWithFrame link.down.sent → ((f : Frame) (rest : List ℕ) → IsFrame old.down.untaken f rest → ⊥) → front size_down link.down ≡ None
none_down s r old link shows here head none =
    let down = shows.down here in
    front_same link down.said down.messages
    ∙ no_down down.said link.down.room down.fits (at_said BeginsWithFrame down.said link.down.sent down.messages head) (λ f rest frame. none f rest (subst (λ (bytes : List ℕ). IsFrame bytes f rest) (sym down.untaken) frame))

-- what a reader of frames finds downwards is what the connection has at its front, where that is a frame
pub found_down : OneReading → (s r : Bool) (old new : PlainWire) (link : Link) (taken : Taken) → ShowsLink s r old link → r ≡ false → BeginsWithFrame link.down.sent → FindsFrame Down taken old new → FoundDown s r taken new link
found_down one s r old new link (found.Frame f) shows here head finds = frames_down one s r old new link f shows here head finds.0 finds.1
found_down one s r old new link (found.Piece bytes) shows here head finds = absurd finds
found_down one s r old new link found.Nothing shows here head finds = (
  none_down s r old link shows here head finds.0,
  lost_by (is_some old.down.room) (is_some link.down.room) old.sender_left s false (ap is_some (shows.down here).room) shows.sender finds.1,
  subst (λ (w : PlainWire). ShowsLink s r w link) (sym finds.2) shows,
)
found_down one s r old new link found.Lost shows here head finds = (
  none_down s r old link shows here head finds.0,
  lost_by (is_some old.down.room) (is_some link.down.room) old.sender_left s true (ap is_some (shows.down here).room) shows.sender finds.1,
  subst (λ (w : PlainWire). ShowsLink s r w link) (sym finds.2) shows,
)

pieces_down : (s r : Bool) (old new : PlainWire) (link : Link) (n : ℕ) → ShowsLink s r old link → r ≡ false → 1 ≤ n → BeginsWithPiece n link.down.sent → n ≤ length old.down.untaken
    → new ≡ with_way old Down (behind n (old.down.owed - n) old.down) → (rest : Way Message) × (front size_down link.down ≡ Some (Piece n, rest)) × ShowsLink s r new record link { down = rest }
pieces_down s r old new link n shows here some head there same =
    let down = shows.down here in
    let got : TookPiece down.said link.down.room n (drop n (arriving link.down.room (spell_said down.said))) =
    took down.said link.down.room n some down.fits (at_said (BeginsWithPiece n) down.said link.down.sent down.messages head) (subst (λ (bytes : List ℕ). n ≤ length bytes) down.untaken there) in
    took_down s r old new link n (old.down.owed - n) got.more (Piece n) shows here (front_same link down.said down.messages ∙ got.at) got.fits
    (ap (λ (w : PlainWire). w.down.untaken) same ∙ (ap (drop n) down.untaken ∙ got.left)) same

lacks_down : (s r : Bool) (old : PlainWire) (link : Link) (n : ℕ) → ShowsLink s r old link → r ≡ false → BeginsWithPiece n link.down.sent → length old.down.untaken < n → front size_down link.down ≡ None
lacks_down s r old link n shows here head few =
    let down = shows.down here in
    front_same link down.said down.messages
    ∙ no_piece down.said link.down.room n (at_said (BeginsWithPiece n) down.said link.down.sent down.messages head) (subst (λ (bytes : List ℕ). length bytes < n) down.untaken few)

-- how many bytes were taken
taken_count : (n : ℕ) (bytes all : List ℕ) → n ≤ length all → bytes ≡ take n all → n ≡ length bytes
taken_count n bytes all le is = omega (arith, ap length is, length-take n all, le)

-- what a reader of so many bytes of a block finds downwards is what the connection has at its front, where that is a piece of as many
pub found_piece : (s r : Bool) (old new : PlainWire) (link : Link) (n : ℕ) (taken : Taken) → ShowsLink s r old link → r ≡ false → 1 ≤ n → BeginsWithPiece n link.down.sent → FindsPiece Down n taken old new
    → FoundDown s r taken new link
found_piece s r old new link n (found.Frame f) shows here some head finds = absurd finds
found_piece s r old new link n (found.Piece bytes) shows here some head finds =
    subst (λ (k : ℕ). (rest : Way Message) × (front size_down link.down ≡ Some (Piece k, rest)) × ShowsLink s r new record link { down = rest }) (taken_count n bytes.items old.down.untaken finds.0 finds.1)
    (pieces_down s r old new link n shows here some head finds.0 finds.2)
found_piece s r old new link n found.Nothing shows here some head finds = (
  lacks_down s r old link n shows here head finds.0,
  lost_by (is_some old.down.room) (is_some link.down.room) old.sender_left s false (ap is_some (shows.down here).room) shows.sender finds.1,
  subst (λ (w : PlainWire). ShowsLink s r w link) (sym finds.2) shows,
)
found_piece s r old new link n found.Lost shows here some head finds = (
  lacks_down s r old link n shows here head finds.0,
  lost_by (is_some old.down.room) (is_some link.down.room) old.sender_left s true (ap is_some (shows.down here).room) shows.sender finds.1,
  subst (λ (w : PlainWire). ShowsLink s r w link) (sym finds.2) shows,
)
