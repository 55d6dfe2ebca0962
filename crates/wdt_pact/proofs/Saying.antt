-- What a step of the sender's lane is given to say is so, and the number of a connection that it tells is the next.
use Rattle.std.proofs.Common.{◌≡◌, ℕ, zero, suc, ◌+◌, ◌<◌, ◌≤◌, ◌==◌, ◌-◌, ◌^◌, not, Bool, true, false, if◌then◌else◌, cond, List, [], ◌∷◌, ◌++◌, length, slice_get, Option, Some, None, is_some, subst, sym, ap, ◌∙◌, refl, arith, append-nil, eq-eqb}
use Rattle.std.specs.List.{list_all}
use Rattle.std.specs.Prelude.{find, sum_by}
use Rattle.std.specs.Option.{option_map}
use Rattle.std.specs.Str.{bytes_eq}
use Rattle.std.proofs.lemmas.Bool.{and_parts}
use Rattle.std.proofs.lemmas.Slice.Eq.{bytes_eq-Decides}
use Rattle.wdt_units.specs.declared.blocks.Header.{Header}
use Rattle.wdt_units.proofs.Shared.{before_differs}
use Rattle.wdt_codec.specs.declared.frames.Frame.{Frame}
use Rattle.wdt_codec.specs.declared.frames.Frame.TheVariants as frames
use Rattle.wdt_codec.specs.declared.frames.Settings.{Settings}
use Rattle.wdt_rest.specs.Fitting.{found_in, size_and_stamp}
use Rattle.wdt_tree.specs.declared.entry.Entry.{Entry}
use Rattle.wdt_tree.specs.Listing.{IsManifest, has_path, is_below_entry, is_in_order, path_of, size_of}
use Rattle.wdt_sender_fsm.specs.declared.acts.SendAct.{SendAct}
use Rattle.wdt_sender_fsm.specs.declared.acts.SendAct.TheVariants as acts
use Rattle.wdt_sender_fsm.specs.declared.answers.EndAnswer.{EndAnswer}
use Rattle.wdt_sender_fsm.specs.declared.events.SendEvent.{SendEvent}
use Rattle.wdt_sender_fsm.specs.declared.events.SendEvent.TheVariants as events
use Rattle.wdt_sender_fsm.specs.declared.inputs.SendIn.{SendIn}
use Rattle.wdt_sender_fsm.specs.Outcomes.{Outcome, Rested, Waited, Left, Warned, Failed, GivenUp, Redialed, Introduced, Presented, Greeted, Listed, Planned, Claimed, Emptied, Concluded, Finished, Acknowledged, came_to}
use Rattle.wdt_sender_fsm.specs.PlainSender.{PlainSender, lane_at, noted, past_at}
use Rattle.wdt_sender_fsm.specs.SenderHistory.{LanePast, past_after, past_from, past_of}
use Rattle.wdt_sender_fsm.specs.Touches.{Touches}
use Rattle.wdt_sender_fsm.specs.Turn.{Step, greeted_by, next_conn, send_turn}
use Rattle.wdt_sender_fsm.specs.Writes.{FitsAct, IsPartOf}
use Rattle.wdt_pact.specs.Fitting.{SaysOf}
use Rattle.wdt_pact.specs.Meeting.{Climbs, IsOwn, IsTrueOf, Transfer, conns_said, totals_of, transfer_of}
use Rattle.wdt_pact.specs.Pairs.{SendDoes}
use Rattle.wdt_pact.specs.World.{number}
use Rattle.wdt_pact.proofs.Below.{if_has}
use Rattle.wdt_pact.proofs.Conns.{next_climbs, raise_climbs}
use Rattle.wdt_pact.proofs.Rows.{past_of-append}
use Rattle.wdt_pact.proofs.TellingAll.{SenderComes}

-- ---- a file of the tree, by its path

pub each_at : (p : Entry → Bool) (xs : List Entry) (k : ℕ) (x : Entry) → list_all p xs ≡ true → slice_get xs k ≡ Some x → p x ≡ true
each_at p [] k x all at = cc
each_at p (y ∷ ys) zero x all at = let e : y ≡ x = cc in subst (λ (z : Entry). p z ≡ true) e (and_parts (p y) (list_all p ys) all).0
each_at p (y ∷ ys) (suc k) x all at = each_at p ys k x (and_parts (p y) (list_all p ys) all).1 at

find_at : (entries : List Entry) (k : ℕ) (entry : Entry) → is_in_order entries ≡ true → slice_get entries k ≡ Some entry → find (has_path entry.path) entries ≡ Some entry
find_at [] k entry up at = cc
find_at (x ∷ xs) zero entry up at =
    let e : x ≡ entry = cc in
    ap (λ (b : Bool). cond b (Some x) (find (has_path entry.path) xs)) ((bytes_eq-Decides x.path entry.path).1 (ap path_of e)) ∙ ap Some e
find_at (x ∷ xs) (suc k) entry up at =
    let parts = and_parts (list_all (is_below_entry x) xs) (is_in_order xs) up in
    ap (λ (b : Bool). cond b (Some x) (find (has_path entry.path) xs)) (before_differs x.path entry.path (each_at (is_below_entry x) xs k entry parts.0 at)) ∙ find_at xs k entry parts.1 at

-- a header of a part of a file tells the size and stamp of the file of its path
part_found : (manifest : List Entry) (h : Header) → IsManifest manifest → IsPartOf manifest h → found_in manifest h.path ≡ Some (h.size, h.stamp)
part_found manifest h m part =
    ap (found_in manifest) part.path
    ∙ (ap (option_map size_and_stamp) (find_at manifest part.file part.entry m.rising part.there)
    ∙ (ap (λ (n : ℕ). Some (n, part.entry.stamp)) (sym part.size) ∙ ap (λ (n : ℕ). Some (h.size, n)) (sym part.stamp)))

-- ---- the settings that a step gives

-- settings that are written are the transfer's, and tell the number of the connection that was made with them
abbrev pub Introduces : PlainSender → ℕ → (before after : ℕ) → SendAct → Type 0
Introduces s l before after (acts.Write (frames.Settings x)) = IsOwn (transfer_of s) l x × (x.conn.0 ≡ before + 1) × (after ≡ before + 1)
Introduces s l before after act = Unit {0}

-- what an act says is so
pub act_true : (s : PlainSender) (l before after : ℕ) (act : SendAct) → IsManifest s.manifest → FitsAct s.manifest act → Introduces s l before after act → SaysOf (IsTrueOf (transfer_of s) l) (SendDoes act)
act_true s l before after (acts.Write (frames.Settings x)) m f own = own.0
act_true s l before after (acts.Write (frames.Size files bytes)) m f own = ap (λ (n : ℕ). (n, bytes)) f.1.0 ∙ ap (λ (n : ℕ). (length s.manifest, n)) f.1.1
act_true s l before after (acts.Write (frames.Block h)) m f own = absurd f.1
act_true s l before after (acts.Write frame) m f own = tt
act_true s l before after (acts.SendBlock h) m f own = part_found s.manifest h m f.1
act_true s l before after act m f own = tt

-- the numbers that are told rise on
pub act_climbs : (s : PlainSender) (l before after : ℕ) (act : SendAct) (low : ℕ) (ns : List ℕ) → Introduces s l before after act → before ≤ after → Climbs low ns before → Climbs low (ns ++ conns_said (SendDoes act)) after
act_climbs s l before after (acts.Write (frames.Settings x)) low ns own le c =
    subst (λ (n : ℕ). Climbs low (ns ++ n ∷ []) after) (sym own.1) (subst (λ (n : ℕ). Climbs low (ns ++ (before + 1) ∷ []) n) (sym own.2) (next_climbs low ns before c))
act_climbs s l before after (acts.Write frame) low ns own le c = subst (λ (ms : List ℕ). Climbs low ms after) (sym (append-nil ns)) (raise_climbs low ns before after le c)
act_climbs s l before after act low ns own le c = subst (λ (ms : List ℕ). Climbs low ms after) (sym (append-nil ns)) (raise_climbs low ns before after le c)

-- ---- connections are counted up

one_more : (k : ℕ) (p : LanePast) (e : SendEvent) → p.connections ≤ (past_after k p e).connections
one_more k p (events.Linked j c) = if_has (λ (n : ℕ). p.connections ≤ n) (j.0 == k) (p.connections + 1) p.connections (omega arith) (omega arith)
one_more k p e = omega arith

all_more : (k : ℕ) (p : LanePast) (es : List SendEvent) → p.connections ≤ (past_from k p es).connections
all_more k p [] = omega arith
all_more k p (e ∷ es) = omega (arith, one_more k p e, all_more k (past_after k p e) es)

module _ (s : PlainSender) (l : ℕ) where
  abbrev Gives : Step → Type 0
  Gives step = Introduces s l (past_at s l).connections (past_at step.1 l).connections step.0

  gives_failed : (answer : EndAnswer) (mute : Bool) → Gives (came_to s (number l) (Failed answer mute))
  gives_failed answer true = tt
  gives_failed answer false = tt

  gives_greeted : (t : PlainSender) (ask : Bool) → Gives (greeted_by t (number l) ask)
  gives_greeted t true = tt
  gives_greeted t false = tt

  outcome_gives : (o : Outcome) → Gives (came_to s (number l) o)
  outcome_gives Rested = tt
  outcome_gives Waited = tt
  outcome_gives Left = tt
  outcome_gives Warned = tt
  outcome_gives (Failed answer mute) = gives_failed answer mute
  outcome_gives (GivenUp es) = tt
  outcome_gives (Redialed es) = tt
  outcome_gives Introduced = (
    record { version = refl; session = refl; lane = refl; lanes = refl; block = refl },
    refl,
    ap (λ (p : LanePast). p.connections) (past_of-append s.history (events.Linked (number l) (next_conn s (number l)) ∷ []) l) ∙ rw (eq-eqb l l refl) refl,
  )
  outcome_gives Presented = tt
  outcome_gives (Greeted count) = gives_greeted (noted s (events.Greet (number l) count ∷ [])) (lane_at s l).ask
  outcome_gives Listed = tt
  outcome_gives (Planned have) = tt
  outcome_gives (Claimed es b) = tt
  outcome_gives (Emptied es) = tt
  outcome_gives Concluded = tt
  outcome_gives Finished = tt
  outcome_gives Acknowledged = tt

  pub turn_gives : SenderComes → (input : SendIn) → Gives (send_turn s (number l) input)
  turn_gives comes input = let x = comes s (number l) input in subst Gives (sym x.is) (outcome_gives x.outcome)

-- ---- a sender behind a step

module _ (s : PlainSender) (l : ℕ) (input : SendIn) (t : PlainSender) (x : Touches s (number l) input t) where
  pub same_transfer : transfer_of t ≡ transfer_of s
  same_transfer =
      ap (λ (m : List Entry). record { manifest = m; block = t.block; session = t.session; lanes = length t.lanes }) x.manifest
      ∙ (ap (λ (n : ℕ). record { manifest = s.manifest; block = n; session = t.session; lanes = length t.lanes }) x.block
      ∙ (ap (λ (n : ℕ). record { manifest = s.manifest; block = s.block; session = n; lanes = length t.lanes }) x.session
      ∙ ap (λ (n : ℕ). record { manifest = s.manifest; block = s.block; session = s.session; lanes = n }) x.lanes))

  pub more_connections : (k : ℕ) → (past_at s k).connections ≤ (past_at t k).connections
  more_connections k =
      subst (λ (n : ℕ). (past_at s k).connections ≤ n) (sym (ap (λ (h : List SendEvent). (past_of h k).connections) x.history.behind ∙ ap (λ (p : LanePast). p.connections) (past_of-append s.history x.history.entries k)))
      (all_more k (past_at s k) x.history.entries)
