-- A step of a sender's end that is of its run: what it is handed and what it gives are the run's, and it stays of the run.
use Rattle.std.proofs.Common.{◌≡◌, ℕ, ◌+◌, ◌-◌, ◌^◌, ◌≤◌, Bool, true, false, List, [], ◌∷◌, length, map, slice_get, Option, Some, None, Result, Ok, Err, refl, sym, ap, ◌∙◌, subst}
use Rattle.std.specs.Prelude.{IfErr, IfOk, IfSome, sum_by}
use Rattle.std.specs.Option.{option_map}
use Rattle.std.proofs.lemmas.List.{length-map}
use Rattle.std.proofs.lemmas.List.Sums.{sum_by-cons}
use Rattle.std.proofs.lemmas.Option.{slice_get-map}
use Rattle.wdt_units.specs.Tree.{File, file_of, is_rising, length_of}
use Rattle.wdt_units.specs.Have.{HaveFile}
use Rattle.wdt_units.specs.Headers.{IsOfFile}
use Rattle.wdt_units.specs.declared.blocks.Header.{Header}
use Rattle.wdt_units.specs.declared.numbers.Lane.{Lane}
use Rattle.wdt_codec.specs.declared.frames.Frame.{Frame}
use Rattle.wdt_codec.specs.declared.frames.Frame.TheVariants as frames
use Rattle.wdt_tree.specs.Listing.{size_of}
use Rattle.wdt_tree.specs.Shown.{entry_of_file}
use Rattle.wdt_tree.specs.Told.{ToldRun}
use Rattle.wdt_tree.specs.declared.entry.Entry.{Entry}
use Rattle.wdt_tree.proofs.Shared.{file_of-at, rising}
use Rattle.wdt_sender_fsm.specs.declared.acts.SendAct.{SendAct}
use Rattle.wdt_sender_fsm.specs.declared.acts.SendAct.TheVariants as acts
use Rattle.wdt_sender_fsm.specs.declared.inputs.SendIn.{SendIn}
use Rattle.wdt_sender_fsm.specs.declared.inputs.SendIn.TheVariants as inputs
use Rattle.wdt_sender_fsm.specs.declared.answers.EndAnswer.{EndAnswer}
use Rattle.wdt_sender_fsm.specs.Causes.{Follows, IsCause, Refuses}
use Rattle.wdt_sender_fsm.specs.Chunks.{refusal}
use Rattle.wdt_sender_fsm.specs.PlainSender.{PlainSender}
use Rattle.wdt_sender_fsm.specs.Rules.{is_failure}
use Rattle.wdt_sender_fsm.specs.Sender.{FitsIn}
use Rattle.wdt_sender_fsm.specs.Touches.{Plans, AsBefore, Anew, Touches}
use Rattle.wdt_sender_fsm.specs.Turn.{Step, send_turn}
use Rattle.wdt_sender_fsm.specs.Writes.{FitsAct, IsLawful, IsOwnFrame, IsPartOf}
use Rattle.wdt_link.specs.Saying.{IsFrameOf}
use Rattle.wdt_lanes.specs.Acts.{IsActSaid, IsInSaid}
use Rattle.wdt_lanes.specs.Kept.{Begun, IsKept, Lists, RefusesRun}

-- what is said of a run lies in the grammar's ranges
pub fits_in : (run : Option ToldRun) (put : SendIn) → IsInSaid run put → FitsIn put
fits_in run (inputs.Got frame) h = h.0
fits_in run put h = tt

-- ---- what is given

sums : (files : List File) → sum_by size_of (map entry_of_file files) ≡ sum_by length_of files
sums [] = refl
sums (file ∷ files) = sum_by-cons size_of (entry_of_file file) (map entry_of_file files) ∙ ap (λ n. length file.bytes + n) (sums files) ∙ sym (sum_by-cons length_of file files)

-- a frame of the sender's own is of the run
own_is : (run : ToldRun) (m : List Entry) (frame : Frame) → m ≡ map entry_of_file run.tree → IsOwnFrame m frame → IsFrameOf run frame
own_is run m (frames.Size files bytes) e o = (o.0 ∙ ap length e ∙ length-map run.tree entry_of_file, o.1 ∙ ap (sum_by size_of) e ∙ sums run.tree)
own_is run m (frames.Block header) e o = absurd o
own_is run m (frames.Chunks have) e o = absurd o
own_is run m frame e o = tt

-- a part of a listed file is a part of that file
part_is : (tree : List File) (m : List Entry) (header : Header) → is_rising tree ≡ true → m ≡ map entry_of_file tree → IsPartOf m header → IsOfFile tree header.path header.size header.stamp
part_is tree m header up e p = go (slice_get tree p.file) refl (sym (slice_get-map entry_of_file tree p.file) ∙ ap (λ (es : List Entry). slice_get es p.file) (sym e) ∙ p.there)
  where
    go : (o : Option File) → slice_get tree p.file ≡ o → option_map entry_of_file o ≡ Some p.entry → IsOfFile tree header.path header.size header.stamp
    go None at x = cc
    go (Some file) at x =
        let same : entry_of_file file ≡ p.entry = cc in
        record {
          file = file;
          found = subst (λ (path : List ℕ). file_of tree path ≡ Some file) (ap (λ (n : Entry). n.path) same ∙ sym p.path) (file_of-at tree p.file file up at);
          sized = p.size ∙ sym (ap (λ (n : Entry). n.size) same);
          stamped = p.stamp ∙ sym (ap (λ (n : Entry). n.stamp) same);
        }

-- a block's header has a stamp of 64 bits
abbrev pub HasStamp : SendAct → Type 0
HasStamp (acts.SendBlock header) = header.stamp ≤ 2 ^ 64 - 1
HasStamp act = Unit {0}

-- an act of a sender of the run's tree is said of the run
pub act_said : (run : Option ToldRun) (m : List Entry) (act : SendAct) → Lists run m → HasStamp act → FitsAct m act → IsActSaid run act
act_said None m (acts.Write frame) e h f = (f.0, tt)
act_said None m (acts.SendBlock header) e h f = (f.0 h, tt)
act_said (Some run) m (acts.Write frame) e h f = (f.0, own_is run m frame e.1 f.1)
act_said (Some run) m (acts.SendBlock header) e h f = (f.0 h, part_is run.tree m header (rising run.tree e.0) e.1 f.1)
act_said run m act e h f = tt

-- ---- what stays

-- what was read of the destination is the run's have
read_is : (run : ToldRun) (put : SendIn) (have : List HaveFile) → put ≡ inputs.Got (frames.Chunks have) → IsInSaid (Some run) put → have ≡ run.have
read_is run put have e i = let P : SendIn → Type 0 = λ x. IsInSaid (Some run) x in (subst P e i).1

listed_behind : (run : ToldRun) (s t : PlainSender) (put : SendIn) → Plans s put t → IsInSaid (Some run) put → IfSome s.have (λ have. have ≡ run.have) → IfSome t.have (λ have. have ≡ run.have)
listed_behind run s t put (AsBefore have planned) i h = let P : Option (List HaveFile) → Type 0 = λ o. IfSome o (λ have. have ≡ run.have) in subst P (sym have) h
listed_behind run s t put (Anew have is none now planned) i h =
    let P : Option (List HaveFile) → Type 0 = λ o. IfSome o (λ have. have ≡ run.have) in subst P (sym now) (read_is run put have is i)

-- it is refused as the run's have is
refused_behind : (run : ToldRun) (s t : PlainSender) (l : Lane) (put : SendIn) → Touches s l put t → Follows s l put t → IsInSaid (Some run) put → RefusesRun (Some run) s → RefusesRun (Some run) t
refused_behind run s t l put touches follows i had kind e = go (is_failure s.answer) refl where
  same : refusal t.manifest run.have t.block ≡ refusal s.manifest run.have s.block
  same = ap (λ (entries : List Entry). refusal entries run.have t.block) touches.manifest ∙ ap (λ (most : ℕ). refusal s.manifest run.have most) touches.block

  go : (failed : Bool) → is_failure s.answer ≡ failed → refusal t.manifest run.have t.block ≡ Some kind
  go true f = same ∙ had kind (sym (follows.stays f) ∙ e)
  go false f =
      let cause : Refuses s l.0 put kind = subst (λ (a : EndAnswer). IsCause s l put t.history a) e (follows.caused f) in
      same ∙ ap (λ (have : List HaveFile). refusal s.manifest have s.block) (sym (read_is run put cause.have cause.read i)) ∙ cause.refused

-- a step leaves it of the run, and of what it was opened with
pub kept_behind : (run : Option ToldRun) (begun : Begun) (s t : PlainSender) (l : Lane) (put : SendIn) → Touches s l put t → Follows s l put t → IsLawful t → IsInSaid run put → IsKept run begun s → IsKept run begun t
kept_behind None begun s t l put touches follows w i k = record { lawful = w; tree = tt; listed = tt; manifest = touches.manifest ∙ k.manifest; block = touches.block ∙ k.block; refused = tt }
kept_behind (Some run) begun s t l put touches follows w i k = record {
  lawful = w;
  tree = (k.tree.0, touches.manifest ∙ k.tree.1);
  listed = listed_behind run s t put touches.plan i k.listed;
  manifest = touches.manifest ∙ k.manifest;
  block = touches.block ∙ k.block;
  refused = refused_behind run s t l put touches follows i k.refused;
}

-- the same of a call's result
pub kept_by : (run : Option ToldRun) (begun : Begun) (result : Result SendAct SendIn) (s t : PlainSender) (l : Lane) (put : SendIn) → IfOk result (λ act. send_turn s l put ≡ (act, t)) → IfErr result (λ back. (back ≡ put) × (t ≡ s)) → Touches s l put (send_turn s l put).1
    → Follows s l put (send_turn s l put).1 → IsLawful t → IsInSaid run put → IsKept run begun s → IsKept run begun t
kept_by run begun (Ok act) s t l put ok err touches follows w i k =
    let behind : (send_turn s l put).1 ≡ t = ap (λ (step : Step). step.1) ok in
    let P : PlainSender → Type 0 = λ x. Touches s l put x in
    let Q : PlainSender → Type 0 = λ x. Follows s l put x in
    kept_behind run begun s t l put (subst P behind touches) (subst Q behind follows) w i k
kept_by run begun (Err back) s t l put ok err touches follows w i k = let P : PlainSender → Type 0 = λ x. IsKept run begun x in subst P (sym err.1) k

-- ---- a call's result

-- what a sender of the run's tree is to do is that of a sender of a manifest that lists it
pub owned : (run : Option ToldRun) (m : List Entry) (result : Result SendAct SendIn) → Lists run m → IfOk result (λ act. FitsAct m act) → IfOk result (λ act. (manifest : List Entry) × Lists run manifest × FitsAct manifest act)
owned run m (Ok act) lists fits = (m, lists, fits)
owned run m (Err back) lists fits = tt

-- an input that comes back is said of the run, as it was
pub back_said : (run : Option ToldRun) (result : Result SendAct SendIn) (put : SendIn) (P : Type 0) → IfErr result (λ back. (back ≡ put) × P) → IsInSaid run put → IfErr result (λ back. IsInSaid run back)
back_said run (Ok act) put P err i = tt
back_said run (Err back) put P err i = let Q : SendIn → Type 0 = λ x. IsInSaid run x in subst Q (sym err.0) i

-- what is said of equal things
pub moved : {A B D : Type 0} (P : A → B → D → Type 0) (a a' : A) (b b' : B) (d d' : D) → a ≡ a' → b ≡ b' → d' ≡ d → P a b d → P a' b' d'
moved P a a' b b' d d' e f g h = subst (P a' b') (sym g) (subst (λ x. P a' x d) f (subst (λ x. P x b d) e h))
