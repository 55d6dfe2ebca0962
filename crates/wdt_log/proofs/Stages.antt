-- At each stage of an append each image is good, and at the last the log means the files with the batch.
use Rattle.std.proofs.Common.{◌≡◌, ◌⊎◌, inl, inr, ℕ, ◌+◌, ◌<◌, ◌^◌, List, [], ◌∷◌, ◌++◌, length, drop, Option, Some, None, refl, sym, ap, ◌∙◌, subst, arith, append_assoc, length-append}
use Rattle.std.specs.Prelude.{option_map, IsSome}
use Rattle.std.proofs.lemmas.Bool.{cases_eq}
use Rattle.wdt_units.specs.Tree.{File}
use Rattle.wdt_depot.specs.Disk.{Disk, DiskFile, IsFileImage, IsSoundDisk, clean, sync_file, with_file, write_file}
use Rattle.wdt_depot.specs.Moments.{IfTold, Run, Told}
use Rattle.wdt_depot.proofs.ForCallers.{image_of_clean, since_now, since_weaker, with_file-other, with_file-same}
use Rattle.wdt_logfmt.specs.declared.entry.LogEntry.{LogEntry}
use Rattle.wdt_logfmt.specs.Adding.{all_added}
use Rattle.wdt_logfmt.specs.Meaning.{log_meaning}
use Rattle.wdt_logfmt.specs.Spelling.{AllFit as AllSpelled, batch_body, closed_batch, spell_all}
use Rattle.wdt_logfmt.specs.View.{NamedFile}
use Rattle.wdt_logfmt.proofs.ForCallers.{batch-view, means-closed, means-torn, reaches-batch}
use Rattle.wdt_good.specs.Batch.{forgotten_of}
use Rattle.wdt_good.specs.Good.{log_path}
use Rattle.wdt_good.specs.Leading.{HasLog, MeansEither}
use Rattle.wdt_good.specs.LogState.{IsReady, LogOf}
use Rattle.wdt_good.specs.Logged.{AllGood, GoodSince}
use Rattle.wdt_depot.specs.State.{State}
use Rattle.wdt_good.proofs.ForCallers.{log_is_good, ready_leads}
use Rattle.wdt_log.specs.Answers.{IsNotBad, IsOfDepot}
use Rattle.wdt_log.specs.declared.fail.LogFail.{LogFail}
use Rattle.wdt_log.specs.declared.fail.LogFail.TheVariants.{Disk as DiskFail, BadLog, Shut, NoMemory}
use Rattle.wdt_log.specs.Stages.{IsStage, opened, opening, staged, written}
use Rattle.wdt_log.proofs.Adding.{some_is}
use Rattle.wdt_log.proofs.Torn.{left_behind, left_gate, over, over_behind}

-- ---- a change of the log alone

log_change : (d e : Disk) (s : DiskFile) (g : DiskFile → DiskFile) → HasLog d s e → HasLog d (g s) (with_file log_path (option_map g (e log_path)) e)
log_change d e s g has = record {
  others = λ path one two. with_file-other log_path path (option_map g (e log_path)) e one ∙ has.others path one two;
  file = with_file-same log_path (option_map g (e log_path)) e ∙ ap (option_map g) has.file;
}

-- ---- what an append is given
pub record IsBatch (version : ℕ) (fs gs : List NamedFile) (es : List LogEntry) (bytes : List ℕ) : Type 0 where
  pub spelled : bytes ≡ closed_batch es
  pub small : length (spell_all es) < 2 ^ 32
  pub fits : AllSpelled es
  pub adds : all_added version fs es ≡ Some gs

module _ (version : ℕ) (fs gs : List NamedFile) (es : List LogEntry) (bytes : List ℕ) (batch : IsBatch version fs gs es bytes) (end : ℕ) (d : Disk) (log : LogOf version fs end d) where
  before : List ℕ
  before = log.front ++ log.gate ∷ log.behind

  rest : List ℕ
  rest = drop (length bytes) log.behind

  -- the log's bytes once the batch is written, and once the gate is
  closed_log : List ℕ
  closed_log = log.front ++ log.gate ∷ (bytes ++ rest)

  open_log : List ℕ
  open_log = log.front ++ 1 ∷ (bytes ++ rest)

  -- ---- the log's file at each stage

  has_first : HasLog d (clean before) d
  unfolding before
  has_first = record { others = λ path one two. refl; file = log.file }

  has_written : HasLog d (write_file (end + 1) bytes (clean before)) (written end bytes d)
  has_written = log_change d d (clean before) (write_file (end + 1) bytes) has_first

  staged_is : (write_file (end + 1) bytes (clean before)).seen ≡ closed_log
  unfolding write_file clean before rest closed_log
  staged_is = over_behind log.front log.gate log.behind bytes end log.place

  has_staged : HasLog d (clean closed_log) (staged end bytes d)
  has_staged = subst (λ (l : List ℕ). HasLog d (clean l) (staged end bytes d)) staged_is (log_change d (written end bytes d) (write_file (end + 1) bytes (clean before)) sync_file has_written)

  has_opening : HasLog d (write_file end (1 ∷ []) (clean closed_log)) (opening end bytes d)
  has_opening = log_change d (staged end bytes d) (clean closed_log) (write_file end (1 ∷ [])) has_staged

  opened_is : (write_file end (1 ∷ []) (clean closed_log)).seen ≡ open_log
  unfolding write_file clean rest closed_log open_log
  opened_is = over log.front (log.gate ∷ (bytes ++ rest)) (1 ∷ []) end log.place

  has_opened : HasLog d (clean open_log) (opened end bytes d)
  has_opened = subst (λ (l : List ℕ). HasLog d (clean l) (opened end bytes d)) opened_is (log_change d (opening end bytes d) (write_file end (1 ∷ []) (clean closed_log)) sync_file has_opening)

  -- ---- what a crash leaves of it

  closed_means : (gate : ℕ) (more b : List ℕ) → b ≡ log.front ++ gate ∷ more → (gate ≡ 1 → ⊥) → MeansEither fs gs b
  closed_means gate more b is shut = (record { files = fs; end = length log.front }, ap log_meaning is ∙ means-closed version log.front fs gate more log.reaches shut, inl refl)

  spelled : bytes ++ rest ≡ batch_body es ++ 0 ∷ rest
  spelled = ap (λ (l : List ℕ). l ++ rest) batch.spelled ∙ append_assoc (batch_body es) (0 ∷ []) rest

  open_means : (b : List ℕ) → b ≡ open_log → MeansEither fs gs b
  unfolding open_log
  open_means b is = (
    record { files = gs; end = length (log.front ++ 1 ∷ batch_body es) },
    ap log_meaning (is ∙ ap (λ (l : List ℕ). log.front ++ 1 ∷ l) spelled) ∙ means-torn version log.front fs gs es rest log.reaches batch.small batch.fits batch.adds,
    inr refl,
  )

  first_leaves : (b : List ℕ) → IsFileImage (clean before) b → MeansEither fs gs b
  unfolding before
  first_leaves b left = closed_means log.gate log.behind b (image_of_clean before b left) log.closed

  written_leaves : (b : List ℕ) → IsFileImage (write_file (end + 1) bytes (clean before)) b → MeansEither fs gs b
  unfolding before
  written_leaves b left = let r = left_behind log.front log.gate log.behind bytes b end log.place left in closed_means log.gate r.0 b r.1 log.closed

  staged_leaves : (b : List ℕ) → IsFileImage (clean closed_log) b → MeansEither fs gs b
  unfolding closed_log
  staged_leaves b left = closed_means log.gate (bytes ++ rest) b (image_of_clean closed_log b left) log.closed

  opening_leaves : (b : List ℕ) → IsFileImage (write_file end (1 ∷ []) (clean closed_log)) b → MeansEither fs gs b
  unfolding closed_log open_log
  opening_leaves b left =
      let r = left_gate log.front log.gate (bytes ++ rest) b end log.place left in
      elim (cases_eq r.0 1) [
        | inl one ↦ open_means b (r.1 ∙ ap (λ (x : ℕ). log.front ++ x ∷ (bytes ++ rest)) one)
        | inr shut ↦ closed_means r.0 (bytes ++ rest) b r.1 shut
      ]

  opened_leaves : (b : List ℕ) → IsFileImage (clean open_log) b → MeansEither fs gs b
  opened_leaves b left = open_means b (image_of_clean open_log b left)

  -- ---- the log at rest again

  pub first_rests : LogOf version fs end d
  first_rests = log

  pub staged_rests : LogOf version fs end (staged end bytes d)
  unfolding closed_log
  staged_rests = record {
    front = log.front;
    gate = log.gate;
    behind = bytes ++ rest;
    file = has_staged.file;
    place = log.place;
    closed = log.closed;
    reaches = log.reaches;
    view = log.view;
  }

  opened_bytes : open_log ≡ (log.front ++ 1 ∷ batch_body es) ++ 0 ∷ rest
  unfolding open_log
  opened_bytes = ap (λ (l : List ℕ). log.front ++ 1 ∷ l) spelled ∙ sym (append_assoc log.front (1 ∷ batch_body es) (0 ∷ rest))

  pub opened_rests : LogOf version gs (end + length bytes) (opened end bytes d)
  opened_rests = record {
    front = log.front ++ 1 ∷ batch_body es;
    gate = 0;
    behind = rest;
    file = has_opened.file ∙ ap (λ (l : List ℕ). Some (clean l)) opened_bytes;
    place = (let place = log.place in omega (arith, length-append log.front (1 ∷ batch_body es), length-append (batch_body es) (0 ∷ []), ap length batch.spelled));
    closed = λ e. omega arith;
    reaches = reaches-batch version log.front fs gs es log.reaches batch.small batch.fits batch.adds;
    view = batch-view version fs gs es log.view batch.adds;
  }

  -- ---- each stage is good

  module _ (T : List File) (sound : IsSoundDisk d) (ready : IsReady version T fs gs es d) where
    good_at : (x : Disk) (file : DiskFile) → HasLog d file x → ((b : List ℕ) → IsFileImage file b → MeansEither fs gs b) → AllGood T (forgotten_of es) d x
    good_at x file has leaves = log_is_good version T (forgotten_of es) fs gs end d x file sound log (ready_leads version T (forgotten_of es) fs gs es d log.view ready) has leaves

    abbrev IsGoodAt : Disk → Type 0
    IsGoodAt x = AllGood T (forgotten_of es) d x

    pub stage_good : (x : Disk) → IsStage end bytes d x → AllGood T (forgotten_of es) d x
    stage_good x (inl is) = subst IsGoodAt (sym is) (good_at d (clean before) has_first first_leaves)
    stage_good x (inr (inl is)) = subst IsGoodAt (sym is) (good_at (written end bytes d) (write_file (end + 1) bytes (clean before)) has_written written_leaves)
    stage_good x (inr (inr (inl is))) = subst IsGoodAt (sym is) (good_at (staged end bytes d) (clean closed_log) has_staged staged_leaves)
    stage_good x (inr (inr (inr (inl is)))) = subst IsGoodAt (sym is) (good_at (opening end bytes d) (write_file end (1 ∷ []) (clean closed_log)) has_opening opening_leaves)
    stage_good x (inr (inr (inr (inr is)))) = subst IsGoodAt (sym is) (good_at (opened end bytes d) (clean open_log) has_opened opened_leaves)

-- ---- told

module _ (version : ℕ) (fs gs : List NamedFile) (es : List LogEntry) (bytes : List ℕ) (batch : IsBatch version fs gs es bytes) (end : ℕ) where
  pub good_since : (T : List File) (Q : Disk → Disk → Type 0) (a b : Option Told) → Run (IsStage end bytes) Q a b → IfTold (λ t. IsSoundDisk t.now) a → IfTold (λ t. LogOf version fs end t.now) a → IfTold (λ t. IsReady version T fs gs es t.now) a → GoodSince T (forgotten_of es) a b
  good_since T Q None None run sound log ready = tt
  good_since T Q None (Some u) run sound log ready = absurd run
  good_since T Q (Some t) None run sound log ready = absurd run
  good_since T Q (Some t) (Some u) run sound log ready =
      since_weaker (IsStage end bytes t.now) (AllGood T (forgotten_of es) t.now) (Some t) (Some u) (λ x at. stage_good version fs gs es bytes batch end t.now log T sound ready x at) run.0

  pub opened_after : (a b : Option Told) → Run (IsStage end bytes) (λ d x. x ≡ opened end bytes d) a b → IfTold (λ t. LogOf version fs end t.now) a → IfTold (λ t. LogOf version gs (end + length bytes) t.now) b
  opened_after None None run log = tt
  opened_after None (Some u) run log = absurd run
  opened_after (Some t) None run log = absurd run
  opened_after (Some t) (Some u) run log = subst (LogOf version gs (end + length bytes)) (sym run.1) (opened_rests version fs gs es bytes batch end t.now log)

  pub same_after : (a b : Option Told) → Run (IsStage end bytes) (λ d x. (x ≡ d) ⊎ (x ≡ staged end bytes d)) a b → IfTold (λ t. LogOf version fs end t.now) a → IfTold (λ t. LogOf version fs end t.now) b
  same_after None None run log = tt
  same_after None (Some u) run log = absurd run
  same_after (Some t) None run log = absurd run
  same_after (Some t) (Some u) run log = elim run.1 [
    | inl is ↦ subst (LogOf version fs end) (sym is) log
    | inr is ↦ subst (LogOf version fs end) (sym is) (staged_rests version fs gs es bytes batch end t.now log)
  ]

-- ---- an append as its caller sees it

module _ (version : ℕ) (fs : List NamedFile) (es : List LogEntry) (end : ℕ) (small : length (spell_all es) < 2 ^ 32) where
  batch_of : (gs : List NamedFile) → AllSpelled es → all_added version fs es ≡ Some gs → IsBatch version fs gs es (closed_batch es)
  batch_of gs fits adds = record { spelled = refl; small = small; fits = fits; adds = adds }

  pub append_good : (T : List File) (gs : List NamedFile) (Q : Disk → Disk → Type 0) (a b : Option Told) → AllSpelled es ⊎ (b ≡ a) → Run (IsStage end (closed_batch es)) Q a b
      → IfTold (λ t. IsSoundDisk t.now) a → IfTold (λ t. LogOf version fs end t.now) a → IfTold (λ t. IsReady version T fs gs es t.now) a → GoodSince T (forgotten_of es) a b
  append_good T gs Q None None fits run sound log ready = tt
  append_good T gs Q None (Some u) fits run sound log ready = absurd run
  append_good T gs Q (Some t) None fits run sound log ready = absurd run
  append_good T gs Q (Some t) (Some u) (inl fits) run sound log ready = good_since version fs gs es (closed_batch es) (batch_of gs fits ready.adds) end T Q (Some t) (Some u) run sound log ready
  append_good T gs Q (Some t) (Some u) (inr same) run sound log ready = subst (λ (x : Option Told). GoodSince T (forgotten_of es) (Some t) x) (sym same) (since_now (λ d. AllGood T (forgotten_of es) t.now d) (Some t))

  pub append_logged : (gs : List NamedFile) (a b : Option Told) → AllSpelled es → all_added version fs es ≡ Some gs → Run (IsStage end (closed_batch es)) (λ d x. x ≡ opened end (closed_batch es) d) a b
      → IfTold (λ t. LogOf version fs end t.now) a → IfTold (λ t. LogOf version gs (end + length (closed_batch es)) t.now) b
  append_logged gs a b fits adds run log = opened_after version fs gs es (closed_batch es) (batch_of gs fits adds) end a b run log

  pub append_same : (a b : Option Told) → IsSome (all_added version fs es) → AllSpelled es ⊎ (b ≡ a) → Run (IsStage end (closed_batch es)) (λ d x. (x ≡ d) ⊎ (x ≡ staged end (closed_batch es) d)) a b
      → IfTold (λ t. LogOf version fs end t.now) a → IfTold (λ t. LogOf version fs end t.now) b
  append_same a b some (inl fits) run log = let adds = some_is (all_added version fs es) some in same_after version fs adds.0 es (closed_batch es) (batch_of adds.0 fits adds.1) end a b run log
  append_same a b some (inr same) run log = subst (λ (x : Option Told). IfTold (λ t. LogOf version fs end t.now) x) (sym same) log

pub told_same : {A : Type 0} (s t : State) → A ⊎ (t ≡ s) → A ⊎ (t.told ≡ s.told)
told_same s t (inl a) = inl a
told_same s t (inr same) = inr (ap (λ (x : State). x.told) same)

-- ---- a depot's failure

pub not_shut : (x : LogFail) → IsOfDepot x → x ≡ Shut → ⊥
not_shut DiskFail h is = cc
not_shut NoMemory h is = cc
not_shut Shut h is = h
not_shut (BadLog at) h is = h

pub not_bad : (x : LogFail) → IsOfDepot x → IsNotBad x
not_bad DiskFail h = tt
not_bad NoMemory h = tt
not_bad Shut h = absurd h
not_bad (BadLog at) h = absurd h
