-- Files that come to stand in a depot, call by call.
use Rattle.std.proofs.Common.{◌≡◌, ℕ, ◌+◌, ◌-◌, ◌≤◌, nat_lt, ◌&&◌, cond, Bool, true, false, List, [], ◌∷◌, ◌++◌, length, take, drop, Option, Some, None, Result, Ok, Err, refl, sym, ap, ◌∙◌, subst, append_assoc, arith}
use Rattle.std.specs.Prelude.{option_map, replicate, is_none, ◌^◌, OnOk}
use Rattle.std.specs.Str.{bytes_eq}
use Rattle.std.proofs.Math.Bool.{and-false}
use Rattle.std.proofs.Math.Seq.{take-length}
use Rattle.std.proofs.lemmas.Bool.{le-ltb}
use Rattle.std.proofs.lemmas.List.{append-nil, drop_all}
use Rattle.std.proofs.lemmas.Slice.Eq.{bytes_eq-Decides}
use Rattle.wdt_units.specs.declared.failures.Failed.{Failed}
use Rattle.wdt_units.specs.Tree.{File, file_of}
use Rattle.wdt_depot.specs.Disk.{Disk, DiskFile, clean, made, spliced, synced_at, with_file, write_file, wrote}
use Rattle.wdt_depot.specs.Moments.{Told, IfTold, OneStep, MayDo}
use Rattle.wdt_depot.specs.State.{State, Counts, CountsSlip, SlipsWhere, at_spot, is_behind, is_far, is_past_end, lacks}
use Rattle.wdt_depot.specs.declared.failure.DepotFail.{DepotFail}
use Rattle.wdt_depot.proofs.ForCallers.{spot_stays, with_file-same, with_file-other}
use Rattle.wdt_rehearsal.specs.Destination.{Lands, landed_at, landed_over}
use Rattle.wdt_rehearsal.specs.Storing.{HasAt, HasLanded, IsEmptyAt, IsSettled, IsWritten, Stands}

-- ---- counts

-- nothing failed: no count of faults moved, and where the disk is told nothing was a slip
pub record IsFine (old new : State) : Type 0 where
  pub faults : new.faults ≡ old.faults
  pub own : new.own ≡ old.own
  pub own_then : new.own_then ≡ old.own_then
  pub later : old.slips ≤ new.slips
  pub slips : IfTold (λ t. new.slips ≡ old.slips) old.told

-- ---- bytes that are written behind the others

spliced_end : (front piece : List ℕ) (offset : ℕ) → length front ≡ offset → spliced front offset piece ≡ front ++ piece
unfolding spliced
spliced_end front piece offset long =
    let none : offset - length front ≡ 0 = omega arith in
    let gap : front ++ replicate (offset - length front) 0 ≡ front = ap (λ n. front ++ replicate n 0) none ∙ append-nil front in
    let before : take offset (front ++ replicate (offset - length front) 0) ≡ front = ap (take offset) gap ∙ ap (λ n. take n front) (sym long) ∙ take-length front in
    let behind : drop (offset + length piece) front ≡ [] = drop_all (offset + length piece) front (omega arith) in
    ap (λ x. x ++ piece ++ drop (offset + length piece) front) before ∙ ap (λ x. front ++ piece ++ x) behind ∙ append-nil (front ++ piece)

-- ---- a changing call at a path

-- what stands there after it
changes : (path : List ℕ) (P Q : DiskFile → Type 0) (step : DiskFile → DiskFile) (d e : Disk) → HasAt path P d e → ((f : DiskFile) → P f → Q (step f)) → HasAt path Q d (with_file path (option_map step (e path)) e)
changes path P Q step d e at more = record {
  file = step at.file;
  here = with_file-same path (option_map step (e path)) e ∙ ap (option_map step) at.here;
  has = more at.file at.has;
  others = λ other differs. with_file-other path other (option_map step (e path)) e differs ∙ at.others other differs;
}

told_changes : {T : Type 0} (E : Type 0) (x : T) (path : List ℕ) (P Q : DiskFile → Type 0) (step : DiskFile → DiskFile) (a b c : Option Told) → Stands path P a b → ((f : DiskFile) → P f → Q (step f))
    → OneStep (MayDo {E = E} (λ e. with_file path (option_map step (e path)) e) (Ok x)) b c → Stands path Q a c
told_changes E x path P Q step None None None at more does = tt
told_changes E x path P Q step None None (Some v) at more does = does
told_changes E x path P Q step None (Some u) c at more does = absurd at
told_changes E x path P Q step (Some t) None c at more does = absurd at
told_changes E x path P Q step (Some t) (Some u) None at more does = does
told_changes E x path P Q step (Some t) (Some u) (Some v) at more does = subst (λ (d : Disk). HasAt path Q t.now d) (sym does.0) (changes path P Q step t.now u.now at more)

-- nothing is written yet
pub written-none : (path : List ℕ) (a : Option Told) → IsEmptyAt path a → IsWritten path [] a a
unfolding clean
written-none path None empty = tt
written-none path (Some t) empty = record { file = clean []; here = empty; has = refl; others = λ other differs. refl }

-- one more piece
pub written-more : (x : Unit {0}) (path front piece : List ℕ) (offset : ℕ) (a b c : Option Told) → length front ≡ offset → IsWritten path front a b → OneStep (MayDo {E = DepotFail} (wrote path offset piece) (Ok x)) b c → IsWritten path (front ++ piece) a c
unfolding write_file
written-more x path front piece offset a b c long at does =
    told_changes DepotFail x path (λ f. f.seen ≡ front) (λ f. f.seen ≡ front ++ piece) (write_file offset piece) a b c at
    (λ f seen. ap (λ y. spliced y offset piece) seen ∙ spliced_end front piece offset long) does

-- all of it is synced
pub settled : (E : Type 0) (x : Unit {0}) (path bytes : List ℕ) (a b c : Option Told) → IsWritten path bytes a b → OneStep (MayDo {E = E} (synced_at path) (Ok x)) b c → IsSettled path bytes a c
settled E x path bytes a b c at does = told_changes E x path (λ f. f.seen ≡ bytes) (λ f. f ≡ clean bytes) (λ f. clean f.seen) a b c at (λ f seen. ap clean seen) does

-- ---- no call is a slip

-- a write where the file ends is none
not_far : (path : List ℕ) (offset count : ℕ) (d : Disk) (file : DiskFile) → d path ≡ Some file → length file.seen ≡ offset → is_far path offset count d ≡ false
not_far path offset count d file here long =
    let behind : is_behind offset (d path) ≡ false = ap (is_behind offset) here ∙ ap (λ n. nat_lt n offset) long ∙ not_less offset in
    ap (λ b. is_past_end offset count && nat_lt (2 ^ 40) offset && b) behind ∙ and-false (is_past_end offset count && nat_lt (2 ^ 40) offset)
  where
    not_less : (n : ℕ) → nat_lt n n ≡ false
    not_less n = le-ltb n n (omega arith)

pub write-no_slip : {T : Type 0} (F : Type 0) (r : Result T DepotFail) (path front : List ℕ) (offset count n : ℕ) (a b : Option Told) (s1 s2 : State) → length front ≡ offset → IsWritten path front a b
    → IfTold (λ t. CountsSlip (is_far path offset count t.now) r F s1 s2) b → IfTold (λ t. s1.slips ≡ n) a → IfTold (λ t. s2.slips ≡ n) a
write-no_slip F r path front offset count n None b s1 s2 long at counts kept = tt
write-no_slip F r path front offset count n (Some t) None s1 s2 long at counts kept = absurd at
write-no_slip F r path front offset count n (Some t) (Some u) s1 s2 long at counts kept = counts.none (not_far path offset count u.now at.file at.here (ap length at.has ∙ long)) ∙ kept

-- nor is it one to need a file that was made
pub need-no_slip : {T : Type 0} (F : Type 0) (r : Result T DepotFail) (x : Unit {0}) (path : List ℕ) (n : ℕ) (a b : Option Told) (s1 s2 : State) → OneStep (MayDo {E = DepotFail} (made path) (Ok x)) a b
    → IfTold (λ t. CountsSlip (lacks path t.now) r F s1 s2) b → s1.slips ≡ n → IfTold (λ t. s2.slips ≡ n) a
need-no_slip F r x path n None b s1 s2 does counts kept = tt
need-no_slip F r x path n (Some t) None s1 s2 does counts kept = absurd does
need-no_slip F r x path n (Some t) (Some u) s1 s2 does counts kept =
    counts.none (ap (λ (d : Disk). is_none (d path)) does.0 ∙ ap (λ (o : Option DiskFile). is_none o) (with_file-same path (Some (clean [])) t.now)) ∙ kept

-- ---- what is said where a disk is told

pub told-landed : (P : Type 0) (files : List File) (a b : Option Told) → Lands files a b → IfTold (λ t. P) b → IfTold (λ t. P) a
told-landed P files None b lands h = tt
told-landed P files (Some t) None lands h = absurd lands
told-landed P files (Some t) (Some u) lands h = h

pub both-told : (P Q R : Type 0) (a : Option Told) → (P → Q → R) → IfTold (λ t. P) a → IfTold (λ t. Q) a → IfTold (λ t. R) a
both-told P Q R None f p q = tt
both-told P Q R (Some t) f p q = f p q

-- ---- counts, call by call

pub fine-none : (s : State) → IsFine s s
fine-none s = record { faults = refl; own = refl; own_then = refl; later = omega arith; slips = none s.told }
  where
    none : (a : Option Told) → IfTold (λ t. s.slips ≡ s.slips) a
    none None = tt
    none (Some t) = refl

pub fine-more : (F : Type 0) (s0 s1 s2 : State) → IsFine s0 s1 → Counts F s1 s2 → (F → ⊥) → IfTold (λ t. s2.slips ≡ s0.slips) s0.told → IsFine s0 s2
fine-more F s0 s1 s2 fine counts ok slips = record {
  faults = (counts.fine ok).0 ∙ fine.faults;
  own = (counts.fine ok).1 ∙ fine.own;
  own_then = counts.own_then ∙ fine.own_then;
  later = omega (arith, fine.later, counts.slips);
  slips = slips;
}

-- ---- files, one behind the other

-- an empty file stands where one was made
pub made-empty : (x : Unit {0}) (path : List ℕ) (a b : Option Told) → OneStep (MayDo {E = DepotFail} (made path) (Ok x)) a b → IsEmptyAt path b
made-empty x path a None does = tt
made-empty x path None (Some u) does = absurd does
made-empty x path (Some t) (Some u) does = ap (λ (d : Disk). d path) does.0 ∙ with_file-same path (Some (clean [])) t.now

one_at : (file : File) (q : List ℕ) (d e : Disk) → HasAt file.path (λ f. f ≡ clean file.bytes) d e → e q ≡ landed_at (file ∷ []) d q
unfolding file_of
one_at file q d e over = go (bytes_eq file.path q) refl
  where
    go : (b : Bool) → bytes_eq file.path q ≡ b → e q ≡ landed_over (cond b (Some file) None) (d q)
    go true same = ap e (sym ((bytes_eq-Decides file.path q).0 same)) ∙ over.here ∙ ap (λ (f : DiskFile). Some f) over.has
    go false differs = over.others q differs

-- what was made, and then written and synced, has landed
pub landed-one : (x : Unit {0}) (file : File) (path : List ℕ) (a b c d e : Option Told) → OneStep (MayDo {E = DepotFail} (made file.path) (Ok x)) a b → c ≡ b → path ≡ file.path → IsSettled path file.bytes c d → e ≡ d → Lands (file ∷ []) a e
landed-one x file path a b c d e does same is at then_ =
    subst (Lands (file ∷ []) a) (sym then_) (go a b d does (subst (λ (p : List ℕ). IsSettled p file.bytes b d) is (subst (λ (t : Option Told). IsSettled path file.bytes t d) same at)))
  where
    go : (a b d : Option Told) → OneStep (MayDo {E = DepotFail} (made file.path) (Ok x)) a b → IsSettled file.path file.bytes b d → Lands (file ∷ []) a d
    go None None None does at = tt
    go None None (Some v) does at = at
    go None (Some u) d does at = absurd does
    go (Some t) None d does at = absurd does
    go (Some t) (Some u) None does at = at
    go (Some t) (Some u) (Some v) does at = λ q. one_at file q t.now v.now (record {
      file = at.file;
      here = at.here;
      has = at.has;
      others = λ other differs. at.others other differs ∙ ap (λ (w : Disk). w other) does.0 ∙ with_file-other file.path other (Some (clean [])) t.now differs;
    })

more_at : (file : File) (files : List File) (q : List ℕ) (d e : Disk) (found : Option DiskFile) → e q ≡ landed_at files d q → found ≡ landed_at (file ∷ []) e q → found ≡ landed_at (file ∷ files) d q
unfolding file_of
more_at file files q d e found before is = go (bytes_eq file.path q) is
  where
    go : (b : Bool) → found ≡ landed_over (cond b (Some file) None) (e q) → found ≡ landed_over (cond b (Some file) (file_of files q)) (d q)
    go true is = is
    go false is = is ∙ before

lands-more : (file : File) (files : List File) (a b c : Option Told) → Lands files a b → Lands (file ∷ []) b c → Lands (file ∷ files) a c
lands-more file files None None None h k = tt
lands-more file files None None (Some v) h k = k
lands-more file files None (Some u) c h k = absurd h
lands-more file files (Some t) None c h k = absurd h
lands-more file files (Some t) (Some u) None h k = k
lands-more file files (Some t) (Some u) (Some v) h k = λ q. more_at file files q t.now u.now (v.now q) (h q) (k q)

lands-none : (a : Option Told) → Lands [] a a
unfolding file_of
lands-none None = tt
lands-none (Some t) = λ q. refl

pub none-landed : (all : List File) (a : Option Told) → HasLanded all all a a
none-landed all a = record { landed = []; whole = sym (append-nil all); lands = lands-none a }

pub more-landed : (all left rest : List File) (file : File) (a b c : Option Told) → HasLanded all left a b → left ≡ rest ++ file ∷ [] → Lands (file ∷ []) b c → HasLanded all rest a c
more-landed all left rest file a b c so_far is next = record {
  landed = file ∷ so_far.landed;
  whole = so_far.whole ∙ ap (λ x. x ++ so_far.landed) is ∙ append_assoc rest (file ∷ []) so_far.landed;
  lands = lands-more file so_far.landed a b c so_far.lands next;
}

-- ---- by the states of a depot

-- one more piece
pub written-at : (spot : ℕ) (front piece whole : List ℕ) (offset : ℕ) (s0 s1 s2 : State) → length front ≡ offset → s1.spots ≡ s0.spots → IsWritten (at_spot spot s0) front s0.told s1.told
    → OneStep (MayDo {E = DepotFail} (wrote (at_spot spot s1) offset piece) (Ok (tt {0}))) s1.told s2.told → whole ≡ front ++ piece → IsWritten (at_spot spot s0) whole s0.told s2.told
written-at spot front piece whole offset s0 s1 s2 long same at does is =
    subst (λ (bytes : List ℕ). IsWritten (at_spot spot s0) bytes s0.told s2.told) (sym is)
    (written-more (tt {0}) (at_spot spot s0) front piece offset s0.told s1.told s2.told long at
    (subst (λ (path : List ℕ). OneStep (MayDo {E = DepotFail} (wrote path offset piece) (Ok (tt {0}))) s1.told s2.told) (spot_stays spot s0 s1 same) does))

-- it is no slip, whether it fails or not
pub write-slips : {T : Type 0} (F : Type 0) (r : Result T DepotFail) (spot : ℕ) (front : List ℕ) (offset count : ℕ) (s0 s1 s2 : State) → length front ≡ offset → s1.spots ≡ s0.spots
    → IsWritten (at_spot spot s0) front s0.told s1.told → SlipsWhere (is_far (at_spot spot s1) offset count) r F s1 s2 → IsFine s0 s1 → IfTold (λ t. s2.slips ≡ s0.slips) s0.told
write-slips F r spot front offset count s0 s1 s2 long same at slips fine =
    write-no_slip F r (at_spot spot s0) front offset count s0.slips s0.told s1.told s1 s2 long at
    (subst (λ (path : List ℕ). IfTold (λ t. CountsSlip (is_far path offset count t.now) r F s1 s2) s1.told) (spot_stays spot s0 s1 same) slips) fine.slips

-- all of it is synced
pub settled-at : (spot : ℕ) (bytes : List ℕ) (s0 s1 s2 : State) → s1.spots ≡ s0.spots → IsWritten (at_spot spot s0) bytes s0.told s1.told
    → OneStep (MayDo {E = Failed} (synced_at (at_spot spot s1)) (Ok (tt {0}))) s1.told s2.told → IsSettled (at_spot spot s0) bytes s0.told s2.told
settled-at spot bytes s0 s1 s2 same at does =
    settled Failed (tt {0}) (at_spot spot s0) bytes s0.told s1.told s2.told at
    (subst (λ (path : List ℕ). OneStep (MayDo {E = Failed} (synced_at path) (Ok (tt {0}))) s1.told s2.told) (spot_stays spot s0 s1 same) does)

-- an empty file stands at the path of its spot
pub needed-empty : (x : Unit {0}) (path at : List ℕ) (s0 s1 s2 : State) → OneStep (MayDo {E = DepotFail} (made path) (Ok x)) s0.told s1.told → s2.told ≡ s1.told → at ≡ path → IsEmptyAt at s2.told
needed-empty x path at s0 s1 s2 does same is =
    subst (λ (p : List ℕ). IsEmptyAt p s2.told) (sym is) (subst (λ (t : Option Told). IsEmptyAt path t) (sym same) (made-empty x path s0.told s1.told does))

-- a file that was made, entered, filled and left has landed, where it was filled
pub filled-landed : (r : Result (Unit {0}) DepotFail) (file : File) (at bytes : List ℕ) (s0 s1 s2 s3 s4 : State) → OneStep (MayDo {E = DepotFail} (made file.path) (Ok (tt {0}))) s0.told s1.told → s2.told ≡ s1.told → at ≡ file.path → bytes ≡ file.bytes
    → OnOk r (IsSettled at bytes s2.told s3.told) → s4.told ≡ s3.told → OnOk r (Lands (file ∷ []) s0.told s4.told)
filled-landed (Err e) file at bytes s0 s1 s2 s3 s4 does same is whole filled left = tt
filled-landed (Ok x) file at bytes s0 s1 s2 s3 s4 does same is whole filled left =
    landed-one (tt {0}) file at s0.told s1.told s2.told s3.told s4.told does same is (subst (λ (b : List ℕ). IsSettled at b s2.told s3.told) whole filled) left

-- where a file lands behind others nothing is a slip
pub slips-landed : (files : List File) (s0 s1 s2 : State) → Lands files s0.told s1.told → IsFine s0 s1 → IfTold (λ t. s2.slips ≡ s1.slips) s1.told → IfTold (λ t. s2.slips ≡ s0.slips) s0.told
slips-landed files s0 s1 s2 lands fine after =
    both-told (s1.slips ≡ s0.slips) (s2.slips ≡ s1.slips) (s2.slips ≡ s0.slips) s0.told (λ p q. q ∙ p) fine.slips (told-landed (s2.slips ≡ s1.slips) files s0.told s1.told lands after)
