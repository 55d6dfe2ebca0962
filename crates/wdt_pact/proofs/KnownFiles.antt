-- The files that the receiver knows have the sizes and stamps of the tree's.
use Rattle.std.proofs.Common.{◌≡◌, inl, inr, ℕ, zero, suc, ◌+◌, ◌-◌, ◌==◌, ◌&&◌, not, Bool, true, false, cond, List, [], ◌∷◌, ◌++◌, Option, Some, None, is_some, subst, sym, ap, ◌∙◌, refl, eqb-true, eq-eqb}
use Rattle.std.specs.Prelude.{find, if◌then◌else◌}
use Rattle.std.specs.Option.{option_map}
use Rattle.std.proofs.lemmas.Bool.{and_parts, both_ways}
use Rattle.std.proofs.lemmas.Option.{same_Some}
use Rattle.wdt_units.specs.Have.{HaveFile}
use Rattle.wdt_units.specs.Tree.{is_before}
use Rattle.wdt_units.specs.declared.blocks.Header.{Header}
use Rattle.wdt_logfmt.specs.Beginning.{BeginFault, KnownFile, SizeDiffers, block_of, empty_slots, free_number, known_at, known_files, number_by, number_of, size_fault, size_fault_by, slots_from}
use Rattle.wdt_logfmt.specs.View.{NamedFile, have_of, put_by_path}
use Rattle.wdt_logfmt.proofs.ForCallers.{HasNumber, new_slot, number_found}
use Rattle.wdt_rest.specs.Fitting.{first_unfit, fits, found_in, has_found}
use Rattle.wdt_tree.specs.declared.entry.Entry.{Entry}
use Rattle.wdt_sender_fsm.specs.Chunks.{refusal, refusal_after, stale_of}
use Rattle.wdt_sender_fsm.specs.declared.answers.RefusedKind.{RefusedKind}
use Rattle.wdt_receiver_fsm.specs.declared.events.RecvEvent.{RecvEvent}
use Rattle.wdt_receiver_fsm.specs.PlainReceiver.{have_now}
use Rattle.wdt_pact.specs.Each.{Each}
use Rattle.wdt_pact.specs.Meeting.{IsKnownOf}

-- ---- the files of a log, by their slots

abbrev pub known_of : NamedFile → KnownFile
known_of f = record { path = f.have.path; size = f.have.size; stamp = f.have.stamp }

slot_is : (P : KnownFile → Type 0) (gap : ℕ) (x : KnownFile) (rest : List (Option KnownFile)) (k : ℕ) (file : KnownFile) → P x → ((j : ℕ) → known_at rest j ≡ Some file → P file)
    → known_at (empty_slots gap ++ Some x ∷ rest) k ≡ Some file → P file
slot_is P zero x rest zero file here later e = subst P (same_Some x file e) here
slot_is P zero x rest (suc k) file here later e = later k e
slot_is P (suc gap) x rest zero file here later e = cc
slot_is P (suc gap) x rest (suc k) file here later e = slot_is P gap x rest k file here later e

slots_are : (P : KnownFile → Type 0) (n : ℕ) (fs : List NamedFile) (k : ℕ) (file : KnownFile) → Each (λ (f : NamedFile). P (known_of f)) fs → known_at (slots_from n fs) k ≡ Some file → P file
slots_are P n [] k file each e = cc
slots_are P n (f ∷ fs) k file each e = slot_is P (f.number - n) (known_of f) (slots_from (f.number + 1) fs) k file each.0 (λ j at. slots_are P (f.number + 1) fs j file each.1 at) e

-- ---- a have without a stale file

pub none_stale : (tree : List Entry) (have : List HaveFile) → first_unfit tree have ≡ None → Each (λ (f : HaveFile). fits tree f ≡ true) have
none_stale tree [] none = tt
none_stale tree (f ∷ fs) none = go (none_stale tree fs) (fits tree f) refl where
  go : (first_unfit tree fs ≡ None → Each (λ (g : HaveFile). fits tree g ≡ true) fs) → (b : Bool) → fits tree f ≡ b → Each (λ (g : HaveFile). fits tree g ≡ true) (f ∷ fs)
  go later true is = (is, later (sym (ap (λ (c : Bool). cond (not c) (Some f) (first_unfit tree fs)) is) ∙ none))
  go later false is = let e : Some f ≡ None = sym (ap (λ (c : Bool). cond (not c) (Some f) (first_unfit tree fs)) is) ∙ none in cc

put_each : (P : HaveFile → Type 0) (f : HaveFile) (gs : List HaveFile) → Each P (put_by_path f gs) → P f × Each P gs
put_each P f [] e = e
put_each P f (g ∷ gs) e = go (put_each P f gs) (is_before f.path g.path) e where
  go : (Each P (put_by_path f gs) → P f × Each P gs) → (b : Bool) → Each P (if b then f ∷ g ∷ gs else g ∷ put_by_path f gs) → P f × Each P (g ∷ gs)
  go later true x = x
  go later false x = let y = later x.1 in (y.0, (x.0, y.1))

have_each : (P : HaveFile → Type 0) (fs : List NamedFile) → Each P (have_of fs) → Each (λ (f : NamedFile). P f.have) fs
have_each P [] e = tt
have_each P (f ∷ fs) e = let x = put_each P f.have (have_of fs) e in (x.0, have_each P fs x.1)

-- a file of the tree is found as it is
fits_found : (tree : List Entry) (file : HaveFile) → fits tree file ≡ true → found_in tree file.path ≡ Some (file.size, file.stamp)
fits_found tree file e = go (found_in tree file.path) refl e where
  go : (o : Option (ℕ × ℕ)) → found_in tree file.path ≡ o → has_found o file ≡ true → found_in tree file.path ≡ Some (file.size, file.stamp)
  go None is x = cc
  go (Some found) is x =
      let parts = and_parts (found.0 == file.size) (found.1 == file.stamp) x in
      is ∙ (ap (λ (n : ℕ). Some (n, found.1)) (eqb-true found.0 file.size parts.0) ∙ ap (λ (n : ℕ). Some (file.size, n)) (eqb-true found.1 file.stamp parts.1))

all_found : (tree : List Entry) (fs : List NamedFile) → Each (λ (f : NamedFile). fits tree f.have ≡ true) fs → Each (λ (f : NamedFile). found_in tree (known_of f).path ≡ Some ((known_of f).size, (known_of f).stamp)) fs
all_found tree [] e = tt
all_found tree (f ∷ fs) e = (fits_found tree f.have e.0, all_found tree fs e.1)

-- a tree that isn't refused has no stale file
pub unrefused : (tree : List Entry) (have : List HaveFile) (block : ℕ) → refusal tree have block ≡ None → first_unfit tree have ≡ None
unrefused tree have block e = go (first_unfit tree have) refl where
  go : (o : Option HaveFile) → first_unfit tree have ≡ o → o ≡ None
  go None is = refl
  go (Some f) is =
      let x : Some (stale_of tree f) ≡ None = sym (ap (λ (o : Option HaveFile). refusal_after tree have block (option_map (stale_of tree) o)) is) ∙ e in
      cc

pub had : (opening : List NamedFile) (g : List RecvEvent) → have_now opening g ≡ have_of opening
unfolding have_now
had opening g = refl

-- ---- each known file

pub known_found : (tree : List Entry) (opening : List NamedFile) (g : List RecvEvent) (file : KnownFile) → first_unfit tree (have_now opening g) ≡ None → IsKnownOf tree opening file
    → found_in tree file.path ≡ Some (file.size, file.stamp)
known_found tree opening g file fresh (inl found) = found
known_found tree opening g file fresh (inr x) =
    slots_are (λ (f : KnownFile). found_in tree f.path ≡ Some (f.size, f.stamp)) 0 opening x.0 file
    (all_found tree opening (have_each (λ (f : HaveFile). fits tree f ≡ true) opening (none_stale tree (have_of opening) (ap (first_unfit tree) (sym (had opening g)) ∙ fresh)))) x.1

-- a header of a file of the tree tells what is known of it
pub size_right : (known : List (Option KnownFile)) (tree : List Entry) (h : Header) → ((n : ℕ) (file : KnownFile) → known_at known n ≡ Some file → found_in tree file.path ≡ Some (file.size, file.stamp))
    → found_in tree h.path ≡ Some (h.size, h.stamp) → size_fault known h ≡ None
size_right known tree h files found = go (number_of known h.path) refl where
  same : (n : ℕ) → HasNumber known h.path n → size_fault_by (known_at known n) h ≡ None
  same n x =
      let e : (x.file.size, x.file.stamp) ≡ (h.size, h.stamp) = same_Some (x.file.size, x.file.stamp) (h.size, h.stamp) (sym (files n x.file x.there) ∙ (ap (found_in tree) x.path_is ∙ found)) in
      let size : x.file.size ≡ h.size = ap (λ (y : ℕ × ℕ). y.0) e in
      let stamp : x.file.stamp ≡ h.stamp = ap (λ (y : ℕ × ℕ). y.1) e in
      ap (λ (o : Option KnownFile). size_fault_by o h) x.there ∙ rw (eq-eqb x.file.size h.size size, eq-eqb x.file.stamp h.stamp stamp) refl

  go : (o : Option ℕ) → number_of known h.path ≡ o → size_fault known h ≡ None
  go None is = ap (λ (o : Option ℕ). size_fault_by (known_at known (number_by known o)) h) is ∙ ap (λ (o : Option KnownFile). size_fault_by o h) (new_slot known record { path = []; size = 0; stamp = 0 }).free
  go (Some n) is = ap (λ (o : Option ℕ). size_fault_by (known_at known (number_by known o)) h) is ∙ same n (number_found known h.path n is)
