-- A file that is sent block by block.
use Rattle.std.proofs.Common.{◌≡◌, ℕ, ◌+◌, ◌-◌, ◌<◌, ◌≤◌, min, List, [], ◌∷◌, ◌++◌, length, Option, Some, None, IfSome, IsSome, Bool, true, false, not, refl, sym, ap, ◌∙◌, arith}
use Rattle.std.proofs.lemmas.Bool.{and_parts, eq-eqb, leb-true}
use Rattle.std.proofs.lemmas.List.{length-append}
use Rattle.std.proofs.lemmas.Slice.Eq.{bytes_eq-Decides}
use Rattle.wdt_units.specs.Path.{is_reserved}
use Rattle.wdt_units.proofs.Shared.{same_some}
use Rattle.wdt_units.specs.Tree.{File, file_of}
use Rattle.wdt_tree.specs.declared.entry.Entry.{Entry}
use Rattle.wdt_tree.specs.Listing.{is_entry}
use Rattle.wdt_source.specs.Told.{is_within_file}
use Rattle.wdt_codec.specs.declared.frames.Frame.TheVariants as frames
use Rattle.wdt_codec.specs.Frames.{FitsHeader}
use Rattle.wdt_rehearsal.specs.declared.receiver.Stage.{Stage}
use Rattle.wdt_rehearsal.specs.declared.receiver.Stage.TheVariants as stages
use Rattle.wdt_rehearsal.specs.Landing.{HasSize}
use Rattle.wdt_rehearsal.specs.Received.{Landing, after_frame, is_next}
use Rattle.wdt_rehearsal.specs.Sending.{Sends, LandsFile, HasRoom, less, header_at, file_with}
use Rattle.wdt_rehearsal.proofs.Landed.{IsToldFront, told-begins, told-grows, told-within, told-ends}
use Rattle.wdt_rehearsal.proofs.Receiving.{after-first, after-next}

-- the first bytes of an entry's file landed behind the others
pub record Front (told : Option (List File)) (entry : Entry) (old now : Landing) (offset : ℕ) : Type 0 where
  pub bytes : List ℕ
  pub long : length bytes ≡ offset
  pub stage : now.stage ≡ less old.stage offset
  pub landed : now.landed ≡ old.landed ++ file_with entry bytes ∷ []
  pub front : IsToldFront told entry.path entry.size bytes

some_is : (found : Option Landing) (s : Landing) → found ≡ Some s → IsSome found
some_is None s e = absurd cc
some_is (Some x) s e = refl

-- ---- the first block

first_after : (stage : Stage) (landed : List File) (entry : Entry) (count : ℕ) (bytes : List ℕ) → HasRoom stage entry.size → count ≤ entry.size
    → after_frame stage landed (frames.Block (header_at entry 0 count)) bytes ≡ Some (record { stage = less stage count; landed = landed ++ file_with entry bytes ∷ [] })
first_after (stages.Blocks files left) landed entry count bytes room le = after-first files left landed (header_at entry 0 count) bytes (omega (arith, room.1)) refl room.0
first_after stages.Settings landed entry count bytes room le = absurd room
first_after stages.Size landed entry count bytes room le = absurd room
first_after stages.Bye landed entry count bytes room le = absurd room
first_after stages.Over landed entry count bytes room le = absurd room

-- it may come
pub may-first : (s : Landing) (entry : Entry) (count : ℕ) (bytes : List ℕ) → HasRoom s.stage entry.size → count ≤ entry.size → IsSome (after_frame s.stage s.landed (frames.Block (header_at entry 0 count)) bytes)
may-first s entry count bytes room le = some_is _ _ (first_after s.stage s.landed entry count bytes room le)

pub front-first : (told : Option (List File)) (entry : Entry) (old new : Landing) (count : ℕ) → HasRoom old.stage entry.size → count ≤ entry.size → IfSome told (λ files. HasSize (file_of files entry.path) entry.size)
    → Sends told (header_at entry 0 count) old new → Front told entry old new count
front-first told entry old new count room le size sends =
    let is : record { stage = less old.stage count; landed = old.landed ++ file_with entry sends.bytes ∷ [] } ≡ new =
    same_some _ new (sym (first_after old.stage old.landed entry count sends.bytes room le) ∙ sends.after) in
    record {
      bytes = sends.bytes;
      long = sends.long;
      stage = ap (λ (s : Landing). s.stage) (sym is);
      landed = ap (λ (s : Landing). s.landed) (sym is);
      front = told-grows told entry.path entry.size count 0 [] sends.bytes refl (told-begins told entry.path entry.size size) (record { bytes = sends.bytes; added = refl; long = sends.long; read = sends.read });
    }

-- ---- a further block

goes_on : (entry : Entry) (bytes : List ℕ) (offset count : ℕ) → length bytes ≡ offset → is_next (file_with entry bytes) (header_at entry offset count) ≡ true
goes_on entry bytes offset count long =
    rw ((bytes_eq-Decides entry.path entry.path).1 refl, eq-eqb entry.stamp entry.stamp refl, eq-eqb (length bytes) offset long) refl

next_after : (stage : Stage) (landed : List File) (entry : Entry) (offset count : ℕ) (front bytes : List ℕ) → HasRoom stage entry.size → 0 < offset → offset + count ≤ entry.size → length front ≡ offset
    → after_frame (less stage offset) (landed ++ file_with entry front ∷ []) (frames.Block (header_at entry offset count)) bytes ≡ Some (record { stage = less stage (offset + count); landed = landed ++ file_with entry (front ++ bytes) ∷ [] })
next_after (stages.Blocks files left) landed entry offset count front bytes room some le long =
    after-next (files - 1) (left - offset) landed (file_with entry front) (header_at entry offset count) bytes (omega (arith, room.1)) some (goes_on entry front offset count long)
    ∙ ap (λ n. Some (record { stage = stages.Blocks (files - 1) n; landed = landed ++ file_with entry (front ++ bytes) ∷ [] })) (let e : left - offset - count ≡ left - (offset + count) = omega arith in e)
next_after stages.Settings landed entry offset count front bytes room some le long = absurd room
next_after stages.Size landed entry offset count front bytes room some le long = absurd room
next_after stages.Bye landed entry offset count front bytes room some le long = absurd room
next_after stages.Over landed entry offset count front bytes room some le long = absurd room

next_now : (told : Option (List File)) (entry : Entry) (old now : Landing) (offset count : ℕ) (bytes : List ℕ) → (front : Front told entry old now offset) → HasRoom old.stage entry.size → 0 < offset → offset + count ≤ entry.size
    → after_frame now.stage now.landed (frames.Block (header_at entry offset count)) bytes ≡ Some (record { stage = less old.stage (offset + count); landed = old.landed ++ file_with entry (front.bytes ++ bytes) ∷ [] })
next_now told entry old now offset count bytes front room some le =
    ap (λ (s : Stage). after_frame s now.landed (frames.Block (header_at entry offset count)) bytes) front.stage
    ∙ ap (λ (l : List File). after_frame (less old.stage offset) l (frames.Block (header_at entry offset count)) bytes) front.landed
    ∙ next_after old.stage old.landed entry offset count front.bytes bytes room some le front.long

-- it may come
pub may-next : (told : Option (List File)) (entry : Entry) (old now : Landing) (offset count : ℕ) (bytes : List ℕ) → Front told entry old now offset → HasRoom old.stage entry.size → 0 < offset → offset + count ≤ entry.size
    → IsSome (after_frame now.stage now.landed (frames.Block (header_at entry offset count)) bytes)
may-next told entry old now offset count bytes front room some le = some_is _ _ (next_now told entry old now offset count bytes front room some le)

pub front-next : (told : Option (List File)) (entry : Entry) (old now new : Landing) (offset count : ℕ) → Front told entry old now offset → HasRoom old.stage entry.size → 0 < offset → offset + count ≤ entry.size
    → Sends told (header_at entry offset count) now new → Front told entry old new (offset + count)
front-next told entry old now new offset count front room some le sends =
    let is : record { stage = less old.stage (offset + count); landed = old.landed ++ file_with entry (front.bytes ++ sends.bytes) ∷ [] } ≡ new =
    same_some _ new (sym (next_now told entry old now offset count sends.bytes front room some le) ∙ sends.after) in
    record {
      bytes = front.bytes ++ sends.bytes;
      long = omega (arith, length-append front.bytes sends.bytes, front.long, sends.long);
      stage = ap (λ (s : Landing). s.stage) (sym is);
      landed = ap (λ (s : Landing). s.landed) (sym is);
      front = told-grows told entry.path entry.size count offset front.bytes (front.bytes ++ sends.bytes) (sym front.long) front.front (record { bytes = sends.bytes; added = refl; long = sends.long; read = sends.read });
    }

-- ---- the whole file

pub front-ends : (told : Option (List File)) (entry : Entry) (old now : Landing) (offset : ℕ) → Front told entry old now offset → offset ≡ entry.size → LandsFile told entry old now
front-ends told entry old now offset front e = record {
  bytes = front.bytes;
  long = front.long ∙ e;
  stage = front.stage ∙ ap (less old.stage) e;
  landed = front.landed;
  whole = told-ends told entry.path entry.size front.bytes front.front (front.long ∙ e);
}

-- ---- what each block needs

-- the header of a block of an entry is in the grammar
pub header-fits : (entry : Entry) (offset count : ℕ) → is_entry entry ≡ true → entry.stamp ≤ 18446744073709551615 → offset + count ≤ entry.size → min 1 entry.size ≤ count → count ≤ 67108864 → FitsHeader (header_at entry offset count)
header-fits entry offset count lawful stamp end some most =
    let parts = and_parts _ _ lawful in
    let names = and_parts _ _ parts.0 in
    record {
      path = names.0;
      free = not_true (is_reserved entry.path) names.1;
      size = leb-true entry.size 1099511627776 parts.1;
      stamp = stamp;
      end = end;
      some = some;
      most = most;
    }
  where
    not_true : (b : Bool) → not b ≡ true → b ≡ false
    not_true true h = cc
    not_true false h = refl

-- a block within an entry's size is within its told file
pub block-within : (told : Option (List File)) (entry : Entry) (offset count : ℕ) → IfSome told (λ files. HasSize (file_of files entry.path) entry.size) → offset + count ≤ entry.size
    → IfSome told (λ files. is_within_file files entry.path offset count ≡ true)
block-within told entry offset count size le = told-within told entry.path entry.size offset count [] (told-begins told entry.path entry.size size) le
