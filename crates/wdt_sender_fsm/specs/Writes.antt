-- What a lane is given to write lies in the grammar's ranges.
use Rattle.std.specs.Prelude.{◌≡◌, ℕ, ◌-◌, ◌^◌, ◌≤◌, List, length, slice_get, sum_by, Some}
use Rattle.wdt_units.specs.declared.blocks.Header.{Header}
use Rattle.wdt_units.specs.declared.limits.TheConstants.{MAX_BLOCK, MAX_CONNECTIONS, MAX_LANES}
use Rattle.wdt_codec.specs.Frames.{Fits, FitsHeader}
use Rattle.wdt_codec.specs.declared.frames.Frame.{Frame}
use Rattle.wdt_codec.specs.declared.frames.Frame.TheVariants as frames
use Rattle.wdt_tree.specs.Listing.{IsManifest, size_of}
use Rattle.wdt_tree.specs.declared.entry.Entry.{Entry}
use Rattle.wdt_sender_fsm.specs.declared.acts.SendAct.{SendAct}
use Rattle.wdt_sender_fsm.specs.declared.acts.SendAct.TheVariants as acts
use Rattle.wdt_sender_fsm.specs.PlainSender.{PlainSender}

-- a sender within the limits: 1 to 16 lanes, blocks of 1 to 67,108,864 bytes, the number of the transfer
-- one of 64 bits, and a lawful tree
pub record IsLawful (s : PlainSender) : Type 0 where
  pub lanes : (1 ≤ length s.lanes) × (length s.lanes ≤ MAX_LANES)
  pub block : (1 ≤ s.block) × (s.block ≤ MAX_BLOCK)
  pub session : s.session ≤ 2 ^ 64 - 1
  pub manifest : IsManifest s.manifest

-- a header is that of a part of one of the files
pub record IsPartOf (manifest : List Entry) (header : Header) : Type 0 where
  pub file : ℕ
  pub entry : Entry
  pub there : slice_get manifest file ≡ Some entry
  pub path : header.path ≡ entry.path
  pub size : header.size ≡ entry.size
  pub stamp : header.stamp ≡ entry.stamp

-- a frame that a sender of this tree writes: what it is, what is sent in all, that nothing more is to come
-- or its answer to that, or that it has failed; no other
abbrev pub IsOwnFrame : List Entry → Frame → Type 0
IsOwnFrame manifest (frames.Settings settings) = Unit {0}
IsOwnFrame manifest (frames.Size files bytes) = (files ≡ length manifest) × (bytes ≡ sum_by size_of manifest)
IsOwnFrame manifest frames.Done = Unit {0}
IsOwnFrame manifest (frames.Abort code) = Unit {0}
IsOwnFrame manifest frame = ⊥

-- an act of a sender of this tree. That a header's stamp is one of 64 bits is said by its type.
abbrev pub FitsAct : List Entry → SendAct → Type 0
FitsAct manifest (acts.Dial conn) = (1 ≤ conn.0) × (conn.0 ≤ MAX_CONNECTIONS)
FitsAct manifest (acts.Write frame) = Fits frame × IsOwnFrame manifest frame
FitsAct manifest (acts.SendBlock header) = (header.stamp ≤ 2 ^ 64 - 1 → FitsHeader header) × IsPartOf manifest header
FitsAct manifest _ = Unit {0}
