-- The frames of the grammar, their spellings, and how they are read.
use Rattle.std.specs.Prelude.{ℕ, ◌+◌, ◌-◌, ◌<◌, ◌≤◌, min, Bool, true, false, List, [], ◌∷◌, ◌++◌, length, Ok, ◌==◌}
use Rattle.std.specs.List.{flat_map}
use Rattle.byteorder.specs.Endian.{big_bytes}
use Rattle.wdt_units.specs.declared.blocks.Header.{Header}
use Rattle.wdt_units.specs.declared.limits.TheConstants.{MAX_BLOCK, MAX_BLOCKS, MAX_FILES, MAX_FILE_SIZE, MAX_LANES, MAX_MARKS, MAX_PATH, MAX_TOTAL}
use Rattle.wdt_units.specs.Path.{is_reserved}
-- which headers of blocks are in the grammar
pub use Rattle.wdt_units.specs.Headers.{FitsHeader}
use Rattle.wdt_codec.specs.declared.frames.Frame.{Frame}
use Rattle.wdt_codec.specs.declared.frames.Frame.TheVariants as frames
use Rattle.wdt_codec.specs.declared.frames.Mark.{Mark}
use Rattle.wdt_codec.specs.declared.frames.Settings.{Settings}
use Rattle.wdt_codec.specs.Chunks.{FitsChunks, spell_chunks, chunks_at}
use Rattle.wdt_codec.specs.Paths.{path_at}
use Rattle.wdt_codec.specs.Reading.{Reading, both, made, alt, except, unknown, times, number_at}

-- ---- which frames are in the grammar

-- what a sender may say of itself when it connects
pub record FitsSettings (s : Settings) : Type 0 where
  pub version : s.version ≤ 65535
  pub session : s.session ≤ 18446744073709551615
  pub lane : s.lane.0 < s.lanes
  pub lanes : s.lanes ≤ MAX_LANES
  pub conn : (1 ≤ s.conn.0) × (s.conn.0 ≤ 65535)
  pub block : (1 ≤ s.block) × (s.block ≤ MAX_BLOCK)

-- a count that may be told of a lane's blocks
pub record FitsMark (m : Mark) : Type 0 where
  pub lane : m.lane.0 ≤ 15
  pub count : m.count ≤ MAX_BLOCKS

-- the lanes rise from low on
abbrev pub FitMarks : ℕ → List Mark → Type 0
FitMarks low [] = Unit {0}
FitMarks low (m ∷ ms) = FitsMark m × (low ≤ m.lane.0) × FitMarks (m.lane.0 + 1) ms

-- marks that may be told together
pub record FitsMarks (ms : List Mark) : Type 0 where
  pub some : 1 ≤ length ms
  pub most : length ms ≤ MAX_MARKS
  pub rise : FitMarks 0 ms

-- a number of files and of their bytes that a transfer may have in all
pub record FitsSize (files bytes : ℕ) : Type 0 where
  pub few : files ≤ MAX_FILES
  pub small : bytes ≤ MAX_TOTAL

-- the frame is in the grammar
abbrev pub Fits : Frame → Type 0
Fits (frames.Settings s) = FitsSettings s
Fits (frames.Greeting m) = FitsMark m
Fits (frames.Size files bytes) = FitsSize files bytes
Fits (frames.Block h) = FitsHeader h
Fits frames.Done = Unit {0}
Fits (frames.Chunks files) = FitsChunks files
Fits frames.Wait = Unit {0}
Fits (frames.ErrMarks ms) = FitsMarks ms
Fits (frames.Abort code) = code ≤ 255

-- how many raw bytes follow a frame
abbrev pub owed_by : Frame → ℕ
owed_by (frames.Block h) = h.length
owed_by _ = 0

-- ---- their spellings

-- yes is 1, no is 0
abbrev pub flag : Bool → ℕ
flag true = 1
flag false = 0

-- the settings in their order, one behind the other
abbrev pub spell_settings : Settings → List ℕ
spell_settings s = big_bytes 2 s.version ++ (big_bytes 8 s.session ++ (big_bytes 1 s.lane.0 ++ (big_bytes 1 s.lanes ++ (big_bytes 2 s.conn.0 ++ (big_bytes 4 s.block ++ big_bytes 1 (flag s.ask))))))

-- the lane, and the count
abbrev pub spell_mark : Mark → List ℕ
spell_mark m = big_bytes 1 m.lane.0 ++ big_bytes 4 m.count

-- how many, and each of them
abbrev pub spell_marks : List Mark → List ℕ
spell_marks ms = big_bytes 1 (length ms) ++ flat_map spell_mark ms

-- how many files, and how many bytes
abbrev pub spell_size : ℕ → ℕ → List ℕ
spell_size files bytes = big_bytes 4 files ++ big_bytes 8 bytes

-- a block's path behind its length, the size and the stamp of its file, its offset, and its length
abbrev pub spell_header : Header → List ℕ
spell_header h = big_bytes 2 (length h.path) ++ (h.path ++ (big_bytes 8 h.size ++ (big_bytes 8 h.stamp ++ (big_bytes 8 h.offset ++ big_bytes 4 h.length))))

-- the command byte, and the fields high byte first
abbrev pub spell : Frame → List ℕ
spell (frames.Settings s) = 0x53 ∷ spell_settings s
spell (frames.Greeting m) = 0x47 ∷ spell_mark m
spell (frames.Size files bytes) = 0x5A ∷ spell_size files bytes
spell (frames.Block h) = 0x44 ∷ spell_header h
spell frames.Done = 0x4C ∷ []
spell (frames.Chunks files) = 0x43 ∷ spell_chunks files
spell frames.Wait = 0x57 ∷ []
spell (frames.ErrMarks ms) = 0x45 ∷ spell_marks ms
spell (frames.Abort code) = 0x41 ∷ big_bytes 1 code

-- ---- how they are read

-- the fields of settings as they are read: version, session, lane, lanes, connection, block, and whether it asks
abbrev pub SettingsParts : Type 0
SettingsParts = ℕ × (ℕ × (ℕ × (ℕ × (ℕ × (ℕ × ℕ)))))

-- the settings of these fields
abbrev pub settings_of : SettingsParts → Settings
settings_of (version, (session, (lane, (lanes, (conn, (block, ask)))))) = record { version = version; session = session; lane = record { 0 = lane }; lanes = lanes; conn = record { 0 = conn }; block = block; ask = ask == 1 }

-- a lane leaves room for a greater number of lanes
unfoldable pub settings_at : Reading Settings
settings_at = made settings_of (both (number_at 2 0 65535) λ version. both (number_at 8 0 18446744073709551615) λ session. both (number_at 1 0 15) λ lane. both (number_at 1 (lane + 1) MAX_LANES) λ lanes. both (number_at 2 1 65535) λ conn. both (number_at 4 1 MAX_BLOCK) λ block. number_at 1 0 1)

-- the mark of a lane and a count that were read
abbrev pub mark_of : ℕ × ℕ → Mark
mark_of (lane, count) = record { lane = record { 0 = lane }; count = count }

-- a mark of a lane from low to high
unfoldable pub mark_at : ℕ → ℕ → Reading Mark
mark_at low high = made mark_of (both (number_at 1 low high) λ lane. number_at 4 0 MAX_BLOCKS)

-- each leaves room for the lanes of those behind it
abbrev pub mark_step : ℕ → ℕ → Reading Mark
mark_step more low = mark_at low (15 - more)

-- the least lane that the next mark may be of
abbrev pub lane_after : ℕ → Mark → ℕ
lane_after low m = m.lane.0 + 1

-- so many marks of lanes from low on
abbrev pub marks_from : ℕ → ℕ → Reading (List Mark)
marks_from n low = times mark_step lane_after n low

-- the marks, without their number
abbrev pub marks_of : ℕ × List Mark → List Mark
marks_of (n, ms) = ms

-- how many marks, and each of them
unfoldable pub marks_at : Reading (List Mark)
marks_at = made marks_of (both (number_at 1 1 MAX_MARKS) λ n. marks_from n 0)

-- the frame of a number of files and of bytes that were read
abbrev pub size_of : ℕ × ℕ → Frame
size_of (files, bytes) = frames.Size files bytes

-- how many files, and how many bytes
unfoldable pub size_at : Reading (ℕ × ℕ)
size_at = both (number_at 4 0 MAX_FILES) λ files. number_at 8 0 MAX_TOTAL

-- the fields of a header as they are read: the path's length, the path, the size, the stamp, the offset, the block's length
abbrev pub HeaderParts : Type 0
HeaderParts = ℕ × (List ℕ × (ℕ × (ℕ × (ℕ × ℕ))))

-- the header of these fields
abbrev pub header_of : HeaderParts → Header
header_of (n, (path, (size, (stamp, (offset, len))))) = record { path = path; size = size; stamp = stamp; offset = offset; length = len }

-- a header: its path isn't one of the receiver's own, and its block lies in the file
unfoldable pub header_at : Reading Header
header_at = made header_of (both (number_at 2 1 MAX_PATH) λ n. both (except is_reserved (path_at n)) λ path. both (number_at 8 0 MAX_FILE_SIZE) λ size. both (number_at 8 0 18446744073709551615) λ stamp. both (number_at 8 0 (size - 1)) λ offset. number_at 4 (min 1 size) (min MAX_BLOCK (size - offset)))

-- the frame that says that nothing more comes, which has no fields
abbrev pub done_of : Unit {0} → Frame
done_of u = frames.Done

-- the frame that says that the receiver waits for other lanes, which has no fields
abbrev pub wait_of : Unit {0} → Frame
wait_of u = frames.Wait

-- nothing more
abbrev pub nothing_at : Reading (Unit {0})
nothing_at bytes = Ok (tt, bytes)

-- the code of an abort
unfoldable pub code_at : Reading ℕ
code_at = number_at 1 0 255

-- one of them by its command byte
unfoldable pub frame_at : Reading Frame
frame_at = alt 0x5A size_of size_at (alt 0x57 wait_of nothing_at (alt 0x53 frames.Settings settings_at (alt 0x4C done_of nothing_at (alt 0x47 frames.Greeting (mark_at 0 15) (alt 0x45 frames.ErrMarks marks_at (alt 0x44 frames.Block header_at (alt 0x43 frames.Chunks chunks_at (alt 0x41 frames.Abort code_at unknown))))))))
