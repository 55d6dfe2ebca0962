-- Each frame's reading is exact.
use Rattle.std.proofs.Common.{◌≡◌, ℕ, zero, suc, ◌+◌, ◌-◌, ◌≤◌, min, Bool, true, false, List, [], ◌∷◌, ◌++◌, length, refl, ap, subst, arith, inl, inr, ◌⊎◌}
use Rattle.std.specs.Prelude.{◌==◌}
use Rattle.std.specs.Int.{bytes_high_first}
use Rattle.std.specs.List.{flat_map}
use Rattle.wdt_units.specs.declared.blocks.Header.{Header}
use Rattle.wdt_units.proofs.Shared.{lawful}
use Rattle.wdt_codec.specs.declared.frames.Frame.{Frame}
use Rattle.wdt_codec.specs.declared.frames.Frame.TheVariants as frames
use Rattle.wdt_codec.specs.declared.frames.Mark.{Mark}
use Rattle.wdt_codec.specs.declared.frames.Settings.{Settings}
use Rattle.wdt_codec.specs.Chunks.{FitsChunks}
use Rattle.wdt_codec.specs.Frames.{FitsSettings, FitsMark, FitMarks, FitsMarks, FitsSize, FitsHeader, Fits, flag, spell_settings, spell_mark, spell_marks, spell_size, spell_header, spell, SettingsParts, settings_of, settings_at, mark_of, mark_at, mark_step, lane_after, marks_of, marks_at, size_of, size_at, HeaderParts, header_of, header_at, done_of, wait_of, nothing_at, code_at, frame_at}
use Rattle.wdt_codec.proofs.HaveExact.{chunks-exact}
use Rattle.wdt_codec.proofs.Field.{IsExact, FitTimes, times-exact, both-exact, made-exact, alt-exact, alt-choice, no-choice, nothing-exact, same-exact}
use Rattle.wdt_codec.proofs.Digits.{Within, number-exact}
use Rattle.wdt_codec.proofs.PathField.{free_path-exact}

flag_of : (n : ℕ) → n ≤ 1 → flag (n == 1) ≡ n
flag_of zero h = refl
flag_of (suc zero) h = refl
flag_of (suc (suc n)) h = absurd (omega arith)

flag_back : (b : Bool) → (flag b == 1) ≡ b
flag_back true = refl
flag_back false = refl

flag_small : (b : Bool) → flag b ≤ 1
flag_small true = omega arith
flag_small false = omega arith

settings_spelled : (a : SettingsParts) → a.1.1.1.1.1.1 ≤ 1 → spell_settings (settings_of a) ≡ bytes_high_first 2 a.0 ++ (bytes_high_first 8 a.1.0 ++ (bytes_high_first 1 a.1.1.0 ++ (bytes_high_first 1 a.1.1.1.0 ++ (bytes_high_first 2 a.1.1.1.1.0 ++ (bytes_high_first 4 a.1.1.1.1.1.0 ++ bytes_high_first 1 a.1.1.1.1.1.1)))))
settings_spelled a h = ap (λ n. bytes_high_first 2 a.0 ++ (bytes_high_first 8 a.1.0 ++ (bytes_high_first 1 a.1.1.0 ++ (bytes_high_first 1 a.1.1.1.0 ++ (bytes_high_first 2 a.1.1.1.1.0 ++ (bytes_high_first 4 a.1.1.1.1.1.0 ++ bytes_high_first 1 n)))))) (flag_of a.1.1.1.1.1.1 h)

settings_back : (s : Settings) → settings_of (s.version, (s.session, (s.lane.0, (s.lanes, (s.conn.0, (s.block, flag s.ask)))))) ≡ s
settings_back s = ap (λ (b : Bool). record s { ask = b }) (flag_back s.ask)

pub settings-exact : IsExact FitsSettings spell_settings settings_at
unfolding settings_at
settings-exact =
    made-exact settings_of FitsSettings spell_settings
    (both-exact (number-exact 2 0 65535 (omega arith) (omega arith)) λ version h1.
    both-exact (number-exact 8 0 18446744073709551615 (omega arith) (omega arith)) λ session h2.
    both-exact (number-exact 1 0 15 (omega arith) (omega arith)) λ lane h3.
    both-exact (number-exact 1 (lane + 1) 16 (omega (arith, h3.1)) (omega arith)) λ lanes h4.
    both-exact (number-exact 2 1 65535 (omega arith) (omega arith)) λ conn h5.
    both-exact (number-exact 4 1 67108864 (omega arith) (omega arith)) λ block h6.
    number-exact 1 0 1 (omega arith) (omega arith))
    (λ a h. (
      record {
        version = h.0.1;
        session = h.1.0.1;
        lane = omega (arith, h.1.1.1.0.0);
        lanes = h.1.1.1.0.1;
        conn = h.1.1.1.1.0;
        block = h.1.1.1.1.1.0;
      },
      settings_spelled a h.1.1.1.1.1.1.1,
    ))
    (λ s f. (
      (s.version, (s.session, (s.lane.0, (s.lanes, (s.conn.0, (s.block, flag s.ask)))))),
      ((omega arith, f.version), ((omega arith, f.session), ((omega arith, omega (arith, f.lane, f.lanes)), ((omega (arith, f.lane), f.lanes), (f.conn, (f.block, (omega arith, flag_small s.ask))))))),
      settings_back s,
    ))

-- ---- marks

-- a mark of a lane from low to high
abbrev pub FitsMarkFrom : ℕ → ℕ → Mark → Type 0
FitsMarkFrom low high m = Within low high m.lane.0 × Within 0 1048576 m.count

pub mark-exact : (low high : ℕ) → low ≤ high → high ≤ 15 → IsExact (FitsMarkFrom low high) spell_mark (mark_at low high)
unfolding mark_at
mark-exact low high le small =
    made-exact mark_of (FitsMarkFrom low high) spell_mark
    (both-exact (number-exact 1 low high le (omega arith)) λ lane h. number-exact 4 0 1048576 (omega arith) (omega arith))
    (λ a h. (h, refl))
    (λ m f. ((m.lane.0, m.count), f, refl))

abbrev FitMarksOf : ℕ → ℕ → List Mark → Type 0
FitMarksOf n low ms = (length ms ≡ n) × FitMarks low ms

-- so many marks leave room
room : (low : ℕ) (ms : List Mark) → low ≤ 16 → FitMarks low ms → low + length ms ≤ 16
room low [] le h = omega arith
room low (m ∷ ms) le h = let r = room (m.lane.0 + 1) ms (omega (arith, h.0.lane)) h.2 in omega (arith, r, h.1)

fit_to : (n low : ℕ) (ms : List Mark) → low + n ≤ 16 → FitTimes (λ more low. FitsMarkFrom low (15 - more)) lane_after n low ms → FitMarksOf n low ms
fit_to zero low [] h f = (refl, tt)
fit_to zero low (m ∷ ms) h f = absurd f
fit_to (suc n) low [] h f = absurd f
fit_to (suc n) low (m ∷ ms) h f =
    let r = fit_to n (m.lane.0 + 1) ms (omega (arith, f.0.0)) f.1 in
    (ap suc r.0, (record { lane = omega (arith, f.0.0); count = f.0.1.1 }, f.0.0.0, r.1))

fit_from : (n low : ℕ) (ms : List Mark) → FitMarksOf n low ms → FitTimes (λ more low. FitsMarkFrom low (15 - more)) lane_after n low ms
fit_from zero low [] f = tt
fit_from zero low (m ∷ ms) f = absurd (omega (arith, f.0))
fit_from (suc n) low [] f = absurd (omega (arith, f.0))
fit_from (suc n) low (m ∷ ms) f =
    let len : length ms ≡ n = omega (arith, f.0) in
    let r = room (m.lane.0 + 1) ms (omega (arith, f.1.0.lane)) f.1.2 in
    (((f.1.1, omega (arith, r, len)), (omega arith, f.1.0.count)), fit_from n (m.lane.0 + 1) ms (len, f.1.2))

pub marks-exact : IsExact FitsMarks spell_marks marks_at
unfolding marks_at
marks-exact =
    made-exact marks_of FitsMarks spell_marks
    (both-exact (number-exact 1 1 15 (omega arith) (omega arith)) λ n h.
    times-exact (λ n low. low + n ≤ 16) (λ more low. FitsMarkFrom low (15 - more)) spell_mark mark_step lane_after
    (λ n low g. mark-exact low (15 - n) (omega arith) (omega arith))
    (λ n low m g f. omega (arith, f.0)) n 0 (omega (arith, h.1)))
    (λ a f. let r = fit_to a.0 0 a.1 (omega (arith, f.0.1)) f.1 in (record { some = omega (arith, f.0.0, r.0); most = omega (arith, f.0.1, r.0); rise = r.1 }, ap (λ n. bytes_high_first 1 n ++ flat_map spell_mark a.1) r.0))
    (λ ms f. ((length ms, ms), ((f.some, f.most), fit_from (length ms) 0 ms (refl, f.rise)), refl))

abbrev FitsSizeParts : ℕ × ℕ → Type 0
FitsSizeParts a = Within 0 262144 a.0 × Within 0 1125899906842624 a.1

pub size-exact : IsExact FitsSizeParts (λ (a : ℕ × ℕ). spell_size a.0 a.1) size_at
unfolding size_at
size-exact = both-exact (number-exact 4 0 262144 (omega arith) (omega arith)) λ files h. number-exact 8 0 1125899906842624 (omega arith) (omega arith)

header_spelled : (a : HeaderParts) → length a.1.0 ≡ a.0 → spell_header (header_of a) ≡ bytes_high_first 2 a.0 ++ (a.1.0 ++ (bytes_high_first 8 a.1.1.0 ++ (bytes_high_first 8 a.1.1.1.0 ++ (bytes_high_first 8 a.1.1.1.1.0 ++ bytes_high_first 4 a.1.1.1.1.1))))
header_spelled a e = ap (λ n. bytes_high_first 2 n ++ (a.1.0 ++ (bytes_high_first 8 a.1.1.0 ++ (bytes_high_first 8 a.1.1.1.0 ++ (bytes_high_first 8 a.1.1.1.1.0 ++ bytes_high_first 4 a.1.1.1.1.1))))) e

pub header-exact : IsExact FitsHeader spell_header header_at
unfolding header_at
header-exact =
    made-exact header_of FitsHeader spell_header
    (both-exact (number-exact 2 1 1024 (omega arith) (omega arith)) λ n hn.
    both-exact (free_path-exact n hn.0 hn.1) λ path hp.
    both-exact (number-exact 8 0 1099511627776 (omega arith) (omega arith)) λ size hs.
    both-exact (number-exact 8 0 18446744073709551615 (omega arith) (omega arith)) λ stamp ht.
    both-exact (number-exact 8 0 (size - 1) (omega arith) (omega (arith, hs.1))) λ offset ho.
    number-exact 4 (min 1 size) (min 67108864 (size - offset)) (omega (arith, ho.1)) (omega arith))
    (λ a h. (
      record {
        path = h.1.0.0.1;
        free = h.1.0.1;
        size = h.1.1.0.1;
        stamp = h.1.1.1.0.1;
        end = omega (arith, h.1.1.1.1.0.1, h.1.1.1.1.1.1);
        some = h.1.1.1.1.1.0;
        most = omega (arith, h.1.1.1.1.1.1);
      },
      header_spelled a h.1.0.0.0,
    ))
    (λ h f. (
      (length h.path, (h.path, (h.size, (h.stamp, (h.offset, h.length))))),
      ((path_some h f, path_most h f), (((refl, f.path), f.free), ((omega arith, f.size), ((omega arith, f.stamp), ((omega arith, omega (arith, f.end, f.some)), (f.some, omega (arith, f.end, f.most))))))),
      refl,
    )) where
      path_some : (h : Header) → FitsHeader h → 1 ≤ length h.path
      path_some h f = ((lawful h.path).0 f.path).some

      path_most : (h : Header) → FitsHeader h → length h.path ≤ 1024
      path_most h f = ((lawful h.path).0 f.path).most

-- ---- frames

none-exact : IsExact (λ (u : Unit {0}). u ≡ tt) (λ (u : Unit {0}). []) nothing_at
none-exact = nothing-exact tt

code-exact : IsExact (Within 0 255) (λ n. bytes_high_first 1 n) code_at
unfolding code_at
code-exact = number-exact 1 0 255 (omega arith) (omega arith)

-- a frame of one alternative
abbrev One : {A : Type 0} → (A → Frame) → (A → Type 0) → Frame → Type 0
One {A} make F c = (a : A) × F a × (make a ≡ c)

abbrev IsNothing : Unit {0} → Type 0
IsNothing u = u ≡ tt

abbrev AnyOf : Frame → Type 0
AnyOf c = One size_of FitsSizeParts c ⊎ (One wait_of IsNothing c ⊎ (One frames.Settings FitsSettings c ⊎ (One done_of IsNothing c ⊎ (One frames.Greeting (FitsMarkFrom 0 15) c ⊎ (One frames.ErrMarks FitsMarks c ⊎ (One frames.Block FitsHeader c ⊎ (One frames.Chunks FitsChunks c ⊎ (One frames.Abort (Within 0 255) c ⊎ ⊥))))))))

any_to : (c : Frame) → AnyOf c → Fits c
any_to c (inl (a, f, e)) = let g : FitsSize a.0 a.1 = record { few = f.0.1; small = f.1.1 } in subst Fits e g
any_to c (inr (inl (u, f, e))) = subst Fits e tt
any_to c (inr (inr (inl (s, f, e)))) = subst Fits e f
any_to c (inr (inr (inr (inl (u, f, e))))) = subst Fits e tt
any_to c (inr (inr (inr (inr (inl (m, f, e)))))) = let g : FitsMark m = record { lane = f.0.1; count = f.1.1 } in subst Fits e g
any_to c (inr (inr (inr (inr (inr (inl (ms, f, e))))))) = subst Fits e f
any_to c (inr (inr (inr (inr (inr (inr (inl (h, f, e)))))))) = subst Fits e f
any_to c (inr (inr (inr (inr (inr (inr (inr (inl (fs, f, e))))))))) = subst Fits e f
any_to c (inr (inr (inr (inr (inr (inr (inr (inr (inl (n, f, e)))))))))) = subst Fits e f.1
any_to c (inr (inr (inr (inr (inr (inr (inr (inr (inr h))))))))) = absurd h

any_from : (c : Frame) → Fits c → AnyOf c
any_from (frames.Size files bytes) f = inl ((files, bytes), ((omega arith, f.few), (omega arith, f.small)), refl)
any_from frames.Wait f = inr (inl (tt, refl, refl))
any_from (frames.Settings s) f = inr (inr (inl (s, f, refl)))
any_from frames.Done f = inr (inr (inr (inl (tt, refl, refl))))
any_from (frames.Greeting m) f = inr (inr (inr (inr (inl (m, ((omega arith, f.lane), (omega arith, f.count)), refl)))))
any_from (frames.ErrMarks ms) f = inr (inr (inr (inr (inr (inl (ms, f, refl))))))
any_from (frames.Block h) f = inr (inr (inr (inr (inr (inr (inl (h, f, refl)))))))
any_from (frames.Chunks fs) f = inr (inr (inr (inr (inr (inr (inr (inl (fs, f, refl))))))))
any_from (frames.Abort n) f = inr (inr (inr (inr (inr (inr (inr (inr (inl (n, (omega arith, f), refl)))))))))

choices : IsExact AnyOf spell frame_at
unfolding frame_at
choices =
    alt-exact 0x5A size_of (omega arith) size-exact
    (alt-choice 0x57 wait_of (omega arith) none-exact
    (alt-choice 0x53 frames.Settings (omega arith) settings-exact
    (alt-choice 0x4C done_of (omega arith) none-exact
    (alt-choice 0x47 frames.Greeting (omega arith) (mark-exact 0 15 (omega arith) (omega arith))
    (alt-choice 0x45 frames.ErrMarks (omega arith) marks-exact
    (alt-choice 0x44 frames.Block (omega arith) header-exact
    (alt-choice 0x43 frames.Chunks (omega arith) chunks-exact
    (alt-choice 0x41 frames.Abort (omega arith) code-exact (no-choice spell) (λ n. refl))
    (λ fs. refl)) (λ h. refl)) (λ ms. refl)) (λ m. refl)) (λ u. refl)) (λ s. refl)) (λ u. refl)) (λ a. refl)

pub frame-exact : IsExact Fits spell frame_at
frame-exact = same-exact choices any_to any_from
