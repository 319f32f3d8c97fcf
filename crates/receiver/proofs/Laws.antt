-- Laws on the definitions of specs/ that several proofs cite, or one function's.
-- Assumes nothing.
use Prim.Native.Nat.{ℕ, ◌+◌, ◌-◌, ◌*◌, ◌<◌, ◌≤◌}
use mathlib.Core.Path.{◌≡◌, refl, sym, ap, ◌∙◌}
use mathlib.Core.Bool.{true, ◌&&◌}
use mathlib.Core.List.{List, ◌++◌, append-nil, append_assoc}
use native.Mathlib.Nat.{le_refl}
use native.Mathlib.Omega.{arith}
use borrow.Author.Tests.{leb-true}
use borrow.Rule.Slice.PartMut.{put_mid}
use lib.Dec.{leb}
use lib.ListN.{length, take, drop, length-drop, drop_of_length-le}
use lib.Seq.{drop-drop, take_all, paste}
use Rattle.std.specs.Prelude.{Err}
use Rattle.std.specs.declared.result.Result as answers
use Rattle.frame.specs.Result.{refused, number_of, told_result}
use Rattle.frame.specs.Result as result
use Rattle.frame.proofs.Choice.{read_elim, both_left, both_right}
use Rattle.frame.specs.Count.{within}
use Rattle.frame.specs.Frames.{carried}
use Rattle.frame.specs.Reading.{read_of}
use Rattle.frame.specs.declared.Frame.{Frame}
use Rattle.frame.specs.declared.Parsed.{Parsed}
use Rattle.frame.specs.declared.refusal.Refusal.{Refusal}
use Rattle.receiver.specs.Hear.{storing}
use Rattle.receiver.specs.Make.{settings_fit, idle_with}
use Rattle.receiver.specs.Reachable.{SettingsWithin}

-- ---- making

-- a number within its limits
low_of : (low x high : ℕ) → within low x high ≡ true → low ≤ x
low_of low x high e = leb-true _ _ (both_left (leb low x) (leb x high) e)

high_of : (low x high : ℕ) → within low x high ≡ true → x ≤ high
high_of low x high e = leb-true _ _ (both_right (leb low x) (leb x high) e)

-- settings that fit are within their limits
pub settings_within : (timeout window capacity : ℕ) → settings_fit timeout window capacity ≡ true
    → SettingsWithin (idle_with timeout window capacity).settings
settings_within timeout window capacity e =
    let t = both_left (within 1 timeout 10000) (within 1 window 255 && within 9 capacity 1785) e in
    let rest = both_right (within 1 timeout 10000) (within 1 window 255 && within 9 capacity 1785) e in
    let w = both_left (within 1 window 255) (within 9 capacity 1785) rest in
    let k = both_right (within 1 window 255) (within 9 capacity 1785) rest in
    record {
      timeout_low = low_of 1 timeout 10000 t;
      timeout_high = high_of 1 timeout 10000 t;
      window_low = low_of 1 window 255 w;
      window_high = high_of 1 window 255 w;
      capacity_low = low_of 9 capacity 1785 k;
      capacity_high = high_of 9 capacity 1785 k;
    }

-- ---- storing

-- what was copied into the part that starts at a place, seen in the whole
pub part_back : (buffer source part : List ℕ) (at room count size : ℕ) → length source ≤ size → length buffer ≡ room + at
    → part ≡ take count (take size source) ++ drop count (take room (drop at buffer))
    → put_mid at room buffer part ≡ paste buffer at source count
part_back buffer source part at room count size fits lent e =
    let whole : length (drop at buffer) ≤ room = rw length-drop (omega (arith, lent)) in
    rw (e, take_all size source fits, take_all _ (drop at buffer) whole)
    (rw (drop_of_length-le (drop at buffer) whole, append-nil, drop-drop, append_assoc))

pub stores : (buffer bytes part : List ℕ) (number total before count : ℕ) → length buffer ≡ 1785 → number < 256
    → part
    ≡ take count (take (length bytes - 1) (drop 1 bytes)) ++ drop count (take (1785 - 7 * before) (drop (7 * before) buffer))
    → before ≡ number - 1
    → count ≡ carried number total
    → put_mid (7 * before) (1785 - 7 * before) buffer part ≡ storing buffer number total (drop 1 bytes)
unfolding storing
stores buffer bytes part number total before count lent byte e b n =
    let fits : length (drop 1 bytes) ≤ length bytes - 1 = rw length-drop (le_refl _) in
    part_back buffer (drop 1 bytes) part (7 * before) (1785 - 7 * before) count (length bytes - 1) fits (omega (arith, lent, b)) e ∙ cc

-- ---- a hearing

-- a reading that fails is that of a frame refused 6
pub unread : (f : Frame) (l : ℕ) (reading : answers.Result Parsed Refusal) {refusal : Refusal} → told_result reading ≡ read_of f l
    → reading ≡ Err refusal
    → read_of f l ≡ refused 6
unread f l reading {refusal} e is =
    read_elim (λ (j : result.Result Parsed). refused (number_of refusal) ≡ j → j ≡ refused 6) f l (λ e. cc) (λ e. refl)
    (sym (ap told_result is) ∙ e)
