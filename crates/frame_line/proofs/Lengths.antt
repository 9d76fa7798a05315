-- How long the lines can be. Assumes nothing.
use mathlib.Core.Bool.{Bool, true, false}
use mathlib.Core.List.{◌++◌}
use Prim.Native.Nat.{ℕ, zero, suc, ◌≤◌}
use native.Mathlib.Omega.{arith}
use lib.ListN.{length, length-append, length-replicate}
use Rattle.names.specs.Spelling.{bytes}
use Rattle.print.proofs.Decimals.{few}
use Rattle.answer.specs.declared.Frame.{Frame}
use Rattle.frame_line.specs.Lines.{modes, mode_of, lfe_of, rate_of, what_of, channels_of, sizes_of, line_of, stretch_of, sums_of, heading_of}

mode-short : (acmod : ℕ) → length (mode_of acmod) ≤ 6
unfolding mode_of modes bytes
mode-short zero = omega arith
mode-short (suc zero) = omega arith
mode-short (suc (suc zero)) = omega arith
mode-short (suc (suc (suc zero))) = omega arith
mode-short (suc (suc (suc (suc zero)))) = omega arith
mode-short (suc (suc (suc (suc (suc zero))))) = omega arith
mode-short (suc (suc (suc (suc (suc (suc zero)))))) = omega arith
mode-short (suc (suc (suc (suc (suc (suc (suc acmod))))))) = omega arith

lfe-short : (lfeon : Bool) → length (lfe_of lfeon) ≤ 4
unfolding lfe_of bytes
lfe-short true = omega arith
lfe-short false = omega arith

what-short : (f : Frame) (position : ℕ) → length (what_of f position) ≤ 113
what-short f position =
    let a = few 20 position in
    let b = few 20 f.bytes.0 in
    let c = few 20 f.strmtyp in
    let d = few 20 f.substreamid in
    simp (length-append, length-replicate) (omega arith)

sizes-short : (f : Frame) → length (sizes_of f) ≤ 85
sizes-short f =
    let a = few 20 (rate_of f.fscod) in
    let b = few 20 f.numblks in
    let c = few 20 f.fields in
    simp (length-append, length-replicate) (omega arith)

pub line-short : (f : Frame) (position : ℕ) → length (line_of f position) ≤ 256
line-short f position =
    let a = what-short f position in
    let b = mode-short f.acmod in
    let c = lfe-short f.lfeon in
    let d = sizes-short f in
    rw (length-append (what_of f position ++ channels_of f) (sizes_of f), length-append (what_of f position) (channels_of f), length-append (mode_of f.acmod) (lfe_of f.lfeon)) (omega arith)

pub stretch-short : (position n : ℕ) → length (stretch_of position n) ≤ 256
unfolding stretch_of bytes
stretch-short position n =
    let a = few 20 position in
    let b = few 20 n in
    simp (length-append, length-replicate) (omega arith)

pub sums-short : (frames all passed : ℕ) → length (sums_of frames all passed) ≤ 256
unfolding sums_of bytes
sums-short frames all passed =
    let a = few 20 frames in
    let b = few 20 all in
    let c = few 20 passed in
    simp length-append (omega arith)

pub heading-short : length heading_of ≤ 256
unfolding heading_of bytes
heading-short = omega arith
