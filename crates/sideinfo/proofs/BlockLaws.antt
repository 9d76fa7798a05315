-- What is derived in a block. Assumes nothing.
use Prim.Native.Nat.{ℕ, zero, suc, ◌+◌, ◌≤◌}
use mathlib.Core.Bool.{Bool, ◌&&◌, ◌||◌}
use mathlib.Core.Path.{◌≡◌, refl, sym, ap, ap₂, ◌∙◌}
use mathlib.Core.List.{List}
use native.Mathlib.Omega.{arith}
use lib.ListN.{take}
use Rattle.std.specs.List.{list_any, range_with_len}
use Rattle.std.proofs.lemmas.List.{take_all}
use Rattle.std.proofs.lemmas.List.Folds.{list_any_more}
use Rattle.std.proofs.lemmas.List.FromFn.{length-range_with_len, get_or-range_with_len}
use Rattle.cells.specs.Cells.{cell_of, put_in}
use Rattle.cells.specs.Names.{AHT_READ, AHT_TAGS, AHTINU, LFEON, TAGS}
use Rattle.sideinfo.specs.Steps.{each_of}
use Rattle.sideinfo.specs.Blocks.{flag_of, marked_in, unknown_of, unknown_in, channels_of, read_of, slot_bits_of, aht_read_by}

-- one of the first k channels of n, and one of all of them, is such
unknown-so_far : (m : List ℕ) (n k : ℕ) → k ≤ n → list_any (unknown_of m) (take k (range_with_len 0 n)) ≡ unknown_in m k
unfolding unknown_in
unknown-so_far m n zero h = refl
unknown-so_far m n (suc k) h =
    let on : suc k ≡ k + 1 = omega arith in
    let here : 0 + k ≡ k = omega arith in
    ap (λ (i : ℕ). list_any (unknown_of m) (take i (range_with_len 0 n))) on
    ∙ list_any_more (unknown_of m) (range_with_len 0 n) k 0 (omega (arith, length-range_with_len 0 n))
    ∙ ap₂ (λ (a b : Bool). a || b) (unknown-so_far m n k (omega arith)) (ap (unknown_of m) (get_or-range_with_len 0 n k 0 (omega arith) ∙ here))

pub unknown-any : (m : List ℕ) (n : ℕ) → list_any (unknown_of m) (range_with_len 0 n) ≡ unknown_in m n
unknown-any m n = ap (list_any (unknown_of m)) (sym (take_all n (range_with_len 0 n) (omega (arith, length-range_with_len 0 n)))) ∙ unknown-so_far m n n (omega arith)

-- after the mantissas of a block
pub aht-read : (m a b x y : List ℕ) (lfe : Bool) → a ≡ put_in m AHT_TAGS (cell_of m AHT_TAGS + cell_of m TAGS) → b ≡ each_of slot_bits_of 7 a → x ≡ each_of read_of (channels_of m) b
    → lfe ≡ (flag_of x LFEON && flag_of x (AHTINU + 6)) → y ≡ marked_in lfe (AHT_READ + 6) x → y ≡ aht_read_by m
unfolding aht_read_by
aht-read m a b x y lfe ea eb ex el ey = rw (ey, el, ex, eb, ea) refl
