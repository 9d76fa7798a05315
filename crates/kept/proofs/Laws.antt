-- What is kept, word by word. Assumes nothing.
use mathlib.Core.Path.{◌≡◌, refl, sym, ap, ◌∙◌}
use mathlib.Core.List.{List, [], ◌∷◌}
use Prim.Native.Nat.{ℕ, ◌+◌, ◌-◌, ◌*◌, ◌≤◌, ◌<◌}
use native.Mathlib.Omega.{arith}
use lib.ListN.{length, take, drop, get_or, get_or-append}
use borrow.Rule.Slice.PartMut.{put_mid, same_len_mid, mid_len}
use Rattle.std.proofs.lemmas.List.{get_or-take, get_or-drop, length-take-le}
use Rattle.std.proofs.lemmas.List.Edits.{get_or-between}
use Rattle.std.proofs.lemmas.Slice.{between-put_mid, drop-put_mid}
use Rattle.kept.specs.Kept.{Noted}
use Rattle.kept.specs.declared.Source.{Source}

source_is : (s : Source) (a b c d e : ℕ) → a ≡ s.own → b ≡ s.common → c ≡ s.offset → d ≡ s.len → e ≡ s.ba
    → ◌≡◌ {A = Source} (record { own = a; common = b; offset = c; len = d; ba = e }) s
source_is s a b c d e p q r t u = rw (p, q, r, t, u)

-- six words are copied to the place k
module _ (memo : List ℕ) (k : ℕ) (ws : List ℕ) (six : length ws ≡ 6) (held : k + 6 ≤ length memo) where
  abbrev new : List ℕ
  new = put_mid k (k + 6 - k) memo ws

  long : length ws ≡ k + 6 - k
  long = omega arith

  copied-size : length new ≡ length memo
  copied-size = same_len_mid k (k + 6 - k) memo ws (long ∙ sym (mid_len k (k + 6) memo held))

  copied-word : (j : ℕ) → j < 6 → get_or new (k + j) 0 ≡ get_or ws j 0
  copied-word j l =
      let u : k + j < k + 6 = omega arith in
      sym (get_or-between new k (k + 6) j 0 u) ∙ ap (λ (x : List ℕ). get_or x j 0) (between-put_mid k (k + 6 - k) memo ws (k + 6) (omega arith) long)

  copied-before : (i : ℕ) → i < k → get_or new i 0 ≡ get_or memo i 0
  copied-before i l =
      let n : length (take k memo) ≡ k = length-take-le k memo (omega arith) in
      let u : i < length (take k memo) = omega arith in
      get_or-append (take k memo) _ 0 i u ∙ get_or-take k memo i 0 l

  copied-after : (i : ℕ) → k + 6 ≤ i → get_or new i 0 ≡ get_or memo i 0
  copied-after i l =
      let e : k + 6 + (i - (k + 6)) ≡ i = omega arith in
      let d : drop (k + 6) new ≡ drop (k + 6) memo = drop-put_mid k (k + 6 - k) memo ws (k + 6) (omega arith) (omega arith) long in
      ap (λ (x : ℕ). get_or new x 0) (sym e) ∙ sym (get_or-drop (k + 6) new (i - (k + 6)) 0) ∙ ap (λ (x : List ℕ). get_or x (i - (k + 6)) 0) d ∙ get_or-drop (k + 6) memo (i - (k + 6)) 0 ∙ ap (λ (x : ℕ). get_or memo x 0) e

module _ (memo : List ℕ) (slot : ℕ) (s : Source) (t : ℕ) (n : length memo ≡ 42) (h : slot < 7) where
  abbrev words : List ℕ
  words = s.own ∷ s.common ∷ s.offset ∷ s.len ∷ s.ba ∷ t ∷ []

  word : (j : ℕ) → j < 6 → get_or (put_mid (6 * slot) (6 * slot + 6 - 6 * slot) memo words) (6 * slot + j) 0 ≡ get_or words j 0
  word = copied-word memo (6 * slot) words refl (omega arith)

  pub noted-by : (ws : List ℕ) → ws ≡ words → Noted memo (put_mid (6 * slot) (6 * slot + 6 - 6 * slot) memo ws) slot s t
  noted-by ws e = rw e (record {
    size = copied-size memo (6 * slot) words refl (omega arith);
    source = source_is s _ _ _ _ _ (let z : 6 * slot ≡ 6 * slot + 0 = omega arith in ap (λ (x : ℕ). get_or (put_mid (6 * slot) (6 * slot + 6 - 6 * slot) memo words) x 0) z ∙ word 0 (omega arith)) (word 1 (omega arith)) (word 2 (omega arith)) (word 3 (omega arith)) (word 4 (omega arith));
    tally = word 5 (omega arith);
    before = λ i l. copied-before memo (6 * slot) words refl (omega arith) i l;
    after = λ i l. copied-after memo (6 * slot) words refl (omega arith) i l;
  })
