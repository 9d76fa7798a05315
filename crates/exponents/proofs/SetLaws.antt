-- Laws of a set of exponents: what it lays, and its groups one by one as the code reads them. Assumes nothing.
use mathlib.Core.Path.{◌≡◌, refl, ap, sym, subst, ◌∙◌}
use mathlib.Core.Bool.{Bool, true, false, ◌&&◌, cond}
use mathlib.Core.List.{List, []}
use Prim.Native.Nat.{ℕ, zero, suc, ◌+◌, ◌-◌, ◌*◌, ◌≤◌, ◌<◌}
use native.Mathlib.Omega.{arith}
use lib.Dec.{leb, ltb, eqb}
use lib.ListN.{get_or, set}
use lib.Seq.{get_or-set_other}
use borrow.Author.Tests.{le-leb, lt-leb, ltb-true}
use Rattle.bits.specs.Bits.{bits_at}
use Rattle.reading.specs.Tree.{Part, Tree}
use Rattle.reading.specs.Run.{field_of, accepted, refused, Outcome, out, cons, run, element}
use Rattle.reading.specs.Room.{Room, Out, got, exec}
use Rattle.reading.proofs.Rooms.{◌then◌}
use Rattle.syntax.specs.Cursors.{Progress}
use Rattle.syntax.specs.Records.{outcome, keep_of}
use Rattle.syntax.specs.declared.Cursor.{Cursor}
use Rattle.syntax.specs.declared.Stopped.{Stopped}
use Rattle.syntax.proofs.Recording.{keep-then, on, off}
use Rattle.std.specs.Prelude.{Ok, Err}
use Rattle.refusals.specs.Refusals.{number_of}
use Rattle.refusals.specs.declared.Refusal.{Refusal}
use Rattle.slots.specs.Slots.{CPL}
use Rattle.slots.specs.Held.{Held}
use Rattle.slots.proofs.Tests.{both}
use Rattle.exponents.specs.Exponents.{Group, decode_of, size_of, groups_of, start_of, first_of, put_of, spread_of, laid_of}
use Rattle.exponents.specs.Set.{on_group, groups_from, begun_of, set_of}
use Rattle.exponents.specs.SetRead.{Laid, SetRead}
use Rattle.exponents.proofs.ExpLaws.{Low, decode-low, start-low, put-held}

-- exponents of one slot, laid one after another
pub laid_none : (slot : ℕ) (exps : List ℕ) → Laid slot exps exps
laid_none slot exps = record { held = λ h. h; before = λ k h. refl; after = λ k h. refl }

pub laid_then : {slot : ℕ} {x y z : List ℕ} → Laid slot x y → Laid slot y z → Laid slot x z
laid_then p q = record {
  held = λ h. q.held (p.held h);
  before = λ k h. q.before k h ∙ p.before k h;
  after = λ k h. q.after k h ∙ p.after k h;
}

-- a bin that is not the one that is put
put_other : (exps : List ℕ) (slot bin e k : ℕ) → (slot < 7 → bin < 256 → k ≡ 256 * slot + bin → ⊥) → get_or (put_of exps slot bin e) k 0 ≡ get_or exps k 0
unfolding put_of
put_other exps slot bin e k f = go (ltb slot 7 && ltb bin 256) refl
  where
    go : (t : Bool) → ltb slot 7 && ltb bin 256 ≡ t → get_or (cond t (set exps (256 * slot + bin) e) exps) k 0 ≡ get_or exps k 0
    go true q =
        let b = both (ltb slot 7) (ltb bin 256) q in
        get_or-set_other exps (256 * slot + bin) k e 0 (f (ltb-true slot 7 b.0) (ltb-true bin 256 b.1))
    go false q = refl

pub laid-put : (exps : List ℕ) (slot bin e : ℕ) → e ≤ 24 → Laid slot exps (put_of exps slot bin e)
laid-put exps slot bin e low = record {
  held = λ h. put-held exps h slot bin e low;
  before = λ k h. put_other exps slot bin e k (λ s b q. omega arith);
  after = λ k h. put_other exps slot bin e k (λ s b q. omega arith);
}

laid-spread : (exps : List ℕ) (slot bin n e : ℕ) → e ≤ 24 → Laid slot exps (spread_of exps slot bin n e)
unfolding spread_of
laid-spread exps slot bin zero e low = laid_none slot exps
laid-spread exps slot bin (suc n) e low = laid_then (laid-put exps slot bin e low) (laid-spread (put_of exps slot bin e) slot (suc bin) n e low)

pub laid-group : (exps : List ℕ) (slot size bin a b c : ℕ) → Low a b c → Laid slot exps (laid_of exps slot size bin a b c)
unfolding laid_of
laid-group exps slot size bin a b c low =
    laid_then (laid-spread exps slot bin size a low.first)
    (laid_then (laid-spread (spread_of exps slot bin size a) slot (bin + size) size b low.second)
    (laid-spread (spread_of (spread_of exps slot bin size a) slot (bin + size) size b) slot (bin + 2 * size) size c low.third))

pub laid-begun : (exps : List ℕ) (slot absexp : ℕ) → absexp ≤ 24 → Laid slot exps (begun_of slot absexp exps)
unfolding begun_of
laid-begun exps slot absexp low = go (eqb slot CPL)
  where
    go : (t : Bool) → Laid slot exps (cond t exps (put_of exps slot 0 absexp))
    go true = laid_none slot exps
    go false = laid-put exps slot 0 absexp low

-- a set that is accepted leaves other slots as they were, and no exponent of it is above 24
never : {A : Type 0} (a : A) (n : ℕ) → refused n ≡ accepted a → ⊥
never a n q = let z : ◌≡◌ {A = ℕ} 0 1 = cc in omega arith

inner : {A : Type 0} (t : Bool) (o u : Outcome A) (n : ℕ) (a : A) → u.result ≡ refused n → (cond t o u).result ≡ accepted a → o.result ≡ accepted a
inner true o u n a f e = e
inner false o u n a f e = absurd (never a n (sym f ∙ e))

module _ (s : List ℕ) (l : ℕ) (q : Part) (slot size : ℕ) where
  groups-laid : (n bin prev : ℕ) (exps : List ℕ) (p : ℕ) (b : List ℕ) → (run (groups_from q slot size n bin prev exps) s p l).result ≡ accepted b → Laid slot exps b
  unfolding run groups_from
  groups-laid zero bin prev exps p b e = let z : exps ≡ b = cc in subst (Laid slot exps) z (laid_none slot exps)
  groups-laid (suc n) bin prev exps p b e =
      go (λ x y z. groups-laid n (bin + 3 * size) z (laid_of exps slot size bin x y z) (p + 7) b) (decode_of prev (bits_at s p 7)) refl
      (inner (leb (p + 7) l) (cons (element q p 7 (bits_at s p 7)) (run (rest (decode_of prev (bits_at s p 7))) s (p + 7) l)) (out (refused 8) p []) 8 b refl e)
    where
      rest : Group → Tree (List ℕ)
      rest g = on_group g (λ x y z. groups_from q slot size n (bin + 3 * size) z (laid_of exps slot size bin x y z))

      go : ((x y z : ℕ) → (run (groups_from q slot size n (bin + 3 * size) z (laid_of exps slot size bin x y z)) s (p + 7) l).result ≡ accepted b → Laid slot (laid_of exps slot size bin x y z) b)
          → (g : Group) → decode_of prev (bits_at s p 7) ≡ g → (run (rest g) s (p + 7) l).result ≡ accepted b → Laid slot exps b
      go f (Err k) h r = absurd (never b (number_of k) r)
      go f (Ok (x, y, z)) h r = laid_then (laid-group exps slot size bin x y z (decode-low x y z prev (bits_at s p 7) h)) (f x y z r)

pub set-laid : (s : List ℕ) (l : ℕ) (q : Part) (slot strategy start end absexp : ℕ) (exps : List ℕ) (p : ℕ) (b : List ℕ) → absexp ≤ 15
    → (run (set_of q slot strategy start end absexp exps) s p l).result ≡ accepted b → Laid slot exps b
unfolding set_of
set-laid s l q slot strategy start end absexp exps p b h e =
    laid_then (laid-begun exps slot absexp (omega arith))
    (groups-laid s l q slot (size_of strategy) (groups_of slot strategy start end) (first_of slot start) (start_of slot absexp) (begun_of slot absexp exps) p b e)

-- the groups one by one: what is left of a set at the place p, with n records in the room m
module _ (s : List ℕ) (l : ℕ) (q : Part) (slot size : ℕ) where
  abbrev pub rest : ℕ → ℕ → ℕ → List ℕ → ℕ → ℕ → Room → Out (List ℕ)
  rest left bin prev exps p n m = exec s l (groups_from q slot size left bin prev exps) p n m

  module _ (left bin prev : ℕ) (exps : List ℕ) (p n : ℕ) (m : Room) where
    pub group-none : left ≤ 0 → got (accepted exps) p n m ≡ rest left bin prev exps p n m
    unfolding exec groups_from
    group-none h = let z : left ≡ 0 = omega arith in rw z

    module _ (some : 0 < left) where
      one_more : left ≡ suc (left - 1)
      one_more = omega arith

      pub group-past : l < p + 7 → got (refused 8) p n m ≡ rest left bin prev exps p n m
      unfolding exec groups_from
      group-past h = rw (one_more, lt-leb (p + 7) l h)

      -- a group that was read, and recorded or not
      module _ (within : p + 7 ≤ l) (v : ℕ) (ev : v ≡ bits_at s p 7) (r : Progress) (m' : Room) (er : outcome r v m' ≡ keep_of (field_of q p 7 v) (p + 7) n m) where
        abbrev after : ℕ → ℕ → ℕ → Room → Out (List ℕ)
        after g p n m = exec s l (on_group (decode_of prev g) (λ x y z. groups_from q slot size (left - 1) (bin + 3 * size) z (laid_of exps slot size bin x y z))) p n m

        recorded : rest left bin prev exps p n m ≡ (outcome r v m' then (λ _ p n m. after v p n m))
        unfolding exec groups_from
        recorded =
            let f : rest (suc (left - 1)) bin prev exps p n m ≡ (keep_of (field_of q p 7 v) (p + 7) n m then (λ _ p n m. after v p n m)) =
            rw (le-leb (p + 7) l within, ← ev) (keep-then m n (field_of q p 7 v) (p + 7) (λ p n m. after v p n m)) in
            ap (λ k. rest k bin prev exps p n m) one_more ∙ f ∙ ap (λ (o : Out ℕ). o then (λ _ p n m. after v p n m)) (sym er)

        pub group-full : (e : Stopped) → r ≡ Err e → got (refused (number_of e.refusal)) e.at.0 e.count m' ≡ rest left bin prev exps p n m
        group-full e h = sym (recorded ∙ ap (λ (x : Progress). outcome x v m' then (λ _ p n m. after v p n m)) h ∙ off v m' (λ _ p n m. after v p n m) e)

        module _ (c : Cursor) (h : r ≡ Ok c) where
          kept : rest left bin prev exps p n m ≡ after v c.at.0 c.count m'
          kept = recorded ∙ ap (λ (x : Progress). outcome x v m' then (λ _ p n m. after v p n m)) h ∙ on v m' (λ _ p n m. after v p n m) c

          pub group-refused : (k : Refusal) → decode_of prev v ≡ Err k → got (refused (number_of k)) c.at.0 c.count m' ≡ rest left bin prev exps p n m
          unfolding exec
          group-refused k e = sym (kept ∙ rw e refl)

          pub group-moved : (x y z : ℕ) → decode_of prev v ≡ Ok (x, y, z) → (exps' : List ℕ) → exps' ≡ laid_of exps slot size bin x y z
              → rest left bin prev exps p n m ≡ rest (left - 1) (bin + 3 * size) z exps' c.at.0 c.count m'
          group-moved x y z e exps' eb = kept ∙ rw (e, eb) refl

-- how the loop stands: what is left is the whole, and only the slot's exponents were laid
pub record Standing (s : List ℕ) (l : ℕ) (q : Part) (slot size : ℕ) (o : Out (List ℕ)) (old : List ℕ) (left bin prev : ℕ) (exps : List ℕ) (p n : ℕ) (m : Room) : Type 0 where
  pub whole : o ≡ rest s l q slot size left bin prev exps p n m
  pub laid : Laid slot old exps
  pub held : Held exps
  pub byte : prev < 256
  pub low : bin + 12 * left ≤ 851955

pub standing-first : (s : List ℕ) (l : ℕ) (q : Part) (slot strategy absexp : ℕ) (old exps : List ℕ) (left bin prev p n : ℕ) (m : Room) → Held old → absexp ≤ 15 → exps ≡ begun_of slot absexp old → prev ≡ start_of slot absexp → left < 65536 → bin < 65536
    → Standing s l q slot (size_of strategy) (rest s l q slot (size_of strategy) left bin prev exps p n m) exps left bin prev exps p n m
standing-first s l q slot strategy absexp old exps left bin prev p n m held small e f h k = record {
  whole = refl;
  laid = laid_none slot exps;
  held = rw e ((laid-begun old slot absexp (omega arith)).held held);
  byte = omega (arith, start-low slot absexp small);
  low = omega arith;
}

module _ {s : List ℕ} {l : ℕ} {q : Part} {slot size : ℕ} {o : Out (List ℕ)} {old : List ℕ} {left bin prev : ℕ} {exps : List ℕ} {p n : ℕ} {m : Room}
    (at : Standing s l q slot size o old left bin prev exps p n m) where
  pub standing-end : left ≤ 0 → got (accepted exps) p n m ≡ o
  standing-end h = group-none s l q slot size left bin prev exps p n m h ∙ sym at.whole

  module _ (some : 0 < left) where
    pub standing-past : l < p + 7 → got (refused 8) p n m ≡ o
    standing-past h = group-past s l q slot size left bin prev exps p n m some h ∙ sym at.whole

    module _ (within : p + 7 ≤ l) (v : ℕ) (ev : v ≡ bits_at s p 7) (r : Progress) (m' : Room) (er : outcome r v m' ≡ keep_of (field_of q p 7 v) (p + 7) n m) where
      pub standing-full : (e : Stopped) → r ≡ Err e → got (refused (number_of e.refusal)) e.at.0 e.count m' ≡ o
      standing-full e h = group-full s l q slot size left bin prev exps p n m some within v ev r m' er e h ∙ sym at.whole

      module _ (c : Cursor) (h : r ≡ Ok c) where
        pub standing-refused : (k : Refusal) → decode_of prev v ≡ Err k → got (refused (number_of k)) c.at.0 c.count m' ≡ o
        standing-refused k e = group-refused s l q slot size left bin prev exps p n m some within v ev r m' er c h k e ∙ sym at.whole

        pub standing-moved : (x y z : ℕ) → decode_of prev v ≡ Ok (x, y, z) → (exps' : List ℕ) → exps' ≡ laid_of exps slot size bin x y z → size ≤ 4 → (step : ℕ) → step ≡ 3 * size
            → Standing s l q slot size o old (left - 1) (bin + step) z exps' c.at.0 c.count m'
        standing-moved x y z e exps' eb small step es =
            record {
              whole =
                  at.whole ∙ group-moved s l q slot size left bin prev exps p n m some within v ev r m' er c h x y z e exps' eb
                  ∙ ap (λ k. rest s l q slot size (left - 1) (bin + k) z exps' c.at.0 c.count m') (sym es);
              laid = laid_then at.laid group;
              held = group.held at.held;
              byte = omega (arith, exponents.third);
              low = let k = at.low in omega arith;
            }
          where
            exponents : Low x y z
            exponents = decode-low x y z prev v e

            group : Laid slot exps exps'
            group = rw eb (laid-group exps slot size bin x y z exponents)

-- the answer, where the whole set is what stood at the loop's start
module _ (s : List ℕ) (l : ℕ) (q : Part) (slot strategy start end absexp : ℕ) (old : List ℕ) (p n : ℕ) (m : Room) where
  pub set-read : {left bin prev : ℕ} {begun : List ℕ} → Held old → absexp ≤ 15
      → left ≡ groups_of slot strategy start end → bin ≡ first_of slot start → prev ≡ start_of slot absexp → begun ≡ begun_of slot absexp old
      → (r : Progress) {exps : List ℕ} {m' : Room} → Laid slot begun exps → outcome r exps m' ≡ rest s l q slot (size_of strategy) left bin prev begun p n m
      → SetRead s l q slot strategy start end absexp old p n m r exps m'
  unfolding set_of
  set-read {left} {bin} {prev} {begun} h k el ef ep eg r laid e =
      let first : Laid slot old begun = rw eg (laid-begun old slot absexp (omega arith)) in
      record {
        is = e ∙ rw (el, ef, ep, eg) refl;
        held = laid.held (first.held h);
        laid = laid_then first laid;
      }
