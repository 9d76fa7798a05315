-- The rows of the tail mean the tail of every frame. Assumes nothing.
use mathlib.Core.Path.{◌≡◌, refl, ap, fun_ext, ◌∙◌}
use mathlib.Core.Bool.{Bool, true, false, cond, not}
use mathlib.Core.List.{List}
use Prim.Native.Nat.{ℕ, ◌+◌, ◌-◌, ◌*◌, ◌%◌, ◌≤◌, ◌<◌}
use native.Mathlib.Omega.{arith}
use native.Mathlib.Decide.{dec_le}
use lib.Dec.{leb, ltb, eqb}
use lib.ListN.{length}
use borrow.Author.Tests.{le-leb, lt-leb, lt-ltb, le-ltb, eqb-true}
use Rattle.bits.specs.Bits.{bits_at}
use Rattle.bits.proofs.BitLaws.{bits_at-lt}
use Rattle.reading.specs.Tree.{Part, Tree, done, refuse, ahead, read, span as spanned, ◌>>=◌}
use Rattle.reading.specs.Run.{field_of, refused}
use Rattle.reading.specs.Room.{Room, Out, got, size, pushed, exec}
use Rattle.reading.specs.Frame.{plain, ending, tail as tailOf}
use Rattle.reading.proofs.Trees.{bind_assoc}
use Rattle.names.specs.Names.{auxbits, auxdatae, auxdatal, crc2, encinfo}
use Rattle.slots.specs.Held.{Bins}
use Rattle.cells.specs.Cells.{State, state, cell_of, put_in, stored, place_of, held_of, part_of}
use Rattle.cells.specs.Names.{AFTER_AUDIO, AFTER_AUXDATAE, AUXDATAE, AUXDATAL, BLOCK, FRAME_END, WIDTH}
use Rattle.cells.proofs.Cells.{put-sized, cell_same, cell_other}
use Rattle.rows.specs.Syntax.{Cond, Is, Not, Under, Over, Word, Value, Here, Less, Minus, Item, Block, end, ◌⨾◌, element, span, when, reject, reject_at, put, cell, no as unkept, none, held, holds_of, amount_of, item, meaning}
use Rattle.annex.specs.Tail.{tail}
use Rattle.annex.specs.Frame.{tail_names}

at-cell : (m : List ℕ) (k : ℕ) → place_of (cell k) m ≡ k
unfolding cell_of
at-cell m k = omega arith

held-cell : (m : List ℕ) (k : ℕ) → held_of (cell k) m ≡ cell_of m k
held-cell m k = ap (cell_of m) (at-cell m k)

part-plain : (name : ℕ) (m : List ℕ) → cell_of m BLOCK ≡ 0 → part_of name none m ≡ plain name
unfolding cell_of
part-plain name m e = rw e refl

-- what follows an item
module _ (s : List ℕ) (l : ℕ) (f : State → Tree State) where
  on_test : (b : Bool) (t u : Tree State) (p n : ℕ) (r : Room) → exec s l (cond b t u >>= f) p n r ≡ cond b (exec s l (t >>= f) p n r) (exec s l (u >>= f) p n r)
  on_test true t u p n r = refl
  on_test false t u p n r = refl

  on-put : (k : ℕ) (v : Value) (st : State) (p n : ℕ) (r : Room) → exec s l (item (put (cell k) v) st >>= f) p n r ≡ exec s l (f (stored st k (amount_of v p st.cells))) p n r
  unfolding item exec ◌>>=◌
  on-put k v st p n r = ap (λ j. exec s l (f (stored st j (amount_of v p st.cells))) p n r) (at-cell st.cells k)

  on-reject : (c : Cond) (k : ℕ) (st : State) (p n : ℕ) (r : Room)
      → exec s l (item (reject c k) st >>= f) p n r ≡ cond (holds_of c st.cells) (got (refused k) p n r) (exec s l (f st) p n r)
  unfolding item exec ◌>>=◌
  on-reject c k st p n r = on_test (holds_of c st.cells) (refuse k) (done st) p n r

  on-reject-at : (c : Cond) (k j : ℕ) (st : State) (p n : ℕ) (r : Room)
      → exec s l (item (reject_at c k j) st >>= f) p n r ≡ cond (holds_of c st.cells) (got (refused k) (p + (cell_of st.cells j - p)) n r) (exec s l (f st) p n r)
  unfolding item exec ◌>>=◌
  on-reject-at c k j st p n r = on_test (holds_of c st.cells) (ahead k (cell_of st.cells j - p)) (done st) p n r

  on-when : (c : Cond) (b : Block) (st : State) (p n : ℕ) (r : Room)
      → exec s l (item (when c b) st >>= f) p n r ≡ cond (holds_of c st.cells) (exec s l (meaning b st >>= f) p n r) (exec s l (f st) p n r)
  unfolding item exec ◌>>=◌
  on-when c b st p n r = on_test (holds_of c st.cells) (meaning b st) (done st) p n r

-- two trees that read the same element, or pass the same bits, and then do the same
module _ (s : List ℕ) (l : ℕ) where
  same_read : (q : Part) (w : ℕ) (t u : ℕ → Tree State) (p n : ℕ) (r : Room)
      → ((i : ℕ) (x : Room) → exec s l (t (bits_at s p w)) (p + w) i x ≡ exec s l (u (bits_at s p w)) (p + w) i x) → exec s l (read q w t) p n r ≡ exec s l (read q w u) p n r
  unfolding exec
  same_read q w t u p n r h =
      ap (λ (o : Out State). cond (leb (p + w) l) (cond (leb (size r) n) (got (refused 33) p n r) o) (got (refused 8) p n r)) (h (n + 1) (pushed r n (field_of q p w (bits_at s p w))))

  same_span : (q : Part) (w : ℕ) (t u : Tree State) (p n : ℕ) (r : Room)
      → ((i : ℕ) (x : Room) → exec s l t (p + w) i x ≡ exec s l u (p + w) i x) → exec s l (spanned q w t) p n r ≡ exec s l (spanned q w u) p n r
  unfolding exec
  same_span q w t u p n r h =
      ap (λ (o : Out State). cond (leb (p + w) l) (cond (leb (size r) n) (got (refused 33) p n r) o) (got (refused 8) p n r)) (h (n + 1) (pushed r n (field_of q p w 0)))

-- the cells of the tail: outside of blocks, in a frame that ends at l, with auxdatae v
pub record Outside (m : List ℕ) (l v : ℕ) : Type 0 where
  pub sized : length m ≡ 1024
  pub block : cell_of m BLOCK ≡ 0
  pub end : cell_of m FRAME_END ≡ l
  pub ahead : cell_of m AUXDATAE ≡ v

-- another cell is put
stays : (m : List ℕ) (l v k x : ℕ) → k < 1024 → ¬ (k ≡ BLOCK) → ¬ (k ≡ FRAME_END) → ¬ (k ≡ AUXDATAE) → Outside m l v → Outside (put_in m k x) l v
stays m l v k x h a b c o = record {
  sized = put-sized m k x ∙ o.sized;
  block = cell_other m k x BLOCK (λ e. a (omega arith)) ∙ o.block;
  end = cell_other m k x FRAME_END (λ e. b (omega arith)) ∙ o.end;
  ahead = cell_other m k x AUXDATAE (λ e. c (omega arith)) ∙ o.ahead;
}

-- the parts of the tail: auxbits and auxdatal, auxbits alone, and what ends it
abbrev long : Block
long =
    reject_at (Under (cell AFTER_AUDIO) (Word 32)) 31 AFTER_AUXDATAE
    ⨾ put (cell WIDTH) (Less 32 1 (cell AFTER_AUDIO))
    ⨾ span auxbits WIDTH
    ⨾ element auxdatal none 14 (cell AUXDATAL)
    ⨾ reject_at (Over (cell AUXDATAL) (held WIDTH)) 32 AFTER_AUXDATAE
    ⨾ end

abbrev short : Block
short = put (cell WIDTH) (Less 18 1 (cell AFTER_AUDIO)) ⨾ span auxbits WIDTH ⨾ end

abbrev closing : Block
closing = element auxdatae none 1 unkept ⨾ element encinfo none 1 unkept ⨾ element crc2 none 16 unkept ⨾ end

module _ (s : List ℕ) (l v : ℕ) (a : State) (fits : l < 65536) where
  abbrev K : State → Tree State
  K x = done a

  -- a block from a state on, and then the frame's result
  abbrev runs : Block → State → ℕ → ℕ → Room → Out State
  runs b st p n r = exec s l (meaning b st >>= K) p n r

  next : (i : Item) (b : Block) (st : State) (p n : ℕ) (r : Room) → runs (i ⨾ b) st p n r ≡ exec s l (item i st >>= (λ x. meaning b x >>= K)) p n r
  unfolding meaning
  next i b st p n r = ap (λ (t : Tree State). exec s l t p n r) (bind_assoc (item i st) (λ x. meaning b x) K)

  joined : (i : Item) (b c : Block) (st : State) (p n : ℕ) (r : Room)
      → exec s l (meaning (i ⨾ b) st >>= (λ x. meaning c x >>= K)) p n r ≡ exec s l (item i st >>= (λ x. meaning b x >>= (λ y. meaning c y >>= K))) p n r
  unfolding meaning
  joined i b c st p n r = ap (λ (t : Tree State). exec s l t p n r) (bind_assoc (item i st) (λ x. meaning b x) (λ x. meaning c x >>= K))

  closes : (m : List ℕ) (b : Bins) → Outside m l v → (p n : ℕ) (r : Room) → runs closing (state m b) p n r ≡ exec s l (ending tail_names a) p n r
  unfolding meaning item ◌>>=◌ ending put_in cell_of
  closes m b o p n r =
      ap (λ (q : ℕ → Part). exec s l (read (q auxdatae) 1 λ _. read (q encinfo) 1 λ _. read (q crc2) 16 λ _. done a) p n r) (fun_ext (λ x. part-plain x m o.block))

  at-end : (f : State → Tree State) (st : State) (p n : ℕ) (r : Room) → exec s l (meaning end st >>= f) p n r ≡ exec s l (f st) p n r
  unfolding meaning ◌>>=◌
  at-end f st p n r = refl

  -- after auxbits: the other way is passed, and the tail closes
  module _ (m : List ℕ) (b : Bins) (o : Outside m l v) where
    -- where auxdatae is 1
    second-off : v ≡ 1 → (p n : ℕ) (r : Room) → runs (when (Not (cell AUXDATAE) 1) short ⨾ closing) (state m b) p n r ≡ exec s l (ending tail_names a) p n r
    second-off e p n r =
        next (when (Not (cell AUXDATAE) 1) short) closing (state m b) p n r
        ∙ on-when s l (λ x. meaning closing x >>= K) (Not (cell AUXDATAE) 1) short (state m b) p n r
        ∙ ap (λ (x : ℕ). cond (not (eqb x 1)) (exec s l (meaning short (state m b) >>= (λ x. meaning closing x >>= K)) p n r) (runs closing (state m b) p n r)) (held-cell m AUXDATAE ∙ o.ahead ∙ e)
        ∙ closes m b o p n r

  -- auxbits of a width that a cell holds
  passes : (m : List ℕ) (b : Bins) (w : ℕ) → Outside m l v → cell_of m WIDTH ≡ w → (f : State → Tree State) (u : Tree State) (p n : ℕ) (r : Room)
      → ((i : ℕ) (x : Room) → exec s l (f (state m b)) (p + w) i x ≡ exec s l u (p + w) i x)
      → exec s l (item (span auxbits WIDTH) (state m b) >>= f) p n r ≡ exec s l (spanned (plain auxbits) w u) p n r
  unfolding item ◌>>=◌
  passes m b w o ew f u p n r h =
      ap (λ (q : Part). exec s l (spanned q (cell_of m WIDTH) (f (state m b))) p n r) (part-plain auxbits m o.block)
      ∙ ap (λ (x : ℕ). exec s l (spanned (plain auxbits) x (f (state m b))) p n r) ew
      ∙ same_span s l (plain auxbits) w (f (state m b)) u p n r h

  -- with the bits after the audio known
  module _ (m : List ℕ) (b : Bins) (o : Outside m l v) (p : ℕ) (left : cell_of m AFTER_AUDIO ≡ l - p) (stop : cell_of m AFTER_AUXDATAE ≡ l - 17) (enough : p + 18 ≤ l) where
    abbrev wide : ℕ → List ℕ
    wide k = put_in m WIDTH (1 * held_of (cell AFTER_AUDIO) m - k)

    wide-out : (k : ℕ) → Outside (wide k) l v
    wide-out k = stays m l v WIDTH _ (omega arith) (λ e. omega arith) (λ e. omega arith) (λ e. omega arith) o

    wide_is : (k : ℕ) → cell_of (wide k) WIDTH ≡ l - p - k
    wide_is k =
        cell_same m WIDTH (1 * held_of (cell AFTER_AUDIO) m - k) o.sized (λ e. omega arith)
        ∙ (let z : held_of (cell AFTER_AUDIO) m ≡ l - p = held-cell m AFTER_AUDIO ∙ left in omega arith)

    wide-stop : (k : ℕ) → cell_of (wide k) AFTER_AUXDATAE ≡ l - 17
    wide-stop k = cell_other m WIDTH _ AFTER_AUXDATAE (λ e. omega arith) ∙ stop

    -- auxdatae 0: auxbits reach to it
    shorter : (n : ℕ) (r : Room) → exec s l (meaning short (state m b) >>= (λ x. meaning closing x >>= K)) p n r ≡ exec s l (spanned (plain auxbits) (l - 18 - p) (ending tail_names a)) p n r
    shorter n r =
        joined (put (cell WIDTH) (Less 18 1 (cell AFTER_AUDIO))) (span auxbits WIDTH ⨾ end) closing (state m b) p n r
        ∙ on-put s l (λ x. meaning (span auxbits WIDTH ⨾ end) x >>= (λ y. meaning closing y >>= K)) WIDTH (Less 18 1 (cell AFTER_AUDIO)) (state m b) p n r
        ∙ joined (span auxbits WIDTH) end closing (state (wide 18) b) p n r
        ∙ passes (wide 18) b (l - 18 - p) (wide-out 18) (wide_is 18 ∙ omega arith) (λ x. meaning end x >>= (λ y. meaning closing y >>= K)) (ending tail_names a) p n r
        (λ i x. at-end (λ y. meaning closing y >>= K) (state (wide 18) b) (p + (l - 18 - p)) i x ∙ closes (wide 18) b (wide-out 18) (p + (l - 18 - p)) i x)

    -- auxdatae 1: auxbits reach to auxdatal, which says how many of them are data
    abbrev rest : Block
    rest = when (Not (cell AUXDATAE) 1) short ⨾ closing

    module _ (one : v ≡ 1) (far : p + 32 ≤ l) where
      abbrev w : ℕ
      w = l - 32 - p

      -- at auxdatal, with its value
      module _ (k : ℕ) (small : k < 16384) (i : ℕ) (x : Room) where
        abbrev said : List ℕ
        said = put_in (wide 32) AUXDATAL k

        said-out : Outside said l v
        said-out = stays (wide 32) l v AUXDATAL k (omega arith) (λ e. omega arith) (λ e. omega arith) (λ e. omega arith) (wide-out 32)

        said-is : held_of (cell AUXDATAL) said ≡ k
        said-is = held-cell said AUXDATAL ∙ cell_same (wide 32) AUXDATAL k (wide-out 32).sized (λ e. omega arith) ∙ omega arith

        said-width : held_of (cell WIDTH) said ≡ w
        said-width = held-cell said WIDTH ∙ cell_other (wide 32) AUXDATAL k WIDTH (λ e. omega arith) ∙ wide_is 32 ∙ omega arith

        said-stop : cell_of said AFTER_AUXDATAE ≡ l - 17
        said-stop = cell_other (wide 32) AUXDATAL k AFTER_AUXDATAE (λ e. omega arith) ∙ wide-stop 32

        judged : exec s l (meaning (reject_at (Over (cell AUXDATAL) (held WIDTH)) 32 AFTER_AUXDATAE ⨾ end) (state said b) >>= (λ x. meaning rest x >>= K)) (p + w + 14) i x
            ≡ exec s l (cond (leb k w) (ending tail_names a) (ahead 32 1)) (p + w + 14) i x
        unfolding exec
        judged =
            joined (reject_at (Over (cell AUXDATAL) (held WIDTH)) 32 AFTER_AUXDATAE) end rest (state said b) (p + w + 14) i x
            ∙ on-reject-at s l (λ x. meaning end x >>= (λ y. meaning rest y >>= K)) (Over (cell AUXDATAL) (held WIDTH)) 32 AFTER_AUXDATAE (state said b) (p + w + 14) i x
            ∙ ap (λ (y : ℕ). cond (ltb y (held_of (cell AUXDATAL) said)) too_long goes) said-width
            ∙ ap (λ (y : ℕ). cond (ltb w y) too_long goes) said-is
            ∙ by (dec_le k w)
          where
            too_long : Out State
            too_long = got (refused 32) (p + w + 14 + (cell_of said AFTER_AUXDATAE - (p + w + 14))) i x

            goes : Out State
            goes = exec s l (meaning end (state said b) >>= (λ y. meaning rest y >>= K)) (p + w + 14) i x

            by : Dec (k ≤ w) → cond (ltb w k) too_long goes ≡ exec s l (cond (leb k w) (ending tail_names a) (ahead 32 1)) (p + w + 14) i x
            by (yes h) =
                rw (le-ltb w k h, le-leb k w h)
                (at-end (λ y. meaning rest y >>= K) (state said b) (p + w + 14) i x ∙ second-off said b said-out one (p + w + 14) i x)
            by (no h) =
                let g : w < k = omega arith in
                let z : p + w + 14 + (cell_of said AFTER_AUXDATAE - (p + w + 14)) ≡ p + w + 14 + 1 = omega (arith, said-stop) in
                rw (lt-ltb w k g, lt-leb k w g) (ap (λ (y : ℕ). got {A = State} (refused 32) y i x) z)

      -- auxdatal is read
      reads : (i : ℕ) (x : Room)
          → exec s l (meaning (element auxdatal none 14 (cell AUXDATAL) ⨾ reject_at (Over (cell AUXDATAL) (held WIDTH)) 32 AFTER_AUXDATAE ⨾ end) (state (wide 32) b) >>= (λ x. meaning rest x >>= K)) (p + w) i x
          ≡ exec s l (read (plain auxdatal) 14 λ k. cond (leb k w) (ending tail_names a) (ahead 32 1)) (p + w) i x
      unfolding item ◌>>=◌
      reads i x =
          joined (element auxdatal none 14 (cell AUXDATAL)) (reject_at (Over (cell AUXDATAL) (held WIDTH)) 32 AFTER_AUXDATAE ⨾ end) rest (state (wide 32) b) (p + w) i x
          ∙ ap (λ (q : Part). exec s l (read q 14 λ k. G (stored (state (wide 32) b) (place_of (cell AUXDATAL) (wide 32)) k)) (p + w) i x) (part-plain auxdatal (wide 32) (wide-out 32).block)
          ∙ ap (λ (j : ℕ). exec s l (read (plain auxdatal) 14 λ k. G (stored (state (wide 32) b) j k)) (p + w) i x) (at-cell (wide 32) AUXDATAL)
          ∙ same_read s l (plain auxdatal) 14 (λ k. G (stored (state (wide 32) b) AUXDATAL k)) (λ k. cond (leb k w) (ending tail_names a) (ahead 32 1)) (p + w) i x
          (λ j y. judged (bits_at s (p + w) 14) (bits_at-lt s (p + w) 14) j y)
        where
          G : State → Tree State
          G y = meaning (reject_at (Over (cell AUXDATAL) (held WIDTH)) 32 AFTER_AUXDATAE ⨾ end) y >>= (λ x. meaning rest x >>= K)

      longer : (n : ℕ) (r : Room)
          → exec s l (meaning (put (cell WIDTH) (Less 32 1 (cell AFTER_AUDIO)) ⨾ span auxbits WIDTH ⨾ element auxdatal none 14 (cell AUXDATAL) ⨾ reject_at (Over (cell AUXDATAL) (held WIDTH)) 32 AFTER_AUXDATAE ⨾ end) (state m b) >>= (λ x. meaning rest x >>= K)) p n r
          ≡ exec s l (spanned (plain auxbits) w (read (plain auxdatal) 14 λ k. cond (leb k w) (ending tail_names a) (ahead 32 1))) p n r
      longer n r =
          joined (put (cell WIDTH) (Less 32 1 (cell AFTER_AUDIO))) _ rest (state m b) p n r
          ∙ on-put s l _ WIDTH (Less 32 1 (cell AFTER_AUDIO)) (state m b) p n r
          ∙ joined (span auxbits WIDTH) _ rest (state (wide 32) b) p n r
          ∙ passes (wide 32) b w (wide-out 32) (wide_is 32 ∙ omega arith) _ (read (plain auxdatal) 14 λ k. cond (leb k w) (ending tail_names a) (ahead 32 1)) p n r reads

    lengthy : v ≡ 1 → (n : ℕ) (r : Room)
        → exec s l (meaning long (state m b) >>= (λ x. meaning rest x >>= K)) p n r
        ≡ exec s l
        (cond (leb (p + 32) l)
        (spanned (plain auxbits) (l - 32 - p) (read (plain auxdatal) 14 λ k. cond (leb k (l - 32 - p)) (ending tail_names a) (ahead 32 1)))
        (ahead 31 (l - 18 - p + 1))) p n r
    unfolding exec
    lengthy one n r =
        joined (reject_at (Under (cell AFTER_AUDIO) (Word 32)) 31 AFTER_AUXDATAE) _ rest (state m b) p n r
        ∙ on-reject-at s l _ (Under (cell AFTER_AUDIO) (Word 32)) 31 AFTER_AUXDATAE (state m b) p n r
        ∙ ap (λ (y : ℕ). cond (ltb y 32) few goes) (held-cell m AFTER_AUDIO ∙ left)
        ∙ by (dec_le (p + 32) l)
      where
        few : Out State
        few = got (refused 31) (p + (cell_of m AFTER_AUXDATAE - p)) n r

        goes : Out State
        goes = exec s l (meaning (put (cell WIDTH) (Less 32 1 (cell AFTER_AUDIO)) ⨾ span auxbits WIDTH ⨾ element auxdatal none 14 (cell AUXDATAL) ⨾ reject_at (Over (cell AUXDATAL) (held WIDTH)) 32 AFTER_AUXDATAE ⨾ end) (state m b) >>= (λ x. meaning rest x >>= K)) p n r

        by : Dec (p + 32 ≤ l) → cond (ltb (l - p) 32) few goes
            ≡ exec s l
            (cond (leb (p + 32) l)
            (spanned (plain auxbits) (l - 32 - p) (read (plain auxdatal) 14 λ k. cond (leb k (l - 32 - p)) (ending tail_names a) (ahead 32 1)))
            (ahead 31 (l - 18 - p + 1))) p n r
        by (yes h) = rw (le-ltb (l - p) 32 (omega arith), le-leb (p + 32) l h) (longer one h n r)
        by (no h) =
            let z : p + (cell_of m AFTER_AUXDATAE - p) ≡ p + (l - 18 - p + 1) = omega (arith, stop) in
            rw (lt-ltb (l - p) 32 (omega arith), lt-leb (p + 32) l (omega arith)) (ap (λ (y : ℕ). got {A = State} (refused 31) y n r) z)

  -- the whole: cells with the end of the frame, and auxdatae looked at ahead
  module _ (m : List ℕ) (b : Bins) (o : Outside m l v) (p : ℕ) (small : p < 65536) where
    abbrev here-is : List ℕ
    here-is = put_in m AFTER_AUDIO p

    here_out : Outside here-is l v
    here_out = stays m l v AFTER_AUDIO p (omega arith) (λ e. omega arith) (λ e. omega arith) (λ e. omega arith) o

    abbrev left_is : List ℕ
    left_is = put_in here-is AFTER_AUDIO (held_of (cell FRAME_END) here-is - cell_of here-is AFTER_AUDIO)

    left_out : Outside left_is l v
    left_out = stays here-is l v AFTER_AUDIO _ (omega arith) (λ e. omega arith) (λ e. omega arith) (λ e. omega arith) here_out

    abbrev stop_is : List ℕ
    stop_is = put_in left_is AFTER_AUXDATAE (1 * held_of (cell FRAME_END) left_is - 17)

    stop-out : Outside stop_is l v
    stop-out = stays left_is l v AFTER_AUXDATAE _ (omega arith) (λ e. omega arith) (λ e. omega arith) (λ e. omega arith) left_out

    left-held : cell_of stop_is AFTER_AUDIO ≡ l - p
    left-held =
        cell_other left_is AFTER_AUXDATAE _ AFTER_AUDIO (λ e. omega arith)
        ∙ cell_same here-is AFTER_AUDIO _ here_out.sized (λ e. omega arith)
        ∙ (let x : held_of (cell FRAME_END) here-is ≡ l = held-cell here-is FRAME_END ∙ here_out.end in
        let y : cell_of here-is AFTER_AUDIO ≡ p % 65536 = cell_same m AFTER_AUDIO p o.sized (λ e. omega arith) in
        omega arith)

    stop-held : cell_of stop_is AFTER_AUXDATAE ≡ l - 17
    stop-held =
        cell_same left_is AFTER_AUXDATAE _ left_out.sized (λ e. omega arith)
        ∙ (let x : held_of (cell FRAME_END) left_is ≡ l = held-cell left_is FRAME_END ∙ left_out.end in omega arith)

    abbrev ways : Block
    ways = when (Is (cell AUXDATAE) 1) long ⨾ when (Not (cell AUXDATAE) 1) short ⨾ closing

    -- there are 18 bits or more
    either : p + 18 ≤ l → (n : ℕ) (r : Room) → runs ways (state stop_is b) p n r
        ≡ exec s l
        (cond (eqb v 1)
        (cond (leb (p + 32) l)
        (spanned (plain auxbits) (l - 32 - p) (read (plain auxdatal) 14 λ k. cond (leb k (l - 32 - p)) (ending tail_names a) (ahead 32 1)))
        (ahead 31 (l - 18 - p + 1)))
        (spanned (plain auxbits) (l - 18 - p) (ending tail_names a))) p n r
    either h n r =
        next (when (Is (cell AUXDATAE) 1) long) _ (state stop_is b) p n r
        ∙ on-when s l _ (Is (cell AUXDATAE) 1) long (state stop_is b) p n r
        ∙ ap (λ (y : ℕ). cond (eqb y 1) (exec s l (meaning long (state stop_is b) >>= F) p n r) (exec s l (F (state stop_is b)) p n r)) (held-cell stop_is AUXDATAE ∙ stop-out.ahead)
        ∙ by (eqb v 1) refl
      where
        F : State → Tree State
        F x = meaning (when (Not (cell AUXDATAE) 1) short ⨾ closing) x >>= K

        G : Bool → Tree State
        G c =
            cond c
            (cond (leb (p + 32) l)
            (spanned (plain auxbits) (l - 32 - p) (read (plain auxdatal) 14 λ k. cond (leb k (l - 32 - p)) (ending tail_names a) (ahead 32 1)))
            (ahead 31 (l - 18 - p + 1)))
            (spanned (plain auxbits) (l - 18 - p) (ending tail_names a))

        off : eqb v 1 ≡ false → exec s l (F (state stop_is b)) p n r ≡ exec s l (spanned (plain auxbits) (l - 18 - p) (ending tail_names a)) p n r
        off e =
            next (when (Not (cell AUXDATAE) 1) short) closing (state stop_is b) p n r
            ∙ on-when s l _ (Not (cell AUXDATAE) 1) short (state stop_is b) p n r
            ∙ ap (λ (y : ℕ). cond (not (eqb y 1)) (exec s l (meaning short (state stop_is b) >>= (λ x. meaning closing x >>= K)) p n r) (runs closing (state stop_is b) p n r)) (held-cell stop_is AUXDATAE ∙ stop-out.ahead)
            ∙ ap (λ (c : Bool). cond (not c) (exec s l (meaning short (state stop_is b) >>= (λ x. meaning closing x >>= K)) p n r) (runs closing (state stop_is b) p n r)) e
            ∙ shorter stop_is b stop-out p left-held stop-held h n r

        by : (c : Bool) → eqb v 1 ≡ c → cond c (exec s l (meaning long (state stop_is b) >>= F) p n r) (exec s l (F (state stop_is b)) p n r) ≡ exec s l (G c) p n r
        by true e = lengthy stop_is b stop-out p left-held stop-held h (eqb-true v 1 e) n r
        by false e = off e

    pub rows-tail : (n : ℕ) (r : Room) → exec s l (meaning tail (state m b) >>= K) p n r ≡ exec s l (tailOf tail_names v l a) p n r
    unfolding tail tailOf exec
    rows-tail n r =
        next (put (cell AFTER_AUDIO) Here) _ (state m b) p n r
        ∙ on-put s l _ AFTER_AUDIO Here (state m b) p n r
        ∙ next (put (cell AFTER_AUDIO) (Minus (cell FRAME_END) AFTER_AUDIO)) _ (state here-is b) p n r
        ∙ on-put s l _ AFTER_AUDIO (Minus (cell FRAME_END) AFTER_AUDIO) (state here-is b) p n r
        ∙ next (put (cell AFTER_AUXDATAE) (Less 17 1 (cell FRAME_END))) _ (state left_is b) p n r
        ∙ on-put s l _ AFTER_AUXDATAE (Less 17 1 (cell FRAME_END)) (state left_is b) p n r
        ∙ next (reject (Under (cell AFTER_AUDIO) (Word 18)) 30) ways (state stop_is b) p n r
        ∙ on-reject s l (λ x. meaning ways x >>= K) (Under (cell AFTER_AUDIO) (Word 18)) 30 (state stop_is b) p n r
        ∙ ap (λ (y : ℕ). cond (ltb y 18) (got (refused 30) p n r) (runs ways (state stop_is b) p n r)) (held-cell stop_is AFTER_AUDIO ∙ left-held)
        ∙ by (dec_le (p + 18) l)
      where
        T : Tree State
        T =
            cond (eqb v 1)
            (cond (leb (p + 32) l)
            (spanned (plain auxbits) (l - 32 - p) (read (plain auxdatal) 14 λ k. cond (leb k (l - 32 - p)) (ending tail_names a) (ahead 32 1)))
            (ahead 31 (l - 18 - p + 1)))
            (spanned (plain auxbits) (l - 18 - p) (ending tail_names a))

        by : Dec (p + 18 ≤ l) → cond (ltb (l - p) 18) (got (refused 30) p n r) (runs ways (state stop_is b) p n r) ≡ exec s l (cond (leb (p + 18) l) T (refuse 30)) p n r
        by (yes h) = rw (le-ltb (l - p) 18 (omega arith), le-leb (p + 18) l h) (either h n r)
        by (no h) = rw (lt-ltb (l - p) 18 (omega arith), lt-leb (p + 18) l (omega arith)) refl
