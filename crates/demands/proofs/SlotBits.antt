-- The bits of the slots of each block of an accepted frame add up to the width of its mantissas record, and a slot that is not in use or was read before has none.
-- Assumes nothing.
use mathlib.Core.Path.{◌≡◌, refl, ap, sym, ◌∙◌, subst}
use mathlib.Core.Bool.{Bool, true, false, cond}
use mathlib.Core.List.{List, [], ◌∷◌, ◌++◌, map, append_assoc}
use mathlib.Core.Option.{some}
use mathlib.Core.Logic.{inl, inr}
use Prim.Native.Nat.{ℕ, suc, ◌+◌, ◌-◌, ◌*◌, ◌≤◌, ◌<◌}
use native.Mathlib.Omega.{arith}
use lib.Dec.{leb, eqb}
use lib.IntN.{pos}
use lib.ListN.{length, get_or, get_elem?}
use Rattle.bits.specs.Bits.{bits_at}
use Rattle.reading.specs.Tree.{Tree, done, refuse, ahead, here, read, span, scan}
use Rattle.reading.specs.Run.{Field, Entry, element, region, Result, accepted, refused, Outcome, out, cons, and_then, after, skim, run}
use Rattle.reading.specs.Room.{size}
use Rattle.reading.specs.Frame.{TailNames, plain, headed, auxdatae_at, ending, tail, finish, framed, sized, parse}
use Rattle.reading.proofs.Rooms.{cut-same}
use Rattle.names.specs.Names.{mantissas}
use Rattle.tables.specs.Small.{nfchans}
use Rattle.slots.specs.Slots.{CPL, LFE}
use Rattle.cells.specs.Cells.{State, cell_of}
use Rattle.cells.specs.Names.{ACMOD, AHTINU, NUMBLKS, SLOT_BITS}
use Rattle.sideinfo.specs.Steps.{sum_of}
use Rattle.sideinfo.specs.Blocks.{flag_of}
use Rattle.rows.specs.Syntax.{meaning}
use Rattle.annex.specs.Annex.{body}
use Rattle.annex.specs.Frame.{bytes_of, tail_names, eac3}
use Rattle.answer.specs.Answer.{slot_bits_at, slot_bits_in, answer_by, frame_of}
use Rattle.answer.specs.declared.Answer.{Answer}
use Rattle.answer.specs.declared.Frame.{Frame}
use Rattle.answer.specs.declared.SlotBits.{SlotBits as Bits}
use Rattle.bounds.specs.Along.{Among}
use Rattle.slot_sums.specs.SlotSums.{slot_bits}
use Rattle.bounds.proofs.Walking.{grows-append}
use Rattle.slot_sums.proofs.Sums.{sum_same, slots-add-up, unused-have-none, channels-by-acmod}
use Rattle.slot_sums.proofs.Unused.{tab-first}
use Rattle.slot_sums.proofs.Zeros.{other-blocks-have-none, none-coupled}
use Rattle.demands.specs.Calls.{Call, count, nth, Accepts}
use Rattle.demands.specs.SlotBits.{bits_of, MantissasOf, NoBitsOf, SlotBits}
use Rattle.demands.proofs.Calls.{outcome, is, accepts, held}

-- a tree that gives only a
abbrev Gives : {A : Type 0} → A → Tree A → Type 0
Gives a (done x) = x ≡ a
Gives a (refuse n) = Unit {0}
Gives a (ahead n w) = Unit {0}
Gives a (here k) = (p : ℕ) → Gives a (k p)
Gives a (read q w k) = (v : ℕ) → Gives a (k v)
Gives a (span q w t) = Gives a t
Gives a (scan q x k) = (v : List ℕ) → Gives a (k v)

gives-if : {A : Type 0} (a : A) (c : Bool) (t u : Tree A) → Gives a t → Gives a u → Gives a (cond c t u)
gives-if a true t u h k = h
gives-if a false t u h k = k

gives-run : {A : Type 0} (a : A) (t : Tree A) (b : List ℕ) (p l : ℕ) → Gives a t → (x : A) → (run t b p l).result ≡ accepted x → x ≡ a
unfolding run after
gives-run a (done y) b p l h x e = let z : y ≡ x = cc in sym z ∙ h
gives-run a (refuse n) b p l h x e = absurd (let z : ◌≡◌ {A = ℕ} 0 1 = cc in let o : ⊥ = omega arith in o)
gives-run a (ahead n w) b p l h x e = absurd (let z : ◌≡◌ {A = ℕ} 0 1 = cc in let o : ⊥ = omega arith in o)
gives-run a (here k) b p l h x e = gives-run a (k p) b p l (h p) x e
gives-run {A} a (read q w k) b p l h x e = go (leb (p + w) l) (gives-run a (k (bits_at b p w)) b (p + w) l (h (bits_at b p w)) x) e
  where
    go : (c : Bool) → ((run (k (bits_at b p w)) b (p + w) l).result ≡ accepted x → x ≡ a) → (cond c (cons (element q p w (bits_at b p w)) (run (k (bits_at b p w)) b (p + w) l)) (out (refused 8) p [])).result ≡ accepted x → x ≡ a
    go true f e = f e
    go false f e = absurd (let z : ◌≡◌ {A = ℕ} 0 1 = cc in let o : ⊥ = omega arith in o)
gives-run {A} a (span q w t) b p l h x e = go (leb (p + w) l) (gives-run a t b (p + w) l h x) e
  where
    go : (c : Bool) → ((run t b (p + w) l).result ≡ accepted x → x ≡ a) → (cond c (cons (region q p w) (run t b (p + w) l)) (out (refused 8) p [])).result ≡ accepted x → x ≡ a
    go true f e = f e
    go false f e = absurd (let z : ◌≡◌ {A = ℕ} 0 1 = cc in let o : ⊥ = omega arith in o)
gives-run {A} a (scan q y k) b p l h x e = go (skim y b p l).result (λ v f. gives-run a (k v) b (skim y b p l).place l (h v) x f) e
  where
    O : Outcome (List ℕ)
    O = skim y b p l

    go : (r : Result (List ℕ)) → ((v : List ℕ) → (run (k v) b O.place l).result ≡ accepted x → x ≡ a)
        → (and_then r O.place O.records (λ v e. cons (region q p (e - p)) (run (k v) b e l))).result ≡ accepted x → x ≡ a
    go (accepted v) f e = f v e
    go (refused n) f e = absurd (let z : ◌≡◌ {A = ℕ} 0 1 = cc in let o : ⊥ = omega arith in o)

gives-tail : {A : Type 0} (names : TailNames) (v l : ℕ) (a : A) → Gives a (tail names v l a)
unfolding tail ending
gives-tail names v l a =
    let ends : Gives a (ending names a) = λ _ _ _. refl in
    λ p. gives-if a (leb (p + 18) l)
    (cond (eqb v 1)
    (cond (leb (p + 32) l)
    (span (plain names.auxbits) (l - 32 - p) (read (plain names.auxdatal) 14 (λ n. cond (leb n (l - 32 - p)) (ending names a) (ahead 32 1))))
    (ahead 31 (auxdatae_at l - p + 1)))
    (span (plain names.auxbits) (auxdatae_at l - p) (ending names a)))
    (refuse 30)
    (gives-if a (eqb v 1)
    (cond (leb (p + 32) l)
    (span (plain names.auxbits) (l - 32 - p) (read (plain names.auxdatal) 14 (λ n. cond (leb n (l - 32 - p)) (ending names a) (ahead 32 1))))
    (ahead 31 (auxdatae_at l - p + 1)))
    (span (plain names.auxbits) (auxdatae_at l - p) (ending names a))
    (gives-if a (leb (p + 32) l)
    (span (plain names.auxbits) (l - 32 - p) (read (plain names.auxdatal) 14 (λ n. cond (leb n (l - 32 - p)) (ending names a) (ahead 32 1))))
    (ahead 31 (auxdatae_at l - p + 1))
    (λ n. gives-if a (leb n (l - 32 - p)) (ending names a) (ahead 32 1) ends tt) tt)
    ends)
    tt

-- the parts of a frame that is accepted: its header and its body, whose state it gives; the records of both come first
record Parts (s : List ℕ) (st : State) (o : Outcome State) : Type 0 where
  head : State
  header : (headed eac3 s).result ≡ accepted head
  bodied : (run (meaning body head) s (headed eac3 s).place (8 * bytes_of head)).result ≡ accepted st
  more : List Entry
  lists : o.records ≡ ((headed eac3 s).records ++ (run (meaning body head) s (headed eac3 s).place (8 * bytes_of head)).records) ++ more

parts : (s : List ℕ) (st : State) → (parse eac3 s).result ≡ accepted st → Parts s st (parse eac3 s)
unfolding parse sized framed finish after eac3
parts s st = six (leb 6 (length s))
  where
    O : Outcome State
    O = headed eac3 s

    B : State → Outcome State
    B h = run (meaning body h) s O.place (8 * bytes_of h)

    T : State → State → ℕ → Outcome State
    T h a p = run (tail tail_names (bits_at s (auxdatae_at (8 * bytes_of h)) 1) (8 * bytes_of h) a) s p (8 * bytes_of h)

    W : State → ℕ → Outcome State
    W h p = let r = and_then (run (meaning body h) s p (8 * bytes_of h)).result (run (meaning body h) s p (8 * bytes_of h)).place (run (meaning body h) s p (8 * bytes_of h)).records (T h) in cond (leb (bytes_of h) (length s)) r (out (refused 4) p [])

    tailed : (h : State) → O.result ≡ accepted h → (r : Result State) → (B h).result ≡ r → (and_then r (B h).place (B h).records (T h)).result ≡ accepted st
        → ((B h).result ≡ accepted st) × ((more : List Entry) × ((and_then r (B h).place (B h).records (T h)).records ≡ (B h).records ++ more))
    tailed h q (accepted a) e d = let z : st ≡ a = gives-run a _ s (B h).place (8 * bytes_of h) (gives-tail tail_names _ (8 * bytes_of h) a) st d in (e ∙ ap accepted (sym z), ((T h a (B h).place).records, refl))
    tailed h q (refused n) e d = absurd (let z : ◌≡◌ {A = ℕ} 0 1 = cc in let o : ⊥ = omega arith in o)

    fits : (h : State) → O.result ≡ accepted h → (c : Bool)
        → (cond c (and_then (B h).result (B h).place (B h).records (T h)) (out (refused 4) O.place [])).result ≡ accepted st
        → ((B h).result ≡ accepted st) × ((more : List Entry) × ((cond c (and_then (B h).result (B h).place (B h).records (T h)) (out (refused 4) O.place [])).records ≡ (B h).records ++ more))
    fits h q true d = tailed h q (B h).result refl d
    fits h q false d = absurd (let z : ◌≡◌ {A = ℕ} 0 1 = cc in let o : ⊥ = omega arith in o)

    first : (r : Result State) → O.result ≡ r → (and_then r O.place O.records W).result ≡ accepted st → Parts s st (and_then r O.place O.records W)
    first (accepted h) q d =
        let t = fits h q (leb (bytes_of h) (length s)) d in
        record { head = h; header = q; bodied = t.0; more = t.1.0; lists = ap (λ es. O.records ++ es) t.1.1 ∙ sym (append_assoc O.records (B h).records t.1.0) }
    first (refused n) q d = absurd (let z : ◌≡◌ {A = ℕ} 0 1 = cc in let o : ⊥ = omega arith in o)

    six : (c : Bool) → (cond c (and_then O.result O.place O.records W) (out (refused 1) 0 [])).result ≡ accepted st → Parts s st (cond c (and_then O.result O.place O.records W) (out (refused 1) 0 []))
    six true d = first O.result refl d
    six false d = absurd (let z : ◌≡◌ {A = ℕ} 0 1 = cc in let o : ⊥ = omega arith in o)

among-at : (e : Entry) (es : List Entry) → Among e es → (i : ℕ) × (get_elem? (map (λ (e : Entry). e.field) es) i ≡ some e.field)
among-at e [] x = elim x [ ]
among-at e (x ∷ es) (inl h) = (0, ap (λ (e : Entry). some e.field) h)
among-at e (x ∷ es) (inr h) = let r = among-at e es h in (suc r.0, r.1)

-- the bits that the answer holds are those of the cells
bits_are : (m : List ℕ) (j slot : ℕ) → j < 6 → slot < 7 → get_or (get_or (slot_bits_in m) j (record { bits = [] })).bits slot 0 ≡ cell_of m (SLOT_BITS + 8 * j + slot)
bits_are m j slot h k =
    ap (λ (x : Bits). get_or x.bits slot 0) (tab-first (λ b. slot_bits_at m (SLOT_BITS + 8 * b)) (record { bits = [] }) 6 j h)
    ∙ tab-first (λ i. cell_of m (SLOT_BITS + 8 * j + i)) 0 7 slot k

found : {s : List ℕ} (c : Call s) (j i : ℕ) (f : Field) → i < count c → nth c i ≡ f → f.name ≡ mantissas → f.block ≡ pos j → f.width ≡ sum_of (bits_of c j) 7 → MantissasOf c j
found c j i f h e n b w = record {
  place = i;
  among = h;
  name = ap (λ (x : Field). x.name) e ∙ n;
  block = ap (λ (x : Field). x.block) e ∙ b;
  width = ap (λ (x : Field). x.width) e ∙ w;
}

-- an accepted call: the state that the definition gives, and the frame that it tells
record Whole (s : List ℕ) (c : Call s) : Type 0 where
  st : State
  same : outcome c ≡ parse eac3 s
  read : (parse eac3 s).result ≡ accepted st
  frame : c.answer.frame ≡ frame_of st.cells (outcome c).place (0 + length (outcome c).records)

whole : (s : List ℕ) (c : Call s) → Accepts c → Whole s c
whole s c a =
    let u = accepts c a in
    let st = u.0 in
    let same : outcome c ≡ parse eac3 s = cut-same (size c.lent) (parse eac3 s) (λ q. let z : accepted st ≡ refused 33 = sym u.1 ∙ q in let y : ◌≡◌ {A = ℕ} 0 1 = cc in let o : ⊥ = omega arith in o) in
    record {
      st = st;
      same = same;
      read = ap (λ (o : Outcome State). o.result) (sym same) ∙ u.1;
      frame = ap (λ (x : Answer). x.frame) (is c ∙ ap (λ (r : Result State). answer_by r (outcome c).place (0 + length (outcome c).records)) u.1);
    }

-- its bits are those of the cells
bits_in : (s : List ℕ) (c : Call s) (W : Whole s c) (j slot : ℕ) → j < 6 → slot < 7 → bits_of c j slot ≡ slot_bits W.st.cells j slot
bits_in s c W j slot h k = ap (λ (x : Frame). get_or (get_or x.slot_bits j (record { bits = [] })).bits slot 0) W.frame ∙ bits_are W.st.cells j slot h k

pub slot-bits : (s : List ℕ) (c : Call s) → SlotBits s c
slot-bits s c = record { adds_up = λ a j h. go a j h; unused = λ a j h. none a j h; others = λ a j slot h k o. other a j slot h k o }
  where
    -- the block is one of the definition's
    block : (W : Whole s c) (j : ℕ) → j < c.answer.frame.numblks → j < cell_of W.st.cells NUMBLKS
    block W j h = subst (λ n. j < n) (ap (λ (x : Frame). x.numblks) W.frame) h

    other : Accepts c → (j slot : ℕ) → c.answer.frame.numblks ≤ j → j < 6 → slot < 7 → bits_of c j slot ≡ 0
    other a j slot h k o =
        let W = whole s c a in
        let P = parts s W.st W.read in
        bits_in s c W j slot k o ∙ other-blocks-have-none s P.head W.st P.header P.bodied j slot (subst (λ n. n ≤ j) (ap (λ (x : Frame). x.numblks) W.frame) h) k o

    none : Accepts c → (j : ℕ) → j < c.answer.frame.numblks → NoBitsOf c j
    none a j h =
        let W = whole s c a in
        let m = W.st.cells in
        let P = parts s W.st W.read in
        let k = block W j h in
        let few = (slots-add-up s P.head W.st P.header P.bodied j k).0 in
        let N = unused-have-none s P.head W.st P.header P.bodied j k in
        let E = channels-by-acmod s P.head W.st P.header P.bodied in
        record {
          channels = λ ch i o.
              let e : c.answer.frame.acmod ≡ cell_of m ACMOD = ap (λ (x : Frame). x.acmod) W.frame in
              let z = subst (λ n. get_or nfchans n 0 ≤ ch) e i in
              bits_in s c W j ch few (omega arith) ∙ N.channels ch (omega arith) o;
          lfe = λ e. bits_in s c W j LFE few (omega arith) ∙ N.lfe (sym (ap (λ (x : Frame). x.lfeon) W.frame) ∙ e);
          coupling = λ e. bits_in s c W j CPL few (omega arith) ∙ N.coupling (none-coupled s P.head W.st P.header P.bodied (sym (ap (λ (x : Frame). x.cpl_blocks) W.frame) ∙ e) j k);
          hybrid = λ slot i o l e t.
              let f : get_or c.answer.frame.aht_slots slot false ≡ flag_of m (AHTINU + slot) = ap (λ (x : Frame). get_or x.aht_slots slot false) W.frame ∙ tab-first (λ n. flag_of m (AHTINU + n)) false 7 slot o in
              let b = bits_in s c W i slot (omega arith) o in
              bits_in s c W j slot few o ∙ N.hybrid slot i o l (sym f ∙ e) (omega arith);
        }

    go : Accepts c → (j : ℕ) → j < c.answer.frame.numblks → MantissasOf c j
    go a j h =
        let W = whole s c a in
        let st = W.st in
        let same = W.same in
        let P = parts s st W.read in
        let k = block W j h in
        let D = slots-add-up s P.head st P.header P.bodied j k in
        let X = D.1 in
        let A : Among X.entry (outcome c).records = subst (Among X.entry) (sym (ap (λ (o : Outcome State). o.records) same ∙ P.lists)) ((grows-append ((headed eac3 s).records ++ (run (meaning body P.head) s (headed eac3 s).place (8 * bytes_of P.head)).records) P.more).keeps X.entry X.among) in
        let T = among-at X.entry (outcome c).records A in
        let H = held c T.0 X.entry.field T.1 in
        found c j T.0 X.entry.field H.0 H.1 X.name X.block
        (X.width
        ∙ sum_same (slot_bits st.cells j) (bits_of c j) 7 (λ slot i. sym (bits_in s c W j slot D.0 i)))
