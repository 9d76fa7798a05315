-- The parts of a frame, one after another, are the definition. Assumes nothing.
use mathlib.Core.Path.{◌≡◌, refl, ap, sym, subst, ◌∙◌}
use mathlib.Core.Bool.{Bool, true, false, cond}
use mathlib.Core.List.{List, []}
use Prim.Native.Nat.{ℕ, ◌+◌, ◌-◌, ◌*◌, ◌%◌, ◌≤◌, ◌<◌, min}
use native.Mathlib.Omega.{arith}
use native.Mathlib.Decide.{dec_lt}
use native.Mathlib.Nat.{add-zero}
use lib.ListN.{length, get_or, replicate, get_or-replicate, length-replicate}
use borrow.Author.Tests.{le-leb, lt-leb}
use Rattle.bits.specs.Bits.{bits_at}
use Rattle.bits.proofs.BitLaws.{bits_at-lt}
use Rattle.reading.specs.Tree.{Tree, done, ◌>>=◌}
use Rattle.reading.specs.Run.{accepted, refused, Outcome, out, after, run}
use Rattle.reading.specs.Frame.{header_by, seen, tail as tailOf, finish, framed, parse}
use Rattle.reading.specs.Room.{Room, size, cut, fill, Out, got, into, exec}
use Rattle.reading.proofs.Rooms.{cut-same, go_on, ◌then◌, exec-bind, exec-is, into-after}
use Rattle.short_frames.specs.ShortFrames.{up_to}
use Rattle.short_frames.specs.Tested.{tested, unfit_by}
use Rattle.short_frames.proofs.ShortFrames.{parse-is}
use Rattle.short_frames.proofs.Sizes.{fit-bounds, unfit-tested, fit-tested}
use Rattle.std.specs.Prelude.{Ok, Err, None, Some}
use Rattle.refusals.specs.Refusals.{number_of}
use Rattle.refusals.specs.declared.Refusal.{Refusal}
use Rattle.refusals.specs.declared.Refusal.TheVariants.{ShortSlice}
use Rattle.syntax.specs.Cursors.{Progress}
use Rattle.syntax.specs.Records.{outcome}
use Rattle.syntax.specs.declared.Cursor.{Cursor}
use Rattle.syntax.specs.declared.Stopped.{Stopped}
use Rattle.slots.specs.Held.{Bins}
use Rattle.allocation.proofs.MemoLaws.{memo-fresh}
use Rattle.inputs.specs.Reads.{Right}
use Rattle.cells.specs.Cells.{State, state, cell_of, put_in}
use Rattle.cells.specs.Names.{AUXDATAE, BLOCK, FRAME_END, FRMSIZ}
use Rattle.cells.proofs.Cells.{put-sized, cell_same, cell_other, cell-none}
use Rattle.rows.specs.Syntax.{meaning}
use Rattle.annex.specs.Annex.{header, body}
use Rattle.annex.specs.Tail.{tail}
use Rattle.annex.specs.Frame.{start, tail_names, bytes_of, eac3}
use Rattle.annex.proofs.Header.{sized-is, header_of}
use Rattle.annex.proofs.Tails.{Outside, rows-tail}
use Rattle.answer.specs.Answer.{answer_of}
use Rattle.answer.specs.Cursors.{refusal_from, answer_from}
use Rattle.answer.specs.declared.Answer.{Answer}
use Rattle.answer.proofs.Laws.{answer-from}
use Rattle.opening.specs.Opened.{Opened}
use Rattle.frame.specs.Parts.{placed, followed, read_of, read_by, ReadBy}

followed_then : (r : Progress) (st : State) (m : Room) (f : State → ℕ → Outcome State)
    → followed r st m f ≡ (outcome r st m then (λ a p i r. placed i r (f a p)))
unfolding followed go_on
followed_then (Ok c) st m f = refl
followed_then (Err e) st m f = refl

-- a tree, and what follows its run
pub follows : (s : List ℕ) (l : ℕ) (t : Tree State) (p n : ℕ) (m : Room) (r : Progress) (st : State) (mu : Room) (f : State → ℕ → Outcome State)
    → outcome r st mu ≡ exec s l t p n m → followed r st mu f ≡ placed n m (after (run t s p l) f)
follows s l t p n m r st mu f e =
    followed_then r st mu f
    ∙ ap (λ (o : Out State). o then (λ a p i r. placed i r (f a p))) (e ∙ exec-is s l t p n m)
    ∙ sym (into-after (run t s p l) f n m)

-- a reading that is stopped stays, and one that goes on is followed
pub stays : (r : Progress) (e : Stopped) (st : State) (m : Room) (f : State → ℕ → Outcome State) → r ≡ Err e → outcome r st m ≡ followed r st m f
unfolding followed
stays r e st m f h = rw h refl

pub goes_on : (c : Cursor) (st : State) (m : Room) (f : State → ℕ → Outcome State) (o : Out State) → o ≡ placed c.count m (f st c.at.0) → o ≡ followed (Ok c) st m f
unfolding followed
goes_on c st m f o e = e

-- a refusal without records
none-placed : (k p n : ℕ) (m : Room) → got (refused k) p n m ≡ placed n m (out (refused k) p [])
unfolding fill cut
none-placed k p n m = ap (λ i. got (refused k) p i m) (sym (add-zero n))

-- a tree whose result is not used
drops : (s : List ℕ) (l : ℕ) (t : Tree State) (st : State) (p n : ℕ) (m : Room) (r : Progress) (x : State) (mu : Room)
    → outcome r x mu ≡ exec s l t p n m → outcome r st mu ≡ exec s l (t >>= (λ _. done st)) p n m
unfolding exec go_on
drops s l t st p n m r x mu e =
    go r
    ∙ ap (λ (o : Out State). o then (λ a p n m. exec s l (done st) p n m)) e
    ∙ sym (exec-bind s l t (λ _. done st) p n m)
  where
    go : (r : Progress) → outcome r st mu ≡ (outcome r x mu then (λ a p n m. exec s l (done st) p n m))
    go (Ok c) = refl
    go (Err e) = refl

-- the tail's rows, run on cells of their own
module _ (s : List ℕ) (l p : ℕ) (fits : l < 65536) (small : p < 65536) where
  abbrev ends : List ℕ
  ends = put_in (put_in start.cells FRAME_END l) AUXDATAE (bits_at s (l - 18) 1)

  outside : Outside ends l (bits_at s (l - 18) 1)
  unfolding start
  outside =
      let h : length (replicate {A = ℕ} 1024 0) ≡ 1024 = length-replicate {A = ℕ} 1024 0 in
      let g : length (put_in (replicate 1024 0) FRAME_END l) ≡ 1024 = put-sized (replicate 1024 0) FRAME_END l ∙ h in
      let w : bits_at s (l - 18) 1 < 2 = bits_at-lt s (l - 18) 1 in
      record {
        sized = put-sized (put_in (replicate 1024 0) FRAME_END l) AUXDATAE _ ∙ g;
        block = cell_other _ AUXDATAE _ BLOCK (λ e. omega arith) ∙ cell_other _ FRAME_END l BLOCK (λ e. omega arith) ∙ cell-none BLOCK;
        end = cell_other _ AUXDATAE _ FRAME_END (λ e. omega arith) ∙ cell_same _ FRAME_END l h (λ e. omega arith) ∙ omega arith;
        ahead = cell_same _ AUXDATAE _ g (λ e. omega arith) ∙ omega arith;
      }

  pub tail-outcome : (q : ℕ) → q ≡ p → (b : Bins) (n : ℕ) (m : Room) (r : Progress) (st x : State) (mu : Room) (cells : List ℕ) → cells ≡ ends
      → outcome r x mu ≡ exec s l (meaning tail (state cells b)) q n m → outcome r st mu ≡ placed n m (finish tail_names s l st p)
  unfolding finish
  tail-outcome q eq b n m r st x mu cells ec e =
      drops s l (meaning tail (state cells b)) st p n m r x mu (e ∙ ap (λ (y : ℕ). exec s l (meaning tail (state cells b)) y n m) eq)
      ∙ ap (λ (y : List ℕ). exec s l (meaning tail (state y b) >>= (λ _. done st)) p n m) ec
      ∙ rows-tail s l (bits_at s (l - 18) 1) st fits ends b outside p small n m
      ∙ exec-is s l (tailOf tail_names (bits_at s (l - 18) 1) l st) p n m

pub right-start : Right (replicate 42 0) start.bins
unfolding start
right-start = record {
  held = record {
    size = length-replicate {A = ℕ} 1792 0;
    low = λ k h. let z : get_or {A = ℕ} (replicate 1792 0) k 0 ≡ 0 = get_or-replicate {A = ℕ} 1792 k 0 0 (omega arith) in omega arith;
  };
  memo = memo-fresh (replicate 1792 0) (replicate 1792 0) (length-replicate {A = ℕ} 1792 0);
}

-- the header of a slice, and the frame after it
pub begins : (g : ℕ) (s : List ℕ) (m : Room) (c : Progress) (st : State) (mu : Room) → outcome c st mu ≡ exec s 48 (header_by eac3 (seen eac3 s)) 0 0 m
    → followed c st mu (tested g eac3 s) ≡ placed 0 m (read_of g s)
unfolding read_of
begins g s m c st mu e = follows s 48 (header_by eac3 (seen eac3 s)) 0 0 m c st mu (tested g eac3 s) e

-- with a good bsid all items of the header are read
module _ (s : List ℕ) (m : Room) (c : Progress) (st : State) (mu : Room) (fresh : outcome c st mu ≡ exec s 48 (meaning header start) 0 0 m) where
  -- frmsiz is at most 2047
  pub small_size : (k : Cursor) → c ≡ Ok k → cell_of st.cells FRMSIZ < 2048
  small_size k h =
      let w : (cut (size m - 0) (run (meaning header start) s 0 48)).result ≡ accepted st
      = ap (λ (o : Out State). o.result) (sym (fresh ∙ exec-is s 48 (meaning header start) 0 0 m)) ∙ ap (λ (d : Progress). (outcome d st mu).result) h in
      let u : cut (size m - 0) (run (meaning header start) s 0 48) ≡ run (meaning header start) s 0 48
      = cut-same (size m - 0) (run (meaning header start) s 0 48) (λ q. let z : ◌≡◌ {A = ℕ} 0 1 = cc in omega arith) in
      let g : cell_of st.cells FRMSIZ ≡ bits_at s 21 11 = ((sized-is s).gives st (ap (λ (o : Outcome State). o.result) (sym u) ∙ w)).size in
      let k : bits_at s 21 11 < 2048 = bits_at-lt s 21 11 in
      omega arith

  pub begins-good : (g : ℕ) → eac3.look.good (seen eac3 s) ≡ true → followed c st mu (tested g eac3 s) ≡ placed 0 m (read_of g s)
  begins-good g k = begins g s m c st mu (fresh ∙ ap (λ (t : Tree State). exec s 48 t 0 0 m) (sym (header_of (seen eac3 s) k)))

-- what follows the header
module _ (g : ℕ) (s : List ℕ) (c : Cursor) (st : State) (m : Room) (small : cell_of st.cells FRMSIZ < 2048)
    (n : ℕ) (en : n ≡ 2 * (cell_of st.cells FRMSIZ % 2048 + 1)) where
  whole-size : n ≡ bytes_of st
  whole-size = let z : cell_of st.cells FRMSIZ % 2048 ≡ cell_of st.cells FRMSIZ = omega arith in en ∙ ap (λ k. 2 * (k + 1)) z

  pub unfit-stops : (f : Refusal) → Some f ≡ unfit_by g n (length s) → got (refused (number_of f)) c.at.0 c.count m ≡ followed (Ok c) st m (tested g eac3 s)
  unfolding eac3
  unfit-stops f e =
      goes_on c st m (tested g eac3 s) _
      (rw (unfit-tested eac3 s st c.at.0 g f (e ∙ ap (λ b. unfit_by g b (length s)) whole-size)) (none-placed (number_of f) c.at.0 c.count m))

  -- the body, and what follows it
  module _ (fit : None ≡ unfit_by g n (length s)) (l : ℕ) (el : l ≡ 8 * n) (d : Progress) (su : State) (mu : Room) (e : outcome d su mu ≡ exec s l (meaning body st) c.at.0 c.count m) where
    pub whole : (o : Out State) → o ≡ followed d su mu (finish tail_names s l) → o ≡ followed (Ok c) st m (tested g eac3 s)
    unfolding eac3 framed
    whole o q =
        let f = fit-bounds g n (length s) fit in
        let x : bytes_of st ≤ g = omega (arith, whole-size, f.0) in
        let y : bytes_of st ≤ length s = omega (arith, whole-size, f.1) in
        goes_on c st m (tested g eac3 s) _
        (rw (fit-tested eac3 s st c.at.0 g x y)
        (q ∙ follows s l (meaning body st) c.at.0 c.count m d su mu (finish tail_names s l) e
        ∙ ap (λ k. placed c.count m (after (run (meaning body st) s c.at.0 k) (finish tail_names s k))) (el ∙ ap (λ k. 8 * k) whole-size)))

    pub body-stops : (x : Stopped) → d ≡ Err x → outcome (Err x) su mu ≡ followed (Ok c) st m (tested g eac3 s)
    body-stops x h = sym (ap (λ (r : Progress). outcome r su mu) h) ∙ whole _ (stays d x su mu (finish tail_names s l) h)

    pub tail-follows : (k : Cursor) → d ≡ Ok k → (r : Progress) (mt : Room) → outcome r su mt ≡ placed k.count mu (finish tail_names s l su k.at.0) → outcome r su mt ≡ followed (Ok c) st m (tested g eac3 s)
    tail-follows k h r mt q = whole _ (goes_on k su mu (finish tail_names s l) _ q ∙ ap (λ (r : Progress). followed r su mu (finish tail_names s l)) (sym h))

left-of : (r : Progress) (st : State) (m : Room) → (outcome r st m).left ≡ m
left-of (Ok c) st m = refl
left-of (Err e) st m = refl

module _ (s : List ℕ) (m : Room) where
  pub whole-answer : (g : ℕ) (c : Progress) (st : State) (mu : Room) (a : Answer) → 6 ≤ length s → outcome c st mu ≡ placed 0 m (read_of g s) → a ≡ answer_from c st.cells
      → ReadBy (up_to g eac3) s m a mu
  unfolding read_of
  whole-answer g c st mu a h e ea =
      let z : size m - 0 ≡ size m = omega arith in
      let p : read_of g s ≡ parse (up_to g eac3) s = sym (parse-is g eac3 s ∙ rw (le-leb 6 (length s) h) refl) in
      let w : outcome c st mu ≡ read_by (up_to g eac3) s m = e ∙ ap (λ k. into 0 m (cut k (read_of g s))) z ∙ ap (λ (o : Outcome State). into 0 m (cut (size m) o)) p in
      record { answer = ea ∙ answer-from c st mu ∙ ap answer_of w; left = sym (left-of c st mu) ∙ ap (λ (o : Out State). o.left) w }

  pub short-answer : (g : ℕ) (e : Stopped) (a : Answer) → length s < 6 → e ≡ record { refusal = ShortSlice; at = record { 0 = 0 }; count = 0 } → a ≡ refusal_from e → ReadBy (up_to g eac3) s m a m
  unfolding answer_of cut fill
  short-answer g e a h k q =
      let p : parse (up_to g eac3) s ≡ out (refused 1) 0 [] = parse-is g eac3 s ∙ rw (lt-leb 6 (length s) h) refl in
      record { answer = rw (q, k, p) refl; left = rw p refl }

  -- the header is refused
  pub header-answer : (g : ℕ) (r : Progress) (e : Stopped) (st : State) (mu : Room) (a : Answer) → 6 ≤ length s → r ≡ Err e → followed r st mu (tested g eac3 s) ≡ placed 0 m (read_of g s) → a ≡ refusal_from e
      → ReadBy (up_to g eac3) s m a mu
  header-answer g r e st mu a h x f q = whole-answer g r st mu a h (stays r e st mu (tested g eac3 s) x ∙ f) (q ∙ ap (λ (r : Progress). answer_from r st.cells) (sym x))

stopped-is : {x y : Stopped} → ◌≡◌ {A = Progress} (Err x) (Err y) → x ≡ y
stopped-is {x} h = ap (λ (r : Progress). of r) h
  where
    of : Progress → Stopped
    of (Ok c) = x
    of (Err e) = e

-- a slice that is refused where it is opened, and one that is begun
module _ (g : ℕ) (s : List ℕ) (m : Room) (r : Progress) (mu : Room) (o : Opened s m r mu) where
  pub opened-answer : (e : Stopped) → r ≡ Err e → (a : Answer) → a ≡ refusal_from e → ReadBy (up_to g eac3) s m a mu
  opened-answer e x a q = by (dec_lt (length s) 6)
    where
      by : Dec (length s < 6) → ReadBy (up_to g eac3) s m a mu
      by (yes h) =
          let t = o.short h in
          subst (ReadBy (up_to g eac3) s m a) (sym t.left) (short-answer s m g e a h (stopped-is (sym x ∙ t.is)) q)
      by (no h) =
          let l : 6 ≤ length s = omega arith in
          whole-answer s m g r start mu a l (stays r e start mu (tested g eac3 s) x ∙ begins g s m r start mu (o.stops e x l)) (rw x q)

  pub begun-answer : (c : Cursor) → r ≡ Ok c → (a : Answer) (mt : Room) → ReadBy (up_to g eac3) s mu a mt → ReadBy (up_to g eac3) s m a mt
  begun-answer c x a mt h = subst (λ (y : Room). ReadBy (up_to g eac3) s y a mt) (o.goes c x).left h
