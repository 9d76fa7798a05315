-- The state of bit allocation in the cells, step by step. Assumes nothing.
use Prim.Native.Nat.{ℕ, ◌%◌}
use native.Mathlib.Omega.{arith}
use mathlib.Core.Path.{◌≡◌, ap, sym, subst, ◌∙◌}
use Rattle.std.specs.Prelude.{Option, Some, None, Result, Ok, Err}
use Rattle.refusals.specs.declared.Refusal.{Refusal}
use Rattle.refusals.specs.declared.Refusal.TheVariants.{ParametersNeverSent}
use Rattle.allocation.specs.declared.Codes.{Codes}
use mathlib.Core.List.{List, [], ◌∷◌}
use Rattle.tables.specs.Small.{defspxbndstrc, defcplbndstrc}
use Rattle.slots.specs.declared.Shape.{Shape}
use Rattle.slots.specs.Held.{bins}
use Rattle.allocation.specs.State.{number_in, fresh_state, segments_of, Alike, Allocated, allocated, by_sent, point_slots, params_for, allocated_of}
use Rattle.allocation.proofs.StateLaws.{allocated-alike}
use Rattle.allocation.specs.declared.AllocState.{AllocState}
use Rattle.allocation.specs.declared.Segments.{Segments}
use Rattle.cells.specs.Cells.{state, cell_of, put_in}
use Rattle.cells.specs.Names.{BAI_SENT, CSNROFFST, FSNROFFST, FGAINCOD, DELTNSEG, SPXBNDSTRC, CPLBNDSTRC, FIRSTSPXCOS, FIRSTCPLCOS, FIRSTCPLLEAK, FSCOD}
use Rattle.derivations.specs.Acted.{acted, Numbered}
use Rattle.sideinfo.specs.Shapes.{shape_of}
use Rattle.derivations.specs.Allocating.{put_all, sent_of, put_state, five_ones, fresh_by, alloc_state_of, segments_in, allocate_in}

-- a state of bit allocation put into its cells, and all that a frame's blocks start with
pub put-state-is : (m m1 m2 m3 y : List ℕ) (a : AllocState) (s : List ℕ) → s ≡ sent_of a.parameters → m1 ≡ put_all m BAI_SENT s
    → m2 ≡ put_all m1 CSNROFFST (a.csnroffst ∷ a.cplfleak ∷ a.cplsleak ∷ []) → m3 ≡ put_all m2 FSNROFFST a.fsnroffst → y ≡ put_all m3 FGAINCOD a.fgaincod → y ≡ put_state m a
unfolding put_state
put-state-is m m1 m2 m3 y a s es e1 e2 e3 ey = rw (ey, e3, e2, e1, es)

pub fresh-is : (m m1 m2 m3 m4 m5 m6 y : List ℕ) (a : AllocState) (spx cpl : List ℕ) → a ≡ fresh_state → m1 ≡ put_state m a → m2 ≡ put_all m1 DELTNSEG (0 ∷ 0 ∷ 0 ∷ 0 ∷ 0 ∷ 0 ∷ [])
    → spx ≡ defspxbndstrc → m3 ≡ put_all m2 SPXBNDSTRC spx → cpl ≡ defcplbndstrc → m4 ≡ put_all m3 CPLBNDSTRC cpl → m5 ≡ put_all m4 FIRSTSPXCOS five_ones → m6 ≡ put_all m5 FIRSTCPLCOS five_ones
    → y ≡ put_in m6 FIRSTCPLLEAK 1 → y ≡ fresh_by m
unfolding fresh_by
fresh-is m m1 m2 m3 m4 m5 m6 y a spx cpl ea e1 e2 es e3 ec e4 e5 e6 ey = rw (ey, e6, e5, e4, ec, e3, es, e2, e1, ea)

-- the pointers of the block
pub allocate-is : (m x b bb : List ℕ) (a : AllocState) (f : ℕ) (r : Result (Unit {0}) Refusal) (s : Shape) (d : Segments) → a ≡ alloc_state_of m → f ≡ cell_of m FSCOD % 3 → s ≡ shape_of m
    → ((slot : ℕ) → Alike (segments_of d slot) (segments_of (segments_in m) slot)) → allocated r bb ≡ allocated_of a f s d x b → acted (number_in r) (state m (bins x bb)) ≡ allocate_in (state m (bins x b))
unfolding allocate_in
allocate-is m x b bb a f r s d ea ef es ed e =
    let z : allocated r bb ≡ allocated_of (alloc_state_of m) (cell_of m FSCOD % 3) (shape_of m) (segments_in m) x b = e ∙ allocated-alike a s d (segments_in m) ed f x b ∙ rw (ea, ef, es) in
    ap (λ (o : Allocated). acted (number_in o.ended) (state m (bins x o.baps))) z

pub allocate-numbered : (a : AllocState) (f : ℕ) (s : Shape) (d : Segments) (r : Result (Unit {0}) Refusal) (x b bb : List ℕ) → allocated r bb ≡ allocated_of a f s d x b → Numbered r
unfolding allocated_of
allocate-numbered a f s d r x b bb e = go a.parameters (ap (λ (o : Allocated). o.ended) e)
  where
    go : (q : Option Codes) → r ≡ (by_sent q (allocated (Err ParametersNeverSent) b) (λ p. allocated (Ok tt) (point_slots a (params_for p f) s d x b 0 7))).ended → Numbered r
    go None q = subst Numbered (sym q) (omega arith)
    go (Some p) q = subst Numbered (sym q) tt
