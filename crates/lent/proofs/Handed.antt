-- What the thin functions over a `Reader` have in common. Such a function takes the struct apart and hands the slice, the place and its other parameters on to a covered function, whose contract says the same.
--     recording, recording-vals, recording-tells        the parameters beside the struct of a function that records, and how their machine values are outcome
--     left-on, lefts       of each parameter a function has at exit what its callee says of it;        lefts-fit, lefts-go        what the prover owes of that, and the law
--     Thin, Full           such a function's signature, and its callee's: `rest` are the other parameters
--     answered             what a callee leaves, taken apart
--     asked                what the function has on entry is what the callee asks
--     ends                 what the callee leaves is what the function has at exit
--     asked-made, ends-made        the same of a function with plain parameters that makes the struct and hands it on
-- The laws take `Logic`. The rest assumes nothing.
use mathlib.Core.Path.{◌≡◌, refl, ap, subst}
use Prim.Native.Nat.{ℕ, suc}
use mathlib.Core.List.{List, [], ◌∷◌}
use lib.ListN.{length}
use seplogic.Ra.Ura.{Ura}
use mir.Syntax.{named, w64}
use mir.Val.{Val}
use base.Logic.{ent, sep, id⊢}
use base.Fml.{Fml, fsep}
use types.Logic.{Logic, sem}
use contract.Lifetimes.{Lfts, Shares}
use types.Kit.{Goal, Soaks, Seq, Item, ‵, raw, given, ◌⊛◌, ⋆, some, later, ◌$◌, ◌∵◌, !, qed, by, move, drop, use1, split, join, pick, await, learn, fsplit, fjoin, suffices, frame, done}
use denote.RattleType.{Denots, Valss, owns}
use denote.Laws.{Is, Ises, Spells, Tellss, shows}
use denote.Plain.{uint_vals, uint_Tells}
use denote.Builtin.{u8, u16, u32, usize, i8, i16, SliceRefOf}
use denote.Exit.{Kept, yes, left}
use denote.Signature.{Slot, plain, mut_slice, named_lft, types_at, type_at}
use denote.Slice.{slice_val, mut_slice_vals, mut_slice_Tells}
use denote.Struct.Laws as LL
use denote.Steps.{nothing, peeks}
use denote.Struct.Rest.{all_own, own_open, own_shut}
use denote.Triple.End.{Kepts, Fins, lasts_of}
use denote.Triple.Entry.{Args, Vals, Res, alive, on_entry}
use denote.Triple.Spec.{triple_of}
use denote.Triple.Clauses.{Ended, Clauses, Lasts, at_exit, lasts, closing}
use denote.Triple.Walked.{Stay, Stays, AllGo, fits_of, has_of, walk_of, ends_at}
use Rattle.bits.specs.contracts.BitPlace as P
use Rattle.bits.proofs.BitPlace.TheLaws as P'
use Rattle.syntax.specs.contracts.Label as N
use Rattle.syntax.proofs.Label.TheLaws as N'
use Rattle.lent.specs.declared.Reader.{Reader}
use Rattle.lent.specs.contracts.Reader as T
use Rattle.lent.proofs.Reader.TheLaws as T'

-- the parameters beside the struct of a function that records: the six slices, the count, a place, the label, and what else it takes
abbrev pub recording : List (Slot 7) → List (Slot 7)
recording ss = mut_slice 1 tt (λ _. u8) ∷ mut_slice 2 tt (λ _. i8) ∷ mut_slice 3 tt (λ _. i16) ∷ mut_slice 4 tt (λ _. u16) ∷ mut_slice 5 tt (λ _. u16) ∷ mut_slice 6 tt (λ _. u32) ∷ plain (λ _. usize) ∷ plain (λ _. P.the_row) ∷ plain (λ _. N.the_row) ∷ ss

-- how their machine values are spelled, and that the types tell them
abbrev pub recording-vals : (κs : Lfts 7) (ss : List (Slot 7)) → Spells (types_at ss κs) → Spells (types_at (recording ss) κs)
recording-vals κs ss sp = (mut_slice_vals, (mut_slice_vals, (mut_slice_vals, (mut_slice_vals, (mut_slice_vals, (mut_slice_vals, (uint_vals w64, (LL.vals P.the_type P'.the_laws, (LL.vals N.the_type N'.the_laws, sp)))))))))

abbrev pub recording-tells : (κs : Lfts 7) (ss : List (Slot 7)) (sp : Spells (types_at ss κs)) → Tellss (types_at ss κs) (Ises (types_at ss κs)) sp → Tellss (types_at (recording ss) κs) (Ises (types_at (recording ss) κs)) (recording-vals κs ss sp)
recording-tells κs ss sp tl = (
  mut_slice_Tells (named 1) κs.1.0 u8,
  (
    mut_slice_Tells (named 2) κs.1.1.0 i8,
    (
      mut_slice_Tells (named 3) κs.1.1.1.0 i16,
      (
        mut_slice_Tells (named 4) κs.1.1.1.1.0 u16,
        (
          mut_slice_Tells (named 5) κs.1.1.1.1.1.0 u16,
          (
            mut_slice_Tells (named 6) κs.1.1.1.1.1.1.0 u32,
            (uint_Tells w64, (LL.tells P.the_type P'.the_laws, (LL.tells N.the_type N'.the_laws, tl))),
          ),
        ),
      ),
    ),
  ),
)

module _ {n : ℕ} where
  abbrev pub left-on : (s : Slot n) (k : Kept) → Stay s k
  left-on s k = record { fit = λ κs x f. Unit {0}; has = λ κs x f vs. left ((s.row κs).exit k) x f }

  abbrev pub lefts : (ss : List (Slot n)) (ks : Kepts ss) → Stays ss ks
  lefts [] ks = tt
  lefts (s ∷ ss) ks = (left-on s ks.0, lefts ss ks.1)

  module _ (κs : Lfts n) where
    pub lefts-fit : (ss : List (Slot n)) (ks : Kepts ss) (a : Denots (types_at ss κs)) (ws : Fins κs ss ks a) → fits_of κs ss ks (lefts ss ks) a ws
    lefts-fit [] ks a ws = tt
    lefts-fit (s ∷ ss) ks a ws = (tt, lefts-fit ss ks.1 a.1 ws.1)

    pub lefts-have : (ss : List (Slot n)) (ks : Kepts ss) (a : Denots (types_at ss κs)) (ws : Fins κs ss ks a) (vss : Valss (types_at ss κs)) → lasts_of κs ss ks a ws ≡ has_of κs ss ks (lefts ss ks) a ws vss
    lefts-have [] ks a ws vss = refl
    lefts-have (s ∷ ss) ks a ws vss = ap (fsep (left ((s.row κs).exit ks.0) a.0 ws.0)) (lefts-have ss ks.1 a.1 ws.1 vss.1)

module _ {M : Type 1} {𝓤 : Ura M} (𝓛 : Logic 𝓤) where
  pub lefts-go : (n : ℕ) (ss : List (Slot n)) (ks : Kepts ss) → AllGo 𝓛 n ss ks (lefts ss ks)
  lefts-go n [] ks = tt
  lefts-go n (s ∷ ss) ks = ((λ κs x f vs ok. 𝓛.laws.⇛_intro (sem 𝓛 (left ((s.row κs).exit ks.0) x f))), lefts-go n ss ks.1)

-- a callee has returned u, at the choice y of what its triple binds: what it leaves, apart
module _ {M : Type 1} {𝓤 : Ura M} {𝓛 : Logic 𝓤} {K : Type 0} {Γ : List (Item 𝓤)} {G : Goal 𝓤 𝓛.H} where
  pub answered : K → Soaks G → (E : Ended) (c : Clauses 𝓤 E) (y : (triple_of 𝓛 E.signature (closing 𝓛 E c)).Ghost) (u : Val)
      → ((r : Res E.signature y.0.0) (ws : Lasts E y.0.0 y.0.3) → Is (type_at E.signature.result y.0.0) r (u ∷ [])
      → Seq K 𝓛 (‵ ((type_at E.signature.result y.0.0).own_val r (u ∷ [])) ∷ raw (alive 𝓛 E.signature y.0.0 y.0.1) ∷ ‵ (lasts E y.0.0 y.0.3 ws) ∷ raw ((c y.0.0 y.0.3).ensures y.1 r (at_exit E y.0.0 y.0.3 ws)) ∷ Γ) G)
      → Seq K 𝓛 (raw ((triple_of 𝓛 E.signature (closing 𝓛 E c)).post y u) ∷ Γ) G
  answered t z E c y u k =
      let R = type_at E.signature.result y.0.0 in
      use1 𝓛 (later (some (λ (r : Res E.signature y.0.0). (raw (alive 𝓛 E.signature y.0.0 y.0.1) ⊛ ‵ (R.own_val r (u ∷ []))) ⊛ some (λ (ws : Lasts E y.0.0 y.0.3). ‵ (lasts E y.0.0 y.0.3 ws) ⊛ raw ((c y.0.0 y.0.3).ensures y.1 r (at_exit E y.0.0 y.0.3 ws)))))) (id⊢ 𝓤 _) $
      await t z $ pick t (λ r. split t $ move t (1 ∷ []) $ pick t (λ ws. split t $ move t (2 ∷ []) $ split t $ move t (1 ∷ []) $ peeks t R (Is R) (shows 𝓛 R) r (u ∷ []) (k r ws)))

module _ (m : ℕ) (rest : List (Slot (suc m))) (ks : Kepts rest) (res : Slot (suc m)) where
  abbrev pub Thin : Ended
  Thin = record { signature = record { lifetimes = suc m; outlives = []; params = plain (λ κs. T.the_row (named_lft (suc m) 0 tt κs)) ∷ rest; result = res }; kept = (yes, ks) }

  abbrev pub Full : Ended
  Full = record { signature = record { lifetimes = suc m; outlives = []; params = SliceRefOf (0 ∷ []) tt (plain (λ κs. u8)) (λ κs. tt) ∷ plain (λ κs. P.the_row) ∷ rest; result = res }; kept = (yes, (yes, ks)) }

  module _ {M : Type 1} {𝓤 : Ura M} (𝓛 : Logic 𝓤) (κs : Lfts (suc m)) (qs : Shares (suc m)) (d : Reader) (ins : Denots (types_at rest κs)) (vs : Valss (types_at rest κs)) where
    -- the arguments and their machine values, of the struct and of its parts
    abbrev a : Args Thin.signature κs
    a = (d, ins)

    abbrev pub vss : Vals Thin.signature κs
    vss = (T'.lowered d ∷ [], vs)

    abbrev pub a' : Args Full.signature κs
    a' = (d.src, (d.at, ins))

    abbrev pub vss' : Vals Full.signature κs
    vss' = (slice_val d.src.ref_ptr (length d.src.now) ∷ [], (P'.lowered d.at ∷ [], vs))

    apart : ent 𝓤 (sem 𝓛 (owns (types_at Thin.signature.params κs) a vss)) (sem 𝓛 (owns (types_at Full.signature.params κs) a' vss'))
    apart =
        qed 𝓛 (‵ (owns (types_at Thin.signature.params κs) a vss) ∷ []) ∵ fsplit ! $
        use1 𝓛 (given (T'.lowered d ∷ [] ≡ T'.lowered d ∷ []) (‵ (all_own (T.the_type (named_lft (suc m) 0 tt κs)).parts (T'.the_laws (named_lft (suc m) 0 tt κs)) (d.src, (d.at, tt))))) (own_open 𝓛 (T.the_type (named_lft (suc m) 0 tt κs)) (T'.the_laws (named_lft (suc m) 0 tt κs)) (d.src, (d.at, tt)) (T'.lowered d)) $ learn ! (λ _.
        -- [what the fields own; what the rest owns]
        fsplit ! $ move ! (1 ∷ []) $ fsplit ! $ move ! (1 ∷ []) $ drop ! $ move ! (0 ∷ 2 ∷ []) $ fjoin ! $ move ! (1 ∷ 0 ∷ []) $ fjoin ! $ done !)

    together : ent 𝓤 (sem 𝓛 (owns (types_at Full.signature.params κs) a' vss')) (sem 𝓛 (owns (types_at Thin.signature.params κs) a vss))
    together =
        qed 𝓛 (‵ (owns (types_at Full.signature.params κs) a' vss') ∷ []) ∵ fsplit ! $ move ! (1 ∷ []) $ fsplit ! $
        -- [what the place owns; what the rest owns; what the slice owns]
        nothing ! $ move ! (1 ∷ 0 ∷ []) $ fjoin ! $ move ! (2 ∷ 0 ∷ []) $ fjoin ! $
        use1 𝓛 (‵ ((T.the_row (named_lft (suc m) 0 tt κs)).own_val d (T'.lowered d ∷ []))) (own_shut 𝓛 (T.the_type (named_lft (suc m) 0 tt κs)) (T'.the_laws (named_lft (suc m) 0 tt κs)) (d.src, (d.at, tt))) $ fjoin ! $ done !

    has_rest : (ws : Fins κs rest ks ins) → ent 𝓤 (sem 𝓛 (lasts_of κs rest ks ins ws)) (sem 𝓛 (has_of κs rest ks (lefts rest ks) ins ws vs))
    has_rest ws = subst (λ (F : Fml). ent 𝓤 (sem 𝓛 (lasts_of κs rest ks ins ws)) (sem 𝓛 F)) (lefts-have κs rest ks ins ws vs) (id⊢ 𝓤 _)

    module _ (c : Clauses 𝓤 Thin) (c' : Clauses 𝓤 Full) (g : (c κs a).ghost) (g' : (c' κs a').ghost) where
      pub asked : ent 𝓤 ((c κs a).requires g) ((c' κs a').requires g')
          → ent 𝓤 (sep 𝓤 (on_entry 𝓛 Thin.signature κs qs a vss) ((c κs a).requires g)) ((triple_of 𝓛 Full.signature (closing 𝓛 Full c')).pre ((κs, qs, tt, a', vss'), g'))
      asked asks =
          qed 𝓛 ((raw (alive 𝓛 Thin.signature κs qs) ⊛ ‵ (owns (types_at Thin.signature.params κs) a vss)) ∷ raw ((c κs a).requires g) ∷ []) ∵ split ! $ move ! (1 ∷ []) $
          use1 𝓛 (‵ (owns (types_at Full.signature.params κs) a' vss')) apart $ move ! (1 ∷ 0 ∷ []) $ join ! $ frame ! $ by ! asks

      pub ends : (r : Res Thin.signature κs) (u : Val) (ws : Lasts Full κs a')
          → ent 𝓤 ((c' κs a').ensures g' r (at_exit Full κs a' ws)) ((c κs a).ensures g r (at_exit Thin κs a (tt, ws.1.1)))
          → ent 𝓤 (⋆ 𝓛 (‵ ((type_at res κs).own_val r (u ∷ [])) ∷ raw (alive 𝓛 Thin.signature κs qs) ∷ ‵ (lasts Full κs a' ws) ∷ raw ((c' κs a').ensures g' r (at_exit Full κs a' ws)) ∷ []))
          ((walk_of 𝓛 Thin (lefts Thin.signature.params Thin.kept) c).post ((κs, qs, tt, a, vss), g) u)
      ends r u ws tells =
          qed 𝓛 (‵ ((type_at res κs).own_val r (u ∷ [])) ∷ raw (alive 𝓛 Thin.signature κs qs) ∷ ‵ (lasts Full κs a' ws) ∷ raw ((c' κs a').ensures g' r (at_exit Full κs a' ws)) ∷ []) ∵
          suffices ! _ (ends_at 𝓛 Thin (lefts Thin.signature.params Thin.kept) c ((κs, qs, tt, a, vss), g) u r (tt, ws.1.1) (tt, lefts-fit κs rest ks ins ws.1.1)) $
          move ! (2 ∷ []) $ fsplit ! $ drop ! $ fsplit ! $ drop ! $
          -- [what is said of the rest; the result; the tokens; what the callee ensures]
          use1 𝓛 (‵ (has_of κs rest ks (lefts rest ks) ins ws.1.1 vs)) (has_rest ws.1.1) $
          nothing ! $ fjoin ! $ join ! $ move ! (1 ∷ 0 ∷ []) $ join ! $ frame ! $ by ! tells

      -- the other way: the struct is made of the parameters, and the callee takes it
      pub asked-made : ent 𝓤 ((c' κs a').requires g') ((c κs a).requires g)
          → ent 𝓤 (sep 𝓤 (on_entry 𝓛 Full.signature κs qs a' vss') ((c' κs a').requires g')) ((triple_of 𝓛 Thin.signature (closing 𝓛 Thin c)).pre ((κs, qs, tt, a, vss), g))
      asked-made asks =
          qed 𝓛 ((raw (alive 𝓛 Full.signature κs qs) ⊛ ‵ (owns (types_at Full.signature.params κs) a' vss')) ∷ raw ((c' κs a').requires g') ∷ []) ∵ split ! $ move ! (1 ∷ []) $
          use1 𝓛 (‵ (owns (types_at Thin.signature.params κs) a vss)) together $ move ! (1 ∷ 0 ∷ []) $ join ! $ frame ! $ by ! asks

      pub ends-made : (r : Res Full.signature κs) (u : Val) (ws : Lasts Thin κs a)
          → ent 𝓤 ((c κs a).ensures g r (at_exit Thin κs a ws)) ((c' κs a').ensures g' r (at_exit Full κs a' (tt, (tt, ws.1))))
          → ent 𝓤 (⋆ 𝓛 (‵ ((type_at res κs).own_val r (u ∷ [])) ∷ raw (alive 𝓛 Full.signature κs qs) ∷ ‵ (lasts Thin κs a ws) ∷ raw ((c κs a).ensures g r (at_exit Thin κs a ws)) ∷ []))
          ((walk_of 𝓛 Full (lefts Full.signature.params Full.kept) c').post ((κs, qs, tt, a', vss'), g') u)
      ends-made r u ws tells =
          qed 𝓛 (‵ ((type_at res κs).own_val r (u ∷ [])) ∷ raw (alive 𝓛 Full.signature κs qs) ∷ ‵ (lasts Thin κs a ws) ∷ raw ((c κs a).ensures g r (at_exit Thin κs a ws)) ∷ []) ∵
          suffices ! _ (ends_at 𝓛 Full (lefts Full.signature.params Full.kept) c' ((κs, qs, tt, a', vss'), g') u r (tt, (tt, ws.1)) (tt, (tt, lefts-fit κs rest ks ins ws.1))) $
          move ! (2 ∷ []) $ fsplit ! $ drop ! $ use1 𝓛 (‵ (has_of κs rest ks (lefts rest ks) ins ws.1 vs)) (has_rest ws.1) $
          nothing ! $ fjoin ! $ nothing ! $ fjoin ! $ join ! $ move ! (1 ∷ 0 ∷ []) $ join ! $ frame ! $ by ! tells
