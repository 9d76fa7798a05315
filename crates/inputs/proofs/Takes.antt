-- What a row of input reads: looked at, recorded, stored. Assumes nothing.
use Prim.Native.Nat.{ℕ, suc, ◌+◌, ◌-◌, ◌%◌, ◌≤◌, ◌<◌}
use mathlib.Core.Bool.{Bool, true, false, cond}
use mathlib.Core.Path.{◌≡◌, refl, sym, ap, ◌∙◌}
use mathlib.Core.List.{List, ◌∷◌}
use native.Mathlib.Omega.{arith}
use native.Mathlib.Decide.{dec_le}
use native.Mathlib.Numerals.{add-one}
use lib.Dec.{leb, ltb}
use borrow.Author.Tests.{le-leb, lt-leb, lt-ltb, le-ltb, ltb-false}
use Rattle.std.specs.Prelude.{Result as Ended, Ok, Err}
use Rattle.bits.specs.Bits.{bits_at}
use Rattle.reading.specs.Tree.{Tree, done, ◌>>=◌}
use Rattle.reading.specs.Run.{Field, field_of, Result, accepted, refused, Outcome, skim}
use Rattle.reading.specs.Room.{Room, size, pushed, Out, got, record_in, skimmed_by, exec}
use Rattle.reading.proofs.Rooms.{go_on, ◌then◌, exec-bind}
use Rattle.syntax.specs.Cursors.{Progress}
use Rattle.syntax.specs.Records.{outcome}
use Rattle.syntax.specs.Records as R
use Rattle.syntax.specs.declared.Cursor.{Cursor}
use Rattle.syntax.specs.declared.Stopped.{Stopped}
use Rattle.refusals.specs.Refusals.{number_of}
use Rattle.slots.specs.Held.{bins}
use Rattle.exponents.specs.Set.{set_of}
use Rattle.exponents.specs.SetRead.{SetRead}
use Rattle.plan.specs.Taken.{taken}
use Rattle.refusals.specs.declared.Refused.{Refused}
use Rattle.plan.specs.declared.Taken.{Taken}
use Rattle.kept.specs.Kept.{stale_of}
use Rattle.allocation.proofs.MemoLaws.{memo-stale}
use Rattle.cells.specs.Cells.{State, state, cell_of, place_of, sum_of, stored, stored_all, puts_in, part_of}
use Rattle.cells.specs.Names.{ABSEXP}
use Rattle.derivations.specs.Sets.{strategy_of, start_of, end_of, exponents_of}
use Rattle.derivations.specs.Mantissas.{mantissas_in}
use Rattle.rows.specs.Rows.{name_in, width_in, index_in, keep_in, region_in, slot_in}
use Rattle.rows.specs.Steps.{input_in, set_in}
use Rattle.inputs.specs.Reads.{Right, short, bits_of, passed_of, passed_by, Looks, Sees, Takes, Gathers, set_by}
use Rattle.recording.specs.Recorded.{label_in, looked, recorded, found_by, Keeps}
use Rattle.syntax.specs.declared.Label.{Label}
use Rattle.recording.specs.declared.Look.{Look}
use Rattle.exponents.specs.declared.set.Set.{Set}

-- bits that are passed over, and bits that are read
module _ (l p d : ℕ) (b : Bool) (eb : b ≡ ltb l (p + d)) where
  pub ends : b ≡ false → p + d ≤ l
  ends h = ltb-false _ _ (sym eb ∙ h)

  pub span-past : b ≡ true → Err (short p) ≡ passed_of l p d
  span-past h = rw (← eb, h) refl

  pub span-found : b ≡ false → Ok (looked (p + d) d 0 0) ≡ passed_of l p d
  span-found h = rw (← eb, h) refl

  pub bits-past : (s : List ℕ) → b ≡ true → Err (short p) ≡ bits_of s l p d
  bits-past s h = rw (← eb, h) refl

  pub bits-found : (s : List ℕ) → b ≡ false → (v : ℕ) → v ≡ bits_at s p d → Ok (looked (p + d) d v v) ≡ bits_of s l p d
  bits-found s h v e = rw (e, ← eb, h) refl

-- what a row of input finds, by its kind
module _ (s : List ℕ) (l w : ℕ) (st : State) (p : ℕ) (x : Ended Look Refused) where
  test : (a b : ℕ) (y z : Out State) → cond (leb a b) y z ≡ cond (ltb b a) z y
  test a b y z = go (dec_le a b)
    where
      go : Dec (a ≤ b) → cond (leb a b) y z ≡ cond (ltb b a) z y
      go (yes h) = rw (le-leb _ _ h, le-ltb _ _ h) refl
      go (no n) = let h : b < a = omega arith in rw (lt-leb _ _ h, lt-ltb _ _ h) refl

  found : (c : Bool) (d v q : ℕ) (m : Room)
      → cond c (got (refused 8) p q m) (record_in (field_of (part_of (name_in w) (index_in w) st.cells) p d v) q m (λ n m. got (accepted (stored st (place_of (keep_in w) st.cells) v)) (p + d) n m))
      ≡ found_by w (cond c (Err (short p)) (Ok (looked (p + d) d v v))) st p q m
  found true d v q m = refl
  found false d v q m = refl

  pub looks-bits : w % 16 < 3 → (d : ℕ) → d ≡ width_in w → x ≡ bits_of s l p d → Looks s l w st p x
  unfolding exec input_in
  looks-bits h d ed ex = record {
    is = λ q m. rw (lt-ltb _ _ h, ex, ed) (test (p + width_in w) l _ _ ∙ found (ltb l (p + width_in w)) (width_in w) (bits_at s p (width_in w)) q m);
  }

  pub looks-span : 3 ≤ w % 16 → w % 16 < 4 → (d : ℕ) → d ≡ cell_of st.cells (region_in w) → x ≡ passed_of l p d → Looks s l w st p x
  unfolding exec input_in
  looks-span h n d ed ex = record {
    is = λ q m. rw (le-ltb _ _ h, lt-ltb _ _ n, ex, ed) (test (p + cell_of st.cells (region_in w)) l _ _ ∙ found (ltb l (p + cell_of st.cells (region_in w))) (cell_of st.cells (region_in w)) 0 q m);
  }

-- what is found, and what was done with it, is what is read
pub takes : {s : List ℕ} {l w : ℕ} {cells : List ℕ} {p q : ℕ} {m : Room} {x : Ended Look Refused} {r : Progress} {cells' : List ℕ} {m' : Room}
    → Sees s l w cells p x → Keeps w x cells p q m r cells' m' → Takes s l w cells p q m r cells' m'
takes {q = q} {m = m} h k = record { is = λ b. k.is b ∙ sym ((h.is b).is q m) }

-- a state that changes after what was read
abbrev changed : (State → State) → Result State → Result State
changed f (accepted st) = accepted (f st)
changed f (refused n) = refused n

abbrev after : (State → State) → Out State → Out State
after f o = got (changed f o.result) o.place o.count o.left

after-outcome : (f : State → State) (r : Progress) (st : State) (m : Room) → outcome r (f st) m ≡ after f (outcome r st m)
after-outcome f (Ok c) st m = refl
after-outcome f (Err e) st m = refl

-- the mantissas: their record, and then what their walk tells
module _ (s : List ℕ) (l w : ℕ) (st : State) (p q : ℕ) (m : Room) where
  abbrev behind : List ℕ → State → State
  behind bits st' = stored_all st' (suc (place_of (keep_in w) st.cells)) bits

  abbrev field : ℕ → Field
  field e = field_of (part_of (name_in w) (index_in w) st.cells) p (e - p) 0

  kept : (tags : ℕ) (bits : List ℕ) (e : ℕ) (b : Bool)
      → after (behind bits) (cond b (got (refused 33) p q m) (got (accepted (stored st (place_of (keep_in w) st.cells) tags)) e (q + 1) (pushed m q (field e))))
      ≡ cond b (got (refused 33) p q m) (got (accepted (stored_all st (place_of (keep_in w) st.cells) (tags ∷ bits))) e (q + 1) (pushed m q (field e)))
  unfolding puts_in
  kept tags bits e true = refl
  kept tags bits e false = refl

  abbrev then_kept : Outcome (List ℕ) → Out State
  then_kept o = skimmed_by o.result o.place q m (λ v e. record_in (field e) q m (λ n m. got (accepted (stored_all st (place_of (keep_in w) st.cells) v)) e n m))

  walked : 4 ≤ w % 16 → w % 16 < 8 → (o : Outcome (List ℕ)) → o ≡ skim (mantissas_in st) s p l → then_kept o ≡ exec s l (cond (ltb (w % 16) 8) (input_in w st) (set_in w st)) p q m
  unfolding exec input_in skimmed_by
  walked lo hi o e = rw (lt-ltb _ _ hi, le-ltb (w % 16) 3 (omega arith), le-ltb _ _ lo) (ap then_kept e)

  told : (t : Taken) → after (behind t.bits) (recorded w (passed_by t p) st p q m) ≡ then_kept (taken (Ok t))
  unfolding skimmed_by
  told t = kept t.tags t.bits t.place.0 (leb (size m) q)

  missed : (e : Refused) → got (refused (number_of e.refusal)) e.place.0 q m ≡ then_kept (taken (Err e))
  unfolding skimmed_by
  missed e = refl

-- the mantissas, and a set of exponents
module _ (s : List ℕ) (l w : ℕ) (exps baps cells mem : List ℕ) (right : Right mem (bins exps baps)) (p q : ℕ) (m : Room) (lo : 4 ≤ w % 16) where
  -- a walk that is refused
  pub gathers-missed : w % 16 < 8 → {y : Ended Taken Refused} (e : Refused) → y ≡ Err e → taken y ≡ skim (mantissas_in (state cells (bins exps baps))) s p l
      → (r : Progress) (cells' : List ℕ) (m' : Room) → Keeps w (Err e) cells p q m r cells' m' → Gathers s l w (state cells (bins exps baps)) p q m r (state cells' (bins exps baps)) m' mem
  gathers-missed hi e i h r cells' m' kp =
      let st = state cells (bins exps baps) in
      record { is = kp.is (bins exps baps) ∙ (missed s l w st p q m e ∙ walked s l w st p q m lo hi _ (sym (ap taken i) ∙ h)); right = right }

  -- a walk that is told, whose record is kept
  module _ (hi : w % 16 < 8) {y : Ended Taken Refused} (t : Taken) (i : y ≡ Ok t) (h : taken y ≡ skim (mantissas_in (state cells (bins exps baps))) s p l)
      (x : Look) (ex : x ≡ passed_by t p) (r : Progress) (cells' : List ℕ) (m' : Room) (kp : Keeps w (Ok x) cells p q m r cells' m') where
    behind-is : outcome r (state (puts_in cells' (suc (place_of (keep_in w) cells)) t.bits) (bins exps baps)) m' ≡ exec s l (cond (ltb (w % 16) 8) (input_in w (state cells (bins exps baps))) (set_in w (state cells (bins exps baps)))) p q m
    behind-is =
        let st = state cells (bins exps baps) in
        after-outcome (behind s l w st p q m t.bits) r (state cells' (bins exps baps)) m'
        ∙ ap (after (behind s l w st p q m t.bits)) (kp.is (bins exps baps) ∙ ap (λ z. recorded w z st p q m) ex)
        ∙ told s l w st p q m t ∙ walked s l w st p q m lo hi _ (sym (ap taken i) ∙ h)

    pub gathers-full : (v : Stopped) → r ≡ Err v → (cells'' : List ℕ) → Gathers s l w (state cells (bins exps baps)) p q m (Err v) (state cells'' (bins exps baps)) m' mem
    gathers-full v e cells'' = record {
      is = sym (ap (λ (z : Progress). outcome z (state (puts_in cells' (suc (place_of (keep_in w) cells)) t.bits) (bins exps baps)) m') e) ∙ behind-is;
      right = right;
    }

    pub gathers-mantissas : (c : Cursor) → r ≡ Ok c → (k : ℕ) → k ≡ place_of (keep_in w) cells → (cells'' : List ℕ) → cells'' ≡ puts_in cells' (k + 1) t.bits
        → Gathers s l w (state cells (bins exps baps)) p q m (Ok c) (state cells'' (bins exps baps)) m' mem
    gathers-mantissas c e k ek cells'' ec =
        let z : cells'' ≡ puts_in cells' (suc (place_of (keep_in w) cells)) t.bits = ec ∙ ap (λ j. puts_in cells' j t.bits) (add-one k ∙ ap suc ek) in
        record {
          is = ap (λ (u : List ℕ). outcome (Ok c) (state u (bins exps baps)) m') z ∙ sym (ap (λ (d : Progress). outcome d (state (puts_in cells' (suc (place_of (keep_in w) cells)) t.bits) (bins exps baps)) m') e) ∙ behind-is;
          right = right;
        }

  -- of a set that was read, the state
  module _ (x : Set) (ex : x ≡ set_by w cells) (r : Progress) (bu : List ℕ) (m' : Room)
      (read : SetRead s l (R.part_of x.label) x.slot x.strategy x.start x.end x.absexp exps p q m r bu m') where
    set_told : outcome r (state cells (bins bu baps)) m' ≡ exec s l (set_in w (state cells (bins exps baps))) p q m
    unfolding exponents_of go_on exec
    set_told = sym (ap (λ (u : Tree State). exec s l u p q m) same ∙ exec-bind s l (tree x) (λ e. done (state cells (bins e baps))) p q m ∙ ap (λ (o : Out (List ℕ)). o then (λ e p n m. exec s l (done (state cells (bins e baps))) p n m)) (sym read.is) ∙ by r)
      where
        tree : Set → Tree (List ℕ)
        tree y = set_of (R.part_of y.label) y.slot y.strategy y.start y.end y.absexp exps

        same : set_in w (state cells (bins exps baps)) ≡ (tree x >>= (λ e. done (state cells (bins e baps))))
        same = ap (λ (y : Set). tree y >>= (λ e. done (state cells (bins e baps)))) (sym ex)

        by : (d : Progress) → (outcome d bu m' then (λ e p n m. exec s l (done (state cells (bins e baps))) p n m)) ≡ outcome d (state cells (bins bu baps)) m'
        by (Ok c) = refl
        by (Err e) = refl

    pub gathers-set : 8 ≤ w % 16 → (mem' : List ℕ) → mem' ≡ stale_of mem x.slot → Gathers s l w (state cells (bins exps baps)) p q m r (state cells (bins bu baps)) m' mem'
    gathers-set h mem' e = record {
      is = set_told ∙ (rw (le-ltb _ _ h) refl);
      right = record { held = read.held; memo = rw e (memo-stale mem exps bu baps x.slot right.memo right.held.size read.held.size read.laid.before read.laid.after) };
    }

-- what a set of exponents is read with
pub set_is : (w : ℕ) (m : List ℕ) (lb : Label) → lb ≡ label_in w m
    → (n : ℕ) → n ≡ sum_of (slot_in w) m % 256 → (sg : ℕ) → sg ≡ strategy_of m n → (from : ℕ) → from ≡ start_of m n → (to : ℕ) → to ≡ end_of m n → (ab : ℕ) → ab ≡ cell_of m ABSEXP
    → record { label = lb; slot = n; strategy = sg % 256; start = from; end = to; absexp = ab % 16 } ≡ set_by w m
set_is w m lb el n es sg eg from ef to et ab eab = rw (el, eg, ef, et, eab, es) refl
