-- Names that the pages keep nowhere, loudness words among them, steer nothing, of the reader. Assumes nothing.
use mathlib.Core.Path.{◌≡◌, refl, ap, sym, ◌∙◌, subst}
use mathlib.Core.Bool.{Bool, true, false, cond, not, ◌||◌}
use mathlib.Core.List.{List, [], ◌∷◌, map}
use mathlib.Core.Option.{some}
use Prim.Native.Nat.{ℕ, zero, suc, ◌+◌, ◌*◌, ◌≤◌, ◌<◌}
use native.Mathlib.Omega.{arith}
use lib.Dec.{eqb}
use lib.ListN.{length, get_elem?}
use Rattle.names.specs.Names.{compr, compr2, crc2, dialnorm, dialnorm2, dynrng, dynrng2}
use Rattle.reading.specs.Run.{Field, Entry, Result, accepted, refused, Outcome}
use Rattle.reading.specs.Records.{All}
use Rattle.reading.specs.Room.{size, cut}
use Rattle.reading.specs.Frame.{parse}
use Rattle.reading.specs.CommonReading.{list}
use Rattle.reading.proofs.Rooms.{cut-same}
use Rattle.cells.specs.Cells.{State}
use Rattle.annex.specs.Frame.{eac3}
use Rattle.rows.specs.Syntax.{among}
use Rattle.rows.specs.Unkept.{unkept}
use Rattle.annex.specs.Syncinfo.{syncinfo, bsi_size}
use Rattle.annex.specs.Unkept.{unkept_here}
use Rattle.words.specs.Words.{width_of}
use Rattle.bounds.proofs.Bounded.{pages}
use Rattle.answer.specs.Answer.{answer_by, count_of}
use Rattle.answer.specs.declared.Answer.{Answer}
use Rattle.outcomes.proofs.Room.{cut-none}
use Rattle.steers.specs.Steering.{bits_in, reread, Off, Outside, reread_in, renewed as renewedIn}
use Rattle.steers.proofs.Chosen.{cut-renewed}
use Rattle.steers.proofs.Elements.{Element, parse-elements}
use Rattle.steers.proofs.Closing.{closing}
use Rattle.loudness.proofs.Bsid.{frame-long}
use Rattle.loudness.proofs.Loudness.{unkept-blind, unkept-steers-nothing}
use Rattle.demands.specs.Calls.{Call, count, nth, Accepts}
use Rattle.demands.specs.Loudness.{words, Changed, renewed, WordsSteerNothing, AllWordsSteerNothing, AllUnkeptSteerNothing, WordsFree}
use Rattle.demands.proofs.Calls.{outcome, is, accepts, counts, bytes, holds, held}

accepted-not : {r : Result State} {a : State} {k : ℕ} → r ≡ accepted a → r ≡ refused k → ◌≡◌ {A = ℕ} 0 1
accepted-not e f = cc

module _ (N : ℕ → Bool) where
  -- all records with a name of the set are chosen
  abbrev chosen : ℕ → Entry → Bool
  chosen k e = N e.field.name

  -- a bit outside of all of them is outside of each
  outside-nth : (es : List Entry) (j k b : ℕ) (f : Field) → Outside chosen j es b → get_elem? (map (λ (e : Entry). e.field) es) k ≡ some f → N f.name ≡ true → Off f b
  outside-nth [] j k b f o q h = absurd (let z : ◌≡◌ {A = ℕ} 0 1 = cc in omega arith)
  outside-nth (e ∷ es) j zero b f o q h =
      let w : e.field ≡ f = cc in
      subst (λ f. Off f b) w (o.0 (ap (λ (f : Field). N f.name) w ∙ h))
  outside-nth (e ∷ es) j (suc k) b f o q h = outside-nth es (suc j) k b f o.1 q h

  reread-is : (y : List ℕ) (e : Entry) → Element N e → (cond (N e.field.name) (reread y e) e).field ≡ renewed N y e.field
  reread-is y e p = go (N e.field.name) refl
    where
      with : ℕ → Field
      with v = record { name = e.field.name; block = e.field.block; index = e.field.index; first = e.field.first; width = e.field.width; value = v }

      go : (c : Bool) → N e.field.name ≡ c → (cond c (reread y e) e).field ≡ with (cond c (bits_in y e) e.field.value)
      go true q = ap (λ s. with (cond s e.field.value (bits_in y e))) (p q)
      go false q = refl

  reread-nth : (y : List ℕ) (es : List Entry) (j k : ℕ) (f : Field) → All (Element N) es → get_elem? (map (λ (e : Entry). e.field) es) k ≡ some f
      → get_elem? (map (λ (e : Entry). e.field) (reread_in chosen j y es)) k ≡ some (renewed N y f)
  reread-nth y [] j k f p q = absurd (let z : ◌≡◌ {A = ℕ} 0 1 = cc in omega arith)
  reread-nth y (e ∷ es) j zero f p q = let w : e.field ≡ f = cc in ap some (reread-is y e p.0 ∙ ap (renewed N y) w)
  reread-nth y (e ∷ es) j (suc k) f p q = reread-nth y es (suc j) k f p.1 q

  reread-long : (y : List ℕ) (es : List Entry) (j : ℕ) → length (reread_in chosen j y es) ≡ length es
  reread-long y [] j = refl
  reread-long y (e ∷ es) j = ap suc (reread-long y es (suc j))

  module _ (u : unkept_here N ≡ true) (x y : List ℕ) (f : Call x) (g : Call y) (a : Accepts f) (c : Changed N f y) (r : count f ≤ size g.lent) where
    whole : outcome f ≡ parse eac3 x
    whole = cut-same (size f.lent) (parse eac3 x) (λ q. let z : ◌≡◌ {A = ℕ} 0 1 = accepted-not (accepts f a).1 q in omega arith)

    -- the frame's bytes, of which there are 8 or more
    record Framed : Type 0 where
      bytes : ℕ
      eight : 8 ≤ bytes
      place : (parse eac3 x).place ≡ 8 * bytes
      told : f.answer.frame.bytes.0 ≡ bytes

    framed : Framed
    framed =
        let k = closing eac3 x (size f.lent) (accepts f a).0 (accepts f a).1 in
        record {
          bytes = k.bytes;
          eight = frame-long x (size f.lent) (accepts f a).0 (accepts f a).1 k;
          place = ap (λ (o : Outcome State). o.place) (sym whole) ∙ k.place;
          told = let z = bytes f a in let w = k.place in omega arith;
        }

    -- the outcome of the one call, with the values read again, is that of the other
    other : outcome g ≡ renewedIn chosen y (outcome f)
    other =
        let o = parse eac3 x in
        let t = framed in
        let n : length o.records ≤ size g.lent = subst (λ (o : Outcome State). length o.records ≤ size g.lent) whole (let z = counts f in omega arith) in
        ap (cut (size g.lent))
        ((unkept-steers-nothing N u).0.frame chosen (λ k e h. h) x y (accepts f a).0 (subst (λ (o : Outcome State). o.result ≡ accepted (accepts f a).0) whole (accepts f a).1)
        (record {
          six = omega (arith, t.eight, t.told, c.holds);
          holds = omega (arith, t.place, t.told, c.holds);
          elsewhere = λ b l h.
              c.elsewhere b (omega (arith, t.place, t.told))
              (λ k l w. outside-nth o.records 0 k b (nth f k) h (subst (λ (o : Outcome State). get_elem? (list o) k ≡ some (nth f k)) whole (holds f k l)) w);
        }))
        ∙ cut-renewed chosen y (size g.lent) o
        ∙ ap (renewedIn chosen y) (cut-none (size g.lent) o n ∙ sym whole)

    answer-same : g.answer ≡ f.answer
    answer-same =
        is g
        ∙ ap (λ (o : Outcome State). answer_by o.result o.place (0 + length o.records)) other
        ∙ ap (λ n. answer_by (outcome f).result (outcome f).place (0 + n)) (reread-long y (outcome f).records 0)
        ∙ sym (is f)

    record-renewed : (k : ℕ) → k < count f → nth g k ≡ renewed N y (nth f k)
    record-renewed k h =
        let p : All (Element N) (outcome f).records = subst (λ (o : Outcome State). All (Element N) o.records) (sym whole) (parse-elements N eac3 (unkept-blind N u) x) in
        let q : get_elem? (list (outcome g)) k ≡ some (renewed N y (nth f k)) =
        subst (λ (o : Outcome State). get_elem? (list o) k ≡ some (renewed N y (nth f k))) (sym other) (reread-nth y (outcome f).records 0 k (nth f k) p (holds f k h)) in
        (held g k (renewed N y (nth f k)) q).1

    stays : WordsSteerNothing N x y f g
    stays = record {
      accepts = ap (λ (r : Answer). r.verdict) answer-same ∙ a;
      answer = answer-same;
      long = ap count_of answer-same;
      records = record-renewed;
    }

pub unkept-steer-nothing : AllUnkeptSteerNothing
unkept-steer-nothing N u x y f g a c r = stays N u x y f g a c r

words-unkept : unkept_here (among words) ≡ true
unfolding unkept_here unkept syncinfo bsi_size pages among
words-unkept = refl

pub words-steer-nothing : AllWordsSteerNothing
words-steer-nothing = unkept-steer-nothing (among words) words-unkept

pub words-free : WordsFree
unfolding width_of among
words-free n = go (eqb n dialnorm) (eqb n dialnorm2) (eqb n compr) (eqb n compr2) (eqb n dynrng) (eqb n dynrng2) (eqb n crc2)
  where
    go : (a b c d e f g : Bool) → (not (eqb (cond (a || b) 5 (cond (c || (d || (e || f))) 8 0)) 0) || g) ≡ (a || (b || (c || (d || (e || (f || (g || false)))))))
    go true b c d e f g = refl
    go false true c d e f g = refl
    go false false true d e f g = refl
    go false false false true e f g = refl
    go false false false false true f g = refl
    go false false false false false true g = refl
    go false false false false false false true = refl
    go false false false false false false false = refl
