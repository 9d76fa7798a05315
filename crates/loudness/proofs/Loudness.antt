-- Names that the pages of Annex E keep nowhere steer nothing; the six loudness words and crc2 are such names. Assumes nothing.
use mathlib.Core.Path.{◌≡◌, refl, ap, sym, ◌∙◌, subst}
use mathlib.Core.Bool.{Bool, true, false, not}
use mathlib.Core.List.{List, [], ◌∷◌}
use mathlib.Core.Logic.{inl, inr}
use Prim.Native.Nat.{ℕ}
use native.Mathlib.Omega.{arith}
use borrow.Author.Tests.{not-true}
use Rattle.names.specs.Names.{bsid, auxbits, auxdatae, auxdatal}
use Rattle.reading.specs.Run.{Entry}
use Rattle.reading.specs.Frame.{parse}
use Rattle.reading.proofs.Laws.{Ok}
use Rattle.annex.specs.Syncinfo.{syncinfo, bsi_size}
use Rattle.annex.specs.Annex.{body}
use Rattle.annex.specs.Frame.{start, eac3}
use Rattle.annex.specs.Unkept.{unkept_here}
use Rattle.rows.specs.Unkept.{unkept}
use Rattle.bounds.proofs.Bounds.{both}
use Rattle.bounds.proofs.Bounded.{pages}
use Rattle.unmet.proofs.Recorded.{passes}
use Rattle.words.specs.Words.{width_of}
use Rattle.steers.specs.Blind.{Some, Other, BlindTo}
use Rattle.steers.proofs.Theorem.{steers-nothing}
use Rattle.steers.proofs.Writing.{rewrites}
use Rattle.loudness.specs.Loudness.{free, UnkeptSteersNothing, LoudnessSteersNothing, LoudnessRewrites, WordWidths}
use Rattle.loudness.proofs.Items.{blind-block}
use Rattle.loudness.proofs.Bsid.{Bsid, parse-has}
use Rattle.loudness.proofs.Widths.{wide, parse-wide}

some-map : {P Q : Entry → Type 0} (es : List Entry) → ((e : Entry) → P e → Q e) → Some P es → Some Q es
some-map [] f x = elim x [ ]
some-map (e ∷ es) f (inl h) = inl (f e h)
some-map (e ∷ es) f (inr h) = inr (some-map es f h)

module _ (N : ℕ → Bool) where
  bsid-other : N bsid ≡ false → (e : Entry) → Bsid e → Other N 40 45 e
  bsid-other n e b = record { name = ap N b.0 ∙ n; from = omega (arith, b.1); upto = omega (arith, b.1) }

  pub unkept-blind : unkept_here N ≡ true → BlindTo N eac3
  unfolding eac3 unkept_here
  unkept-blind h =
      let t = both (unkept N syncinfo) _ h in
      let u = both (unkept N bsi_size) _ t.1 in
      let v = both (unkept N body) _ u.1 in
      let l = both (not (N bsid)) _ v.1 in
      let w = both (not (N auxbits)) _ l.1 in
      let z = both (not (N auxdatae)) _ w.1 in
      record {
        opening = blind-block N syncinfo t.0 start;
        rest = blind-block N bsi_size u.0;
        body = blind-block N body v.0;
        auxbits = not-true (N auxbits) w.0;
        auxdatae = not-true (N auxdatae) z.0;
        auxdatal = not-true (N auxdatal) z.1;
        look = λ b a e. some-map (parse eac3 b).records (bsid-other (not-true (N bsid) l.0)) (parse-has b (subst Ok (sym e) tt));
      }

pub unkept-steers-nothing : UnkeptSteersNothing
unkept-steers-nothing N h = (steers-nothing N eac3 (unkept-blind N h), rewrites N eac3 (unkept-blind N h))

-- the loudness words and crc2
pub free-unkept : unkept_here free ≡ true
unfolding unkept_here unkept syncinfo bsi_size pages width_of
free-unkept = refl

pub eac3-blind : BlindTo free eac3
eac3-blind = unkept-blind free free-unkept

pub loudness-steers-nothing : LoudnessSteersNothing
loudness-steers-nothing = (unkept-steers-nothing free free-unkept).0

pub loudness-rewrites : LoudnessRewrites
loudness-rewrites = (unkept-steers-nothing free free-unkept).1

-- how wide they are, on the pages
opening-wide : wide width_of syncinfo ≡ true
unfolding passes syncinfo width_of
opening-wide = refl

rest-wide : wide width_of bsi_size ≡ true
unfolding passes bsi_size width_of
rest-wide = refl

body-wide : wide width_of body ≡ true
unfolding passes pages width_of
body-wide = refl

pub word-widths : WordWidths
unfolding width_of
word-widths = parse-wide width_of opening-wide rest-wide body-wide refl refl refl refl refl
