-- What the code goes by: the range is found on words. The factor grows with the word as a signed byte (proofs/Ordered.antt).
use Rattle.std.specs.Prelude.{ℕ, zero, suc, ◌+◌, ◌%◌, min, max, Bool, cond, ◌||◌, List, [], ◌∷◌, ◌==◌, slice_index}
use Rattle.names.specs.Names.{dynrng, compr, dynrng2, compr2}
use Rattle.gain.specs.declared.Kind.{Kind}
use Rattle.gain.specs.declared.Range.{Range}
use Rattle.gain.specs.declared.Gain.{Gain}
use Rattle.gain.specs.declared.Gain.TheVariants.{NotSent, Present}
use Rattle.gain.specs.declared.Extent.{Extent}
use Rattle.gain.specs.declared.Extents.{Extents}
use Rattle.gain.specs.Factor.{one, to_f64, factor_of}

-- the words of a name among n records from the place i on, whose names and values stand side by side: the low bytes of their values
unfoldable pub named : ℕ → List ℕ → List ℕ → ℕ → ℕ → List ℕ
named name ns vs i zero = []
named name ns vs i (suc n) = let rest = named name ns vs (i + 1) n in cond (slice_index ns i == name) (slice_index vs i % 256 ∷ rest) rest

-- a word with its sign bit turned: signed bytes are in order where the turned ones are
abbrev pub turn : ℕ → ℕ
turn w = (w + 128) % 256

-- the lowest and the highest of some words, turned, and how many; one word more
abbrev pub none : Extent
none = record { low = 255; high = 0; words = 0 }

abbrev pub add_to : Extent → ℕ → Extent
add_to e w = record { low = min e.low (turn w); high = max e.high (turn w); words = e.words + 1 }

unfoldable pub extent_from : Extent → List ℕ → Extent
extent_from e [] = e
extent_from e (w ∷ ws) = extent_from (add_to e w) ws

-- the same of the words of four names
abbrev pub nothing_yet : Extents
nothing_yet = record { dynrng = none; compr = none; dynrng2 = none; compr2 = none }

abbrev pub gain_name : ℕ → Bool
gain_name n = n == dynrng || (n == compr || (n == dynrng2 || n == compr2))

abbrev pub noted : Extents → ℕ → ℕ → Extents
noted e name w = record {
  dynrng = cond (name == dynrng) (add_to e.dynrng w) e.dynrng;
  compr = cond (name == compr) (add_to e.compr w) e.compr;
  dynrng2 = cond (name == dynrng2) (add_to e.dynrng2 w) e.dynrng2;
  compr2 = cond (name == compr2) (add_to e.compr2 w) e.compr2;
}

abbrev pub extents_of : (ℕ → List ℕ) → Extents
extents_of words = record {
  dynrng = extent_from none (words dynrng);
  compr = extent_from none (words compr);
  dynrng2 = extent_from none (words dynrng2);
  compr2 = extent_from none (words compr2);
}

-- the range record of what some words span: the factors of its ends; the answer of a range record
abbrev pub spread_of : Kind → Extent → Range
spread_of kind e =
    cond (e.words == 0) (record { low = to_f64 one; high = to_f64 one; words = 0 })
    (record { low = to_f64 (factor_of kind (turn e.low)); high = to_f64 (factor_of kind (turn e.high)); words = e.words })

abbrev pub answer_of : Range → Gain
answer_of r = cond (r.words == 0) NotSent (Present r.low r.high)
