-- GAIN RANGE OF A FRAME: four answers, each with its range record, from the words of the four names.
use Rattle.std.specs.Prelude.{ℕ, List, map}
use Rattle.names.specs.Names.{dynrng, compr, dynrng2, compr2}
use Rattle.gain.specs.declared.Kind.{Kind}
use Rattle.gain.specs.declared.Kind.TheVariants.{Dynrng, Compr}
use Rattle.gain.specs.declared.Ranged.{Ranged}
use Rattle.gain.specs.declared.Gains.{Gains}
use Rattle.gain.specs.Factor.{factor_of}
use Rattle.gain.specs.Range.{range_of, gain_of}

abbrev pub ranged_of : Kind → List ℕ → Ranged
ranged_of kind ws = record { gain = gain_of (map (factor_of kind) ws); range = range_of (map (factor_of kind) ws) }

-- those of the first programme, and of the second; `words` gives the words of a name
unfoldable pub gains_of : (ℕ → List ℕ) → Gains
gains_of words = record {
  dynrng = ranged_of Dynrng (words dynrng);
  compr = ranged_of Compr (words compr);
  dynrng2 = ranged_of Dynrng (words dynrng2);
  compr2 = ranged_of Compr (words compr2);
}
