-- The worked examples: kind, word, and the factor as a fraction. Proved in proofs/Worked.antt.
use Rattle.std.specs.Prelude.{ℕ, false, List, [], ◌∷◌}
use Rattle.gain.specs.declared.Kind.{Kind}
use Rattle.gain.specs.declared.Kind.TheVariants.{Dynrng, Compr}
use Rattle.std.specs.Float.Ieee.Exact.{HasValue}
use Rattle.gain.specs.Factor.{factor_of, to_f64}

pub record Row : Type 0 where
  pub kind : Kind
  pub word : ℕ
  pub over : ℕ
  pub under : ℕ

abbrev row : Kind → ℕ → ℕ → ℕ → Row
row k w a b = record { kind = k; word = w; over = a; under = b }

-- 15.75 is 63 / 4; a word 0 has the factor 1
unfoldable pub rows : List Row
rows =
    row Dynrng 0x80 1 16
    ∷ row Dynrng 0x7F 63 4
    ∷ row Dynrng 0x00 1 1
    ∷ row Compr 0x80 1 256
    ∷ row Compr 0x7F 248 1
    ∷ row Compr 0x00 1 1
    ∷ []

-- the f64 of each row's word is the row's fraction, exactly
abbrev pub Each : List Row → Type 0
Each [] = Unit
Each (r ∷ rs) = HasValue (to_f64 (factor_of r.kind r.word)) false r.over r.under × Each rs
