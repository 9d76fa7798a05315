-- `gain::dynrng_factor` meets its contract: the rule of dynrng words, which is one computed test. Assumes nothing.
use lib.Ieee.{of_bits}
use Rattle.std.proofs.Common.{rules}
use Rattle.gain.specs.Factor.{dynrng_factor}
use Rattle.gain.proofs.Words.{factor, dynrng-rule}
use borrow.Author.Rules.{rules}
use Rattle.gain.proofs.dynrng_factor.Goals as goal

pub returns : goal.returns
unfolding of_bits
returns c = factor dynrng_factor 32 9 dynrng-rule c.args.w c.turned-b.result (search rules) c.turned-b.ensures
