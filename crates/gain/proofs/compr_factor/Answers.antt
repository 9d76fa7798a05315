-- `gain::compr_factor` meets its contract: the rule of compr words, which is one computed test. Assumes nothing.
use lib.Ieee.{of_bits}
use Rattle.std.proofs.Common.{rules}
use Rattle.gain.specs.Factor.{compr_factor}
use Rattle.gain.proofs.Words.{factor, compr-rule}
use borrow.Author.Rules.{rules}
use Rattle.gain.proofs.compr_factor.Goals as goal

pub returns : goal.returns
unfolding of_bits
returns c = factor compr_factor 16 12 compr-rule c.args.w c.turned-b.result (search rules) c.turned-b.ensures
