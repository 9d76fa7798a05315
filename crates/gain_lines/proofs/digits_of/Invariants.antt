-- A number that ends in 0 loses it.
use Rattle.gain_lines.proofs.digits_of.Given as goal

abbrev pub decreases-loop-d : goal.decreases-loop-d
decreases-loop-d l = l.d
