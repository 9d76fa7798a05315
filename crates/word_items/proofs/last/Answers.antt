use mathlib.Core.Path.{◌≡◌}
use Prim.Native.Nat.{ℕ, ◌<◌}
use lib.ListN.{length, get_or}
use Rattle.std.specs.Prelude.{MatchOption}
use borrow.Author.Rules.{rules}
use Rattle.word_items.proofs.Folds.{last_is}
use Rattle.word_items.proofs.last.Goals as goal

pub returns-clause-last : goal.returns-clause-last
returns-clause-last c =
    let s = c.args.text.now in
    let w = c.args.wanted in
    let m : MatchOption c.rposition.result ((k : ℕ) → k < length s → ¬ (get_or s k 0 ≡ w)) (λ i. (i < length s) × (get_or s i 0 ≡ w) × ((k : ℕ) → i < k → k < length s → ¬ (get_or s k 0 ≡ w))) = search rules in
    last_is s w c.rposition.result m
