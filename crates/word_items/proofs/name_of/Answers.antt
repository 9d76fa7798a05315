-- The words are tried one after another.
use Rattle.names.specs.Spelling.{bytes}
use Rattle.word_items.proofs.Folds.{first_word, second_word, third_word, fourth_word, fifth_word, sixth_word, no_word}
use Rattle.word_items.proofs.name_of.Goals as goal

pub returns-then-is_word : goal.returns-then-is_word
unfolding bytes
returns-then-is_word c = first_word _ c.is_word.ensures c.if-is_word.true

pub returns-then-is_word-2 : goal.returns-then-is_word-2
unfolding bytes
returns-then-is_word-2 c = second_word _ c.is_word.ensures c.if-is_word.false c.is_word-else-is_word.ensures c.if-is_word-2.true

pub returns-then-is_word-3 : goal.returns-then-is_word-3
unfolding bytes
returns-then-is_word-3 c = third_word _ c.is_word.ensures c.if-is_word.false c.is_word-else-is_word.ensures c.if-is_word-2.false c.is_word-else-is_word-2.ensures c.if-is_word-3.true

pub returns-then-is_word-4 : goal.returns-then-is_word-4
unfolding bytes
returns-then-is_word-4 c = fourth_word _ c.is_word.ensures c.if-is_word.false c.is_word-else-is_word.ensures c.if-is_word-2.false c.is_word-else-is_word-2.ensures c.if-is_word-3.false c.is_word-else-is_word-3.ensures c.if-is_word-4.true

pub returns-then-is_word-5 : goal.returns-then-is_word-5
unfolding bytes
returns-then-is_word-5 c = fifth_word _ c.is_word.ensures c.if-is_word.false c.is_word-else-is_word.ensures c.if-is_word-2.false c.is_word-else-is_word-2.ensures c.if-is_word-3.false c.is_word-else-is_word-3.ensures c.if-is_word-4.false c.is_word-else-is_word-4.ensures c.if-is_word-5.true

pub returns-then-is_word-6 : goal.returns-then-is_word-6
unfolding bytes
returns-then-is_word-6 c = sixth_word _ c.is_word.ensures c.if-is_word.false c.is_word-else-is_word.ensures c.if-is_word-2.false c.is_word-else-is_word-2.ensures c.if-is_word-3.false c.is_word-else-is_word-3.ensures c.if-is_word-4.false c.is_word-else-is_word-4.ensures c.if-is_word-5.false c.is_word-else-is_word-5.ensures c.if-is_word-6.true

pub returns-else-is_word-6 : goal.returns-else-is_word-6
unfolding bytes
returns-else-is_word-6 c = no_word _ c.is_word.ensures c.if-is_word.false c.is_word-else-is_word.ensures c.if-is_word-2.false c.is_word-else-is_word-2.ensures c.if-is_word-3.false c.is_word-else-is_word-3.ensures c.if-is_word-4.false c.is_word-else-is_word-4.ensures c.if-is_word-5.false c.is_word-else-is_word-5.ensures c.if-is_word-6.false
