-- No second answer satisfies the contract of `word`. `Post` is the contract as the check reads it from the source. Of the others there is no
-- such lemma: how much a reader gives at once, and whether a writer takes what it is given, is theirs to say (docs/UNIQUE.md).
-- Assumes nothing.
use mathlib.Core.Path.{◌≡◌, sym, ◌∙◌}
use Rattle.pieces.proofs.word.Reads as word

pub one_word : (κs : _) (args : _) (r s : _) (x y : _) → word.Post κs args r x → word.Post κs args s y → r ≡ s
one_word κs args r s x y p q = p ∙ sym q
