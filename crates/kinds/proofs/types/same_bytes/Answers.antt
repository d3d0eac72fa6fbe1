-- `kinds::types::same_bytes` meets its contract: `equal` is what `==` asks of two slices.
-- Assumes nothing.
use Rattle.std.proofs.Common.{◌∙◌, ap}
use Rattle.kinds.specs.Spelling.{equal}
use Rattle.kinds.proofs.Parts.{equal-pointwise}
use Rattle.kinds.proofs.types.same_bytes.Goals as goal

pub returns : goal.returns
returns c = c.eq.ensures ∙ equal-pointwise c.part.result.now c.args.word.now ∙ ap (λ s. equal s c.args.word.now) c.part.ensures
