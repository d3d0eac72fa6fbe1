-- `lucia_parse` meets its contract: the counts are written where the caller says.
use Rattle.std.proofs.Common.{◌∙◌, ap}
use Rattle.parser.specs.Outcome.{handing}
use Rattle.parser.proofs.Contract.{handed-contract}
use Rattle.parser.proofs.lucia_parse.Goals as goal

pub returns : goal.returns
returns c = handed-contract _ _ _ _ _ _ (ap handing (c.number_of-told.ensures _ _ _ ∙ c.parse-answer.ensures.same))
