-- What a function leaves of the buffers, from one step to the next: how to go on from the more that a step leaves.
-- Assumes nothing.
use Rattle.std.proofs.Common.{refl, ◌∙◌, ap, length}
use Rattle.cursor.specs.declared.Parser.{Parser}
use Rattle.cursor.specs.Answers.{SameLoans, SameErrors, SameLists, SameRecords, SameNodes, SameBuffers}

pub kept : (p : Parser) → SameLoans p p
kept p = record { nodes = refl; errors = refl; expected = refl; node_words = refl; error_words = refl; expected_bytes = refl }
