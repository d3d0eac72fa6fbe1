-- `kinds::table::name_byte` meets its contract: the kept bytes are those of the names, computed.
-- Assumes nothing.
use Rattle.std.proofs.Common.{◌≡◌, get_or, ◌∙◌, ap, refl, rules}
use Rattle.kinds.specs.Listing.{name_bytes}
use Rattle.kinds.specs.declared.table.TheConstants.{NAMES}
use Rattle.kinds.proofs.table.name_byte.Goals as goal

kept : NAMES ≡ name_bytes
unfolding name_bytes
kept = refl

pub returns : goal.returns
returns c = let read : c.unwrap_or.result ≡ get_or NAMES c.args.place 32 = search rules in read ∙ ap (λ l. get_or l c.args.place 32) kept
