-- `listing::names::letter` meets its contract: the kept bytes are those of the names.
-- Assumes nothing.
use Rattle.std.proofs.Common.{◌∙◌, ◌≡◌, ◌-◌, rules}
use lib.ListN.{get_or}
use Rattle.listing.specs.Names.{other_bytes}
use Rattle.listing.proofs.Spelled as names
use Rattle.listing.proofs.names.letter.Goals as goal

pub returns-then-place-lt-KIND_NAMES : goal.returns-then-place-lt-KIND_NAMES
returns-then-place-lt-KIND_NAMES c = c.name_byte.ensures ∙ names.letter-kind _ c.if-place-lt-KIND_NAMES.true

pub returns : goal.returns
unfolding other_bytes
returns c = let e : c.unwrap_or.result ≡ get_or other_bytes (c.args.place - 120) 32 = search rules in e ∙ names.letter-other _ c.if-place-lt-KIND_NAMES.false
