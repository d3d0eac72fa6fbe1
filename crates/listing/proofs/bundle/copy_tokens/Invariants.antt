use Rattle.std.proofs.Common.{◌≡◌}
use Rattle.listing.specs.Bundle.{token_words}
use Rattle.listing.proofs.bundle.copy_tokens.Given as goal

abbrev pub invariant-loop-j : goal.invariant-loop-j
invariant-loop-j l = l.tokens ≡ token_words l.bundle l.from l.j l.initial.tokens
