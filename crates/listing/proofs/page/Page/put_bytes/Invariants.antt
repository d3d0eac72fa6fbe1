use Rattle.std.proofs.Common.{drop, ◌≡◌}
use Rattle.listing.specs.Page.{emits}
use Rattle.listing.proofs.page.Page.put_bytes.Given as goal

abbrev pub invariant-loop-b : goal.invariant-loop-b
invariant-loop-b l = emits l.word l.initial.self ≡ emits (drop l.b-index l.word) l.self
