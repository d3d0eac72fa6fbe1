use Rattle.std.proofs.Common.{◌≡◌}
use Rattle.listing.specs.Page.{emits}
use Rattle.listing.specs.Names.{name_from}
use Rattle.listing.proofs.names.put_name.Given as goal

abbrev pub invariant-loop-at : goal.invariant-loop-at
invariant-loop-at l = emits (name_from l.place) l.initial.page ≡ emits (name_from l.at) l.page
