-- `kinds::types::value_type_name_place` meets its contract: the places are those of the names, one by one.
-- Assumes nothing.
use Rattle.std.proofs.Common.{◌≡◌, ◌∙◌, ap, get_or, map, refl, rules}
use Rattle.std.proofs.Math.ListN.{get_or-map}
use Rattle.kinds.specs.TypeWords.{type_names, type_name_place}
use Rattle.kinds.specs.Listing.{place_of}
use Rattle.kinds.specs.declared.types.TheConstants.{PLACES}
use Rattle.kinds.proofs.types.value_type_name_place.Goals as goal

places : PLACES ≡ map place_of type_names
places = refl

pub returns : goal.returns
unfolding type_name_place
returns c = let read : c.unwrap_or.result ≡ get_or PLACES c.args.number 0 = search rules in read ∙ ap (λ l. get_or l c.args.number 0) places ∙ get_or-map place_of type_names c.args.number ""
