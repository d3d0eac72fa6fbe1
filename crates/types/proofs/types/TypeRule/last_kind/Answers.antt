use Rattle.types.proofs.TypePaths as paths
use Rattle.types.proofs.types.TypeRule.last_kind.Goals as goal

pub returns-in-TableTyPairs : goal.returns-in-TableTyPairs
returns-in-TableTyPairs c = paths.last-kind-pairs c.in-TableTyPairs.is

pub returns-in_default : goal.returns-in_default
returns-in_default c = paths.last-kind-others _ c.in_default.not-TableTyPairs
