use Rattle.types.proofs.TypePaths as paths
use Rattle.types.proofs.types.TypeRule.end.Goals as goal

pub returns-in-AtomTypedIdents : goal.returns-in-AtomTypedIdents
returns-in-AtomTypedIdents c = paths.end-closure c.in-AtomTypedIdents.is

pub returns-in-TableTyPairs : goal.returns-in-TableTyPairs
returns-in-TableTyPairs c = paths.end-pairs c.in-TableTyPairs.is

pub returns-in_default : goal.returns-in_default
returns-in_default c = paths.end-others _ c.in_default.not-AtomTypedIdents c.in_default.not-TableTyPairs
