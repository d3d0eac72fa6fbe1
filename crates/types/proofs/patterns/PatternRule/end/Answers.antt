use Rattle.types.proofs.PatternPaths as paths
use Rattle.types.proofs.patterns.PatternRule.end.Goals as goal

pub returns-in-Pairs : goal.returns-in-Pairs
returns-in-Pairs c = paths.end-pairs c.in-Pairs.is

pub returns-in-Patterns : goal.returns-in-Patterns
returns-in-Patterns c = paths.end-patterns c.in-Patterns.is
