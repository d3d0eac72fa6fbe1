use Rattle.std.proofs.Common.{sym, ◌∙◌, ap}
use Rattle.types.proofs.PatternPaths as paths
use Rattle.types.specs.Patterns.{span_of}
use Rattle.cursor.proofs.Exits.{exits}
use Rattle.types.proofs.patterns.pattern_last.Goals as goal

pub returns-in_err-bump-clause-ended : goal.returns-in_err-bump-clause-ended
returns-in_err-bump-clause-ended c = exits c.bump.new.self _ _ c.from_residual.ensures (sym (paths.ended-spent _ _ _ _ _ (sym c.in_err-bump.ensures.ended)))

pub returns-clause-ended : goal.returns-clause-ended
returns-clause-ended c = c.after_last.ensures.ended ∙ sym (paths.ended-on _ _ _ _ _ (sym c.in_ok-bump.ensures.ended) (c.span_of-dots.ensures ∙ ap span_of c.current_range.ensures) c.end.ensures)
