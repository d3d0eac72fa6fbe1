-- `check_token` meets its contract. A range that is not refused lies in the text, so its part can be lent.
use Rattle.std.proofs.Common.{sym, ◌∙◌, arith}
use Rattle.entry.proofs.Paths as paths
use Rattle.entry.proofs.check_token.Goals as goal

pub returns-then-bad_kind : goal.returns-then-bad_kind
returns-then-bad_kind c = sym (paths.fault-kind _ _ _ _ _ _ (sym c.bad_kind.ensures ∙ c.if-bad_kind.true))

pub bad_range-requires : goal.bad_range-requires
bad_range-requires c = c.requires

pub returns-then-bad_range : goal.returns-then-bad_range
returns-then-bad_range c = sym (paths.fault-range _ _ _ _ _ _ (sym c.bad_kind.ensures ∙ c.if-bad_kind.false) (sym c.bad_range.ensures ∙ c.if-bad_range.true))

pub slice_bounds-bad_quotes-count : goal.slice_bounds-bad_quotes-count
slice_bounds-bad_quotes-count c = omega (arith, paths.range-good _ _ _ _ _ (sym c.bad_range.ensures ∙ c.if-bad_range.false))

pub slice_bounds-bad_quotes-start : goal.slice_bounds-bad_quotes-start
slice_bounds-bad_quotes-start c = omega (arith, (paths.range-good _ _ _ _ _ (sym c.bad_range.ensures ∙ c.if-bad_range.false)))

pub slice_bounds-bad_quotes-end : goal.slice_bounds-bad_quotes-end
slice_bounds-bad_quotes-end c = ((paths.range-good _ _ _ _ _ (sym c.bad_range.ensures ∙ c.if-bad_range.false))).inside

pub returns-then-bad_quotes : goal.returns-then-bad_quotes
returns-then-bad_quotes c = sym (paths.fault-quotes _ _ _ _ _ _ (sym c.bad_kind.ensures ∙ c.if-bad_kind.false) (sym c.bad_range.ensures ∙ c.if-bad_range.false) (sym c.bad_quotes.ensures ∙ c.if-bad_quotes.true))

pub returns : goal.returns
returns c = sym (paths.fault-none _ _ _ _ _ _ (sym c.bad_kind.ensures ∙ c.if-bad_kind.false) (sym c.bad_range.ensures ∙ c.if-bad_range.false) (sym c.bad_quotes.ensures ∙ c.if-bad_quotes.false))
