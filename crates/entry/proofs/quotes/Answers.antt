-- `quotes` meets its contract.
use Rattle.std.proofs.Common.{sym, ◌∙◌}
use Rattle.entry.proofs.Paths as paths
use Rattle.entry.proofs.quotes.Goals as goal

pub returns-in_default : goal.returns-in_default
returns-in_default c = sym (paths.quoted-short _ c.in_default.len_below)

pub returns-then-is_quote : goal.returns-then-is_quote
returns-then-is_quote c = sym (paths.quoted-ends _ c.in-len2-up.len_at_least (sym c.if-is_quote.ensures))

pub returns-else-is_quote : goal.returns-else-is_quote
returns-else-is_quote c = c.if-is_quote.false ∙ sym (paths.quoted-bare _ c.in-len2-up.len_at_least (sym c.if-is_quote.ensures))
