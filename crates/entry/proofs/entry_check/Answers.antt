-- `entry_check` meets its contract: 1, 2 and 3 in order, then the tokens, over a text that is UTF-8.
use Rattle.std.proofs.Common.{sym, ◌∙◌}
use Rattle.entry.proofs.Paths as paths
use Rattle.entry.proofs.Places.{boundary-no-tail, first-place, tokens-same}
use Rattle.entry.specs.Utf8.{boundary, no_tail}
use Rattle.entry.proofs.entry_check.Goals as goal

pub returns-then-text-gt-MAX_TEXT : goal.returns-then-text-gt-MAX_TEXT
returns-then-text-gt-MAX_TEXT c = sym (paths.entry-long _ _ c.if-text-gt-MAX_TEXT.true)

pub returns-then-tokens-gt-MAX_TOKENS : goal.returns-then-tokens-gt-MAX_TOKENS
returns-then-tokens-gt-MAX_TOKENS c = sym (paths.entry-many _ _ c.if-text-gt-MAX_TEXT.false c.if-tokens-gt-MAX_TOKENS.true)

pub returns-then-not-is_utf8 : goal.returns-then-not-is_utf8
returns-then-not-is_utf8 c = sym (paths.entry-bytes _ _ c.if-text-gt-MAX_TEXT.false c.if-tokens-gt-MAX_TOKENS.false (sym c.is_utf8.ensures ∙ c.if-not-is_utf8.true))

pub check_tokens-requires : goal.check_tokens-requires
check_tokens-requires c = first-place c.args.text.now (sym c.is_utf8.ensures ∙ c.if-not-is_utf8.false)

pub returns : goal.returns
returns c = c.check_tokens.ensures ∙ sym (paths.entry-tokens _ _ c.if-text-gt-MAX_TEXT.false c.if-tokens-gt-MAX_TOKENS.false (sym c.is_utf8.ensures ∙ c.if-not-is_utf8.false) ∙ tokens-same c.args.text.now (boundary c.args.text.now) (no_tail c.args.text.now) (boundary-no-tail c.args.text.now (sym c.is_utf8.ensures ∙ c.if-not-is_utf8.false)) _ _)
