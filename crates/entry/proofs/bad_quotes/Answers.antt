-- `bad_quotes` meets its contract.
use Rattle.std.proofs.Common.{sym, ◌∙◌, ap, not}
use Rattle.entry.proofs.Paths as paths
use Rattle.entry.proofs.bad_quotes.Goals as goal

pub returns-then-kind-lt-STR : goal.returns-then-kind-lt-STR
returns-then-kind-lt-STR c = sym (paths.quotes-below _ _ c.if-kind-lt-STR.true)

pub returns-then-kind-gt-BYTE_STR : goal.returns-then-kind-gt-BYTE_STR
returns-then-kind-gt-BYTE_STR c = sym (paths.quotes-above _ _ c.if-kind-gt-BYTE_STR.true)

pub returns-then-kind-eq-STR : goal.returns-then-kind-eq-STR
returns-then-kind-eq-STR c = ap not c.quotes.ensures ∙ sym (paths.quotes-str _ _ c.if-kind-eq-STR.true)

pub returns-then-kind-eq-RAW_STR : goal.returns-then-kind-eq-RAW_STR
returns-then-kind-eq-RAW_STR c = ap not c.marks.ensures ∙ sym (paths.quotes-raw _ _ c.if-kind-eq-RAW_STR.true)

pub returns : goal.returns
returns c = ap not c.marks-2.ensures ∙ sym (paths.quotes-last _ _ c.if-kind-lt-STR.false c.if-kind-gt-BYTE_STR.false c.if-kind-eq-STR.false c.if-kind-eq-RAW_STR.false)
