use Rattle.std.proofs.Common.{◌≡◌, ◌*◌, drop, true}
use Rattle.entry.specs.Utf8.{no_tail}
use Rattle.entry.specs.Check.{tokens_fault}
use Rattle.entry.proofs.check_tokens.Given as goal

abbrev pub invariant-loop-kind : goal.invariant-loop-kind
invariant-loop-kind l = record {
  same : tokens_fault (no_tail l.text) l.text 0 l.tokens ≡ tokens_fault (no_tail l.text) l.text l.last (drop (3 * l.kind-index) l.tokens);
  starts : no_tail l.text l.last ≡ true;
}
