-- `listing::bundle::decode` meets its contract.
-- Assumes nothing.
use Rattle.std.proofs.Common.{◌≡◌, ◌+◌, ◌-◌, arith}
use Rattle.listing.specs.Bundle.{copied}
use Rattle.listing.proofs.Decoding as ways
use Rattle.listing.proofs.bundle.decode.Goals as goal
use Rattle.listing.proofs.bundle.decode.Goals.{then-bundle-n-via-then-bundle-n, then-bundle-n-via-else-bundle-n+then-text-n, then-tokens-m-via-then-tokens-m, then-tokens-m-via-else-tokens-m+then-bundle-from}

pub returns-then-bundle-lt-BOTH_COUNTS-clause-sheet : goal.returns-then-bundle-lt-BOTH_COUNTS-clause-sheet
returns-then-bundle-lt-BOTH_COUNTS-clause-sheet c = ways.decode-empty _ _ _ c.if-bundle-lt-BOTH_COUNTS.true

pub returns-then-bundle-n-clause-sheet : goal.returns-then-bundle-n-clause-sheet
returns-then-bundle-n-clause-sheet c = elim c.then-bundle-n.branch [
  | then-bundle-n-via-then-bundle-n w ↦ ways.decode-cut _ _ _ c.if-bundle-lt-BOTH_COUNTS.false c.little-n.ensures w.if-bundle-n.true
  | then-bundle-n-via-else-bundle-n+then-text-n w ↦ ways.decode-long _ _ _ c.if-bundle-lt-BOTH_COUNTS.false c.little-n.ensures w.if-bundle-n.false w.if-text-n.true
]

pub returns-then-tokens-m-clause-sheet : goal.returns-then-tokens-m-clause-sheet
returns-then-tokens-m-clause-sheet c = elim c.then-tokens-m.branch [
  | then-tokens-m-via-then-tokens-m w ↦ ways.decode-many _ _ _ c.if-bundle-lt-BOTH_COUNTS.false c.little-n.ensures c.if-bundle-n.false c.if-text-n.false c.little-m.ensures w.if-tokens-m.true
  | then-tokens-m-via-else-tokens-m+then-bundle-from w ↦ ways.decode-uneven _ _ _ c.if-bundle-lt-BOTH_COUNTS.false c.little-n.ensures c.if-bundle-n.false c.if-text-n.false c.little-m.ensures w.if-tokens-m.false (λ e. w.if-bundle-from.true (omega arith))
]

pub returns-clause-sheet : goal.returns-clause-sheet
unfolding copied
returns-clause-sheet c = ways.decode-whole _ _ _ c.if-bundle-lt-BOTH_COUNTS.false c.little-n.ensures c.if-bundle-n.false c.if-text-n.false c.little-m.ensures c.if-tokens-m.false (omega arith) (let k : 4 + c.little-n.result - 4 ≡ c.little-n.result = omega arith in let e = rw k at c.copy_from_slice.ensures.after in rw e) c.copy_tokens.ensures
