-- `listing::bundle::copy_tokens` meets its contract. The invariant: so many tokens are copied.
-- Assumes nothing.
use Rattle.std.proofs.Common.{sym, ◌∙◌, refl, arith, ◌≡◌}
use Rattle.listing.proofs.Decoding as ways
use Rattle.listing.proofs.bundle.copy_tokens.Goals as goal

pub loop-j-init : goal.loop-j-init
loop-j-init c = sym (ways.tokens_none _ _ _)

pub loop-j-preserved : goal.loop-j-preserved
loop-j-preserved c = ways.tokens-on _ _ _ _ c.loop-j.invariant refl c.from.ensures c.little.ensures c.little-in-loop-j.ensures (omega (arith, c.requires.1))

pub returns : goal.returns
returns c = let e : c.loop-j.j ≡ c.args.m = omega arith in c.loop-j.invariant ∙ rw e
