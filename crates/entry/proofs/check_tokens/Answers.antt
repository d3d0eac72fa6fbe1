-- `check_tokens` meets its contract. The invariant: the tokens left say what all of them say.
use Rattle.std.proofs.Common.{◌≡◌, sym, ◌∙◌, rules, Err}
use Rattle.entry.proofs.Paths as paths
use Rattle.entry.proofs.check_tokens.Goals as goal

pub check_token-requires : goal.check_token-requires
check_token-requires c = c.loop-kind.invariant.starts

pub returns-in_err-check_token : goal.returns-in_err-check_token
returns-in_err-check_token c =
    let e : c.from_residual.result ≡ Err c.in_err-check_token.field-0.0 = search rules in
    e ∙ sym (c.loop-kind.invariant.same ∙ paths.chunk-bad _ _ _ c.args.tokens.now c.loop-kind.kind-index c.as_chunks.ensures.front (search rules) (sym c.check_token.ensures ∙ c.in_err-check_token.was))

pub loop-kind-preserved : goal.loop-kind-preserved
loop-kind-preserved c =
    let fit = sym c.check_token.ensures ∙ c.in_ok-check_token.was in
    record {
      same = c.loop-kind.invariant.same ∙ paths.chunk-next _ _ _ c.args.tokens.now c.loop-kind.kind-index c.as_chunks.ensures.front (search rules) fit;
      starts = paths.fit-ends _ _ _ _ _ _ fit;
    }

pub returns : goal.returns
returns c = sym (c.loop-kind.invariant.same ∙ paths.chunks-end _ _ _ c.args.tokens.now c.loop-kind.kind-index (search rules))
