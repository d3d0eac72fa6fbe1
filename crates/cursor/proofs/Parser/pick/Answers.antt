use Rattle.std.proofs.Common.{rules, ◌≡◌, length, sym, ◌∙◌, refl, arith}
use Rattle.cursor.proofs.CheckPaths as paths
use Rattle.cursor.proofs.ChainPaths as chains
use Rattle.cursor.proofs.Parser.pick.Goals as goal

pub loop-kind-init : goal.loop-kind-init
loop-kind-init c = record { here = c.current_kind-found.ensures; room = omega (arith, (chains.missed _ _ c.args.chain.now (sym c.misses.ensures ∙ c.if-not-misses.false)).1); rest = refl; lent = search rules }

pub loop-kind-preserved : goal.loop-kind-preserved
loop-kind-preserved c = record {
  here = c.loop-kind.invariant.here;
  room = omega (arith, c.loop-kind.invariant.room);
  rest = c.loop-kind.invariant.rest ∙ paths.pick-on _ _ _ _ _ c.loop-kind-test.true (λ q. chains.not_in _ c.args.chain.now _ (chains.missed _ _ c.args.chain.now (sym c.misses.ensures ∙ c.if-not-misses.false)).0 (omega arith) (c.loop-kind.invariant.here ∙ q)) (omega (arith, c.loop-kind.invariant.room)) (paths.stored _ _ _);
  lent = search rules;
}

pub returns-clause-ended : goal.returns-clause-ended
returns-clause-ended c = let e : c.loop-kind.kind-index ≡ length c.args.chain.now = omega arith in rw (← e) (sym (c.loop-kind.invariant.rest ∙ paths.pick_end _ _ _ _ _ c.loop-kind-test.false))
