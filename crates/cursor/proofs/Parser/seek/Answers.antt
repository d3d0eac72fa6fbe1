use Rattle.std.proofs.Common.{rules, ◌≡◌, length, sym, ◌∙◌, refl, arith}
use Rattle.cursor.proofs.CheckPaths as paths
use Rattle.cursor.proofs.Parser.seek.Goals as goal

pub loop-place-init : goal.loop-place-init
loop-place-init c = record { here = c.current_kind-found.ensures; room = λ q. omega (arith, paths.roomy-within _ _ (sym c.has_room-roomy.ensures ∙ q)); rest = refl; lent = search rules }

pub returns-then-found-kind-clause-ended : goal.returns-then-found-kind-clause-ended
returns-then-found-kind-clause-ended c = sym (c.loop-place.invariant.rest ∙ paths.pick-here _ _ _ _ _ c.loop-place-test.true (sym c.loop-place.invariant.here ∙ c.if-found-kind.true))

pub returns-then-is_full-clause-ended : goal.returns-then-is_full-clause-ended
returns-then-is_full-clause-ended c = sym (c.loop-place.invariant.rest ∙ paths.pick-full _ _ _ _ _ c.loop-place-test.true (λ q. c.if-found-kind.false (c.loop-place.invariant.here ∙ q)) (paths.full_at_lem _ _ (sym c.is_full.ensures ∙ c.if-is_full.true)))

pub bounds-self-told : goal.bounds-self-told
bounds-self-told c = paths.not_full _ _ (sym c.is_full.ensures ∙ c.if-is_full.false) (λ q. omega (arith, c.loop-place.invariant.room q))

pub overflow_add-self : goal.overflow_add-self
overflow_add-self c = omega (arith, paths.not_full _ _ (sym c.is_full.ensures ∙ c.if-is_full.false) (λ q. omega (arith, c.loop-place.invariant.room q)))

pub loop-place-preserved : goal.loop-place-preserved
loop-place-preserved c = record {
  here = c.loop-place.invariant.here;
  room = λ q. omega (arith, c.loop-place.invariant.room q);
  rest = c.loop-place.invariant.rest ∙ paths.pick-on _ _ _ _ _ c.loop-place-test.true (λ q. c.if-found-kind.false (c.loop-place.invariant.here ∙ q)) (paths.not_full _ _ (sym c.is_full.ensures ∙ c.if-is_full.false) (λ q. omega (arith, c.loop-place.invariant.room q))) (paths.stored _ _ _);
  lent = search rules;
}

pub returns-clause-ended : goal.returns-clause-ended
returns-clause-ended c = let e : c.loop-place.place ≡ length c.args.chain.now = omega arith in rw (← e) (sym (c.loop-place.invariant.rest ∙ paths.pick_end _ _ _ _ _ c.loop-place-test.false))
