-- `ints::number` meets its contract. The invariant: reading on from here with the number so far gives what the definition gives for all.
use Rattle.std.proofs.Common.{◌≡◌, sym, ◌∙◌, ap, rules, Err, Ok}
use Rattle.ints.specs.Reading.{unread, grown}
use Rattle.ints.proofs.Run as runs
use Rattle.ints.proofs.Run.{run}
use Rattle.ints.proofs.number.Goals as goal

pub returns-in_err-magnitude : goal.returns-in_err-magnitude
returns-in_err-magnitude c =
    let e : c.from_residual.result ≡ Err c.in_err-magnitude.field-0.0 = search rules in
    e ∙ sym (runs.run-all _ _ _ ∙ runs.run-stops _ _ _ _ _ (sym c.grown.ensures ∙ c.in_err-magnitude.was))

pub loop-b-init : goal.loop-b-init
loop-b-init c =
    let more : grown c.args.radix c.args.sign 0 c.args.first ≡ Ok c.in_ok-magnitude.magnitude = sym c.grown.ensures ∙ c.in_ok-magnitude.was in
    record {
      can = tt;
      ends = tt;
      small = runs.grown-small _ _ _ _ more;
      run = runs.run-all _ _ _ ∙ runs.run-on _ _ _ _ _ more ∙ ap (λ k. run c.args.radix c.args.sign c.in_ok-magnitude.magnitude (unread k)) (sym c.into_iter-b-iterator.ensures.into_iter_gives);
    }

pub returns-in_err-magnitude-2 : goal.returns-in_err-magnitude-2
returns-in_err-magnitude-2 c =
    let e : c.from_residual-in_err-magnitude-2.result ≡ Err c.in_err-magnitude-2.field-0.0 = search rules in
    e ∙ sym (c.loop-b.invariant.run ∙ ap (run _ _ _) c.in-Some.ensures.steps ∙ runs.run-stops _ _ _ _ _ (sym c.grown-in-loop-b.ensures ∙ c.in_err-magnitude-2.was))

pub loop-b-preserved : goal.loop-b-preserved
loop-b-preserved c =
    let more : grown c.args.radix c.args.sign c.loop-b.magnitude c.in-Some.b ≡ Ok c.in_ok-magnitude-2.magnitude = sym c.grown-in-loop-b.ensures ∙ c.in_ok-magnitude-2.was in
    record {
      can = tt;
      ends = tt;
      small = runs.grown-small _ _ _ _ more;
      run = c.loop-b.invariant.run ∙ ap (run _ _ _) c.in-Some.ensures.steps ∙ runs.run-on _ _ _ _ _ more;
    }

pub returns : goal.returns
returns c = sym (c.loop-b.invariant.run ∙ ap (run _ _ _) c.in-None.ensures.steps.0 ∙ runs.run_end _ _ _)
