-- `Kept`'s `next` meets its contract: what is kept of the bytes that are left is kept of all.
use Rattle.std.proofs.Common.{◌≡◌, ◌<◌, ◌∷◌, length, sym, ◌∙◌, arith}
use Rattle.ints.specs.Reading.{unread}
use Rattle.ints.specs.Spelling.{kept}
use Rattle.ints.proofs.Paths as paths
use Rattle.ints.proofs.kept.KeptIterator.next.Goals as goal

pub loop-b-preserved : goal.loop-b-preserved
loop-b-preserved c = sym (paths.kept-skips c.in-Some.ensures.cases.0 c.if-b-ne95.false) ∙ c.loop-b.invariant

pub returns-then-b-ne95 : goal.returns-then-b-ne95
returns-then-b-ne95 c =
    let first : unread c.args.self.now ≡ c.in-Some.field-0-0.now ∷ kept c.in-Some.rest.now = sym c.loop-b.invariant ∙ paths.kept-takes c.in-Some.ensures.cases.0 c.if-b-ne95.true in
    let shorter : length (kept c.in-Some.rest.now) < length (unread c.args.self.now) = rw first (omega arith) in
    record { steps = first; goes = record { on = λ _. (tt, tt, shorter); keeps = tt; rests = λ _. tt } }

pub returns-clause-steps : goal.returns-clause-steps
returns-clause-steps c = let none = paths.kept-ends c.loop-b.self.rest.now c.in_default.ensures.cases in (sym c.loop-b.invariant ∙ none, none)
