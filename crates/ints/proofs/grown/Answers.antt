-- `ints::grown` meets its contract: each way out is one way that the place is judged.
use Rattle.std.proofs.Common.{◌≡◌, ◌*◌, ◌+◌, ◌<◌, ◌≤◌, sym, ◌∙◌, ap, arith, rules, Err, Ok}
use Rattle.std.proofs.lemmas.Grind.{common_steps}
use borrow.Author.Tests.{leb-false}
use Rattle.ints.specs.declared.IntFault.TheVariants.{InvalidDigit}
use Rattle.ints.specs.Spelling.{digit_of}
use Rattle.ints.proofs.Paths as paths
use Rattle.ints.proofs.Run as runs
use Rattle.ints.proofs.grown.Goals as goal

pub returns-in_err-digit : goal.returns-in_err-digit
returns-in_err-digit c =
    let e : c.from_residual.result ≡ Err InvalidDigit = search rules in
    let d : c.args.radix ≤ digit_of c.args.b = grind (arith, common_steps, paths.digit-value) in
    e ∙ sym (runs.grown-wrong _ _ _ _ (runs.judged-none _ _ _ _ d))

pub returns-then-not-has_room : goal.returns-then-not-has_room
returns-then-not-has_room c =
    let d : c.in_ok-digit.digit ≡ digit_of c.args.b = grind (arith, common_steps, paths.digit-value) in
    let s : c.in_ok-digit.digit < c.args.radix = grind (arith, common_steps) in
    let l = leb-false (c.args.size * c.args.radix) c.largest.result (sym c.if-not-has_room.ensures) in
    ap Err c.beyond.ensures ∙ sym (runs.grown-wrong _ _ _ _ (runs.judged-beyond _ _ _ _ (omega arith) (omega arith)))

pub returns-then-largest-more : goal.returns-then-largest-more
returns-then-largest-more c =
    let d : c.in_ok-digit.digit ≡ digit_of c.args.b = grind (arith, common_steps, paths.digit-value) in
    let s : c.in_ok-digit.digit < c.args.radix = grind (arith, common_steps) in
    let m : c.args.size * c.from-2.result ≡ c.args.size * c.args.radix = ap (λ n. c.args.size * n) c.from-2.ensures in
    ap Err c.beyond-then-largest-more.ensures ∙ sym (runs.grown-wrong _ _ _ _ (runs.judged-beyond _ _ _ _ (omega arith) (omega arith)))

pub returns : goal.returns
returns c =
    let d : c.in_ok-digit.digit ≡ digit_of c.args.b = grind (arith, common_steps, paths.digit-value) in
    let s : c.in_ok-digit.digit < c.args.radix = grind (arith, common_steps) in
    let m : c.args.size * c.from-2.result + c.from-3.result ≡ c.args.size * c.args.radix + digit_of c.args.b = cc in
    ap Ok m ∙ sym (runs.grown-right _ _ _ _ (runs.judged-right _ _ _ _ (omega arith) (omega arith)))
