-- `ints::after_sign` meets its contract.
use Rattle.std.proofs.Common.{◌≡◌, [], ◌∷◌, sym, ◌∙◌, ap, rules, Err}
use Rattle.ints.specs.declared.IntFault.TheVariants.{InvalidDigit}
use Rattle.ints.specs.Answer.{afterwards}
use Rattle.ints.specs.Reading.{unread}
use Rattle.ints.proofs.Paths as paths
use Rattle.ints.proofs.after_sign.Goals as goal

pub returns-in_err-first : goal.returns-in_err-first
returns-in_err-first c =
    let e : c.from_residual.result ≡ Err InvalidDigit = search rules in
    let none : unread c.args.rest ≡ [] = search rules in
    e ∙ sym (ap (afterwards _ _) none ∙ paths.after_nothing _ _)

pub returns : goal.returns
returns c =
    let all : unread c.args.rest ≡ c.in_ok-first.first ∷ unread c.next.new.self = search rules in
    c.number.ensures ∙ sym (ap (afterwards _ _) all ∙ paths.after-some _ _ _ _)
