-- `ints::from_str_radix` meets its contract.
use Rattle.std.proofs.Common.{◌≡◌, [], ◌∷◌, sym, ◌∙◌, ap, rules, Err}
use Rattle.ints.specs.declared.IntFault.TheVariants.{Empty}
use Rattle.ints.specs.Answer.{from_str_radix}
use Rattle.ints.specs.Reading.{unread}
use Rattle.ints.proofs.Paths as paths
use Rattle.ints.proofs.from_str_radix.Goals as goal

pub returns-in_err-first : goal.returns-in_err-first
returns-in_err-first c =
    let e : c.from_residual.result ≡ Err Empty = search rules in
    let none : unread c.args.bytes ≡ [] = search rules in
    e ∙ sym (ap (from_str_radix _) none ∙ paths.from_nothing _)

pub returns-in-43 : goal.returns-in-43
returns-in-43 c =
    let all : unread c.args.bytes ≡ c.in_ok-first.first ∷ unread c.next.new.self = search rules in
    c.after_sign.ensures ∙ sym (ap (from_str_radix _) all ∙ paths.from-plus _ _ c.in-43.is)

pub returns-in-45 : goal.returns-in-45
returns-in-45 c =
    let all : unread c.args.bytes ≡ c.in_ok-first.first ∷ unread c.next.new.self = search rules in
    c.after_sign-in-45.ensures ∙ sym (ap (from_str_radix _) all ∙ paths.from-minus _ _ c.in-45.is)

pub returns-in_default : goal.returns-in_default
returns-in_default c =
    let all : unread c.args.bytes ≡ c.in_ok-first.first ∷ unread c.next.new.self = search rules in
    c.number.ensures ∙ sym (ap (from_str_radix _) all ∙ paths.from-digits _ _ (search rules) (search rules))
