-- `ints::prefixed` meets its contract.
use Rattle.std.proofs.Common.{◌≡◌, [], ◌∷◌, ◌∙◌, ap, rules}
use Rattle.ints.specs.Spelling.{prefix_radix}
use Rattle.ints.specs.Reading.{unread}
use Rattle.ints.proofs.Paths as paths
use Rattle.ints.proofs.prefixed.Goals as goal

pub returns-in_err-next-2 : goal.returns-in_err-next-2
returns-in_err-next-2 c =
    let all : unread c.args.bytes ≡ c.in_ok-next.field-0 ∷ unread c.next.new.self = search rules in
    let none : unread c.next.new.self ≡ [] = search rules in
    rw c.from_residual-in_err-next-2.ensures (ap prefix_radix all ∙ ap (λ l. prefix_radix (c.in_ok-next.field-0 ∷ l)) none ∙ paths.prefix-zero c.if-branch-ne48.false)
