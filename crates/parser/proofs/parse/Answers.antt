-- `parse` meets its contract: the entry check decides, and the program's rule is blind to what the buffers held.
use Rattle.std.proofs.Common.{sym, ◌∙◌, refl, rules, Ok, Err}
use Rattle.parser.specs.declared.Refusal.TheVariants.{CutOff}
use Rattle.parser.proofs.ParsePaths.{unfit-exit, read-on, refusing, refused-on, held, held-cleared}
use Rattle.parser.proofs.Contract.{contract}
use Rattle.parser.proofs.parse.Goals as goal

pub returns-in_err-entry_check : goal.returns-in_err-entry_check
returns-in_err-entry_check c = contract _ _ _ _ _ _ (unfit-exit _ _ _ _ _ _ c.from_residual.result c.from_residual.ensures (sym c.in_err-entry_check.ensures))

pub refuse-requires : goal.refuse-requires
refuse-requires c = refusing _ _ _ _ _ _ _ c.program.new.p c.in-Err.stop (sym c.in-Err.ensures.ended)

pub returns-in-Ok : goal.returns-in-Ok
returns-in-Ok c = contract _ _ _ _ _ _ (held (Ok c.read.result) c.read.new.p (c.read.ensures.read ∙ read-on _ _ _ _ _ _ _ refl (sym c.in_ok-entry_check.ensures) (sym c.in-Ok.ensures.ended)) (search rules) (search rules) (search rules))

pub returns-in-Err : goal.returns-in-Err
returns-in-Err c = contract _ _ _ _ _ _ (held-cleared (CutOff c.refuse.result) c.refuse.new.p c.program.new.p _ c.args.nodes.now c.args.errors.now c.args.expected.now
    c.refuse.ensures.refused
    (λ i j k. refused-on _ _ _ _ _ _ _ refl (sym c.in_ok-entry_check.ensures) _ _ _ i j k (sym c.in-Err.ensures.ended))
    (search rules) (search rules) (search rules) (search rules) (search rules) (search rules))
