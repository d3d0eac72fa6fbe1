use Rattle.std.proofs.Common.{sym, ◌∙◌}
use Rattle.types.proofs.LitPaths.{literal-is, on, off}
use Rattle.types.proofs.lits.literal_of.Goals as goal

pub returns-then-kind : goal.returns-then-kind
returns-then-kind c = c.int.ensures ∙ sym (literal-is _ _ _ ∙ on _ _ _ _ c.if-kind.true)

pub returns-then-kind-2 : goal.returns-then-kind-2
returns-then-kind-2 c = c.leaf.ensures ∙ sym (literal-is _ _ _ ∙ off _ _ _ _ c.if-kind.false ∙ on _ _ _ _ c.if-kind-2.true)

pub returns-then-kind-3 : goal.returns-then-kind-3
returns-then-kind-3 c = c.leaf-then-kind-3.ensures ∙ sym (literal-is _ _ _ ∙ off _ _ _ _ c.if-kind.false ∙ off _ _ _ _ c.if-kind-2.false ∙ on _ _ _ _ c.if-kind-3.true)

pub returns-then-kind-4 : goal.returns-then-kind-4
returns-then-kind-4 c = c.leaf-then-kind-4.ensures ∙ sym (literal-is _ _ _ ∙ off _ _ _ _ c.if-kind.false ∙ off _ _ _ _ c.if-kind-2.false ∙ off _ _ _ _ c.if-kind-3.false ∙ on _ _ _ _ c.if-kind-4.true)

pub returns-then-kind-5 : goal.returns-then-kind-5
returns-then-kind-5 c = c.leaf-then-kind-5.ensures ∙ sym (literal-is _ _ _ ∙ off _ _ _ _ c.if-kind.false ∙ off _ _ _ _ c.if-kind-2.false ∙ off _ _ _ _ c.if-kind-3.false ∙ off _ _ _ _ c.if-kind-4.false ∙ on _ _ _ _ c.if-kind-5.true)

pub returns-then-kind-6 : goal.returns-then-kind-6
returns-then-kind-6 c = c.leaf-then-kind-6.ensures ∙ sym (literal-is _ _ _ ∙ off _ _ _ _ c.if-kind.false ∙ off _ _ _ _ c.if-kind-2.false ∙ off _ _ _ _ c.if-kind-3.false ∙ off _ _ _ _ c.if-kind-4.false ∙ off _ _ _ _ c.if-kind-5.false ∙ on _ _ _ _ c.if-kind-6.true)

pub returns-then-kind-7 : goal.returns-then-kind-7
returns-then-kind-7 c = c.leaf-then-kind-7.ensures ∙ sym (literal-is _ _ _ ∙ off _ _ _ _ c.if-kind.false ∙ off _ _ _ _ c.if-kind-2.false ∙ off _ _ _ _ c.if-kind-3.false ∙ off _ _ _ _ c.if-kind-4.false ∙ off _ _ _ _ c.if-kind-5.false ∙ off _ _ _ _ c.if-kind-6.false ∙ on _ _ _ _ c.if-kind-7.true)

pub returns-then-kind-8 : goal.returns-then-kind-8
returns-then-kind-8 c = c.leaf-then-kind-8.ensures ∙ sym (literal-is _ _ _ ∙ off _ _ _ _ c.if-kind.false ∙ off _ _ _ _ c.if-kind-2.false ∙ off _ _ _ _ c.if-kind-3.false ∙ off _ _ _ _ c.if-kind-4.false ∙ off _ _ _ _ c.if-kind-5.false ∙ off _ _ _ _ c.if-kind-6.false ∙ off _ _ _ _ c.if-kind-7.false ∙ on _ _ _ _ c.if-kind-8.true)

pub returns : goal.returns
returns c = sym (literal-is _ _ _ ∙ off _ _ _ _ c.if-kind.false ∙ off _ _ _ _ c.if-kind-2.false ∙ off _ _ _ _ c.if-kind-3.false ∙ off _ _ _ _ c.if-kind-4.false ∙ off _ _ _ _ c.if-kind-5.false ∙ off _ _ _ _ c.if-kind-6.false ∙ off _ _ _ _ c.if-kind-7.false ∙ off _ _ _ _ c.if-kind-8.false)
