-- No second answer satisfies a contract: of each public function, two answers that its `ensures` admits for the same arguments are one, and so
-- is where the parser stands and what it holds, unless the whole reading was refused (cursor's Told). `Post` is the contract as the check reads it
-- from the source.
-- Assumes nothing.
use Rattle.std.proofs.Common.{◌≡◌, Bool, sym, ap, ◌∙◌}
use Rattle.cursor.specs.Sheet.{Ranged}
use Rattle.cursor.specs.Answers.{ended, turned}
use Rattle.cursor.proofs.Told.{Settled, Same, One, one, alike, Apart, one_turn}
use Rattle.types.specs.Items.{is_ended, so}
use Rattle.types.proofs.items.close.Reads as close
use Rattle.types.proofs.items.pair.Reads as pair
use Rattle.types.proofs.items.add_some.Reads as add-some
use Rattle.types.proofs.items.after_item.Reads as after-item
use Rattle.types.proofs.items.after_last.Reads as after-last
use Rattle.types.proofs.lits.literal_of.Reads as literal-of
use Rattle.types.proofs.lits.lit.Reads as lit
use Rattle.types.proofs.lits.ident.Reads as ident
use Rattle.types.proofs.types.ty.Reads as ty
use Rattle.types.proofs.types.returns.Reads as returns
use Rattle.types.proofs.types.typed_ident.Reads as typed-ident
use Rattle.types.proofs.types.type_items.Reads as type-items
use Rattle.types.proofs.types.type_items_of.Reads as type-items-of
use Rattle.types.proofs.types.type_atom.Reads as type-atom
use Rattle.types.proofs.types.params.Reads as params
use Rattle.types.proofs.types.closure_params.Reads as closure-params
use Rattle.types.proofs.patterns.pattern.Reads as pattern
use Rattle.types.proofs.patterns.span_of.Reads as span-of

-- a contract that is an equation with the answer
pub one-literal-of : (κs : _) (args : _) (r s : _) (x y : _) → literal-of.Post κs args r x → literal-of.Post κs args s y → r ≡ s
one-literal-of κs args r s x y p q = p ∙ sym q

pub one-span-of : (κs : _) (args : _) (r s : _) (x y : _) → span-of.Post κs args r x → span-of.Post κs args s y → r ≡ s
one-span-of κs args r s x y p q = p ∙ sym q

pub one-is-ended : (range : Ranged) (r s : Bool) → r ≡ is_ended range → s ≡ is_ended range → r ≡ s
one-is-ended range r s p q = p ∙ sym q

-- a rule
pub one-close : (κs : _) (args : _) (r s : _) (x y : _) → close.Post κs args r x → close.Post κs args s y → One x.0.now y.0.now r s
one-close κs args r s x y p q = one x.0.now y.0.now r s p.0 q.0

pub one-pair : (κs : _) (args : _) (r s : _) (x y : _) → pair.Post κs args r x → pair.Post κs args s y → One x.0.now y.0.now r s
one-pair κs args r s x y p q = one x.0.now y.0.now r s p.0 q.0

pub one-after-last : (κs : _) (args : _) (r s : _) (x y : _) → after-last.Post κs args r x → after-last.Post κs args s y → One x.0.now y.0.now r s
one-after-last κs args r s x y p q = one x.0.now y.0.now r s p.0 q.0

pub one-lit : (κs : _) (args : _) (r s : _) (x y : _) → lit.Post κs args r x → lit.Post κs args s y → One x.0.now y.0.now r s
one-lit κs args r s x y p q = one x.0.now y.0.now r s p.0 q.0

pub one-ident : (κs : _) (args : _) (r s : _) (x y : _) → ident.Post κs args r x → ident.Post κs args s y → One x.0.now y.0.now r s
one-ident κs args r s x y p q = one x.0.now y.0.now r s p.0 q.0

pub one-ty : (κs : _) (args : _) (r s : _) (x y : _) → ty.Post κs args r x → ty.Post κs args s y → One x.0.now y.0.now r s
one-ty κs args r s x y p q = one x.0.now y.0.now r s p.0 q.0

pub one-returns : (κs : _) (args : _) (r s : _) (x y : _) → returns.Post κs args r x → returns.Post κs args s y → One x.0.now y.0.now r s
one-returns κs args r s x y p q = one x.0.now y.0.now r s p.0 q.0

pub one-typed-ident : (κs : _) (args : _) (r s : _) (x y : _) → typed-ident.Post κs args r x → typed-ident.Post κs args s y → One x.0.now y.0.now r s
one-typed-ident κs args r s x y p q = one x.0.now y.0.now r s p.0 q.0

pub one-type-items : (κs : _) (args : _) (r s : _) (x y : _) → type-items.Post κs args r x → type-items.Post κs args s y → One x.0.now y.0.now r s
one-type-items κs args r s x y p q = one x.0.now y.0.now r s p.0 q.0

pub one-type-items-of : (κs : _) (args : _) (r s : _) (x y : _) → type-items-of.Post κs args r x → type-items-of.Post κs args s y → One x.0.now y.0.now r s
one-type-items-of κs args r s x y p q = one x.0.now y.0.now r s p.0 q.0

pub one-type-atom : (κs : _) (args : _) (r s : _) (x y : _) → type-atom.Post κs args r x → type-atom.Post κs args s y → One x.0.now y.0.now r s
one-type-atom κs args r s x y p q = one x.0.now y.0.now r s p.0 q.0

pub one-params : (κs : _) (args : _) (r s : _) (x y : _) → params.Post κs args r x → params.Post κs args s y → One x.0.now y.0.now r s
one-params κs args r s x y p q = one x.0.now y.0.now r s p.0 q.0

pub one-closure-params : (κs : _) (args : _) (r s : _) (x y : _) → closure-params.Post κs args r x → closure-params.Post κs args s y → One x.0.now y.0.now r s
one-closure-params κs args r s x y p q = one x.0.now y.0.now r s p.0 q.0

pub one-pattern : (κs : _) (args : _) (r s : _) (x y : _) → pattern.Post κs args r x → pattern.Post κs args s y → One x.0.now y.0.now r s
one-pattern κs args r s x y p q = one x.0.now y.0.now r s p.0 q.0

-- a rule that cannot fail
pub one-add-some : (κs : _) (args : _) (r s : _) (x y : _) → add-some.Post κs args r x → add-some.Post κs args s y → (r ≡ s) × Same x.0.now y.0.now
one-add-some κs args r s x y p q = alike x.0.now y.0.now r s p.0 q.0

-- a turn
kids-apart : Apart so
kids-apart a b h = ap (λ i. i.kids) h

pub one-after-item : (κs : _) (args : _) (r s : _) (x y : _) → after-item.Post κs args r x → after-item.Post κs args s y
    → (r ≡ s) × (Settled (ended x.0.now (turned so so r)) → Same x.0.now y.0.now)
one-after-item κs args r s x y p q = one_turn kids-apart kids-apart x.0.now y.0.now r s p.0 q.0
