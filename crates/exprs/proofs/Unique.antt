-- No second answer satisfies a contract: of each public function, two answers that its `ensures` admits for the same arguments are one, and so
-- is where the parser stands and what it holds, unless the whole reading was refused (cursor's Told). `Post` is the contract as the check reads it
-- from the source.
-- Assumes nothing.
use Rattle.std.proofs.Common.{◌≡◌, sym, ◌∙◌}
use Rattle.cursor.proofs.Told.{One, one}
use Rattle.exprs.proofs.exprs.exprs.Reads as exprs
use Rattle.exprs.proofs.exprs.prec.Reads as prec
use Rattle.exprs.proofs.program.program.Reads as program
use Rattle.exprs.proofs.suffix.is_suffix.Reads as is-suffix
use Rattle.exprs.proofs.suffix.no_suffix.Reads as no-suffix

pub one-exprs : (κs : _) (args : _) (r s : _) (x y : _) → exprs.Post κs args r x → exprs.Post κs args s y → One x.0.now y.0.now r s
one-exprs κs args r s x y p q = one x.0.now y.0.now r s p.0 q.0

pub one-prec : (κs : _) (args : _) (r s : _) (x y : _) → prec.Post κs args r x → prec.Post κs args s y → One x.0.now y.0.now r s
one-prec κs args r s x y p q = one x.0.now y.0.now r s p.0 q.0

pub one-program : (κs : _) (args : _) (r s : _) (x y : _) → program.Post κs args r x → program.Post κs args s y → One x.0.now y.0.now r s
one-program κs args r s x y p q = one x.0.now y.0.now r s p.0 q.0

pub one-is-suffix : (κs : _) (args : _) (r s : _) (x y : _) → is-suffix.Post κs args r x → is-suffix.Post κs args s y → r ≡ s
one-is-suffix κs args r s x y p q = p ∙ sym q

pub one-no-suffix : (κs : _) (args : _) (r s : _) (x y : _) → no-suffix.Post κs args r x → no-suffix.Post κs args s y → One x.0.now y.0.now r s
one-no-suffix κs args r s x y p q = one x.0.now y.0.now r s p.0 q.0
