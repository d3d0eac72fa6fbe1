-- A whole program is blind to what the lent buffers held, with any number of levels.
use Prim.Native.Nat.{ℕ, zero, suc}
use Rattle.kinds.specs.Number as kind
use Rattle.cursor.specs.declared.Kids.{Kids}
use Rattle.cursor.specs.Sheet.{Sheet}
use Rattle.rules.specs.Levels.{knot, levels, program_record, program}
use Rattle.blind.proofs.Blind.{too-deep, Blind, refuses, binds}
use Rattle.blind.proofs.Cursor.{append-blind}
use Rattle.blind.proofs.Items.{start-blind}
use Rattle.blind.proofs.Types.{atoms-blind, patterns-blind}
use Rattle.blind.proofs.Handed.{Handed}
use Rattle.blind.proofs.Atoms.{precedence-blind}
use Rattle.blind.proofs.Stmts.{body-blind}

-- by the levels left
pub levels-handed : (e : Sheet) (d : ℕ) → Handed (levels e d)
unfolding knot
levels-handed e zero = record { exprs = λ end. refuses too-deep; prec = λ min lambda. refuses too-deep; type_atom = atoms-blind e zero; pattern = patterns-blind e zero }
levels-handed e (suc d) = record { exprs = body-blind (levels-handed e d); prec = precedence-blind (levels-handed e d); type_atom = atoms-blind e (suc d); pattern = patterns-blind e (suc d) }

program-record-blind : (from : ℕ) (row : Kids) → Blind (program_record from row)
unfolding program_record
program-record-blind from row = record { ends = λ m s w v h t. (append-blind _ row.first).ends m s w v h t }

pub program-blind : (e : Sheet) (d : ℕ) → Blind (program (levels e d))
unfolding program
program-blind e d = binds (start-blind e) (λ from. binds ((levels-handed e d).exprs kind.Eof) (λ row. program-record-blind from row))
