-- Two wrong answers to each public function of exprs, and more to `prec`, at sheets of up to five tokens with few levels. `Post` is the contract as the
-- check reads it from the source. Assumes nothing.
use Rattle.std.specs.Prelude.{Ok, Err}
use Rattle.std.proofs.Common.{◌≡◌, ℕ, true, List, [], ◌∷◌, get_or, refl, MutBor}
use lib.ListN.{replicate}
use Rattle.cursor.specs.declared.Refusal.TheVariants as refusals
use Rattle.cursor.specs.declared.Stop.TheVariants as stops
use Rattle.kinds.specs.Number as kind
use Rattle.kinds.specs.Kinds.{is_trivia}
use Rattle.kinds.specs.Operators.{binary_of}
use Rattle.cursor.specs.Layout.{KIND, FIRST, cell}
use Rattle.cursor.specs.Node as node
use Rattle.cursor.specs.Sheet.{count, kind_at, range_at}
use Rattle.cursor.specs.Rule.{begin, turns, iterate}
use Rattle.cursor.specs.Buffer.{put}
use Rattle.cursor.specs.Tokens.{past_from, past_trivia, bump, eat_trivia, eol_turn, eat_eol}
use Rattle.cursor.specs.Checks.{want, check, eat, expect, eat_range, choose}
use Rattle.cursor.specs.Records.{write, append, add}
use Rattle.cursor.specs.Attempts.{recover}
use Rattle.types.specs.Lits.{ident_at, ident}
use Rattle.types.specs.Items.{start, close, add_some}
use Rattle.parts.specs.declared.values.Expr.TheVariants as sorts
use Rattle.parts.specs.Steps.{checked_type, braced, no_member, type_checked, type_check_at, type_check}
use Rattle.parts.specs.Records.{couple}
use Rattle.parts.specs.Recovery.{after_stmt}
use Rattle.rules.specs.Inner.{expr}
use Rattle.rules.specs.Levels.{knot, program_record, program}
use Rattle.rules.specs.Exprs.{stmt_or, exprs_turn, exprs as exprs-rule}
use Rattle.rules.specs.Statements.{assign, plain, stmt}
use Rattle.rules.specs.Precedence.{unary, operated, infix_by, infix_turn, precedence}
use Rattle.rules.specs.Atoms.{paren_expr, atom, primary}
use Rattle.rules.specs.Primary.{access, postfix_turn, primary_of}
use Rattle.exprs.proofs.exprs.exprs.Reads as exprs
use Rattle.exprs.proofs.exprs.prec.Reads as prec
use Rattle.exprs.proofs.program.program.Reads as whole
use Rattle.cursor.specs.declared.Parser.{Parser}
use Rattle.ruled_out.proofs.Small.{sheet, over, row, apart, unlike, outcome, word, answer, itself, sort}

-- a parser at the start of a sheet, with room for five records
abbrev begun : MutBor Parser
begun = over (replicate 40 0) [] begin

-- `a`, and `(a)`
abbrev name : List ℕ
name = kind.Ident ∷ 0 ∷ 1 ∷ []

abbrev group-of-a-name : List ℕ
group-of-a-name = kind.OpenParen ∷ 0 ∷ 1 ∷ kind.Ident ∷ 1 ∷ 2 ∷ kind.CloseParen ∷ 2 ∷ 3 ∷ []

pub exprs-refused-for-readings : (κs : _) (x : _) → exprs.Post κs (begun, (sheet [], (0, (kind.Eof, tt)))) (Err (stops.Refused refusals.AllSpent)) x → ⊥
unfolding knot
exprs-refused-for-readings κs x p = apart outcome p.0 refl

-- one level is used up by the statements, and none is left for the expression
pub exprs-depth-not-lowered : (κs : _) (x : _) → exprs.Post κs (begun, (sheet name, (1, (kind.Eof, tt)))) (Ok (row 1 1 1)) x → ⊥
unfolding knot exprs-rule eat_eol eat_trivia eol_turn iterate turns exprs_turn stmt_or recover stmt plain assign start eat check want choose past_trivia past_from is_trivia kind_at count
exprs-depth-not-lowered κs x p = apart outcome p.0 refl

pub exprs-statement-left-out : (κs : _) (x : _) → exprs.Post κs (begun, (sheet name, (2, (kind.Eof, tt)))) (Ok (row 0 0 0)) x → ⊥
unfolding knot exprs-rule eat_eol eat_trivia eol_turn iterate turns exprs_turn stmt_or recover stmt plain assign start eat check want choose past_trivia past_from is_trivia kind_at range_at count precedence unary primary primary_of atom ident ident_at expect bump append postfix_turn braced access eat_range no_member infix_turn infix_by binary_of after_stmt add_some add
exprs-statement-left-out κs x p = apart (answer (λ k. k.count)) p.0 refl

pub prec-depth-not-lowered : (κs : _) (x : _) → prec.Post κs (begun, (sheet group-of-a-name, (1, (1, (true, tt))))) (Ok (sorts.Other 2)) x → ⊥
unfolding knot precedence unary primary primary_of atom paren_expr expr start bump check want choose kind_at count
prec-depth-not-lowered κs x p = apart outcome p.0 refl

-- a plain name that nothing can be assigned to
pub prec-name-as-another-expression : (κs : _) (x : _) → prec.Post κs (begun, (sheet name, (1, (1, (true, tt))))) (Ok (sorts.Other 1)) x → ⊥
unfolding knot precedence unary primary primary_of atom ident ident_at expect eat start bump check want choose past_trivia past_from kind_at range_at count append iterate turns postfix_turn braced access eat_range no_member infix_turn infix_by binary_of
prec-name-as-another-expression κs x p = apart (answer sort) p.0 refl

-- `a is null`
pub prec-is-as-an-operator : (κs : _) (x : _) → prec.Post κs (begun, (sheet (kind.Ident ∷ 0 ∷ 1 ∷ kind.Is ∷ 2 ∷ 4 ∷ kind.Null ∷ 5 ∷ 9 ∷ []), (2, (1, (true, tt))))) (Ok (sorts.Other 2)) x → get_or x.0.now.nodes.now (cell 1 KIND) 0 ≡ node.Binary → ⊥
unfolding knot precedence unary primary primary_of atom ident ident_at expect eat start bump check want choose past_trivia past_from is_trivia kind_at range_at count put append write iterate turns postfix_turn braced access eat_range no_member infix_turn infix_by binary_of operated type_check type_check_at type_checked checked_type close
prec-is-as-an-operator κs x p h = unlike (word (cell 1 KIND)) p.0 h refl

-- `a - b - c` as `a - (b - c)`: its first child is then the first name
pub prec-right-operand-at-its-own-level : (κs : _) (x : _) → prec.Post κs (begun, (sheet (kind.Ident ∷ 0 ∷ 1 ∷ kind.Sub ∷ 1 ∷ 2 ∷ kind.Ident ∷ 2 ∷ 3 ∷ kind.Sub ∷ 3 ∷ 4 ∷ kind.Ident ∷ 4 ∷ 5 ∷ []), (3, (1, (true, tt))))) (Ok (sorts.Other 5)) x → get_or x.0.now.nodes.now (cell 4 FIRST) 0 ≡ 1 → ⊥
unfolding knot precedence unary primary primary_of atom ident ident_at expect eat start bump check want choose past_trivia past_from is_trivia kind_at range_at count put append write iterate turns postfix_turn braced access eat_range no_member infix_turn infix_by binary_of operated couple close add
prec-right-operand-at-its-own-level κs x p h = unlike (word (cell 4 FIRST)) p.0 h refl

pub program-refused-for-readings : (κs : _) (x : _) → whole.Post κs (begun, (sheet [], (0, tt))) (Err (stops.Refused refusals.AllSpent)) x → ⊥
unfolding program knot start
program-refused-for-readings κs x p = apart outcome p.0 refl

-- the link to the statement
pub program-record-left-out : (κs : _) (x : _) → whole.Post κs (begun, (sheet name, (2, tt))) (Ok 1) x → ⊥
unfolding program program_record knot exprs-rule eat_eol eat_trivia eol_turn iterate turns exprs_turn stmt_or recover stmt plain assign start eat check want choose past_trivia past_from is_trivia kind_at range_at count put precedence unary primary primary_of atom ident ident_at expect bump append write postfix_turn braced access eat_range no_member infix_turn infix_by binary_of after_stmt add_some add
program-record-left-out κs x p = apart (answer itself) p.0 refl
