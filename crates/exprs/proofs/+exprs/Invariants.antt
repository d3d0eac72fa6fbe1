use Rattle.std.proofs.Common.{◌≡◌, ◌+◌, ◌-◌, ◌*◌}
use Rattle.cursor.specs.Sheet.{count}
use Rattle.cursor.specs.Rule.{iterate}
use Rattle.cursor.specs.Answers.{sheet_of, run, SameLoans}
use Rattle.types.specs.Items.{so}
use Rattle.parts.specs.Forms.{item_rule}
use Rattle.parts.specs.Until.{until_turn}
use Rattle.rules.specs.Statements.{left_turn, right_turn}
use Rattle.rules.specs.Exprs.{exprs_turn}
use Rattle.rules.specs.Precedence.{infix_turn, handler_turn}
use Rattle.rules.specs.Primary.{postfix_turn}
use Rattle.rules.specs.Tables.{item}
use Rattle.rules.specs.Atoms.{case_turn}
use Rattle.rules.specs.Levels.{levels}
use Rattle.exprs.proofs.+exprs.Given as goal

abbrev pub decreases-exprs::exprs : goal.decreases-exprs::exprs
decreases-exprs::exprs l = 20 * l.depth

abbrev pub decreases-exprs::prec : goal.decreases-exprs::prec
decreases-exprs::prec l = 20 * l.depth

abbrev pub decreases-exprs::expr : goal.decreases-exprs::expr
decreases-exprs::expr l = 20 * l.depth + 1

abbrev pub decreases-exprs::block : goal.decreases-exprs::block
decreases-exprs::block l = 20 * l.depth + 1

abbrev pub decreases-exprs::infix : goal.decreases-exprs::infix
decreases-exprs::infix l = 20 * l.depth + 1

abbrev pub decreases-assignments::lefts : goal.decreases-assignments::lefts
decreases-assignments::lefts l = 20 * l.depth + 1

abbrev pub decreases-exprs::expr_and_block : goal.decreases-exprs::expr_and_block
decreases-exprs::expr_and_block l = 20 * l.depth + 2

abbrev pub decreases-statements::function : goal.decreases-statements::function
decreases-statements::function l = 20 * l.depth + 2

abbrev pub decreases-tables::key : goal.decreases-tables::key
decreases-tables::key l = 20 * l.depth + 2

abbrev pub decreases-primary::member_property : goal.decreases-primary::member_property
decreases-primary::member_property l = 20 * l.depth + 2

abbrev pub decreases-exprs::handler : goal.decreases-exprs::handler
decreases-exprs::handler l = 20 * l.depth + 2

abbrev pub decreases-atoms::match_case : goal.decreases-atoms::match_case
decreases-atoms::match_case l = 20 * l.depth + 2

abbrev pub decreases-assignments::right : goal.decreases-assignments::right
decreases-assignments::right l = 20 * l.depth + 2

abbrev pub decreases-assignments::rights : goal.decreases-assignments::rights
decreases-assignments::rights l = 20 * l.depth + 2

abbrev pub decreases-primary::access : goal.decreases-primary::access
decreases-primary::access l = 20 * l.depth + 3

abbrev pub decreases-statements::named_function : goal.decreases-statements::named_function
decreases-statements::named_function l = 20 * l.depth + 3

abbrev pub decreases-atoms::anon : goal.decreases-atoms::anon
decreases-atoms::anon l = 20 * l.depth + 3

abbrev pub decreases-atoms::if_expr : goal.decreases-atoms::if_expr
decreases-atoms::if_expr l = 20 * l.depth + 3

abbrev pub decreases-atoms::match_expr : goal.decreases-atoms::match_expr
decreases-atoms::match_expr l = 20 * l.depth + 3

abbrev pub decreases-atoms::loops : goal.decreases-atoms::loops
decreases-atoms::loops l = 20 * l.depth + 3

abbrev pub decreases-assignments::set : goal.decreases-assignments::set
decreases-assignments::set l = 20 * l.depth + 3

abbrev pub decreases-assignments::typed_assign : goal.decreases-assignments::typed_assign
decreases-assignments::typed_assign l = 20 * l.depth + 3

abbrev pub decreases-assignments::multi : goal.decreases-assignments::multi
decreases-assignments::multi l = 20 * l.depth + 3

abbrev pub decreases-tables::item : goal.decreases-tables::item
decreases-tables::item l = 20 * l.depth + 4

abbrev pub decreases-assignments::assign : goal.decreases-assignments::assign
decreases-assignments::assign l = 20 * l.depth + 4

abbrev pub decreases-statements::glo : goal.decreases-statements::glo
decreases-statements::glo l = 20 * l.depth + 4

abbrev pub decreases-tables::items : goal.decreases-tables::items
decreases-tables::items l = 20 * l.depth + 5

abbrev pub decreases-statements::plain : goal.decreases-statements::plain
decreases-statements::plain l = 20 * l.depth + 5

abbrev pub decreases-statements::stmt : goal.decreases-statements::stmt
decreases-statements::stmt l = 20 * l.depth + 6

abbrev pub decreases-atoms::group : goal.decreases-atoms::group
decreases-atoms::group l = 20 * l.depth + 6

abbrev pub decreases-tables::table : goal.decreases-tables::table
decreases-tables::table l = 20 * l.depth + 6

abbrev pub decreases-primary::call : goal.decreases-primary::call
decreases-primary::call l = 20 * l.depth + 6

abbrev pub decreases-tables::brace : goal.decreases-tables::brace
decreases-tables::brace l = 20 * l.depth + 7

abbrev pub decreases-primary::postfix : goal.decreases-primary::postfix
decreases-primary::postfix l = 20 * l.depth + 7

abbrev pub decreases-atoms::form : goal.decreases-atoms::form
decreases-atoms::form l = 20 * l.depth + 8

abbrev pub decreases-atoms::atom : goal.decreases-atoms::atom
decreases-atoms::atom l = 20 * l.depth + 9

abbrev pub decreases-primary::primary : goal.decreases-primary::primary
decreases-primary::primary l = 20 * l.depth + 10

abbrev pub decreases-exprs::tried : goal.decreases-exprs::tried
decreases-exprs::tried l = 20 * l.depth + 11

abbrev pub decreases-exprs::unary : goal.decreases-exprs::unary
decreases-exprs::unary l = 20 * l.depth + 12

-- in each loop, going on from here gives what going on from its start gives
abbrev pub invariant-assignments::lefts-loop-comma : goal.invariant-assignments::lefts-loop-comma
invariant-assignments::lefts-loop-comma l = record {
  rest : run (iterate (sheet_of l.sheet) (left_turn (levels (sheet_of l.sheet) l.depth)) l.initial.kids) l.initial.p ≡ run (iterate (sheet_of l.sheet) (left_turn (levels (sheet_of l.sheet) l.depth)) l.kids) l.p;
  lent : SameLoans l.initial.p l.p;
}

abbrev pub decreases-assignments::lefts-loop-comma : goal.decreases-assignments::lefts-loop-comma
decreases-assignments::lefts-loop-comma l = count l.sheet.tokens.now - l.p.state.at

abbrev pub invariant-assignments::rights-loop-kids : goal.invariant-assignments::rights-loop-kids
invariant-assignments::rights-loop-kids l = record {
  rest : run (iterate (sheet_of l.sheet) (right_turn (levels (sheet_of l.sheet) l.depth) l.lefts.count) l.initial.kids) l.initial.p ≡ run (iterate (sheet_of l.sheet) (right_turn (levels (sheet_of l.sheet) l.depth) l.lefts.count) l.kids) l.p;
  lent : SameLoans l.initial.p l.p;
}

abbrev pub decreases-assignments::rights-loop-kids : goal.decreases-assignments::rights-loop-kids
decreases-assignments::rights-loop-kids l = count l.sheet.tokens.now - l.p.state.at

abbrev pub invariant-exprs::exprs-loop-mark : goal.invariant-exprs::exprs-loop-mark
invariant-exprs::exprs-loop-mark l = record {
  rest : run (iterate (sheet_of l.sheet) (exprs_turn (levels (sheet_of l.sheet) (l.depth - 1)) l.end) l.initial.row) l.initial.p ≡ run (iterate (sheet_of l.sheet) (exprs_turn (levels (sheet_of l.sheet) (l.depth - 1)) l.end) l.row) l.p;
  lent : SameLoans l.initial.p l.p;
}

abbrev pub decreases-exprs::exprs-loop-mark : goal.decreases-exprs::exprs-loop-mark
decreases-exprs::exprs-loop-mark l = count l.sheet.tokens.now - l.p.state.at

abbrev pub invariant-exprs::prec-loop-longer : goal.invariant-exprs::prec-loop-longer
invariant-exprs::prec-loop-longer l = record {
  rest : run (iterate (sheet_of l.sheet) (infix_turn (levels (sheet_of l.sheet) (l.depth - 1)) l.from l.min l.lambda) l.initial.x) l.initial.p ≡ run (iterate (sheet_of l.sheet) (infix_turn (levels (sheet_of l.sheet) (l.depth - 1)) l.from l.min l.lambda) l.x) l.p;
  lent : SameLoans l.initial.p l.p;
}

abbrev pub decreases-exprs::prec-loop-longer : goal.decreases-exprs::prec-loop-longer
decreases-exprs::prec-loop-longer l = count l.sheet.tokens.now - l.p.state.at

abbrev pub invariant-exprs::tried-loop-one : goal.invariant-exprs::tried-loop-one
invariant-exprs::tried-loop-one l = record {
  rest : run (iterate (sheet_of l.sheet) (handler_turn (levels (sheet_of l.sheet) l.depth)) l.initial.kids) l.initial.p ≡ run (iterate (sheet_of l.sheet) (handler_turn (levels (sheet_of l.sheet) l.depth)) l.kids) l.p;
  lent : SameLoans l.initial.p l.p;
}

abbrev pub decreases-exprs::tried-loop-one : goal.decreases-exprs::tried-loop-one
decreases-exprs::tried-loop-one l = count l.sheet.tokens.now - l.p.state.at

abbrev pub invariant-primary::primary-loop-longer : goal.invariant-primary::primary-loop-longer
invariant-primary::primary-loop-longer l = record {
  rest : run (iterate (sheet_of l.sheet) (postfix_turn (levels (sheet_of l.sheet) l.depth) l.from l.lambda) l.initial.x) l.initial.p ≡ run (iterate (sheet_of l.sheet) (postfix_turn (levels (sheet_of l.sheet) l.depth) l.from l.lambda) l.x) l.p;
  lent : SameLoans l.initial.p l.p;
}

abbrev pub decreases-primary::primary-loop-longer : goal.decreases-primary::primary-loop-longer
decreases-primary::primary-loop-longer l = count l.sheet.tokens.now - l.p.state.at

abbrev pub invariant-atoms::match_expr-loop-p : goal.invariant-atoms::match_expr-loop-p
invariant-atoms::match_expr-loop-p l = record {
  rest : run (iterate (sheet_of l.sheet) (case_turn (levels (sheet_of l.sheet) l.depth)) l.initial.row) l.initial.p ≡ run (iterate (sheet_of l.sheet) (case_turn (levels (sheet_of l.sheet) l.depth)) l.row) l.p;
  lent : SameLoans l.initial.p l.p;
}

abbrev pub decreases-atoms::match_expr-loop-p : goal.decreases-atoms::match_expr-loop-p
decreases-atoms::match_expr-loop-p l = count l.sheet.tokens.now - l.p.state.at

abbrev pub invariant-tables::items-loop-p : goal.invariant-tables::items-loop-p
invariant-tables::items-loop-p l = record {
  rest : run (iterate (sheet_of l.sheet) (until_turn (sheet_of l.sheet) (item (levels (sheet_of l.sheet) l.depth) (item_rule l.rule)) l.end) (so l.initial.row)) l.initial.p ≡ run (iterate (sheet_of l.sheet) (until_turn (sheet_of l.sheet) (item (levels (sheet_of l.sheet) l.depth) (item_rule l.rule)) l.end) (so l.row)) l.p;
  lent : SameLoans l.initial.p l.p;
}

abbrev pub decreases-tables::items-loop-p : goal.decreases-tables::items-loop-p
decreases-tables::items-loop-p l = count l.sheet.tokens.now - l.p.state.at
