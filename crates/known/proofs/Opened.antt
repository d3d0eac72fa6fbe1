-- Every definition of the specifications that computing a sheet may pass through, opened crate by crate. To unfold one of these is to unfold
-- all that its line names; their values mean nothing. A definition that is made unfoldable later joins the line of its crate.
use Prim.Native.Nat.{ℕ}
use Rattle.kinds.specs.Kinds as kinds-Kinds
use Rattle.kinds.specs.Listing as kinds-Listing
use Rattle.kinds.specs.Operators as kinds-Operators
use Rattle.kinds.specs.Spelling as kinds-Spelling
use Rattle.kinds.specs.TypeWords as kinds-TypeWords
use Rattle.ints.specs.Answer as ints-Answer
use Rattle.ints.specs.Spelling as ints-Spelling
use Rattle.entry.specs.Check as entry-Check
use Rattle.entry.specs.Utf8 as entry-Utf8
use Rattle.cursor.specs.Attempts as cursor-Attempts
use Rattle.cursor.specs.Buffer as cursor-Buffer
use Rattle.cursor.specs.Checks as cursor-Checks
use Rattle.cursor.specs.Records as cursor-Records
use Rattle.cursor.specs.Rule as cursor-Rule
use Rattle.cursor.specs.Sheet as cursor-Sheet
use Rattle.cursor.specs.Tokens as cursor-Tokens
use Rattle.cursor.specs.Tree as cursor-Tree
use Rattle.types.specs.Items as types-Items
use Rattle.types.specs.Lits as types-Lits
use Rattle.types.specs.Patterns as types-Patterns
use Rattle.types.specs.Types as types-Types
use Rattle.parts.specs.Effects as parts-Effects
use Rattle.parts.specs.Imports as parts-Imports
use Rattle.parts.specs.Records as parts-Records
use Rattle.parts.specs.Recovery as parts-Recovery
use Rattle.parts.specs.Steps as parts-Steps
use Rattle.parts.specs.Until as parts-Until
use Rattle.rules.specs.Atoms as rules-Atoms
use Rattle.rules.specs.Blocks as rules-Blocks
use Rattle.rules.specs.Exprs as rules-Exprs
use Rattle.rules.specs.Functions as rules-Functions
use Rattle.rules.specs.Inner as rules-Inner
use Rattle.rules.specs.Levels as rules-Levels
use Rattle.rules.specs.Placed as rules-Placed
use Rattle.rules.specs.Precedence as rules-Precedence
use Rattle.rules.specs.Primary as rules-Primary
use Rattle.rules.specs.Statements as rules-Statements
use Rattle.rules.specs.Tables as rules-Tables
use Rattle.parser.specs.Blank as parser-Blank
use Rattle.parser.specs.Finish as parser-Finish
use Rattle.parser.specs.Parse as parser-Parse

unfoldable pub of-kinds : ℕ
unfolding kinds-Kinds.is_trivia kinds-Listing.listing_name kinds-Listing.name_bytes kinds-Listing.name_place kinds-Listing.name_at kinds-Operators.binary_of kinds-Operators.compound_of kinds-Operators.level_of kinds-Spelling.equal kinds-TypeWords.type_word kinds-TypeWords.type_name_place
of-kinds = 0

unfoldable pub of-ints : ℕ
unfolding ints-Answer.judged ints-Answer.first_of ints-Answer.number_of ints-Answer.afterwards ints-Answer.from_str_radix ints-Answer.int_of ints-Spelling.kept ints-Spelling.radix_by ints-Spelling.radix_of ints-Spelling.after_prefix ints-Spelling.sign_by ints-Spelling.digit_of ints-Spelling.value_of
of-ints = 0

unfoldable pub of_entry : ℕ
unfolding entry-Check.bad_range entry-Check.quoted entry-Check.marked entry-Check.bad_quotes entry-Check.token_fault entry-Check.tokens_fault entry-Check.entry_of entry-Utf8.fits entry-Utf8.first_fit entry-Utf8.arrives entry-Utf8.no_tail
of_entry = 0

unfoldable pub of-cursor : ℕ
unfolding cursor-Attempts.try_parse cursor-Attempts.recover cursor-Buffer.put cursor-Buffer.copy cursor-Checks.want cursor-Checks.check cursor-Checks.eat cursor-Checks.unexpected_at cursor-Checks.unexpected cursor-Checks.expect cursor-Checks.eat_range cursor-Checks.choose cursor-Checks.pick_from cursor-Records.write cursor-Records.append cursor-Records.add cursor-Records.reflag cursor-Records.write_error cursor-Records.log cursor-Rule.turns cursor-Rule.iterate cursor-Sheet.count cursor-Sheet.kind_at cursor-Sheet.range_at cursor-Tokens.past_from cursor-Tokens.past_trivia cursor-Tokens.eat_trivia cursor-Tokens.bump cursor-Tokens.eol_turn cursor-Tokens.eat_eol cursor-Tokens.rewind cursor-Tree.join cursor-Tree.size cursor-Tree.word cursor-Tree.label cursor-Tree.trees cursor-Tree.meaning
of-cursor = 0

unfoldable pub of_types : ℕ
unfolding types-Items.start types-Items.close types-Items.pair types-Items.add_some types-Items.after_item types-Items.one_item types-Items.after_last types-Items.last_item types-Items.item_turn types-Items.items_until_with_last types-Lits.int_literal types-Lits.literal types-Lits.lit_from types-Lits.lit_at types-Lits.lit types-Lits.ident_at types-Lits.ident types-Patterns.pattern_end types-Patterns.pattern_last types-Patterns.table_pattern_pair types-Patterns.pattern_item types-Patterns.pattern_items types-Patterns.pattern_ended types-Patterns.pattern_row types-Patterns.pattern types-Patterns.patterns types-Types.type_last_kind types-Types.type_end types-Types.union_turn types-Types.union types-Types.type types-Types.returns types-Types.named types-Types.typed_ident types-Types.table_ty_pair types-Types.table_ty_other types-Types.type_item types-Types.type_last_item types-Types.type_last types-Types.last_of types-Types.type_items types-Types.type_paren types-Types.type_table types-Types.type_function types-Types.type_atom types-Types.atoms types-Types.params types-Types.closure_params
of_types = 0

unfoldable pub of_parts : ℕ
unfolding parts-Effects.effect_record parts-Effects.effect_stmt parts-Imports.import_item parts-Imports.import_items parts-Imports.import_simple parts-Imports.import_alias parts-Imports.import_nested parts-Imports.import_glob parts-Imports.import_end parts-Imports.import_tail parts-Imports.path_turn parts-Imports.import_stmt parts-Records.couple parts-Records.row_record parts-Records.list_record parts-Records.wrapped parts-Records.block_record parts-Records.fn_record parts-Records.function_record parts-Records.handler_record parts-Records.handlers_flagged parts-Records.if_record parts-Records.round_record parts-Records.call_record parts-Records.member_record parts-Recovery.skip_turn parts-Recovery.skip parts-Recovery.skipped parts-Recovery.recovering parts-Recovery.log_here parts-Recovery.line_end parts-Recovery.after_stmt parts-Steps.items_end parts-Steps.checked_type parts-Steps.any_params parts-Steps.braced parts-Steps.no_member parts-Steps.pound parts-Steps.meta_end parts-Steps.lit_key parts-Steps.paren_key_at parts-Steps.paren_key parts-Steps.leaf parts-Steps.name_turn parts-Steps.names parts-Steps.loop_names parts-Steps.pattern_turn parts-Steps.case_patterns parts-Steps.type_checked parts-Steps.type_check_at parts-Steps.type_check parts-Until.until_turn parts-Until.items_until
of_parts = 0

unfoldable pub of-exprs : ℕ
unfolding rules-Atoms.paren_expr rules-Atoms.list_expr rules-Atoms.return_expr rules-Atoms.fn_expr rules-Atoms.closure_expr rules-Atoms.do_expr rules-Atoms.alternate rules-Atoms.if_expr rules-Atoms.match_case rules-Atoms.case_turn rules-Atoms.match_expr rules-Atoms.loop_expr rules-Atoms.while_expr rules-Atoms.for_expr rules-Atoms.break_expr rules-Atoms.continue_expr rules-Atoms.atom rules-Atoms.primary rules-Blocks.block rules-Blocks.expr_and_block rules-Exprs.stmt_or rules-Exprs.exprs_turn rules-Exprs.exprs rules-Functions.function rules-Functions.named_function rules-Inner.expr rules-Levels.knot rules-Levels.program_record rules-Levels.program rules-Placed.member_property rules-Placed.group rules-Placed.do_function rules-Placed.anon_function rules-Placed.anon rules-Placed.loops rules-Placed.form rules-Precedence.handler rules-Precedence.handler_turn rules-Precedence.tried_by rules-Precedence.tried rules-Precedence.unary_op rules-Precedence.unary rules-Precedence.operated rules-Precedence.infix_by rules-Precedence.infix_turn rules-Precedence.precedence rules-Primary.bracket_member rules-Primary.dot_member rules-Primary.double_colon_member rules-Primary.access rules-Primary.call rules-Primary.postfix_turn rules-Primary.primary_of rules-Statements.right rules-Statements.set_to rules-Statements.set rules-Statements.typed_assign rules-Statements.left_of rules-Statements.left_turn rules-Statements.lefts rules-Statements.right_turn rules-Statements.rights rules-Statements.multi_to rules-Statements.multi rules-Statements.assign rules-Statements.glo_assign rules-Statements.glo rules-Statements.plain rules-Statements.function_stmt rules-Statements.stmt rules-Tables.key rules-Tables.property rules-Tables.item rules-Tables.items_of rules-Tables.table rules-Tables.brace_block rules-Tables.table_or_block rules-Tables.brace
of-exprs = 0

unfoldable pub of-parser : ℕ
unfolding parser-Blank.cleared parser-Finish.finished parser-Parse.reading parser-Parse.parse
of-parser = 0
