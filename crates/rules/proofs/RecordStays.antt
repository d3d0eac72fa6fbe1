-- That the records of expressions, and the steps that lead back to no expression, never move back, and which of them take a token (Stays).
use Rattle.std.specs.Prelude.{Some, None, Option}
use mathlib.Core.Path.{refl}
use mathlib.Core.Bool.{Bool}
use Prim.Native.Nat.{ℕ, zero, suc, ◌<◌}
use native.Mathlib.Omega.{arith}
use native.Mathlib.Decide.{dec_lt}
use Rattle.kinds.specs.Number as kind
use Rattle.cursor.specs.declared.State.{State}
use Rattle.cursor.specs.declared.Kids.{Kids}
use Rattle.cursor.specs.declared.Span.{Span}
use Rattle.cursor.specs.Sheet.{Sheet, count, kind_at, range_at, Ranged}
use Rattle.cursor.specs.Node as node
use Rattle.cursor.specs.Rule.{World, Rule}
use Rattle.cursor.specs.Records.{no_kids}
use Rattle.cursor.proofs.Ends.{Ends, ill, Any}
use Rattle.cursor.proofs.Loops.{left}
use Rattle.cursor.proofs.TokenPaths.{range-out}
use Rattle.cursor.proofs.Keeps.{Keeps, Plain, ground, gives, ifs, plain, binds, thens}
use Rattle.cursor.proofs.Kept.{bump-keeps, check-keeps, eat-keeps, expect-keeps, unexpected-keeps, append-keeps, Fresh, ground-mine}
use Rattle.cursor.proofs.Spends.{Spends, Feeds, feeds, first-spends, first-feeds}
use Rattle.cursor.proofs.Spent.{bump-feeds, expect-spends, unexpected-spends}
use Rattle.types.specs.declared.items.Items.{Items}
use Rattle.types.specs.declared.lits.Literal.{Literal}
use Rattle.types.specs.declared.lits.Literal.TheVariants as literals
use Rattle.types.specs.Lits.{literal, lit_from, lit_at, lit, ident_at, ident}
use Rattle.types.specs.Items.{is_ended}
use Rattle.types.specs.Types.{params, closure_params}
use Rattle.types.proofs.ItemKeeps.{lit-keeps, ident-keeps}
use Rattle.types.proofs.TypeKeeps.{type-items-keep}
use Rattle.parts.specs.declared.values.Called.{Called}
use Rattle.parts.specs.declared.values.Expr.{Expr}
use Rattle.parts.specs.Values.{link_of}
use Rattle.parts.specs.Records.{couple, row_record, list_record, wrapped, block_record, fn_record, function_kind, function_record, handler_record, handlers_flagged, if_record, call_record, member_record}
use Rattle.parts.specs.Steps.{checked_type, any_params, braced, no_member, lit_key, paren_key_at, paren_key, name_turn, names, pattern_turn, case_patterns, type_checked, type_check_at, type_check}
use Rattle.rules.proofs.Stays.{Starts, expects, either-starts, starts_first, rounds, add-stays, add-some-stays, close-stays, reflag-stays}

-- records
pub couple-stays : (k from word a b : ℕ) → Keeps ground Plain (couple k from word a b)
unfolding couple
couple-stays k from word a b = binds (add-stays no_kids a) (λ one _. binds (add-stays one b) (λ two _. close-stays k from word 0 0 two.first))

pub row-record-stays : (k from : ℕ) (kids : Kids) (link : ℕ) → Keeps ground Plain (row_record k from kids link)
unfolding row_record
row-record-stays k from kids link = binds (add-stays kids link) (λ all _. close-stays k from 0 0 _ all.first)

pub list-record-stays : (k from : ℕ) (i : Items) → Keeps ground Plain (list_record k from i)
unfolding list_record
list-record-stays k from i = close-stays k from 0 0 _ i.kids.first

pub wrapped-stays : (k from link : ℕ) → Keeps ground Plain (wrapped k from link)
unfolding wrapped
wrapped-stays zero from link = gives tt
wrapped-stays (suc k) from link = close-stays (suc k) from 0 0 0 link

pub block-record-stays : (inside wrap from : ℕ) (row : Kids) → Keeps ground Plain (block_record inside wrap from row)
unfolding block_record
block-record-stays inside wrap from row = binds (close-stays node.Block inside 0 0 _ row.first) (λ link _. wrapped-stays wrap from link)

pub fn-record-stays : (from : ℕ) (glo : Ranged) (name link : ℕ) → Keeps ground Plain (fn_record from glo name link)
unfolding fn_record
fn-record-stays from glo name link = binds (add-some-stays no_kids name) (λ one _. binds (add-stays one link) (λ two _. close-stays node.Fn from _ _ _ two.first))

pub function-record-stays : (from : ℕ) (closure : Bool) (i : Items) (link body : ℕ) → Keeps ground Plain (function_record from closure i link body)
unfolding function_record
function-record-stays from closure i link body = binds (add-some-stays i.kids link) (λ one _. binds (add-stays one body) (λ two _. close-stays (function_kind closure) from 0 0 _ two.first))

pub handler-record-stays : (from : ℕ) (i : Items) (body : ℕ) → Keeps ground Plain (handler_record from i body)
unfolding handler_record
handler-record-stays from i body = binds (add-stays i.kids body) (λ all _. close-stays node.EffectHandler from 0 0 _ all.first)

pub handlers-flagged-stays : (link : ℕ) (called : Called) (handlers : ℕ) → Keeps ground Plain (handlers_flagged link called handlers)
unfolding handlers_flagged
handlers-flagged-stays link called handlers = reflag-stays link _

pub if-record-stays : (from : ℕ) (kids : Kids) (link : ℕ) → Keeps ground Plain (if_record from kids link)
unfolding if_record
if-record-stays from kids link = binds (add-some-stays kids link) (λ all _. close-stays node.If from 0 0 _ all.first)

pub call-record-stays : (from : ℕ) (kids : Kids) (lambda : ℕ) → Keeps ground Plain (call_record from kids lambda)
unfolding call_record
call-record-stays from kids lambda = binds (add-some-stays kids lambda) (λ all _. binds (close-stays node.Call from 0 0 _ all.first) (λ link _. gives tt))

pub member-record-stays : (from : ℕ) (safe : Ranged) (member : ℕ) (x : Expr) (link : ℕ) → Keeps ground Plain (member_record from safe member x link)
unfolding member_record
member-record-stays from safe member x link = binds (add-stays no_kids (link_of x)) (λ one _. binds (add-some-stays one link) (λ all _. binds (close-stays node.Member from _ _ _ all.first) (λ m _. gives tt)))

-- steps
module _ (e : Sheet) where
  -- a name, a literal
  ident-at-spends : (r : Ranged) → Spends e Plain (ident_at e r)
  unfolding ident_at
  ident-at-spends (Some r) = first-spends (expect-spends kind.Ident refl) (λ _. plain (append-keeps _ 0))
  ident-at-spends None = unexpected-spends

  pub ident-starts : Starts e (ident e)
  unfolding ident
  ident-starts = record { stays = plain (ident-keeps e); spends = record { ends = λ s w. (ident-at-spends (range_at e.tokens s.at)).ends s w } }

  lit-from-feeds : (r : Span) (l : Literal) → Feeds e Plain (lit_from e r l)
  unfolding lit_from
  lit-from-feeds r (literals.Value l) = first-feeds bump-feeds (λ _. plain (append-keeps l 0))
  lit-from-feeds r (literals.Faulty n) = record { ends = λ s w h. ill tt }
  lit-from-feeds r literals.Nothing = feeds unexpected-spends

  lit-at-feeds : (k : ℕ) (r : Ranged) → Feeds e Plain (lit_at e k r)
  unfolding lit_at
  lit-at-feeds k (Some r) = lit-from-feeds r (literal e.text k r)
  lit-at-feeds k None = feeds unexpected-spends

  lit-spends : Spends e Plain (lit e)
  unfolding lit lit_at count
  lit-spends = record { ends = λ s w. by s w (dec_lt s.at (count e.tokens)) }
    where
      by : (s : State) (w : World) → Dec (s.at < count e.tokens) → Ends (λ s1 _ a. Unit {0} → left e s1 < left e s) Any (lit e s w)
      by s w (yes q) = (lit-at-feeds _ (range_at e.tokens s.at)).ends s w q
      by s w (no q) = rw (range-out e.tokens s.at (omega arith)) (unexpected-spends.ends s w)

  pub lit-starts : Starts e (lit e)
  lit-starts = record { stays = plain (lit-keeps e); spends = lit-spends }

  -- parameters
  module _ {atom : Rule ℕ} (keeps : Keeps ground (Fresh ground) atom) where
    pub params-starts : (kids : Kids) → Starts e (params e atom kids)
    unfolding params
    params-starts kids = expects kind.OpenParen refl (plain (type-items-keep e _ keeps 0 kids (ground-mine _)))

    pub closure-params-starts : (kids : Kids) → Starts e (closure_params e atom kids)
    unfolding closure_params
    closure-params-starts kids = expects kind.VBar refl (plain (type-items-keep e _ keeps 1 kids (ground-mine _)))

    pub any-params-starts : (closure : Bool) → Starts e (any_params e atom closure)
    unfolding any_params
    any-params-starts closure = either-starts closure (closure-params-starts no_kids) (params-starts no_kids)

  pub braced-stays : (lambda : Bool) → Keeps ground Plain (braced e lambda)
  unfolding braced
  braced-stays lambda = ifs lambda (check-keeps e kind.OpenBrace) (gives tt)

  pub no-member-stays : (safe : Ranged) (x : Expr) → Keeps ground Plain (no_member e safe x)
  unfolding no_member
  no-member-stays safe x = ifs (is_ended safe) (unexpected-keeps e) (gives tt)

  pub lit-key-stays : Keeps ground Plain (lit_key e)
  unfolding lit_key
  lit-key-stays = binds (lit-keeps e) (λ link _. thens (expect-keeps e kind.Colon) (gives tt))

  pub paren-key-at-stays : (from link : ℕ) → Keeps ground Plain (paren_key_at e from link)
  unfolding paren_key_at
  paren-key-at-stays from link = record { ends = λ s w h. (thens (expect-keeps e kind.Colon) (plain (append-keeps _ link))).ends s w h }

  pub paren-key-stays : (from link : ℕ) → Keeps ground Plain (paren_key e from link)
  unfolding paren_key
  paren-key-stays from link = thens (expect-keeps e kind.CloseParen) (paren-key-at-stays from link)

  pub name-turn-starts : (kids : Kids) → Starts e (name_turn e kids)
  unfolding name_turn
  name-turn-starts kids = starts_first ident-starts (λ link. binds (add-stays kids link) (λ longer _. binds (eat-keeps e kind.Comma) (λ comma _. ifs comma (gives tt) (gives tt))))

  pub names-stays : Keeps ground Plain (names e)
  unfolding names
  names-stays = rounds (λ kids. (name-turn-starts kids).stays) e no_kids

  module _ (pattern : Rule ℕ) (keeps : Keeps ground Plain pattern) where
    pub pattern-turn-stays : (kids : Kids) → Keeps ground Plain (pattern_turn e pattern kids)
    unfolding pattern_turn
    pattern-turn-stays kids = binds keeps (λ link _. binds (add-stays kids link) (λ longer _. binds (eat-keeps e kind.VBar) (λ bar _. ifs bar (gives tt) (gives tt))))

    pub case-patterns-stays : Keeps ground Plain (case_patterns e pattern)
    unfolding case_patterns
    case-patterns-stays = rounds pattern-turn-stays e no_kids

  pub type-checked-stays : (from : ℕ) (x : Expr) (r : Span) (c : Option ℕ) → Keeps ground Plain (type_checked e from x r c)
  unfolding type_checked
  type-checked-stays from x r (Some n) = thens (bump-keeps e) (binds (close-stays node.TypeCheck from n _ 0 (link_of x)) (λ link _. gives tt))
  type-checked-stays from x r None = unexpected-keeps e

  pub type-check-at-stays : (from : ℕ) (x : Expr) (k : ℕ) (r : Ranged) → Keeps ground Plain (type_check_at e from x k r)
  unfolding type_check_at
  type-check-at-stays from x k (Some r) = type-checked-stays from x r (checked_type e.text k r)
  type-check-at-stays from x k None = unexpected-keeps e

  pub type-check-stays : (from : ℕ) (x : Expr) → Keeps ground Plain (type_check e from x)
  unfolding type_check
  type-check-stays from x = record { ends = λ s w h. (type-check-at-stays from x (kind_at e.tokens s.at) (range_at e.tokens s.at)).ends s w h }
