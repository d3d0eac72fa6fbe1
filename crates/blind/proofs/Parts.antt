-- The records and steps of parts are blind to what the lent buffers held.
use Rattle.std.specs.Prelude.{Some, None, Option}
use mathlib.Core.Bool.{Bool}
use Prim.Native.Nat.{ℕ, zero, suc}
use Rattle.kinds.specs.Number as kind
use Rattle.cursor.specs.declared.Kids.{Kids}
use Rattle.cursor.specs.declared.Fault.{Fault}
use Rattle.cursor.specs.declared.Span.{Span}
use Rattle.cursor.specs.Sheet.{Sheet, kind_at, range_at, Ranged}
use Rattle.cursor.specs.Node as node
use Rattle.cursor.specs.Rule.{Rule}
use Rattle.cursor.specs.Records.{no_kids}
use Rattle.types.specs.declared.items.Items.{Items}
use Rattle.types.specs.Items.{is_ended}
use Rattle.parts.specs.declared.values.Called.{Called}
use Rattle.parts.specs.declared.values.Expr.{Expr}
use Rattle.parts.specs.Values.{link_of}
use Rattle.parts.specs.When.{fail_with}
use Rattle.parts.specs.Records.{couple, row_record, list_record, wrapped, block_record, fn_record, function_kind, function_record, handler_record, handlers_flagged, if_record, call_record, member_record}
use Rattle.parts.specs.Steps.{checked_type, any_params, braced, no_member, lit_key, paren_key_at, paren_key, name_turn, names, pattern_turn, case_patterns, type_checked, type_check_at, type_check}
use Rattle.blind.proofs.Blind.{ill, Blind, gives, ifs, binds, thens, loops}
use Rattle.blind.proofs.Cursor.{bump-blind, check-blind, eat-blind, expect-blind, unexpected-blind, append-blind, add-blind, reflag-blind}
use Rattle.blind.proofs.Items.{close-blind, add-some-blind, lit-blind, ident-blind}
use Rattle.blind.proofs.Types.{params-blind, closure-params-blind}

pub fail-with-blind : {A : Type 0} (f : Fault) → Blind {A = A} (fail_with f)
fail-with-blind f = record { ends = λ m s w v h t. ill h t }

-- records
pub couple-blind : (k from word a b : ℕ) → Blind (couple k from word a b)
unfolding couple
couple-blind k from word a b = binds (add-blind no_kids a) (λ one. binds (add-blind one b) (λ two. close-blind k from word 0 0 two.first))

pub row-record-blind : (k from : ℕ) (kids : Kids) (link : ℕ) → Blind (row_record k from kids link)
unfolding row_record
row-record-blind k from kids link = binds (add-blind kids link) (λ all. close-blind k from 0 0 _ all.first)

pub list-record-blind : (k from : ℕ) (i : Items) → Blind (list_record k from i)
unfolding list_record
list-record-blind k from i = close-blind k from 0 0 _ i.kids.first

wrapped-blind : (k from link : ℕ) → Blind (wrapped k from link)
unfolding wrapped
wrapped-blind zero from link = gives
wrapped-blind (suc k) from link = close-blind (suc k) from 0 0 0 link

pub block-record-blind : (inside wrap from : ℕ) (row : Kids) → Blind (block_record inside wrap from row)
unfolding block_record
block-record-blind inside wrap from row = binds (close-blind node.Block inside 0 0 _ row.first) (λ link. wrapped-blind wrap from link)

pub fn-record-blind : (from : ℕ) (glo : Ranged) (name link : ℕ) → Blind (fn_record from glo name link)
unfolding fn_record
fn-record-blind from glo name link = binds (add-some-blind no_kids name) (λ one. binds (add-blind one link) (λ two. close-blind node.Fn from _ _ _ two.first))

pub function-record-blind : (from : ℕ) (closure : Bool) (i : Items) (link body : ℕ) → Blind (function_record from closure i link body)
unfolding function_record
function-record-blind from closure i link body = binds (add-some-blind i.kids link) (λ one. binds (add-blind one body) (λ two. close-blind (function_kind closure) from 0 0 _ two.first))

pub handler-record-blind : (from : ℕ) (i : Items) (body : ℕ) → Blind (handler_record from i body)
unfolding handler_record
handler-record-blind from i body = binds (add-blind i.kids body) (λ all. close-blind node.EffectHandler from 0 0 _ all.first)

pub handlers-flagged-blind : (link : ℕ) (called : Called) (handlers : ℕ) → Blind (handlers_flagged link called handlers)
unfolding handlers_flagged
handlers-flagged-blind link called handlers = reflag-blind link _

pub if-record-blind : (from : ℕ) (kids : Kids) (link : ℕ) → Blind (if_record from kids link)
unfolding if_record
if-record-blind from kids link = binds (add-some-blind kids link) (λ all. close-blind node.If from 0 0 _ all.first)

pub call-record-blind : (from : ℕ) (kids : Kids) (lambda : ℕ) → Blind (call_record from kids lambda)
unfolding call_record
call-record-blind from kids lambda = binds (add-some-blind kids lambda) (λ all. binds (close-blind node.Call from 0 0 _ all.first) (λ link. gives))

pub member-record-blind : (from : ℕ) (safe : Ranged) (member : ℕ) (x : Expr) (link : ℕ) → Blind (member_record from safe member x link)
unfolding member_record
member-record-blind from safe member x link = binds (add-blind no_kids (link_of x)) (λ one. binds (add-some-blind one link) (λ all. binds (close-blind node.Member from _ _ _ all.first) (λ m. gives)))

-- steps
module _ (e : Sheet) where
  pub any-params-blind : (atom : Rule ℕ) → Blind atom → (closure : Bool) → Blind (any_params e atom closure)
  unfolding any_params
  any-params-blind atom h closure = ifs closure (closure-params-blind e atom h no_kids) (params-blind e atom h no_kids)

  pub braced-blind : (lambda : Bool) → Blind (braced e lambda)
  unfolding braced
  braced-blind lambda = ifs lambda (check-blind e kind.OpenBrace) gives

  pub no-member-blind : (safe : Ranged) (x : Expr) → Blind (no_member e safe x)
  unfolding no_member
  no-member-blind safe x = ifs (is_ended safe) (unexpected-blind e) gives

  pub lit-key-blind : Blind (lit_key e)
  unfolding lit_key
  lit-key-blind = binds (lit-blind e) (λ link. thens (expect-blind e kind.Colon) gives)

  paren-key-at-blind : (from link : ℕ) → Blind (paren_key_at e from link)
  unfolding paren_key_at
  paren-key-at-blind from link = record { ends = λ m s w v h t. (thens (expect-blind e kind.Colon) (append-blind _ link)).ends m s w v h t }

  pub paren-key-blind : (from link : ℕ) → Blind (paren_key e from link)
  unfolding paren_key
  paren-key-blind from link = thens (expect-blind e kind.CloseParen) (paren-key-at-blind from link)

  name-turn-blind : (kids : Kids) → Blind (name_turn e kids)
  unfolding name_turn
  name-turn-blind kids = binds (ident-blind e) (λ link. binds (add-blind kids link) (λ longer. binds (eat-blind e kind.Comma) (λ comma. ifs comma gives gives)))

  pub names-blind : Blind (names e)
  unfolding names
  names-blind = loops name-turn-blind e no_kids

  module _ (pattern : Rule ℕ) (h : Blind pattern) where
    pattern-turn-blind : (kids : Kids) → Blind (pattern_turn e pattern kids)
    unfolding pattern_turn
    pattern-turn-blind kids = binds h (λ link. binds (add-blind kids link) (λ longer. binds (eat-blind e kind.VBar) (λ bar. ifs bar gives gives)))

    pub case-patterns-blind : Blind (case_patterns e pattern)
    unfolding case_patterns
    case-patterns-blind = loops pattern-turn-blind e no_kids

  type-checked-blind : (from : ℕ) (x : Expr) (r : Span) (c : Option ℕ) → Blind (type_checked e from x r c)
  unfolding type_checked
  type-checked-blind from x r (Some n) = thens (bump-blind e) (binds (close-blind node.TypeCheck from n _ 0 (link_of x)) (λ link. gives))
  type-checked-blind from x r None = unexpected-blind e

  type-check-at-blind : (from : ℕ) (x : Expr) (k : ℕ) (r : Ranged) → Blind (type_check_at e from x k r)
  unfolding type_check_at
  type-check-at-blind from x k (Some r) = type-checked-blind from x r (checked_type e.text k r)
  type-check-at-blind from x k None = unexpected-blind e

  pub type-check-blind : (from : ℕ) (x : Expr) → Blind (type_check e from x)
  unfolding type_check
  type-check-blind from x = record { ends = λ m s w v h t. (type-check-at-blind from x (kind_at e.tokens s.at) (range_at e.tokens s.at)).ends m s w v h t }
