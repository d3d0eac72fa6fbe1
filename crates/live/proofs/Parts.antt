-- What the records and steps of parts add to the live list.
use Rattle.std.specs.Prelude.{Some, None, Option}
use mathlib.Core.Path.{refl}
use mathlib.Core.Bool.{Bool}
use Prim.Native.Nat.{ℕ, zero, suc}
use Rattle.kinds.specs.Number as kind
use Rattle.cursor.specs.declared.Kids.{Kids}
use Rattle.cursor.specs.declared.Fault.{Fault}
use Rattle.cursor.specs.declared.Span.{Span}
use Rattle.cursor.specs.Sheet.{Sheet, kind_at, range_at, Ranged}
use Rattle.cursor.specs.Node as node
use Rattle.cursor.specs.Rule.{Rule}
use Rattle.cursor.specs.Records.{no_kids}
use Rattle.types.specs.declared.items.Items.{Items}
use Rattle.types.specs.Items.{is_ended}
use Rattle.parts.specs.declared.values.Called.{Called}
use Rattle.parts.specs.declared.values.Expr.{Expr}
use Rattle.parts.specs.Values.{link_of}
use Rattle.parts.specs.When.{fail_with}
use Rattle.parts.specs.Records.{couple, row_record, list_record, wrapped, block_record, fn_record, function_kind, function_record, handler_record, handlers_flagged, if_record, call_record, member_record}
use Rattle.parts.specs.Steps.{checked_type, any_params, braced, no_member, lit_key, paren_key_at, paren_key, name_turn, names, pattern_turn, case_patterns, type_checked, type_check_at, type_check}
use Rattle.live.proofs.Live.{ill, same, Bounded, Adds, Takes, Turns, adds, takes, fits, gives, stops, ifs}
use Rattle.live.proofs.Together.{binds, onto, after, loops}
use Rattle.live.proofs.Cursor.{no_more, asks, bump-bounded, check-bounded, eat-bounded, expect-bounded, unexpected-bounded, append-bounded, add-bounded, reflag-bounded}
use Rattle.live.proofs.Items.{close-bounded, add-some-bounded, lit-bounded, ident-bounded}
use Rattle.live.proofs.Types.{Atom, Pattern, params-bounded, closure-params-bounded}

module _ {e : Sheet} {N : ℕ} where
  pub fail-with-bounded : {A : Type 0} {φ : A → Bool} (f : Fault) → Bounded e N φ 0 0 0 0 0 (fail_with {A = A} f)
  fail-with-bounded f = record { ends = λ s w h g t. ill (h, same refl (no_more _ _)) }

  -- records
  pub couple-bounded : (k from word a b : ℕ) → Adds e N 0 0 0 0 (couple k from word a b)
  unfolding couple
  couple-bounded k from word a b = adds (binds (add-bounded no_kids a) (λ one. binds (add-bounded one b) (λ two. close-bounded k from word 0 0 two.first))) refl refl refl refl

  pub row-record-bounded : (k from : ℕ) (kids : Kids) (link : ℕ) → Adds e N 0 0 0 0 (row_record k from kids link)
  unfolding row_record
  row-record-bounded k from kids link = adds (binds (add-bounded kids link) (λ every. close-bounded k from 0 0 _ every.first)) refl refl refl refl

  pub list-record-bounded : (k from : ℕ) (i : Items) → Adds e N 0 0 0 0 (list_record k from i)
  unfolding list_record
  list-record-bounded k from i = adds (close-bounded k from 0 0 _ i.kids.first) refl refl refl refl

  wrapped-bounded : (k from link : ℕ) → Adds e N 0 0 0 0 (wrapped k from link)
  unfolding wrapped
  wrapped-bounded zero from link = adds (gives) refl refl refl refl
  wrapped-bounded (suc k) from link = adds (close-bounded (suc k) from 0 0 0 link) refl refl refl refl

  pub block-record-bounded : (inside wrap from : ℕ) (row : Kids) → Adds e N 0 0 0 0 (block_record inside wrap from row)
  unfolding block_record
  block-record-bounded inside wrap from row = adds (binds (close-bounded node.Block inside 0 0 _ row.first) (λ link. wrapped-bounded wrap from link)) refl refl refl refl

  pub fn-record-bounded : (from : ℕ) (glo : Ranged) (name link : ℕ) → Adds e N 0 0 0 0 (fn_record from glo name link)
  unfolding fn_record
  fn-record-bounded from glo name link = adds (binds (add-some-bounded no_kids name) (λ one. binds (add-bounded one link) (λ two. close-bounded node.Fn from _ _ _ two.first))) refl refl refl refl

  pub function-record-bounded : (from : ℕ) (closure : Bool) (i : Items) (link body : ℕ) → Adds e N 0 0 0 0 (function_record from closure i link body)
  unfolding function_record
  function-record-bounded from closure i link body = adds (binds (add-some-bounded i.kids link) (λ one. binds (add-bounded one body) (λ two. close-bounded (function_kind closure) from 0 0 _ two.first))) refl refl refl refl

  pub handler-record-bounded : (from : ℕ) (i : Items) (body : ℕ) → Adds e N 0 0 0 0 (handler_record from i body)
  unfolding handler_record
  handler-record-bounded from i body = adds (binds (add-bounded i.kids body) (λ every. close-bounded node.EffectHandler from 0 0 _ every.first)) refl refl refl refl

  pub handlers-flagged-bounded : (link : ℕ) (called : Called) (handlers : ℕ) → Adds e N 0 0 0 0 (handlers_flagged link called handlers)
  unfolding handlers_flagged
  handlers-flagged-bounded link called handlers = adds (reflag-bounded link _) refl refl refl refl

  pub if-record-bounded : (from : ℕ) (kids : Kids) (link : ℕ) → Adds e N 0 0 0 0 (if_record from kids link)
  unfolding if_record
  if-record-bounded from kids link = adds (binds (add-some-bounded kids link) (λ every. close-bounded node.If from 0 0 _ every.first)) refl refl refl refl

  pub call-record-bounded : (from : ℕ) (kids : Kids) (lambda : ℕ) → Adds e N 0 0 0 0 (call_record from kids lambda)
  unfolding call_record
  call-record-bounded from kids lambda = adds (binds (add-some-bounded kids lambda) (λ every. binds (close-bounded node.Call from 0 0 _ every.first) (λ link. gives))) refl refl refl refl

  pub member-record-bounded : (from : ℕ) (safe : Ranged) (member : ℕ) (x : Expr) (link : ℕ) → Adds e N 0 0 0 0 (member_record from safe member x link)
  unfolding member_record
  member-record-bounded from safe member x link = adds (binds (add-bounded no_kids (link_of x)) (λ one. binds (add-some-bounded one link) (λ every. binds (close-bounded node.Member from _ _ _ every.first) (λ m. gives)))) refl refl refl refl

  -- steps
  pub any-params-bounded : {atom : Rule ℕ} → Atom e N atom → (closure : Bool) → Takes e N 1 34 42 112 (any_params e atom closure)
  unfolding any_params
  any-params-bounded x closure = takes (ifs closure (closure-params-bounded x no_kids) (params-bounded x no_kids)) refl refl refl refl

  pub braced-bounded : (lambda : Bool) → Adds e N 1 0 0 0 (braced e lambda)
  unfolding braced
  braced-bounded lambda = adds (ifs lambda (check-bounded kind.OpenBrace) gives) refl refl refl refl

  pub no-member-bounded : (safe : Ranged) (x : Expr) → Turns e N 0 0 0 0 0 (no_member e safe x)
  unfolding no_member
  no-member-bounded safe x = fits (ifs (is_ended safe) unexpected-bounded stops) refl refl refl refl refl

  pub lit-key-bounded : Takes e N 0 0 1 1 (lit_key e)
  unfolding lit_key
  lit-key-bounded = takes (onto lit-bounded (λ link. after (expect-bounded kind.Colon) (λ _. gives))) refl refl refl refl

  paren-key-at-bounded : (from link : ℕ) → Takes e N 1 0 0 0 (paren_key_at e from link)
  unfolding paren_key_at
  paren-key-at-bounded from link = takes (record { ends = λ s w h g t. (after (expect-bounded kind.Colon) (λ _. append-bounded _ link)).ends s w h g t }) refl refl refl refl

  pub paren-key-bounded : (from link : ℕ) → Takes e N 1 0 1 1 (paren_key e from link)
  unfolding paren_key
  paren-key-bounded from link = takes (onto (expect-bounded kind.CloseParen) (λ _. paren-key-at-bounded from link)) refl refl refl refl

  name-turn-bounded : (kids : Kids) → Turns e N 1 0 1 1 1 (name_turn e kids)
  unfolding name_turn
  name-turn-bounded kids = fits (onto ident-bounded (λ link. binds (add-bounded kids link) (λ longer. asks (eat-bounded kind.Comma) gives stops))) refl refl refl refl refl

  pub names-bounded : Adds e N 1 1 1 1 (names e)
  unfolding names
  names-bounded = adds (loops name-turn-bounded e no_kids) refl refl refl refl

  module _ {pattern : Rule ℕ} (x : Pattern e N pattern) where
    pattern-turn-bounded : (kids : Kids) → Turns e N 4 0 25 40 112 (pattern_turn e pattern kids)
    unfolding pattern_turn
    pattern-turn-bounded kids = fits (onto x (λ link. binds (add-bounded kids link) (λ longer. asks (eat-bounded kind.VBar) gives stops))) refl refl refl refl refl

    pub case-patterns-bounded : Adds e N 4 25 40 112 (case_patterns e pattern)
    unfolding case_patterns
    case-patterns-bounded = adds (loops pattern-turn-bounded e no_kids) refl refl refl refl

  type-checked-bounded : (from : ℕ) (x : Expr) (r : Span) (c : Option ℕ) → Turns e N 0 0 0 0 0 (type_checked e from x r c)
  unfolding type_checked
  type-checked-bounded from x r (Some n) = fits (after bump-bounded (λ _. binds (close-bounded node.TypeCheck from n _ 0 (link_of x)) (λ link. gives))) refl refl refl refl refl
  type-checked-bounded from x r None = fits (unexpected-bounded) refl refl refl refl refl

  type-check-at-bounded : (from : ℕ) (x : Expr) (k : ℕ) (r : Ranged) → Turns e N 0 0 0 0 0 (type_check_at e from x k r)
  unfolding type_check_at
  type-check-at-bounded from x k (Some r) = fits (type-checked-bounded from x r (checked_type e.text k r)) refl refl refl refl refl
  type-check-at-bounded from x k None = fits (unexpected-bounded) refl refl refl refl refl

  pub type-check-bounded : (from : ℕ) (x : Expr) → Turns e N 0 0 0 0 0 (type_check e from x)
  unfolding type_check
  type-check-bounded from x = fits (record { ends = λ s w h g t. (type-check-at-bounded from x (kind_at e.tokens s.at) (range_at e.tokens s.at)).ends s w h g t }) refl refl refl refl refl
