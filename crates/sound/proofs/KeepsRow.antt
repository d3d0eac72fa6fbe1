-- What the records of expressions, and the steps that lead back to no expression, leave as it was: all that lay below a mark (Keeps). A link that is
-- answered leads to a record made since the mark, and so does the last child of a row; hence nothing is linked behind a record below it.
use Rattle.std.specs.Prelude.{Some, None, Option}
use mathlib.Core.Bool.{Bool}
use Prim.Native.Nat.{ℕ, zero, suc}
use Rattle.cursor.specs.declared.State.{State}
use Rattle.cursor.specs.declared.Kids.{Kids}
use Rattle.cursor.specs.declared.Fault.{Fault}
use Rattle.cursor.specs.declared.Span.{Span}
use Rattle.cursor.specs.Sheet.{Sheet, range_at, Ranged}
use Rattle.cursor.specs.Rule.{Rule, ◌>>=◌, give, if_so, more, stop}
use Rattle.cursor.specs.Records.{add}
use Rattle.cursor.proofs.Ends.{ill}
use Rattle.cursor.proofs.Keeps.{Mark, Keeps, Plain, Nexts, went_refl, gives, ifs, binds, thens, loops}
use Rattle.cursor.proofs.Kept.{bump-keeps, eat-keeps, unexpected-keeps, eat-eol-keeps, append-keeps, add-keeps, Mine, nothing, Fresh, RowFor, fresh-mine}
use Rattle.types.specs.declared.items.Items.{Items}
use Rattle.types.specs.Items.{close, add_some, one_item}
use Rattle.types.proofs.ItemKeeps.{ItemsFor, after-item-keeps, ident-keeps}
use Rattle.parts.specs.declared.values.Expr.{Expr}
use Rattle.parts.specs.declared.values.Expr.TheVariants as exprs
use Rattle.parts.specs.Values.{link_of, member_of}
use Rattle.parts.specs.When.{fail_with}
use Rattle.parts.specs.Until.{until_turn, items_until}
use Rattle.parts.specs.Records.{couple, row_record, wrapped, block_record, fn_record, function_record, handler_record, if_record, call_record, member_record}
use Rattle.parts.specs.Steps.{checked_type, name_turn, names, pattern_turn, case_patterns, type_checked, type_check_at, type_check}

-- an expression whose record was made since the mark; handlers may still join a Call's row
abbrev pub ExprFor : Mark → Expr → Type 0
ExprFor m (exprs.Name link) = Fresh m link
ExprFor m (exprs.NameMember link) = Fresh m link
ExprFor m (exprs.Call link called) = Fresh m link × RowFor m called.kids
ExprFor m (exprs.Other link) = Fresh m link

pub link-fresh : (m : Mark) (x : Expr) → ExprFor m x → Fresh m (link_of x)
link-fresh m (exprs.Name link) g = g
link-fresh m (exprs.NameMember link) g = g
link-fresh m (exprs.Call link called) g = g.0
link-fresh m (exprs.Other link) g = g

member-fresh : (m : Mark) (x : Expr) (safe : Ranged) (link : ℕ) → Fresh m link → ExprFor m (member_of x safe link)
member-fresh m x (Some r) link f = f
member-fresh m (exprs.Name n) None link f = f
member-fresh m (exprs.NameMember n) None link f = f
member-fresh m (exprs.Call n called) None link f = f
member-fresh m (exprs.Other n) None link f = f

module _ {m : Mark} where
  pub fails : {A : Type 0} {G : A → Type 0} (f : Fault) → Keeps m G (fail_with f)
  fails f = record { ends = λ s w h. ill (went_refl m s w) }

  pub closes : (k from one two flags first : ℕ) → Keeps m (Fresh m) (close k from one two flags first)
  unfolding close
  closes k from one two flags first = record { ends = λ s w h. (append-keeps _ first).ends s w h }

  pub adds : (kids : Kids) (link : ℕ) → RowFor m kids → Fresh m link → Keeps m (RowFor m) (add kids link)
  adds kids link h f = add-keeps kids link h (fresh-mine link f)

  pub adds-some : (kids : Kids) (link : ℕ) → RowFor m kids → Mine m link → Keeps m (RowFor m) (add_some kids link)
  unfolding add_some
  adds-some kids zero h f = gives h
  adds-some kids (suc i) h f = add-keeps kids (suc i) h f

  -- a rule that looks at the state which it begins in
  pub begins : {A : Type 0} {G : A → Type 0} {rule : State → Rule A} → ((s : State) → Keeps m G (rule s)) → Keeps m G (λ s w. rule s s w)
  begins x = record { ends = λ s w h. (x s).ends s w h }

  -- records
  pub couple-keeps : (k from word a b : ℕ) → Fresh m a → Fresh m b → Keeps m (Fresh m) (couple k from word a b)
  unfolding couple
  couple-keeps k from word a b f g = binds (adds _ _ nothing f) (λ one h. binds (adds _ _ h g) (λ two _. closes _ _ _ _ _ _))

  pub row-record-keeps : (k from : ℕ) (kids : Kids) (link : ℕ) → RowFor m kids → Fresh m link → Keeps m (Fresh m) (row_record k from kids link)
  unfolding row_record
  row-record-keeps k from kids link h f = binds (adds _ _ h f) (λ all _. closes _ _ _ _ _ _)

  wrapped-keeps : (k from link : ℕ) → Fresh m link → Keeps m (Fresh m) (wrapped k from link)
  unfolding wrapped
  wrapped-keeps zero from link f = gives f
  wrapped-keeps (suc k) from link f = closes _ _ _ _ _ _

  pub block-record-keeps : (inside wrap from : ℕ) (row : Kids) → Keeps m (Fresh m) (block_record inside wrap from row)
  unfolding block_record
  block-record-keeps inside wrap from row = binds (closes _ _ _ _ _ _) (λ link f. wrapped-keeps wrap from link f)

  pub fn-record-keeps : (from : ℕ) (glo : Ranged) (name link : ℕ) → Mine m name → Fresh m link → Keeps m (Fresh m) (fn_record from glo name link)
  unfolding fn_record
  fn-record-keeps from glo name link g f = binds (adds-some _ _ nothing g) (λ one h. binds (adds _ _ h f) (λ two _. closes _ _ _ _ _ _))

  pub function-record-keeps : (from : ℕ) (closure : Bool) (i : Items) (link body : ℕ) → ItemsFor m i → Mine m link → Fresh m body → Keeps m (Fresh m) (function_record from closure i link body)
  unfolding function_record
  function-record-keeps from closure i link body h g f = binds (adds-some _ _ h g) (λ one j. binds (adds _ _ j f) (λ two _. closes _ _ _ _ _ _))

  pub handler-record-keeps : (from : ℕ) (i : Items) (body : ℕ) → ItemsFor m i → Fresh m body → Keeps m (Fresh m) (handler_record from i body)
  unfolding handler_record
  handler-record-keeps from i body h f = binds (adds _ _ h f) (λ all _. closes _ _ _ _ _ _)

  pub if-record-keeps : (from : ℕ) (kids : Kids) (link : ℕ) → RowFor m kids → Mine m link → Keeps m (Fresh m) (if_record from kids link)
  unfolding if_record
  if-record-keeps from kids link h g = binds (adds-some _ _ h g) (λ all _. closes _ _ _ _ _ _)

  pub call-record-keeps : (from : ℕ) (kids : Kids) (lambda : ℕ) → RowFor m kids → Mine m lambda → Keeps m (Nexts (ExprFor m)) (call_record from kids lambda)
  unfolding call_record
  call-record-keeps from kids lambda h g = binds (adds-some _ _ h g) (λ all j. binds (closes _ _ _ _ _ _) (λ link f. gives (f, j)))

  pub member-record-keeps : (from : ℕ) (safe : Ranged) (k : ℕ) (x : Expr) (link : ℕ) → ExprFor m x → Mine m link → Keeps m (Nexts (ExprFor m)) (member_record from safe k x link)
  unfolding member_record
  member-record-keeps from safe k x link g h = binds (adds _ _ nothing (link-fresh m x g)) (λ one j. binds (adds-some _ _ j h) (λ all _. binds (closes _ _ _ _ _ _) (λ own f. gives (member-fresh m x safe own f))))

  -- one more in a row, as long as a test behind it holds
  pub joins : (rule : Rule ℕ) (again : Rule Bool) (kids : Kids) → Keeps m (Fresh m) rule → Keeps m Plain again → RowFor m kids → Keeps m (Nexts (RowFor m)) (rule >>= (λ link. add kids link >>= (λ longer. again >>= (λ b. if_so (give (more longer)) (give (stop longer)) b))))
  joins rule again kids x y h = binds x (λ link f. binds (adds _ _ h f) (λ longer g. binds y (λ b _. ifs b (gives g) (gives g))))

  -- steps
  module _ (e : Sheet) where
    pub names-keep : Keeps m (RowFor m) (names e)
    unfolding names name_turn
    names-keep = loops (λ kids h. joins _ _ kids (ident-keeps _) (eat-keeps _ _) h) e nothing

    pub case-patterns-keep : (pattern : Rule ℕ) → Keeps m (Fresh m) pattern → Keeps m (RowFor m) (case_patterns e pattern)
    unfolding case_patterns pattern_turn
    case-patterns-keep pattern x = loops (λ kids h. joins _ _ kids x (eat-keeps _ _) h) e nothing

    type-checked-keeps : (from : ℕ) (x : Expr) (r : Span) (c : Option ℕ) → Keeps m (Nexts (ExprFor m)) (type_checked e from x r c)
    unfolding type_checked
    type-checked-keeps from x r (Some n) = thens (bump-keeps _) (binds (closes _ _ _ _ _ _) (λ link f. gives f))
    type-checked-keeps from x r None = unexpected-keeps _

    type-check-at-keeps : (from : ℕ) (x : Expr) (k : ℕ) (r : Ranged) → Keeps m (Nexts (ExprFor m)) (type_check_at e from x k r)
    unfolding type_check_at
    type-check-at-keeps from x k (Some r) = type-checked-keeps from x r (checked_type e.text k r)
    type-check-at-keeps from x k None = unexpected-keeps _

    pub type-check-keeps : (from : ℕ) (x : Expr) → Keeps m (Nexts (ExprFor m)) (type_check e from x)
    unfolding type_check
    type-check-keeps from x = begins (λ s. type-check-at-keeps from x _ (range_at e.tokens s.at))

    -- lists of items
    pub until-keeps : (rule : Rule ℕ) (end : ℕ) (kids : Kids) → Keeps m (Fresh m) rule → RowFor m kids → Keeps m (ItemsFor m) (items_until e rule end kids)
    unfolding items_until until_turn one_item
    until-keeps rule end kids x h = thens (eat-eol-keeps _) (loops (λ i g. binds (eat-keeps _ _) (λ ended _. ifs ended (gives g) (binds x (λ link f. after-item-keeps e end i.kids link g (fresh-mine link f))))) e h)
