-- The records of expressions over what was read of them: each costs its records, and the answer's form is told where a rule asks for it.
use Rattle.std.specs.Prelude.{Some, None}
use mathlib.Core.Bool.{Bool}
use Prim.Native.Nat.{ℕ, zero, suc}
use Rattle.cursor.specs.declared.Kids.{Kids}
use Rattle.cursor.specs.declared.Span.{Span}
use Rattle.cursor.specs.Sheet.{Ranged, Sheet}
use Rattle.types.specs.declared.items.Items.{Items as Row}
use Rattle.parts.specs.declared.values.Called.{Called}
use Rattle.parts.specs.declared.values.Expr.{Expr}
use Rattle.parts.specs.declared.values.Expr.TheVariants as exprs
use Rattle.parts.specs.Values.{member_of as member_expr}
use Rattle.parts.specs.Records.{couple, row_record, list_record, wrapped, block_record, fn_record, function_record, handler_record, handlers_flagged, if_record, call_record, member_record}
use Rattle.grammar.specs.Places.{Place}
use Rattle.grammar.specs.Symbols.{Form, Name, NameMember, Call, Other, member_of}
use Rattle.complete.proofs.Meets.{Cost, ◌⊕◌, nothing, building, Any, Goes, goes, Meets}
use Rattle.complete.proofs.MeetsBinds.{answers, gives, next}
use Rattle.complete.proofs.MeetsSteps.{before-none, reflag-meets, adds}
use Rattle.complete.proofs.MeetsValues.{close-meets, adds-some}

-- an answer is of a form
pub data OfForm : Form → Expr → Type 0 where
  a-name : {link : ℕ} → OfForm Name (exprs.Name link)
  a-name-member : {link : ℕ} → OfForm NameMember (exprs.NameMember link)
  a_call : {link : ℕ} {called : Called} → OfForm Call (exprs.Call link called)
  another : {link : ℕ} → OfForm Other (exprs.Other link)

-- a record of another kind over a block, where that is no 0
abbrev pub wrapping : ℕ → Cost
wrapping zero = nothing
wrapping (suc k) = building

module _ {e : Sheet} {d : ℕ} {p : Place} where
  pub couple-meets : (k from word a b : ℕ) → Meets e d p p building Any (couple k from word a b)
  unfolding couple
  couple-meets k from word a b = adds _ _ (λ one. adds _ _ (λ two. close-meets k from word 0 0 _))

  pub row-record-meets : (k from : ℕ) (kids : Kids) (link : ℕ) → Meets e d p p building Any (row_record k from kids link)
  unfolding row_record
  row-record-meets k from kids link = adds _ _ (λ all. close-meets k from 0 0 _ _)

  pub list-record-meets : (k from : ℕ) (i : Row) → Meets e d p p building Any (list_record k from i)
  unfolding list_record
  list-record-meets k from i = close-meets k from 0 0 _ _

  pub wrapped-meets : (k from link : ℕ) → Meets e d p p (wrapping k) Any (wrapped k from link)
  unfolding wrapped
  wrapped-meets zero from link = answers
  wrapped-meets (suc k) from link = close-meets (suc k) from 0 0 0 link

  pub block-record-meets : (within wrap from : ℕ) (row : Kids) → Meets e d p p (building ⊕ wrapping wrap) Any (block_record within wrap from row)
  unfolding block_record
  block-record-meets within wrap from row = next (close-meets _ within 0 0 _ _) (λ link _. wrapped-meets wrap from link)

  pub fn-record-meets : (from : ℕ) (glo : Ranged) (name link : ℕ) → Meets e d p p building Any (fn_record from glo name link)
  unfolding fn_record
  fn-record-meets from glo name link = adds-some _ _ (λ one. adds _ _ (λ all. close-meets _ from _ _ _ _))

  pub function-record-meets : (from : ℕ) (closure : Bool) (i : Row) (link body : ℕ) → Meets e d p p building Any (function_record from closure i link body)
  unfolding function_record
  function-record-meets from closure i link body = adds-some _ _ (λ one. adds _ _ (λ all. close-meets _ from _ _ _ _))

  pub handler-record-meets : (from : ℕ) (i : Row) (body : ℕ) → Meets e d p p building Any (handler_record from i body)
  unfolding handler_record
  handler-record-meets from i body = adds _ _ (λ all. close-meets _ from _ _ _ _)

  pub handlers-flagged-meet : (link : ℕ) (called : Called) (handlers : ℕ) → Meets e d p p nothing Any (handlers_flagged link called handlers)
  unfolding handlers_flagged
  handlers-flagged-meet link called handlers = reflag-meets link _

  pub if-record-meets : (from : ℕ) (kids : Kids) (link : ℕ) → Meets e d p p building Any (if_record from kids link)
  unfolding if_record
  if-record-meets from kids link = adds-some _ _ (λ all. close-meets _ from _ _ _ _)

  pub call-record-meets : (from : ℕ) (kids : Kids) (lambda : ℕ) → Meets e d p p building (Goes (OfForm Call)) (call_record from kids lambda)
  unfolding call_record
  call-record-meets from kids lambda = adds-some _ _ (λ all. before-none (close-meets _ from _ _ _ _) (λ link _. gives (goes a_call)))

  pub member-record-meets : {f : Form} {x : Expr} (from k link : ℕ) → OfForm f x → Meets e d p p building (Goes (OfForm (member_of f))) (member_record from None k x link)
  unfolding member_record
  member-record-meets {f} {x} from k link h = adds _ _ (λ one. adds-some _ _ (λ all. before-none (close-meets _ from _ _ _ _) (λ m _. gives (goes (formed m h)))))
    where
      formed : {f : Form} {x : Expr} (m : ℕ) → OfForm f x → OfForm (member_of f) (member_expr x None m)
      formed m a-name = a-name-member
      formed m a-name-member = another
      formed m a_call = another
      formed m another = another

  pub safe-record-meets : (from : ℕ) (r : Span) (k : ℕ) (x : Expr) (link : ℕ) → Meets e d p p building (Goes (OfForm Other)) (member_record from (Some r) k x link)
  unfolding member_record
  safe-record-meets from r k x link = adds _ _ (λ one. adds-some _ _ (λ all. before-none (close-meets _ from _ _ _ _) (λ m _. gives (goes another))))
