-- Each way through the records of expressions.
use Rattle.std.specs.Prelude.{Result}
use mathlib.Core.Path.{◌≡◌, refl, ap}
use mathlib.Core.Bool.{Bool, true, false}
use mathlib.Core.List.{[], ◌∷◌}
use Prim.Native.Nat.{ℕ, zero, suc, ◌<◌}
use lib.ListN.{get_or-eq_default}
use lib.Dec.{ltb}
use borrow.Author.Tests.{eq-eqb, ne_eqb}
use Rattle.cursor.specs.declared.Parser.{Parser}
use Rattle.cursor.specs.declared.State.{State}
use Rattle.cursor.specs.declared.Stop as declared
use Rattle.cursor.specs.declared.Kids.{Kids}
use Rattle.cursor.specs.declared.Span.{Span}
use Rattle.cursor.specs.Sheet.{Ranged}
use Rattle.cursor.specs.Node as node
use Rattle.cursor.specs.Rule.{World, Stop, Out, done, failed, bind, more}
use Rattle.cursor.specs.Answers.{ended}
use Rattle.cursor.specs.Records.{add, reflag, no_kids, flagged}
use Rattle.types.specs.declared.items.Items.{Items}
use Rattle.types.specs.Items.{close, add_some, is_ended}
use Rattle.types.specs.Patterns.{span_of}
use Rattle.parts.specs.declared.values.Called.{Called}
use Rattle.parts.specs.declared.values.Expr.{Expr}
use Rattle.parts.specs.declared.values.Expr.TheVariants as exprs
use Rattle.parts.specs.Forms as forms
use Rattle.parts.specs.Members as members
use Rattle.parts.specs.Members.{member_at}
use Rattle.parts.specs.Values.{link_of, member_of, uncounted}
use Rattle.parts.specs.Records.{couple, row_record, list_record, wrapped, block_record, fn_record, function_record, handler_record, handlers_flagged, if_record, round_record, call_record, member_record}

-- what goes on from an answer that is told apart, whatever it is read as
pub read_as : {A B C : Type 0} (f : A → World → Out B) {r v : A} (w : World) (k : State → World → B → Out C) → r ≡ v → bind (f r w) k ≡ bind (f v w) k
read_as f w k p = ap (λ r. bind (f r w) k) p

-- what goes on from an answer that is handed over, once it is told apart
pub handed : {A B : Type 0} (p : Parser) (k : State → World → A → Out B) {r v : Result A declared.Stop} → r ≡ v → bind (ended p r) k ≡ bind (ended p v) k
handed p k q = ap (λ r. bind (ended p r) k) q

-- past the chain the member's kind is that of `[x]`, meta or not
pub kind-none : (which : ℕ) (meta : Bool) → 2 < which → member_at which meta ≡ 0
kind-none which false h = get_or-eq_default (members.Bracket ∷ members.Dot ∷ members.DoubleColon ∷ []) 0 h
kind-none which true h = get_or-eq_default (members.BracketMeta ∷ members.DotMeta ∷ members.DoubleColonMeta ∷ []) 0 h

-- a block without a record over it is as its own record is
pub block-alone : (o : Out ℕ) (inside wrap from : ℕ) (row : Kids) (s : State) (w : World) {flags : ℕ} → flags ≡ flagged row.count 0 false false → wrap ≡ 0 → o ≡ close node.Block inside 0 0 flags row.first s w → block_record inside wrap from row s w ≡ o
unfolding block_record wrapped
block-alone (done t v link) inside wrap from row s w f p q = rw (p, ← f) (rw (← q))
block-alone (failed x) inside wrap from row s w f p q = rw (p, ← f) (rw (← q))

-- the record over a block
pub wrapped-on : (wrap from link : ℕ) (s : State) (w : World) → (wrap ≡ 0 → ⊥) → wrapped wrap from link s w ≡ close wrap from 0 0 0 link s w
unfolding wrapped
wrapped-on zero from link s w p = absurd (p refl)
wrapped-on (suc k) from link s w p = refl

module _ (s : State) (w : World) where
  pub couple-on : (k from word a b : ℕ) {one two : Kids} {s1 s2 : State} {w1 w2 : World} → done s1 w1 one ≡ add no_kids a s w → done s2 w2 two ≡ add one b s1 w1 → couple k from word a b s w ≡ close k from word 0 0 two.first s2 w2
  unfolding couple
  couple-on k from word a b p q = rw (← p) (rw (← q))

  pub row_on : (k from link : ℕ) (kids : Kids) {flags : ℕ} {all : Kids} {s1 : State} {w1 : World} → flags ≡ flagged kids.count 0 false false → done s1 w1 all ≡ add kids link s w → row_record k from kids link s w ≡ close k from 0 0 flags all.first s1 w1
  unfolding row_record
  row_on k from link kids f p = rw (← p) (rw f)

  pub list_on : (k from : ℕ) (i : Items) {flags : ℕ} → flags ≡ flagged i.kids.count 0 false false → list_record k from i s w ≡ close k from 0 0 flags i.kids.first s w
  unfolding list_record
  list_on k from i f = rw f

  module _ (inside wrap from : ℕ) (row : Kids) {flags : ℕ} (f : flags ≡ flagged row.count 0 false false) where
    pub block-failed : {x : Stop} → close node.Block inside 0 0 flags row.first s w ≡ failed x → block_record inside wrap from row s w ≡ failed x
    unfolding block_record
    block-failed p = rw (← f) (rw p)

    pub block-wrapped : {link : ℕ} {s1 : State} {w1 : World} → (wrap ≡ 0 → ⊥) → close node.Block inside 0 0 flags row.first s w ≡ done s1 w1 link → block_record inside wrap from row s w ≡ close wrap from 0 0 0 link s1 w1
    unfolding block_record
    block-wrapped n p = rw (← f) (rw p (wrapped-on _ _ _ _ _ n))

  pub fn-on : (from : ℕ) (glo : Ranged) (name link : ℕ) {one two : Kids} {s1 s2 : State} {w1 w2 : World} {mark : Span} {b : Bool} {flags : ℕ} → done s1 w1 one ≡ add_some no_kids name s w → done s2 w2 two ≡ add one link s1 w1 → mark ≡ span_of glo → b ≡ is_ended glo → flags ≡ flagged 0 0 b (ltb 0 name) → fn_record from glo name link s w ≡ close node.Fn from mark.start mark.end flags two.first s2 w2
  unfolding fn_record
  fn-on from glo name link p q m b f = rw (← p) (rw (← q) (rw (f, b, m)))

  module _ (from : ℕ) (i : Items) {b : Bool} (ended : b ≡ is_ended i.ended) where
    module _ (closure : Bool) (link body : ℕ) {flags : ℕ} {one two : Kids} {s1 s2 : State} {w1 w2 : World} (f : flags ≡ flagged i.kids.count 0 b (ltb 0 link)) (p : done s1 w1 one ≡ add_some i.kids link s w) (q : done s2 w2 two ≡ add one body s1 w1) where
      pub closure-on : closure ≡ true → function_record from closure i link body s w ≡ close node.Closure from 0 0 flags two.first s2 w2
      unfolding function_record
      closure-on c = rw (c, ← p) (rw (← q) (rw (f, ended)))

      pub function-on : closure ≡ false → function_record from closure i link body s w ≡ close node.Function from 0 0 flags two.first s2 w2
      unfolding function_record
      function-on c = rw (c, ← p) (rw (← q) (rw (f, ended)))

    pub handler-on : (body : ℕ) {flags : ℕ} {all : Kids} {s1 : State} {w1 : World} → flags ≡ flagged i.kids.count 0 b false → done s1 w1 all ≡ add i.kids body s w → handler_record from i body s w ≡ close node.EffectHandler from 0 0 flags all.first s1 w1
    unfolding handler_record
    handler-on body f p = rw (← p) (rw (f, ended))

  pub handlers-on : (link : ℕ) (called : Called) (handlers : ℕ) {flags : ℕ} → flags ≡ flagged called.arguments handlers called.lambda false → handlers_flagged link called handlers s w ≡ reflag link flags s w
  unfolding handlers_flagged
  handlers-on link called handlers f = rw f

  pub if-on : (from : ℕ) (kids : Kids) (link : ℕ) {flags : ℕ} {all : Kids} {s1 : State} {w1 : World} → flags ≡ flagged 0 0 (ltb 0 link) false → done s1 w1 all ≡ add_some kids link s w → if_record from kids link s w ≡ close node.If from 0 0 flags all.first s1 w1
  unfolding if_record
  if-on from kids link f p = rw (← p) (rw f)

  module _ (from which names : ℕ) (kids : Kids) where
    pub round-while : which ≡ forms.While → round_record from which names kids s w ≡ close node.While from 0 0 0 kids.first s w
    unfolding round_record
    round-while p = rw (eq-eqb _ _ p, round_record)

    pub round-for : {flags : ℕ} → (which ≡ forms.While → ⊥) → flags ≡ flagged names 0 false false → round_record from which names kids s w ≡ close node.For from 0 0 flags kids.first s w
    unfolding round_record
    round-for p f = rw (ne_eqb _ _ p, round_record) (rw f)

  module _ (from : ℕ) (kids : Kids) (lambda : ℕ) {flags : ℕ} {all : Kids} {s1 : State} {w1 : World} (f : flags ≡ flagged kids.count 0 (ltb 0 lambda) false) (p : done s1 w1 all ≡ add_some kids lambda s w) where
    pub call-failed : {x : Stop} → close node.Call from 0 0 flags all.first s1 w1 ≡ failed x → call_record from kids lambda s w ≡ failed x
    unfolding call_record
    call-failed q = rw (← p) (rw (← f) (rw q))

    pub call-on : {link : ℕ} {s2 : State} {w2 : World} → close node.Call from 0 0 flags all.first s1 w1 ≡ done s2 w2 link → call_record from kids lambda s w ≡ done s2 w2 (more (exprs.Call link (record { kids = uncounted all; arguments = kids.count; lambda = ltb 0 lambda })))
    unfolding call_record
    call-on q = rw (← p) (rw (← f) (rw q))

  module _ (from : ℕ) (safe : Ranged) (member : ℕ) (x : Expr) (link : ℕ) {table which-kind flags : ℕ} {one all : Kids} {s1 s2 : State} {w1 w2 : World} {mark : Span} {b : Bool} (t : table ≡ link_of x) (p : done s1 w1 one ≡ add no_kids table s w) (q : done s2 w2 all ≡ add_some one link s1 w1) (m : mark ≡ span_of safe) (n : which-kind ≡ member) (ended : b ≡ is_ended safe) (f : flags ≡ flagged which-kind 0 b false) where
    pub member-failed : {y : Stop} → close node.Member from mark.start mark.end flags all.first s2 w2 ≡ failed y → member_record from safe member x link s w ≡ failed y
    unfolding member_record
    member-failed r = rw (← t, ← p) (rw (← q) (rw (← m, ← n, ← ended) (rw (← f) (rw r))))

    pub member-on : {l : ℕ} {y : Expr} {s3 : State} {w3 : World} → close node.Member from mark.start mark.end flags all.first s2 w2 ≡ done s3 w3 l → y ≡ member_of x safe l → member_record from safe member x link s w ≡ done s3 w3 (more y)
    unfolding member_record
    member-on r y = rw (← t, ← p) (rw (← q) (rw (← m, ← n, ← ended) (rw (← f) (rw r (rw y)))))
