-- Functions: parse_function, and the expressions over a function without a name.
use Rattle.std.specs.Prelude.{None}
use mathlib.Core.Path.{◌≡◌, refl, ap, ◌∙◌}
use mathlib.Core.List.{List}
use mathlib.Core.Bool.{Bool, true, false}
use Prim.Native.Nat.{ℕ}
use lib.Dec.{ltb}
use borrow.Author.Tests.{lt-ltb}
use Rattle.kinds.specs.Number as kind
use Rattle.cursor.specs.declared.Kids.{Kids}
use Rattle.cursor.specs.Node as node
use Rattle.cursor.specs.Sheet.{Sheet}
use Rattle.cursor.specs.Records.{no_link, no_kids, flagged}
use Rattle.cursor.specs.Tree.{none, join}
use Rattle.cursor.proofs.Laws.{join-assoc}
use Rattle.cursor.proofs.RecordPaths.{added}
use Rattle.cursor.proofs.Stack.{link-some}
use Rattle.cursor.proofs.Grows.{begin, as_row}
use Rattle.types.specs.declared.items.Items.{Items as Row}
use Rattle.types.specs.Items.{is_ended}
use Rattle.types.specs.Types.{atoms}
use Rattle.parts.specs.Records.{function_kind, function_record, fn_record}
use Rattle.parts.specs.Steps.{any_params}
use Rattle.rules.specs.Levels.{levels}
use Rattle.rules.specs.Functions.{function}
use Rattle.rules.specs.Atoms.{fn_expr, closure_expr, do_expr}
use Rattle.grammar.specs.Places.{Place, start_of, Here}
use Rattle.grammar.specs.Symbols.{Other, Block, Exprs, Returns, Params, Function, Atom}
use Rattle.grammar.specs.Derives.{Derives, function_of, fn-expr, closure-expr, do-expr}
use Rattle.grammar.specs.Builders.{Shape, blank, signature, over, fn_over}
use Rattle.grammar.specs.Shape.{shape}
use Rattle.sound.proofs.Sound.{Spot, at, Claim, Seq, ◌▸◌, Sound, maps, binds}
use Rattle.sound.proofs.SoundSteps.{Bumped, bumped, Added, added-to, add-sound, bump-sound, adding}
use Rattle.sound.proofs.SoundValues.{Value, value, Optional, some-value, no_value, wrapped, joined, unlinked, relabel, retree, labelled, Closed, closed, SomeAdded, none-added, some-added, close-sound, add-some-sound, closing}
use Rattle.sound.proofs.SoundItems.{Listed, listed, list-flags}
use Rattle.sound.proofs.SoundNames.{Rowing}
use Rattle.sound.proofs.SoundTypes.{atoms-sound, params-sound, closure-params-sound, returns-sound}
use Rattle.sound.proofs.SoundEffects.{Becomes, becomes}
use Rattle.sound.proofs.SoundBody.{block-sound}
use Rattle.sound.proofs.SoundUnder.{joined-under}

-- the parameters of a function or of a closure
pub any-params-sound : (e : Sheet) (d : ℕ) (closure : Bool) → Sound e (Listed e.text (Params closure) no_kids) (any_params e (atoms e d) closure)
unfolding any_params
any-params-sound e d true = closure-params-sound e d (atoms-sound e d) no_kids
any-params-sound e d false = params-sound e d (atoms-sound e d) no_kids

module _ (e : Sheet) (d : ℕ) (bodies : (end : ℕ) → Sound e (Rowing e.text (Exprs end) no_kids) ((levels e d).exprs end)) where
  module _ (from : ℕ) (closure : Bool) where
    -- the record of a function over what was read of it
    abbrev FunctionOf : Row → ℕ → Kids → Claim ℕ
    FunctionOf i link two = Closed (function_kind closure) from 0 0 (flagged i.kids.count 0 (is_ended i.ended) (ltb 0 link)) two.first

    -- its shape, by the shapes of the type and of the body
    shaped : {p q r s : Place} {g h : Shape} (b : Derives e.text (Params closure) p q) (c : Derives e.text Returns q r) (k : Derives e.text Block r s) → shape c 0 blank ≡ g → shape k 0 blank ≡ h
        → shape (function_of b c k) from blank ≡ signature (function_kind closure) from s (shape b 0 blank) g h.row
    unfolding shape
    shaped {s = q} b c k s y = λ j. signature (function_kind closure) from q (shape b 0 blank) (s j) (y j).row

    -- the returned type joins the row when the body stands on the stack already
    function-read : {u v w x y z t : Spot} {i : Row} {link body c : ℕ} {one two : Kids} → Listed e.text (Params closure) no_kids u v i → Optional e.text Returns v w link → Value e.text Block w x body → SomeAdded i.kids link x y one → Added one body y z two
        → FunctionOf i link two z t c → Becomes e.text (Function closure) from (λ q f. f) u t c
    unfolding join
    function-read {u = u} {t = t} {c = d} (listed {j = i} b f) (some-value (value {a = a} c s g)) (value {q = q} {a = body} k y h) some-added x v =
        adding (λ z two. FunctionOf i a two z t d → Becomes e.text (Function closure) from (λ q f. f) u t d) x (λ z. closing (Becomes e.text (Function closure) from (λ q f. f) _) z (λ o.
        becomes (function_of b c k) (shaped b c k s y) (λ es st.
        let p = f _ 0 none es refl (begin st) in
        let t = g _ p.stack in
        relabel (ap (λ z. labelled (function_kind closure) from 0 0 z q) (list-flags (ltb 0 a) p ∙ ap (λ z. flagged (shape b 0 blank).count 0 (is_ended (shape b 0 blank).last) z) (lt-ltb 0 a (link-some t))))
        (wrapped _ (retree (join-assoc (shape b 0 blank).row _ _) (joined (added i.kids a) body (joined-under i.kids a (h _ t)))) o)))) v
    function-read {u = u} {t = t} {c = d} (listed {j = i} b f) (some-value (value c s g)) (value k y h) none-added x v =
        adding (λ z two. FunctionOf i 0 two z t d → Becomes e.text (Function closure) from (λ q f. f) u t d) x (λ z. closing (Becomes e.text (Function closure) from (λ q f. f) _) z (λ o.
        becomes {last = 0} (function_of b c k) (shaped b c k s y) (λ es st. absurd (unlinked (g _ (f _ 0 none es refl (begin st)).stack))))) v
    function-read {u = u} {t = t} {c = d} (listed {j = i} b f) (no_value c s) (value {q = q} {a = body} k y h) none-added x v =
        adding (λ z two. FunctionOf i 0 two z t d → Becomes e.text (Function closure) from (λ q f. f) u t d) x (λ z. closing (Becomes e.text (Function closure) from (λ q f. f) _) z (λ o.
        becomes (function_of b c k) (shaped b c k s y) (λ es st.
        let p = f _ 0 none es refl (begin st) in
        relabel (ap (λ z. labelled (function_kind closure) from 0 0 z q) (list-flags false p)) (wrapped _ (joined i.kids body (h _ p.stack)) o)))) v

    -- parse_function, and the same of a closure
    pub function-sound : Sound e (Becomes e.text (Function closure) from (λ q f. f)) (function (levels e d) from closure)
    unfolding function function_record
    function-sound = maps e (λ u v a c. go c) (binds e (any-params-sound e d closure) (λ i. binds e (returns-sound e d (atoms-sound e d)) (λ link. binds e (block-sound e d bodies) (λ body.
        binds e (add-some-sound e i.kids link) (λ one. binds e (add-sound e one body) (λ two. close-sound e (function_kind closure) from 0 0 _ two.first))))))
      where
        go : {u v : Spot} {a : ℕ} → Seq (Listed e.text (Params closure) no_kids) (λ i. Seq (Optional e.text Returns) (λ link. Seq (Value e.text Block) (λ body. Seq (SomeAdded i.kids link) (λ one. Seq (Added one body) (λ two. FunctionOf i link two))))) u v a
            → Becomes e.text (Function closure) from (λ q f. f) u v a
        go (i ▸ r ▸ b ▸ k ▸ o ▸ c) = function-read i r b k o c

  -- the expression over a function without a name
  abbrev FnOf : ℕ → ℕ → Claim ℕ
  FnOf from f = Seq (SomeAdded no_kids 0) (λ one. Seq (Added one f) (λ two. Closed node.Fn from 0 0 (flagged 0 0 false false) two.first))

  fn-of-sound : (from f : ℕ) → Sound e (FnOf from f) (fn_record from None no_link f)
  unfolding fn_record
  fn-of-sound from f = binds e (add-some-sound e no_kids 0) (λ one. binds e (add-sound e one f) (λ two. close-sound e node.Fn from 0 0 _ two.first))

  -- `fn`, a closure and `do`
  abbrev pub FnExpr : ℕ → Claim ℕ
  FnExpr from = Seq Bumped (λ _. Seq (Becomes e.text (Function false) from (λ q f. f)) (λ f. FnOf from f))

  abbrev pub ClosureExpr : ℕ → Claim ℕ
  ClosureExpr from = Seq (Becomes e.text (Function true) from (λ q f. f)) (λ f. FnOf from f)

  abbrev pub DoExpr : ℕ → Claim ℕ
  DoExpr from = Seq Bumped (λ _. Seq (Value e.text Block) (λ body. Seq (Closed node.Do from 0 0 0 body) (λ f. FnOf from f)))

  pub fn-sound : (from : ℕ) → Sound e (FnExpr from) (fn_expr (levels e d) from)
  unfolding fn_expr
  fn-sound from = binds e (bump-sound e) (λ _. binds e (function-sound from false) (λ f. fn-of-sound from f))

  pub closure-sound : (from : ℕ) → Sound e (ClosureExpr from) (closure_expr (levels e d) from)
  unfolding closure_expr
  closure-sound from = binds e (function-sound from true) (λ f. fn-of-sound from f)

  pub do-sound : (from : ℕ) → Sound e (DoExpr from) (do_expr (levels e d) from)
  unfolding do_expr
  do-sound from = binds e (bump-sound e) (λ _. binds e (block-sound e d bodies) (λ body. binds e (close-sound e node.Do from 0 0 0 body) (λ f. fn-of-sound from f)))

  pub fn-read : {p : Place} {n a : ℕ} {xs : List ℕ} {v : Spot} → Here kind.Fn p → FnExpr (start_of p) (at p n xs) v a → Value e.text (Atom Other) (at p n xs) v a
  unfolding shape join
  fn-read {p} h (bumped t ▸ becomes b s f ▸ none-added ▸ added-to {p = q} ▸ c) = closing (Value e.text (Atom Other) _) c (λ o.
      value (fn-expr (record { here = h.stands; next = t }) b) (λ j. fn_over (start_of p) q None none (s j)) (λ es st. wrapped _ (as_row (f es st)) o))

  pub closure-read : {p : Place} {n a : ℕ} {xs : List ℕ} {v : Spot} → ClosureExpr (start_of p) (at p n xs) v a → Value e.text (Atom Other) (at p n xs) v a
  unfolding shape join
  closure-read {p} (becomes b s f ▸ none-added ▸ added-to {p = q} ▸ c) = closing (Value e.text (Atom Other) _) c (λ o. value (closure-expr b) (λ j. fn_over (start_of p) q None none (s j)) (λ es st. wrapped _ (as_row (f es st)) o))

  pub do-read : {p : Place} {n a : ℕ} {xs : List ℕ} {v : Spot} → Here kind.Do p → DoExpr (start_of p) (at p n xs) v a → Value e.text (Atom Other) (at p n xs) v a
  unfolding shape join
  do-read {p} h (bumped t ▸ value b s f ▸ closed {p = r} k ▸ none-added ▸ added-to {p = q} ▸ c) = closing (Value e.text (Atom Other) _) c (λ o.
      value (do-expr (record { here = h.stands; next = t }) b) (λ j. fn_over (start_of p) q None none (over node.Do (start_of p) q (s j))) (λ es st. wrapped _ (as_row (wrapped _ (as_row (f es st)) k)) o))
