-- Unary forms: parse_expr_unary. The handlers of a `try` join the Call's record late, behind its last child.
use mathlib.Core.Path.{◌≡◌, refl, sym, ap, ◌∙◌, subst}
use mathlib.Core.List.{List, [], ◌∷◌}
use mathlib.Core.Bool.{Bool, true, false, true≢false}
use Prim.Native.Nat.{ℕ, zero, suc, ◌+◌, ◌*◌, ◌^◌, ◌<◌}
use native.Mathlib.Omega.{arith}
use Rattle.kinds.specs.Number as kind
use Rattle.cursor.specs.declared.Kids.{Kids}
use Rattle.cursor.specs.declared.Label.{Label}
use Rattle.cursor.specs.declared.Span.{Span}
use Rattle.cursor.specs.Node as node
use Rattle.cursor.specs.Sheet.{Sheet, kind_at}
use Rattle.cursor.specs.Rule.{world, Next, more, stop}
use Rattle.cursor.specs.Records.{word32, bit, flagged}
use Rattle.cursor.specs.Tree.{Trees, none, join, tree}
use Rattle.cursor.specs.Tree as trees
use Rattle.cursor.proofs.Ends.{ill}
use Rattle.cursor.proofs.Laws.{join-none, join-assoc}
use Rattle.cursor.proofs.Finished.{Built, built, nil, snoc}
use Rattle.cursor.proofs.RecordPaths.{linked, added}
use Rattle.cursor.proofs.Stack.{Entry, whole, Stack, push-whole}
use Rattle.cursor.proofs.Grows.{as_row, flagged as relabelled}
use Rattle.cursor.proofs.Stacked.{add-late, reflagged, reflag-stack}
use Rattle.types.specs.Items.{is_ended}
use Rattle.parts.specs.declared.values.Called.{Called}
use Rattle.parts.specs.declared.values.Expr.{Expr}
use Rattle.parts.specs.declared.values.Expr.TheVariants as exprs
use Rattle.parts.specs.Values.{link_of, row_of}
use Rattle.parts.specs.Records.{handler_record, handlers_flagged}
use Rattle.rules.specs.Blocks.{block}
use Rattle.rules.specs.Atoms.{primary}
use Rattle.rules.specs.Precedence.{handler, handler_turn, tried_by, tried as tried-rule, unary_op as negated-rule, unary_cases, unary}
use Rattle.rules.specs.Levels.{levels}
use Rattle.rules.proofs.Takes.{handler-turn-takes}
use Rattle.grammar.specs.Places.{Place, kind_of, start_of, Tok}
use Rattle.grammar.specs.Symbols.{Call, Ident, Block, Params, Unary, Handler, Handlers, Primary}
use Rattle.grammar.specs.Derives.{Derives, not-expr, neg-expr, tried, no-unary, last-handler, more-handlers, handler-of}
use Rattle.grammar.specs.Builders.{Shape, blank, only, some, made, more as longer, handler_over, handled}
use Rattle.grammar.specs.Shape.{shape}
use Rattle.sound.proofs.Links.{kind-place}
use Rattle.sound.proofs.Sound.{Spot, at, Claim, Seq, ◌▸◌, Gave, gave, answer, not-both, If, Nothing, Star, halt, turn, came-refl, Sound, gives, maps, reads, ifs, binds, loops, going}
use Rattle.sound.proofs.SoundSteps.{Bumped, bumped, Took, took, Saw, yes-saw, not-saw, Way, this-one, later-one, Added, added-to, Reflagged, flags_of, add-sound, reflag-sound, bump-sound, check_sound, expect-sound, way, otherwise, chooses}
use Rattle.sound.proofs.SoundValues.{Value, value, wrapped, joined, relabel, retree, Started, started, labelled, Closed, closed, start-sound, close-sound, ident-sound, closing}
use Rattle.sound.proofs.SoundItems.{sofar, as-shape, Listed, listed, list-flags, word_more}
use Rattle.sound.proofs.ListShape.{behind-none, params-behind}
use Rattle.sound.proofs.SoundTypes.{atoms-sound, params-sound}
use Rattle.sound.proofs.SoundExprs.{fits-other, call_fits, Held, Expressed, expressed}

-- a tree that has children has a last one
childless : {xs : List ℕ} {lo hi root : ℕ} {l : Label} {ks : Trees} → Built xs lo hi root 0 l ks → ks ≡ none
unfolding join
childless (built e q (nil h) (nil o) z u) = u
childless (built e q (snoc _ _ _ _) x z u) = elim x [ ]

last_some : {xs : List ℕ} {n lo root last : ℕ} {l : Label} {ks : Trees} {es : List Entry} → some ks ≡ true → Stack xs n (whole lo root last l ks ∷ es) → 0 < last
last_some {last = zero} h (push-whole s b z r) = absurd (true≢false (sym h ∙ ap some (childless b)))
last_some {last = suc i} h st = omega arith

some-join : (t u : Trees) → some t ≡ true → some (join t u) ≡ true
unfolding join
some-join none u h = absurd (true≢false (sym h))
some-join (trees.node l ks ts) u h = refl

-- a late child, and other flags, on a stack
late : {xs : List ℕ} {n lo mid root last : ℕ} {l i : Label} {ks js : Trees} {es : List Entry} (k : Kids) (link : ℕ) → some ks ≡ true → Stack xs n (whole mid link last i js ∷ whole lo root k.last l ks ∷ es) → 0 < k.last → Stack (linked xs k.last link) n (whole lo root link l (join ks (tree i js)) ∷ es)
late {xs} {n} k link h st o = (add-late k link (record { at = 0; prev = 0; reads = 0; nodes = n; errors = 0; wanted = 0; live = 0 }) (world xs [] [] []) o st).stack

reflags : {xs : List ℕ} {n lo link last : ℕ} {l : Label} {ks : Trees} {es : List Entry} (flags : ℕ) → Stack xs n (whole lo link last l ks ∷ es) → Stack (reflagged xs link flags) n (whole lo link last (relabelled l flags) ks ∷ es)
reflags {xs} {n} {link = link} flags st = (reflag-stack link flags (record { at = 0; prev = 0; reads = 0; nodes = n; errors = 0; wanted = 0; live = 0 }) (world xs [] [] []) st).stack

rekids : {xs : List ℕ} {n lo root last : ℕ} {l : Label} {ks js : Trees} {es : List Entry} → ks ≡ js → Stack xs n (whole lo root last l ks ∷ es) → Stack xs n (whole lo root last l js ∷ es)
rekids {xs} {n} {lo} {root} {last} {l} {es = es} q st = subst (λ z. Stack xs n (whole lo root last l z ∷ es)) q st

-- a Call's flags with its handlers counted
call_flags : {f k : ℕ} (a c : ℕ) (lambda : Bool) → f ≡ flagged a 0 lambda false → k ≡ word32 c → flagged a k lambda false ≡ word32 (f + 2 ^ 15 * c)
call_flags a c lambda p q = go (bit lambda) p q
  where
    go : {f k : ℕ} (b : ℕ) → f ≡ word32 (a + 2 ^ 15 * 0 + 2 ^ 30 * b + 2 ^ 31 * 0) → k ≡ word32 c → word32 (a + 2 ^ 15 * k + 2 ^ 30 * b + 2 ^ 31 * 0) ≡ word32 (f + 2 ^ 15 * c)
    go b p q = omega (arith, p, q)

-- handlers that have joined a tree on the stack
record LateOn (ys : List ℕ) (m lo root : ℕ) (k : Kids) (l : Label) (ks : Trees) (f : Shape) (es : List Entry) : Type 0 where
  stack : Stack ys m (whole lo root k.last l (join ks f.row) ∷ es)
  count : k.count ≡ word32 f.count

late-as : {ys : List ℕ} {m lo root : ℕ} {k : Kids} {l : Label} {ks : Trees} {f g : Shape} {es : List Entry} → f ≡ g → LateOn ys m lo root k l ks f es → LateOn ys m lo root k l ks g es
late-as {ys} {m} {lo} {root} {k} {l} {ks} {es = es} q r = subst (λ z. LateOn ys m lo root k l ks z es) q r

data Lated (text : List ℕ) (kids : Kids) : Spot → Spot → Kids → Type 0 where
  lated : {p q : Place} {n m : ℕ} {xs ys : List ℕ} {k : Kids} (d : Derives text Handlers p q)
      → ((lo root c : ℕ) (l : Label) (ks ts : Trees) (es : List Entry) → some ks ≡ true → kids.count ≡ word32 c → Stack xs n (whole lo root kids.last l (join ks ts) ∷ es) → LateOn ys m lo root k l ks (shape d 0 (sofar ts c)) es)
      → Lated text kids (at p n xs) (at q m ys) k

module _ (e : Sheet) (d : ℕ) (blocks : Sound e (Value e.text Block) (block (levels e d) 0)) where
  handler-sound : Sound e (Value e.text Handler) (handler (levels e d))
  unfolding handler handler_record shape
  handler-sound =
      maps e (λ u v a c. go c) (binds e (start-sound e) (λ from. binds e (expect-sound e kind.With) (λ _. binds e (ident-sound e) (λ name. binds e (params-sound e d (atoms-sound e d) (row_of name)) (λ i. binds e blocks (λ body.
      binds e (add-sound e i.kids body) (λ all. close-sound e node.EffectHandler from 0 0 _ all.first)))))))
    where
      go : {u v : Spot} {a : ℕ} → Seq Started (λ from. Seq (Took kind.With) (λ _. Seq (Value e.text Ident) (λ name. Seq (Listed e.text (Params false) (row_of name)) (λ i. Seq (Value e.text Block) (λ body. Seq (Added i.kids body) (λ all.
          Closed node.EffectHandler from 0 0 (flagged i.kids.count 0 (is_ended i.ended) false) all.first)))))) u v a → Value e.text Handler u v a
      go (started {p = p} ▸ took t ▸ value {l = l} {ks = ks} b s f ▸ listed {j = i} c g ▸ value {a = a} k y h ▸ added-to {p = q} ▸ u) = closing (Value e.text Handler _) u (λ o.
          value (handler-of t b c k) (λ j. handler_over (start_of p) q (s j) (shape c 0 blank) (y j))
          (λ es st.
          let r = as-shape (params-behind c (tree l ks) 0 ∙ behind-none (tree l ks) (shape c 0 blank)) (g _ 0 _ es refl (as_row (f es st))) in
          relabel (ap (λ z. labelled node.EffectHandler (start_of p) 0 0 z q) (list-flags false r)) (wrapped _ (retree (join-assoc (tree l ks) (shape c 0 blank).row _) (joined i.kids a (h _ r.stack))) o)))

  -- handlers in a row
  abbrev HandlerTurn : Kids → Claim (Next Kids)
  HandlerTurn kids = Seq (Value e.text Handler) (λ link. Seq (Added kids link) (λ all. Seq (Saw kind.With) (λ b. If b (Gave (more all)) (Gave (stop all)))))

  handler-turn-sound : (kids : Kids) → Sound e (HandlerTurn kids) (handler_turn (levels e d) kids)
  unfolding handler_turn
  handler-turn-sound kids = binds e handler-sound (λ link. binds e (add-sound e kids link) (λ all. binds e (check_sound e kind.With) (λ b. ifs e b (gives e) (gives e))))

  -- one more behind the last child
  one-late : {xs ys : List ℕ} {n m lo root a last : ℕ} {l i : Label} {js : Trees} {es : List Entry} (kids : Kids) (ks ts : Trees) → some ks ≡ true → ((es : List Entry) → Stack xs n es → Stack ys m (whole n a last i js ∷ es))
      → Stack xs n (whole lo root kids.last l (join ks ts) ∷ es) → Stack (linked ys kids.last a) m (whole lo root a l (join ks (join ts (tree i js))) ∷ es)
  one-late {a = a} {i = i} {js = js} kids ks ts h f st = rekids (join-assoc ks ts (tree i js)) (late kids a (some-join ks ts h) (f _ st) (last_some (some-join ks ts h) st))

  and-handler : {p q : Place} {n m a last : ℕ} {xs ys : List ℕ} {l : Label} {ks : Trees} {v : Spot} {k : Kids} (kids : Kids) (b : Derives e.text Handler p q) → shape b 0 blank ≡ only (tree l ks)
      → ((es : List Entry) → Stack xs n es → Stack ys m (whole n a last l ks ∷ es)) → Lated e.text (added kids a) (at q m (linked ys kids.last a)) v k → Lated e.text kids (at p n xs) v k
  unfolding shape
  and-handler kids b s f (lated c g) = lated (more-handlers b c) (λ lo root o l ks ts es h u st.
      late-as (ap (λ z. shape c 0 (longer (sofar ts o) z)) (sym s)) (g lo root (o + 1) l ks _ es h (word_more o u) (one-late kids ks ts h f st)))

  handlers-read : {u v : Spot} {kids k : Kids} → Star HandlerTurn kids u v k → Lated e.text kids u v k
  unfolding shape
  handlers-read {kids = kids} (halt (value b s f ▸ added-to ▸ not-saw n ▸ gave)) = lated (last-handler b n) (λ lo root o l ks ts es h u st.
      late-as (ap (λ z. longer (sofar ts o) z) (sym s)) (record { stack = one-late kids ks ts h f st; count = word_more o u }))
  handlers-read {kids = kids} (turn (value b s f ▸ added-to ▸ yes-saw n ▸ gave) r) = and-handler kids b s f (handlers-read r)
  handlers-read (halt (v ▸ added-to ▸ yes-saw n ▸ g)) = absurd (not-both (answer g))
  handlers-read (turn (v ▸ added-to ▸ not-saw n ▸ g) r) = absurd (not-both (sym (answer g)))

  module _ (primaries : (lambda : Bool) → Sound e (Expressed e.text (Primary lambda)) (primary (levels e d) lambda)) (lambda : Bool) where
    -- `try`, by the form of what it takes
    abbrev TriedBy : Expr → Claim Expr
    TriedBy (exprs.Name link) = Nothing
    TriedBy (exprs.NameMember link) = Nothing
    TriedBy (exprs.Call link called) = Seq (Star HandlerTurn called.kids) (λ kids. Seq (Reflagged link (flagged called.arguments kids.count called.lambda false)) (λ _. Gave (exprs.Other link)))
    TriedBy (exprs.Other link) = Nothing

    tried-by-sound : (here : Span) (x : Expr) → Sound e (TriedBy x) (tried_by (levels e d) here x)
    unfolding tried_by handlers_flagged
    tried-by-sound here (exprs.Name link) = record { ends = λ s w h. ill (came-refl e h) }
    tried-by-sound here (exprs.NameMember link) = record { ends = λ s w h. ill (came-refl e h) }
    tried-by-sound here (exprs.Call link called) = binds e (loops e (handler-turn-takes e d) handler-turn-sound called.kids) (λ kids. binds e (reflag-sound e link _) (λ _. gives e))
    tried-by-sound here (exprs.Other link) = record { ends = λ s w h. ill (came-refl e h) }

    abbrev Tried : Claim Expr
    Tried = Seq Bumped (λ _. Seq (Expressed e.text (Primary lambda)) (λ x. TriedBy x))

    tried-sound : Sound e Tried (tried-rule (levels e d) lambda)
    unfolding tried-rule
    tried-sound = record { ends = λ s w h. (binds e (bump-sound e) (λ _. binds e (primaries lambda) (λ x. tried-by-sound _ x))).ends s w h }

    with-handlers : {p q r : Place} {n m link last : ℕ} {xs ys : List ℕ} {called : Called} {l : Label} {ks : Trees} {v w : Spot} {kids : Kids} {z : Expr} → Tok kind.Try p q → (b : Derives e.text (Primary lambda Call) q r) → shape b 0 blank ≡ only (tree l ks)
        → ((es : List Entry) → Stack xs n es → Held ys m n last (exprs.Call link called) l ks es) → Lated e.text called.kids (at r m ys) v kids
        → Seq (Reflagged link (flagged called.arguments kids.count called.lambda false)) (λ _. Gave (exprs.Other link)) v w z → Expressed e.text (Unary lambda) (at p n xs) w z
    unfolding shape
    with-handlers {called = called} {l = l} {ks = ks} t b s g (lated k u) (flags_of ▸ o) = going (Expressed e.text (Unary lambda) _) o
        (expressed (tried t b k) (ap (λ z. only (handled z.row (shape k 0 blank))) s)
        (λ es st.
        let i = g es st in
        let c = call_fits i.fits in
        let y = u _ _ 0 l ks none es c.kids c.uncounted (moved (sym c.behind) (rekids (sym (join-none ks)) i.stack)) in
        record { fits = fits-other; stack = relabel (ap (λ z. relabelled l z) (call_flags called.arguments (shape k 0 blank).count called.lambda c.flags y.count)) (reflags _ y.stack) }))
      where
        moved : {xs : List ℕ} {n lo root a b : ℕ} {l : Label} {ks : Trees} {es : List Entry} → a ≡ b → Stack xs n (whole lo root a l ks ∷ es) → Stack xs n (whole lo root b l ks ∷ es)
        moved {xs} {n} {lo} {root} {l = l} {ks} {es} q st = subst (λ z. Stack xs n (whole lo root z l ks ∷ es)) q st

    tried-read : {p : Place} {n : ℕ} {xs : List ℕ} {v : Spot} {z : Expr} → kind_of p ≡ kind.Try → Tried (at p n xs) v z → Expressed e.text (Unary lambda) (at p n xs) v z
    tried-read h (bumped t ▸ expressed {x = exprs.Name link} b s g ▸ c) = absurd c
    tried-read h (bumped t ▸ expressed {x = exprs.NameMember link} b s g ▸ c) = absurd c
    tried-read h (bumped t ▸ expressed {x = exprs.Call link called} b s g ▸ r ▸ c) = with-handlers (record { here = h; next = t }) b s g (handlers-read r) c
    tried-read h (bumped t ▸ expressed {x = exprs.Other link} b s g ▸ c) = absurd c

    -- `not` and `-`: the operator is the token's kind
    data Negating (from : ℕ) : Spot → Spot → Expr → Type 0 where
      negating : {p : Place} {n : ℕ} {xs : List ℕ} {v : Spot} {z : Expr} → Seq Bumped (λ _. Seq (Expressed e.text (Primary lambda)) (λ x. Seq (Closed node.Unary from (kind_of p) 0 0 (link_of x)) (λ link. Gave (exprs.Other link)))) (at p n xs) v z → Negating from (at p n xs) v z

    negating-sound : (from : ℕ) → Sound e (Negating from) (negated-rule (levels e d) from lambda)
    unfolding negated-rule
    negating-sound from = record {
      ends = λ s w h. reads e (binds e (bump-sound e) (λ _. binds e (primaries lambda) (λ x. binds e (close-sound e node.Unary from (kind_at e.tokens s.at) 0 0 (link_of x)) (λ link. gives e)))) h (λ v z c. go _ (kind-place e.tokens s h) c);
    }
      where
        go : {p : Place} {n : ℕ} {xs : List ℕ} {v : Spot} {z : Expr} (k : ℕ) → kind_of p ≡ k → Seq Bumped (λ _. Seq (Expressed e.text (Primary lambda)) (λ x. Seq (Closed node.Unary from k 0 0 (link_of x)) (λ link. Gave (exprs.Other link)))) (at p n xs) v z → Negating from (at p n xs) v z
        go k q c = negating (rw (← q) at c)

    negated-read : {p : Place} {n : ℕ} {xs : List ℕ} {v : Spot} {z : Expr} → kind_of p ≡ kind.Not → Negating (start_of p) (at p n xs) v z → Expressed e.text (Unary lambda) (at p n xs) v z
    unfolding shape
    negated-read {p} h (negating (bumped t ▸ expressed b s g ▸ closed {p = q} o ▸ c)) = going (Expressed e.text (Unary lambda) _) c
        (expressed (not-expr (record { here = h; next = t }) b) (ap (λ z. made node.Unary (start_of p) q kind.Not 0 0 z.row) s) (λ es st. record { fits = fits-other; stack = relabel (ap (λ k. labelled node.Unary (start_of p) k 0 0 q) h) (wrapped _ (as_row (g es st).stack) o) }))

    minus-read : {p : Place} {n : ℕ} {xs : List ℕ} {v : Spot} {z : Expr} → kind_of p ≡ kind.Sub → Negating (start_of p) (at p n xs) v z → Expressed e.text (Unary lambda) (at p n xs) v z
    unfolding shape
    minus-read {p} h (negating (bumped t ▸ expressed b s g ▸ closed {p = q} o ▸ c)) = going (Expressed e.text (Unary lambda) _) c
        (expressed (neg-expr (record { here = h; next = t }) b) (ap (λ z. made node.Unary (start_of p) q kind.Sub 0 0 z.row) s) (λ es st. record { fits = fits-other; stack = relabel (ap (λ k. labelled node.Unary (start_of p) k 0 0 q) h) (wrapped _ (as_row (g es st).stack) o) }))

    -- parse_expr_unary
    pub unary-sound : Sound e (Expressed e.text (Unary lambda)) (unary (levels e d) lambda)
    unfolding unary shape
    unary-sound = maps e (λ u v z c. go c) (binds e (start-sound e) (λ from. chooses e (unary_cases (levels e d) from lambda) (way e (negating-sound from) (way e (negating-sound from) (way e tried-sound (otherwise e (primaries lambda)))))))
      where
        as-it-is : {u v : Spot} {z : Expr} → Expressed e.text (Primary lambda) u v z → Expressed e.text (Unary lambda) u v z
        as-it-is (expressed b s g) = expressed (no-unary b) s g

        go : {u v : Spot} {z : Expr} → Seq Started (λ from. Way kind.Not (Negating from) (Way kind.Sub (Negating from) (Way kind.Try Tried (Expressed e.text (Primary lambda))))) u v z → Expressed e.text (Unary lambda) u v z
        go (started ▸ this-one h c) = negated-read h.stands c
        go (started ▸ later-one _ (this-one h c)) = minus-read h.stands c
        go (started ▸ later-one _ (later-one _ (this-one h c))) = tried-read h.stands c
        go (started ▸ later-one _ (later-one _ (later-one _ c))) = as-it-is c
