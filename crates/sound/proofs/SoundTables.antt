-- What `{` opens where an expression may begin: parse_table_key_and_colon, parse_table_property, tables and blocks. That the attempt at a key touches no
-- record which was there before is handed over.
use mathlib.Core.Path.{◌≡◌, refl, ap}
use mathlib.Core.List.{List, ◌∷◌}
use mathlib.Core.Bool.{Bool, true, false}
use Prim.Native.Nat.{ℕ, suc, ◌+◌, ◌*◌, ◌≤◌}
use lib.ListN.{length}
use Rattle.kinds.specs.Number as kind
use Rattle.cursor.specs.declared.State.{State}
use Rattle.cursor.specs.declared.Kids.{Kids}
use Rattle.cursor.specs.declared.Label.{Label}
use Rattle.cursor.specs.Layout.{node_words}
use Rattle.cursor.specs.Node as node
use Rattle.cursor.specs.Sheet.{Sheet}
use Rattle.cursor.specs.Records.{write, no_kids, flagged}
use Rattle.cursor.specs.Tree.{Trees, none, join, tree}
use Rattle.cursor.proofs.Keeps.{mark, Keeps, Plain}
use Rattle.cursor.proofs.Stack.{Entry, whole, Stack}
use Rattle.cursor.proofs.Grows.{begin, as_row}
use Rattle.parts.specs.Values.{row_with}
use Rattle.parts.specs.Records.{list_record, block_record, wrapped as wrapped-rule}
use Rattle.parts.specs.Steps.{lit_key, paren_key_at, paren_key, items_end}
use Rattle.rules.specs.Inner.{expr}
use Rattle.rules.specs.Levels.{levels}
use Rattle.rules.specs.Tables.{key, property as property-rule, item, items_of, table as table-rule, brace_block, table_or_block, brace}
use Rattle.rules.proofs.Takes.{until-turn-takes}
use Rattle.grammar.specs.Places.{Place, start_of, Tok, Here}
use Rattle.grammar.specs.Symbols.{Other, Eols, Until, NoLast, Lit, Exprs, Atom, Key, Property, Expr as Whole}
use Rattle.grammar.specs.Derives.{Derives, until-of, items-end, items-final, items-comma, table, block-expr, property, paren-key, literal-key}
use Rattle.grammar.specs.Builders.{blank, only, more as longer, over, couple, row_over}
use Rattle.grammar.specs.Shape.{shape}
use Rattle.sound.proofs.Sound.{Spot, at, Claim, Seq, ◌▸◌, Gave, gave, If, Else, stayed, undone, Sound, gives, maps, reads, ifs, binds, attempts}
use Rattle.sound.proofs.SoundSteps.{Bumped, bumped, Took, took, Ate, yes-ate, not-ate, Lined, lined, Appended, appended, append-sound, bump-sound, eat-sound, expect-sound, eat-eol-sound}
use Rattle.sound.proofs.SoundValues.{Value, value, wrapped, relabel, Started, started, labelled, Closed, closed, Paired, paired, start-sound, close-sound, pair-sound, lit-sound, closing}
use Rattle.sound.proofs.SoundItems.{Listed, listed, word_flags, until-sound}
use Rattle.sound.proofs.SoundNames.{Rowing}

-- a colon, and the record of a key in parentheses, which ends before it
data Keyed (from link : ℕ) : Spot → Spot → ℕ → Type 0 where
  keyed : {p q : Place} {n : ℕ} {xs : List ℕ} → Tok kind.Colon p q → node_words * suc n ≤ length xs → Keyed from link (at p n xs) (at q (n + 1) (write xs n (labelled node.Paren from 0 0 0 p) link)) (n + 1)

-- what holds of the spot behind that record and of its link holds where a rule has read the colon
keying : {from link n a : ℕ} {p : Place} {xs : List ℕ} {v : Spot} (P : Spot → ℕ → Type 0) → Keyed from link (at p n xs) v a
    → ((q : Place) → Tok kind.Colon p q → node_words * suc n ≤ length xs → P (at q (n + 1) (write xs n (labelled node.Paren from 0 0 0 p) link)) (n + 1)) → P v a
keying P (keyed t o) f = f _ t o

keyed-sound : (e : Sheet) (from link : ℕ) → Sound e (Keyed from link) (paren_key_at e from link)
unfolding paren_key_at
keyed-sound e from link = record { ends = λ s w h. reads e (binds e (expect-sound e kind.Colon) (λ _. append-sound e _ link)) h (λ v a c. go c) }
  where
    go : {p : Place} {n a : ℕ} {xs : List ℕ} {v : Spot} → Seq (Took kind.Colon) (λ _. Appended (labelled node.Paren from 0 0 0 p) link) (at p n xs) v a → Keyed from link (at p n xs) v a
    go (took t ▸ appended o) = keyed t o

module _ (e : Sheet) (d : ℕ) (exprs : (lambda : Bool) → Sound e (Value e.text (Whole lambda)) (expr (levels e d) lambda)) where
  -- parse_table_key_and_colon
  pub key-sound : Sound e (Value e.text Key) (key (levels e d))
  unfolding key paren_key lit_key shape
  key-sound = maps e (λ u v a c. go c) (binds e (start-sound e) (λ from. binds e (eat-sound e kind.OpenParen) (λ b. ifs e b
      (binds e (exprs true) (λ link. binds e (expect-sound e kind.CloseParen) (λ _. keyed-sound e from link))) (binds e (lit-sound e) (λ link. binds e (expect-sound e kind.Colon) (λ _. gives e))))))
    where
      go : {u v : Spot} {a : ℕ} → Seq Started (λ from. Seq (Ate kind.OpenParen) (λ b. If b (Seq (Value e.text (Whole true)) (λ link. Seq (Took kind.CloseParen) (λ _. Keyed from link))) (Seq (Value e.text Lit) (λ link. Seq (Took kind.Colon) (λ _. Gave link))))) u v a
          → Value e.text Key u v a
      go (started {p = p} ▸ yes-ate t ▸ value b s f ▸ took {q = q} c ▸ u) = keying (Value e.text Key _) u (λ r k o. value (paren-key t b c k) (λ i. over node.Paren (start_of p) q (s i)) (λ es st. wrapped _ (as_row (f es st)) o))
      go (started ▸ not-ate n ▸ value b s f ▸ took c ▸ gave) = value (literal-key b c) s f

  -- parse_table_property
  pub property-sound : Sound e (Value e.text Property) (property-rule (levels e d))
  unfolding property-rule shape
  property-sound = maps e (λ u v a c. go c) (binds e (start-sound e) (λ from. binds e key-sound (λ name. binds e (exprs true) (λ val. pair-sound e node.TableProperty from name val))))
    where
      go : {u v : Spot} {a : ℕ} → Seq Started (λ from. Seq (Value e.text Key) (λ name. Seq (Value e.text (Whole true)) (λ val. Paired node.TableProperty from name val))) u v a → Value e.text Property u v a
      go (started {p = p} ▸ value b s f ▸ value c y g ▸ paired {p = q} h) = value (property b c) (λ i. couple node.TableProperty (start_of p) q (s i) (y i)) (λ es st. h _ _ _ _ _ _ es (g _ (as_row (f es st))))

  -- the items of calls, lists and tables
  pub arguments_sound : (kids : Kids) → Sound e (Listed e.text (Until (Whole true) NoLast kind.CloseParen) kids) (items_of (levels e d) 0 kids)
  unfolding items_of item items_end
  arguments_sound kids = until-sound e (Whole true) NoLast kind.CloseParen _ (until-turn-takes e d 0 kind.CloseParen) (exprs true) kids

  pub elements-sound : (kids : Kids) → Sound e (Listed e.text (Until (Whole true) NoLast kind.CloseBracket) kids) (items_of (levels e d) 1 kids)
  unfolding items_of item items_end
  elements-sound kids = until-sound e (Whole true) NoLast kind.CloseBracket _ (until-turn-takes e d 1 kind.CloseBracket) (exprs true) kids

  pub properties-sound : (kids : Kids) → Sound e (Listed e.text (Until Property NoLast kind.CloseBrace) kids) (items_of (levels e d) 2 kids)
  unfolding items_of item items_end
  properties-sound kids = until-sound e Property NoLast kind.CloseBrace _ (until-turn-takes e d 2 kind.CloseBrace) property-sound kids

  module _ (from : ℕ) where
    -- a table from behind its first key on
    abbrev TableFrom : ℕ → ℕ → Claim ℕ
    TableFrom inside first = Seq (Value e.text (Whole true)) (λ val. Seq (Paired node.TableProperty inside first val) (λ link. Seq (Lined e.text) (λ _. Seq (Ate kind.CloseBrace) (λ b. If b (Closed node.Table from 0 0 1 link)
        (Seq (Took kind.Comma) (λ _. Seq (Listed e.text (Until Property NoLast kind.CloseBrace) (row_with link)) (λ i. Closed node.Table from 0 0 (flagged i.kids.count 0 false false) i.kids.first)))))))

    table-sound : (inside first : ℕ) → Sound e (TableFrom inside first) (table-rule (levels e d) from inside first)
    unfolding table-rule list_record
    table-sound inside first = binds e (exprs true) (λ val. binds e (pair-sound e node.TableProperty inside first val) (λ link. binds e (eat-eol-sound e) (λ _. binds e (eat-sound e kind.CloseBrace) (λ b. ifs e b (close-sound e node.Table from 0 0 1 link)
        (binds e (expect-sound e kind.Comma) (λ _. binds e (properties-sound (row_with link)) (λ i. close-sound e node.Table from 0 0 (flagged i.kids.count 0 false false) i.kids.first)))))))

    -- the whole of it, from the brace and Eols before it on
    table-read : {p q r s : Place} {n m a c last : ℕ} {xs ys : List ℕ} {l : Label} {ks : Trees} {v : Spot} → from ≡ start_of p → Tok kind.OpenBrace p q → Derives e.text Eols q r → (b : Derives e.text Key r s) → shape b 0 blank ≡ only (tree l ks)
        → ((es : List Entry) → Stack xs n es → Stack ys m (whole n a last l ks ∷ es)) → TableFrom (start_of r) a (at s m ys) v c → Value e.text (Atom Other) (at p n xs) v c
    unfolding shape join
    table-read {p} {r = r} u t o b s f (value c y g ▸ paired {p = q} h ▸ lined w ▸ yes-ate {q = x} z ▸ v) = closing (Value e.text (Atom Other) _) v (λ k.
        value (table t (until-of o (items-final (property b c) w z))) (λ i. row_over node.Table (start_of p) x (longer blank (couple node.TableProperty (start_of r) q (s i) (y i))))
        (λ es st. relabel (ap (λ j. labelled node.Table j 0 0 1 x) u) (wrapped _ (as_row (h _ _ _ _ _ _ es (g _ (as_row (f es st))))) k)))
    table-read {p} {r = r} u t o b s f (value c y g ▸ paired {p = q} h ▸ lined w ▸ not-ate n ▸ took z ▸ listed {q = x} (until-of i j) k ▸ v) = closing (Value e.text (Atom Other) _) v (λ m.
        value (table t (until-of o (items-comma (property b c) w z i j))) (λ i. row_over node.Table (start_of p) x (shape j 0 (longer blank (couple node.TableProperty (start_of r) q (s i) (y i)))))
        (λ es st.
        let a = k _ 1 _ es refl (as_row (h _ _ _ _ _ _ es (g _ (as_row (f es st))))) in
        relabel (λ i. labelled node.Table (u i) 0 0 (word_flags _ false false a.count i) x) (wrapped _ a.stack m)))

  module _ (bodies : (end : ℕ) → Sound e (Rowing e.text (Exprs end) no_kids) ((levels e d).exprs end)) (kept : (s : State) → Keeps (mark s) Plain (key (levels e d))) where
    abbrev BlockFrom : ℕ → ℕ → Claim ℕ
    BlockFrom from inside = Seq (Rowing e.text (Exprs kind.CloseBrace) no_kids) (λ k. Seq (Closed node.Block inside 0 0 (flagged k.count 0 false false) k.first) (λ link. Closed node.ExprBlock from 0 0 0 link))

    -- behind the brace: nothing, a table, or where no key stands a block
    abbrev pub Braced : ℕ → Claim ℕ
    Braced from = Seq Bumped (λ _. Seq (Lined e.text) (λ _. Seq (Ate kind.CloseBrace) (λ b. If b (Closed node.Table from 0 0 0 0) (Seq Started (λ inside. Else (Seq (Value e.text Key) (λ first. TableFrom from inside first)) (BlockFrom from inside))))))

    pub brace-sound : (from : ℕ) → Sound e (Braced from) (brace (levels e d) from)
    unfolding brace table_or_block brace_block block_record wrapped-rule
    brace-sound from = binds e (bump-sound e) (λ _. binds e (eat-eol-sound e) (λ _. binds e (eat-sound e kind.CloseBrace) (λ b. ifs e b (close-sound e node.Table from 0 0 0 0) (binds e (start-sound e) (λ inside.
        attempts e kept key-sound (λ first. table-sound from inside first)
        (binds e (bodies kind.CloseBrace) (λ k. binds e (close-sound e node.Block inside 0 0 (flagged k.count 0 false false) k.first) (λ link. close-sound e node.ExprBlock from 0 0 0 link))))))))

    pub brace-read : {p : Place} {n a : ℕ} {xs : List ℕ} {v : Spot} → Here kind.OpenBrace p → Braced (start_of p) (at p n xs) v a → Value e.text (Atom Other) (at p n xs) v a
    unfolding shape
    brace-read h (bumped t ▸ lined o ▸ yes-ate z ▸ closed k) = value (table (record { here = h.stands; next = t }) (until-of o (items-end z))) refl (λ es st. wrapped _ (begin st) k)
    brace-read {p} h (bumped t ▸ lined o ▸ not-ate n ▸ started ▸ stayed (value b s f ▸ c)) = table-read (start_of p) refl (record { here = h.stands; next = t }) o b s f c
    brace-read {p} h (bumped t ▸ lined o ▸ not-ate n ▸ started {p = q} ▸ undone keep (listed b f ▸ closed {p = r} k ▸ v)) = closing (Value e.text (Atom Other) _) v (λ m.
        value (block-expr (record { here = h.stands; next = t }) o n b) refl
        (λ es st.
        let g = f _ 0 none es refl (begin (keep es st)) in
        wrapped _ (as_row (relabel (ap (λ z. labelled node.Block (start_of q) 0 0 z r) (word_flags _ false false g.count)) (wrapped _ g.stack k))) m))
