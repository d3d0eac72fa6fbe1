-- Each way through the rules on lists of items and on what `{` opens, as the code goes through them.
use mathlib.Core.Path.{◌≡◌, ◌∙◌}
use mathlib.Core.Bool.{true, false}
use Prim.Native.Nat.{ℕ}
use borrow.Author.Tests.{eq-eqb, ne_eqb}
use Rattle.kinds.specs.Number as kind
use Rattle.cursor.specs.declared.State.{State}
use Rattle.cursor.specs.declared.Kids.{Kids}
use Rattle.cursor.specs.Node as node
use Rattle.cursor.specs.Sheet.{range_at}
use Rattle.cursor.specs.Rule.{World, Stop, Out, done, failed, bind, iterate}
use Rattle.cursor.specs.Tokens.{start_of, bump, eat_eol}
use Rattle.cursor.specs.Checks.{eat, expect}
use Rattle.cursor.specs.Attempts.{try_parse}
use Rattle.types.specs.declared.items.Items.{Items}
use Rattle.types.specs.Items.{close, pair, so}
use Rattle.types.proofs.TypePaths.{starts}
use Rattle.parts.specs.Values.{row_with}
use Rattle.rules.specs.Inner.{Inner, expr}
use Rattle.parts.specs.Records.{list_record, block_record}
use Rattle.parts.specs.Recovery.{undone}
use Rattle.parts.specs.Steps.{items_end, lit_key, paren_key}
use Rattle.parts.specs.Until.{until_turn, items_until}
use Rattle.rules.specs.Tables.{key, property, item, items_of, table, brace_block, table_or_block, brace}
use Rattle.parts.proofs.AttemptPaths as attempts

module _ (r : Inner) where
  -- a table's key and its colon, and a property
  module _ (s : State) (w : World) {from : ℕ} (f : from ≡ start_of (range_at r.sheet.tokens s.at)) where
    pub key-full : {x : Stop} → eat r.sheet kind.OpenParen s w ≡ failed x → key r s w ≡ failed x
    unfolding key
    key-full p = rw (starts r.sheet s w f) (rw p)

    pub key-lit : {s1 : State} {w1 : World} → eat r.sheet kind.OpenParen s w ≡ done s1 w1 false → key r s w ≡ lit_key r.sheet s1 w1
    unfolding key
    key-lit p = rw (starts r.sheet s w f) (rw p)

    module _ {s1 : State} {w1 : World} (p : eat r.sheet kind.OpenParen s w ≡ done s1 w1 true) where
      pub key-failed : {x : Stop} → expr r true s1 w1 ≡ failed x → key r s w ≡ failed x
      unfolding key
      key-failed q = rw (starts r.sheet s w f) (rw p (rw q))

      pub key-paren : {link : ℕ} {s2 : State} {w2 : World} → expr r true s1 w1 ≡ done s2 w2 link → key r s w ≡ paren_key r.sheet from link s2 w2
      unfolding key
      key-paren q = rw (starts r.sheet s w f) (rw p (rw q))

    pub property-failed : {x : Stop} → key r s w ≡ failed x → property r s w ≡ failed x
    unfolding property
    property-failed p = rw (starts r.sheet s w f) (rw p)

    module _ {name : ℕ} {s1 : State} {w1 : World} (p : key r s w ≡ done s1 w1 name) where
      pub property-lost : {x : Stop} → expr r true s1 w1 ≡ failed x → property r s w ≡ failed x
      unfolding property
      property-lost q = rw (starts r.sheet s w f) (rw p (rw q))

      pub property-on : {value : ℕ} {s2 : State} {w2 : World} → expr r true s1 w1 ≡ done s2 w2 value → property r s w ≡ pair node.TableProperty from name value s2 w2
      unfolding property
      property-on q = rw (starts r.sheet s w f) (rw p (rw q))

  -- items by their rule, and how a list of them begins
  module _ (k : ℕ) (s : State) (w : World) where
    pub item-property : k ≡ 2 → item r k s w ≡ property r s w
    unfolding item
    item-property p = rw (eq-eqb _ _ p, item)

    pub item-expr : (k ≡ 2 → ⊥) → item r k s w ≡ expr r true s w
    unfolding item
    item-expr p = rw (ne_eqb _ _ p, item)

  module _ (k : ℕ) (kids : Kids) (s : State) (w : World) where
    pub items-spent : {x : Stop} → eat_eol r.sheet s w ≡ failed x → items_of r k kids s w ≡ failed x
    unfolding items_of items_until
    items-spent p = rw p

    pub items-begin : {end : ℕ} {s1 : State} {w1 : World} → end ≡ items_end k → eat_eol r.sheet s w ≡ done s1 w1 tt → items_of r k kids s w ≡ iterate r.sheet (until_turn r.sheet (item r k) end) (so kids) s1 w1
    unfolding items_of items_until
    items-begin q p = rw p (rw q)

  -- a table from behind its first key and colon on
  module _ (from inside first : ℕ) (s : State) (w : World) where
    pub table-failed : {x : Stop} → expr r true s w ≡ failed x → table r from inside first s w ≡ failed x
    unfolding table
    table-failed p = rw p

    module _ {value : ℕ} {s1 : State} {w1 : World} (p : expr r true s w ≡ done s1 w1 value) where
      pub table-full : {x : Stop} → pair node.TableProperty inside first value s1 w1 ≡ failed x → table r from inside first s w ≡ failed x
      unfolding table
      table-full q = rw p (rw q)

      module _ {link : ℕ} {s2 : State} {w2 : World} (q : pair node.TableProperty inside first value s1 w1 ≡ done s2 w2 link) where
        pub table-spent : {x : Stop} → eat_eol r.sheet s2 w2 ≡ failed x → table r from inside first s w ≡ failed x
        unfolding table
        table-spent a = rw p (rw q (rw a))

        module _ {s3 : State} {w3 : World} (a : eat_eol r.sheet s2 w2 ≡ done s3 w3 tt) where
          pub table-lost : {x : Stop} → eat r.sheet kind.CloseBrace s3 w3 ≡ failed x → table r from inside first s w ≡ failed x
          unfolding table
          table-lost b = rw p (rw q (rw a (rw b)))

          pub table-single : {s4 : State} {w4 : World} → eat r.sheet kind.CloseBrace s3 w3 ≡ done s4 w4 true → table r from inside first s w ≡ close node.Table from 0 0 1 link s4 w4
          unfolding table
          table-single b = rw p (rw q (rw a (rw b)))

          module _ {s4 : State} {w4 : World} (b : eat r.sheet kind.CloseBrace s3 w3 ≡ done s4 w4 false) where
            pub table-open : {x : Stop} → expect r.sheet kind.Comma s4 w4 ≡ failed x → table r from inside first s w ≡ failed x
            unfolding table
            table-open c = rw p (rw q (rw a (rw b (rw c))))

            pub table_on : {o : Out Items} {s5 : State} {w5 : World} → expect r.sheet kind.Comma s4 w4 ≡ done s5 w5 tt → o ≡ items_of r 2 (row_with link) s5 w5 → table r from inside first s w ≡ bind o (λ s6 w6 i. list_record node.Table from i s6 w6)
            unfolding table
            table_on c d = rw d (rw p (rw q (rw a (rw b (rw c)))))

  -- what `{` opens
  module _ (from : ℕ) (s : State) (w : World) where
    pub brace-spent : {x : Stop} → bump r.sheet s w ≡ failed x → brace r from s w ≡ failed x
    unfolding brace
    brace-spent p = rw p

    module _ {s1 : State} {w1 : World} (p : bump r.sheet s w ≡ done s1 w1 tt) where
      pub brace-lost : {x : Stop} → eat_eol r.sheet s1 w1 ≡ failed x → brace r from s w ≡ failed x
      unfolding brace
      brace-lost q = rw p (rw q)

      module _ {s2 : State} {w2 : World} (q : eat_eol r.sheet s1 w1 ≡ done s2 w2 tt) where
        pub brace-full : {x : Stop} → eat r.sheet kind.CloseBrace s2 w2 ≡ failed x → brace r from s w ≡ failed x
        unfolding brace
        brace-full a = rw p (rw q (rw a))

        pub brace-empty : {s3 : State} {w3 : World} → eat r.sheet kind.CloseBrace s2 w2 ≡ done s3 w3 true → brace r from s w ≡ close node.Table from 0 0 0 0 s3 w3
        unfolding brace
        brace-empty a = rw p (rw q (rw a))

        module _ {s3 : State} {w3 : World} (a : eat r.sheet kind.CloseBrace s2 w2 ≡ done s3 w3 false) {inside : ℕ} (f : inside ≡ start_of (range_at r.sheet.tokens s3.at)) where
          opened : brace r from s w ≡ try_parse (key r) (table r from inside) (brace_block r from inside) s3 w3
          unfolding brace table_or_block
          opened = rw p (rw q (rw a (rw (starts r.sheet s3 w3 f))))

          pub brace-table : {first : ℕ} {s4 : State} {w4 : World} → key r s3 w3 ≡ done s4 w4 first → brace r from s w ≡ table r from inside first s4 w4
          brace-table b = opened ∙ attempts.kept _ _ _ _ _ b

          module _ {x : Stop} (b : key r s3 w3 ≡ failed x) where
            pub brace-refused : {y : Stop} → undone s3 x ≡ failed y → brace r from s w ≡ failed y
            brace-refused c = opened ∙ attempts.lost _ _ _ _ _ b c

            module _ {s4 : State} {w4 : World} (c : undone s3 x ≡ done s4 w4 tt) where
              pub brace-failed : {y : Stop} → r.exprs kind.CloseBrace s4 w4 ≡ failed y → brace r from s w ≡ failed y
              unfolding brace_block
              brace-failed d = opened ∙ attempts.starts-over _ _ _ _ _ b c ∙ rw d

              pub brace-block : {row : Kids} {s5 : State} {w5 : World} → r.exprs kind.CloseBrace s4 w4 ≡ done s5 w5 row → brace r from s w ≡ block_record inside node.ExprBlock from row s5 w5
              unfolding brace_block
              brace-block d = opened ∙ attempts.starts-over _ _ _ _ _ b c ∙ rw d
