-- Each way through the rules of `import`.
use mathlib.Core.Path.{◌≡◌, refl}
use mathlib.Core.Bool.{true, false}
use Prim.Native.Nat.{ℕ, ◌<◌, ◌≤◌}
use borrow.Author.Tests.{eq-eqb, ne_eqb, lt-ltb, le-ltb}
use Rattle.kinds.specs.Number as kind
use Rattle.cursor.specs.declared.State.{State}
use Rattle.cursor.specs.declared.Kids.{Kids}
use Rattle.cursor.specs.Node as node
use Rattle.cursor.specs.Sheet.{Sheet, range_at}
use Rattle.cursor.specs.Rule.{World, Stop, fault, done, failed, more, stop, iterate}
use Rattle.cursor.specs.Tokens.{start_of, bump}
use Rattle.cursor.specs.Checks.{check, eat, pick, unexpected, unexpected_at}
use Rattle.cursor.specs.Records.{add, no_kids, flagged}
use Rattle.types.specs.declared.items.Items.{Items}
use Rattle.types.specs.Lits.{ident}
use Rattle.types.specs.Items.{close}
use Rattle.types.proofs.TypePaths.{starts}
use Rattle.parts.specs.declared.imports.Imported.{Imported}
use Rattle.parts.specs.Answers.{on_path}
use Rattle.parts.specs.Values.{uncounted}
use Rattle.parts.specs.Until.{items_until}
use Rattle.parts.specs.Imports.{imported, import_item, import_items, import_simple, import_alias, import_end, import_tail, path_turn, import_stmt}
use Rattle.parts.proofs.Placed.{end_chain, tail_chain, import-end-placed, import-tail-placed}

-- an item
module _ (e : Sheet) (s : State) (w : World) {from : ℕ} (f : from ≡ start_of (range_at e.tokens s.at)) where
  pub item-failed : {x : Stop} → ident e s w ≡ failed x → import_item e s w ≡ failed x
  unfolding import_item
  item-failed p = rw (starts e s w f) (rw p)

  module _ {name : ℕ} {s1 : State} {w1 : World} (p : ident e s w ≡ done s1 w1 name) where
    pub item-full : {x : Stop} → eat e kind.As s1 w1 ≡ failed x → import_item e s w ≡ failed x
    unfolding import_item
    item-full q = rw (starts e s w f) (rw p (rw q))

    pub item-plain : {s2 : State} {w2 : World} → eat e kind.As s1 w1 ≡ done s2 w2 false → import_item e s w ≡ close node.ImportItem from 0 0 0 name s2 w2
    unfolding import_item
    item-plain q = rw (starts e s w f) (rw p (rw q))

    module _ {s2 : State} {w2 : World} (q : eat e kind.As s1 w1 ≡ done s2 w2 true) where
      pub item-lost : {x : Stop} → ident e s2 w2 ≡ failed x → import_item e s w ≡ failed x
      unfolding import_item
      item-lost r = rw (starts e s w f) (rw p (rw q (rw r)))

      pub item-alias : {alias flags : ℕ} {one two : Kids} {s3 s4 s5 : State} {w3 w4 w5 : World} → ident e s2 w2 ≡ done s3 w3 alias → done s4 w4 one ≡ add no_kids name s3 w3 → done s5 w5 two ≡ add one alias s4 w4 → flags ≡ flagged 0 0 true false → import_item e s w ≡ close node.ImportItem from 0 0 flags two.first s5 w5
      unfolding import_item
      item-alias r a b c = rw (starts e s w f) (rw p (rw q (rw r (rw (← a) (rw (← b) (rw c))))))

module _ (e : Sheet) (kids : Kids) (s : State) (w : World) where
  pub items-are : import_items e kids s w ≡ items_until e (import_item e) kind.CloseBrace kids s w
  unfolding import_items
  items-are = refl

  -- behind a path
  pub end-full : {x : Stop} → pick e (end_chain e) s w ≡ failed x → import_end e kids s w ≡ failed x
  unfolding import_simple import_alias
  end-full p = rw (import-end-placed e kids) (rw p)

  module _ {which : ℕ} {s1 : State} {w1 : World} (p : pick e (end_chain e) s w ≡ done s1 w1 which) where
    pub end-plain : {i : Imported} → which ≡ 0 → i ≡ imported kids kids.count 0 false false → import_end e kids s w ≡ done s1 w1 (stop i)
    unfolding import_simple import_alias
    end-plain a b = rw (import-end-placed e kids) (rw p (rw (eq-eqb _ _ a) (rw b)))

    module _ (a : which ≡ 0 → ⊥) where
      pub end-other : 1 < which → import_end e kids s w ≡ failed (fault s1 w1 (unexpected_at e s1))
      unfolding import_simple import_alias unexpected
      end-other b = rw (import-end-placed e kids) (rw p (rw (ne_eqb _ _ a) (rw (lt-ltb _ _ b))))

      module _ (b : which ≤ 1) where
        pub end-spent : {x : Stop} → bump e s1 w1 ≡ failed x → import_end e kids s w ≡ failed x
        unfolding import_simple import_alias
        end-spent q = rw (import-end-placed e kids) (rw p (rw (ne_eqb _ _ a) (rw (le-ltb _ _ b) (rw q))))

        module _ {s2 : State} {w2 : World} (q : bump e s1 w1 ≡ done s2 w2 tt) where
          pub end-lost : {x : Stop} → ident e s2 w2 ≡ failed x → import_end e kids s w ≡ failed x
          unfolding import_simple import_alias
          end-lost r = rw (import-end-placed e kids) (rw p (rw (ne_eqb _ _ a) (rw (le-ltb _ _ b) (rw q (rw r)))))

          pub end-alias : {alias : ℕ} {longer : Kids} {i : Imported} {s3 s4 : State} {w3 w4 : World} → ident e s2 w2 ≡ done s3 w3 alias → done s4 w4 longer ≡ add kids alias s3 w3 → i ≡ imported longer kids.count 0 true false → import_end e kids s w ≡ done s4 w4 (stop i)
          unfolding import_simple import_alias
          end-alias r c d = rw (import-end-placed e kids) (rw p (rw (ne_eqb _ _ a) (rw (le-ltb _ _ b) (rw q (rw r (rw (← c) (rw d)))))))

  -- behind a path's `::`
  pub tail-full : {x : Stop} → pick e (tail_chain e) s w ≡ failed x → import_tail e kids s w ≡ failed x
  tail-full p = rw (import-tail-placed e kids) (rw p)

  module _ {which : ℕ} {s1 : State} {w1 : World} (p : pick e (tail_chain e) s w ≡ done s1 w1 which) where
    pub tail-other : 1 < which → import_tail e kids s w ≡ failed (fault s1 w1 (unexpected_at e s1))
    unfolding unexpected
    tail-other b = rw (import-tail-placed e kids) (rw p (rw (lt-ltb _ _ b)))

    module _ (b : which ≤ 1) where
      pub tail-spent : {x : Stop} → bump e s1 w1 ≡ failed x → import_tail e kids s w ≡ failed x
      tail-spent q = rw (import-tail-placed e kids) (rw p (rw (le-ltb _ _ b) (rw q)))

      module _ {s2 : State} {w2 : World} (q : bump e s1 w1 ≡ done s2 w2 tt) where
        pub tail-glob : which ≡ 1 → import_tail e kids s w ≡ done s2 w2 (stop (imported kids kids.count 0 true true))
        tail-glob a = rw (import-tail-placed e kids) (rw p (rw (le-ltb _ _ b) (rw q (rw (eq-eqb _ _ a)))))

        module _ (a : which ≡ 1 → ⊥) where
          pub tail-failed : {x : Stop} → import_items e (uncounted kids) s2 w2 ≡ failed x → import_tail e kids s w ≡ failed x
          tail-failed r = rw (import-tail-placed e kids) (rw p (rw (le-ltb _ _ b) (rw q (rw (ne_eqb _ _ a) (rw r)))))

          pub tail-items : {i : Items} {s3 : State} {w3 : World} → import_items e (uncounted kids) s2 w2 ≡ done s3 w3 i → import_tail e kids s w ≡ done s3 w3 (stop (imported i.kids kids.count i.kids.count false true))
          tail-items r = rw (import-tail-placed e kids) (rw p (rw (le-ltb _ _ b) (rw q (rw (ne_eqb _ _ a) (rw r)))))

  -- one name of the path
  pub path-failed : {x : Stop} → ident e s w ≡ failed x → path_turn e (on_path kids) s w ≡ failed x
  unfolding path_turn
  path-failed p = rw p

  module _ {name : ℕ} {longer : Kids} {s1 t : State} {w1 w2 : World} (p : ident e s w ≡ done s1 w1 name) (a : done t w2 longer ≡ add kids name s1 w1) where
    pub path-full : {x : Stop} → eat e kind.DoubleColon t w2 ≡ failed x → path_turn e (on_path kids) s w ≡ failed x
    unfolding path_turn
    path-full q = rw p (rw (← a) (rw q))

    pub path-end : {s2 : State} {w3 : World} → eat e kind.DoubleColon t w2 ≡ done s2 w3 false → path_turn e (on_path kids) s w ≡ import_end e longer s2 w3
    unfolding path_turn
    path-end q = rw p (rw (← a) (rw q))

    module _ {s2 : State} {w3 : World} (q : eat e kind.DoubleColon t w2 ≡ done s2 w3 true) where
      pub path-lost : {x : Stop} → check e kind.Ident s2 w3 ≡ failed x → path_turn e (on_path kids) s w ≡ failed x
      unfolding path_turn
      path-lost r = rw p (rw (← a) (rw q (rw r)))

      pub path-more : {s3 : State} {w4 : World} → check e kind.Ident s2 w3 ≡ done s3 w4 true → path_turn e (on_path kids) s w ≡ done s3 w4 (more (on_path longer))
      unfolding path_turn
      path-more r = rw p (rw (← a) (rw q (rw r)))

      pub path-tail : {s3 : State} {w4 : World} → check e kind.Ident s2 w3 ≡ done s3 w4 false → path_turn e (on_path kids) s w ≡ import_tail e longer s3 w4
      unfolding path_turn
      path-tail r = rw p (rw (← a) (rw q (rw r)))

-- the statement
module _ (e : Sheet) (from : ℕ) (s : State) (w : World) where
  pub import-spent : {x : Stop} → bump e s w ≡ failed x → import_stmt e from s w ≡ failed x
  unfolding import_stmt
  import-spent p = rw p

  module _ {s1 : State} {w1 : World} (p : bump e s w ≡ done s1 w1 tt) where
    pub import-failed : {x : Stop} → iterate e (path_turn e) (on_path no_kids) s1 w1 ≡ failed x → import_stmt e from s w ≡ failed x
    unfolding import_stmt
    import-failed q = rw p (rw q)

    pub import-on : {i : Imported} {flags : ℕ} {s2 : State} {w2 : World} → iterate e (path_turn e) (on_path no_kids) s1 w1 ≡ done s2 w2 i → flags ≡ flagged i.names i.items i.one i.two → import_stmt e from s w ≡ close node.Import from 0 0 flags i.kids.first s2 w2
    unfolding import_stmt
    import-on q r = rw p (rw (q, r))
