-- Imports: a path of names, and what it takes. The path's row goes on from name to name, so a path is claimed over a row that stands already.
use mathlib.Core.Path.{◌≡◌, refl, sym, ap, ◌∙◌}
use mathlib.Core.List.{List, ◌∷◌}
use mathlib.Core.Bool.{Bool, true, false}
use Prim.Native.Nat.{ℕ, ◌+◌, ◌*◌, ◌^◌}
use native.Mathlib.Omega.{arith}
use Rattle.kinds.specs.Number as kind
use Rattle.cursor.specs.declared.Kids.{Kids}
use Rattle.cursor.specs.declared.Label.{Label}
use Rattle.cursor.specs.Node as node
use Rattle.cursor.specs.Sheet.{Sheet}
use Rattle.cursor.specs.Rule.{Next, more, stop}
use Rattle.cursor.specs.Records.{word32, bit, no_kids, flagged}
use Rattle.cursor.specs.Tree.{Trees, none, join, tree}
use Rattle.cursor.proofs.Laws.{join-none}
use Rattle.cursor.proofs.RecordPaths.{linked, added}
use Rattle.cursor.proofs.Stack.{Entry, whole, row, Stack}
use Rattle.cursor.proofs.Grows.{begin, as_row}
use Rattle.parts.specs.declared.imports.Imported.{Imported}
use Rattle.parts.specs.Answers.{on_path}
use Rattle.parts.specs.Values.{uncounted}
use Rattle.parts.specs.Imports.{imported, import_item, import_items, import_simple, import_alias, import_nested, import_glob, end_cases, tail_cases, import_end, import_tail, path_turn, import_stmt}
use Rattle.parts.proofs.UntilPaths.{until-takes}
use Rattle.parts.proofs.ImportTakes.{import-items-keep, path-takes}
use Rattle.grammar.specs.Places.{Place, start_of, Tok}
use Rattle.grammar.specs.Symbols.{Until, NoLast, Ident, Path, ImportItem}
use Rattle.grammar.specs.Derives.{Derives, path-more, path-alone, path-as, path-items, path-all, item-alone, item-as}
use Rattle.grammar.specs.Builders.{blank, only, more as longer, made, over, import_over}
use Rattle.grammar.specs.Shape.{shape}
use Rattle.sound.proofs.Sound.{Spot, at, Claim, Seq, ◌▸◌, Gave, gave, answer, not-both, If, Nothing, Star, halt, turn, Sound, gives, maps, ifs, binds, loops}
use Rattle.sound.proofs.SoundSteps.{Bumped, bumped, Ate, yes-ate, not-ate, Saw, yes-saw, not-saw, Way, this-one, later-one, Added, added-to, add-sound, bump-sound, check_sound, eat-sound, unexpected-sound, way, otherwise, chooses}
use Rattle.sound.proofs.SoundValues.{Value, value, wrapped, joined, relabel, Started, started, labelled, Closed, start-sound, close-sound, ident-sound, closing}
use Rattle.sound.proofs.SoundItems.{sofar, as-shape, Listed, listed, word_more, until-sound}
use Rattle.sound.proofs.ListShape.{behind-none, until-behind}
use Rattle.sound.proofs.SoundEffects.{Becomes, becomes}

-- flags over two counts in words
pub two-flags : {k j : ℕ} (c m : ℕ) (one two : Bool) → k ≡ word32 c → j ≡ word32 m → flagged k j one two ≡ flagged c m one two
two-flags c m one two q r = go (bit one) (bit two) q r
  where
    go : {k j : ℕ} (a b : ℕ) → k ≡ word32 c → j ≡ word32 m → word32 (k + 2 ^ 15 * j + 2 ^ 30 * a + 2 ^ 31 * b) ≡ word32 (c + 2 ^ 15 * m + 2 ^ 30 * a + 2 ^ 31 * b)
    go a b q r = omega (arith, q, r)

-- the row and the flags of an import on a stack
record ImportedOn (ys : List ℕ) (m lo : ℕ) (j : Imported) (flags : ℕ) (ts : Trees) (es : List Entry) : Type 0 where
  stack : Stack ys m (row lo j.kids.first j.kids.last ts ∷ es)
  flags-are : flagged j.names j.items j.one j.two ≡ flags

-- what a path makes of a row of c names
record Along {text : List ℕ} {p q : Place} (d : Derives text Path p q) (from : ℕ) (kids : Kids) (j : Imported) (xs ys : List ℕ) (n m c : ℕ) (ts : Trees) : Type 0 where
  flags-now : ℕ
  kids-now : Trees
  same : shape d from (sofar ts c) ≡ made node.Import from q 0 0 flags-now kids-now
  push : (lo : ℕ) (es : List Entry) → kids.count ≡ word32 c → Stack xs n (row lo kids.first kids.last ts ∷ es) → ImportedOn ys m lo j flags-now kids-now es

data Pathed (text : List ℕ) (from : ℕ) (kids : Kids) : Spot → Spot → Imported → Type 0 where
  pathed : {p q : Place} {n m : ℕ} {xs ys : List ℕ} {j : Imported} (d : Derives text Path p q) → ((c : ℕ) (ts : Trees) → Along d from kids j xs ys n m c ts) → Pathed text from kids (at p n xs) (at q m ys) j

module _ (e : Sheet) where
  -- an item: a name, perhaps with an alias
  item-sound : Sound e (Value e.text ImportItem) (import_item e)
  unfolding import_item shape
  item-sound = maps e (λ u v a c. go c) (binds e (start-sound e) (λ from. binds e (ident-sound e) (λ name. binds e (eat-sound e kind.As) (λ b. ifs e b
      (binds e (ident-sound e) (λ alias. binds e (add-sound e no_kids name) (λ one. binds e (add-sound e one alias) (λ two. close-sound e node.ImportItem from 0 0 (flagged 0 0 true false) two.first))))
      (close-sound e node.ImportItem from 0 0 0 name)))))
    where
      go : {u v : Spot} {a : ℕ} → Seq Started (λ from. Seq (Value e.text Ident) (λ name. Seq (Ate kind.As) (λ b. If b
          (Seq (Value e.text Ident) (λ alias. Seq (Added no_kids name) (λ one. Seq (Added one alias) (λ two. Closed node.ImportItem from 0 0 (flagged 0 0 true false) two.first))))
          (Closed node.ImportItem from 0 0 0 name)))) u v a → Value e.text ImportItem u v a
      go (started {p = p} ▸ value d s f ▸ not-ate {p = q} n ▸ u) = closing (Value e.text ImportItem _) u (λ o. value (item-alone d n) (λ i. over node.ImportItem (start_of p) q (s i)) (λ es st. wrapped _ (as_row (f es st)) o))
      go (started {p = p} ▸ value {a = a} d s f ▸ yes-ate t ▸ value {a = b} c y g ▸ added-to ▸ added-to {p = q} ▸ u) = closing (Value e.text ImportItem _) u (λ o.
          value (item-as d t c) (λ i. made node.ImportItem (start_of p) q 0 0 (flagged 0 0 true false) (join (s i).row (y i).row)) (λ es st. wrapped _ (joined (added no_kids a) b (g _ (as_row (f es st)))) o))

  items-sound : (kids : Kids) → Sound e (Listed e.text (Until ImportItem NoLast kind.CloseBrace) kids) (import_items e kids)
  unfolding import_items
  items-sound kids = until-sound e ImportItem NoLast kind.CloseBrace _ (until-takes e (import_item e) kind.CloseBrace (import-items-keep e)) item-sound kids

  -- what stands behind a path, and behind its last `::`
  abbrev EndOf : Kids → Claim (Next Imported)
  EndOf kids = Way kind.Eol (Gave (stop (imported kids kids.count 0 false false)))
      (Way kind.As (Seq Bumped (λ _. Seq (Value e.text Ident) (λ alias. Seq (Added kids alias) (λ all. Gave (stop (imported all kids.count 0 true false)))))) Nothing)

  abbrev TailOf : Kids → Claim (Next Imported)
  TailOf kids = Way kind.OpenBrace (Seq Bumped (λ _. Seq (Listed e.text (Until ImportItem NoLast kind.CloseBrace) (uncounted kids)) (λ i. Gave (stop (imported i.kids kids.count i.kids.count false true)))))
      (Way kind.Mul (Seq Bumped (λ _. Gave (stop (imported kids kids.count 0 true true)))) Nothing)

  end-sound : (kids : Kids) → Sound e (EndOf kids) (import_end e kids)
  unfolding import_end import_simple import_alias
  end-sound kids = chooses e (end_cases e kids) (way e (gives e) (way e (binds e (bump-sound e) (λ _. binds e (ident-sound e) (λ alias. binds e (add-sound e kids alias) (λ all. gives e)))) (otherwise e (unexpected-sound e))))

  tail-sound : (kids : Kids) → Sound e (TailOf kids) (import_tail e kids)
  unfolding import_tail import_nested import_glob
  tail-sound kids = chooses e (tail_cases e kids) (way e (binds e (bump-sound e) (λ _. binds e (items-sound (uncounted kids)) (λ i. gives e))) (way e (binds e (bump-sound e) (λ _. gives e)) (otherwise e (unexpected-sound e))))

  abbrev PathTurn : Imported → Claim (Next Imported)
  PathTurn i = Seq (Value e.text Ident) (λ name. Seq (Added i.kids name) (λ all. Seq (Ate kind.DoubleColon) (λ b. If b (Seq (Saw kind.Ident) (λ o. If o (Gave (more (on_path all))) (TailOf all))) (EndOf all))))

  path-turn-sound : (i : Imported) → Sound e (PathTurn i) (path_turn e i)
  unfolding path_turn
  path-turn-sound i =
      binds e (ident-sound e) (λ name. binds e (add-sound e i.kids name) (λ all. binds e (eat-sound e kind.DoubleColon) (λ b. ifs e b (binds e (check_sound e kind.Ident) (λ o. ifs e o (gives e) (tail-sound all))) (end-sound all))))

  module _ (from : ℕ) where
    -- a name and what follows it
    and-name : {p q r : Place} {n m a last : ℕ} {xs ys : List ℕ} {l : Label} {ks : Trees} {v : Spot} {j : Imported} (kids : Kids) (d : Derives e.text Ident p q) → shape d 0 blank ≡ only (tree l ks)
        → ((es : List Entry) → Stack xs n es → Stack ys m (whole n a last l ks ∷ es)) → Tok kind.DoubleColon q r → Pathed e.text from (added kids a) (at r m (linked ys kids.last a)) v j → Pathed e.text from kids (at p n xs) v j
    unfolding shape
    and-name {a = a} {l = l} {ks = ks} kids d s f t (pathed b g) = pathed (path-more d t b) (λ c ts.
        let o = g (c + 1) (join ts (tree l ks)) in
        record { flags-now = o.flags-now; kids-now = o.kids-now; same = ap (λ z. shape b from (longer (sofar ts c) z)) s ∙ o.same; push = λ lo es k st. o.push lo es (word_more c k) (joined kids a (f _ st)) })

    path-read : {u v : Spot} {i j : Imported} → Star PathTurn i u v j → Pathed e.text from i.kids u v j
    unfolding shape
    path-read {i = i} (turn (value d s f ▸ added-to ▸ yes-ate t ▸ yes-saw h ▸ gave) r) = and-name i.kids d s f t (path-read r)
    path-read {i = i} (halt (value {q = q} {a = a} {l = l} {ks = ks} d s f ▸ added-to ▸ not-ate n ▸ this-one h gave)) = pathed (path-alone d h) (λ c ts. record {
      flags-now = flagged (c + 1) 0 false false;
      kids-now = join ts (tree l ks);
      same = ap (λ z. import_over from q (longer (sofar ts c) z) blank false false) s ∙ ap (λ z. made node.Import from q 0 0 (flagged (c + 1) 0 false false) z) (join-none (join ts (tree l ks)));
      push = λ lo es k st. record { stack = joined i.kids a (f _ st); flags-are = two-flags (c + 1) 0 false false (word_more c k) refl };
    })
    path-read {i = i} (halt (value {a = a} {l = l} {ks = ks} d s f ▸ added-to ▸ not-ate n ▸ later-one _ (this-one h (bumped t ▸ value {q = q} {a = b} {l = o} {ks = js} x y g ▸ added-to ▸ gave)))) =
        pathed (path-as d (record { here = h.stands; next = t }) x) (λ c ts. record {
          flags-now = flagged (c + 1) 0 true false;
          kids-now = join (join ts (tree l ks)) (tree o js);
          same = λ i. import_over from q (longer (sofar ts c) (s i)) (y i) true false;
          push = λ lo es k st. record { stack = joined (added i.kids a) b (g _ (joined i.kids a (f _ st))); flags-are = two-flags (c + 1) 0 true false (word_more c k) refl };
        })
    path-read {i = i} (halt (value {a = a} {l = l} {ks = ks} d s f ▸ added-to ▸ yes-ate t ▸ not-saw n ▸ this-one h (bumped u ▸ listed {q = q} b g ▸ gave))) = pathed (path-items d t (record { here = h.stands; next = u }) b) (λ c ts.
        let names = join ts (tree l ks) in
        record {
          flags-now = flagged (c + 1) (shape b 0 blank).count false true;
          kids-now = join names (shape b 0 blank).row;
          same = ap (λ z. import_over from q (longer (sofar ts c) z) (shape b 0 blank) false true) s;
          push = λ lo es k st.
              let r = as-shape (until-behind b names 0 ∙ behind-none names (shape b 0 blank)) (g lo 0 names es refl (joined i.kids a (f _ st))) in
              record { stack = r.stack; flags-are = two-flags (c + 1) (shape b 0 blank).count false true (word_more c k) r.count };
        })
    path-read {i = i} (halt (value {a = a} {l = l} {ks = ks} d s f ▸ added-to ▸ yes-ate t ▸ not-saw n ▸ later-one _ (this-one h (bumped {q = q} u ▸ gave)))) = pathed (path-all d t (record { here = h.stands; next = u })) (λ c ts. record {
      flags-now = flagged (c + 1) 0 true true;
      kids-now = join ts (tree l ks);
      same = ap (λ z. import_over from q (longer (sofar ts c) z) blank true true) s ∙ ap (λ z. made node.Import from q 0 0 (flagged (c + 1) 0 true true) z) (join-none (join ts (tree l ks)));
      push = λ lo es k st. record { stack = joined i.kids a (f _ st); flags-are = two-flags (c + 1) 0 true true (word_more c k) refl };
    })
    path-read (halt (v ▸ added-to ▸ yes-ate t ▸ yes-saw h ▸ g)) = absurd (not-both (answer g))
    path-read (halt (v ▸ added-to ▸ yes-ate t ▸ not-saw n ▸ later-one _ (later-one _ c))) = absurd c
    path-read (halt (v ▸ added-to ▸ not-ate n ▸ later-one _ (later-one _ c))) = absurd c
    path-read (turn (v ▸ added-to ▸ yes-ate t ▸ not-saw n ▸ this-one h (b ▸ i ▸ g)) r) = absurd (not-both (sym (answer g)))
    path-read (turn (v ▸ added-to ▸ yes-ate t ▸ not-saw n ▸ later-one _ (this-one h (b ▸ g))) r) = absurd (not-both (sym (answer g)))
    path-read (turn (v ▸ added-to ▸ yes-ate t ▸ not-saw n ▸ later-one _ (later-one _ c)) r) = absurd c
    path-read (turn (v ▸ added-to ▸ not-ate n ▸ this-one h g) r) = absurd (not-both (sym (answer g)))
    path-read (turn (v ▸ added-to ▸ not-ate n ▸ later-one _ (this-one h (b ▸ y ▸ added-to ▸ g))) r) = absurd (not-both (sym (answer g)))
    path-read (turn (v ▸ added-to ▸ not-ate n ▸ later-one _ (later-one _ c)) r) = absurd c

    -- the statement, its keyword too: that one stands here is known where the statement is told from others
    pub import-sound : Sound e (Seq Bumped (λ _. Becomes e.text Path from (λ q f. f))) (import_stmt e from)
    unfolding import_stmt
    import-sound = binds e (bump-sound e) (λ _. maps e (λ u v a c. go c)
        (binds e (loops e (path-takes e) path-turn-sound (on_path no_kids)) (λ i. close-sound e node.Import from 0 0 (flagged i.names i.items i.one i.two) i.kids.first)))
      where
        made_of : {u v w : Spot} {a : ℕ} {i : Imported} → Pathed e.text from no_kids u v i → Closed node.Import from 0 0 (flagged i.names i.items i.one i.two) i.kids.first v w a → Becomes e.text Path from (λ q f. f) u w a
        made_of (pathed {q = q} d g) c = closing (Becomes e.text Path from (λ q f. f) _) c (λ o. let b = g 0 none in becomes d b.same (λ es st.
            let r = b.push _ es refl (begin st) in
            relabel (ap (λ z. labelled node.Import from 0 0 z q) r.flags-are) (wrapped _ r.stack o)))

        go : {u v : Spot} {a : ℕ} → Seq (Star PathTurn (on_path no_kids)) (λ i. Closed node.Import from 0 0 (flagged i.names i.items i.one i.two) i.kids.first) u v a → Becomes e.text Path from (λ q f. f) u v a
        go (r ▸ c) = made_of (path-read r) c
