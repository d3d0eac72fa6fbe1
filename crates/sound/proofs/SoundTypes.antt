-- Types, typed names, parameters and returned types, for every depth.
use mathlib.Core.Path.{◌≡◌, refl, sym, ap}
use mathlib.Core.List.{List, ◌∷◌}
use mathlib.Core.Bool.{true, false}
use Prim.Native.Nat.{ℕ, zero, suc, ◌+◌}
use lib.Dec.{ltb}
use Rattle.kinds.specs.Number as kind
use Rattle.cursor.specs.declared.Kids.{Kids}
use Rattle.cursor.specs.declared.Label.{Label}
use Rattle.cursor.specs.Node as node
use Rattle.cursor.specs.Sheet.{Sheet}
use Rattle.cursor.specs.Rule.{Rule, ◌>>◌, Next, more, stop}
use Rattle.cursor.specs.Checks.{expect}
use Rattle.cursor.specs.Records.{no_kids, flagged}
use Rattle.cursor.specs.Tree.{Trees, none, join, tree}
use Rattle.cursor.proofs.Laws.{join-none}
use Rattle.cursor.proofs.RecordPaths.{linked, added}
use Rattle.cursor.proofs.Stack.{Entry, whole, Stack}
use Rattle.cursor.proofs.Grows.{begin, as_row}
use Rattle.types.specs.declared.items.Items.{Items as Row}
use Rattle.types.specs.Items.{so, is_ended}
use Rattle.types.specs.Types.{ended, union_turn, union as union_of, type, returns, named, typed_ident, table_ty_pair, table_ty_other, type_item, type_end, type_last_item, type_last, type_items, type_paren, type_table, type_function, type_cases, type_atom, atoms, params, closure_params}
use Rattle.types.proofs.TypeKeeps.{union-takes, type-items-take}
use Rattle.grammar.specs.Places.{Place, start_of, after, Tok, Here}
use Rattle.grammar.specs.Symbols.{Sym, Until, Rest, Lit, Ident, Ty, TyAtom, Bars, TyPair, Others, Returns, Typed, Params}
use Rattle.grammar.specs.Derives.{Derives, rest_of, one_type, union, no-bar, a-bar, ty-paren, ty-name, ty-table, ty-function, ty-literal, ty-pair, others, no-type, returned, bare, typed-ident, params_of, closure-params}
use Rattle.grammar.specs.Builders.{blank, only, more as longer, ending, marked, unmarked, over, couple, row_over}
use Rattle.grammar.specs.Shape.{shape}
use Rattle.sound.proofs.Sound.{Spot, at, Claim, Seq, ◌▸◌, Gave, gave, answer, not-both, If, Star, halt, turn, Sound, gives, refuses, maps, ifs, binds, loops}
use Rattle.sound.proofs.SoundSteps.{Bumped, bumped, Took, took, Ate, yes-ate, not-ate, Saw, yes-saw, not-saw, Way, this-one, later-one, Added, added-to, add-sound, bump-sound, check_sound, eat-sound, expect-sound, way, otherwise, chooses}
use Rattle.sound.proofs.SoundValues.{Value, Lastly, value, Optional, some-value, no_value, wrapped, joined, relabel, retree, Started, started, labelled, Closed, Paired, paired, SomeAdded, start-sound, close-sound, pair-sound, add-some-sound, ident-sound, lit-sound, closing}
use Rattle.sound.proofs.SoundSignature.{Signed, signed_by, signed}
use Rattle.sound.proofs.SoundItems.{sofar, as-shape, Listed, listed, Ended, ended_by, given-any, word_more, word_flags, list-flags, items-sound}

-- parse_typed_ident, with a type of any symbol
pub typed-sound : (e : Sheet) (x : Sym) (ty : Rule ℕ) → Sound e (Value e.text x) ty → Sound e (Value e.text (Typed x)) (typed_ident e ty)
unfolding typed_ident shape
typed-sound e x ty sound = maps e (λ u v a c. go c) (binds e (start-sound e) (λ from. binds e (ident-sound e) (λ name. binds e (eat-sound e kind.Colon) (λ b. ifs e b (binds e sound (λ t. pair-sound e node.TypedIdent from name t)) (gives e)))))
  where
    go : {u v : Spot} {a : ℕ} → Seq Started (λ from. Seq (Value e.text Ident) (λ name. Seq (Ate kind.Colon) (λ b. If b (Seq (Value e.text x) (λ t. Paired node.TypedIdent from name t)) (Gave name)))) u v a → Value e.text (Typed x) u v a
    go (started ▸ value d s f ▸ not-ate n ▸ gave) = value (bare d n) s f
    go (started {p = p} ▸ value d s f ▸ yes-ate t ▸ value d2 s2 g ▸ paired {p = q} h) = value (typed-ident d t d2) (λ i. couple node.TypedIdent (start_of p) q (s i) (s2 i)) (λ es st. h _ _ _ _ _ _ es (g _ (as_row (f es st))))

module _ (e : Sheet) (d : ℕ) (atom : Sound e (Value e.text TyAtom) (atoms e d)) where
  abbrev UnionTurn : Kids → Claim (Next Kids)
  UnionTurn kids = Seq (Ate kind.VBar) (λ b. If b (Seq (Value e.text TyAtom) (λ t. Seq (Added kids t) (λ k. Gave (more k)))) (Gave (stop kids)))

  union-turn-sound : (kids : Kids) → Sound e (UnionTurn kids) (union_turn e (atoms e d) kids)
  unfolding union_turn
  union-turn-sound kids = binds e (eat-sound e kind.VBar) (λ b. ifs e b (binds e atom (λ t. binds e (add-sound e kids t) (λ k. gives e))) (gives e))

  and-bar : {p q r : Place} {n m a last : ℕ} {xs ys : List ℕ} {l : Label} {ks : Trees} {v : Spot} {j : Row} (kids : Kids) → Tok kind.VBar p q → (d : Derives e.text TyAtom q r) → shape d 0 blank ≡ only (tree l ks)
      → ((es : List Entry) → Stack xs n es → Stack ys m (whole n a last l ks ∷ es)) → Listed e.text Bars (added kids a) (at r m (linked ys kids.last a)) v j → Listed e.text Bars kids (at p n xs) v j
  unfolding shape
  and-bar {a = a} kids t d same push (listed b f) =
      listed (a-bar t d b) (λ lo c ts es k st. as-shape (ap (λ z. shape b 0 (longer (sofar ts c) z)) (sym same)) (f lo (c + 1) _ es (word_more c k) (joined kids a (push _ st))))

  bars : {u v : Spot} {kids k : Kids} → Star UnionTurn kids u v k → Listed e.text Bars kids u v (so k)
  unfolding shape
  bars (halt (not-ate n ▸ gave)) = listed (no-bar n) (λ lo c ts es q st. record { stack = st; count = q; last = refl })
  bars (halt (yes-ate t ▸ v ▸ added-to ▸ g)) = absurd (not-both (answer g))
  bars (turn (not-ate n ▸ g) r) = absurd (not-both (sym (answer g)))
  bars {kids = kids} (turn (yes-ate t ▸ value d s f ▸ added-to ▸ gave) r) = and-bar kids t d s f (bars r)

  -- parse_type
  pub type-sound : Sound e (Value e.text Ty) (type e (atoms e d))
  unfolding type union_of shape join
  type-sound =
      maps e (λ u v a c. go c) (binds e (start-sound e) (λ from. binds e atom (λ first. binds e (check_sound e kind.VBar) (λ b. ifs e b
      (binds e (add-sound e no_kids first) (λ k. binds e (loops e (union-takes e d) union-turn-sound k) (λ all. close-sound e node.Union from 0 0 (flagged all.count 0 false false) all.first)))
      (gives e)))))
    where
      unite : {p q : Place} {n m a last : ℕ} {xs ys : List ℕ} {l : Label} {ks : Trees} {v w : Spot} {k : Kids} {c : ℕ} (d : Derives e.text TyAtom p q) → shape d 0 blank ≡ only (tree l ks)
          → ((es : List Entry) → Stack xs n es → Stack ys m (whole n a last l ks ∷ es)) → Here kind.VBar q → Listed e.text Bars (added no_kids a) (at q m ys) v (so k)
          → Closed node.Union (start_of p) 0 0 (flagged k.count 0 false false) k.first v w c → Value e.text Ty (at p n xs) w c
      unite {p} d s f h (listed {q = q} b g) c = closing (Value e.text Ty _) c (λ o.
          value (union d h b) (ap (λ z. row_over node.Union (start_of p) q (shape b 0 (longer blank z))) s)
          (λ es st. let r = g _ 1 _ es refl (as_row (f es st)) in relabel (ap (λ z. labelled node.Union (start_of p) 0 0 z q) (word_flags _ false false r.count)) (wrapped _ r.stack o)))

      go : {u v : Spot} {a : ℕ} → Seq Started (λ from. Seq (Value e.text TyAtom) (λ first. Seq (Saw kind.VBar) (λ b. If b
          (Seq (Added no_kids first) (λ k. Seq (Star UnionTurn k) (λ all. Closed node.Union from 0 0 (flagged all.count 0 false false) all.first))) (Gave first)))) u v a → Value e.text Ty u v a
      go (started ▸ value d s f ▸ not-saw n ▸ gave) = value (one_type d n) s f
      go (started ▸ value d s f ▸ yes-saw h ▸ added-to ▸ r ▸ c) = unite d s f h (bars r) c

  -- parse_returns
  pub returns-sound : Sound e (Optional e.text Returns) (returns e (atoms e d))
  unfolding returns shape
  returns-sound = maps e (λ u v a c. go c) (binds e (eat-sound e kind.Arrow) (λ b. ifs e b type-sound (gives e)))
    where
      go : {u v : Spot} {a : ℕ} → Seq (Ate kind.Arrow) (λ b. If b (Value e.text Ty) (Gave 0)) u v a → Optional e.text Returns u v a
      go (yes-ate t ▸ value d s f) = some-value (value (returned t d) s f)
      go (not-ate n ▸ gave) = no_value (no-type n) refl

  -- the items of the lists: typed names, pairs of a table type, types; and their last items
  table-ty-pair-sound : Sound e (Value e.text TyPair) (table_ty_pair e (atoms e d))
  unfolding table_ty_pair shape
  table-ty-pair-sound =
      maps e (λ u v a c. go c) (binds e (start-sound e) (λ from. binds e (ident-sound e) (λ key. binds e (expect-sound e kind.Colon) (λ _. binds e type-sound (λ val. pair-sound e node.TableTyPair from key val)))))
    where
      go : {u v : Spot} {a : ℕ} → Seq Started (λ from. Seq (Value e.text Ident) (λ key. Seq (Took kind.Colon) (λ _. Seq (Value e.text Ty) (λ val. Paired node.TableTyPair from key val)))) u v a → Value e.text TyPair u v a
      go (started {p = p} ▸ value d s f ▸ took t ▸ value d2 s2 g ▸ paired {p = q} h) = value (ty-pair d t d2) (λ i. couple node.TableTyPair (start_of p) q (s i) (s2 i)) (λ es st. h _ _ _ _ _ _ es (g _ (as_row (f es st))))

  table-ty-other-sound : Sound e (Lastly e.text Others) (table_ty_other e (atoms e d))
  unfolding table_ty_other shape
  table-ty-other-sound =
      maps e (λ u v a c. go c) (binds e (start-sound e) (λ from. binds e (expect-sound e kind.OpenBracket) (λ _. binds e type-sound (λ key. binds e (expect-sound e kind.CloseBracket) (λ _. binds e (expect-sound e kind.Colon) (λ _.
      binds e type-sound (λ val. pair-sound e node.TableTyOther from key val)))))))
    where
      go : {u v : Spot} {a : ℕ} → Seq Started (λ from. Seq (Took kind.OpenBracket) (λ _. Seq (Value e.text Ty) (λ key. Seq (Took kind.CloseBracket) (λ _. Seq (Took kind.Colon) (λ _.
          Seq (Value e.text Ty) (λ val. Paired node.TableTyOther from key val)))))) u v a → Lastly e.text Others u v a
      go (started {p = p} ▸ took t ▸ value d s f ▸ took t2 ▸ took t3 ▸ value d2 s2 g ▸ paired {p = q} h) =
          value (others t d t2 t3 d2) (λ i. marked (couple node.TableTyOther (start_of p) q (s i) (s2 i)).row unmarked) (λ es st. h _ _ _ _ _ _ es (g _ (as_row (f es st))))

  dotted-sound : {x : Sym} {item : Rule ℕ} → Sound e (Value e.text x) item → Sound e (Lastly e.text (Rest x)) (expect e kind.Ellipsis >> item)
  unfolding shape
  dotted-sound {x} sound = maps e (λ u v a c. go c) (binds e (expect-sound e kind.Ellipsis) (λ _. sound))
    where
      go : {u v : Spot} {a : ℕ} → Seq (Took kind.Ellipsis) (λ _. Value e.text x) u v a → Lastly e.text (Rest x) u v a
      go (took t ▸ value d s f) = value (rest_of t d) (λ i. marked (s i).row unmarked) f

  -- a list with such items
  list-sound : (k : ℕ) (x y : Sym) → Sound e (Value e.text x) (type_item e (atoms e d) k) → Sound e (Lastly e.text y) (type_last_item e (atoms e d) k) → (kids : Kids) → Sound e (Listed e.text (Until x y (type_end k)) kids) (type_items e (atoms e d) k kids)
  unfolding type_items type_last
  list-sound k x y one last kids = items-sound e x y (type_end k) _ _ _ (type-items-take e d k (type_end k)) one (λ i. maps e (λ u v j c. given-any (go i c)) (binds e last (λ r. binds e (add-sound e i.kids r) (λ after. gives e)))) kids
    where
      go : (i : Row) {u v : Spot} {j : Row} → Seq (Lastly e.text y) (λ r. Seq (Added i.kids r) (λ after. Gave (ended i.kids after))) u v j → Ended e.text y i u v j
      go i (value {a = a} d s f ▸ added-to ▸ gave) = ended_by d (λ lo c ts es k st. as-shape (ap (λ z. ending (sofar ts c) z) (sym s)) (record { stack = joined i.kids a (f _ st); count = k; last = refl }))

  params-list : (kids : Kids) → Sound e (Listed e.text (Until (Typed Ty) (Rest (Typed Ty)) kind.CloseParen) kids) (type_items e (atoms e d) 0 kids)
  unfolding type_item type_last_item type_end named
  params-list kids = list-sound 0 (Typed Ty) (Rest (Typed Ty)) one (dotted-sound one) kids
    where
      one : Sound e (Value e.text (Typed Ty)) (type_item e (atoms e d) 0)
      one = typed-sound e Ty _ type-sound

  closure-list : (kids : Kids) → Sound e (Listed e.text (Until (Typed TyAtom) (Rest (Typed TyAtom)) kind.VBar) kids) (type_items e (atoms e d) 1 kids)
  unfolding type_item type_last_item type_end named
  closure-list kids = list-sound 1 (Typed TyAtom) (Rest (Typed TyAtom)) one (dotted-sound one) kids
    where
      one : Sound e (Value e.text (Typed TyAtom)) (type_item e (atoms e d) 1)
      one = typed-sound e TyAtom _ atom

  pairs-list : (kids : Kids) → Sound e (Listed e.text (Until TyPair Others kind.CloseBrace) kids) (type_items e (atoms e d) 2 kids)
  unfolding type_item type_last_item type_end
  pairs-list kids = list-sound 2 TyPair Others table-ty-pair-sound table-ty-other-sound kids

  types-list : (kids : Kids) → Sound e (Listed e.text (Until Ty (Rest Ty) kind.CloseParen) kids) (type_items e (atoms e d) 3 kids)
  unfolding type_item type_last_item type_end
  types-list kids = list-sound 3 Ty (Rest Ty) type-sound (dotted-sound type-sound) kids

  -- parse_params and parse_closure_params
  pub params-sound : (kids : Kids) → Sound e (Listed e.text (Params false) kids) (params e (atoms e d) kids)
  unfolding params shape
  params-sound kids = maps e (λ u v j c. go c) (binds e (expect-sound e kind.OpenParen) (λ _. params-list kids))
    where
      go : {u v : Spot} {j : Row} → Seq (Took kind.OpenParen) (λ _. Listed e.text (Until (Typed Ty) (Rest (Typed Ty)) kind.CloseParen) kids) u v j → Listed e.text (Params false) kids u v j
      go (took t ▸ listed d f) = listed (params_of t d) f

  pub closure-params-sound : (kids : Kids) → Sound e (Listed e.text (Params true) kids) (closure_params e (atoms e d) kids)
  unfolding closure_params shape
  closure-params-sound kids = maps e (λ u v j c. go c) (binds e (expect-sound e kind.VBar) (λ _. closure-list kids))
    where
      go : {u v : Spot} {j : Row} → Seq (Took kind.VBar) (λ _. Listed e.text (Until (Typed TyAtom) (Rest (Typed TyAtom)) kind.VBar) kids) u v j → Listed e.text (Params true) kids u v j
      go (took t ▸ listed d f) = listed (closure-params t d) f

  -- parse_type_atom, behind its first token: what the rules claim, word by word
  abbrev Paren : ℕ → Claim ℕ
  Paren from = Seq Bumped (λ _. Seq (Value e.text Ty) (λ t. Seq (Took kind.CloseParen) (λ _. Seq (Added no_kids t) (λ kids. Closed node.TyParen from 0 0 0 kids.first))))

  abbrev Table : ℕ → Claim ℕ
  Table from = Seq Bumped (λ _. Seq (Listed e.text (Until TyPair Others kind.CloseBrace) no_kids) (λ i. Closed node.TyTable from 0 0 (flagged i.kids.count 0 (is_ended i.ended) false) i.kids.first))

  abbrev Function : ℕ → Claim ℕ
  Function from = Seq Bumped (λ _. Seq (Listed e.text (Until Ty (Rest Ty) kind.CloseParen) no_kids) (λ i. Seq (Optional e.text Returns) (λ r. Seq (SomeAdded i.kids r) (λ kids.
      Closed node.TyFunction from 0 0 (flagged i.kids.count 0 (is_ended i.ended) (ltb 0 r)) kids.first))))

  paren-sound : (from : ℕ) → Sound e (Paren from) (type_paren e (atoms e d) from)
  unfolding type_paren
  paren-sound from = binds e (bump-sound e) (λ _. binds e type-sound (λ t. binds e (expect-sound e kind.CloseParen) (λ _. binds e (add-sound e no_kids t) (λ kids. close-sound e node.TyParen from 0 0 0 kids.first))))

  table-sound : (from : ℕ) → Sound e (Table from) (type_table e (atoms e d) from)
  unfolding type_table
  table-sound from = binds e (bump-sound e) (λ _. binds e (pairs-list no_kids) (λ i. close-sound e node.TyTable from 0 0 _ i.kids.first))

  function-sound : (from : ℕ) → Sound e (Function from) (type_function e (atoms e d) from)
  unfolding type_function
  function-sound from = binds e (bump-sound e) (λ _. binds e (types-list no_kids) (λ i. binds e returns-sound (λ r. binds e (add-some-sound e i.kids r) (λ kids. close-sound e node.TyFunction from 0 0 _ kids.first))))

  paren-read : {p : Place} {n a : ℕ} {xs : List ℕ} {v : Spot} → Here kind.OpenParen p → Paren (start_of p) (at p n xs) v a → Value e.text TyAtom (at p n xs) v a
  unfolding shape
  paren-read {p} h (bumped q ▸ value d s f ▸ took t ▸ added-to {p = r} ▸ c) = closing (Value e.text TyAtom _) c (λ o.
      value (ty-paren (record { here = h.stands; next = q }) d t) (λ i. over node.TyParen (start_of p) r (s i)) (λ es st. wrapped _ (as_row (f es st)) o))

  table-read : {p : Place} {n a : ℕ} {xs : List ℕ} {v : Spot} → Here kind.OpenBrace p → Table (start_of p) (at p n xs) v a → Value e.text TyAtom (at p n xs) v a
  unfolding shape
  table-read {p} h (bumped q ▸ listed {q = r} d f ▸ c) = closing (Value e.text TyAtom _) c (λ o.
      value (ty-table (record { here = h.stands; next = q }) d) refl (λ es st. let g = f _ 0 none es refl (begin st) in relabel (ap (λ z. labelled node.TyTable (start_of p) 0 0 z r) (list-flags false g)) (wrapped _ g.stack o)))

  function-read : {p : Place} {n a : ℕ} {xs : List ℕ} {v : Spot} → Here kind.Fn p → Function (start_of p) (at p n xs) v a → Value e.text TyAtom (at p n xs) v a
  unfolding shape
  function-read h (bumped q ▸ i ▸ r ▸ k ▸ c) = go h q (signed i r k) c
    where
      go : {p q : Place} {n r c : ℕ} {xs : List ℕ} {i : Row} {kids : Kids} {v w : Spot} → Here kind.Fn p → after p ≡ q → Signed e.text (Until Ty (Rest Ty) kind.CloseParen) i r kids (at q n xs) v
          → Closed node.TyFunction (start_of p) 0 0 (flagged i.kids.count 0 (is_ended i.ended) (ltb 0 r)) kids.first v w c → Value e.text TyAtom (at p n xs) w c
      go {p} h q (signed_by {o = o} d b f) c = closing (Value e.text TyAtom _) c (λ u.
          value (ty-function (record { here = h.stands; next = q }) d b) refl
          (λ es st. let g = f es st in relabel (ap (λ z. labelled node.TyFunction (start_of p) 0 0 z o) g.flags) (wrapped _ (retree (ap (λ z. join (shape d 0 blank).row z) (sym (join-none (shape b 0 blank).row))) g.stack) u)))

  pub type-atom-sound : Sound e (Value e.text TyAtom) (type_atom e (atoms e d))
  unfolding type_atom shape
  type-atom-sound = maps e (λ u v a c. go c) (binds e (start-sound e) (λ from. chooses e (type_cases e (atoms e d) from) (way e (paren-sound from) (way e (ident-sound e) (way e (table-sound from) (way e (function-sound from) (otherwise e (lit-sound e))))))))
    where
      named-read : {u v : Spot} {a : ℕ} → Value e.text Ident u v a → Value e.text TyAtom u v a
      named-read (value d s f) = value (ty-name d) s f

      literal-read : {u v : Spot} {a : ℕ} → Value e.text Lit u v a → Value e.text TyAtom u v a
      literal-read (value d s f) = value (ty-literal d) s f

      go : {u v : Spot} {a : ℕ} → Seq Started (λ from. Way kind.OpenParen (Paren from) (Way kind.Ident (Value e.text Ident) (Way kind.OpenBrace (Table from) (Way kind.Fn (Function from) (Value e.text Lit))))) u v a → Value e.text TyAtom u v a
      go (started ▸ this-one h c) = paren-read h c
      go (started ▸ later-one _ (this-one h c)) = named-read c
      go (started ▸ later-one _ (later-one _ (this-one h c))) = table-read h c
      go (started ▸ later-one _ (later-one _ (later-one _ (this-one h c)))) = function-read h c
      go (started ▸ later-one _ (later-one _ (later-one _ (later-one _ c)))) = literal-read c

-- parse_type_atom, with so many levels left
pub atoms-sound : (e : Sheet) (d : ℕ) → Sound e (Value e.text TyAtom) (atoms e d)
unfolding atoms
atoms-sound e zero = refuses e
atoms-sound e (suc d) = type-atom-sound e d (atoms-sound e d)

-- parse_type likewise
pub types-sound : (e : Sheet) (d : ℕ) → Sound e (Value e.text Ty) (type e (atoms e d))
types-sound e d = type-sound e d (atoms-sound e d)
