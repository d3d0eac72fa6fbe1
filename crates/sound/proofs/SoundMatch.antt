-- `match` and its cases: parse_match_case, and the atom over all of them.
use mathlib.Core.Path.{◌≡◌, refl, sym, ap}
use mathlib.Core.List.{List, ◌∷◌}
use mathlib.Core.Bool.{Bool, true, false}
use Prim.Native.Nat.{ℕ, ◌+◌}
use Rattle.kinds.specs.Number as kind
use Rattle.cursor.specs.declared.Kids.{Kids}
use Rattle.cursor.specs.declared.Label.{Label}
use Rattle.cursor.specs.Node as node
use Rattle.cursor.specs.Sheet.{Sheet}
use Rattle.cursor.specs.Rule.{Next, more, stop}
use Rattle.cursor.specs.Records.{no_kids, flagged}
use Rattle.cursor.specs.Tree.{Trees, none, tree}
use Rattle.cursor.proofs.RecordPaths.{linked, added}
use Rattle.cursor.proofs.Stack.{Entry, whole, Stack}
use Rattle.cursor.proofs.Grows.{begin, as_row}
use Rattle.types.specs.declared.items.Items.{Items as Row}
use Rattle.parts.specs.Values.{row_of}
use Rattle.parts.specs.Records.{row_record}
use Rattle.rules.specs.Inner.{expr}
use Rattle.rules.specs.Levels.{levels}
use Rattle.rules.specs.Atoms.{match_case, case_turn, match_expr}
use Rattle.rules.proofs.Takes.{case-turn-takes}
use Rattle.grammar.specs.Places.{Place, start_of, Tok, Here}
use Rattle.grammar.specs.Symbols.{Other, Eols, Atom, Cases, Case, Patterns, Expr as Whole}
use Rattle.grammar.specs.Derives.{Derives, match-expr, no-case, more-cases, case-of}
use Rattle.grammar.specs.Builders.{blank, only, more as longer, row_over, row_before}
use Rattle.grammar.specs.Shape.{shape}
use Rattle.sound.proofs.Sound.{Spot, at, Claim, Seq, ◌▸◌, Gave, gave, answer, not-both, If, Star, halt, turn, Sound, gives, maps, ifs, binds, loops}
use Rattle.sound.proofs.SoundSteps.{Bumped, bumped, Took, took, Ate, yes-ate, not-ate, Lined, lined, Added, added-to, add-sound, bump-sound, eat-sound, expect-sound, eat-eol-sound}
use Rattle.sound.proofs.SoundValues.{Value, value, wrapped, joined, relabel, Started, started, labelled, Closed, start-sound, close-sound, closing}
use Rattle.sound.proofs.SoundItems.{sofar, as-shape, Listed, listed, word_more, word_flags}
use Rattle.sound.proofs.SoundNames.{Rowing, case-patterns-sound}

module _ (e : Sheet) (d : ℕ) (exprs : (lambda : Bool) → Sound e (Value e.text (Whole lambda)) (expr (levels e d) lambda)) where
  -- a case's record, over its patterns and what stands behind the arrow
  abbrev CaseOf : ℕ → Kids → ℕ → Claim ℕ
  CaseOf from k link = Seq (Added k link) (λ all. Closed node.MatchCase from 0 0 (flagged k.count 0 false false) all.first)

  case-read : {p : Place} {n a c : ℕ} {xs : List ℕ} {u v w z : Spot} {k : Kids} {b : Unit {0}} → Rowing e.text Patterns no_kids (at p n xs) u k → Took kind.FatArrow u v b → Value e.text (Whole true) v w a → CaseOf (start_of p) k a w z c
      → Value e.text Case (at p n xs) z c
  unfolding shape
  case-read {p} {k = k} (listed b f) (took t) (value {q = q} {a = a} c s g) (added-to ▸ u) = closing (Value e.text Case _) u (λ o.
      value (case-of b t c) (λ j. row_before node.MatchCase (start_of p) q (shape b 0 blank) (s j).row)
      (λ es st. let r = f _ 0 none es refl (begin st) in relabel (ap (λ z. labelled node.MatchCase (start_of p) 0 0 z q) (word_flags _ false false r.count)) (wrapped _ (joined k a (g _ r.stack)) o)))

  -- parse_match_case
  pub case-sound : Sound e (Value e.text Case) (match_case (levels e d))
  unfolding match_case row_record
  case-sound = maps e (λ u v a c. go c) (binds e (start-sound e) (λ from. binds e (case-patterns-sound e d) (λ k. binds e (expect-sound e kind.FatArrow) (λ _. binds e (exprs true) (λ link.
      binds e (add-sound e k link) (λ all. close-sound e node.MatchCase from 0 0 _ all.first))))))
    where
      go : {u v : Spot} {a : ℕ} → Seq Started (λ from. Seq (Rowing e.text Patterns no_kids) (λ k. Seq (Took kind.FatArrow) (λ _. Seq (Value e.text (Whole true)) (λ link. CaseOf from k link)))) u v a → Value e.text Case u v a
      go (started ▸ r ▸ t ▸ x ▸ c) = case-read r t x c

  -- the cases up to the brace
  abbrev CaseTurn : Kids → Claim (Next Kids)
  CaseTurn kids = Seq (Ate kind.CloseBrace) (λ b. If b (Gave (stop kids)) (Seq (Lined e.text) (λ _. Seq (Value e.text Case) (λ c. Seq (Lined e.text) (λ _. Seq (Added kids c) (λ all. Gave (more all)))))))

  case-turn-sound : (kids : Kids) → Sound e (CaseTurn kids) (case_turn (levels e d) kids)
  unfolding case_turn
  case-turn-sound kids = binds e (eat-sound e kind.CloseBrace) (λ b. ifs e b (gives e) (binds e (eat-eol-sound e) (λ _. binds e case-sound (λ c. binds e (eat-eol-sound e) (λ _. binds e (add-sound e kids c) (λ all. gives e))))))

  and-case : {p q r s : Place} {n m a last : ℕ} {xs ys : List ℕ} {l : Label} {ks : Trees} {v : Spot} {j : Row} (kids : Kids) → Derives e.text Eols p q → (b : Derives e.text Case q r) → shape b 0 blank ≡ only (tree l ks)
      → ((es : List Entry) → Stack xs n es → Stack ys m (whole n a last l ks ∷ es)) → Derives e.text Eols r s → Listed e.text Cases (added kids a) (at s m (linked ys kids.last a)) v j → Listed e.text Cases kids (at p n xs) v j
  unfolding shape
  and-case {a = a} kids t b same push o (listed c f) =
      listed (more-cases t b o c) (λ lo i ts es k st. as-shape (ap (λ z. shape c 0 (longer (sofar ts i) z)) (sym same)) (f lo (i + 1) _ es (word_more i k) (joined kids a (push _ st))))

  cases-read : {u v : Spot} {kids k : Kids} → Star CaseTurn kids u v k → Rowing e.text Cases kids u v k
  unfolding shape
  cases-read (halt (yes-ate t ▸ gave)) = listed (no-case t) (λ lo c ts es q st. record { stack = st; count = q; last = refl })
  cases-read {kids = kids} (turn (not-ate n ▸ lined t ▸ value b s f ▸ lined o ▸ added-to ▸ gave) r) = and-case kids t b s f o (cases-read r)
  cases-read (halt (not-ate n ▸ lined t ▸ v ▸ lined o ▸ added-to ▸ g)) = absurd (not-both (answer g))
  cases-read (turn (yes-ate t ▸ g) r) = absurd (not-both (sym (answer g)))

  -- `match`: the value that is matched is the first of the row, and is not counted
  abbrev MatchOf : ℕ → Kids → Claim ℕ
  MatchOf from k = Closed node.Match from 0 0 (flagged k.count 0 false false) k.first

  abbrev pub Matching : ℕ → Claim ℕ
  Matching from = Seq Bumped (λ _. Seq (Value e.text (Whole false)) (λ link. Seq (Took kind.OpenBrace) (λ _. Seq (Star CaseTurn (row_of link)) (λ k. MatchOf from k))))

  pub match-sound : (from : ℕ) → Sound e (Matching from) (match_expr (levels e d) from)
  unfolding match_expr
  match-sound from = binds e (bump-sound e) (λ _. binds e (exprs false) (λ link. binds e (expect-sound e kind.OpenBrace) (λ _. binds e (loops e (case-turn-takes e d) case-turn-sound (row_of link)) (λ k. close-sound e node.Match from 0 0 _ k.first))))

  match-over : {p q r s : Place} {n m a last c : ℕ} {xs ys : List ℕ} {l : Label} {ks : Trees} {v w : Spot} {k : Kids} → Tok kind.Match p q → (b : Derives e.text (Whole false) q r) → shape b 0 blank ≡ only (tree l ks)
      → ((es : List Entry) → Stack xs n es → Stack ys m (whole n a last l ks ∷ es)) → Tok kind.OpenBrace r s → Rowing e.text Cases (row_of a) (at s m ys) v k → MatchOf (start_of p) k v w c → Value e.text (Atom Other) (at p n xs) w c
  unfolding shape
  match-over {p} t b same push o (listed {q = q} g f) u = closing (Value e.text (Atom Other) _) u (λ h.
      value (match-expr t b o g) (λ j. row_over node.Match (start_of p) q (shape g 0 (only (same j).row)))
      (λ es st. let r = f _ 0 _ es refl (as_row (push es st)) in relabel (ap (λ z. labelled node.Match (start_of p) 0 0 z q) (word_flags _ false false r.count)) (wrapped _ r.stack h)))

  pub match-read : {p : Place} {n a : ℕ} {xs : List ℕ} {v : Spot} → Here kind.Match p → Matching (start_of p) (at p n xs) v a → Value e.text (Atom Other) (at p n xs) v a
  match-read h (bumped t ▸ value b s f ▸ took o ▸ r ▸ c) = match-over (record { here = h.stands; next = t }) b s f o (cases-read r) c
