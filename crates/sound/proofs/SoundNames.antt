-- Items in a row with a token between them: the names of a `for`, and the patterns of a case.
use mathlib.Core.Path.{◌≡◌, refl, sym, ap, ◌∙◌}
use mathlib.Core.List.{List, ◌∷◌}
use Prim.Native.Nat.{ℕ, ◌+◌}
use Rattle.kinds.specs.Number as kind
use Rattle.cursor.specs.declared.Kids.{Kids}
use Rattle.cursor.specs.declared.Label.{Label}
use Rattle.cursor.specs.Sheet.{Sheet}
use Rattle.cursor.specs.Rule.{Next, more, stop}
use Rattle.cursor.specs.Records.{no_kids}
use Rattle.cursor.specs.Tree.{Trees, tree}
use Rattle.cursor.proofs.RecordPaths.{linked, added}
use Rattle.cursor.proofs.Stack.{Entry, whole, Stack}
use Rattle.types.specs.declared.items.Items.{Items as Row}
use Rattle.types.specs.Items.{so}
use Rattle.types.specs.Patterns.{patterns}
use Rattle.parts.specs.Steps.{name_turn, names, pattern_turn, case_patterns}
use Rattle.parts.proofs.StepTakes.{names-take, case-patterns-take}
use Rattle.grammar.specs.Places.{Place, Tok, Not}
use Rattle.grammar.specs.Symbols.{Sym, Ident, Pattern, Names, Patterns}
use Rattle.grammar.specs.Derives.{Derives, last_name, more-names, last-pattern, more-patterns}
use Rattle.grammar.specs.Builders.{Shape, blank, only, more as longer}
use Rattle.grammar.specs.Shape.{shape}
use Rattle.sound.proofs.Sound.{Spot, at, Claim, Seq, ◌▸◌, Gave, gave, answer, not-both, If, Star, halt, turn, Sound, gives, maps, ifs, binds, loops}
use Rattle.sound.proofs.SoundSteps.{Ate, yes-ate, not-ate, Added, added-to, add-sound, eat-sound}
use Rattle.sound.proofs.SoundValues.{Value, value, joined, ident-sound}
use Rattle.sound.proofs.SoundItems.{sofar, as-shape, Listed, listed, word_more}
use Rattle.sound.proofs.SoundPatterns.{patterns-sound}

-- a list whose answer is the row alone
abbrev pub Rowing : List ℕ → Sym → Kids → Spot → Spot → Kids → Type 0
Rowing text z kids u v k = Listed text z kids u v (so k)

-- a production for the last item and one for an item with a token of kind k and the rest behind it, with their shapes
pub record Between (text : List ℕ) (x z : Sym) (k : ℕ) : Type 0 where
  pub last : (p q : Place) → Derives text x p q → Not k q → Derives text z p q
  pub next : (p q r s : Place) → Derives text x p q → Tok k q r → Derives text z r s → Derives text z p s
  pub last-is : (p q : Place) (d : Derives text x p q) (n : Not k q) (f : Shape) → shape (last p q d n) 0 f ≡ longer f (shape d 0 blank)
  pub next-is : (p q r s : Place) (d : Derives text x p q) (t : Tok k q r) (b : Derives text z r s) (f : Shape) → shape (next p q r s d t b) 0 f ≡ shape b 0 (longer f (shape d 0 blank))

module _ (text : List ℕ) (x z : Sym) (k : ℕ) (by : Between text x z k) where
  abbrev pub SepTurn : Kids → Claim (Next Kids)
  SepTurn kids = Seq (Value text x) (λ link. Seq (Added kids link) (λ all. Seq (Ate k) (λ b. If b (Gave (more all)) (Gave (stop all)))))

  and-next : {p q r : Place} {n m a last : ℕ} {xs ys : List ℕ} {l : Label} {ks : Trees} {v : Spot} {j : Row} (kids : Kids) (d : Derives text x p q) → shape d 0 blank ≡ only (tree l ks)
      → ((es : List Entry) → Stack xs n es → Stack ys m (whole n a last l ks ∷ es)) → Tok k q r → Listed text z (added kids a) (at r m (linked ys kids.last a)) v j → Listed text z kids (at p n xs) v j
  and-next {p} {q} {r} {a = a} kids d same push t (listed {q = s} b f) =
      listed (by.next p q r s d t b) (λ lo c ts es o st. as-shape (ap (λ z. shape b 0 (longer (sofar ts c) z)) (sym same) ∙ sym (by.next-is p q r s d t b (sofar ts c))) (f lo (c + 1) _ es (word_more c o) (joined kids a (push _ st))))

  pub separated : {u v : Spot} {kids j : Kids} → Star SepTurn kids u v j → Rowing text z kids u v j
  separated {kids = kids} (halt (value {p = p} {q = q} {a = a} d s f ▸ added-to ▸ not-ate n ▸ gave)) =
      listed (by.last p q d n) (λ lo c ts es o st. as-shape (ap (λ z. longer (sofar ts c) z) (sym s) ∙ sym (by.last-is p q d n (sofar ts c))) (record { stack = joined kids a (f _ st); count = word_more c o; last = refl }))
  separated {kids = kids} (turn (value d s f ▸ added-to ▸ yes-ate t ▸ gave) r) = and-next kids d s f t (separated r)
  separated (halt (v ▸ added-to ▸ yes-ate t ▸ g)) = absurd (not-both (answer g))
  separated (turn (v ▸ added-to ▸ not-ate n ▸ g) r) = absurd (not-both (sym (answer g)))

-- the names of a `for`
names-between : (text : List ℕ) → Between text Ident Names kind.Comma
unfolding shape
names-between text = record { last = λ p q d n. last_name d n; next = λ p q r s d t b. more-names d t b; last-is = λ p q d n f. refl; next-is = λ p q r s d t b f. refl }

pub names-sound : (e : Sheet) → Sound e (Rowing e.text Names no_kids) (names e)
unfolding names name_turn
names-sound e = maps e (λ u v j c. separated e.text Ident Names kind.Comma (names-between e.text) c)
    (loops e (names-take e) (λ kids. binds e (ident-sound e) (λ link. binds e (add-sound e kids link) (λ all. binds e (eat-sound e kind.Comma) (λ b. ifs e b (gives e) (gives e))))) no_kids)

-- the patterns of a case
patterns-between : (text : List ℕ) → Between text Pattern Patterns kind.VBar
unfolding shape
patterns-between text = record { last = λ p q d n. last-pattern d n; next = λ p q r s d t b. more-patterns d t b; last-is = λ p q d n f. refl; next-is = λ p q r s d t b f. refl }

pub case-patterns-sound : (e : Sheet) (d : ℕ) → Sound e (Rowing e.text Patterns no_kids) (case_patterns e (patterns e d))
unfolding case_patterns pattern_turn
case-patterns-sound e d = maps e (λ u v j c. separated e.text Pattern Patterns kind.VBar (patterns-between e.text) c)
    (loops e (case-patterns-take e d) (λ kids. binds e (patterns-sound e d) (λ link. binds e (add-sound e kids link) (λ all. binds e (eat-sound e kind.VBar) (λ b. ifs e b (gives e) (gives e))))) no_kids)
