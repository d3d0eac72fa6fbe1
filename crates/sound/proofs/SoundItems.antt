-- Lists of items: parse_items_until_with_last, over a row that stands on the stack already.
use Rattle.std.specs.Prelude.{None}
use mathlib.Core.Path.{◌≡◌, refl, sym, ap, ◌∙◌, subst}
use mathlib.Core.List.{List, ◌∷◌}
use mathlib.Core.Bool.{Bool}
use Prim.Native.Nat.{ℕ, ◌+◌, ◌*◌, ◌^◌}
use native.Mathlib.Omega.{arith}
use Rattle.kinds.specs.Number as kind
use Rattle.cursor.specs.declared.Kids.{Kids}
use Rattle.cursor.specs.declared.Label.{Label}
use Rattle.cursor.specs.Sheet.{Sheet}
use Rattle.cursor.specs.Rule.{Rule, Next, more, stop}
use Rattle.cursor.specs.Records.{word32, bit, flagged}
use Rattle.cursor.specs.Tree.{Trees, tree}
use Rattle.cursor.proofs.Loops.{Takes}
use Rattle.cursor.proofs.RecordPaths.{linked, added}
use Rattle.cursor.proofs.Stack.{Entry, whole, row, Stack}
use Rattle.types.specs.declared.items.Items.{Items as Row}
use Rattle.types.specs.Items.{so, is_ended, after_item, one_item, after_last, last_item, item_turn, items_until_with_last}
use Rattle.parts.specs.Until.{until_turn, items_until}
use Rattle.grammar.specs.Places.{Place, Tok, Here}
use Rattle.grammar.specs.Symbols.{Sym, Eols, Until, Items}
use Rattle.grammar.specs.Derives.{Derives, until-of, items-end, items-last, items-final, items-comma}
use Rattle.grammar.specs.Builders.{Shape, blank, only, more as longer, ending}
use Rattle.grammar.specs.Shape.{shape}
use Rattle.sound.proofs.Sound.{Spot, at, Claim, Seq, ◌▸◌, Gave, gave, answer, not-both, If, Star, halt, turn, Sound, gives, maps, ifs, binds, loops}
use Rattle.sound.proofs.SoundSteps.{Took, took, Ate, yes-ate, not-ate, Saw, yes-saw, not-saw, Lined, lined, Added, added-to, add-sound, check_sound, eat-sound, expect-sound, eat-eol-sound}
use Rattle.sound.proofs.SoundValues.{Value, value, joined}

-- a row of so many trees, with no last item
abbrev pub sofar : Trees → ℕ → Shape
sofar ts c = record { row = ts; count = c; last = None }

-- a row of items that has become what a shape says, on a stack. A count is kept in a word
pub record Rowed (ys : List ℕ) (m lo : ℕ) (i : Row) (f : Shape) (es : List Entry) : Type 0 where
  pub stack : Stack ys m (row lo i.kids.first i.kids.last f.row ∷ es)
  pub count : i.kids.count ≡ word32 f.count
  pub last : i.ended ≡ f.last

pub as-shape : {ys : List ℕ} {m lo : ℕ} {i : Row} {f g : Shape} {es : List Entry} → f ≡ g → Rowed ys m lo i f es → Rowed ys m lo i g es
as-shape {ys} {m} {lo} {i} {es = es} q r = subst (λ z. Rowed ys m lo i z es) q r

-- a derivation of a list: whatever the row holds already, it goes on as the derivation's shape does
pub data Listed (text : List ℕ) (z : Sym) (kids : Kids) : Spot → Spot → Row → Type 0 where
  listed : {p q : Place} {n m : ℕ} {xs ys : List ℕ} {j : Row} (d : Derives text z p q)
      → ((lo c : ℕ) (ts : Trees) (es : List Entry) → kids.count ≡ word32 c → Stack xs n (row lo kids.first kids.last ts ∷ es) → Rowed ys m lo j (shape d 0 (sofar ts c)) es)
      → Listed text z kids (at p n xs) (at q m ys) j

-- the Eols before a list
begun : {text : List ℕ} {x y : Sym} {end : ℕ} {kids : Kids} {p q : Place} {n : ℕ} {xs : List ℕ} {v : Spot} {j : Row} → Derives text Eols p q → Listed text (Items x y end) kids (at q n xs) v j → Listed text (Until x y end) kids (at p n xs) v j
unfolding shape
begun a (listed d f) = listed (until-of a d) f

-- a derivation of a last item, which is not counted
pub data Ended (text : List ℕ) (y : Sym) (i : Row) : Spot → Spot → Row → Type 0 where
  ended_by : {p q : Place} {n m : ℕ} {xs ys : List ℕ} {j : Row} (d : Derives text y p q)
      → ((lo c : ℕ) (ts : Trees) (es : List Entry) → i.kids.count ≡ word32 c → Stack xs n (row lo i.kids.first i.kids.last ts ∷ es) → Rowed ys m lo j (ending (sofar ts c) (shape d 0 blank)) es)
      → Ended text y i (at p n xs) (at q m ys) j

-- a claim where this kind stands at the beginning; one that holds anyway
pub data Given {A : Type 0} (k : ℕ) (X : Claim A) : Spot → Spot → A → Type 0 where
  given : {p : Place} {n : ℕ} {xs : List ℕ} {v : Spot} {a : A} → (Here k p → X (at p n xs) v a) → Given k X (at p n xs) v a

pub given-any : {A : Type 0} {k : ℕ} {X : Claim A} {u v : Spot} {a : A} → X u v a → Given k X u v a
given-any {u = at p n xs} c = given (λ _. c)

-- one more in a word, and flags over a count in a word
pub word_more : {k : ℕ} (c : ℕ) → k ≡ word32 c → word32 (k + 1) ≡ word32 (c + 1)
word_more c q = omega (arith, q)

pub word_flags : {k : ℕ} (c : ℕ) (one two : Bool) → k ≡ word32 c → flagged k 0 one two ≡ flagged c 0 one two
word_flags c one two q = go (bit one) (bit two) q
  where
    go : {k : ℕ} (a b : ℕ) → k ≡ word32 c → word32 (k + 2 ^ 15 * 0 + 2 ^ 30 * a + 2 ^ 31 * b) ≡ word32 (c + 2 ^ 15 * 0 + 2 ^ 30 * a + 2 ^ 31 * b)
    go a b q = omega (arith, q)

-- the flags of a list, as its shape has them
pub list-flags : {ys : List ℕ} {m lo : ℕ} {i : Row} {f : Shape} {es : List Entry} (two : Bool) → Rowed ys m lo i f es → flagged i.kids.count 0 (is_ended i.ended) two ≡ flagged f.count 0 (is_ended f.last) two
list-flags {i = i} {f = f} two r = word_flags f.count (is_ended i.ended) two r.count ∙ ap (λ z. flagged f.count 0 (is_ended z) two) r.last

module _ (e : Sheet) (x y : Sym) (end : ℕ) where
  -- what the rules below claim, word by word
  abbrev AfterItem : Kids → ℕ → Claim (Next Row)
  AfterItem kids r = Seq (Added kids r) (λ k. Seq (Lined e.text) (λ _. Seq (Ate end) (λ b. If b (Gave (stop (so k))) (Seq (Took kind.Comma) (λ _. Seq (Lined e.text) (λ _. Gave (more (so k))))))))

  abbrev LastItem : ℕ → Row → Claim Row
  LastItem last_kind i = Seq (Given last_kind (Ended e.text y i)) (λ j. Seq (Lined e.text) (λ _. Seq (Took end) (λ _. Gave j)))

  abbrev ItemTurn : ℕ → Row → Claim (Next Row)
  ItemTurn last_kind i = Seq (Ate end) (λ b. If b (Gave (stop i)) (Seq (Saw last_kind) (λ c. If c (Seq (LastItem last_kind i) (λ j. Gave (stop j))) (Seq (Value e.text x) (λ r. AfterItem i.kids r)))))

  -- an item and a comma, and the list from there on
  and_so : {p q r s t : Place} {n m a last : ℕ} {xs ys : List ℕ} {l : Label} {ks : Trees} {v : Spot} {j : Row} (kids : Kids) (d : Derives e.text x p q) → shape d 0 blank ≡ only (tree l ks)
      → ((es : List Entry) → Stack xs n es → Stack ys m (whole n a last l ks ∷ es)) → Derives e.text Eols q r → Tok kind.Comma r s → Derives e.text Eols s t
      → Listed e.text (Items x y end) (added kids a) (at t m (linked ys kids.last a)) v j → Listed e.text (Items x y end) kids (at p n xs) v j
  unfolding shape
  and_so {a = a} kids d same push b c g (listed more_of f) =
      listed (items-comma d b c g more_of) (λ lo n ts es k st. as-shape (ap (λ z. shape more_of 0 (longer (sofar ts n) z)) (sym same)) (f lo (n + 1) _ es (word_more n k) (joined kids a (push _ st))))

  -- a last item, and the end
  and_last : {u : Spot} {q r s : Place} {m : ℕ} {ys : List ℕ} {i j : Row} → Ended e.text y i u (at q m ys) j → Derives e.text Eols q r → Tok end r s → Listed e.text (Items x y end) i.kids u (at s m ys) j
  unfolding shape
  and_last (ended_by d f) a t = listed (items-last d a t) f

  -- the list from here on
  all : {last_kind : ℕ} {u v : Spot} {i j : Row} → i.ended ≡ None → Star (ItemTurn last_kind) i u v j → Listed e.text (Items x y end) i.kids u v j
  unfolding shape
  all q (halt (yes-ate t ▸ gave)) = listed (items-end t) (λ lo c ts es k st. record { stack = st; count = k; last = q })
  all q (halt (not-ate n ▸ yes-saw h ▸ (given f ▸ lined a ▸ took t ▸ gave) ▸ gave)) = and_last (f h) a t
  all {i = i} q (halt (not-ate n ▸ not-saw h ▸ value {a = r} d s push ▸ added-to ▸ lined a ▸ yes-ate t ▸ gave)) =
      listed (items-final d a t) (λ lo c ts es k st. as-shape (ap (λ z. longer (sofar ts c) z) (sym s)) (record { stack = joined i.kids r (push _ st); count = word_more c k; last = refl }))
  all {i = i} q (turn (not-ate n ▸ not-saw h ▸ value d s push ▸ added-to ▸ lined a ▸ not-ate o ▸ took t ▸ lined b ▸ gave) rest) = and_so i.kids d s push a t b (all refl rest)
  all q (halt (not-ate n ▸ not-saw h ▸ v ▸ added-to ▸ lined a ▸ not-ate o ▸ took t ▸ lined b ▸ g)) = absurd (not-both (answer g))
  all q (turn (not-ate n ▸ yes-saw h ▸ d ▸ g) rest) = absurd (not-both (sym (answer g)))
  all q (turn (yes-ate t ▸ g) rest) = absurd (not-both (sym (answer g)))
  all q (turn (not-ate n ▸ not-saw h ▸ v ▸ added-to ▸ lined a ▸ yes-ate t ▸ g) rest) = absurd (not-both (sym (answer g)))

  pub items-sound : (item : Rule ℕ) (last_kind : ℕ) (last : Row → Rule Row) → Takes e (item_turn e item last_kind last end) → Sound e (Value e.text x) item → ((i : Row) → Sound e (Given last_kind (Ended e.text y i)) (last i)) → (kids : Kids)
      → Sound e (Listed e.text (Until x y end) kids) (items_until_with_last e item last_kind last end kids)
  unfolding items_until_with_last item_turn last_item after_last one_item after_item shape
  items-sound item last_kind last takes sound sound-last kids = maps e (λ u v j c. go c) (binds e (eat-eol-sound e) (λ _. loops e takes turned (so kids)))
    where
      turned : (i : Row) → Sound e (ItemTurn last_kind i) (item_turn e item last_kind last end i)
      turned i = binds e (eat-sound e end) (λ b. ifs e b (gives e) (binds e (check_sound e last_kind) (λ c. ifs e c
          (binds e (binds e (sound-last i) (λ j. binds e (eat-eol-sound e) (λ _. binds e (expect-sound e end) (λ _. gives e)))) (λ j. gives e))
          (binds e sound (λ r. binds e (add-sound e i.kids r) (λ k. binds e (eat-eol-sound e) (λ _. binds e (eat-sound e end) (λ b. ifs e b (gives e) (binds e (expect-sound e kind.Comma) (λ _. binds e (eat-eol-sound e) (λ _. gives e)))))))))))

      go : {u v : Spot} {j : Row} → Seq (Lined e.text) (λ _. Star (ItemTurn last_kind) (so kids)) u v j → Listed e.text (Until x y end) kids u v j
      go (lined a ▸ r) = begun a (all refl r)

-- parse_items_until: the same without a last item
module _ (e : Sheet) (x y : Sym) (end : ℕ) where
  abbrev UntilTurn : Row → Claim (Next Row)
  UntilTurn i = Seq (Ate end) (λ b. If b (Gave (stop i)) (Seq (Value e.text x) (λ r. AfterItem e x y end i.kids r)))

  plain : {u v : Spot} {i j : Row} → i.ended ≡ None → Star UntilTurn i u v j → Listed e.text (Items x y end) i.kids u v j
  unfolding shape
  plain q (halt (yes-ate t ▸ gave)) = listed (items-end t) (λ lo c ts es k st. record { stack = st; count = k; last = q })
  plain {i = i} q (halt (not-ate n ▸ value {a = r} d s push ▸ added-to ▸ lined a ▸ yes-ate t ▸ gave)) =
      listed (items-final d a t) (λ lo c ts es k st. as-shape (ap (λ z. longer (sofar ts c) z) (sym s)) (record { stack = joined i.kids r (push _ st); count = word_more c k; last = refl }))
  plain {i = i} q (turn (not-ate n ▸ value d s push ▸ added-to ▸ lined a ▸ not-ate o ▸ took t ▸ lined b ▸ gave) rest) = and_so e x y end i.kids d s push a t b (plain refl rest)
  plain q (halt (not-ate n ▸ v ▸ added-to ▸ lined a ▸ not-ate o ▸ took t ▸ lined b ▸ g)) = absurd (not-both (answer g))
  plain q (turn (yes-ate t ▸ g) rest) = absurd (not-both (sym (answer g)))
  plain q (turn (not-ate n ▸ v ▸ added-to ▸ lined a ▸ yes-ate t ▸ g) rest) = absurd (not-both (sym (answer g)))

  pub until-sound : (item : Rule ℕ) → Takes e (until_turn e item end) → Sound e (Value e.text x) item → (kids : Kids) → Sound e (Listed e.text (Until x y end) kids) (items_until e item end kids)
  unfolding items_until until_turn one_item after_item shape
  until-sound item takes sound kids = maps e (λ u v j c. go c) (binds e (eat-eol-sound e) (λ _. loops e takes turned (so kids)))
    where
      turned : (i : Row) → Sound e (UntilTurn i) (until_turn e item end i)
      turned i = binds e (eat-sound e end) (λ b. ifs e b (gives e)
          (binds e sound (λ r. binds e (add-sound e i.kids r) (λ k. binds e (eat-eol-sound e) (λ _. binds e (eat-sound e end) (λ b. ifs e b (gives e) (binds e (expect-sound e kind.Comma) (λ _. binds e (eat-eol-sound e) (λ _. gives e)))))))))

      go : {u v : Spot} {j : Row} → Seq (Lined e.text) (λ _. Star UntilTurn (so kids)) u v j → Listed e.text (Until x y end) kids u v j
      go (lined a ▸ r) = begun a (plain refl r)
