-- What the parts of a production add that are no plain token and no row: Eols, a literal, a name, a type word, and what is laid over a block
-- or joins a Call.
use Rattle.std.specs.Prelude.{Some, None, Option, Result, Ok, Err}
use Prim.Native.Nat.{ℕ}
use mathlib.Core.Path.{◌≡◌, refl, sym, ap, subst}
use native.Mathlib.Omega.{arith}
use mathlib.Core.List.{List}
use mathlib.Core.Bool.{Bool, true, false}
use lib.Dec.{eqb}
use borrow.Author.Tests.{eqb-true}
use Rattle.kinds.specs.Number as kind
use Rattle.kinds.specs.Text.{part}
use Rattle.kinds.specs.TypeWords.{type_word}
use Rattle.ints.specs.declared.Int.{Int}
use Rattle.ints.specs.declared.IntFault.{IntFault}
use Rattle.ints.specs.Answer.{int_of}
use Rattle.cursor.specs.declared.Label.{Label}
use Rattle.cursor.specs.declared.Span.{Span}
use Rattle.cursor.specs.Node as node
use Rattle.cursor.specs.Tree.{Trees, none, tree}
use Rattle.types.specs.declared.lits.Literal.{Literal}
use Rattle.types.specs.declared.lits.Literal.TheVariants as literals
use Rattle.types.specs.Lits.{literal, int_literal, int_by, when}
use Rattle.parts.specs.Records.{function_kind}
use Rattle.parts.specs.Steps.{checked_by, checked_type}
use Rattle.grammar.specs.Places.{Place, kind_of, span_of, start_of, after, Tok}
use Rattle.grammar.specs.Symbols.{Call, Eols, Lit, Block}
use Rattle.grammar.specs.Derives.{Derives}
use Rattle.grammar.specs.Derives as by
use Rattle.grammar.specs.Builders.{Shape, blank, covered, handled}
use Rattle.grammar.specs.Shape.{shape}
use Rattle.grammar.specs.Words.{among, word_kinds, word_records}
use Rattle.grammar.proofs.FirstKinds.{lits}
use Rattle.grammar.proofs.Starts.{starts}
use Rattle.grammar.proofs.WordsOfTokens.{word_end}
use Rattle.grammar.proofs.WordsOf.{Adds, still, ◌▹◌, also, token, Plain, under, inside, Word, word, type-word}
use Rattle.grammar.proofs.WordsOfCalls.{One, one}

pub eols : {text : List ℕ} {a : Trees} {p q : Place} → Derives text Eols p q → Adds a a p q
unfolding among
eols (by.no-eol h) = still
eols (by.an-eol a d) = token a refl ▹ eols d

-- the kinds of literals are words
literal-kind : (k : ℕ) → among k lits ≡ true → among k word_kinds ≡ true
unfolding among
literal-kind k e = go (eqb k kind.Ident)
  where
    go : (b : Bool) → elim b as (λ _. Bool) [ true ↦ true | false ↦ among k lits ] ≡ true
    go true = refl
    go false = e

-- the record of a literal is a word with the token's range
module _ (text : List ℕ) (k : ℕ) (r : Span) (l : Label) where
  same-label : (m : Label) → Word m r.start r.end → literals.Value m ≡ literals.Value l → Word l r.start r.end
  same-label m w q = let e : m ≡ l = cc in subst (λ z. Word z r.start r.end) e w

  leaf-word : (j flags : ℕ) → among j word_records ≡ true → eqb j node.TypeCheck ≡ false → literals.Value (record { kind = j; start = r.start; end = r.end; one = 0; two = 0; flags = flags }) ≡ literals.Value l → Word l r.start r.end
  leaf-word j flags own other = same-label _ (record { own = own; other = other; from = refl; to = refl })

  int_word : (a : Result Int IntFault) → int_by a r ≡ literals.Value l → Word l r.start r.end
  unfolding among
  int_word (Ok n) q = same-label _ (record { own = refl; other = refl; from = refl; to = refl }) q
  int_word (Err f) q = absurd (never q)
    where
      never : {n : ℕ} → literals.Faulty n ≡ literals.Value l → ⊥
      never q = let z : ◌≡◌ {A = ℕ} 0 1 = cc in omega arith

  literal-word : literal text k r ≡ literals.Value l → Word l r.start r.end
  unfolding literal int_literal among
  literal-word =
      step (eqb k kind.Int) (int_word (int_of (part text r.start r.end)))
      (step (eqb k kind.Float) (leaf-word _ _ refl refl)
      (step (eqb k kind.Str) (leaf-word _ _ refl refl)
      (step (eqb k kind.RawStr) (leaf-word _ _ refl refl)
      (step (eqb k kind.ByteStr) (leaf-word _ _ refl refl)
      (step (eqb k kind.Null) (leaf-word _ _ refl refl)
      (step (eqb k kind.True) (leaf-word _ _ refl refl)
      (step (eqb k kind.False) (leaf-word _ _ refl refl) never)))))))
    where
      step : (b : Bool) {m n : Literal} → (m ≡ literals.Value l → Word l r.start r.end) → (n ≡ literals.Value l → Word l r.start r.end) → when b m n ≡ literals.Value l → Word l r.start r.end
      step true f g = f
      step false f g = g

      never : literals.Nothing ≡ literals.Value l → Word l r.start r.end
      never q = absurd (let z : ◌≡◌ {A = ℕ} 0 1 = cc in omega arith)

pub literal-adds : (text : List ℕ) (p q : Place) (l : Label) → literal text (kind_of p) (span_of p) ≡ literals.Value l → after p ≡ q → Adds none (tree l none) p q
literal-adds text p q l a b =
    let d : Derives text Lit p q = by.a-literal a b in
    let e : among (kind_of p) word_kinds ≡ true = literal-kind (kind_of p) (starts d).first in
    word e b (subst (λ n. Word l (start_of p) n) (word_end p q e b) (literal-word text (kind_of p) (span_of p) l a))

pub ident-adds : {p q : Place} → Tok kind.Ident p q → Adds none (tree (record { kind = node.Ident; start = start_of p; end = q.prev; one = 0; two = 0; flags = 0 }) none) p q
unfolding among
ident-adds t = word (ap (λ k. among k word_kinds) t.here) t.next (record { own = refl; other = refl; from = refl; to = refl })

-- a token that names a type is null or a name
checked-kind : (text : List ℕ) (k : ℕ) (r : Span) (n : ℕ) → checked_type text k r ≡ Some n → among k word_kinds ≡ true
unfolding checked_type among
checked-kind text k r n = go (eqb k kind.Null) refl (eqb k kind.Ident) refl
  where
    go : (b : Bool) → eqb k kind.Null ≡ b → (c : Bool) → eqb k kind.Ident ≡ c
        → elim b as (λ _. Option ℕ) [ true ↦ Some 0 | false ↦ elim c as (λ _. Option ℕ) [ true ↦ checked_by (type_word (part text r.start r.end)) | false ↦ None ] ] ≡ Some n → among k word_kinds ≡ true
    go true q c u e = ap (λ j. among j word_kinds) (eqb-true k kind.Null q)
    go false q true u e = ap (λ j. among j word_kinds) (eqb-true k kind.Ident u)
    go false q false u e = absurd (let z : ◌≡◌ {A = ℕ} 0 1 = cc in omega arith)

pub checked-adds : {ks : Trees} (text : List ℕ) (p q : Place) (x n : ℕ) → checked_type text (kind_of p) (span_of p) ≡ Some n → after p ≡ q
    → Adds ks (tree (record { kind = node.TypeCheck; start = x; end = q.prev; one = n; two = start_of p; flags = 0 }) ks) p q
checked-adds text p q x n c b = type-word x n 0 (checked-kind text (kind_of p) (span_of p) n c) b

pub function-plain : (closure : Bool) → Plain (function_kind closure)
unfolding among
function-plain true = (refl, refl)
function-plain false = (refl, refl)

-- a block with a record over it that is no word
pub over-block : {text : List ℕ} {p q : Place} (k : ℕ) → Plain k → (d : Derives text Block p q) → Adds none (shape d 0 blank).row p q → Adds none (covered k (shape d 0 blank).row) p q
unfolding shape
over-block k e (by.block_of a d) x = under _ x e

-- handlers join the Call before them
pub handlers-join : {t : Trees} {p q r : Place} (i : Shape) → One Call t → Adds none t p q → Adds none i.row q r → Adds none (handled t i) p r
unfolding among
handlers-join i (one l ks c) x y =
    let e : Plain l.kind = subst (λ k. Plain k) (sym c) (refl, refl) in
    under _ (inside e x ▹ also y) e
