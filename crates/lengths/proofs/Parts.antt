-- Records over the parts of a production, where more than one place needs them or a case has to be told.
use Rattle.std.specs.Prelude.{Result, Ok, Err}
use Prim.Native.Nat.{ℕ, ◌^◌, ◌<◌}
use native.Mathlib.Omega.{arith}
use mathlib.Core.Path.{◌≡◌, refl, sym, ap}
use mathlib.Core.List.{List, [], ◌∷◌}
use mathlib.Core.Bool.{Bool, true, false}
use lib.Dec.{eqb}
use Rattle.kinds.specs.Number as kind
use Rattle.cursor.specs.declared.Label.{Label}
use Rattle.cursor.specs.declared.Span.{Span}
use Rattle.cursor.specs.Sheet.{Ranged}
use Rattle.cursor.specs.Node as node
use Rattle.cursor.specs.Tree.{Trees, none, tree}
use Rattle.ints.specs.declared.Int.{Int}
use Rattle.ints.specs.declared.IntFault.{IntFault}
use Rattle.ints.specs.Answer.{int_of}
use Rattle.kinds.specs.Text.{part}
use Rattle.types.specs.declared.lits.Literal.{Literal}
use Rattle.types.specs.declared.lits.Literal.TheVariants as literals
use Rattle.types.specs.Items.{is_ended}
use Rattle.types.specs.Lits.{literal, int_literal, int_by, leaf, when}
use Rattle.parts.specs.Records.{function_kind}
use Rattle.grammar.specs.Places.{Place}
use Rattle.grammar.specs.Symbols.{Form, Call, Ident}
use Rattle.grammar.specs.Derives.{Derives}
use Rattle.grammar.specs.Derives as by
use Rattle.grammar.specs.Builders.{Shape, blank, signature, fn_over, import_over, call_over, member_over, several_over, some as there}
use Rattle.grammar.specs.Shape.{shape}
use Rattle.lengths.specs.Flags.{unpack, flags}
use Rattle.lengths.specs.Sorts.{Of}
use Rattle.lengths.specs.Sorts as sort
use Rattle.lengths.specs.Children.{each, some, property_of, find, row_of}
use Rattle.lengths.specs.Told.{Told, no_more, no_more_of, one_of}
use Rattle.lengths.proofs.Rows.{Single, ◌▹◌}
use Rattle.lengths.proofs.Nodes.{recorded, counted, signed, Formed, as_call, anyhow}

-- a literal is a leaf of one of six kinds; its flags, 0 or 1, are a number of the kind's own
record Leaf (l : Label) : Type 0 where
  of : Of sort.Literal l.kind
  names : (row_of l.kind (unpack l.flags)).names ≡ unpack l.flags
  parts : (row_of l.kind (unpack l.flags)).parts ≡ []

abbrev Leaves : Literal → Type 0
Leaves (literals.Value l) = Leaf l
Leaves (literals.Faulty n) = Unit {0}
Leaves literals.Nothing = Unit {0}

int-leaves : (a : Result Int IntFault) (r : Span) → Leaves (int_by a r)
unfolding row_of find unpack
int-leaves (Ok n) r = record { of = sort.int; names = refl; parts = refl }
int-leaves (Err f) r = tt

choice : (b : Bool) (x y : Literal) → Leaves x → Leaves y → Leaves (when b x y)
choice true x y a b = a
choice false x y a b = b

leaves : (text : List ℕ) (k : ℕ) (r : Span) → Leaves (literal text k r)
unfolding literal int_literal row_of find unpack
leaves text k r =
    choice (eqb k kind.Int) _ _ (int-leaves (int_of (part text r.start r.end)) r)
    (choice (eqb k kind.Float) (leaf node.Float r 0) _ (record { of = sort.float; names = refl; parts = refl })
    (choice (eqb k kind.Str) (leaf node.Str r 0) _ (record { of = sort.str; names = refl; parts = refl })
    (choice (eqb k kind.RawStr) (leaf node.Str r 1) _ (record { of = sort.str; names = refl; parts = refl })
    (choice (eqb k kind.ByteStr) (leaf node.Bytes r 0) _ (record { of = sort.bytes; names = refl; parts = refl })
    (choice (eqb k kind.Null) (leaf node.Null r 0) _ (record { of = sort.null; names = refl; parts = refl })
    (choice (eqb k kind.True) (leaf node.Bool r 1) _ (record { of = sort.bool; names = refl; parts = refl })
    (choice (eqb k kind.False) (leaf node.Bool r 0) literals.Nothing (record { of = sort.bool; names = refl; parts = refl }) tt)))))))

pub literal-told : (text : List ℕ) (k : ℕ) (r : Span) {l : Label} → literal text k r ≡ literals.Value l → Single sort.Literal (tree l none)
literal-told text k r {l} e = let h = leaves text k r in go (rw e at h)
  where
    go : Leaf l → Single sort.Literal (tree l none)
    go f = one_of {l = l} {ks = none} f.of f.names (rw f.parts no_more) (no_more_of no_more)

-- parameters and a returned type, behind them a body
module _ {from : ℕ} (q : Place) (i r : Shape) {body : Trees} (few : i.count < 2 ^ 15) where
  pub function-told : (closure : Bool) → Told (each i.count sort.Typed ∷ some (is_ended i.last) sort.Typed ∷ []) i.row → Told (some (there r.row) sort.Ty ∷ []) r.row → Single sort.Block body
      → Single sort.Function (signature (function_kind closure) from q i r body).row
  unfolding row_of find
  function-told true x y z = counted (is_ended i.last) (there r.row) sort.closure few refl (x ▹ (y ▹ z))
  function-told false x y z = counted (is_ended i.last) (there r.row) sort.function few refl (x ▹ (y ▹ z))

-- a Fn with or without a name
pub fn-told : {from : ℕ} (q : Place) (glo : Ranged) {name : Trees} (f : Shape) → Told (some (there name) sort.Name ∷ []) name → Single sort.Function f.row → Single sort.Expression (fn_over from q glo name f).row
unfolding row_of find
fn-told q glo {name} f x y = signed (is_ended glo) (there name) sort.fn-expr refl (x ▹ y)

-- an import with an alias, which is one name and no item
pub import-as : {text : List ℕ} {x : ℕ} {p q : Place} (r : Place) (names : Shape) (d : Derives text Ident p q) → names.count < 2 ^ 15 → Told (each names.count sort.Name ∷ []) names.row
    → Single sort.Name (shape d 0 blank).row → Single sort.Statement (import_over x r names (shape d 0 blank) true false).row
unfolding shape row_of find
import-as r names (by.an-ident a) few t d = counted true false sort.import-stmt few refl (t ▹ d)

-- a Call with or without a trailing lambda
pub call-told : {from : ℕ} (q : Place) {f : Form} (so i : Shape) {lambda : Trees} → i.count < 2 ^ 15 → Formed f so.row → Told (each i.count sort.Expression ∷ []) i.row
    → Told (some (there lambda) sort.Lambda ∷ []) lambda → Formed Call (call_over from q so i lambda).row
call-told q so i {lambda} few x y z = as_call (there lambda) few (anyhow x ▹ (y ▹ z))

-- a member, by its number
pub member-told : {from n : ℕ} (q : Place) (safe : Ranged) {f : Form} (so sh : Shape) → Formed f so.row → (n < 2 ^ 15) × Told (property_of n) sh.row → Single sort.Member (member_over from q safe n so sh).row
unfolding row_of find
member-told q safe so sh x y = counted (is_ended safe) false sort.member y.0 refl (anyhow x ▹ y.1)

-- several left sides over as many right sides
pub several-told : {from : ℕ} (q : Place) (l r : Shape) → l.count < 2 ^ 15 → r.count ≡ l.count → Told (each l.count sort.Left ∷ []) l.row → Told (each r.count sort.Expression ∷ []) r.row
    → Single sort.Statement (several_over from q l r).row
unfolding row_of find
several-told q l r few e x y = recorded false false sort.assign-multi few (omega (arith, few, e)) (ap (λ m. flags l.count m false false) (sym e)) (x ▹ y)
