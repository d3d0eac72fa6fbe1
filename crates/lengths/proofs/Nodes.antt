-- Records that are told: from their flags and their children.
use Prim.Native.Nat.{ℕ, ◌+◌, ◌^◌, ◌<◌}
use borrow.Author.Tests.{ltb-true}
use mathlib.Core.Path.{◌≡◌, refl}
use mathlib.Core.List.{[], ◌∷◌}
use mathlib.Core.Bool.{Bool, false}
use Rattle.cursor.specs.declared.Label.{Label}
use Rattle.cursor.specs.Node as node
use Rattle.cursor.specs.Tree.{Trees, join, tree}
use Rattle.cursor.specs.Records.{flagged}
use Rattle.grammar.specs.Symbols.{Form, Name, NameMember, Call, Other, member_of, Assignable, a-name, a-member}
use Rattle.grammar.specs.Builders.{Shape, covered, handled, some as there}
use Rattle.lengths.specs.Flags.{Flags, unpack, flags}
use Rattle.lengths.specs.Sorts.{Sort, Of}
use Rattle.lengths.specs.Sorts as sort
use Rattle.lengths.specs.Children.{each, one, some, find, row_of}
use Rattle.lengths.specs.Told.{Told, no_more, no_more_of, one_of}
use Rattle.lengths.proofs.Unpack.{unpacked, handled-unpacked}
use Rattle.lengths.proofs.Rows.{Single, ◌▹◌, empty-behind, longer, wider}

by_flags : {s : Sort} {l : Label} {ks : Trees} {f : Flags} → unpack l.flags ≡ f → Of s l.kind → (row_of l.kind f).names ≡ f → Told (row_of l.kind f).parts ks → Single s (tree l ks)
by_flags {l = l} {ks = ks} e o r k = one_of {l = l} {ks = ks} o (rw e r) (rw e k) (no_more_of no_more)

module _ {s : Sort} {k from till one two : ℕ} {ks : Trees} where
  -- a record with flags: two lengths and two flags, or one length
  pub recorded : {n m : ℕ} (a b : Bool) → Of s k → n < 2 ^ 15 → m < 2 ^ 15 → (row_of k (flags n m a b)).names ≡ flags n m a b → Told (row_of k (flags n m a b)).parts ks
      → Single s (tree (record { kind = k; start = from; end = till; one = one; two = two; flags = flagged n m a b }) ks)
  recorded {n} {m} a b o i j r t = by_flags (unpacked n m i j a b) o r t

  pub counted : {n : ℕ} (a b : Bool) → Of s k → n < 2 ^ 15 → (row_of k (flags n 0 a b)).names ≡ flags n 0 a b → Told (row_of k (flags n 0 a b)).parts ks
      → Single s (tree (record { kind = k; start = from; end = till; one = one; two = two; flags = flagged n 0 a b }) ks)
  counted a b o i r t = recorded a b o i (ltb-true _ _ refl) r t

  -- with one length alone
  pub rowed : {n : ℕ} → Of s k → n < 2 ^ 15 → (row_of k (flags n 0 false false)).names ≡ flags n 0 false false → Told (row_of k (flags n 0 false false)).parts ks
      → Single s (tree (record { kind = k; start = from; end = till; one = one; two = two; flags = flagged n 0 false false }) ks)
  rowed o i r t = counted false false o i r t

  -- with flags alone, and with neither
  pub signed : (a b : Bool) → Of s k → (row_of k (flags 0 0 a b)).names ≡ flags 0 0 a b → Told (row_of k (flags 0 0 a b)).parts ks
      → Single s (tree (record { kind = k; start = from; end = till; one = one; two = two; flags = flagged 0 0 a b }) ks)
  signed a b o r t = counted a b o (ltb-true _ _ refl) r t

  pub plain : Of s k → (row_of k (flags 0 0 false false)).names ≡ flags 0 0 false false → Told (row_of k (flags 0 0 false false)).parts ks
      → Single s (tree (record { kind = k; start = from; end = till; one = one; two = two; flags = 0 }) ks)
  unfolding unpack
  plain o r t = by_flags refl o r t

-- what may be there is, or is not
pub optional : {s : Sort} {t : Trees} → Single s t → Told (some (there t) s ∷ []) t
optional (one_of o r k x) = one_of o r k x

-- a record over a block, of its range: a trailing lambda's, and that of an `else`
pub lambda-over : {t : Trees} → Single sort.Block t → Single sort.Lambda (covered node.Closure t)
unfolding row_of find
lambda-over (one_of o r k (no_more_of no_more)) = plain sort.lambda refl (no_more_of (no_more_of (no_more_of (one_of o r k (no_more_of no_more)))))

pub else-over : {t : Trees} → Single sort.Block t → Single sort.Expression (covered node.ExprBlock t)
unfolding row_of find
else-over (one_of o r k (no_more_of no_more)) = plain sort.expr-block refl (one_of o r k (no_more_of no_more))

-- one more behind a first one of another sort
pub longer-behind : {s t : Sort} {n : ℕ} {a b : Trees} → Told (one s ∷ each n t ∷ []) a → Single t b → Told (one s ∷ each (n + 1) t ∷ []) (join a b)
unfolding join
longer-behind (one_of o r k (no_more_of x)) y = one_of o r k (no_more_of (longer x y))

-- an expression by its form. A Call has no handlers yet
pub data Formed : Form → Trees → Type 0 where
  as-name : {t : Trees} → Single sort.Name t → Formed Name t
  as_member : {t : Trees} → Single sort.Member t → Formed NameMember t
  as_call : {from till n : ℕ} (lambda : Bool) {ks : Trees} → n < 2 ^ 15 → Told (one sort.Expression ∷ each n sort.Expression ∷ some lambda sort.Lambda ∷ []) ks
      → Formed Call (tree (record { kind = node.Call; start = from; end = till; one = 0; two = 0; flags = flagged n 0 lambda false }) ks)
  as-other : {t : Trees} → Single sort.Expression t → Formed Other t

pub anyhow : {f : Form} {t : Trees} → Formed f t → Single sort.Expression t
unfolding row_of find
anyhow (as-name x) = wider (λ k o. sort.a-name o) x
anyhow (as_member x) = wider (λ k o. sort.a-member o) x
anyhow (as_call lambda i x) = counted lambda false (sort.a_call sort.call) i refl (empty-behind x (no_more_of no_more))
anyhow (as-other x) = x

pub as-left : {f : Form} {t : Trees} → Assignable f → Formed f t → Single sort.Left t
as-left a-name (as-name x) = wider (λ k o. sort.left-name o) x
as-left a-member (as_member x) = wider (λ k o. sort.left-member o) x

pub name_of : {t : Trees} → Formed Name t → Single sort.Name t
name_of (as-name x) = x

pub member-formed : (f : Form) {t : Trees} → Single sort.Member t → Formed (member_of f) t
member-formed Name x = as_member x
member-formed NameMember x = as-other (wider (λ k o. sort.a-member o) x)
member-formed Call x = as-other (wider (λ k o. sort.a-member o) x)
member-formed Other x = as-other (wider (λ k o. sort.a-member o) x)

-- handlers join a Call
pub handlers-join : {t : Trees} (i : Shape) → i.count < 2 ^ 15 → Formed Call t → Told (each i.count sort.Handler ∷ []) i.row → Single sort.Expression (handled t i)
unfolding row_of find
handlers-join i few (as_call {n = n} lambda h x) y = by_flags (handled-unpacked n i.count h few lambda) (sort.a_call sort.call) refl (x ▹ y)
