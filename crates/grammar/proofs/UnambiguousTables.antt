-- The properties of a table are unambiguous, and each expression that starts where a key does ends at its Colon.
use Prim.Native.Nat.{ℕ}
use mathlib.Core.Path.{◌≡◌, refl, sym}
use mathlib.Core.List.{List}
use mathlib.Core.Bool.{true}
use Rattle.kinds.specs.Number as kind
use Rattle.cursor.specs.Node as node
use Rattle.grammar.specs.Places.{Place, start_of}
use Rattle.grammar.specs.Symbols.{Form, Key, Property, Prec}
use Rattle.grammar.specs.Derives.{Derives}
use Rattle.grammar.specs.Derives as g
use Rattle.grammar.specs.Builders.{over, couple}
use Rattle.grammar.specs.Shape.{shape}
use Rattle.grammar.specs.Words.{among}
use Rattle.grammar.proofs.FirstKinds.{apart}
use Rattle.grammar.proofs.Starts.{starts}
use Rattle.grammar.proofs.UnambiguousClaims.{Agree, Behind}
use Rattle.grammar.proofs.UnambiguousBelow.{Below}
use Rattle.grammar.proofs.UnambiguousTokens.{step, refuse, lit, value}
use Rattle.grammar.proofs.UnambiguousKeys.{ends_there}
use Rattle.grammar.proofs.UnambiguousAtoms.{atom}

module _ {text : List ℕ} where
  pub key : {p q u v : Place} (d : Derives text Key p q) → Below d → (e : Derives text Key u v) → p ≡ u → Agree d e
  unfolding shape among
  key (g.paren-key a d c k) b (g.paren-key a' d' c' k') e =
      let r = b.agrees d' (step a a' e) in
      let l = step c c' r.ends in
      record { ends = step k k' l; shapes = λ x so i. over node.Paren (start_of (e i)) (l i) (value r i) }
  key (g.paren-key a d c k) b (g.literal-key d' a') e = absurd (refuse (apart kind.OpenParen (starts d') refl) a.here (sym e))
  key (g.literal-key d a) b (g.paren-key a' d' c' k') e = absurd (refuse (apart kind.OpenParen (starts d) refl) a'.here e)
  key (g.literal-key d a) b (g.literal-key d' a') e = let r = lit d d' e in record { ends = step a a' r.ends; shapes = λ x so. value r }

  pub key-lead : {p q u v : Place} {f : Form} (d : Derives text Key p q) → Below d → Derives text (Prec 1 true f) u v → p ≡ u → Behind f v
  key-lead (g.paren-key a d c k) b x e = ends_there (record { agrees = atom (g.paren-expr a d c) b }) k.here x e
  key-lead (g.literal-key d a) b x e = ends_there (record { agrees = atom (g.atom-literal d) tt }) a.here x e

  pub property : {p q u v : Place} (d : Derives text Property p q) → Below d → (e : Derives text Property u v) → p ≡ u → Agree d e
  unfolding shape
  property (g.property d f) b (g.property d' f') e =
      let r = b.0.agrees d' e in
      let t = b.1.agrees f' r.ends in
      record { ends = t.ends; shapes = λ x so i. couple node.TableProperty (start_of (e i)) (t.ends i) (value r i) (value t i) }

  pub property-lead : {p q u v : Place} {f : Form} (d : Derives text Property p q) → Below d → Derives text (Prec 1 true f) u v → p ≡ u → Behind f v
  property-lead (g.property d f) b x e = b.0.lead x e
