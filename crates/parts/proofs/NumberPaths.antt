-- What goes by a place of a chain or by an item rule's number, at a number past the last one: it answers as at a place that it doesn't ask for. What a member's kind
-- is there says `kind-none` of RecordPaths.
-- Assumes nothing.
use Rattle.std.proofs.Common.{◌≡◌, ℕ, ◌≤◌, ne_eqb, lt-ltb, arith, refl}
use Rattle.cursor.specs.declared.State.{State}
use Rattle.cursor.specs.declared.Kids.{Kids}
use Rattle.cursor.specs.Sheet.{Sheet}
use Rattle.cursor.specs.Rule.{World}
use Rattle.parts.specs.declared.values.Expr.TheVariants as exprs
use Rattle.parts.specs.Forms as forms
use Rattle.parts.specs.Records.{round_record}
use Rattle.parts.specs.Steps.{items_end, meta_end, leaf, loop_names}
use Rattle.parts.specs.Values.{atom_expr}

-- past the forms of an atom
module _ (n : ℕ) (h : 15 ≤ n) where
  pub leaf-past : (e : Sheet) (from : ℕ) (s : State) (w : World) → leaf e from n s w ≡ leaf e from forms.Continue s w
  unfolding leaf
  leaf-past e from s w = rw (ne_eqb n forms.Break (omega (arith, h))) refl

  pub names-past : (e : Sheet) (s : State) (w : World) → loop_names e n s w ≡ loop_names e forms.For s w
  unfolding loop_names
  names-past e s w = rw (loop_names, ne_eqb n forms.While (omega (arith, h))) refl

  pub round-past : (from names : ℕ) (kids : Kids) (s : State) (w : World) → round_record from n names kids s w ≡ round_record from forms.For names kids s w
  unfolding round_record
  round-past from names kids s w = rw (round_record, ne_eqb n forms.While (omega (arith, h))) refl

  pub atom-past : (link : ℕ) → atom_expr n link ≡ exprs.Other link
  atom-past link = rw (atom_expr, ne_eqb n forms.Ident (omega (arith, h))) refl

-- past the openings of a member
pub meta-past : (n : ℕ) → 3 ≤ n → (e : Sheet) (s : State) (w : World) → meta_end e n s w ≡ meta_end e 1 s w
unfolding meta_end
meta-past n h e s w = rw (meta_end, lt-ltb 0 n (omega (arith, h))) refl

-- past the item rules of lists
pub end-past : (n : ℕ) → 2 ≤ n → items_end n ≡ items_end 2
unfolding items_end
end-past n h = rw (items_end, ne_eqb n 0 (omega (arith, h)), ne_eqb n 1 (omega (arith, h))) refl
