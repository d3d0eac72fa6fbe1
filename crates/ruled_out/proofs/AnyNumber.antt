-- What a number comes to where an enum stands for it. Of a function of parts that goes by a place of a chain or by an item rule's number, whatever it is, there is one
-- beside it that goes by a value of an enum (`leaf` and `leaf_of`). For each, every number has a value at which the rule answers the same: so the two say as much.
-- Assumes nothing.
use Rattle.std.proofs.Common.{◌≡◌, ℕ, suc, zero, Bool, true, false, eqb, ltb, refl}
use Rattle.cursor.specs.declared.Kids.{Kids}
use Rattle.cursor.specs.Sheet.{Sheet}
use Rattle.parts.specs.declared.forms.Form.{Form}
use Rattle.parts.specs.declared.forms.Form.TheVariants as variants
use Rattle.parts.specs.declared.forms.Opening.{Opening}
use Rattle.parts.specs.declared.forms.Opening.TheVariants as openings
use Rattle.parts.specs.declared.forms.ItemRule.{ItemRule}
use Rattle.parts.specs.declared.forms.ItemRule.TheVariants as lists
use Rattle.parts.specs.Forms as forms
use Rattle.parts.specs.Forms.{place, opens, item_rule}
use Rattle.parts.specs.Members.{member_at}
use Rattle.parts.specs.Records.{round_record}
use Rattle.parts.specs.Steps as steps
use Rattle.parts.specs.Steps.{leaf, loop_names, meta_end, items_end}
use Rattle.parts.specs.Values.{atom_expr}

pub leaf-any : (e : Sheet) (from n : ℕ) → (f : Form) × (leaf e from n ≡ leaf e from (place f))
unfolding leaf
leaf-any e from n = by (eqb n forms.Break) refl
  where
    by : (b : Bool) → eqb n forms.Break ≡ b → (f : Form) × (leaf e from n ≡ leaf e from (place f))
    by true p = (variants.Break, rw p refl)
    by false p = (variants.Continue, rw p refl)

pub loop-names-any : (e : Sheet) (n : ℕ) → (f : Form) × (loop_names e n ≡ loop_names e (place f))
unfolding loop_names
loop-names-any e n = by (eqb n forms.While) refl
  where
    by : (b : Bool) → eqb n forms.While ≡ b → (f : Form) × (loop_names e n ≡ loop_names e (place f))
    by true p = (variants.While, rw p refl)
    by false p = (variants.For, rw p refl)

pub round-record-any : (from n names : ℕ) (kids : Kids) → (f : Form) × (round_record from n names kids ≡ round_record from (place f) names kids)
unfolding round_record
round-record-any from n names kids = by (eqb n forms.While) refl
  where
    by : (b : Bool) → eqb n forms.While ≡ b → (f : Form) × (round_record from n names kids ≡ round_record from (place f) names kids)
    by true p = (variants.While, rw p refl)
    by false p = (variants.For, rw p refl)

pub atom-expr-any : (n link : ℕ) → (f : Form) × (atom_expr n link ≡ atom_expr (place f) link)
atom-expr-any n link = by (eqb n forms.Ident) refl
  where
    by : (b : Bool) → eqb n forms.Ident ≡ b → (f : Form) × (atom_expr n link ≡ atom_expr (place f) link)
    by true p = (variants.Ident, rw (atom_expr, p) refl)
    by false p = (variants.OpenParen, rw (atom_expr, p) refl)

pub meta-end-any : (e : Sheet) (n : ℕ) → (o : Opening) × (meta_end e n ≡ meta_end e (opens o))
unfolding meta_end
meta-end-any e n = by (ltb 0 n) refl
  where
    by : (b : Bool) → ltb 0 n ≡ b → (o : Opening) × (meta_end e n ≡ meta_end e (opens o))
    by true p = (openings.Dot, rw p refl)
    by false p = (openings.Bracket, rw p refl)

-- past the chain the member's number is that of `[x]`, meta or not
pub member-at-any : (n : ℕ) (meta : Bool) → (o : Opening) × (m : Bool) × (member_at n meta ≡ member_at (opens o) m)
member-at-any zero meta = (openings.Bracket, meta, refl)
member-at-any (suc zero) meta = (openings.Dot, meta, refl)
member-at-any (suc (suc zero)) meta = (openings.DoubleColon, meta, refl)
member-at-any (suc (suc (suc n))) true = (openings.Bracket, false, refl)
member-at-any (suc (suc (suc n))) false = (openings.Bracket, false, refl)

pub items-end-any : (n : ℕ) → (r : ItemRule) × (items_end n ≡ items_end (item_rule r))
unfolding items_end
items-end-any n = by (eqb n steps.Arguments) refl (eqb n steps.Elements) refl
  where
    by : (a : Bool) → eqb n steps.Arguments ≡ a → (b : Bool) → eqb n steps.Elements ≡ b → (r : ItemRule) × (items_end n ≡ items_end (item_rule r))
    by true p b q = (lists.Arguments, rw (items_end, p) refl)
    by false p true q = (lists.Elements, rw (items_end, p, q) refl)
    by false p false q = (lists.Properties, rw (items_end, p, q) refl)
