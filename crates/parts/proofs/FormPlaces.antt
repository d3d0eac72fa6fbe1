-- No two forms of an atom have one place, and no two ways to begin a member, and no two item rules one number.
-- Assumes nothing.
use Rattle.std.proofs.Common.{◌≡◌, ℕ, refl, sym, ap, ◌∙◌, [], ◌∷◌, get_or}
use Rattle.parts.specs.declared.forms.Form.{Form}
use Rattle.parts.specs.declared.forms.Form.TheVariants as forms
use Rattle.parts.specs.declared.forms.Opening.{Opening}
use Rattle.parts.specs.declared.forms.Opening.TheVariants as openings
use Rattle.parts.specs.declared.forms.ItemRule.{ItemRule}
use Rattle.parts.specs.declared.forms.ItemRule.TheVariants as lists
use Rattle.parts.specs.Forms.{place, opens, item_rule}

abbrev form : ℕ → Form
form n = get_or (forms.OpenParen ∷ forms.Ident ∷ forms.OpenBrace ∷ forms.OpenBracket ∷ forms.Fn ∷ forms.VBar ∷ forms.Do ∷ forms.If ∷ forms.Match ∷ forms.Loop ∷ forms.While ∷ forms.For ∷ forms.Break ∷ forms.Continue ∷ forms.Return ∷ []) n forms.OpenParen

back : (f : Form) → form (place f) ≡ f
back forms.OpenParen = refl
back forms.Ident = refl
back forms.OpenBrace = refl
back forms.OpenBracket = refl
back forms.Fn = refl
back forms.VBar = refl
back forms.Do = refl
back forms.If = refl
back forms.Match = refl
back forms.Loop = refl
back forms.While = refl
back forms.For = refl
back forms.Break = refl
back forms.Continue = refl
back forms.Return = refl

pub one-place : (f g : Form) → place f ≡ place g → f ≡ g
one-place f g p = sym (back f) ∙ ap form p ∙ back g

abbrev opening : ℕ → Opening
opening n = get_or (openings.Bracket ∷ openings.Dot ∷ openings.DoubleColon ∷ []) n openings.Bracket

opened : (o : Opening) → opening (opens o) ≡ o
opened openings.Bracket = refl
opened openings.Dot = refl
opened openings.DoubleColon = refl

pub one-opening : (o p : Opening) → opens o ≡ opens p → o ≡ p
one-opening o p q = sym (opened o) ∙ ap opening q ∙ opened p

abbrev listed : ℕ → ItemRule
listed n = get_or (lists.Arguments ∷ lists.Elements ∷ lists.Properties ∷ []) n lists.Arguments

numbered : (r : ItemRule) → listed (item_rule r) ≡ r
numbered lists.Arguments = refl
numbered lists.Elements = refl
numbered lists.Properties = refl

pub one-rule : (r t : ItemRule) → item_rule r ≡ item_rule t → r ≡ t
one-rule r t q = sym (numbered r) ∙ ap listed q ∙ numbered t
