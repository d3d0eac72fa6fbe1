-- Atoms: parse_expr_atom. An atom is a plain name, or none of the other forms that are asked for.
use mathlib.Core.Path.{refl, ap}
use mathlib.Core.List.{List}
use mathlib.Core.Bool.{Bool, true, false}
use Prim.Native.Nat.{ℕ}
use Rattle.kinds.specs.Number as kind
use Rattle.cursor.specs.declared.State.{State}
use Rattle.cursor.specs.Node as node
use Rattle.cursor.specs.Sheet.{Sheet}
use Rattle.cursor.specs.Rule.{Rule}
use Rattle.cursor.specs.Records.{no_kids, flagged}
use Rattle.cursor.specs.Tree.{none}
use Rattle.cursor.proofs.Keeps.{mark, Keeps, Plain}
use Rattle.cursor.proofs.Grows.{begin, as_row}
use Rattle.parts.specs.declared.values.Expr.{Expr}
use Rattle.parts.specs.declared.values.Expr.TheVariants as forms
use Rattle.parts.specs.Records.{list_record}
use Rattle.rules.specs.Inner.{expr}
use Rattle.rules.specs.Levels.{levels}
use Rattle.rules.specs.Tables.{key}
use Rattle.rules.specs.Atoms.{paren_expr, list_expr, return_expr, break_expr, continue_expr, other, atom_cases, atom}
use Rattle.grammar.specs.Places.{Place, start_of, Here}
use Rattle.grammar.specs.Symbols.{Other, Until, NoLast, Lit, Ident, Exprs, Atom, Expr as Whole}
use Rattle.grammar.specs.Derives.{paren-expr, name, list, atom-literal, break-expr, continue-expr, return-expr}
use Rattle.grammar.specs.Builders.{over}
use Rattle.grammar.specs.Shape.{shape}
use Rattle.sound.proofs.Sound.{Spot, at, Claim, Seq, ◌▸◌, Gave, gave, Sound, gives, maps, binds}
use Rattle.sound.proofs.SoundSteps.{Bumped, bumped, Took, took, Way, this-one, later-one, bump-sound, expect-sound, way, otherwise, chooses}
use Rattle.sound.proofs.SoundValues.{Value, value, wrapped, relabel, Started, started, labelled, Closed, closed, start-sound, close-sound, ident-sound, lit-sound, closing}
use Rattle.sound.proofs.SoundItems.{Listed, listed, word_flags}
use Rattle.sound.proofs.SoundNames.{Rowing}
use Rattle.sound.proofs.SoundExprs.{fits-name, fits-other, Expressed, expressed}
use Rattle.sound.proofs.SoundTables.{elements-sound, Braced, brace-sound, brace-read}
use Rattle.sound.proofs.SoundFunctions.{FnExpr, ClosureExpr, DoExpr, fn-sound, closure-sound, do-sound, fn-read, closure-read, do-read}
use Rattle.sound.proofs.SoundBranches.{Branching, if-sound, if-read, LoopExpr, WhileExpr, ForExpr, loop-sound, while-sound, for-sound, loop-read, while-read, for-read}
use Rattle.sound.proofs.SoundMatch.{Matching, match-sound, match-read}

-- a name, and an atom of another form, as expressions
named : {text : List ℕ} {u v : Spot} {a : ℕ} → Value text Ident u v a → Expressed text Atom u v (forms.Name a)
unfolding shape
named (value b s f) = expressed (name b) s (λ es st. record { fits = fits-name; stack = f es st })

unnamed : {text : List ℕ} {u v : Spot} {a : ℕ} → Value text (Atom Other) u v a → Expressed text Atom u v (forms.Other a)
unnamed (value b s f) = expressed b s (λ es st. record { fits = fits-other; stack = f es st })

-- `break` and `continue`
abbrev BreakExpr : ℕ → Claim ℕ
BreakExpr from = Seq Bumped (λ _. Closed node.Break from 0 0 0 0)

abbrev ContinueExpr : ℕ → Claim ℕ
ContinueExpr from = Seq Bumped (λ _. Closed node.Continue from 0 0 0 0)

break-read : {text : List ℕ} {p : Place} {n a : ℕ} {xs : List ℕ} {v : Spot} → Here kind.Break p → BreakExpr (start_of p) (at p n xs) v a → Value text (Atom Other) (at p n xs) v a
unfolding shape
break-read h (bumped t ▸ closed o) = value (break-expr (record { here = h.stands; next = t })) refl (λ es st. wrapped _ (begin st) o)

continue-read : {text : List ℕ} {p : Place} {n a : ℕ} {xs : List ℕ} {v : Spot} → Here kind.Continue p → ContinueExpr (start_of p) (at p n xs) v a → Value text (Atom Other) (at p n xs) v a
unfolding shape
continue-read h (bumped t ▸ closed o) = value (continue-expr (record { here = h.stands; next = t })) refl (λ es st. wrapped _ (begin st) o)

literal-read : {text : List ℕ} {p : Place} {n a : ℕ} {xs : List ℕ} {v : Spot} → Value text Lit (at p n xs) v a → Value text (Atom Other) (at p n xs) v a
unfolding shape
literal-read (value b s f) = value (atom-literal b) s f

module _ (e : Sheet) (d : ℕ) (exprs : (lambda : Bool) → Sound e (Value e.text (Whole lambda)) (expr (levels e d) lambda)) (bodies : (end : ℕ) → Sound e (Rowing e.text (Exprs end) no_kids) ((levels e d).exprs end))
    (kept : (s : State) → Keeps (mark s) Plain (key (levels e d))) where
  -- an expression in parentheses, a list and `return`
  abbrev ParenExpr : ℕ → Claim ℕ
  ParenExpr from = Seq Bumped (λ _. Seq (Value e.text (Whole true)) (λ link. Seq (Took kind.CloseParen) (λ _. Closed node.Paren from 0 0 0 link)))

  abbrev ListExpr : ℕ → Claim ℕ
  ListExpr from = Seq Bumped (λ _. Seq (Listed e.text (Until (Whole true) NoLast kind.CloseBracket) no_kids) (λ i. Closed node.List from 0 0 (flagged i.kids.count 0 false false) i.kids.first))

  abbrev ReturnExpr : ℕ → Claim ℕ
  ReturnExpr from = Seq Bumped (λ _. Seq (Value e.text (Whole true)) (λ link. Closed node.Return from 0 0 0 link))

  paren-sound : (from : ℕ) → Sound e (ParenExpr from) (paren_expr (levels e d) from)
  unfolding paren_expr
  paren-sound from = binds e (bump-sound e) (λ _. binds e (exprs true) (λ link. binds e (expect-sound e kind.CloseParen) (λ _. close-sound e node.Paren from 0 0 0 link)))

  list-sound : (from : ℕ) → Sound e (ListExpr from) (list_expr (levels e d) from)
  unfolding list_expr list_record
  list-sound from = binds e (bump-sound e) (λ _. binds e (elements-sound e d exprs no_kids) (λ i. close-sound e node.List from 0 0 _ i.kids.first))

  return-sound : (from : ℕ) → Sound e (ReturnExpr from) (return_expr (levels e d) from)
  unfolding return_expr
  return-sound from = binds e (bump-sound e) (λ _. binds e (exprs true) (λ link. close-sound e node.Return from 0 0 0 link))

  break-sound : (from : ℕ) → Sound e (BreakExpr from) (break_expr (levels e d) from)
  unfolding break_expr
  break-sound from = binds e (bump-sound e) (λ _. close-sound e node.Break from 0 0 0 0)

  continue-sound : (from : ℕ) → Sound e (ContinueExpr from) (continue_expr (levels e d) from)
  unfolding continue_expr
  continue-sound from = binds e (bump-sound e) (λ _. close-sound e node.Continue from 0 0 0 0)

  paren-read : {p : Place} {n a : ℕ} {xs : List ℕ} {v : Spot} → Here kind.OpenParen p → ParenExpr (start_of p) (at p n xs) v a → Value e.text (Atom Other) (at p n xs) v a
  unfolding shape
  paren-read {p} h (bumped t ▸ value b s f ▸ took {q = q} u ▸ c) = closing (Value e.text (Atom Other) _) c (λ o.
      value (paren-expr (record { here = h.stands; next = t }) b u) (λ j. over node.Paren (start_of p) q (s j)) (λ es st. wrapped _ (as_row (f es st)) o))

  list_read : {p : Place} {n a : ℕ} {xs : List ℕ} {v : Spot} → Here kind.OpenBracket p → ListExpr (start_of p) (at p n xs) v a → Value e.text (Atom Other) (at p n xs) v a
  unfolding shape
  list_read {p} h (bumped t ▸ listed {q = q} b f ▸ c) = closing (Value e.text (Atom Other) _) c (λ o.
      value (list (record { here = h.stands; next = t }) b) refl (λ es st. let r = f _ 0 none es refl (begin st) in relabel (ap (λ z. labelled node.List (start_of p) 0 0 z q) (word_flags _ false false r.count)) (wrapped _ r.stack o)))

  return_read : {p : Place} {n a : ℕ} {xs : List ℕ} {v : Spot} → Here kind.Return p → ReturnExpr (start_of p) (at p n xs) v a → Value e.text (Atom Other) (at p n xs) v a
  unfolding shape
  return_read {p} h (bumped t ▸ value {q = q} b s f ▸ c) = closing (Value e.text (Atom Other) _) c (λ o.
      value (return-expr (record { here = h.stands; next = t }) b) (λ j. over node.Return (start_of p) q (s j)) (λ es st. wrapped _ (as_row (f es st)) o))

  -- the forms, by the kinds that they begin with: an atom that is a plain name, and one that is not
  abbrev Named : Claim ℕ → Claim Expr
  Named X = Seq X (λ link. Gave (forms.Name link))

  abbrev Unnamed : Claim ℕ → Claim Expr
  Unnamed X = Seq X (λ link. Gave (forms.Other link))

  abbrev Leaving : ℕ → Claim Expr
  Leaving from = Way kind.Break (Unnamed (BreakExpr from)) (Way kind.Continue (Unnamed (ContinueExpr from)) (Way kind.Return (Unnamed (ReturnExpr from)) (Unnamed (Value e.text Lit))))

  abbrev Keywords : ℕ → Claim Expr
  Keywords from =
      Way kind.Do (Unnamed (DoExpr e d bodies from))
      (Way kind.If (Unnamed (Branching e d exprs bodies from))
      (Way kind.Match (Unnamed (Matching e d exprs from))
      (Way kind.Loop (Unnamed (LoopExpr e d exprs bodies from))
      (Way kind.While (Unnamed (WhileExpr e d exprs bodies from))
      (Way kind.For (Unnamed (ForExpr e d exprs bodies from)) (Leaving from))))))

  abbrev Forms : ℕ → Claim Expr
  Forms from =
      Way kind.OpenParen (Unnamed (ParenExpr from))
      (Way kind.Ident (Named (Value e.text Ident))
      (Way kind.OpenBrace (Unnamed (Braced e d exprs bodies kept from))
      (Way kind.OpenBracket (Unnamed (ListExpr from))
      (Way kind.Fn (Unnamed (FnExpr e d bodies from))
      (Way kind.VBar (Unnamed (ClosureExpr e d bodies from)) (Keywords from))))))

  unnamed-sound : {X : Claim ℕ} {r : Rule ℕ} → Sound e X r → Sound e (Unnamed X) (other (levels e d) r)
  unnamed-sound x = binds e x (λ link. gives e)

  -- parse_expr_atom
  pub atom-sound : Sound e (Expressed e.text Atom) (atom (levels e d))
  unfolding atom
  atom-sound = maps e (λ u v x c. go c) (binds e (start-sound e) (λ from.
      chooses e (atom_cases (levels e d) from) (way e (unnamed-sound (paren-sound from))
      (way e (binds e (ident-sound e) (λ link. gives e))
      (way e (unnamed-sound (brace-sound e d exprs bodies kept from))
      (way e (unnamed-sound (list-sound from))
      (way e (unnamed-sound (fn-sound e d bodies from))
      (way e (unnamed-sound (closure-sound e d bodies from))
      (way e (unnamed-sound (do-sound e d bodies from))
      (way e (unnamed-sound (if-sound e d exprs bodies from))
      (way e (unnamed-sound (match-sound e d exprs from))
      (way e (unnamed-sound (loop-sound e d exprs bodies from))
      (way e (unnamed-sound (while-sound e d exprs bodies from))
      (way e (unnamed-sound (for-sound e d exprs bodies from))
      (way e (unnamed-sound (break-sound from))
      (way e (unnamed-sound (continue-sound from))
      (way e (unnamed-sound (return-sound from)) (otherwise e (unnamed-sound (lit-sound e))))))))))))))))))))
    where
      leaving : {p : Place} {n : ℕ} {xs : List ℕ} {v : Spot} {x : Expr} → Leaving (start_of p) (at p n xs) v x → Expressed e.text Atom (at p n xs) v x
      leaving (this-one h (c ▸ gave)) = unnamed (break-read h c)
      leaving (later-one _ (this-one h (c ▸ gave))) = unnamed (continue-read h c)
      leaving (later-one _ (later-one _ (this-one h (c ▸ gave)))) = unnamed (return_read h c)
      leaving (later-one _ (later-one _ (later-one _ (c ▸ gave)))) = unnamed (literal-read c)

      keywords : {p : Place} {n : ℕ} {xs : List ℕ} {v : Spot} {x : Expr} → Keywords (start_of p) (at p n xs) v x → Expressed e.text Atom (at p n xs) v x
      keywords (this-one h (c ▸ gave)) = unnamed (do-read e d bodies h c)
      keywords (later-one _ (this-one h (c ▸ gave))) = unnamed (if-read e d exprs bodies h c)
      keywords (later-one _ (later-one _ (this-one h (c ▸ gave)))) = unnamed (match-read e d exprs h c)
      keywords (later-one _ (later-one _ (later-one _ (this-one h (c ▸ gave))))) = unnamed (loop-read e d exprs bodies h c)
      keywords (later-one _ (later-one _ (later-one _ (later-one _ (this-one h (c ▸ gave)))))) = unnamed (while-read e d exprs bodies h c)
      keywords (later-one _ (later-one _ (later-one _ (later-one _ (later-one _ (this-one h (c ▸ gave))))))) = unnamed (for-read e d exprs bodies h c)
      keywords (later-one _ (later-one _ (later-one _ (later-one _ (later-one _ (later-one _ c)))))) = leaving c

      go : {u v : Spot} {x : Expr} → Seq Started (λ from. Forms from) u v x → Expressed e.text Atom u v x
      go (started ▸ this-one h (c ▸ gave)) = unnamed (paren-read h c)
      go (started ▸ later-one _ (this-one h (c ▸ gave))) = named c
      go (started ▸ later-one _ (later-one _ (this-one h (c ▸ gave)))) = unnamed (brace-read e d exprs bodies kept h c)
      go (started ▸ later-one _ (later-one _ (later-one _ (this-one h (c ▸ gave))))) = unnamed (list_read h c)
      go (started ▸ later-one _ (later-one _ (later-one _ (later-one _ (this-one h (c ▸ gave)))))) = unnamed (fn-read e d bodies h c)
      go (started ▸ later-one _ (later-one _ (later-one _ (later-one _ (later-one _ (this-one h (c ▸ gave))))))) = unnamed (closure-read e d bodies c)
      go (started ▸ later-one _ (later-one _ (later-one _ (later-one _ (later-one _ (later-one _ c)))))) = keywords c
