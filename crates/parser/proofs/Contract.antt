-- The contracts of `parse` and `lucia_parse` from their equations: the three demands hold of whatever outcome these fix.
use mathlib.Core.Path.{◌≡◌, refl, sym, ap, ◌∙◌, subst}
use mathlib.Core.List.{List}
use Prim.Native.Nat.{ℕ}
use Rattle.marks.proofs.Lengths.{marks-all}
use Rattle.parser.specs.Outcome.{Outcome, Handed, handed, handing}
use Rattle.parser.specs.Parse.{parse}
use Rattle.parser.specs.Demands.{Demands}
use Rattle.parser.specs.Promised.{Promised, Delivered}
use Rattle.parser.proofs.Concluded.{concluded}
use Rattle.parser.proofs.Demands.{clean-sheet, clean-tree, clean-size, clean-once, clean-words, followed}
use Rattle.parser.proofs.Afforded.{afforded}

module _ (text tokens : List ℕ) (allowance : ℕ) (n e x : List ℕ) where
  pub demanded : Demands text tokens allowance n (parse text tokens allowance n e x)
  demanded = record {
    judged = λ z. ((λ c. (clean-sheet text tokens allowance n e x (record { read = z; flawless = c })).follows), (λ f. (followed text tokens allowance n e x f z).errors));
    unlisted = λ c. (followed text tokens allowance n e x (clean-sheet text tokens allowance n e x c).follows c.read).expected;
    grown = clean-tree text tokens allowance n e x;
    sized = clean-size text tokens allowance n e x;
    once = clean-once text tokens allowance n e x;
    spoken = clean-words text tokens allowance n e x;
    marked = marks-all;
    summed = λ c f. (followed text tokens allowance n e x f c.read).reads;
    afforded = λ f. afforded text tokens allowance f n e x;
  }

  promises : Promised text tokens allowance n e x (parse text tokens allowance n e x)
  promises = record { same = refl; concluded = concluded text tokens allowance n e x; demanded = demanded }

  pub contract : {o : Outcome} → o ≡ parse text tokens allowance n e x → Promised text tokens allowance n e x o
  contract q = subst (Promised text tokens allowance n e x) (sym q) promises

  pub handed-contract : {h : Handed} → h ≡ handing (parse text tokens allowance n e x) → Delivered text tokens allowance n e x h
  handed-contract q = subst (Delivered text tokens allowance n e x) (sym q) (record { counted = refl; promised = promises })

  -- what is handed over is fixed by that
  pub delivered : {h : Handed} → Delivered text tokens allowance n e x h → h ≡ handing (parse text tokens allowance n e x)
  delivered {h} d = (λ i. handed h.number (d.counted i) h.records h.faults h.kinds) ∙ ap handing d.promised.same
