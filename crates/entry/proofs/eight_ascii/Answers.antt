-- `eight_ascii` meets its contract: too few bytes, or the highest bits of all of them.
use Rattle.std.proofs.Common.{◌≡◌, ℕ, List, ap, ◌+◌, ◌-◌, ◌<◌, ◌≤◌, length, length-drop, get_or, take, drop, sym, ◌∙◌, arith}
use Rattle.std.proofs.lemmas.List.{get_or-take, get_or-drop}
use lib.Seq.{take_all}
use Rattle.entry.proofs.Eights as eights
use Rattle.entry.proofs.Runs as runs
use Rattle.entry.proofs.eight_ascii.Goals as goal

module _ (t : List ℕ) (k : ℕ) (p : k ≤ length t) where
  rest : take (length t - k) (drop k t) ≡ drop k t
  rest = let l = length-drop k t in take_all (length t - k) (drop k t) (omega arith)

  long : length (take (length t - k) (drop k t)) ≡ length t - k
  long = ap length rest ∙ length-drop k t

  read : (bytes : List ℕ) → bytes ≡ take 8 (take (length t - k) (drop k t)) → (i : ℕ) → i < 8 → get_or bytes i 0 ≡ get_or t (k + i) 0
  read bytes e i h = ap (λ l. get_or l i 0) (e ∙ ap (take 8) rest) ∙ get_or-take 8 (drop k t) i 0 h ∙ get_or-drop k t i 0

pub returns-in_default : goal.returns-in_default
returns-in_default c =
    let few : length c.args.text.now < c.args.at + 8 = omega (arith, c.in_default.ensures.cases, long c.args.text.now c.args.at c.requires) in
    sym (runs.run_short c.args.text.now c.args.at 8 few (omega arith))

pub returns : goal.returns
returns c =
    let far : c.args.at + 8 ≤ length c.args.text.now = omega (arith, c.in-Some.ensures.cases.enough, long c.args.text.now c.args.at c.requires) in
    let e = eights.little-read c.args.text.now c.args.at c.in-Some.bytes.now far (read c.args.text.now c.args.at c.requires c.in-Some.bytes.now c.in-Some.ensures.cases.same) in
    rw (c.from_le_bytes.ensures ∙ e) (eights.high_bits c.args.text.now (λ i. (c.type_inv.text i).fits) 8 c.args.at far)
