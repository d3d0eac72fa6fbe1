-- A whole sheet that follows the grammar: its rule is done, with no error, and with exactly the readings and records of the derivation, and then allowance, room and levels were enough; or it is
-- refused, and what was too small is told.
use mathlib.Core.Path.{◌≡◌, sym, subst}
use mathlib.Core.List.{List}
use Prim.Native.Nat.{ℕ, suc, ◌^◌, ◌<◌, ◌≤◌}
use native.Mathlib.Omega.{arith}
use lib.ListN.{length}
use Rattle.kinds.specs.Number as kind
use Rattle.cursor.specs.declared.State.{State}
use Rattle.cursor.specs.declared.Kids.{Kids}
use Rattle.cursor.specs.Sheet.{Sheet}
use Rattle.cursor.proofs.RecordPaths.{room_for}
use Rattle.cursor.specs.Rule.{World, refused, Out, done, failed, ◌>>=◌}
use Rattle.rules.specs.Levels.{levels, program_record, program}
use Rattle.grammar.specs.Places.{Place, before, opening}
use Rattle.grammar.specs.Follows.{Follows}
use Rattle.sound.proofs.Links.{calm-settle}
use Rattle.sound.proofs.Outset.{outset, settled_at, program-is, first-place}
use Rattle.complete.proofs.Cost.{cost}
use Rattle.complete.proofs.Records.{records}
use Rattle.complete.specs.Depth.{need}
use Rattle.complete.proofs.Meets.{Cost, building, Any, Lacks, few-nodes, few-levels, few-reads, full, EndsAt, arrives, short, Meets}
use Rattle.complete.proofs.MeetsBinds.{fits, next}
use Rattle.complete.proofs.MeetsSteps.{append-meets}
use Rattle.complete.proofs.MeetsKnot.{knot-meets}

-- what a sheet costs: its statements, one level further in, and the program's record
abbrev pub sheet_cost : {text tokens : List ℕ} → Follows text tokens → Cost
sheet_cost f = record { reads = cost f.body; nodes = suc (records f.body); need = suc (need f.body) }

-- what is left where the reading of such a sheet is done, and that there was enough of everything for it
pub record Found (e : Sheet) (d : ℕ) (f : Follows e.text e.tokens) (w : World) (s1 : State) : Type 0 where
  pub errors : s1.errors ≡ 0
  pub wanted : s1.wanted ≡ 0
  pub reads : s1.reads ≡ cost f.body
  pub nodes : s1.nodes ≡ suc (records f.body)
  pub covered : cost f.body ≤ e.limits.allowance
  pub housed : suc (records f.body) ≤ room_for w
  pub deep : suc (need f.body) ≤ d

-- how the reading of a sheet ends that follows the grammar, with d levels and what the buffers hold
pub data Finds (e : Sheet) (d : ℕ) (f : Follows e.text e.tokens) (w : World) : Out ℕ → Type 0 where
  finds : {s1 : State} {w1 : World} {link : ℕ} → Found e d f w s1 → Finds e d f w (done s1 w1 link)
  lacks : {n : ℕ} → Lacks e d (sheet_cost f) outset w n → Finds e d f w (failed (refused n))

module _ {e : Sheet} {d : ℕ} where
  program-record-meets : {p : Place} (from : ℕ) (row : Kids) → Meets e d p p building Any (program_record from row)
  unfolding program_record
  program-record-meets from row = record { runs = λ s w h z. (append-meets _ row.first).runs s w h z }

pub program-meets : (e : Sheet) → length e.tokens < 2 ^ 32 → (d : ℕ) (w : World) (f : Follows e.text e.tokens) → Finds e d f w (program (levels e d) outset w)
program-meets e few d w f = subst (λ o. Finds e d f w o) (sym (program-is e d w)) (by (meets.runs (settled_at e outset) w (record { settled = calm-settle e.tokens 0 }) (first-place e)))
  where
    meets : Meets e d (before e.tokens) f.end (sheet_cost f) Any ((levels e d).exprs kind.Eof >>= (λ row. program_record (opening e.tokens) row))
    meets = fits (omega arith) (omega arith) (omega arith) (next ((knot-meets e few d).sheets f.body) (λ row _. program-record-meets (opening e.tokens) row))

    by : {o : Out ℕ} → EndsAt e d (sheet_cost f) f.end Any (settled_at e outset) w o → Finds e d f w o
    by (arrives {s1 = s1} y _) =
        let reads : s1.reads ≡ cost f.body = omega (arith, y.reads) in
        let nodes : s1.nodes ≡ suc (records f.body) = omega (arith, y.nodes) in
        finds (record { errors = y.errors; wanted = y.wanted; reads = reads; nodes = nodes; covered = omega (arith, y.paid, reads); housed = omega (arith, y.housed, nodes); deep = y.deep })
    by (short (few-nodes l)) = lacks (few-nodes l)
    by (short (few-levels l)) = lacks (few-levels l)
    by (short (few-reads l)) = lacks (few-reads l)
    by (short full) = lacks full
