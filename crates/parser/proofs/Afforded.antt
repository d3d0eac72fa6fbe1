-- Demand 3: a sheet past the entry check that follows the grammar is read exactly if there is room for its records, depth for its nesting and an
-- allowance for the sum over its marks; otherwise it is refused for what there is not enough of.
use Rattle.std.specs.Prelude.{Ok}
use mathlib.Core.Path.{◌≡◌, refl}
use mathlib.Core.List.{List}
use Prim.Native.Nat.{ℕ}
use native.Mathlib.Omega.{arith}
use lib.ListN.{length, replicate, length-replicate}
use Rattle.cursor.specs.Rule.{world, begin, fault, refused, Out, done, failed}
use Rattle.cursor.specs.Checks.{live_room}
use Rattle.entry.specs.Check.{entry_of}
use Rattle.grammar.specs.Follows.{Follows}
use Rattle.complete.proofs.SizeOf.{size-all}
use Rattle.complete.proofs.Meets.{few-nodes, few-levels, few-reads, full}
use Rattle.complete.proofs.MeetsProgram.{Finds, finds, lacks, program-meets}
use Rattle.marks.proofs.Marked.{cost-marks}
use Rattle.live.proofs.Program.{program-bounded}
use Rattle.parser.specs.Blank.{blank}
use Rattle.parser.specs.Finish.{finished}
use Rattle.parser.specs.Parse.{depth, reading, parse}
use Rattle.parser.specs.Demands.{Afforded}
use Rattle.parser.specs.Demands as short
use Rattle.parser.proofs.Demands.{lent, few}

module _ (text tokens : List ℕ) (allowance : ℕ) (f : Follows text tokens) where
  -- the buffers that it is read into are as long as those that were lent
  by_end : (n e x m : List ℕ) → length n ≡ length m → (o : Out ℕ) → ((k : ℕ) → o ≡ failed (refused k) → k ≡ 11 → ⊥)
      → Finds (lent text tokens allowance) depth f (world n e x (replicate live_room 0)) o → Afforded f allowance m (finished n e x o).number
  unfolding finished
  by_end n e x m l (done s w link) never (finds k) = record {
    read = ((λ _. record { room = omega (arith, k.housed, size-all f, l); deep = k.deep; paid = omega (arith, k.covered, cost-marks f) }), (λ _. refl));
    refused = λ g. absurd (g refl);
  }
  by_end n e x m l (failed (refused k)) never (lacks (few-nodes h)) = record {
    read = ((λ q. absurd (omega (arith, q))), (λ g. absurd (omega (arith, h, g.room, size-all f, l))));
    refused = λ _. short.few-records (omega (arith, h, size-all f, l));
  }
  by_end n e x m l (failed (refused k)) never (lacks (few-levels h)) = record {
    read = ((λ q. absurd (omega (arith, q))), (λ g. absurd (omega (arith, h, g.deep))));
    refused = λ _. short.few-levels h;
  }
  by_end n e x m l (failed (refused k)) never (lacks (few-reads h)) = record {
    read = ((λ q. absurd (omega (arith, q))), (λ g. absurd (omega (arith, h, g.paid, cost-marks f))));
    refused = λ _. short.few-readings (omega (arith, h, cost-marks f));
  }
  by_end n e x m l (failed (refused k)) never (lacks full) = absurd (never _ refl refl)
  by_end n e x m l (failed (fault _ _ _)) never r = elim r [ ]

  pub afforded : (n e x : List ℕ) → entry_of text tokens ≡ Ok tt → Afforded f allowance n (parse text tokens allowance n e x).number
  unfolding parse reading
  afforded n e x fit = rw (fit, parse) (by_end (blank n) (blank e) (blank x) n (length-replicate {A = ℕ} (length n) 0) _ (λ z. program-bounded (lent text tokens allowance) _ begin z refl)
      (program-meets (lent text tokens allowance) (few text tokens allowance fit) depth _ f))
