-- A listing that was measured first: refused where the buffer is too short for it, written where it is not.
-- Assumes nothing.
use mathlib.Core.Path.{◌≡◌, refl, sym, ap, ◌∙◌}
use mathlib.Core.List.{List, [], ◌∷◌, ◌++◌}
use Prim.Native.Nat.{ℕ, ◌+◌, ◌<◌, ◌≤◌, min}
use native.Mathlib.Omega.{arith}
use lib.ListN.{length}
use borrow.Author.Tests.{le-leb, lt-leb}
use Rattle.listing.specs.declared.page.Page.{Page}
use Rattle.listing.specs.Page.{emits}
use Rattle.std.specs.Prelude.{Option, Some, None, IsSome}
use Rattle.listing.specs.Answers.{wrote, short, as_listed, written}
use Rattle.listing.proofs.Pages.{emits-at, emits-front}

-- nothing in front of a buffer
pub none_before : (ys out : List ℕ) → length ys ≡ 0 → ys ++ out ≡ out
none_before [] out k = refl
none_before (y ∷ ys) out k = absurd (omega arith)

module _ (b out : List ℕ) (p : Page) {m : Page} (e : m ≡ emits b p) (z : p.at ≡ 0) (r : p.room ≡ length out + 1) where
  counted : m.at ≡ min (length b) (length out + 1)
  counted = let g = emits-at b p (omega arith) in let f = ap (λ (q : Page). q.at) e in omega arith

  pub no_room : length out < m.at → short out ≡ written b out
  unfolding written
  no_room h = let c = counted in sym (rw (lt-leb (length b) (length out) (omega arith), written))

  pub with-room : {d : Page} (q : Page) → m.at ≤ length out → d ≡ emits b q → q.at ≡ 0 → q.out.now ≡ out → q.room ≡ length out + 1 → wrote d.at d.out.now ≡ written b out
  unfolding written
  with-room q h f zq o rq =
      let c = counted in
      let s : length b ≤ length out = omega arith in
      let t = f ∙ emits-front b q zq (rw o s) (omega arith) in
      ap (λ (p : Page). wrote p.at p.out.now) t ∙ rw o (sym (rw (le-leb (length b) (length out) s, written)))

-- where there is room, it is not refused
pub never-short : (r : Option ℕ) (b out outs : List ℕ) → as_listed r outs ≡ written b out → length b ≤ length out → IsSome r
unfolding written
never-short (Some n) b out outs e h = refl
never-short None b out outs e h = let f = rw (le-leb (length b) (length out) h, written) at e in cc
