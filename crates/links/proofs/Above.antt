-- Children that rank above their containers: then no chain of assignments returns to its start.
-- Assumes nothing.
use mathlib.Core.Path.{◌≡◌, sym, ap, ◌∙◌}
use mathlib.Core.Bool.{Bool, true, false, not}
use mathlib.Core.List.{List}
use Prim.Native.Nat.{ℕ, ◌≤◌}
use native.Mathlib.Omega.{arith}
use borrow.Author.Tests.{ltb-true}
use lib.ListN.{get_or}
use Rattle.model.specs.Lists.{all_of}
use Rattle.model.specs.Policy.{Assignment, Policy}
use Rattle.model.specs.Contain.{Within, itself, above, contained}
use Rattle.model.specs.Sound.{no_cycle}
use Rattle.model.proofs.Truth.{fails_when, all_in, all_of_lem}
use Rattle.model.proofs.Contained.{within_says}
use Rattle.links.specs.Ranks.{is_above}

-- where each child ranks above its container, nothing is within what ranks above it
ranks_fall : (ranks : List ℕ) (l : List Assignment) → all_of (is_above ranks) l ≡ true → {x y : ℕ} → Within l x y → get_or ranks y 0 ≤ get_or ranks x 0
unfolding is_above
ranks_fall ranks l h itself = omega arith
ranks_fall ranks l h (above {x = x} {y = y} {z = z} a w) =
    omega (arith, ranks_fall ranks l h w, ltb-true (get_or ranks y 0) (get_or ranks x 0) (all_in (is_above ranks) h a))

-- so that no container is within its child
pub above_acyclic : (p : Policy) (ranks : List ℕ) {r : Bool} → r ≡ all_of (is_above ranks) p.assignments → r ≡ true → false ≡ not (no_cycle p)
unfolding no_cycle is_above
above_acyclic p ranks e t =
    let h : all_of (is_above ranks) p.assignments ≡ true = sym e ∙ t in
    sym (ap not (all_of_lem (λ a. not (contained p a.container a.child)) p.assignments (λ a m.
    ap not (fails_when (contained p a.container a.child) (λ c.
    omega (
      arith,
      ranks_fall ranks p.assignments h (within_says p.assignments {x = a.container} {y = a.child} c),
      ltb-true (get_or ranks a.container 0) (get_or ranks a.child 0) (all_in (is_above ranks) h m),
    ))))))
