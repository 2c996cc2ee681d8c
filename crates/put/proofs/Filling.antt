-- A loop that puts a run: what was put before a turn, the room that there is for the turn, and what was put after it.
-- Assumes nothing.
use mathlib.Core.Path.{◌≡◌, sym, ap, ◌∙◌}
use mathlib.Core.Bool.{Bool}
use mathlib.Core.List.{List, ◌++◌}
use Prim.Native.Nat.{ℕ, ◌+◌, ◌-◌, ◌*◌, ◌^◌, ◌≤◌, ◌<◌}
use native.Mathlib.Omega.{arith}
use lib.ListN.{length, get_or}
use Rattle.measure.specs.Places.{Reaches}
use Rattle.put.specs.Put.{Put}
use Rattle.put.proofs.Joins.{put_none, put_as, put_then}
use Rattle.put.proofs.Runs.{run, run_none, run_more, run_room}

-- of the run of f from `from` up to `to`, for which there is room, all before x was put
pub record Filling (s t : List ℕ) (at : ℕ) (f : ℕ → List Bool) (from to x next : ℕ) : Type 0 where
  pub low : from ≤ x
  pub high : x ≤ to
  pub put : Put s t at (run f from (x - from)) next
  pub reach : Reaches s at (length (run f from (to - from)))

-- before the first turn nothing was put
pub filling_start : {s : List ℕ} {at : ℕ} (f : ℕ → List Bool) (from to : ℕ) → from ≤ to → ((i : ℕ) → get_or s i 0 < 2 ^ 8)
    → Reaches s at (length (run f from (to - from))) → Filling s s at f from to from at
filling_start {s} {at} f from to h bytes r =
    let e : from - from ≡ 0 = omega arith in
    record { low = omega arith; high = h; put = rw (e, run_none f from) (put_none s at bytes); reach = r }

module _ {s t : List ℕ} {at : ℕ} {f : ℕ → List Bool} {from to x p : ℕ} (g : Filling s t at f from to x p) (h : x < to) where
  -- the next has room behind those before it
  fits : at + length (run f from (x - from)) + length (f x) ≤ 8 * length s
  fits =
      let e : from + (x - from) ≡ x = omega arith in
      let r = rw e at (run_room f from (to - from) (x - from) (omega arith)) in
      omega arith

  -- there is room for the next
  pub filling_room : Reaches t p (length (f x))
  filling_room =
      let k : length t ≡ length s = g.put.long in
      record { few = omega arith; room = omega (arith, fits) }

  -- after a turn the next was put too
  pub filling_turn : {u : List ℕ} {q : ℕ} → Put t u p (f x) q → Filling s u at f from to (x + 1) q
  filling_turn {u} {q} b =
      let e : from + (x - from) ≡ x = omega arith in
      let n : x + 1 - from ≡ x - from + 1 = omega arith in
      let m : run f from (x + 1 - from) ≡ run f from (x - from) ++ f x = ap (run f from) n ∙ run_more f from (x - from) ∙ rw e in
      record { low = omega arith; high = omega arith; put = put_as (sym m) (put_then g.put b fits); reach = g.reach }

-- after the last turn the whole run was put
pub filling_end : {s t : List ℕ} {at : ℕ} {f : ℕ → List Bool} {from to x p : ℕ} → Filling s t at f from to x p → to ≤ x
    → Put s t at (run f from (to - from)) p
filling_end {f} {from} {to} {x} g h =
    let e : x ≡ to = omega arith in
    rw e at g.put
