-- Runs: cut anywhere into two runs, and put together again.
-- Assumes nothing.
use mathlib.Core.List.{List, [], ◌∷◌, ◌++◌}
use Prim.Native.Nat.{ℕ}
use Rattle.history.specs.Steps.{Step, Meets, Run, none, then}

-- a run that is cut between two of its steps: the words and the bytes there, the run that led to them, and the run from them on
pub record Cut (words bytes : List ℕ) (front back : List Step) (words' bytes' : List ℕ) : Type 0 where
  pub between : List ℕ
  pub its_index : List ℕ
  pub before : Run words bytes front between its_index
  pub behind : Run between its_index back words' bytes'

-- every prefix of a run is a run, and so is what is left
pub run_cut : (front : List Step) {back : List Step} {words bytes words' bytes' : List ℕ} → Run words bytes (front ++ back) words' bytes'
    → Cut words bytes front back words' bytes'
run_cut [] {words = words} {bytes = bytes} r = record { between = words; its_index = bytes; before = none; behind = r }
run_cut (t ∷ front) (then s m r) =
    let c = run_cut front r in
    record { between = c.between; its_index = c.its_index; before = then s m c.before; behind = c.behind }

-- two runs of which one starts where the other ends are one run
pub run_join : {front back : List Step} {words bytes between its_index words' bytes' : List ℕ} → Run words bytes front between its_index
    → Run between its_index back words' bytes' → Run words bytes (front ++ back) words' bytes'
run_join none r = r
run_join (then s m q) r = then s m (run_join q r)

-- a run at one of its steps: the run that led to it, that it meets its contract, and the run from it on
pub record At (words bytes : List ℕ) (front : List Step) (s : Step) (back : List Step) (words' bytes' : List ℕ) : Type 0 where
  pub before : Run words bytes front s.words s.bytes
  pub meets : Meets s
  pub behind : Run s.words' s.bytes' back words' bytes'

-- each step of a run starts where the steps before it led
pub run_at : (front : List Step) (s : Step) {back : List Step} {words bytes words' bytes' : List ℕ}
    → Run words bytes (front ++ (s ∷ back)) words' bytes'
    → At words bytes front s back words' bytes'
run_at [] s (then t m r) = record { before = none; meets = m; behind = r }
run_at (u ∷ front) s (then t m r) =
    let a = run_at front s r in
    record { before = then t m a.before; meets = a.meets; behind = a.behind }
