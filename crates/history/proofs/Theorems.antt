-- What any sequence of commands leaves, refused ones among them: demand 3, after the last step and after each one before it.
-- Assumes nothing.
use mathlib.Core.Path.{◌≡◌, refl, sym, ap, subst, ◌∙◌}
use mathlib.Core.Bool.{true}
use mathlib.Core.List.{List, [], ◌∷◌, ◌++◌}
use mathlib.Core.Logic.{◌↔◌}
use Prim.Native.Nat.{ℕ}
use Rattle.model.specs.Policy.{Policy}
use Rattle.model.specs.History.{Item, holds, stands}
use Rattle.model.specs.Index.{bit_at}
use Rattle.model.proofs.Chains.{acyclic_says, reaches_class}
use Rattle.table.specs.View.{policy_of}
use Rattle.std.specs.Prelude.{Ok}
use Rattle.decide.proofs.Theorems.{indexed_as_plain}
use Rattle.history.specs.Steps.{Begun, Built, Step, Run, none, then, log_of}
use Rattle.history.specs.Standing.{Contained, Standing}
use Rattle.history.proofs.Numbers.{table_never_one}
use Rattle.history.proofs.Containments.{index_contained}
use Rattle.history.proofs.Beginnings.{Kept, started, begun_kept}
use Rattle.history.proofs.Stepped.{step_kept, step_stands}
use Rattle.history.proofs.Runs.{Cut, run_cut, run_join, run_at}
use Rattle.history.proofs.Impostors.{done_changes}

-- after any run the words still hold a table with a sound policy, and the bytes are its index
pub run_kept : {words bytes : List ℕ} {steps : List Step} {words' bytes' : List ℕ} → Kept words bytes → Run words bytes steps words' bytes'
    → Kept words' bytes'
run_kept k none = k
run_kept k (then s m r) = run_kept (step_kept s m k) r

-- after any run the table holds exactly what stands of what it held before and the log
pub run_exactly : {words bytes : List ℕ} {steps : List Step} {words' bytes' : List ℕ} → Kept words bytes → Run words bytes steps words' bytes'
    → (i : Item) → holds (policy_of words') i ≡ stands (holds (policy_of words)) (log_of steps) i
unfolding stands log_of
run_exactly k none i = refl
run_exactly k (then s m {steps = steps} r) i = run_exactly (step_kept s m k) r i ∙ step_stands s m k.sound (log_of steps) i

-- what is true of every memory and index that are as they must be
standing : {start : Policy} {steps : List Step} {words bytes : List ℕ} → Kept words bytes
    → ((i : Item) → holds (policy_of words) i ≡ stands (holds start) (log_of steps) i) → Standing start steps words bytes
standing {words = words} {bytes = bytes} k exactly = record {
  exactly = exactly;
  sound = k.sound;
  acyclic = acyclic_says (policy_of words) k.sound.acyclic;
  classed = reaches_class (policy_of words) k.sound;
  indexed = k.index;
  contained = λ x y h.
      subst (λ l. (bit_at l x y ≡ true) ↔ Contained (policy_of words) x y) (sym k.index) (index_contained (policy_of words) k.sound x y h);
  never_one = table_never_one words k.table;
  alike = λ q r s. indexed_as_plain words bytes q r s k.table k.sound k.index;
}

-- Demand 3: any sequence of commands on a table that new or load made and on the index built with it, refused ones among them.
pub history : {start : Policy} {words bytes : List ℕ} → Begun start words → Built words bytes
    → {steps : List Step} {words' bytes' : List ℕ} → Run words bytes steps words' bytes' → Standing start steps words' bytes'
history b i {steps = steps} r =
    let k = begun_kept b i in
    standing (run_kept k r) (λ j. run_exactly k r j ∙ ap (λ p. stands (holds p) (log_of steps) j) (started b).policy)

-- All of it is true wherever the run is cut, of the words and the bytes there and of the steps up to there.
pub along : {start : Policy} {words bytes : List ℕ} → Begun start words → Built words bytes
    → (front back : List Step) {words' bytes' : List ℕ} → Run words bytes (front ++ back) words' bytes'
    → (c : Cut words bytes front back words' bytes') × Standing start front c.between c.its_index
along b i front back r = let c = run_cut front r in (c, history b i c.before)

-- So it is of what each step finds, and of what it leaves.
pub around : {start : Policy} {words bytes : List ℕ} → Begun start words → Built words bytes
    → (front : List Step) (s : Step) (back : List Step) {words' bytes' : List ℕ} → Run words bytes (front ++ (s ∷ back)) words' bytes'
    → Standing start front s.words s.bytes × Standing start (front ++ (s ∷ [])) s.words' s.bytes'
around b i front s back r =
    let a = run_at front s r in
    (history b i a.before, history b i (run_join a.before (then s a.meets none)))

-- No step that was done leaves the policy that it found: "leaves the table as found" is none of the runs.
pub not_as_found : {start : Policy} {words bytes : List ℕ} → Begun start words → Built words bytes
    → (front : List Step) (s : Step) (back : List Step) {words' bytes' : List ℕ} → Run words bytes (front ++ (s ∷ back)) words' bytes'
    → s.outcome ≡ Ok tt → policy_of s.words' ≡ policy_of s.words → ⊥
not_as_found b i front s back r =
    let a = run_at front s r in
    done_changes (run_kept (begun_kept b i) a.before).sound a.meets.call
