-- For every sequence of commands that a caller can pass there is a run, from any words and any bytes, and only one.
-- Assumes nothing.
use mathlib.Core.Path.{◌≡◌, refl, sym, ap, ap₂, subst₃}
use mathlib.Core.Bool.{true, cond}
use mathlib.Core.List.{List, [], ◌∷◌}
use Prim.Native.Nat.{ℕ}
use Rattle.model.specs.Lists.{all_of}
use Rattle.model.specs.Command.{Command, fits, command_lines}
use Rattle.model.specs.Index.{index_of}
use Rattle.model.specs.Calls.{lent, changes_containment}
use Rattle.model.proofs.Truth.{and_left, and_right}
use Rattle.model.proofs.Refusals.{Judged, by, clear, judged}
use Rattle.table.specs.View.{policy_of, memory}
use Rattle.std.specs.Prelude.{Result, Ok, Err}
use Rattle.answer.specs.declared.Refusal.{Refusal}
use Rattle.answer.proofs.Numbered.{Numbered, first_number, command_lines_listed, refusal_with}
use Rattle.table.proofs.Outcomes.{never}
use Rattle.command.specs.Commanded.{Commanded, words_after}
use Rattle.command.proofs.Performed.{refused_so, done_so}
use Rattle.command.proofs.Theorems.{unique}
use Rattle.history.specs.Steps.{Step, Meets, Run, none, then, commands_of, Ran}

-- what a command on these words and bytes may answer and leave
record Made (words bytes : List ℕ) (c : Command) : Type 0 where
  outcome : Result (Unit {0}) Refusal
  words' : List ℕ
  bytes' : List ℕ
  call : Commanded words bytes c outcome words' bytes'

-- there is something, whatever the words and the bytes
made : (words bytes : List ℕ) (c : Command) → Made words bytes c
made words bytes c = go (judged (command_lines (lent (memory words) bytes) (policy_of words) c))
  where
    go : Judged (command_lines (lent (memory words) bytes) (policy_of words) c) → Made words bytes c
    go (by {n = n} f) =
        let x : Numbered n = refusal_with (first_number (command_lines_listed (lent (memory words) bytes) (policy_of words) c) f) in
        record { outcome = Err x.why; words' = words; bytes' = bytes; call = refused_so words bytes c x.why (rw x.its_number f) }
    go (clear f) =
        let bytes' = cond (changes_containment c) (index_of (policy_of (words_after words c))) bytes in
        record { outcome = Ok tt; words' = words_after words c; bytes' = bytes'; call = done_so words bytes c f refl refl }

-- So there is a run of any commands that a caller can pass, from any words and any bytes.
pub run_exists : (words bytes : List ℕ) (commands : List Command) → all_of fits commands ≡ true → Ran words bytes commands
unfolding all_of
run_exists words bytes [] f = record { steps = []; words' = words; bytes' = bytes; run = none; are = refl }
run_exists words bytes (c ∷ commands) f =
    let m = made words bytes c in
    let r = run_exists m.words' m.bytes' commands (and_right (fits c) (all_of fits commands) f) in
    let s : Step = record { command = c; words = words; bytes = bytes; outcome = m.outcome; words' = m.words'; bytes' = m.bytes' } in
    record {
      steps = s ∷ r.steps;
      words' = r.words';
      bytes' = r.bytes';
      run = then s (record { passable = and_left (fits c) (all_of fits commands) f; call = m.call }) r.run;
      are = ap {B = List Command} (λ l. c ∷ l) r.are;
    }

-- And there is only one. Two steps of one command from the same words and bytes are the same.
step_unique : (s t : Step) → Meets s → Meets t → s.command ≡ t.command → s.words ≡ t.words → s.bytes ≡ t.bytes → s ≡ t
step_unique s t m n c w b =
    let there : Commanded s.words s.bytes s.command t.outcome t.words' t.bytes' =
    subst₃ (λ x y z. Commanded x y z t.outcome t.words' t.bytes') (sym w) (sym b) (sym c) n.call in
    let u = unique m.call there in
    λ i. record { command = c i; words = w i; bytes = b i; outcome = u.0 i; words' = u.1 i; bytes' = u.2 i }

-- two runs of the same commands from the same words and bytes have the same steps, and end in the same words and bytes
runs_alike : {words bytes : List ℕ} {steps : List Step} {words' bytes' : List ℕ} → Run words bytes steps words' bytes'
    → {words₂ bytes₂ : List ℕ} {steps₂ : List Step} {words₂' bytes₂' : List ℕ} → Run words₂ bytes₂ steps₂ words₂' bytes₂'
    → commands_of steps ≡ commands_of steps₂ → words ≡ words₂ → bytes ≡ bytes₂ → (steps ≡ steps₂) × (words' ≡ words₂') × (bytes' ≡ bytes₂')
runs_alike none none c w b = (refl, w, b)
runs_alike none (then t n q) c w b = never (cc)
runs_alike (then s m r) none c w b = never (cc)
runs_alike (then s m {steps = steps} r) (then t n {steps = steps₂} q) c w b =
    let d : s.command ≡ t.command = cc in
    let ds : commands_of steps ≡ commands_of steps₂ = cc in
    let e = step_unique s t m n d w b in
    let rest = runs_alike r q ds (ap (λ (x : Step). x.words') e) (ap (λ (x : Step). x.bytes') e) in
    (ap₂ {C = List Step} ◌∷◌ e rest.0, rest.1, rest.2)

-- So from one start the same commands have the same outcomes, the same words and bytes after each of them, and the same end.
pub run_unique : {words bytes : List ℕ} {steps steps₂ : List Step} {words' bytes' words₂' bytes₂' : List ℕ}
    → Run words bytes steps words' bytes' → Run words bytes steps₂ words₂' bytes₂' → commands_of steps ≡ commands_of steps₂
    → (steps ≡ steps₂) × (words' ≡ words₂') × (bytes' ≡ bytes₂')
run_unique r q c = runs_alike r q c refl refl
