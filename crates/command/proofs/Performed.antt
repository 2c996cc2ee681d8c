-- What meets a command's contract: nothing written where a line holds; else the words after the command, and its index.
-- Assumes nothing.
use mathlib.Core.Path.{◌≡◌, refl, sym, ap, subst₂, ◌∙◌}
use mathlib.Core.Bool.{cond}
use mathlib.Core.List.{List}
use Prim.Native.Nat.{ℕ, ◌≤◌}
use native.Mathlib.Omega.{arith}
use Rattle.model.specs.Refusal.{First, None, accepted, proper}
use Rattle.model.specs.Command.{Command, command_lines, after}
use Rattle.model.specs.Index.{index_of}
use Rattle.model.specs.Calls.{kept, lent, changes_containment, command}
use Rattle.model.proofs.Refusals.{first_refused, none_given, none_accepted}
use Rattle.table.specs.View.{holds_table, policy_of, memory}
use Rattle.table.specs.Facts.{Table}
use Rattle.std.specs.Prelude.{Ok, Err}
use Rattle.answer.specs.declared.Refusal.{Refusal}
use Rattle.answer.specs.Answers.{number_of, told}
use Rattle.table.proofs.Test.{of_table}
use Rattle.refusals.specs.Numbers.{refusal_of}
use Rattle.refusals.proofs.Accepts.{accepts_table, accepts_index}
use Rattle.command.specs.Commanded.{words_after, Commanded}
use Rattle.command.proofs.Policies.{holds_after}

-- an accepted call found a table and an index of 32,768 bytes, and no line holds
pub record Accepted (mem : List ℕ) (n : ℕ) (c : Command) : Type 0 where
  pub table : Table mem
  pub size : n ≡ 32768
  pub lines : None (command_lines proper (policy_of mem) c)

-- which is so where no line holds of what it found
pub accepted_call : {mem : List ℕ} {n : ℕ} {c : Command}
    → None (command_lines (record { holds_table = holds_table mem; index = n }) (policy_of mem) c) → Accepted mem n c
unfolding refusal_of
accepted_call {mem} {n} {c} f =
    let z : refusal_of mem n c ≤ 0 = omega (arith, none_given f) in
    let t = accepts_table mem n c refl z in
    let s = accepts_index mem n c refl z in
    record {
      table = t;
      size = s;
      lines = subst₂ (λ b k. None (command_lines (record { holds_table = b; index = k }) (policy_of mem) c)) (of_table t) s f;
    }

module _ (mem idx : List ℕ) (c : Command) where
  -- a line holds: the words and the index stay
  pub refused_so : (s : Refusal) → First (number_of s) (command_lines (lent (memory mem) idx) (policy_of mem) c) → Commanded mem idx c (Err s) mem idx
  unfolding command kept told
  refused_so s f =
      let e = first_refused (after (policy_of mem) c) f in
      record { answers = sym e; words = rw e refl; index = rw e refl }

  -- no line holds: the words are those after the command, and so is the index where the command can change containment
  pub done_so : {mem' idx' : List ℕ} → None (command_lines (lent (memory mem) idx) (policy_of mem) c) → mem' ≡ words_after mem c
      → idx' ≡ cond (changes_containment c) (index_of (policy_of mem')) idx → Commanded mem idx c (Ok tt) mem' idx'
  unfolding command kept told
  done_so {mem'} f w i =
      let a = accepted_call {mem = mem} f in
      let p : policy_of mem' ≡ after (policy_of mem) c = ap policy_of w ∙ (holds_after a.table c a.lines).policy in
      let e = none_accepted (after (policy_of mem) c) f in
      record {
        answers = ap accepted p ∙ sym e;
        words = w ∙ rw e refl;
        index = i ∙ ap (λ q. cond (changes_containment c) (index_of q) idx) p ∙ rw e refl;
      }
