-- What the calls answer is among the answers that their codes tell apart.
-- Assumes nothing.
use mathlib.Core.Path.{◌≡◌, sym, ap, ◌∙◌}
use mathlib.Core.Bool.{Bool, true}
use mathlib.Core.List.{List}
use Prim.Native.Nat.{ℕ, ◌^◌, ◌≤◌, ◌<◌}
use native.Mathlib.Omega.{arith}
use borrow.Author.Tests.{not-false}
use lib.ListN.{length}
use Rattle.model.specs.Contain.{contained}
use Rattle.model.specs.Refusal.{None, past, accepted}
use Rattle.model.specs.Request.{Request, grant, verdict, decision, indexed_decision, request_lines, indexed_lines}
use Rattle.model.specs.Explain.{Explained, explain_lines, explanation, rows}
use Rattle.model.specs.Image.{image_of, save_lines}
use Rattle.model.specs.Index.{bit_at}
use Rattle.model.specs.Calls.{Memory, decide, decide_indexed, save, lent}
use Rattle.model.proofs.Refusals.{accepted_none}
use Rattle.table.specs.View.{holds_table, policy_of, memory}
use Rattle.table.proofs.Test.{table_of_lem}
use Rattle.pack.proofs.Bounded.{bytes_few}
use Rattle.explain.specs.Answers.{explaining}
use Rattle.explain.proofs.Granted.{grant_small}
use Rattle.rows.proofs.Few.{few_rows, few_elements}
use Rattle.exports.proofs.Numbered.{decide_numbered, indexed_numbered, explaining_numbered, save_numbered}
use Rattle.exports.proofs.Tells.{Decided, Sized, Rowed}

-- the plain decision answers what a decision can: a number of 01's, alternative 1 or 2, or a deny
pub decide_occurs : (m : Memory) (q : Request) → Decided (decide m q)
unfolding decide decision
decide_occurs m q = record {
  numbered = decide_numbered m q;
  given = λ v e k h. grant_small (contained m.policy) m.policy q (sym (accepted_none (verdict (contained m.policy) m.policy q) (request_lines m.holds_table m.policy q) e).1 ∙ h);
}

-- so does the indexed decision, over any bytes
pub indexed_occurs : (m : Memory) (index : List ℕ) (q : Request) → Decided (decide_indexed m index q)
unfolding decide_indexed indexed_decision
indexed_occurs m index q = record {
  numbered = indexed_numbered m index q;
  given = λ v e k h. grant_small (bit_at index) m.policy q (sym (accepted_none (verdict (bit_at index) m.policy q) (indexed_lines (lent m index) m.policy q) e).1 ∙ h);
}

-- a save answers a length of 32 bits: no image of a table is longer than 15,115 bytes
pub save_occurs : (mem room : List ℕ) → Sized (save (memory mem) room).answers
unfolding save
save_occurs mem room = record { numbered = save_numbered (memory mem) room; short = short }
  where
    held : {b : Bool} → None (save_lines b (length room) (policy_of mem)) → b ≡ true
    held (past e f) = not-false _ e

    short : (n : ℕ) → (save (memory mem) room).answers ≡ accepted n → n < 2 ^ 32
    short n e =
        let c = accepted_none (length (image_of (policy_of mem))) (save_lines (holds_table mem) (length room) (policy_of mem)) e in
        let few = bytes_few (table_of_lem mem (held c.0)) in
        omega (arith, few, c.1)

-- an explanation answers a count of 32 bits: no request has more than 1,533 rows
pub explain_occurs : (mem : List ℕ) (q : Request) (room : List (List ℕ)) → Rowed (explaining (memory mem) q room).answers
unfolding explaining explanation
explain_occurs mem q room = record { numbered = explaining_numbered (memory mem) q room; given = λ e h. (whole e h).0; few = λ e h. (whole e h).1 }
  where
    whole : (e : Explained) → (explaining (memory mem) q room).answers ≡ accepted e
        → ((k : ℕ) → e.verdict ≡ grant k → (1 ≤ k) × (k ≤ 2)) × (e.count < 2 ^ 32)
    whole e h =
        let it : Explained = record { verdict = verdict (contained (policy_of mem)) (policy_of mem) q; count = length (rows (contained (policy_of mem)) (policy_of mem) q) } in
        let s : e ≡ it = (accepted_none it (explain_lines (contained (policy_of mem)) (holds_table mem) (length room) (policy_of mem) q) h).1 in
        let few = few_rows (contained (policy_of mem)) (policy_of mem) (few_elements mem) q in
        let count : e.count ≡ length (rows (contained (policy_of mem)) (policy_of mem) q) = ap (λ (x : Explained). x.count) s in
        (λ k v. grant_small (contained (policy_of mem)) (policy_of mem) q (sym (ap (λ (x : Explained). x.verdict) s) ∙ v), omega (arith, few, count))
