-- "An explanation call answers the same as the plain decision", but for refusal 10, where the lent rows are too few.
-- Assumes nothing.
use mathlib.Core.Path.{◌≡◌}
use mathlib.Core.Bool.{Bool}
use Prim.Native.Nat.{ℕ, ◌≤◌, ◌<◌}
use borrow.Author.Tests.{lt-ltb, le-ltb}
use lib.ListN.{length}
use Rattle.model.specs.Policy.{Policy}
use Rattle.model.specs.Refusal.{refused, accepted, answer}
use Rattle.model.specs.Request.{Request, Verdict, verdict, request_lines, decision}
use Rattle.model.specs.Explain.{Explained, rows, explanation}
use Rattle.model.proofs.Refusals.{refused_still, accepted_then, accepted_none}

module _ (W : ℕ → ℕ → Bool) (holds_table : Bool) (room : ℕ) (p : Policy) (q : Request) where
  abbrev told : Explained
  told = record { verdict = verdict W p q; count = length (rows W p q) }

  -- a request that the decision refuses is refused with the same number
  pub explained_refused : {n : ℕ} → decision W holds_table p q ≡ refused n → explanation W holds_table room p q ≡ refused n
  unfolding decision explanation
  explained_refused e = refused_still (verdict W p q) told _ (request_lines holds_table p q) e

  -- one that it answers is answered with the same verdict, where the rows have room
  pub explained_as_decided : {v : Verdict} → decision W holds_table p q ≡ accepted v → length (rows W p q) ≤ room
      → explanation W holds_table room p q ≡ accepted (record { verdict = v; count = length (rows W p q) })
  unfolding decision explanation answer
  explained_as_decided {v} e h =
      let s : v ≡ verdict W p q = (accepted_none (verdict W p q) (request_lines holds_table p q) e).1 in
      rw (accepted_then (verdict W p q) told _ (request_lines holds_table p q) e, le-ltb room (length (rows W p q)) h, s)

  -- and refused with 10 where they have not
  pub explained_too_few : {v : Verdict} → decision W holds_table p q ≡ accepted v → room < length (rows W p q) → explanation W holds_table room p q ≡ refused 10
  unfolding decision explanation answer
  explained_too_few e h = rw (accepted_then (verdict W p q) told _ (request_lines holds_table p q) e, lt-ltb room (length (rows W p q)) h)
