-- The row of an alternative that is not satisfied: each return.
-- Assumes nothing.
use mathlib.Core.Path.{◌≡◌, ap, ◌∙◌}
use mathlib.Core.Bool.{true, false}
use mathlib.Core.List.{List}
use Prim.Native.Nat.{ℕ, ◌≤◌, ◌<◌}
use borrow.Author.Tests.{lt-ltb, le-ltb}
use lib.ListN.{get_or}
use Rattle.model.specs.Policy.{Policy}
use Rattle.model.specs.Contain.{contained}
use Rattle.request.specs.declared.Request.{Request}
use Rattle.rule.specs.declared.Asking.{Asking}
use Rattle.decide.specs.Asks.{asking_of, permits_all, satisfies}
use Rattle.denials.specs.Failing.{first_failing_right, failing_row, deny_numbers}
use Rattle.denials.proofs.Rights.{row_of, row_some, row_none, failing_low, failing_none}

-- The arguments, one after another.
module _ (p : Policy) (q : Request) (user k : ℕ) (sets : List ℕ) {a : Asking} (ea : a ≡ asking_of q user false q.first 1 0)
    {r : List ℕ} (er : r ≡ failing_row p a (get_or sets 0 0) k 1) where
  -- the row of the first
  of_first : r ≡ failing_row p (asking_of q user false q.first 1 0) (get_or sets 0 0) k 1
  of_first = er ∙ ap (λ (x : Asking). failing_row p x (get_or sets 0 0) k 1) ea

  -- the first fails
  pub row_first : 0 < get_or r 3 0 → r ≡ deny_numbers p q user k sets
  unfolding deny_numbers
  row_first h =
      let l = row_some p (asking_of q user false q.first 1 0) (get_or sets 0 0) k 1 (rw of_first at h) in
      rw (lt-ltb (first_failing_right p (asking_of q user false q.first 1 0) (get_or sets 0 0)) 32 l) (of_first ∙ row_of p (asking_of q user false q.first 1 0) (get_or sets 0 0) k 1 l)

  module _ (h : get_or r 3 0 ≤ 0) {b : Asking} (eb : b ≡ asking_of q user false q.second 2 0) {s : List ℕ} (es : s ≡ failing_row p b (get_or sets 1 0) k 2) where
    -- the first does not fail
    first_passes : 32 ≤ first_failing_right p (asking_of q user false q.first 1 0) (get_or sets 0 0)
    first_passes = row_none p (asking_of q user false q.first 1 0) (get_or sets 0 0) k 1 (rw of_first at h)

    -- the row of the second
    of_second : s ≡ failing_row p (asking_of q user false q.second 2 0) (get_or sets 1 0) k 2
    of_second = es ∙ ap (λ (x : Asking). failing_row p x (get_or sets 1 0) k 2) eb

    -- the second fails
    pub row_second : 0 < get_or s 3 0 → s ≡ deny_numbers p q user k sets
    unfolding deny_numbers
    row_second i =
        let l = row_some p (asking_of q user false q.second 2 0) (get_or sets 1 0) k 2 (rw of_second at i) in
        rw (
          le-ltb (first_failing_right p (asking_of q user false q.first 1 0) (get_or sets 0 0)) 32 first_passes,
          lt-ltb (first_failing_right p (asking_of q user false q.second 2 0) (get_or sets 1 0)) 32 l,
        )
        (of_second ∙ row_of p (asking_of q user false q.second 2 0) (get_or sets 1 0) k 2 l)

    module _ (i : get_or s 3 0 ≤ 0) {c : Asking} (ec : c ≡ asking_of q user false q.third 3 0) where
      -- the second does not fail
      second_passes : 32 ≤ first_failing_right p (asking_of q user false q.second 2 0) (get_or sets 1 0)
      second_passes = row_none p (asking_of q user false q.second 2 0) (get_or sets 1 0) k 2 (rw of_second at i)

      -- where the alternative is not satisfied the third does
      third_fails : satisfies (contained p) p q user sets ≡ false → first_failing_right p (asking_of q user false q.third 3 0) (get_or sets 2 0) < 32
      unfolding satisfies
      third_fails n =
          let one : permits_all (contained p) p (asking_of q user false q.first 1 0) (get_or sets 0 0) ≡ true = failing_none p (asking_of q user false q.first 1 0) (get_or sets 0 0) first_passes in
          let two : permits_all (contained p) p (asking_of q user false q.second 2 0) (get_or sets 1 0) ≡ true = failing_none p (asking_of q user false q.second 2 0) (get_or sets 1 0) second_passes in
          failing_low p (asking_of q user false q.third 3 0) (get_or sets 2 0) (rw (one, two) at n)

      -- so its row is told
      pub row_third : satisfies (contained p) p q user sets ≡ false → {t : List ℕ} → t ≡ failing_row p c (get_or sets 2 0) k 3 → t ≡ deny_numbers p q user k sets
      unfolding deny_numbers
      row_third n et =
          rw (
            le-ltb (first_failing_right p (asking_of q user false q.first 1 0) (get_or sets 0 0)) 32 first_passes,
            le-ltb (first_failing_right p (asking_of q user false q.second 2 0) (get_or sets 1 0)) 32 second_passes,
          )
          (et ∙ ap (λ (x : Asking). failing_row p x (get_or sets 2 0) k 3) ec ∙ row_of p (asking_of q user false q.third 3 0) (get_or sets 2 0) k 3 (third_fails n))
