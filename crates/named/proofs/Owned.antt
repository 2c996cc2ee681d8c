-- Whether a process is of a user, by the user of each process.
-- Assumes nothing.
use mathlib.Core.Path.{◌≡◌, refl, sym, ap, ◌∙◌}
use mathlib.Core.Bool.{Bool, true}
use mathlib.Core.List.{List}
use mathlib.Core.Logic.{inl, inr}
use Prim.Native.Nat.{ℕ, suc, ◌+◌, ◌-◌, ◌≤◌, ◌<◌}
use native.Mathlib.Omega.{arith}
use native.Mathlib.Decide.{dec_lt}
use borrow.Author.Tests.{le-leb, leb-true, eq-eqb, eqb-true}
use lib.Dec.{eqb, leb}
use Rattle.model.specs.Lists.{any_of, tabulate}
use Rattle.model.specs.Policy.{Process, is_element_id, user_of}
use Rattle.model.proofs.Truth.{and_right, and_join, same_truth, any_in, any_found, Found, those_in, those_pass, in_those}
use Rattle.table.specs.Layout.{user_word}
use Rattle.table.specs.View.{processes_of, policy_of}
use Rattle.table.proofs.Tabled.{in_tabulate, tabulate_in}
use Rattle.table.proofs.ById.{user_is, user_above, user_outside}
use Rattle.named.specs.Uses.{is_owner}

module _ (mem : List ℕ) (x : ℕ) where
  -- process j + 1, by its word
  abbrev process : (j : ℕ) → Process
  process j = record { id = suc j; owner = user_word mem (suc j) }

  -- the policy has a process whose word is an id
  owner_at : (j : ℕ) → j < 255 → user_word mem (suc j) ≡ x → 1 ≤ x → x ≤ 511 → true ≡ is_owner (policy_of mem) x
  unfolding is_owner policy_of processes_of is_element_id
  owner_at j l e p q =
      sym (any_in (λ q. eqb q.owner x) (in_those (λ q. is_element_id q.owner) (in_tabulate 255 process j l)
      (rw e (and_join (leb 1 x) (leb x 511) (le-leb 1 x p) (le-leb x 511 q)))) (eq-eqb (user_word mem (suc j)) x e))

  -- process i is of x
  pub owner_found : 1 ≤ x → (i : ℕ) {u : ℕ} → u ≡ user_of (policy_of mem) i → u ≡ x → true ≡ is_owner (policy_of mem) x
  owner_found p i is e = elim (dec_lt 511 (user_word mem i)) [
    | yes b ↦ absurd (omega (arith, user_above mem i b, is))
    | no b ↦ elim (dec_lt i 1) [
      | yes c ↦ absurd (omega (arith, user_outside mem i (inl c), is))
      | no c ↦ elim (dec_lt 255 i) [
        | yes d ↦ absurd (omega (arith, user_outside mem i (inr d), is))
        | no d ↦
            let s : suc (i - 1) ≡ i = omega arith in
            let w : user_word mem i ≡ x = user_is mem i (omega arith) (omega arith) (omega arith) ∙ sym is ∙ e in
            owner_at (i - 1) (omega arith) (ap (user_word mem) s ∙ w) p (omega arith)
      ]
    ]
  ]

  -- the user of process j + 1
  abbrev owner : (j : ℕ) → ℕ
  owner j = user_of (policy_of mem) (1 + j)

  -- where the policy has a process of x, one of the users is x
  among : Found (λ (q : Process). eqb q.owner x) (processes_of mem) → any_of (λ u. eqb u x) (tabulate 255 owner) ≡ true
  unfolding processes_of is_element_id
  among w =
      let t = tabulate_in 255 process (those_in (λ q. is_element_id q.owner) (tabulate 255 process) w.there) in
      let o : user_word mem (suc t.at) ≡ w.it.owner = ap (λ (q : Process). q.owner) t.is in
      let there = those_pass (λ q. is_element_id q.owner) (tabulate 255 process) w.there in
      let fits = and_right (leb 1 w.it.owner) (leb w.it.owner 511) there in
      let small : user_word mem (suc t.at) ≤ 511 = omega (arith, leb-true w.it.owner 511 fits) in
      let s : 1 + t.at ≡ suc t.at = omega arith in
      any_in (λ u. eqb u x) (in_tabulate 255 owner t.at t.early)
      (eq-eqb (owner t.at) x (ap (user_of (policy_of mem)) s ∙ sym (user_is mem (suc t.at) (omega arith) (omega (arith, t.early)) small) ∙ o ∙ eqb-true w.it.owner x w.is))

  -- one of the users is x exactly if a process is of x
  pub owner_among : 1 ≤ x → {r : Bool} → r ≡ any_of (λ u. eqb u x) (tabulate 255 owner) → r ≡ is_owner (policy_of mem) x
  unfolding is_owner policy_of
  owner_among p is =
      is
      ∙ same_truth (any_of (λ u. eqb u x) (tabulate 255 owner)) (is_owner (policy_of mem) x)
      (λ e. let w = any_found (λ u. eqb u x) (tabulate 255 owner) e in let t = tabulate_in 255 owner w.there in sym (owner_found p (1 + t.at) refl (t.is ∙ eqb-true w.it x w.is)))
      (λ e. among (any_found (λ q. eqb q.owner x) (processes_of mem) e))
