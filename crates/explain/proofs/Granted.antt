-- The explanation of a grant: its rows are those of the alternative that is granted.
-- Assumes nothing.
use mathlib.Core.Path.{◌≡◌, sym, ap, ◌∙◌}
use mathlib.Core.Bool.{Bool}
use mathlib.Core.List.{List, [], ◌∷◌, ◌++◌}
use Prim.Native.Nat.{ℕ, zero, suc, pred, ◌+◌, ◌-◌, ◌≤◌, ◌<◌}
use native.Mathlib.Omega.{arith}
use lib.ListN.{length, get_or, length-append}
use Rattle.model.specs.Policy.{Policy, user_of}
use Rattle.model.specs.Contain.{contained}
use Rattle.model.specs.Request.{Request as Asks, Alternative, operation_of, alternatives_of, grant, verdict}
use Rattle.model.specs.Explain.{rows, rows_of}
use Rattle.model.proofs.Decisions.Decision.{grant_says}
use Rattle.table.specs.View.{policy_of}
use Rattle.table.specs.Facts.{AtMost}
use Rattle.request.specs.declared.Request.{Request}
use Rattle.request.specs.Sets.{right_sets, capabilities}
use Rattle.request.specs.Asks.{request_of}
use Rattle.request.proofs.Operations.{few_alternatives}
use Rattle.request.proofs.Alternatives.{first_sets, second_sets}
use Rattle.grants.specs.Numbers.{grant_numbers}
use Rattle.grants.specs.Put.{Put}
use Rattle.grants.proofs.Counted.{grant_length_alike}
use Rattle.grants.proofs.Granted.{grant_numbers_lem}
use Rattle.grants.proofs.Placed.{put_over}
use Rattle.std.specs.Prelude.{Ok, Err}
use Rattle.answer.specs.declared.Refusal.TheVariants.{NoRoom}
use Rattle.answer.specs.Answers as answers
use Rattle.explain.specs.declared.Explanation.TheVariants.{Grant}
use Rattle.explain.specs.Answers.{explained_by, left, numbers, explained}
use Rattle.explain.proofs.Filled.{too_few, filled}

-- a grant names alternative 1 or alternative 2
pub grant_small : (W : ℕ → ℕ → Bool) (p : Policy) (q : Asks) {k : ℕ} → verdict W p q ≡ grant k → (1 ≤ k) × (k ≤ 2)
grant_small W p q {k} v =
    let g = grant_says W p q v in
    let n : length (alternatives_of q) ≡ length (g.front ++ g.it ∷ g.behind) = ap (λ (l : List Alternative). length l) g.parts in
    let m : length (g.front ++ g.it ∷ g.behind) ≡ length g.front + length (g.it ∷ g.behind) = length-append g.front (g.it ∷ g.behind) in
    (omega (arith, g.place), omega (arith, g.place, n, m, few_alternatives q.operation))

-- the sets that the code reads for alternative 1 and for alternative 2
sets_at : (n k : ℕ) → 1 ≤ k → k ≤ 2 → get_or (capabilities n) (k - 1) [] ≡ right_sets (get_or (operation_of n).alternatives (pred k) [])
sets_at n zero l h = absurd (omega arith)
sets_at n (suc zero) l h = first_sets n
sets_at n (suc (suc zero)) l h = second_sets n
sets_at n (suc (suc (suc k))) l h = absurd (omega arith)

-- The alternative that is granted, with its sets as the code reads them.
module _ (mem : List ℕ) (q : Request) {user alternative : ℕ} {sets : List ℕ} (u : user ≡ user_of (policy_of mem) q.process)
    (v : verdict (contained (policy_of mem)) (policy_of mem) (request_of q) ≡ grant alternative)
    (s : (1 ≤ alternative) × (sets ≡ get_or (capabilities q.operation) (alternative - 1) [])) where
  -- the rows of the request, as numbers
  granted_numbers : numbers (policy_of mem) (request_of q) ≡ grant_numbers (policy_of mem) q user alternative sets
  unfolding numbers rows rows_of
  granted_numbers =
      let k = grant_small (contained (policy_of mem)) (policy_of mem) (request_of q) v in
      rw (v, s.1, sets_at q.operation alternative k.0 k.1) (sym (grant_numbers_lem mem q user alternative q.operation (pred alternative) u))

  module _ {n : ℕ} (c : AtMost (length (grant_numbers (policy_of mem) q user 0 sets)) 49056 n) where
    -- what was counted is their number
    counted : n ≡ length (grant_numbers (policy_of mem) q user alternative sets)
    counted = c.is ∙ sym (grant_length_alike (policy_of mem) q user alternative sets)

    -- the lent rows are too few
    pub grant_refused : (out : List (List ℕ)) → length out < n → left (Err NoRoom) out ≡ explained (policy_of mem) (request_of q) out
    grant_refused out h = too_few (policy_of mem) (request_of q) out granted_numbers (omega (arith, counted))

    -- they have room
    pub grant_fits : (out : List (List ℕ)) → n ≤ length out → length (grant_numbers (policy_of mem) q user alternative sets) ≤ length out
    grant_fits out h = omega (arith, counted)

    -- and are written
    pub grant_filled : {out out' : List (List ℕ)} {t : ℕ} → n ≤ length out → Put out 0 (grant_numbers (policy_of mem) q user alternative sets) out' t
        → left (Ok (Grant alternative n)) out' ≡ explained (policy_of mem) (request_of q) out
    unfolding answers.told explained_by
    grant_filled {out} {out'} h w =
        filled (policy_of mem) (request_of q) out granted_numbers (grant_fits out h) (Ok (Grant alternative n)) (rw (v, counted)) (put_over w (grant_fits out h))
