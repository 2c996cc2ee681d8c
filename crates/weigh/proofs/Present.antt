-- How many elements and processes there are, by their words.
-- Assumes nothing.
use mathlib.Core.Path.{◌≡◌, refl, sym, ap, ◌∙◌}
use mathlib.Core.Bool.{Bool, not}
use mathlib.Core.List.{List}
use Prim.Native.Nat.{ℕ, suc, ◌+◌, ◌-◌, ◌≤◌, ◌<◌}
use native.Mathlib.Omega.{arith}
use lib.Dec.{eqb}
use lib.ListN.{length}
use Rattle.std.specs.Int.{from_bool}
use Rattle.model.specs.Lists.{those, tabulate}
use Rattle.model.specs.Policy.{Element, Process, is_kind, is_element_id, is_there, user_of}
use Rattle.table.specs.Layout.{kind_word, user_word}
use Rattle.table.specs.View.{policy_of, elements_of, processes_of}
use Rattle.table.specs.Facts.{AtMost}
use Rattle.table.proofs.ById.{there_by_word, owned_by_word}
use Rattle.weigh.proofs.Tallied.{as_digit, those_more, TallyTo, tally_more}

-- the elements with an id up to k
unfoldable pub element_tally : (mem : List ℕ) (k : ℕ) → ℕ
element_tally mem k = length (those (λ (e : Element). is_kind e.kind) (tabulate k (λ i. record { id = suc i; kind = kind_word mem (suc i) })))

-- the processes with an id up to k
unfoldable pub process_tally : (mem : List ℕ) (k : ℕ) → ℕ
process_tally mem k = length (those (λ (q : Process). is_element_id q.owner) (tabulate k (λ i. record { id = suc i; owner = user_word mem (suc i) })))

module _ (mem : List ℕ) where
  -- no element has an id below 1
  pub elements_none : TallyTo (element_tally mem) 512 1 0
  unfolding element_tally those tabulate
  elements_none = record { is = refl; some = omega arith; most = omega arith; small = omega arith; few = omega arith }

  -- element x is counted, where it is there
  pub elements_more : {x n : ℕ} → x < 512 → TallyTo (element_tally mem) 512 x n → {b : Bool} → b ≡ is_there (policy_of mem) x → {d : ℕ} → d ≡ from_bool b
      → TallyTo (element_tally mem) 512 (x + 1) (n + d)
  unfolding element_tally
  elements_more {x} l k {b} t e =
      let i : suc (x - 1) ≡ x = omega arith in
      let w : is_kind (kind_word mem (suc (x - 1))) ≡ b = ap (λ (j : ℕ). is_kind (kind_word mem j)) i ∙ sym (t ∙ there_by_word mem x k.some (omega arith)) in
      let s = those_more (λ (a : Element). is_kind a.kind) (λ j. record { id = suc j; kind = kind_word mem (suc j) }) (x - 1) in
      tally_more (element_tally mem) 512 b (rw w at s) l k (e ∙ as_digit b)

  -- all are counted
  pub elements_all : {x n : ℕ} → 512 ≤ x → TallyTo (element_tally mem) 512 x n → AtMost (length (policy_of mem).elements) 511 n
  unfolding element_tally policy_of elements_of
  elements_all {x} {n} h k =
      let i : x - 1 ≡ 511 = omega arith in
      record { is = k.is ∙ ap (element_tally mem) i; few = omega arith }

  -- no process has an id below 1
  pub processes_none : TallyTo (process_tally mem) 256 1 0
  unfolding process_tally those tabulate
  processes_none = record { is = refl; some = omega arith; most = omega arith; small = omega arith; few = omega arith }

  -- process i is counted, where it is there
  pub processes_more : {i n : ℕ} → i < 256 → TallyTo (process_tally mem) 256 i n → {u : ℕ} → u ≡ user_of (policy_of mem) i → {d : ℕ} → d ≡ from_bool (not (eqb u 0))
      → TallyTo (process_tally mem) 256 (i + 1) (n + d)
  unfolding process_tally
  processes_more {i} l k {u} t e =
      let j : suc (i - 1) ≡ i = omega arith in
      let w : is_element_id (user_word mem (suc (i - 1))) ≡ not (eqb u 0) =
      ap (λ (j : ℕ). is_element_id (user_word mem j)) j ∙ sym (ap (λ (v : ℕ). not (eqb v 0)) t ∙ owned_by_word mem i k.some (omega arith)) in
      let s = those_more (λ (q : Process). is_element_id q.owner) (λ j. record { id = suc j; owner = user_word mem (suc j) }) (i - 1) in
      tally_more (process_tally mem) 256 (not (eqb u 0)) (rw w at s) l k (e ∙ as_digit (not (eqb u 0)))

  -- all are counted
  pub processes_all : {i n : ℕ} → 256 ≤ i → TallyTo (process_tally mem) 256 i n → AtMost (length (policy_of mem).processes) 255 n
  unfolding process_tally policy_of processes_of
  processes_all {i} {n} h k =
      let e : i - 1 ≡ 255 = omega arith in
      record { is = k.is ∙ ap (process_tally mem) e; few = omega arith }
