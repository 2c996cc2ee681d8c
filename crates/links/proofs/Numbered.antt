-- Records by id in words: a test of each id from 1 on is the test of each record that is there. Elements and processes are such records.
-- Assumes nothing.
use mathlib.Core.Path.{◌≡◌, refl, sym, ap, ◌∙◌}
use mathlib.Core.Bool.{Bool, true, false, not, ◌&&◌, ◌||◌, and-false, or_assoc}
use mathlib.Core.List.{List}
use Prim.Native.Nat.{ℕ, suc, ◌+◌, ◌-◌, ◌≤◌, ◌<◌}
use native.Mathlib.Omega.{arith}
use native.Mathlib.Decide.{dec_lt}
use borrow.Author.Tests.{not-false, lt-leb}
use lib.Dec.{eqb, leb}
use Rattle.model.specs.Lists.{In, any_of, all_of, those, tabulate}
use Rattle.model.specs.Policy.{Policy, Process, is_element_id, is_kind, kind_of, is_there, user_of, is_process}
use Rattle.model.specs.Sound.{process_pairs, assigned_or_class, all_assigned}
use Rattle.model.proofs.Truth.{clash, same_truth, passes, fails, tested, fails_when, or_fails, all_in, all_of_lem, those_in, those_pass, in_those}
use Rattle.table.specs.Layout.{kind_word, user_word}
use Rattle.table.specs.View.{elements_of, processes_of, policy_of}
use Rattle.table.proofs.Tabled.{in_tabulate, tabulate_in}
use Rattle.table.proofs.ById.{kind_is, kind_above, user_is, user_above, value_there}
use Rattle.links.specs.Returning.{owner_fits, is_free}

-- the element is not there, is a class, or has an assignment
unfoldable pub is_placed : Policy → (x : ℕ) → Bool
is_placed p x = is_free p x || any_of (λ a. eqb a.child x) p.assignments

-- each id from 1 on and below x passes the test
pub record IdsPass (h : ℕ → Bool) (x : ℕ) : Type 0 where
  pub some : 1 ≤ x
  pub passed : (k : ℕ) → 1 ≤ k → k < x → h k ≡ true

-- there is none below 1
pub ids_none : (h : ℕ → Bool) → IdsPass h 1
ids_none h = record { some = omega arith; passed = λ k a b. absurd (omega arith) }

-- the second is true where the first is
second : (a b : Bool) → a ≡ true → (not a || b) ≡ true → b ≡ true
second true b e h = h
second false b e h = absurd (clash refl (sym e))

-- Records made by id, 1 to n, those that pass a test t. h asks of an id that its record fails t or passes f.
module _ {A : Type 0} (t f : A → Bool) (make : ℕ → A) (n : ℕ) (h : ℕ → Bool)
    (asks : (x : ℕ) → 1 ≤ x → x ≤ n → h x ≡ (not (t (make x)) || f (make x))) where
  -- one fails
  one_fails : (x : ℕ) → 1 ≤ x → x ≤ n → h x ≡ false → false ≡ all_of f (those t (tabulate n (λ i. make (suc i))))
  one_fails x a b e =
      let l : List A = tabulate n (λ i. make (suc i)) in
      let c = or_fails (not (t (make x))) (f (make x)) (sym (asks x a b) ∙ e) in
      let s : suc (x - 1) ≡ x = omega arith in
      let m : In (make x) l = rw s at (in_tabulate n (λ i. make (suc i)) (x - 1) (omega arith)) in
      sym (fails_when (all_of f (those t l)) (λ u. clash (all_in f u (in_those t m (not-false (t (make x)) c.0))) c.1))

  -- each passes
  each_pass : ((x : ℕ) → 1 ≤ x → x ≤ n → h x ≡ true) → true ≡ all_of f (those t (tabulate n (λ i. make (suc i))))
  each_pass p =
      let l : List A = tabulate n (λ i. make (suc i)) in
      sym (all_of_lem f (those t l) (λ a m.
      let w = tabulate_in n (λ i. make (suc i)) (those_in t l m) in
      let e = sym (asks (suc w.at) (omega arith) (omega (arith, w.early))) ∙ p (suc w.at) (omega arith) (omega (arith, w.early)) in
      ap f (sym w.is) ∙ second (t (make (suc w.at))) (f (make (suc w.at))) (ap t w.is ∙ those_pass t l m) e))

-- A word w whose number v is 0 where the word is above the top: a test of the number, where it is not 0, is the same test of the word, where it is
-- 1 to the top.
by_word : (w v top : ℕ) (f : ℕ → Bool) → (w ≤ top → w ≡ v) → (top < w → 0 ≡ v)
    → (not (not (eqb v 0)) || f v) ≡ (not (leb 1 w && leb w top) || f w)
by_word w v top f low high = rw (value_there v w top high low) (elim (dec_lt top w) [
  | yes b ↦ rw (lt-leb w top b, and-false (leb 1 w))
  | no b ↦ let e : w ≡ v = low (omega arith) in rw e
])

module _ (mem : List ℕ) where
  -- what is asked of an element, by its word
  element_asked : (x : ℕ) → 1 ≤ x → x ≤ 511
      → is_placed (policy_of mem) x ≡ (not (is_kind (kind_word mem x)) || assigned_or_class (policy_of mem) (record { id = x; kind = kind_word mem x }))
  unfolding is_placed is_free is_there is_kind assigned_or_class
  element_asked x l h =
      let a : Bool = any_of (λ a. eqb a.child x) (policy_of mem).assignments in
      or_assoc (not (not (eqb (kind_of (policy_of mem) x) 0))) (eqb (kind_of (policy_of mem) x) 5) a
      ∙ by_word (kind_word mem x) (kind_of (policy_of mem) x) 5 (λ k. eqb k 5 || a) (kind_is mem x l h) (kind_above mem x)

  -- what is asked of a process, by its word
  process_asked : (i : ℕ) → 1 ≤ i → i ≤ 255
      → owner_fits (policy_of mem) i ≡ (not (is_element_id (user_word mem i)) || process_pairs (policy_of mem) (record { id = i; owner = user_word mem i }))
  unfolding owner_fits is_process is_element_id process_pairs
  process_asked i l h =
      by_word (user_word mem i) (user_of (policy_of mem) i) 511 (λ u. eqb (kind_of (policy_of mem) u) 1) (user_is mem i l h) (user_above mem i)

  -- where each element is a class or assigned, each id is placed
  pub assigned_each : all_assigned (policy_of mem) ≡ true → (x : ℕ) → 1 ≤ x → x ≤ 511 → is_placed (policy_of mem) x ≡ true
  unfolding all_assigned policy_of elements_of
  assigned_each e x a b = elim (tested (is_placed (policy_of mem) x)) [
    | passes h ↦ h
    | fails h ↦ absurd (clash e (sym
        (one_fails (λ e. is_kind e.kind) (assigned_or_class (policy_of mem)) (λ j. record { id = j; kind = kind_word mem j }) 511
        (is_placed (policy_of mem)) element_asked x a b h)))
  ]

  -- and the other way
  pub elements_pass : ((x : ℕ) → 1 ≤ x → x < 512 → is_placed (policy_of mem) x ≡ true) → all_assigned (policy_of mem) ≡ true
  unfolding all_assigned policy_of elements_of
  elements_pass p = sym
      (each_pass (λ e. is_kind e.kind) (assigned_or_class (policy_of mem)) (λ j. record { id = j; kind = kind_word mem j }) 511
      (is_placed (policy_of mem)) element_asked (λ x a b. p x a (omega arith)))

  -- each id of a process passes exactly if each process is of a user
  pub processes_told : {r : Bool} → r ≡ all_of (owner_fits (policy_of mem)) (tabulate 255 (λ i. 1 + i)) → r ≡ all_of (process_pairs (policy_of mem)) (policy_of mem).processes
  unfolding policy_of processes_of
  processes_told is =
      let make : ℕ → Process = λ j. record { id = j; owner = user_word mem j } in
      is
      ∙ same_truth (all_of (owner_fits (policy_of mem)) (tabulate 255 (λ i. 1 + i))) (all_of (process_pairs (policy_of mem)) (policy_of mem).processes)
      (λ e. sym (each_pass (λ q. is_element_id q.owner) (process_pairs (policy_of mem)) make 255 (owner_fits (policy_of mem)) process_asked
      (λ x a b. let s : 1 + (x - 1) ≡ x = omega arith in ap (owner_fits (policy_of mem)) (sym s) ∙ all_in (owner_fits (policy_of mem)) e (in_tabulate 255 (λ i. 1 + i) (x - 1) (omega arith)))))
      (λ e. all_of_lem (owner_fits (policy_of mem)) (tabulate 255 (λ i. 1 + i)) (λ x m. elim (tested (owner_fits (policy_of mem) x)) [
        | passes h ↦ h
        | fails h ↦ let w = tabulate_in 255 (λ i. 1 + i) m in
            absurd (clash e (sym (one_fails (λ q. is_element_id q.owner) (process_pairs (policy_of mem)) make 255 (owner_fits (policy_of mem)) process_asked
            x (omega (arith, w.is)) (omega (arith, w.is, w.early)) h)))
      ]))
