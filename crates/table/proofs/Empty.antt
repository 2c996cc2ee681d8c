-- The empty table: how it is made, that it holds a table, and that it is the empty policy.
-- Assumes nothing.
use mathlib.Core.Path.{◌≡◌, refl, sym, ap, ◌∙◌}
use mathlib.Core.Bool.{Bool, false}
use mathlib.Core.List.{List, [], ◌∷◌, ◌++◌, append-nil}
use Prim.Native.Nat.{ℕ, zero, suc, ◌+◌, ◌-◌, ◌<◌}
use native.Mathlib.Nat.{not-suc-le-zero, zero-add}
use native.Mathlib.Omega.{arith}
use borrow.Author.Tests.{eq-eqb, ne_eqb}
use lib.ListN.{length, drop, get_or, set, replicate, length-replicate}
use lib.Seq.{drop-length}
use Rattle.model.specs.Lists.{In, first, later, those, tabulate}
use Rattle.model.specs.Policy.{Element, Process, is_kind, is_element_id, empty_policy}
use Rattle.model.specs.Refusal.{answer}
use Rattle.model.specs.Calls.{kept}
use Rattle.group.specs.Group.{laid, Clear}
use Rattle.std.specs.Prelude.{Ok, Err}
use Rattle.answer.specs.declared.Refusal.TheVariants.{NoTable}
use Rattle.answer.specs.Answers.{told}
use Rattle.table.specs.Layout.{word_count, mark, word}
use Rattle.table.specs.View.{empty_table, elements_of, processes_of, assignments_of, associations_of, prohibitions_of, policy_of}
use Rattle.table.specs.Facts.{Table}
use Rattle.table.specs.Answers.{left, new_table}
use Rattle.table.proofs.Tabled.{tabulate_in}

-- zeros laid over all words are all there is
all_cleared : (n : ℕ) (words : List ℕ) → length words ≡ n → laid 0 (replicate n 0) words ≡ replicate n 0
unfolding laid
all_cleared n words e =
    let k : 0 + length (replicate {A = ℕ} n 0) ≡ length words = zero-add (length (replicate {A = ℕ} n 0)) ∙ length-replicate {A = ℕ} n 0 ∙ sym e in
    ap (λ (i : ℕ). replicate n 0 ++ drop i words) k ∙ ap (λ (l : List ℕ). replicate n 0 ++ l) (drop-length words) ∙ append-nil (replicate n 0)

-- the first of n zeros set
first_set : (n m : ℕ) → 0 < n → set (replicate n 0) 0 m ≡ m ∷ replicate (n - 1) 0
first_set zero m h = absurd (not-suc-le-zero h)
first_set (suc n) m h = let e : suc n - 1 ≡ n = omega arith in rw e refl

-- Words that are all zero.
module _ {words : List ℕ} (zeros : words ≡ replicate 8192 0) where
  -- there is a first of them
  pub zeros_some : 0 < length words
  zeros_some = let n : length words ≡ 8192 = ap length zeros ∙ length-replicate {A = ℕ} 8192 0 in omega arith

  -- with the mark there they are the empty table
  pub zeros_marked : set words 0 1363431985 ≡ empty_table
  unfolding empty_table
  zeros_marked = ap (λ l. set l 0 1363431985) zeros ∙ first_set 8192 mark (omega arith)

-- New, return by return.
module _ (words : List ℕ) where
  -- another length
  pub new_refused : (length words ≡ 8192 → ⊥) → left (Err NoTable) words ≡ new_table words
  unfolding told new_table answer kept
  new_refused h = rw (ne_eqb (length words) 8192 h) refl

  -- the words are cleared
  pub new_cleared : length words ≡ 8192 → {mem : List ℕ} → mem ≡ laid 0 (replicate 8192 0) words → mem ≡ replicate 8192 0
  new_cleared e c = c ∙ all_cleared 8192 words e

  -- and marked
  pub new_done : length words ≡ 8192 → {mem : List ℕ} → mem ≡ empty_table → left (Ok tt) mem ≡ new_table words
  unfolding told new_table answer kept
  new_done e t = rw (eq-eqb (length words) 8192 e, t) refl

-- word i of the empty table
empty_word : (i : ℕ) → (i ≡ 0 → ⊥) → word empty_table i ≡ 0
unfolding empty_table
empty_word zero d = absurd (d refl)
empty_word (suc i) d = zeros (word_count - 1) i
  where
    zeros : (n i : ℕ) → ◌≡◌ {A = ℕ} (get_or (replicate n 0) i 0) 0
    zeros zero i = refl
    zeros (suc n) zero = refl
    zeros (suc n) (suc i) = zeros n i

-- the empty table holds a table
pub empty_table_lem : Table empty_table
unfolding empty_table
empty_table_lem = record {
  size = ap suc (length-replicate {A = ℕ} 8191 0);
  marked = refl;
  few_assignments = omega arith;
  few_associations = omega arith;
  few_prohibitions = omega arith;
  rising = λ i j h l. absurd (omega (arith, empty_word 1 (λ e. omega arith)));
  small = λ i l. absurd (omega (arith, empty_word 1 (λ e. omega arith)));
  short = λ i l. absurd (omega (arith, empty_word 3 (λ e. omega arith)));
}

-- none passes
those_none : {A : Type 0} (f : A → Bool) (l : List A) → ((a : A) → In a l → f a ≡ false) → those f l ≡ []
unfolding those
those_none f [] h = refl
those_none f (a ∷ l) h = rw (h a first) (those_none f l (λ b i. h b (later i)))

-- and it is the empty policy
pub empty_policy_lem : policy_of empty_table ≡ empty_policy
unfolding policy_of elements_of processes_of assignments_of associations_of prohibitions_of tabulate is_kind is_element_id
empty_policy_lem =
    let e = those_none (λ (e : Element). is_kind e.kind) (tabulate 511 (λ i. record { id = suc i; kind = word empty_table (8 + suc i) }))
    (λ a i. let w = tabulate_in 511 (λ i. record { id = suc i; kind = word empty_table (8 + suc i) }) i in
    ap (λ (b : Element). is_kind b.kind) (sym w.is) ∙ ap is_kind (empty_word (8 + suc w.at) (λ q. omega arith))) in
    let p = those_none (λ (q : Process). is_element_id q.owner) (tabulate 255 (λ i. record { id = suc i; owner = word empty_table (520 + suc i) }))
    (λ a i. let w = tabulate_in 255 (λ i. record { id = suc i; owner = word empty_table (520 + suc i) }) i in
    ap (λ (b : Process). is_element_id b.owner) (sym w.is) ∙ ap is_element_id (empty_word (520 + suc w.at) (λ q. omega arith))) in
    rw (e, p, empty_word 1 (λ e. omega arith), empty_word 2 (λ e. omega arith), empty_word 3 (λ e. omega arith)) refl

-- each word behind a group's records is zero
pub empty_clear : (base width counter most : ℕ) → 0 < base → Clear base width counter most empty_table
empty_clear base width counter most h = record { zero_at = λ i l k. empty_word i (λ e. omega arith) }
