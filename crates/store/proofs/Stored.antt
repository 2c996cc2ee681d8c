-- What each function of the store leaves, by what the group's functions left.
-- Assumes nothing.
use mathlib.Core.Path.{◌≡◌, refl, sym, ap, ◌∙◌}
use mathlib.Core.Bool.{Bool, true, false, not}
use mathlib.Core.List.{List, [], ◌∷◌, ◌++◌}
use Prim.Native.Nat.{ℕ, zero, suc, ◌+◌, ◌-◌, ◌/◌, ◌≤◌, ◌<◌}
use native.Mathlib.Omega.{arith}
use native.Mathlib.Decide.{dec_lt}
use borrow.Author.Tests.{le-leb, lt-leb, eq-eqb, ne_eqb}
use lib.Dec.{eqb, leb}
use lib.ListN.{length, take, drop, get_or, set}
use Rattle.model.specs.Lists.{those}
use Rattle.model.specs.Policy.{Association}
use Rattle.model.specs.Refusal.{answer}
use Rattle.model.specs.Calls.{kept}
use Rattle.std.specs.Prelude.{Ok, Err}
use Rattle.answer.specs.declared.Refusal.TheVariants.{NoRoom}
use Rattle.table.specs.Layout.{word}
use Rattle.table.specs.Facts.{FirstOf}
use Rattle.answer.specs.Answers.{told}
use Rattle.table.specs.Answers.{left}
use Rattle.group.specs.Group.{group, regroup, removed_at, with_record, without_record}
use Rattle.group.proofs.Kept.{length_group}
use Rattle.store.specs.Words.{with_kind, with_user, assignment_record, with_assignment, without_assignment, without_assignments_of, association_record, with_association, without_association, added, added_assignment, added_association}
use Rattle.store.proofs.Assigned.{group_word}

-- a word set is the kind set
pub kind_set : (mem : List ℕ) (x k : ℕ) → set mem (8 + x) k ≡ with_kind x k mem
unfolding with_kind
kind_set mem x k = refl

-- a word set is the user set
pub user_set : (mem : List ℕ) (i u : ℕ) → set mem (520 + i) u ≡ with_user i u mem
unfolding with_user
user_set mem i u = refl

-- A record more: refused where the group is full, else put in.
module _ (full : Bool) (more words : List ℕ) where
  pub added_full : full ≡ true → left (Err NoRoom) words ≡ added full more words
  unfolding added told answer kept
  added_full e = rw e refl

  pub added_done : full ≡ false → left (Ok tt) more ≡ added full more words
  unfolding added told answer kept
  added_done e = rw e refl

module _ (mem : List ℕ) (x y : ℕ) where
  pub assignment_full : 2000 ≤ word mem 1 → left (Err NoRoom) mem ≡ added_assignment x y mem
  assignment_full h = added_full (leb 2000 (word mem 1)) (with_assignment x y mem) mem (le-leb 2000 (word mem 1) h)

  pub assignment_added : word mem 1 < 2000 → {mem' : List ℕ} → mem' ≡ with_record 776 1 (assignment_record x y) mem → left (Ok tt) mem' ≡ added_assignment x y mem
  unfolding with_assignment
  assignment_added h e = ap (left (Ok tt)) e ∙ added_done (leb 2000 (word mem 1)) (with_assignment x y mem) mem (lt-leb 2000 (word mem 1) h)

  pub assignment_taken : {mem' : List ℕ} → mem' ≡ without_record 776 1 1 (assignment_record x y) mem → mem' ≡ without_assignment x y mem
  unfolding without_assignment
  assignment_taken e = e

module _ (mem : List ℕ) (a : Association) where
  pub association_full : 1000 ≤ word mem 2 → left (Err NoRoom) mem ≡ added_association a mem
  association_full h = added_full (leb 1000 (word mem 2)) (with_association a mem) mem (le-leb 1000 (word mem 2) h)

  pub association_added : word mem 2 < 1000 → {mem' : List ℕ} → mem' ≡ with_record 2776 2 (association_record a) mem → left (Ok tt) mem' ≡ added_association a mem
  unfolding with_association
  association_added h e = ap (left (Ok tt)) e ∙ added_done (leb 1000 (word mem 2)) (with_association a mem) mem (lt-leb 1000 (word mem 2) h)

  pub association_taken : {mem' : List ℕ} → mem' ≡ without_record 2776 2 2 (association_record a) mem → mem' ≡ without_association a mem
  unfolding without_association
  association_taken e = e

-- the assignments of x end where those of x + 1 start
pub first_order : {mem : List ℕ} {x a b : ℕ} → FirstOf mem x a → FirstOf mem (x + 1) b → a ≤ b
first_order {mem} {x} {a} {b} f g = elim (dec_lt b a) [
  | yes h ↦ absurd (omega (arith, f.before b h, g.from b (omega arith) (omega (arith, f.inside))))
  | no h ↦ omega arith
]

-- those that pass, where all pass but those from a up to b
those_cut : {A : Type 0} (t : A → Bool) (l : List A) (d : A) (a b : ℕ) → a ≤ b → b ≤ length l
    → ((i : ℕ) → i < a → t (get_or l i d) ≡ true) → ((i : ℕ) → a ≤ i → i < b → t (get_or l i d) ≡ false) → ((i : ℕ) → b ≤ i → i < length l → t (get_or l i d) ≡ true)
    → those t l ≡ take a l ++ drop b l
unfolding those
those_cut t [] d zero zero h k p q r = refl
those_cut t [] d zero (suc b) h k p q r = refl
those_cut t [] d (suc a) b h k p q r = absurd (omega arith)
those_cut t (x ∷ l) d zero zero h k p q r = rw (r 0 (omega arith) (omega arith)) (ap (λ m. x ∷ m) (those_cut t l d zero zero (omega arith) (omega arith) (λ i z. absurd (omega arith)) (λ i z w. absurd (omega arith)) (λ i z w. r (suc i) (omega arith) (omega arith))))
those_cut t (x ∷ l) d zero (suc b) h k p q r = rw (q 0 (omega arith) (omega arith)) (those_cut t l d zero b (omega arith) (omega arith) (λ i z. absurd (omega arith)) (λ i z w. q (suc i) (omega arith) (omega arith)) (λ i z w. r (suc i) (omega arith) (omega arith)))
those_cut t (x ∷ l) d (suc a) zero h k p q r = absurd (omega arith)
those_cut t (x ∷ l) d (suc a) (suc b) h k p q r = rw (p 0 (omega arith)) (ap (λ m. x ∷ m) (those_cut t l d a b (omega arith) (omega arith) (λ i z. p (suc i) (omega arith)) (λ i z w. q (suc i) (omega arith) (omega arith)) (λ i z w. r (suc i) (omega arith) (omega arith))))

-- the words less the assignments of x: those between two first places
pub assignments_taken : (mem : List ℕ) (x a b : ℕ) {mem' : List ℕ} → FirstOf mem x a → FirstOf mem (x + 1) b → mem' ≡ removed_at 776 1 1 a (b - a) mem → mem' ≡ without_assignments_of x mem
unfolding without_assignments_of
assignments_taken mem x a b f g e =
    let o : a ≤ b = first_order f g in
    let s : a + (b - a) ≡ b = omega arith in
    e ∙ ap (λ (l : List (List ℕ)). regroup 776 1 1 l mem) (ap (λ (k : ℕ). take a (group 776 1 1 mem) ++ drop k (group 776 1 1 mem)) s ∙ sym cut)
  where
    test : List ℕ → Bool
    test r = not (eqb x (get_or r 0 0 / 512))

    n : ℕ
    n = word mem 1

    cut : those (λ r. not (eqb x (get_or r 0 0 / 512))) (group 776 1 1 mem) ≡ take a (group 776 1 1 mem) ++ drop b (group 776 1 1 mem)
    cut = those_cut (λ r. not (eqb x (get_or r 0 0 / 512))) (group 776 1 1 mem) [] a b (first_order f g) (omega (arith, length_group 776 1 1 mem, g.inside))
        (λ i h. ap not (ne_eqb x (get_or (get_or (group 776 1 1 mem) i []) 0 0 / 512) (λ q. omega (arith, group_word mem i (omega (arith, f.inside)), f.before i h))))
        (λ i h k. ap not (eq-eqb x (get_or (get_or (group 776 1 1 mem) i []) 0 0 / 512) (omega (arith, group_word mem i (omega (arith, g.inside)), f.from i h (omega (arith, g.inside)), g.before i k))))
        (λ i h k. ap not (ne_eqb x (get_or (get_or (group 776 1 1 mem) i []) 0 0 / 512) (λ q. omega (arith, group_word mem i (omega (arith, length_group 776 1 1 mem)), g.from i h (omega (arith, length_group 776 1 1 mem))))))
