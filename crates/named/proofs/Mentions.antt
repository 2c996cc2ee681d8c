-- Whether an id is among those that a prohibition lists, by its words.
-- Assumes nothing.
use mathlib.Core.Path.{◌≡◌, sym, ap, fun_ext, ◌∙◌}
use mathlib.Core.Bool.{Bool, ◌||◌, or-false, or_assoc}
use mathlib.Core.List.{List}
use Prim.Native.Nat.{ℕ, zero, suc, ◌+◌}
use native.Mathlib.Omega.{arith}
use borrow.Author.Tests.{eq-eqb, eqb-true}
use lib.Dec.{eqb}
use Rattle.model.specs.Lists.{any_of, tabulate, member}
use Rattle.model.specs.Sound.{listed}
use Rattle.model.proofs.Truth.{any_append, same_truth}
use Rattle.table.specs.Layout.{word, prohibition_start}
use Rattle.table.specs.View.{inclusion_count, exclusion_count, prohibition_at}
use Rattle.table.specs.Facts.{AtMost}
use Rattle.table.proofs.Loops.{any_none, any_more, any_alike}

-- id k of those that prohibition i lists
unfoldable pub id_at : (mem : List ℕ) (i k : ℕ) → ℕ
id_at mem i k = word mem (prohibition_start i + 3 + k)

-- whether some of n + m pass, in two parts
any_parts : {A : Type 0} (f : A → Bool) (g : ℕ → A) (n m : ℕ)
    → any_of f (tabulate (n + m) g) ≡ (any_of f (tabulate n g) || any_of f (tabulate m (λ k. g (n + k))))
any_parts f g n zero =
    let e : n + 0 ≡ n = omega arith in
    rw (e, any_none f (λ k. g (n + k))) (sym (or-false (any_of f (tabulate n g))))
any_parts f g n (suc m) =
    let e : n + suc m ≡ n + m + 1 = omega arith in
    let d : suc m ≡ m + 1 = omega arith in
    rw (e, d, any_more f g (n + m), any_parts f g n m, any_more f (λ k. g (n + k)) m)
    (or_assoc (any_of f (tabulate n g)) (any_of f (tabulate m (λ k. g (n + k)))) (f (g (n + m))))

-- the ids that a prohibition lists are its two lists
module _ (mem : List ℕ) (i : ℕ) {n m : ℕ} (few : AtMost (inclusion_count mem (prohibition_start i)) 4 n)
    (few' : AtMost (exclusion_count mem (prohibition_start i)) 4 m) where
  listed_ids : (f : ℕ → Bool) → any_of f (tabulate (n + m) (id_at mem i)) ≡ any_of f (listed (prohibition_at mem i))
  unfolding id_at
  listed_ids f =
      rw (few.is, few'.is)
      (any_parts f (id_at mem i) (inclusion_count mem (prohibition_start i)) (exclusion_count mem (prohibition_start i))
      ∙ ap (λ (t : Bool). any_of f (prohibition_at mem i).inclusion || t)
      (any_alike f (exclusion_count mem (prohibition_start i)) (λ k. ap (word mem) (omega arith)))
      ∙ sym (any_append f (prohibition_at mem i).inclusion (prohibition_at mem i).exclusion))

  -- whether some id is x
  pub member_listed : (x : ℕ) {r : Bool} → r ≡ any_of (λ y. eqb y x) (tabulate (n + m) (id_at mem i)) → r ≡ member x (listed (prohibition_at mem i))
  unfolding member
  member_listed x is =
      is ∙ listed_ids (λ y. eqb y x)
      ∙ ap (λ (f : ℕ → Bool). any_of f (listed (prohibition_at mem i))) (fun_ext (λ y. same_truth (eqb y x) (eqb x y) (λ e. eq-eqb x y (sym (eqb-true y x e))) (λ e. eq-eqb y x (sym (eqb-true x y e)))))
