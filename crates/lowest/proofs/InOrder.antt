-- Associations that rise: none is before one that stands before it, and the loop that tests it.
-- Assumes nothing.
use mathlib.Core.Path.{◌≡◌, refl, sym, ◌∙◌}
use mathlib.Core.Bool.{Bool, true, false}
use mathlib.Core.List.{List}
use Prim.Native.Nat.{ℕ, zero, suc, ◌+◌, ◌-◌, ◌<◌}
use native.Mathlib.Omega.{arith}
use Rattle.std.specs.List.{list_all, range_with_len}
use Rattle.model.specs.Lists.{all_of, tabulate, before, rising}
use Rattle.model.specs.Policy.{association_fields}
use Rattle.model.proofs.Truth.{clash, fails_when, same_truth, all_in, all_of_lem}
use Rattle.model.proofs.Order.{before_self, before_trans}
use Rattle.model.proofs.Groups.{rising_first, rising_rest}
use Rattle.table.specs.Layout.{association_count}
use Rattle.table.specs.View.{policy_of, association_at, associations_of}
use Rattle.table.proofs.Tabled.{in_tabulate, tabulate_in, rising_tabulate}
use Rattle.table.proofs.Chains.{all_counted}
use Rattle.lowest.specs.Named.{is_before}
use Rattle.lowest.specs.Marked.{associations_rise}

-- of what rises, told off one by one, each is before all behind it
told_before : {A : Type 0} (key : A → List ℕ) (n : ℕ) (f : ℕ → A) → rising key (tabulate n f) ≡ true → (j i : ℕ) → j < i → i < n → before (key (f j)) (key (f i)) ≡ true
unfolding tabulate
told_before key zero f e j i l h = absurd (omega arith)
told_before key (suc n) f e j zero l h = absurd (omega arith)
told_before key (suc n) f e zero (suc i) l h = rising_first key (f 0) (tabulate n (λ k. f (suc k))) e (in_tabulate n (λ k. f (suc k)) i (omega arith))
told_before key (suc n) f e (suc j) (suc i) l h =
    told_before key n (λ k. f (suc k)) (rising_rest key (f 0) (tabulate n (λ k. f (suc k))) e) j i (omega arith) (omega arith)

module _ (mem : List ℕ) (up : associations_rise mem ≡ true) (j i : ℕ) (l : j < i) (h : i < association_count mem) where
  -- where they rise, each is before all behind it
  is_before_lem : is_before mem j i ≡ true
  unfolding associations_rise policy_of associations_of
  is_before_lem = told_before association_fields (association_count mem) (association_at mem) up j i l h

  -- so none is before one that stands before it
  pub none_before : is_before mem i j ≡ false
  none_before =
      fails_when (is_before mem i j)
      (λ b. clash
      (before_trans (association_fields (association_at mem i)) (association_fields (association_at mem j)) (association_fields (association_at mem i)) b is_before_lem)
      (before_self (association_fields (association_at mem i))))

-- they rise exactly if each but the first is behind the one before it
pub rise_where : (mem : List ℕ) (n : ℕ) → n ≡ association_count mem → list_all (λ i. is_before mem (i - 1) i) (range_with_len 1 (n - 1)) ≡ associations_rise mem
unfolding associations_rise policy_of associations_of
rise_where mem n e =
    all_counted (λ i. is_before mem (i - 1) i) (λ i. is_before mem (i - 1) i) 1 (n - 1) (λ i. 1 + i) (λ i _. refl)
    ∙ same_truth (all_of (λ i. is_before mem (i - 1) i) behind) (rising association_fields (tabulate (association_count mem) (association_at mem))) all each
  where
    behind : List ℕ
    behind = tabulate (n - 1) (λ i. 1 + i)

    all : all_of (λ i. is_before mem (i - 1) i) behind ≡ true → rising association_fields (tabulate (association_count mem) (association_at mem)) ≡ true
    all h = rising_tabulate association_fields (association_count mem) (association_at mem) (λ k l.
        let a : 1 + k - 1 ≡ k = omega arith in
        let b : 1 + k ≡ suc k = omega arith in
        rw (a, b) at (all_in (λ i. is_before mem (i - 1) i) h (in_tabulate (n - 1) (λ i. 1 + i) k (omega (arith, e)))))

    each : rising association_fields (tabulate (association_count mem) (association_at mem)) ≡ true → all_of (λ i. is_before mem (i - 1) i) behind ≡ true
    each up = all_of_lem (λ i. is_before mem (i - 1) i) behind (λ i j.
        let w = tabulate_in (n - 1) (λ i. 1 + i) j in
        told_before association_fields (association_count mem) (association_at mem) up (i - 1) i (omega (arith, w.is)) (omega (arith, w.is, w.early, e)))

-- what the test says
pub rise_so : (mem : List ℕ) {b : Bool} → b ≡ associations_rise mem → b ≡ true → associations_rise mem ≡ true
rise_so mem e h = sym e ∙ h
