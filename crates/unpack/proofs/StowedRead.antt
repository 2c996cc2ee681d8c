-- What is read of bits goes into the words of a table, however many bits there are.
-- Assumes nothing.
use mathlib.Core.Bool.{Bool}
use mathlib.Core.List.{List}
use Prim.Native.Nat.{ℕ, zero, suc, ◌≤◌, ◌<◌}
use native.Mathlib.Omega.{arith}
use Rattle.model.specs.Lists.{In}
use Rattle.model.specs.Policy.{Assignment, Association, Prohibition}
use Rattle.model.specs.Bits.{bits_of, num_at}
use Rattle.model.specs.Image.{Reading, read_assignment, read_association, read_prohibition, read_group, read_elements, read_assignments, read_associations, read_prohibitions, read_policy, policy_in}
use Rattle.model.proofs.Truth.{none_in, each_of}
use Rattle.model.proofs.Image.Bits.{spelled_lt}
use Rattle.unpack.proofs.Narrow.{Narrow}

-- what holds of a record read of any bits holds of each record of a group
each_read : {A : Type 0} (read : List Bool → Reading A) (P : A → Type 0) → ((l : List Bool) → P (read l).value)
    → (n : ℕ) (l : List Bool) (a : A) → In a (read_group read n l).value → P a
unfolding read_group
each_read read P h zero l a i = absurd (none_in i)
each_read read P h (suc n) l a i = each_of P (h l) (each_read read P h n (read l).rest) a i

-- each field that is read goes into its bits of a word
pub read_narrow : (s : List ℕ) → Narrow (policy_in s)
unfolding read_policy read_assignments read_associations read_prohibitions read_assignment read_association read_prohibition
read_narrow s =
    let b : List Bool = bits_of s in
    record {
      low_child = each_read read_assignment (λ (a : Assignment). a.child < 512) (λ l. spelled_lt l 0 9) (num_at b 13 11) (read_elements b).rest;
      low_container = each_read read_assignment (λ (a : Assignment). a.container < 512) (λ l. spelled_lt l 9 9) (num_at b 13 11) (read_elements b).rest;
      low_attribute = each_read read_association (λ (a : Association). a.attribute < 512) (λ l. spelled_lt l 0 9) (num_at b 24 10) (read_assignments b).rest;
      low_target = each_read read_association (λ (a : Association). a.target < 512) (λ l. spelled_lt l 9 9) (num_at b 24 10) (read_assignments b).rest;
      low_sort = each_read read_prohibition (λ (q : Prohibition). q.sort ≤ 3) (λ l. omega (arith, spelled_lt l 0 2)) (num_at b 34 8) (read_associations b).rest;
      low_subject = each_read read_prohibition (λ (q : Prohibition). q.subject < 512) (λ l. spelled_lt l 2 9) (num_at b 34 8) (read_associations b).rest;
      low_form = each_read read_prohibition (λ (q : Prohibition). q.form ≤ 1) (λ l. omega (arith, spelled_lt l 11 1)) (num_at b 34 8) (read_associations b).rest;
    }
