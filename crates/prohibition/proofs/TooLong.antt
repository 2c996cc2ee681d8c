-- No prohibition of a table has a list of more than four.
-- Assumes nothing.
use mathlib.Core.Path.{◌≡◌, sym, ap, ◌∙◌}
use mathlib.Core.Bool.{true, false}
use mathlib.Core.List.{List}
use Prim.Native.Nat.{ℕ, ◌≤◌, ◌<◌}
use native.Mathlib.Omega.{arith}
use lib.ListN.{length, get_or}
use Rattle.model.specs.Lists.{same}
use Rattle.model.specs.Policy.{Prohibition, prohibition_fields, has_prohibition}
use Rattle.model.proofs.Truth.{fails_when, any_found}
use Rattle.model.proofs.Order.{same_equal}
use Rattle.table.specs.Layout.{prohibition_count}
use Rattle.table.specs.View.{prohibition_at, prohibitions_of, policy_of}
use Rattle.table.specs.Facts.{Table}
use Rattle.table.proofs.Tabled.{tabulate_in}
use Rattle.table.proofs.Listed.{inclusions_long, exclusions_long}

module _ {mem : List ℕ} (t : Table mem) (b : Prohibition) where
  -- one that is there has at most four of each
  pub few_there : has_prohibition (policy_of mem) b ≡ true → (length b.inclusion ≤ 4) × (length b.exclusion ≤ 4)
  unfolding has_prohibition policy_of prohibitions_of
  few_there e =
      let f = any_found (λ c. same (prohibition_fields b) (prohibition_fields c)) (policy_of mem).prohibitions e in
      let w = tabulate_in (prohibition_count mem) (prohibition_at mem) f.there in
      let q = same_equal (prohibition_fields b) (prohibition_fields f.it) f.is in
      let y = t.short w.at w.early in
      let i : length b.inclusion ≡ length (prohibition_at mem w.at).inclusion =
      ap (λ (l : List ℕ). get_or l 4 0) q ∙ ap (λ (c : Prohibition). length c.inclusion) (sym w.is) in
      let j : length b.exclusion ≡ length (prohibition_at mem w.at).exclusion =
      ap (λ (l : List ℕ). get_or l 5 0) q ∙ ap (λ (c : Prohibition). length c.exclusion) (sym w.is) in
      (omega (arith, inclusions_long mem w.at, y.few_inclusions), omega (arith, exclusions_long mem w.at, y.few_exclusions))

  -- so one with more inclusions is not there
  pub long_inclusion_absent : 4 < length b.inclusion → false ≡ has_prohibition (policy_of mem) b
  long_inclusion_absent h = sym (fails_when (has_prohibition (policy_of mem) b) (λ e. let f = few_there e in omega arith))

  -- nor is one with more exclusions
  pub long_exclusion_absent : 4 < length b.exclusion → false ≡ has_prohibition (policy_of mem) b
  long_exclusion_absent h = sym (fails_when (has_prohibition (policy_of mem) b) (λ e. let f = few_there e in omega arith))
