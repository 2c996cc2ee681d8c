-- The rules that are seen from the fields alone, by those of a table's groups that can break them.
-- Assumes nothing.
use mathlib.Core.Path.{◌≡◌, refl}
use mathlib.Core.Bool.{Bool, true, false, not, ◌&&◌, ◌||◌}
use mathlib.Core.List.{List}
use Prim.Native.Nat.{ℕ}
use borrow.Author.Tests.{le-leb}
use Rattle.model.specs.Lists.{all_of, rising}
use Rattle.model.specs.Policy.{association_fields, prohibition_fields}
use Rattle.model.specs.Sound.{within_limits, fields_fit, groups_rise, assignment_fits, association_fits, prohibition_fits, most_assignments, most_associations, most_prohibitions}
use Rattle.model.specs.Image.{breaks_rule}
use Rattle.table.specs.Layout.{assignment_count, association_count, prohibition_count}
use Rattle.table.specs.View.{policy_of}
use Rattle.table.specs.Facts.{Table}
use Rattle.table.proofs.ById.{elements_rise, processes_rise}
use Rattle.table.proofs.Counted.{assignments_long, associations_long, prohibitions_long}
use Rattle.ranges.specs.Rising.{records_rise}
use Rattle.ranges.proofs.ByFields.{assignments_rise, associations_rise_lem, elements_fit, processes_fit}

-- five tests, one of which fails
one_fails : (a b c d e : Bool) → (not (a && b && c && true) || not (d && e && true)) ≡ (not a || not b || not c || not d || not e)
one_fails true true true true true = refl
one_fails true true true true false = refl
one_fails true true true false e = refl
one_fails true true false d e = refl
one_fails true false c d e = refl
one_fails false b c d e = refl

module _ {mem : List ℕ} (t : Table mem) where
  -- no group of a table is past its limit
  limits_kept : within_limits (policy_of mem) ≡ true
  unfolding within_limits
  limits_kept =
      rw (
        assignments_long mem,
        associations_long mem,
        prohibitions_long mem,
        le-leb (assignment_count mem) most_assignments t.few_assignments,
        le-leb (association_count mem) most_associations t.few_associations,
        le-leb (prohibition_count mem) most_prohibitions t.few_prohibitions,
      ) refl

  -- a table breaks a rule by its assignments, its associations or its prohibitions alone
  pub rule_by_parts : breaks_rule (policy_of mem)
      ≡ (not (all_of assignment_fits (policy_of mem).assignments) || not (all_of association_fits (policy_of mem).associations)
      || not (all_of prohibition_fits (policy_of mem).prohibitions) || not (records_rise mem 2776 2 (association_count mem))
      || not (rising prohibition_fields (policy_of mem).prohibitions))
  unfolding breaks_rule fields_fit groups_rise
  rule_by_parts =
      rw (limits_kept, elements_fit mem, processes_fit mem, elements_rise mem, assignments_rise t, processes_rise mem, associations_rise_lem t)
      (one_fails (all_of assignment_fits (policy_of mem).assignments) (all_of association_fits (policy_of mem).associations) (all_of prohibition_fits (policy_of mem).prohibitions)
      (rising association_fields (policy_of mem).associations) (rising prohibition_fields (policy_of mem).prohibitions))
