-- A sound policy can be laid into the words of a table, and the words hold it.
-- Assumes nothing.
use mathlib.Core.Path.{◌≡◌, ◌∙◌}
use mathlib.Core.Bool.{true}
use mathlib.Core.List.{[], ◌∷◌}
use native.Mathlib.Omega.{arith}
use Rattle.model.specs.Lists.{all_of}
use Rattle.model.specs.Policy.{Assignment, Association, Prohibition, Policy, is_element_id, is_right_set, is_sort, is_form}
use Rattle.model.specs.Sound.{Sound, assignment_fits, association_fits, prohibition_fits, subject_in_range, listed, lists_fit}
use Rattle.model.proofs.Truth.{and_cut, all_in}
use Rattle.model.proofs.Image.Truths.{truths}
use Rattle.model.proofs.Image.Counts.{Right, each_right, each_rises}
use Rattle.model.proofs.Image.Ranges.{id_fits, sort_fits, form_fits, subject_fits}
use Rattle.table.specs.View.{holds_table, policy_of}
use Rattle.screen.specs.Stowable.{stowable}
use Rattle.screen.proofs.Rules.{keeps_stowable}
use Rattle.unpack.specs.Words.{table_of}
use Rattle.unpack.proofs.Narrow.{Narrow}
use Rattle.unpack.proofs.Stowed.{policy_stowed, table_stowed}

module _ (p : Policy) (s : Sound p) where
  -- a sound policy can be laid into the words
  pub sound_stowable : stowable p ≡ true
  sound_stowable = keeps_stowable p s.limits s.fields s.order

  -- its records' fields are right
  right : Right p
  right = each_right p s.fields

  -- its fields go into their bits of a word
  pub sound_narrow : Narrow p
  unfolding assignment_fits association_fits prohibition_fits
  sound_narrow = record {
    low_child = λ a i. id_fits a.child (assignment a (all_in assignment_fits right.assignments i)).0;
    low_container = λ a i. id_fits a.container (assignment a (all_in assignment_fits right.assignments i)).1;
    low_attribute = λ a i. id_fits a.attribute (association a (all_in association_fits right.associations i)).0;
    low_target = λ a i. id_fits a.target (association a (all_in association_fits right.associations i)).1;
    low_sort = λ b i. let k = sort_fits b.sort (prohibition b (all_in prohibition_fits right.prohibitions i)).0 in omega arith;
    low_subject = λ b i. subject_fits b (prohibition b (all_in prohibition_fits right.prohibitions i)).1;
    low_form = λ b i. let k = form_fits b.form (prohibition b (all_in prohibition_fits right.prohibitions i)).2 in omega arith;
  }
    where
      assignment : (a : Assignment) → assignment_fits a ≡ true → (is_element_id a.child ≡ true) × (is_element_id a.container ≡ true)
      assignment a h = and_cut (is_element_id a.child) (is_element_id a.container) h

      association : (a : Association) → association_fits a ≡ true → (is_element_id a.attribute ≡ true) × (is_element_id a.target ≡ true)
      association a h =
          let c = truths (is_element_id a.attribute) (is_element_id a.target ∷ is_right_set a.rights ∷ []) h in
          (c.0, c.1.0)

      prohibition : (b : Prohibition) → prohibition_fits b ≡ true → (is_sort b.sort ≡ true) × (subject_in_range b ≡ true) × (is_form b.form ≡ true)
      prohibition b h =
          let c = truths (is_sort b.sort) (subject_in_range b ∷ is_form b.form ∷ is_right_set b.rights ∷ all_of is_element_id (listed b) ∷ lists_fit b ∷ []) h in
          (c.0, c.1.0, c.1.1.0)

  -- the words of a sound policy hold a table, and are that policy
  pub sound_table : (holds_table (table_of p) ≡ true) × (policy_of (table_of p) ≡ p)
  sound_table = (table_stowed p sound_narrow sound_stowable ∙ (each_rises p s.order).assignments, policy_stowed p sound_narrow sound_stowable)
