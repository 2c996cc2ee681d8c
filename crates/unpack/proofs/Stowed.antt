-- The words of a policy that can be laid into them: how many they are, which policy they are, and when they hold a table.
-- Assumes nothing.
use mathlib.Core.Path.{◌≡◌, refl, ap, ◌∙◌}
use mathlib.Core.Bool.{true}
use mathlib.Core.List.{List, []}
use Prim.Native.Nat.{ℕ, ◌≤◌}
use native.Mathlib.Omega.{arith}
use lib.ListN.{length, length-append, length-replicate}
use Rattle.model.specs.Lists.{In, rising}
use Rattle.model.specs.Policy.{Prohibition, Policy, assignment_fields}
use Rattle.model.specs.Policy as policy
use Rattle.model.proofs.Truth.{all_in}
use Rattle.model.proofs.Image.Counts.{Limits, limits}
use Rattle.table.specs.View.{holds_table, policy_of, empty_table}
use Rattle.table.specs.Facts.{Table}
use Rattle.store.specs.Words.{association_record}
use Rattle.store.specs.ProhibitionWords.{prohibition_record}
use Rattle.store.proofs.Recorded.{Narrow as Packed, length_front, front_counted, record_front}
use Rattle.screen.specs.Stowable.{lists_short, stowable}
use Rattle.screen.proofs.Rules.{Parts, parts, short_lists}
use Rattle.unpack.specs.Words.{with_kinds, with_users, words_of, with_assignments, with_associations, with_prohibitions, table_of}
use Rattle.unpack.proofs.Narrow.{Narrow}
use Rattle.unpack.proofs.StowedLayers.{length_words, length_layer, layers_swap}
use Rattle.unpack.proofs.StowedIds.{ids_table, ids_policy}
use Rattle.unpack.proofs.StowedGroups.{record_of, associations_stowed_table, associations_stowed, prohibitions_stowed_table, prohibitions_stowed, assignments_stowed, assignments_stowed_table}

-- the words with the elements and processes
abbrev ids : Policy → List ℕ
ids p = with_users p.processes (with_kinds p.elements empty_table)

-- with the associations too
abbrev second : Policy → List ℕ
second p = with_associations p.associations (ids p)

-- and with the prohibitions, but without the assignments
abbrev third : Policy → List ℕ
third p = with_prohibitions p.prohibitions (second p)

module _ (p : Policy) (h : stowable p ≡ true) where
  -- what the test says of it
  right : Parts p
  right = parts p h

  -- how many records it has
  few : Limits p
  few = limits p right.limits

  -- the lists of each prohibition are short
  short : (b : Prohibition) → In b p.prohibitions → (length b.inclusion ≤ 4) × (length b.exclusion ≤ 4)
  short b i = short_lists b (all_in lists_short right.lists_short_lem i)

  -- the first words are a table
  first_table : Table (ids p)
  first_table = ids_table p.elements p.processes right.elements_fit right.processes_fit

  -- how many words the assignments take
  assignment_words : length (words_of record_of p.assignments) ≤ 2000
  assignment_words = omega (arith, length_words record_of 1 p.assignments (λ a i. refl), few.assignments)

  -- the associations
  association_words : length (words_of association_record p.associations) ≤ 2000
  association_words = omega (arith, length_words association_record 2 p.associations (λ a i. refl), few.associations)

  -- the prohibitions
  prohibition_words : length (words_of prohibition_record p.prohibitions) ≤ 2200
  prohibition_words = omega (arith, length_words prohibition_record 11 p.prohibitions eleven, few.prohibitions)
    where
      eleven : (b : Prohibition) → In b p.prohibitions → length (prohibition_record b) ≡ 11
      eleven b i =
          let s = short b i in
          ap length (record_front b) ∙ simp (length-append, length-replicate) (omega (arith, length_front b, front_counted b, s.0, s.1))

  -- as many words with the associations
  second_length : length (second p) ≡ 8192
  unfolding with_associations
  second_length = length_layer association_record 2776 2 p.associations (ids p) (omega (arith, first_table.size, association_words)) ∙ first_table.size

  -- the assignments may be laid last
  last_laid : table_of p ≡ with_assignments p.assignments (third p)
  unfolding table_of with_assignments with_associations with_prohibitions
  last_laid =
      ap (with_prohibitions p.prohibitions) (layers_swap record_of association_record 776 2776 1 2 p.assignments p.associations (ids p) (omega arith) (omega arith) (λ e. omega arith)
      (omega (arith, assignment_words)) (omega (arith, association_words, first_table.size)))
      ∙ layers_swap record_of prohibition_record 776 5776 1 3 p.assignments p.prohibitions (second p) (omega arith) (omega arith) (λ e. omega arith)
      (omega (arith, assignment_words)) (omega (arith, prohibition_words, second_length))

module _ (p : Policy) (n : Narrow p) (h : stowable p ≡ true) where
  -- the first words are the elements and the processes
  first_policy : policy_of (ids p) ≡ record { elements = p.elements; assignments = []; associations = []; prohibitions = []; processes = p.processes }
  first_policy = let r = right p h in ids_policy p.elements p.processes r.elements_fit r.processes_fit r.elements_rise r.processes_rise

  -- with the associations they are a table
  second_table : Table (second p)
  second_table = associations_stowed_table (first_table p h) (ap (λ (q : Policy). q.associations) first_policy) p.associations (few p h).associations

  -- which has those associations too
  second_policy : policy_of (second p) ≡ record { elements = p.elements; assignments = []; associations = p.associations; prohibitions = []; processes = p.processes }
  second_policy =
      associations_stowed (first_table p h) (ap (λ (q : Policy). q.associations) first_policy) p.associations (few p h).associations n.low_target
      ∙ ap (λ (q : Policy). policy.with_associations q p.associations) first_policy

  -- the fields of each prohibition go into its words
  packed : (b : Prohibition) → In b p.prohibitions → Packed b
  packed b i = let s = short p h b i in
      record { low_subject = n.low_subject b i; low_form = omega (arith, n.low_form b i); few_inclusions = s.0; few_exclusions = s.1 }

  -- with the prohibitions they are a table
  third_table : Table (third p)
  third_table = prohibitions_stowed_table second_table (ap (λ (q : Policy). q.prohibitions) second_policy) p.prohibitions (few p h).prohibitions packed

  -- which has those prohibitions too
  third_policy : policy_of (third p) ≡ record { elements = p.elements; assignments = []; associations = p.associations; prohibitions = p.prohibitions; processes = p.processes }
  third_policy =
      prohibitions_stowed second_table (ap (λ (q : Policy). q.prohibitions) second_policy) p.prohibitions (few p h).prohibitions packed
      ∙ ap (λ (q : Policy). policy.with_prohibitions q p.prohibitions) second_policy

  -- The words of a policy are that policy.
  pub policy_stowed : policy_of (table_of p) ≡ p
  policy_stowed =
      ap policy_of (last_laid p h)
      ∙ assignments_stowed third_table (ap (λ (q : Policy). q.assignments) third_policy) p.assignments (few p h).assignments n.low_container
      ∙ ap (λ (q : Policy). policy.with_assignments q p.assignments) third_policy

  -- They hold a table just where the assignments rise.
  pub table_stowed : holds_table (table_of p) ≡ rising assignment_fields p.assignments
  table_stowed =
      ap holds_table (last_laid p h)
      ∙ assignments_stowed_table third_table (ap (λ (q : Policy). q.assignments) third_policy) p.assignments (few p h).assignments n.low_container n.low_child
