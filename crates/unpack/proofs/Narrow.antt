-- A policy whose fields go into the words of a table side by side, as those of each image do: ids below 512, sorts up to 3, forms up to 1.
-- Assumes nothing.
use Prim.Native.Nat.{◌≤◌, ◌<◌}
use Rattle.model.specs.Lists.{In}
use Rattle.model.specs.Policy.{Assignment, Association, Prohibition, Policy}

-- each field that shares a word
pub record Narrow (p : Policy) : Type 0 where
  pub low_child : (a : Assignment) → In a p.assignments → a.child < 512
  pub low_container : (a : Assignment) → In a p.assignments → a.container < 512
  pub low_attribute : (a : Association) → In a p.associations → a.attribute < 512
  pub low_target : (a : Association) → In a p.associations → a.target < 512
  pub low_sort : (b : Prohibition) → In b p.prohibitions → b.sort ≤ 3
  pub low_subject : (b : Prohibition) → In b p.prohibitions → b.subject < 512
  pub low_form : (b : Prohibition) → In b p.prohibitions → b.form ≤ 1
