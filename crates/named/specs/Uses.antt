-- What can name an element: one part of "in use" for each group of the policy.
-- Assumes nothing.
use Rattle.std.specs.Prelude.{Bool, ◌&&◌, ◌||◌, ℕ, eqb}
use Rattle.model.specs.Lists.{any_of}
use Rattle.model.specs.Policy.{Prohibition, Policy, by_process}
use Rattle.model.specs.Command.{prohibition_names_element}

-- something is assigned to x
unfoldable pub is_container : Policy → (x : ℕ) → Bool
is_container p x = any_of (λ a. eqb a.container x) p.assignments

-- an association names x
unfoldable pub is_associated : Policy → (x : ℕ) → Bool
is_associated p x = any_of (λ a. eqb a.attribute x || eqb a.target x) p.associations

-- a prohibition names x
unfoldable pub is_prohibited : Policy → (x : ℕ) → Bool
is_prohibited p x = any_of (prohibition_names_element x) p.prohibitions

-- a process is of the user x
unfoldable pub is_owner : Policy → (x : ℕ) → Bool
is_owner p x = any_of (λ q. eqb q.owner x) p.processes

-- the prohibition's subject is the process i
abbrev pub names_process : (i : ℕ) → Prohibition → Bool
names_process i b = eqb b.sort by_process && eqb b.subject i
