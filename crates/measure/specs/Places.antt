-- Where the groups of an image stand among its bits, "all counts taken as written".
-- Assumes nothing.
use Rattle.std.specs.Prelude.{◌≡◌, Bool, cond, List, ℕ, zero, suc, ◌+◌, ◌*◌, ◌^◌, ◌≤◌, ◌<◌, ltb, length}
use Rattle.model.specs.Bits.{bits_of, num_at}

-- "Form 4 (value 1); counts of elements 9, assignments 11, associations 10, prohibitions 8, processes 8.": how many of each the head says there are
abbrev pub elements_in : List Bool → ℕ
elements_in l = num_at l 4 9

abbrev pub assignments_in : List Bool → ℕ
assignments_in l = num_at l 13 11

abbrev pub associations_in : List Bool → ℕ
associations_in l = num_at l 24 10

abbrev pub prohibitions_in : List Bool → ℕ
prohibitions_in l = num_at l 34 8

abbrev pub processes_in : List Bool → ℕ
processes_in l = num_at l 42 8

-- the head takes 50 bits, an element 12, an assignment 18, an association 50: where each group starts
abbrev pub assignments_at : List Bool → ℕ
assignments_at l = 50 + 12 * elements_in l

abbrev pub associations_at : List Bool → ℕ
associations_at l = assignments_at l + 18 * assignments_in l

abbrev pub prohibitions_at : List Bool → ℕ
prohibitions_at l = associations_at l + 50 * associations_in l

-- how many ids the prohibition at a place lists, by its two counts
abbrev pub listed_at : List Bool → (at : ℕ) → ℕ
listed_at l at = num_at l (at + 44) 3 + num_at l (at + 47) 3

-- the place behind n prohibitions: each takes 50 bits, and 9 for each id that it lists
unfoldable pub behind : List Bool → (at n : ℕ) → ℕ
behind l at zero = at
behind l at (suc n) = behind l (at + 50 + 9 * listed_at l at) n

-- the processes stand behind the prohibitions, 17 bits each
abbrev pub processes_at : List Bool → ℕ
processes_at l = behind l (prohibitions_at l) (prohibitions_in l)

-- the place behind the last field
abbrev pub end_at : List Bool → ℕ
end_at l = processes_at l + 17 * processes_in l

-- a place, or one past `all` where it lies further
unfoldable pub up_to : (all p : ℕ) → ℕ
up_to all p = cond (ltb all p) (suc all) p

-- how many of each group there are, as the head says, and how many the bits of a count can say
pub record Counted (l : List Bool) (elements assignments associations prohibitions processes : ℕ) : Type 0 where
  pub elements_are : elements ≡ elements_in l
  pub assignments_are : assignments ≡ assignments_in l
  pub associations_are : associations ≡ associations_in l
  pub prohibitions_are : prohibitions ≡ prohibitions_in l
  pub processes_are : processes ≡ processes_in l
  pub few_elements : elements < 512
  pub few_assignments : assignments < 2048
  pub few_associations : associations < 1024
  pub few_prohibitions : prohibitions < 256
  pub few_processes : processes < 256

-- bytes that have n bits from a place on, and are few enough that their bits can be counted
pub record Reaches (s : List ℕ) (at n : ℕ) : Type 0 where
  pub few : length s ≤ 2 ^ 32
  pub room : at + n ≤ 8 * length s

-- an image that has all its fields, and bytes few enough that their bits can be counted
pub record Uncut (s : List ℕ) : Type 0 where
  pub few : length s ≤ 2 ^ 32
  pub room : end_at (bits_of s) ≤ 8 * length s
