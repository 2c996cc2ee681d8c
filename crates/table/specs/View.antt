-- Which memory holds a table, and which policy the table is. Every memory that holds a table denotes a policy, sound or not.
-- Assumes nothing.
use Rattle.std.specs.Prelude.{Bool, true, ◌&&◌, List, ◌∷◌, ℕ, zero, suc, ◌+◌, ◌-◌, ◌/◌, ◌%◌, eqb, leb, ltb, length, replicate}
use Rattle.model.specs.Lists.{those, tabulate}
use Rattle.model.specs.Policy.{Element, Assignment, Association, Prohibition, Process, Policy, is_kind, is_element_id}
use Rattle.model.specs.Calls.{Memory}
use Rattle.table.specs.Layout.{word_count, mark, word, assignment_count, association_count, prohibition_count, kind_word, user_word, assignment_word, association_start, prohibition_start}

-- the test holds of each number below n
unfoldable pub each_below : (n : ℕ) → (ℕ → Bool) → Bool
each_below zero t = true
each_below (suc n) t = each_below n t && t n

-- each of the first n assignments but the first is above the one before it
unfoldable pub are_rising : List ℕ → (n : ℕ) → Bool
are_rising mem n = each_below (n - 1) (λ i. ltb (assignment_word mem i) (assignment_word mem (suc i)))

-- the child of each of the first n assignments is below 512
unfoldable pub are_small : List ℕ → (n : ℕ) → Bool
are_small mem n = each_below n (λ i. ltb (assignment_word mem i) 262144)

-- how many inclusions, and how many exclusions, the prohibition that starts at a word says that it has
abbrev pub inclusion_count : List ℕ → (start : ℕ) → ℕ
inclusion_count mem start = word mem (start + 2) / 8

abbrev pub exclusion_count : List ℕ → (start : ℕ) → ℕ
exclusion_count mem start = word mem (start + 2) % 8

-- the lists of the prohibition that starts at a word are short: at most four ids each
unfoldable pub has_short_lists : List ℕ → (start : ℕ) → Bool
has_short_lists mem start = leb (inclusion_count mem start) 4 && leb (exclusion_count mem start) 4

-- so are those of the first n prohibitions
unfoldable pub have_short_lists : List ℕ → (n : ℕ) → Bool
have_short_lists mem n = each_below n (λ i. has_short_lists mem (prohibition_start i))

-- "docs/ says what memory holds a table": the length, the mark, the counts within the limits, the assignments strictly rising, their children
-- below 512, and at most four ids in each list of a prohibition
unfoldable pub holds_table : List ℕ → Bool
holds_table mem =
    eqb (length mem) word_count
    && eqb (word mem 0) mark
    && leb (assignment_count mem) 2000
    && leb (association_count mem) 1000
    && leb (prohibition_count mem) 200
    && are_rising mem (assignment_count mem)
    && are_small mem (assignment_count mem)
    && have_short_lists mem (prohibition_count mem)

-- The policy. An element is there if its kind is 1 to 5, a process if its user is 1 to 511; element 0 and process 0 are never there.
unfoldable pub elements_of : List ℕ → List Element
elements_of mem = those (λ e. is_kind e.kind) (tabulate 511 (λ i. record { id = suc i; kind = kind_word mem (suc i) }))

-- the processes
unfoldable pub processes_of : List ℕ → List Process
processes_of mem = those (λ q. is_element_id q.owner) (tabulate 255 (λ i. record { id = suc i; owner = user_word mem (suc i) }))

-- assignment i
abbrev pub assignment_at : List ℕ → (i : ℕ) → Assignment
assignment_at mem i = record { child = assignment_word mem i / 512; container = assignment_word mem i % 512 }

-- the assignments
unfoldable pub assignments_of : List ℕ → List Assignment
assignments_of mem = tabulate (assignment_count mem) (assignment_at mem)

-- association i
abbrev pub association_at : List ℕ → (i : ℕ) → Association
association_at mem i =
    let start = association_start i in
    record { attribute = word mem start / 512; target = word mem start % 512; rights = word mem (start + 1) }

-- the associations
unfoldable pub associations_of : List ℕ → List Association
associations_of mem = tabulate (association_count mem) (association_at mem)

-- prohibition i
abbrev pub prohibition_at : List ℕ → (i : ℕ) → Prohibition
prohibition_at mem i =
    let start = prohibition_start i in
    record {
      sort = word mem start / 1024;
      subject = word mem start / 2 % 512;
      form = word mem start % 2;
      rights = word mem (start + 1);
      inclusion = tabulate (inclusion_count mem start) (λ k. word mem (start + 3 + k));
      exclusion = tabulate (exclusion_count mem start) (λ k. word mem (start + 3 + inclusion_count mem start + k));
    }

-- the prohibitions
unfoldable pub prohibitions_of : List ℕ → List Prohibition
prohibitions_of mem = tabulate (prohibition_count mem) (prohibition_at mem)

-- the policy that the words are
unfoldable pub policy_of : List ℕ → Policy
policy_of mem = record {
  elements = elements_of mem;
  assignments = assignments_of mem;
  associations = associations_of mem;
  prohibitions = prohibitions_of mem;
  processes = processes_of mem;
}

-- what a call finds lent
abbrev pub memory : List ℕ → Memory
memory mem = record { holds_table = holds_table mem; policy = policy_of mem }

-- the words of the empty table
unfoldable pub empty_table : List ℕ
empty_table = mark ∷ replicate (word_count - 1) 0
