-- The words of a table that is a policy: those of the empty table, with each group laid in its place.
-- Assumes nothing.
use Rattle.std.specs.Prelude.{Bool, List, [], ◌∷◌, ◌++◌, ℕ, zero, suc, ◌+◌, length, drop, set}
use Rattle.model.specs.Bits.{num_at}
use Rattle.model.specs.Policy.{Element, Assignment, Association, Prohibition, Process, Policy}
use Rattle.group.specs.Group.{laid}
use Rattle.table.specs.Layout.{assignments_from, assignment_counter, associations_from, association_counter, prohibitions_from, prohibition_counter}
use Rattle.table.specs.View.{empty_table}
use Rattle.store.specs.Words.{with_kind, with_user, assignment_record, association_record}
use Rattle.store.specs.ProhibitionWords.{prohibition_record}

-- n numbers that bits spell, of so many bits each
unfoldable pub numbers : (width n : ℕ) → List Bool → List ℕ
numbers width zero l = []
numbers width (suc n) l = num_at l 0 width ∷ numbers width n (drop width l)

-- the words with the values of n records that bits spell, an id and a value of so many bits each: each in the id's place, of those from `from` on
unfoldable pub by_id : (id_bits value_bits from n : ℕ) → List Bool → List ℕ → List ℕ
by_id id_bits value_bits from zero l mem = mem
by_id id_bits value_bits from (suc n) l mem =
    by_id id_bits value_bits from n (drop (id_bits + value_bits) l) (set mem (from + num_at l 0 id_bits) (num_at l id_bits value_bits))

-- the words with the kinds of elements, each in the element's place
unfoldable pub with_kinds : List Element → List ℕ → List ℕ
with_kinds [] mem = mem
with_kinds (e ∷ l) mem = with_kinds l (with_kind e.id e.kind mem)

-- the words with the users of processes, each in the process's place
unfoldable pub with_users : List Process → List ℕ → List ℕ
with_users [] mem = mem
with_users (q ∷ l) mem = with_users l (with_user q.id q.owner mem)

-- records as words, one after the other
unfoldable pub words_of : {A : Type 0} → (A → List ℕ) → List A → List ℕ
words_of record_of [] = []
words_of record_of (a ∷ l) = record_of a ++ words_of record_of l

-- the words with a group laid in: its records from `base` on, and how many they are
unfoldable pub stowed : {A : Type 0} → (A → List ℕ) → (base counter : ℕ) → List A → List ℕ → List ℕ
stowed record_of base counter l mem = set (laid base (words_of record_of l) mem) counter (length l)

-- the assignments
unfoldable pub with_assignments : List Assignment → List ℕ → List ℕ
with_assignments l mem = stowed (λ a. assignment_record a.child a.container) assignments_from assignment_counter l mem

-- the associations
unfoldable pub with_associations : List Association → List ℕ → List ℕ
with_associations l mem = stowed association_record associations_from association_counter l mem

-- the prohibitions
unfoldable pub with_prohibitions : List Prohibition → List ℕ → List ℕ
with_prohibitions l mem = stowed prohibition_record prohibitions_from prohibition_counter l mem

-- the words of a policy
unfoldable pub table_of : Policy → List ℕ
table_of p =
    with_prohibitions p.prohibitions (with_associations p.associations (with_assignments p.assignments
    (with_users p.processes (with_kinds p.elements empty_table))))
