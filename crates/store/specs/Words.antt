-- The words after one record more or one less: what the functions of the store answer and leave.
-- Assumes nothing.
use Rattle.std.specs.Prelude.{Bool, not, List, [], ◌∷◌, ℕ, ◌+◌, ◌*◌, ◌/◌, eqb, leb, get_or, set}
use Rattle.model.specs.Lists.{those}
use Rattle.model.specs.Policy.{Association}
use Rattle.model.specs.Refusal.{◌when◌, answer}
use Rattle.model.specs.Sound.{most_assignments, most_associations}
use Rattle.model.specs.Calls.{kept}
use Rattle.table.specs.Layout.{kinds_from, users_from, assignments_from, assignment_counter, assignment_count, associations_from, association_counter, association_count}
use Rattle.table.specs.Answers.{Left}
use Rattle.group.specs.Group.{group, regroup, with_record, without_record}

-- the words with the kind of element x; 0 takes the element out
unfoldable pub with_kind : (x kind : ℕ) → List ℕ → List ℕ
with_kind x kind mem = set mem (kinds_from + x) kind

-- the words with the user of process i; 0 takes the process out
unfoldable pub with_user : (i user : ℕ) → List ℕ → List ℕ
with_user i user mem = set mem (users_from + i) user

-- the record of an assignment
abbrev pub assignment_record : (child container : ℕ) → List ℕ
assignment_record child container = (child * 512 + container) ∷ []

-- the words with one assignment more
unfoldable pub with_assignment : (child container : ℕ) → List ℕ → List ℕ
with_assignment child container mem = with_record assignments_from assignment_counter (assignment_record child container) mem

-- the words with one assignment less
unfoldable pub without_assignment : (child container : ℕ) → List ℕ → List ℕ
without_assignment child container mem = without_record assignments_from 1 assignment_counter (assignment_record child container) mem

-- the words without any assignment of x
unfoldable pub without_assignments_of : (x : ℕ) → List ℕ → List ℕ
without_assignments_of x mem = regroup assignments_from 1 assignment_counter (those (λ r. not (eqb x (get_or r 0 0 / 512))) (group assignments_from 1 assignment_counter mem)) mem

-- the record of an association
abbrev pub association_record : Association → List ℕ
association_record a = (a.attribute * 512 + a.target) ∷ a.rights ∷ []

-- the words with one association more
unfoldable pub with_association : Association → List ℕ → List ℕ
with_association a mem = with_record associations_from association_counter (association_record a) mem

-- the words with one association less
unfoldable pub without_association : Association → List ℕ → List ℕ
without_association a mem = without_record associations_from 2 association_counter (association_record a) mem

-- A record more, where there is room: "the limit is reached" is the only refusal, and leaves the words.
unfoldable pub added : (full : Bool) → (more words : List ℕ) → Left
added full more words =
    let made = answer ((10 when full) ∷ []) more in
    record { answers = made; words = kept made more words }

-- one assignment more: never a 2,001st
abbrev pub added_assignment : (child container : ℕ) → List ℕ → Left
added_assignment child container mem = added (leb most_assignments (assignment_count mem)) (with_assignment child container mem) mem

-- one association more: never a 1,001st
abbrev pub added_association : Association → List ℕ → Left
added_association a mem = added (leb most_associations (association_count mem)) (with_association a mem) mem
