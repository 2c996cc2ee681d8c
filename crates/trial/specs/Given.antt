-- What the steps of a script that put a kind or an assignment into a table answer and leave.
-- Assumes nothing.
use Rattle.std.specs.Prelude.{List, ℕ, cond, leb}
use Rattle.model.specs.Refusal.{refused, accepted}
use Rattle.model.specs.Policy.{is_assigned}
use Rattle.table.specs.View.{holds_table, policy_of}
use Rattle.table.specs.Answers.{Left}
use Rattle.store.specs.Words.{with_kind, added_assignment}

-- refused with this number, and the words are what they were
abbrev pub unchanged : (number : ℕ) → List ℕ → Left
unchanged number mem = record { answers = refused number; words = mem }

-- accepted, and these are the words
abbrev pub changed : List ℕ → Left
changed mem = record { answers = accepted mem; words = mem }

-- element x has the kind; refused are memory that holds no table and what is no kind
unfoldable pub given_kind : (x kind : ℕ) → List ℕ → Left
given_kind x kind mem =
    cond (holds_table mem)
    (cond (leb kind 5) (changed (with_kind x kind mem)) (unchanged 2 mem))
    (unchanged 1 mem)

-- x is assigned to y; refused are memory that holds no table, an assignment that is there and one too many
unfoldable pub assigned : (x y : ℕ) → List ℕ → Left
assigned x y mem =
    cond (holds_table mem)
    (cond (is_assigned (policy_of mem) x y) (unchanged 3 mem) (added_assignment x y mem))
    (unchanged 1 mem)
