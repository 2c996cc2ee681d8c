-- What a decision asks of each argument, and the rows that it asks.
-- Assumes nothing.
use Rattle.std.specs.Prelude.{◌≡◌, Bool, false, cond, ◌&&◌, List, ℕ, length, get_or}
use Rattle.model.specs.Lists.{all_of}
use Rattle.model.specs.Policy.{Policy}
use Rattle.model.specs.Contain.{contained}
use Rattle.table.specs.View.{policy_of}
use Rattle.request.specs.Sets.{rights_in}
use Rattle.request.specs.declared.Request.{Request}
use Rattle.rule.specs.Sight.{mark_at}
use Rattle.rule.specs.declared.Asking.{Asking}
use Rattle.held.specs.Lacking.{Rows, permits}

-- right r asked over element e, the argument at position k: in an index the rows are numbered by the elements themselves, else the user's row is
-- row 0 and the row of the argument at position k is row k
abbrev pub asking_of : Request → (user : ℕ) (indexed : Bool) (e k r : ℕ) → Asking
asking_of q user indexed e k r =
    record { process = q.process; user = user; element = e; right = r; by = cond indexed user 0; over = cond indexed e k }

-- the same over the same element with another right
abbrev pub with_right : Asking → (r : ℕ) → Asking
with_right q r = record { process = q.process; user = q.user; element = q.element; right = r; by = q.by; over = q.over }

-- the rows say what is meant, of the user and of each argument
pub record AllRows (mem rows : List ℕ) (indexed : Bool) (q : Request) (user : ℕ) : Type 0 where
  pub first : Rows mem rows indexed (asking_of q user indexed q.first 1 0)
  pub second : Rows mem rows indexed (asking_of q user indexed q.second 2 0)
  pub third : Rows mem rows indexed (asking_of q user indexed q.third 3 0)

-- rows of bits: the user's, then those of the three arguments
pub record Climbs (mem : List ℕ) (q : Request) (u : ℕ) (rows : List ℕ) : Type 0 where
  pub size : length rows ≡ 256
  pub user : (y : ℕ) → mark_at rows 0 y ≡ contained (policy_of mem) u y
  pub first : (y : ℕ) → mark_at rows 1 y ≡ contained (policy_of mem) q.first y
  pub second : (y : ℕ) → mark_at rows 2 y ≡ contained (policy_of mem) q.second y
  pub third : (y : ℕ) → mark_at rows 3 y ≡ contained (policy_of mem) q.third y

-- right r is held over the element that is asked about, and not restricted
unfoldable pub permits_over : (W : ℕ → ℕ → Bool) → Policy → Asking → (r : ℕ) → Bool
permits_over W p q r = permits W p q.process q.user r q.element

-- so is each right of a set
unfoldable pub permits_all : (W : ℕ → ℕ → Bool) → Policy → Asking → (rights : ℕ) → Bool
permits_all W p q rights = all_of (permits_over W p q) (rights_in rights)

-- "for each argument and each right in that argument's set": the sets of one alternative. Of what is asked only the process, the user and the
-- element play a part here, so that it is the same whichever rows are asked.
unfoldable pub satisfies : (W : ℕ → ℕ → Bool) → Policy → Request → (user : ℕ) → (sets : List ℕ) → Bool
satisfies W p q user sets =
    permits_all W p (asking_of q user false q.first 1 0) (get_or sets 0 0)
    && permits_all W p (asking_of q user false q.second 2 0) (get_or sets 1 0)
    && permits_all W p (asking_of q user false q.third 3 0) (get_or sets 2 0)
