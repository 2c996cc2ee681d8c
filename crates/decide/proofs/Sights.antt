-- The rows that a decision asks: those of an index, and those of the climbs from the user and from each argument.
-- Assumes nothing.
use mathlib.Core.Path.{◌≡◌, refl, sym, ap, ◌∙◌}
use mathlib.Core.Bool.{Bool, true, false, or-false}
use mathlib.Core.List.{List}
use Prim.Native.Nat.{ℕ, ◌≤◌, ◌<◌}
use native.Mathlib.Omega.{arith}
use native.Mathlib.Decide.{dec_lt}
use borrow.Author.Tests.{lt-ltb, le-ltb, eq-eqb, ne_eqb}
use lib.ListN.{length, replicate, length-replicate}
use Rattle.model.specs.Index.{bit_at}
use Rattle.model.specs.Policy.{user_of}
use Rattle.model.specs.Contain.{contained}
use Rattle.model.proofs.Truth.{clash}
use Rattle.table.specs.View.{policy_of}
use Rattle.index.proofs.Joins.{no_bits}
use Rattle.climb.specs.Queued.{RowMarked}
use Rattle.climb.proofs.Exactly.{contained_far}
use Rattle.request.specs.declared.Request.{Request}
use Rattle.request.specs.Asks.{Accepted}
use Rattle.rule.specs.Sight.{mark_at, seen}
use Rattle.rule.specs.declared.Asking.{Asking}
use Rattle.held.specs.Lacking.{sight, Rows}
use Rattle.decide.specs.Asks.{asking_of, AllRows, Climbs}

-- Where the rows say what is meant of the user and of each argument, they say it of what is asked.
module _ {mem rows : List ℕ} {indexed : Bool} {q : Request} {user : ℕ} (w : AllRows mem rows indexed q user) where
  -- over the first argument
  pub rows_first : {a : Asking} → a ≡ asking_of q user indexed q.first 1 0 → Rows mem rows indexed a
  rows_first i = rw i w.first

  -- over the second
  pub rows_second : {a : Asking} → a ≡ asking_of q user indexed q.second 2 0 → Rows mem rows indexed a
  rows_second i = rw i w.second

  -- over the third
  pub rows_third : {a : Asking} → a ≡ asking_of q user indexed q.third 3 0 → Rows mem rows indexed a
  rows_third i = rw i w.third

-- any 32,768 bytes say by their bits what they are meant to say
pub index_rows : (mem : List ℕ) {idx : List ℕ} (q : Request) (user : ℕ) → length idx ≡ 32768 → AllRows mem idx true q user
unfolding seen sight
index_rows mem {idx} q user e = record {
  first = record { whole = λ t. e; user = λ y. refl; element = λ y. refl };
  second = record { whole = λ t. e; user = λ y. refl; element = λ y. refl };
  third = record { whole = λ t. e; user = λ y. refl; element = λ y. refl };
}

-- the marks of the four climbs say what each is within
pub climbed_rows : {mem rows : List ℕ} {q : Request} {user : ℕ} → Climbs mem q user rows → AllRows mem rows false q user
unfolding seen sight
climbed_rows {mem} {rows} {q} {user} c = record {
  first = record { whole = λ t. absurd (clash t refl); user = c.user; element = c.first };
  second = record { whole = λ t. absurd (clash t refl); user = c.user; element = c.second };
  third = record { whole = λ t. absurd (clash t refl); user = c.user; element = c.third };
}

-- a row whose bits are set by a climb says what the element is within
row_says : (mem rows : List ℕ) (k x : ℕ) → x < 512 → ((y : ℕ) → y < 512 → bit_at rows k y ≡ contained (policy_of mem) x y)
    → (y : ℕ) → mark_at rows k y ≡ contained (policy_of mem) x y
unfolding mark_at
row_says mem rows k x l h y = elim (dec_lt y 512) [
  | yes s ↦ rw (lt-ltb y 512 s) (h y s)
  | no s ↦ let far : 512 ≤ y = omega arith in rw (le-ltb y 512 far) (sym (contained_far mem x y l far))
]

-- one climb: row k gets its bits
row_set : {mem rows rows' : List ℕ} {x : ℕ} (k : ℕ) → RowMarked mem x k rows rows' → (y : ℕ) → y < 512 → bit_at rows k y ≡ false → bit_at rows' k y ≡ contained (policy_of mem) x y
row_set k a y l h = a.is k y l ∙ rw (h, eq-eqb k k refl)

-- every other row stays
row_stays : {mem rows rows' : List ℕ} {x : ℕ} (j k : ℕ) → (j ≡ k → ⊥) → RowMarked mem x k rows rows' → (y : ℕ) → y < 512 → bit_at rows' j y ≡ bit_at rows j y
row_stays {mem} {rows} j k n a y l = a.is j y l ∙ rw (ne_eqb j k n) (or-false (bit_at rows j y))

-- the four climbs, one after another
pub four_climbs : {mem : List ℕ} {q : Request} {user : ℕ} {rows₀ rows₁ rows₂ rows₃ rows₄ : List ℕ} → user < 512 → q.first < 512 → q.second < 512 → q.third < 512
    → rows₀ ≡ replicate 256 0 → RowMarked mem user 0 rows₀ rows₁ → RowMarked mem q.first 1 rows₁ rows₂ → RowMarked mem q.second 2 rows₂ rows₃
    → RowMarked mem q.third 3 rows₃ rows₄ → Climbs mem q user rows₄
four_climbs {mem} {q} {user} {rows₀} {rows₁} {rows₂} {rows₃} {rows₄} u f s t e a b c d = record {
  size = d.size ∙ c.size ∙ b.size ∙ a.size ∙ ap length e ∙ length-replicate {A = ℕ} 256 0;
  user = row_says mem rows₄ 0 user u of_user;
  first = row_says mem rows₄ 1 q.first f of_first;
  second = row_says mem rows₄ 2 q.second s of_second;
  third = row_says mem rows₄ 3 q.third t of_third;
}
  where
    blank₀ : (j y : ℕ) → bit_at rows₀ j y ≡ false
    blank₀ j y = rw e (no_bits 256 j y)

    blank₁ : (j : ℕ) → (j ≡ 0 → ⊥) → (y : ℕ) → y < 512 → bit_at rows₁ j y ≡ false
    blank₁ j n y l = row_stays j 0 n a y l ∙ blank₀ j y

    blank₂ : (j : ℕ) → (j ≡ 0 → ⊥) → (j ≡ 1 → ⊥) → (y : ℕ) → y < 512 → bit_at rows₂ j y ≡ false
    blank₂ j n m y l = row_stays j 1 m b y l ∙ blank₁ j n y l

    blank₃ : (y : ℕ) → y < 512 → bit_at rows₃ 3 y ≡ false
    blank₃ y l = row_stays 3 2 (λ e. omega arith) c y l ∙ blank₂ 3 (λ e. omega arith) (λ e. omega arith) y l

    of_user : (y : ℕ) → y < 512 → bit_at rows₄ 0 y ≡ contained (policy_of mem) user y
    of_user y l =
        row_stays 0 3 (λ e. omega arith) d y l ∙ row_stays 0 2 (λ e. omega arith) c y l ∙ row_stays 0 1 (λ e. omega arith) b y l
        ∙ row_set 0 a y l (blank₀ 0 y)

    of_first : (y : ℕ) → y < 512 → bit_at rows₄ 1 y ≡ contained (policy_of mem) q.first y
    of_first y l =
        row_stays 1 3 (λ e. omega arith) d y l ∙ row_stays 1 2 (λ e. omega arith) c y l ∙ row_set 1 b y l (blank₁ 1 (λ e. omega arith) y l)

    of_second : (y : ℕ) → y < 512 → bit_at rows₄ 2 y ≡ contained (policy_of mem) q.second y
    of_second y l = row_stays 2 3 (λ e. omega arith) d y l ∙ row_set 2 c y l (blank₂ 2 (λ e. omega arith) (λ e. omega arith) y l)

    of_third : (y : ℕ) → y < 512 → bit_at rows₄ 3 y ≡ contained (policy_of mem) q.third y
    of_third y l = row_set 3 d y l (blank₃ y l)

-- the user of the process of a request that is not refused has a row
pub user_known : {mem : List ℕ} {q : Request} {u : ℕ} → Accepted mem q → u ≡ user_of (policy_of mem) q.process → u < 512
user_known k e = omega (arith, k.user)
