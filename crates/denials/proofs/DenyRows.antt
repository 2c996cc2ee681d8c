-- The row of an alternative that is not satisfied is the explanation's: that of its first failing argument and right.
-- Assumes nothing.
use mathlib.Core.Path.{◌≡◌, refl, sym, ap, ap₂, ◌∙◌}
use mathlib.Core.Bool.{Bool, true, false, not, cond}
use mathlib.Core.List.{List, [], ◌∷◌, ◌++◌, map, append-nil}
use Prim.Native.Nat.{ℕ, ◌<◌}
use native.Mathlib.Omega.{arith}
use borrow.Author.Tests.{lt-ltb}
use lib.Dec.{ltb}
use lib.ListN.{length, get_or}
use Rattle.model.specs.Lists.{In, first, all_of, those, one, three}
use Rattle.model.specs.Policy.{user_of}
use Rattle.model.specs.Contain.{contained}
use Rattle.model.specs.Request.{Alternative, alternatives_of, Asked, asked, asked_of, permitted, satisfied}
use Rattle.model.specs.Explain.{Row, failing, deny_row, first_failing}
use Rattle.model.proofs.Truth.{clash, those_in}
use Rattle.table.specs.View.{policy_of}
use Rattle.request.specs.declared.Request.{Request}
use Rattle.request.specs.Sets.{set_of, right_sets, rights_in}
use Rattle.request.specs.Asks.{request_of}
use Rattle.request.proofs.Operations.{rights_back}
use Rattle.request.proofs.Alternatives.{asked_at}
use Rattle.rule.specs.declared.Asking.{Asking}
use Rattle.held.specs.Lacking.{permits}
use Rattle.decide.specs.Asks.{asking_of, with_right, permits_over}
use Rattle.denials.specs.Failing.{first_or32, first_failing_right, failing_numbers, deny_numbers}
use Rattle.denials.proofs.Rights.{right_low}
use Rattle.denials.proofs.WhyDenied.{cause_as}

-- Those of a list.
module _ {A : Type 0} (f : A → Bool) where
  -- of two that are joined
  those_append : (l m : List A) → those f (l ++ m) ≡ those f l ++ those f m
  unfolding those
  those_append [] m = refl
  those_append (a ∷ l) m = rw (those_append l m) (go (f a))
    where
      go : (b : Bool) → cond b (a ∷ (those f l ++ those f m)) (those f l ++ those f m) ≡ cond b (a ∷ those f l) (those f l) ++ those f m
      go true = refl
      go false = refl

  -- of one that is mapped
  those_map : {B : Type 0} (g : B → A) (l : List B) → those f (map g l) ≡ map g (those (λ b. f (g b)) l)
  unfolding those
  those_map g [] = refl
  those_map {B} g (b ∷ l) = rw (those_map g l) (go (f (g b)))
    where
      go : (t : Bool) → cond t (g b ∷ map g (those (λ c. f (g c)) l)) (map g (those (λ c. f (g c)) l)) ≡ map g (cond t (b ∷ those (λ c. f (g c)) l) (those (λ c. f (g c)) l))
      go true = refl
      go false = refl

  -- the first that fails the test
  record First (l : List A) : Type 0 where
    it : A
    rest : List A
    is : those (λ a. not (f a)) l ≡ it ∷ rest

  -- where some fails there is a first
  some_first : (l : List A) → all_of f l ≡ false → First l
  unfolding all_of those
  some_first [] e = absurd (clash refl e)
  some_first (a ∷ l) e = go (f a) refl (some_first l)
    where
      go : (b : Bool) → f a ≡ b → (all_of f l ≡ false → First l) → First (a ∷ l)
      go true t k = let m = k (rw t at e) in record { it = m.it; rest = m.rest; is = rw t m.is }
      go false t k = record { it = a; rest = those (λ b. not (f b)) l; is = rw t }

-- what an alternative asks, argument by argument
asked_three : (alternative : Alternative) (a b c : ℕ)
    → asked 1 alternative (three a b c)
    ≡ map (asked_at 1 a) (get_or alternative 0 []) ++ (map (asked_at 2 b) (get_or alternative 1 []) ++ map (asked_at 3 c) (get_or alternative 2 []))
unfolding asked
asked_three [] a b c = refl
asked_three (x ∷ []) a b c = refl
asked_three (x ∷ y ∷ []) a b c = refl
asked_three (x ∷ y ∷ z ∷ []) a b c = ap (λ l. map (asked_at 1 a) x ++ (map (asked_at 2 b) y ++ l)) (append-nil (map (asked_at 3 c) z))
asked_three (x ∷ y ∷ z ∷ w ∷ more) a b c = ap (λ l. map (asked_at 1 a) x ++ (map (asked_at 2 b) y ++ l)) (append-nil (map (asked_at 3 c) z))

-- those of it that fail a test
failing_three : (f : Asked → Bool) (alternative : Alternative) (a b c : ℕ)
    → those f (asked 1 alternative (three a b c))
    ≡ map (asked_at 1 a) (those (λ r. f (asked_at 1 a r)) (get_or alternative 0 []))
    ++ (map (asked_at 2 b) (those (λ r. f (asked_at 2 b r)) (get_or alternative 1 [])) ++ map (asked_at 3 c) (those (λ r. f (asked_at 3 c r)) (get_or alternative 2 [])))
failing_three f alternative a b c =
    let x : List Asked = map (asked_at 1 a) (get_or alternative 0 []) in
    let y : List Asked = map (asked_at 2 b) (get_or alternative 1 []) in
    let z : List Asked = map (asked_at 3 c) (get_or alternative 2 []) in
    ap (those f) (asked_three alternative a b c)
    ∙ those_append f x (y ++ z)
    ∙ ap₂ ◌++◌ (those_map f (asked_at 1 a) (get_or alternative 0 []))
    (those_append f y z ∙ ap₂ ◌++◌ (those_map f (asked_at 2 b) (get_or alternative 1 [])) (those_map f (asked_at 3 c) (get_or alternative 2 [])))

-- of rights of three arguments the first, found argument by argument, is the first of all
first_of_three : (row : Asked → List ℕ) (g h i : ℕ → Asked) (l m n : List ℕ)
    → ((r : ℕ) → In r l → r < 32) → ((r : ℕ) → In r m → r < 32)
    → {a : Asked} {rest : List Asked} → map g l ++ (map h m ++ map i n) ≡ a ∷ rest
    → cond (ltb (first_or32 l) 32) (row (g (first_or32 l))) (cond (ltb (first_or32 m) 32) (row (h (first_or32 m))) (row (i (first_or32 n)))) ≡ row a
first_of_three row g h i (x ∷ l) m n s t e = rw (lt-ltb x 32 (s x first)) (ap (λ (k : List Asked). row (get_or k 0 (g x))) e)
first_of_three row g h i [] (x ∷ m) n s t e = rw (lt-ltb x 32 (t x first)) (ap (λ (k : List Asked). row (get_or k 0 (h x))) e)
first_of_three row g h i [] [] (x ∷ n) s t e = ap (λ (k : List Asked). row (get_or k 0 (i x))) e
first_of_three row g h i [] [] [] s t {a} {rest} e = let z : 0 ≡ length (a ∷ rest) = ap (λ (k : List Asked). length k) e in absurd (omega arith)

-- the numbers of a row, in their order
abbrev pub numbers_of : Row → List ℕ
numbers_of r = r.alternative ∷ r.argument ∷ r.right ∷ r.cause ∷ r.number ∷ r.attribute ∷ r.target ∷ r.rights ∷ []

-- An alternative, asked in a request.
module _ (mem : List ℕ) (q : Request) (k : ℕ) where
  -- the test of a right over the argument at position i
  abbrev fails : (i e : ℕ) → ℕ → Bool
  fails i e r = not (permitted (contained (policy_of mem)) (policy_of mem) (request_of q) (asked_at i e r))

  -- what is asked over it
  abbrev asking : (i e : ℕ) → Asking
  asking i e = asking_of q (user_of (policy_of mem) q.process) false e i 0

  -- the row of what the model asks
  abbrev row : Asked → List ℕ
  row a = numbers_of (deny_row (contained (policy_of mem)) (policy_of mem) (request_of q) k a)

  -- it is the row that the code makes
  row_as : (i e r : ℕ) → failing_numbers (policy_of mem) (with_right (asking i e) r) k i ≡ row (asked_at i e r)
  unfolding failing_numbers deny_row
  row_as i e r =
      rw (cause_as mem (request_of q) (asked_at i e r) (with_right (asking i e) r) refl refl refl refl)

  -- the first failing right is the first of those that fail the test
  first_as : (i e rights : ℕ) → first_failing_right (policy_of mem) (asking i e) rights ≡ first_or32 (those (fails i e) (rights_in rights))
  unfolding first_failing_right permits_over permits permitted
  first_as i e rights = refl

  -- an alternative whose sets read back as its rights
  module _ (alternative : Alternative) (back : (j : ℕ) → rights_in (set_of (get_or alternative j [])) ≡ get_or alternative j []) where
    -- the set of the rights asked of one argument
    abbrev rights_at : ℕ → ℕ
    rights_at j = set_of (get_or alternative j [])

    -- its row is that of its first failing argument and right
    numbers_as : {a : Asked} {rest : List Asked} → failing (contained (policy_of mem)) (policy_of mem) (request_of q) alternative ≡ a ∷ rest
        → deny_numbers (policy_of mem) q (user_of (policy_of mem) q.process) k (right_sets alternative) ≡ row a
    unfolding deny_numbers right_sets failing
    numbers_as {a} {rest} e =
        let l : List ℕ = those (fails 1 q.first) (rights_in (rights_at 0)) in
        let m : List ℕ = those (fails 2 q.second) (rights_in (rights_at 1)) in
        let n : List ℕ = those (fails 3 q.third) (rights_in (rights_at 2)) in
        let all : map (asked_at 1 q.first) l ++ (map (asked_at 2 q.second) m ++ map (asked_at 3 q.third) n) ≡ a ∷ rest =
        rw (back 0, back 1, back 2)
        (sym (failing_three (λ b. not (permitted (contained (policy_of mem)) (policy_of mem) (request_of q) b)) alternative q.first q.second q.third) ∙ e) in
        rw (
          row_as 1 q.first (first_failing_right (policy_of mem) (asking 1 q.first) (rights_at 0)),
          row_as 2 q.second (first_failing_right (policy_of mem) (asking 2 q.second) (rights_at 1)),
          row_as 3 q.third (first_failing_right (policy_of mem) (asking 3 q.third) (rights_at 2)),
          first_as 1 q.first (rights_at 0),
          first_as 2 q.second (rights_at 1),
          first_as 3 q.third (rights_at 2),
        )
        (first_of_three row (asked_at 1 q.first) (asked_at 2 q.second) (asked_at 3 q.third) l m n
        (λ r i. right_low (rights_at 0) (those_in _ _ i)) (λ r i. right_low (rights_at 1) (those_in _ _ i)) all)

  -- alternative j of the request's operation, of a user who owns its process
  module _ {user : ℕ} (u : user ≡ user_of (policy_of mem) q.process) (j : ℕ) where
    -- the row is that of its first failing argument and right
    pub deny_numbers_lem : {a : Asked} {rest : List Asked}
        → failing (contained (policy_of mem)) (policy_of mem) (request_of q) (get_or (alternatives_of (request_of q)) j []) ≡ a ∷ rest
        → deny_numbers (policy_of mem) q user k (right_sets (get_or (alternatives_of (request_of q)) j []))
        ≡ numbers_of (deny_row (contained (policy_of mem)) (policy_of mem) (request_of q) k a)
    deny_numbers_lem e =
        ap (λ (v : ℕ). deny_numbers (policy_of mem) q v k (right_sets (get_or (alternatives_of (request_of q)) j []))) u
        ∙ numbers_as (get_or (alternatives_of (request_of q)) j []) (rights_back q.operation j) e

    -- so where the alternative is not satisfied it is the one row that the explanation has for it
    pub deny_numbers_row : satisfied (contained (policy_of mem)) (policy_of mem) (request_of q) (get_or (alternatives_of (request_of q)) j []) ≡ false
        → map numbers_of (first_failing (contained (policy_of mem)) (policy_of mem) (request_of q) k (failing (contained (policy_of mem)) (policy_of mem) (request_of q) (get_or (alternatives_of (request_of q)) j [])))
        ≡ one (deny_numbers (policy_of mem) q user k (right_sets (get_or (alternatives_of (request_of q)) j [])))
    unfolding satisfied failing first_failing
    deny_numbers_row e =
        let f = some_first (permitted (contained (policy_of mem)) (policy_of mem) (request_of q)) (asked_of (get_or (alternatives_of (request_of q)) j []) (request_of q)) e in
        rw f.is (ap one (sym (deny_numbers_lem f.is)))
