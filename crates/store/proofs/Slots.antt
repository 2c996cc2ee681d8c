-- Records that stand by id in a run of words: one word set puts a record in its place, or takes it out.
-- Assumes nothing.
use mathlib.Core.Path.{◌≡◌, refl, sym, ap, ◌∙◌}
use mathlib.Core.Bool.{Bool, true, false}
use mathlib.Core.List.{List, [], ◌∷◌}
use Prim.Native.Nat.{ℕ, zero, suc, ◌+◌, ◌≤◌, ◌<◌}
use native.Mathlib.Nat.{not-suc-le-zero}
use native.Mathlib.Omega.{arith}
use borrow.Author.Tests.{eq-eqb, ne_eqb, lt-ltb, le-ltb}
use lib.Dec.{eqb}
use Rattle.model.specs.Lists.{In, first, later, those, less_first, tabulate, put}
use Rattle.model.proofs.Truth.{those_in}
use Rattle.model.proofs.Order.{before_one}
use Rattle.table.proofs.Tabled.{tabulate_in}
use Rattle.group.proofs.Records.{tabulate_alike}

module _ {A : Type 0} (id : A → ℕ) (good : A → Bool) where
  -- the order is by id alone
  abbrev by_id : A → List ℕ
  by_id a = id a ∷ []

  -- a record whose id is before all others goes to the front
  put_front : (a : A) (l : List A) → ((b : A) → In b l → id a < id b) → put by_id a l ≡ a ∷ l
  unfolding put
  put_front a [] h = refl
  put_front a (b ∷ l) h = rw (before_one (id a) (id b), lt-ltb (id a) (id b) (h b first)) refl

  -- a record with a later id goes on
  put_past : (a b : A) (l : List A) → id b ≤ id a → put by_id a (b ∷ l) ≡ b ∷ put by_id a l
  unfolding put
  put_past a b l h = rw (before_one (id a) (id b), le-ltb (id a) (id b) h) refl

  -- those that pass, one at the front
  those_good : (a : A) (l : List A) → good a ≡ true → those good (a ∷ l) ≡ a ∷ those good l
  unfolding those
  those_good a l e = rw e refl

  those_bad : (a : A) (l : List A) → good a ≡ false → those good (a ∷ l) ≡ those good l
  unfolding those
  those_bad a l e = rw e refl

  -- nothing with the id is there
  less_absent : (x : ℕ) (l : List A) → ((b : A) → In b l → x < id b) → less_first (λ b. eqb x (id b)) l ≡ l
  unfolding less_first
  less_absent x [] h = refl
  less_absent x (b ∷ l) h =
      rw (ne_eqb x (id b) (λ e. omega (arith, h b first))) (ap (λ m. b ∷ m) (less_absent x l (λ c i. h c (later i))))

  -- ids from s on, each one above the last
  abbrev Numbered : ℕ → (ℕ → A) → Type 0
  Numbered s make = (j : ℕ) → id (make j) ≡ s + j

  -- those told off behind the first have ids above it
  tail_above : (s n : ℕ) (make : ℕ → A) → Numbered s make → (b : A) → In b (those good (tabulate n (λ j. make (suc j)))) → s < id b
  tail_above s n make u b i =
      let w = tabulate_in n (λ j. make (suc j)) (those_in good (tabulate n (λ j. make (suc j))) i) in
      omega (arith, ap id w.is, u (suc w.at))

  -- A record that comes to pass is put in its place.
  pub slot_put : (n i s : ℕ) (make make' : ℕ → A) → Numbered s make → i < n → ((j : ℕ) → (j ≡ i → ⊥) → make' j ≡ make j)
      → id (make' i) ≡ s + i → good (make i) ≡ false → good (make' i) ≡ true
      → those good (tabulate n make') ≡ put by_id (make' i) (those good (tabulate n make))
  unfolding tabulate
  slot_put zero i s make make' u h o e b g = absurd (not-suc-le-zero h)
  slot_put (suc n) zero s make make' u h o e b g =
      let t : tabulate n (λ j. make' (suc j)) ≡ tabulate n (λ j. make (suc j)) =
      tabulate_alike n (λ j. make' (suc j)) (λ j. make (suc j)) (λ j l. o (suc j) (λ q. omega arith)) in
      those_good (make' 0) (tabulate n (λ j. make' (suc j))) g
      ∙ ap (λ l. make' 0 ∷ those good l) t
      ∙ sym (put_front (make' 0) (those good (tabulate n (λ j. make (suc j)))) (λ c m. omega (arith, e, tail_above s n make u c m)))
      ∙ ap (put by_id (make' 0)) (sym (those_bad (make 0) (tabulate n (λ j. make (suc j))) b))
  slot_put (suc n) (suc i) s make make' u h o e b g =
      go (good (make 0)) refl (slot_put n i (suc s) (λ j. make (suc j)) (λ j. make' (suc j)) (λ j. omega (arith, u (suc j))) (omega arith) (λ j d. o (suc j) (λ q. d (omega arith))) (omega arith) b g)
    where
      rest : List A
      rest = tabulate n (λ j. make (suc j))

      rest' : List A
      rest' = tabulate n (λ j. make' (suc j))

      same_first : make' 0 ≡ make 0
      same_first = o 0 (λ q. omega arith)

      go : (t : Bool) → good (make 0) ≡ t → those good rest' ≡ put by_id (make' (suc i)) (those good rest)
          → those good (make' 0 ∷ rest') ≡ put by_id (make' (suc i)) (those good (make 0 ∷ rest))
      go true q r =
          ap (λ a. those good (a ∷ rest')) same_first ∙ those_good (make 0) rest' q ∙ ap (λ l. make 0 ∷ l) r
          ∙ sym (put_past (make' (suc i)) (make 0) (those good rest) (omega (arith, u 0, e))) ∙ ap (put by_id (make' (suc i))) (sym (those_good (make 0) rest q))
      go false q r = ap (λ a. those good (a ∷ rest')) same_first ∙ those_bad (make 0) rest' q ∙ r ∙ ap (put by_id (make' (suc i))) (sym (those_bad (make 0) rest q))

  -- the record with the id at the front, and another one there
  less_here : (x : ℕ) (a : A) (l : List A) → x ≡ id a → less_first (λ b. eqb x (id b)) (a ∷ l) ≡ l
  unfolding less_first
  less_here x a l e = rw (eq-eqb x (id a) e) refl

  less_past : (x : ℕ) (a : A) (l : List A) → (x ≡ id a → ⊥) → less_first (λ b. eqb x (id b)) (a ∷ l) ≡ a ∷ less_first (λ b. eqb x (id b)) l
  unfolding less_first
  less_past x a l d = rw (ne_eqb x (id a) d) refl

  -- A record that no longer passes is taken out.
  pub slot_less : (n i s x : ℕ) (make make' : ℕ → A) → Numbered s make → i < n → ((j : ℕ) → (j ≡ i → ⊥) → make' j ≡ make j)
      → x ≡ s + i → good (make' i) ≡ false
      → those good (tabulate n make') ≡ less_first (λ b. eqb x (id b)) (those good (tabulate n make))
  unfolding tabulate
  slot_less zero i s x make make' u h o e b = absurd (not-suc-le-zero h)
  slot_less (suc n) zero s x make make' u h o e b = go (good (make 0)) refl
    where
      rest : List A
      rest = tabulate n (λ j. make (suc j))

      rest' : List A
      rest' = tabulate n (λ j. make' (suc j))

      same_rest : rest' ≡ rest
      same_rest = tabulate_alike n (λ j. make' (suc j)) (λ j. make (suc j)) (λ j l. o (suc j) (λ q. omega arith))

      go : (t : Bool) → good (make 0) ≡ t → those good (make' 0 ∷ rest') ≡ less_first (λ b. eqb x (id b)) (those good (make 0 ∷ rest))
      go true q =
          those_bad (make' 0) rest' b ∙ ap (those good) same_rest ∙ sym (less_here x (make 0) (those good rest) (omega (arith, u 0)))
          ∙ ap (less_first (λ b. eqb x (id b))) (sym (those_good (make 0) rest q))
      go false q =
          those_bad (make' 0) rest' b ∙ ap (those good) same_rest
          ∙ sym (less_absent x (those good rest) (λ c m. omega (arith, tail_above s n make u c m))) ∙ ap (less_first (λ b. eqb x (id b))) (sym (those_bad (make 0) rest q))
  slot_less (suc n) (suc i) s x make make' u h o e b =
      go (good (make 0)) refl (slot_less n i (suc s) x (λ j. make (suc j)) (λ j. make' (suc j)) (λ j. omega (arith, u (suc j))) (omega arith) (λ j d. o (suc j) (λ q. d (omega arith))) (omega arith) b)
    where
      rest : List A
      rest = tabulate n (λ j. make (suc j))

      rest' : List A
      rest' = tabulate n (λ j. make' (suc j))

      same_first : make' 0 ≡ make 0
      same_first = o 0 (λ q. omega arith)

      go : (t : Bool) → good (make 0) ≡ t → those good rest' ≡ less_first (λ b. eqb x (id b)) (those good rest)
          → those good (make' 0 ∷ rest') ≡ less_first (λ b. eqb x (id b)) (those good (make 0 ∷ rest))
      go true q r =
          ap (λ a. those good (a ∷ rest')) same_first ∙ those_good (make 0) rest' q ∙ ap (λ l. make 0 ∷ l) r
          ∙ sym (less_past x (make 0) (those good rest) (λ z. omega (arith, u 0))) ∙ ap (less_first (λ b. eqb x (id b))) (sym (those_good (make 0) rest q))
      go false q r = ap (λ a. those good (a ∷ rest')) same_first ∙ those_bad (make 0) rest' q ∙ r ∙ ap (less_first (λ b. eqb x (id b))) (sym (those_bad (make 0) rest q))
