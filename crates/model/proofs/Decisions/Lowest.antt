-- Lists that rise when they are joined or mapped, the lowest of a list, the least number.
-- Assumes nothing.
use mathlib.Core.Path.{◌≡◌, refl, sym, ◌∙◌}
use mathlib.Core.Bool.{Bool, true, false, cond}
use mathlib.Core.List.{List, [], ◌∷◌, ◌++◌, map}
use mathlib.Core.Logic.{◌⊎◌, inl, inr}
use Prim.Native.Nat.{ℕ, ◌≤◌}
use borrow.Author.Tests.{ltb-false}
use lib.Dec.{ltb}
use Rattle.model.specs.Lists.{In, first, later, one, before, rising, least_of, lowest_of}
use Rattle.model.specs.Explain.{joined}
use Rattle.model.proofs.Truth.{fails_when, none_in, each_of, clash, Mapped, map_in, in_left, in_right, in_append}
use Rattle.model.proofs.Order.{before_self, before_trans, before_between, before_one}
use Rattle.model.proofs.Groups.{rising_first, rising_rest, rising_more}

-- Lists that strictly rise by a key.
module _ {A : Type 0} (key : A → List ℕ) where
  -- two rising lists, each of the one before each of the other
  pub rising_append : (l m : List A) → rising key l ≡ true → rising key m ≡ true
      → ((a b : A) → In a l → In b m → before (key a) (key b) ≡ true) → rising key (l ++ m) ≡ true
  rising_append [] m e f h = f
  rising_append (a ∷ l) m e f h =
      rising_more key a (l ++ m) (λ b i. go b (in_append l i)) (rising_append l m (rising_rest key a l e) f (λ b c i j. h b c (later i) j))
    where
      go : (b : A) → In b l ⊎ In b m → before (key a) (key b) ≡ true
      go b (inl i) = rising_first key a l e i
      go b (inr i) = h a b first i

  -- the lowest is one of the list
  pub lowest_in_lem : (a : A) (l : List A) → In (lowest_of key a l) (a ∷ l)
  unfolding lowest_of
  lowest_in_lem a [] = first
  lowest_in_lem a (b ∷ l) = go (before (key b) (key a)) (lowest_in_lem (cond (before (key b) (key a)) b a) l)
    where
      go : {c : A} (t : Bool) → In c (cond t b a ∷ l) → In c (a ∷ b ∷ l)
      go true i = later i
      go false first = first
      go false (later i) = later (later i)

  -- and none of the list is before it
  pub lowest_least : (a : A) (l : List A) (b : A) → In b (a ∷ l) → before (key b) (key (lowest_of key a l)) ≡ false
  unfolding lowest_of
  lowest_least a [] = each_of (λ b. before (key b) (key a) ≡ false) (before_self (key a)) (λ b i. absurd (none_in i))
  lowest_least a (c ∷ l) = go (before (key c) (key a)) refl (lowest_least (cond (before (key c) (key a)) c a) l)
    where
      go : (t : Bool) → before (key c) (key a) ≡ t → ((b : A) → In b (cond t c a ∷ l) → before (key b) (key (lowest_of key (cond t c a) l)) ≡ false)
          → (b : A) → In b (a ∷ c ∷ l) → before (key b) (key (lowest_of key (cond t c a) l)) ≡ false
      go true e k =
          let low : A = lowest_of key c l in
          each_of (λ b. before (key b) (key low) ≡ false)
          (fails_when _ (λ h. clash (before_trans (key c) (key a) (key low) e h) (k c first))) k
      go false e k =
          let low : A = lowest_of key a l in
          each_of (λ b. before (key b) (key low) ≡ false) (k a first)
          (each_of (λ b. before (key b) (key low) ≡ false) (fails_when _ (λ h. not_c h)) (λ b i. k b (later i)))
        where
          not_c : before (key c) (key (lowest_of key a l)) ≡ true → ⊥
          not_c h = elim (before_between (key c) (key a) (key (lowest_of key a l)) h) [ inl m ↦ clash m e | inr m ↦ clash m (k a first) ]

module _ {A B : Type 0} (key : A → List ℕ) (key' : B → List ℕ) where
  -- a map that keeps the order keeps a list rising
  pub rising_map : (f : A → B) → ((a b : A) → before (key a) (key b) ≡ true → before (key' (f a)) (key' (f b)) ≡ true)
      → (l : List A) → rising key l ≡ true → rising key' (map f l) ≡ true
  unfolding rising
  rising_map f h [] e = refl
  rising_map f h (a ∷ l) e =
      rising_more key' (f a) (map f l) (λ b i. go b (map_in f l i)) (rising_map f h l (rising_rest key a l e))
    where
      go : (b : B) → Mapped f b l → before (key' (f a)) (key' b) ≡ true
      go b m = rw (← m.is) (h a m.from (rising_first key a l e m.there))

-- what is joined stands in one part
pub record Joined {A B : Type 0} (f : A → List B) (b : B) (l : List A) : Type 0 where
  pub from : A
  pub there : In from l
  pub is : In b (f from)

module _ {A B : Type 0} (f : A → List B) where
  -- what stands in the joined list stands in one part
  pub joined_in : {b : B} (l : List A) → In b (joined f l) → Joined f b l
  unfolding joined
  joined_in [] i = absurd (none_in i)
  joined_in (a ∷ l) i = go (in_append (f a) i) (joined_in l)
    where
      go : {b : B} → In b (f a) ⊎ In b (joined f l) → (In b (joined f l) → Joined f b l) → Joined f b (a ∷ l)
      go (inl i) k = record { from = a; there = first; is = i }
      go (inr i) k = let m = k i in record { from = m.from; there = later m.there; is = m.is }

  -- what stands in one part stands in the joined list
  pub in_joined : {a : A} {b : B} {l : List A} → In a l → In b (f a) → In b (joined f l)
  unfolding joined
  in_joined {l = a ∷ l} first i = in_left (joined f l) i
  in_joined {l = c ∷ l} (later j) i = in_right (f c) (in_joined j i)
  in_joined {a = a} {b = b} {l = []} never i = elim never [ ]

  -- rising parts, of a rising list, joined
  pub rising_joined : (key : A → List ℕ) (key' : B → List ℕ) → ((a : A) → rising key' (f a) ≡ true)
      → ((a c : A) → before (key a) (key c) ≡ true → (x y : B) → In x (f a) → In y (f c) → before (key' x) (key' y) ≡ true)
      → (l : List A) → rising key l ≡ true → rising key' (joined f l) ≡ true
  unfolding joined rising
  rising_joined key key' each h [] e = refl
  rising_joined key key' each h (a ∷ l) e =
      rising_append key' (f a) (joined f l) (each a) (rising_joined key key' each h l (rising_rest key a l e))
      (λ x y i j. let m = joined_in l j in h a m.from (rising_first key a l e m.there) x y i m.is)

-- the least of some numbers is the lowest of them, each its own field
least_lowest : (x : ℕ) (l : List ℕ) → least_of x l ≡ lowest_of (λ y. one y) x l
unfolding least_of lowest_of
least_lowest x [] = refl
least_lowest x (y ∷ l) = rw (before_one y x) (least_lowest (cond (ltb y x) y x) l)

-- the least is one of the numbers
pub least_in : (x : ℕ) (l : List ℕ) → In (least_of x l) (x ∷ l)
least_in x l = rw (least_lowest x l) (lowest_in_lem (λ y. one y) x l)

-- and no more than any of them
pub least_least : (x : ℕ) (l : List ℕ) {n : ℕ} → In n (x ∷ l) → least_of x l ≤ n
least_least x l {n} i =
    ltb-false n (least_of x l) (sym (before_one n (least_of x l)) ∙ rw (least_lowest x l) (lowest_least (λ y. one y) x l n i))
