-- Groups in the order of a key: what is put in its place, what is taken out, and that the group still strictly rises.
-- Assumes nothing.
use mathlib.Core.Path.{◌≡◌, refl, sym, ap, ◌∙◌}
use mathlib.Core.Bool.{Bool, true, false, cond, ◌||◌, or_assoc, or_comm}
use mathlib.Core.List.{List, [], ◌∷◌}
use mathlib.Core.Logic.{◌↔◌, ◌⊎◌, inl, inr, ⊎_map}
use Prim.Native.Nat.{ℕ, suc, ◌≤◌, ◌<◌}
use native.Mathlib.Omega.{arith}
use lib.ListN.{length}
use Rattle.model.specs.Lists.{In, first, later, any_of, those, less_first, before, same, precedes, rising, put}
use Rattle.model.proofs.Truth.{clash, and_cut, and_join, Tested, passes, fails, tested, those_in, less_in, in_less}
use Rattle.model.proofs.Order.{before_self, before_trans, else_higher}

-- Counts of what is left.
module _ {A : Type 0} (f : A → Bool) where
  -- a list without one is no longer
  pub less_length : (l : List A) → length (less_first f l) ≤ length l
  unfolding less_first
  less_length [] = omega arith
  less_length (b ∷ l) = go (f b) (less_length l)
    where
      go : (t : Bool) → length (less_first f l) ≤ length l → length (cond t l (b ∷ less_first f l)) ≤ suc (length l)
      go true h = omega arith
      go false h = omega arith

  -- those of a list are no more
  pub those_length : (l : List A) → length (those f l) ≤ length l
  unfolding those
  those_length [] = omega arith
  those_length (b ∷ l) = go (f b) (those_length l)
    where
      go : (t : Bool) → length (those f l) ≤ length l → length (cond t (b ∷ those f l) (those f l)) ≤ suc (length l)
      go true h = omega arith
      go false h = omega arith

  -- where some passes the test, those that pass are not none
  pub some_those : (l : List A) → any_of f l ≡ true → 0 < length (those f l)
  unfolding any_of those
  some_those [] e = absurd (clash e refl)
  some_those (b ∷ l) e = go (f b) e (some_those l)
    where
      go : (t : Bool) → (t || any_of f l) ≡ true → (any_of f l ≡ true → 0 < length (those f l)) → 0 < length (cond t (b ∷ those f l) (those f l))
      go true e k = omega arith
      go false e k = k e

  -- where those that pass are not none, some passes
  pub those_some : (l : List A) → 0 < length (those f l) → any_of f l ≡ true
  unfolding any_of those
  those_some [] h = absurd (omega arith)
  those_some (b ∷ l) h = go (f b) h (those_some l)
    where
      go : (t : Bool) → 0 < length (cond t (b ∷ those f l) (those f l)) → (0 < length (those f l) → any_of f l ≡ true) → (t || any_of f l) ≡ true
      go true h k = refl
      go false h k = k h

  -- of those that pass at most one goes with the first of another test
  pub less_those : (g : A → Bool) (l : List A) → length (those f l) ≤ suc (length (those f (less_first g l)))
  unfolding those less_first
  less_those g [] = omega arith
  less_those g (b ∷ l) = go (g b) (f b) refl (less_those g l)
    where
      go : (s t : Bool) → f b ≡ t → length (those f l) ≤ suc (length (those f (less_first g l)))
          → length (cond t (b ∷ those f l) (those f l)) ≤ suc (length (those f (cond s l (b ∷ less_first g l))))
      go true true e h = omega arith
      go true false e h = omega arith
      go false true e h = rw e (omega arith)
      go false false e h = rw e (omega arith)

module _ {A : Type 0} (key : A → List ℕ) where
  -- with b in its place stand b and what stood there
  pub put_in : {a : A} (b : A) (l : List A) → In a (put key b l) → (a ≡ b) ⊎ In a l
  unfolding put
  put_in b [] first = inl refl
  put_in b (c ∷ l) i = go (before (key b) (key c)) i (put_in b l)
    where
      go : {a : A} (t : Bool) → In a (cond t (b ∷ c ∷ l) (c ∷ put key b l)) → (In a (put key b l) → (a ≡ b) ⊎ In a l) → (a ≡ b) ⊎ In a (c ∷ l)
      go true first k = inl refl
      go true (later i) k = inr i
      go false first k = inr first
      go false (later i) k = ⊎_map (λ e. e) later (k i)
  put_in {a = a} b [] (later never) = elim never [ ]

  -- b itself
  pub put_itself : (b : A) (l : List A) → In b (put key b l)
  unfolding put
  put_itself b [] = first
  put_itself b (c ∷ l) = go (before (key b) (key c)) (put_itself b l)
    where
      go : (t : Bool) → In b (put key b l) → In b (cond t (b ∷ c ∷ l) (c ∷ put key b l))
      go true i = first
      go false i = later i

  -- and each that stood there
  pub put_kept : {a : A} (b : A) {l : List A} → In a l → In a (put key b l)
  unfolding put
  put_kept b (first {l = l}) = go (before (key b) (key _))
    where
      go : {a : A} (t : Bool) → In a (cond t (b ∷ a ∷ l) (a ∷ put key b l))
      go true = later first
      go false = first
  put_kept b (later {b = c} {l = l} i) = go (before (key b) (key c)) i (put_kept b i)
    where
      go : {a : A} (t : Bool) → In a l → In a (put key b l) → In a (cond t (b ∷ c ∷ l) (c ∷ put key b l))
      go true i j = later (later i)
      go false i j = later j

  -- and nothing else
  pub put_exactly : {a : A} (b : A) (l : List A) → In a (put key b l) ↔ ((a ≡ b) ⊎ In a l)
  put_exactly {a} b l = (put_in b l, back)
    where
      back : (a ≡ b) ⊎ In a l → In a (put key b l)
      back (inl q) = rw q (put_itself b l)
      back (inr i) = put_kept b i

  -- a test passes for some of them if it passes for b or for some that stood there
  pub put_any : (f : A → Bool) (b : A) (l : List A) → any_of f (put key b l) ≡ (f b || any_of f l)
  unfolding put any_of
  put_any f b [] = refl
  put_any f b (c ∷ l) = go (before (key b) (key c)) (put_any f b l)
    where
      go : (t : Bool) → any_of f (put key b l) ≡ (f b || any_of f l)
          → any_of f (cond t (b ∷ c ∷ l) (c ∷ put key b l)) ≡ (f b || (f c || any_of f l))
      go true e = refl
      go false e = rw e (sym (or_assoc (f c) (f b) (any_of f l)) ∙ ap (λ t. t || any_of f l) (or_comm (f c) (f b)) ∙ or_assoc (f b) (f c) (any_of f l))

  -- one more
  pub put_length : (b : A) (l : List A) → length (put key b l) ≡ suc (length l)
  unfolding put
  put_length b [] = refl
  put_length b (c ∷ l) = go (before (key b) (key c)) (put_length b l)
    where
      go : (t : Bool) → length (put key b l) ≡ suc (length l) → length (cond t (b ∷ c ∷ l) (c ∷ put key b l)) ≡ suc (suc (length l))
      go true e = refl
      go false e = ap suc e

  -- the first of a strictly rising group is before each other
  pub rising_first : {b : A} (a : A) (l : List A) → rising key (a ∷ l) ≡ true → In b l → before (key a) (key b) ≡ true
  unfolding rising precedes
  rising_first {b} a (c ∷ l) e first = (and_cut (before (key a) (key c)) (rising key (c ∷ l)) e).0
  rising_first {b} a (c ∷ l) e (later i) =
      let k = and_cut (before (key a) (key c)) (rising key (c ∷ l)) e in
      before_trans (key a) (key c) (key b) k.0 (rising_first c l k.1 i)
  rising_first {b = b} a [] e never = elim never [ ]

  -- and the rest strictly rises
  pub rising_rest : (a : A) (l : List A) → rising key (a ∷ l) ≡ true → rising key l ≡ true
  unfolding rising
  rising_rest a l e = (and_cut (precedes key a l) (rising key l) e).1

  -- a group strictly rises whose first is before each other and whose rest strictly rises
  pub rising_more : (a : A) (l : List A) → ((b : A) → In b l → before (key a) (key b) ≡ true) → rising key l ≡ true → rising key (a ∷ l) ≡ true
  unfolding rising precedes
  rising_more a [] h e = refl
  rising_more a (c ∷ l) h e = and_join (before (key a) (key c)) (rising key (c ∷ l)) (h c first) e

  -- a group still strictly rises with one put that has another key than each
  pub rising_put : (b : A) (l : List A) → rising key l ≡ true → ((a : A) → In a l → same (key b) (key a) ≡ false) → rising key (put key b l) ≡ true
  unfolding put rising precedes
  rising_put b [] e h = refl
  rising_put b (c ∷ l) e h = go (tested (before (key b) (key c))) (rising_put b l (rising_rest c l e) (λ a i. h a (later i)))
    where
      behind : before (key b) (key c) ≡ false → (a : A) → (a ≡ b) ⊎ In a l → before (key c) (key a) ≡ true
      behind t a (inl q) = rw q (else_higher (key b) (key c) (h c first) t)
      behind t a (inr i) = rising_first c l e i

      go : Tested (before (key b) (key c)) → rising key (put key b l) ≡ true
          → rising key (cond (before (key b) (key c)) (b ∷ c ∷ l) (c ∷ put key b l)) ≡ true
      go (passes t) k = rw t (and_join (before (key b) (key c)) (rising key (c ∷ l)) t e)
      go (fails t) k = rw t (rising_more c (put key b l) (λ a i. behind t a (put_in b l i)) k)

  -- a group still strictly rises without one
  pub rising_less : (f : A → Bool) (l : List A) → rising key l ≡ true → rising key (less_first f l) ≡ true
  unfolding less_first
  rising_less f [] e = e
  rising_less f (b ∷ l) e = go (f b) (rising_less f l (rising_rest b l e))
    where
      go : (t : Bool) → rising key (less_first f l) ≡ true → rising key (cond t l (b ∷ less_first f l)) ≡ true
      go true k = rising_rest b l e
      go false k = rising_more b (less_first f l) (λ a i. rising_first b l e (less_in f l i)) k

  -- so do those of it that pass a test
  pub rising_those : (f : A → Bool) (l : List A) → rising key l ≡ true → rising key (those f l) ≡ true
  unfolding those
  rising_those f [] e = e
  rising_those f (b ∷ l) e = go (f b) (rising_those f l (rising_rest b l e))
    where
      go : (t : Bool) → rising key (those f l) ≡ true → rising key (cond t (b ∷ those f l) (those f l)) ≡ true
      go true k = rising_more b (those f l) (λ a i. rising_first b l e (those_in f l i)) k
      go false k = k

  -- a test that passes for one key alone
  abbrev pub OneKey : (A → Bool) → Type 0
  OneKey f = (a b : A) → f a ≡ true → f b ≡ true → key a ≡ key b

  -- in a strictly rising group none is left that passes such a test, when the first is taken out
  pub less_fails : {a : A} (f : A → Bool) (l : List A) → OneKey f → rising key l ≡ true → In a (less_first f l) → f a ≡ false
  unfolding less_first
  less_fails f (b ∷ l) u e i = go (f b) refl i (less_fails f l u (rising_rest b l e))
    where
      other : {a : A} → f b ≡ true → In a l → (t : Bool) → f a ≡ t → t ≡ false
      other {a} h i true k =
          let q : key b ≡ key a = u b a h k in
          absurd (clash (rising_first b l e i) (rw q (before_self (key a))))
      other h i false k = refl

      go : {a : A} (t : Bool) → f b ≡ t → In a (cond t l (b ∷ less_first f l)) → (In a (less_first f l) → f a ≡ false) → f a ≡ false
      go {a} true h i k = other h i (f a) refl
      go false h first k = h
      go false h (later i) k = k i
  less_fails {a = a} f [] u e i = elim i [ ]

  -- so just those are left that stood there and do not pass
  pub less_exactly : {a : A} (f : A → Bool) (l : List A) → OneKey f → rising key l ≡ true → In a (less_first f l) ↔ (In a l × (f a ≡ false))
  less_exactly f l u e = (λ i. (less_in f l i, less_fails f l u e i), λ h. in_less f h.0 h.1)
