-- A record compared with words, word by word: what is left to compare after i equal words.
-- Assumes nothing.
use mathlib.Core.Path.{◌≡◌, sym, ap, ◌∙◌}
use mathlib.Core.Bool.{Bool, true, false}
use mathlib.Core.List.{List, [], ◌∷◌}
use Prim.Native.Nat.{ℕ, suc, ◌+◌, ◌-◌, ◌≤◌, ◌<◌}
use native.Mathlib.Omega.{arith}
use borrow.Author.Tests.{lt-ltb, le-ltb, eq-eqb, ne_eqb}
use lib.ListN.{length, take, drop, get_or, drop_of_length-le}
use lib.Seq.{drop-cons, take_all, take-take}
use Rattle.model.specs.Lists.{before, same}
use Rattle.group.specs.Group.{begins}

-- the test of the whole record is the test of what stands from the i-th word on
pub record Left (test : List ℕ → List ℕ → Bool) (mem : List ℕ) (at : ℕ) (rec : List ℕ) (i : ℕ) : Type 0 where
  pub fits : at + length rec ≤ length mem
  pub within : i ≤ length rec
  pub is : test rec (take (length rec) (drop at mem)) ≡ test (drop i rec) (take (length rec - i) (drop (at + i) mem))

-- before the first word the whole record is left
pub left_all : (test : List ℕ → List ℕ → Bool) (mem : List ℕ) (at : ℕ) (rec : List ℕ) → at + length rec ≤ length mem → Left test mem at rec 0
left_all test mem at rec h =
    let e : length rec - 0 ≡ length rec = omega arith in
    let e2 : at + 0 ≡ at = omega arith in
    record { fits = h; within = omega arith; is = rw (e, e2) }

module _ {test : List ℕ → List ℕ → Bool} {mem : List ℕ} {at : ℕ} {rec : List ℕ} {i : ℕ} (c : Left test mem at rec i) where
  -- what is left, as its first words and the rest
  next : i < length rec → test rec (take (length rec) (drop at mem))
      ≡ test (get_or rec i 0 ∷ drop (suc i) rec) (get_or mem (at + i) 0 ∷ take (length rec - suc i) (drop (suc (at + i)) mem))
  next h =
      let e : length rec - i ≡ suc (length rec - suc i) = omega arith in
      let part : take (length rec - i) (drop (at + i) mem) ≡ get_or mem (at + i) 0 ∷ take (length rec - suc i) (drop (suc (at + i)) mem) =
      rw (e, drop-cons mem (at + i) 0 (omega (arith, c.fits))) in
      c.is ∙ rw (part, drop-cons rec i 0 h)

  -- where the first words leave the test to the rest, the rest is left
  more : i < length rec
      → test (get_or rec i 0 ∷ drop (suc i) rec) (get_or mem (at + i) 0 ∷ take (length rec - suc i) (drop (suc (at + i)) mem))
      ≡ test (drop (suc i) rec) (take (length rec - suc i) (drop (suc (at + i)) mem))
      → Left test mem at rec (i + 1)
  more h e =
      let s : i + 1 ≡ suc i = omega arith in
      let s2 : at + suc i ≡ suc (at + i) = omega arith in
      record { fits = c.fits; within = omega arith; is = rw (s, s2) (next h ∙ e) }

  -- behind the last word nothing is left
  ended : length rec ≤ i → test rec (take (length rec) (drop at mem)) ≡ test [] []
  ended h =
      let e : length rec - i ≡ 0 = omega arith in
      c.is ∙ rw (e, drop_of_length-le rec h)

module _ {mem : List ℕ} {at : ℕ} {rec : List ℕ} {i : ℕ} (c : Left before mem at rec i) where
  -- equal words: the rest decides what is before
  pub before_more : i < length rec → get_or mem (at + i) 0 ≤ get_or rec i 0 → get_or rec i 0 ≤ get_or mem (at + i) 0 → Left before mem at rec (i + 1)
  unfolding before
  before_more h p q =
      let e : get_or rec i 0 ≡ get_or mem (at + i) 0 = omega arith in
      more c h (rw (le-ltb (get_or rec i 0) (get_or mem (at + i) 0) p, eq-eqb (get_or rec i 0) (get_or mem (at + i) 0) e))

  -- the record's word is lower: it is before
  pub before_lower : i < length rec → get_or rec i 0 < get_or mem (at + i) 0 → true ≡ before rec (take (length rec) (drop at mem))
  unfolding before
  before_lower h p = sym (next c h ∙ rw (lt-ltb (get_or rec i 0) (get_or mem (at + i) 0) p))

  -- the record's word is higher: it is not before
  pub before_higher : i < length rec → get_or mem (at + i) 0 < get_or rec i 0 → false ≡ before rec (take (length rec) (drop at mem))
  unfolding before
  before_higher h p =
      let ge : get_or mem (at + i) 0 ≤ get_or rec i 0 = omega arith in
      let ne : get_or rec i 0 ≡ get_or mem (at + i) 0 → ⊥ = λ e. omega arith in
      sym (next c h ∙ rw (le-ltb (get_or rec i 0) (get_or mem (at + i) 0) ge, ne_eqb (get_or rec i 0) (get_or mem (at + i) 0) ne))

  -- all words are equal: it is not before
  pub before_equal : length rec ≤ i → false ≡ before rec (take (length rec) (drop at mem))
  unfolding before
  before_equal h = sym (ended c h)

module _ {mem : List ℕ} {at : ℕ} {rec : List ℕ} {i : ℕ} (c : Left same mem at rec i) where
  -- equal words: the rest decides what is the same
  pub same_more : i < length rec → get_or rec i 0 ≡ get_or mem (at + i) 0 → Left same mem at rec (i + 1)
  unfolding same
  same_more h e = more c h (rw (eq-eqb (get_or rec i 0) (get_or mem (at + i) 0) e))

  -- words that differ: it is not the same
  pub same_other : i < length rec → (get_or rec i 0 ≡ get_or mem (at + i) 0 → ⊥) → false ≡ same rec (take (length rec) (drop at mem))
  unfolding same
  same_other h ne = sym (next c h ∙ rw (ne_eqb (get_or rec i 0) (get_or mem (at + i) 0) ne))

  -- all words are equal: it is the same
  pub same_all : length rec ≤ i → true ≡ same rec (take (length rec) (drop at mem))
  unfolding same
  same_all h = sym (ended c h)

-- words of a record's own length: the record begins with them exactly if it is the same
pub begins_all : (front r : List ℕ) → length front ≡ length r → begins front r ≡ same front r
unfolding begins
begins_all front r e =
    let h : length r ≤ length front = omega arith in
    rw (take_all (length front) r h)

-- a record begins with the words given exactly if as many words from its place on are the same
pub begins_there : (front l : List ℕ) (width : ℕ) → length front ≤ width → {r : Bool} → r ≡ same front (take (length front) l) → r ≡ begins front (take width l)
unfolding begins
begins_there front l width h e = e ∙ sym (ap (same front) (take-take (length front) width l h))
