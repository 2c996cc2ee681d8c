-- A turn of the loops over the elements and the processes of an image.
-- Assumes nothing.
use mathlib.Core.Path.{◌≡◌, sym, ap, ◌∙◌}
use mathlib.Core.Bool.{Bool, true, false, not, ◌&&◌, and-true}
use mathlib.Core.List.{List, [], ◌∷◌}
use Prim.Native.Nat.{ℕ, suc, ◌+◌, ◌-◌, ◌*◌, ◌^◌, ◌≤◌, ◌<◌}
use native.Mathlib.Nat.{add-zero}
use native.Mathlib.Omega.{arith}
use borrow.Author.Tests.{not-true, not-false, lt-ltb, le-ltb, le-leb, lt-leb}
use lib.Dec.{leb, ltb}
use lib.ListN.{length, drop}
use lib.Seq.{drop-drop}
use Rattle.model.specs.Lists.{all_of, rising}
use Rattle.model.specs.Policy.{Element, Process, is_element_id, is_process_id, is_kind}
use Rattle.model.specs.Sound.{element_fits, process_fits}
use Rattle.model.specs.Bits.{bits_of, num_at}
use Rattle.model.specs.Image.{Reading, read_element, read_process, read_group}
use Rattle.model.proofs.Truth.{and_left}
use Rattle.model.proofs.Image.Ranges.{id_range, process_range}
use Rattle.bits.specs.Cursor.{Taken}
use Rattle.measure.specs.Places.{Reaches}
use Rattle.measure.proofs.Placed.{at_drop}
use Rattle.screen.specs.Stowable.{elements_right, processes_right}
use Rattle.screen.proofs.Upward.{up_from, one_read, up_rises}

-- A record is an id of k bits and a number of m bits behind it, and is right if the id is not 0 and the number passes the test.
pub record Two {A : Type 0} (id : A → ℕ) (right : A → Bool) (read : List Bool → Reading A) (k m : ℕ) (test : ℕ → Bool) : Type 0 where
  pub first : (l : List Bool) (p : ℕ) → id (read (drop p l)).value ≡ num_at l p k
  pub rest : (l : List Bool) (p : ℕ) → (read (drop p l)).rest ≡ drop (p + k + m) l
  pub fits : (l : List Bool) (p : ℕ) → 0 < num_at l p k → num_at l p k < 2 ^ k → num_at l (p + k) m < 2 ^ m
      → right (read (drop p l)).value ≡ test (num_at l (p + k) m)
  pub some : (a : A) → right a ≡ true → 0 < id a

-- The first i of n records have passed, and the answer for all of them is that for the rest, from the place p on, above the id `last`.
pub record RisenTo {A : Type 0} {id : A → ℕ} {right : A → Bool} {read : List Bool → Reading A} {k m : ℕ} {test : ℕ → Bool}
    (x : Two id right read k m test) (answer : Bool) (s : List ℕ) (n last p i : ℕ) : Type 0 where
  pub inside : i ≤ n
  pub few : length s ≤ 2 ^ 32
  pub room : p + (k + m) * (n - i) ≤ 8 * length s
  pub kept : answer ≡ up_from id right last (read_group read (n - i) (drop p (bits_of s))).value

module _ {A : Type 0} {id : A → ℕ} {right : A → Bool} {read : List Bool → Reading A} {k m : ℕ} {test : ℕ → Bool} (x : Two id right read k m test) where
  -- none has yet
  start : (s : List ℕ) (at n : ℕ) → Reaches s at ((k + m) * n)
      → RisenTo x (all_of right (read_group read n (drop at (bits_of s))).value && rising (λ a. id a ∷ []) (read_group read n (drop at (bits_of s))).value) s n 0 at 0
  start s at n r =
      let e : n - 0 ≡ n = omega arith in
      record {
        inside = omega arith;
        few = r.few;
        room = rw e r.room;
        kept = rw e (up_rises id right x.some (read_group read n (drop at (bits_of s))).value);
      }

  module _ {answer : Bool} {s : List ℕ} {n last p i : ℕ} (r : RisenTo x answer s n last p i) where
    -- all have
    pub all_risen : n ≤ i → true ≡ answer
    unfolding read_group up_from
    all_risen h = let e : n - i ≡ 0 = omega arith in sym (r.kept ∙ rw e)

    module _ (h : i < n) {a c : ℕ} (t : Taken s p k a c) where
      -- the next comes first of the rest
      next : answer
          ≡ (ltb last a && right (read (drop p (bits_of s))).value
          && up_from id right a (read_group read (n - (i + 1)) (drop (p + k + m) (bits_of s))).value)
      unfolding up_from
      next =
          let f : id (read (drop p (bits_of s))).value ≡ a = x.first (bits_of s) p ∙ sym t.value_is in
          r.kept ∙ rw (one_read read n i (drop p (bits_of s)) h, f, x.rest (bits_of s) p)

      -- its id is not above the last
      pub not_above : a ≤ last → false ≡ answer
      not_above b = sym (next ∙ rw (le-ltb last a b))

      module _ {b d : ℕ} (u : Taken s c m b d) (g : last < a) where
        -- its id is: then the number decides, or else the rest
        turn : answer ≡ (test b && up_from id right a (read_group read (n - (i + 1)) (drop d (bits_of s))).value)
        turn =
            let l : List Bool = bits_of s in
            let v : num_at l p k ≡ a = sym t.value_is in
            let w : num_at l (p + k) m ≡ b = rw (← t.next_is) (sym u.value_is) in
            let f : right (read (drop p l)).value ≡ test b =
            x.fits l p (rw v (omega arith)) (rw v t.small) (rw w u.small) ∙ ap test w in
            let e : p + k + m ≡ d = omega (arith, t.next_is, u.next_is) in
            next ∙ rw (lt-ltb last a g, f, e)

        -- it fails
        stops : test b ≡ false → false ≡ answer
        stops e = sym (turn ∙ rw e)

        -- it passes
        goes_on : test b ≡ true → RisenTo x answer s n a d (i + 1)
        goes_on e =
            let q : n - i ≡ suc (n - (i + 1)) = omega arith in
            let o : p + (k + m) * suc (n - (i + 1)) ≤ 8 * length s = rw q at r.room in
            record {
              inside = omega arith;
              few = r.few;
              room = omega (arith, t.next_is, u.next_is);
              kept = turn ∙ rw e;
            }

-- an element: an id of 9 bits, a kind of 3
pub elements : Two (λ (e : Element). e.id) element_fits read_element 9 3 is_kind
unfolding read_element element_fits is_element_id
elements = record {
  first = λ l p. at_drop l p 0 9 ∙ rw (add-zero p);
  rest = λ l p. drop-drop 12 p l ∙ (let e : p + 12 ≡ p + 9 + 3 = omega arith in rw e);
  fits = λ l p h k g. let e : num_at l p 9 ≤ 511 = omega arith in
      rw (at_drop l p 0 9, add-zero p, at_drop l p 9 3, le-leb 1 (num_at l p 9) h, le-leb (num_at l p 9) 511 e);
  some = λ e h. (id_range e.id (and_left (is_element_id e.id) (is_kind e.kind) h)).0;
}

-- a process: an id of 8 bits, its user's of 9
pub processes : Two (λ (q : Process). q.id) process_fits read_process 8 9 (leb 1)
unfolding read_process process_fits is_process_id is_element_id
processes = record {
  first = λ l p. at_drop l p 0 8 ∙ rw (add-zero p);
  rest = λ l p. drop-drop 17 p l ∙ (let e : p + 17 ≡ p + 8 + 9 = omega arith in rw e);
  fits = λ l p h k g.
      let e : num_at l p 8 ≤ 255 = omega arith in
      let f : num_at l (p + 8) 9 ≤ 511 = omega arith in
      rw (at_drop l p 0 8, add-zero p, at_drop l p 8 9, le-leb 1 (num_at l p 8) h, le-leb (num_at l p 8) 255 e, le-leb (num_at l (p + 8) 9) 511 f)
      (and-true (leb 1 (num_at l (p + 8) 9)));
  some = λ q h. (process_range q.id (and_left (is_process_id q.id) (is_element_id q.owner) h)).0;
}

-- no element has been looked at yet
pub elements_start : (s : List ℕ) (at n : ℕ) → Reaches s at (12 * n)
    → RisenTo elements (elements_right (read_group read_element n (drop at (bits_of s))).value) s n 0 at 0
unfolding elements_right
elements_start = start elements

-- no process has
pub processes_start : (s : List ℕ) (at n : ℕ) → Reaches s at (17 * n)
    → RisenTo processes (processes_right (read_group read_process n (drop at (bits_of s))).value) s n 0 at 0
unfolding processes_right
processes_start = start processes

-- the next element
module _ {answer : Bool} {s : List ℕ} {n last p i : ℕ} (r : RisenTo elements answer s n last p i) (h : i < n)
    {id c : ℕ} (t : Taken s p 9 id c) {kind d : ℕ} (u : Taken s c 3 kind d) (g : last < id) {b : Bool} (e : b ≡ is_kind kind) where
  -- its kind is none
  pub no_kind : not b ≡ true → false ≡ answer
  no_kind f = stops elements r h t u g (sym e ∙ not-true b f)

  -- it is right
  pub element_passes : not b ≡ false → RisenTo elements answer s n id d (i + 1)
  element_passes f = goes_on elements r h t u g (sym e ∙ not-false b f)

-- the next process
module _ {answer : Bool} {s : List ℕ} {n last p i : ℕ} (r : RisenTo processes answer s n last p i) (h : i < n)
    {id c : ℕ} (t : Taken s p 8 id c) {user d : ℕ} (u : Taken s c 9 user d) (g : last < id) where
  -- its user's id is 0
  pub no_user : user < 1 → false ≡ answer
  no_user f = stops processes r h t u g (lt-leb 1 user f)

  -- it is right
  pub process_passes : 1 ≤ user → RisenTo processes answer s n id d (i + 1)
  process_passes f = goes_on processes r h t u g (le-leb 1 user f)
