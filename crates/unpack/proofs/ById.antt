-- The loop over records that stand by their ids: before the first, one more, the end; and that elements and processes are such records.
-- Assumes nothing.
use mathlib.Core.Path.{◌≡◌, refl, sym, ◌∙◌}
use mathlib.Core.Bool.{Bool}
use mathlib.Core.List.{List}
use Prim.Native.Nat.{ℕ, zero, suc, ◌+◌, ◌*◌, ◌-◌, ◌^◌, ◌≤◌, ◌<◌}
use native.Mathlib.Nat.{add-zero, mul-suc}
use native.Mathlib.Omega.{arith}
use lib.ListN.{length, drop, set}
use lib.Seq.{drop-drop}
use Rattle.model.specs.Bits.{bits_of, num_at}
use Rattle.model.specs.Image.{read_element, read_process, read_group}
use Rattle.bits.specs.Cursor.{Taken}
use Rattle.measure.specs.Places.{Reaches}
use Rattle.store.specs.Words.{with_kind, with_user}
use Rattle.unpack.specs.Words.{by_id, with_kinds, with_users}
use Rattle.unpack.proofs.Turns.{taken_at}

-- i of n records are in their places, the next stands at p, and what the words become is the same by those left
pub record Placing (s : List ℕ) (at n k m from : ℕ) (mem₀ : List ℕ) (p i : ℕ) (mem : List ℕ) : Type 0 where
  pub within : i ≤ n
  pub few : length s ≤ 2 ^ 32
  pub room : p + (k + m) * (n - i) ≤ 8 * length s
  pub same : by_id k m from n (drop at (bits_of s)) mem₀ ≡ by_id k m from (n - i) (drop p (bits_of s)) mem

-- before the first
pub placing_none : {s : List ℕ} {at n k m : ℕ} (from : ℕ) (mem : List ℕ) → Reaches s at ((k + m) * n) → Placing s at n k m from mem at 0 mem
placing_none {n = n} from mem r = let e : n - 0 ≡ n = omega arith in record { within = omega arith; few = r.few; room = rw e r.room; same = rw e }

module _ {s : List ℕ} {at n k m from : ℕ} {mem₀ : List ℕ} {p i : ℕ} {mem : List ℕ} (c : Placing s at n k m from mem₀ p i mem) where
  -- the bits of the next one are there
  next_room : i < n → p + (k + m) + (k + m) * (n - (i + 1)) ≤ 8 * length s
  next_room h = let e : n - i ≡ suc (n - (i + 1)) = omega arith in let r = rw e at c.room in omega (arith, mul-suc (k + m) (n - (i + 1)))

  -- one more: its value is put into its word
  pub placing_more : i < n → {v w q r : ℕ} → Taken s p k v q → Taken s q m w r → Placing s at n k m from mem₀ r (i + 1) (set mem (from + v) w)
  unfolding by_id
  placing_more h {v} {w} {q} {r} t u =
      let left : n - i ≡ suc (n - (i + 1)) = omega arith in
      let e : v ≡ num_at (drop p (bits_of s)) 0 k = taken_at p 0 t (sym (add-zero p)) in
      let f : w ≡ num_at (drop p (bits_of s)) k m = taken_at p k u t.next_is in
      let far : r ≡ p + (k + m) = omega (arith, t.next_is, u.next_is) in
      record {
        within = omega arith;
        few = c.few;
        room = omega (arith, far, next_room h);
        same = c.same ∙ rw (left, far, e, f, ← drop-drop (k + m) p (bits_of s));
      }

  -- at the end each is in its place
  pub placing_all : n ≤ i → mem ≡ by_id k m from n (drop at (bits_of s)) mem₀
  unfolding by_id
  placing_all h = let e : n - i ≡ 0 = omega arith in sym (c.same ∙ rw e)

-- elements are such records: an id of 9 bits, a kind of 3
pub kinds_by_id : (n : ℕ) (l : List Bool) (mem : List ℕ) → by_id 9 3 8 n l mem ≡ with_kinds (read_group read_element n l).value mem
unfolding by_id with_kinds with_kind read_group read_element
kinds_by_id zero l mem = refl
kinds_by_id (suc n) l mem = kinds_by_id n (drop 12 l) (set mem (8 + num_at l 0 9) (num_at l 9 3))

-- so are processes: an id of 8 bits, a user of 9
pub users_by_id : (n : ℕ) (l : List Bool) (mem : List ℕ) → by_id 8 9 520 n l mem ≡ with_users (read_group read_process n l).value mem
unfolding by_id with_users with_user read_group read_process
users_by_id zero l mem = refl
users_by_id (suc n) l mem = users_by_id n (drop 17 l) (set mem (520 + num_at l 0 8) (num_at l 8 9))
