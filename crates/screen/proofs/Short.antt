-- A turn of the loop over the prohibitions of an image, and which groups are within their limits.
-- Assumes nothing.
use mathlib.Core.Path.{◌≡◌, sym, ◌∙◌}
use mathlib.Core.Bool.{Bool, true, false, ◌&&◌}
use mathlib.Core.List.{List}
use Prim.Native.Nat.{ℕ, suc, ◌+◌, ◌-◌, ◌*◌, ◌^◌, ◌≤◌, ◌<◌}
use native.Mathlib.Omega.{arith}
use borrow.Author.Tests.{le-leb, lt-leb}
use lib.Dec.{leb}
use lib.ListN.{length, drop}
use Rattle.model.specs.Lists.{all_of}
use Rattle.model.specs.Bits.{bits_of, num_at}
use Rattle.model.specs.Image.{read_prohibition, read_group}
use Rattle.model.proofs.Image.Prohibitions.{ids_count}
use Rattle.bits.specs.Cursor.{Taken}
use Rattle.measure.specs.Places.{Reaches, behind, listed_at}
use Rattle.measure.proofs.Placed.{at_drop, prohibition_rest, behind_more}
use Rattle.screen.specs.Stowable.{lists_short, all_short}
use Rattle.screen.proofs.Upward.{one_read}

-- the two counts of the prohibition at a place say whether its lists are short
short_at : (l : List Bool) (p : ℕ) → lists_short (read_prohibition (drop p l)).value ≡ (leb (num_at l (p + 44) 3) 4 && leb (num_at l (p + 47) 3) 4)
unfolding lists_short read_prohibition
short_at l p =
    let d : List Bool = drop p l in
    rw (ids_count (num_at d 44 3) (drop 50 d), ids_count (num_at d 47 3) (drop (50 + 9 * num_at d 44 3) d), at_drop l p 44 3, at_drop l p 47 3)

-- the place behind one more
behind_one : (l : List Bool) (p n i : ℕ) → i < n → behind l p (n - i) ≡ behind l (p + 50 + 9 * listed_at l p) (n - (i + 1))
unfolding behind
behind_one l p n i h = let e : n - i ≡ suc (n - (i + 1)) = omega arith in rw e

-- The first i of n prohibitions have short lists, and the answer for all of them is that for the rest, from the place p on.
pub record ShortTo (answer : Bool) (s : List ℕ) (n p i : ℕ) : Type 0 where
  pub inside : i ≤ n
  pub few : length s ≤ 2 ^ 32
  pub reach : behind (bits_of s) p (n - i) ≤ 8 * length s
  pub room : p + 50 * (n - i) ≤ 8 * length s
  pub kept : answer ≡ all_short (read_group read_prohibition (n - i) (drop p (bits_of s))).value

-- none has been looked at yet
pub short_start : (s : List ℕ) (at n : ℕ) → Reaches s (behind (bits_of s) at n) 0
    → ShortTo (all_short (read_group read_prohibition n (drop at (bits_of s))).value) s n at 0
short_start s at n r =
    let e : n - 0 ≡ n = omega arith in
    record {
      inside = omega arith;
      few = r.few;
      reach = rw e (omega (arith, r.room));
      room = rw e (omega (arith, r.room, behind_more (bits_of s) at n));
      kept = rw e;
    }

module _ {answer : Bool} {s : List ℕ} {n p i : ℕ} (r : ShortTo answer s n p i) where
  -- all are short
  pub all_short_lem : n ≤ i → true ≡ answer
  unfolding read_group all_short all_of
  all_short_lem h = let e : n - i ≡ 0 = omega arith in sym (r.kept ∙ rw e)

  module _ (h : i < n) {a c : ℕ} (t : Taken s (p + 44) 3 a c) {b d : ℕ} (u : Taken s c 3 b d) where
    -- the second count stands behind the first
    second : num_at (bits_of s) (p + 47) 3 ≡ b
    second = let e : c ≡ p + 47 = omega (arith, t.next_is) in sym (u.value_is ∙ rw e)

    -- the place behind them and the ids
    past : p + 50 + 9 * listed_at (bits_of s) p ≡ d + 9 * (a + b)
    past = omega (arith, t.value_is, t.next_is, u.next_is, second)

    -- the counts of the next decide, or else the rest
    turn : answer ≡ (leb a 4 && leb b 4 && all_short (read_group read_prohibition (n - (i + 1)) (drop (d + 9 * (a + b)) (bits_of s))).value)
    unfolding all_short all_of
    turn =
        let l : List Bool = bits_of s in
        let v : num_at l (p + 44) 3 ≡ a = sym t.value_is in
        r.kept ∙ rw (one_read read_prohibition n i (drop p l) h, short_at l p, prohibition_rest l p, past, v, second)

    -- too many inclusions
    pub many_inclusions : 4 < a → false ≡ answer
    many_inclusions g = sym (turn ∙ rw (lt-leb a 4 g))

    module _ (k : a ≤ 4) where
      -- too many exclusions
      pub many_exclusions : 4 < b → false ≡ answer
      many_exclusions g = sym (turn ∙ rw (le-leb a 4 k, lt-leb b 4 g))

      -- both are few
      pub both_few : b ≤ 4 → ShortTo answer s n (d + 9 * (a + b)) (i + 1)
      both_few g =
          let e : behind (bits_of s) (d + 9 * (a + b)) (n - (i + 1)) ≤ 8 * length s =
          rw (← past, ← behind_one (bits_of s) p n i h) r.reach in
          record {
            inside = omega arith;
            few = r.few;
            reach = e;
            room = omega (arith, e, behind_more (bits_of s) (d + 9 * (a + b)) (n - (i + 1)));
            kept = turn ∙ rw (le-leb a 4 k, le-leb b 4 g);
          }

-- Which groups are within their limits.
module _ (assignments associations prohibitions : ℕ) where
  -- too many assignments
  pub many_assignments : 2000 < assignments → false ≡ (leb assignments 2000 && leb associations 1000 && leb prohibitions 200)
  many_assignments h = rw (lt-leb assignments 2000 h)

  module _ (k : assignments ≤ 2000) where
    -- too many associations
    pub many_associations : 1000 < associations → false ≡ (leb assignments 2000 && leb associations 1000 && leb prohibitions 200)
    many_associations h = rw (le-leb assignments 2000 k, lt-leb associations 1000 h)

    -- the prohibitions decide
    pub by_prohibitions : associations ≤ 1000 → leb prohibitions 200 ≡ (leb assignments 2000 && leb associations 1000 && leb prohibitions 200)
    by_prohibitions h = rw (le-leb assignments 2000 k, le-leb associations 1000 h)
