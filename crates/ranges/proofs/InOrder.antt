-- Records of words in their order: one and the one behind it, and the loop over all of them.
-- Assumes nothing.
use mathlib.Core.Path.{◌≡◌, refl, sym, ap, ◌∙◌}
use mathlib.Core.Bool.{Bool, true, false, not, cond, ◌&&◌, ◌||◌}
use mathlib.Core.List.{List, [], ◌∷◌}
use Prim.Native.Nat.{ℕ, zero, suc, ◌+◌, ◌*◌, ◌-◌, ◌^◌, ◌≤◌, ◌<◌}
use native.Mathlib.Nat.{mul-suc, mul-add}
use native.Mathlib.Omega.{arith}
use borrow.Author.Tests.{not-true, not-false}
use lib.Dec.{eqb, ltb}
use lib.ListN.{take, drop}
use lib.Seq.{take-take, drop-drop}
use Rattle.std.specs.declared.cmp.Ordering.{Ordering}
use Rattle.std.specs.declared.cmp.Ordering.TheVariants.{Less, Equal, Greater}
use Rattle.std.specs.declared.option.Option.{Option}
use Rattle.std.specs.declared.option.Option.TheVariants.{Some}
use Rattle.std.specs.Ordering.{nat_cmp, is_lt, is_some_and, partial_ordering_then}
use Rattle.std.specs.Cmp.Lexicographic.{slice_partial_cmp}
use Rattle.model.specs.Lists.{before, precedes, rising}
use Rattle.group.specs.Group.{records}
use Rattle.ranges.specs.Rising.{before_next, records_rise}

-- the library's comparison of two numbers and what follows, as the model's
less_first : (p q : Bool) (o : Option Ordering) → is_some_and is_lt (partial_ordering_then (Some (cond p Less (cond q Equal Greater))) o) ≡ (p || q && is_some_and is_lt o)
less_first true q o = refl
less_first false true o = refl
less_first false false o = refl

-- the library's order of slices is the model's of fields
less_before : (xs ys : List ℕ) → is_some_and is_lt (slice_partial_cmp (λ x y. Some (nat_cmp x y)) xs ys) ≡ before xs ys
unfolding before
less_before [] [] = refl
less_before [] (y ∷ ys) = refl
less_before (x ∷ xs) [] = refl
less_before (x ∷ xs) (y ∷ ys) =
    less_first (ltb x y) (eqb x y) (slice_partial_cmp (λ x y. Some (nat_cmp x y)) xs ys)
    ∙ ap (λ (b : Bool). ltb x y || eqb x y && b) (less_before xs ys)

-- the record at a place is before the next exactly if its words are less
pub next_decides : (mem : List ℕ) (at stride key : ℕ) {r : Bool}
    → r ≡ is_some_and is_lt (slice_partial_cmp (λ x y. Some (nat_cmp x y)) (take (at + key - at) (drop at mem)) (take (at + stride + key - (at + stride)) (drop (at + stride) mem)))
    → r ≡ before_next mem at stride key
unfolding before_next
next_decides mem at stride key e =
    let v : at + key - at ≡ key = omega arith in
    let w : at + stride + key - (at + stride) ≡ key = omega arith in
    (rw (v, w) at e) ∙ less_before (take key (drop at mem)) (take key (drop (at + stride) mem))

-- record i - 1 and the next stand in the words that n records take
module _ (base stride n i : ℕ) (h : base + stride * n ≤ 8192) (l : 1 ≤ i) (m : i < n) where
  pub next_room : base + stride * (i - 1) + stride + stride ≤ 8192
  next_room =
      let k : ℕ = n - 1 - i in
      let e : n ≡ i - 1 + suc (suc k) = omega arith in
      let w : base + stride * (i - 1 + suc (suc k)) ≤ 8192 = rw e at h in
      omega (arith, mul-add stride (i - 1) (suc (suc k)), mul-suc stride (suc k), mul-suc stride k)

  -- and so its place is a number that a word of 64 bits holds
  pub next_small : base + stride * (i - 1) < 2 ^ 64
  next_small = omega (arith, next_room)

  pub stride_small : stride * (i - 1) < 2 ^ 64
  stride_small = omega (arith, next_room)

-- all n records rise exactly if those from the last of the first i on do
pub record RiseFrom (mem : List ℕ) (base stride n i : ℕ) : Type 0 where
  pub some : 1 ≤ i
  pub is : records_rise mem base stride n ≡ records_rise mem (base + stride * (i - 1)) stride (n + 1 - i)

-- at the first record none was looked at
pub rise_start : (mem : List ℕ) (base stride n : ℕ) → RiseFrom mem base stride n 1
rise_start mem base stride n =
    let e : n + 1 - 1 ≡ n = omega arith in
    let b : base + stride * (1 - 1) ≡ base = omega arith in
    record { some = omega arith; is = rw (e, b) refl }

-- two records and those behind them: the first is before the second, and the rest rises
two_rise : (stride key m : ℕ) (l : List ℕ) → key ≤ stride
    → rising (take key) (records stride (suc (suc m)) l) ≡ (before (take key l) (take key (drop stride l)) && rising (take key) (records stride (suc m) (drop stride l)))
unfolding records rising precedes
two_rise stride key m l h = rw (take-take key stride l h, take-take key stride (drop stride l) h) refl

-- at most one record rises
few_rise : (stride key m : ℕ) (l : List ℕ) → m ≤ 1 → rising (take key) (records stride m l) ≡ true
unfolding records rising precedes
few_rise stride key zero l h = refl
few_rise stride key (suc zero) l h = refl
few_rise stride key (suc (suc m)) l h = absurd (omega arith)

module _ {mem : List ℕ} {base stride n i : ℕ} (s : RiseFrom mem base stride n i) where
  -- all have been looked at
  pub rise_all : n ≤ i → true ≡ records_rise mem base stride n
  unfolding records_rise
  rise_all h = sym (s.is ∙ few_rise stride stride (n + 1 - i) (drop (base + stride * (i - 1)) mem) (omega arith))

  module _ (l : i < n) where
    -- what is left, by the next record
    next_left : records_rise mem (base + stride * (i - 1)) stride (n + 1 - i)
        ≡ (before_next mem (base + stride * (i - 1)) stride stride && records_rise mem (base + stride * (i + 1 - 1)) stride (n + 1 - (i + 1)))
    unfolding records_rise before_next
    next_left =
        let m : ℕ = n - 1 - i in
        let e : n + 1 - i ≡ suc (suc m) = omega arith in
        let f : n + 1 - (i + 1) ≡ suc m = omega arith in
        let j : i + 1 - 1 ≡ suc (i - 1) = omega (arith, s.some) in
        let g : base + stride * (i + 1 - 1) ≡ base + stride * (i - 1) + stride = rw j (omega (arith, mul-suc stride (i - 1))) in
        rw (e, f, g, two_rise stride stride m (drop (base + stride * (i - 1)) mem) (omega arith), drop-drop stride (base + stride * (i - 1)) mem) refl

    module _ {b : Bool} (is : b ≡ before_next mem (base + stride * (i - 1)) stride stride) where
      -- it is behind: the loop goes on with it
      pub rise_more : not b ≡ false → RiseFrom mem base stride n (i + 1)
      rise_more h =
          let t : before_next mem (base + stride * (i - 1)) stride stride ≡ true = sym is ∙ not-false b h in
          record { some = omega arith; is = s.is ∙ next_left ∙ rw t refl }

      -- it is not: they do not rise
      pub rise_fails : not b ≡ true → false ≡ records_rise mem base stride n
      rise_fails h = let t : before_next mem (base + stride * (i - 1)) stride stride ≡ false = sym is ∙ not-true b h in sym (s.is ∙ next_left ∙ rw t refl)
