-- The search for the first record that passes a test: the place that a range's `position` answers.
-- Assumes nothing.
use mathlib.Core.Path.{◌≡◌, refl, sym, ap, ◌∙◌}
use mathlib.Core.Bool.{Bool, true, false, cond, not}
use mathlib.Core.List.{List}
use Prim.Native.Nat.{ℕ, zero, suc, ◌+◌, ◌*◌, ◌≤◌, ◌<◌}
use native.Mathlib.Nat.{mul-zero}
use native.Mathlib.Omega.{arith}
use native.Mathlib.Decide.{dec_lt}
use borrow.Author.Tests.{lt-ltb, le-ltb}
use denote.Param.Members.{Mut}
use lib.Dec.{ltb}
use lib.ListN.{length, take, drop}
use lib.Seq.{drop-drop}
use Rattle.std.specs.declared.option.Option.{Option}
use Rattle.std.specs.declared.ops.Range.{Range}
use Rattle.std.specs.Fn.{Called}
use Rattle.std.specs.Iterator.{YieldsThen}
use Rattle.std.specs.List.{FoldsTo, position_or_len, range_with_len}
use Rattle.std.specs.Prelude.{Some, None}
use Rattle.std.specs.Option.{MatchOption, unwrap_or}
use Rattle.std.proofs.iter.Yields.{nat_range_steps}
use Rattle.std.proofs.lemmas.Iterator.{YieldsList-from_range}
use Rattle.std.proofs.lemmas.Iterator.Search.{position_from_yields_List}
use Rattle.std.proofs.lemmas.List.FromFn.{length-range_with_len}
use Rattle.std.proofs.lemmas.List.Sums.{prefix_len-le-length}
use Rattle.group.specs.Group.{records, first_of}
use Rattle.group.proofs.Widths.{width_more}

-- the numbers from a on that pass as the records do
first_counted : (c : ℕ → Bool) (test : List ℕ → Bool) (width a n : ℕ) (l : List ℕ) → ((i : ℕ) → i < n → c (a + i) ≡ test (take width (drop (width * i) l)))
    → position_or_len c (range_with_len a n) ≡ first_of test (records width n l)
unfolding first_of records
first_counted c test width a zero l same = refl
first_counted c test width a (suc n) l same =
    let start : a ≡ a + 0 = omega arith in
    let here : c a ≡ test (take width l) = ap c start ∙ same 0 (omega arith) ∙ rw (mul-zero width) in
    let rest : (i : ℕ) → i < n → c (a + 1 + i) ≡ test (take width (drop (width * i) (drop width l))) =
    λ i h. let e : a + 1 + i ≡ a + suc i = omega arith in
    let w : width + width * i ≡ width * suc i = omega (arith, width_more width i) in
    ap c e ∙ same (suc i) (omega arith) ∙ ap (λ (k : ℕ). test (take width (drop k l))) (sym w) ∙ ap (λ (x : List ℕ). test (take width x)) (sym (drop-drop (width * i) width l)) in
    step (c a) (position_or_len c (range_with_len (a + 1) n)) ∙ ap (λ (b : Bool). cond b 0 (suc (position_or_len c (range_with_len (a + 1) n)))) here
    ∙ ap (λ (k : ℕ). cond (test (take width l)) 0 (suc k)) (first_counted c test width (a + 1) n (drop width l) rest)
  where
    step : (b : Bool) (k : ℕ) → cond (not b) (1 + k) 0 ≡ cond b 0 (suc k)
    step true k = refl
    step false k = omega arith

-- the place, or the number of all where none passes
placed : (k n : ℕ) → k ≤ n → unwrap_or (cond (ltb k n) (Some k) None) n ≡ k
placed k n h = elim (dec_lt k n) [
  | yes l ↦ rw (lt-ltb k n l)
  | no l ↦ let g : n ≤ k = omega arith in let e : n ≡ k = omega arith in rw (le-ltb k n g) e
]

-- a closure g that tests the record of each number
module _ {F : Type 0} {g : Mut F (ℕ × Unit {0}) Bool} (test : List ℕ → Bool) (mem : List ℕ) (base width n : ℕ) (u : Range ℕ) (p : F) (r : Option ℕ) where
  -- what `position` answers is how many stand before the first that passes
  pub first_placed : {s : Range ℕ} → s ≡ record { start = 0; end = n }
      → (xs : List ℕ) × (o : Option ℕ) × (j : F) × YieldsThen nat_range_steps s xs o u × FoldsTo (λ p x q. Called g p (x, tt) false q) p xs j × MatchOption o (r ≡ None) (λ x. (r ≡ Some (length xs)) × ((q : F) × Called g j (x, tt) true q))
      → ((x : ℕ) (b : Bool) (q : F) → Called g p (x, tt) b q → (q ≡ p) × (b ≡ test (take width (drop (base + width * x) mem))))
      → (unwrap_or r n ≡ first_of test (records width n (drop base mem))) × (unwrap_or r n ≤ n)
  first_placed is ran computes =
      let c : ℕ → Bool = λ i. test (take width (drop (base + width * i) mem)) in
      let all : List ℕ = range_with_len 0 n in
      let k : ℕ = position_or_len c all in
      let long : length all ≡ n = length-range_with_len 0 n in
      let few : k ≤ n = omega (arith, prefix_len-le-length (λ i. not (c i)) all) in
      let found = position_from_yields_List {v = λ (x : ℕ). x} c u p r ran (YieldsList-from_range 0 n n is (omega arith)) computes in
      let v : unwrap_or r n ≡ k = rw (found, long) (placed k n few) in
      let e : k ≡ first_of test (records width n (drop base mem)) = first_counted c test width 0 n (drop base mem) (λ i h.
      let z : 0 + i ≡ i = omega arith in ap c z ∙ ap (λ (x : List ℕ). test (take width x)) (sym (drop-drop (width * i) base mem))) in
      (v ∙ e, omega arith)
