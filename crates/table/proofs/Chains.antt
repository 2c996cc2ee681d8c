-- What `any`, `all`, `count` and `sum` answer over a range of numbers, where the closure computes a test or a number: that some pass, that each does,
-- how many do, and what the numbers come to. The list is one that is told off, and item i of it passes as the number a + i does.
-- Assumes nothing.
use mathlib.Core.Path.{◌≡◌, refl, sym, ap, ◌∙◌}
use mathlib.Core.Bool.{Bool, true, false, cond, ◌&&◌, ◌||◌}
use mathlib.Core.List.{List, map, ◌∷◌}
use Prim.Native.Nat.{ℕ, zero, suc, ◌+◌, ◌-◌, ◌<◌}
use native.Mathlib.Omega.{arith}
use denote.Param.Members.{Mut}
use denote.Ref.{Bor}
use lib.ListN.{length}
use Rattle.std.specs.declared.option.Option.{Option}
use Rattle.std.specs.declared.ops.Range.{Range}
use Rattle.std.specs.declared.iter.Filter.{Filter}
use Rattle.std.specs.declared.iter.Map.{Map}
use Rattle.std.specs.Option.{MatchOption}
use Rattle.std.specs.Fn.{Called, CalledAt}
use Rattle.std.specs.Iterator.{YieldsThen, Drains}
use Rattle.std.specs.Iterator.Runs.{EachRunFrom}
use Rattle.std.specs.Iterator.Adapters.{filter_source, filter_callee, filter_steps, map_source, map_callee}
use Rattle.std.specs.List.{FoldsTo, list_any, list_all, filter, fold, sum_by, range_with_len}
use Rattle.std.proofs.iter.Yields.{nat_range_steps}
use Rattle.std.proofs.lemmas.Iterator.{YieldsList, YieldsList-from_range, YieldsList-from_map, maps}
use Rattle.std.proofs.lemmas.Iterator.Consumers.{YieldsList-from_filter, count_from_yields_List, sum_by_from_yields_List, fits_by_from_yields_list}
use Rattle.std.proofs.lemmas.Iterator.Search.{any_from_yields_List, all_from_yields_List}
use Rattle.std.proofs.lemmas.List.Sums.{sum_by-cons}
use Rattle.model.specs.Lists.{any_of, all_of, those, tabulate}

-- what holds of each item holds of each behind the first
behind_first : {B : Type 0} (c : ℕ → B) (t : ℕ → B) (a n : ℕ) → ((i : ℕ) → i < suc n → c (a + i) ≡ t i) → (i : ℕ) → i < n → c (a + 1 + i) ≡ t (suc i)
behind_first c t a n same i h = let e : a + 1 + i ≡ a + suc i = omega arith in ap c e ∙ same (suc i) (omega arith)

-- and of the first
of_first : {B : Type 0} (c : ℕ → B) (t : ℕ → B) (a n : ℕ) → ((i : ℕ) → i < suc n → c (a + i) ≡ t i) → c a ≡ t 0
of_first c t a n same = let e : a ≡ a + 0 = omega arith in ap c e ∙ same 0 (omega arith)

-- one more at the front, where it passes
length_kept : {X : Type 0} (b : Bool) (x : X) (xs : List X) → length (cond b (x ∷ xs) xs) ≡ cond b (suc (length xs)) (length xs)
length_kept true x xs = refl
length_kept false x xs = refl

-- n numbers from `a` on, and a list that is told off
module _ {A : Type 0} (c : ℕ → Bool) (t : A → Bool) where
  -- some of them pass
  pub any_counted : (a n : ℕ) (g : ℕ → A) → ((i : ℕ) → i < n → c (a + i) ≡ t (g i)) → list_any c (range_with_len a n) ≡ any_of t (tabulate n g)
  unfolding any_of tabulate
  any_counted a zero g same = refl
  any_counted a (suc n) g same =
      ap (λ (b : Bool). b || list_any c (range_with_len (a + 1) n)) (of_first c (λ i. t (g i)) a n same)
      ∙ ap (λ (b : Bool). t (g 0) || b) (any_counted (a + 1) n (λ i. g (suc i)) (behind_first c (λ i. t (g i)) a n same))

  -- each of them passes
  pub all_counted : (a n : ℕ) (g : ℕ → A) → ((i : ℕ) → i < n → c (a + i) ≡ t (g i)) → list_all c (range_with_len a n) ≡ all_of t (tabulate n g)
  unfolding all_of tabulate
  all_counted a zero g same = refl
  all_counted a (suc n) g same =
      ap (λ (b : Bool). b && list_all c (range_with_len (a + 1) n)) (of_first c (λ i. t (g i)) a n same)
      ∙ ap (λ (b : Bool). t (g 0) && b) (all_counted (a + 1) n (λ i. g (suc i)) (behind_first c (λ i. t (g i)) a n same))

  -- so many of them pass
  pub some_counted : (a n : ℕ) (g : ℕ → A) → ((i : ℕ) → i < n → c (a + i) ≡ t (g i)) → length (filter c (range_with_len a n)) ≡ length (those t (tabulate n g))
  unfolding those tabulate
  some_counted a zero g same = refl
  some_counted a (suc n) g same =
      let kept : List A = those t (tabulate n (λ i. g (suc i))) in
      let more : length (filter c (range_with_len (a + 1) n)) ≡ length kept = some_counted (a + 1) n (λ i. g (suc i)) (behind_first c (λ i. t (g i)) a n same) in
      length_kept (c a) a (filter c (range_with_len (a + 1) n))
      ∙ ap (λ (k : ℕ). cond (c a) (suc k) k) more
      ∙ ap (λ (b : Bool). cond b (suc (length kept)) (length kept)) (of_first c (λ i. t (g i)) a n same)
      ∙ sym (length_kept (t (g 0)) (g 0) kept)

-- what they come to
pub sum_counted : {A : Type 0} (c : ℕ → ℕ) (t : A → ℕ) (a n : ℕ) (g : ℕ → A) → ((i : ℕ) → i < n → c (a + i) ≡ t (g i)) → sum_by c (range_with_len a n) ≡ sum_by t (tabulate n g)
unfolding tabulate
sum_counted c t a zero g same = refl
sum_counted {A} c t a (suc n) g same =
    sum_by-cons c a (range_with_len (a + 1) n)
    ∙ ap (λ (k : ℕ). k + sum_by c (range_with_len (a + 1) n)) (of_first c (λ i. t (g i)) a n same)
    ∙ ap (λ (k : ℕ). t (g 0) + k) (sum_counted c t (a + 1) n (λ i. g (suc i)) (behind_first c (λ i. t (g i)) a n same))
    ∙ sym (sum_by-cons t (g 0) (tabulate n (λ i. g (suc i))))

-- a closure g that computes the test c of each number
module _ {A F : Type 0} {g : Mut F (ℕ × Unit {0}) Bool} (c : ℕ → Bool) (t : A → Bool) (u : Range ℕ) (p : F) (r : Bool) where
  -- what `any` answers over the m numbers from `a` on, below b, and so of the m items that h tells off
  pub any_from : {s : Range ℕ} (a b m : ℕ) (h : ℕ → A) → b - a ≡ m → ((i : ℕ) → i < m → c (a + i) ≡ t (h i)) → s ≡ record { start = a; end = b }
      → (xs : List ℕ) × (o : Option ℕ) × (j : F) × YieldsThen nat_range_steps s xs o u × FoldsTo (λ p x q. Called g p (x, tt) false q) p xs j × MatchOption o (r ≡ false) (λ x. (r ≡ true) × ((q : F) × Called g j (x, tt) true q))
      → ((x : ℕ) (b : Bool) (q : F) → Called g p (x, tt) b q → (q ≡ p) × (b ≡ c x))
      → r ≡ any_of t (tabulate m h)
  any_from a b m h count same is ran computes = any_from_yields_List {v = λ (x : ℕ). x} c u p r ran (YieldsList-from_range a b m is count) computes ∙ any_counted c t a m h same

  -- what `all` answers over them
  pub all_from : {s : Range ℕ} (a b m : ℕ) (h : ℕ → A) → b - a ≡ m → ((i : ℕ) → i < m → c (a + i) ≡ t (h i)) → s ≡ record { start = a; end = b }
      → (xs : List ℕ) × (o : Option ℕ) × (j : F) × YieldsThen nat_range_steps s xs o u × FoldsTo (λ p x q. Called g p (x, tt) true q) p xs j × MatchOption o (r ≡ true) (λ x. (r ≡ false) × ((q : F) × Called g j (x, tt) false q))
      → ((x : ℕ) (b : Bool) (q : F) → Called g p (x, tt) b q → (q ≡ p) × (b ≡ c x))
      → r ≡ all_of t (tabulate m h)
  all_from a b m h count same is ran computes = all_from_yields_List {v = λ (x : ℕ). x} c u p r ran (YieldsList-from_range a b m is count) computes ∙ all_counted c t a m h same

-- a closure g that computes the test f of the item h i at each i
module _ {A F : Type 0} {g : Mut F (ℕ × Unit {0}) Bool} (f : A → Bool) (h : ℕ → A) (u : Range ℕ) (p : F) (r : Bool) where
  -- what `any` answers from a on and below b, n of them
  pub any_between : {s : Range ℕ} (a b n : ℕ) → s ≡ record { start = a; end = b } → b - a ≡ n
      → (xs : List ℕ) × (o : Option ℕ) × (j : F) × YieldsThen nat_range_steps s xs o u × FoldsTo (λ p x q. Called g p (x, tt) false q) p xs j × MatchOption o (r ≡ false) (λ x. (r ≡ true) × ((q : F) × Called g j (x, tt) true q))
      → ((x : ℕ) (b : Bool) (q : F) → Called g p (x, tt) b q → (q ≡ p) × (b ≡ f (h x)))
      → r ≡ any_of f (tabulate n (λ i. h (a + i)))
  any_between a b n is count = any_from (λ i. f (h i)) f u p r a b n (λ i. h (a + i)) count (λ i _. refl) is

  -- what `all` answers from a on and below b, n of them
  pub all_between : {s : Range ℕ} (a b n : ℕ) → s ≡ record { start = a; end = b } → b - a ≡ n
      → (xs : List ℕ) × (o : Option ℕ) × (j : F) × YieldsThen nat_range_steps s xs o u × FoldsTo (λ p x q. Called g p (x, tt) true q) p xs j × MatchOption o (r ≡ true) (λ x. (r ≡ false) × ((q : F) × Called g j (x, tt) false q))
      → ((x : ℕ) (b : Bool) (q : F) → Called g p (x, tt) b q → (q ≡ p) × (b ≡ f (h x)))
      → r ≡ all_of f (tabulate n (λ i. h (a + i)))
  all_between a b n is count = all_from (λ i. f (h i)) f u p r a b n (λ i. h (a + i)) count (λ i _. refl) is

  -- what `any` answers over the first n
  pub any_over : {s : Range ℕ} (n m : ℕ) → n ≡ m → s ≡ record { start = 0; end = n }
      → (xs : List ℕ) × (o : Option ℕ) × (j : F) × YieldsThen nat_range_steps s xs o u × FoldsTo (λ p x q. Called g p (x, tt) false q) p xs j × MatchOption o (r ≡ false) (λ x. (r ≡ true) × ((q : F) × Called g j (x, tt) true q))
      → ((x : ℕ) (b : Bool) (q : F) → Called g p (x, tt) b q → (q ≡ p) × (b ≡ f (h x)))
      → r ≡ any_of f (tabulate m h)
  any_over n m count = any_from (λ i. f (h i)) f u p r 0 n m h (omega arith) (λ i _. ap (λ (j : ℕ). f (h j)) (let e : 0 + i ≡ i = omega arith in e))

  -- what `all` answers over the first n
  pub all_over : {s : Range ℕ} (n m : ℕ) → n ≡ m → s ≡ record { start = 0; end = n }
      → (xs : List ℕ) × (o : Option ℕ) × (j : F) × YieldsThen nat_range_steps s xs o u × FoldsTo (λ p x q. Called g p (x, tt) true q) p xs j × MatchOption o (r ≡ true) (λ x. (r ≡ false) × ((q : F) × Called g j (x, tt) false q))
      → ((x : ℕ) (b : Bool) (q : F) → Called g p (x, tt) b q → (q ≡ p) × (b ≡ f (h x)))
      → r ≡ all_of f (tabulate m h)
  all_over n m count = all_from (λ i. f (h i)) f u p r 0 n m h (omega arith) (λ i _. ap (λ (j : ℕ). f (h j)) (let e : 0 + i ≡ i = omega arith in e))

-- how many of the m numbers from `a` on, below b, `filter` lets through to `count`, where its closure g computes the test c of each
pub count_from : {A F : Type 0} {g : Mut F (Bor ℕ × Unit {0}) Bool} (c : ℕ → Bool) (t : A → Bool) (s : Filter (Range ℕ) F) (p : F) (r : ℕ) (a b m : ℕ) (h : ℕ → A)
    → b - a ≡ m → ((i : ℕ) → i < m → c (a + i) ≡ t (h i)) → filter_source s ≡ record { start = a; end = b } → filter_callee s ≡ p
    → (xs : List ℕ) × Drains (filter_steps nat_range_steps g) s xs × (r ≡ length xs)
    → ((x : ℕ) (b : Bool) (q : F) → CalledAt g p x b q → (q ≡ p) × (b ≡ c x))
    → r ≡ length (those t (tabulate m h))
count_from {g = g} c t s p r a b m h count same is callee ran computes =
    count_from_yields_List {v = λ (x : ℕ). x} s r ran (YieldsList-from_filter g c (YieldsList-from_range a b m is count) callee computes) ∙ some_counted c t a m h same

-- the numbers that `map` makes of the m numbers from `a` on, below b, where its closure g computes c of each
module _ {A F : Type 0} {g : Mut F (ℕ × Unit {0}) ℕ} (c : ℕ → ℕ) (t : A → ℕ) (s : Map (Range ℕ) F) (p : F) (a b m : ℕ) (h : ℕ → A) (count : b - a ≡ m)
    (same : (i : ℕ) → i < m → c (a + i) ≡ t (h i)) (is : map_source s ≡ record { start = a; end = b }) (callee : map_callee s ≡ p)
    (computes : (x k : ℕ) (q : F) → Called g p (x, tt) k q → (q ≡ p) × (k ≡ c x)) where
  mapped : YieldsList (maps nat_range_steps g) (λ k. k) s (map c (range_with_len a m))
  mapped = YieldsList-from_map {v = λ (x : ℕ). x} g c (YieldsList-from_range a b m is count) callee computes

  -- what `sum` answers
  pub sum_from : (r : ℕ) → (xs : List ℕ) × (Unit {0} → Drains (maps nat_range_steps g) s xs) × (r ≡ fold (λ k x. k + x) 0 xs) → r ≡ sum_by t (tabulate m h)
  sum_from r ran = sum_by_from_yields_List c (range_with_len a m) s r ran mapped ∙ sum_counted c t a m h same

  -- and that it is below the top that it may not reach
  pub sum_fits : (top : ℕ) → sum_by t (tabulate m h) < top → EachRunFrom (maps nat_range_steps g) s (λ p. fold (λ k x. k + x) 0 p.items < top)
  sum_fits top l = fits_by_from_yields_list c (range_with_len a m) s top mapped (let e = sum_counted c t a m h same in omega arith)

-- those of the first n numbers, where its closure g computes t of the item h i at each i
module _ {A F : Type 0} {g : Mut F (ℕ × Unit {0}) ℕ} (t : A → ℕ) (h : ℕ → A) (s : Map (Range ℕ) F) (p : F) (n m : ℕ) (count : n ≡ m)
    (is : map_source s ≡ record { start = 0; end = n }) (callee : map_callee s ≡ p)
    (computes : (x k : ℕ) (q : F) → Called g p (x, tt) k q → (q ≡ p) × (k ≡ t (h x))) where
  -- what `sum` answers
  pub sum_over : (r : ℕ) → (xs : List ℕ) × (Unit {0} → Drains (maps nat_range_steps g) s xs) × (r ≡ fold (λ k x. k + x) 0 xs) → r ≡ sum_by t (tabulate m h)
  sum_over = sum_from (λ i. t (h i)) t s p 0 n m h (omega arith) (λ i _. ap (λ (j : ℕ). t (h j)) (let e : 0 + i ≡ i = omega arith in e)) is callee computes

  -- and that it is below the top that it may not reach
  pub sum_over_fits : (top : ℕ) → sum_by t (tabulate m h) < top → EachRunFrom (maps nat_range_steps g) s (λ p. fold (λ k x. k + x) 0 p.items < top)
  sum_over_fits = sum_fits (λ i. t (h i)) t s p 0 n m h (omega arith) (λ i _. ap (λ (j : ℕ). t (h j)) (let e : 0 + i ≡ i = omega arith in e)) is callee computes
