-- The kind of an element and the user of a process, as words and as the policy has them; and that elements and processes rise by id.
-- Assumes nothing.
use mathlib.Core.Path.{◌≡◌, refl, sym, ap, ◌∙◌}
use mathlib.Core.Bool.{Bool, true, false, not, ◌&&◌, and-true, and-false}
use mathlib.Core.List.{List}
use mathlib.Core.Logic.{◌⊎◌, ⊎_elim}
use Prim.Native.Nat.{ℕ, zero, suc, ◌-◌, ◌≤◌, ◌<◌}
use native.Mathlib.Omega.{arith}
use native.Mathlib.Decide.{dec_lt}
use borrow.Author.Tests.{lt-ltb, le-leb, lt-leb, leb-true, ne_eqb}
use lib.Dec.{eqb, leb}
use Rattle.model.specs.Lists.{In, those, tabulate, before, rising}
use Rattle.model.specs.Policy.{is_kind, is_element_id, element_key, process_key, kind_of, is_there, user_of}
use Rattle.model.proofs.Truth.{and_right, and_join, clash, fails_when, those_in, those_pass, in_those}
use Rattle.model.proofs.Order.{before_one}
use Rattle.model.proofs.Groups.{rising_those}
use Rattle.model.proofs.Commands.Ids.{Reads, kinds, owners, by_id, read_in, read_none}
use Rattle.table.specs.Layout.{kind_word, user_word}
use Rattle.table.specs.View.{elements_of, processes_of, policy_of}
use Rattle.table.proofs.Tabled.{in_tabulate, tabulate_in, rising_tabulate}

-- Records by id in words: id 1, 2 and so on up to n, each with the value at its word, those whose value is 1 to top.
module _ {A : Type 0} {id value : A → ℕ} {g : List A → ℕ → ℕ} (r : Reads id value g) (make : ℕ → A) (numbered : (x : ℕ) → id (make x) ≡ x)
    (n top : ℕ) where
  -- the value is one that a record can have
  abbrev good : A → Bool
  good a = leb 1 (value a) && leb (value a) top

  -- all records, and those that are there
  abbrev all : List A
  all = tabulate n (λ i. make (suc i))

  abbrev present : List A
  present = those good all

  -- they rise by id
  present_rises : rising (by_id r) present ≡ true
  present_rises = rising_those (by_id r) good all (rising_tabulate (by_id r) n (λ i. make (suc i)) (λ i l. rises i))
    where
      rises : (i : ℕ) → before (by_id r (make (suc i))) (by_id r (make (suc (suc i)))) ≡ true
      rises i =
          before_one (id (make (suc i))) (id (make (suc (suc i))))
          ∙ lt-ltb (id (make (suc i))) (id (make (suc (suc i)))) (omega (arith, numbered (suc i), numbered (suc (suc i))))

  -- what is there is the record of its id
  made : (a : A) → In a present → (a ≡ make (id a)) × (1 ≤ id a) × (id a ≤ n)
  made a m =
      let w = tabulate_in n (λ i. make (suc i)) (those_in good all m) in
      let e : id a ≡ suc w.at = ap id (sym w.is) ∙ numbered (suc w.at) in
      (sym w.is ∙ ap make (sym e), omega arith, omega (arith, w.early))

  -- one that is not there reads 0
  absent_read : (x : ℕ) → good (make x) ≡ false → g present x ≡ 0
  absent_read x t = read_none r present x (λ a m e. clash (those_pass good all m) (ap good ((made a m).0 ∙ ap make e) ∙ t))

  -- one that is there reads its value
  present_read : (x : ℕ) → 1 ≤ x → x ≤ n → good (make x) ≡ true → g present x ≡ value (make x)
  present_read x l h t =
      let e : suc (x - 1) ≡ x = omega arith in
      let m : In (make x) all = rw e at (in_tabulate n (λ i. make (suc i)) (x - 1) (omega arith)) in
      rw (numbered x) at (read_in r present_rises (in_those good m t))

  -- a value up to top is read as it is, 0 too
  pub value_read : (x : ℕ) → 1 ≤ x → x ≤ n → value (make x) ≤ top → value (make x) ≡ g present x
  value_read x l h t = elim (dec_lt 0 (value (make x))) [
    | yes b ↦ sym (present_read x l h (and_join (leb 1 (value (make x))) (leb (value (make x)) top) (le-leb 1 (value (make x)) b) (le-leb (value (make x)) top t)))
    | no b ↦ let z : value (make x) ≡ 0 = omega arith in z ∙ sym (absent_read x (ap (λ k. leb 1 k && leb k top) z))
  ]

  -- a value above top is none
  pub above_read : (x : ℕ) → top < value (make x) → 0 ≡ g present x
  above_read x t =
      sym (absent_read x (fails_when (good (make x)) (λ e. omega (arith, leb-true (value (make x)) top (and_right (leb 1 (value (make x))) (leb (value (make x)) top) e)))))

  -- an id that has no word reads 0
  pub outside_read : (x : ℕ) → (x < 1) ⊎ (n < x) → 0 ≡ g present x
  outside_read x h = sym (read_none r present x (λ a m e. ⊎_elim (λ z. omega (arith, (made a m).1)) (λ l. omega (arith, (made a m).2)) h))

-- The kind that the policy has, by the element's word: ids outside 1 to 511 have none, a word above 5 is none, any other word is the kind.
module _ (mem : List ℕ) (x : ℕ) where
  pub kind_outside : (x < 1) ⊎ (511 < x) → 0 ≡ kind_of (policy_of mem) x
  unfolding kind_of policy_of elements_of is_kind
  kind_outside = outside_read kinds (λ i. record { id = i; kind = kind_word mem i }) (λ i. refl) 511 5 x

  pub kind_above : 5 < kind_word mem x → 0 ≡ kind_of (policy_of mem) x
  unfolding kind_of policy_of elements_of is_kind
  kind_above = above_read kinds (λ i. record { id = i; kind = kind_word mem i }) (λ i. refl) 511 5 x

  pub kind_is : 1 ≤ x → x ≤ 511 → kind_word mem x ≤ 5 → kind_word mem x ≡ kind_of (policy_of mem) x
  unfolding kind_of policy_of elements_of is_kind
  kind_is = value_read kinds (λ i. record { id = i; kind = kind_word mem i }) (λ i. refl) 511 5 x

-- The user that the policy has, by the process's word, likewise.
module _ (mem : List ℕ) (i : ℕ) where
  pub user_outside : (i < 1) ⊎ (255 < i) → 0 ≡ user_of (policy_of mem) i
  unfolding user_of policy_of processes_of is_element_id
  user_outside = outside_read owners (λ j. record { id = j; owner = user_word mem j }) (λ j. refl) 255 511 i

  pub user_above : 511 < user_word mem i → 0 ≡ user_of (policy_of mem) i
  unfolding user_of policy_of processes_of is_element_id
  user_above = above_read owners (λ j. record { id = j; owner = user_word mem j }) (λ j. refl) 255 511 i

  pub user_is : 1 ≤ i → i ≤ 255 → user_word mem i ≤ 511 → user_word mem i ≡ user_of (policy_of mem) i
  unfolding user_of policy_of processes_of is_element_id
  user_is = value_read owners (λ j. record { id = j; owner = user_word mem j }) (λ j. refl) 255 511 i

-- a number is not 0 exactly if it is 1 or more
positive : (k : ℕ) → not (eqb k 0) ≡ leb 1 k
positive zero = refl
positive (suc k) = rw (ne_eqb (suc k) 0 (λ e. omega arith), le-leb 1 (suc k) (omega arith))

-- a value k read from a word w, one above `top` as 0: it is not 0 exactly if the word is 1 to `top`
pub value_there : (k w top : ℕ) → (top < w → 0 ≡ k) → (w ≤ top → w ≡ k) → not (eqb k 0) ≡ (leb 1 w && leb w top)
value_there k w top above within = elim (dec_lt top w) [
  | yes h ↦ rw (sym (above h), lt-leb w top h, and-false (leb 1 w))
  | no h ↦ let l : w ≤ top = omega arith in rw (sym (within l), le-leb w top l, and-true (leb 1 w)) (positive w)
]

-- Who is there, by the words.
module _ (mem : List ℕ) where
  -- an element is there exactly if its word is a kind
  pub there_by_word : (x : ℕ) → 1 ≤ x → x ≤ 511 → is_there (policy_of mem) x ≡ is_kind (kind_word mem x)
  unfolding is_there is_kind
  there_by_word x l h = value_there (kind_of (policy_of mem) x) (kind_word mem x) 5 (kind_above mem x) (kind_is mem x l h)

  -- a process is there exactly if its word is an id
  pub owned_by_word : (i : ℕ) → 1 ≤ i → i ≤ 255 → not (eqb (user_of (policy_of mem) i) 0) ≡ is_element_id (user_word mem i)
  unfolding is_element_id
  owned_by_word i l h = value_there (user_of (policy_of mem) i) (user_word mem i) 511 (user_above mem i) (user_is mem i l h)

-- The records of any words rise strictly by id.
module _ (mem : List ℕ) where
  pub elements_rise : rising element_key (policy_of mem).elements ≡ true
  unfolding policy_of elements_of is_kind
  elements_rise = present_rises kinds (λ i. record { id = i; kind = kind_word mem i }) (λ i. refl) 511 5

  pub processes_rise : rising process_key (policy_of mem).processes ≡ true
  unfolding policy_of processes_of is_element_id
  processes_rise = present_rises owners (λ j. record { id = j; owner = user_word mem j }) (λ j. refl) 255 511
