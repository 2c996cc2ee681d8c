-- The containment that is computed is the one that is stated: `within l x y` is true exactly if x is within y, for every list of
-- assignments, whatever its ids, cycles included.
-- Assumes nothing.
use mathlib.Core.Path.{◌≡◌, refl, ap}
use mathlib.Core.Bool.{Bool, true, false, not, cond, ◌&&◌}
use mathlib.Core.List.{List, [], ◌∷◌, ◌++◌}
use mathlib.Core.Logic.{◌⊎◌, inl, inr}
use Prim.Native.Nat.{ℕ, zero, suc, ◌≤◌, ◌<◌}
use native.Mathlib.Omega.{arith}
use borrow.Author.Tests.{not-true}
use lib.ListN.{length}
use Rattle.model.specs.Lists.{In, first, later, empty, member}
use Rattle.model.specs.Policy.{Assignment}
use Rattle.model.specs.Contain.{Assigned, Within, itself, above, further, climbed, within}
use Rattle.model.proofs.Truth.{clash, and_cut, in_left, in_right, in_cons, in_append, member_in, in_member}

-- a chain goes on
pub within_trans : {l : List Assignment} {x y z : ℕ} → Within l x y → Within l y z → Within l x z
within_trans itself v = v
within_trans (above a w) v = above a (within_trans w v)

-- each element found is one that x is within
abbrev Found-above : List Assignment → ℕ → List ℕ → Type 0
Found-above l x found = (y : ℕ) → In y found → Within l x y

-- no assignment leads from what is found to something else
abbrev Closed : List Assignment → List ℕ → Type 0
Closed l found = (x y : ℕ) → Assigned l x y → In x found → In y found

-- what comes further has an assignment from what is found
record Next (l : List Assignment) (found : List ℕ) (y : ℕ) : Type 0 where
  child : ℕ
  assigned : Assigned l child y
  there : In child found

-- the test of one assignment: its child is found, its container is not
abbrev leads : Assignment → List ℕ → Bool
leads a found = member a.child found && not (member a.container found)

further_next : (l : List Assignment) (found : List ℕ) {y : ℕ} → In y (further l found) → Next l found y
unfolding further
further_next (a ∷ l) found i = go (leads a found) refl i (further_next l found)
  where
    go : {y : ℕ} (t : Bool) → leads a found ≡ t → In y (cond t (a.container ∷ further l found) (further l found))
        → (In y (further l found) → Next l found y) → Next (a ∷ l) found y
    go true e first k = record { child = a.child; assigned = first; there = member_in found (and_cut (member a.child found) (not (member a.container found)) e).0 }
    go true e (later j) k = let n = k j in record { child = n.child; assigned = later n.assigned; there = n.there }
    go false e j k = let n = k j in record { child = n.child; assigned = later n.assigned; there = n.there }
further_next [] found {y = y} i = elim i [ ]

-- where nothing comes further, what is found is closed
none_further : (l : List Assignment) (found : List ℕ) → empty (further l found) ≡ true → Closed l found
unfolding further empty
none_further (a ∷ l) found e x y i h = go (member a.child found) refl (member a.container found) refl (in_cons i) (none_further l found)
  where
    go : (s : Bool) → member a.child found ≡ s → (t : Bool) → member a.container found ≡ t → (record { child = x; container = y } ≡ a) ⊎ Assigned l x y
        → (empty (further l found) ≡ true → Closed l found) → In y found
    go s p true q (inl r) k = let c : y ≡ a.container = ap (λ b. b.container) r in rw c (member_in found q)
    go true p false q (inl r) k = absurd (clash (rw (p, q) at e) refl)
    go false p false q (inl r) k = let c : x ≡ a.child = ap (λ b. b.child) r in absurd (clash (in_member (rw c at h)) p)
    go true p true q (inr j) k = k (rw (p, q) at e) x y j h
    go true p false q (inr j) k = absurd (clash (rw (p, q) at e) refl)
    go false p t q (inr j) k = k (rw p at e) x y j h
none_further [] found e x y i h = elim i [ ]

-- how many assignments have a container that is not found
missing : List Assignment → List ℕ → ℕ
missing [] found = 0
missing (a ∷ l) found = cond (member a.container found) (missing l found) (suc (missing l found))

missing_most : (l : List Assignment) (found : List ℕ) → missing l found ≤ length l
unfolding missing
missing_most [] found = omega arith
missing_most (a ∷ l) found = go (member a.container found) (missing_most l found)
  where
    go : (t : Bool) → missing l found ≤ length l → cond t (missing l found) (suc (missing l found)) ≤ suc (length l)
    go true h = omega arith
    go false h = omega arith

-- it does not grow with what is found
missing_fewer : (l : List Assignment) {found more : List ℕ} → ((x : ℕ) → In x found → In x more) → missing l more ≤ missing l found
unfolding missing
missing_fewer [] sub = omega arith
missing_fewer (a ∷ l) {found} {more} sub = go (member a.container found) refl (member a.container more) refl (missing_fewer l sub)
  where
    go : (s : Bool) → member a.container found ≡ s → (t : Bool) → member a.container more ≡ t → missing l more ≤ missing l found
        → cond t (missing l more) (suc (missing l more)) ≤ cond s (missing l found) (suc (missing l found))
    go true p true q h = h
    go true p false q h = absurd (clash (in_member (sub a.container (member_in found p))) q)
    go false p true q h = omega arith
    go false p false q h = omega arith

-- and falls where a container is found that was not
missing_falls : (l : List Assignment) {found more : List ℕ} → ((x : ℕ) → In x found → In x more) → {a : Assignment} → In a l
    → member a.container found ≡ false → In a.container more → missing l more < missing l found
unfolding missing
missing_falls (b ∷ l) {found} {more} sub first e i = go (member b.container found) e (member b.container more) (in_member i)
  where
    go : (s : Bool) → s ≡ false → (t : Bool) → t ≡ true → cond t (missing l more) (suc (missing l more)) < cond s (missing l found) (suc (missing l found))
    go s p t q = rw (p, q) (let h : missing l more ≤ missing l found = missing_fewer l sub in omega arith)
missing_falls (b ∷ l) {found} {more} sub (later j) e i =
    go (member b.container found) refl (member b.container more) refl (missing_falls l sub j e i)
  where
    go : (s : Bool) → member b.container found ≡ s → (t : Bool) → member b.container more ≡ t → missing l more < missing l found
        → cond t (missing l more) (suc (missing l more)) < cond s (missing l found) (suc (missing l found))
    go true p true q h = h
    go true p false q h = absurd (clash (in_member (sub b.container (member_in found p))) q)
    go false p true q h = omega arith
    go false p false q h = omega arith
missing_falls [] {found = found} {more = more} sub {a = a} never e i = elim never [ ]

-- each that comes further was not found
further_new : (l : List Assignment) (found : List ℕ) {y : ℕ} → In y (further l found) → member y found ≡ false
unfolding further
further_new (a ∷ l) found i = go (leads a found) refl i (further_new l found)
  where
    go : {y : ℕ} (t : Bool) → leads a found ≡ t → In y (cond t (a.container ∷ further l found) (further l found))
        → (In y (further l found) → member y found ≡ false) → member y found ≡ false
    go true e first k = not-true (member a.container found) (and_cut (member a.child found) (not (member a.container found)) e).1
    go true e (later j) k = k j
    go false e j k = k j
further_new [] found {y = y} i = elim i [ ]

-- one round more leaves fewer assignments whose container is not found, if anything came further
round_falls : (l : List Assignment) (found : List ℕ) {y : ℕ} → In y (further l found) → missing l (further l found ++ found) < missing l found
round_falls l found i =
    let n = further_next l found i in
    missing_falls l (λ x h. in_right (further l found) h) n.assigned (further_new l found i) (in_left found i)

-- what the rounds find: nothing but what x is within, all that was found before, and in the end what is closed
record Climbed (l : List Assignment) (x : ℕ) (found all : List ℕ) : Type 0 where
  sound : Found-above l x all
  kept : (y : ℕ) → In y found → In y all
  closed : Closed l all

-- something comes further, or nothing
data Turn (l : List Assignment) (found : List ℕ) : Type 0 where
  ends : empty (further l found) ≡ true → Turn l found
  goes : empty (further l found) ≡ false → missing l (further l found ++ found) < missing l found → Turn l found

turn : (l : List Assignment) (found : List ℕ) → Turn l found
unfolding empty
turn l found = go (further l found) refl (λ y i. round_falls l found {y = y} i)
  where
    go : (next : List ℕ) → further l found ≡ next → ((y : ℕ) → In y (further l found) → missing l (further l found ++ found) < missing l found) → Turn l found
    go [] e k = ends (rw e)
    go (y ∷ next) e k = goes (rw e) (k y (rw e first))

further_above : (l : List Assignment) (x : ℕ) (found : List ℕ) → Found-above l x found → Found-above l x (further l found ++ found)
further_above l x found good y i = go (in_append (further l found) i)
  where
    go : In y (further l found) ⊎ In y found → Within l x y
    go (inl j) = let n = further_next l found j in within_trans (good n.child n.there) (above n.assigned itself)
    go (inr j) = good y j

climb_all : (n : ℕ) (l : List Assignment) (x : ℕ) (found : List ℕ) → missing l found ≤ n → Found-above l x found → Climbed l x found (climbed n l found)
unfolding climbed
climb_all zero l x found few good = go (turn l found)
  where
    go : Turn l found → Climbed l x found found
    go (ends e) = record { sound = good; kept = λ y h. h; closed = none_further l found e }
    go (goes e h) = absurd (omega arith)
climb_all (suc n) l x found few good = go (turn l found) (climb_all n l x (further l found ++ found))
  where
    go : Turn l found
        → (missing l (further l found ++ found) ≤ n → Found-above l x (further l found ++ found) → Climbed l x (further l found ++ found) (climbed n l (further l found ++ found)))
        → Climbed l x found (cond (empty (further l found)) found (climbed n l (further l found ++ found)))
    go (ends e) k = rw e (record { sound = good; kept = λ y h. h; closed = none_further l found e })
    go (goes e h) k =
        let c = k (omega arith) (further_above l x found good) in
        rw e (record { sound = c.sound; kept = λ y i. c.kept y (in_right (further l found) i); closed = c.closed })

module _ (l : List Assignment) where
  start_above : (x : ℕ) → Found-above l x (x ∷ [])
  start_above x y i = go (in_cons i)
    where
      go : (y ≡ x) ⊎ In y [] → Within l x y
      go (inl e) = rw e itself
      go (inr never) = elim never [ ]

  all_above : (x : ℕ) → Climbed l x (x ∷ []) (climbed (length l) l (x ∷ []))
  all_above x = climb_all (length l) l x (x ∷ []) (missing_most l (x ∷ [])) (start_above x)

  -- what is closed holds all that its members are within
  closed_within : (all : List ℕ) → Closed l all → {x y : ℕ} → Within l x y → In x all → In y all
  closed_within all shut itself i = i
  closed_within all shut (above {x = x} {y = y} a w) i = closed_within all shut w (shut x y a i)

  -- what is computed is so
  pub within_says : {x y : ℕ} → within l x y ≡ true → Within l x y
  unfolding within
  within_says {x} {y} e = (all_above x).sound y (member_in (climbed (length l) l (x ∷ [])) e)

  -- what is so is computed
  pub within_when : {x y : ℕ} → Within l x y → within l x y ≡ true
  unfolding within
  within_when {x} {y} w = in_member (closed_within (climbed (length l) l (x ∷ [])) (all_above x).closed w ((all_above x).kept x first))
