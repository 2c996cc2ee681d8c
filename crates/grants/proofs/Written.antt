-- The rows that are written: of a class, of a right, of a set, of an alternative.
-- Assumes nothing.
use mathlib.Core.Path.{◌≡◌, refl, sym, ap, subst, ◌∙◌}
use mathlib.Core.Bool.{Bool, true, false, not}
use mathlib.Core.List.{List, [], ◌∷◌, ◌++◌}
use Prim.Native.Nat.{ℕ, suc, ◌+◌, ◌-◌, ◌≤◌, ◌<◌}
use native.Mathlib.Omega.{arith}
use borrow.Author.Tests.{not-true, not-false}
use lib.ListN.{length, get_or, length-append}
use Rattle.model.specs.Lists.{those, tabulate}
use Rattle.model.specs.Policy.{Policy, has_right}
use Rattle.model.specs.Explain.{joined}
use Rattle.table.specs.View.{association_at}
use Rattle.request.specs.Sets.{rights_in}
use Rattle.request.specs.declared.Request.{Request}
use Rattle.rule.specs.declared.Asking.{Asking}
use Rattle.held.specs.Lacking.{Rows}
use Rattle.decide.specs.Asks.{asking_of, with_right}
use Rattle.decide.proofs.Left.{Left, left_near, rights_below}
use Rattle.grants.specs.Numbers.{named_numbers, right_numbers, if_rows, set_numbers, grant_numbers}
use Rattle.grants.specs.Put.{Put}
use Rattle.grants.proofs.Below.{below, joined_below}
use Rattle.grants.proofs.Placed.{put_none, put_then, put_start, put_more, put_room}

-- The row with a named association.
module _ (mem : List ℕ) (name : ℕ) (q : Asking) (alternative k c : ℕ) where
  -- none is named
  pub named_none : name ≡ 0 → alternative ∷ k ∷ q.right ∷ 0 ∷ c ∷ 0 ∷ 0 ∷ 0 ∷ [] ≡ named_numbers mem name q alternative k c
  named_none h = rw h

  -- one is named
  pub named_some : (name ≡ 0 → ⊥) → {x y z : ℕ} → x ≡ (association_at mem (name - 1)).attribute → y ≡ (association_at mem (name - 1)).target
      → z ≡ (association_at mem (name - 1)).rights → alternative ∷ k ∷ q.right ∷ 0 ∷ c ∷ x ∷ y ∷ z ∷ [] ≡ named_numbers mem name q alternative k c
  named_some d ex ey ez = let e : name ≡ suc (name - 1) = omega arith in rw (ex, ey, ez) (subst (λ (n : ℕ). alternative ∷ k ∷ q.right ∷ 0 ∷ c ∷ (association_at mem (name - 1)).attribute ∷ (association_at mem (name - 1)).target ∷ (association_at mem (name - 1)).rights ∷ [] ≡ named_numbers mem n q alternative k c) (sym e) refl)

-- The rows of one right of a set.
module _ (p : Policy) (q : Asking) (rights alternative k r : ℕ) {b : Bool} (is : b ≡ has_right rights r) where
  -- it is not in the set: no row
  pub if_none : not b ≡ true → (out : List (List ℕ)) (at : ℕ) → Put out at (if_rows p q rights alternative k r) out at
  unfolding if_rows
  if_none h out at = rw (← is, not-true b h) (put_none out at)

  module _ (h : not b ≡ false) {s : Asking} (e : s ≡ with_right q r) where
    -- it is: its rows
    if_rows_lem : if_rows p q rights alternative k r ≡ right_numbers p s alternative k
    unfolding if_rows
    if_rows_lem = rw (← is, not-false b h, e)

    -- have room
    pub if_room : (out : List (List ℕ)) (at : ℕ) → at + length (if_rows p q rights alternative k r) ≤ length out → at + length (right_numbers p s alternative k) ≤ length out
    if_room out at l = rw if_rows_lem at l

    -- and are written
    pub if_all : {out out₁ : List (List ℕ)} {at t : ℕ} → Put out at (right_numbers p s alternative k) out₁ t → Put out at (if_rows p q rights alternative k r) out₁ t
    if_all w = rw if_rows_lem w

-- the rows say of the element what they said, whatever the right
pub rows_right : {mem rows : List ℕ} {q : Asking} {r : ℕ} {s : Asking} → Rows mem rows false q → s ≡ with_right q r → Rows mem rows false s
rows_right w e = rw e (record { whole = w.whole; user = w.user; element = w.element })

-- a right below 32
pub right_small : (q : Asking) {r : ℕ} {s : Asking} → s ≡ with_right q r → r < 32 → s.right < 32
right_small q e l = rw e l

-- The rows of a set, right by right.
module _ (p : Policy) (q : Asking) (rights alternative k : ℕ) where
  -- those of the rights below n
  rights_rows : (n : ℕ) → joined (λ r. right_numbers p (with_right q r) alternative k) (those (has_right rights) (tabulate n (λ r. r)))
      ≡ below (if_rows p q rights alternative k) n
  unfolding if_rows
  rights_rows n = joined_below (λ r. right_numbers p (with_right q r) alternative k) (if_rows p q rights alternative k) (has_right rights) (λ r. refl) n

  -- all are those of the rights below 32
  set_below : set_numbers p q rights alternative k ≡ below (if_rows p q rights alternative k) 32
  unfolding set_numbers rights_in
  set_below = rights_rows 32

  -- none is written at first
  pub set_start : (out : List (List ℕ)) (at : ℕ) → Put out at (below (if_rows p q rights alternative k) 0) out at
  set_start out at = put_start (if_rows p q rights alternative k) out at

  module _ {r left : ℕ} (s : Left rights r left) {out out₁ : List (List ℕ)} {at t : ℕ} (w : Put out at (below (if_rows p q rights alternative k) r) out₁ t) where
    -- the rows of the next right have room
    pub set_room : 0 < left → at + length (set_numbers p q rights alternative k) ≤ length out → t + length (if_rows p q rights alternative k r) ≤ length out₁
    set_room l h = put_room (if_rows p q rights alternative k) 32 r (left_near s l) (rw set_below at h) w

    -- and are written
    pub set_more : {out₂ : List (List ℕ)} {u : ℕ} → Put out₁ t (if_rows p q rights alternative k r) out₂ u
        → Put out at (below (if_rows p q rights alternative k) (r + 1)) out₂ u
    set_more v = put_more (if_rows p q rights alternative k) r w v

    -- none is left: all are written
    pub set_end : left ≤ 0 → Put out at (set_numbers p q rights alternative k) out₁ t
    unfolding set_numbers
    set_end h = rw (rights_below s h, rights_rows r) w

-- The rows of a set over what is asked, as the code makes it.
module _ {x y : Asking} (e : x ≡ y) where
  -- the rows say what is meant
  pub rows_asked : {mem rows : List ℕ} → Rows mem rows false y → Rows mem rows false x
  rows_asked w = rw e w

  module _ (p : Policy) (rights alternative k : ℕ) where
    -- its rows have room
    pub asked_room : (at : ℕ) (out : List (List ℕ)) → at + length (set_numbers p y rights alternative k) ≤ length out → at + length (set_numbers p x rights alternative k) ≤ length out
    asked_room at out h = rw e h

    -- and are written
    pub asked_all : {out out₁ : List (List ℕ)} {at t : ℕ} → Put out at (set_numbers p x rights alternative k) out₁ t → Put out at (set_numbers p y rights alternative k) out₁ t
    asked_all w = rw e at w

-- The rows of an alternative, argument by argument.
module _ (p : Policy) (q : Request) (user alternative : ℕ) (sets : List ℕ) where
  -- those of one argument
  abbrev argument_rows : (e k rights : ℕ) → List (List ℕ)
  argument_rows e k rights = set_numbers p (asking_of q user false e k 0) rights alternative k

  -- how many they are
  parts_length : length (grant_numbers p q user alternative sets)
      ≡ length (argument_rows q.first 1 (get_or sets 0 0)) + (length (argument_rows q.second 2 (get_or sets 1 0)) + length (argument_rows q.third 3 (get_or sets 2 0)))
  unfolding grant_numbers
  parts_length =
      let b : List (List ℕ) = argument_rows q.second 2 (get_or sets 1 0) in
      let c : List (List ℕ) = argument_rows q.third 3 (get_or sets 2 0) in
      length-append (argument_rows q.first 1 (get_or sets 0 0)) (b ++ c) ∙ ap (λ (n : ℕ). length (argument_rows q.first 1 (get_or sets 0 0)) + n) (length-append b c)

  -- the rows of the first argument have room
  pub grant_room : (out : List (List ℕ)) → length (grant_numbers p q user alternative sets) ≤ length out
      → 0 + length (set_numbers p (asking_of q user false q.first 1 0) (get_or sets 0 0) alternative 1) ≤ length out
  grant_room out h = omega (arith, h, parts_length)

  module _ {out out₁ : List (List ℕ)} {s : ℕ} (v : Put out 0 (set_numbers p (asking_of q user false q.first 1 0) (get_or sets 0 0) alternative 1) out₁ s) where
    -- so have those of the second
    pub grant_room_second : length (grant_numbers p q user alternative sets) ≤ length out
        → s + length (set_numbers p (asking_of q user false q.second 2 0) (get_or sets 1 0) alternative 2) ≤ length out₁
    grant_room_second h = omega (arith, h, parts_length, v.next, v.size)

    module _ {out₂ : List (List ℕ)} {t : ℕ} (w : Put out₁ s (set_numbers p (asking_of q user false q.second 2 0) (get_or sets 1 0) alternative 2) out₂ t) where
      -- and those of the third
      pub grant_room_third : length (grant_numbers p q user alternative sets) ≤ length out
          → t + length (set_numbers p (asking_of q user false q.third 3 0) (get_or sets 2 0) alternative 3) ≤ length out₂
      grant_room_third h = omega (arith, h, parts_length, v.next, v.size, w.next, w.size)

      -- all are written
      pub grant_all : {out₃ : List (List ℕ)} {r : ℕ} → Put out₂ t (set_numbers p (asking_of q user false q.third 3 0) (get_or sets 2 0) alternative 3) out₃ r
          → Put out 0 (grant_numbers p q user alternative sets) out₃ r
      unfolding grant_numbers
      grant_all z = put_then v (put_then w z)
