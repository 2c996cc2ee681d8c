-- Names set place by place along the queue, where none is named.
-- Assumes nothing.
use mathlib.Core.Path.{◌≡◌, refl, sym, ap, subst, ◌∙◌}
use mathlib.Core.List.{List}
use mathlib.Core.Logic.{inl, inr}
use Prim.Native.Nat.{ℕ, zero, suc, ◌+◌, ◌-◌, ◌*◌, ◌^◌, ◌≤◌, ◌<◌}
use native.Mathlib.Omega.{arith}
use native.Mathlib.Decide.{ℕ_discrete, dec_lt}
use borrow.Rule.Slice.PartMut.{mid_of}
use lib.ListN.{length, get_or, set, drop, length-set, length-drop}
use Rattle.std.proofs.lemmas.List.{length-take-le, get_or-take, get_or-drop}
use lib.Seq.{get_or-set_same, get_or-set_other}
use Rattle.lowest.specs.Marked.{first_name, ClassesQueued, Behind, FirstQueued}

-- what is named stays
pub first_stays : (name i : ℕ) → 0 < name → first_name name i ≡ name
unfolding first_name
first_stays zero i l = absurd (omega arith)
first_stays (suc j) i l = refl

-- one is named then
pub first_some : (name i : ℕ) → 0 < first_name name i
unfolding first_name
first_some zero i = omega arith
first_some (suc j) i = omega arith

-- the name that is there stays
pub some_stays : (name i : ℕ) → 0 < name → name ≡ first_name name i
some_stays name i l = sym (first_stays name i l)

-- where none is named, association i is
pub none_next : (name i : ℕ) → name ≤ 0 → i + 1 ≡ first_name name i
unfolding first_name
none_next zero i l = omega arith
none_next (suc j) i l = absurd (omega arith)

-- no place is passed yet
pub queued_none : (queue : List ℕ) (tail i : ℕ) {names : List ℕ} → length names ≡ 512 → FirstQueued queue tail (tail + 0) i names names
queued_none queue tail i e = record { size = e; first = λ c b. absurd (omega (arith, b.late, b.early)); only = λ c. inl refl }

-- one place more
queued_more : {queue : List ℕ} {n tail k i : ℕ} {names names' : List ℕ} {r : ℕ} → ClassesQueued queue n → k < n → tail ≤ k
    → FirstQueued queue tail k i names names' → r ≡ first_name (get_or names' (get_or queue k 0) 0) i
    → FirstQueued queue tail (k + 1) i names (set names' (get_or queue k 0) r)
queued_more {queue} {n} {tail} {k} {i} {names} {names'} {r} q h o w er = record {
  size = length-set names' x r ∙ w.size;
  first = λ c b. elim (ℕ_discrete c x) [ yes e ↦ rw e (same ∙ here) | no d ↦ get_or-set_other names' x c r 0 d ∙ w.first c (before c d b) ];
  only = λ c. elim (ℕ_discrete c x) [
    | yes e ↦ inr (record { at = k; late = o; early = omega arith; is = sym e })
    | no d ↦ elim (w.only c) [
      | inl e ↦ inl (get_or-set_other names' x c r 0 d ∙ e)
      | inr b ↦ inr (record { at = b.at; late = b.late; early = omega (arith, b.early); is = b.is })
    ]
  ];
}
  where
    x : ℕ
    x = get_or queue k 0

    same : get_or (set names' x r) x 0 ≡ r
    same = get_or-set_same names' x r 0 (omega (arith, w.size, q.small k h))

    here : r ≡ first_name (get_or names x 0) i
    here = er ∙ elim (w.only x) [
      | inl e ↦ ap (λ (m : ℕ). first_name m i) e
      | inr b ↦ let f : get_or names' x 0 ≡ first_name (get_or names x 0) i = w.first x b in
          rw f (first_stays (first_name (get_or names x 0) i) i (first_some (get_or names x 0) i))
    ]

    before : (c : ℕ) → (c ≡ x → ⊥) → Behind queue tail (k + 1) c → Behind queue tail k c
    before c d b = elim (dec_lt b.at k) [
      | yes l ↦ record { at = b.at; late = b.late; early = l; is = b.is }
      | no l ↦ let e : b.at ≡ k = omega (arith, b.early) in absurd (d (sym b.is ∙ ap (λ (j : ℕ). get_or queue j 0) e))
    ]

-- What stands in the queue from `tail` on.
module _ {queue : List ℕ} {n : ℕ} (q : ClassesQueued queue n) {tail : ℕ} (l : tail ≤ n) where
  -- so many
  behind_many : length (mid_of tail (n - tail) queue) ≡ n - tail
  behind_many = length-take-le (n - tail) (drop tail queue) (omega (arith, length-drop tail queue, q.room, q.short))

  module _ {k : ℕ} (h : k < length (mid_of tail (n - tail) queue)) where
    -- each is a place of the queue
    behind_early : tail + k < n
    behind_early = omega (arith, behind_many)

    behind_at : get_or (mid_of tail (n - tail) queue) k 0 ≡ get_or queue (tail + k) 0
    behind_at = get_or-take (n - tail) (drop tail queue) k 0 (omega (arith, behind_many)) ∙ get_or-drop tail queue k 0

    -- and a class
    pub next_class : get_or (mid_of tail (n - tail) queue) k 0 < 512
    next_class = rw behind_at (q.small (tail + k) behind_early)

    -- it fits a place number
    pub class_fits : get_or (mid_of tail (n - tail) queue) k 0 < 2 ^ 64
    class_fits = omega (arith, next_class)

    -- and so do the bytes before its name, four for each class
    pub place_fits : get_or (mid_of tail (n - tail) queue) k 0 * 4 < 2 ^ 64
    place_fits = omega (arith, next_class)

    -- one place more
    pub queued_next : {i : ℕ} {names names' : List ℕ} {r : ℕ} → FirstQueued queue tail (tail + k) i names names'
        → r ≡ first_name (get_or names' (get_or (mid_of tail (n - tail) queue) k 0) 0) i
        → FirstQueued queue tail (tail + (k + 1)) i names (set names' (get_or (mid_of tail (n - tail) queue) k 0) r)
    queued_next w e =
        let s : tail + (k + 1) ≡ tail + k + 1 = omega arith in
        rw (s, behind_at) (queued_more q behind_early (omega arith) w (e ∙ (rw behind_at refl)))

  -- all of them
  pub queued_all : {i k : ℕ} {names names' : List ℕ} → FirstQueued queue tail (tail + k) i names names' → k ≤ length (mid_of tail (n - tail) queue)
      → length (mid_of tail (n - tail) queue) ≤ k → FirstQueued queue tail n i names names'
  queued_all {i} {k} {names} {names'} w h h' =
      let e : tail + k ≡ n = omega (arith, behind_many) in
      subst (λ (m : ℕ). FirstQueued queue tail m i names names') e w
