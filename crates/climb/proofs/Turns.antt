-- The containers of one element, offered one after another: the loop's start, a turn and its end.
-- Assumes nothing.
use mathlib.Core.Path.{◌≡◌, sym, ◌∙◌}
use mathlib.Core.List.{List}
use mathlib.Core.Logic.{inl, inr, ⊎_elim}
use Prim.Native.Nat.{ℕ, ◌+◌, ◌/◌, ◌%◌, ◌≤◌, ◌<◌}
use native.Mathlib.Omega.{arith}
use Rattle.table.specs.Layout.{assignment_count, assignment_word}
use Rattle.table.specs.Facts.{Table, FirstOf, AmongFirst}
use Rattle.climb.specs.Queued.{Container, Listed, Grown}
use Rattle.climb.proofs.Containers.{none_before, still_among, among_last, among_split, among_container, container_among, container_inside}
use Rattle.climb.proofs.Queue.{grow_none, grow_then, grow_same}

-- at the first assignment of x nothing is offered yet
pub turns_start : {mem : List ℕ} {x a : ℕ} {s q : List ℕ} {t : ℕ} → Listed s q t → FirstOf mem x a → Grown (AmongFirst mem a x) s q t s q t
turns_start g f = grow_none g _ (λ y e. absurd (none_before f y e))

module _ {mem : List ℕ} {x i n : ℕ} (count : n ≡ assignment_count mem) where
  -- where the next assignment is one of x, a turn offers its container
  pub turn : {a : ℕ} → FirstOf mem x a → a ≤ i → i < n → {c : ℕ} → c ≡ assignment_word mem i / 512 → c ≤ x
      → {s q : List ℕ} {t : ℕ} {s' q' : List ℕ} {t' : ℕ} {s'' q'' : List ℕ} {t'' : ℕ} → Grown (AmongFirst mem i x) s q t s' q' t'
      → {y : ℕ} → y ≡ assignment_word mem i % 512 → Grown (λ z. z ≡ y) s' q' t' s'' q'' t'' → Grown (AmongFirst mem (i + 1) x) s q t s'' q'' t''
  turn f l h d k p {y} e r =
      grow_then _ p r still_among (λ z q. among_last i (f.from i l (omega arith)) (omega arith) z (q ∙ e))
      (λ z m. ⊎_elim inl (λ q. inr (q ∙ sym e)) (among_split i z m))

  module _ {s q : List ℕ} {t : ℕ} {s' q' : List ℕ} {t' : ℕ} (p : Grown (AmongFirst mem i x) s q t s' q' t') where
    -- where its child is above x, each container of x was offered
    pub turns_over : Table mem → i < n → {c : ℕ} → c ≡ assignment_word mem i / 512 → x < c → Grown (Container mem x) s q t s' q' t'
    turns_over m l d h = grow_same _ p (among_container (omega arith)) (container_among m (omega arith) (omega arith))

    -- and where there is no next one
    pub turns_end : n ≤ i → i ≤ assignment_count mem → Grown (Container mem x) s q t s' q' t'
    turns_end h l = grow_same _ p (among_container l) (container_inside (omega arith))
