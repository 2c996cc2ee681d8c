-- The bits of a sound policy's index say "contained" for exactly each element with itself and the pairs that a chain joins.
-- Assumes nothing.
use mathlib.Core.Path.{◌≡◌, refl, sym, ◌∙◌}
use mathlib.Core.Bool.{true, false, ◌&&◌}
use mathlib.Core.List.{List}
use mathlib.Core.Logic.{◌↔◌, ◌⊎◌, inl, inr}
use Prim.Native.Nat.{ℕ, ◌+◌, ◌*◌, ◌-◌, ◌/◌, ◌%◌, ◌^◌, ◌≤◌, ◌<◌}
use native.Mathlib.Decide.{dec_lt}
use native.Mathlib.Nat.{zero-div}
use native.Mathlib.Omega.{arith}
use lib.ListN.{get_or-eq_default}
use Rattle.model.specs.Policy.{Assignment, Policy, is_there}
use Rattle.model.specs.Contain.{Within, itself, above, Chain, link, contained}
use Rattle.model.specs.Sound.{Sound}
use Rattle.model.specs.Index.{index_bit, index_of, bit_at}
use Rattle.model.proofs.Truth.{clash, and_cut, and_join}
use Rattle.model.proofs.Contained.{within_says, within_when}
use Rattle.model.proofs.Indexed.{index_length, index_bit_lem, there_range}
use Rattle.history.specs.Standing.{Contained}

-- what x is within is x, or a chain leads there
joined : {l : List Assignment} {x y : ℕ} → Within l x y → (x ≡ y) ⊎ Chain l x y
joined itself = inl refl
joined (above a w) = inr (link a w)

-- and back
chain_within : {l : List Assignment} {x y : ℕ} → (x ≡ y) ⊎ Chain l x y → Within l x y
chain_within (inl e) = rw e itself
chain_within (inr (link a w)) = above a w

-- behind the last row every bit is 0
bit_beyond : (p : Policy) (x y : ℕ) → 512 ≤ x → bit_at (index_of p) x y ≡ false
unfolding bit_at
bit_beyond p x y h =
    let l = index_length p in
    rw (get_or-eq_default (index_of p) 0 {n = 64 * x + y / 8} (omega arith), zero-div (2 ^ (7 - y % 8)))

-- the bit of two elements is set exactly if both are there and the first is the second or a chain leads from it to the second
pub index_contained : (p : Policy) → Sound p → (x y : ℕ) → y < 512 → (bit_at (index_of p) x y ≡ true) ↔ Contained p x y
unfolding index_bit
index_contained p s x y hy = (λ e. says e (dec_lt x 512), when)
  where
    parts : index_bit p x y ≡ true → Contained p x y
    parts e =
        let c = and_cut (is_there p x && is_there p y) (contained p x y) e in
        let d = and_cut (is_there p x) (is_there p y) c.0 in
        record { inner = d.0; outer = d.1; joined = joined (within_says p.assignments c.1) }

    says : bit_at (index_of p) x y ≡ true → Dec (x < 512) → Contained p x y
    says e (yes hx) = parts (sym (index_bit_lem p x y hx hy) ∙ e)
    says e (no hx) = absurd (clash e (bit_beyond p x y (omega arith)))

    when : Contained p x y → bit_at (index_of p) x y ≡ true
    when c =
        index_bit_lem p x y (there_range p s x c.inner).1 hy
        ∙ and_join (is_there p x && is_there p y) (contained p x y) (and_join (is_there p x) (is_there p y) c.inner c.outer)
        (within_when p.assignments (chain_within c.joined))
