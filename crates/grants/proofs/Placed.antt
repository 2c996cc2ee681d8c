-- Rows written one after another: none, one, some and then others; what stands afterwards where they were written from the first place on.
-- Assumes nothing.
use mathlib.Core.Path.{◌≡◌, refl, ap, ◌∙◌}
use mathlib.Core.List.{List, [], ◌∷◌, ◌++◌}
use Prim.Native.Nat.{ℕ, suc, ◌+◌, ◌≤◌, ◌<◌}
use native.Mathlib.Omega.{arith}
use lib.ListN.{length, set, drop, length-append, length-set}
use lib.Seq.{sets, sets-eq}
use Rattle.grants.specs.Put.{Put}
use Rattle.grants.proofs.Below.{below, below_more, below_room}

-- rows and then others, in one
sets_append : (a b l : List (List ℕ)) (i : ℕ) → sets (sets l i a) (i + length a) b ≡ sets l i (a ++ b)
sets_append [] b l i = ap (λ (k : ℕ). sets l k b) (omega arith)
sets_append (x ∷ a) b l i = ap (λ (k : ℕ). sets (sets (set l i x) (suc i) a) k b) (omega arith) ∙ sets_append a b (set l i x) (suc i)

-- no row
pub put_none : (out : List (List ℕ)) (at : ℕ) → Put out at [] out at
put_none out at = record { is = refl; next = omega arith; size = refl }

-- one row
pub put_one : (out : List (List ℕ)) (at : ℕ) (x : List ℕ) → Put out at (x ∷ []) (set out at x) (at + 1)
put_one out at x = record { is = refl; next = omega arith; size = length-set out at x }

-- some rows, and then others behind them
pub put_then : {out a b out₁ out₂ : List (List ℕ)} {at t₁ t₂ : ℕ} → Put out at a out₁ t₁ → Put out₁ t₁ b out₂ t₂ → Put out at (a ++ b) out₂ t₂
put_then {out} {a} {b} {at = at} p q = record {
  is = q.is ∙ rw (p.is, p.next) (sets_append a b out at);
  next = rw (length-append a b) (omega (arith, p.next, q.next));
  size = q.size ∙ p.size;
}

-- rows written from the first place on stand in front, and behind them what stood there
pub put_over : {out rows out' : List (List ℕ)} {at' : ℕ} → Put out 0 rows out' at' → length rows ≤ length out → out' ≡ rows ++ drop (length rows) out
put_over {out} {rows} p h =
    let e : 0 + length rows ≡ length rows = omega arith in
    p.is ∙ sets-eq rows out 0 (omega arith) ∙ ap (λ (k : ℕ). rows ++ drop k out) e

-- A loop that writes the rows of 0, of 1, and so on.
module _ (F : ℕ → List (List ℕ)) where
  -- it starts
  pub put_start : (out : List (List ℕ)) (at : ℕ) → Put out at (below F 0) out at
  unfolding below
  put_start out at = put_none out at

  -- one more
  pub put_more : (c : ℕ) {out out₁ out₂ : List (List ℕ)} {at t₁ t₂ : ℕ} → Put out at (below F c) out₁ t₁ → Put out₁ t₁ (F c) out₂ t₂
      → Put out at (below F (c + 1)) out₂ t₂
  put_more c p q = rw (below_more F c) (put_then p q)

  -- the next has room where all of them have
  pub put_room : (n c : ℕ) → c < n → {out out₁ : List (List ℕ)} {at t₁ : ℕ} → at + length (below F n) ≤ length out
      → Put out at (below F c) out₁ t₁ → t₁ + length (F c) ≤ length out₁
  put_room n c l h p = omega (arith, below_room F n c l, p.next, p.size)
