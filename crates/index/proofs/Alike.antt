-- Bytes that the library finds the same are the same.
-- Assumes nothing.
use mathlib.Core.Path.{◌≡◌, refl, sym, ap, ◌∙◌}
use mathlib.Core.Bool.{Bool, ◌&&◌, and_assoc}
use mathlib.Core.List.{List, [], ◌∷◌}
use Prim.Native.Nat.{ℕ, zero, suc, ◌+◌, ◌≤◌, ◌<◌}
use native.Mathlib.Omega.{arith}
use lib.Dec.{eqb}
use lib.ListN.{length, get_or, take}
use lib.Seq.{take-length}
use lib.Pointwise.{pointwise}
use Rattle.model.specs.Lists.{same}
use Rattle.index.proofs.Compared.{SameTo, same_none, same_more, same_all}

-- bytes that are alike at every place are the same
pub alike_all : (a b : List ℕ) → pointwise eqb a b ≡ same a b
unfolding same
alike_all [] [] = refl
alike_all [] (y ∷ b) = refl
alike_all (x ∷ a) [] = refl
alike_all (x ∷ a) (y ∷ b) = ap (λ (r : Bool). eqb x y && r) (alike_all a b)

-- one byte more is looked at
alike_more : (a b : List ℕ) (i : ℕ) → i < length a → i < length b
    → pointwise eqb (take (suc i) a) (take (suc i) b) ≡ (pointwise eqb (take i a) (take i b) && eqb (get_or a i 0) (get_or b i 0))
alike_more [] b i h k = let e : ⊥ = omega arith in elim e [ ]
alike_more (x ∷ a) [] i h k = let e : ⊥ = omega arith in elim e [ ]
alike_more (x ∷ a) (y ∷ b) zero h k = grind arith
alike_more (x ∷ a) (y ∷ b) (suc i) h k =
    ap (λ (r : Bool). eqb x y && r) (alike_more a b i (omega arith) (omega arith))
    ∙ sym (and_assoc (eqb x y) (pointwise eqb (take i a) (take i b)) (eqb (get_or a i 0) (get_or b i 0)))

-- the first i bytes are looked at
alike_to : (a b : List ℕ) → length a ≡ 32768 → length b ≡ 32768 → (i : ℕ) → i ≤ 32768 → SameTo a b (pointwise eqb (take i a) (take i b)) i
alike_to a b m n zero h = same_none a b
alike_to a b m n (suc i) h =
    let e : suc i ≡ i + 1 = omega arith in
    rw (alike_more a b i (omega arith) (omega arith), e) (same_more (alike_to a b m n i (omega arith)) m n (omega arith))

-- bytes that the library finds alike are those that are alike at every place
found_alike : (a b : List ℕ) → length a ≡ 32768 → length b ≡ 32768 → pointwise eqb a b ≡ same a b
found_alike a b m n =
    let f : take 32768 a ≡ a = ap (λ (k : ℕ). take k a) (sym m) ∙ take-length a in
    let g : take 32768 b ≡ b = ap (λ (k : ℕ). take k b) (sym n) ∙ take-length b in
    sym (ap (λ (l : List ℕ). pointwise eqb l b) f) ∙ sym (ap (pointwise eqb (take 32768 a)) g) ∙ same_all (alike_to a b m n 32768 (omega arith)) m n (omega arith)

-- bytes are compared with those that were made
pub compared : (m : List ℕ) {made l k : List ℕ} {r : Bool} → l ≡ made → k ≡ l → r ≡ pointwise eqb m k → r ≡ same m made
compared m {made} e f s = s ∙ alike_all m _ ∙ ap (same m) (f ∙ e)

-- so are the 32,768 of an index, place by place to the end
pub compared_filled : (m : List ℕ) {made l k : List ℕ} {r : Bool} → length m ≡ 32768 → length l ≡ 32768 → l ≡ made → k ≡ l → r ≡ pointwise eqb m k → r ≡ same m made
compared_filled m {made} f g e h s = s ∙ ap (pointwise eqb m) h ∙ found_alike m _ f g ∙ ap (same m) e
