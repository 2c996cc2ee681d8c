-- Looking a record up by the words that it begins with: one is found before the end exactly if what they denote is there.
-- Assumes nothing.
use mathlib.Core.Path.{◌≡◌, refl, sym, ap, ◌∙◌}
use mathlib.Core.Bool.{Bool, true, false, cond, ◌||◌}
use mathlib.Core.List.{List, [], ◌∷◌, map}
use Prim.Native.Nat.{ℕ, suc}
use native.Mathlib.Omega.{arith}
use borrow.Author.Tests.{lt-ltb}
use lib.Dec.{ltb, leb-suc-suc}
use lib.ListN.{length, drop, get_or}
use Rattle.model.specs.Lists.{In, any_of}
use Rattle.model.proofs.Truth.{any_alike}
use Rattle.group.specs.Group.{records, group, begins, first_of}
use Rattle.group.proofs.Kept.{length_group}

-- one that passes is found before the end
first_any : {A : Type 0} (f : A → Bool) (l : List A) → ltb (first_of f l) (length l) ≡ any_of f l
unfolding first_of any_of
first_any f [] = refl
first_any f (a ∷ l) = go (f a) (first_any f l)
  where
    go : (t : Bool) → ltb (first_of f l) (length l) ≡ any_of f l → ltb (cond t 0 (suc (first_of f l))) (suc (length l)) ≡ (t || any_of f l)
    go true e = lt-ltb 0 (suc (length l)) (omega arith)
    go false e = leb-suc-suc (suc (first_of f l)) (length l) ∙ e

-- some passes, seen through g
map_any : {A B : Type 0} (g : A → B) (f : B → Bool) (l : List A) → any_of f (map g l) ≡ any_of (λ a. f (g a)) l
unfolding any_of
map_any g f [] = refl
map_any g f (a ∷ l) = ap (◌||◌ (f (g a))) (map_any g f l)

-- a record that begins with the words is found before the end of its group exactly if some record denotes what passes
pub record_found : {A : Type 0} (denotes : List ℕ → A) (f : A → Bool) (front : List ℕ) (base width counter : ℕ) (mem : List ℕ) {at : ℕ}
    → at ≡ first_of (begins front) (records width (get_or mem counter 0) (drop base mem)) → ((r : List ℕ) → In r (group base width counter mem) → begins front r ≡ f (denotes r))
    → ltb at (get_or mem counter 0) ≡ any_of f (map denotes (group base width counter mem))
unfolding group
record_found denotes f front base width counter mem q h =
    let g : List (List ℕ) = group base width counter mem in
    ap (λ (i : ℕ). ltb i (get_or mem counter 0)) q
    ∙ ap (ltb (first_of (begins front) g)) (sym (length_group base width counter mem))
    ∙ first_any (begins front) g
    ∙ any_alike {f = begins front} {g = λ r. f (denotes r)} g h
    ∙ sym (map_any denotes f g)
