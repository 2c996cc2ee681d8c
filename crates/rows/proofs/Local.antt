-- The numbers as a local array in memory: the zeros it begins with, its elements side by side as a slice borrows them, and its room again.
-- Assumes `Logic`.
use mathlib.Core.Path.{◌≡◌, refl}
use Prim.Native.Nat.{ℕ, zero, suc}
use mathlib.Core.List.{List, [], ◌∷◌}
use lib.Dec.{T as Holds, lit<}
use lib.ListN.{length, replicate, length-replicate}
use seplogic.Ra.Ura.{Ura}
use base.Fraction.{full_share}
use mir.Syntax.{Ty, Width, int_big, ty_int, ty_array, w32}
use mir.Val.{Val, Fits, WT, has_ty, vint}
use base.Logic.{ent, guard_i, via}
use base.Fml.{fsep, fat, froom}
use prog.Wp.{Env}
use types.Logic.{Logic, sem}
use types.Kit.{Item, ‵, given, some, mean, ◌$◌, ◌∵◌, !, qed, move, drop, use1, rewrite, fsplit, fjoin, fpick, fpack, feq_l, show, check, done}
use types.Run.{Opd, forget}
use types.SemTy.{cells}
use types.Share.{arr_parts}
use denote.RattleType.{RattleType}
use denote.Laws.{Is, shows}
use denote.Shadow.{shadow}
use denote.Memory.{mem, shares, part_of, part_at, cell_at}
use denote.Plain.{uint_Makes, uint_vals, uint_Tells, uint_Lawful}
use denote.Builtin.{u32}
use denote.Array.{Array, each, array_val, array_vals, Array-Typed, Array-Tells, Array-Makes}
use denote.ArrayMemory.{Array-apart, Array-whole}
use denote.Index.{whole_in}
use denote.Steps.{owned, peeks}

-- a row of numbers
abbrev pub Numbers : RattleType
Numbers = Array u32 8

-- n rows of them, as the machine's type
abbrev pub numbers_ty : ℕ → Ty
numbers_ty n = ty_array (ty_array (ty_int w32) 8) n

-- a row of zeros
abbrev pub zeros : Val
zeros = array_val (replicate 8 (vint w32 0))

-- what is one of a type is one of it n times over
each_is : (R : RattleType) (x : R.Denot) (u : Val) → Is R x (u ∷ []) → (n : ℕ) → shadow (each R.Denot R.own_val (replicate n x) (replicate n u))
each_is R x u s zero = tt
each_is R x u s (suc n) = (s, each_is R x u s n)

-- so is the array of them
array_is : (R : RattleType) (x : R.Denot) (u : Val) → Is R x (u ∷ []) → (n : ℕ) → Is (Array R n) (replicate n x) (array_val (replicate n u) ∷ [])
array_is R x u s n = (replicate n u, ((refl, length-replicate n x), each_is R x u s n))

-- eight zeros are a row of numbers
zeros_is : Is Numbers (replicate 8 0) (zeros ∷ [])
zeros_is = array_is u32 0 (vint w32 0) (refl, lit< tt) 8

module _ {M : Type 1} {𝓤 : Ura M} (𝓛 : Logic 𝓤) where
  -- a row of zeros has the type of one
  pub zeros_typed : Holds (has_ty (ty_array (ty_int w32) 8) zeros) × WT zeros
  zeros_typed = (Array-Typed u32 (uint_Lawful 𝓛 w32).typed 8 (replicate 8 0) _ zeros_is).0

  -- and n rows of zeros have the type of n rows
  pub all_typed : (n : ℕ) → Holds (has_ty (numbers_ty n) (array_val (replicate n zeros))) × WT (array_val (replicate n zeros))
  all_typed n = (Array-Typed Numbers (Array-Typed u32 (uint_Lawful 𝓛 w32).typed 8) n (replicate n (replicate 8 0)) _ (array_is Numbers (replicate 8 0) zeros zeros_is n)).0

  -- n rows of zeros in a local are n rows side by side
  pub begins : (n b : ℕ) → ent 𝓤 (sem 𝓛 (fat full_share (numbers_ty n) b 0 (array_val (replicate n zeros))))
      (mean 𝓛 (some (λ (xs : List (List ℕ)). given (length xs ≡ n) (‵ (cells (mem Numbers) xs b 0)))))
  unfolding part_of
  begins n b =
      let xs : List (List ℕ) = replicate n (replicate 8 0) in
      let vs : List Val = array_val (replicate n zeros) ∷ [] in
      qed 𝓛 (‵ (fat full_share (numbers_ty n) b 0 (array_val (replicate n zeros))) ∷ []) ∵
      owned ! (Array Numbers n) (Is (Array Numbers n)) (Array-Makes 𝓛 Numbers (Array-Makes 𝓛 u32 (uint_Makes 𝓛 w32) 8) n) xs vs (array_is Numbers (replicate 8 0) zeros zeros_is n) $
      move ! (1 ∷ 0 ∷ []) $ fjoin ! $ fpack ! (List Val) (λ us. fsep (cell_at full_share (Array Numbers n).mir us b 0) ((Array Numbers n).own_val xs us)) vs $
      use1 𝓛 (‵ ((arr_parts (shares Numbers) n).part full_share xs b 0)) (Array-apart 𝓛 Numbers full_share tt n xs b 0) $ fsplit ! $ feq_l ! (λ e.
      use1 𝓛 (‵ (cells (mem Numbers) xs b 0)) (whole_in 𝓛 Numbers xs b 0) $
      show ! (λ (ys : List (List ℕ)). mean 𝓛 (given (length ys ≡ n) (‵ (cells (mem Numbers) ys b 0)))) xs $ check ! e $ done !)

  -- n rows side by side are room for n rows
  pub emptied : (n : ℕ) (xs : List (List ℕ)) (b : ℕ) → ent 𝓤 (sem 𝓛 ((arr_parts (shares Numbers) n).part full_share xs b 0)) (sem 𝓛 (froom (numbers_ty n) b 0))
  unfolding part_of
  emptied n xs b =
      qed 𝓛 (‵ ((arr_parts (shares Numbers) n).part full_share xs b 0) ∷ []) ∵ use1 𝓛 (‵ (part_at (Array Numbers n) full_share xs b 0)) (Array-whole 𝓛 Numbers full_share n xs b 0) $
      fpick ! (λ vs. fsplit ! $ move ! (1 ∷ []) $ peeks ! (Array Numbers n) (Is (Array Numbers n)) (shows 𝓛 (Array Numbers n)) xs vs (λ r. drop ! $
      rewrite ! 0 (λ (us : List Val). ‵ (cell_at full_share (Array Numbers n).mir us b 0)) (Array-Tells Numbers (array_vals (uint_vals w32)) (Array-Tells u32 (uint_vals w32) (uint_Tells w32) 8) n xs vs r) refl $
      forget ! 0 refl $ done !))

module _ {M : Type 1} {𝓤 : Ura M} {𝓛 : Logic 𝓤} {K : Type 0} {Γ : List (Item 𝓤)} {E : Env 𝓤 𝓛.H} where
  -- a large constant is its number
  pub large : K → {w : Width} {n : ℕ} → Fits w n → Opd K 𝓛 Γ E (int_big w n) (vint w n)
  large t {w} {n} z = record { go = λ Kt h. via 𝓤 (Kt (vint w n)) h (guard_i 𝓤 (Fits w n) (Kt (vint w n)) z) }
