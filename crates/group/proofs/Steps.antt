-- A record added and a record taken out: what the place found and the change there leave.
-- Assumes nothing.
use mathlib.Core.Path.{◌≡◌, sym, ap, ◌∙◌}
use mathlib.Core.List.{List, ◌∷◌, ◌++◌}
use Prim.Native.Nat.{ℕ, suc, ◌+◌, ◌≤◌}
use native.Mathlib.Omega.{arith}
use lib.ListN.{length, take, drop, get_or}
use Rattle.model.specs.Lists.{before}
use Rattle.group.specs.Group.{records, group, regroup, inserted_at, removed_at, with_record, without_record, first_of, begins, Fits}
use Rattle.group.proofs.Records.{length_records}
use Rattle.group.proofs.Placed.{put_placed, less_found, less_none}
use Rattle.group.proofs.Kept.{regroup_same}

module _ (base counter at : ℕ) (rec l m : List ℕ) where
  -- a record put in at the place found is put in its place
  pub added : at ≡ first_of (before rec) (records (length rec) (get_or l counter 0) (drop base l))
      → m ≡ inserted_at base counter at rec l
      → m ≡ with_record base counter rec l
  unfolding group
  added e d =
      let g : List (List ℕ) = records (length rec) (get_or l counter 0) (drop base l) in
      d ∙ ap (λ (h : List (List ℕ)). regroup base (length rec) counter h l)
      (ap (λ (k : ℕ). take k g ++ (rec ∷ drop k g)) e ∙ sym (put_placed (λ r. r) rec g))

module _ (base width counter at : ℕ) (front l : List ℕ) where
  -- a record taken out at the place found is the first that begins with the words given
  pub taken_out : (m : List ℕ) → at ≡ first_of (begins front) (records width (get_or l counter 0) (drop base l))
      → m ≡ removed_at base width counter at 1 l
      → m ≡ without_record base width counter front l
  unfolding group
  taken_out m e d =
      let g : List (List ℕ) = records width (get_or l counter 0) (drop base l) in
      let s : at + 1 ≡ suc at = omega arith in
      d ∙ ap (λ (h : List (List ℕ)). regroup base width counter h l)
      (ap (λ (k : ℕ). take at g ++ drop k g) s ∙ ap (λ (k : ℕ). take k g ++ drop (suc k) g) e ∙ sym (less_found (begins front) g))

  -- where none is found nothing is to change
  pub not_there : Fits base width counter (get_or l counter 0) l
      → at ≡ first_of (begins front) (records width (get_or l counter 0) (drop base l)) → get_or l counter 0 ≤ at
      → l ≡ without_record base width counter front l
  unfolding group
  not_there f e h =
      let g : List (List ℕ) = records width (get_or l counter 0) (drop base l) in
      let none : length g ≤ first_of (begins front) g = omega (arith, length_records width (get_or l counter 0) (drop base l)) in
      sym (ap (λ (x : List (List ℕ)). regroup base width counter x l) (less_none (begins front) g none) ∙ regroup_same f)
