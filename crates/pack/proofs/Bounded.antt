-- How many bits and bytes the image of a table can take at most.
-- Assumes nothing.
use mathlib.Core.Path.{refl}
use mathlib.Core.List.{List}
use Prim.Native.Nat.{ℕ, zero, suc, ◌*◌, ◌≤◌, ◌<◌}
use native.Mathlib.Omega.{arith}
use lib.ListN.{length, length-append}
use Rattle.model.specs.Lists.{tabulate}
use Rattle.model.specs.Policy.{Element, Process, Prohibition, is_kind, is_element_id}
use Rattle.model.specs.Sound.{listed}
use Rattle.model.specs.Image.{image_bits, image_of}
use Rattle.model.proofs.Groups.{those_length}
use Rattle.model.proofs.Indexed.{length_tabulate}
use Rattle.model.proofs.Image.Packed.{length_packed}
use Rattle.table.specs.Layout.{prohibition_count, kind_word, user_word}
use Rattle.table.specs.View.{prohibition_at, elements_of, processes_of, prohibitions_of, policy_of}
use Rattle.table.specs.Facts.{Table}
use Rattle.table.proofs.Listed.{inclusions_long, exclusions_long}
use Rattle.weigh.specs.Counts.{listed_in}
use Rattle.weigh.proofs.Sized.{bits_counted}

module _ (mem : List ℕ) where
  -- at most as many elements as ids
  elements_few : length (policy_of mem).elements ≤ 511
  unfolding policy_of elements_of
  elements_few =
      let f : ℕ → Element = λ i. record { id = suc i; kind = kind_word mem (suc i) } in
      omega (arith, those_length (λ (e : Element). is_kind e.kind) (tabulate 511 f), length_tabulate 511 f)

  -- and of processes
  processes_few : length (policy_of mem).processes ≤ 255
  unfolding policy_of processes_of
  processes_few =
      let f : ℕ → Process = λ i. record { id = suc i; owner = user_word mem (suc i) } in
      omega (arith, those_length (λ (q : Process). is_element_id q.owner) (tabulate 255 f), length_tabulate 255 f)

-- prohibitions that list at most eight ids each
listed_few : (n : ℕ) (f : ℕ → Prohibition) → ((i : ℕ) → i < n → length (listed (f i)) ≤ 8) → listed_in (tabulate n f) ≤ 8 * n
unfolding listed_in tabulate
listed_few zero f h = omega arith
listed_few (suc n) f h = omega (arith, h 0 (omega arith), listed_few n (λ i. f (suc i)) (λ i l. h (suc i) (omega arith)))

module _ {mem : List ℕ} (t : Table mem) where
  -- the prohibitions of a table list at most 1,600
  ids_few : listed_in (policy_of mem).prohibitions ≤ 1600
  unfolding policy_of prohibitions_of
  ids_few = omega (arith, listed_few (prohibition_count mem) (prohibition_at mem) (λ i h. few i h))
    where
      few : (i : ℕ) → i < prohibition_count mem → length (listed (prohibition_at mem i)) ≤ 8
      few i h =
          let y = t.short i h in
          omega (arith, length-append (prohibition_at mem i).inclusion (prohibition_at mem i).exclusion, inclusions_long mem i, exclusions_long mem i, y.few_inclusions, y.few_exclusions)

  -- the bits
  pub bits_few : length (image_bits (policy_of mem)) ≤ 120917
  bits_few =
      let c = bits_counted t (record { is = refl; few = elements_few mem }) (record { is = refl; few = processes_few mem }) refl refl refl
      (record { is = refl; few = ids_few }) in
      omega (arith, c.is, c.few)

  -- the bytes
  pub bytes_few : length (image_of (policy_of mem)) ≤ 15115
  unfolding image_of
  bytes_few = omega (arith, length_packed (image_bits (policy_of mem)), bits_few)
