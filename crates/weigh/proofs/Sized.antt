-- The bits and the bytes of a table's image.
-- Assumes nothing.
use mathlib.Core.Path.{◌≡◌, refl, sym, ap, ◌∙◌}
use mathlib.Core.List.{List, [], ◌∷◌}
use Prim.Native.Nat.{ℕ, ◌+◌, ◌*◌, ◌/◌}
use native.Mathlib.Omega.{arith}
use lib.ListN.{length, length-append}
use Rattle.model.specs.Policy.{Prohibition}
use Rattle.model.specs.Image.{image_bits, image_of}
use Rattle.model.proofs.Image.Lengths.{size_of, bits_length}
use Rattle.model.proofs.Image.Packed.{length_packed}
use Rattle.table.specs.Layout.{assignment_count, association_count, prohibition_count}
use Rattle.table.specs.View.{policy_of}
use Rattle.table.specs.Facts.{Table, AtMost}
use Rattle.table.proofs.Counted.{assignments_long, associations_long, prohibitions_long}
use Rattle.weigh.specs.Counts.{listed_in}

-- prohibitions take 50 bits each, and 9 each id that they list
size_listed : (l : List Prohibition) → size_of l ≡ 50 * length l + 9 * listed_in l
unfolding size_of listed_in
size_listed [] = refl
size_listed (b ∷ l) = omega (arith, size_listed l, length-append b.inclusion b.exclusion)

-- the bits, by the counts
pub bits_counted : {mem : List ℕ} → Table mem → {a b c d e l : ℕ} → AtMost (length (policy_of mem).elements) 511 a → AtMost (length (policy_of mem).processes) 255 b
    → c ≡ assignment_count mem → d ≡ association_count mem → e ≡ prohibition_count mem → AtMost (listed_in (policy_of mem).prohibitions) 1600 l
    → AtMost (length (image_bits (policy_of mem))) 120917 (50 + (12 * a + 17 * b) + (18 * c + 50 * d) + (50 * e + 9 * l))
bits_counted {mem} t a b c d e l =
    let n = bits_length (policy_of mem) in
    let s = size_listed (policy_of mem).prohibitions in
    let i = assignments_long mem in
    let j = associations_long mem in
    let k = prohibitions_long mem in
    record { is = omega arith; few = omega arith }

-- the bytes, by the bits
pub bytes_counted : (mem : List ℕ) {n : ℕ} → AtMost (length (image_bits (policy_of mem))) 120917 n → AtMost (length (image_of (policy_of mem))) 15115 ((n + 7) / 8)
unfolding image_of
bytes_counted mem {n} b =
    record { is = ap (λ (k : ℕ). (k + 7) / 8) b.is ∙ sym (length_packed (image_bits (policy_of mem))); few = omega (arith, b.few) }
