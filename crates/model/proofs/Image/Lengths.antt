-- How many bits an image takes.
-- Assumes nothing.
use mathlib.Core.Path.{◌≡◌, refl}
use mathlib.Core.Bool.{Bool, true}
use mathlib.Core.List.{List, [], ◌∷◌, ◌++◌, append_assoc, append-nil}
use Prim.Native.Nat.{ℕ, ◌+◌, ◌*◌, ◌≤◌}
use native.Mathlib.Omega.{arith}
use lib.ListN.{length, length-append}
use Rattle.model.specs.Policy.{Prohibition, Policy}
use Rattle.model.specs.Lists.{all_of}
use Rattle.model.specs.Sound.{Sound, prohibition_fits}
use Rattle.model.specs.Image.{element_bits, assignment_bits, association_bits, prohibition_bits, process_bits, group_bits, head_bits, image_bits}
use Rattle.model.proofs.Truth.{and_cut}
use Rattle.model.proofs.Image.Fields.{Field, ◌wide◌, fields_then, length_fields}
use Rattle.model.proofs.Image.Groups.{length_fixed}
use Rattle.model.proofs.Image.Records.{element_fields_lem, assignment_fields_lem, association_fields_lem, process_fields_lem}
use Rattle.model.proofs.Image.Prohibitions.{length_prohibition, lists_short_lem}
use Rattle.model.proofs.Image.Counts.{each_right, counts}

-- the form and the counts
abbrev pub head_fields : Policy → List Field
head_fields p =
    (4 wide 1) ∷ (9 wide length p.elements) ∷ (11 wide length p.assignments) ∷ (10 wide length p.associations)
    ∷ (8 wide length p.prohibitions) ∷ (8 wide length p.processes) ∷ []

-- "Form 4 (value 1); counts of elements 9, assignments 11, associations 10, prohibitions 8, processes 8."
abbrev pub head_widths : List ℕ
head_widths = 4 ∷ 9 ∷ 11 ∷ 10 ∷ 8 ∷ 8 ∷ []

-- the head is its fields
pub head_written : (p : Policy) (rest : List Bool) → head_bits p ++ rest ≡ fields_then (head_fields p) rest
unfolding head_bits
head_written p rest = simp append_assoc

length_head : (p : Policy) → length (head_bits p) ≡ 50
length_head p =
    let e : length (head_bits p ++ []) ≡ 50 = rw (head_written p []) (length_fields (head_fields p) []) in
    rw append-nil at e

length_group : {A : Type 0} (bits : A → List Bool) (n : ℕ) → ((a : A) → length (bits a) ≡ n) → (xs : List A) → length (group_bits bits xs) ≡ n * length xs
unfolding group_bits
length_group bits n h [] = omega arith
length_group bits n h (a ∷ xs) = rw (length-append (bits a) (group_bits bits xs), h a, length_group bits n h xs) (omega arith)

-- the bits that prohibitions take
unfoldable pub size_of : List Prohibition → ℕ
size_of [] = 0
size_of (b ∷ bs) = 50 + 9 * (length b.inclusion + length b.exclusion) + size_of bs

length_prohibitions : (bs : List Prohibition) → length (group_bits prohibition_bits bs) ≡ size_of bs
unfolding group_bits size_of
length_prohibitions [] = refl
length_prohibitions (b ∷ bs) = rw (length-append (prohibition_bits b) (group_bits prohibition_bits bs), length_prohibition b, length_prohibitions bs)

-- the bits of an image
pub bits_length : (p : Policy)
    → length (image_bits p)
    ≡ 50 + (12 * length p.elements + (18 * length p.assignments + (50 * length p.associations + (size_of p.prohibitions + 17 * length p.processes))))
unfolding image_bits
bits_length p =
    simp (
      length-append,
      length_head p,
      length_group element_bits 12 (length_fixed element_fields_lem) p.elements,
      length_group assignment_bits 18 (length_fixed assignment_fields_lem) p.assignments,
      length_group association_bits 50 (length_fixed association_fields_lem) p.associations,
      length_prohibitions p.prohibitions,
      length_group process_bits 17 (length_fixed process_fields_lem) p.processes,
    )

sizes_bounded : (bs : List Prohibition) → all_of prohibition_fits bs ≡ true → size_of bs ≤ 122 * length bs
unfolding size_of all_of
sizes_bounded [] h = omega arith
sizes_bounded (b ∷ bs) h =
    let c = and_cut (prohibition_fits b) (all_of prohibition_fits bs) h in
    let k = lists_short_lem b c.0 in
    let m = sizes_bounded bs c.1 in
    omega arith

-- the most bits that a sound policy takes
pub bits_bounded : (p : Policy) → Sound p → length (image_bits p) ≤ 120917
bits_bounded p s =
    let c = counts p s in
    let k = sizes_bounded p.prohibitions (each_right p s.fields).prohibitions in
    let n = bits_length p in
    omega arith
