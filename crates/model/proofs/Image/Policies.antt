-- A sound policy is read back from its bits, and bits long enough for what is read of them are its bits.
-- Assumes nothing.
use mathlib.Core.Path.{◌≡◌, sym, ap, ◌∙◌}
use mathlib.Core.Bool.{Bool}
use mathlib.Core.List.{List, [], ◌∷◌, ◌++◌, append_assoc}
use Prim.Native.Nat.{◌+◌, ◌≤◌}
use native.Mathlib.Omega.{arith}
use lib.ListN.{length, drop, length-drop}
use Rattle.model.specs.Policy.{Policy}
use Rattle.model.specs.Sound.{Sound}
use Rattle.model.specs.Bits.{num_at}
use Rattle.model.specs.Image.{element_bits, assignment_bits, association_bits, prohibition_bits, process_bits, group_bits, head_bits, image_bits, read_element, read_assignment, read_association, read_prohibition, read_process, read_elements, read_assignments, read_associations, read_prohibitions, read_processes, read_policy}
use Rattle.model.proofs.Image.Fields.{Field, ◌wide◌, fields_then, fields_at, nth, length_fields, fields_read, fields_past, fields_written}
use Rattle.model.proofs.Image.Groups.{reading, read_group_lem, group_count, read_group_at, read_then}
use Rattle.model.proofs.Image.Records.{read_element_lem, read_assignment_lem, read_association_lem, read_process_lem}
use Rattle.model.proofs.Image.Prohibitions.{read_prohibition_lem}
use Rattle.model.proofs.Image.Counts.{each_right, counts}
use Rattle.model.proofs.Image.Lengths.{head_fields, head_widths, head_written}

-- the head's fields, then the groups, then what stands behind the image
image_written : (p : Policy) (rest : List Bool)
    → image_bits p ++ rest
    ≡ fields_then (head_fields p) (group_bits element_bits p.elements ++ (group_bits assignment_bits p.assignments ++ (group_bits association_bits p.associations
    ++ (group_bits prohibition_bits p.prohibitions ++ (group_bits process_bits p.processes ++ rest)))))
unfolding image_bits head_bits
image_written p rest = simp append_assoc

-- the form is 1
pub form_is_one : (p : Policy) (rest : List Bool) → num_at (image_bits p ++ rest) 0 4 ≡ 1
form_is_one p rest = ap (λ (fs : List Field). nth fs 0) (fields_read ((4 wide 1) ∷ []) 0 (image_bits p ++ rest) _ (omega arith) (image_written p rest))

-- a sound policy in front of any bits is read, and those bits are left
pub read_policy_lem : (p : Policy) → Sound p → (rest : List Bool) → read_policy (image_bits p ++ rest) ≡ reading p rest
unfolding read_policy read_elements read_assignments read_associations read_prohibitions read_processes
read_policy_lem p s rest =
    let c = counts p s in
    let r = each_right p s.fields in
    let l : List Bool = image_bits p ++ rest in
    let b₅ : List Bool = group_bits process_bits p.processes ++ rest in
    let b₄ : List Bool = group_bits prohibition_bits p.prohibitions ++ b₅ in
    let b₃ : List Bool = group_bits association_bits p.associations ++ b₄ in
    let b₂ : List Bool = group_bits assignment_bits p.assignments ++ b₃ in
    let b₁ : List Bool = group_bits element_bits p.elements ++ b₂ in
    let w : l ≡ fields_then (head_fields p) b₁ = image_written p rest in
    let f : fields_at 0 head_widths l ≡ head_fields p = fields_read (head_fields p) 0 l b₁ (omega arith) w in
    let d : drop 50 l ≡ b₁ = fields_past (head_fields p) 0 l b₁ w in
    let e₁ = read_group_at read_element_lem p.elements (num_at l 4 9) (drop 50 l) b₂ r.elements (λ i. nth (f i) 1) d in
    let e₂ = read_group_at read_assignment_lem p.assignments (num_at l 13 11) (read_elements l).rest b₃ r.assignments (λ i. nth (f i) 2) (λ i. (e₁ i).rest) in
    let e₃ = read_group_at read_association_lem p.associations (num_at l 24 10) (read_assignments l).rest b₄ r.associations (λ i. nth (f i) 3) (λ i. (e₂ i).rest) in
    let e₄ = read_group_at read_prohibition_lem p.prohibitions (num_at l 34 8) (read_associations l).rest b₅ r.prohibitions (λ i. nth (f i) 4) (λ i. (e₃ i).rest) in
    let e₅ = read_group_at read_process_lem p.processes (num_at l 42 8) (read_prohibitions l).rest rest r.processes (λ i. nth (f i) 5) (λ i. (e₄ i).rest) in
    λ i. record {
      value = record { elements = (e₁ i).value; assignments = (e₂ i).value; associations = (e₃ i).value; prohibitions = (e₄ i).value; processes = (e₅ i).value };
      rest = (e₅ i).rest;
    }

-- bits of form 1 that are long enough for the policy read of them are its image's bits, and those left
pub policy_again : (l : List Bool) → num_at l 0 4 ≡ 1 → length (image_bits (read_policy l).value) ≤ length l
    → l ≡ image_bits (read_policy l).value ++ (read_policy l).rest
unfolding read_policy read_elements read_assignments read_associations read_prohibitions read_processes image_bits
policy_again l one h =
    let p : Policy = (read_policy l).value in
    let b₅ : List Bool = group_bits process_bits p.processes in
    let b₄ : List Bool = group_bits prohibition_bits p.prohibitions ++ b₅ in
    let b₃ : List Bool = group_bits association_bits p.associations ++ b₄ in
    let b₂ : List Bool = group_bits assignment_bits p.assignments ++ b₃ in
    let b₁ : List Bool = group_bits element_bits p.elements ++ b₂ in
    let n : length (head_bits p ++ b₁) ≡ 50 + length b₁ = rw (head_written p b₁) (length_fields (head_fields p) b₁) in
    let k : length b₁ ≤ length (drop 50 l) = rw (length-drop 50 l) (omega arith) in
    let t₁ = read_then (read_group_lem read_element_lem (num_at l 4 9)) (drop 50 l) b₂ k in
    let t₂ = read_then (read_group_lem read_assignment_lem (num_at l 13 11)) (read_elements l).rest b₃ t₁.1 in
    let t₃ = read_then (read_group_lem read_association_lem (num_at l 24 10)) (read_assignments l).rest b₄ t₂.1 in
    let t₄ = read_then (read_group_lem read_prohibition_lem (num_at l 34 8)) (read_associations l).rest b₅ t₃.1 in
    let t₅ = (read_group_lem read_process_lem (num_at l 42 8)).again (read_prohibitions l).rest t₄.1 in
    let f : head_fields p ≡ fields_at 0 head_widths l =
    rw (
      one,
      group_count read_element (num_at l 4 9) (drop 50 l),
      group_count read_assignment (num_at l 13 11) (read_elements l).rest,
      group_count read_association (num_at l 24 10) (read_assignments l).rest,
      group_count read_prohibition (num_at l 34 8) (read_associations l).rest,
      group_count read_process (num_at l 42 8) (read_prohibitions l).rest,
    ) in
    let e : fields_then (head_fields p) (drop 50 l) ≡ l =
    ap (λ (fs : List Field). fields_then fs (drop 50 l)) f ∙ fields_written head_widths 0 l (omega arith) in
    sym (image_written p (read_policy l).rest ∙ rw (← t₅, ← t₄.0, ← t₃.0, ← t₂.0, ← t₁.0) e)
