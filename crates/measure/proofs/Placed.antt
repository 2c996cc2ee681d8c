-- Where the groups of an image are read, and how many bits its fields take, all counts taken as written.
-- Assumes nothing.
use mathlib.Core.Path.{◌≡◌, refl, ap, ◌∙◌}
use mathlib.Core.Bool.{Bool}
use mathlib.Core.List.{List}
use Prim.Native.Nat.{ℕ, zero, suc, ◌+◌, ◌*◌, ◌≤◌}
use native.Mathlib.Nat.{add_assoc}
use native.Mathlib.Omega.{arith}
use lib.ListN.{length, drop}
use lib.Seq.{drop-drop}
use Rattle.model.specs.Bits.{num_at}
use Rattle.model.specs.Image.{Reading, image_bits, read_element, read_assignment, read_association, read_ids, read_prohibition, read_process, read_group, read_elements, read_assignments, read_associations, read_prohibitions, read_processes, read_policy}
use Rattle.model.proofs.Image.Groups.{group_count}
use Rattle.model.proofs.Image.Lengths.{size_of, bits_length}
use Rattle.model.proofs.Image.Prohibitions.{ids_count}
use Rattle.measure.specs.Places.{elements_in, assignments_in, associations_in, prohibitions_in, processes_in, assignments_at, associations_at, prohibitions_at, processes_at, listed_at, behind, end_at}

-- a number behind some bits stands that much further in all of them
pub at_drop : (l : List Bool) (at i n : ℕ) → num_at (drop at l) i n ≡ num_at l (at + i) n
unfolding num_at
at_drop l at i n = rw (drop-drop i at l)

-- what is left behind a group of records that take w bits each
fixed_rest : {A : Type 0} (read : List Bool → Reading A) (w : ℕ) → ((l : List Bool) → (read l).rest ≡ drop w l) → (l : List Bool) (at n : ℕ)
    → (read_group read n (drop at l)).rest ≡ drop (at + w * n) l
unfolding read_group
fixed_rest read w h l at zero = let m : at ≡ at + w * 0 = omega arith in ap (λ (k : ℕ). drop k l) m
fixed_rest read w h l at (suc n) =
    let e : (read (drop at l)).rest ≡ drop (at + w) l = h (drop at l) ∙ drop-drop w at l in
    let m : at + w + w * n ≡ at + w * suc n = omega arith in
    ap (λ (k : List Bool). (read_group read n k).rest) e ∙ fixed_rest read w h l (at + w) n ∙ ap (λ (k : ℕ). drop k l) m

-- what is left behind the elements
pub elements_rest : (l : List Bool) (at n : ℕ) → (read_group read_element n (drop at l)).rest ≡ drop (at + 12 * n) l
unfolding read_element
elements_rest = fixed_rest read_element 12 (λ l. refl)

-- behind the assignments
pub assignments_rest : (l : List Bool) (at n : ℕ) → (read_group read_assignment n (drop at l)).rest ≡ drop (at + 18 * n) l
unfolding read_assignment
assignments_rest = fixed_rest read_assignment 18 (λ l. refl)

-- behind the associations
pub associations_rest : (l : List Bool) (at n : ℕ) → (read_group read_association n (drop at l)).rest ≡ drop (at + 50 * n) l
unfolding read_association
associations_rest = fixed_rest read_association 50 (λ l. refl)

-- behind one prohibition, which takes 9 bits more for each id that it lists
pub prohibition_rest : (l : List Bool) (at : ℕ) → (read_prohibition (drop at l)).rest ≡ drop (at + 50 + 9 * listed_at l at) l
unfolding read_prohibition
prohibition_rest l at =
    rw (at_drop l at 44 3, at_drop l at 47 3, drop-drop (50 + 9 * listed_at l at) at l, ← add_assoc at 50 (9 * listed_at l at))

-- behind the prohibitions
pub prohibitions_rest : (l : List Bool) (at n : ℕ) → (read_group read_prohibition n (drop at l)).rest ≡ drop (behind l at n) l
unfolding read_group behind
prohibitions_rest l at zero = refl
prohibitions_rest l at (suc n) =
    ap (λ (k : List Bool). (read_group read_prohibition n k).rest) (prohibition_rest l at) ∙ prohibitions_rest l (at + 50 + 9 * listed_at l at) n

-- behind the processes
pub processes_rest : (l : List Bool) (at n : ℕ) → (read_group read_process n (drop at l)).rest ≡ drop (at + 17 * n) l
unfolding read_process
processes_rest = fixed_rest read_process 17 (λ l. refl)

-- what is left behind each group of the image
elements_left : (l : List Bool) → (read_elements l).rest ≡ drop (assignments_at l) l
unfolding read_elements
elements_left l = elements_rest l 50 (elements_in l)

assignments_left : (l : List Bool) → (read_assignments l).rest ≡ drop (associations_at l) l
unfolding read_assignments
assignments_left l = rw (elements_left l) (assignments_rest l (assignments_at l) (assignments_in l))

associations_left : (l : List Bool) → (read_associations l).rest ≡ drop (prohibitions_at l) l
unfolding read_associations
associations_left l = rw (assignments_left l) (associations_rest l (associations_at l) (associations_in l))

prohibitions_left : (l : List Bool) → (read_prohibitions l).rest ≡ drop (processes_at l) l
unfolding read_prohibitions
prohibitions_left l = rw (associations_left l) (prohibitions_rest l (prohibitions_at l) (prohibitions_in l))

-- the elements are read behind the head
pub elements_in_lem : (l : List Bool) → (read_policy l).value.elements ≡ (read_group read_element (elements_in l) (drop 50 l)).value
unfolding read_policy read_elements
elements_in_lem l = refl

-- the assignments at their place
pub assignments_in_lem : (l : List Bool) → (read_policy l).value.assignments ≡ (read_group read_assignment (assignments_in l) (drop (assignments_at l) l)).value
unfolding read_policy read_assignments
assignments_in_lem l = rw (elements_left l)

-- the associations at theirs
pub associations_in_lem : (l : List Bool) → (read_policy l).value.associations ≡ (read_group read_association (associations_in l) (drop (associations_at l) l)).value
unfolding read_policy read_associations
associations_in_lem l = rw (assignments_left l)

-- the prohibitions at theirs
pub prohibitions_in_lem : (l : List Bool) → (read_policy l).value.prohibitions ≡ (read_group read_prohibition (prohibitions_in l) (drop (prohibitions_at l) l)).value
unfolding read_policy read_prohibitions
prohibitions_in_lem l = rw (associations_left l)

-- the processes at theirs
pub processes_in_lem : (l : List Bool) → (read_policy l).value.processes ≡ (read_group read_process (processes_in l) (drop (processes_at l) l)).value
unfolding read_policy read_processes
processes_in_lem l = rw (prohibitions_left l)

-- a prohibition lists as many ids as are read
listed_count : (l : List Bool) (at : ℕ)
    → length (read_prohibition (drop at l)).value.inclusion + length (read_prohibition (drop at l)).value.exclusion ≡ listed_at l at
unfolding read_prohibition
listed_count l at =
    let d : List Bool = drop at l in
    let i : length (read_ids (num_at d 44 3) (drop 50 d)) ≡ num_at l (at + 44) 3 = ids_count (num_at d 44 3) (drop 50 d) ∙ at_drop l at 44 3 in
    let j : length (read_ids (num_at d 47 3) (drop (50 + 9 * num_at d 44 3) d)) ≡ num_at l (at + 47) 3 =
    ids_count (num_at d 47 3) (drop (50 + 9 * num_at d 44 3) d) ∙ at_drop l at 47 3 in
    omega arith

-- the prohibitions that are read take the bits up to the place behind them
sizes_behind : (l : List Bool) (at n : ℕ) → at + size_of (read_group read_prohibition n (drop at l)).value ≡ behind l at n
unfolding read_group behind size_of
sizes_behind l at zero = omega arith
sizes_behind l at (suc n) =
    let k : ℕ = at + 50 + 9 * listed_at l at in
    let c = listed_count l at in
    let e : size_of (read_group read_prohibition n (read_prohibition (drop at l)).rest).value ≡ size_of (read_group read_prohibition n (drop k l)).value =
    ap (λ (d : List Bool). size_of (read_group read_prohibition n d).value) (prohibition_rest l at) in
    let h : k + size_of (read_group read_prohibition n (drop k l)).value ≡ behind l k n = sizes_behind l k n in
    omega arith

-- the fields of the policy that is read take the bits up to the place behind the last of them
pub bits_taken : (l : List Bool) → length (image_bits (read_policy l).value) ≡ end_at l
bits_taken l =
    let e1 : length (read_policy l).value.elements ≡ elements_in l = rw (elements_in_lem l) (group_count read_element (elements_in l) (drop 50 l)) in
    let e2 : length (read_policy l).value.assignments ≡ assignments_in l = rw (assignments_in_lem l) (group_count read_assignment (assignments_in l) (drop (assignments_at l) l)) in
    let e3 : length (read_policy l).value.associations ≡ associations_in l =
    rw (associations_in_lem l) (group_count read_association (associations_in l) (drop (associations_at l) l)) in
    let e4 : prohibitions_at l + size_of (read_policy l).value.prohibitions ≡ processes_at l =
    rw (prohibitions_in_lem l) (sizes_behind l (prohibitions_at l) (prohibitions_in l)) in
    let e5 : length (read_policy l).value.processes ≡ processes_in l = rw (processes_in_lem l) (group_count read_process (processes_in l) (drop (processes_at l) l)) in
    bits_length (read_policy l).value ∙ omega arith

-- what is left behind the whole
pub left_behind : (l : List Bool) → (read_policy l).rest ≡ drop (end_at l) l
unfolding read_policy read_processes
left_behind l = rw (prohibitions_left l) (processes_rest l (processes_at l) (processes_in l))

-- a prohibition takes 50 bits or more
pub behind_more : (l : List Bool) (at n : ℕ) → at + 50 * n ≤ behind l at n
unfolding behind
behind_more l at zero = omega arith
behind_more l at (suc n) = let h = behind_more l (at + 50 + 9 * listed_at l at) n in omega arith
