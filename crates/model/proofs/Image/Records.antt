-- Each record of the image is read back as it was written, and written again as it was read.
-- Assumes nothing.
use mathlib.Core.Path.{refl}
use mathlib.Core.List.{[], ◌∷◌, append_assoc}
use native.Mathlib.Omega.{arith}
use Rattle.model.specs.Policy.{is_element_id, is_process_id, is_kind, is_right_set}
use Rattle.model.specs.Sound.{element_fits, assignment_fits, association_fits, process_fits}
use Rattle.model.specs.Bits.{bits_n}
use Rattle.model.specs.Image.{element_bits, assignment_bits, association_bits, process_bits, read_element, read_assignment, read_association, read_process}
use Rattle.model.proofs.Truth.{and_cut}
use Rattle.model.proofs.Image.Ranges.{id_fits, process_fits_lem, kind_fits, rights_fit}
use Rattle.model.proofs.Image.Truths.{truths}
use Rattle.model.proofs.Image.Fields.{◌wide◌, nth}
use Rattle.model.proofs.Image.Groups.{Reads, Fixed, read_fixed}

-- what an element is made of
pub element_fields_lem : Fixed (9 ∷ 3 ∷ []) element_bits read_element
unfolding element_bits read_element
element_fields_lem =
    record {
      fields = λ e. (9 wide e.id) ∷ (3 wide e.kind) ∷ [];
      made = λ fs. record { id = nth fs 0; kind = nth fs 1 };
      wide = λ e. refl;
      same = λ e. refl;
      kept = λ l. refl;
      written = λ e rest. append_assoc (bits_n 9 e.id) (bits_n 3 e.kind) rest;
      reads = λ l. refl;
    }

-- an element is read back, and written again
pub read_element_lem : Reads element_fits element_bits read_element
unfolding element_fits element_fields_lem
read_element_lem =
    read_fixed element_fields_lem (λ e h.
    let c = and_cut (is_element_id e.id) (is_kind e.kind) h in
    omega (arith, id_fits, kind_fits))

-- what an assignment is made of
pub assignment_fields_lem : Fixed (9 ∷ 9 ∷ []) assignment_bits read_assignment
unfolding assignment_bits read_assignment
assignment_fields_lem =
    record {
      fields = λ a. (9 wide a.child) ∷ (9 wide a.container) ∷ [];
      made = λ fs. record { child = nth fs 0; container = nth fs 1 };
      wide = λ a. refl;
      same = λ a. refl;
      kept = λ l. refl;
      written = λ a rest. append_assoc (bits_n 9 a.child) (bits_n 9 a.container) rest;
      reads = λ l. refl;
    }

-- an assignment likewise
pub read_assignment_lem : Reads assignment_fits assignment_bits read_assignment
unfolding assignment_fits assignment_fields_lem
read_assignment_lem =
    read_fixed assignment_fields_lem (λ a h.
    let c = and_cut (is_element_id a.child) (is_element_id a.container) h in
    omega (arith, id_fits))

-- what an association is made of
pub association_fields_lem : Fixed (9 ∷ 9 ∷ 32 ∷ []) association_bits read_association
unfolding association_bits read_association
association_fields_lem =
    record {
      fields = λ a. (9 wide a.attribute) ∷ (9 wide a.target) ∷ (32 wide a.rights) ∷ [];
      made = λ fs. record { attribute = nth fs 0; target = nth fs 1; rights = nth fs 2 };
      wide = λ a. refl;
      same = λ a. refl;
      kept = λ l. refl;
      written = λ a rest. simp append_assoc;
      reads = λ l. refl;
    }

-- an association likewise
pub read_association_lem : Reads association_fits association_bits read_association
unfolding association_fits association_fields_lem
read_association_lem =
    read_fixed association_fields_lem (λ a h.
    let c = truths (is_element_id a.attribute) (is_element_id a.target ∷ is_right_set a.rights ∷ []) h in
    omega (arith, id_fits, rights_fit))

-- what a process is made of
pub process_fields_lem : Fixed (8 ∷ 9 ∷ []) process_bits read_process
unfolding process_bits read_process
process_fields_lem =
    record {
      fields = λ q. (8 wide q.id) ∷ (9 wide q.owner) ∷ [];
      made = λ fs. record { id = nth fs 0; owner = nth fs 1 };
      wide = λ q. refl;
      same = λ q. refl;
      kept = λ l. refl;
      written = λ q rest. append_assoc (bits_n 8 q.id) (bits_n 9 q.owner) rest;
      reads = λ l. refl;
    }

-- a process likewise
pub read_process_lem : Reads process_fits process_bits read_process
unfolding process_fits process_fields_lem
read_process_lem =
    read_fixed process_fields_lem (λ q h.
    let c = and_cut (is_process_id q.id) (is_element_id q.owner) h in
    omega (arith, process_fits_lem, id_fits))
