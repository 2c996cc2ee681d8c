-- 01, "The image": a policy as bytes, and bytes as a policy.
-- Assumes nothing.
use Rattle.std.specs.Prelude.{Bool, false, not, ◌||◌, List, [], ◌∷◌, ◌++◌, ℕ, zero, suc, ◌+◌, ◌*◌, ◌/◌, eqb, leb, ltb, length, drop}
use Rattle.model.specs.Lists.{all_of}
use Rattle.model.specs.Policy.{Element, Assignment, Association, Prohibition, Process, Policy}
use Rattle.model.specs.Sound.{within_limits, fields_fit, groups_rise, pairs_fit, no_cycle, all_assigned}
use Rattle.model.specs.Refusal.{Line, ◌when◌, Answer, answer}
use Rattle.model.specs.Bits.{bits_n, bits_of, packed, num_at}

-- Writing. "elements: id 9, kind 3."
unfoldable pub element_bits : Element → List Bool
element_bits e = bits_n 9 e.id ++ bits_n 3 e.kind

-- "Assignments: child 9, container 9."
unfoldable pub assignment_bits : Assignment → List Bool
assignment_bits a = bits_n 9 a.child ++ bits_n 9 a.container

-- "Associations: user attribute 9, target 9, rights 32, right 31 first."
unfoldable pub association_bits : Association → List Bool
association_bits a = bits_n 9 a.attribute ++ (bits_n 9 a.target ++ bits_n 32 a.rights)

-- ids of 9 bits each
unfoldable pub id_bits : List ℕ → List Bool
id_bits [] = []
id_bits (x ∷ l) = bits_n 9 x ++ id_bits l

-- "Prohibitions: sort 2, subject 9, form 1, rights 32, inclusion count 3, exclusion count 3, ids 9 each."
unfoldable pub prohibition_bits : Prohibition → List Bool
prohibition_bits b =
    bits_n 2 b.sort ++ (bits_n 9 b.subject ++ (bits_n 1 b.form ++ (bits_n 32 b.rights
    ++ (bits_n 3 (length b.inclusion) ++ (bits_n 3 (length b.exclusion) ++ (id_bits b.inclusion ++ id_bits b.exclusion))))))

-- "Processes: id 8, user 9."
unfoldable pub process_bits : Process → List Bool
process_bits q = bits_n 8 q.id ++ bits_n 9 q.owner

-- the records of a group, one after another
unfoldable pub group_bits : {A : Type 0} → (A → List Bool) → List A → List Bool
group_bits f [] = []
group_bits f (a ∷ l) = f a ++ group_bits f l

-- "Form 4 (value 1); counts of elements 9, assignments 11, associations 10, prohibitions 8, processes 8."
unfoldable pub head_bits : Policy → List Bool
head_bits p =
    bits_n 4 1 ++ (bits_n 9 (length p.elements) ++ (bits_n 11 (length p.assignments) ++ (bits_n 10 (length p.associations)
    ++ (bits_n 8 (length p.prohibitions) ++ bits_n 8 (length p.processes)))))

-- the whole image as bits: the head, then the groups
unfoldable pub image_bits : Policy → List Bool
image_bits p =
    head_bits p ++ (group_bits element_bits p.elements ++ (group_bits assignment_bits p.assignments
    ++ (group_bits association_bits p.associations ++ (group_bits prohibition_bits p.prohibitions ++ group_bits process_bits p.processes))))

-- the image, in bytes
unfoldable pub image_of : Policy → List ℕ
image_of p = packed (image_bits p)

-- Reading, "all counts taken as written": what was read, and the bits behind it. A field cut short is read as the number that its remaining
-- bits spell; `is_cut` then holds of the image.
pub record Reading (A : Type 0) : Type 0 where
  pub value : A
  pub rest : List Bool

-- "id 9, kind 3"
unfoldable pub read_element : List Bool → Reading Element
read_element l = record { value = record { id = num_at l 0 9; kind = num_at l 9 3 }; rest = drop 12 l }

-- "child 9, container 9"
unfoldable pub read_assignment : List Bool → Reading Assignment
read_assignment l = record { value = record { child = num_at l 0 9; container = num_at l 9 9 }; rest = drop 18 l }

-- "user attribute 9, target 9, rights 32"
unfoldable pub read_association : List Bool → Reading Association
read_association l = record { value = record { attribute = num_at l 0 9; target = num_at l 9 9; rights = num_at l 18 32 }; rest = drop 50 l }

-- n ids
unfoldable pub read_ids : ℕ → List Bool → List ℕ
read_ids zero l = []
read_ids (suc n) l = num_at l 0 9 ∷ read_ids n (drop 9 l)

-- "sort 2, subject 9, form 1, rights 32, inclusion count 3, exclusion count 3, ids 9 each"
unfoldable pub read_prohibition : List Bool → Reading Prohibition
read_prohibition l =
    record {
      value = record {
        sort = num_at l 0 2;
        subject = num_at l 2 9;
        form = num_at l 11 1;
        rights = num_at l 12 32;
        inclusion = read_ids (num_at l 44 3) (drop 50 l);
        exclusion = read_ids (num_at l 47 3) (drop (50 + 9 * num_at l 44 3) l);
      };
      rest = drop (50 + 9 * (num_at l 44 3 + num_at l 47 3)) l;
    }

-- "id 8, user 9"
unfoldable pub read_process : List Bool → Reading Process
read_process l = record { value = record { id = num_at l 0 8; owner = num_at l 8 9 }; rest = drop 17 l }

-- n records of a group
unfoldable pub read_group : {A : Type 0} → (List Bool → Reading A) → ℕ → List Bool → Reading (List A)
read_group read zero l = record { value = []; rest = l }
read_group read (suc n) l =
    let more = read_group read n (read l).rest in
    record { value = (read l).value ∷ more.value; rest = more.rest }

-- the groups, behind the head
unfoldable pub read_elements : List Bool → Reading (List Element)
read_elements l = read_group read_element (num_at l 4 9) (drop 50 l)

-- the assignments stand behind the elements, their count is 11 bits of the head
unfoldable pub read_assignments : List Bool → Reading (List Assignment)
read_assignments l = read_group read_assignment (num_at l 13 11) (read_elements l).rest

-- the associations behind those, their count 10 bits
unfoldable pub read_associations : List Bool → Reading (List Association)
read_associations l = read_group read_association (num_at l 24 10) (read_assignments l).rest

-- the prohibitions behind those, their count 8 bits
unfoldable pub read_prohibitions : List Bool → Reading (List Prohibition)
read_prohibitions l = read_group read_prohibition (num_at l 34 8) (read_associations l).rest

-- the processes last, their count 8 bits
unfoldable pub read_processes : List Bool → Reading (List Process)
read_processes l = read_group read_process (num_at l 42 8) (read_prohibitions l).rest

-- the whole
unfoldable pub read_policy : List Bool → Reading Policy
read_policy l =
    record {
      value = record {
        elements = (read_elements l).value;
        assignments = (read_assignments l).value;
        associations = (read_associations l).value;
        prohibitions = (read_prohibitions l).value;
        processes = (read_processes l).value;
      };
      rest = (read_processes l).rest;
    }

-- the policy that an image spells, and the bits behind its fields
abbrev pub policy_in : List ℕ → Policy
policy_in s = (read_policy (bits_of s)).value

-- the bits behind the last field
abbrev pub bits_behind : List ℕ → List Bool
bits_behind s = (read_policy (bits_of s)).rest

-- 11: "the image has a first byte and its form is not 1"
unfoldable pub other_form : List ℕ → Bool
other_form [] = false
other_form (b ∷ s) = not (eqb (b / 16) 1)

-- 12: "image cut, longer than its fields (all counts taken as written), or non-zero filling bits". Cut: the fields, with the counts as they
-- were read, take more bits than the image has.
unfoldable pub is_cut : List ℕ → Bool
is_cut s = ltb (8 * length s) (length (image_bits (policy_in s)))

-- longer: a whole byte or more stands behind the fields
unfoldable pub is_longer : List ℕ → Bool
is_longer s = leb 8 (length (bits_behind s))

-- a filling bit is set
unfoldable pub stray_filling : List ℕ → Bool
stray_filling s = not (all_of not (bits_behind s))

-- 13: "a count, field or order in the image breaks a rule"
unfoldable pub breaks_rule : Policy → Bool
breaks_rule p = not (within_limits p) || not (fields_fit p) || not (groups_rise p)

-- 14: "an image names an unknown element or process, a wrong kind or pairing, a cycle, or an unassigned element"
unfoldable pub names_wrong : Policy → Bool
names_wrong p = not (pairs_fit p) || not (no_cycle p) || not (all_assigned p)

-- "What an image holds is judged by 11 to 14 alone", each over the whole image. 1 is the memory's length alone.
abbrev pub image_lines : List ℕ → List Line
image_lines s =
    (11 when other_form s)
    ∷ (12 when is_cut s || is_longer s || stray_filling s)
    ∷ (13 when breaks_rule (policy_in s))
    ∷ (14 when names_wrong (policy_in s))
    ∷ []

-- The lines of load.
abbrev pub load_lines : (length_fits : Bool) → List ℕ → List Line
load_lines length_fits s = (1 when not length_fits) ∷ image_lines s

-- what an image is read as: a policy, or the refusal number
unfoldable pub read_image : List ℕ → Answer Policy
read_image s = answer (image_lines s) (policy_in s)

-- The lines of save: "the lent .. output bytes are too few"
abbrev pub save_lines : (holds_table : Bool) (room : ℕ) → Policy → List Line
save_lines holds_table room p = (1 when not holds_table) ∷ (10 when ltb room (length (image_of p))) ∷ []
