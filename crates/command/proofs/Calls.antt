-- Each command's call, step by step: what the store and the index ask, and that what they leave is what the contract allows.
-- Assumes nothing.
use mathlib.Core.Path.{◌≡◌, refl, ap, ◌∙◌}
use mathlib.Core.Bool.{Bool, true, false}
use mathlib.Core.List.{List}
use Prim.Native.Nat.{ℕ, ◌≤◌, ◌<◌}
use native.Mathlib.Omega.{arith}
use borrow.Author.Tests.{lt-leb}
use lib.Dec.{leb}
use lib.ListN.{length}
use Rattle.model.specs.Policy.{Association, Prohibition, is_assigned}
use Rattle.model.specs.Refusal.{answer, accepted as made_so}
use Rattle.model.specs.Command.{Command, create_class, create_element, assign, deassign, delete_element, create_association, delete_association, create_prohibition, delete_prohibition, start_process, end_process}
use Rattle.model.specs.Index.{index_of}
use Rattle.model.specs.Calls.{kept, changes_containment}
use Rattle.table.specs.Layout.{word}
use Rattle.table.specs.View.{policy_of}
use Rattle.table.specs.Facts.{Table}
use Rattle.table.specs.Answers.{Left, left}
use Rattle.std.specs.Prelude.{Result, Ok, Err}
use Rattle.answer.specs.declared.Refusal.{Refusal}
use Rattle.answer.specs.Answers as answers
use Rattle.answer.specs.Answers.{number_of}
use Rattle.answer.proofs.Told.{number_low}
use Rattle.table.proofs.Outcomes.{never}
use Rattle.store.specs.Words.{with_kind, with_user, with_assignment, without_assignment, without_assignments_of, without_association, added, added_assignment, added_association}
use Rattle.store.specs.ProhibitionWords.{Storable, without_prohibition, added_prohibition}
use Rattle.store.proofs.Assigned.{assignments_less_table}
use Rattle.refusals.specs.Numbers.{refusal_of}
use Rattle.refusals.proofs.Accepts.{accepts_none, accepts_table, accepts_index, refuses_first}
use Rattle.table.proofs.Counted.{assignments_long, associations_long, prohibitions_long}
use Rattle.command.specs.Commanded.{words_after, Commanded}
use Rattle.command.proofs.Accepted.{new_class, NewElement, new_element, NewAssignment, new_assignment, old_assignment, old_element, NewAssociation, new_association, OldAssociation, old_association, NewProhibition, new_prohibition, old_prohibition, new_process, old_process}
use Rattle.command.proofs.Policies.{first_table, still_unassigned, still_room, holds_after}
use Rattle.command.proofs.Performed.{Accepted, accepted_call, refused_so, done_so}

-- an association, by its fields
abbrev pub association : (attribute target rights : ℕ) → Association
association attribute target rights = record { attribute = attribute; target = target; rights = rights }

-- a record more where there is room
room_taken : (r : Result (Unit {0}) Refusal) {m more : List ℕ} (words : List ℕ) (full : Bool) → full ≡ false → left r m ≡ added full more words → m ≡ more
unfolding added answer kept
room_taken r words full h e = ap (λ (a : Left). a.words) e ∙ rw h refl

-- and then the store does not refuse it
room_left : {A : Type 0} (s : Refusal) {m : List ℕ} (more words : List ℕ) (full : Bool) → full ≡ false → left (Err s) m ≡ added full more words → A
unfolding added answer kept answers.told
room_left s {m} more words full h e =
    let told : answers.told {A = List ℕ} (λ (u : Unit {0}). m) (Err s) ≡ made_so more = ap (λ (a : Left). a.answers) e ∙ rw h refl in never (cc)

-- A call on these words, and what was told of its refusal.
module _ (mem : List ℕ) where
  -- it is refused
  pub call_refused : (idx : List ℕ) (c : Command) (s : Refusal) → number_of s ≡ refusal_of mem (length idx) c → Commanded mem idx c (Err s) mem idx
  call_refused idx c s e = refused_so mem idx c s (refuses_first mem (length idx) c e (number_low s))

  -- It is not, with an index of `size` bytes.
  module _ (size : ℕ) (c : Command) (e : 0 ≡ refusal_of mem size c) where
    -- the memory holds a table
    pub call_table : Table mem
    call_table = accepts_table mem size c e (omega arith)

    -- the index has its length
    pub call_index : size ≡ 32768
    call_index = accepts_index mem size c e (omega arith)

    accepted : Accepted mem size c
    accepted = accepted_call (accepts_none mem size c e (omega arith))

    -- the words after the command are a table
    made : {mem' : List ℕ} → mem' ≡ words_after mem c → Table mem'
    made w = let a = accepted in rw w (holds_after a.table c a.lines).table

  -- It is not: the command is done, with its index built anew or left.
  module _ (idx : List ℕ) (c : Command) (e : 0 ≡ refusal_of mem (length idx) c) {mem' : List ℕ} (w : mem' ≡ words_after mem c) where
    done_filled : {idx' : List ℕ} → changes_containment c ≡ true → idx' ≡ index_of (policy_of mem') → Commanded mem idx c (Ok tt) mem' idx'
    done_filled t i = done_so mem idx c (accepts_none mem (length idx) c e (omega arith)) w (rw t i)

    done_left : changes_containment c ≡ false → Commanded mem idx c (Ok tt) mem' idx
    done_left t = done_so mem idx c (accepts_none mem (length idx) c e (omega arith)) w (rw t refl)

  -- Create class.
  module _ (size x : ℕ) (e : 0 ≡ refusal_of mem size (create_class x)) where
    pub class_id : x < 512
    class_id = omega (arith, (new_class (policy_of mem) (accepted size (create_class x) e).lines).id.high)

    pub class_table : {mem' : List ℕ} → mem' ≡ with_kind x 5 mem → Table mem'
    unfolding words_after
    class_table w = made size (create_class x) e w

  module _ (idx : List ℕ) (x : ℕ) (e : 0 ≡ refusal_of mem (length idx) (create_class x)) where
    pub class_done : {mem' idx' : List ℕ} → mem' ≡ with_kind x 5 mem → idx' ≡ index_of (policy_of mem')
        → Commanded mem idx (create_class x) (Ok tt) mem' idx'
    unfolding words_after changes_containment
    class_done w i = done_filled idx (create_class x) e w refl i

  -- Create element: the element, then its assignment.
  module _ (size x k y : ℕ) (e : 0 ≡ refusal_of mem size (create_element x k y)) where
    new : NewElement (policy_of mem) x k y
    new = new_element (policy_of mem) (accepted size (create_element x k y) e).lines

    pub element_id : x < 512
    element_id = omega (arith, new.id.high)

    pub element_kind : k ≤ 5
    element_kind = new.low_kind

    pub element_container : y < 512
    element_container = omega (arith, new.container.high)

    module _ {mem₁ : List ℕ} (w : mem₁ ≡ with_kind x k mem) where
      pub element_table : Table mem₁
      element_table = rw w (first_table (accepted size (create_element x k y) e).table new)

      pub element_unassigned : is_assigned (policy_of mem₁) x y ≡ false
      element_unassigned = rw w (still_unassigned (accepted size (create_element x k y) e).table new)

      room : word mem₁ 1 < 2000
      room = rw w (still_room (accepted size (create_element x k y) e).table new)

      pub element_room : {A : Type 0} (s : Refusal) {mem' : List ℕ} → left (Err s) mem' ≡ added_assignment x y mem₁ → A
      element_room s v = room_left s _ mem₁ (leb 2000 (word mem₁ 1)) (lt-leb 2000 (word mem₁ 1) room) v

      module _ (r : Result (Unit {0}) Refusal) {mem' : List ℕ} (v : left r mem' ≡ added_assignment x y mem₁) where
        element_words : mem' ≡ words_after mem (create_element x k y)
        unfolding words_after
        element_words = room_taken r mem₁ (leb 2000 (word mem₁ 1)) (lt-leb 2000 (word mem₁ 1) room) v ∙ ap (with_assignment x y) w

        pub element_made : Table mem'
        element_made = made size (create_element x k y) e element_words

  module _ (idx : List ℕ) (x k y : ℕ) (e : 0 ≡ refusal_of mem (length idx) (create_element x k y)) where
    pub element_done : {mem₁ : List ℕ} → mem₁ ≡ with_kind x k mem → (r : Result (Unit {0}) Refusal) {mem' : List ℕ} → left r mem' ≡ added_assignment x y mem₁
        → {idx' : List ℕ} → idx' ≡ index_of (policy_of mem') → Commanded mem idx (create_element x k y) (Ok tt) mem' idx'
    unfolding changes_containment
    element_done w r v i = done_filled idx (create_element x k y) e (element_words (length idx) x k y e w r v) refl i

  -- Assign.
  module _ (size x y : ℕ) (e : 0 ≡ refusal_of mem size (assign x y)) where
    assigns : NewAssignment (policy_of mem) x y
    assigns = new_assignment (policy_of mem) (accepted size (assign x y) e).lines

    pub assign_child : x < 512
    assign_child = omega (arith, assigns.child.high)

    pub assign_container : y < 512
    assign_container = omega (arith, assigns.container.high)

    pub assign_unassigned : is_assigned (policy_of mem) x y ≡ false
    assign_unassigned = assigns.unassigned

    full : leb 2000 (word mem 1) ≡ false
    full = lt-leb 2000 (word mem 1) (omega (arith, assignments_long mem, assigns.room))

    pub assign_room : {A : Type 0} (s : Refusal) {mem' : List ℕ} → left (Err s) mem' ≡ added_assignment x y mem → A
    assign_room s v = room_left s _ mem (leb 2000 (word mem 1)) full v

    module _ (r : Result (Unit {0}) Refusal) {mem' : List ℕ} (v : left r mem' ≡ added_assignment x y mem) where
      assign_words : mem' ≡ words_after mem (assign x y)
      unfolding words_after
      assign_words = room_taken r mem (leb 2000 (word mem 1)) full v

      pub assign_table : Table mem'
      assign_table = made size (assign x y) e assign_words

  module _ (idx : List ℕ) (x y : ℕ) (e : 0 ≡ refusal_of mem (length idx) (assign x y)) where
    pub assign_done : (r : Result (Unit {0}) Refusal) {mem' idx' : List ℕ} → left r mem' ≡ added_assignment x y mem → idx' ≡ index_of (policy_of mem')
        → Commanded mem idx (assign x y) (Ok tt) mem' idx'
    unfolding changes_containment
    assign_done r v i = done_filled idx (assign x y) e (assign_words (length idx) x y e r v) refl i

  -- Deassign.
  module _ (size x y : ℕ) (e : 0 ≡ refusal_of mem size (deassign x y)) where
    pub deassign_child : x < 512
    deassign_child = omega (arith, (old_assignment (policy_of mem) (accepted size (deassign x y) e).lines).child.high)

    pub deassign_container : y < 512
    deassign_container = omega (arith, (old_assignment (policy_of mem) (accepted size (deassign x y) e).lines).container.high)

    pub deassign_table : {mem' : List ℕ} → mem' ≡ without_assignment x y mem → Table mem'
    unfolding words_after
    deassign_table w = made size (deassign x y) e w

  module _ (idx : List ℕ) (x y : ℕ) (e : 0 ≡ refusal_of mem (length idx) (deassign x y)) where
    pub deassign_done : {mem' idx' : List ℕ} → mem' ≡ without_assignment x y mem → idx' ≡ index_of (policy_of mem')
        → Commanded mem idx (deassign x y) (Ok tt) mem' idx'
    unfolding words_after changes_containment
    deassign_done w i = done_filled idx (deassign x y) e w refl i

  -- Delete element: its assignments, then the element.
  module _ (size x : ℕ) (e : 0 ≡ refusal_of mem size (delete_element x)) where
    pub delete_id : x < 512
    delete_id = omega (arith, (old_element (policy_of mem) (accepted size (delete_element x) e).lines).high)

    module _ {mem₁ : List ℕ} (w : mem₁ ≡ without_assignments_of x mem) where
      pub delete_table : Table mem₁
      delete_table = rw w (assignments_less_table (accepted size (delete_element x) e).table x)

      module _ {mem' : List ℕ} (v : mem' ≡ with_kind x 0 mem₁) where
        delete_words : mem' ≡ words_after mem (delete_element x)
        unfolding words_after
        delete_words = v ∙ ap (with_kind x 0) w

        pub delete_made : Table mem'
        delete_made = made size (delete_element x) e delete_words

  module _ (idx : List ℕ) (x : ℕ) (e : 0 ≡ refusal_of mem (length idx) (delete_element x)) where
    pub delete_done : {mem₁ mem' idx' : List ℕ} → mem₁ ≡ without_assignments_of x mem → mem' ≡ with_kind x 0 mem₁ → idx' ≡ index_of (policy_of mem')
        → Commanded mem idx (delete_element x) (Ok tt) mem' idx'
    unfolding changes_containment
    delete_done w v i = done_filled idx (delete_element x) e (delete_words (length idx) x e w v) refl i

  -- Create association.
  module _ (size attribute target rights : ℕ)
      (e : 0 ≡ refusal_of mem size (create_association (association attribute target rights))) where
    associates : NewAssociation (policy_of mem) (association attribute target rights)
    associates = new_association (policy_of mem) (accepted size (create_association (association attribute target rights)) e).lines

    pub association_attribute : attribute < 512
    association_attribute = omega (arith, associates.attribute.high)

    pub association_target : target < 512
    association_target = omega (arith, associates.target.high)

  module _ (idx : List ℕ) (a : Association) (e : 0 ≡ refusal_of mem (length idx) (create_association a)) where
    full_associations : leb 1000 (word mem 2) ≡ false
    full_associations =
        let f = new_association (policy_of mem) (accepted (length idx) (create_association a) e).lines in
        lt-leb 1000 (word mem 2) (omega (arith, associations_long mem, f.room))

    pub association_room : {A : Type 0} (s : Refusal) {mem' : List ℕ} → left (Err s) mem' ≡ added_association a mem → A
    association_room s v = room_left s _ mem (leb 1000 (word mem 2)) full_associations v

    pub association_done : (r : Result (Unit {0}) Refusal) {mem' : List ℕ} → left r mem' ≡ added_association a mem → Commanded mem idx (create_association a) (Ok tt) mem' idx
    unfolding words_after changes_containment
    association_done r v = done_left idx (create_association a) e (room_taken r mem (leb 1000 (word mem 2)) full_associations v) refl

  -- Delete association.
  module _ (size attribute target rights : ℕ)
      (e : 0 ≡ refusal_of mem size (delete_association (association attribute target rights))) where
    dissociates : OldAssociation (policy_of mem) (association attribute target rights)
    dissociates = old_association (policy_of mem) (accepted size (delete_association (association attribute target rights)) e).lines

    pub gone_attribute : attribute < 512
    gone_attribute = omega (arith, dissociates.attribute.high)

    pub gone_target : target < 512
    gone_target = omega (arith, dissociates.target.high)

  module _ (idx : List ℕ) (a : Association) (e : 0 ≡ refusal_of mem (length idx) (delete_association a)) where
    pub association_gone : {mem' : List ℕ} → mem' ≡ without_association a mem → Commanded mem idx (delete_association a) (Ok tt) mem' idx
    unfolding words_after changes_containment
    association_gone w = done_left idx (delete_association a) e w refl

  -- Create prohibition.
  module _ (size : ℕ) (b : Prohibition) (e : 0 ≡ refusal_of mem size (create_prohibition b)) where
    prohibits : NewProhibition (policy_of mem) b
    prohibits = new_prohibition (policy_of mem) (accepted size (create_prohibition b) e).lines

    pub prohibition_storable : Storable b
    prohibition_storable = prohibits.storable

  module _ (idx : List ℕ) (b : Prohibition) (e : 0 ≡ refusal_of mem (length idx) (create_prohibition b)) where
    full_prohibitions : leb 200 (word mem 3) ≡ false
    full_prohibitions = lt-leb 200 (word mem 3) (omega (arith, prohibitions_long mem, (prohibits (length idx) b e).room))

    pub prohibition_room : {A : Type 0} (s : Refusal) {mem' : List ℕ} → left (Err s) mem' ≡ added_prohibition b mem → A
    prohibition_room s v = room_left s _ mem (leb 200 (word mem 3)) full_prohibitions v

    pub prohibition_done : (r : Result (Unit {0}) Refusal) {mem' : List ℕ} → left r mem' ≡ added_prohibition b mem
        → Commanded mem idx (create_prohibition b) (Ok tt) mem' idx
    unfolding words_after changes_containment
    prohibition_done r v = done_left idx (create_prohibition b) e (room_taken r mem (leb 200 (word mem 3)) full_prohibitions v) refl

  -- Delete prohibition.
  module _ (size : ℕ) (b : Prohibition) (e : 0 ≡ refusal_of mem size (delete_prohibition b)) where
    pub gone_storable : Storable b
    gone_storable = (old_prohibition (policy_of mem) (accepted size (delete_prohibition b) e).lines).storable

  module _ (idx : List ℕ) (b : Prohibition) (e : 0 ≡ refusal_of mem (length idx) (delete_prohibition b)) where
    pub prohibition_gone : {mem' : List ℕ} → mem' ≡ without_prohibition b mem → Commanded mem idx (delete_prohibition b) (Ok tt) mem' idx
    unfolding words_after changes_containment
    prohibition_gone w = done_left idx (delete_prohibition b) e w refl

  -- Start process.
  module _ (size i u : ℕ) (e : 0 ≡ refusal_of mem size (start_process i u)) where
    pub process_id : i < 256
    process_id = omega (arith, (new_process (policy_of mem) (accepted size (start_process i u) e).lines).id.high)

    pub process_user : u < 512
    process_user = omega (arith, (new_process (policy_of mem) (accepted size (start_process i u) e).lines).low_owner)

  module _ (idx : List ℕ) (i u : ℕ) (e : 0 ≡ refusal_of mem (length idx) (start_process i u)) where
    pub process_done : {mem' : List ℕ} → mem' ≡ with_user i u mem → Commanded mem idx (start_process i u) (Ok tt) mem' idx
    unfolding words_after changes_containment
    process_done w = done_left idx (start_process i u) e w refl

  -- End process.
  module _ (size i : ℕ) (e : 0 ≡ refusal_of mem size (end_process i)) where
    pub ended_id : i < 256
    ended_id = omega (arith, (old_process (policy_of mem) (accepted size (end_process i) e).lines).high)

  module _ (idx : List ℕ) (i : ℕ) (e : 0 ≡ refusal_of mem (length idx) (end_process i)) where
    pub process_gone : {mem' : List ℕ} → mem' ≡ with_user i 0 mem → Commanded mem idx (end_process i) (Ok tt) mem' idx
    unfolding words_after changes_containment
    process_gone w = done_left idx (end_process i) e w refl
