-- Elements and processes, each laid into the word of its id: where their ids rise they are the policy's.
-- Assumes nothing.
use mathlib.Core.Path.{◌≡◌, refl, sym, ap, ◌∙◌}
use mathlib.Core.Bool.{true, false}
use mathlib.Core.List.{List, [], ◌∷◌, ◌++◌, append-nil}
use Prim.Native.Nat.{ℕ}
use lib.Seq.{append_snoc}
use Rattle.model.specs.Lists.{In, first, later, all_of, before, rising, put}
use Rattle.model.specs.Policy.{Element, Process, Policy, element_key, process_key, is_element_id, is_process_id, is_kind, kind_in, kind_of, owner_in, user_of, empty_policy, with_elements, with_processes}
use Rattle.model.specs.Sound.{element_fits, process_fits}
use Rattle.model.proofs.Truth.{clash, and_cut, fails_when, in_right}
use Rattle.model.proofs.Order.{before_self, before_trans}
use Rattle.model.proofs.Groups.{rising_first, rising_rest}
use Rattle.model.proofs.Image.Ranges.{id_range, process_range}
use Rattle.model.proofs.Commands.Ids.{kinds, owners, read_none}
use Rattle.table.specs.View.{policy_of, empty_table}
use Rattle.table.specs.Facts.{Table}
use Rattle.table.proofs.Empty.{empty_table_lem, empty_policy_lem}
use Rattle.store.specs.Words.{with_kind, with_user}
use Rattle.store.proofs.Ids.{kind_table_lem, kind_put, user_table, user_put}
use Rattle.unpack.specs.Words.{with_kinds, with_users}

module _ {A : Type 0} (key : A → List ℕ) where
  -- each before one that stands behind it, in a group that rises
  rising_behind : {b : A} (l : List A) (a : A) (m : List A) → rising key (l ++ (a ∷ m)) ≡ true → In b l → before (key b) (key a) ≡ true
  rising_behind {b} (c ∷ l) a m e first = rising_first key b (l ++ (a ∷ m)) e (in_right l first)
  rising_behind (c ∷ l) a m e (later i) = rising_behind l a m (rising_rest key c (l ++ (a ∷ m)) e) i
  rising_behind {b = b} [] a m e never = elim never [ ]

  -- so it has another key
  other_key : {b : A} (l : List A) (a : A) (m : List A) → rising key (l ++ (a ∷ m)) ≡ true → In b l → key b ≡ key a → ⊥
  other_key l a m e i q = clash (rising_behind l a m e i) (rw q (before_self (key a)))

  -- one that each other is before is put last
  put_last : (a : A) (l : List A) → ((b : A) → In b l → before (key b) (key a) ≡ true) → put key a l ≡ l ++ (a ∷ [])
  unfolding put
  put_last a [] h = refl
  put_last a (b ∷ l) h =
      let n : before (key a) (key b) ≡ false = fails_when (before (key a) (key b)) (λ t. clash (before_trans (key a) (key b) (key a) t (h b first)) (before_self (key a))) in
      rw n (ap (λ (m : List A). b ∷ m) (put_last a l (λ c i. h c (later i))))

-- the words of elements in a table are a table
kinds_table : (l : List Element) {mem : List ℕ} → Table mem → all_of element_fits l ≡ true → Table (with_kinds l mem)
unfolding with_kinds all_of element_fits
kinds_table [] t h = t
kinds_table (e ∷ l) t h =
    let c = and_cut (element_fits e) (all_of element_fits l) h in
    let r = id_range e.id (and_cut (is_element_id e.id) (is_kind e.kind) c.0).0 in
    kinds_table l (kind_table_lem t e.id e.kind r.0 r.1) c.1

-- laid behind others, they are the elements behind those
kinds_behind : (l done : List Element) {mem : List ℕ} → Table mem → (policy_of mem).elements ≡ done → all_of element_fits l ≡ true → rising element_key (done ++ l) ≡ true
    → policy_of (with_kinds l mem) ≡ with_elements (policy_of mem) (done ++ l)
unfolding with_kinds all_of element_fits kind_of
kinds_behind [] done {mem} t e h r = ap (with_elements (policy_of mem)) (e ∙ sym (append-nil done))
kinds_behind (x ∷ l) done {mem} t e h r =
    let c = and_cut (element_fits x) (all_of element_fits l) h in
    let k = and_cut (is_element_id x.id) (is_kind x.kind) c.0 in
    let i = id_range x.id k.0 in
    let p : policy_of (with_kind x.id x.kind mem) ≡ with_elements (policy_of mem) (done ++ (x ∷ [])) =
    kind_put t x.id x.kind i.0 i.1 absent k.1
    ∙ ap (λ (d : List Element). with_elements (policy_of mem) (put element_key x d)) e
    ∙ ap (with_elements (policy_of mem)) (put_last element_key x done (λ b j. rising_behind element_key done x l r j)) in
    let s : rising element_key ((done ++ (x ∷ [])) ++ l) ≡ true = rw (append_snoc done x l) r in
    kinds_behind l (done ++ (x ∷ [])) (kind_table_lem t x.id x.kind i.0 i.1) (ap (λ (q : Policy). q.elements) p) c.1 s
    ∙ ap (λ (q : Policy). with_elements q ((done ++ (x ∷ [])) ++ l)) p
    ∙ ap (with_elements (policy_of mem)) (append_snoc done x l)
  where
    absent : kind_of (policy_of mem) x.id ≡ 0
    absent = ap (λ (d : List Element). kind_in d x.id) e ∙ read_none kinds done x.id (λ a i q. other_key element_key done x l r i (ap (λ (n : ℕ). n ∷ []) q))

-- the words of processes in a table are a table
users_table : (l : List Process) {mem : List ℕ} → Table mem → all_of process_fits l ≡ true → Table (with_users l mem)
unfolding with_users all_of process_fits
users_table [] t h = t
users_table (q ∷ l) t h =
    let c = and_cut (process_fits q) (all_of process_fits l) h in
    let r = process_range q.id (and_cut (is_process_id q.id) (is_element_id q.owner) c.0).0 in
    users_table l (user_table t q.id q.owner r.0 r.1) c.1

-- laid behind others, they are the processes behind those
users_behind : (l done : List Process) {mem : List ℕ} → Table mem → (policy_of mem).processes ≡ done → all_of process_fits l ≡ true → rising process_key (done ++ l) ≡ true
    → policy_of (with_users l mem) ≡ with_processes (policy_of mem) (done ++ l)
unfolding with_users all_of process_fits user_of
users_behind [] done {mem} t e h r = ap (with_processes (policy_of mem)) (e ∙ sym (append-nil done))
users_behind (x ∷ l) done {mem} t e h r =
    let c = and_cut (process_fits x) (all_of process_fits l) h in
    let k = and_cut (is_process_id x.id) (is_element_id x.owner) c.0 in
    let i = process_range x.id k.0 in
    let p : policy_of (with_user x.id x.owner mem) ≡ with_processes (policy_of mem) (done ++ (x ∷ [])) =
    user_put t x.id x.owner i.0 i.1 absent k.1
    ∙ ap (λ (d : List Process). with_processes (policy_of mem) (put process_key x d)) e
    ∙ ap (with_processes (policy_of mem)) (put_last process_key x done (λ b j. rising_behind process_key done x l r j)) in
    let s : rising process_key ((done ++ (x ∷ [])) ++ l) ≡ true = rw (append_snoc done x l) r in
    users_behind l (done ++ (x ∷ [])) (user_table t x.id x.owner i.0 i.1) (ap (λ (q : Policy). q.processes) p) c.1 s
    ∙ ap (λ (q : Policy). with_processes q ((done ++ (x ∷ [])) ++ l)) p
    ∙ ap (with_processes (policy_of mem)) (append_snoc done x l)
  where
    absent : user_of (policy_of mem) x.id ≡ 0
    absent = ap (λ (d : List Process). owner_in d x.id) e ∙ read_none owners done x.id (λ a i q. other_key process_key done x l r i (ap (λ (n : ℕ). n ∷ []) q))

-- Elements and processes laid into the words of the empty table.
module _ (l : List Element) (m : List Process) (fit : all_of element_fits l ≡ true) (fit' : all_of process_fits m ≡ true) where
  -- the words are a table
  pub ids_table : Table (with_users m (with_kinds l empty_table))
  ids_table = users_table m (kinds_table l empty_table_lem fit) fit'

  -- which is the policy that has them and nothing else
  pub ids_policy : rising element_key l ≡ true → rising process_key m ≡ true
      → policy_of (with_users m (with_kinds l empty_table)) ≡ record { elements = l; assignments = []; associations = []; prohibitions = []; processes = m }
  ids_policy r r' =
      let p : policy_of (with_kinds l empty_table) ≡ with_elements empty_policy l =
      kinds_behind l [] empty_table_lem (ap (λ (q : Policy). q.elements) empty_policy_lem) fit r ∙ ap (λ (q : Policy). with_elements q l) empty_policy_lem in
      users_behind m [] (kinds_table l empty_table_lem fit) (ap (λ (q : Policy). q.processes) p) fit' r' ∙ ap (λ (q : Policy). with_processes q m) p
