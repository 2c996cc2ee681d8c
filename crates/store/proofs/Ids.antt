-- Elements and processes: the policy after one word that stands by id is set.
-- Assumes nothing.
use mathlib.Core.Path.{◌≡◌, refl, ap, ◌∙◌, sym}
use mathlib.Core.Bool.{Bool, true, false}
use mathlib.Core.List.{List, [], ◌∷◌}
use mathlib.Core.Logic.{inr, ⊎_elim}
use Prim.Native.Nat.{ℕ, suc, ◌+◌, ◌-◌, ◌≤◌, ◌<◌}
use native.Mathlib.Omega.{arith}
use lib.Dec.{eqb}
use lib.ListN.{length, set, length-set}
use lib.Seq.{get_or-set_same, get_or-set_other}
use Rattle.model.specs.Lists.{those, less_first, tabulate, put}
use Rattle.model.specs.Policy.{Element, Process, element_key, process_key, is_kind, is_element_id, kind_of, user_of, with_elements, with_processes, is_there}
use Rattle.table.specs.Layout.{word, kind_word, user_word}
use Rattle.table.specs.View.{elements_of, processes_of, policy_of}
use Rattle.table.specs.Facts.{Table}
use Rattle.table.proofs.ById.{there_by_word, owned_by_word}
use Rattle.store.specs.Words.{with_kind, with_user}
use Rattle.store.proofs.Frames.{Else, head_stays, elements_stay, processes_stay, assignments_stay, rising_stays, small_stays, associations_stay, prohibitions_stay, short_stays}
use Rattle.store.proofs.Slots.{slot_put, slot_less}

-- an element that is not there has no kind in its word
not_kind : (mem : List ℕ) (x : ℕ) → 1 ≤ x → x ≤ 511 → kind_of (policy_of mem) x ≡ 0 → is_kind (kind_word mem x) ≡ false
unfolding is_there
not_kind mem x l h z = sym (there_by_word mem x l h) ∙ rw z

-- a process that is not there has no user in its word
not_user : (mem : List ℕ) (i : ℕ) → 1 ≤ i → i ≤ 255 → user_of (policy_of mem) i ≡ 0 → is_element_id (user_word mem i) ≡ false
not_user mem i l h z = sym (owned_by_word mem i l h) ∙ rw z

-- A word below the groups is set: everything else stays (word 4 is free), and the memory is a table.
module _ {mem : List ℕ} (t : Table mem) (at v : ℕ) (low : 8 ≤ at) (high : at < 776) where
  leaves : Else mem (set mem at v) 4 at (at + 1)
  leaves = record {
    long = length-set mem at v;
    at = λ i d h. get_or-set_other mem at i v 0 (λ e. ⊎_elim (λ l. omega arith) (λ l. omega arith) h);
  }

  -- the counts stay
  header : (i : ℕ) → i < 8 → (i ≡ 4 → ⊥) → word (set mem at v) i ≡ word mem i
  header = head_stays t leaves (omega arith) low

  slot_table : Table (set mem at v)
  slot_table = record {
    size = leaves.long ∙ t.size;
    marked = header 0 (omega arith) (λ e. omega arith) ∙ t.marked;
    few_assignments = omega (arith, header 1 (omega arith) (λ e. omega arith), t.few_assignments);
    few_associations = omega (arith, header 2 (omega arith) (λ e. omega arith), t.few_associations);
    few_prohibitions = omega (arith, header 3 (omega arith) (λ e. omega arith), t.few_prohibitions);
    rising = rising_stays t leaves (omega arith) low (λ e. omega arith) (inr (omega arith));
    small = small_stays t leaves (omega arith) low (λ e. omega arith) (inr (omega arith));
    short = short_stays t leaves (omega arith) low (λ e. omega arith) (inr (omega arith));
  }

  -- the groups stay
  slot_rest : policy_of (set mem at v) ≡ with_processes (with_elements (policy_of mem) (elements_of (set mem at v))) (processes_of (set mem at v))
  unfolding policy_of
  slot_rest =
      rw (
        assignments_stay t leaves (omega arith) low (λ e. omega arith) (inr (omega arith)),
        associations_stay t leaves (omega arith) low (λ e. omega arith) (inr (omega arith)),
        prohibitions_stay t leaves (omega arith) low (λ e. omega arith) (inr (omega arith)),
      ) refl

-- Records by id from a place in the words on: one word set, one record in its place or out.
module _ {A : Type 0} (id : A → ℕ) (make : (i value : ℕ) → A) (numbered : (i v : ℕ) → id (make i v) ≡ i) (good : A → Bool) (base n : ℕ) where
  -- the records that the words are
  abbrev listed : List ℕ → List A
  listed mem = those good (tabulate n (λ i. make (suc i) (word mem (base + suc i))))

  module _ (mem : List ℕ) (x v : ℕ) (low : 1 ≤ x) (high : x ≤ n) (long : base + x < length mem) where
    -- only the record of x differs
    others : (j : ℕ) → (j ≡ x - 1 → ⊥) → make (suc j) (word (set mem (base + x) v) (base + suc j)) ≡ make (suc j) (word mem (base + suc j))
    others j d = ap (make (suc j)) (get_or-set_other mem (base + x) (base + suc j) v 0 (λ e. d (omega arith)))

    -- and it has the value that was set
    this : make (suc (x - 1)) (word (set mem (base + x) v) (base + suc (x - 1))) ≡ make x v
    this = let e : suc (x - 1) ≡ x = omega arith in rw e (ap (make x) (get_or-set_same mem (base + x) v 0 long))

    -- a record that was not there is put in its place
    slot_in : good (make x (word mem (base + x))) ≡ false → good (make x v) ≡ true → listed (set mem (base + x) v) ≡ put (λ a. id a ∷ []) (make x v) (listed mem)
    slot_in b g =
        let e : suc (x - 1) ≡ x = omega arith in
        slot_put id good n (x - 1) 1 (λ i. make (suc i) (word mem (base + suc i))) (λ i. make (suc i) (word (set mem (base + x) v) (base + suc i)))
        (λ j. omega (arith, numbered (suc j) (word mem (base + suc j)))) (omega arith) others
        (omega (arith, numbered (suc (x - 1)) (word (set mem (base + x) v) (base + suc (x - 1))))) (rw e b) (ap good this ∙ g)
        ∙ ap (λ a. put (λ a. id a ∷ []) a (listed mem)) this

    -- a record is taken out
    slot_out : good (make x v) ≡ false → listed (set mem (base + x) v) ≡ less_first (λ a. eqb x (id a)) (listed mem)
    slot_out b =
        slot_less id good n (x - 1) 1 x (λ i. make (suc i) (word mem (base + suc i))) (λ i. make (suc i) (word (set mem (base + x) v) (base + suc i)))
        (λ j. omega (arith, numbered (suc j) (word mem (base + suc j)))) (omega arith) others (omega arith) (ap good this ∙ b)

-- The elements.
module _ {mem : List ℕ} (t : Table mem) (x k : ℕ) (low : 1 ≤ x) (high : x ≤ 511) where
  -- the memory is a table
  pub kind_table_lem : Table (with_kind x k mem)
  unfolding with_kind
  kind_table_lem = slot_table t (8 + x) k (omega arith) (omega arith)

  -- the policy but for its elements
  kind_rest : policy_of (set mem (8 + x) k) ≡ with_elements (policy_of mem) (elements_of (set mem (8 + x) k))
  unfolding policy_of
  kind_rest =
      slot_rest t (8 + x) k (omega arith) (omega arith)
      ∙ rw (processes_stay t (leaves t (8 + x) k (omega arith) (omega arith)) (omega arith) (omega arith) (inr (omega arith))) refl

  -- an element by id and kind
  abbrev element : ℕ → ℕ → Element
  element i v = record { id = i; kind = v }

  -- An element that was not there is put in its place.
  pub kind_put : kind_of (policy_of mem) x ≡ 0 → is_kind k ≡ true
      → policy_of (with_kind x k mem) ≡ with_elements (policy_of mem) (put element_key (record { id = x; kind = k }) (policy_of mem).elements)
  unfolding with_kind policy_of elements_of
  kind_put z g = kind_rest ∙ ap (with_elements (policy_of mem)) (slot_in (λ (e : Element). e.id) element (λ i v. refl) (λ e. is_kind e.kind) 8 511 mem x k low high (omega (arith, t.size)) (not_kind mem x low high z) g)

  -- An element is taken out.
  pub kind_less : is_kind k ≡ false → policy_of (with_kind x k mem) ≡ with_elements (policy_of mem) (less_first (λ e. eqb x e.id) (policy_of mem).elements)
  unfolding with_kind policy_of elements_of
  kind_less b = kind_rest ∙ ap (with_elements (policy_of mem)) (slot_out (λ (e : Element). e.id) element (λ i v. refl) (λ e. is_kind e.kind) 8 511 mem x k low high (omega (arith, t.size)) b)

-- The processes.
module _ {mem : List ℕ} (t : Table mem) (p u : ℕ) (low : 1 ≤ p) (high : p ≤ 255) where
  -- the memory is a table
  pub user_table : Table (with_user p u mem)
  unfolding with_user
  user_table = slot_table t (520 + p) u (omega arith) (omega arith)

  -- the policy but for its processes
  user_rest : policy_of (set mem (520 + p) u) ≡ with_processes (policy_of mem) (processes_of (set mem (520 + p) u))
  unfolding policy_of
  user_rest =
      slot_rest t (520 + p) u (omega arith) (omega arith)
      ∙ rw (elements_stay t (leaves t (520 + p) u (omega arith) (omega arith)) (omega arith) (omega arith) (omega arith)) refl

  -- a process by id and user
  abbrev process : ℕ → ℕ → Process
  process i v = record { id = i; owner = v }

  -- A process that was not there is put in its place.
  pub user_put : user_of (policy_of mem) p ≡ 0 → is_element_id u ≡ true
      → policy_of (with_user p u mem) ≡ with_processes (policy_of mem) (put process_key (record { id = p; owner = u }) (policy_of mem).processes)
  unfolding with_user policy_of processes_of
  user_put z g = user_rest ∙ ap (with_processes (policy_of mem)) (slot_in (λ (q : Process). q.id) process (λ i v. refl) (λ q. is_element_id q.owner) 520 255 mem p u low high (omega (arith, t.size)) (not_user mem p low high z) g)

  -- A process is taken out.
  pub user_less : is_element_id u ≡ false → policy_of (with_user p u mem) ≡ with_processes (policy_of mem) (less_first (λ q. eqb p q.id) (policy_of mem).processes)
  unfolding with_user policy_of processes_of
  user_less b = user_rest ∙ ap (with_processes (policy_of mem)) (slot_out (λ (q : Process). q.id) process (λ i v. refl) (λ q. is_element_id q.owner) 520 255 mem p u low high (omega (arith, t.size)) b)
