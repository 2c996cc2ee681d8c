-- 01, "Each group strictly rises, its fields compared as written": the order of fields is the order of the bits that are written.
-- Assumes nothing.
use mathlib.Core.Path.{◌≡◌, refl, sym, ◌∙◌}
use mathlib.Core.Bool.{Bool, true, false, ◌&&◌, ◌||◌, and-false, or-false}
use mathlib.Core.List.{List, [], ◌∷◌, ◌++◌, append_assoc, append-nil}
use Prim.Native.Nat.{ℕ, zero, suc, ◌+◌, ◌*◌, ◌^◌, ◌<◌}
use native.Mathlib.Nat.{zero-add, suc-add}
use native.Mathlib.Omega.{arith}
use borrow.Author.Tests.{lt-ltb, le-ltb, ne_eqb}
use lib.Dec.{eqb, ltb, leb-suc-suc, eqb-suc-suc}
use lib.ListN.{length}
use Rattle.model.specs.Lists.{all_of, before}
use Rattle.model.specs.Policy.{Element, Assignment, Association, Prohibition, Process, is_element_id, is_process_id, is_kind, is_right_set, element_key, assignment_fields, association_fields, prohibition_fields, process_key}
use Rattle.model.specs.Sound.{element_fits, assignment_fits, association_fits, prohibition_fits, process_fits, listed}
use Rattle.model.specs.Bits.{digit, bits_n, num_of}
use Rattle.model.specs.Image.{element_bits, assignment_bits, association_bits, id_bits, prohibition_bits, process_bits}
use Rattle.model.proofs.Truth.{and_cut, and_left, all_append}
use Rattle.model.proofs.Image.Bits.{length_bits_n, num_bits_n, num_lt}
use Rattle.model.proofs.Image.Prohibitions.{fitting}
use Rattle.model.proofs.Image.Truths.{truths}
use Rattle.model.proofs.Image.Ranges.{id_fits, process_fits_lem, rights_fit}

-- bits compared as written: the first bit that differs decides, 0 before 1
unfoldable pub bits_before : List Bool → List Bool → Bool
bits_before [] [] = false
bits_before [] (y ∷ l) = true
bits_before (x ∷ k) [] = false
bits_before (false ∷ k) (false ∷ l) = bits_before k l
bits_before (false ∷ k) (true ∷ l) = true
bits_before (true ∷ k) (false ∷ l) = false
bits_before (true ∷ k) (true ∷ l) = bits_before k l

-- the same added to two numbers leaves their order
shifted : (c v w : ℕ) (r : Bool) → (ltb (c + v) (c + w) || eqb (c + v) (c + w) && r) ≡ (ltb v w || eqb v w && r)
shifted zero v w r = simp zero-add
shifted (suc c) v w r = simp (suc-add, leb-suc-suc, eqb-suc-suc) (shifted c v w r)

-- the first bit decides, and the rest where it is the same
first_bit : (x y : Bool) (m v w : ℕ) (k l : List Bool) (r : Bool) → v < m → w < m → bits_before k l ≡ (ltb v w || eqb v w && r)
    → bits_before (x ∷ k) (y ∷ l) ≡ (ltb (digit x * m + v) (digit y * m + w) || eqb (digit x * m + v) (digit y * m + w) && r)
unfolding bits_before digit
first_bit false false m v w k l r p q e = e ∙ sym (shifted (0 * m) v w r)
first_bit false true m v w k l r p q e = rw (lt-ltb (0 * m + v) (1 * m + w) (omega arith))
first_bit true false m v w k l r p q e = rw (le-ltb (1 * m + v) (0 * m + w) (omega arith), ne_eqb (1 * m + v) (0 * m + w) (omega arith))
first_bit true true m v w k l r p q e = e ∙ sym (shifted (1 * m) v w r)

-- as many bits are in the order of the numbers that they spell
spelled_order : (a b k l : List Bool) → length a ≡ length b
    → bits_before (a ++ k) (b ++ l) ≡ (ltb (num_of a) (num_of b) || eqb (num_of a) (num_of b) && bits_before k l)
unfolding num_of
spelled_order [] [] k l e = refl
spelled_order [] (y ∷ b) k l e = absurd (omega arith)
spelled_order (x ∷ a) [] k l e = absurd (omega arith)
spelled_order (x ∷ a) (y ∷ b) k l e =
    let n : length a ≡ length b = omega arith in
    let h : num_of a < 2 ^ length b = rw (← n) (num_lt a) in
    rw n (first_bit x y (2 ^ length b) (num_of a) (num_of b) (a ++ k) (b ++ l) (bits_before k l) h (num_lt b) (spelled_order a b k l n))

-- numbers of one width are in the order of their bits, and what stands behind decides where they are equal
pub number_order : (n v w : ℕ) (k l : List Bool) → v < 2 ^ n → w < 2 ^ n
    → bits_before (bits_n n v ++ k) (bits_n n w ++ l) ≡ (ltb v w || eqb v w && bits_before k l)
number_order n v w k l p q =
    rw (spelled_order (bits_n n v) (bits_n n w) k l (length_bits_n n v ∙ sym (length_bits_n n w)), num_bits_n n v p, num_bits_n n w q)

-- the same where nothing stands behind
last_order : (n v w : ℕ) → v < 2 ^ n → w < 2 ^ n → bits_before (bits_n n v) (bits_n n w) ≡ ltb v w
unfolding bits_before
last_order n v w p q = simp (append-nil, and-false, or-false) at (number_order n v w [] [] p q)

ruleset as_written = (number_order, last_order, and-false, or-false)

-- assignments are in the order of their bits
pub assignment_order : (a b : Assignment) → assignment_fits a ≡ true → assignment_fits b ≡ true
    → before (assignment_fields a) (assignment_fields b) ≡ bits_before (assignment_bits a) (assignment_bits b)
unfolding before assignment_bits assignment_fits
assignment_order a b h i =
    let c = and_cut (is_element_id a.child) (is_element_id a.container) h in
    let d = and_cut (is_element_id b.child) (is_element_id b.container) i in
    simp (as_written, id_fits, c.0, c.1, d.0, d.1)

-- associations are in the order of their bits
pub association_order : (a b : Association) → association_fits a ≡ true → association_fits b ≡ true
    → before (association_fields a) (association_fields b) ≡ bits_before (association_bits a) (association_bits b)
unfolding before association_bits association_fits
association_order a b h i =
    let c = truths (is_element_id a.attribute) (is_element_id a.target ∷ is_right_set a.rights ∷ []) h in
    let d = truths (is_element_id b.attribute) (is_element_id b.target ∷ is_right_set b.rights ∷ []) i in
    simp (as_written, id_fits, rights_fit, c.0, c.1.0, c.1.1.0, d.0, d.1.0, d.1.1.0)

-- ids are in the order of their bits, however many they are
ids_order : (x y : List ℕ) → all_of is_element_id x ≡ true → all_of is_element_id y ≡ true → bits_before (id_bits x) (id_bits y) ≡ before x y
unfolding before bits_before id_bits bits_n all_of
ids_order [] [] h i = refl
ids_order [] (w ∷ y) h i = refl
ids_order (v ∷ x) [] h i = refl
ids_order (v ∷ x) (w ∷ y) h i =
    let c = and_cut (is_element_id v) (all_of is_element_id x) h in
    let d = and_cut (is_element_id w) (all_of is_element_id y) i in
    rw (← ids_order x y c.1 d.1) (number_order 9 v w (id_bits x) (id_bits y) (id_fits v c.0) (id_fits w d.0))

-- ids in two lists are written one after another
ids_joined : (x y : List ℕ) → id_bits (x ++ y) ≡ id_bits x ++ id_bits y
unfolding id_bits
ids_joined [] y = refl
ids_joined (v ∷ x) y = rw (ids_joined x y) (sym (append_assoc (bits_n 9 v) (id_bits x) (id_bits y)))

-- prohibitions are in the order of their bits
pub prohibition_order : (a b : Prohibition) → prohibition_fits a ≡ true → prohibition_fits b ≡ true
    → before (prohibition_fields a) (prohibition_fields b) ≡ bits_before (prohibition_bits a) (prohibition_bits b)
unfolding before prohibition_bits
prohibition_order a b h i =
    let p = fitting a h in
    let q = fitting b i in
    let k : all_of is_element_id (listed a) ≡ true = rw (all_append is_element_id a.inclusion a.exclusion, p.inclusion_fits) p.exclusion_fits in
    let l : all_of is_element_id (listed b) ≡ true = rw (all_append is_element_id b.inclusion b.exclusion, q.inclusion_fits) q.exclusion_fits in
    simp (as_written, ids_order, ← ids_joined, p.fit.0, p.fit.1.0, p.fit.1.1.0, p.fit.1.1.1.0, p.fit.1.1.1.1.0, p.fit.1.1.1.1.1.0, k, q.fit.0, q.fit.1.0, q.fit.1.1.0, q.fit.1.1.1.0, q.fit.1.1.1.1.0, q.fit.1.1.1.1.1.0, l)

-- "elements and processes rise by id alone": elements of different ids are in the order of their bits
pub element_order : (e f : Element) → element_fits e ≡ true → element_fits f ≡ true → (e.id ≡ f.id → ⊥)
    → before (element_key e) (element_key f) ≡ bits_before (element_bits e) (element_bits f)
unfolding before element_bits element_fits
element_order e f h i d =
    let p = and_left (is_element_id e.id) (is_kind e.kind) h in
    let q = and_left (is_element_id f.id) (is_kind f.kind) i in
    simp (as_written, id_fits, ne_eqb)

-- processes of different ids are in the order of their bits
pub process_order : (q r : Process) → process_fits q ≡ true → process_fits r ≡ true → (q.id ≡ r.id → ⊥)
    → before (process_key q) (process_key r) ≡ bits_before (process_bits q) (process_bits r)
unfolding before process_bits process_fits
process_order q r h i d =
    let p = and_left (is_process_id q.id) (is_element_id q.owner) h in
    let s = and_left (is_process_id r.id) (is_element_id r.owner) i in
    simp (as_written, process_fits_lem, ne_eqb)
