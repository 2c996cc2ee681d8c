-- What is written is read back, and what is read is written again: of one record, and of a group of them.
-- Assumes nothing.
use mathlib.Core.Path.{◌≡◌, refl, sym, ap, ◌∙◌}
use mathlib.Core.Bool.{Bool, true, ◌&&◌}
use mathlib.Core.List.{List, [], ◌∷◌, ◌++◌, append_assoc, append-nil}
use Prim.Native.Nat.{ℕ, zero, suc, ◌+◌, ◌≤◌}
use native.Mathlib.Nat.{zero-add, add-zero}
use native.Mathlib.Omega.{arith}
use borrow.Author.Tests.{eqb-true, eq-eqb}
use lib.Dec.{eqb}
use lib.ListN.{length, drop, length-append}
use Rattle.model.specs.Lists.{all_of}
use Rattle.model.specs.Image.{Reading, group_bits, read_group}
use Rattle.model.proofs.Truth.{and_cut, and_join}
use Rattle.model.proofs.Image.Fields.{Field, fields_then, fields_at, total, widths, Fit, length_fields, fields_read, fields_past, fields_written}

-- what was read, and the bits left
abbrev pub reading : {A : Type 0} → A → List Bool → Reading A
reading a rest = record { value = a; rest = rest }

-- `back`: what is right and stands in front of any bits is read, and those bits are left.
-- `again`: bits that are long enough for what is read of them are its bits, and those left.
pub record Reads {A : Type 0} (right : A → Bool) (bits : A → List Bool) (read : List Bool → Reading A) : Type 0 where
  pub back : (a : A) (rest : List Bool) → right a ≡ true → read (bits a ++ rest) ≡ reading a rest
  pub again : (l : List Bool) → length (bits (read l).value) ≤ length l → l ≡ bits (read l).value ++ (read l).rest

-- A record of fields of fixed widths: how it is made of them, and what is written and read.
pub record Fixed {A : Type 0} (ns : List ℕ) (bits : A → List Bool) (read : List Bool → Reading A) : Type 0 where
  pub fields : A → List Field
  pub made : List Field → A
  pub wide : (a : A) → widths (fields a) ≡ ns
  pub same : (a : A) → made (fields a) ≡ a
  pub kept : (l : List Bool) → fields (made (fields_at 0 ns l)) ≡ fields_at 0 ns l
  pub written : (a : A) (rest : List Bool) → bits a ++ rest ≡ fields_then (fields a) rest
  pub reads : (l : List Bool) → read l ≡ reading (made (fields_at 0 ns l)) (drop (total ns) l)

module _ {A : Type 0} {ns : List ℕ} {bits : A → List Bool} {read : List Bool → Reading A} (x : Fixed ns bits read) where
  -- it is as long as its widths say
  pub length_fixed : (a : A) → length (bits a) ≡ total ns
  length_fixed a =
      let e : length (bits a ++ []) ≡ total ns + 0 = rw (x.written a [], ← x.wide a) (length_fields (x.fields a) []) in
      rw append-nil at e ∙ add-zero (total ns)

  -- it is read back if its fields fit
  pub read_fixed : {right : A → Bool} → ((a : A) → right a ≡ true → Fit (x.fields a)) → Reads right bits read
  read_fixed fit =
      record {
        back = λ a rest h.
            let l : List Bool = bits a ++ rest in
            let f : fields_at 0 ns l ≡ x.fields a = rw (← x.wide a) (fields_read (x.fields a) 0 l rest (fit a h) (x.written a rest)) in
            let r : drop (total ns) l ≡ rest = rw (← x.wide a) (rw zero-add at (fields_past (x.fields a) 0 l rest (x.written a rest))) in
            x.reads l ∙ rw (f, r, x.same a);
        again = λ l. rw (x.reads l) (λ h.
            let n : 0 + total ns ≤ length l = rw (zero-add (total ns), ← length_fixed (x.made (fields_at 0 ns l))) h in
            let e = rw zero-add at (fields_written ns 0 l n) in
            sym (x.written (x.made (fields_at 0 ns l)) (drop (total ns) l) ∙ rw (x.kept l) e));
      }

module _ {A : Type 0} {right : A → Bool} {bits : A → List Bool} {read : List Bool → Reading A} where
  -- where more is written behind a record, bits long enough for both are its bits and what is left, and that is long enough for the other
  pub read_then : Reads right bits read → (l k : List Bool) → length (bits (read l).value ++ k) ≤ length l
      → (l ≡ bits (read l).value ++ (read l).rest) × (length k ≤ length (read l).rest)
  read_then r l k h =
      let b : List Bool = bits (read l).value in
      let n : length (b ++ k) ≡ length b + length k = length-append b k in
      let e : l ≡ b ++ (read l).rest = r.again l (omega arith) in
      let m : length l ≡ length b + length (read l).rest = ap length e ∙ length-append b (read l).rest in
      (e, omega arith)

  group_back : Reads right bits read → (xs : List A) (rest : List Bool) → all_of right xs ≡ true
      → read_group read (length xs) (group_bits bits xs ++ rest) ≡ reading xs rest
  unfolding all_of group_bits read_group
  group_back r [] rest h = refl
  group_back r (a ∷ xs) rest h =
      let c = and_cut (right a) (all_of right xs) h in
      rw (append_assoc (bits a) (group_bits bits xs) rest, r.back a (group_bits bits xs ++ rest) c.0, group_back r xs rest c.1)

  group_again : Reads right bits read → (n : ℕ) (l : List Bool) → length (group_bits bits (read_group read n l).value) ≤ length l
      → l ≡ group_bits bits (read_group read n l).value ++ (read_group read n l).rest
  unfolding group_bits read_group
  group_again r zero l h = refl
  group_again r (suc n) l h =
      let xs : List A = (read_group read n (read l).rest).value in
      let t = read_then r l (group_bits bits xs) h in
      let e : (read l).rest ≡ group_bits bits xs ++ (read_group read n (read l).rest).rest = group_again r n (read l).rest t.1 in
      t.0 ∙ ap (λ (k : List Bool). bits (read l).value ++ k) e
      ∙ sym (append_assoc (bits (read l).value) (group_bits bits xs) (read_group read n (read l).rest).rest)

  -- a group of n records, each of them right
  pub read_group_lem : Reads right bits read → (n : ℕ) → Reads (λ xs. eqb (length xs) n && all_of right xs) (group_bits bits) (read_group read n)
  read_group_lem r n =
      record {
        back = λ xs rest h.
            let c = and_cut (eqb (length xs) n) (all_of right xs) h in
            rw (← eqb-true (length xs) n c.0) (group_back r xs rest c.1);
        again = group_again r n;
      }

  -- the same, where the count and the bits are known by equations
  pub read_group_at : Reads right bits read → (xs : List A) (n : ℕ) (l rest : List Bool) → all_of right xs ≡ true → n ≡ length xs → l ≡ group_bits bits xs ++ rest
      → read_group read n l ≡ reading xs rest
  read_group_at r xs n l rest h e d =
      rw d ((read_group_lem r n).back xs rest (and_join (eqb (length xs) n) (all_of right xs) (eq-eqb (length xs) n (sym e)) h))

-- as many are read as are asked for
pub group_count : {A : Type 0} (read : List Bool → Reading A) (n : ℕ) (l : List Bool) → length (read_group read n l).value ≡ n
unfolding read_group
group_count read zero l = refl
group_count read (suc n) l = ap suc (group_count read n (read l).rest)
