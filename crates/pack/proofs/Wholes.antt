-- The parts of an image put one behind another: the room for each, and the whole.
-- Assumes nothing.
use mathlib.Core.Path.{◌≡◌, sym, ap, ◌∙◌}
use mathlib.Core.Bool.{Bool, false}
use mathlib.Core.List.{List, [], ◌++◌, append_assoc, append-nil}
use Prim.Native.Nat.{ℕ, ◌+◌, ◌-◌, ◌*◌, ◌/◌, ◌<◌}
use native.Mathlib.Nat.{zero-add}
use native.Mathlib.Omega.{arith}
use lib.ListN.{length, drop, replicate, length-append, length-replicate}
use lib.Seq.{drop-length}
use Rattle.model.specs.Policy.{Policy}
use Rattle.model.specs.Bits.{bits_of, bytes_of, packed}
use Rattle.model.specs.Image.{element_bits, assignment_bits, association_bits, prohibition_bits, process_bits, group_bits, head_bits, image_bits, image_of}
use Rattle.model.proofs.Image.Bits.{length_bits_of}
use Rattle.model.proofs.Image.Lengths.{bits_length}
use Rattle.model.proofs.Image.Packed.{filling, length_packed}
use Rattle.bits.specs.Cursor.{written}
use Rattle.table.specs.View.{policy_of}
use Rattle.table.specs.Facts.{Table}
use Rattle.measure.specs.Places.{Reaches}
use Rattle.put.specs.Put.{Put}
use Rattle.put.proofs.Joins.{put_then, put_both, reaches_first, reaches_rest}
use Rattle.pack.proofs.Bounded.{bytes_few}

-- bits put from the first on over all bits are the bytes' bits
all_put : {s t : List ℕ} {xs : List Bool} {next : ℕ} → Put s t 0 xs next → length xs ≡ 8 * length s → t ≡ bytes_of (length s) xs
unfolding written
all_put {s} {xs = xs} p e =
    let f : 0 + length xs ≡ length (bits_of s) = zero-add (length xs) ∙ e ∙ sym (length_bits_of s) in
    let g : drop (0 + length xs) (bits_of s) ≡ [] = ap (λ (n : ℕ). drop n (bits_of s)) f ∙ drop-length (bits_of s) in
    p.bytes_are ∙ rw g (ap (bytes_of (length s)) (append-nil xs))

-- bits, and zeros up to the end of their last byte, are what the bits are packed into
packed_put : {s t : List ℕ} (xs : List Bool) (n : ℕ) {next : ℕ} → Put s t 0 (xs ++ replicate n false) next → length s ≡ length (packed xs) → length xs + n ≡ 8 * length s
    → t ≡ packed xs
unfolding packed
packed_put {s} xs n p l e =
    let k : length s ≡ (length xs + 7) / 8 = l ∙ length_packed xs in
    let m : n ≡ filling xs = omega arith in
    all_put p (length-append xs (replicate n false) ∙ rw (length-replicate {A = Bool} n false) e) ∙ rw (k, m)

-- Three parts, for which there is room.
module _ (xs ys zs : List Bool) {s : List ℕ} {at : ℕ} (r : Reaches s at (length (xs ++ (ys ++ zs)))) where
  -- there is for the first
  pub room_first : Reaches s at (length xs)
  room_first = reaches_first xs (ys ++ zs) r

  -- behind it for the second
  pub room_second : {t : List ℕ} {i : ℕ} → Put s t at xs i → Reaches t i (length ys)
  room_second x = reaches_first ys zs (reaches_rest xs (ys ++ zs) r x)

  -- behind that for the third
  pub room_third : {t u : List ℕ} {i j : ℕ} → Put s t at xs i → Put t u i ys j → Reaches u j (length zs)
  room_third x y = reaches_rest ys zs (reaches_rest xs (ys ++ zs) r x) y

  -- and then all three are put
  pub three_put : {t u v : List ℕ} {i j k : ℕ} → Put s t at xs i → Put t u i ys j → Put u v j zs k → Put s v at (xs ++ (ys ++ zs)) k
  three_put x y z = put_both r x (put_both (reaches_rest xs (ys ++ zs) r x) y z)

-- what stands in an image before the associations
abbrev first_bits : Policy → List Bool
first_bits p = head_bits p ++ (group_bits element_bits p.elements ++ group_bits assignment_bits p.assignments)

-- and from there on
abbrev rest_bits : Policy → List Bool
rest_bits p = group_bits association_bits p.associations ++ (group_bits prohibition_bits p.prohibitions ++ group_bits process_bits p.processes)

-- the whole in two parts
image_parts : (p : Policy) → image_bits p ≡ first_bits p ++ rest_bits p
unfolding image_bits
image_parts p = simp append_assoc

-- An image for which there is room.
module _ (p : Policy) {s : List ℕ} (r : Reaches s 0 (length (image_bits p))) where
  -- there is for its head
  pub head_room : Reaches s 0 50
  head_room = let n = bits_length p in record { few = r.few; room = omega arith }

  -- for its first part
  first_room : Reaches s 0 (length (first_bits p))
  first_room = reaches_first (first_bits p) (rest_bits p) (rw (image_parts p) at r)

  -- behind the head for the elements
  pub elements_room : {t : List ℕ} {i : ℕ} → Put s t 0 (head_bits p) i → Reaches t i (length (group_bits element_bits p.elements))
  elements_room h = room_second (head_bits p) (group_bits element_bits p.elements) (group_bits assignment_bits p.assignments) first_room h

  -- behind them for the assignments
  pub assignments_room : {t u : List ℕ} {i j : ℕ} → Put s t 0 (head_bits p) i → Put t u i (group_bits element_bits p.elements) j
      → Reaches u j (length (group_bits assignment_bits p.assignments))
  assignments_room h e = room_third (head_bits p) (group_bits element_bits p.elements) (group_bits assignment_bits p.assignments) first_room h e

  -- the first part is put
  pub first_put : {t u v : List ℕ} {i j k : ℕ} → Put s t 0 (head_bits p) i → Put t u i (group_bits element_bits p.elements) j
      → Put u v j (group_bits assignment_bits p.assignments) k
      → Put s v 0 (head_bits p ++ (group_bits element_bits p.elements ++ group_bits assignment_bits p.assignments)) k
  first_put h e a = three_put (head_bits p) (group_bits element_bits p.elements) (group_bits assignment_bits p.assignments) first_room h e a

  -- behind it there is room for the others
  rest_room : {t : List ℕ} {i : ℕ} → Put s t 0 (head_bits p ++ (group_bits element_bits p.elements ++ group_bits assignment_bits p.assignments)) i
      → Reaches t i (length (group_bits association_bits p.associations ++ (group_bits prohibition_bits p.prohibitions ++ group_bits process_bits p.processes)))
  rest_room a = reaches_rest (first_bits p) (rest_bits p) (rw (image_parts p) at r) a

  -- both parts are the image's bits
  both_put : {t u : List ℕ} {i j : ℕ} → Put s t 0 (first_bits p) i → Put t u i (rest_bits p) j → Put s u 0 (image_bits p) j
  both_put a b = rw (image_parts p) (put_both (rw (image_parts p) at r) a b)

-- A table, and as many bytes as its image takes.
module _ {mem s : List ℕ} (t : Table mem) (l : length s ≡ length (image_of (policy_of mem))) where
  -- there is room for the image
  pub image_room : Reaches s 0 (length (image_bits (policy_of mem)))
  unfolding image_of
  image_room =
      let n = length_packed (image_bits (policy_of mem)) in
      let b = bytes_few t in
      record { few = omega arith; room = omega arith }

  -- behind the first part for the others
  pub others_room : {u : List ℕ} {i : ℕ}
      → Put s u 0 (head_bits (policy_of mem) ++ (group_bits element_bits (policy_of mem).elements ++ group_bits assignment_bits (policy_of mem).assignments)) i
      → Reaches u i (length (group_bits association_bits (policy_of mem).associations ++ (group_bits prohibition_bits (policy_of mem).prohibitions ++ group_bits process_bits (policy_of mem).processes)))
  others_room a = rest_room (policy_of mem) image_room a

  -- Both parts are put.
  module _ {u v : List ℕ} {i j : ℕ}
      (a : Put s u 0 (head_bits (policy_of mem) ++ (group_bits element_bits (policy_of mem).elements ++ group_bits assignment_bits (policy_of mem).assignments)) i)
      (b : Put u v i (group_bits association_bits (policy_of mem).associations ++ (group_bits prohibition_bits (policy_of mem).prohibitions ++ group_bits process_bits (policy_of mem).processes)) j)
    where
      -- the next place is at most the end of the bytes
      pub end_reached : Reaches v j 0
      end_reached =
          let p = both_put (policy_of mem) image_room a b in
          record { few = omega (arith, image_room.few, p.long); room = omega (arith, image_room.room, p.long, p.next_is) }

      -- and stands in the last byte
      pub last_byte : 8 * length v < j + 8
      unfolding image_of
      last_byte =
          let p = both_put (policy_of mem) image_room a b in
          omega (arith, length_packed (image_bits (policy_of mem)), p.long, p.next_is)

      -- with zeros behind them the bytes are the image
      pub whole_put : {w : List ℕ} {k : ℕ} → Put v w j (replicate (8 * length v - j) false) k → w ≡ image_of (policy_of mem)
      unfolding image_of
      whole_put z =
          let p = both_put (policy_of mem) image_room a b in
          let n : ℕ = 8 * length v - j in
          let e : length (replicate {A = Bool} n false) ≡ n = length-replicate {A = Bool} n false in
          let r = image_room.room in
          packed_put (image_bits (policy_of mem)) n (put_then p z (omega arith)) l (omega arith)
