-- The head of an image, written as three numbers, and its counts as the table has them.
-- Assumes nothing.
use mathlib.Core.Path.{◌≡◌, sym}
use mathlib.Core.List.{List, ◌++◌, append_assoc}
use Prim.Native.Nat.{ℕ, ◌+◌, ◌*◌, ◌<◌}
use native.Mathlib.Omega.{arith}
use lib.ListN.{length, length-append}
use Rattle.model.specs.Bits.{bits_n}
use Rattle.model.specs.Image.{head_bits}
use Rattle.model.proofs.Image.Bits.{length_bits_n}
use Rattle.bits.specs.Cursor.{Written}
use Rattle.bits.proofs.Spelling.{numbers_join}
use Rattle.table.specs.Layout.{assignment_count, association_count, prohibition_count}
use Rattle.table.specs.View.{policy_of}
use Rattle.table.specs.Facts.{AtMost}
use Rattle.measure.specs.Places.{Reaches}
use Rattle.table.proofs.Counted.{assignments_long, associations_long, prohibitions_long}
use Rattle.put.specs.Put.{Put}
use Rattle.put.proofs.Joins.{put_one, put_as, put_then}
use Rattle.pack.specs.Heads.{head_of}

-- A head with these counts.
module _ (elements assignments associations prohibitions processes : ℕ) where
  -- the form and the count of elements as one number, and the other counts two by two
  head_joined : elements < 512 → associations < 1024 → processes < 256
      → head_of elements assignments associations prohibitions processes
      ≡ bits_n 13 (512 + elements) ++ (bits_n 21 (assignments * 1024 + associations) ++ bits_n 16 (prohibitions * 256 + processes))
  unfolding head_of
  head_joined a b c =
      let x : bits_n 4 1 ++ bits_n 9 elements ≡ bits_n 13 (512 + elements) = numbers_join 4 9 1 elements a in
      let y : bits_n 11 assignments ++ bits_n 10 associations ≡ bits_n 21 (assignments * 1024 + associations) = numbers_join 11 10 assignments associations b in
      let z : bits_n 8 prohibitions ++ bits_n 8 processes ≡ bits_n 16 (prohibitions * 256 + processes) = numbers_join 8 8 prohibitions processes c in
      rw (← x, ← y, ← z) (simp append_assoc)

  -- the three numbers written one behind another are the head
  pub head_put : elements < 512 → associations < 1024 → processes < 256 → {s t u v : List ℕ} {i j k : ℕ} → Reaches s 0 50
      → Written s t 0 13 (512 + elements) i → Written t u i 21 (assignments * 1024 + associations) j
      → Written u v j 16 (prohibitions * 256 + processes) k → Put s v 0 (head_of elements assignments associations prohibitions processes) k
  head_put a b c {s} {t} {i = i} r x y z =
      let l : length (bits_n 13 (512 + elements)) ≡ 13 = length_bits_n 13 (512 + elements) in
      let m : length (bits_n 21 (assignments * 1024 + associations)) ≡ 21 = length_bits_n 21 (assignments * 1024 + associations) in
      let n : length (bits_n 16 (prohibitions * 256 + processes)) ≡ 16 = length_bits_n 16 (prohibitions * 256 + processes) in
      let e = length-append (bits_n 21 (assignments * 1024 + associations)) (bits_n 16 (prohibitions * 256 + processes)) in
      let f : length t ≡ length s = x.long in
      let g : i ≡ 0 + 13 = x.next_is in
      put_as (sym (head_joined a b c)) (put_then (put_one x) (put_then (put_one y) (put_one z) (omega arith)) (omega arith))

-- Counts that are a table's.
module _ (mem : List ℕ) {a b c d e : ℕ} (x : AtMost (length (policy_of mem).elements) 511 a) (y : AtMost (length (policy_of mem).processes) 255 e)
    (k : b ≡ assignment_count mem) (l : c ≡ association_count mem) (m : d ≡ prohibition_count mem) where
  -- the head that has them is the head of the policy
  same_head : head_of a b c d e ≡ head_bits (policy_of mem)
  unfolding head_of head_bits
  same_head = rw (x.is, y.is, k, l, m, assignments_long mem, associations_long mem, prohibitions_long mem)

  -- and is put as that
  pub head_placed : {s t : List ℕ} {next : ℕ} → Put s t 0 (head_of a b c d e) next → Put s t 0 (head_bits (policy_of mem)) next
  head_placed p = put_as same_head p
