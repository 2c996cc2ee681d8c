-- One assignment, a pass over all of them, and the end, where a pass adds nothing.
-- Assumes nothing.
use mathlib.Core.Path.{◌≡◌, ◌∙◌}
use mathlib.Core.List.{List}
use mathlib.Core.Logic.{⊎_elim}
use Prim.Native.Nat.{ℕ, ◌+◌, ◌*◌, ◌/◌, ◌%◌, ◌≤◌, ◌<◌}
use native.Mathlib.Omega.{arith}
use native.Mathlib.Decide.{dec_lt}
use Rattle.model.specs.Contain.{Assigned, Within, itself, above}
use Rattle.table.specs.Layout.{assignment_count, assignment_word}
use Rattle.table.specs.View.{assignments_of}
use Rattle.table.specs.Facts.{Table, AmongFirst}
use Rattle.table.proofs.Assignments.{assigned_word, word_assigned}
use Rattle.index.specs.Rows.{On, Added}
use Rattle.index.specs.Passes.{There, Inside, Good, Stepped, Climbed, Passed, Round, Full}
use Rattle.index.proofs.Bytes.{sum_same, sum_le}
use Rattle.index.proofs.Rows.{on_kept, on_new, on_old, bytes_more, bytes_still}

module _ {mem : List ℕ} {i : ℕ} {idx : List ℕ} {r : ℕ} {idx' : List ℕ} (t : Table mem) (g : Good mem idx) (early : i < assignment_count mem)
    (o : Added idx (assignment_word mem i / 512 % 512) (assignment_word mem i % 512) 64 r idx') where
  -- the word is an assignment
  assigned : {x : ℕ} → x ≡ assignment_word mem i / 512 % 512 → Assigned (assignments_of mem) x (assignment_word mem i % 512)
  assigned e = word_assigned (record { at = i; early = early; is = omega (arith, t.small i early); small = omega arith })

  -- each bit that is 1 is right
  sound : {x y : ℕ} → On idx' x y → Inside mem x y
  sound {x} {y} p = ⊎_elim (λ q. g.sound q)
      (λ q. let w = g.sound q.1 in record { there = w.there; within = above (assigned q.0) w.within })
      (on_old o p)

  -- the bytes are good still
  good : Good mem idx'
  good = record {
    size = o.size ∙ g.size;
    bytes = bytes_still o g.bytes;
    weight = omega (arith, sum_le idx' (bytes_still o g.bytes));
    sound = sound;
    start = λ l. on_kept o (g.start l);
  }

  -- where the sum has not grown nothing has changed
  same : r ≡ 0 → idx' ≡ idx
  same e = sum_same idx idx' o.size (bytes_more o) (omega arith)

  -- and then the child has all that the container has
  closed : r ≡ 0 → {x y z : ℕ} → assignment_word mem i ≡ x * 512 + y → y < 512 → On idx' y z → On idx' x z
  closed e {x} {y} {z} w h p =
      let a : assignment_word mem i / 512 % 512 ≡ x = omega (arith, t.small i early) in
      let b : assignment_word mem i % 512 ≡ y = omega arith in
      rw (← a) (on_new o (rw (same e, ← b) at p))

  -- the container's row is added to the child's
  pub stepped : Stepped mem i idx r idx'
  stepped = record { good = good; grown = o.grown; same = same; closed = closed }

-- nothing is done
pub climbed_none : {mem idx : List ℕ} → Good mem idx → Climbed mem idx idx
climbed_none g = record { good = g; more = omega arith }

-- some assignments are done, then others
pub climbed_then : {mem idx idx' idx'' : List ℕ} → Climbed mem idx idx' → Climbed mem idx' idx'' → Climbed mem idx idx''
climbed_then a b = record { good = b.good; more = omega arith }

-- and then one more
pub climbed_more : {mem idx idx' idx'' : List ℕ} {i r : ℕ} {idx''' : List ℕ} → Climbed mem idx idx' → Climbed mem idx' idx'' → Stepped mem i idx'' r idx'''
    → Climbed mem idx idx'''
climbed_more a b s = record { good = s.good; more = omega arith }

-- no assignment is done yet
pub passed_none : {mem idx : List ℕ} → Good mem idx → Passed mem 0 idx 0 idx
passed_none g = record { good = g; grown = omega arith; closed = λ e d p. absurd (omega (arith, d.early)) }

-- one assignment more is done
pub passed_more : {mem : List ℕ} {i : ℕ} {idx : List ℕ} {r : ℕ} {idx' : List ℕ} {s : ℕ} {idx'' : List ℕ}
    → Passed mem i idx r idx' → Stepped mem i idx' s idx'' → Passed mem (i + 1) idx (r + s) idx''
passed_more {mem} {i} {idx} {r} {idx'} {s} {idx''} p t = record { good = t.good; grown = omega arith; closed = closed }
  where
    closed : r + s ≡ 0 → {x y z : ℕ} → AmongFirst mem (i + 1) x y → On idx'' y z → On idx'' x z
    closed e {x} {y} {z} d q = elim (dec_lt d.at i) [
      | yes b ↦ rw (t.same (omega arith)) (p.closed (omega arith) (record { at = d.at; early = b; is = d.is; small = d.small }) (rw (t.same (omega arith)) at q))
      | no b ↦ let a : d.at ≡ i = omega (arith, d.early) in t.closed (omega arith) (rw a at d.is) d.small q
    ]

-- all assignments are done
pub passed_end : {mem : List ℕ} {i : ℕ} {idx : List ℕ} {r : ℕ} {idx' : List ℕ} → Passed mem i idx r idx' → i ≤ assignment_count mem → assignment_count mem ≤ i
    → Passed mem (assignment_count mem) idx r idx'
passed_end {mem} {i} {idx} {r} {idx'} p h l = let e : i ≡ assignment_count mem = omega arith in rw e at p

module _ {mem idx : List ℕ} {r : ℕ} (t : Round mem r idx) (end : r ≤ 0) where
  -- what x is within is in its row, along the chain
  reaches : {x y : ℕ} → There mem y → Within (assignments_of mem) x y → On idx x y
  reaches l itself = t.good.start l
  reaches l (above a w) = t.closed (omega arith) (assigned_word mem a) (reaches l w)

  -- where a pass adds nothing, the rows say all
  pub filled : Full mem idx
  filled = record { size = t.good.size; bytes = t.good.bytes; sound = t.good.sound; complete = λ i. reaches i.there i.within }
