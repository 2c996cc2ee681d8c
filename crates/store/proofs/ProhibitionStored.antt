-- A prohibition's record as the code writes it, and what it finds, adds and takes out by that record.
-- Assumes nothing.
use mathlib.Core.Path.{◌≡◌, refl, sym, ap, ap₂, ◌∙◌}
use mathlib.Core.List.{List, ◌∷◌, ◌++◌}
use Prim.Native.Nat.{ℕ, zero, suc, ◌+◌, ◌*◌, ◌-◌, ◌≤◌, ◌<◌}
use native.Mathlib.Omega.{arith}
use borrow.Author.Tests.{le-leb, lt-leb}
use lib.Dec.{ltb, leb}
use lib.ListN.{length, take, drop, get_or, replicate}
use lib.Seq.{drop-drop, take-append_seam}
use Rattle.model.specs.Lists.{any_of, same}
use Rattle.model.specs.Policy.{Prohibition, prohibition_fields, has_prohibition}
use Rattle.model.specs.Sound.{listed}
use Rattle.std.specs.Prelude.{Ok, Err}
use Rattle.answer.specs.declared.Refusal.TheVariants.{NoRoom}
use Rattle.table.specs.Layout.{word, prohibition_count}
use Rattle.table.specs.View.{policy_of}
use Rattle.table.specs.Facts.{Table}
use Rattle.table.specs.Answers.{left}
use Rattle.group.specs.Group.{records, group, laid, begins, with_record, without_record, first_of, Fits}
use Rattle.group.proofs.Rooms.{room_for_one}
use Rattle.group.proofs.Laid.{laid_behind}
use Rattle.group.proofs.Kept.{wide_group}
use Rattle.store.specs.ProhibitionWords.{prohibition, Storable, prohibition_front, prohibition_record, with_prohibition, without_prohibition, added_prohibition}
use Rattle.store.proofs.Looked.{record_found}
use Rattle.store.proofs.Stored.{added_full, added_done}
use Rattle.store.proofs.Recorded.{prohibition_in, storable_narrow, front_counted, record_front, length_record, front_same}
use Rattle.store.proofs.Prohibited.{prohibitions_fit, prohibitions_group, group_short}

-- some of the same are left
drop_replicate : (k n : ℕ) → drop {A = ℕ} k (replicate n 0) ≡ replicate (n - k) 0
drop_replicate zero n = let e : n - 0 ≡ n = omega arith in rw e refl
drop_replicate (suc k) zero = let e : 0 - suc k ≡ 0 = omega arith in rw e refl
drop_replicate (suc k) (suc n) = let e : suc n - suc k ≡ n - k = omega arith in rw e (drop_replicate k n)

-- ids laid over the zeros of a record
laid_ids : (w r c : ℕ) (ids : List ℕ) → laid 3 ids (w ∷ r ∷ c ∷ replicate 8 0) ≡ w ∷ r ∷ c ∷ (ids ++ replicate (8 - length ids) 0)
unfolding laid
laid_ids w r c ids =
    ap (λ (l : List ℕ). w ∷ r ∷ c ∷ (ids ++ l)) (sym (drop-drop (length ids) 3 (w ∷ r ∷ c ∷ replicate 8 0)) ∙ drop_replicate (length ids) 8)

-- the inclusions and then the exclusions laid over the zeros make the record
pub record_written : {sort subject form rights : ℕ} {inclusion exclusion m m' : List ℕ} → Storable (prohibition sort subject form rights inclusion exclusion)
    → m ≡ laid 3 inclusion ((sort * 1024 + subject * 2 + form) ∷ rights ∷ (length inclusion * 8 + length exclusion) ∷ replicate 8 0)
    → m' ≡ laid (3 + length inclusion) exclusion m
    → m' ≡ prohibition_record (prohibition sort subject form rights inclusion exclusion)
unfolding prohibition_record prohibition_front
record_written {sort} {subject} {form} {rights} {inclusion} {exclusion} s e d =
    let w : ℕ = sort * 1024 + subject * 2 + form in
    let c : ℕ = length inclusion * 8 + length exclusion in
    d ∙ ap (laid (3 + length inclusion) exclusion) e
    ∙ laid_behind 3 inclusion exclusion (w ∷ rights ∷ c ∷ replicate 8 0) (omega (arith, s.few_inclusions, s.few_exclusions))
    ∙ laid_ids w rights c (inclusion ++ exclusion)

-- Of a table, a prohibition and its record.
module _ {mem : List ℕ} (t : Table mem) {b : Prohibition} (s : Storable b) {rec : List ℕ} (e : rec ≡ prohibition_record b) where
  -- it has eleven words
  eleven : length rec ≡ 11
  eleven = ap length e ∙ length_record (storable_narrow s)

  -- room for it
  pub room_for_record : prohibition_count mem < 200 → Fits 5776 (length rec) 3 (get_or mem 3 0 + 1) mem
  room_for_record h = rw eleven (room_for_one (prohibitions_fit t) h)

  -- the record put in is the prohibition put in
  pub prohibition_added : {m : List ℕ} → prohibition_count mem < 200 → m ≡ with_record 5776 3 rec mem → left (Ok tt) m ≡ added_prohibition b mem
  unfolding with_prohibition
  prohibition_added h d = ap (left (Ok tt)) (d ∙ ap (λ (r : List ℕ). with_record 5776 3 r mem) e) ∙ added_done (leb 200 (word mem 3)) (with_prohibition b mem) mem (lt-leb 200 (word mem 3) h)

  -- the first words of the record that the code takes
  abbrev part : List ℕ
  part = take (3 + length b.inclusion + length b.exclusion) rec

  -- are those that count
  part_front : part ≡ prohibition_front b
  part_front =
      let n : 3 + length b.inclusion + length b.exclusion ≡ length (prohibition_front b) = omega (arith, front_counted b) in
      ap₂ (λ (k : ℕ) (r : List ℕ). take k r) n (e ∙ record_front b) ∙ take-append_seam (prohibition_front b) (replicate (8 - length (listed b)) 0)

  -- a record begins with them exactly if the prohibition is there
  pub prohibition_found : {at : ℕ} → at ≡ first_of (begins part) (records 11 (get_or mem 3 0) (drop 5776 mem))
      → ltb at (get_or mem 3 0) ≡ has_prohibition (policy_of mem) b
  unfolding has_prohibition policy_of group
  prohibition_found q =
      record_found prohibition_in (λ c. same (prohibition_fields b) (prohibition_fields c)) (prohibition_front b) 5776 11 3 mem
      (q ∙ ap (λ (r : List ℕ). first_of (begins r) (records 11 (get_or mem 3 0) (drop 5776 mem))) part_front)
      (λ r i. front_same (storable_narrow s) r ((wide_group (prohibitions_fit t)).each r i) (group_short t r i))
      ∙ ap (any_of (λ c. same (prohibition_fields b) (prohibition_fields c))) (sym (prohibitions_group t))

  -- the first record that begins with them taken out is the prohibition taken out
  pub prohibition_taken : {m : List ℕ} → m ≡ without_record 5776 11 3 part mem → m ≡ without_prohibition b mem
  unfolding without_prohibition
  prohibition_taken d = d ∙ ap (λ (r : List ℕ). without_record 5776 11 3 r mem) part_front

-- where 200 are there nothing is put in
pub prohibition_refused : (mem : List ℕ) (b : Prohibition) → 200 ≤ prohibition_count mem → left (Err NoRoom) mem ≡ added_prohibition b mem
prohibition_refused mem b h = added_full (leb 200 (word mem 3)) (with_prohibition b mem) mem (le-leb 200 (word mem 3) h)
