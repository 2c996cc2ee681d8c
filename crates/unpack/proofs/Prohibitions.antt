-- The loop over the prohibitions: before the first, one more, the end. The place behind one depends on how many ids it lists.
-- Assumes nothing.
use mathlib.Core.Path.{◌≡◌, sym, ap, ◌∙◌}
use mathlib.Core.Bool.{Bool, true}
use mathlib.Core.List.{List}
use Prim.Native.Nat.{ℕ, suc, ◌+◌, ◌*◌, ◌-◌, ◌/◌, ◌%◌, ◌^◌, ◌≤◌, ◌<◌}
use native.Mathlib.Numerals.{add-one}
use native.Mathlib.Omega.{arith}
use lib.ListN.{length, drop, get_or, set}
use Rattle.model.specs.Lists.{all_of}
use Rattle.model.specs.Policy.{Prohibition}
use Rattle.model.specs.Bits.{bits_of, num_at}
use Rattle.model.specs.Image.{read_prohibition, read_group}
use Rattle.model.proofs.Truth.{and_cut}
use Rattle.model.proofs.Image.Groups.{group_count}
use Rattle.group.specs.Group.{laid}
use Rattle.group.proofs.Laid.{laid_none, laid_length}
use Rattle.store.specs.ProhibitionWords.{prohibition_front, prohibition_record}
use Rattle.store.proofs.Recorded.{storable_narrow, length_record}
use Rattle.measure.specs.Places.{Reaches, listed_at, behind}
use Rattle.measure.proofs.Placed.{at_drop, prohibition_rest, behind_more}
use Rattle.screen.specs.Stowable.{lists_short, all_short}
use Rattle.unpack.specs.Words.{words_of, stowed, with_prohibitions}
use Rattle.unpack.proofs.Laying.{On, on_none, on_more, on_all, laid_then}
use Rattle.unpack.proofs.Records.{Short, short, storable, two_counts}

-- what the words become by the prohibitions left: eleven words each
unfoldable pub prohibitions_on : (done left : ℕ) → List Bool → List ℕ → List ℕ
prohibitions_on done left l mem = laid (5776 + 11 * done) (words_of prohibition_record (read_group read_prohibition left l).value) mem

-- i of the n prohibitions at a place are laid, and p is the place behind them
pub record Passing (s : List ℕ) (at n : ℕ) (mem₀ : List ℕ) (p i : ℕ) (mem : List ℕ) : Type 0 where
  pub few : n ≤ 200
  pub bytes : length s ≤ 2 ^ 32
  pub size : length mem ≡ 8192
  pub near : p ≤ 8 * length s
  pub room : behind (bits_of s) p (n - i) ≤ 8 * length s
  pub lists : all_short (read_group read_prohibition (n - i) (drop p (bits_of s))).value ≡ true
  pub on : On prohibitions_on s at n mem₀ p i mem

-- before the first prohibition
pub passing_none : {s : List ℕ} {at n : ℕ} {mem : List ℕ} → n ≤ 200 → Reaches s (behind (bits_of s) at n) 0
    → all_short (read_group read_prohibition n (drop at (bits_of s))).value ≡ true → length mem ≡ 8192 → Passing s at n mem at 0 mem
passing_none {s} {at} {n} {mem} few r lists size =
    let e : n - 0 ≡ n = omega arith in
    record {
      few = few;
      bytes = r.few;
      size = size;
      near = omega (arith, behind_more (bits_of s) at n, r.room);
      room = rw e (omega (arith, r.room));
      lists = rw e lists;
      on = on_none prohibitions_on s at n mem;
    }

-- the third word of a record says how many ids are listed
third_word : {s : List ℕ} {at : ℕ} {rec : List ℕ} → Short s at → rec ≡ prohibition_record (read_prohibition (drop at (bits_of s))).value
    → get_or rec 2 0 / 8 % 8 + get_or rec 2 0 % 8 ≡ listed_at (bits_of s) at
unfolding prohibition_record prohibition_front
third_word {s} {at} {rec} k e =
    let b : Prohibition = (read_prohibition (drop at (bits_of s))).value in
    let w : get_or rec 2 0 ≡ length b.inclusion * 8 + length b.exclusion = ap (λ (r : List ℕ). get_or r 2 0) e in
    let n : length b.inclusion ≡ num_at (bits_of s) (at + 44) 3 = k.inclusions ∙ at_drop (bits_of s) at 44 3 in
    let m : length b.exclusion ≡ num_at (bits_of s) (at + 47) 3 = k.exclusions ∙ at_drop (bits_of s) at 47 3 in
    let told : get_or rec 2 0 / 8 % 8 + get_or rec 2 0 % 8 ≡ length b.inclusion + length b.exclusion =
    rw w (two_counts (length b.inclusion) (length b.exclusion) (omega arith) (omega arith)) in
    omega arith

-- the place behind the prohibition at a place
abbrev past : List Bool → (p : ℕ) → ℕ
past l p = p + 50 + 9 * listed_at l p

module _ {s : List ℕ} {at n : ℕ} {mem₀ : List ℕ} {p i : ℕ} {mem : List ℕ} (c : Passing s at n mem₀ p i mem) (h : i < n) where
  -- the lists of the next prohibition, and of those behind it
  lists_cut : (lists_short (read_prohibition (drop p (bits_of s))).value ≡ true)
      × (all_short (read_group read_prohibition (n - suc i) (read_prohibition (drop p (bits_of s))).rest).value ≡ true)
  unfolding all_short all_of read_group
  lists_cut =
      let left : n - i ≡ suc (n - suc i) = omega arith in
      and_cut (lists_short (read_prohibition (drop p (bits_of s))).value)
      (all_short (read_group read_prohibition (n - suc i) (read_prohibition (drop p (bits_of s))).rest).value)
      (rw left at c.lists)

  -- the next one's lists are short
  pub next_short : lists_short (read_prohibition (drop p (bits_of s))).value ≡ true
  next_short = lists_cut.0

  -- behind it the bits reach as far as those that are left
  past_room : behind (bits_of s) (past (bits_of s) p) (n - suc i) ≤ 8 * length s
  unfolding behind
  past_room = let left : n - i ≡ suc (n - suc i) = omega arith in rw left at c.room

  -- the bits of the next one are there
  pub next_reaches : Reaches s (behind (bits_of s) p 1) 0
  unfolding behind
  next_reaches = record { few = c.bytes; room = omega (arith, past_room, behind_more (bits_of s) (past (bits_of s) p) (n - suc i)) }

  -- what is known of it
  next_is : Short s p
  next_is = short next_reaches next_short

  -- its words are laid, and then those of the ones left
  next_laid : (k : ℕ) → prohibitions_on i (suc k) (drop p (bits_of s)) mem
      ≡ prohibitions_on (suc i) k (drop (past (bits_of s) p) (bits_of s)) (laid (5776 + 11 * i) (prohibition_record (read_prohibition (drop p (bits_of s))).value) mem)
  unfolding prohibitions_on read_group words_of
  next_laid k =
      let b : Prohibition = (read_prohibition (drop p (bits_of s))).value in
      let eleven : length (prohibition_record b) ≡ 11 = length_record (storable_narrow (storable next_is)) in
      let e : 5776 + 11 * i + length (prohibition_record b) ≡ 5776 + 11 * suc i = omega arith in
      rw (← prohibition_rest (bits_of s) p, ← e)
      (laid_then (5776 + 11 * i) (prohibition_record b) (words_of prohibition_record (read_group read_prohibition k (read_prohibition (drop p (bits_of s))).rest).value) mem (omega arith))

  -- one prohibition more: its words are laid behind those that lie there, and by its third word the place of the next is told
  pub passing_more : {rec m : List ℕ} → rec ≡ prohibition_record (read_prohibition (drop p (bits_of s))).value → m ≡ laid (5776 + 11 * i) rec mem
      → {k : ℕ} → k ≡ get_or rec 2 0 / 8 % 8 + get_or rec 2 0 % 8 → Passing s at n mem₀ (p + (50 + 9 * k)) (i + 1) m
  passing_more {rec} {m} e d {k} told =
      let b : Prohibition = (read_prohibition (drop p (bits_of s))).value in
      let eleven : length (prohibition_record b) ≡ 11 = length_record (storable_narrow (storable next_is)) in
      let w : k ≡ listed_at (bits_of s) p = told ∙ third_word next_is e in
      let far : p + (50 + 9 * k) ≡ past (bits_of s) p = omega arith in
      let m-is : m ≡ laid (5776 + 11 * i) (prohibition_record b) mem = d ∙ ap (λ (r : List ℕ). laid (5776 + 11 * i) r mem) e in
      let len : length (laid (5776 + 11 * i) (prohibition_record b) mem) ≡ length mem = laid_length (5776 + 11 * i) (prohibition_record b) mem (omega arith) in
      rw (far, m-is, add-one i) record {
        few = c.few;
        bytes = c.bytes;
        size = len ∙ c.size;
        near = omega (arith, past_room, behind_more (bits_of s) (past (bits_of s) p) (n - suc i));
        room = past_room;
        lists = rw (prohibition_rest (bits_of s) p) at lists_cut.1;
        on = rw (add-one i) at (on_more c.on (past (bits_of s) p) (laid (5776 + 11 * i) (prohibition_record b) mem) h next_laid);
      }

-- at the end the prohibitions lie there, and their number is put
pub passing_all : {s : List ℕ} {at n : ℕ} {mem₀ : List ℕ} {p i : ℕ} {mem : List ℕ} → Passing s at n mem₀ p i mem → n ≤ i
    → set mem 3 n ≡ with_prohibitions (read_group read_prohibition n (drop at (bits_of s))).value mem₀
unfolding prohibitions_on read_group with_prohibitions stowed words_of
passing_all {s} {at} {n} {mem} c h =
    rw (group_count read_prohibition n (drop at (bits_of s))) (ap (λ (m : List ℕ). set m 3 n) (sym (on_all c.on h ∙ laid_none (5776 + 11 * n) mem)))
