-- The loops that lay records into words: what the words are to become is the same whether it is told of all records over the first words, or of
-- the records left over the words now.
-- Assumes nothing.
use mathlib.Core.Path.{◌≡◌, ap, ◌∙◌}
use mathlib.Core.Bool.{Bool}
use mathlib.Core.List.{List, [], ◌∷◌, ◌++◌, append_assoc}
use Prim.Native.Nat.{ℕ, suc, ◌+◌, ◌*◌, ◌-◌, ◌^◌, ◌≤◌, ◌<◌}
use native.Mathlib.Nat.{add-zero}
use native.Mathlib.Numerals.{add-one}
use native.Mathlib.Omega.{arith}
use lib.ListN.{length, drop, set, length-set}
use lib.Seq.{drop-drop, take-suc-set, drop-set-lt}
use Rattle.model.specs.Bits.{bits_of}
use Rattle.group.specs.Group.{laid}
use Rattle.group.proofs.Laid.{laid_none}

-- what the words become: how many records are laid, how many are left, the bits from the next one on, the words now
abbrev pub Goal : Type 0
Goal = (done left : ℕ) → List Bool → List ℕ → List ℕ

-- i of the n records at a place are laid, and p is the place behind them
pub record On (goal : Goal) (s : List ℕ) (at n : ℕ) (mem₀ : List ℕ) (p i : ℕ) (mem : List ℕ) : Type 0 where
  pub within : i ≤ n
  pub same : goal 0 n (drop at (bits_of s)) mem₀ ≡ goal i (n - i) (drop p (bits_of s)) mem

-- before the first record
pub on_none : (goal : Goal) (s : List ℕ) (at n : ℕ) (mem : List ℕ) → On goal s at n mem at 0 mem
on_none goal s at n mem = let e : n - 0 ≡ n = omega arith in record { within = omega arith; same = rw e }

module _ {goal : Goal} {s : List ℕ} {at n : ℕ} {mem₀ : List ℕ} {p i : ℕ} {mem : List ℕ} (c : On goal s at n mem₀ p i mem) where
  -- one record more, by what it changes of what the words become
  pub on_more : (q : ℕ) (m : List ℕ) → i < n → ((k : ℕ) → goal i (suc k) (drop p (bits_of s)) mem ≡ goal (suc i) k (drop q (bits_of s)) m)
      → On goal s at n mem₀ q (i + 1) m
  on_more q m h step =
      let left : n - i ≡ suc (n - suc i) = omega arith in
      record { within = omega arith; same = rw (add-one i) (c.same ∙ ap (λ (k : ℕ). goal i k (drop p (bits_of s)) mem) left ∙ step (n - suc i)) }

  -- at the end no record is left
  pub on_all : n ≤ i → goal 0 n (drop at (bits_of s)) mem₀ ≡ goal n 0 (drop p (bits_of s)) mem
  on_all h =
      let e : i ≡ n = omega arith in
      let z : n - n ≡ 0 = omega arith in
      rw (e, z) at c.same

-- the same of records of `width` bits each, at most `most`, laid into so many words
pub record Laying (goal : Goal) (width most words : ℕ) (s : List ℕ) (at n : ℕ) (mem₀ : List ℕ) (p i : ℕ) (mem : List ℕ) : Type 0 where
  pub few : n ≤ most
  pub short : length s ≤ 2 ^ 32
  pub room : at + width * n ≤ 8 * length s
  pub place : p ≡ at + width * i
  pub size : length mem ≡ words
  pub on : On goal s at n mem₀ p i mem

-- before the first record
pub laying_none : (goal : Goal) (width most words : ℕ) (s : List ℕ) (at n : ℕ) (mem : List ℕ)
    → n ≤ most → length s ≤ 2 ^ 32 → at + width * n ≤ 8 * length s → length mem ≡ words → Laying goal width most words s at n mem at 0 mem
laying_none goal width most words s at n mem few short room size =
    record { few = few; short = short; room = room; place = omega arith; size = size; on = on_none goal s at n mem }

-- one record more
pub laying_more : {goal : Goal} {width most words : ℕ} {s : List ℕ} {at n : ℕ} {mem₀ : List ℕ} {p i : ℕ} {mem : List ℕ}
    → Laying goal width most words s at n mem₀ p i mem → (q : ℕ) (m : List ℕ) → i < n → q ≡ p + width → length m ≡ length mem
    → ((k : ℕ) → goal i (suc k) (drop p (bits_of s)) mem ≡ goal (suc i) k (drop width (drop p (bits_of s))) m)
    → Laying goal width most words s at n mem₀ q (i + 1) m
laying_more {width} {s} {p} {i} c q m h e len step =
    let more : width * (i + 1) ≡ width * i + width = omega arith in
    record {
      few = c.few;
      short = c.short;
      room = c.room;
      place = omega arith;
      size = len ∙ c.size;
      on = on_more c.on q m h (λ k. rw (e, ← drop-drop width p (bits_of s)) (step k));
    }

-- a word put before the words that are laid is laid with them
pub laid_cons : (at v : ℕ) (x l : List ℕ) → at < length l → laid at (v ∷ x) l ≡ laid (suc at) x (set l at v)
unfolding laid
laid_cons at v x l h =
    let e : at + suc (length x) ≡ suc at + length x = omega arith in
    rw (e, take-suc-set l at v h, drop-set-lt (suc at + length x) l at v (omega arith)) (simp append_assoc)

-- words and others behind them: first the words are laid, then those behind, be there room for them or not
pub laid_then : (at : ℕ) (x y l : List ℕ) → at + length x ≤ length l → laid at (x ++ y) l ≡ laid (at + length x) y (laid at x l)
laid_then at [] y l h = rw (laid_none at l, add-zero at)
laid_then at (v ∷ x) y l h =
    let e : at + suc (length x) ≡ suc at + length x = omega arith in
    let len : length (set l at v) ≡ length l = length-set l at v in
    rw (e, laid_cons at v x l (omega arith)) (laid_cons at v (x ++ y) l (omega arith) ∙ laid_then (suc at) x y (set l at v) (omega arith))
