-- Where the words of a table end, and the table that is copied up to there.
-- Assumes nothing.
use mathlib.Core.Path.{◌≡◌, sym, ap, ◌∙◌}
use mathlib.Core.Bool.{true}
use mathlib.Core.List.{List, [], ◌++◌, append-nil}
use Prim.Native.Nat.{ℕ, ◌+◌, ◌*◌, ◌-◌, ◌≤◌, ◌<◌}
use native.Mathlib.Omega.{arith}
use native.Mathlib.Decide.{dec_lt}
use borrow.Author.Tests.{lt-ltb, le-ltb}
use lib.ListN.{length, take, drop, replicate, length-replicate, drop_of_length-le, take-append-drop}
use lib.Seq.{length-take-le}
use Rattle.model.specs.Policy.{Policy}
use Rattle.model.specs.Bits.{bits_of}
use Rattle.model.specs.Image.{read_association, read_prohibition, policy_in}
use Rattle.model.proofs.Image.Groups.{group_count}
use Rattle.group.specs.Group.{laid}
use Rattle.group.proofs.Laid.{laid_behind}
use Rattle.table.specs.Layout.{association_count, prohibition_count}
use Rattle.table.specs.Facts.{Table, AtMost}
use Rattle.table.proofs.Counted.{associations_long, prohibitions_long}
use Rattle.measure.specs.Places.{associations_in, prohibitions_in, associations_at, prohibitions_at, Uncut}
use Rattle.measure.proofs.Placed.{associations_in_lem, prohibitions_in_lem}
use Rattle.screen.specs.Stowable.{stowable}
use Rattle.unpack.specs.Words.{table_of}
use Rattle.unpack.proofs.Stowed.{policy_stowed}
use Rattle.unpack.proofs.StowedRead.{read_narrow}
use Rattle.image.specs.Answers.{table_end, Ended}
use Rattle.image.proofs.Ends.{Zeros, zeros_rest, zeros_table}

-- where there are prohibitions the words end behind the last
ends_prohibited : (words : List ℕ) → 0 < prohibition_count words → table_end words ≡ 5776 + 11 * prohibition_count words
unfolding table_end
ends_prohibited words h = rw (lt-ltb 0 (prohibition_count words) h)

-- where there are none they end behind the last association
ends_associated : (words : List ℕ) → prohibition_count words ≤ 0 → table_end words ≡ 2776 + 2 * association_count words
unfolding table_end
ends_associated words h = rw (le-ltb 0 (prohibition_count words) h)

-- The end, return by return.
module _ {words : List ℕ} (t : Table words) {n : ℕ} (e : n ≡ prohibition_count words) where
  -- behind the last prohibition
  pub end_prohibited : 0 < n → AtMost (table_end words) 8192 (5776 + 11 * n)
  end_prohibited h = record { is = rw e (sym (ends_prohibited words (omega arith))); few = omega (arith, t.few_prohibitions) }

  -- behind the last association
  pub end_associated : n ≤ 0 → {m : ℕ} → m ≡ association_count words → AtMost (table_end words) 8192 (2776 + 2 * m)
  end_associated h f = record { is = rw f (sym (ends_associated words (omega arith))); few = omega (arith, t.few_associations) }

-- Of an image that has all its fields and whose records can be laid:
module _ (s : List ℕ) (u : Uncut s) (t : stowable (policy_in s) ≡ true) where
  -- as many associations as the head says
  associations_counted : association_count (table_of (policy_in s)) ≡ associations_in (bits_of s)
  associations_counted =
      sym (associations_long (table_of (policy_in s))) ∙ ap (λ (p : Policy). length p.associations) (policy_stowed (policy_in s) (read_narrow s) t)
      ∙ ap length (associations_in_lem (bits_of s)) ∙ group_count read_association (associations_in (bits_of s)) (drop (associations_at (bits_of s)) (bits_of s))

  -- and as many prohibitions
  prohibitions_counted : prohibition_count (table_of (policy_in s)) ≡ prohibitions_in (bits_of s)
  prohibitions_counted =
      sym (prohibitions_long (table_of (policy_in s))) ∙ ap (λ (p : Policy). length p.prohibitions) (policy_stowed (policy_in s) (read_narrow s) t)
      ∙ ap length (prohibitions_in_lem (bits_of s)) ∙ group_count read_prohibition (prohibitions_in (bits_of s)) (drop (prohibitions_at (bits_of s)) (bits_of s))

  -- its words, where they hold a table, have zeros behind the end
  pub table_ended : Table (table_of (policy_in s)) → Ended (table_of (policy_in s))
  table_ended y = record { table = y; rest = zeros_rest zeros }
    where
      words : List ℕ
      words = table_of (policy_in s)

      zeros : Zeros (table_end words) words
      zeros = elim (dec_lt 0 (prohibition_count words)) [
        | yes h ↦
            let e = ends_prohibited words h in
            zeros_table s u t (table_end words) (omega (arith, associations_counted, y.few_associations)) (λ b. omega (arith, prohibitions_counted))
        | no h ↦
            let e = ends_associated words (omega arith) in
            zeros_table s u t (table_end words) (omega (arith, associations_counted)) (λ b. absurd (omega (arith, prohibitions_counted)))
      ]

-- words laid over as many are those words
over_all : (fresh words : List ℕ) → length fresh ≡ length words → laid 0 fresh words ≡ fresh
unfolding laid
over_all fresh words e =
    let d : drop (0 + length fresh) words ≡ [] = drop_of_length-le words {i = 0 + length fresh} (omega arith) in
    ap (λ (r : List ℕ). fresh ++ r) d ∙ append-nil fresh

-- the front of a table that has zeros behind it, and zeros, laid over as many words, are the table
pub copied : (words fresh : List ℕ) {words₁ words₂ : List ℕ} {k : ℕ} → length words ≡ 8192 → Ended fresh → AtMost (table_end fresh) 8192 k
    → words₁ ≡ laid 0 (take (k - 0) fresh) words → words₂ ≡ laid k (replicate (8192 - k) 0) words₁ → words₂ ≡ fresh
copied words fresh {words₁} {words₂} {k} size f a p q =
    let front : List ℕ = take k fresh in
    let back : List ℕ = replicate (8192 - k) 0 in
    let long : length front ≡ k = length-take-le k fresh (omega (arith, f.table.size, a.few)) in
    let far : 0 + length front ≡ k = omega arith in
    let same : k - 0 ≡ k = omega arith in
    let whole : front ++ back ≡ fresh = ap (λ (r : List ℕ). front ++ r) (sym (rw (← a.is) at f.rest)) ∙ take-append-drop k fresh in
    q ∙ ap (laid k back) (p ∙ ap (λ (i : ℕ). laid 0 (take i fresh) words) same) ∙ ap (λ (i : ℕ). laid i back (laid 0 front words)) (sym far)
    ∙ laid_behind 0 front back words (omega (arith, length-replicate {A = ℕ} (8192 - k) 0, a.few)) ∙ ap (λ (l : List ℕ). laid 0 l words) whole
    ∙ over_all fresh words (f.table.size ∙ sym size)
