-- The prohibition of these parts, the lists parts of the words, is the prohibition of the table.
-- Assumes nothing.
use mathlib.Core.Path.{◌≡◌, refl}
use mathlib.Core.List.{List}
use Prim.Native.Nat.{ℕ, ◌+◌, ◌*◌, ◌-◌, ◌<◌}
use lib.ListN.{take, drop}
use Rattle.table.specs.Layout.{prohibition_count, prohibition_start}
use Rattle.table.specs.View.{inclusion_count, exclusion_count, prohibition_at}
use Rattle.table.specs.Facts.{Table, AtMost}
use Rattle.table.proofs.Listed.{inclusion_lent, exclusion_lent}
use Rattle.store.specs.ProhibitionWords.{prohibition}

pub stored_is : {mem : List ℕ} (t : Table mem) (i : ℕ) (h : i < prohibition_count mem)
    {n m : ℕ} → AtMost (inclusion_count mem (prohibition_start i)) 4 n → AtMost (exclusion_count mem (prohibition_start i)) 4 m
    → {s j f r : ℕ} → s ≡ (prohibition_at mem i).sort → j ≡ (prohibition_at mem i).subject
    → f ≡ (prohibition_at mem i).form → r ≡ (prohibition_at mem i).rights
    → prohibition s j f r (take (5776 + 11 * i + 3 + n - (5776 + 11 * i + 3)) (drop (5776 + 11 * i + 3) mem))
    (take (5776 + 11 * i + 3 + n + m - (5776 + 11 * i + 3 + n)) (drop (5776 + 11 * i + 3 + n) mem))
    ≡ prohibition_at mem i
stored_is t i h few more es ej ef er = rw (inclusion_lent t i h few, exclusion_lent t i h few more, es, ej, ef, er) refl
