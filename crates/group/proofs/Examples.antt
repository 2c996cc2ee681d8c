-- Worked examples: a group of width 2 in ten words, its counter in word 1, its records from word 3 on.
-- Assumes nothing.
use mathlib.Core.Path.{◌≡◌, refl}
use mathlib.Core.List.{List, [], ◌∷◌}
use Prim.Native.Nat.{ℕ}
use Rattle.model.specs.Lists.{before, same, put, less_first, one, two}
use Rattle.group.specs.Group.{records, flat, group, laid, regroup, first_of, begins}

-- two records, (4, 1) and (7, 2), and other words around them
abbrev words : List ℕ
words = 50 ∷ 2 ∷ 51 ∷ 4 ∷ 1 ∷ 7 ∷ 2 ∷ 0 ∷ 0 ∷ 52 ∷ []

-- the group
pub group_there : group 3 2 1 words ≡ two 4 1 ∷ two 7 2 ∷ []
unfolding group records
group_there = refl

-- (5, 9) is put between them: three records, the count 3, the other words as they were
pub put_between : regroup 3 2 1 (put (λ r. r) (two 5 9) (group 3 2 1 words)) words ≡ 50 ∷ 3 ∷ 51 ∷ 4 ∷ 1 ∷ 5 ∷ 9 ∷ 7 ∷ 2 ∷ 52 ∷ []
unfolding group records regroup laid flat put before
put_between = refl

-- a record equal to one that is there is put behind it
pub put_equal : regroup 3 2 1 (put (λ r. r) (two 4 1) (group 3 2 1 words)) words ≡ 50 ∷ 3 ∷ 51 ∷ 4 ∷ 1 ∷ 4 ∷ 1 ∷ 7 ∷ 2 ∷ 52 ∷ []
unfolding group records regroup laid flat put before
put_equal = refl

-- (4, 1) is taken out: the words that became free are 0
pub taken_out_zero : regroup 3 2 1 (less_first (begins (two 4 1)) (group 3 2 1 words)) words ≡ 50 ∷ 1 ∷ 51 ∷ 7 ∷ 2 ∷ 0 ∷ 0 ∷ 0 ∷ 0 ∷ 52 ∷ []
unfolding group records regroup laid flat less_first begins same
taken_out_zero = refl

-- (7, 2) is found by its first word alone, 7, and taken out whole
pub found_by_front : first_of (begins (one 7)) (group 3 2 1 words) ≡ 1
unfolding group records first_of begins same
found_by_front = refl

pub taken_out_by_front : regroup 3 2 1 (less_first (begins (one 7)) (group 3 2 1 words)) words ≡ 50 ∷ 1 ∷ 51 ∷ 4 ∷ 1 ∷ 0 ∷ 0 ∷ 0 ∷ 0 ∷ 52 ∷ []
unfolding group records regroup laid flat less_first begins same
taken_out_by_front = refl

-- (4, 2) is not there: nothing changes
pub not_there_kept : regroup 3 2 1 (less_first (begins (two 4 2)) (group 3 2 1 words)) words ≡ words
unfolding group records regroup laid flat less_first begins same
not_there_kept = refl

-- the place of (7, 1) is behind one record, that of (8, 0) behind all
pub place_of : first_of (before (two 7 1)) (group 3 2 1 words) ≡ 1
unfolding group records first_of before
place_of = refl

pub place_behind : first_of (before (two 8 0)) (group 3 2 1 words) ≡ 2
unfolding group records first_of before
place_behind = refl
