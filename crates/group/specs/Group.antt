-- Groups in lent words: a number of records of the same width, one after the other, and their number in a word of its own.
-- Assumes nothing.
use Rattle.std.specs.Prelude.{◌≡◌, Bool, cond, List, [], ◌∷◌, ◌++◌, ℕ, zero, suc, ◌+◌, ◌*◌, ◌-◌, ◌^◌, ◌≤◌, ◌<◌, length, take, drop, get_or, set, replicate}
use Rattle.model.specs.Lists.{In, same, put, less_first}

-- the first n records of `width` words each
unfoldable pub records : (width n : ℕ) → List ℕ → List (List ℕ)
records width zero l = []
records width (suc n) l = take width l ∷ records width n (drop width l)

-- the words of records, one after the other
unfoldable pub flat : List (List ℕ) → List ℕ
flat [] = []
flat (r ∷ g) = r ++ flat g

-- the group whose records start at word `base` and whose number stands in word `counter`
unfoldable pub group : (base width counter : ℕ) → List ℕ → List (List ℕ)
group base width counter words = records width (get_or words counter 0) (drop base words)

-- the words with others laid over them from word `at` on
unfoldable pub laid : (at : ℕ) → (over words : List ℕ) → List ℕ
laid at over words = take at words ++ (over ++ drop (at + length over) words)

-- the words with the group g in that group's place: its records, then 0 in each word that became free, and its number; every other word as it was
unfoldable pub regroup : (base width counter : ℕ) → List (List ℕ) → List ℕ → List ℕ
regroup base width counter g words =
    set (laid base (flat g ++ replicate (width * get_or words counter 0 - length (flat g)) 0) words) counter (length g)

-- the words with a record put into that group behind `at` others
abbrev pub inserted_at : (base counter at : ℕ) → (rec words : List ℕ) → List ℕ
inserted_at base counter at rec words =
    regroup base (length rec) counter (take at (group base (length rec) counter words) ++ (rec ∷ drop at (group base (length rec) counter words))) words

-- the words with k records taken out of that group behind `at` others
abbrev pub removed_at : (base width counter at k : ℕ) → List ℕ → List ℕ
removed_at base width counter at k words =
    regroup base width counter (take at (group base width counter words) ++ drop (at + k) (group base width counter words)) words

-- the words with a record in its place in that group: before the first that it is before
abbrev pub with_record : (base counter : ℕ) → (rec words : List ℕ) → List ℕ
with_record base counter rec words = regroup base (length rec) counter (put (λ r. r) rec (group base (length rec) counter words)) words

-- the record begins with those words
unfoldable pub begins : (front rec : List ℕ) → Bool
begins front rec = same front (take (length front) rec)

-- the words with that group less the first record that begins with the words given
abbrev pub without_record : (base width counter : ℕ) → (front words : List ℕ) → List ℕ
without_record base width counter front words = regroup base width counter (less_first (begins front) (group base width counter words)) words

-- how many stand before the first that passes the test: all of them where none does
unfoldable pub first_of : {A : Type 0} → (A → Bool) → List A → ℕ
first_of f [] = 0
first_of f (a ∷ l) = cond (f a) 0 (suc (first_of f l))

-- the words have room for a group of at most `most` records there, and no more than that stand in it
pub record Fits (base width counter most : ℕ) (words : List ℕ) : Type 0 where
  -- a record has a word
  pub some : 1 ≤ width
  -- the number stands before the records
  pub apart : counter < base
  -- the words go that far
  pub room : base + width * most ≤ length words
  -- no more records stand there
  pub few : get_or words counter 0 ≤ most
  -- words can be counted by a word
  pub short : length words ≤ 2 ^ 32

-- each record has `width` words
pub record Wide (width : ℕ) (g : List (List ℕ)) : Type 0 where
  pub each : (r : List ℕ) → In r g → length r ≡ width

-- each word behind the group's last record, up to where `most` records would end, is 0
pub record Clear (base width counter most : ℕ) (words : List ℕ) : Type 0 where
  pub zero_at : (i : ℕ) → base + width * get_or words counter 0 ≤ i → i < base + width * most → get_or words i 0 ≡ 0
