-- The working memory: 8,192 words of 32 bits, 32,768 bytes. Where everything stands in it.
-- Assumes nothing.
use Rattle.std.specs.Prelude.{List, ℕ, ◌+◌, ◌*◌, get_or}

-- the published length, in words
abbrev pub word_count : ℕ
word_count = 8192

-- word i of the memory
abbrev pub word : List ℕ → ℕ → ℕ
word mem i = get_or mem i 0

-- what word 0 of a table holds: "QDR1" in ASCII
abbrev pub mark : ℕ
mark = 0x51445231

-- the words that hold how many assignments, associations and prohibitions there are; words 4 to 7 are free
abbrev pub assignment_counter : ℕ
assignment_counter = 1

abbrev pub association_counter : ℕ
association_counter = 2

abbrev pub prohibition_counter : ℕ
prohibition_counter = 3

-- how many there are
abbrev pub assignment_count : List ℕ → ℕ
assignment_count mem = word mem assignment_counter

abbrev pub association_count : List ℕ → ℕ
association_count mem = word mem association_counter

abbrev pub prohibition_count : List ℕ → ℕ
prohibition_count mem = word mem prohibition_counter

-- words 8 to 519: the kind of element x
abbrev pub kinds_from : ℕ
kinds_from = 8

abbrev pub kind_word : List ℕ → (x : ℕ) → ℕ
kind_word mem x = word mem (kinds_from + x)

-- words 520 to 775: the user of process i
abbrev pub users_from : ℕ
users_from = 520

abbrev pub user_word : List ℕ → (i : ℕ) → ℕ
user_word mem i = word mem (users_from + i)

-- words 776 to 2775: assignment i, child * 512 + container
abbrev pub assignments_from : ℕ
assignments_from = 776

abbrev pub assignment_word : List ℕ → (i : ℕ) → ℕ
assignment_word mem i = word mem (assignments_from + i)

-- words 2776 to 4775: association i takes two words, attribute * 512 + target, and the rights; words 4776 to 5775 are free
abbrev pub associations_from : ℕ
associations_from = 2776

abbrev pub association_start : (i : ℕ) → ℕ
association_start i = associations_from + 2 * i

-- words 5776 to 7975: prohibition i takes eleven words: sort * 1024 + subject * 2 + form; the rights; inclusion count * 8 + exclusion count; eight
-- places for the listed ids, the inclusions first. Words 7976 to 8191 are free.
abbrev pub prohibitions_from : ℕ
prohibitions_from = 5776

abbrev pub prohibition_start : (i : ℕ) → ℕ
prohibition_start i = prohibitions_from + 11 * i
