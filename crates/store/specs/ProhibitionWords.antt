-- The words after one prohibition more or one less.
-- Assumes nothing.
use Rattle.std.specs.Prelude.{List, ◌∷◌, ◌++◌, ℕ, ◌+◌, ◌*◌, ◌-◌, ◌≤◌, ◌<◌, leb, length, replicate}
use Rattle.model.specs.Policy.{Prohibition}
use Rattle.model.specs.Sound.{most_prohibitions, listed}
use Rattle.table.specs.Layout.{prohibitions_from, prohibition_counter, prohibition_count}
use Rattle.table.specs.Answers.{Left}
use Rattle.group.specs.Group.{with_record, without_record}
use Rattle.store.specs.Words.{added}

-- a prohibition, by its fields
abbrev pub prohibition : (sort subject form rights : ℕ) → (inclusion exclusion : List ℕ) → Prohibition
prohibition sort subject form rights inclusion exclusion =
    record { sort = sort; subject = subject; form = form; rights = rights; inclusion = inclusion; exclusion = exclusion }

-- the prohibition's fields go into a record's words
pub record Storable (b : Prohibition) : Type 0 where
  pub low_sort : b.sort ≤ 3
  pub low_subject : b.subject < 512
  pub low_form : b.form ≤ 1
  pub few_inclusions : length b.inclusion ≤ 4
  pub few_exclusions : length b.exclusion ≤ 4

-- the words of a prohibition that count: the first three and the ids that it lists
unfoldable pub prohibition_front : Prohibition → List ℕ
prohibition_front b =
    (b.sort * 1024 + b.subject * 2 + b.form)
    ∷ b.rights
    ∷ (length b.inclusion * 8 + length b.exclusion)
    ∷ listed b

-- the record of a prohibition: eleven words, those that count and zero in the places that no id takes
unfoldable pub prohibition_record : Prohibition → List ℕ
prohibition_record b = prohibition_front b ++ replicate (8 - length (listed b)) 0

-- the words with one prohibition more
unfoldable pub with_prohibition : Prohibition → List ℕ → List ℕ
with_prohibition b mem = with_record prohibitions_from prohibition_counter (prohibition_record b) mem

-- the words with one prohibition less: the first record that begins with its words
unfoldable pub without_prohibition : Prohibition → List ℕ → List ℕ
without_prohibition b mem = without_record prohibitions_from 11 prohibition_counter (prohibition_front b) mem

-- one prohibition more: never a 201st
abbrev pub added_prohibition : Prohibition → List ℕ → Left
added_prohibition b mem = added (leb most_prohibitions (prohibition_count mem)) (with_prohibition b mem) mem
