-- The headline theorems: what is claimed in specs/Claims.antt of every result that the contracts of the public calls allow.
-- Assumes nothing.
use mathlib.Core.Path.{sym, ap₂, ◌∙◌}
use Rattle.model.specs.Lists.{all_of}
use Rattle.model.specs.Command.{fits}
use Rattle.model.specs.History.{run}
use Rattle.model.specs.House.{house, Case}
use Rattle.model.proofs.Truth.{all_in}
use Rattle.model.proofs.SmallHouse.{house_sound}
use Rattle.table.proofs.Outcomes.{new_unique}
use Rattle.table.specs.View.{memory}
use Rattle.climb.proofs.Answered as climb
use Rattle.index.proofs.Unique.{build_unique, is_index_unique}
use Rattle.request.specs.Asks.{request_of}
use Rattle.decide.proofs.Theorems as decide
use Rattle.explain.proofs.Theorems as explain
use Rattle.rows.proofs.Unique.{explain_unique}
use Rattle.rows.proofs.Theorems.{as_numbers}
use Rattle.unpack.specs.Words.{table_of}
use Rattle.unpack.proofs.StowedSound.{sound_table}
use Rattle.image.proofs.Theorems.{load_unique, save_unique}
use Rattle.image.proofs.RoundTrips as trips
use Rattle.command.proofs.Theorems as command
use Rattle.history.proofs.OneRun.{run_exists}
use Rattle.history.proofs.Theorems.{run_kept}
use Rattle.history.proofs.Theorems as runs
use Rattle.policy.specs.Claims.{RefusalsExact, ContainsExact, IndexExact, GrantExact, IndexedOverAnyBytes, IndexedAsPlain, RowsExact, ImageOfPolicy, PolicyOfImage, History, IndexBlind, Unique}
use Rattle.policy.specs.Cases.{SmallHouse}
use Rattle.policy.proofs.InTheHouse.{run_policy, fit_in_each, at_home, answered}
use Rattle.policy.proofs.Containing.{contains_within, contains_outside, is_index_same, is_index_other, build_done, build_index_of, build_bit, build_zero_row, build_zero_column}
use Rattle.policy.proofs.Refusing.{new_refuses, load_refusals, save_refusals, build_refuses, is_index_refuses, contains_refuses, explain_refuses, explain_structs_refuses}

-- each refusal of each call is given exactly if its line holds and none before it does, and a refused call writes nothing
pub refusals_exact : RefusalsExact
refusals_exact = record {
  new = new_refuses;
  load = load_refusals;
  save = save_refusals;
  build_index = build_refuses;
  is_index = is_index_refuses;
  contains = contains_refuses;
  decide = λ words q r e. decide.refusal_exact words q r e;
  decide_indexed = λ words bytes q r e. (decide.indexed_by_bits words bytes q r e).refuses;
  explain_numbers = explain_refuses;
  explain = explain_structs_refuses;
  command = λ words bytes c r words' bytes' k.
      record { exactly = command.refusals_exact k; untouched = λ n h. command.refused_leaves_all k h.is };
}

-- contains answers within exactly where x is within y by chains of assignments, and outside exactly where it is not
pub contains_exact : ContainsExact
contains_exact = record {
  within = contains_within;
  outside = contains_outside;
}

-- is_index tells exactly whether the bytes are the table's index, and build_index makes them so, bit by bit
pub index_exact : IndexExact
index_exact = record {
  same = is_index_same;
  other = is_index_other;
  done = build_done;
  built = build_index_of;
  bits = build_bit;
  row_0 = build_zero_row;
  column_0 = build_zero_column;
}

-- the plain decision grants, and denies, exactly where 01's rule does over chains of assignments; an element in no class is denied
pub grant_exact : GrantExact
grant_exact = record {
  granted = λ words q r e. decide.grant_exact words q r e;
  denied = λ words q r e. decide.deny_exact words q r e;
  unclassed_denied = λ words q r e n x i. decide.unclassed_denied words q r e n i;
}

-- the indexed decision is the rule with the bits of the lent bytes read as containment, over any bytes
pub indexed_over_any_bytes : IndexedOverAnyBytes
indexed_over_any_bytes = record {
  bytes = λ words bytes q r e. decide.indexed_over_any_bytes words bytes q r e;
  any_number = λ words bytes q r e. decide.indexed_by_bits words bytes q r e;
}

-- on a table of a sound policy, with its index, both decisions have the same result
pub indexed_as_plain : IndexedAsPlain
indexed_as_plain = decide.indexed_as_plain

-- the explanation answers as the decision does, and its rows are those of 01's row rule
pub rows_exact : RowsExact
rows_exact = record {
  as_decided = λ words q rows rows' r e d f. explain.as_decided words q rows rows' r e d f;
  in_front = λ words q rows rows' r e. explain.rows_exact words q rows rows' r e;
  of_grant = λ words q rows rows' r e k n h. explain.grant_rows_exact words q rows rows' r e h;
  of_deny = λ words q rows rows' r e n h. explain.deny_rows_exact words q rows rows' r e h;
  in_structs = λ words q rows rows' r e. as_numbers (memory words) (request_of q) rows rows' r e;
}

-- what save writes is the image of the table's policy, and no byte beyond
pub image_of_policy : ImageOfPolicy
image_of_policy = record {
  image = λ words bytes bytes' n e. trips.image_of_policy words bytes n bytes' e;
  as_long = λ words bytes bytes' n e. trips.saved_length words bytes n bytes' e;
  no_byte_beyond = λ words bytes bytes' n e. trips.no_byte_beyond words bytes n bytes' e;
  enough = λ words bytes bytes' r e. trips.room_enough words bytes r bytes' e;
}

-- what was saved is read back as the same policy, and what was loaded is saved as the same bytes
pub policy_of_image : PolicyOfImage
policy_of_image = record {
  read_back = λ words bytes bytes' n e sound other other' r f size. (
    trips.read_done words bytes n bytes' e sound other size r other' f,
    trips.policy_of_image words bytes n bytes' e sound other size r other' f,
  );
  written_again = λ words image words' e b bytes bytes' r f room. (
    trips.saved_again image words words' b e bytes room r bytes' f,
    trips.bytes_again image words words' b e bytes room r bytes' f,
  );
  one_policy = λ words bytes bytes' n e s words₂ bytes₂ bytes₂' n₂ e₂ s₂.
      trips.one_policy words bytes n bytes' e s words₂ bytes₂ n₂ bytes₂' e₂ s₂;
}

-- what any sequence of commands leaves, refused ones among them
pub history : History
history = λ start words bytes b i steps words' bytes' r. runs.history b i r

-- neither a command's outcome nor the words that it leaves depend on the bytes of the index
pub index_blind : IndexBlind
index_blind = λ words bytes bytes₂ c r s words' bytes' words₂' bytes₂' size k l. command.index_blind size k l

-- the contract of each call allows one result
pub unique : Unique
unique = record {
  new = λ words r s words' words'' e f. new_unique words e f;
  load = λ words image r s words' words'' e f. load_unique image words e f;
  save = λ words bytes r s bytes' bytes'' e f. save_unique words bytes e f;
  build_index = λ words bytes r s bytes' bytes'' e f. build_unique words bytes e f;
  is_index = λ words bytes r s e f. is_index_unique words bytes e f;
  contains = λ words x y r s e f. climb.unique r s (e ∙ sym f);
  decide = λ words q r s e f. decide.unique r s (e ∙ sym f);
  decide_indexed = λ words bytes q r s e f. decide.unique r s (e ∙ sym f);
  explain_numbers = λ words q rows r s rows' rows'' e f. explain.unique (e ∙ sym f);
  explain = λ words q rows r s rows' rows'' e f. explain_unique (memory words) (request_of q) rows e f;
  command = λ words bytes c r s words' words'' bytes' bytes'' k l. command.unique k l;
}

-- K1 to K12 of the small house: every result of every call that a case's question can be put to is the case's outcome
pub small_house : SmallHouse
small_house = record {
  answered = λ mem t e k i steps words bytes r given.
      let start = at_home mem t e in
      answered k i words bytes (run_kept start r) (run_policy start r ∙ ap₂ run e given);
  mem = table_of house;
  table = (sound_table house house_sound).0;
  policy = (sound_table house house_sound).1;
  runs = λ words bytes k i. run_exists words bytes k.given (all_in (λ (c : Case). all_of fits c.given) fit_in_each i);
}
