-- The refusals of each call: a number is answered exactly if its line is the first that holds, and then nothing is written.
-- Assumes nothing.
use mathlib.Core.Path.{◌≡◌, sym, ap, subst, ◌∙◌}
use mathlib.Core.List.{List, map}
use Prim.Native.Nat.{ℕ}
use lib.Dec.{eqb}
use lib.ListN.{length, length-map}
use Rattle.model.specs.Contain.{contained}
use Rattle.model.specs.Refusal.{Line, First, refused, answer}
use Rattle.model.specs.Request.{verdict}
use Rattle.model.specs.Explain.{rows, explain_lines, explanation, Explained}
use Rattle.model.specs.Command.{new_lines}
use Rattle.model.specs.Index.{index_of, index_lines, contain_lines}
use Rattle.model.specs.Image.{load_lines, save_lines}
use Rattle.model.specs.Calls.{Building, Explaining, kept, lent, build, is_index, contains, explain}
use Rattle.model.specs.Lists.{same}
use Rattle.model.proofs.Whole.{refused_explain}
use Rattle.model.proofs.Refusals.{first_refused, refused_first}
use Rattle.table.specs.Layout.{word_count}
use Rattle.table.specs.View.{holds_table, policy_of, memory, empty_table}
use Rattle.table.specs.Answers as table
use Rattle.std.specs.Prelude.{Bool, Result}
use Rattle.answer.specs.declared.Refusal.{Refusal}
use Rattle.answer.specs.Answers.{IsRefused}
use Rattle.answer.proofs.Told.{refused_told, told_refused}
use Rattle.request.specs.Asks.{request_of}
use Rattle.request.specs.declared.Request.{Request}
use Rattle.explain.specs.Answers as numbers
use Rattle.explain.specs.declared.Explanation.{Explanation}
use Rattle.explain.proofs.Theorems as explained
use Rattle.rows.specs.Rows.{row_of, leaving, numbers_in}
use Rattle.rows.specs.declared.Row.{Row}
use Rattle.rows.proofs.Unique.{explain_unique}
use Rattle.rows.proofs.Theorems.{as_numbers}
use Rattle.image.proofs.Theorems.{load_refuses, load_refused, load_leaves, save_refuses, save_refused, save_leaves}
use Rattle.policy.specs.Allows as allows
use Rattle.policy.specs.Claims.{GivenExactly, Refuses}

-- "A refused call .. writes nothing": what is in place after a call that a line refused is what was there
stays : {A B : Type 0} (a : A) (next old : B) {lines : List Line} {n : ℕ} → First n lines → kept (answer lines a) next old ≡ old
unfolding kept
stays a next old f = rw (first_refused a f)

-- new: the line is the memory's length
pub new_refuses : (words words' : List ℕ) (r : Result (Unit {0}) Refusal) → allows.new words r words'
    → Refuses (new_lines (eqb (length words) word_count)) r (words' ≡ words)
unfolding table.new_table
new_refuses words words' r e =
    let lines = new_lines (eqb (length words) word_count) in
    let says : table.told r words' ≡ answer lines empty_table = ap (λ (b : table.Left). b.answers) e in
    let first : (n : ℕ) → IsRefused r n → First n lines = λ n h. refused_first empty_table lines (sym says ∙ told_refused (λ _. words') h) in
    record {
      exactly = λ n. (first n, λ f. refused_told (λ _. words') r (says ∙ first_refused empty_table f));
      untouched = λ n h. ap (λ (b : table.Left). b.words) e ∙ stays empty_table empty_table words (first n h);
    }

-- load: the memory's length, then the lines of the image
pub load_refusals : (words image words' : List ℕ) (r : Result (Unit {0}) Refusal) → allows.load words image r words'
    → Refuses (load_lines (eqb (length words) word_count) image) r (words' ≡ words)
load_refusals words image words' r e = record {
  exactly = λ n. (load_refused image words r words' e, load_refuses image words r words' e);
  untouched = λ n. load_leaves image words r words' e;
}

-- save: no table, or too few bytes
pub save_refusals : (words bytes bytes' : List ℕ) (r : Result ℕ Refusal) → allows.save words bytes r bytes'
    → Refuses (save_lines (holds_table words) (length bytes) (policy_of words)) r (bytes' ≡ bytes)
save_refusals words bytes bytes' r e = record {
  exactly = λ n. (save_refused words bytes r bytes' e, save_refuses words bytes r bytes' e);
  untouched = λ n. save_leaves words bytes r bytes' e;
}

-- build_index: no table, or an index of another length
pub build_refuses : (words bytes bytes' : List ℕ) (r : Result (Unit {0}) Refusal) → allows.build_index words bytes r bytes'
    → Refuses (index_lines (lent (memory words) bytes)) r (bytes' ≡ bytes)
unfolding build
build_refuses words bytes bytes' r e =
    let lines = index_lines (lent (memory words) bytes) in
    let made = index_of (policy_of words) in
    let says : table.told r bytes' ≡ answer lines made = ap (λ (b : Building). b.answers) e in
    let first : (n : ℕ) → IsRefused r n → First n lines = λ n h. refused_first made lines (sym says ∙ told_refused (λ _. bytes') h) in
    record {
      exactly = λ n. (first n, λ f. refused_told (λ _. bytes') r (says ∙ first_refused made f));
      untouched = λ n h. ap (λ (b : Building). b.index) e ∙ stays made made bytes (first n h);
    }

-- is_index: the same lines
pub is_index_refuses : (words bytes : List ℕ) (r : Result Bool Refusal) → allows.is_index words bytes r
    → GivenExactly (index_lines (lent (memory words) bytes)) r
unfolding is_index
is_index_refuses words bytes r e n =
    let lines = index_lines (lent (memory words) bytes) in
    let same-as = same bytes (index_of (policy_of words)) in (
      λ h. refused_first same-as lines (sym e ∙ told_refused (λ b. b) h),
      λ f. refused_told (λ b. b) r (e ∙ first_refused same-as f),
    )

-- contains: no table, ids out of range, elements that are absent
pub contains_refuses : (words : List ℕ) (x y : ℕ) (r : Result Bool Refusal) → allows.contains words x y r
    → GivenExactly (contain_lines (holds_table words) (policy_of words) x y) r
unfolding contains
contains_refuses words x y r e n =
    let lines = contain_lines (holds_table words) (policy_of words) x y in
    let is_Within = contained (policy_of words) x y in (
      λ h. refused_first is_Within lines (sym e ∙ told_refused (λ b. b) h),
      λ f. refused_told (λ b. b) r (e ∙ first_refused is_Within f),
    )

-- explain_numbers: the lines of the request, and too few rows
pub explain_refuses : (words : List ℕ) (q : Request) (room room' : List (List ℕ)) (r : Result Explanation Refusal) → allows.explain_numbers words q room r room'
    → Refuses (explain_lines (contained (policy_of words)) (holds_table words) (length room) (policy_of words) (request_of q)) r (room' ≡ room)
unfolding numbers.explaining explanation
explain_refuses words q room room' r e =
    let W = contained (policy_of words) in
    let lines = explain_lines W (holds_table words) (length room) (policy_of words) (request_of q) in
    let made : Explained = record { verdict = verdict W (policy_of words) (request_of q); count = length (rows W (policy_of words) (request_of q)) } in
    let says : numbers.told r ≡ answer lines made = ap (λ (b : numbers.Left). b.answers) e in
    record {
      exactly = λ n. (
        λ h. refused_first made lines (sym says ∙ told_refused numbers.explained_by h),
        λ f. refused_told numbers.explained_by r (says ∙ first_refused made f),
      );
      untouched = λ n h. (explained.rows_exact words q room room' r e).refused h.why h.is;
    }

-- explain: the same lines, over rows as structs
pub explain_structs_refuses : (words : List ℕ) (q : Request) (room room' : List Row) (r : Result Explanation Refusal) → allows.explain words q room r room'
    → Refuses (explain_lines (contained (policy_of words)) (holds_table words) (length room) (policy_of words) (request_of q)) r (room' ≡ room)
unfolding explain
explain_structs_refuses words q room room' r e =
    let size : length (numbers_in room) ≡ length room = length-map (map row_of room) numbers.numbers_of ∙ length-map room row_of in
    let by_numbers = explain_refuses words q (numbers_in room) (numbers_in room') r (as_numbers (memory words) (request_of q) room room' r e) in
    record {
      exactly = subst (λ n. GivenExactly (explain_lines (contained (policy_of words)) (holds_table words) n (policy_of words) (request_of q)) r) size by_numbers.exactly;
      untouched = λ n h.
          let says : (explain (memory words) (request_of q) (map row_of room)).answers ≡ refused n = sym (ap (λ (b : Explaining). b.answers) e) ∙ told_refused numbers.explained_by h in
          let stays = refused_explain (memory words) (request_of q) (map row_of room) says in
          let same-call : leaving r room ≡ explain (memory words) (request_of q) (map row_of room) =
          λ i. record { answers = ap (λ (b : Explaining). b.answers) e i; leaves = sym stays i } in
          (explain_unique (memory words) (request_of q) room {r = r} {s = r} e same-call).1;
    }
