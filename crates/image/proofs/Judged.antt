-- An image read into words: which refusal number it gets.
-- Assumes nothing.
use mathlib.Core.Path.{◌≡◌, refl, sym, ap, subst, ◌∙◌}
use mathlib.Core.Bool.{Bool, true, false, not, ◌||◌}
use mathlib.Core.List.{List, [], ◌∷◌}
use Prim.Native.Nat.{ℕ, ◌≤◌, ◌<◌}
use native.Mathlib.Omega.{arith}
use borrow.Author.Tests.{not-true, not-false}
use Rattle.model.specs.Lists.{rising}
use Rattle.model.specs.Policy.{Policy, assignment_fields}
use Rattle.model.specs.Sound.{within_limits, fields_fit, groups_rise}
use Rattle.model.specs.Refusal.{Line, ◌when◌, First, now, next, refusal}
use Rattle.model.specs.Image.{policy_in, image_lines, breaks_rule, names_wrong}
use Rattle.model.proofs.Truth.{or_right, not_so, fails_when, clash}
use Rattle.model.proofs.Image.Counts.{each_rises}
use Rattle.model.proofs.Refusals.{first_given, refusal_first}
use Rattle.std.specs.Prelude.{Result, Ok}
use Rattle.std.specs.declared.ops.ControlFlow.TheVariants.{Continue}
use Rattle.std.specs.Result.{result_from_control_flow}
use Rattle.answer.specs.declared.Refusal.{Refusal}
use Rattle.answer.specs.Answers.{refusal_in}
use Rattle.table.specs.View.{holds_table, policy_of}
use Rattle.table.proofs.Test.{table_of_lem}
use Rattle.measure.specs.Places.{Uncut}
use Rattle.measure.specs.Sizes.{misfits, size_lines}
use Rattle.measure.proofs.Accepted as accepted
use Rattle.screen.specs.Stowable.{stowable}
use Rattle.screen.proofs.Rules.{not_stowable}
use Rattle.unpack.specs.Words.{table_of}
use Rattle.unpack.proofs.Narrow.{Narrow}
use Rattle.unpack.proofs.Stowed.{policy_stowed, table_stowed}
use Rattle.unpack.proofs.StowedRead.{read_narrow}
use Rattle.image.specs.Answers.{table_refusal, Read, Ended}
use Rattle.image.proofs.Copying.{table_ended}

-- 13 and 14, of a policy
abbrev policy_lines : Policy → List Line
policy_lines p = (13 when breaks_rule p) ∷ (14 when names_wrong p) ∷ []

-- where neither 11 nor 12 holds, the policy decides
behind_sizes : (s : List ℕ) → refusal (size_lines s) ≡ 0 → refusal (image_lines s) ≡ refusal (policy_lines (policy_in s))
unfolding refusal misfits
behind_sizes s e = let f = accepted.neither_holds s e in rw (f.0, f.1)

-- the first of 11 and 12 that holds is the first of all
sizes_first : (s : List ℕ) {n : ℕ} → First n (size_lines s) → First n (image_lines s)
unfolding size_lines misfits
sizes_first s (now e h) = now e h
sizes_first s (next h (now e k)) = next h (now e k)
sizes_first s {n = n} (next h (next _ never)) = elim never [ ]

-- nothing is refused: the number is 0
nothing : {n m : ℕ} → n ≡ m → n ≤ 0 → m ≡ 0
nothing e h = omega arith

-- what the sizes pass has all its fields
pub uncut : (s : List ℕ) {n : ℕ} → n ≡ refusal (size_lines s) → n ≤ 0 → Uncut s
uncut s e h = accepted.uncut s (nothing e h)

-- where what they were asked of went on, neither of the two holds
went_clear : (s : List ℕ) {r : Result (Unit {0}) Refusal} {b : _} {x : Unit {0}}
    → refusal_in r ≡ refusal (size_lines s) → r ≡ result_from_control_flow b → b ≡ Continue x → 0 ≡ refusal (size_lines s)
went_clear s {r} {b} {x} e f g = let h : r ≡ Ok x = f ∙ ap result_from_control_flow g in ap refusal_in (sym h) ∙ e

-- and it has all its fields
pub went_uncut : (s : List ℕ) {r : Result (Unit {0}) Refusal} {b : _} {x : Unit {0}}
    → refusal_in r ≡ refusal (size_lines s) → r ≡ result_from_control_flow b → b ≡ Continue x → Uncut s
went_uncut s e f g = uncut s (went_clear s e f g) (omega arith)

-- 11 or 12 is the image's number
pub sizes_tell : (s words : List ℕ) {n : ℕ} → n ≡ refusal (size_lines s) → 0 < n → Read s n words
sizes_tell s words {n} e h =
    record {
      number_is = sym (first_given (sizes_first s (refusal_first (size_lines s) (λ z. omega arith) (sym e))));
      words_are = λ z. absurd (omega arith);
      words_end = λ z. absurd (omega arith);
    }

-- 13 is the first of a policy that breaks a rule
breaks : (p : Policy) → breaks_rule p ≡ true → refusal (policy_lines p) ≡ 13
unfolding refusal
breaks p b = rw b

-- records that cannot be laid break a rule
pub unstowable_tells : (s words : List ℕ) {n : ℕ} {t : Bool} → n ≡ refusal (size_lines s) → n ≤ 0 → t ≡ stowable (policy_in s) → not t ≡ true → Read s 13 words
unstowable_tells s words {t = t} e h q f =
    record {
      number_is = sym (behind_sizes s (nothing e h) ∙ breaks (policy_in s) (not_stowable (policy_in s) (sym q ∙ not-true t f)));
      words_are = λ z. absurd (omega arith);
      words_end = λ z. absurd (omega arith);
    }

-- those that can be
pub stowable_known : (s : List ℕ) {t : Bool} → t ≡ stowable (policy_in s) → not t ≡ false → stowable (policy_in s) ≡ true
stowable_known s {t} e f = sym e ∙ not-false t f

-- assignments that do not rise break a rule
falls : (p : Policy) → rising assignment_fields p.assignments ≡ false → breaks_rule p ≡ true
unfolding breaks_rule
falls p h = or_right (not (within_limits p) || not (fields_fit p)) (not (groups_rise p)) (not_so (groups_rise p) (fails_when (groups_rise p) (λ g. clash (each_rises p g).assignments h)))

-- the words that the records were laid into tell 13 and 14 of the policy
words_tell : (p : Policy) → Narrow p → stowable p ≡ true → table_refusal (table_of p) ≡ refusal (policy_lines p)
unfolding table_refusal
words_tell p n t = go (rising assignment_fields p.assignments) refl
  where
    go : (b : Bool) → rising assignment_fields p.assignments ≡ b → table_refusal (table_of p) ≡ refusal (policy_lines p)
    go true e = rw (table_stowed p n t, e, policy_stowed p n t)
    go false e = rw (table_stowed p n t, e) (sym (breaks p (falls p e)))

-- words that are refused by nothing hold a table
zero_holds : (words : List ℕ) → table_refusal words ≡ 0 → holds_table words ≡ true
unfolding table_refusal
zero_holds words e = go (holds_table words) refl
  where
    go : (b : Bool) → holds_table words ≡ b → holds_table words ≡ true
    go true h = h
    go false h = let z : ◌≡◌ {A = ℕ} 13 0 = rw h at e in absurd (omega arith)

-- so what they tell is the image's number
pub words_judge : (s words : List ℕ) {n r : ℕ} {t : Bool} → n ≡ refusal (size_lines s) → n ≤ 0 → t ≡ stowable (policy_in s) → not t ≡ false
    → words ≡ table_of (policy_in s) → r ≡ table_refusal words → Read s r words
words_judge s words {t = t} e h q f w k =
    record {
      number_is = k ∙ ap table_refusal w ∙ words_tell (policy_in s) (read_narrow s) (stowable_known s q f) ∙ sym (behind_sizes s (nothing e h));
      words_are = λ z. w;
      words_end = λ z.
          subst Ended (sym w)
          (table_ended s (uncut s e h) (stowable_known s q f) (table_of_lem (table_of (policy_in s)) (zero_holds (table_of (policy_in s)) (sym (k ∙ ap table_refusal w) ∙ z))));
    }

-- so too where what the sizes were asked of went on
pub went_judge : (s words : List ℕ) {v : Result (Unit {0}) Refusal} {b : _} {x : Unit {0}} {r : ℕ} {t : Bool}
    → refusal_in v ≡ refusal (size_lines s) → v ≡ result_from_control_flow b → b ≡ Continue x → t ≡ stowable (policy_in s) → not t ≡ false
    → words ≡ table_of (policy_in s) → r ≡ table_refusal words → Read s r words
went_judge s words e f g q h w k = words_judge s words (went_clear s e f g) (omega arith) q h w k

-- 13 and 14 by words, return by return
module _ (mem : List ℕ) {t : Bool} (e : t ≡ holds_table mem) where
  -- no table is 13
  pub no_table_13 : not t ≡ true → 13 ≡ table_refusal mem
  unfolding table_refusal
  no_table_13 f = let k : holds_table mem ≡ false = sym e ∙ not-true t f in rw k

  module _ (f : not t ≡ false) {b : Bool} (d : b ≡ breaks_rule (policy_of mem)) where
    holds : holds_table mem ≡ true
    holds = sym e ∙ not-false t f

    -- a broken rule is 13
    pub broken_13 : b ≡ true → 13 ≡ table_refusal mem
    unfolding table_refusal refusal
    broken_13 g = let k : breaks_rule (policy_of mem) ≡ true = sym d ∙ g in rw (holds, k)

    module _ (g : b ≡ false) {w : Bool} (v : w ≡ names_wrong (policy_of mem)) where
      clear_of_13 : breaks_rule (policy_of mem) ≡ false
      clear_of_13 = sym d ∙ g

      -- a wrong name is 14
      pub wrong_14 : w ≡ true → 14 ≡ table_refusal mem
      unfolding table_refusal refusal
      wrong_14 h = let k : names_wrong (policy_of mem) ≡ true = sym v ∙ h in rw (holds, clear_of_13, k)

      -- else 0
      pub right_0 : w ≡ false → 0 ≡ table_refusal mem
      unfolding table_refusal refusal
      right_0 h = let k : names_wrong (policy_of mem) ≡ false = sym v ∙ h in rw (holds, clear_of_13, k)
