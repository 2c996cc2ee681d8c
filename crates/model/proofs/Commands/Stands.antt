-- After any sequence of commands, refused ones among them, the policy holds exactly what was put and not since removed.
-- Assumes nothing.
use mathlib.Core.Path.{◌≡◌, refl, sym, ap, ap₂, ◌∙◌, fun_ext}
use mathlib.Core.Bool.{Bool, true, false, not, cond, ◌&&◌, ◌||◌, and-true, or-false}
use mathlib.Core.List.{List, [], ◌∷◌}
use Prim.Native.Nat.{ℕ}
use lib.Dec.{eqb}
use Rattle.model.specs.Lists.{In, any_of, all_of, those, less_first, same, rising, put}
use Rattle.model.specs.Policy.{Policy, class, element_key, element_fields, assignment_fields, association_fields, prohibition_fields, process_key, process_fields}
use Rattle.model.specs.Sound.{Sound}
use Rattle.model.specs.Command.{Command, create_class, create_element, assign, deassign, delete_element, create_association, delete_association, create_prohibition, delete_prohibition, start_process, end_process, fits, command_refusal, after, step}
use Rattle.model.specs.History.{run, accepted_of, Item, an_element, an_assignment, an_association, a_prohibition, a_process, item_fields, is_item, holds, puts, is_element_or_own, is_process_item, removes, stands}
use Rattle.model.proofs.Truth.{and_cut, and_join, and_left, and_right, same_truth, any_found, any_in, less_in, in_less, those_in, those_pass, in_those}
use borrow.Author.Tests.{not-true}
use Rattle.model.proofs.Order.{same_equal, equal_same, element_fields_lem, assignment_fields_lem, association_fields_lem, prohibition_fields_lem, process_fields_lem}
use Rattle.model.proofs.Groups.{put_any, OneKey, less_fails}
use Rattle.model.proofs.Commands.Ids.{kinds, owners, one_id}
use Rattle.model.proofs.Commands.Parts.{parts}
use Rattle.model.proofs.Commands.Keeps.{is_pair, pair_same}
use Rattle.model.proofs.Commands.Runs.{step_sound}

-- A group's records, asked for by their fields.
module _ {A : Type 0} (fields : A → List ℕ) where
  -- the group has the record a
  abbrev pub has : List A → A → Bool
  has l a = any_of (λ b. same (fields a) (fields b)) l

  -- with b put, it has b and what it had
  pub has_put : (key : A → List ℕ) (b : A) (l : List A) (a : A) → has (put key b l) a ≡ (same (fields b) (fields a) || has l a && true)
  has_put key b l a = put_any key (λ c. same (fields a) (fields c)) b l ∙ ap₂ ◌||◌ swapped (sym (and-true (has l a)))
    where
      swap : (c d : List ℕ) → same c d ≡ true → same d c ≡ true
      swap c d e = equal_same d c (sym (same_equal c d e))

      swapped : same (fields a) (fields b) ≡ same (fields b) (fields a)
      swapped = same_truth (same (fields a) (fields b)) (same (fields b) (fields a)) (swap (fields a) (fields b)) (swap (fields b) (fields a))

  -- the records with the same fields as a have one key
  pub one_record : (a : A) → OneKey fields (λ b. same (fields a) (fields b))
  one_record a b c h k = sym (same_equal (fields a) (fields b) h) ∙ same_equal (fields a) (fields c) k

-- Where the fields tell the record.
module _ {A : Type 0} (fields : A → List ℕ) (told : (a b : A) → fields a ≡ fields b → a ≡ b) where
  -- left with just those that pass a test, it has what it had and passes it
  pub has_left : (f : A → Bool) (m l : List A) → ((b : A) → In b m → In b l) → ((b : A) → In b m → f b ≡ true) → ((b : A) → In b l → f b ≡ true → In b m)
      → (a : A) → has fields m a ≡ (has fields l a && f a)
  has_left f m l sub pass stay a = same_truth (has fields m a) (has fields l a && f a) forth back
    where
      is : A → Bool
      is b = same (fields a) (fields b)

      alike : (b : A) → is b ≡ true → f a ≡ f b
      alike b e = ap f (told a b (same_equal (fields a) (fields b) e))

      forth : has fields m a ≡ true → (has fields l a && f a) ≡ true
      forth e =
          let k = any_found is m e in
          and_join (has fields l a) (f a) (any_in is (sub k.it k.there) k.is) (alike k.it k.is ∙ pass k.it k.there)

      back : (has fields l a && f a) ≡ true → has fields m a ≡ true
      back e =
          let c = and_cut (has fields l a) (f a) e in
          let k = any_found is l c.0 in
          any_in is (stay k.it k.there (sym (alike k.it k.is) ∙ c.1)) k.is

  -- without the one that passes a test, it has what it had but that
  pub has_less : (key : A → List ℕ) (f : A → Bool) (l : List A) → OneKey key f → rising key l ≡ true → (a : A) → has fields (less_first f l) a ≡ (has fields l a && not (f a))
  has_less key f l u r =
      has_left (λ b. not (f b)) (less_first f l) l (λ b i. less_in f l i) (λ b i. ap not (less_fails key f l u r i)) (λ b i e. in_less f i (not-true (f b) e))

  -- those that pass a test are what it had and passes it
  pub has_those : (f : A → Bool) (l : List A) (a : A) → has fields (those f l) a ≡ (has fields l a && f a)
  has_those f l = has_left f (those f l) l (λ b i. those_in f l i) (λ b i. those_pass f l i) (λ b i e. in_those f i e)

-- a group that a command leaves as it is
untouched : (b : Bool) → b ≡ (b && true)
untouched b = sym (and-true b)

-- the assignment of x to y is one record
one_pair : (x y : ℕ) → OneKey assignment_fields (is_pair x y)
one_pair x y a b h k = one_record assignment_fields (record { child = x; container = y }) a b (pair_same x y a ∙ h) (pair_same x y b ∙ k)

-- After a command the policy holds what the command puts, and what it held but what the command removes.
pub step_holds : (p : Policy) → Sound p → (c : Command) (i : Item) → holds (after p c) i ≡ (puts c i || holds p i && not (removes c i))
unfolding holds after puts removes is_item item_fields is_element_or_own is_process_item same
step_holds p s (create_class x) (an_element e) = has_put element_fields element_key (record { id = x; kind = class }) p.elements e
step_holds p s (create_class x) (an_assignment a) = untouched _
step_holds p s (create_class x) (an_association a) = untouched _
step_holds p s (create_class x) (a_prohibition b) = untouched _
step_holds p s (create_class x) (a_process q) = untouched _
step_holds p s (create_element x k y) (an_element e) = has_put element_fields element_key (record { id = x; kind = k }) p.elements e
    ∙ ap (λ t. t || holds p (an_element e) && true) (sym (or-false (same (x ∷ k ∷ []) (element_fields e))))
step_holds p s (create_element x k y) (an_assignment a) = has_put assignment_fields assignment_fields (record { child = x; container = y }) p.assignments a
step_holds p s (create_element x k y) (an_association a) = untouched _
step_holds p s (create_element x k y) (a_prohibition b) = untouched _
step_holds p s (create_element x k y) (a_process q) = untouched _
step_holds p s (assign x y) (an_element e) = untouched _
step_holds p s (assign x y) (an_assignment a) = has_put assignment_fields assignment_fields (record { child = x; container = y }) p.assignments a
step_holds p s (assign x y) (an_association a) = untouched _
step_holds p s (assign x y) (a_prohibition b) = untouched _
step_holds p s (assign x y) (a_process q) = untouched _
step_holds p s (deassign x y) (an_element e) = untouched _
step_holds p s (deassign x y) (an_assignment a) = has_less assignment_fields assignment_fields_lem assignment_fields (is_pair x y) p.assignments (one_pair x y) (parts p s).rest.assignments.order a
    ∙ ap (λ t. holds p (an_assignment a) && not t) (sym (pair_same x y a))
step_holds p s (deassign x y) (an_association a) = untouched _
step_holds p s (deassign x y) (a_prohibition b) = untouched _
step_holds p s (deassign x y) (a_process q) = untouched _
step_holds p s (delete_element x) (an_element e) = has_less element_fields element_fields_lem element_key (λ f. eqb x f.id) p.elements (one_id kinds x) (parts p s).elements.order e
step_holds p s (delete_element x) (an_assignment a) = has_those assignment_fields assignment_fields_lem (λ b. not (eqb x b.child)) p.assignments a
step_holds p s (delete_element x) (an_association a) = untouched _
step_holds p s (delete_element x) (a_prohibition b) = untouched _
step_holds p s (delete_element x) (a_process q) = untouched _
step_holds p s (create_association n) (an_element e) = untouched _
step_holds p s (create_association n) (an_assignment a) = untouched _
step_holds p s (create_association n) (an_association a) = has_put association_fields association_fields n p.associations a
step_holds p s (create_association n) (a_prohibition b) = untouched _
step_holds p s (create_association n) (a_process q) = untouched _
step_holds p s (delete_association n) (an_element e) = untouched _
step_holds p s (delete_association n) (an_assignment a) = untouched _
step_holds p s (delete_association n) (an_association a) = has_less association_fields association_fields_lem association_fields (λ b. same (association_fields n) (association_fields b)) p.associations
    (one_record association_fields n) (parts p s).rest.associations.order a
step_holds p s (delete_association n) (a_prohibition b) = untouched _
step_holds p s (delete_association n) (a_process q) = untouched _
step_holds p s (create_prohibition n) (an_element e) = untouched _
step_holds p s (create_prohibition n) (an_assignment a) = untouched _
step_holds p s (create_prohibition n) (an_association a) = untouched _
step_holds p s (create_prohibition n) (a_prohibition b) = has_put prohibition_fields prohibition_fields n p.prohibitions b
step_holds p s (create_prohibition n) (a_process q) = untouched _
step_holds p s (delete_prohibition n) (an_element e) = untouched _
step_holds p s (delete_prohibition n) (an_assignment a) = untouched _
step_holds p s (delete_prohibition n) (an_association a) = untouched _
step_holds p s (delete_prohibition n) (a_prohibition b) = has_less prohibition_fields prohibition_fields_lem prohibition_fields (λ c. same (prohibition_fields n) (prohibition_fields c)) p.prohibitions
    (one_record prohibition_fields n) (parts p s).rest.prohibitions.order b
step_holds p s (delete_prohibition n) (a_process q) = untouched _
step_holds p s (start_process n u) (an_element e) = untouched _
step_holds p s (start_process n u) (an_assignment a) = untouched _
step_holds p s (start_process n u) (an_association a) = untouched _
step_holds p s (start_process n u) (a_prohibition b) = untouched _
step_holds p s (start_process n u) (a_process q) = has_put process_fields process_key (record { id = n; owner = u }) p.processes q
step_holds p s (end_process n) (an_element e) = untouched _
step_holds p s (end_process n) (an_assignment a) = untouched _
step_holds p s (end_process n) (an_association a) = untouched _
step_holds p s (end_process n) (a_prohibition b) = untouched _
step_holds p s (end_process n) (a_process q) = has_less process_fields process_fields_lem process_key (λ r. eqb n r.id) p.processes (one_id owners n) (parts p s).rest.processes.order q

-- After any sequence of commands the policy holds exactly what was put and not since removed.
pub holds_exactly : (p : Policy) → Sound p → (cs : List Command) → all_of fits cs ≡ true → (i : Item) → holds (run p cs) i ≡ stands (holds p) (accepted_of p cs) i
unfolding run accepted_of stands step all_of
holds_exactly p s [] f i = refl
holds_exactly p s (c ∷ cs) f i =
    holds_exactly (step p c) (step_sound p s c (and_left (fits c) (all_of fits cs) f)) cs (and_right (fits c) (all_of fits cs) f) i
    ∙ go (eqb (command_refusal p c) 0) (accepted_of (step p c) cs)
  where
    go : (t : Bool) (log : List Command) → stands (holds (cond t (after p c) p)) log i ≡ stands (holds p) (cond t (c ∷ log) log) i
    go true log = ap (λ h. stands h log i) (fun_ext (step_holds p s c))
    go false log = refl
