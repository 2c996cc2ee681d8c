-- The indexed decision over the index of a sound policy is the plain decision.
-- Assumes nothing.
use mathlib.Core.Path.{◌≡◌, refl, ◌∙◌}
use mathlib.Core.Bool.{Bool, true, false, not, cond}
use mathlib.Core.List.{List, [], ◌∷◌}
use Prim.Native.Nat.{ℕ}
use borrow.Author.Tests.{eqb-true, eqb-false, not-true, not-false, ne_eqb}
use lib.Dec.{eqb}
use lib.ListN.{length, take}
use Rattle.model.specs.Lists.{In, first, later}
use Rattle.model.specs.Policy.{Element, Process, Policy, class, kind_of, is_there, owner_in, user_of, is_process}
use Rattle.model.specs.Contain.{contained}
use Rattle.model.specs.Rule.{classes}
use Rattle.model.specs.Sound.{Sound}
use Rattle.model.specs.Refusal.{None, past}
use Rattle.model.specs.Request.{Kinds, Request, arguments_of, kinds_of, absent_arguments, absent, request_lines, decision, indexed_decision}
use Rattle.model.specs.Explain.{rows}
use Rattle.model.specs.Index.{index_bit, index_of, bit_at}
use Rattle.model.specs.Calls.{decide, decide_indexed}
use Rattle.model.proofs.Truth.{not_so, or_fails, none_in, each_of, those_in, those_pass, map_in}
use Rattle.model.proofs.Refusals.{answer_alike}
use Rattle.model.proofs.Indexed.{there_range, index_length, index_bit_lem}
use Rattle.model.proofs.Commands.Ids.{kinds, read_in}
use Rattle.model.proofs.Commands.Parts.{parts}
use Rattle.model.proofs.Commands.Names.{Unnamed, absent_unnamed}
use Rattle.model.proofs.Decisions.Alike.{Alike, verdict_alike, rows_alike}

-- what is read for the user of a process and owns none of them is 0
owner_none : (l : List Process) (i : ℕ) → ((r : Process) → In r l → owner_in l i ≡ r.owner → ⊥) → owner_in l i ≡ 0
unfolding owner_in
owner_none [] i h = refl
owner_none (r ∷ l) i h = go (eqb r.id i) h (owner_none l i)
  where
    go : (t : Bool) → ((s : Process) → In s (r ∷ l) → cond t r.owner (owner_in l i) ≡ s.owner → ⊥)
        → (((s : Process) → In s l → owner_in l i ≡ s.owner → ⊥) → owner_in l i ≡ 0) → cond t r.owner (owner_in l i) ≡ 0
    go true h k = absurd (h r first refl)
    go false h k = k (λ s j. h s (later j))

-- where no named argument is absent, each argument that is used is there
used_there : (p : Policy) (ks : List Kinds) (es : List ℕ) → absent_arguments p ks es ≡ false → (e : ℕ) → In e (take (length ks) es) → is_there p e ≡ true
unfolding absent_arguments
used_there p [] es h = λ e i. absurd (none_in i)
used_there p (k ∷ ks) [] h = λ e i. absurd (none_in i)
used_there p (k ∷ ks) (x ∷ es) h =
    let d = or_fails (not (is_there p x)) (absent_arguments p ks es) h in
    each_of (λ e. is_there p e ≡ true) (not-false (is_there p x) d.0) (used_there p ks es d.1)

module _ (p : Policy) (s : Sound p) where
  -- of two elements that are there the index says what the plain containment says
  pub bits_as_contained : (x y : ℕ) → is_there p x ≡ true → is_there p y ≡ true → bit_at (index_of p) x y ≡ contained p x y
  unfolding index_bit
  bits_as_contained x y hx hy = index_bit_lem p x y (there_range p s x hx).1 (there_range p s y hy).1 ∙ (rw (hx, hy))

  -- what a sound policy names is there
  named_there : (x : ℕ) → (Unnamed p x → ⊥) → is_there p x ≡ true
  unfolding is_there
  named_there x h = not_so _ (ne_eqb (kind_of p x) 0 (λ z. h (absent_unnamed p x (parts p s).rest z)))

  -- so is each class
  class_there : (c : ℕ) → In c (classes p) → is_there p c ≡ true
  unfolding classes is_there kind_of
  class_there c i =
      let m = map_in (λ (e : Element). e.id) _ i in
      let k = read_in kinds (parts p s).elements.order (those_in _ _ m.there) in
      let t = eqb-true m.from.kind class (those_pass _ _ m.there) in
      rw (← m.is, k, t)

  -- and the user of each process
  user_there : (i : ℕ) → is_process p i ≡ true → is_there p (user_of p i) ≡ true
  unfolding is_process user_of
  user_there i h = named_there (user_of p i) (λ n. eqb-false (user_of p i) 0 (not-true _ h) (owner_none p.processes i n.owner))

  -- the index and the plain containment say the same wherever the rule looks for a request that names nothing absent
  pub index_alike : (q : Request) → absent p q ≡ false → Alike (bit_at (index_of p)) (contained p) p q
  unfolding absent
  index_alike q h e i =
      let d = or_fails (not (is_process p q.process)) (absent_arguments p (kinds_of q) (arguments_of q)) h in
      let user = user_there q.process (not-false _ d.0) in
      let used = used_there p (kinds_of q) (arguments_of q) d.1 e i in
      record {
        attributes = λ a j. bits_as_contained _ _ user (named_there a.attribute (λ n. n.attribute a j refl));
        subjects = λ b j t. bits_as_contained _ _ user (named_there b.subject (λ n. (n.prohibition b j).subject (rw t) refl));
        of_class = λ c j. bits_as_contained _ _ used (class_there c j);
        of_target = λ a j. bits_as_contained _ _ used (named_there a.target (λ n. n.target a j refl));
        of_listed = λ b j y k. bits_as_contained _ _ used (named_there y (λ n. (n.prohibition b j).lists y k refl));
        target_class = λ a j c k. bits_as_contained _ _ (named_there a.target (λ n. n.target a j refl)) (class_there c k);
      }

-- a request that is not refused names nothing absent
none_absent : (p : Policy) (q : Request) → None (request_lines true p q) → absent p q ≡ false
none_absent p q (past a (past b (past c d))) = c

module _ (p : Policy) (s : Sound p) (q : Request) where
  -- for every request, in and out of range, the indexed decision over the policy's index answers as the plain decision does
  pub indexed_as_plain : decide_indexed (record { holds_table = true; policy = p }) (index_of p) q ≡ decide (record { holds_table = true; policy = p }) q
  unfolding decide_indexed decide indexed_decision decision
  indexed_as_plain =
      rw (index_length p) (answer_alike (request_lines true p q) (λ n. verdict_alike q (index_alike p s q (none_absent p q n))))

  -- and where the request is not refused, the same rows explain it
  pub rows_indexed : None (request_lines true p q) → rows (bit_at (index_of p)) p q ≡ rows (contained p) p q
  rows_indexed n = rows_alike q (index_alike p s q (none_absent p q n))
