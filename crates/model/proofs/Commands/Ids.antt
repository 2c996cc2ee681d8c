-- What is looked up by id: the kind of an element, the user of a process; and what a command's change of the group does to it.
-- Assumes nothing.
use mathlib.Core.Path.{◌≡◌, refl, sym, ap, ◌∙◌}
use mathlib.Core.Bool.{Bool, true, false, cond}
use mathlib.Core.List.{List, [], ◌∷◌}
use mathlib.Core.Logic.{◌↔◌}
use Prim.Native.Nat.{ℕ}
use borrow.Author.Tests.{eqb-true, eqb-false, eq-eqb, ne_eqb}
use lib.Dec.{eqb}
use lib.ListN.{get_or}
use Rattle.model.specs.Lists.{In, first, later, less_first, before, same, rising, put}
use Rattle.model.specs.Policy.{Element, Process, element_key, kind_in, owner_in}
use Rattle.model.proofs.Truth.{clash, Found}
use Rattle.model.proofs.Chains.{known}
use Rattle.model.proofs.Order.{before_self, other_same}
use Rattle.model.proofs.Groups.{put_itself, rising_first, rising_rest, less_fails}

-- g reads the value of the record with a given id, the first in the group; 0 where there is none
pub record Reads {A : Type 0} (id value : A → ℕ) (g : List A → ℕ → ℕ) : Type 0 where
  pub none : (x : ℕ) → g [] x ≡ 0
  pub more : (a : A) (l : List A) (x : ℕ) → g (a ∷ l) x ≡ cond (eqb (id a) x) (value a) (g l x)

-- the kinds of elements are read so
pub kinds : Reads (λ (e : Element). e.id) (λ e. e.kind) kind_in
unfolding kind_in
kinds = record { none = λ x. refl; more = λ e l x. refl }

-- the users of processes are read so
pub owners : Reads (λ (q : Process). q.id) (λ q. q.owner) owner_in
unfolding owner_in
owners = record { none = λ x. refl; more = λ q l x. refl }

module _ {A : Type 0} {id value : A → ℕ} {g : List A → ℕ → ℕ} (r : Reads id value g) where
  -- the groups rise by id alone
  abbrev pub by_id : A → List ℕ
  by_id a = id a ∷ []

  -- another id is read past
  pub read_past : (a : A) (l : List A) (x : ℕ) → (id a ≡ x → ⊥) → g (a ∷ l) x ≡ g l x
  read_past a l x d = r.more a l x ∙ ap (λ t. cond t (value a) (g l x)) (ne_eqb (id a) x d)

  -- the id itself is read
  pub read_here : (a : A) (l : List A) → g (a ∷ l) (id a) ≡ value a
  read_here a l = r.more a l (id a) ∙ ap (λ t. cond t (value a) (g l (id a))) (eq-eqb (id a) (id a) refl)

  -- the first of a strictly rising group has another id than each other
  pub other_id : {b : A} (a : A) (l : List A) → rising by_id (a ∷ l) ≡ true → In b l → id a ≡ id b → ⊥
  other_id {b} a l e i q =
      let h : before (by_id b) (by_id b) ≡ true = rw q at (rising_first by_id a l e i) in
      clash h (before_self (by_id b))

  -- a strictly rising group reads the value of each of its records
  pub read_in : {a : A} {l : List A} → rising by_id l ≡ true → In a l → g l (id a) ≡ value a
  read_in {a} {l = b ∷ l} e first = read_here a l
  read_in {a} {l = b ∷ l} e (later i) = read_past b l (id a) (other_id b l e i) ∙ read_in (rising_rest by_id b l e) i
  read_in {a = a} {l = []} e never = elim never [ ]

  -- what no record has for its id reads 0
  pub read_none : (l : List A) (x : ℕ) → ((a : A) → In a l → id a ≡ x → ⊥) → g l x ≡ 0
  read_none [] x h = r.none x
  read_none (a ∷ l) x h = read_past a l x (h a first) ∙ read_none l x (λ b i. h b (later i))

  -- and the other way, where no value is 0
  pub none_read : {a : A} {l : List A} (x : ℕ) → rising by_id l ≡ true → ((b : A) → In b l → value b ≡ 0 → ⊥) → g l x ≡ 0 → In a l → id a ≡ x → ⊥
  none_read {a} {l} x e full z i q =
      let v : g l x ≡ value a = rw q at (read_in e i) in
      full a i (sym v ∙ z)

  -- so an id that reads 0 is another key than each
  pub new_id : (b : A) (l : List A) → rising by_id l ≡ true → ((a : A) → In a l → value a ≡ 0 → ⊥) → g l (id b) ≡ 0 → (a : A) → In a l → same (by_id b) (by_id a) ≡ false
  new_id b l e full z a i = other_same (by_id b) (by_id a) (λ q. none_read (id b) e full z i (ap (λ k. get_or k 0 0) (sym q)))

  -- A new record changes the reading of no other id,
  pub put_others : (b : A) (l : List A) (x : ℕ) → (id b ≡ x → ⊥) → g (put by_id b l) x ≡ g l x
  unfolding put
  put_others b [] x d = read_past b [] x d
  put_others b (c ∷ l) x d = go (before (by_id b) (by_id c)) (put_others b l x d)
    where
      go : (t : Bool) → g (put by_id b l) x ≡ g l x → g (cond t (b ∷ c ∷ l) (c ∷ put by_id b l)) x ≡ g (c ∷ l) x
      go true e = read_past b (c ∷ l) x d
      go false e = r.more c (put by_id b l) x ∙ ap (cond (eqb (id c) x) (value c)) e ∙ sym (r.more c l x)

  -- and is read itself.
  pub put_read : (b : A) (l : List A) → rising by_id (put by_id b l) ≡ true → g (put by_id b l) (id b) ≡ value b
  put_read b l e = read_in e (put_itself by_id b l)

  -- The record with the id y taken out changes the reading of no other id,
  pub less_others : (y : ℕ) (l : List A) (x : ℕ) → (y ≡ x → ⊥) → g (less_first (λ a. eqb y (id a)) l) x ≡ g l x
  unfolding less_first
  less_others y [] x d = refl
  less_others y (c ∷ l) x d = go (eqb y (id c)) refl (less_others y l x d)
    where
      go : (t : Bool) → eqb y (id c) ≡ t → g (less_first (λ a. eqb y (id a)) l) x ≡ g l x
          → g (cond t l (c ∷ less_first (λ a. eqb y (id a)) l)) x ≡ g (c ∷ l) x
      go true h e = sym (read_past c l x (λ q. d (eqb-true y (id c) h ∙ q)))
      go false h e = r.more c (less_first (λ a. eqb y (id a)) l) x ∙ ap (cond (eqb (id c) x) (value c)) e ∙ sym (r.more c l x)

  -- one id is one key
  pub one_id : (y : ℕ) (a b : A) → eqb y (id a) ≡ true → eqb y (id b) ≡ true → by_id a ≡ by_id b
  one_id y a b h k =
      let p : y ≡ id a = eqb-true y (id a) h in
      let q : y ≡ id b = eqb-true y (id b) k in
      cc

  -- and is read no more.
  pub less_read : (y : ℕ) (l : List A) → rising by_id l ≡ true → g (less_first (λ a. eqb y (id a)) l) y ≡ 0
  less_read y l e =
      read_none (less_first (λ a. eqb y (id a)) l) y
      (λ a i q. eqb-false y (id a) (less_fails by_id (λ b. eqb y (id b)) l (one_id y) e i) (sym q))

-- an element is there exactly if some record of the group has its id
pub there_some : (l : List Element) (x : ℕ) → rising element_key l ≡ true → ((e : Element) → In e l → e.kind ≡ 0 → ⊥)
    → (kind_in l x ≡ 0 → ⊥) ↔ Found (λ e. eqb e.id x) l
there_some l x r full = (
  λ d. let k = known l x d in record { it = k.it; there = k.there; is = eq-eqb k.it.id x k.is },
  λ f z. none_read kinds x r full z f.there (eqb-true f.it.id x f.is),
)
