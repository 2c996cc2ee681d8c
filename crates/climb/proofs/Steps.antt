-- The climb: a step, and its end, where the marks are those of all that something marked before is within.
-- Assumes nothing.
use mathlib.Core.Path.{◌≡◌, sym, subst}
use mathlib.Core.List.{List}
use mathlib.Core.Logic.{◌⊎◌, inl, inr}
use Prim.Native.Nat.{ℕ, ◌+◌, ◌≤◌, ◌<◌}
use native.Mathlib.Omega.{arith}
use native.Mathlib.Decide.{dec_lt}
use lib.ListN.{get_or}
use Rattle.model.specs.Contain.{Within, itself, above}
use Rattle.model.proofs.Contained.{within_trans}
use Rattle.table.specs.View.{policy_of}
use Rattle.climb.specs.Queued.{Container, Marked, Grown, Front, Closed, FromMarked, Climbed}
use Rattle.climb.proofs.Containers.{container_assigned, assigned_container}
use Rattle.climb.proofs.Queue.{marked_small, grown_split}

-- closed marks hold all that a marked element is within
pub closed_all : {mem seen queue : List ℕ} {tail : ℕ} → Closed mem seen queue tail → {x y : ℕ} → Marked seen x → Within (policy_of mem).assignments x y → Marked seen y
closed_all c m itself = m
closed_all {mem} c {x} m (above {y = y} a w) = closed_all c (c.closed x y (marked_small c.good x m) m (assigned_container mem a)) w

module _ {mem seen queue : List ℕ} {head tail : ℕ} (f : Front mem seen queue head tail) where
  -- an element that is taken from the queue is below 512
  pub head_small : head < tail → get_or queue head 0 < 512
  head_small h = marked_small f.good (get_or queue head 0) (f.good.marked head h)

  -- where the queue has no next element, each container of a marked element is marked
  front_closed : tail ≤ head → Closed mem seen queue tail
  front_closed h = record {
    good = f.good;
    closed = λ x y l m e. let a = f.good.listed x l m in f.closed a.at (omega arith) y (subst (λ (z : ℕ). Container mem z y) (sym a.is) e);
  }

  -- and the climb is over
  pub climb_done : tail ≤ head → Climbed mem seen seen queue tail
  climb_done h = record {
    still = front_closed h;
    all = λ x y m w. closed_all (front_closed h) m w;
    only = λ y m. record { start = y; marked = m; leads = itself };
  }

  -- a step: the containers of the next element were offered
  module _ (h : head < tail) {seen' queue' : List ℕ} {tail' : ℕ} (g : Grown (Container mem (get_or queue head 0)) seen queue tail seen' queue' tail') where
    -- the climb goes on from the next element
    pub front_next : Front mem seen' queue' (head + 1) tail'
    front_next = record {
      good = g.good;
      order = omega arith;
      closed = λ k l y e. elim (dec_lt k head) [
        | yes b ↦ g.still y (f.closed k b y (rw (g.kept k (omega arith)) at e))
        | no b ↦ let same : k ≡ head = omega arith in g.all y (rw (g.kept k (omega arith), same) at e)
      ];
    }

    -- what is offered is what a marked element is within
    from_offered : (y : ℕ) → Marked seen y ⊎ Container mem (get_or queue head 0) y → FromMarked mem seen y
    from_offered y (inl m) = record { start = y; marked = m; leads = itself }
    from_offered y (inr c) = record { start = get_or queue head 0; marked = f.good.marked head h; leads = above (container_assigned c) itself }

    -- so what is marked from there is what was to be marked
    pub climb_back : {seen'' queue'' : List ℕ} {tail'' : ℕ} → Climbed mem seen' seen'' queue'' tail'' → Climbed mem seen seen'' queue'' tail''
    climb_back c = record {
      still = c.still;
      all = λ x y m w. c.all x y (g.still x m) w;
      only = λ y m.
          let a = c.only y m in
          let b = from_offered a.start (grown_split f.good g a.start a.marked) in
          record { start = b.start; marked = b.marked; leads = within_trans b.leads a.leads };
    }
